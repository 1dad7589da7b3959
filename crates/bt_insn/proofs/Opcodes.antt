-- Each legal opcode has a form whose other fields are 0, but for the 16 of a byte swap.
use Rattle.std.proofs.Common.{◌≡◌, ℕ, true, false, Option, Some, None, refl, ap, subst, ◌∙◌, arith}
use Rattle.std.specs.Prelude.{ℤ, pos, IfSome, is_some}
use Rattle.bt_insn.specs.Grammar.{IsOpcode}
use Rattle.bt_insn.specs.declared.fields.Fields.{Fields}
use Rattle.bt_insn.specs.declared.register.Register.TheVariants.{R0}
use Rattle.bt_insn.specs.declared.operand.Width.{Width}
use Rattle.bt_insn.specs.declared.operand.Width.TheVariants as width
use Rattle.bt_insn.specs.declared.operand.Operand.{Operand}
use Rattle.bt_insn.specs.declared.operand.Operand.TheVariants as operand
use Rattle.bt_insn.specs.declared.alu.AluOp.{AluOp}
use Rattle.bt_insn.specs.declared.alu.AluOp.TheVariants as alu
use Rattle.bt_insn.specs.declared.alu.SignExtension.TheVariants.{ByteToWord, HalfToWord, ByteToDoubleWord, HalfToDoubleWord, WordToDoubleWord}
use Rattle.bt_insn.specs.declared.alu.SwapSize.TheVariants as swap
use Rattle.bt_insn.specs.declared.jump.Distance.TheVariants.{Short, Long}
use Rattle.bt_insn.specs.declared.load_store.AtomicOp.TheVariants as atomic
use Rattle.bt_insn.specs.declared.insn.Insn.{Insn}
use Rattle.bt_insn.specs.declared.insn.Insn.TheVariants.{Alu, Neg, MoveSigned, ByteSwap, Jump, JumpIf, Call, Exit, LoadImmediate, LoadMap, Load, LoadSigned, Store, Atomic}
use Rattle.bt_insn.specs.Operand.{source_bit, source_number, source_immediate}
use Rattle.bt_insn.specs.Classes.{alu_class}
use Rattle.bt_insn.specs.Alu.{alu_code, alu_offset}
use Rattle.bt_insn.specs.Opcode.{operation}
use Rattle.bt_insn.specs.Table.{Spells, Fits, FitsOperand, fields, fields_of, high_of}
use Rattle.bt_insn.proofs.Forms.{zero_offset, zero_immediate}

-- a form with this opcode whose other fields are 0, or whose immediate is 16
pub data HasBlank (opcode : ℕ) : Type 0 where
  zero_form : (w : Insn) → Fits w → Spells w (fields opcode 0 0 (pos 0) (pos 0)) (pos 0) → HasBlank opcode
  swap_form : (w : Insn) → Fits w → Spells w (fields opcode 0 0 (pos 0) (pos 16)) (pos 0) → HasBlank opcode

spells : (w : Insn) (f : Fields) → fields_of w ≡ f → high_of w ≡ pos 0 → Spells w f (pos 0)
spells w f e high = record {
  opcode_is = ap (λ (g : Fields). g.opcode) e;
  dst_is = ap (λ (g : Fields). g.dst) e;
  src_is = ap (λ (g : Fields). g.src) e;
  offset_is = ap (λ (g : Fields). g.offset) e;
  immediate_is = ap (λ (g : Fields). g.immediate) e;
  high_is = high;
}

zeroed : (opcode : ℕ) (w : Insn) → Fits w → fields_of w ≡ fields opcode 0 0 (pos 0) (pos 0)
    → high_of w ≡ pos 0 → HasBlank opcode
zeroed opcode w fits e high = zero_form w fits (spells w (fields opcode 0 0 (pos 0) (pos 0)) e high)

-- an operation with the same code and offset 0
same_code : (op : AluOp) → (x : AluOp) × (alu_code x ≡ alu_code op) × (alu_offset x ≡ pos 0)
same_code alu.Sdiv = (alu.Div, refl, refl)
same_code alu.Smod = (alu.Mod, refl, refl)
same_code op = (op, refl, refl)

alu_blank : (w : Width) (op : AluOp) (o : Operand) → source_number o ≡ 0 → source_immediate o ≡ pos 0
    → FitsOperand o → HasBlank (operation (alu_code op) (source_bit o) (alu_class w))
alu_blank w op o number immediate fits =
    let x = same_code op in
    zeroed _ (Alu w x.0 R0 o) fits
    (ap (λ (c : ℕ). fields (operation c (source_bit o) (alu_class w)) 0 (source_number o) (alu_offset x.0) (source_immediate o)) x.1
    ∙ ap (λ (n : ℕ). fields (operation (alu_code op) (source_bit o) (alu_class w)) 0 n (alu_offset x.0) (source_immediate o)) number
    ∙ ap (λ (z : ℤ). fields (operation (alu_code op) (source_bit o) (alu_class w)) 0 0 z (source_immediate o)) x.2
    ∙ ap (λ (z : ℤ). fields (operation (alu_code op) (source_bit o) (alu_class w)) 0 0 (pos 0) z) immediate)
    refl

pub has_blank : (v : Insn) → HasBlank (fields_of v).opcode
has_blank (Alu w op d (operand.Immediate n)) = alu_blank w op (operand.Immediate (pos 0)) refl refl zero_immediate
has_blank (Alu w op d (operand.Register r)) = alu_blank w op (operand.Register R0) refl refl tt
has_blank (Neg w d) = zeroed _ (Neg w R0) tt refl refl
has_blank (MoveSigned ByteToWord d s) = zeroed _ (Alu width.Word alu.Mov R0 (operand.Register R0)) tt refl refl
has_blank (MoveSigned HalfToWord d s) = zeroed _ (Alu width.Word alu.Mov R0 (operand.Register R0)) tt refl refl
has_blank (MoveSigned ByteToDoubleWord d s) = zeroed _ (Alu width.DoubleWord alu.Mov R0 (operand.Register R0)) tt refl refl
has_blank (MoveSigned HalfToDoubleWord d s) = zeroed _ (Alu width.DoubleWord alu.Mov R0 (operand.Register R0)) tt refl refl
has_blank (MoveSigned WordToDoubleWord d s) = zeroed _ (Alu width.DoubleWord alu.Mov R0 (operand.Register R0)) tt refl refl
has_blank (ByteSwap o s d) = swap_form (ByteSwap o swap.Half R0) tt (spells (ByteSwap o swap.Half R0) (fields_of (ByteSwap o swap.Half R0)) refl refl)
has_blank (Jump (Short offset)) = zeroed _ (Jump (Short (pos 0))) zero_offset refl refl
has_blank (Jump (Long immediate)) = zeroed _ (Jump (Long (pos 0))) zero_immediate refl refl
has_blank (JumpIf w c d (operand.Immediate n) offset) = zeroed _ (JumpIf w c R0 (operand.Immediate (pos 0)) (pos 0)) (zero_offset, zero_immediate) refl refl
has_blank (JumpIf w c d (operand.Register r) offset) = zeroed _ (JumpIf w c R0 (operand.Register R0) (pos 0)) (zero_offset, tt) refl refl
has_blank (Call helper) = zeroed _ (Call (pos 0)) zero_immediate refl refl
has_blank Exit = zeroed _ Exit tt refl refl
has_blank (LoadImmediate d n) = zeroed _ (LoadImmediate R0 0) (omega arith) refl refl
has_blank (LoadMap d n) = zeroed _ (LoadImmediate R0 0) (omega arith) refl refl
has_blank (Load s d r offset) = zeroed _ (Load s R0 R0 (pos 0)) zero_offset refl refl
has_blank (LoadSigned s d r offset) = zeroed _ (LoadSigned s R0 R0 (pos 0)) zero_offset refl refl
has_blank (Store s d (operand.Immediate n) offset) = zeroed _ (Store s R0 (operand.Immediate (pos 0)) (pos 0)) (zero_offset, zero_immediate) refl refl
has_blank (Store s d (operand.Register r) offset) = zeroed _ (Store s R0 (operand.Register R0) (pos 0)) (zero_offset, tt) refl refl
has_blank (Atomic w op d s offset) = zeroed _ (Atomic w atomic.Add R0 R0 (pos 0)) zero_offset refl refl

abbrev blank : ℕ → ℤ → Fields
blank opcode immediate = fields opcode 0 0 (pos 0) immediate

-- what is found by an opcode shows that it is one
pub opcode_found : (opcode : ℕ) (immediate : ℤ) (r : Option Insn)
    → IfSome r (λ v. Spells v (blank opcode immediate) (pos 0)) → is_some r ≡ true → IsOpcode opcode
opcode_found opcode immediate (Some v) found e = (v, found.opcode_is)
opcode_found opcode immediate None found e = absurd cc

one_is_some : (opcode : ℕ) (r s : Option Insn) → HasBlank opcode
    → ((v : Insn) → Fits v → Spells v (blank opcode (pos 0)) (pos 0) → r ≡ Some v) → ((v : Insn) → Fits v → Spells v (blank opcode (pos 16)) (pos 0) → s ≡ Some v)
    → is_some r ≡ false → is_some s ≡ true
one_is_some opcode r s (zero_form w fits spells) zeros swaps none = let e = zeros w fits spells in absurd cc
one_is_some opcode r s (swap_form w fits spells) zeros swaps none = ap is_some (swaps w fits spells)

-- an opcode that is one is found
pub opcode_is_found : (opcode : ℕ) (r s : Option Insn) → IsOpcode opcode
    → ((v : Insn) → Fits v → Spells v (blank opcode (pos 0)) (pos 0) → r ≡ Some v) → ((v : Insn) → Fits v → Spells v (blank opcode (pos 16)) (pos 0) → s ≡ Some v)
    → is_some r ≡ false → is_some s ≡ true
opcode_is_found opcode r s (v, e) = one_is_some opcode r s (subst HasBlank e (has_blank v))
