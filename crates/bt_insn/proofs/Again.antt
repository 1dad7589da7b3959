-- The fields of an instruction are read as that instruction.
use Rattle.std.proofs.Common.{◌≡◌, ◌≢◌, ℕ, ◌+◌, ◌*◌, ◌/◌, ◌%◌, ◌^◌, ◌<◌, Bool, true, false, eqb, ◌&&◌, not, Some, refl, sym, ap, ◌∙◌, arith}
use Rattle.std.specs.Prelude.{ℤ, pos}
use Rattle.std.specs.Ordering.{int_eq}
use Rattle.std.specs.Int.{w32, cast_signed, cast_unsigned}
use Rattle.std.proofs.lemmas.Int.{of_z-to_z}
use Rattle.std.proofs.lemmas.Bool.Decides.{nat_tests}
use Rattle.bt_insn.specs.declared.fields.Fields.{Fields}
use Rattle.bt_insn.specs.declared.register.Register.{Register}
use Rattle.bt_insn.specs.declared.register.Register.TheVariants.{R0, R1, R2, R3, R4, R5, R6, R7, R8, R9, R10}
use Rattle.bt_insn.specs.declared.operand.Width.{Width}
use Rattle.bt_insn.specs.declared.operand.Width.TheVariants as width
use Rattle.bt_insn.specs.declared.operand.Operand.{Operand}
use Rattle.bt_insn.specs.declared.operand.Operand.TheVariants as operand
use Rattle.bt_insn.specs.declared.alu.AluOp.{AluOp}
use Rattle.bt_insn.specs.declared.alu.AluOp.TheVariants as alu
use Rattle.bt_insn.specs.declared.alu.SignExtension.{SignExtension}
use Rattle.bt_insn.specs.declared.alu.SignExtension.TheVariants.{ByteToWord, HalfToWord, ByteToDoubleWord, HalfToDoubleWord, WordToDoubleWord}
use Rattle.bt_insn.specs.declared.alu.ByteOrder.{ByteOrder}
use Rattle.bt_insn.specs.declared.alu.ByteOrder.TheVariants.{Little, Big, Swapped}
use Rattle.bt_insn.specs.declared.alu.SwapSize.{SwapSize}
use Rattle.bt_insn.specs.declared.alu.SwapSize.TheVariants as swap
use Rattle.bt_insn.specs.declared.jump.Condition.{Condition}
use Rattle.bt_insn.specs.declared.jump.Condition.TheVariants.{Eq, Gt, Ge, Set, Ne, Sgt, Sge, Lt, Le, Slt, Sle}
use Rattle.bt_insn.specs.declared.jump.Distance.{Distance}
use Rattle.bt_insn.specs.declared.jump.Distance.TheVariants.{Short, Long}
use Rattle.bt_insn.specs.declared.load_store.Size.{Size}
use Rattle.bt_insn.specs.declared.load_store.Size.TheVariants as size
use Rattle.bt_insn.specs.declared.load_store.SignedSize.{SignedSize}
use Rattle.bt_insn.specs.declared.load_store.SignedSize.TheVariants as signed
use Rattle.bt_insn.specs.declared.load_store.AtomicOp.{AtomicOp}
use Rattle.bt_insn.specs.declared.load_store.AtomicOp.TheVariants as atomic
use Rattle.bt_insn.specs.declared.insn.Insn.{Insn}
use Rattle.bt_insn.specs.declared.insn.Insn.TheVariants.{Alu, Neg, MoveSigned, ByteSwap, Jump, JumpIf, Call, Exit, LoadImmediate, LoadMap, Load, LoadSigned, Store, Atomic}
use Rattle.bt_insn.specs.Register.{number_of, register_of}
use Rattle.bt_insn.specs.Operand.{source_bit, source_number, source_immediate, operand_of}
use Rattle.bt_insn.specs.Classes.{alu_class, jump_class}
use Rattle.bt_insn.specs.Alu.{alu_code, alu_offset, alu_op_of, extension_of, order_of, swap_bits, swap_size_of}
use Rattle.bt_insn.specs.Jump.{condition_code, condition_of, distance_in}
use Rattle.bt_insn.specs.LoadStore.{size_of, signed_of, atomic_width_of, atomic_immediate, atomic_op_of}
use Rattle.bt_insn.specs.Opcode.{operation}
use Rattle.bt_insn.specs.Table.{Spells, Fits, fields, fields_of, high_of}
use Rattle.bt_insn.specs.Reading.{alu_insn, jump_insn, narrow_insn, insn_of}

-- ---- parts

register-again : (r : Register) → register_of (number_of r) ≡ Some r
unfolding register_of
register-again R0 = refl
register-again R1 = refl
register-again R2 = refl
register-again R3 = refl
register-again R4 = refl
register-again R5 = refl
register-again R6 = refl
register-again R7 = refl
register-again R8 = refl
register-again R9 = refl
register-again R10 = refl

operand-again : (s : Operand) → operand_of (source_bit s) (source_number s) (source_immediate s) ≡ Some s
unfolding operand_of
operand-again (operand.Immediate n) = refl
operand-again (operand.Register r) = rw register-again refl

swap-again : (s : SwapSize) → swap_size_of (swap_bits s) ≡ Some s
unfolding swap_size_of
swap-again swap.Half = refl
swap-again swap.Word = refl
swap-again swap.DoubleWord = refl

atomic-again : (op : AtomicOp) → atomic_op_of (atomic_immediate op) ≡ Some op
unfolding atomic_op_of
atomic-again atomic.Add = refl
atomic-again atomic.Or = refl
atomic-again atomic.And = refl
atomic-again atomic.Xor = refl
atomic-again atomic.FetchAdd = refl
atomic-again atomic.FetchOr = refl
atomic-again atomic.FetchAnd = refl
atomic-again atomic.FetchXor = refl
atomic-again atomic.Exchange = refl
atomic-again atomic.CompareExchange = refl

-- an arithmetic operation is found by its code and offset, which are those of no negation, byte swap or move of a sign
record IsOperation (op : AluOp) : Type 0 where
  found : alu_op_of (alu_code op) (alu_offset op) ≡ Some op
  no_neg : eqb (alu_code op) 8 ≡ false
  no_swap : eqb (alu_code op) 13 ≡ false
  no_move : (b : Bool) → (eqb (alu_code op) 11 && (b && not (int_eq (alu_offset op) (pos 0)))) ≡ false

and_false : (b : Bool) → (b && false) ≡ false
and_false true = refl
and_false false = refl

alu-again : (op : AluOp) → IsOperation op
unfolding alu_op_of
alu-again alu.Add = record { found = refl; no_neg = refl; no_swap = refl; no_move = λ b. refl }
alu-again alu.Sub = record { found = refl; no_neg = refl; no_swap = refl; no_move = λ b. refl }
alu-again alu.Mul = record { found = refl; no_neg = refl; no_swap = refl; no_move = λ b. refl }
alu-again alu.Div = record { found = refl; no_neg = refl; no_swap = refl; no_move = λ b. refl }
alu-again alu.Sdiv = record { found = refl; no_neg = refl; no_swap = refl; no_move = λ b. refl }
alu-again alu.Or = record { found = refl; no_neg = refl; no_swap = refl; no_move = λ b. refl }
alu-again alu.And = record { found = refl; no_neg = refl; no_swap = refl; no_move = λ b. refl }
alu-again alu.Lsh = record { found = refl; no_neg = refl; no_swap = refl; no_move = λ b. refl }
alu-again alu.Rsh = record { found = refl; no_neg = refl; no_swap = refl; no_move = λ b. refl }
alu-again alu.Mod = record { found = refl; no_neg = refl; no_swap = refl; no_move = λ b. refl }
alu-again alu.Smod = record { found = refl; no_neg = refl; no_swap = refl; no_move = λ b. refl }
alu-again alu.Xor = record { found = refl; no_neg = refl; no_swap = refl; no_move = λ b. refl }
alu-again alu.Mov = record { found = refl; no_neg = refl; no_swap = refl; no_move = λ b. and_false b }
alu-again alu.Arsh = record { found = refl; no_neg = refl; no_swap = refl; no_move = λ b. refl }

-- a condition is found by its code, which is that of no other jump
record IsCondition (c : Condition) : Type 0 where
  found : condition_of (condition_code c) ≡ Some c
  no_always : eqb (condition_code c) 0 ≡ false
  no_call : eqb (condition_code c) 8 ≡ false
  no_exit : eqb (condition_code c) 9 ≡ false

condition-again : (c : Condition) → IsCondition c
unfolding condition_of
condition-again Eq = record { found = refl; no_always = refl; no_call = refl; no_exit = refl }
condition-again Gt = record { found = refl; no_always = refl; no_call = refl; no_exit = refl }
condition-again Ge = record { found = refl; no_always = refl; no_call = refl; no_exit = refl }
condition-again Set = record { found = refl; no_always = refl; no_call = refl; no_exit = refl }
condition-again Ne = record { found = refl; no_always = refl; no_call = refl; no_exit = refl }
condition-again Sgt = record { found = refl; no_always = refl; no_call = refl; no_exit = refl }
condition-again Sge = record { found = refl; no_always = refl; no_call = refl; no_exit = refl }
condition-again Lt = record { found = refl; no_always = refl; no_call = refl; no_exit = refl }
condition-again Le = record { found = refl; no_always = refl; no_call = refl; no_exit = refl }
condition-again Slt = record { found = refl; no_always = refl; no_call = refl; no_exit = refl }
condition-again Sle = record { found = refl; no_always = refl; no_call = refl; no_exit = refl }

-- ---- the parts of an opcode

code-operation : (c b k : ℕ) → b < 2 → k < 8 → operation c b k / 16 ≡ c
code-operation c b k p q = omega arith

source-operation : (c b k : ℕ) → b < 2 → k < 8 → operation c b k / 8 % 2 ≡ b
source-operation c b k p q = omega arith

class-operation : (c b k : ℕ) → k < 8 → operation c b k % 8 ≡ k
class-operation c b k q = omega arith

source_below : (s : Operand) → source_bit s < 2
source_below (operand.Immediate n) = omega arith
source_below (operand.Register r) = omega arith

-- ---- classes

-- an instruction of one slot is found in its class
narrowed : (f : Fields) → f.opcode % 8 ≢ 0 → insn_of f (pos 0) ≡ narrow_insn f
unfolding insn_of
narrowed f h =
    let other : eqb f.opcode 24 ≡ false = grind (arith, nat_tests) in
    rw other refl

in_alu : (w : Width) (f : Fields) → f.opcode % 8 ≡ alu_class w → insn_of f (pos 0) ≡ alu_insn w f
unfolding narrow_insn
in_alu width.Word f h = narrowed f (λ z. omega arith) ∙ rw h refl
in_alu width.DoubleWord f h = narrowed f (λ z. omega arith) ∙ rw h refl

in_jump : (w : Width) (f : Fields) → f.opcode % 8 ≡ jump_class w → insn_of f (pos 0) ≡ jump_insn w f
unfolding narrow_insn
in_jump width.Word f h = narrowed f (λ z. omega arith) ∙ rw h refl
in_jump width.DoubleWord f h = narrowed f (λ z. omega arith) ∙ rw h refl

-- ---- instructions

abbrev Again : Insn → Type 0
Again v = insn_of (fields_of v) (high_of v) ≡ Some v

alu_below : (w : Width) → alu_class w < 8
alu_below width.Word = omega arith
alu_below width.DoubleWord = omega arith

jump_below : (w : Width) → jump_class w < 8
jump_below width.Word = omega arith
jump_below width.DoubleWord = omega arith

operation-again : (w : Width) (op : AluOp) (d : Register) (s : Operand) → Again (Alu w op d s)
operation-again w op d s =
    let is = alu-again op in
    let f = fields_of (Alu w op d s) in
    let code = code-operation (alu_code op) (source_bit s) (alu_class w) (source_below s) (alu_below w) in
    let source = source-operation (alu_code op) (source_bit s) (alu_class w) (source_below s) (alu_below w) in
    in_alu w f (class-operation (alu_code op) (source_bit s) (alu_class w) (alu_below w))
    ∙ rw (code, source, is.no_neg, is.no_swap, is.no_move (eqb (source_bit s) 1), is.found, register-again d, operand-again s) refl

jump_if-again : (w : Width) (c : Condition) (d : Register) (s : Operand) (offset : ℤ) → Again (JumpIf w c d s offset)
jump_if-again w c d s offset =
    let is = condition-again c in
    let f = fields_of (JumpIf w c d s offset) in
    let code = code-operation (condition_code c) (source_bit s) (jump_class w) (source_below s) (jump_below w) in
    let source = source-operation (condition_code c) (source_bit s) (jump_class w) (source_below s) (jump_below w) in
    in_jump w f (class-operation (condition_code c) (source_bit s) (jump_class w) (jump_below w))
    ∙ rw (code, source, is.no_always, is.no_call, is.no_exit, is.found, register-again d, operand-again s) refl

neg-again : (w : Width) (d : Register) → Again (Neg w d)
unfolding narrow_insn insn_of
neg-again width.Word d = rw register-again refl
neg-again width.DoubleWord d = rw register-again refl

move-again : (e : SignExtension) (d s : Register) → Again (MoveSigned e d s)
unfolding narrow_insn insn_of extension_of
move-again ByteToWord d s = rw (register-again d, register-again s) refl
move-again HalfToWord d s = rw (register-again d, register-again s) refl
move-again ByteToDoubleWord d s = rw (register-again d, register-again s) refl
move-again HalfToDoubleWord d s = rw (register-again d, register-again s) refl
move-again WordToDoubleWord d s = rw (register-again d, register-again s) refl

byte_swap-again : (o : ByteOrder) (s : SwapSize) (d : Register) → Again (ByteSwap o s d)
unfolding narrow_insn insn_of order_of
byte_swap-again Little s d = rw (swap-again, register-again) refl
byte_swap-again Big s d = rw (swap-again, register-again) refl
byte_swap-again Swapped s d = rw (swap-again, register-again) refl

jump-again : (d : Distance) → Again (Jump d)
unfolding narrow_insn insn_of distance_in
jump-again (Short offset) = refl
jump-again (Long immediate) = refl

-- a number of 64 bits from its halves
halves : (n : ℕ) → n < 2 ^ 64
    → cast_unsigned w32 (cast_signed w32 (n % 2 ^ 32)) + cast_unsigned w32 (cast_signed w32 (n / 2 ^ 32)) * 2 ^ 32 ≡ n
halves n h =
    let low : n % 2 ^ 32 < 2 ^ 32 = omega arith in
    let high : n / 2 ^ 32 < 2 ^ 32 = omega arith in
    rw (of_z-to_z w32 (n % 2 ^ 32) low, of_z-to_z w32 (n / 2 ^ 32) high) (omega arith)

constant-again : (d : Register) (n : ℕ) → n < 2 ^ 64 → Again (LoadImmediate d n)
unfolding insn_of
constant-again d n h = rw (register-again d) (ap (λ (m : ℕ). Some (LoadImmediate d m)) (halves n h))

map-again : (d : Register) (n : ℕ) → n < 2 ^ 32 → Again (LoadMap d n)
unfolding insn_of
map-again d n h = rw (register-again d) (ap (λ (m : ℕ). Some (LoadMap d m)) (of_z-to_z w32 n h))

load-again : (s : Size) (d r : Register) (offset : ℤ) → Again (Load s d r offset)
unfolding narrow_insn insn_of size_of
load-again size.Byte d r offset = rw (register-again d, register-again r) refl
load-again size.Half d r offset = rw (register-again d, register-again r) refl
load-again size.Word d r offset = rw (register-again d, register-again r) refl
load-again size.DoubleWord d r offset = rw (register-again d, register-again r) refl

load_signed-again : (s : SignedSize) (d r : Register) (offset : ℤ) → Again (LoadSigned s d r offset)
unfolding narrow_insn insn_of signed_of
load_signed-again signed.Byte d r offset = rw (register-again d, register-again r) refl
load_signed-again signed.Half d r offset = rw (register-again d, register-again r) refl
load_signed-again signed.Word d r offset = rw (register-again d, register-again r) refl

store-again : (s : Size) (d : Register) (o : Operand) (offset : ℤ) → Again (Store s d o offset)
unfolding narrow_insn insn_of size_of operand_of
store-again size.Byte d (operand.Immediate n) offset = rw register-again refl
store-again size.Half d (operand.Immediate n) offset = rw register-again refl
store-again size.Word d (operand.Immediate n) offset = rw register-again refl
store-again size.DoubleWord d (operand.Immediate n) offset = rw register-again refl
store-again size.Byte d (operand.Register r) offset = rw (register-again d, register-again r) refl
store-again size.Half d (operand.Register r) offset = rw (register-again d, register-again r) refl
store-again size.Word d (operand.Register r) offset = rw (register-again d, register-again r) refl
store-again size.DoubleWord d (operand.Register r) offset = rw (register-again d, register-again r) refl

atomic_insn-again : (w : Width) (op : AtomicOp) (d s : Register) (offset : ℤ) → Again (Atomic w op d s offset)
unfolding narrow_insn insn_of atomic_width_of
atomic_insn-again width.Word op d s offset = rw (atomic-again op, register-again d, register-again s) refl
atomic_insn-again width.DoubleWord op d s offset = rw (atomic-again op, register-again d, register-again s) refl

pub again : (v : Insn) → Fits v → Again v
unfolding narrow_insn insn_of
again (Alu w op d s) f = operation-again w op d s
again (Neg w d) f = neg-again w d
again (MoveSigned e d s) f = move-again e d s
again (ByteSwap o s d) f = byte_swap-again o s d
again (Jump d) f = jump-again d
again (JumpIf w c d s offset) f = jump_if-again w c d s offset
again (Call helper) f = refl
again Exit f = refl
again (LoadImmediate d n) f = constant-again d n f
again (LoadMap d n) f = map-again d n f
again (Load s d r offset) f = load-again s d r offset
again (LoadSigned s d r offset) f = load_signed-again s d r offset
again (Store s d o offset) f = store-again s d o offset
again (Atomic w op d s offset) f = atomic_insn-again w op d s offset

pub same_fields : (f g : Fields) → f.opcode ≡ g.opcode → f.dst ≡ g.dst → f.src ≡ g.src → f.offset ≡ g.offset
    → f.immediate ≡ g.immediate → f ≡ g
same_fields f g a b c d e =
    ap (λ (n : ℕ). fields n f.dst f.src f.offset f.immediate) a
    ∙ ap (λ (n : ℕ). fields g.opcode n f.src f.offset f.immediate) b
    ∙ ap (λ (n : ℕ). fields g.opcode g.dst n f.offset f.immediate) c
    ∙ ap (λ (z : ℤ). fields g.opcode g.dst g.src z f.immediate) d
    ∙ ap (λ (z : ℤ). fields g.opcode g.dst g.src g.offset z) e

-- an instruction is found by the fields that spell it
pub again_at : (v : Insn) (f : Fields) (high : ℤ) → Fits v → fields_of v ≡ f → high_of v ≡ high
    → insn_of f high ≡ Some v
again_at v f high fits first second =
    ap (λ (g : Fields). insn_of g high) (sym first) ∙ ap (λ (z : ℤ). insn_of (fields_of v) z) (sym second) ∙ again v fits

pub only : (v : Insn) (f : Fields) (high : ℤ) → Fits v → Spells v f high → insn_of f high ≡ Some v
only v f high fits s =
    again_at v f high fits (same_fields (fields_of v) f s.opcode_is s.dst_is s.src_is s.offset_is s.immediate_is) s.high_is
