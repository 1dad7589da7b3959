-- No instruction's spelling begins another's.
use Rattle.std.proofs.Common.{◌≡◌, ◌≢◌, ℕ, ◌*◌, ◌/◌, ◌%◌, ◌^◌, ◌<◌, false, eqb, cond, List, [], ◌++◌, length, take, drop, Option, Some, w16, w32, refl, sym, ap, ◌∙◌, arith, ◌⊎◌, inl, inr}
use Rattle.std.specs.Prelude.{ℤ, pos, FitsSigned}
use Rattle.std.proofs.lemmas.Bool.Decides.{nat_tests}
use Rattle.std.proofs.lemmas.List.{append_cancel_left}
use borrow.Author.Gap.{read_sfits}
use Rattle.bt_insn.specs.declared.fields.Fields.{Fields}
use Rattle.bt_insn.specs.declared.register.Register.{Register}
use Rattle.bt_insn.specs.declared.register.Register.TheVariants.{R0, R1, R2, R3, R4, R5, R6, R7, R8, R9, R10}
use Rattle.bt_insn.specs.declared.operand.Width.{Width}
use Rattle.bt_insn.specs.declared.operand.Width.TheVariants as width
use Rattle.bt_insn.specs.declared.operand.Operand.{Operand}
use Rattle.bt_insn.specs.declared.operand.Operand.TheVariants as operand
use Rattle.bt_insn.specs.declared.alu.SignExtension.{SignExtension}
use Rattle.bt_insn.specs.declared.alu.SignExtension.TheVariants.{ByteToWord, HalfToWord, ByteToDoubleWord, HalfToDoubleWord, WordToDoubleWord}
use Rattle.bt_insn.specs.declared.alu.ByteOrder.{ByteOrder}
use Rattle.bt_insn.specs.declared.alu.ByteOrder.TheVariants.{Little, Big, Swapped}
use Rattle.bt_insn.specs.declared.alu.AluOp.{AluOp}
use Rattle.bt_insn.specs.declared.alu.AluOp.TheVariants as alu
use Rattle.bt_insn.specs.declared.alu.SwapSize.{SwapSize}
use Rattle.bt_insn.specs.declared.alu.SwapSize.TheVariants as swap
use Rattle.bt_insn.specs.declared.jump.Distance.{Distance}
use Rattle.bt_insn.specs.declared.jump.Distance.TheVariants.{Short, Long}
use Rattle.bt_insn.specs.declared.load_store.AtomicOp.{AtomicOp}
use Rattle.bt_insn.specs.declared.load_store.AtomicOp.TheVariants as atomic
use Rattle.bt_insn.specs.declared.insn.Insn.{Insn}
use Rattle.bt_insn.specs.declared.insn.Insn.TheVariants.{Alu, Neg, MoveSigned, ByteSwap, Jump, JumpIf, Call, Exit, LoadImmediate, LoadMap, Load, LoadSigned, Store, Atomic}
use Rattle.bt_insn.specs.Register.{number_of}
use Rattle.bt_insn.specs.Operand.{source_bit, source_number, source_immediate}
use Rattle.bt_insn.specs.Classes.{alu_class, jump_class, store_class}
use Rattle.bt_insn.specs.Alu.{alu_code, alu_offset, extension_class, extension_bits, order_class, order_source, swap_bits}
use Rattle.bt_insn.specs.Jump.{condition_code, distance_class, distance_offset, distance_immediate}
use Rattle.bt_insn.specs.LoadStore.{size_code, signed_code, atomic_size, atomic_immediate}
use Rattle.bt_insn.specs.Slot.{slot_bytes, FitsSlot}
use Rattle.bt_insn.specs.Opcode.{operation, access}
use Rattle.bt_insn.specs.Table.{Fits, FitsOperand, FitsDistance, fields_of, high_of, slots_of}
use Rattle.bt_insn.specs.Reading.{insn_of}
use Rattle.bt_insn.specs.Spelling.{second_fields, second_slot, spelling_of}
use Rattle.bt_insn.proofs.Again.{again}
use Rattle.bt_insn.proofs.Slots.{same_slot}

pub spelling-length : (v : Insn) → length (spelling_of v) ≡ 8 * slots_of v
unfolding spelling_of
spelling-length (LoadImmediate d n) = refl
spelling-length (LoadMap d n) = refl
spelling-length _ = refl

-- ---- the opcode says how many slots there are

abbrev slots_at : ℕ → ℕ
slots_at opcode = cond (eqb opcode 24) 2 1

narrow_opcode : (n : ℕ) → n % 8 ≢ 0 → slots_at n ≡ 1
narrow_opcode n h =
    let other : eqb n 24 ≡ false = grind (arith, nat_tests) in
    rw other refl

abbrev IsClass : ℕ → Type 0
IsClass n = (0 < n) × (n < 8)

alu_is_class : (w : Width) → IsClass (alu_class w)
alu_is_class width.Word = (omega arith, omega arith)
alu_is_class width.DoubleWord = (omega arith, omega arith)

jump_is_class : (w : Width) → IsClass (jump_class w)
jump_is_class width.Word = (omega arith, omega arith)
jump_is_class width.DoubleWord = (omega arith, omega arith)

store_is_class : (s : Operand) → IsClass (store_class s)
store_is_class (operand.Immediate n) = (omega arith, omega arith)
store_is_class (operand.Register r) = (omega arith, omega arith)

extension_is_class : (e : SignExtension) → IsClass (extension_class e)
extension_is_class ByteToWord = (omega arith, omega arith)
extension_is_class HalfToWord = (omega arith, omega arith)
extension_is_class ByteToDoubleWord = (omega arith, omega arith)
extension_is_class HalfToDoubleWord = (omega arith, omega arith)
extension_is_class WordToDoubleWord = (omega arith, omega arith)

order_is_class : (o : ByteOrder) → IsClass (order_class o)
order_is_class Little = (omega arith, omega arith)
order_is_class Big = (omega arith, omega arith)
order_is_class Swapped = (omega arith, omega arith)

distance_is_class : (d : Distance) → IsClass (distance_class d)
distance_is_class (Short offset) = (omega arith, omega arith)
distance_is_class (Long immediate) = (omega arith, omega arith)

operation_opcode : (c b k : ℕ) → IsClass k → slots_at (operation c b k) ≡ 1
operation_opcode c b k h = narrow_opcode (operation c b k) (λ z. omega (arith, h.0, h.1))

access_opcode : (m s k : ℕ) → IsClass k → slots_at (access m s k) ≡ 1
access_opcode m s k h = narrow_opcode (access m s k) (λ z. omega (arith, h.0, h.1))

pub slots_by_opcode : (v : Insn) → slots_at (fields_of v).opcode ≡ slots_of v
slots_by_opcode (Alu w op d s) = operation_opcode (alu_code op) (source_bit s) (alu_class w) (alu_is_class w)
slots_by_opcode (Neg w d) = operation_opcode 8 0 (alu_class w) (alu_is_class w)
slots_by_opcode (MoveSigned e d s) = operation_opcode 11 1 (extension_class e) (extension_is_class e)
slots_by_opcode (ByteSwap o s d) = operation_opcode 13 (order_source o) (order_class o) (order_is_class o)
slots_by_opcode (Jump d) = operation_opcode 0 0 (distance_class d) (distance_is_class d)
slots_by_opcode (JumpIf w c d s offset) = operation_opcode (condition_code c) (source_bit s) (jump_class w) (jump_is_class w)
slots_by_opcode (Call helper) = refl
slots_by_opcode Exit = refl
slots_by_opcode (LoadImmediate d n) = refl
slots_by_opcode (LoadMap d n) = refl
slots_by_opcode (Load s d r offset) = access_opcode 3 (size_code s) 1 (omega arith, omega arith)
slots_by_opcode (LoadSigned s d r offset) = access_opcode 4 (signed_code s) 1 (omega arith, omega arith)
slots_by_opcode (Store s d o offset) = access_opcode 3 (size_code s) (store_class o) (store_is_class o)
slots_by_opcode (Atomic w op d s offset) = access_opcode 6 (atomic_size w) 3 (omega arith, omega arith)

pub same_slots : (v w : Insn) → fields_of v ≡ fields_of w → slots_of v ≡ slots_of w
same_slots v w e = sym (slots_by_opcode v) ∙ ap (λ (f : Fields). slots_at f.opcode) e ∙ slots_by_opcode w

-- ---- the fields of an instruction fit a slot

number_below : (r : Register) → number_of r < 16
number_below R0 = omega arith
number_below R1 = omega arith
number_below R2 = omega arith
number_below R3 = omega arith
number_below R4 = omega arith
number_below R5 = omega arith
number_below R6 = omega arith
number_below R7 = omega arith
number_below R8 = omega arith
number_below R9 = omega arith
number_below R10 = omega arith

source_below : (s : Operand) → source_number s < 16
source_below (operand.Immediate n) = omega arith
source_below (operand.Register r) = number_below r

pub zero_offset : FitsSigned w16 (pos 0)
zero_offset = record { sfits = omega arith }

pub zero_immediate : FitsSigned w32 (pos 0)
zero_immediate = record { sfits = omega arith }

immediate_fits : (s : Operand) → FitsOperand s → FitsSigned w32 (source_immediate s)
immediate_fits (operand.Immediate n) h = h
immediate_fits (operand.Register r) h = zero_immediate

offset_fits : (op : AluOp) → FitsSigned w16 (alu_offset op)
offset_fits alu.Sdiv = record { sfits = omega arith }
offset_fits alu.Smod = record { sfits = omega arith }
offset_fits _ = zero_offset

extension_fits : (e : SignExtension) → FitsSigned w16 (extension_bits e)
extension_fits ByteToWord = record { sfits = omega arith }
extension_fits HalfToWord = record { sfits = omega arith }
extension_fits ByteToDoubleWord = record { sfits = omega arith }
extension_fits HalfToDoubleWord = record { sfits = omega arith }
extension_fits WordToDoubleWord = record { sfits = omega arith }

swap_fits : (s : SwapSize) → FitsSigned w32 (swap_bits s)
swap_fits swap.Half = record { sfits = omega arith }
swap_fits swap.Word = record { sfits = omega arith }
swap_fits swap.DoubleWord = record { sfits = omega arith }

atomic_fits : (op : AtomicOp) → FitsSigned w32 (atomic_immediate op)
atomic_fits atomic.Add = zero_immediate
atomic_fits atomic.Or = record { sfits = omega arith }
atomic_fits atomic.And = record { sfits = omega arith }
atomic_fits atomic.Xor = record { sfits = omega arith }
atomic_fits atomic.FetchAdd = record { sfits = omega arith }
atomic_fits atomic.FetchOr = record { sfits = omega arith }
atomic_fits atomic.FetchAnd = record { sfits = omega arith }
atomic_fits atomic.FetchXor = record { sfits = omega arith }
atomic_fits atomic.Exchange = record { sfits = omega arith }
atomic_fits atomic.CompareExchange = record { sfits = omega arith }

distance_fits : (d : Distance) → FitsDistance d
    → FitsSigned w16 (distance_offset d) × FitsSigned w32 (distance_immediate d)
distance_fits (Short offset) h = (h, zero_immediate)
distance_fits (Long immediate) h = (zero_offset, h)

zero_below : 0 < 16
zero_below = omega arith

one_below : 1 < 16
one_below = omega arith

pub fits_slot : (v : Insn) → Fits v → FitsSlot (fields_of v)
fits_slot (Alu w op d s) h = record { dst = number_below d; src = source_below s; offset = offset_fits op; immediate = immediate_fits s h }
fits_slot (Neg w d) h = record { dst = number_below d; src = zero_below; offset = zero_offset; immediate = zero_immediate }
fits_slot (MoveSigned e d s) h = record { dst = number_below d; src = number_below s; offset = extension_fits e; immediate = zero_immediate }
fits_slot (ByteSwap o s d) h = record { dst = number_below d; src = zero_below; offset = zero_offset; immediate = swap_fits s }
fits_slot (Jump d) h = record { dst = zero_below; src = zero_below; offset = (distance_fits d h).0; immediate = (distance_fits d h).1 }
fits_slot (JumpIf w c d s offset) h = record { dst = number_below d; src = source_below s; offset = h.0; immediate = immediate_fits s h.1 }
fits_slot (Call helper) h = record { dst = zero_below; src = zero_below; offset = zero_offset; immediate = h }
fits_slot Exit h = record { dst = zero_below; src = zero_below; offset = zero_offset; immediate = zero_immediate }
fits_slot (LoadImmediate d n) h = record { dst = number_below d; src = zero_below; offset = zero_offset; immediate = read_sfits w32 (n % 2 ^ 32) }
fits_slot (LoadMap d n) h = record { dst = number_below d; src = one_below; offset = zero_offset; immediate = read_sfits w32 n }
fits_slot (Load s d r offset) h = record { dst = number_below d; src = number_below r; offset = h; immediate = zero_immediate }
fits_slot (LoadSigned s d r offset) h = record { dst = number_below d; src = number_below r; offset = h; immediate = zero_immediate }
fits_slot (Store s d o offset) h = record { dst = number_below d; src = source_below o; offset = h.0; immediate = immediate_fits o h.1 }
fits_slot (Atomic w op d s offset) h = record { dst = number_below d; src = number_below s; offset = h; immediate = atomic_fits op }

high_fits : (v : Insn) → FitsSigned w32 (high_of v)
high_fits (LoadImmediate d n) = read_sfits w32 (n / 2 ^ 32)
high_fits _ = zero_immediate

pub second_fits : (v : Insn) → FitsSlot (second_fields (high_of v))
second_fits v = record { dst = zero_below; src = zero_below; offset = zero_offset; immediate = high_fits v }

-- ---- the second slot

pub second_is : (v : Insn) → slots_of v ≡ 2 → second_slot v ≡ slot_bytes (second_fields (high_of v))
second_is (LoadImmediate d n) e = refl
second_is (LoadMap d n) e = refl
second_is _ e = absurd (omega arith)

pub second_none : (v : Insn) → slots_of v ≡ 1 → (second_slot v ≡ []) × (high_of v ≡ pos 0)
second_none (LoadImmediate d n) e = absurd (omega arith)
second_none (LoadMap d n) e = absurd (omega arith)
second_none _ e = (refl, refl)

slots_cases : (v : Insn) → (slots_of v ≡ 1) ⊎ (slots_of v ≡ 2)
slots_cases (LoadImmediate d n) = inr refl
slots_cases (LoadMap d n) = inr refl
slots_cases _ = inl refl

-- ---- a front of the bytes tells the instruction

-- the first eight bytes tell the fields of the first slot
pub first_tells : (v : Insn) (f : Fields) (bytes rest : List ℕ) → Fits v → FitsSlot f
    → take 8 bytes ≡ slot_bytes f → bytes ≡ spelling_of v ++ rest → fields_of v ≡ f
unfolding spelling_of
first_tells v f bytes rest fits slot front parts =
    let first : take 8 bytes ≡ slot_bytes (fields_of v) = ap (λ (s : List ℕ). take 8 s) parts in
    same_slot (fields_of v) f (fits_slot v fits) slot (sym first ∙ front)

-- the eight after them tell the high half of a wide one
pub second_tells : (v : Insn) (g : Fields) (bytes rest : List ℕ) → slots_of v ≡ 2 → FitsSlot g
    → take 8 (drop 8 bytes) ≡ slot_bytes g → bytes ≡ spelling_of v ++ rest → second_fields (high_of v) ≡ g
unfolding spelling_of
second_tells v g bytes rest wide slot front parts =
    let behind : drop 8 bytes ≡ second_slot v ++ rest = ap (λ (s : List ℕ). drop 8 s) parts in
    let second : take 8 (drop 8 bytes) ≡ slot_bytes (second_fields (high_of v)) = ap (λ (s : List ℕ). take 8 s) (behind ∙ ap (λ (s : List ℕ). s ++ rest) (second_is v wide)) in
    same_slot (second_fields (high_of v)) g (second_fits v) slot (sym second ∙ front)

same_high : (v w : Insn) (x y : List ℕ) → slots_of v ≡ slots_of w → spelling_of v ++ x ≡ spelling_of w ++ y
    → high_of v ≡ high_of w
unfolding spelling_of
same_high v w x y slots e =
    elim (slots_cases v) [
      | inl one ↦ (second_none v one).1 ∙ sym (second_none w (sym slots ∙ one)).1
      | inr two ↦
          let behind : second_slot v ++ x ≡ second_slot w ++ y = ap (λ (s : List ℕ). drop 8 s) e in
          let both : slot_bytes (second_fields (high_of v)) ++ x ≡ slot_bytes (second_fields (high_of w)) ++ y =
          ap (λ (s : List ℕ). s ++ x) (sym (second_is v two)) ∙ behind ∙ ap (λ (s : List ℕ). s ++ y) (second_is w (sym slots ∙ two)) in
          let fronts : slot_bytes (second_fields (high_of v)) ≡ slot_bytes (second_fields (high_of w)) = ap (λ (s : List ℕ). take 8 s) both in
          ap (λ (f : Fields). f.immediate) (same_slot _ _ (second_fits v) (second_fits w) fronts)
    ]

some_same : (v w : Insn) → ◌≡◌ {A = Option Insn} (Some v) (Some w) → v ≡ w
some_same v w e = cc

-- no spelling begins another
pub one_form : (v w : Insn) (x y : List ℕ) → Fits v → Fits w → spelling_of v ++ x ≡ spelling_of w ++ y
    → (v ≡ w) × (x ≡ y)
unfolding spelling_of
one_form v w x y p q e =
    let firsts : slot_bytes (fields_of v) ≡ slot_bytes (fields_of w) = ap (λ (s : List ℕ). take 8 s) e in
    let first = same_slot (fields_of v) (fields_of w) (fits_slot v p) (fits_slot w q) firsts in
    let high = same_high v w x y (same_slots v w first) e in
    let same : v ≡ w = some_same v w (sym (again v p) ∙ ap (λ (f : Fields). insn_of f (high_of v)) first ∙ ap (λ (z : ℤ). insn_of (fields_of w) z) high ∙ again w q) in
    (same, append_cancel_left (spelling_of v) x y (e ∙ ap (λ (u : Insn). spelling_of u ++ y) (sym same)))
