-- What the fields at the front of the bytes tell.
use Rattle.std.proofs.Common.{◌≡◌, ◌≢◌, ℕ, ◌*◌, ◌%◌, ◌/◌, ◌^◌, ◌<◌, List, [], ◌∷◌, ◌++◌, length, take, drop, Option, Some, None, w32, refl, sym, ap, ◌∙◌, arith, drop-drop}
use Rattle.std.specs.Prelude.{ℤ, pos}
use Rattle.std.specs.Int.{cast_signed}
use Rattle.bt_insn.specs.Register.{number_of}
use Rattle.std.proofs.lemmas.List.{take-append-drop}
use Rattle.bt_insn.specs.declared.fault.DecodeFault.TheVariants.{BadField}
use Rattle.bt_insn.specs.declared.fields.Fields.{Fields}
use Rattle.bt_insn.specs.declared.insn.Insn.{Insn}
use Rattle.bt_insn.specs.declared.insn.Insn.TheVariants.{LoadImmediate, LoadMap}
use Rattle.bt_insn.specs.Slot.{slot_bytes, FitsSlot}
use Rattle.bt_insn.specs.Table.{Spells, Fits, fields, fields_of, high_of, slots_of}
use Rattle.bt_insn.specs.Reading.{insn_of}
use Rattle.bt_insn.specs.Spelling.{second_fields, second_slot, spelling_of}
use Rattle.bt_insn.specs.Grammar.{IsOpcode, BeginsWith, IsHalf, HasOpcode, FaultAt}
use Rattle.bt_insn.proofs.Again.{again, same_fields}
use Rattle.bt_insn.proofs.Slots.{same_slot}
use Rattle.bt_insn.proofs.Forms.{fits_slot, first_tells, second_tells, second_is, second_none, same_slots}

-- the first slot of an instruction spells one with 0 in the second slot
low-again : (v : Insn) → Fits v → (w : Insn) × (insn_of (fields_of v) (pos 0) ≡ Some w)
low-again (LoadImmediate d n) fits =
    let m : ℕ = n % 2 ^ 32 in
    let small : m < 2 ^ 64 = omega arith in
    let low : m % 2 ^ 32 ≡ m = omega arith in
    let high : m / 2 ^ 32 ≡ 0 = omega arith in (
      LoadImmediate d m,
      ap (λ (k : ℕ). insn_of (fields 24 (number_of d) 0 (pos 0) (cast_signed w32 k)) (pos 0)) (sym low)
          ∙ ap (λ (k : ℕ). insn_of (fields_of (LoadImmediate d m)) (cast_signed w32 k)) (sym high)
          ∙ again (LoadImmediate d m) small,
    )
low-again v fits = (v, again v fits)

pub some_none : (v : Insn) → ◌≡◌ {A = Option Insn} (Some v) None → ⊥
some_none v e = cc

not_first : (v : Insn) (f : Fields) → Fits v → fields_of v ≡ f → insn_of f (pos 0) ≡ None → ⊥
not_first v f fits same none =
    let low = low-again v fits in
    some_none low.0 (sym low.1 ∙ ap (λ (g : Fields). insn_of g (pos 0)) same ∙ none)

-- if the first slot spells nothing, no instruction begins the bytes
no_front : (bytes : List ℕ) (f : Fields) → FitsSlot f → take 8 bytes ≡ slot_bytes f → insn_of f (pos 0) ≡ None
    → (v : Insn) → BeginsWith bytes v → ⊥
no_front bytes f slot front none v begins =
    not_first v f begins.fits (first_tells v f bytes begins.rest begins.fits slot front begins.parts) none

no_half : (bytes : List ℕ) (f : Fields) → FitsSlot f → take 8 bytes ≡ slot_bytes f → insn_of f (pos 0) ≡ None
    → IsHalf bytes → ⊥
no_half bytes f slot front none half =
    let first : take 8 bytes ≡ slot_bytes (fields_of half.insn) = ap (λ (s : List ℕ). take 8 s) half.first in
    let same = same_slot (fields_of half.insn) f (fits_slot half.insn half.fits) slot (sym first ∙ front) in
    not_first half.insn f half.fits same none

has_opcode : (bytes : List ℕ) (f : Fields) → take 8 bytes ≡ slot_bytes f → HasOpcode bytes f.opcode
has_opcode [] f front = absurd cc
has_opcode (b ∷ bytes) f front =
    let same : b ≡ f.opcode = cc in
    record { others = bytes; parts = ap (λ (n : ℕ). n ∷ bytes) same }

pub bad_first : (bytes : List ℕ) (slot : ℕ) (f : Fields) → FitsSlot f → take 8 bytes ≡ slot_bytes f
    → insn_of f (pos 0) ≡ None → IsOpcode f.opcode → FaultAt bytes slot (BadField slot)
bad_first bytes slot f fits front none opcode = (
  refl,
  record {
    opcode = f.opcode;
    first = has_opcode bytes f front;
    legal = opcode;
    no_half = no_half bytes f fits front none;
    no_insn = no_front bytes f fits front none;
  },
)

-- the fields that are spelled are those of the instruction
pub spelled_fields : (v : Insn) (f : Fields) (high : ℤ) → Spells v f high → fields_of v ≡ f
spelled_fields v f high s = same_fields (fields_of v) f s.opcode_is s.dst_is s.src_is s.offset_is s.immediate_is

pub narrow_front : (bytes : List ℕ) (f : Fields) (v : Insn) → take 8 bytes ≡ slot_bytes f → Spells v f (pos 0)
    → slots_of v ≡ 1 → bytes ≡ spelling_of v ++ drop (8 * slots_of v) bytes
unfolding spelling_of
narrow_front bytes f v front spells one =
    let first : slot_bytes (fields_of v) ≡ take 8 bytes = ap slot_bytes (spelled_fields v f (pos 0) spells) ∙ sym front in
    let whole : slot_bytes (fields_of v) ++ drop 8 bytes ≡ bytes = ap (λ (s : List ℕ). s ++ drop 8 bytes) first ∙ take-append-drop 8 bytes in
    let nothing : second_slot v ≡ [] = (second_none v one).0 in
    let eight : 8 * slots_of v ≡ 8 = omega arith in
    sym whole ∙ ap (λ (s : List ℕ). slot_bytes (fields_of v) ++ s ++ drop 8 bytes) (sym nothing) ∙ ap (λ (n : ℕ). slot_bytes (fields_of v) ++ second_slot v ++ drop n bytes) (sym eight)

two_slots : (v : Insn) → slots_of v ≢ 1 → slots_of v ≡ 2
two_slots (LoadImmediate d n) h = refl
two_slots (LoadMap d n) h = refl
two_slots _ h = absurd (h refl)

pub wide_front : (bytes : List ℕ) (f g : Fields) (v w : Insn) → take 8 bytes ≡ slot_bytes f
    → take 8 (drop 8 bytes) ≡ slot_bytes g → Spells w f (pos 0) → slots_of w ≢ 1
    → Spells v f g.immediate → g ≡ second_fields g.immediate → bytes ≡ spelling_of v ++ drop (8 * slots_of v) bytes
unfolding spelling_of
wide_front bytes f g v w front behind first wide spells second =
    let same = spelled_fields v f g.immediate spells in
    let two : slots_of v ≡ 2 = same_slots v w (same ∙ sym (spelled_fields w f (pos 0) first)) ∙ two_slots w wide in
    let sixteen : 8 * slots_of v ≡ 16 = omega arith in
    let slot : second_slot v ≡ slot_bytes g = second_is v two ∙ ap (λ (z : ℤ). slot_bytes (second_fields z)) spells.high_is ∙ ap slot_bytes (sym second) in
    let tail : drop 8 bytes ≡ second_slot v ++ drop 16 bytes =
    sym (take-append-drop 8 (drop 8 bytes)) ∙ ap (λ (s : List ℕ). s ++ drop 8 (drop 8 bytes)) (behind ∙ sym slot) ∙ ap (λ (s : List ℕ). second_slot v ++ s) (drop-drop 8 8 bytes) in
    let head : take 8 bytes ≡ slot_bytes (fields_of v) = front ∙ ap slot_bytes (sym same) in
    sym (take-append-drop 8 bytes)
    ∙ ap (λ (s : List ℕ). s ++ drop 8 bytes) head
    ∙ ap (λ (s : List ℕ). slot_bytes (fields_of v) ++ s) tail
    ∙ ap (λ (n : ℕ). slot_bytes (fields_of v) ++ (second_slot v ++ drop n bytes)) (sym sixteen)

-- if the second slot is no such one, no instruction begins the bytes
pub bad_second : (bytes : List ℕ) (slot : ℕ) (f g : Fields) (w : Insn) → 8 < length bytes → FitsSlot f
    → FitsSlot g → take 8 bytes ≡ slot_bytes f → take 8 (drop 8 bytes) ≡ slot_bytes g
    → Spells w f (pos 0) → slots_of w ≢ 1 → ((v : Insn) → Fits v → fields_of v ≡ f → second_fields (high_of v) ≡ g → ⊥) → FaultAt bytes slot (BadField slot)
bad_second bytes slot f g w long fits fits' front behind first wide none = (
  refl,
  record {
    opcode = f.opcode;
    first = has_opcode bytes f front;
    legal = (w, first.opcode_is);
    no_half = λ half. let short : length bytes ≡ 8 = ap (λ (s : List ℕ). length s) half.first in omega arith;
    no_insn = λ v begins.
        let same = first_tells v f bytes begins.rest begins.fits fits front begins.parts in
        let slots = same_slots v w (same ∙ sym (spelled_fields w f (pos 0) first)) in
        none v begins.fits same (second_tells v g bytes begins.rest (slots ∙ two_slots w wide) fits' behind begins.parts);
  },
)
