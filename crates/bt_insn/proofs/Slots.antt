-- The bytes of a slot tell its fields.
use Rattle.std.proofs.Common.{◌≡◌, ℕ, ◌^◌, ◌<◌, List, ◌++◌, ◌∷◌, length, take, drop, w16, w32, refl, sym, ap, ◌∙◌, arith}
use Rattle.std.specs.Prelude.{ℤ, FitsSigned}
use Rattle.std.specs.Int.{to_le_bytes, from_le_bytes, cast_unsigned, cast_signed}
use Rattle.std.proofs.lemmas.Int.{to_z-of_z, ints}
use Rattle.std.proofs.lemmas.Nat.{from_le_bytes-to_le_bytes_2, from_le_bytes-to_le_bytes_4}
use Rattle.bt_insn.specs.declared.fields.Fields.{Fields}
use Rattle.bt_insn.specs.Slot.{slot_bytes, FitsSlot}
use Rattle.bt_insn.proofs.Again.{same_fields}

offset_below : (z : ℤ) → FitsSigned w16 z → cast_unsigned w16 z < 2 ^ 16
offset_below z fits = omega (arith, ints)

immediate_below : (z : ℤ) → FitsSigned w32 z → cast_unsigned w32 z < 2 ^ 32
immediate_below z fits = omega (arith, ints)

same_offset : (a b : ℤ) → FitsSigned w16 a → FitsSigned w16 b
    → to_le_bytes w16 (cast_unsigned w16 a) ≡ to_le_bytes w16 (cast_unsigned w16 b) → a ≡ b
same_offset a b p q e =
    let unsigned : cast_unsigned w16 a ≡ cast_unsigned w16 b =
    sym (from_le_bytes-to_le_bytes_2 (cast_unsigned w16 a) (offset_below a p)) ∙ ap (from_le_bytes w16) e ∙ from_le_bytes-to_le_bytes_2 (cast_unsigned w16 b) (offset_below b q) in
    sym (to_z-of_z w16 a p) ∙ ap (cast_signed w16) unsigned ∙ to_z-of_z w16 b q

same_immediate : (a b : ℤ) → FitsSigned w32 a → FitsSigned w32 b
    → to_le_bytes w32 (cast_unsigned w32 a) ≡ to_le_bytes w32 (cast_unsigned w32 b) → a ≡ b
same_immediate a b p q e =
    let unsigned : cast_unsigned w32 a ≡ cast_unsigned w32 b =
    sym (from_le_bytes-to_le_bytes_4 (cast_unsigned w32 a) (immediate_below a p)) ∙ ap (from_le_bytes w32) e ∙ from_le_bytes-to_le_bytes_4 (cast_unsigned w32 b) (immediate_below b q) in
    sym (to_z-of_z w32 a p) ∙ ap (cast_signed w32) unsigned ∙ to_z-of_z w32 b q

heads : (a b c d : ℕ) (s t : List ℕ) → a ∷ b ∷ s ≡ c ∷ d ∷ t → (a ≡ c) × (b ≡ d)
heads a b c d s t e = (cc, cc)

pub same_slot : (f g : Fields) → FitsSlot f → FitsSlot g → slot_bytes f ≡ slot_bytes g → f ≡ g
same_slot f g p q e =
    let h = heads _ _ _ _ _ _ e in
    let dst : f.dst ≡ g.dst = omega (arith, h.1, p.dst, p.src, q.dst, q.src) in
    let src : f.src ≡ g.src = omega (arith, h.1, p.dst, p.src, q.dst, q.src) in
    let offset = same_offset f.offset g.offset p.offset q.offset (ap (λ (s : List ℕ). take 2 (drop 2 s)) e) in
    let immediate = same_immediate f.immediate g.immediate p.immediate q.immediate (ap (λ (s : List ℕ). drop 4 s) e) in
    same_fields f g h.0 dst src offset immediate

pub slot-length : (f : Fields) → length (slot_bytes f) ≡ 8
slot-length f = refl

pub slot-take : (f : Fields) (rest : List ℕ) → take 8 (slot_bytes f ++ rest) ≡ slot_bytes f
slot-take f rest = refl

pub slot-drop : (f : Fields) (rest : List ℕ) → drop 8 (slot_bytes f ++ rest) ≡ rest
slot-drop f rest = refl
