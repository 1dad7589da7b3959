-- Bytes have one first fault.
use Rattle.std.proofs.Common.{◌≡◌, ◌≢◌, ℕ, List, ◌∷◌, refl, sym, ap, subst, ◌∙◌, arith}
use Rattle.bt_insn.specs.declared.fault.DecodeFault.{DecodeFault}
use Rattle.bt_insn.specs.declared.fault.DecodeFault.TheVariants.{BadLength, TooLong, BadOpcode, BadField, HalfWide, NoMemory}
use Rattle.bt_insn.specs.declared.insn.Insn.{Insn}
use Rattle.bt_insn.specs.Slot.{slot_bytes}
use Rattle.bt_insn.specs.Table.{fields_of}
use Rattle.bt_insn.specs.Spelling.{slots_in}
use Rattle.bt_insn.specs.Grammar.{IsOpcode, IsHalf, HasOpcode, FaultAt, StopsWith, IsFault}
use Rattle.bt_insn.proofs.Readings.{fault_ends, same_reading}

-- ---- faults at the same bytes

same_opcode : (bytes : List ℕ) (a b : ℕ) → HasOpcode bytes a → HasOpcode bytes b → a ≡ b
same_opcode bytes a b p q = let e : a ∷ p.others ≡ b ∷ q.others = sym p.parts ∙ q.parts in cc

half_opcode : (bytes : List ℕ) (a : ℕ) → HasOpcode bytes a → IsHalf bytes → IsOpcode a
half_opcode bytes a p half =
    let e : slot_bytes (fields_of half.insn) ≡ a ∷ p.others = sym half.first ∙ p.parts in
    (half.insn, cc)

same_legal : (bytes : List ℕ) (a b : ℕ) → HasOpcode bytes a → HasOpcode bytes b → IsOpcode b → IsOpcode a
same_legal bytes a b p q legal = subst IsOpcode (same_opcode bytes b a q p) legal

one_here : (bytes : List ℕ) (slot : ℕ) (a b : DecodeFault) → FaultAt bytes slot a → FaultAt bytes slot b → a ≡ b
one_here bytes slot (BadOpcode i) (BadOpcode j) p q = ap (λ (n : ℕ). BadOpcode n) (p.0 ∙ sym q.0)
one_here bytes slot (BadOpcode i) (HalfWide j) p q = absurd (p.1.illegal (half_opcode bytes p.1.opcode p.1.first q.1))
one_here bytes slot (BadOpcode i) (BadField j) p q = absurd (p.1.illegal (same_legal bytes p.1.opcode q.1.opcode p.1.first q.1.first q.1.legal))
one_here bytes slot (HalfWide i) (BadOpcode j) p q = absurd (q.1.illegal (half_opcode bytes q.1.opcode q.1.first p.1))
one_here bytes slot (HalfWide i) (HalfWide j) p q = ap (λ (n : ℕ). HalfWide n) (p.0 ∙ sym q.0)
one_here bytes slot (HalfWide i) (BadField j) p q = absurd (q.1.no_half p.1)
one_here bytes slot (BadField i) (BadOpcode j) p q = absurd (q.1.illegal (same_legal bytes q.1.opcode p.1.opcode q.1.first p.1.first p.1.legal))
one_here bytes slot (BadField i) (HalfWide j) p q = absurd (p.1.no_half q.1)
one_here bytes slot (BadField i) (BadField j) p q = ap (λ (n : ℕ). BadField n) (p.0 ∙ sym q.0)
one_here bytes slot BadLength b p q = absurd p
one_here bytes slot TooLong b p q = absurd p
one_here bytes slot NoMemory b p q = absurd p
one_here bytes slot a BadLength p q = absurd q
one_here bytes slot a TooLong p q = absurd q
one_here bytes slot a NoMemory p q = absurd q

-- both are at the same bytes
one_stop : (bytes : List ℕ) (a b : DecodeFault) → StopsWith bytes a → StopsWith bytes b → a ≡ b
one_stop bytes a b s t =
    let both = same_reading s.read t.read s.rest t.rest s.fits t.fits
    (fault_ends s.rest (slots_in s.read) a s.here) (fault_ends t.rest (slots_in t.read) b t.here) (sym s.parts ∙ t.parts) in
    one_here s.rest (slots_in s.read) a b s.here
    (subst (λ (vs : List Insn). FaultAt s.rest (slots_in vs) b) (sym both.0) (subst (λ (r : List ℕ). FaultAt r (slots_in t.read) b) (sym both.1) t.here))

-- ---- faults of all the bytes

pub one_fault : (bytes : List ℕ) (a b : DecodeFault) → a ≢ NoMemory → b ≢ NoMemory → IsFault bytes a
    → IsFault bytes b → a ≡ b
one_fault bytes NoMemory b m n p q = absurd (m refl)
one_fault bytes a NoMemory m n p q = absurd (n refl)
one_fault bytes BadLength BadLength m n p q = refl
one_fault bytes BadLength b m n p q = absurd (p q.0)
one_fault bytes a BadLength m n p q = absurd (q p.0)
one_fault bytes TooLong TooLong m n p q = refl
one_fault bytes TooLong b m n p q = absurd (omega (arith, p.1, q.1))
one_fault bytes a TooLong m n p q = absurd (omega (arith, p.1, q.1))
one_fault bytes a b m n p q = one_stop bytes a b p.2 q.2
