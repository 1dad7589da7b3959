-- The table of masks goes on by one slot.
use Rattle.std.proofs.Common.{◌≡◌, ℕ, ◌+◌, ◌-◌, ◌^◌, ◌<◌, ◌≤◌, ◌⊎◌, inl, inr, List, [], ◌∷◌, length, min, max, set, Option, Some, None, refl, sym, ap, subst, ◌∙◌, arith, get_or-set_same, get_or-set_other, length-set}
use Rattle.std.proofs.lemmas.Bool.{cases_eq, cases_lt}
use Rattle.std.proofs.lemmas.List.{get_or-replicate, length-replicate}
use Rattle.std.proofs.lemmas.Option.{slice_get_within}
use Rattle.std.specs.Prelude.{IfSome, replicate, slice_get, slice_index, slice_set, bit_and, bit_or}
use Rattle.std.specs.Int.{bit_at, bit_not, trailing_zeros, w16}
use Rattle.std.proofs.lemmas.Nat.Bits.{bit_at_and, bit_at_or, bit_at_not, bit_at-lt, bit_at-trailing_zeros, bit_at_above, bit_at_ones}
use Rattle.bt_insn.specs.declared.register.Register.{Register}
use Rattle.bt_insn.specs.declared.register.Register.TheVariants.{R0, R1, R2, R3, R4, R5, R6, R7, R8, R9, R10}
use Rattle.bt_insn.specs.declared.load_store.AtomicOp.{AtomicOp}
use Rattle.bt_insn.specs.declared.load_store.AtomicOp.TheVariants.{Add, Or, And, Xor, FetchAdd, FetchOr, FetchAnd, FetchXor, Exchange, CompareExchange}
use Rattle.bt_insn.specs.declared.insn.Insn.{Insn}
use Rattle.bt_insn.specs.declared.insn.Insn.TheVariants.{Alu, Neg, MoveSigned, ByteSwap, Jump, JumpIf, Call, Exit, LoadImmediate, LoadMap, Load, LoadSigned, Store, Atomic}
use Rattle.bt_verify.specs.declared.slot.Slot.{Slot}
use Rattle.bt_verify.specs.declared.slot.Slot.TheVariants.{First, Second}
use Rattle.bt_verify.specs.Registers.{just, reads, writes, keeps, atomic_writes}
use Rattle.bt_verify.specs.Flow.{next_of, jump_of, Goes}
use Rattle.bt_verify.specs.Paths.{Steps, IsPath, IsStart, Leads, Runs, after, written, IsUnwritten}
use Rattle.bt_verify.specs.Masks.{Meets, MeetsAt, Passes, IsPathBelow, IsTable, IsLowest}

pub meets_set : (to out : ℕ) (xs : List ℕ) → to < length xs → Meets to out xs (slice_set xs to (bit_and (slice_index xs to) out))
meets_set to out xs h = record {
  long = simp length-set;
  at = λ r. rw get_or-set_same (bit_at_and (slice_index xs to) out r);
  others = λ k ne. rw get_or-set_other refl;
}

-- a least bit of 0 is one of the two
min_zero : (a b : ℕ) → min a b ≡ 0 → (a ≡ 0) ⊎ (b ≡ 0)
min_zero a b h = elim (cases_eq a 0) [ inl e ↦ inl e | inr ne ↦ inr (omega arith) ]

meets_below : (to out : ℕ) (old new : List ℕ) → Meets to out old new → (k r : ℕ) → bit_at (slice_index new k) r ≤ bit_at (slice_index old k) r
meets_below to out old new m k r =
    elim (cases_eq k to) [
      | inl e ↦ rw e (let h = m.at r in omega (arith, h))
      | inr ne ↦ rw (m.others k ne) (omega arith)
    ]

meets_only : (to out : ℕ) (old new : List ℕ) → Meets to out old new → (k r : ℕ) → bit_at (slice_index new k) r ≡ 0 → (bit_at (slice_index old k) r ≡ 0) ⊎ ((k ≡ to) × (bit_at out r ≡ 0))
meets_only to out old new m k r z =
    elim (cases_eq k to) [
      | inl e ↦ elim (min_zero (bit_at (slice_index old to) r) (bit_at out r) (sym (m.at r) ∙ (rw e at z))) [
        | inl a ↦ inl (rw e a)
        | inr b ↦ inr (e, b)
      ]
      | inr ne ↦ inl (sym (ap (λ x. bit_at x r) (m.others k ne)) ∙ z)
    ]

-- what a meeting at one place, or at none, leaves
record Falls (to : Option ℕ) (out : ℕ) (old new : List ℕ) : Type 0 where
  long : length new ≡ length old
  onto : (k r : ℕ) → to ≡ Some k → bit_at (slice_index new k) r ≤ bit_at out r
  below : (k r : ℕ) → bit_at (slice_index new k) r ≤ bit_at (slice_index old k) r
  only : (k r : ℕ) → bit_at (slice_index new k) r ≡ 0 → (bit_at (slice_index old k) r ≡ 0) ⊎ ((to ≡ Some k) × (bit_at out r ≡ 0))

falls : (to : Option ℕ) (out : ℕ) (old new : List ℕ) → MeetsAt to out old new → Falls to out old new
falls None out old new m = rw m record {
  long = refl;
  onto = λ k r e. absurd cc;
  below = λ k r. omega arith;
  only = λ k r z. inl z;
}
falls (Some to) out old new m = record {
  long = m.long;
  onto = λ k r e. let s : to ≡ k = cc in let h = m.at r in rw (← s) (omega (arith, h));
  below = meets_below to out old new m;
  only = λ k r z. elim (meets_only to out old new m k r z) [ inl a ↦ inl a | inr (e, o) ↦ inr (ap (λ n. Some n) (sym e), o) ];
}

pub passes : (insn : Insn) (place out : ℕ) (old mid new : List ℕ) → MeetsAt (next_of place insn) out old mid → MeetsAt (jump_of place insn) out mid new → Passes insn place out old new
passes insn place out old mid new m n =
    let a = falls (next_of place insn) out old mid m in
    let b = falls (jump_of place insn) out mid new n in
    record {
      long = b.long ∙ a.long;
      onto = λ k r g. elim g [ inl e ↦ omega (arith, a.onto k r e, b.below k r) | inr e ↦ b.onto k r e ];
      below = λ k r. omega (arith, a.below k r, b.below k r);
      only = λ k r z. elim (b.only k r z) [
        | inl y ↦ elim (a.only k r y) [ inl x ↦ inl x | inr (e, o) ↦ inr (inl e, o) ]
        | inr (e, o) ↦ inr (inr e, o)
      ];
    }

abbrev some : ℕ → Option ℕ
some n = Some n

some_is : (a b : ℕ) → some a ≡ some b → a ≡ b
some_is a b e = cc

next_above : (insn : Insn) (k to : ℕ) → next_of k insn ≡ Some to → k < to
next_above (Alu w op d s) k to e = omega (arith, some_is (k + 1) to e)
next_above (Neg w d) k to e = omega (arith, some_is (k + 1) to e)
next_above (MoveSigned x d s) k to e = omega (arith, some_is (k + 1) to e)
next_above (ByteSwap o z d) k to e = omega (arith, some_is (k + 1) to e)
next_above (Call h) k to e = omega (arith, some_is (k + 1) to e)
next_above (Load z d s o) k to e = omega (arith, some_is (k + 1) to e)
next_above (LoadSigned z d s o) k to e = omega (arith, some_is (k + 1) to e)
next_above (Store z d s o) k to e = omega (arith, some_is (k + 1) to e)
next_above (Atomic w op d s o) k to e = omega (arith, some_is (k + 1) to e)
next_above (JumpIf w c d s o) k to e = omega (arith, some_is (k + 1) to e)
next_above (LoadImmediate d n) k to e = omega (arith, some_is (k + 2) to e)
next_above (LoadMap d n) k to e = omega (arith, some_is (k + 2) to e)
next_above (Jump d) k to e = absurd cc
next_above Exit k to e = absurd cc

jump_leads : (code : List Slot) (insn : Insn) (k to : ℕ) → Leads code k insn → jump_of k insn ≡ Some to → IsStart code to × (k < to)
jump_leads code insn k to h e = rw e at h.jump

-- every successor is above
pub ahead : (code : List Slot) (insn : Insn) (k to : ℕ) → Leads code k insn → Goes insn k to → k < to
ahead code insn k to h (inl e) = next_above insn k to e
ahead code insn k to h (inr e) = (jump_leads code insn k to h e).1

-- each slot of a path to k is below k
pub below_target : (code : List Slot) (p : List ℕ) (k : ℕ) → Runs code → IsPath code p k → IsPathBelow code k p k
below_target code [] k runs h = h
below_target code (j ∷ js) k runs h = (ahead code h.0.0 j k (runs.each j h.0.0 h.0.1) h.0.2, h.0, h.1)

pub any_path : (code : List Slot) (i k : ℕ) (p : List ℕ) → IsPathBelow code i p k → IsPath code p k
any_path code i k [] h = h
any_path code i k (j ∷ js) h = (h.1, h.2)

wider : (code : List Slot) (i k : ℕ) (p : List ℕ) → IsPathBelow code i p k → IsPathBelow code (i + 1) p k
wider code i k [] h = h
wider code i k (j ∷ js) h = (omega (arith, h.0), h.1, h.2)

-- ---- one slot further

abbrev the_slot : Insn → Option Slot
the_slot insn = Some (First insn)

same_insn : (a b : Insn) → the_slot a ≡ the_slot b → a ≡ b
same_insn a b e = cc

-- the bits that go on
out_bits : (mask out : ℕ) (insn : Insn) → out ≡ bit_or (bit_and mask (keeps insn)) (writes insn) → (r : ℕ) → bit_at out r ≡ max (min (bit_at mask r) (bit_at (keeps insn) r)) (bit_at (writes insn) r)
out_bits mask out insn e r = rw e (bit_at_or (bit_and mask (keeps insn)) (writes insn) r ∙ ap (λ x. max x (bit_at (writes insn) r)) (bit_at_and mask (keeps insn) r))

written_on : (code : List Slot) (j r : ℕ) (js : List ℕ) (insn : Insn) → slice_get code j ≡ Some (First insn) → written code (j ∷ js) r ≡ max (min (written code js r) (bit_at (keeps insn) r)) (bit_at (writes insn) r)
written_on code j r js insn e = rw e refl

-- a path whose last slot is i
covers_on : (code : List Slot) (i k r : ℕ) (js old new : List ℕ) (out : ℕ) (insn : Insn) → Runs code → IsTable code i old → i < length code → slice_get code i ≡ Some (First insn) → out ≡ bit_or (bit_and (slice_index old i) (keeps insn)) (writes insn) → Passes insn i out old new → Steps code i k → IsPath code js i → bit_at (slice_index new k) r ≤ written code (i ∷ js) r
covers_on code i k r js old new out insn runs t within here e p steps path =
    let same : steps.0 ≡ insn = same_insn steps.0 insn (sym steps.1 ∙ here) in
    let goes : Goes insn i k = rw same at steps.2 in
    let onto = p.onto k r goes in
    let bits = out_bits (slice_index old i) out insn e r in
    let before = t.covers i r js within (below_target code js i runs path) in
    let after_is = written_on code i r js insn here in
    omega (arith, onto, bits, before, after_is)

-- the slot i is passed on
pub table_goes : (code : List Slot) (i : ℕ) (old new : List ℕ) (out : ℕ) (insn : Insn) → Runs code → IsTable code i old → i < length code → slice_get code i ≡ Some (First insn) → bit_at (slice_index old i) 15 ≡ 0 → out ≡ bit_or (bit_and (slice_index old i) (keeps insn)) (writes insn) → Passes insn i out old new → IsTable code (i + 1) new
table_goes code i old new out insn runs t within here live e p = record {
  long = p.long ∙ t.long;
  covers = covers_all;
  reached = λ k r kl r16 z. elim (p.only k r z) [
    | inl y ↦ (let f = t.reached k r kl r16 y in (f.0, wider code i k f.0 f.1, f.2))
    | inr (g, o) ↦ reach k r r16 g o
  ];
}
  where
    covers_all : (k r : ℕ) (q : List ℕ) → k < length code → IsPathBelow code (i + 1) q k → bit_at (slice_index new k) r ≤ written code q r
    covers_all k r [] kl h = omega (arith, t.covers k r [] kl h, p.below k r)
    covers_all k r (j ∷ js) kl h =
        elim (cases_eq j i) [
          | inl same ↦ (let P : ℕ → Type 0 = λ n. Steps code n k × IsPath code js n in let moved : P i = subst P same (h.1, h.2) in rw same (covers_on code i k r js old new out insn runs t within here e p moved.0 moved.1))
          | inr ne ↦ omega (arith, t.covers k r (j ∷ js) kl (omega (arith, h.0), h.1, h.2), p.below k r)
        ]

    goes_on : (k r : ℕ) (q : List ℕ) → Goes insn i k → IsPathBelow code i q i → max (min (written code q r) (bit_at (keeps insn) r)) (bit_at (writes insn) r) ≡ 0 → (q' : List ℕ) × IsPathBelow code (i + 1) q' k × (written code q' r ≡ 0)
    goes_on k r q g path z = (i ∷ q, (omega arith, (insn, here, g), any_path code i i q path), written_on code i r q insn here ∙ z)

    reach : (k r : ℕ) → r < 16 → Goes insn i k → bit_at out r ≡ 0 → (q : List ℕ) × IsPathBelow code (i + 1) q k × (written code q r ≡ 0)
    reach k r r16 g o =
        let bits = out_bits (slice_index old i) out insn e r in
        let none : bit_at (writes insn) r ≡ 0 = omega (arith, bits, o) in
        let both : min (bit_at (slice_index old i) r) (bit_at (keeps insn) r) ≡ 0 = omega (arith, bits, o) in
        elim (min_zero (bit_at (slice_index old i) r) (bit_at (keeps insn) r) both) [
          | inl a ↦ (let f = t.reached i r within r16 a in goes_on k r f.0 g f.1 (omega (arith, f.2, none)))
          | inr b ↦ (let f = t.reached i 15 within (omega arith) live in goes_on k r f.0 g f.1 (omega (arith, b, none)))
        ]

-- no path goes on from the slot i
pub table_skips : (code : List Slot) (i : ℕ) (masks : List ℕ) → IsTable code i masks → ((k : ℕ) (js : List ℕ) → Steps code i k → IsPath code js i → ⊥) → IsTable code (i + 1) masks
table_skips code i masks t none = record {
  long = t.long;
  covers = covers_all;
  reached = λ k r kl r16 z. let f = t.reached k r kl r16 z in (f.0, wider code i k f.0 f.1, f.2);
}
  where
    covers_all : (k r : ℕ) (q : List ℕ) → k < length code → IsPathBelow code (i + 1) q k → bit_at (slice_index masks k) r ≤ written code q r
    covers_all k r [] kl h = t.covers k r [] kl h
    covers_all k r (j ∷ js) kl h =
        elim (cases_eq j i) [
          | inl same ↦ (let P : ℕ → Type 0 = λ n. Steps code n k × IsPath code js n in let moved : P i = subst P same (h.1, h.2) in absurd (none k js moved.0 moved.1))
          | inr ne ↦ t.covers k r (j ∷ js) kl (omega (arith, h.0), h.1, h.2)
        ]

-- ---- bit 15 is no register

dst_15 : (r : Register) → bit_at (just r) 15 ≡ 0
dst_15 R0 = refl
dst_15 R1 = refl
dst_15 R2 = refl
dst_15 R3 = refl
dst_15 R4 = refl
dst_15 R5 = refl
dst_15 R6 = refl
dst_15 R7 = refl
dst_15 R8 = refl
dst_15 R9 = refl
dst_15 R10 = refl

atomic_15 : (op : AtomicOp) (r : Register) → bit_at (atomic_writes op r) 15 ≡ 0
atomic_15 Add r = refl
atomic_15 Or r = refl
atomic_15 And r = refl
atomic_15 Xor r = refl
atomic_15 CompareExchange r = refl
atomic_15 FetchAdd r = dst_15 r
atomic_15 FetchOr r = dst_15 r
atomic_15 FetchAnd r = dst_15 r
atomic_15 FetchXor r = dst_15 r
atomic_15 Exchange r = dst_15 r

writes_15 : (insn : Insn) → bit_at (writes insn) 15 ≡ 0
writes_15 (Alu w op d s) = dst_15 d
writes_15 (Neg w d) = dst_15 d
writes_15 (MoveSigned x d s) = dst_15 d
writes_15 (ByteSwap o z d) = dst_15 d
writes_15 (Load z d s o) = dst_15 d
writes_15 (LoadSigned z d s o) = dst_15 d
writes_15 (LoadImmediate d n) = dst_15 d
writes_15 (LoadMap d n) = dst_15 d
writes_15 (Call h) = refl
writes_15 (Jump d) = refl
writes_15 (JumpIf w c d s o) = refl
writes_15 (Store z d s o) = refl
writes_15 Exit = refl
writes_15 (Atomic w op d s o) = atomic_15 op s

after_15 : (o : Option Slot) (before : ℕ) → before ≡ 0 → after o 15 before ≡ 0
after_15 None b e = e
after_15 (Some Second) b e = e
after_15 (Some (First insn)) b e = omega (arith, e, writes_15 insn)

written_15 : (code : List Slot) (p : List ℕ) → written code p 15 ≡ 0
written_15 code [] = refl
written_15 code (j ∷ js) = after_15 (slice_get code j) (written code js 15) (written_15 code js)

-- no path comes to a slot whose bit 15 is set
pub no_path : (code : List Slot) (i : ℕ) (masks : List ℕ) → Runs code → IsTable code i masks → i < length code → bit_at (slice_index masks i) 15 ≡ 1 → (p : List ℕ) → IsPath code p i → ⊥
no_path code i masks runs t within dead p path = omega (arith, t.covers i 15 p within (below_target code p i runs path), written_15 code p, dead)

pub no_steps_from_second : (code : List Slot) (i k : ℕ) → slice_get code i ≡ Some Second → Steps code i k → ⊥
no_steps_from_second code i k e s = let f = s.1 in cc

-- ---- what an instruction lacks

lacking_bit : (mask reads r : ℕ) → mask < 2 ^ 16 → r < 16 → bit_at (bit_and reads (bit_not w16 mask)) r ≡ min (bit_at reads r) (1 - bit_at mask r)
lacking_bit mask reads r m h = bit_at_and reads (bit_not w16 mask) r ∙ ap (λ x. min (bit_at reads r) x) (bit_at_not w16 mask r m h)

pub lacks : (code : List Slot) (i r : ℕ) (masks : List ℕ) (insn : Insn) → Runs code → IsTable code i masks → i < length code → slice_index masks i < 2 ^ 16 → slice_get code i ≡ Some (First insn) → r < 11 → IsUnwritten code i r → bit_at (bit_and (reads insn) (bit_not w16 (slice_index masks i))) r ≡ 1
lacks code i r masks insn runs t within fits here r11 u =
    let same : u.insn ≡ insn = same_insn u.insn insn (sym u.stands ∙ here) in
    let read : bit_at (reads insn) r ≡ 1 = rw same at u.read in
    omega (arith, lacking_bit (slice_index masks i) (reads insn) r fits (omega arith), read, t.covers i r u.path within (below_target code u.path i runs u.leads), u.unwritten)

pub is_lacking : (code : List Slot) (i r : ℕ) (masks : List ℕ) (insn : Insn) → IsTable code i masks → i < length code → slice_index masks i < 2 ^ 16 → slice_get code i ≡ Some (First insn) → r < 11 → bit_at (bit_and (reads insn) (bit_not w16 (slice_index masks i))) r ≡ 1 → IsUnwritten code i r
is_lacking code i r masks insn t within fits here r11 e =
    let bits = lacking_bit (slice_index masks i) (reads insn) r fits (omega arith) in
    let clear : bit_at (slice_index masks i) r ≡ 0 = omega (arith, bits, e) in
    let f = t.reached i r within (omega arith) clear in
    record { insn = insn; stands = here; register = r11; read = omega (arith, bits, e, bit_at-lt (reads insn) r); path = f.0; leads = any_path code i i f.0 f.1; unwritten = f.2 }

pub second_reads_nothing : (code : List Slot) (i r : ℕ) → slice_get code i ≡ Some Second → IsUnwritten code i r → ⊥
second_reads_nothing code i r e u = let f = u.stands in cc

pub not_one : (n i : ℕ) → (bit_at n i ≡ 1 → ⊥) → bit_at n i ≡ 0
not_one n i h = let lt = bit_at-lt n i in omega (arith, h, lt)

pub starts_within : (code : List Slot) (masks : List ℕ) (o : Option ℕ) → length masks ≡ length code → IfSome o (λ to. IsStart code to) → IfSome o (λ to. to < length masks)
starts_within code masks None e h = h
starts_within code masks (Some to) e h = let w = slice_get_within code to (First h.0) h.1 in omega (arith, w, e)

pub arrives_within : (code : List Slot) (masks : List ℕ) (k : ℕ) (o : Option ℕ) → length masks ≡ length code → IfSome o (λ to. IsStart code to × (k < to)) → IfSome o (λ to. to < length masks)
arrives_within code masks k None e h = h
arrives_within code masks k (Some to) e h = let w = slice_get_within code to (First h.0.0) h.0.1 in omega (arith, w, e)

pub lowest : (n : ℕ) → (n ≡ 0 → ⊥) → n < 2 ^ 11 → IsLowest n (trailing_zeros w16 n)
lowest n ne lt =
    let f = bit_at-trailing_zeros w16 n (omega (arith, ne)) (omega (arith, lt)) in
    record {
      register = elim (cases_lt (trailing_zeros w16 n) 11) [ inl a ↦ a | inr b ↦ absurd (omega (arith, bit_at_above n 11 (trailing_zeros w16 n) lt b, f.1)) ];
      set = f.1;
      least = f.2;
    }

-- before the first slot
pub first_table : (code : List Slot) (masks : List ℕ) → 0 < length code → masks ≡ set (replicate (length code) 65535) 0 1026 → IsTable code 0 masks
first_table code masks inside e = record {
  long = rw e (simp (length-set, length-replicate));
  covers = covers_all;
  reached = λ k r kl r16 z. elim (cases_eq k 0) [
    | inl k0 ↦ ([], k0, sym (ap (λ x. bit_at x r) at_start) ∙ rw k0 at z)
    | inr ne ↦ absurd (omega (arith, z, ap (λ x. bit_at x r) (elsewhere k ne kl), bit_at_ones 16 r r16))
  ];
}
  where
    at_start : slice_index masks 0 ≡ 1026
    at_start = let base : List ℕ = replicate (length code) 65535 in let lt : 0 < length base = simp length-replicate inside in rw e (get_or-set_same base 0 1026 0 lt)

    elsewhere : (k : ℕ) → (k ≡ 0 → ⊥) → k < length code → slice_index masks k ≡ 65535
    elsewhere k ne kl = rw e (rw get_or-set_other (get_or-replicate (length code) k 65535 0 kl))

    covers_all : (k r : ℕ) (p : List ℕ) → k < length code → IsPathBelow code 0 p k → bit_at (slice_index masks k) r ≤ written code p r
    covers_all k r [] kl h = rw h (rw at_start (omega arith))
    covers_all k r (j ∷ js) kl h = absurd (omega (arith, h.0))
