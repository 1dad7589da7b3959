-- Moments on a new base: their exchanges begin so many records earlier.
use Rattle.std.proofs.Common.{◌≡◌, inl, inr, ℕ, zero, suc, ◌+◌, ◌-◌, ◌<◌, ◌≤◌, List, [], ◌∷◌, ◌++◌, length, map as each, take, drop, reverse, refl, sym, ◌∙◌, ap, ap₂, subst, arith}
use Rattle.std.proofs.lemmas.List.{append_assoc, take_all, take-append-drop, take-map, drop-map, length-append, length-map, length-drop, length-take-le}
use Rattle.std.proofs.lemmas.Bool.{cases_lt}
use Rattle.host_state.specs.State.{State}
use Rattle.host_state.specs.World.{Ready}
use Rattle.journal_model.specs.Replay.{Entry}
use Rattle.journal_model.specs.Plain.{Past}
use Rattle.journal_model.specs.Well.{Each}
use Rattle.journal_record.specs.After.{after, state_after}
use Rattle.journal_record.specs.Recorded.{Recorded}
use Rattle.journal_moments.specs.Line.{entry_of, entries, AllStanding, AllLying, stood, behind, between, under, swapped, IsSpared, ExchangesOne, CanSwap, Up, other_force, past, pasts_up}
use Rattle.journal_moments.specs.Lowered.{IsLowered, AllLowered}
use Rattle.journal_moments.specs.Rebased.{AllBegin, shortened}
use Rattle.journal_moments.specs.MomentView.{MomentView}
use Rattle.journal_moments.proofs.CutLemmas.{take-overlap, drop-append, drop-taken, nothing_dropped, reverse-taken, length-behind, behind-map, in_three, behind-dropped, between-dropped, take_reach, same_next}
use Rattle.journal_record.proofs.LineLemmas.{state_after-append, entries-append}
use Rattle.journal_moments.proofs.SwapLemmas.{entries-swapped, one_of_two}

-- ---- records turned back past the first so many
AllLying-drop : (ready : Ready) (n : ℕ) (s : State) (rs : List Recorded) → AllLying ready s rs → AllLying ready (state_after s (entries (take n rs))) (drop n rs)
AllLying-drop ready zero s rs h = h
AllLying-drop ready (suc n) s [] h = tt
AllLying-drop ready (suc n) s (r ∷ rs) h = AllLying-drop ready n (after s r.entry) rs h.1

drop-stood : (n : ℕ) (s : State) (rs : List Recorded) → drop n (stood s rs) ≡ stood (state_after s (entries (take n rs))) (drop n rs)
drop-stood zero s rs = refl
drop-stood (suc n) s [] = refl
drop-stood (suc n) s (r ∷ rs) = drop-stood n (after s r.entry) rs

after_both : (s : State) (xs ys : List Recorded) → state_after s (entries (xs ++ ys)) ≡ state_after (state_after s (entries xs)) (entries ys)
after_both s xs ys = ap (state_after s) (entries-append xs ys) ∙ state_after-append s (entries xs) (entries ys)

-- ---- one moment
abbrev pub reached : List Recorded → MomentView → List Recorded
reached rs m = take m.at rs ++ reverse m.other

other_lowered : (n : ℕ) (m l : MomentView) → IsLowered n m l → reverse l.other ≡ drop (n - m.at) (reverse m.other)
other_lowered n m l h = ap reverse h.other ∙ reverse-taken (n - m.at) m.other

-- the state from which its exchange begins
begins_at : (base top : State) (rs : List Recorded) (n : ℕ) (m l : MomentView) → IsLowered n m l → m.at ≤ length rs → top ≡ state_after base (entries (take n (reached rs m))) →
    state_after top (entries (take l.at (drop n rs))) ≡ state_after (state_after base (entries (take m.at rs))) (entries (take (n - m.at) (reverse m.other)))
begins_at base top rs n m l h within is =
    let xs : List Recorded = take m.at rs in
    let ys : List Recorded = reverse m.other in
    ap₂ (λ v i. state_after v (entries (take i (drop n rs)))) is h.at
    ∙ ap (λ zs. state_after (state_after base (entries (take n (xs ++ ys)))) (entries zs)) (sym (drop-taken n m.at rs))
    ∙ sym (after_both base (take n (xs ++ ys)) (drop n xs))
    ∙ ap (λ zs. state_after base (entries zs)) (take-overlap n xs ys)
    ∙ ap (λ i. state_after base (entries (xs ++ take (n - i) ys))) (length-take-le m.at rs within)
    ∙ after_both base xs (take (n - m.at) ys)

-- and where it ends, below the records that stay
ends_at : (base top : State) (rs : List Recorded) (n : ℕ) (m l : MomentView) → IsLowered n m l → m.at ≤ length rs → top ≡ state_after base (entries (take n (reached rs m))) →
    state_after (under top (drop n rs) l) (entries (reverse l.other)) ≡ state_after (under base rs m) (entries (reverse m.other))
ends_at base top rs n m l h within is =
    let s : State = under base rs m in
    let ys : List Recorded = reverse m.other in
    (λ i. state_after (begins_at base top rs n m l h within is i) (entries (other_lowered n m l h i)))
    ∙ sym (after_both s (take (n - m.at) ys) (drop (n - m.at) ys))
    ∙ ap (λ zs. state_after s (entries zs)) (take-append-drop (n - m.at) ys)

-- none of the records that go is among those that a moment leaves in place, nor the one that it exchanges below them
abbrev pub Reaches : ℕ → MomentView → Type 0
Reaches n m = 0 < m.stays → n ≤ m.at

within_past : (n at stays len : ℕ) → at + stays ≤ len → (0 < stays → n ≤ at) → (at - n) + stays ≤ len - n
within_past n at zero len within reach = omega (arith, within)
within_past n at (suc k) len within reach = let below : n ≤ at = reach (omega arith) in omega (arith, within, below)

none_past : (n at held stays : ℕ) → (0 < stays → n ≤ at) → 0 < n - at - held → stays ≡ 0
none_past n at held zero reach more = refl
none_past n at held (suc k) reach more = let below : n ≤ at = reach (omega arith) in absurd (omega (arith, more, below))

one_stays : (n : ℕ) (rs : List Recorded) (m l : MomentView) → IsLowered n m l → m.at + m.stays ≤ length rs → n ≤ m.at → ExchangesOne rs m → ExchangesOne (drop n rs) l
one_stays n rs m l h within below k =
    let other : l.other ≡ m.other = h.other ∙ take_all (length m.other - (n - m.at)) m.other (omega (arith, below)) in
    record {
      one = k.one;
      only = (λ i. between (h.at i) (h.stays i) (drop n rs) ++ other i) ∙ ap (λ xs. xs ++ m.other) (between-dropped n m.at m.stays rs within below) ∙ k.only;
      keyed = k.keyed;
      spared = subst (Each (IsSpared k.one)) (sym (ap (λ j. behind j (drop n rs)) h.stays ∙ behind-dropped n m.at m.stays rs within (λ some. below))) k.spared;
    }

pub CanSwap-lowered : (ready : Ready) (base top : State) (rs : List Recorded) (room n : ℕ) (m l : MomentView) → IsLowered n m l → Reaches n m → top ≡ state_after base (entries (take n (reached rs m))) → CanSwap ready base rs room m → CanSwap ready top (drop n rs) room l
CanSwap-lowered ready base top rs room n m l h reach is k =
    let ys : List Recorded = reverse m.other in
    let rest : length (drop n rs) ≡ length rs - n = length-drop n rs in
    let fewer : length l.other ≡ length m.other - (n - m.at) = ap length h.other ∙ length-take-le (length m.other - (n - m.at)) m.other (omega arith) in
    record {
      within = omega (arith, h.at, h.stays, rest, within_past n m.at m.stays (length rs) k.within reach);
      lying = subst (λ v. AllLying ready v (reverse l.other)) (sym (begins_at base top rs n m l h (omega (arith, k.within)) is))
          (subst (AllLying ready _) (sym (other_lowered n m l h)) (AllLying-drop ready (n - m.at) (state_after base (entries (take m.at rs))) ys k.lying));
      standing = subst (AllStanding ready (state_after (under top (drop n rs) l) (entries (reverse l.other)))) (sym (ap (λ j. behind j (drop n rs)) h.stays ∙ behind-dropped n m.at m.stays rs k.within reach))
          (subst (λ v. AllStanding ready v (behind m.stays rs)) (sym (ends_at base top rs n m l h (omega (arith, k.within)) is)) k.standing);
      one = λ some. one_stays n rs m l h k.within (reach (omega (arith, some, h.stays))) (k.one (omega (arith, some, h.stays)));
      room_back = omega (arith, h.at, h.stays, rest, k.room_back, h.room);
      room_forth = omega (arith, h.at, h.stays, fewer, k.room_forth);
    }

pub swapped-lowered : (ready : Ready) (base top : State) (rs : List Recorded) (room n : ℕ) (m l : MomentView) → IsLowered n m l → Reaches n m → top ≡ state_after base (entries (take n (reached rs m))) → CanSwap ready base rs room m → swapped top (drop n rs) l ≡ drop n (swapped base rs m)
swapped-lowered ready base top rs room n m l h reach is k =
    let s : State = under base rs m in
    let ys : List Recorded = reverse m.other in
    let front : List Recorded = take m.at rs in
    let rear : List Recorded = behind m.stays rs in
    let within : m.at ≤ length rs = omega (arith, k.within) in
    let rear_length : length rear ≡ m.stays = length-behind m.stays rs (omega (arith, k.within)) in
    let still : drop (n - m.at - length (stood s ys)) rear ≡ rear = nothing_dropped (n - m.at - length (stood s ys)) rear (λ more. rear_length ∙ none_past n m.at (length (stood s ys)) m.stays reach more) in
    (λ i. take (h.at i) (drop n rs) ++ (stood (begins_at base top rs n m l h within is i) (other_lowered n m l h i) ++ behind (h.stays i) (drop n rs)))
    ∙ (λ i. sym (drop-taken n m.at rs) i ++ (sym (drop-stood (n - m.at) s ys) i ++ behind-dropped n m.at m.stays rs k.within reach i))
    ∙ ap (λ zs. drop n front ++ (drop (n - m.at) (stood s ys) ++ zs)) (sym still)
    ∙ ap (λ zs. drop n front ++ zs) (sym (drop-append (n - m.at) (stood s ys) rear))
    ∙ ap (λ i. drop n front ++ drop (n - i) (stood s ys ++ rear)) (sym (length-take-le m.at rs within))
    ∙ sym (drop-append n front (stood s ys ++ rear))

-- its list in force begins with the changes that the new base has taken in
pub force_from : (force : List Entry) (rs : List Recorded) (m : MomentView) → Reaches (length force) m → m.at ≤ length rs → take (length force) (other_force (entries rs) m) ≡ force → force ≡ entries (take (length force) (reached rs m))
force_from force rs m reach within b =
    let n : ℕ = length force in
    let es : List Entry = take m.at (entries rs) ++ entries (reverse m.other) in
    sym b
    ∙ ap (take n) (sym (append_assoc (take m.at (entries rs)) (entries (reverse m.other)) (behind m.stays (entries rs))))
    ∙ take_reach n m.stays m.at es (entries rs) (omega (arith, length-append (take m.at (entries rs)) (entries (reverse m.other)), length-take-le m.at (entries rs) (omega (arith, within, length-map rs entry_of)))) reach
    ∙ ap (λ fs. take n (fs ++ entries (reverse m.other))) (take-map entry_of m.at rs)
    ∙ ap (take n) (sym (entries-append (take m.at rs) (reverse m.other)))
    ∙ take-map entry_of n (reached rs m)

pub force_lowered : (ready : Ready) (base top : State) (rs : List Recorded) (room n : ℕ) (m l : MomentView) → IsLowered n m l → Reaches n m → top ≡ state_after base (entries (take n (reached rs m))) → CanSwap ready base rs room m → other_force (drop n (entries rs)) l ≡ drop n (other_force (entries rs) m)
force_lowered ready base top rs room n m l h reach is k =
    ap (λ es. other_force es l) (drop-map entry_of n rs)
    ∙ sym (entries-swapped top (drop n rs) l)
    ∙ ap entries (swapped-lowered ready base top rs room n m l h reach is k)
    ∙ sym (drop-map entry_of n (swapped base rs m))
    ∙ ap (drop n) (entries-swapped base rs m)

pub past_lowered : (base : State) (force es : List Entry) (m l : MomentView) → IsLowered (length force) m l → take (length force) es ≡ force → past (state_after base force) (drop (length force) es) l ≡ shortened force (past base es m)
past_lowered base force es m l h b =
    ap (λ i. let p : Past = record { serial = i; out = l.out; force = drop (length force) es; state = state_after (state_after base force) (drop (length force) es) } in p) h.serial
    ∙ ap (λ o. let p : Past = record { serial = m.serial; out = o; force = drop (length force) es; state = state_after (state_after base force) (drop (length force) es) } in p) h.out
    ∙ ap (λ v. let p : Past = record { serial = m.serial; out = m.out; force = drop (length force) es; state = v } in p)
    (sym (state_after-append base force (drop (length force) es)) ∙ ap (λ fs. state_after base (fs ++ drop (length force) es)) (sym b) ∙ ap (state_after base) (take-append-drop (length force) es))

-- both of its lists in force begin with those changes, so they end below what it exchanges: it leaves other changes after it
module _ (ready : Ready) (base : State) (force : List Entry) (rs : List Recorded) (room : ℕ) (m : MomentView) (k : CanSwap ready base rs room m) (here : take (length force) (entries rs) ≡ force)
    (there : take (length force) (other_force (entries rs) m) ≡ force) where
  front : List Entry
  front = entries (take m.at rs)

  length-front : length front ≡ m.at
  unfolding front
  length-front = length-map (take m.at rs) entry_of ∙ length-take-le m.at rs (omega (arith, k.within))

  before : (z : Recorded) (zs : List Recorded) → behind m.stays rs ≡ z ∷ zs → entries rs ≡ front ++ (entries (between m.at m.stays rs) ++ z.entry ∷ entries zs)
  unfolding front
  before z zs rear =
      ap entries (sym (in_three m.at m.stays rs k.within))
      ∙ entries-append (take m.at rs) (between m.at m.stays rs ++ behind m.stays rs)
      ∙ ap (λ es. entries (take m.at rs) ++ es) (entries-append (between m.at m.stays rs) (behind m.stays rs) ∙ ap (λ xs. entries (between m.at m.stays rs) ++ entries xs) rear)

  then : (z : Recorded) (zs : List Recorded) → behind m.stays rs ≡ z ∷ zs → other_force (entries rs) m ≡ front ++ (entries (reverse m.other) ++ z.entry ∷ entries zs)
  unfolding front
  then z zs rear = λ i. take-map entry_of m.at rs i ++ (entries (reverse m.other) ++ (behind-map entry_of m.stays rs ∙ ap entries rear) i)

  -- the first of those that stay is of the same change as the one
  meets : (h : ExchangesOne rs m) (z : Recorded) (zs : List Recorded) → behind m.stays rs ≡ z ∷ zs → m.at < length force → h.one.entry ≡ z.entry
  meets h z zs rear past = elim (one_of_two (between m.at m.stays rs) m.other h.one h.only) [ inl e ↦ goes e | inr e ↦ sym (comes e) ]
    where
      both : (xs ys : List Recorded) → between m.at m.stays rs ≡ xs → m.other ≡ ys → take (length force) (front ++ (entries xs ++ z.entry ∷ entries zs)) ≡ take (length force) (front ++ (entries (reverse ys) ++ z.entry ∷ entries zs))
      both xs ys e f =
          sym (λ i. take (length force) (front ++ (entries (e i) ++ z.entry ∷ entries zs)))
          ∙ ap (take (length force)) (sym (before z zs rear))
          ∙ here
          ∙ sym there
          ∙ ap (take (length force)) (then z zs rear)
          ∙ (λ i. take (length force) (front ++ (entries (reverse (f i)) ++ z.entry ∷ entries zs)))

      goes : (between m.at m.stays rs ≡ h.one ∷ []) × (m.other ≡ []) → h.one.entry ≡ z.entry
      goes e = same_next (length force) front h.one.entry z.entry (z.entry ∷ entries zs) (entries zs) (omega (arith, length-front, past)) (both (h.one ∷ []) [] e.0 e.1)

      comes : (between m.at m.stays rs ≡ []) × (m.other ≡ h.one ∷ []) → z.entry ≡ h.one.entry
      comes e = same_next (length force) front z.entry h.one.entry (entries zs) (z.entry ∷ entries zs) (omega (arith, length-front, past)) (both [] (h.one ∷ []) e.0 e.1)

  never_past : (h : ExchangesOne rs m) → 0 < m.stays → m.at < length force → (xs : List Recorded) → behind m.stays rs ≡ xs → ⊥
  never_past h some past [] rear = let none : length (behind m.stays rs) ≡ 0 = ap length rear in omega (arith, none, some, length-behind m.stays rs (omega (arith, k.within)))
  never_past h some past (z ∷ zs) rear =
      let spared : Each (IsSpared h.one) (z ∷ zs) = subst (Each (IsSpared h.one)) rear h.spared in
      spared.0.serials (ap (λ (e : Entry). e.serial) (meets h z zs rear past))

  pub reaches : Reaches (length force) m
  reaches some = elim (cases_lt m.at (length force)) [ inl past ↦ absurd (never_past (k.one some) some past (behind m.stays rs) refl) | inr below ↦ below ]

-- ---- one moment after the other
module _ (ready : Ready) (base : State) (force : List Entry) (room : ℕ) where
  abbrev n : ℕ
  n = length force

  abbrev top : State
  top = state_after base force

  -- where one moment leads on from records that begin with those changes
  pub record Leaves (rs : List Recorded) (m : MomentView) : Type 0 where
    pub reach : Reaches n m
    pub is : top ≡ state_after base (entries (take n (reached rs m)))
    pub next : take n (entries (swapped base rs m)) ≡ force

  pub leaves : (rs : List Recorded) (m : MomentView) → CanSwap ready base rs room m → take n (entries rs) ≡ force → take n (other_force (entries rs) m) ≡ force → Leaves rs m
  leaves rs m k here there =
      let reach : Reaches n m = reaches ready base force rs room m k here there in
      record {
        reach = reach;
        is = ap (state_after base) (force_from force rs m reach (omega (arith, k.within)) there);
        next = ap (take n) (entries-swapped base rs m) ∙ there;
      }

  pub Up-lowered : (rs : List Recorded) (ms ls : List MomentView) → AllLowered n ms ls → take n (entries rs) ≡ force → AllBegin force (pasts_up base (entries rs) ms) → Up ready base rs room ms → Up ready top (drop n rs) room ls
  Up-lowered rs [] [] a here b h = tt
  Up-lowered rs [] (l ∷ ls) a here b h = absurd a
  Up-lowered rs (m ∷ ms) [] a here b h = absurd a
  Up-lowered rs (m ∷ ms) (l ∷ ls) a here b h =
      let x : Leaves rs m = leaves rs m h.0 here b.0 in
      let rest : AllBegin force (pasts_up base (entries (swapped base rs m)) ms) = subst (λ es. AllBegin force (pasts_up base es ms)) (sym (entries-swapped base rs m)) b.1 in (
        CanSwap-lowered ready base top rs room n m l a.0 x.reach x.is h.0,
        subst (λ xs. Up ready top xs room ls) (sym (swapped-lowered ready base top rs room n m l a.0 x.reach x.is h.0)) (Up-lowered (swapped base rs m) ms ls a.1 x.next rest h.1),
      )

  pub pasts-lowered : (rs : List Recorded) (ms ls : List MomentView) → AllLowered n ms ls → take n (entries rs) ≡ force → AllBegin force (pasts_up base (entries rs) ms) → Up ready base rs room ms
      → pasts_up top (drop n (entries rs)) ls ≡ each (shortened force) (pasts_up base (entries rs) ms)
  pasts-lowered rs [] [] a here b h = refl
  pasts-lowered rs [] (l ∷ ls) a here b h = absurd a
  pasts-lowered rs (m ∷ ms) [] a here b h = absurd a
  pasts-lowered rs (m ∷ ms) (l ∷ ls) a here b h =
      let es : List Entry = other_force (entries rs) m in
      let x : Leaves rs m = leaves rs m h.0 here b.0 in
      let rest : AllBegin force (pasts_up base (entries (swapped base rs m)) ms) = subst (λ fs. AllBegin force (pasts_up base fs ms)) (sym (entries-swapped base rs m)) b.1 in
      let later : pasts_up top (drop n es) ls ≡ each (shortened force) (pasts_up base es ms) =
      subst (λ fs. pasts_up top (drop n fs) ls ≡ each (shortened force) (pasts_up base fs ms)) (entries-swapped base rs m) (pasts-lowered (swapped base rs m) ms ls a.1 x.next rest h.1) in
      ap (λ fs. past top fs l ∷ pasts_up top fs ls) (force_lowered ready base top rs room n m l a.0 x.reach x.is h.0)
      ∙ ap₂ (λ p ps. p ∷ ps) (past_lowered base force es m l a.0 b.0) later
