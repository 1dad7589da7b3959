-- What the exchange of a moment leaves in place, and that it can be exchanged again.
use Rattle.std.proofs.Common.{◌≡◌, ◌⊎◌, inl, inr, ◌+◌, ◌-◌, ◌≤◌, true, List, [], ◌∷◌, ◌++◌, length, take, reverse, refl, sym, ◌∙◌, ap, subst, arith, ℕ}
use Rattle.std.proofs.lemmas.List.{append-nil, reverse-reverse, append_assoc, take-map, take_at, length-take-le, length-append, length-reverse}
use Rattle.host_state.specs.State.{State}
use Rattle.host_state.specs.World.{Ready}
use Rattle.host_undoing.specs.declared.undoing.Undoing.{Undoing}
use Rattle.host_undoing.specs.Exchange.{back_of}
use Rattle.host_apart.specs.Spots.{back_of_part, is_keyed_back, are_apart}
use Rattle.host_apart.proofs.TurnedLemmas.{keyed_turned, apart_turned}
use Rattle.journal_model.specs.Replay.{Entry}
use Rattle.journal_model.specs.Well.{Each}
use Rattle.journal_record.specs.After.{after, state_after}
use Rattle.journal_record.specs.Recorded.{Recorded}
use Rattle.journal_moments.specs.Line.{entry_of, entries, lay, stand, AllStanding, AllLying, laid, stood, Leads, behind, between, under, swapped, IsSpared, ExchangesOne, CanSwap, Exchanged, Down, Up, other_force}
use Rattle.journal_moments.specs.MomentView.{MomentView}
use Rattle.journal_moments.proofs.CutLemmas.{length-behind, behind-none, behind-append, behind-map, length-between, between-append, in_three}
use Rattle.journal_record.proofs.LineLemmas.{state_after-append, entries-append, entries-laid, entries-stood, stood-laid, AllLying-laid, AllStanding-stood, AllStanding-append, AllStanding-front, AllStanding-rest, length-stood, length-laid}

-- ---- the exchange of a moment
module _ (base : State) (rs : List Recorded) (m : MomentView) where
  abbrev s : State
  s = under base rs m

  abbrev front : List Recorded
  front = take m.at rs

  abbrev came : List Recorded
  came = stood s (reverse m.other)

  abbrev rear : List Recorded
  rear = behind m.stays rs

  pub state_after-swapped : state_after base (entries (swapped base rs m)) ≡ state_after (state_after s (entries (reverse m.other))) (entries rear)
  state_after-swapped =
      ap (state_after base) (entries-append front (came ++ rear))
      ∙ state_after-append base (entries front) (entries (came ++ rear))
      ∙ ap (state_after s) (entries-append came rear)
      ∙ state_after-append s (entries came) (entries rear)
      ∙ ap (λ es. state_after (state_after s es) (entries rear)) (entries-stood s (reverse m.other))

  pub entries-swapped : entries (swapped base rs m) ≡ other_force (entries rs) m
  entries-swapped =
      entries-append front (came ++ rear)
      ∙ ap (λ es. entries front ++ es) (entries-append came rear ∙ ap (λ es. es ++ entries rear) (entries-stood s (reverse m.other)) ∙ ap (λ es. entries (reverse m.other) ++ es) (sym (behind-map entry_of m.stays rs)))
      ∙ ap (λ es. es ++ (entries (reverse m.other) ++ behind m.stays (entries rs))) (sym (take-map entry_of m.at rs))

  -- a moment that leaves nothing in place after it
  pub swapped-alone : m.stays ≡ 0 → swapped base rs m ≡ front ++ came
  swapped-alone e = ap (λ xs. front ++ xs) (ap (λ xs. came ++ xs) (behind-none m.stays rs e) ∙ append-nil came)

  module _ (within : m.at + m.stays ≤ length rs) where
    at_within : m.at ≤ length rs
    at_within = omega (arith, within)

    front_length : length front ≡ m.at
    front_length = length-take-le m.at rs at_within

    rear_length : length rear ≡ m.stays
    rear_length = length-behind m.stays rs (omega (arith, within))

    pub length-swapped : length (swapped base rs m) ≡ m.at + length m.other + m.stays
    length-swapped = omega (arith, length-append front (came ++ rear), length-append came rear, front_length, rear_length, length-stood s (reverse m.other), length-reverse m.other)

    pub take-swapped : take m.at (swapped base rs m) ≡ front
    take-swapped = take_at front (came ++ rear) m.at front_length

    pub between-swapped : between m.at m.stays (swapped base rs m) ≡ came
    between-swapped = between-append m.at m.stays front came rear front_length rear_length

    pub behind-swapped : behind m.stays (swapped base rs m) ≡ rear
    behind-swapped = ap (behind m.stays) (sym (append_assoc front came rear)) ∙ behind-append m.stays (front ++ came) rear rear_length

-- if nothing stays after, nothing has to stand there
pub stands_none : (ready : Ready) (s : State) (stays : ℕ) (rs : List Recorded) → stays ≡ 0 → AllStanding ready s (behind stays rs)
stands_none ready s stays rs none = subst (AllStanding ready s) (sym (behind-none stays rs none)) tt

-- the records in place, cut where a moment is exchanged
module _ (ready : Ready) (base w : State) (rs : List Recorded) (m : MomentView) (h : Leads ready base w rs) (within : m.at + m.stays ≤ length rs) where
  abbrev go : List Recorded
  go = between m.at m.stays rs

  abbrev stay : List Recorded
  stay = behind m.stays rs

  whole : AllStanding ready base (take m.at rs ++ (go ++ stay))
  whole = subst (AllStanding ready base) (sym (in_three m.at m.stays rs within)) h.standing

  pub front_stands : AllStanding ready base (take m.at rs)
  front_stands = AllStanding-front ready base (take m.at rs) (go ++ stay) whole

  rest_stands : AllStanding ready (under base rs m) (go ++ stay)
  rest_stands = AllStanding-rest ready base (take m.at rs) (go ++ stay) whole

  pub between_stands : AllStanding ready (under base rs m) (between m.at m.stays rs)
  between_stands = AllStanding-front ready (under base rs m) go stay rest_stands

  pub behind_stands : AllStanding ready (state_after (under base rs m) (entries (between m.at m.stays rs))) (behind m.stays rs)
  behind_stands = AllStanding-rest ready (under base rs m) go stay rest_stands

  pub top_is : w ≡ state_after (state_after (under base rs m) (entries (between m.at m.stays rs))) (entries (behind m.stays rs))
  top_is =
      h.top
      ∙ ap (λ xs. state_after base (entries xs)) (sym (in_three m.at m.stays rs within))
      ∙ ap (state_after base) (entries-append (take m.at rs) (go ++ stay))
      ∙ state_after-append base (entries (take m.at rs)) (entries (go ++ stay))
      ∙ ap (state_after (under base rs m)) (entries-append go stay)
      ∙ state_after-append (under base rs m) (entries go) (entries stay)

-- an exchange keeps records in place
pub AllStanding-swapped : (ready : Ready) (base w : State) (rs : List Recorded) (room : ℕ) (m : MomentView) → Leads ready base w rs → CanSwap ready base rs room m → AllStanding ready base (swapped base rs m)
AllStanding-swapped ready base w rs room m h k =
    let s : State = under base rs m in
    let came : List Recorded = stood s (reverse m.other) in
    AllStanding-append ready base (take m.at rs) (came ++ behind m.stays rs)
    (front_stands ready base w rs m h k.within)
    (AllStanding-append ready s came (behind m.stays rs) (AllStanding-stood ready s (reverse m.other) k.lying)
    (subst (λ es. AllStanding ready (state_after s es) (behind m.stays rs)) (sym (entries-stood s (reverse m.other))) k.standing))

-- ---- an exchanged moment can be exchanged again
pub one_of_two : {X : Type 0} (xs ys : List X) (x : X) → xs ++ ys ≡ x ∷ [] → ((xs ≡ x ∷ []) × (ys ≡ [])) ⊎ ((xs ≡ []) × (ys ≡ x ∷ []))
one_of_two [] ys x e = inr (refl, e)
one_of_two (z ∷ []) [] x e = inl (e, refl)
one_of_two (z ∷ []) (y ∷ ys) x e = cc
one_of_two (z ∷ u ∷ zs) ys x e = cc

-- a record that is turned spares the same
spared_turned : (s : State) (one turned later : Recorded) → turned.entry ≡ one.entry → turned.undoing ≡ back_of s one.undoing → is_keyed_back (back_of_part one.undoing.part) ≡ true → IsSpared one later → IsSpared turned later
spared_turned s one turned later e u keyed h = record {
  apart = (λ i. are_apart (e i).change (u i).part later.entry.change later.undoing.part) ∙ apart_turned s one.entry.change later.entry.change one.undoing later.undoing.part keyed ∙ h.apart;
  serials = λ same. h.serials (sym (ap (λ (x : Entry). x.serial) e) ∙ same);
}

all_spared : (s : State) (one turned : Recorded) (rs : List Recorded) → turned.entry ≡ one.entry → turned.undoing ≡ back_of s one.undoing → is_keyed_back (back_of_part one.undoing.part) ≡ true → Each (IsSpared one) rs → Each (IsSpared turned) rs
all_spared s one turned [] e u keyed h = tt
all_spared s one turned (r ∷ rs) e u keyed h = (spared_turned s one turned r e u keyed h.0, all_spared s one turned rs e u keyed h.1)

-- what is exchanged, turned
exchanges_turned : (s : State) (one turned : Recorded) (rs : List Recorded) (m : MomentView) → turned.entry ≡ one.entry → turned.undoing ≡ back_of s one.undoing → is_keyed_back (back_of_part one.undoing.part) ≡ true
    → between m.at m.stays rs ++ m.other ≡ turned ∷ [] → Each (IsSpared one) (behind m.stays rs) → ExchangesOne rs m
exchanges_turned s one turned rs m e u keyed only spared = record {
  one = turned;
  only = only;
  keyed = ap (λ (x : Undoing). is_keyed_back (back_of_part x.part)) u ∙ keyed_turned s one.undoing keyed;
  spared = all_spared s one turned (behind m.stays rs) e u keyed spared;
}

-- what is exchanged then, and what stays
module _ (base : State) (rs : List Recorded) (m n : MomentView) (within : m.at + m.stays ≤ length rs) (x : Exchanged base rs m n) where
  turned_both : between n.at n.stays (swapped base rs m) ++ n.other ≡ stood (under base rs m) (reverse m.other) ++ reverse (laid (under base rs m) (between m.at m.stays rs))
  turned_both = (λ i. between (x.at_same i) (x.stays_same i) (swapped base rs m) ++ x.other i) ∙ ap (λ xs. xs ++ reverse (laid (under base rs m) (between m.at m.stays rs))) (between-swapped base rs m within)

  stays_behind : behind n.stays (swapped base rs m) ≡ behind m.stays rs
  stays_behind = ap (λ k. behind k (swapped base rs m)) x.stays_same ∙ behind-swapped base rs m within

  ExchangesOne-again : ExchangesOne rs m → ExchangesOne (swapped base rs m) n
  unfolding lay stand
  ExchangesOne-again h = elim (one_of_two (between m.at m.stays rs) m.other h.one h.only) [ inl e ↦ goes e | inr e ↦ comes e ]
    where
      spared : Each (IsSpared h.one) (behind n.stays (swapped base rs m))
      spared = subst (Each (IsSpared h.one)) (sym stays_behind) h.spared

      goes : (between m.at m.stays rs ≡ h.one ∷ []) × (m.other ≡ []) → ExchangesOne (swapped base rs m) n
      goes e =
          exchanges_turned (after (under base rs m) h.one.entry) h.one (lay (under base rs m) h.one) (swapped base rs m) n refl refl h.keyed
          (turned_both ∙ (λ i. stood (under base rs m) (reverse (e.1 i)) ++ reverse (laid (under base rs m) (e.0 i))))
          spared

      comes : (between m.at m.stays rs ≡ []) × (m.other ≡ h.one ∷ []) → ExchangesOne (swapped base rs m) n
      comes e =
          exchanges_turned (under base rs m) h.one (stand (under base rs m) h.one) (swapped base rs m) n refl refl h.keyed
          (turned_both ∙ (λ i. stood (under base rs m) (reverse (e.1 i)) ++ reverse (laid (under base rs m) (e.0 i))))
          spared

module _ (ready : Ready) (base w : State) (rs : List Recorded) (room : ℕ) (m n : MomentView) (h : Leads ready base w rs) (k : CanSwap ready base rs room m) (x : Exchanged base rs m n) where
  again_front : take n.at (swapped base rs m) ≡ take m.at rs
  again_front = ap (λ i. take i (swapped base rs m)) x.at_same ∙ take-swapped base rs m k.within

  again_rear : behind n.stays (swapped base rs m) ≡ behind m.stays rs
  again_rear = stays_behind base rs m n k.within x

  again_other : reverse n.other ≡ laid (under base rs m) (between m.at m.stays rs)
  again_other = ap reverse x.other ∙ reverse-reverse (laid (under base rs m) (between m.at m.stays rs))

  again_under : under base (swapped base rs m) n ≡ under base rs m
  again_under = ap (λ xs. state_after base (entries xs)) again_front

  again_entries : entries (reverse n.other) ≡ entries (between m.at m.stays rs)
  again_entries = ap entries again_other ∙ entries-laid (under base rs m) (between m.at m.stays rs)

  stands : AllStanding ready (under base rs m) (between m.at m.stays rs)
  stands = between_stands ready base w rs m h k.within

  pub CanSwap-again : length rs ≤ room → CanSwap ready base (swapped base rs m) room n
  CanSwap-again full =
      let len : length (swapped base rs m) ≡ m.at + length m.other + m.stays = length-swapped base rs m k.within in
      let other_len : length n.other ≡ (length rs - m.stays) - m.at =
      ap length x.other ∙ length-reverse (laid (under base rs m) (between m.at m.stays rs)) ∙ length-laid (under base rs m) (between m.at m.stays rs) ∙ length-between m.at m.stays rs k.within in
      record {
        within = omega (arith, len, x.at_same, x.stays_same);
        lying = subst (λ v. AllLying ready v (reverse n.other)) (sym again_under) (subst (AllLying ready (under base rs m)) (sym again_other) (AllLying-laid ready (under base rs m) (between m.at m.stays rs) stands));
        standing =
            subst (AllStanding ready (state_after (under base (swapped base rs m) n) (entries (reverse n.other)))) (sym again_rear)
            (subst (λ v. AllStanding ready v (behind m.stays rs)) (λ i. state_after (sym again_under i) (sym again_entries i)) (behind_stands ready base w rs m h k.within));
        one = λ some. ExchangesOne-again base rs m n k.within x (k.one (omega (arith, some, x.stays_same)));
        room_back = omega (arith, len, x.at_same, x.stays_same, x.room_back);
        room_forth = omega (arith, other_len, x.at_same, x.stays_same, full, k.within);
      }

  -- exchanging it again gives back what stood
  pub swapped-again : swapped base (swapped base rs m) n ≡ rs
  swapped-again =
      (λ i. again_front i ++ (stood (again_under i) (again_other i) ++ again_rear i))
      ∙ ap (λ ys. take m.at rs ++ (ys ++ behind m.stays rs)) (stood-laid ready (under base rs m) (between m.at m.stays rs) stands)
      ∙ in_three m.at m.stays rs k.within

  pub other_force-again : other_force (other_force (entries rs) m) n ≡ entries rs
  other_force-again =
      ap (λ es. other_force es n) (sym (entries-swapped base rs m))
      ∙ sym (entries-swapped base (swapped base rs m) n)
      ∙ ap entries swapped-again

-- more room does no harm
pub CanSwap-room : (ready : Ready) (base : State) (rs : List Recorded) (room more : ℕ) (m : MomentView) → room ≤ more → CanSwap ready base rs room m → CanSwap ready base rs more m
CanSwap-room ready base rs room more m l k = record { within = k.within; lying = k.lying; standing = k.standing; one = k.one; room_back = k.room_back; room_forth = omega (arith, k.room_forth, l) }

pub Down-room : (ready : Ready) (base : State) (rs : List Recorded) (room more : ℕ) (ms : List MomentView) → room ≤ more → Down ready base rs room ms → Down ready base rs more ms
Down-room ready base rs room more [] l h = h
Down-room ready base rs room more (m ∷ ms) l h = (CanSwap-room ready base rs room more m l h.0, Down-room ready base (swapped base rs m) room more ms l h.1)

pub Up-room : (ready : Ready) (base : State) (rs : List Recorded) (room more : ℕ) (ms : List MomentView) → room ≤ more → Up ready base rs room ms → Up ready base rs more ms
Up-room ready base rs room more [] l h = tt
Up-room ready base rs room more (m ∷ ms) l h = (CanSwap-room ready base rs room more m l h.0, Up-room ready base (swapped base rs m) room more ms l h.1)

-- ---- a moment of another serial, or with more room, is the same exchange
pub record SameExchange (m n : MomentView) : Type 0 where
  pub at : m.at ≡ n.at
  pub stays : m.stays ≡ n.stays
  pub other : m.other ≡ n.other
  pub room : n.room ≤ m.room

module _ (m n : MomentView) (e : SameExchange m n) (base : State) (rs : List Recorded) where
  pub swapped-same : swapped base rs m ≡ swapped base rs n
  swapped-same = λ i. take (e.at i) rs ++ (stood (state_after base (entries (take (e.at i) rs))) (reverse (e.other i)) ++ behind (e.stays i) rs)

  pub CanSwap-same : (ready : Ready) (room : ℕ) → CanSwap ready base rs room n → CanSwap ready base rs room m
  CanSwap-same ready room k = record {
    within = omega (arith, k.within, e.at, e.stays);
    lying = subst (λ (x : ℕ × List Recorded). AllLying ready (state_after base (entries (take x.0 rs))) (reverse x.1)) (λ i. (sym e.at i, sym e.other i)) k.lying;
    standing =
        subst (λ (x : ℕ × List Recorded × ℕ). AllStanding ready (state_after (state_after base (entries (take x.0 rs))) (entries (reverse x.1))) (behind x.2 rs)) (λ i. (sym e.at i, sym e.other i, sym e.stays i)) k.standing;
    one = λ some.
        let h : ExchangesOne rs n = k.one (omega (arith, some, e.stays)) in
        record {
          one = h.one;
          only = (λ i. between (e.at i) (e.stays i) rs ++ e.other i) ∙ h.only;
          keyed = h.keyed;
          spared = subst (λ stays. Each (IsSpared h.one) (behind stays rs)) (sym e.stays) h.spared;
        };
    room_back = omega (arith, k.room_back, e.at, e.stays, e.room);
    room_forth = omega (arith, k.room_forth, e.at, e.stays, ap (λ (xs : List Recorded). length xs) e.other);
  }
