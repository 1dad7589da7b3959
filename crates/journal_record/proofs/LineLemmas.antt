-- Records in place and turned back: what an exchange of the two leaves.
use Rattle.std.proofs.Common.{◌≡◌, ℕ, suc, ◌≤◌, List, [], ◌∷◌, ◌++◌, length, take, drop, reverse, refl, sym, ◌∙◌, ap, subst}
use Rattle.std.proofs.lemmas.List.{reverse-append, map-append, append_assoc, drop-append-le, take-append-drop}
use Rattle.host_state.specs.State.{State}
use Rattle.host_state.specs.Settled.{IsSettled}
use Rattle.host_state.specs.World.{Ready}
use Rattle.host_undoing.specs.declared.undoing.Undoing.{Undoing}
use Rattle.host_undoing.specs.Exchange.{turned, back_of, Fits, Joins}
use Rattle.host_undoing.specs.Answers.{IsOwn}
use Rattle.host_apart.proofs.TurnedLemmas.{bytes_turned}
use Rattle.journal_model.specs.Replay.{Entry}
use Rattle.journal_record.specs.After.{after, state_after}
use Rattle.journal_record.specs.Recorded.{Recorded}
use Rattle.journal_record.specs.Records.{entry_of, entries, IsStanding, IsLying, lay, stand, AllStanding, AllLying, laid, stood, unwound, foot, Leads}

-- one record

pub entry_of-lay : (s : State) (r : Recorded) → (lay s r).entry ≡ r.entry
unfolding lay
entry_of-lay s r = refl

pub entry_of-stand : (s : State) (r : Recorded) → (stand s r).entry ≡ r.entry
unfolding stand
entry_of-stand s r = refl

pub stand-lay : (ready : Ready) (s : State) (r : Recorded) → IsStanding ready s r → stand s (lay s r) ≡ r
unfolding stand lay
stand-lay ready s r h = ap (λ u. let t : Recorded = record { entry = r.entry; undoing = u } in t) h.joins.forth_face

pub lay-stand : (ready : Ready) (s : State) (r : Recorded) → IsLying ready s r → lay s (stand s r) ≡ r
unfolding stand lay
lay-stand ready s r h = ap (λ u. let t : Recorded = record { entry = r.entry; undoing = u } in t) h.joins.back_face

pub IsLying-lay : (ready : Ready) (s : State) (r : Recorded) → IsStanding ready s r → IsLying ready s (lay s r)
unfolding lay back_of
IsLying-lay ready s r h = record {
  acts = h.acts;
  own = subst (λ (u : Undoing). IsOwn s r.entry.change u.part) (sym h.joins.forth_face) h.own;
  bytes = bytes_turned (after s r.entry) r.undoing h.bytes;
  joins = subst (λ u. Joins ready s (after s r.entry) u (back_of (after s r.entry) r.undoing)) (sym h.joins.forth_face) h.joins;
  retires = h.retires;
}

pub IsStanding-stand : (ready : Ready) (s : State) (r : Recorded) → IsLying ready s r → IsStanding ready s (stand s r)
unfolding stand back_of
IsStanding-stand ready s r h = record {
  acts = h.acts;
  own = h.own;
  bytes = bytes_turned s r.undoing h.bytes;
  joins = subst (λ u. Joins ready s (after s r.entry) (back_of s r.undoing) u) (sym h.joins.back_face) h.joins;
  retires = h.retires;
}

-- what stands is settled
pub settled_after : (ready : Ready) (s t : State) (back forth : Undoing) → Joins ready s t back forth → IsSettled t
settled_after ready s t back forth j = subst IsSettled j.forth_state j.forth_fits.settled

-- lists of them

pub state_after-append : (s : State) (xs ys : List Entry) → state_after s (xs ++ ys) ≡ state_after (state_after s xs) ys
state_after-append s [] ys = refl
state_after-append s (x ∷ xs) ys = state_after-append (after s x) xs ys

pub entries-append : (xs ys : List Recorded) → entries (xs ++ ys) ≡ entries xs ++ entries ys
entries-append xs ys = map-append entry_of xs ys

pub entries-laid : (s : State) (rs : List Recorded) → entries (laid s rs) ≡ entries rs
entries-laid s [] = refl
entries-laid s (r ∷ rs) = ap (λ e. e ∷ entries (laid (after s r.entry) rs)) (entry_of-lay s r) ∙ ap (λ es. r.entry ∷ es) (entries-laid (after s r.entry) rs)

pub entries-stood : (s : State) (rs : List Recorded) → entries (stood s rs) ≡ entries rs
entries-stood s [] = refl
entries-stood s (r ∷ rs) = ap (λ e. e ∷ entries (stood (after s r.entry) rs)) (entry_of-stand s r) ∙ ap (λ es. r.entry ∷ es) (entries-stood (after s r.entry) rs)

pub stood-laid : (ready : Ready) (s : State) (rs : List Recorded) → AllStanding ready s rs → stood s (laid s rs) ≡ rs
stood-laid ready s [] h = refl
stood-laid ready s (r ∷ rs) h =
    ap (λ e. stand s (lay s r) ∷ stood (after s e) (laid (after s r.entry) rs)) (entry_of-lay s r)
    ∙ ap (λ x. x ∷ stood (after s r.entry) (laid (after s r.entry) rs)) (stand-lay ready s r h.0)
    ∙ ap (λ xs. r ∷ xs) (stood-laid ready (after s r.entry) rs h.1)

pub laid-stood : (ready : Ready) (s : State) (rs : List Recorded) → AllLying ready s rs → laid s (stood s rs) ≡ rs
laid-stood ready s [] h = refl
laid-stood ready s (r ∷ rs) h =
    ap (λ e. lay s (stand s r) ∷ laid (after s e) (stood (after s r.entry) rs)) (entry_of-stand s r)
    ∙ ap (λ x. x ∷ laid (after s r.entry) (stood (after s r.entry) rs)) (lay-stand ready s r h.0)
    ∙ ap (λ xs. r ∷ xs) (laid-stood ready (after s r.entry) rs h.1)

pub AllLying-laid : (ready : Ready) (s : State) (rs : List Recorded) → AllStanding ready s rs → AllLying ready s (laid s rs)
AllLying-laid ready s [] h = tt
AllLying-laid ready s (r ∷ rs) h =
    (IsLying-lay ready s r h.0, subst (λ e. AllLying ready (after s e) (laid (after s r.entry) rs)) (sym (entry_of-lay s r)) (AllLying-laid ready (after s r.entry) rs h.1))

pub AllStanding-stood : (ready : Ready) (s : State) (rs : List Recorded) → AllLying ready s rs → AllStanding ready s (stood s rs)
AllStanding-stood ready s [] h = tt
AllStanding-stood ready s (r ∷ rs) h =
    (IsStanding-stand ready s r h.0, subst (λ e. AllStanding ready (after s e) (stood (after s r.entry) rs)) (sym (entry_of-stand s r)) (AllStanding-stood ready (after s r.entry) rs h.1))

pub AllStanding-append : (ready : Ready) (s : State) (xs ys : List Recorded) → AllStanding ready s xs → AllStanding ready (state_after s (entries xs)) ys → AllStanding ready s (xs ++ ys)
AllStanding-append ready s [] ys h k = k
AllStanding-append ready s (x ∷ xs) ys h k = (h.0, AllStanding-append ready (after s x.entry) xs ys h.1 k)

pub AllStanding-front : (ready : Ready) (s : State) (xs ys : List Recorded) → AllStanding ready s (xs ++ ys) → AllStanding ready s xs
AllStanding-front ready s [] ys h = tt
AllStanding-front ready s (x ∷ xs) ys h = (h.0, AllStanding-front ready (after s x.entry) xs ys h.1)

pub AllStanding-rest : (ready : Ready) (s : State) (xs ys : List Recorded) → AllStanding ready s (xs ++ ys) → AllStanding ready (state_after s (entries xs)) ys
AllStanding-rest ready s [] ys h = h
AllStanding-rest ready s (x ∷ xs) ys h = AllStanding-rest ready (after s x.entry) xs ys h.1

pub laid-append : (s : State) (xs ys : List Recorded) → laid s (xs ++ ys) ≡ laid s xs ++ laid (state_after s (entries xs)) ys
laid-append s [] ys = refl
laid-append s (x ∷ xs) ys = ap (λ zs. lay s x ∷ zs) (laid-append (after s x.entry) xs ys)

-- what is below records in place

pub unwound-append : (w : State) (xs ys : List Recorded) → unwound w (xs ++ ys) ≡ unwound (unwound w xs) ys
unwound-append w [] ys = refl
unwound-append w (x ∷ xs) ys = unwound-append (turned w x.undoing) xs ys

pub foot_is : (ready : Ready) (s : State) (rs : List Recorded) → AllStanding ready s rs → foot (state_after s (entries rs)) rs ≡ s
foot_is ready s [] h = refl
foot_is ready s (r ∷ rs) h =
    ap (λ xs. unwound (state_after (after s r.entry) (entries rs)) xs) (reverse-append (r ∷ []) rs)
    ∙ unwound-append (state_after (after s r.entry) (entries rs)) (reverse rs) (r ∷ [])
    ∙ ap (λ w. turned w r.undoing) (foot_is ready (after s r.entry) rs h.1)
    ∙ h.0.joins.back_state

pub foot_push : (w : State) (xs : List Recorded) (r : Recorded) → foot w (xs ++ r ∷ []) ≡ foot (turned w r.undoing) xs
foot_push w xs r = ap (λ ys. unwound w ys) (reverse-append xs (r ∷ []))

abbrev record_of : Entry → Undoing → Recorded
record_of e x = record { entry = e; undoing = x }

record_same : (u : Recorded) (e : Entry) (x : Undoing) → u.entry ≡ e → u.undoing ≡ x → record_of e x ≡ u
record_same u e x p q = ap (λ a. record_of a x) (sym p) ∙ ap (λ y. record_of u.entry y) (sym q)

-- the newest of records in place is turned back
pub record OneBack (ready : Ready) (w : State) (xs : List Recorded) (r : Recorded) : Type 0 where
  pub fits : Fits ready w r.undoing
  pub foot_same : foot w (xs ++ r ∷ []) ≡ foot (turned w r.undoing) xs
  pub leads : Leads ready (foot (turned w r.undoing) xs) (turned w r.undoing) xs
  pub laid_is : (u : Recorded) → u.entry ≡ r.entry → u.undoing ≡ back_of w r.undoing →
      reverse (laid (foot w (xs ++ r ∷ [])) (xs ++ r ∷ [])) ≡ u ∷ reverse (laid (foot (turned w r.undoing) xs) xs)

one_back_from : (ready : Ready) (s w : State) (xs : List Recorded) (r : Recorded) → foot (turned w r.undoing) xs ≡ s → Leads ready s w (xs ++ r ∷ []) → OneBack ready w xs r
unfolding lay
one_back_from ready s w xs r f h =
    let t : State = state_after s (entries xs) in
    let last : IsStanding ready t r = (AllStanding-rest ready s xs (r ∷ []) h.standing).0 in
    let w_is : w ≡ after t r.entry = h.top ∙ ap (state_after s) (entries-append xs (r ∷ [])) ∙ state_after-append s (entries xs) (r.entry ∷ []) in
    let back : turned w r.undoing ≡ t = ap (λ v. turned v r.undoing) w_is ∙ last.joins.back_state in
    record {
      fits = subst (λ v. Fits ready v r.undoing) (sym w_is) last.joins.back_fits;
      foot_same = foot_push w xs r;
      leads = subst (λ v. Leads ready v (turned w r.undoing) xs) (sym f) record { standing = AllStanding-front ready s xs (r ∷ []) h.standing; top = back };
      laid_is = λ u e d.
          ap (λ v. reverse (laid v (xs ++ r ∷ []))) (foot_push w xs r ∙ f)
          ∙ ap reverse (laid-append s xs (r ∷ []))
          ∙ reverse-append (laid s xs) (lay t r ∷ [])
          ∙ ap (λ v. record_of r.entry (back_of v r.undoing) ∷ reverse (laid s xs)) (sym w_is)
          ∙ ap (λ z. z ∷ reverse (laid s xs)) (record_same u r.entry (back_of w r.undoing) e d)
          ∙ ap (λ v. u ∷ reverse (laid v xs)) (sym f);
    }

pub one_back : (ready : Ready) (w : State) (xs : List Recorded) (r : Recorded) → Leads ready (foot w (xs ++ r ∷ [])) w (xs ++ r ∷ []) → OneBack ready w xs r
one_back ready w xs r h = one_back_from ready (foot w (xs ++ r ∷ [])) w xs r (sym (foot_push w xs r)) h

-- the next of records turned back is put in place
pub record OneForth (ready : Ready) (w : State) (r : Recorded) (rs : List Recorded) : Type 0 where
  pub fits : Fits ready w r.undoing
  pub lying : AllLying ready (turned w r.undoing) rs
  pub state_same : state_after w (r.entry ∷ entries rs) ≡ state_after (turned w r.undoing) (entries rs)
  pub stood_is : (u : Recorded) → u.entry ≡ r.entry → u.undoing ≡ back_of w r.undoing → stood w (r ∷ rs) ≡ u ∷ stood (turned w r.undoing) rs

pub one_forth : (ready : Ready) (w : State) (r : Recorded) (rs : List Recorded) → AllLying ready w (r ∷ rs) → OneForth ready w r rs
unfolding stand
one_forth ready w r rs h =
    let t_is : after w r.entry ≡ turned w r.undoing = sym h.0.joins.forth_state in
    record {
      fits = h.0.joins.forth_fits;
      lying = subst (λ t. AllLying ready t rs) t_is h.1;
      state_same = ap (λ t. state_after t (entries rs)) t_is;
      stood_is = λ u e d.
          ap (λ z. z ∷ stood (after w r.entry) rs) (record_same u r.entry (back_of w r.undoing) e d)
          ∙ ap (λ t. u ∷ stood t rs) t_is;
    }

-- the same past the first `at` records
pub drop_push : (at : ℕ) (rs rest : List Recorded) (r : Recorded) → rs ≡ rest ++ r ∷ [] → at ≤ length rest → drop at rs ≡ drop at rest ++ r ∷ []
drop_push at rs rest r e l = ap (drop at) e ∙ drop-append-le at rest (r ∷ []) l

pub one_back_past : (ready : Ready) (at : ℕ) (w : State) (rs rest : List Recorded) (r : Recorded) → rs ≡ rest ++ r ∷ [] → at ≤ length rest → Leads ready (foot w (drop at rs)) w (drop at rs) → OneBack ready w (drop at rest) r
one_back_past ready at w rs rest r e l h = one_back ready w (drop at rest) r (subst (λ xs. Leads ready (foot w xs) w xs) (drop_push at rs rest r e l) h)

-- what a turned record adds to what has moved
pub moved_one : (ready : Ready) (at : ℕ) (w : State) (rs rest : List Recorded) (r u : Recorded) (into : List Recorded) → (e : rs ≡ rest ++ r ∷ []) → (l : at ≤ length rest) → Leads ready (foot w (drop at rs)) w (drop at rs) → u.entry ≡ r.entry → u.undoing ≡ back_of w r.undoing →
    into ++ reverse (laid (foot w (drop at rs)) (drop at rs)) ≡ (into ++ u ∷ []) ++ reverse (laid (foot (turned w r.undoing) (drop at rest)) (drop at rest))
moved_one ready at w rs rest r u into e l h p q =
    let b : OneBack ready w (drop at rest) r = one_back_past ready at w rs rest r e l h in
    ap (λ xs. into ++ reverse (laid (foot w xs) xs)) (drop_push at rs rest r e l)
    ∙ ap (λ ys. into ++ ys) (b.laid_is u p q)
    ∙ sym (append_assoc into (u ∷ []) (reverse (laid (foot (turned w r.undoing) (drop at rest)) (drop at rest))))

pub reverse_push : (rs rest : List Recorded) (r : Recorded) → rs ≡ rest ++ r ∷ [] → reverse rs ≡ r ∷ reverse rest
reverse_push rs rest r e = ap reverse e ∙ reverse-append rest (r ∷ [])

pub one_forth_of : (ready : Ready) (w : State) (from rest : List Recorded) (r : Recorded) → from ≡ rest ++ r ∷ [] → AllLying ready w (reverse from) → OneForth ready w r (reverse rest)
one_forth_of ready w from rest r e h = one_forth ready w r (reverse rest) (subst (AllLying ready w) (reverse_push from rest r e) h)

pub stood_one : (ready : Ready) (w : State) (from rest : List Recorded) (r u : Recorded) (records : List Recorded) → from ≡ rest ++ r ∷ [] → AllLying ready w (reverse from) → u.entry ≡ r.entry → u.undoing ≡ back_of w r.undoing →
    records ++ stood w (reverse from) ≡ (records ++ u ∷ []) ++ stood (turned w r.undoing) (reverse rest)
stood_one ready w from rest r u records e h p q =
    let f : OneForth ready w r (reverse rest) = one_forth_of ready w from rest r e h in
    ap (λ xs. records ++ stood w xs) (reverse_push from rest r e)
    ∙ ap (λ xs. records ++ xs) (f.stood_is u p q)
    ∙ sym (append_assoc records (u ∷ []) (stood (turned w r.undoing) (reverse rest)))

pub state_one : (ready : Ready) (w : State) (from rest : List Recorded) (r : Recorded) → from ≡ rest ++ r ∷ [] → AllLying ready w (reverse from) →
    state_after w (entries (reverse from)) ≡ state_after (turned w r.undoing) (entries (reverse rest))
state_one ready w from rest r e h =
    ap (λ xs. state_after w (entries xs)) (reverse_push from rest r e) ∙ (one_forth_of ready w from rest r e h).state_same

-- the state below the records past `at` is that after the first `at`
pub foot_past : (ready : Ready) (base w : State) (rs : List Recorded) (at : ℕ) → Leads ready base w rs → Leads ready (state_after base (entries (take at rs))) w (drop at rs)
foot_past ready base w rs at h =
    let cut : rs ≡ take at rs ++ drop at rs = sym (take-append-drop at rs) in
    record {
      standing = AllStanding-rest ready base (take at rs) (drop at rs) (subst (AllStanding ready base) cut h.standing);
      top = h.top ∙ ap (λ xs. state_after base (entries xs)) cut ∙ ap (state_after base) (entries-append (take at rs) (drop at rs)) ∙ state_after-append base (entries (take at rs)) (entries (drop at rs));
    }

pub foot_of : (ready : Ready) (base w : State) (rs : List Recorded) → Leads ready base w rs → foot w rs ≡ base
foot_of ready base w rs h = ap (λ v. foot v rs) h.top ∙ foot_is ready base rs h.standing

pub foot_past_is : (ready : Ready) (base w : State) (rs : List Recorded) (at : ℕ) → Leads ready base w rs → foot w (drop at rs) ≡ state_after base (entries (take at rs))
foot_past_is ready base w rs at h = foot_of ready (state_after base (entries (take at rs))) w (drop at rs) (foot_past ready base w rs at h)

pub leads_past : (ready : Ready) (base w : State) (rs : List Recorded) (at : ℕ) → Leads ready base w rs → Leads ready (foot w (drop at rs)) w (drop at rs)
leads_past ready base w rs at h = subst (λ s. Leads ready s w (drop at rs)) (sym (foot_past_is ready base w rs at h)) (foot_past ready base w rs at h)

pub length-stood : (s : State) (rs : List Recorded) → length (stood s rs) ≡ length rs
length-stood s [] = refl
length-stood s (r ∷ rs) = ap (λ n. suc n) (length-stood (after s r.entry) rs)

pub length-laid : (s : State) (rs : List Recorded) → length (laid s rs) ≡ length rs
length-laid s [] = refl
length-laid s (r ∷ rs) = ap (λ n. suc n) (length-laid (after s r.entry) rs)
