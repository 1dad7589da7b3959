-- While a change is being taken out, those in place and those left stay in the order of their serials.
use Rattle.std.proofs.Common.{◌≡◌, ℕ, ◌<◌, ◌≤◌, ◌==◌, Bool, true, false, IsTrue, cond, List, [], ◌∷◌, ◌++◌, Ok, refl, sym, ◌∙◌, ap, subst, arith}
use Rattle.std.specs.Prelude.{Result, Err}
use Rattle.std.proofs.lemmas.List.{append-nil, append_assoc}
use Rattle.std.proofs.lemmas.Bool.Decides.{nat_tests}
use Rattle.journal_model.specs.Replay.{Entry, replay}
use Rattle.journal_model.specs.Plain.{newest_force}
use Rattle.journal_model.specs.Well.{Each, EachPair, IsInOrder}
use Rattle.journal_model.specs.Force.{is_in_force, without}
use Rattle.journal_model.proofs.Lists.{Each-append, Each-rest, Each-front}
use Rattle.journal_model.proofs.Others.{others_are}
use Rattle.journal_model.proofs.Replaying.{answers, replay_push}
use Rattle.bt_journal.specs.Taking.{IsRest}
use Rattle.journal_keeping.specs.Staged.{Staged, SameLine, TakesOutAlone, TurnsBack, DoesNext, StaysStaged, GoesOn}
use Rattle.journal_keeping.specs.AgainFault.{AgainFault}
use Rattle.journal_keeping.specs.AgainFault.TheVariants.{Differs, NoMemory}

-- without one of them
dropped_pair : (xs : List Entry) (e : Entry) (ys : List Entry) → EachPair (λ (x y : Entry). x.serial < y.serial) (xs ++ e ∷ ys) → EachPair (λ (x y : Entry). x.serial < y.serial) (xs ++ ys)
dropped_pair [] e ys h = h.1
dropped_pair (x ∷ xs) e ys h = (dropped_each (λ (y : Entry). x.serial < y.serial) xs e ys h.0, dropped_pair xs e ys h.1)
  where
    dropped_each : (P : Entry → Type 0) (xs : List Entry) (e : Entry) (ys : List Entry) → Each P (xs ++ e ∷ ys) → Each P (xs ++ ys)
    dropped_each P xs e ys h = Each-append P xs ys (Each-front P xs (e ∷ ys) h) (Each-rest P xs (e ∷ ys) h).1

dropped : (last : ℕ) (xs : List Entry) (e : Entry) (ys : List Entry) → IsInOrder last (xs ++ e ∷ ys) → IsInOrder last (xs ++ ys)
dropped last xs e ys h = (dropped_pair xs e ys h.0, Each-append (λ (x : Entry). x.serial ≤ last) xs ys (Each-front (λ (x : Entry). x.serial ≤ last) xs (e ∷ ys) h.1) (Each-rest (λ (x : Entry). x.serial ≤ last) xs (e ∷ ys) h.1).1)

pub order_back : (last : ℕ) (old new : Staged) (is_it : Bool) → TurnsBack old is_it new → IsInOrder last (old.in_place ++ old.left) → IsInOrder last (new.in_place ++ new.left)
order_back last old new is_it t h =
    let e : Entry = t.last.0 in
    let whole : old.in_place ++ old.left ≡ new.in_place ++ e ∷ old.left = ap (λ xs. xs ++ old.left) t.last.1 ∙ append_assoc new.in_place (e ∷ []) old.left in
    here is_it e t.last.3 (subst (IsInOrder last) whole h)
  where
    here : (b : Bool) (e : Entry) → new.left ≡ cond b old.left (e ∷ old.left) → IsInOrder last (new.in_place ++ e ∷ old.left) → IsInOrder last (new.in_place ++ new.left)
    here true e is o = subst (λ xs. IsInOrder last (new.in_place ++ xs)) (sym is) (dropped last new.in_place e old.left o)
    here false e is o = subst (λ xs. IsInOrder last (new.in_place ++ xs)) (sym is) o

pub order_alone : (last : ℕ) (old new : Staged) → TakesOutAlone old new → old.left ≡ [] → IsInOrder last (old.in_place ++ old.left) → IsInOrder last (new.in_place ++ new.left)
order_alone last old new t none h =
    subst (IsInOrder last) (sym ((λ i. t.one.5 i ++ t.left i) ∙ append-nil (t.one.0 ++ t.one.2)))
    (dropped last t.one.0 t.one.1 t.one.2 (subst (IsInOrder last) ((λ i. old.in_place ++ none i) ∙ append-nil old.in_place ∙ t.one.3) h))

-- so they are in place
pub in_order : (last : ℕ) (s : Staged) → s.left ≡ [] → IsInOrder last (s.in_place ++ s.left) → EachPair (λ (x y : Entry). x.serial < y.serial) s.in_place
in_order last s none h = subst (EachPair (λ (x y : Entry). x.serial < y.serial)) ((λ i. s.in_place ++ none i) ∙ append-nil s.in_place) h.0

order_next : (last : ℕ) (old new : Staged) → DoesNext old new → IsInOrder last (old.in_place ++ old.left) → IsInOrder last (new.in_place ++ new.left)
order_next last old new t h =
    let e : Entry = t.next.0 in
    subst (IsInOrder last) (ap (λ xs. old.in_place ++ xs) t.next.1 ∙ sym (ap (λ xs. xs ++ new.left) t.next.2 ∙ append_assoc old.in_place (e ∷ []) new.left)) h

order_stays : (last : ℕ) (old new : Staged) → StaysStaged old new → IsInOrder last (old.in_place ++ old.left) → IsInOrder last (new.in_place ++ new.left)
order_stays last old new t h = subst (λ (x : List Entry × List Entry). IsInOrder last (x.0 ++ x.1)) (λ i. (sym t.in_place i, sym t.left i)) h

pub order_went : (last : ℕ) (old new : Staged) (result : Result (Unit {0}) AgainFault) → GoesOn old result new → IsInOrder last (old.in_place ++ old.left) → IsInOrder last (new.in_place ++ new.left)
order_went last old new (Ok done) t h = order_next last old new t h
order_went last old new (Err (Differs serial)) t h = order_stays last old new t.1 h
order_went last old new (Err NoMemory) t h = order_stays last old new t h

-- ---- what is in place and what is left are the changes in force, without the one once it is out
pub rest_begun : (s : Staged) → IsTrue (is_in_force s.serial (newest_force s.line.pasts.moments)) → s.in_place ≡ newest_force s.line.pasts.moments → s.left ≡ [] → s.out ≡ false → IsRest s
rest_begun s among all none out = record {
  among = among;
  rest = ap (λ xs. s.in_place ++ xs) none ∙ append-nil s.in_place ∙ all ∙ sym (ap (λ b. cond b (without s.serial (newest_force s.line.pasts.moments)) (newest_force s.line.pasts.moments)) out);
}

abbrev rest_of : Staged → Bool → List Entry
rest_of s b = cond b (without s.serial (newest_force s.line.pasts.moments)) (newest_force s.line.pasts.moments)

same_rest : (old new : Staged) (b : Bool) → SameLine old new → rest_of new b ≡ rest_of old b
same_rest old new b h = λ i. cond b (without (h.serial i) (newest_force (h.pasts i).moments)) (newest_force (h.pasts i).moments)

same_among : (old new : Staged) → SameLine old new → IsTrue (is_in_force old.serial (newest_force old.line.pasts.moments)) → IsTrue (is_in_force new.serial (newest_force new.line.pasts.moments))
same_among old new h a = (λ i. is_in_force (h.serial i) (newest_force (h.pasts i).moments)) ∙ a

pub rest_back : (last : ℕ) (old new : Staged) (is_it : Bool) → TurnsBack old is_it new → old.out ≡ false → IsInOrder last (old.in_place ++ old.left) → IsRest old → IsRest new
rest_back last old new is_it t out order h =
    let e : Entry = t.last.0 in
    let whole : old.in_place ++ old.left ≡ new.in_place ++ e ∷ old.left = ap (λ xs. xs ++ old.left) t.last.1 ∙ append_assoc new.in_place (e ∷ []) old.left in
    let force : new.in_place ++ e ∷ old.left ≡ newest_force old.line.pasts.moments = sym whole ∙ h.rest ∙ ap (rest_of old) out in
    record {
      among = same_among old new t.same h.among;
      rest = here is_it e refl t.last.2 t.last.3 force (subst (IsInOrder last) whole order) ∙ sym (same_rest old new is_it t.same) ∙ ap (rest_of new) (sym t.out);
    }
  where
    here : (b : Bool) (e : Entry) → is_it ≡ b → is_it ≡ (e.serial == old.serial) → new.left ≡ cond is_it old.left (e ∷ old.left) → new.in_place ++ e ∷ old.left ≡ newest_force old.line.pasts.moments → IsInOrder last (new.in_place ++ e ∷ old.left) → new.in_place ++ new.left ≡ rest_of old is_it
    here true e b it left force o =
        let same : e.serial ≡ old.serial = grind (arith, nat_tests, it, b) in
        ap (λ xs. new.in_place ++ xs) (left ∙ ap (λ c. cond c old.left (e ∷ old.left)) b)
        ∙ sym (others_are last old.serial new.in_place e old.left same o)
        ∙ ap (without old.serial) force
        ∙ ap (rest_of old) (sym b)
    here false e b it left force o = ap (λ xs. new.in_place ++ xs) (left ∙ ap (λ c. cond c old.left (e ∷ old.left)) b) ∙ force ∙ ap (rest_of old) (sym b)

pub rest_alone : (last : ℕ) (old new : Staged) → TakesOutAlone old new → old.out ≡ false → old.left ≡ [] → IsInOrder last (old.in_place ++ old.left) → IsRest old → IsRest new
rest_alone last old new t out none order h =
    let whole : old.in_place ++ old.left ≡ t.one.0 ++ t.one.1 ∷ t.one.2 = (λ i. old.in_place ++ none i) ∙ append-nil old.in_place ∙ t.one.3 in
    let force : t.one.0 ++ t.one.1 ∷ t.one.2 ≡ newest_force old.line.pasts.moments = sym whole ∙ h.rest ∙ ap (rest_of old) out in
    record {
      among = same_among old new t.same h.among;
      rest = (λ i. t.one.5 i ++ t.left i)
          ∙ append-nil (t.one.0 ++ t.one.2)
          ∙ sym (others_are last old.serial t.one.0 t.one.1 t.one.2 t.one.4 (subst (IsInOrder last) whole order))
          ∙ ap (without old.serial) force
          ∙ sym (same_rest old new true t.same)
          ∙ ap (rest_of new) (sym t.out);
    }

rest_next : (old new : Staged) → DoesNext old new → IsRest old → IsRest new
rest_next old new t h = record {
  among = same_among old new t.same h.among;
  rest = ap (λ xs. xs ++ new.left) t.next.2 ∙ append_assoc old.in_place (t.next.0 ∷ []) new.left ∙ ap (λ xs. old.in_place ++ xs) (sym t.next.1) ∙ h.rest ∙ sym (same_rest old new old.out t.same) ∙ ap (rest_of new) (sym t.out);
}

rest_stays : (old new : Staged) → StaysStaged old new → IsRest old → IsRest new
rest_stays old new t h = record {
  among = same_among old new t.same h.among;
  rest = (λ i. t.in_place i ++ t.left i) ∙ h.rest ∙ sym (same_rest old new old.out t.same) ∙ ap (rest_of new) (sym t.out);
}

pub rest_went : (old new : Staged) (result : Result (Unit {0}) AgainFault) → GoesOn old result new → IsRest old → IsRest new
rest_went old new (Ok done) t h = rest_next old new t h
rest_went old new (Err (Differs serial)) t h = rest_stays old new t.1 h
rest_went old new (Err NoMemory) t h = rest_stays old new t h

pub rest_kept : (s : Staged) → s.out ≡ true → s.left ≡ [] → IsRest s → IsTrue (is_in_force s.serial (newest_force s.line.pasts.moments)) × (s.in_place ≡ without s.serial (newest_force s.line.pasts.moments))
rest_kept s out none h = (h.among, sym (append-nil s.in_place) ∙ ap (λ xs. s.in_place ++ xs) (sym none) ∙ h.rest ∙ ap (rest_of s) out)

-- ---- what is in place leads from the base to the state
replays_next : (old new : Staged) → DoesNext old new → replay old.line.pasts.base old.in_place ≡ Ok old.state → replay new.line.pasts.base new.in_place ≡ Ok new.state
replays_next old new t h =
    (λ i. replay (t.same.pasts i).base (t.next.2 i)) ∙ replay_push old.line.pasts.base old.state new.state old.in_place t.next.0 h (answers old.state new.state t.next.0 t.next.3)

replays_stays : (old new : Staged) → StaysStaged old new → replay old.line.pasts.base old.in_place ≡ Ok old.state → replay new.line.pasts.base new.in_place ≡ Ok new.state
replays_stays old new t h = (λ i. replay (t.same.pasts i).base (t.in_place i)) ∙ h ∙ ap Ok (sym t.state)

pub replays_went : (old new : Staged) (result : Result (Unit {0}) AgainFault) → GoesOn old result new → replay old.line.pasts.base old.in_place ≡ Ok old.state → replay new.line.pasts.base new.in_place ≡ Ok new.state
replays_went old new (Ok done) t h = replays_next old new t h
replays_went old new (Err (Differs serial)) t h = replays_stays old new t.1 h
replays_went old new (Err NoMemory) t h = replays_stays old new t h
