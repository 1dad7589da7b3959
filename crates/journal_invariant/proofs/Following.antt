-- The changes in force at a number of moments stay in front of every later list, if no later taking out took one of them.
use Rattle.std.proofs.Common.{◌≡◌, ℕ, ◌==◌, ◌||◌, Bool, true, false, cond, not, List, [], ◌∷◌, ◌++◌, length, drop, map as each, refl, sym, ◌∙◌, ap, subst}
use Rattle.std.specs.Prelude.{Option, None, Some}
use Rattle.std.proofs.lemmas.List.{append_assoc}
use Rattle.std.proofs.lemmas.List.Elements.{filter-append}
use Rattle.std.proofs.lemmas.List.Folds.{list_any-append}
use Rattle.std.proofs.Math.Seq.{drop-append_seam}
use Rattle.host_state.specs.State.{State}
use Rattle.journal_model.specs.Replay.{Entry}
use Rattle.journal_model.specs.Plain.{Past, newest_force}
use Rattle.journal_model.specs.Force.{is_in_force, without}
use Rattle.journal_model.specs.Rebase.{based_on, or_else, taken_from, first_taken_from}
use Rattle.journal_model.specs.Well.{Each, ForceFollows, EachFollows}

-- ---- taking one out of a longer list
pub without-append : (serial : ℕ) (xs ys : List Entry) → without serial (xs ++ ys) ≡ without serial xs ++ without serial ys
without-append serial xs ys = filter-append (λ (e : Entry). not (e.serial == serial)) xs ys

pub in_force-append : (serial : ℕ) (xs ys : List Entry) → is_in_force serial (xs ++ ys) ≡ is_in_force serial xs || is_in_force serial ys
in_force-append serial xs ys = list_any-append (λ (e : Entry). e.serial == serial) xs ys

-- a change that is not in force is not missed
pub not_there : (serial : ℕ) (xs : List Entry) → is_in_force serial xs ≡ false → without serial xs ≡ xs
not_there serial [] e = refl
not_there serial (x ∷ xs) e = by (x.serial == serial) e (not_there serial xs)
  where
    by : (b : Bool) → (b || is_in_force serial xs) ≡ false → (is_in_force serial xs ≡ false → without serial xs ≡ xs) → cond (not b) (x ∷ without serial xs) (without serial xs) ≡ x ∷ xs
    by true f rest = cc
    by false f rest = ap (λ ys. x ∷ ys) (rest f)

-- ---- one moment
-- the list after one that begins so begins so too, and what is left of it follows from what was left
record GoesOn (front rest force : List Entry) (serial : ℕ) (out : Option ℕ) : Type 0 where
  more : List Entry
  whole : force ≡ front ++ more
  follows : ForceFollows serial out rest more

goes_on : (front before rest force : List Entry) (serial : ℕ) (out : Option ℕ) → before ≡ front ++ rest → taken_from front serial out ≡ None → ForceFollows serial out before force → GoesOn front rest force serial out
goes_on front before rest force serial None is none f = record {
  more = rest ++ f.0 ∷ [];
  whole = f.2 ∙ ap (λ xs. xs ++ f.0 ∷ []) is ∙ append_assoc front rest (f.0 ∷ []);
  follows = (f.0, f.1, refl);
}
goes_on front before rest force serial (Some out) is none f = by (is_in_force out front) refl none
  where
    by : (b : Bool) → is_in_force out front ≡ b → cond b (Some serial) None ≡ None → GoesOn front rest force serial (Some out)
    by true taken none = cc
    by false apart none = record {
      more = without out rest;
      whole = f.1 ∙ ap (without out) is ∙ without-append out front rest ∙ ap (λ xs. xs ++ without out rest) (not_there out front apart);
      follows = (ap (λ b. b || is_in_force out rest) (sym apart) ∙ sym (in_force-append out front rest) ∙ ap (is_in_force out) (sym is) ∙ f.0, refl);
    }

-- ---- moments
pub EachFollows-rest : (xs ys : List Past) → EachFollows (xs ++ ys) → EachFollows ys
EachFollows-rest [] ys f = f
EachFollows-rest (x ∷ xs) ys f = EachFollows-rest xs ys f.1

-- none of them took one of these changes out
abbrev pub Spares : List Entry → Past → Type 0
Spares front m = taken_from front m.serial m.out ≡ None

pub spares : (front : List Entry) (ms : List Past) → first_taken_from front ms ≡ None → Each (Spares front) ms
spares front [] e = tt
spares front (m ∷ ms) e = by (taken_from front m.serial m.out) refl e (spares front ms)
  where
    by : (o : Option ℕ) → taken_from front m.serial m.out ≡ o → or_else o (first_taken_from front ms) ≡ None → (first_taken_from front ms ≡ None → Each (Spares front) ms) → Each (Spares front) (m ∷ ms)
    by None is f rest = (is, rest f)
    by (Some serial) is f rest = cc

-- a list that begins with another
pub record BeginsWith (front whole : List Entry) : Type 0 where
  pub more : List Entry
  pub is : whole ≡ front ++ more

pub dropped : (front : List Entry) (whole : List Entry) → (b : BeginsWith front whole) → drop (length front) whole ≡ b.more
dropped front whole b = ap (drop (length front)) b.is ∙ drop-append_seam front b.more

module _ (base : State) (front : List Entry) where
  abbrev on : Past → Past
  on = based_on base front

  -- moments that follow from a list in force that is the front begin with it, and on a new base they follow from none
  pub record Behind (later earlier : List Past) : Type 0 where
    pub newest : BeginsWith front (newest_force (later ++ earlier))
    pub each_begins : Each (λ (m : Past). BeginsWith front m.force) later
    pub on_base : newest_force (each on later) ≡ newest.more
    pub follow : EachFollows (each on later)

  pub all_behind : (later earlier : List Past) → newest_force earlier ≡ front → EachFollows (later ++ earlier) → Each (Spares front) later → Behind later earlier
  all_behind [] earlier is f s = record { newest = record { more = []; is = is ∙ sym (nothing_more front) }; each_begins = tt; on_base = refl; follow = tt }
    where
      nothing_more : (xs : List Entry) → xs ++ [] ≡ xs
      nothing_more [] = refl
      nothing_more (x ∷ xs) = ap (λ ys. x ∷ ys) (nothing_more xs)
  all_behind (m ∷ ms) earlier is f s =
      let rest : Behind ms earlier = all_behind ms earlier is f.1 s.1 in
      let g : GoesOn front rest.newest.more m.force m.serial m.out = goes_on front (newest_force (ms ++ earlier)) rest.newest.more m.force m.serial m.out rest.newest.is s.0 f.0 in
      let begins : BeginsWith front m.force = record { more = g.more; is = g.whole } in
      let left : drop (length front) m.force ≡ g.more = dropped front m.force begins in
      record {
        newest = begins;
        each_begins = (begins, rest.each_begins);
        on_base = left;
        follow = (subst (λ (x : List Entry × List Entry). ForceFollows m.serial m.out x.0 x.1) (λ i. (sym rest.on_base i, sym left i)) g.follows, rest.follow);
      }
