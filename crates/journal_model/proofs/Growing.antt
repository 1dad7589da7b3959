-- No change takes an object away, and what a change makes is there after it.
use Rattle.std.proofs.Common.{◌≡◌, ℕ, ◌==◌, ◌||◌, Bool, true, false, cond, not, ◌&&◌, List, [], ◌∷◌, map as each, Ok, Err, Option, Some, None, is_some, IsSome, refl, sym, ◌∙◌, ap, arith}
use Rattle.std.proofs.lemmas.Bool.Decides.{nat_tests}
use Rattle.std.specs.Ordering.{nat_cmp, eq_by_cmp}
use Rattle.std.specs.Cmp.{nat_cmp_total, unsigned_tied}
use Rattle.std.specs.FinMap as map
use Rattle.std.specs.FinMap.{find}
use Rattle.bt_mapkind.specs.declared.errno.Errno.{Errno as Error}
use Rattle.bt_mapkind.specs.declared.errno.Errno.TheVariants.{ENOENT, EINVAL, EEXIST}
use Rattle.bt_mapkind.specs.Attributes.{good}
use Rattle.host_words.specs.Spelling.{is_name, is_path}
use Rattle.bt_objects.specs.Ids.{is_among}
use Rattle.bt_objects.specs.declared.make.Make.{Make}
use Rattle.host_state.specs.declared.change.Change.{Change}
use Rattle.host_state.specs.declared.change.Change.TheVariants.{Create, Load}
use Rattle.host_state.specs.declared.reply.Reply.{Reply}
use Rattle.host_state.specs.declared.reply.Reply.TheVariants.{Loaded}
use Rattle.bt_objects.specs.ById.{ById}
use Rattle.host_state.specs.State.{State}
use Rattle.host_state.specs.Settled.{settle}
use Rattle.host_state.specs.World.{makes_in, ListsAll}
use Rattle.host_state.specs.Act.{Outcome, act, new_prog as made_of}
use Rattle.host_state.proofs.Tests.{with_prog, has_maps, template_of}
use Rattle.host_state.proofs.Lasting.{created_by, made_by, makes_after, lists_back}
use Rattle.journal_model.proofs.Acts.{new_id, new_prog, new_box}
use Rattle.journal_model.proofs.Boxes.{with_box}
use Rattle.journal_model.proofs.Mapped.{has-mapped, same_of, is_itself}

-- ---- objects stay
pub ids_of : {X : Type 0} → ById X → List ℕ
ids_of m = each (λ e. e.0) (map.entries m)

among-find : {X : Type 0} (es : List (ℕ × X)) (q : ℕ) → is_among (each (λ e. e.0) es) q ≡ is_some (find nat_cmp q es)
among-find [] q = refl
among-find {X} (e ∷ es) q =
    ap (λ b. b || is_among (each (λ (e : ℕ × X). e.0) es) q) (flip e.0 ∙ sym (unsigned_tied q e.0)) ∙ ap (λ b. eq_by_cmp nat_cmp q e.0 || b) (among-find es q) ∙ cases (eq_by_cmp nat_cmp q e.0) (find nat_cmp q es)
  where
    flip : (k : ℕ) → (k == q) ≡ (q == k)
    flip k = grind (arith, nat_tests)

    cases : (b : Bool) (o : Option X) → (b || is_some o) ≡ is_some (cond b (Some e.1) o)
    cases true o = refl
    cases false o = refl

pub among-ids : {X : Type 0} (m : ById X) (q : ℕ) → is_among (ids_of m) q ≡ map.contains_key m q
unfolding ids_of
among-ids m q = among-find (map.entries m) q ∙ ap is_some (sym (map.get-entries m q))

pub progs_stay : (s t : State) (change : Change) (reply : Reply) → act s change ≡ Ok (t, reply) → (id : ℕ) → map.contains_key s.progs id ≡ true → map.contains_key t.progs id ≡ true
progs_stay s t change reply e id there =
    let l : ListsAll (ids_of t.maps) (ids_of t.progs) s = lists_back (ids_of t.maps) (ids_of t.progs) s t change reply e (record {
      maps_listed = λ q m f. among-ids t.maps q ∙ ap is_some f;
      progs_listed = λ q p f. among-ids t.progs q ∙ ap is_some f;
    }) in
    here l (map.get s.progs id) refl there
  where
    here : ListsAll (ids_of t.maps) (ids_of t.progs) s → (o : Option _) → map.get s.progs id ≡ o → is_some o ≡ true → map.contains_key t.progs id ≡ true
    here l None f has = cc
    here l (Some p) f has = sym (among-ids t.progs id) ∙ l.progs_listed id p f

-- what stands under an id stands there with one more under a free id
pub kept_by_insert : (m : ById Make) (id : ℕ) (new : Make) (q : ℕ) (make : Make) → ¬ (IsSome (map.get m id)) → map.get m q ≡ Some make → map.get (map.insert m id new) q ≡ Some make
kept_by_insert m id new q make free there = map.get-insert nat_cmp_total m id new q ∙ cases (eq_by_cmp nat_cmp q id) refl
  where
    cases : (b : Bool) → eq_by_cmp nat_cmp q id ≡ b → cond b (Some new) (map.get m q) ≡ Some make
    cases true tied = absurd (free (ap is_some (sym (ap (map.get m) (same_of q id tied)) ∙ there)))
    cases false apart = there

-- the boxes with the new one
pub had_with : (change : Change) (makes : ById Make) → ((id : ℕ) → new_id change ≡ Some id → ¬ (IsSome (map.get makes id))) → (q : ℕ) (make : Make) → map.get makes q ≡ Some make → map.get (with_box (new_box change) makes) q ≡ Some make
had_with (Create id attr charge name path template) makes free q make e = kept_by_insert makes id _ q make (free id refl) e
had_with _ makes free q make e = e

-- they are those of the state after
pub after_with : (change : Change) (makes : ById Make) → makes_after change makes ≡ with_box (new_box change) makes
after_with (Create id attr charge name path template) makes = refl
after_with _ makes = refl

-- a create comes to a state without a map of its id
free_new : (s t : State) (change : Change) (reply : Reply) → act s change ≡ Ok (t, reply) → (id : ℕ) → new_id change ≡ Some id → ¬ (IsSome (map.get (makes_in s) id))
unfolding act
free_new s t (Create its attr charge name path template) reply e id n has =
    absurd (apart (same n) (tests (map.contains_key s.maps its) e))
  where
    tests : (there : Bool) → created_by s its attr charge name path there (good attr && is_name name) (template_of s attr.kind template) ≡ Ok (t, reply) → there ≡ false
    tests true f = cc
    tests false f = refl

    same : Some its ≡ Some id → id ≡ its
    same f = cc

    apart : id ≡ its → map.contains_key s.maps its ≡ false → ⊥
    apart f none = cc (sym (sym (has-mapped _ s.maps id) ∙ has) ∙ ap (map.contains_key s.maps) f ∙ none)
free_new s t _ reply e id n has = cc

pub makes_stay : (s t : State) (change : Change) (reply : Reply) → act s change ≡ Ok (t, reply) → (id : ℕ) (make : Make) → map.get (makes_in s) id ≡ Some make → map.get (makes_in t) id ≡ Some make
makes_stay s t change reply e id make f =
    ap (λ (m : ById Make). map.get m id) (made_by s t change reply e ∙ after_with change (makes_in s)) ∙ had_with change (makes_in s) (free_new s t change reply e) id make f

-- ---- what a change makes is there
-- the box of a map that is made is there
pub box_after : (s t : State) (change : Change) (reply : Reply) → act s change ≡ Ok (t, reply) → (id : ℕ) (make : Make) → new_box change ≡ Some (id, make) → map.get (makes_in t) id ≡ Some make
box_after s t change reply e id make n =
    ap (λ (m : ById Make). map.get m id) (made_by s t change reply e ∙ after_with change (makes_in s) ∙ ap (λ box. with_box box (makes_in s)) n)
    ∙ map.get-insert nat_cmp_total (makes_in s) id make id
    ∙ ap (λ b. cond b (Some make) (map.get (makes_in s) id)) (is_itself id)

not_err : (test : Bool) (errno : Error) (o : Outcome) (done : State × Reply) → cond test (Err errno) o ≡ Ok done → o ≡ Ok done
not_err true errno o done e = cc
not_err false errno o done e = e

same_ok : (a b : State × Reply) → ◌≡◌ {A = Outcome} (Ok a) (Ok b) → a ≡ b
same_ok a b e = cc

-- a program that is loaded is there
pub prog_after : (s t : State) (change : Change) (reply : Reply) → act s change ≡ Ok (t, reply) → (id : ℕ) → new_prog change ≡ Some id → map.contains_key t.progs id ≡ true
unfolding act settle
prog_after s t (Load its code name path) reply e id n =
    let after : State = with_prog s its (made_of code name) path in
    let is : (settle after, Loaded its) ≡ (t, reply) =
    same_ok _ _ (not_err (map.contains_key s.pins path) EEXIST _ _ (not_err (not (is_path path)) EINVAL _ _ (not_err (not (has_maps s code)) ENOENT _ _ (not_err (map.contains_key s.progs its) EEXIST _ _ e)))) in
    ap (λ (d : State × Reply). map.contains_key d.0.progs id) (sym is) ∙ has-mapped _ after.progs id ∙ ap (map.contains_key after.progs) (same n)
    ∙ ap is_some (map.get-insert nat_cmp_total s.progs its (made_of code name) its ∙ ap (λ b. cond b (Some (made_of code name)) (map.get s.progs its)) (is_itself its))
  where
    same : Some its ≡ Some id → id ≡ its
    same f = cc
prog_after s t _ reply e id n = cc
