-- The ids with room for a program are those under which there is an entry.
use Rattle.std.proofs.Common.{◌≡◌, ◌≢◌, ℕ, Bool, true, false, ◌||◌, List, [], ◌∷◌, Option, Some, None, cond, is_some, refl, sym, ap, subst, ◌∙◌}
use Rattle.std.specs.List.{list_any}
use Rattle.std.specs.Map.{keys_of}
use Rattle.std.specs.Ordering.{nat_cmp, eq_by_cmp}
use Rattle.std.specs.Cmp.{nat_cmp_total}
use Rattle.std.specs.FinMap.{nat_cmp-IsAntisymmetric}
use Rattle.std.specs.FinSet as set
use Rattle.host_state.specs.State.{HostProg}
use Rattle.host_state.proofs.ByIdLemmas.{same_of}
use Rattle.host_state.specs.Hosts.{Entries, found_in, prog_at, PutsProg}
use Rattle.host_state.proofs.HostLemmas.{room_in}

is_some-cond : {X : Type 0} (b : Bool) (x : X) (o : Option X) → b || is_some o ≡ is_some (cond b (Some x) o)
is_some-cond true x o = refl
is_some-cond false x o = refl

any_key : {X : Type 0} (es : List (ℕ × Option X)) (q : ℕ) → list_any (eq_by_cmp nat_cmp q) (keys_of es) ≡ is_some (found_in es q)
any_key [] q = refl
any_key (e ∷ es) q = ap (λ b. eq_by_cmp nat_cmp q e.0 || b) (any_key es q) ∙ is_some-cond (eq_by_cmp nat_cmp q e.0) e.1 (found_in es q)

pub contains-room : (entries : Entries) (q : ℕ) → set.contains (room_in entries) q ≡ is_some (prog_at entries q)
contains-room entries q = set.contains-from_list nat_cmp_total (keys_of entries.progs) q ∙ any_key entries.progs q

-- if the same ids have entries, the same have room
pub room_same : (old new : Entries) → ((q : ℕ) → is_some (prog_at new q) ≡ is_some (prog_at old q)) → room_in new ≡ room_in old
room_same old new same = set.same_set nat_cmp_total nat_cmp-IsAntisymmetric _ _ (λ q. contains-room new q ∙ same q ∙ sym (contains-room old q))

-- room stays if entries are put
pub room_more : (old new : Entries) (id : ℕ) (prog : Option HostProg) → PutsProg old new id (Some prog) → (q : ℕ) → set.contains (room_in old) q ≡ true → set.contains (room_in new) q ≡ true
room_more old new id prog puts q there =
    contains-room new q ∙ ap is_some (puts.0 q) ∙ either (eq_by_cmp nat_cmp id q) (prog_at old q) (sym (contains-room old q) ∙ there)
  where
    either : (b : Bool) (o : Option (Option HostProg)) → is_some o ≡ true → is_some (cond b (Some prog) o) ≡ true
    either true o e = refl
    either false o e = e

pub room_stays : (old new : Entries) → new.progs ≡ old.progs → room_in new ≡ room_in old
room_stays old new same = ap (λ (es : List (ℕ × Option HostProg)). set.from_list (keys_of es)) same

-- and if an entry is put in the place of another
pub room_put : (old new : Entries) (id : ℕ) (prog : Option HostProg) → PutsProg old new id (Some prog) → prog_at old id ≢ None → room_in new ≡ room_in old
room_put old new id prog puts there = room_same old new (λ q. ap is_some (puts.0 q) ∙ either q (eq_by_cmp nat_cmp id q) refl)
  where
    some_there : (o : Option (Option HostProg)) → o ≢ None → is_some o ≡ true
    some_there None there = absurd (there refl)
    some_there (Some p) there = refl

    either : (q : ℕ) (b : Bool) → eq_by_cmp nat_cmp id q ≡ b → is_some (cond b (Some prog) (prog_at old q)) ≡ is_some (prog_at old q)
    either q true tied = sym (some_there (prog_at old q) (subst (λ k. prog_at old k ≢ None) (same_of id q tied) there))
    either q false apart = refl
