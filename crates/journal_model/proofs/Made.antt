-- What the boxes of a state were made with, after a change: a create adds one under its id, and others add none.
use Rattle.std.proofs.Common.{◌≡◌, ◌⊎◌, inl, inr, ℕ, Bool, true, false, cond, ◌&&◌, refl, sym, ◌∙◌, ap}
use Rattle.std.specs.Prelude.{Option, Some, None, option_map}
use Rattle.std.specs.Ordering.{nat_cmp, eq_by_cmp}
use Rattle.std.specs.Cmp.{nat_cmp_total}
use Rattle.std.specs.FinMap as map
use Rattle.bt_objects.specs.declared.make.Make.{Make}
use Rattle.bt_roots.specs.declared.target.Target.TheVariants.{Map}
use Rattle.host_state.specs.State.{HostMap, State}
use Rattle.host_state.specs.Settled.{settle, is_reached}
use Rattle.host_state.specs.World.{makes_in}
use Rattle.journal_model.proofs.Mapped.{same_of, get-mapped}

-- what a map's box was made with
abbrev pub make_of : HostMap → Make
make_of m = record { attr = m.attr; charge = m.charge }

pub get-makes_in : (s : State) (id : ℕ) → map.get (makes_in s) id ≡ option_map make_of (map.get s.maps id)
get-makes_in s id = get-mapped (λ q m. make_of m) s.maps id

unmade : (g : HostMap → HostMap) → ((m : HostMap) → make_of (g m) ≡ make_of m) → (o : Option HostMap) → option_map make_of (option_map g o) ≡ option_map make_of o
unmade g same None = refl
unmade g same (Some m) = ap Some (same m)

-- retiring changes no box
pub made-settled : (s : State) (id : ℕ) → map.get (makes_in (settle s)) id ≡ map.get (makes_in s) id
unfolding settle
made-settled s id =
    get-makes_in (settle s) id
    ∙ ap (option_map make_of) (get-mapped (λ q (m : HostMap). record m { live = m.live && is_reached s (Map q) }) s.maps id)
    ∙ unmade (λ (m : HostMap). record m { live = m.live && is_reached s (Map id) }) (λ m. refl) (map.get s.maps id)
    ∙ sym (get-makes_in s id)

-- a map that is put in
pub made-insert : (s : State) (id : ℕ) (m : HostMap) (q : ℕ) (make : Make) → option_map make_of (map.get (map.insert s.maps id m) q) ≡ Some make → (map.get (makes_in s) q ≡ Some make) ⊎ ((q ≡ id) × (make ≡ make_of m))
made-insert s id m q make e = cases (eq_by_cmp nat_cmp q id) refl (ap (option_map make_of) (sym (map.get-insert nat_cmp_total s.maps id m q)) ∙ e)
  where
    cases : (b : Bool) → eq_by_cmp nat_cmp q id ≡ b → option_map make_of (cond b (Some m) (map.get s.maps q)) ≡ Some make → (map.get (makes_in s) q ≡ Some make) ⊎ ((q ≡ id) × (make ≡ make_of m))
    cases true tied h = inr (same_of q id tied, cc)
    cases false apart h = inl (get-makes_in s q ∙ h)
