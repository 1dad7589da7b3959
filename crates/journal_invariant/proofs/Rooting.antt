-- A change of the pins or of the devices leaves a state in which all that is reached is live.
use Rattle.std.proofs.Common.{◌≡◌, ◌⊎◌, inl, inr, ℕ, zero, suc, Bool, true, false, cond, not, ◌&&◌, Any, List, [], ◌∷◌, Option, Some, None, is_some, Ok, sym, ◌∙◌, ap, subst, arith}
use Rattle.std.specs.Ordering.{nat_cmp, eq_by_cmp}
use Rattle.std.specs.Cmp.Lexicographic.{slice_cmp, nat_list_cmp_total}
use Rattle.std.specs.FinMap as map
use Rattle.bt_roots.specs.declared.target.Target.{Target}
use Rattle.bt_roots.specs.declared.target.Target.TheVariants.{Map, Prog}
use Rattle.bt_roots.specs.declared.device.Device.{Device}
use Rattle.bt_roots.specs.Reachable.{IsRoot}
use Rattle.bt_roots.specs.View.{Pins}
use Rattle.bt_roots.specs.Exchange.{prog_at, attach_at}
use Rattle.host_state.specs.declared.reply.Reply.{Reply}
use Rattle.host_state.specs.State.{State}
use Rattle.host_state.specs.Settled.{settle, is_live_in, IsSettled}
use Rattle.host_state.proofs.Tests.{detached_from}
use Rattle.host_state.proofs.ByIdLemmas.{same_some}
use Rattle.host_state.proofs.LinkedLemmas.{all_reached, next_live, root_live}
use Rattle.host_state.proofs.Lasting.{pin_by, unpin_by, attach_by, put_prog_by, take_prog_by}
use Rattle.journal_invariant.proofs.Settling.{IsMove, state_or, Live}

module _ (s : State) (h : IsSettled s) where
  -- ---- other roots
  -- each root is live
  with_roots : (t : State) (reply : Reply) (pins : Pins) (devices : List Device) → t ≡ settle (record s { pins = pins; devices = devices }) → ((x : Target) → IsRoot pins devices x → Live s x) → IsMove s t
  with_roots t reply pins devices is roots = record {
    middle = record s { pins = pins; devices = devices };
    settles = is;
    only = λ x reached. same x (all_reached (record s { pins = pins; devices = devices }) (Live s) roots (next_live s h) x reached);
    maps = λ id r. r;
    progs = λ id r. r;
  }
    where
      same : (x : Target) → Live s x → Live (record s { pins = pins; devices = devices }) x
      same (Map q) live = live
      same (Prog q) live = live

  -- a pin that is put, or was there
  pinned_live : (path : List ℕ) (target : Target) → Live s target → (x : Target) → IsRoot (map.insert s.pins path target) s.devices x → Live s x
  pinned_live path target live x (inr a) = root_live s h x (inr a)
  pinned_live path target live x (inl p) = by (eq_by_cmp (slice_cmp nat_cmp) p.0 path) (sym (map.get-insert nat_list_cmp_total s.pins path target p.0) ∙ p.1)
    where
      by : (b : Bool) → cond b (Some target) (map.get s.pins p.0) ≡ Some x → Live s x
      by true e = subst (Live s) (same_some e) live
      by false e = root_live s h x (inl (p.0, e))

  unpinned_live : (path : List ℕ) (x : Target) → IsRoot (map.remove s.pins path) s.devices x → Live s x
  unpinned_live path x (inr a) = root_live s h x (inr a)
  unpinned_live path x (inl p) = by (eq_by_cmp (slice_cmp nat_cmp) p.0 path) (sym (map.get-remove nat_list_cmp_total s.pins path p.0) ∙ p.1)
    where
      by : (b : Bool) → cond b None (map.get s.pins p.0) ≡ Some x → Live s x
      by true e = cc
      by false e = root_live s h x (inl (p.0, e))

  pub pin_moves : (t : State) (reply : Reply) (target : Target) (path : List ℕ) (live fine there : Bool) → is_live_in s target ≡ live → pin_by s target path live fine there ≡ Ok (t, reply) → IsMove s t
  pin_moves t reply target path false fine there is e = cc
  pin_moves t reply target path true false there is e = cc
  pin_moves t reply target path true true true is e = cc
  pin_moves t reply target path true true false is e = with_roots t reply (map.insert s.pins path target) s.devices (sym (ap (state_or s) e)) (pinned_live path target is)

  pub unpin_moves : (t : State) (reply : Reply) (path : List ℕ) (there : Bool) → unpin_by s path there ≡ Ok (t, reply) → IsMove s t
  unpin_moves t reply path false e = cc
  unpin_moves t reply path true e = with_roots t reply (map.remove s.pins path) s.devices (sym (ap (state_or s) e)) (unpinned_live path)

  -- what is attached after a program, or none, was put at a position: it, or what was attached before
  attached_now : (devices : List Device) (position : ℕ) (prog : Option ℕ) (id : ℕ) → Any (λ (d : Device). d.prog ≡ Some id) (attach_at devices position prog)
      → (prog ≡ Some id) ⊎ Any (λ (d : Device). d.prog ≡ Some id) devices
  attached_now [] position prog id a = inr a
  attached_now (d ∷ devices) zero prog id (zero, device, lt, is, at) = inl (ap (λ (x : Device). x.prog) is ∙ at)
  attached_now (d ∷ devices) zero prog id (suc k, device, lt, is, at) = inr (suc k, device, omega (arith, lt), is, at)
  attached_now (d ∷ devices) (suc position) prog id (zero, device, lt, is, at) = inr (zero, device, omega arith, is, at)
  attached_now (d ∷ devices) (suc position) prog id (suc k, device, lt, is, at) = later (attached_now devices position prog id (k, device, omega (arith, lt), is, at))
    where
      later : (prog ≡ Some id) ⊎ Any (λ (x : Device). x.prog ≡ Some id) devices → (prog ≡ Some id) ⊎ Any (λ (x : Device). x.prog ≡ Some id) (d ∷ devices)
      later (inl new) = inl new
      later (inr (j, device, lt, is, at)) = inr (suc j, device, omega (arith, lt), is, at)

  attached_live : (position : ℕ) (prog : Option ℕ) → ((id : ℕ) → prog ≡ Some id → Live s (Prog id)) → (x : Target) → IsRoot s.pins (attach_at s.devices position prog) x → Live s x
  attached_live position prog live x (inl p) = root_live s h x (inl p)
  attached_live position prog live x (inr (id, is, any)) = by (attached_now s.devices position prog id any)
    where
      by : (prog ≡ Some id) ⊎ Any (λ (d : Device). d.prog ≡ Some id) s.devices → Live s x
      by (inl new) = subst (Live s) (sym is) (live id new)
      by (inr was) = root_live s h x (inr (id, is, was))

  put_moves : (t : State) (reply : Reply) (position prog : ℕ) → Live s (Prog prog) → (busy : Bool) → put_prog_by s position prog busy ≡ Ok (t, reply) → IsMove s t
  put_moves t reply position prog live true e = cc
  put_moves t reply position prog live false e =
      with_roots t reply s.pins (attach_at s.devices position (Some prog)) (sym (ap (state_or s) e)) (attached_live position (Some prog) (λ id is. subst (λ k. Live s (Prog k)) (same_some is) live))

  pub attach_moves : (t : State) (reply : Reply) (prog : ℕ) (overwrite live : Bool) (position : Option ℕ) → is_live_in s (Prog prog) ≡ live → attach_by s prog overwrite live position ≡ Ok (t, reply) → IsMove s t
  attach_moves t reply prog overwrite false position is e = cc
  attach_moves t reply prog overwrite true None is e = cc
  attach_moves t reply prog overwrite true (Some position) is e = put_moves t reply position prog is (is_some (prog_at s.devices position) && not overwrite) e

  take_moves : (t : State) (reply : Reply) (position : ℕ) (there : Bool) → take_prog_by s position there ≡ Ok (t, reply) → IsMove s t
  take_moves t reply position false e = cc
  take_moves t reply position true e = with_roots t reply s.pins (attach_at s.devices position None) (sym (ap (state_or s) e)) (attached_live position None (λ id is. cc))

  pub detach_moves : (t : State) (reply : Reply) (position : Option ℕ) → detached_from s position ≡ Ok (t, reply) → IsMove s t
  detach_moves t reply None e = cc
  detach_moves t reply (Some position) e = take_moves t reply position (is_some (prog_at s.devices position)) e
