-- What is live hangs on the roots that an unpin or a detach leaves, and on the object that it lets go.
use Rattle.std.proofs.Common.{◌≡◌, Bool, true, false, IsTrue, Any, Some, cond, inl, inr, sym, ap, subst, ◌∙◌}
use Rattle.std.specs.Prelude.{◌⊎◌}
use Rattle.std.specs.Ordering.{eq_by_cmp}
use Rattle.std.specs.Option.{option_map}
use Rattle.std.specs.FinMap as map
use Rattle.bt_mapkind.specs.Seen.{Seen}
use Rattle.bt_objects.specs.Boxes.{ById}
use Rattle.bt_roots.specs.declared.target.Target.{Target}
use Rattle.bt_roots.specs.declared.target.Target.TheVariants.{Map, Prog}
use Rattle.bt_roots.specs.declared.back.RootBack.{RootBack}
use Rattle.bt_roots.specs.declared.back.RootBack.TheVariants.{Pin as PinBack, Attachment}
use Rattle.bt_roots.specs.declared.device.Device.{Device}
use Rattle.bt_roots.specs.View.{RootsView, path_cmp}
use Rattle.bt_roots.specs.Exchange.{exchanged, target_of}
use Rattle.bt_roots.specs.Reachable.{IsRoot}
use Rattle.bt_roots.proofs.LiveLemmas.{live_is}
use Rattle.bt_roots.proofs.SlotLemmas.{get-put_at}
use Rattle.host_state.specs.State.{State}
use Rattle.host_state.specs.Settled.{links_of, is_live_in}
use Rattle.host_state.proofs.LinkedLemmas.{live_reached}
use Rattle.host_state.proofs.SettleLemmas.{more_roots}
use Rattle.host_state.specs.Hosts.{Entries, state_of, IsSound}
use Rattle.host_retirement.specs.Cut.{HangsOn}
use Rattle.host_pins.proofs.AttachLemmas.{attached_now}

-- a root of what an exchange leaves was one before, or is what it put in place
abbrev IsOldOrPut : RootsView → RootBack → Target → Type 0
IsOldOrPut left pin x = IsRoot left.pins left.devices x ⊎ (target_of pin ≡ Some x)

root_put : (left : RootsView) (pin : RootBack) (x : Target) → IsRoot (exchanged left pin).0.pins (exchanged left pin).0.devices x → IsOldOrPut left pin x
unfolding exchanged
root_put left (PinBack path target) x (inr attached) = inl (inr attached)
root_put left (PinBack path target) x (inl (q, there)) = by (eq_by_cmp path_cmp q path) (sym (get-put_at left.pins path q target) ∙ there)
  where
    by : (b : Bool) → cond b target (map.get left.pins q) ≡ Some x → IsOldOrPut left (PinBack path target) x
    by true is = inr is
    by false is = inl (inl (q, is))
root_put left (Attachment position prog) x (inl pinned) = inl (inl pinned)
root_put left (Attachment position prog) x (inr (id, is, any)) = by (attached_now left.devices position prog id any)
  where
    by : (prog ≡ Some id) ⊎ Any (λ (d : Device). d.prog ≡ Some id) left.devices → IsOldOrPut left (Attachment position prog) x
    by (inl put) = inr (ap (option_map Prog) put ∙ ap Some (sym is))
    by (inr was) = inl (inr (id, is, was))

pub hangs : (boxes : ById Seen) (entries : Entries) (roots left : RootsView) (pin : RootBack) → (exchanged left pin).0 ≡ record roots { room = left.room } → IsSound boxes entries roots
    → HangsOn (target_of pin) (state_of boxes entries left)
hangs boxes entries roots left pin restores sound t live =
    more_roots (links_of was) t still ((live_is roots.pins roots.devices (links_of was) t).0 (live_reached was sound.settled t (live_before t live)))
  where
    was : State
    was = state_of boxes entries roots

    live_before : (t : Target) → IsTrue (is_live_in (state_of boxes entries left) t) → IsTrue (is_live_in (state_of boxes entries roots) t)
    live_before (Map q) live = live
    live_before (Prog q) live = live

    still : (x : Target) → IsRoot roots.pins roots.devices x → IsOldOrPut left pin x
    still x root = root_put left pin x (subst (λ (r : RootsView). IsRoot r.pins r.devices x) (sym restores) root)
