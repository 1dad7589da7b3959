-- A program that is attached or detached is what `act` says, its undoing joins the two states, and the world stays sound.
use Rattle.std.proofs.Common.{◌≡◌, ℕ, zero, suc, Bool, true, false, not, ◌&&◌, IsTrue, List, [], ◌∷◌, Any, Option, Some, None, Ok, Err, cond, is_some, inl, inr, refl, sym, ap, subst, ◌∙◌, arith}
use Rattle.std.specs.Prelude.{◌⊎◌, if◌then◌else◌}
use Rattle.std.specs.FinSet as set
use Rattle.bt_mapkind.specs.declared.errno.Errno.TheVariants.{ENOENT}
use Rattle.bt_mapkind.specs.Seen.{Seen}
use Rattle.bt_mapkind.proofs.Stays.{both_true}
use Rattle.bt_objects.specs.Boxes.{ById}
use Rattle.bt_roots.specs.declared.target.Target.{Target}
use Rattle.bt_roots.specs.declared.target.Target.TheVariants.{Map, Prog}
use Rattle.bt_roots.specs.declared.device.Device.{Device}
use Rattle.bt_roots.specs.declared.back.RootBack.{RootBack}
use Rattle.bt_roots.specs.declared.back.RootBack.TheVariants.{Attachment}
use Rattle.bt_roots.specs.declared.fault.RootFault.{RootFault}
use Rattle.bt_roots.specs.declared.fault.RootFault.TheVariants.{NoEntry, Busy}
use Rattle.bt_roots.specs.View.{RootsView, position_of}
use Rattle.bt_roots.specs.Exchange.{KeepsRoom, exchange_fits, exchanged, prog_at as device_prog, attach_at}
use Rattle.bt_roots.specs.Answers.{Answer, IsAnswered, attach_answer, attach_there, detach_answer, detach_there}
use Rattle.bt_roots.specs.Reachable.{IsRoot}
use Rattle.bt_roots.proofs.LiveLemmas.{live_is}
use Rattle.host_state.specs.declared.change.Change.TheVariants.{Attach, Detach}
use Rattle.host_state.specs.declared.reply.Reply.TheVariants.{Done}
use Rattle.host_state.specs.declared.reply.Refusal.{Refusal}
use Rattle.host_state.specs.declared.reply.Refusal.TheVariants.{Errno}
use Rattle.host_state.specs.declared.retirement.Retirement.{Retirement}
use Rattle.host_undoing.specs.declared.undoing.Part.TheVariants.{Pinned}
use Rattle.host_state.specs.State.{State}
use Rattle.host_state.specs.Settled.{links_of, is_reached, settle, IsSettled, is_live_in, is_listed, ListsRetired}
use Rattle.host_state.specs.Act.{act, with_attached}
use Rattle.host_state.proofs.Tests.{detached_from}
use Rattle.host_state.specs.Hosts.{Entries, entry_at, prog_at, state_of, ready_of, view_of, IsSound, RevivesEntries, live_target_in}
use Rattle.host_state.proofs.HostLemmas.{lives_as, prog_lives_as, live_prog_host}
use Rattle.host_pins.specs.Made.{refusal_of}
use Rattle.host_retirement.specs.Gathered.{IsRetired, RetiredIf}
use Rattle.host_undoing.specs.Exchange.{back_of, Joins}
use Rattle.host_undoing.specs.Answers.{Retires, IsReason, IsUnchanged}
use Rattle.host_undoing.proofs.Parts.{IsApplied}
use Rattle.host_state.proofs.ByIdLemmas.{same_some}
use Rattle.host_state.proofs.Lasting.{attach_by, put_prog_by, take_prog_by}
use Rattle.host_undoing.proofs.RetiringLemmas.{retiring_joins, settled_retires}
use Rattle.host_state.proofs.RetireLemmas.{none_ascend}
use Rattle.host_state.proofs.RetireLemmas.{settle_revives, revived_settled, settled_lists}
use Rattle.host_state.proofs.ReviveLemmas.{revived_state, revived_built, revived_room}
use Rattle.host_state.proofs.SettleLemmas.{more_roots}
use Rattle.host_state.proofs.LinkedLemmas.{all_reached, next_live, root_live}
use Rattle.host_pins.proofs.PinLemmas.{pinned_joins, pinned_apart, same_roots}

-- ---- devices
-- what is attached after a program, or none, was put at a position: it, or what was attached before
pub attached_now : (devices : List Device) (position : ℕ) (prog : Option ℕ) (id : ℕ) → Any (λ (d : Device). d.prog ≡ Some id) (attach_at devices position prog)
    → (prog ≡ Some id) ⊎ Any (λ (d : Device). d.prog ≡ Some id) devices
attached_now [] position prog id h = inr h
attached_now (d ∷ devices) zero prog id (zero, device, lt, is, at) = inl (ap (λ (x : Device). x.prog) is ∙ at)
attached_now (d ∷ devices) zero prog id (suc k, device, lt, is, at) = inr (suc k, device, omega (arith, lt), is, at)
attached_now (d ∷ devices) (suc position) prog id (zero, device, lt, is, at) = inr (zero, device, omega arith, is, at)
attached_now (d ∷ devices) (suc position) prog id (suc k, device, lt, is, at) = later (attached_now devices position prog id (k, device, omega (arith, lt), is, at))
  where
    later : (prog ≡ Some id) ⊎ Any (λ (x : Device). x.prog ≡ Some id) devices → (prog ≡ Some id) ⊎ Any (λ (x : Device). x.prog ≡ Some id) (d ∷ devices)
    later (inl new) = inl new
    later (inr (j, device, lt, is, at)) = inr (suc j, device, omega (arith, lt), is, at)

-- ---- roots that change, and what retires then
module _ (boxes : ById Seen) (old new : Entries) (roots left : RootsView) (pin : RootBack) (retired : Retirement) (sound : IsSound boxes old roots)
    (restores : (exchanged left pin).0 ≡ record roots { room = left.room }) (fits : exchange_fits left pin ≡ true) (keeps : KeepsRoom roots left) (r : IsRetired boxes old left retired new)
    (live : (t : Target) → IsRoot left.pins left.devices t → IsTrue (is_live_in (state_of boxes old roots) t)) where
  abbrev first : State
  first = state_of boxes old roots

  abbrev middle : State
  middle = state_of boxes old left

  live_in_first : (t : Target) → is_live_in middle t ≡ is_live_in first t
  live_in_first (Map q) = refl
  live_in_first (Prog q) = refl

  were : (t : Target) → IsTrue (is_listed retired.targets t) → IsTrue (is_live_in first t)
  were t listed = sym (live_in_first t) ∙ (both_true (is_live_in middle t) (not (is_reached middle t)) (sym (r.lists t) ∙ listed)).0

  only_live : (t : Target) → IsTrue (is_reached middle t) → IsTrue (is_live_in middle t)
  only_live t reached = live_in_first t ∙ all_reached middle (λ t. IsTrue (is_live_in first t)) live (next_live first sound.settled) t reached

  pub roots_settled : state_of boxes new left ≡ settle (state_of boxes old left)
  roots_settled = revived_state boxes old new retired.targets false r.entries left ∙ sym (settle_revives middle retired.targets r.lists)

  pub roots_sound : IsSound boxes new left
  roots_sound = record {
    built = revived_built boxes old new retired.targets false r.entries sound.built;
    settled = subst IsSettled (sym (revived_state boxes old new retired.targets false r.entries left)) (revived_settled middle retired.targets r.lists only_live);
  }

  pub roots_joined : Joins (ready_of boxes new left) (state_of boxes old roots) (state_of boxes new left) (record { part = Pinned pin; retired = retired }) (back_of (state_of boxes new left) (record { part = Pinned pin; retired = retired }))
  roots_joined =
      subst (λ s. Joins (ready_of boxes new left) first s (record { part = Pinned pin; retired = retired }) (back_of s (record { part = Pinned pin; retired = retired }))) (sym roots_settled)
      (retiring_joins (ready_of boxes new left) first middle (Pinned pin) (Pinned (exchanged left pin).1) retired (pinned_joins boxes old roots left pin restores fits keeps new) r.lists r.live were
      (pinned_apart (ready_of boxes new left) middle pin retired.targets fits) only_live sound.settled (λ t e. cc))

  pub roots_retired : Retires (state_of boxes old roots) (state_of boxes new left) retired
  roots_retired = subst (λ s. Retires first s retired) (sym roots_settled) (settled_retires first middle retired r.lists r.ascends r.live live_in_first)

  pub room_left : (q : ℕ) → set.contains (ready_of boxes old roots).progs q ≡ true → set.contains (ready_of boxes new left).progs q ≡ true
  room_left q there = ap (λ rs. set.contains rs q) (revived_room boxes old new retired.targets false r.entries) ∙ there

-- ---- what retires, if something may have been taken away
nothing_revived : (old new : Entries) (targets : List Target) → targets ≡ [] → new ≡ old → RevivesEntries old new targets false
nothing_revived old new targets none same = record {
  maps = λ q. ap (λ e. entry_at e q) same ∙ ap (λ ts. cond (is_listed ts (Map q)) (lives_as false (entry_at old q)) (entry_at old q)) (sym none);
  progs = λ q. ap (λ e. prog_at e q) same ∙ ap (λ ts. cond (is_listed ts (Prog q)) (prog_lives_as false (prog_at old q)) (prog_at old q)) (sym none);
}

-- without a walk nothing retires, if the state is settled
all_retired : (walks : Bool) (boxes : ById Seen) (old new : Entries) (left : RootsView) (retired : Retirement) → (walks ≡ false → IsSettled (state_of boxes old left)) → RetiredIf walks boxes old left retired new
    → IsRetired boxes old left retired new
all_retired true boxes old new left retired settled r = r
all_retired false boxes old new left retired settled r = record {
  lists = subst (ListsRetired (state_of boxes old left)) (sym r.0) (settled_lists (state_of boxes old left) (settled refl));
  ascends = none_ascend retired.targets r.0;
  live = r.1;
  entries = nothing_revived old new retired.targets r.0 r.2;
}

-- ---- a program that is attached
-- what was attached stays so, if the device was free
attached_still : (devices : List Device) (position prog id : ℕ) → is_some (device_prog devices position) ≡ false → Any (λ (d : Device). d.prog ≡ Some id) devices
    → Any (λ (d : Device). d.prog ≡ Some id) (attach_at devices position (Some prog))
attached_still [] position prog id free (k, device, lt, is, at) = absurd (omega (arith, lt))
attached_still (d ∷ devices) zero prog id free (zero, device, lt, is, at) = cc (sym free ∙ ap is_some (ap (λ (x : Device). x.prog) is ∙ at))
attached_still (d ∷ devices) zero prog id free (suc k, device, lt, is, at) = (suc k, device, omega (arith, lt), is, at)
attached_still (d ∷ devices) (suc position) prog id free (zero, device, lt, is, at) = (zero, device, omega arith, is, at)
attached_still (d ∷ devices) (suc position) prog id free (suc k, device, lt, is, at) = later (attached_still devices position prog id free (k, device, omega (arith, lt), is, at))
  where
    later : Any (λ (x : Device). x.prog ≡ Some id) (attach_at devices position (Some prog)) → Any (λ (x : Device). x.prog ≡ Some id) (d ∷ attach_at devices position (Some prog))
    later (j, device, lt, is, at) = (suc j, device, omega (arith, lt), is, at)

-- a settled state stays settled with a live program on a free device
settled_attached : (s : State) (position prog : ℕ) → is_some (device_prog s.devices position) ≡ false → IsTrue (is_live_in s (Prog prog)) → IsSettled s → IsSettled (with_attached s position (Some prog))
settled_attached s position prog free is_live h = record {
  maps = λ q n at live. still (Map q) (h.maps q n at live);
  progs = λ q p at live. still (Prog q) (h.progs q p at live);
  only = λ t r. same_live t (all_reached (with_attached s position (Some prog)) (λ t. IsTrue (is_live_in s t)) first (next_live s h) t r);
}
  where
    more : (x : Target) → IsRoot s.pins s.devices x → IsRoot s.pins (attach_at s.devices position (Some prog)) x
    more x (inl p) = inl p
    more x (inr (id, is, any)) = inr (id, is, attached_still s.devices position prog id free any)

    still : (t : Target) → IsTrue (is_reached s t) → IsTrue (is_reached (with_attached s position (Some prog)) t)
    still t r =
        (live_is s.pins (attach_at s.devices position (Some prog)) (links_of s) t).1 (more_roots (links_of s) t more ((live_is s.pins s.devices (links_of s) t).0 r))

    same_live : (t : Target) → IsTrue (is_live_in s t) → IsTrue (is_live_in (with_attached s position (Some prog)) t)
    same_live (Map q) live = live
    same_live (Prog q) live = live

    from : (t : Target) (id : ℕ) → t ≡ Prog id → (Some prog ≡ Some id) ⊎ Any (λ (d : Device). d.prog ≡ Some id) s.devices → IsTrue (is_live_in s t)
    from t id is (inl new) = subst (λ x. IsTrue (is_live_in s x)) (ap Prog (same_some new) ∙ sym is) is_live
    from t id is (inr was) = root_live s h t (inr (id, is, was))

    first : (t : Target) → IsRoot s.pins (attach_at s.devices position (Some prog)) t → IsTrue (is_live_in s t)
    first t (inl p) = root_live s h t (inl p)
    first t (inr (id, is, any)) = from t id is (attached_now s.devices position (Some prog) id any)

acts_attach : (s : State) (prog : ℕ) (device : List ℕ) (overwrite : Bool) → act s (Attach prog device overwrite) ≡ attach_by s prog overwrite (is_live_in s (Prog prog)) (position_of s.devices device)
unfolding act
acts_attach s prog device overwrite = refl

acts_detach : (s : State) (device : List ℕ) → act s (Detach device) ≡ detached_from s (position_of s.devices device)
unfolding act
acts_detach s device = refl

pub record IsPutThere (roots : RootsView) (prog : ℕ) (device : List ℕ) (overwrite : Bool) (left : RootsView) : Type 0 where
  pub position : ℕ
  pub found : position_of roots.devices device ≡ Some position
  pub free : is_some (device_prog roots.devices position) && not overwrite ≡ false
  pub left_is : left ≡ record roots { devices = attach_at roots.devices position (Some prog) }

pub put_there : (roots : RootsView) (prog : ℕ) (device : List ℕ) (overwrite : Bool) (pin : RootBack) (left : RootsView) → IsAnswered (attach_answer roots device prog overwrite) roots (Ok pin) left
    → IsPutThere roots prog device overwrite left
unfolding attach_answer exchanged
put_there roots prog device overwrite pin left answered = by_position (position_of roots.devices device) refl answered
  where
    by_test : (position : ℕ) → position_of roots.devices device ≡ Some position → (busy : Bool) → is_some (device_prog roots.devices position) && not overwrite ≡ busy
        → IsAnswered (if busy then Err Busy else Ok (exchanged roots (Attachment position (Some prog)))) roots (Ok pin) left → IsPutThere roots prog device overwrite left
    by_test position at true busy a = absurd a
    by_test position at false free a = record { position = position; found = at; free = free; left_is = a.0 }

    by_position : (o : Option ℕ) → position_of roots.devices device ≡ o → IsAnswered (attach_there roots prog overwrite o) roots (Ok pin) left → IsPutThere roots prog device overwrite left
    by_position None at a = absurd a
    by_position (Some position) at a = by_test position at (is_some (device_prog roots.devices position) && not overwrite) refl a

-- why none was attached
pub not_attached_dead : (boxes : ById Seen) (entries : Entries) (roots : RootsView) (work prog : ℕ) (device : List ℕ) (overwrite : Bool) → live_target_in entries (Prog prog) ≡ false
    → IsReason (view_of boxes entries roots work) (Attach prog device overwrite) (Errno ENOENT) × IsUnchanged (view_of boxes entries roots work) (view_of boxes entries roots work)
not_attached_dead boxes entries roots work prog device overwrite dead =
    let s = state_of boxes entries roots in (
      (tt, acts_attach s prog device overwrite ∙ ap (λ b. attach_by s prog overwrite b (position_of s.devices device)) (sym (live_prog_host entries prog) ∙ dead)),
      same_roots boxes entries roots roots work work refl,
    )

pub not_attached : (boxes : ById Seen) (entries : Entries) (roots left : RootsView) (work now prog : ℕ) (device : List ℕ) (overwrite : Bool) (fault : RootFault) (refusal : Refusal)
    → live_target_in entries (Prog prog) ≡ true → IsAnswered (attach_answer roots device prog overwrite) roots (Err fault) left → refusal ≡ refusal_of fault
    → IsReason (view_of boxes entries roots work) (Attach prog device overwrite) refusal × IsUnchanged (view_of boxes entries roots work) (view_of boxes entries left now)
unfolding attach_answer
not_attached boxes entries roots left work now prog device overwrite fault refusal live answered told = by_position (position_of roots.devices device) refl answered
  where
    acts : (o : Option ℕ) → position_of roots.devices device ≡ o → act (state_of boxes entries roots) (Attach prog device overwrite) ≡ attach_by (state_of boxes entries roots) prog overwrite true o
    acts o at =
        acts_attach (state_of boxes entries roots) prog device overwrite
        ∙ (λ i. attach_by (state_of boxes entries roots) prog overwrite ((sym (live_prog_host entries prog) ∙ live) i) (at i))

    by_test : (position : ℕ) → position_of roots.devices device ≡ Some position → (busy : Bool) → is_some (device_prog roots.devices position) && not overwrite ≡ busy
        → IsAnswered (if busy then Err Busy else Ok (exchanged roots (Attachment position (Some prog)))) roots (Err fault) left → IsReason (view_of boxes entries roots work) (Attach prog device overwrite) refusal × IsUnchanged (view_of boxes entries roots work) (view_of boxes entries left now)
    by_test position at true busy a = (
      subst (IsReason (view_of boxes entries roots work) (Attach prog device overwrite)) (sym (told ∙ ap refusal_of a.0)) (tt, acts (Some position) at ∙ ap (put_prog_by (state_of boxes entries roots) position prog) busy),
      same_roots boxes entries roots left work now a.1,
    )
    by_test position at false free a = (subst (IsReason (view_of boxes entries roots work) (Attach prog device overwrite)) (sym (told ∙ ap refusal_of a.0)) tt, same_roots boxes entries roots left work now a.1)

    by_position : (o : Option ℕ) → position_of roots.devices device ≡ o → IsAnswered (attach_there roots prog overwrite o) roots (Err fault) left
        → IsReason (view_of boxes entries roots work) (Attach prog device overwrite) refusal × IsUnchanged (view_of boxes entries roots work) (view_of boxes entries left now)
    by_position None at a = (subst (IsReason (view_of boxes entries roots work) (Attach prog device overwrite)) (sym (told ∙ ap refusal_of a.0)) (tt, acts None at), same_roots boxes entries roots left work now a.1)
    by_position (Some position) at a = by_test position at (is_some (device_prog roots.devices position) && not overwrite) refl a

pub none_attached : (roots left : RootsView) (prog : ℕ) (device : List ℕ) (overwrite : Bool) (fault : RootFault) → IsAnswered (attach_answer roots device prog overwrite) roots (Err fault) left → left ≡ roots
none_attached roots left prog device overwrite fault answered = by (attach_answer roots device prog overwrite) answered
  where
    by : (answer : Answer) → IsAnswered answer roots (Err fault) left → left ≡ roots
    by (Ok meant) a = a.1
    by (Err meant) a = a.1

module _ (boxes : ById Seen) (old new : Entries) (roots left : RootsView) (work now prog : ℕ) (device : List ℕ) (overwrite : Bool) (pin : RootBack) (retired : Retirement) (sound : IsSound boxes old roots)
    (live : live_target_in old (Prog prog) ≡ true) (p : IsPutThere roots prog device overwrite left) (restores : (exchanged left pin).0 ≡ record roots { room = left.room }) (fits : exchange_fits left pin ≡ true)
    (keeps : KeepsRoom roots left) (r : RetiredIf overwrite boxes old left retired new) where
  abbrev was : State
  was = state_of boxes old roots

  target_live : IsTrue (is_live_in was (Prog prog))
  target_live = sym (live_prog_host old prog) ∙ live

  attached_is : state_of boxes old left ≡ with_attached was p.position (Some prog)
  attached_is = λ i. record was { pins = ap (λ (r : RootsView). r.pins) p.left_is i; devices = ap (λ (r : RootsView). r.devices) p.left_is i }

  attached_live : (t : Target) → IsRoot left.pins left.devices t → IsTrue (is_live_in (state_of boxes old roots) t)
  attached_live t root = by (subst (λ (r : RootsView). IsRoot r.pins r.devices t) p.left_is root)
    where
      from : (id : ℕ) → t ≡ Prog id → (Some prog ≡ Some id) ⊎ Any (λ (d : Device). d.prog ≡ Some id) roots.devices → IsTrue (is_live_in (state_of boxes old roots) t)
      from id is (inl same) = subst (λ x. IsTrue (is_live_in (state_of boxes old roots) x)) (ap Prog (same_some same) ∙ sym is) target_live
      from id is (inr there) = root_live (state_of boxes old roots) sound.settled t (inr (id, is, there))

      by : IsRoot roots.pins (attach_at roots.devices p.position (Some prog)) t → IsTrue (is_live_in (state_of boxes old roots) t)
      by (inl pinned) = root_live (state_of boxes old roots) sound.settled t (inl pinned)
      by (inr (id, is, any)) = from id is (attached_now roots.devices p.position (Some prog) id any)

  device_free : overwrite ≡ false → is_some (device_prog roots.devices p.position) ≡ false
  device_free plain = by (is_some (device_prog roots.devices p.position)) overwrite p.free plain
    where
      by : (a b : Bool) → a && not b ≡ false → b ≡ false → a ≡ false
      by true true e f = cc
      by true false e f = e
      by false b e f = refl

  attach_retired : IsRetired boxes old left retired new
  attach_retired =
      all_retired overwrite boxes old new left retired (λ plain. subst IsSettled (sym attached_is) (settled_attached was p.position prog (device_free plain) target_live sound.settled)) r

  pub attach_sound : IsSound boxes new left
  attach_sound = roots_sound boxes old new roots left pin retired sound restores fits keeps attach_retired attached_live

  pub attach_applied : IsApplied (view_of boxes old roots work) (Attach prog device overwrite) Done (record { part = Pinned pin; retired = retired }) (view_of boxes new left now)
  attach_applied = record {
    acts =
        acts_attach was prog device overwrite
        ∙ (λ i. attach_by was prog overwrite (target_live i) (p.found i))
        ∙ ap (put_prog_by was p.position prog) p.free
        ∙ ap (λ s. Ok (s, Done)) (ap settle (sym attached_is) ∙ sym (roots_settled boxes old new roots left pin retired sound restores fits keeps attach_retired attached_live));
    joins = roots_joined boxes old new roots left pin retired sound restores fits keeps attach_retired attached_live;
    own = (pin, refl);
    retires = roots_retired boxes old new roots left pin retired sound restores fits keeps attach_retired attached_live;
    boxes = record { makes = refl; progs = room_left boxes old new roots left pin retired sound restores fits keeps attach_retired attached_live; room = keeps.paths };
  }

-- ---- a program that is detached
pub record IsTakenOff (roots : RootsView) (device : List ℕ) (left : RootsView) : Type 0 where
  pub position : ℕ
  pub found : position_of roots.devices device ≡ Some position
  pub there : is_some (device_prog roots.devices position) ≡ true
  pub left_is : left ≡ record roots { devices = attach_at roots.devices position None }

pub taken_off : (roots : RootsView) (device : List ℕ) (pin : RootBack) (left : RootsView) → IsAnswered (detach_answer roots device) roots (Ok pin) left → IsTakenOff roots device left
unfolding detach_answer exchanged
taken_off roots device pin left answered = by_position (position_of roots.devices device) refl answered
  where
    by_test : (position : ℕ) → position_of roots.devices device ≡ Some position → (there : Bool) → is_some (device_prog roots.devices position) ≡ there
        → IsAnswered (if there then Ok (exchanged roots (Attachment position None)) else Err NoEntry) roots (Ok pin) left → IsTakenOff roots device left
    by_test position at false free a = absurd a
    by_test position at true there a = record { position = position; found = at; there = there; left_is = a.0 }

    by_position : (o : Option ℕ) → position_of roots.devices device ≡ o → IsAnswered (detach_there roots o) roots (Ok pin) left → IsTakenOff roots device left
    by_position None at a = absurd a
    by_position (Some position) at a = by_test position at (is_some (device_prog roots.devices position)) refl a

pub none_detached : (roots left : RootsView) (device : List ℕ) (fault : RootFault) → IsAnswered (detach_answer roots device) roots (Err fault) left → left ≡ roots
none_detached roots left device fault answered = by (detach_answer roots device) answered
  where
    by : (answer : Answer) → IsAnswered answer roots (Err fault) left → left ≡ roots
    by (Ok meant) a = a.1
    by (Err meant) a = a.1

pub not_detached : (boxes : ById Seen) (entries : Entries) (roots left : RootsView) (work now : ℕ) (device : List ℕ) (fault : RootFault) (refusal : Refusal)
    → IsAnswered (detach_answer roots device) roots (Err fault) left → refusal ≡ refusal_of fault
    → IsReason (view_of boxes entries roots work) (Detach device) refusal × IsUnchanged (view_of boxes entries roots work) (view_of boxes entries left now)
unfolding detach_answer
not_detached boxes entries roots left work now device fault refusal answered told = by_position (position_of roots.devices device) refl answered
  where
    acts : (o : Option ℕ) → position_of roots.devices device ≡ o → act (state_of boxes entries roots) (Detach device) ≡ detached_from (state_of boxes entries roots) o
    acts o at = acts_detach (state_of boxes entries roots) device ∙ ap (detached_from (state_of boxes entries roots)) at

    by_test : (position : ℕ) → position_of roots.devices device ≡ Some position → (there : Bool) → is_some (device_prog roots.devices position) ≡ there
        → IsAnswered (if there then Ok (exchanged roots (Attachment position None)) else Err NoEntry) roots (Err fault) left → IsReason (view_of boxes entries roots work) (Detach device) refusal × IsUnchanged (view_of boxes entries roots work) (view_of boxes entries left now)
    by_test position at false free a = (
      subst (IsReason (view_of boxes entries roots work) (Detach device)) (sym (told ∙ ap refusal_of a.0)) (tt, acts (Some position) at ∙ ap (take_prog_by (state_of boxes entries roots) position) free),
      same_roots boxes entries roots left work now a.1,
    )
    by_test position at true there a = (subst (IsReason (view_of boxes entries roots work) (Detach device)) (sym (told ∙ ap refusal_of a.0)) tt, same_roots boxes entries roots left work now a.1)

    by_position : (o : Option ℕ) → position_of roots.devices device ≡ o → IsAnswered (detach_there roots o) roots (Err fault) left
        → IsReason (view_of boxes entries roots work) (Detach device) refusal × IsUnchanged (view_of boxes entries roots work) (view_of boxes entries left now)
    by_position None at a = (subst (IsReason (view_of boxes entries roots work) (Detach device)) (sym (told ∙ ap refusal_of a.0)) (tt, acts None at), same_roots boxes entries roots left work now a.1)
    by_position (Some position) at a = by_test position at (is_some (device_prog roots.devices position)) refl a

module _ (boxes : ById Seen) (old new : Entries) (roots left : RootsView) (work now : ℕ) (device : List ℕ) (pin : RootBack) (retired : Retirement) (sound : IsSound boxes old roots)
    (p : IsTakenOff roots device left) (restores : (exchanged left pin).0 ≡ record roots { room = left.room }) (fits : exchange_fits left pin ≡ true)
    (keeps : KeepsRoom roots left) (r : IsRetired boxes old left retired new) where
  abbrev had : State
  had = state_of boxes old roots

  detached_is : state_of boxes old left ≡ with_attached had p.position None
  detached_is = λ i. record had { pins = ap (λ (r : RootsView). r.pins) p.left_is i; devices = ap (λ (r : RootsView). r.devices) p.left_is i }

  detached_live : (t : Target) → IsRoot left.pins left.devices t → IsTrue (is_live_in (state_of boxes old roots) t)
  detached_live t root = by (subst (λ (r : RootsView). IsRoot r.pins r.devices t) p.left_is root)
    where
      from : (id : ℕ) → t ≡ Prog id → (◌≡◌ {A = Option ℕ} None (Some id)) ⊎ Any (λ (d : Device). d.prog ≡ Some id) roots.devices → IsTrue (is_live_in (state_of boxes old roots) t)
      from id is (inl same) = cc
      from id is (inr there) = root_live (state_of boxes old roots) sound.settled t (inr (id, is, there))

      by : IsRoot roots.pins (attach_at roots.devices p.position None) t → IsTrue (is_live_in (state_of boxes old roots) t)
      by (inl pinned) = root_live (state_of boxes old roots) sound.settled t (inl pinned)
      by (inr (id, is, any)) = from id is (attached_now roots.devices p.position None id any)

  pub detach_sound : IsSound boxes new left
  detach_sound = roots_sound boxes old new roots left pin retired sound restores fits keeps r detached_live

  pub detach_applied : IsApplied (view_of boxes old roots work) (Detach device) Done (record { part = Pinned pin; retired = retired }) (view_of boxes new left now)
  detach_applied = record {
    acts =
        acts_detach had device
        ∙ ap (detached_from had) p.found
        ∙ ap (take_prog_by had p.position) p.there
        ∙ ap (λ s. Ok (s, Done)) (ap settle (sym detached_is) ∙ sym (roots_settled boxes old new roots left pin retired sound restores fits keeps r detached_live));
    joins = roots_joined boxes old new roots left pin retired sound restores fits keeps r detached_live;
    own = (pin, refl);
    retires = roots_retired boxes old new roots left pin retired sound restores fits keeps r detached_live;
    boxes = record { makes = refl; progs = room_left boxes old new roots left pin retired sound restores fits keeps r detached_live; room = keeps.paths };
  }
