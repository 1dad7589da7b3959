-- A pin that is put or taken away is what `act` says, its undoing joins the two states, and the world stays sound.
use Rattle.std.proofs.Common.{◌≡◌, ℕ, Bool, true, false, not, IsTrue, List, [], Some, None, Ok, Err, cond, is_some, nat_lt, inl, inr, refl, sym, ap, subst, ◌∙◌}
use Rattle.std.specs.Prelude.{◌⊎◌, if◌then◌else◌}
use Rattle.std.specs.Ordering.{nat_cmp, eq_by_cmp}
use Rattle.std.specs.Cmp.Lexicographic.{slice_cmp, nat_list_cmp_total}
use Rattle.std.specs.FinMap as map
use Rattle.std.specs.FinSet as set
use Rattle.host_words.specs.Spelling.{is_path}
use Rattle.bt_mapkind.specs.declared.errno.Errno.TheVariants.{ENOENT, EINVAL, EEXIST}
use Rattle.bt_mapkind.specs.Seen.{Seen}
use Rattle.bt_mapkind.proofs.Stays.{both_true}
use Rattle.bt_objects.specs.Boxes.{ById}
use Rattle.bt_roots.specs.declared.target.Target.{Target}
use Rattle.bt_roots.specs.declared.target.Target.TheVariants.{Map, Prog}
use Rattle.bt_roots.specs.declared.back.RootBack.{RootBack}
use Rattle.bt_roots.specs.declared.back.RootBack.TheVariants.{Pin as PinBack, Attachment}
use Rattle.bt_roots.specs.declared.fault.RootFault.{RootFault}
use Rattle.bt_roots.specs.declared.fault.RootFault.TheVariants.{NoEntry}
use Rattle.bt_roots.specs.View.{RootsView}
use Rattle.bt_roots.specs.Exchange.{KeepsRoom, exchange_fits, exchanged}
use Rattle.bt_roots.specs.Answers.{IsAnswered, pin_answer, unpin_answer}
use Rattle.bt_roots.specs.Live.{is_live}
use Rattle.bt_roots.specs.Reachable.{IsRoot, IsAttached}
use Rattle.bt_roots.proofs.LiveLemmas.{live_is}
use Rattle.bt_roots.proofs.ExchangeLemmas.{turns_back}
use Rattle.host_state.specs.declared.change.Change.TheVariants.{Pin, Unpin}
use Rattle.host_state.specs.declared.reply.Reply.TheVariants.{Done}
use Rattle.host_state.specs.declared.reply.Refusal.{Refusal}
use Rattle.host_state.specs.declared.reply.Refusal.TheVariants.{Errno, NoMemory}
use Rattle.host_state.specs.declared.retirement.Retirement.{Retirement}
use Rattle.host_undoing.specs.declared.undoing.Part.TheVariants.{Pinned}
use Rattle.host_state.specs.State.{State}
use Rattle.host_state.specs.Settled.{links_of, is_reached, settle, IsSettled, is_live_in, is_listed, revived}
use Rattle.host_state.specs.Act.{act}
use Rattle.host_state.proofs.Tests.{with_pin, without_pin}
use Rattle.host_state.specs.World.{Ready}
use Rattle.host_state.specs.Hosts.{Entries, state_of, ready_of, view_of, IsSound, live_target_in}
use Rattle.host_pins.specs.Made.{refusal_of}
use Rattle.host_retirement.specs.Gathered.{IsRetired}
use Rattle.host_undoing.specs.Exchange.{part_turned, part_back, back_of, FitsPlace, Joins}
use Rattle.host_undoing.proofs.Parts.{PartJoins, IsApplied}
use Rattle.host_undoing.specs.Answers.{Retires, IsReason, IsUnchanged}
use Rattle.host_pins.proofs.CreatedLemmas.{IsNewPin, no_pin}
use Rattle.host_undoing.proofs.ReturnedLemmas.{same_turning}
use Rattle.host_undoing.proofs.RetiringLemmas.{IsApart, plain_joins, retiring_joins, nothing_retires, settled_retires}
use Rattle.host_state.proofs.RetireLemmas.{settle_revives, revived_settled}
use Rattle.host_state.proofs.ReviveLemmas.{revived_state, revived_built, revived_room}
use Rattle.host_state.proofs.HostLemmas.{live_target}
use Rattle.host_state.proofs.LinkedLemmas.{all_reached, next_live, root_live}
use Rattle.host_state.proofs.ByIdLemmas.{same_some}
use Rattle.host_state.proofs.SettleLemmas.{settle_settled, more_roots, pinned_still}
use Rattle.host_state.proofs.Lasting.{pin_by, unpin_by}

-- ---- an exchange of a pin
-- what comes out of an exchange fits what it leaves
other_fits : (roots left : RootsView) (pin : RootBack) → exchange_fits left pin ≡ true → KeepsRoom roots left → exchange_fits (record roots { room = left.room }) (exchanged left pin).1 ≡ true
unfolding exchange_fits exchanged
other_fits roots left (PinBack path target) fits keeps = fits
other_fits roots left (Attachment position prog) fits keeps = ap (nat_lt position) (sym keeps.places) ∙ fits

module _ (boxes : ById Seen) (entries : Entries) (roots left : RootsView) (pin : RootBack) (restores : (exchanged left pin).0 ≡ record roots { room = left.room }) (fits : exchange_fits left pin ≡ true)
    (keeps : KeepsRoom roots left) where
  abbrev was : State
  was = state_of boxes entries roots

  abbrev now : State
  now = state_of boxes entries left

  abbrev other : RootBack
  other = (exchanged left pin).1

  again : exchanged (record roots { room = left.room }) other ≡ (left, pin)
  again = ap (λ r. exchanged r other) (sym restores) ∙ turns_back left pin fits

  back_state : part_turned now (Pinned pin) ≡ was
  unfolding part_turned
  back_state = λ i. record was {
    pins = (sym (same_turning left pin).0 ∙ ap (λ (r : RootsView). r.pins) restores) i;
    devices = (sym (same_turning left pin).1 ∙ ap (λ (r : RootsView). r.devices) restores) i;
  }

  back_face : part_back now (Pinned pin) ≡ Pinned other
  unfolding part_back
  back_face = ap Pinned (sym (same_turning left pin).2)

  forth_state : part_turned was (Pinned other) ≡ now
  unfolding part_turned
  forth_state = λ i. record was {
    pins = (sym (same_turning (record roots { room = left.room }) other).0 ∙ ap (λ (x : RootsView × RootBack). x.0.pins) again) i;
    devices = (sym (same_turning (record roots { room = left.room }) other).1 ∙ ap (λ (x : RootsView × RootBack). x.0.devices) again) i;
  }

  forth_face : part_back was (Pinned other) ≡ Pinned pin
  unfolding part_back
  forth_face = ap Pinned (sym (same_turning (record roots { room = left.room }) other).2 ∙ ap (λ (x : RootsView × RootBack). x.1) again)

  pub pinned_joins : (at : Entries) → PartJoins (ready_of boxes at left) (state_of boxes entries roots) (state_of boxes entries left) (Pinned pin) (Pinned (exchanged left pin).1)
  pinned_joins at = record {
    back_place = fits;
    back_state = back_state;
    back_face = back_face;
    forth_place = other_fits roots left pin fits keeps;
    forth_state = forth_state;
    forth_face = forth_face;
  }

-- pins and devices do not depend on what is live
pub pinned_apart : (ready : Ready) (s : State) (pin : RootBack) (targets : List Target) → FitsPlace ready s (Pinned pin) → IsApart ready s (Pinned pin) targets
unfolding revived part_turned part_back
pinned_apart ready s pin targets fits = record { state = refl; back = refl; place = fits }

-- ---- a pin that is put
-- a settled state stays settled with one more pin
pub settled_pinned : (s : State) (path : List ℕ) (target : Target) → map.get s.pins path ≡ None → IsTrue (is_live_in s target) → IsSettled s → IsSettled (with_pin s path target)
settled_pinned s path target free is_live h = record {
  maps = λ q n at live. still (Map q) (h.maps q n at live);
  progs = λ q p at live. still (Prog q) (h.progs q p at live);
  only = λ t r. same_live t (all_reached (with_pin s path target) (λ t. IsTrue (is_live_in s t)) first (next_live s h) t r);
}
  where
    more : (x : Target) → IsRoot s.pins s.devices x → IsRoot (map.insert s.pins path target) s.devices x
    more x (inl p) = inl (pinned_still s path target free x p)
    more x (inr a) = inr a

    still : (t : Target) → IsTrue (is_reached s t) → IsTrue (is_reached (with_pin s path target) t)
    still t r =
        (live_is (map.insert s.pins path target) s.devices (links_of s) t).1 (more_roots (links_of s) t more ((live_is s.pins s.devices (links_of s) t).0 r))

    same_live : (t : Target) → IsTrue (is_live_in s t) → IsTrue (is_live_in (with_pin s path target) t)
    same_live (Map q) live = live
    same_live (Prog q) live = live

    first : (t : Target) → IsRoot (map.insert s.pins path target) s.devices t → IsTrue (is_live_in s t)
    first t (inr a) = root_live s h t (inr a)
    first t (inl p) = by (eq_by_cmp (slice_cmp nat_cmp) p.0 path) (sym (map.get-insert nat_list_cmp_total s.pins path target p.0) ∙ p.1)
      where
        by : (b : Bool) → cond b (Some target) (map.get s.pins p.0) ≡ Some t → IsTrue (is_live_in s t)
        by true e = subst (λ x. IsTrue (is_live_in s x)) (same_some e) is_live
        by false e = root_live s h t (inl (p.0, e))

acts_pin : (s : State) (target : Target) (path : List ℕ) → act s (Pin target path) ≡ pin_by s target path (is_live_in s target) (is_path path) (map.contains_key s.pins path)
unfolding act
acts_pin s target path = refl

acts_unpin : (s : State) (path : List ℕ) → act s (Unpin path) ≡ unpin_by s path (map.contains_key s.pins path)
unfolding act
acts_unpin s path = refl

module _ (boxes : ById Seen) (entries : Entries) (roots left : RootsView) (work : ℕ) (target : Target) (path : List ℕ) (pin : RootBack) (retired : Retirement) (sound : IsSound boxes entries roots)
    (live : live_target_in entries target ≡ true) (p : IsNewPin roots path target pin left) (restores : (exchanged left pin).0 ≡ record roots { room = left.room }) (fits : exchange_fits left pin ≡ true)
    (keeps : KeepsRoom roots left) where
  abbrev before : State
  before = state_of boxes entries roots

  pin_now : state_of boxes entries left ≡ with_pin before path target
  pin_now = λ i. record before { pins = ap (λ (r : RootsView). r.pins) p.left_is i; devices = ap (λ (r : RootsView). r.devices) p.left_is i }

  target_live : IsTrue (is_live_in before target)
  target_live = sym (live_target boxes entries roots target sound.built.same_ids) ∙ live

  pin_settled : IsSettled (state_of boxes entries left)
  pin_settled = subst IsSettled (sym pin_now) (settled_pinned before path target p.free target_live sound.settled)

  pub pin_sound : IsSound boxes entries left
  pin_sound = record { built = sound.built; settled = pin_settled }

  still : (t : Target) → IsTrue (is_live_in before t) → IsTrue (is_live_in (state_of boxes entries left) t)
  still (Map q) live = live
  still (Prog q) live = live

  pub pin_applied : retired.targets ≡ [] → retired.live ≡ true
      → IsApplied (view_of boxes entries roots work) (Pin target path) Done (record { part = Pinned pin; retired = retired }) (view_of boxes entries left work)
  pin_applied none forth = record {
    acts =
        acts_pin before target path
        ∙ (λ i. pin_by before target path ((sym (live_target boxes entries roots target sound.built.same_ids) ∙ live) i) (p.good i) (ap is_some p.free i))
        ∙ ap (λ s. Ok (s, Done)) (settle_settled (with_pin before path target) (settled_pinned before path target p.free target_live sound.settled) ∙ sym pin_now);
    joins = plain_joins (ready_of boxes entries left) before (state_of boxes entries left) (Pinned pin) (Pinned (exchanged left pin).1) retired (pinned_joins boxes entries roots left pin restores fits keeps entries) none forth
        sound.settled pin_settled (λ t e. cc);
    own = (pin, refl);
    retires = nothing_retires before (state_of boxes entries left) retired none forth still;
    boxes = record { makes = refl; progs = λ q there. there; room = keeps.paths };
  }

pub same_roots : (boxes : ById Seen) (entries : Entries) (roots left : RootsView) (work after : ℕ) → left ≡ roots → IsUnchanged (view_of boxes entries roots work) (view_of boxes entries left after)
same_roots boxes entries roots left work after same = record {
  state = ap (state_of boxes entries) same;
  boxes = record { makes = refl; progs = λ q there. there; room = λ path there. ap (λ (r : RootsView). set.contains r.room path) same ∙ there };
}

pub not_pinned_dead : (boxes : ById Seen) (entries : Entries) (roots : RootsView) (work : ℕ) (target : Target) (path : List ℕ) → IsSound boxes entries roots → live_target_in entries target ≡ false
    → IsReason (view_of boxes entries roots work) (Pin target path) (Errno ENOENT) × IsUnchanged (view_of boxes entries roots work) (view_of boxes entries roots work)
not_pinned_dead boxes entries roots work target path sound dead =
    let s = state_of boxes entries roots in (
      (
        tt,
        acts_pin s target path
            ∙ ap (λ b. pin_by s target path b (is_path path) (map.contains_key s.pins path)) (sym (live_target boxes entries roots target sound.built.same_ids) ∙ dead),
      ),
      same_roots boxes entries roots roots work work refl,
    )

pub not_pinned : (boxes : ById Seen) (entries : Entries) (roots left : RootsView) (work : ℕ) (target : Target) (path : List ℕ) (fault : RootFault) (refusal : Refusal) → IsSound boxes entries roots
    → live_target_in entries target ≡ true → IsAnswered (pin_answer roots path target) roots (Err fault) left → refusal ≡ refusal_of fault
    → IsReason (view_of boxes entries roots work) (Pin target path) refusal × IsUnchanged (view_of boxes entries roots work) (view_of boxes entries left work)
not_pinned boxes entries roots left work target path fault refusal sound live answered told =
    let no = no_pin roots path target fault refusal left answered (sym told) in (reason no.told, same_roots boxes entries roots left work work no.same)
  where
    acts : (fine there : Bool) → is_path path ≡ fine → map.contains_key roots.pins path ≡ there
        → act (state_of boxes entries roots) (Pin target path) ≡ pin_by (state_of boxes entries roots) target path true fine there
    acts fine there g t =
        acts_pin (state_of boxes entries roots) target path
        ∙ (λ i. pin_by (state_of boxes entries roots) target path ((sym (live_target boxes entries roots target sound.built.same_ids) ∙ live) i) (g i) (t i))

    reason : (refusal ≡ NoMemory) ⊎ ((is_path path ≡ false) × (refusal ≡ Errno EINVAL)) ⊎ ((is_path path ≡ true) × (map.contains_key roots.pins path ≡ true) × (refusal ≡ Errno EEXIST))
        → IsReason (view_of boxes entries roots work) (Pin target path) refusal
    reason (inl e) = subst (λ r. IsReason (view_of boxes entries roots work) (Pin target path) r) (sym e) tt
    reason (inr (inl e)) = subst (λ r. IsReason (view_of boxes entries roots work) (Pin target path) r) (sym e.1) (tt, acts false (map.contains_key roots.pins path) e.0 refl)
    reason (inr (inr e)) = subst (λ r. IsReason (view_of boxes entries roots work) (Pin target path) r) (sym e.2) (tt, acts true true e.0 e.1)

pub same_sound : (boxes : ById Seen) (entries : Entries) (roots left : RootsView) → left ≡ roots → IsSound boxes entries roots → IsSound boxes entries left
same_sound boxes entries roots left same = subst (IsSound boxes entries) (sym same)

pub no_pin_sound : (boxes : ById Seen) (entries : Entries) (roots left : RootsView) (target : Target) (path : List ℕ) (fault : RootFault) → IsAnswered (pin_answer roots path target) roots (Err fault) left
    → IsSound boxes entries roots → IsSound boxes entries left
no_pin_sound boxes entries roots left target path fault answered = same_sound boxes entries roots left (no_pin roots path target fault (refusal_of fault) left answered refl).same

-- ---- a pin that is taken away
pub record IsGonePin (roots : RootsView) (path : List ℕ) (left : RootsView) : Type 0 where
  pub there : map.contains_key roots.pins path ≡ true
  pub left_is : left ≡ record roots { pins = map.remove roots.pins path }

pub gone_pin : (roots : RootsView) (path : List ℕ) (pin : RootBack) (left : RootsView) → IsAnswered (unpin_answer roots path) roots (Ok pin) left → IsGonePin roots path left
unfolding unpin_answer exchanged
gone_pin roots path pin left answered = by (map.contains_key roots.pins path) refl answered
  where
    by : (there : Bool) → map.contains_key roots.pins path ≡ there → IsAnswered (if there then Ok (exchanged roots (PinBack path None)) else Err NoEntry) roots (Ok pin) left → IsGonePin roots path left
    by true t a = record { there = t; left_is = a.0 }
    by false t a = absurd a

-- why none was taken away
pub record IsStillPinned (roots : RootsView) (path : List ℕ) (fault : RootFault) (left : RootsView) : Type 0 where
  pub same : left ≡ roots
  pub told : (refusal_of fault ≡ NoMemory) ⊎ ((map.contains_key roots.pins path ≡ false) × (refusal_of fault ≡ Errno ENOENT))

pub still_pinned : (roots : RootsView) (path : List ℕ) (fault : RootFault) (left : RootsView) → IsAnswered (unpin_answer roots path) roots (Err fault) left → IsStillPinned roots path fault left
unfolding unpin_answer
still_pinned roots path fault left answered = by (map.contains_key roots.pins path) refl answered
  where
    by : (there : Bool) → map.contains_key roots.pins path ≡ there → IsAnswered (if there then Ok (exchanged roots (PinBack path None)) else Err NoEntry) roots (Err fault) left → IsStillPinned roots path fault left
    by true t a = record { same = a.1; told = inl (ap refusal_of a.0) }
    by false t a = record { same = a.1; told = inr (t, ap refusal_of a.0) }

pub not_unpinned : (boxes : ById Seen) (entries : Entries) (roots left : RootsView) (work now : ℕ) (path : List ℕ) (fault : RootFault) (refusal : Refusal) → IsStillPinned roots path fault left → refusal ≡ refusal_of fault
    → IsReason (view_of boxes entries roots work) (Unpin path) refusal × IsUnchanged (view_of boxes entries roots work) (view_of boxes entries left now)
not_unpinned boxes entries roots left work now path fault refusal p is =
    (subst (IsReason (view_of boxes entries roots work) (Unpin path)) (sym is) (reason p.told), same_roots boxes entries roots left work now p.same)
  where
    reason : (refusal_of fault ≡ NoMemory) ⊎ ((map.contains_key roots.pins path ≡ false) × (refusal_of fault ≡ Errno ENOENT)) → IsReason (view_of boxes entries roots work) (Unpin path) (refusal_of fault)
    reason (inl e) = subst (IsReason (view_of boxes entries roots work) (Unpin path)) (sym e) tt
    reason (inr e) =
        subst (IsReason (view_of boxes entries roots work) (Unpin path)) (sym e.1)
        (tt, acts_unpin (state_of boxes entries roots) path ∙ ap (unpin_by (state_of boxes entries roots) path) e.0)

module _ (boxes : ById Seen) (old new : Entries) (roots left : RootsView) (work now : ℕ) (path : List ℕ) (pin : RootBack) (retired : Retirement) (sound : IsSound boxes old roots)
    (p : IsGonePin roots path left) (restores : (exchanged left pin).0 ≡ record roots { room = left.room }) (fits : exchange_fits left pin ≡ true) (keeps : KeepsRoom roots left)
    (r : IsRetired boxes old left retired new) where
  abbrev first : State
  first = state_of boxes old roots

  abbrev middle : State
  middle = state_of boxes old left

  middle_is : middle ≡ without_pin first path
  middle_is = λ i. record first { pins = ap (λ (r : RootsView). r.pins) p.left_is i; devices = ap (λ (r : RootsView). r.devices) p.left_is i }

  live_in_first : (t : Target) → is_live_in middle t ≡ is_live_in first t
  live_in_first (Map q) = refl
  live_in_first (Prog q) = refl

  were : (t : Target) → IsTrue (is_listed retired.targets t) → IsTrue (is_live_in first t)
  were t listed = sym (live_in_first t) ∙ (both_true (is_live_in middle t) (not (is_reached middle t)) (sym (r.lists t) ∙ listed)).0

  -- with one pin less nothing more is reached
  fewer : (t : Target) → IsTrue (is_reached middle t) → IsTrue (is_live_in middle t)
  fewer t r = live_in_first t ∙ all_reached middle (λ t. IsTrue (is_live_in first t)) first_live (next_live first sound.settled) t r
    where
      first_live : (t : Target) → IsRoot left.pins left.devices t → IsTrue (is_live_in (state_of boxes old roots) t)
      first_live t (inr a) = root_live (state_of boxes old roots) sound.settled t (inr (subst (λ (r : RootsView). IsAttached r.devices t) p.left_is a))
      first_live t (inl there) = root_live (state_of boxes old roots) sound.settled t (inl (there.0, was_pinned (eq_by_cmp (slice_cmp nat_cmp) there.0 path) (sym (map.get-remove nat_list_cmp_total roots.pins path there.0) ∙ ap (λ (r : RootsView). map.get r.pins there.0) (sym p.left_is) ∙ there.1)))
        where
          was_pinned : (b : Bool) → cond b None (map.get roots.pins there.0) ≡ Some t → map.get roots.pins there.0 ≡ Some t
          was_pinned true e = cc
          was_pinned false e = e

  after_is : state_of boxes new left ≡ settle middle
  after_is = revived_state boxes old new retired.targets false r.entries left ∙ sym (settle_revives middle retired.targets r.lists)

  pub unpin_sound : IsSound boxes new left
  unpin_sound = record {
    built = revived_built boxes old new retired.targets false r.entries sound.built;
    settled = subst IsSettled (sym (revived_state boxes old new retired.targets false r.entries left)) (revived_settled middle retired.targets r.lists fewer);
  }

  pub unpin_applied : IsApplied (view_of boxes old roots work) (Unpin path) Done (record { part = Pinned pin; retired = retired }) (view_of boxes new left now)
  unpin_applied = record {
    acts =
        acts_unpin first path
        ∙ ap (unpin_by first path) p.there
        ∙ ap (λ s. Ok (s, Done)) (ap settle (sym middle_is) ∙ sym after_is);
    joins =
        subst (λ s. Joins (ready_of boxes new left) first s (record { part = Pinned pin; retired = retired }) (back_of s (record { part = Pinned pin; retired = retired }))) (sym after_is)
        (retiring_joins (ready_of boxes new left) first middle (Pinned pin) (Pinned (exchanged left pin).1) retired (pinned_joins boxes old roots left pin restores fits keeps new) r.lists r.live were
        (pinned_apart (ready_of boxes new left) middle pin retired.targets fits) fewer sound.settled (λ t e. cc));
    own = (pin, refl);
    retires = subst (λ s. Retires first s retired) (sym after_is) (settled_retires first middle retired r.lists r.ascends r.live live_in_first);
    boxes = record { makes = refl; progs = λ q there. ap (λ rs. set.contains rs q) (revived_room boxes old new retired.targets false r.entries) ∙ there; room = keeps.paths };
  }

-- a pin that is put back
module _ (boxes : ById Seen) (entries : Entries) (roots left : RootsView) (pin : RootBack) (again : RootsView) (restores : (exchanged left pin).0 ≡ record roots { room = left.room })
    (turned : again ≡ (exchanged left pin).0) (keeps : KeepsRoom roots left) where
  roots_back : state_of boxes entries again ≡ state_of boxes entries roots
  roots_back = λ i. record (state_of boxes entries roots) { pins = ap (λ (r : RootsView). r.pins) (turned ∙ restores) i; devices = ap (λ (r : RootsView). r.devices) (turned ∙ restores) i }

  pub put_back : (work after : ℕ) → IsUnchanged (view_of boxes entries roots work) (view_of boxes entries again after)
  put_back work after = record {
    state = roots_back;
    boxes = record { makes = refl; progs = λ q there. there; room = λ path there. ap (λ (r : RootsView). set.contains r.room path) (turned ∙ restores) ∙ keeps.paths path there };
  }

  pub put_back_sound : IsSound boxes entries roots → IsSound boxes entries again
  put_back_sound sound = record { built = sound.built; settled = subst IsSettled (sym roots_back) sound.settled }
