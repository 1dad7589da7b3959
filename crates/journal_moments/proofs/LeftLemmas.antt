-- What has retired in the base is dropped from the base and from each moment's state.
use Rattle.std.proofs.Common.{◌≡◌, ◌⊎◌, inl, inr, ℕ, Bool, true, false, not, ◌&&◌, IsTrue, List, [], ◌∷◌, ◌++◌, map as each, take, drop, reverse, Option, Some, None, is_some, Ok, Err, cond, refl, sym, ◌∙◌, ap, ap₂, subst}
use Rattle.std.proofs.lemmas.List.{take-append-drop}
use Rattle.std.specs.FinMap as map
use Rattle.bt_objects.specs.Ids.{is_among}
use Rattle.bt_roots.specs.declared.target.Target.{Target}
use Rattle.host_state.specs.State.{HostMap, HostProg, State}
use Rattle.host_state.specs.Settled.{IsSettled, is_live_in}
use Rattle.bt_mapkind.specs.declared.errno.Errno.TheVariants.{ENOENT}
use Rattle.host_state.specs.Act.{act, if_live, Outcome}
use Rattle.host_state.specs.World.{Ready, ListsLive, kept_state}
use Rattle.host_state.specs.declared.change.Change.{Change}
use Rattle.host_state.specs.declared.change.Change.TheVariants.{Create, Operate, Freeze, Link, Load, Pin, Unpin, Attach, Detach}
use Rattle.host_state.specs.declared.reply.Reply.{Reply}
use Rattle.host_state.proofs.ActsKept.{acts_kept}
use Rattle.host_state.proofs.KeptLemmas.{same_live}
use Rattle.host_state.proofs.Lasting.{get-kept}
use Rattle.host_state.proofs.Tests.{operated_at, linked_at}
use Rattle.host_undoing.specs.declared.undoing.Part.{Part}
use Rattle.host_undoing.specs.declared.undoing.Undoing.{Undoing}
use Rattle.host_undoing.specs.Answers.{IsOwn}
use Rattle.host_undoing.specs.Exchange.{back_of, Joins, JoinsWithout}
use Rattle.journal_model.specs.Replay.{Entry}
use Rattle.journal_model.specs.Plain.{Past}
use Rattle.journal_model.specs.Well.{Each}
use Rattle.journal_model.specs.Rebase.{is_retired_map, is_retired_prog}
use Rattle.journal_record.specs.After.{after, state_or, state_after}
use Rattle.journal_record.specs.Recorded.{Recorded}
use Rattle.journal_moments.specs.Line.{entries, RetiresJust, retired_by, IsStanding, IsLying, stand, AllStanding, AllLying, stood, behind, swapped, Leads, CanSwap, Down, Up, other_force, pasts_down, pasts_up}
use Rattle.journal_moments.specs.Rebased.{ListsLeft, kept_past}
use Rattle.journal_moments.specs.MomentView.{MomentView}
use Rattle.journal_record.proofs.LineLemmas.{AllStanding-front, AllStanding-stood, entries-stood, settled_after}
use Rattle.journal_moments.proofs.SwapLemmas.{AllStanding-swapped, entries-swapped, state_after-swapped}
use Rattle.journal_model.proofs.Retiring.{Lasts, lasts_itself, lasts_on, act_lasts}

-- one that has retired is not live
not_live : (live : Bool) → not live ≡ true → live ≡ true → (b : Bool) → b ≡ true
not_live true r e b = cc
not_live false r e b = cc

-- each live object of a state from the base on is listed
pub live_left : (maps progs : List ℕ) (base s : State) → Lasts base s → ListsLeft maps progs base s → ListsLive maps progs s
live_left maps progs base s lasts left = record {
  maps_listed = λ id m there live. map_listed id m there live (left.maps_listed id m there);
  progs_listed = λ id p there live. prog_listed id p there live (left.progs_listed id p there);
}
  where
    map_listed : (id : ℕ) (m : HostMap) → map.get s.maps id ≡ Some m → IsTrue m.live → IsTrue (is_among maps id) ⊎ IsTrue (is_retired_map (map.get base.maps id)) → IsTrue (is_among maps id)
    map_listed id m there live (inl listed) = listed
    map_listed id m there live (inr retired) = not_live m.live (sym (ap is_retired_map there) ∙ lasts.retired_maps id retired) live (is_among maps id)

    prog_listed : (id : ℕ) (p : HostProg) → map.get s.progs id ≡ Some p → IsTrue p.live → IsTrue (is_among progs id) ⊎ IsTrue (is_retired_prog (map.get base.progs id)) → IsTrue (is_among progs id)
    prog_listed id p there live (inl listed) = listed
    prog_listed id p there live (inr retired) = not_live p.live (sym (ap is_retired_prog there) ∙ lasts.retired_progs id retired) live (is_among progs id)

some_of : {X : Type 0} (o : Option X) → is_some o ≡ true → (x : X) × (o ≡ Some x)
some_of None e = cc
some_of (Some x) e = (x, refl)

-- what is left of the state after a change is left of the state before it
left_back : (maps progs : List ℕ) (base s t : State) → Lasts s t → ListsLeft maps progs base t → ListsLeft maps progs base s
left_back maps progs base s t lasts left = record {
  maps_listed = λ id m there. let found = some_of (map.get t.maps id) (lasts.maps id (ap is_some there)) in left.maps_listed id found.0 found.1;
  progs_listed = λ id p there. let found = some_of (map.get t.progs id) (lasts.progs id (ap is_some there)) in left.progs_listed id found.0 found.1;
}

pub lasts_standing : (ready : Ready) (base s : State) (rs : List Recorded) → AllStanding ready s rs → Lasts base s → Lasts base (state_after s (entries rs))
lasts_standing ready base s [] h lasts = lasts
lasts_standing ready base s (r ∷ rs) h lasts =
    lasts_standing ready base (after s r.entry) rs h.1 (lasts_on base s (after s r.entry) lasts (act_lasts s (after s r.entry) r.entry.change r.entry.reply h.0.acts))

-- the newest moment's state keeps what is left, and so does the base if there is no moment
pub newest_left : (maps progs : List ℕ) (ready : Ready) (base : State) (rs : List Recorded) (room : ℕ) (ms : List MomentView) → ListsLeft maps progs base base → Each (λ (m : Past). ListsLeft maps progs base m.state) (pasts_down base (entries rs) ms) → Down ready base rs room ms
    → ListsLeft maps progs base (state_after base (entries rs))
newest_left maps progs ready base rs room [] b left down = subst (λ xs. ListsLeft maps progs base (state_after base (entries xs))) (sym down) b
newest_left maps progs ready base rs room (m ∷ ms) b left down = left.0

-- ---- what takes a change back is its own in what is left, too: the map of an accepted one is listed
found_left : (maps progs : List ℕ) (s : State) (id : ℕ) (m : HostMap) → map.get s.maps id ≡ Some m → (map.get (kept_state maps progs s).maps id ≡ None → ⊥) → map.get (kept_state maps progs s).maps id ≡ Some m
found_left maps progs s id m there some = kept_there ∙ by (is_among maps id) (λ none. some (kept_there ∙ none))
  where
    kept_there : map.get (kept_state maps progs s).maps id ≡ cond (is_among maps id) (Some m) None
    kept_there = get-kept maps s.maps id ∙ ap (λ o. cond (is_among maps id) o None) there

    by : (b : Bool) → (◌≡◌ {A = Option HostMap} (cond b (Some m) None) None → ⊥) → ◌≡◌ {A = Option HostMap} (cond b (Some m) None) (Some m)
    by true never = refl
    by false never = absurd (never refl)

own_left : (maps progs : List ℕ) (s t : State) (change : Change) (reply : Reply) (part : Part) → act (kept_state maps progs s) change ≡ Ok (t, reply) → IsOwn s change part → IsOwn (kept_state maps progs s) change part
unfolding act
own_left maps progs s t (Operate origin id op) reply part acts own = record {
  host = own.host;
  there = found_left maps progs s id own.host own.there (λ none. refused (sym (ap (λ o. operated_at (kept_state maps progs s) id (if_live o) origin op) none) ∙ acts));
  changed = own.changed;
  step = own.step;
  room = own.room;
  is = own.is;
}
  where
    refused : ◌≡◌ {A = Outcome} (Err ENOENT) (Ok (t, reply)) → ⊥
    refused e = cc
own_left maps progs s t (Link id key named flag) reply part acts own = record {
  host = own.host;
  there = found_left maps progs s id own.host own.there (λ none. refused (sym (ap (λ o. linked_at (kept_state maps progs s) id (if_live o) key named flag) none) ∙ acts));
  changed = own.changed;
  step = own.step;
  room = own.room;
  is = own.is;
}
  where
    refused : ◌≡◌ {A = Outcome} (Err ENOENT) (Ok (t, reply)) → ⊥
    refused e = cc
own_left maps progs s t (Create id attr charge name path template) reply part acts own = own
own_left maps progs s t (Freeze id) reply part acts own = own
own_left maps progs s t (Load id code name path) reply part acts own = own
own_left maps progs s t (Pin target path) reply part acts own = own
own_left maps progs s t (Unpin path) reply part acts own = own
own_left maps progs s t (Attach prog device overwrite) reply part acts own = own
own_left maps progs s t (Detach device) reply part acts own = own

module _ (maps progs : List ℕ) (old new : Ready) (base : State) (drops : JoinsWithout maps progs old new) where
  abbrev kept : State → State
  kept s = kept_state maps progs s

  abbrev Left : State → Type 0
  Left s = ListsLeft maps progs base s

  -- ---- one change
  acts_left : (s t : State) (change : Change) (reply : Reply) → act s change ≡ Ok (t, reply) → IsSettled t → Lasts base s → Lasts s t → Left t → act (kept s) change ≡ Ok (kept t, reply)
  acts_left s t change reply e settled lasts on left =
      acts_kept maps progs s t (live_left maps progs base s lasts (left_back maps progs base s t on left)) (live_left maps progs base t (lasts_on base s t lasts on) left) settled change reply e

  joins_left : (s t : State) (back forth : Undoing) → Joins old s t back forth → Lasts base s → Lasts s t → Left t → Joins new (kept s) (kept t) back forth
  joins_left s t back forth j lasts on left =
      drops s t back forth j (live_left maps progs base s lasts (left_back maps progs base s t on left)) (live_left maps progs base t (lasts_on base s t lasts on) left)

  after_left : (s : State) (e : Entry) → act (kept s) e.change ≡ Ok (kept (after s e), e.reply) → after (kept s) e ≡ kept (after s e)
  after_left s e acts = ap (state_or (kept s)) acts

  ok : State → Reply → Outcome
  ok t reply = Ok (t, reply)

  -- what is live is so in what is left
  retires_left : (s t : State) (targets : List Target) → RetiresJust s t targets → Lasts base s → Lasts s t → Left t → RetiresJust (kept s) (kept t) targets
  retires_left s t targets just lasts on left target =
      just target
      ∙ ap (λ b. b && not (is_live_in t target)) (sym (same_live maps progs s (live_left maps progs base s lasts (left_back maps progs base s t on left)) target))
      ∙ ap (λ b. is_live_in (kept s) target && not b) (sym (same_live maps progs t (live_left maps progs base t (lasts_on base s t lasts on) left) target))

  standing_left : (s : State) (r : Recorded) → IsStanding old s r → Lasts base s → Lasts s (after s r.entry) → Left (after s r.entry) → (after (kept s) r.entry ≡ kept (after s r.entry)) × IsStanding new (kept s) r
  standing_left s r h lasts on left =
      let t : State = after s r.entry in
      let acts : act (kept s) r.entry.change ≡ Ok (kept t, r.entry.reply) = acts_left s t r.entry.change r.entry.reply h.acts (settled_after old s t _ _ h.joins) lasts on left in
      let j : Joins new (kept s) (kept t) r.undoing (back_of t r.undoing) = joins_left s t r.undoing (back_of t r.undoing) h.joins lasts on left in
      let is : after (kept s) r.entry ≡ kept t = after_left s r.entry acts in (
        is,
        record {
          acts = subst (λ v. act (kept s) r.entry.change ≡ Ok (v, r.entry.reply)) (sym is) acts;
          own = own_left maps progs s (kept t) r.entry.change r.entry.reply r.undoing.part acts h.own;
          bytes = h.bytes;
          joins = subst (λ v. Joins new (kept s) v r.undoing (back_of v r.undoing)) (sym is) (subst (Joins new (kept s) (kept t) r.undoing) (sym j.back_face) j);
          retires = subst (λ v. RetiresJust (kept s) v (retired_by r)) (sym is) (retires_left s t (retired_by r) h.retires lasts on left);
        },
      )

  lying_left : (s : State) (r : Recorded) → IsLying old s r → Lasts base s → Lasts s (after s r.entry) → Left (after s r.entry) → (after (kept s) r.entry ≡ kept (after s r.entry)) × IsLying new (kept s) r × (stand (kept s) r ≡ stand s r)
  unfolding stand
  lying_left s r h lasts on left =
      let t : State = after s r.entry in
      let acts : act (kept s) r.entry.change ≡ Ok (kept t, r.entry.reply) = acts_left s t r.entry.change r.entry.reply h.acts (settled_after old s t _ _ h.joins) lasts on left in
      let j : Joins new (kept s) (kept t) (back_of s r.undoing) r.undoing = joins_left s t (back_of s r.undoing) r.undoing h.joins lasts on left in
      let is : after (kept s) r.entry ≡ kept t = after_left s r.entry acts in (
        is,
        record {
          acts = subst (λ v. act (kept s) r.entry.change ≡ Ok (v, r.entry.reply)) (sym is) acts;
          own = own_left maps progs s (kept t) r.entry.change r.entry.reply (back_of (kept s) r.undoing).part acts (subst (λ (u : Undoing). IsOwn s r.entry.change u.part) (sym j.forth_face) h.own);
          bytes = h.bytes;
          joins = subst (λ v. Joins new (kept s) v (back_of (kept s) r.undoing) r.undoing) (sym is) (subst (λ u. Joins new (kept s) (kept t) u r.undoing) (sym j.forth_face) j);
          retires = subst (λ v. RetiresJust (kept s) v (retired_by r)) (sym is) (retires_left s t (retired_by r) h.retires lasts on left);
        },
        ap (λ u. let x : Recorded = record { entry = r.entry; undoing = u } in x) j.forth_face,
      )

  -- ---- records one after the other
  record StandsLeft (s : State) (rs : List Recorded) : Type 0 where
    left : Left s
    standing : AllStanding new (kept s) rs
    end : state_after (kept s) (entries rs) ≡ kept (state_after s (entries rs))

  stands_left : (s : State) (rs : List Recorded) → AllStanding old s rs → Lasts base s → Left (state_after s (entries rs)) → StandsLeft s rs
  stands_left s [] h lasts left = record { left = left; standing = tt; end = refl }
  stands_left s (r ∷ rs) h lasts left =
      let t : State = after s r.entry in
      let on : Lasts s t = act_lasts s t r.entry.change r.entry.reply h.0.acts in
      let rest : StandsLeft t rs = stands_left t rs h.1 (lasts_on base s t lasts on) left in
      let one : (after (kept s) r.entry ≡ kept t) × IsStanding new (kept s) r = standing_left s r h.0 lasts on rest.left in
      record {
        left = left_back maps progs base s t on rest.left;
        standing = (one.1, subst (λ v. AllStanding new v rs) (sym one.0) rest.standing);
        end = ap (λ v. state_after v (entries rs)) one.0 ∙ rest.end;
      }

  record LiesLeft (s : State) (rs : List Recorded) : Type 0 where
    left : Left s
    lying : AllLying new (kept s) rs
    stood_same : stood (kept s) rs ≡ stood s rs
    end : state_after (kept s) (entries rs) ≡ kept (state_after s (entries rs))

  lies_left : (s : State) (rs : List Recorded) → AllLying old s rs → Lasts base s → Left (state_after s (entries rs)) → LiesLeft s rs
  lies_left s [] h lasts left = record { left = left; lying = tt; stood_same = refl; end = refl }
  lies_left s (r ∷ rs) h lasts left =
      let t : State = after s r.entry in
      let on : Lasts s t = act_lasts s t r.entry.change r.entry.reply h.0.acts in
      let rest : LiesLeft t rs = lies_left t rs h.1 (lasts_on base s t lasts on) left in
      let one : (after (kept s) r.entry ≡ kept t) × IsLying new (kept s) r × (stand (kept s) r ≡ stand s r) = lying_left s r h.0 lasts on rest.left in
      record {
        left = left_back maps progs base s t on rest.left;
        lying = (one.1, subst (λ v. AllLying new v rs) (sym one.0) rest.lying);
        stood_same = ap₂ (λ x v. x ∷ stood v rs) one.2 one.0 ∙ ap (λ xs. stand s r ∷ xs) rest.stood_same;
        end = ap (λ v. state_after v (entries rs)) one.0 ∙ rest.end;
      }

  -- ---- moments
  swap_left : (rs : List Recorded) (room : ℕ) (m : MomentView) → AllStanding old base rs → Left (state_after base (entries (swapped base rs m))) → CanSwap old base rs room m → CanSwap new (kept base) rs room m × (swapped (kept base) rs m ≡ swapped base rs m)
  swap_left rs room m h left k =
      let front : List Recorded = take m.at rs in
      let others : List Recorded = reverse m.other in
      let s : State = state_after base (entries front) in
      let stands : AllStanding old base front = AllStanding-front old base front (drop m.at rs) (subst (AllStanding old base) (sym (take-append-drop m.at rs)) h) in
      let lasts : Lasts base s = lasts_standing old base base front stands (lasts_itself base) in
      let on_top : Lasts base (state_after s (entries others)) =
      subst (λ es. Lasts base (state_after s es)) (entries-stood s others) (lasts_standing old base s (stood s others) (AllStanding-stood old s others k.lying) lasts) in
      let top : StandsLeft (state_after s (entries others)) (behind m.stays rs) = stands_left (state_after s (entries others)) (behind m.stays rs) k.standing on_top (subst Left (state_after-swapped base rs m) left) in
      let above : LiesLeft s others = lies_left s others k.lying lasts top.left in
      let below : StandsLeft base front = stands_left base front stands (lasts_itself base) above.left in (
        record {
          within = k.within;
          lying = subst (λ v. AllLying new v others) (sym below.end) above.lying;
          standing = subst (λ v. AllStanding new v (behind m.stays rs)) (sym (ap (λ v. state_after v (entries others)) below.end ∙ above.end)) top.standing;
          one = k.one;
          room_back = k.room_back;
          room_forth = k.room_forth;
        },
        ap (λ v. front ++ (stood v others ++ behind m.stays rs)) below.end ∙ ap (λ xs. front ++ (xs ++ behind m.stays rs)) above.stood_same,
      )

  pub up_left : (rs : List Recorded) (room : ℕ) (ms : List MomentView) → AllStanding old base rs → Each (λ (m : Past). ListsLeft maps progs base m.state) (pasts_up base (entries rs) ms) → Up old base rs room ms
      → Up new (kept_state maps progs base) rs room ms × (pasts_up (kept_state maps progs base) (entries rs) ms ≡ each (kept_past maps progs) (pasts_up base (entries rs) ms))
  up_left rs room [] h left up = (tt, refl)
  up_left rs room (m ∷ ms) h left up =
      let whole : List Recorded = swapped base rs m in
      let es : List Entry = other_force (entries rs) m in
      let is : es ≡ entries whole = sym (entries-swapped base rs m) in
      let top : Left (state_after base (entries whole)) = subst (λ fs. Left (state_after base fs)) is left.0 in
      let stands : AllStanding old base whole = AllStanding-swapped old base (state_after base (entries rs)) rs room m (record { standing = h; top = refl }) up.0 in
      let one : CanSwap new (kept base) rs room m × (swapped (kept base) rs m ≡ whole) = swap_left rs room m h top up.0 in
      let rest : Up new (kept base) whole room ms × (pasts_up (kept base) (entries whole) ms ≡ each (kept_past maps progs) (pasts_up base (entries whole) ms)) =
      up_left whole room ms stands (subst (λ fs. Each (λ (m : Past). Left m.state) (pasts_up base fs ms)) is left.1) up.1 in
      let end : state_after (kept base) es ≡ kept (state_after base es) =
      subst (λ fs. state_after (kept base) fs ≡ kept (state_after base fs)) (sym is) (stands_left base whole stands (lasts_itself base) top).end in
      let later : pasts_up (kept base) es ms ≡ each (kept_past maps progs) (pasts_up base es ms) =
      subst (λ fs. pasts_up (kept base) fs ms ≡ each (kept_past maps progs) (pasts_up base fs ms)) (sym is) rest.1 in (
        (one.0, subst (λ xs. Up new (kept base) xs room ms) (sym one.1) rest.0),
        ap₂ (λ v ps. let p : Past = record { serial = m.serial; out = m.out; force = es; state = v } in p ∷ ps) end later,
      )

  pub down_left : (rs : List Recorded) (room : ℕ) (ms : List MomentView) → AllStanding old base rs → Left base → Each (λ (m : Past). ListsLeft maps progs base m.state) (pasts_down base (entries rs) ms) → Down old base rs room ms
      → Down new (kept_state maps progs base) rs room ms × (pasts_down (kept_state maps progs base) (entries rs) ms ≡ each (kept_past maps progs) (pasts_down base (entries rs) ms))
  down_left rs room [] h b left down = (down, refl)
  down_left rs room (m ∷ ms) h b left down =
      let whole : List Recorded = swapped base rs m in
      let is : other_force (entries rs) m ≡ entries whole = sym (entries-swapped base rs m) in
      let older : Each (λ (p : Past). Left p.state) (pasts_down base (entries whole) ms) = subst (λ fs. Each (λ (p : Past). Left p.state) (pasts_down base fs ms)) is left.1 in
      let top : Left (state_after base (entries whole)) = newest_left maps progs old base whole room ms b older down.1 in
      let stands : AllStanding old base whole = AllStanding-swapped old base (state_after base (entries rs)) rs room m (record { standing = h; top = refl }) down.0 in
      let one : CanSwap new (kept base) rs room m × (swapped (kept base) rs m ≡ whole) = swap_left rs room m h top down.0 in
      let rest : Down new (kept base) whole room ms × (pasts_down (kept base) (entries whole) ms ≡ each (kept_past maps progs) (pasts_down base (entries whole) ms)) = down_left whole room ms stands b older down.1 in
      let end : state_after (kept base) (entries rs) ≡ kept (state_after base (entries rs)) = (stands_left base rs h (lasts_itself base) left.0).end in
      let before : pasts_down (kept base) (other_force (entries rs) m) ms ≡ each (kept_past maps progs) (pasts_down base (other_force (entries rs) m) ms) =
      subst (λ fs. pasts_down (kept base) fs ms ≡ each (kept_past maps progs) (pasts_down base fs ms)) (sym is) rest.1 in (
        (one.0, subst (λ xs. Down new (kept base) xs room ms) (sym one.1) rest.0),
        ap₂ (λ v ps. let p : Past = record { serial = m.serial; out = m.out; force = entries rs; state = v } in p ∷ ps) end before,
      )

  -- records in place lead from what is left of the base to what is left of the state
  pub leads_left : (w : State) (rs : List Recorded) → Leads old base w rs → Left w → Leads new (kept_state maps progs base) (kept_state maps progs w) rs
  leads_left w rs h left =
      let whole : StandsLeft base rs = stands_left base rs h.standing (lasts_itself base) (subst Left h.top left) in
      record { standing = whole.standing; top = ap kept h.top ∙ sym whole.end }
