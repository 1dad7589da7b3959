-- If the programs of a state were verified against some maps, so are those that a change leaves, if the one that it loads was.
use Rattle.std.proofs.Common.{◌≡◌, ℕ, Bool, true, false, cond, not, ◌&&◌, List, Option, Some, None, is_some, Result, Ok, Err, refl, sym, ◌∙◌, subst}
use Rattle.std.specs.Prelude.{⊤, option_map}
use Rattle.std.specs.Ordering.{nat_cmp, eq_by_cmp}
use Rattle.std.specs.Cmp.{nat_cmp_total}
use Rattle.std.specs.FinMap as map
use Rattle.host_words.specs.Spelling.{is_name, is_path}
use Rattle.bt_mapkind.specs.declared.attr.MapAttr.{MapAttr}
use Rattle.bt_mapkind.specs.declared.errno.Errno.{Errno}
use Rattle.bt_mapkind.specs.declared.errno.Errno.TheVariants.{ENOENT, EINVAL, EPERM, EEXIST, EBUSY}
use Rattle.bt_mapkind.specs.declared.request.MapOp.{MapOp}
use Rattle.bt_mapkind.specs.declared.request.MapOp.TheVariants.{SetLink}
use Rattle.bt_mapkind.specs.Attributes.{good}
use Rattle.bt_mapkind.specs.Inner.{holds_ids, form_fault}
use Rattle.bt_mapkind.specs.Step.{Step, map_step, is_flag}
use Rattle.bt_verify.specs.Verified.{Checked}
use Rattle.bt_roots.specs.View.{position_of}
use Rattle.bt_roots.specs.Exchange.{prog_at}
use Rattle.bt_roots.specs.declared.target.Target.{Target}
use Rattle.bt_roots.specs.declared.target.Target.TheVariants.{Map, Prog}
use Rattle.host_state.specs.declared.change.Change.{Change}
use Rattle.host_state.specs.declared.change.Change.TheVariants.{Create, Operate, Freeze, Link, Load, Pin, Unpin, Attach, Detach}
use Rattle.host_state.specs.declared.change.Origin.{Origin}
use Rattle.host_state.specs.declared.reply.Reply.{Reply}
use Rattle.host_state.specs.declared.reply.Reply.TheVariants.{Done, Id, Loaded}
use Rattle.host_state.specs.State.{HostMap, HostProg, State}
use Rattle.host_state.specs.Settled.{is_reached, settle, is_live_in, named_in}
use Rattle.host_state.specs.Act.{Outcome, act, live_map, is_console, bars, flag_of, operated_to, unless, with_contents, with_frozen, with_attached, pinned_as, created_with, new_prog}
use Rattle.host_state.proofs.ByIdLemmas.{get-mapped, same_some}
use Rattle.host_state.proofs.Tests.{new_map, operated_at, named_fault, linked_at, frozen_at, template_of, has_maps, attached_to, detached_from}
use Rattle.bt_interp.specs.Known.{AreMaps}
use Rattle.journal_model.specs.Rebase.{is_retired_prog, without_retired}
use Rattle.journal_invariant.proofs.Dropping.{get-passed}
use Rattle.journal_known_maps.specs.Known.{ProgsKnow, LoadKnows}

module _ (maps : ℕ → Option MapAttr) where
  -- the programs of the state that an outcome leaves
  abbrev Keeps : Outcome → Type 0
  Keeps (Ok done) = ProgsKnow maps done.0
  Keeps (Err errno) = ⊤

  -- a test that may refuse
  barred : (test : Bool) (errno : Errno) (o : Outcome) → Keeps o → Keeps (cond test (Err errno) o)
  barred true errno o h = tt
  barred false errno o h = h

  either : (test : Bool) (x y : Outcome) → Keeps x → Keeps y → Keeps (cond test x y)
  either true x y h k = h
  either false x y h k = k

  faulted : (fault : Option Errno) (o : Outcome) → Keeps o → Keeps (unless fault o)
  faulted (Some errno) o h = tt
  faulted None o h = h

  settled : (s : State) → ProgsKnow maps s → ProgsKnow maps (settle s)
  unfolding settle
  settled s h q p there =
      by (map.get s.progs q) refl (sym (get-mapped (λ id (x : HostProg). record x { live = x.live && is_reached s (Prog id) }) s.progs q) ∙ there)
    where
      by : (o : Option HostProg) → map.get s.progs q ≡ o → option_map (λ (x : HostProg). record x { live = x.live && is_reached s (Prog q) }) o ≡ Some p → AreMaps maps p.code.maps
      by None is e = cc
      by (Some x) is e = subst (λ (y : HostProg). AreMaps maps y.code.maps) (same_some e) (h q x is)

  -- ---- each change
  stepped : (s : State) (id : ℕ) (m : HostMap) (op : MapOp) (step : Step) → ProgsKnow maps s → Keeps (operated_to s id m op step)
  stepped s id m op (Err errno) h = tt
  stepped s id m op (Ok changed) h = settled (with_contents s id m changed.contents) h

  operated : (s : State) (id : ℕ) (found : Option HostMap) (origin : Origin) (op : MapOp) → ProgsKnow maps s → Keeps (operated_at s id found origin op)
  operated s id None origin op h = tt
  operated s id (Some m) origin op h =
      barred (not (is_flag (flag_of op))) EINVAL _ (barred (is_console origin && m.frozen) EPERM _
      (barred (bars origin (holds_ids m.attr.kind) op) EINVAL _ (stepped s id m op (map_step m.attr m.contents op) h)))

  linked : (s : State) (id : ℕ) (found : Option HostMap) (key : List ℕ) (named flag : ℕ) → ProgsKnow maps s → Keeps (linked_at s id found key named flag)
  linked s id None key named flag h = tt
  linked s id (Some m) key named flag h =
      barred (not (is_flag flag)) EINVAL _ (barred m.frozen EPERM _
      (faulted (form_fault m.attr key flag) _ (faulted (named_fault s m.template (named_in m.attr.kind named)) _
      (stepped s id m (SetLink key named flag) (map_step m.attr m.contents (SetLink key named flag)) h))))

  frozen : (s : State) (id : ℕ) (found : Option HostMap) → ProgsKnow maps s → Keeps (frozen_at s id found)
  frozen s id None h = tt
  frozen s id (Some m) h = barred m.frozen EBUSY _ (settled (with_frozen s id m true) h)

  pinned : (s : State) (target : Target) (path : List ℕ) (reply : Reply) → ProgsKnow maps s → Keeps (pinned_as s target path reply)
  pinned s target path reply h =
      barred (not (is_path path)) EINVAL _ (barred (map.contains_key s.pins path) EEXIST _ (settled (record s { pins = map.insert s.pins path target }) h))

  created : (s : State) (id : ℕ) (attr : MapAttr) (charge : ℕ) (name path : List ℕ) (found : Result (Option MapAttr) Errno) → ProgsKnow maps s → Keeps (created_with s id attr charge name path found)
  created s id attr charge name path (Err errno) h = tt
  created s id attr charge name path (Ok template) h = pinned (record s { maps = map.insert s.maps id (new_map attr charge name template) }) (Map id) path (Id id) h

  with_program : (s : State) (id : ℕ) (code : Checked) (name : List ℕ) → AreMaps maps code.maps → ProgsKnow maps s → ProgsKnow maps (record s { progs = map.insert s.progs id (new_prog code name) })
  with_program s id code name k h q p there = by (eq_by_cmp nat_cmp q id) (sym (map.get-insert nat_cmp_total s.progs id (new_prog code name) q) ∙ there)
    where
      by : (b : Bool) → cond b (Some (new_prog code name)) (map.get s.progs q) ≡ Some p → AreMaps maps p.code.maps
      by true e = subst (λ (y : HostProg). AreMaps maps y.code.maps) (same_some e) k
      by false e = h q p e

  attached : (s : State) (prog : ℕ) (overwrite : Bool) (found : Option ℕ) → ProgsKnow maps s → Keeps (attached_to s prog overwrite found)
  attached s prog overwrite None h = tt
  attached s prog overwrite (Some position) h =
      barred (is_some (prog_at s.devices position) && not overwrite) EBUSY _ (settled (with_attached s position (Some prog)) h)

  detached : (s : State) (found : Option ℕ) → ProgsKnow maps s → Keeps (detached_from s found)
  detached s None h = tt
  detached s (Some position) h = either (is_some (prog_at s.devices position)) _ _ (settled (with_attached s position None) h) tt

  acts_keep : (s : State) (change : Change) → ProgsKnow maps s → LoadKnows maps change → Keeps (act s change)
  unfolding act
  acts_keep s (Create id attr charge name path template) h k =
      barred (map.contains_key s.maps id) EEXIST _ (barred (not (good attr && is_name name)) EINVAL _
      (created s id attr charge name path (template_of s attr.kind template) h))
  acts_keep s (Operate origin id op) h k = operated s id (live_map s id) origin op h
  acts_keep s (Freeze id) h k = frozen s id (live_map s id) h
  acts_keep s (Link id key named flag) h k = linked s id (live_map s id) key named flag h
  acts_keep s (Load id code name path) h k =
      barred (map.contains_key s.progs id) EEXIST _ (barred (not (has_maps s code)) ENOENT _
      (pinned (record s { progs = map.insert s.progs id (new_prog code name) }) (Prog id) path (Loaded id) (with_program s id code name k h)))
  acts_keep s (Pin target path) h k = barred (not (is_live_in s target)) ENOENT _ (pinned s target path Done h)
  acts_keep s (Unpin path) h k = either (map.contains_key s.pins path) _ _ (settled (record s { pins = map.remove s.pins path }) h) tt
  acts_keep s (Attach prog device overwrite) h k =
      barred (not (is_live_in s (Prog prog))) ENOENT _ (attached s prog overwrite (position_of s.devices device) h)
  acts_keep s (Detach device) h k = detached s (position_of s.devices device) h

  -- ---- what a change leaves, and what is left of a state
  pub act_knows : (s t : State) (change : Change) (reply : Reply) → act s change ≡ Ok (t, reply) → ProgsKnow maps s → LoadKnows maps change → ProgsKnow maps t
  act_knows s t change reply e h k = subst Keeps e (acts_keep s change h k)

  pub progs_dropped : (base s : State) → ProgsKnow maps s → ProgsKnow maps (without_retired base s)
  progs_dropped base s h q p there =
      h q p (left (not (is_retired_prog (map.get base.progs q))) (sym (get-passed s.progs (λ id. not (is_retired_prog (map.get base.progs id))) q) ∙ there))
    where
      left : (b : Bool) → cond b (map.get s.progs q) None ≡ Some p → map.get s.progs q ≡ Some p
      left true e = e
      left false e = cc
