-- What has retired in a state is what had retired before, and what the changes that lead to it retired.
use Rattle.std.proofs.Common.{◌≡◌, inl, inr, ℕ, Bool, true, false, ◌&&◌, ◌||◌, not, List, [], ◌∷◌, Option, Some, None, is_some, Ok, Err, IsTrue, refl, sym, ◌∙◌, ap, subst}
use Rattle.std.specs.FinMap as map
use Rattle.bt_mapkind.specs.declared.attr.MapAttr.{MapAttr}
use Rattle.bt_mapkind.specs.declared.errno.Errno.TheVariants.{EINVAL, EEXIST, ENOENT}
use Rattle.bt_mapkind.specs.Attributes.{good}
use Rattle.host_words.specs.Spelling.{is_name, is_path}
use Rattle.bt_roots.specs.declared.target.Target.{Target}
use Rattle.bt_roots.specs.declared.target.Target.TheVariants.{Map, Prog}
use Rattle.host_state.specs.State.{HostMap, HostProg, State}
use Rattle.host_state.specs.Settled.{IsSettled, settle, is_live_map, is_live_prog, is_live_in}
use Rattle.host_state.specs.Settled.{is_listed}
use Rattle.host_state.specs.World.{Ready}
use Rattle.host_state.specs.Act.{Outcome, act, created_with, new_prog}
use Rattle.host_state.specs.declared.change.Change.{Change}
use Rattle.host_state.specs.declared.change.Change.TheVariants.{Create, Operate, Freeze, Link, Load, Pin, Unpin, Attach, Detach}
use Rattle.host_state.specs.declared.reply.Reply.{Reply}
use Rattle.host_state.specs.declared.reply.Reply.TheVariants.{Id, Loaded}
use Rattle.host_state.proofs.Lasting.{pinned_there}
use Rattle.host_state.proofs.Tests.{new_map, loaded, has_maps, template_of, with_prog}
use Rattle.host_state.proofs.LinkedLemmas.{root_live}
use Rattle.journal_model.specs.Rebase.{is_retired_map, is_retired_prog}
use Rattle.journal_model.proofs.Acts.{new_id, new_prog as new_prog_id, IsDone, acted}
use Rattle.journal_record.specs.Recorded.{Recorded}
use Rattle.journal_record.specs.After.{after, state_after}
use Rattle.journal_record.specs.Retired.{has_retired, is_retired_by}
use Rattle.journal_record.specs.Records.{entries, retired_by, IsStanding, AllStanding}
use Rattle.journal_record.proofs.LineLemmas.{settled_after}
use Rattle.journal_model.proofs.Retiring.{Lasts, act_lasts, passed}

-- ---- an object that comes is pinned, so it is live
abbrev state_of : State → Outcome → State
state_of s (Ok done) = done.0
state_of s _ = s

-- it stands at a path in the state that settles
comes_pinned : (s middle t : State) (made reply : Reply) (path : List ℕ) (target : Target) → map.get middle.pins path ≡ Some target → ◌≡◌ {A = Outcome} (Ok (settle middle, made)) (Ok (t, reply)) → IsSettled t → IsTrue (is_live_in t target)
unfolding settle
comes_pinned s middle t made reply path target there e settled =
    root_live t settled target (inl (path, subst (λ (v : State). map.get v.pins path ≡ Some target) (ap (state_of s) e) there))

made_live : (s t : State) (id : ℕ) (attr : MapAttr) (charge : ℕ) (name path : List ℕ) (reply : Reply) (found : _) → created_with s id attr charge name path found ≡ Ok (t, reply) → IsSettled t → IsTrue (is_live_in t (Map id))
made_live s t id attr charge name path reply (Err errno) e settled = cc
made_live s t id attr charge name path reply (Ok template) e settled =
    comes_pinned s (record s { maps = map.insert s.maps id (new_map attr charge name template); pins = map.insert s.pins path (Map id) }) t (Id id) reply path (Map id)
    (pinned_there s path (Map id))
    (passed (map.contains_key s.pins path) EEXIST _ (t, reply) (passed (not (is_path path)) EINVAL _ (t, reply) e).1).1
    settled

loaded_live : (s t : State) (id : ℕ) (prog : HostProg) (path : List ℕ) (reply : Reply) → loaded s id prog path ≡ Ok (t, reply) → IsSettled t → IsTrue (is_live_in t (Prog id))
loaded_live s t id prog path reply e settled =
    comes_pinned s (with_prog s id prog path) t (Loaded id) reply path (Prog id)
    (pinned_there s path (Prog id))
    (passed (map.contains_key s.pins path) EEXIST _ (t, reply)
    (passed (not (is_path path)) EINVAL _ (t, reply) (passed (not (has_maps s prog.code)) ENOENT _ (t, reply) (passed (map.contains_key s.progs id) EEXIST _ (t, reply) e).1).1).1).1
    settled

new_map_live : (s t : State) (change : Change) (reply : Reply) (id : ℕ) → act s change ≡ Ok (t, reply) → new_id change ≡ Some id → IsSettled t → IsTrue (is_live_in t (Map id))
unfolding act
new_map_live s t (Create new attr charge name path template) reply id e is settled =
    subst (λ n. IsTrue (is_live_in t (Map n))) (same new id is)
    (made_live s t new attr charge name path reply (template_of s attr.kind template)
    (passed (not (good attr && is_name name)) EINVAL _ (t, reply) (passed (map.contains_key s.maps new) EEXIST _ (t, reply) e).1).1 settled)
  where
    same : (a b : ℕ) → Some a ≡ Some b → a ≡ b
    same a b f = cc
new_map_live s t (Operate origin map op) reply id e is settled = cc
new_map_live s t (Freeze map) reply id e is settled = cc
new_map_live s t (Link map key named flag) reply id e is settled = cc
new_map_live s t (Load new code name path) reply id e is settled = cc
new_map_live s t (Pin target path) reply id e is settled = cc
new_map_live s t (Unpin path) reply id e is settled = cc
new_map_live s t (Attach prog device overwrite) reply id e is settled = cc
new_map_live s t (Detach device) reply id e is settled = cc

new_prog_live : (s t : State) (change : Change) (reply : Reply) (id : ℕ) → act s change ≡ Ok (t, reply) → new_prog_id change ≡ Some id → IsSettled t → IsTrue (is_live_in t (Prog id))
unfolding act
new_prog_live s t (Load new code name path) reply id e is settled =
    subst (λ n. IsTrue (is_live_in t (Prog n))) (same new id is) (loaded_live s t new (new_prog code name) path reply e settled)
  where
    same : (a b : ℕ) → Some a ≡ Some b → a ≡ b
    same a b f = cc
new_prog_live s t (Create new attr charge name path template) reply id e is settled = cc
new_prog_live s t (Operate origin map op) reply id e is settled = cc
new_prog_live s t (Freeze map) reply id e is settled = cc
new_prog_live s t (Link map key named flag) reply id e is settled = cc
new_prog_live s t (Pin target path) reply id e is settled = cc
new_prog_live s t (Unpin path) reply id e is settled = cc
new_prog_live s t (Attach prog device overwrite) reply id e is settled = cc
new_prog_live s t (Detach device) reply id e is settled = cc

-- ---- one change
-- an object before, after, and whether the change lists it
map_retired : (o p : Option HostMap) (listed : Bool) → listed ≡ is_live_map o && not (is_live_map p) → (is_some o ≡ true → is_some p ≡ true) → (is_retired_map o ≡ true → is_retired_map p ≡ true)
    → (is_some o ≡ false → is_some p ≡ true → is_live_map p ≡ true) → is_retired_map p ≡ is_retired_map o || listed
map_retired None None listed is stays lasts comes = sym is
map_retired None (Some m) listed is stays lasts comes = ap not (comes refl refl) ∙ sym is
map_retired (Some m) None listed is stays lasts comes = cc (stays refl)
map_retired (Some m) (Some n) listed is stays lasts comes = by m.live n.live is lasts
  where
    by : (was now : Bool) → listed ≡ was && not now → (not was ≡ true → not now ≡ true) → not now ≡ not was || listed
    by true now f l = sym f
    by false now f l = l refl

prog_retired : (o p : Option HostProg) (listed : Bool) → listed ≡ is_live_prog o && not (is_live_prog p) → (is_some o ≡ true → is_some p ≡ true) → (is_retired_prog o ≡ true → is_retired_prog p ≡ true)
    → (is_some o ≡ false → is_some p ≡ true → is_live_prog p ≡ true) → is_retired_prog p ≡ is_retired_prog o || listed
prog_retired None None listed is stays lasts comes = sym is
prog_retired None (Some m) listed is stays lasts comes = ap not (comes refl refl) ∙ sym is
prog_retired (Some m) None listed is stays lasts comes = cc (stays refl)
prog_retired (Some m) (Some n) listed is stays lasts comes = by m.live n.live is lasts
  where
    by : (was now : Bool) → listed ≡ was && not now → (not was ≡ true → not now ≡ true) → not now ≡ not was || listed
    by true now f l = sym f
    by false now f l = l refl

one_retired : (ready : Ready) (s : State) (r : Recorded) → IsStanding ready s r → (target : Target) → has_retired (after s r.entry) target ≡ has_retired s target || is_listed (retired_by r) target
one_retired ready s r h target = by target
  where
    t : State
    t = after s r.entry

    lasts : Lasts s t
    lasts = act_lasts s t r.entry.change r.entry.reply h.acts

    settled : IsSettled t
    settled = settled_after ready s t _ _ h.joins

    done : IsDone s r.entry.change (t, r.entry.reply)
    done = acted s r.entry.change (t, r.entry.reply) h.acts

    by : (target : Target) → has_retired t target ≡ has_retired s target || is_listed (retired_by r) target
    by (Map id) =
        map_retired (map.get s.maps id) (map.get t.maps id) (is_listed (retired_by r) (Map id)) (h.retires (Map id)) (lasts.maps id) (lasts.retired_maps id)
        (λ absent there. elim (done.maps id there) [ inl was ↦ cc | inr new ↦ new_map_live s t r.entry.change r.entry.reply id h.acts new settled ])
    by (Prog id) =
        prog_retired (map.get s.progs id) (map.get t.progs id) (is_listed (retired_by r) (Prog id)) (h.retires (Prog id)) (lasts.progs id) (lasts.retired_progs id)
        (λ absent there. elim (done.progs id there) [ inl was ↦ cc | inr new ↦ new_prog_live s t r.entry.change r.entry.reply id h.acts new settled ])

-- ---- one change after the other
or_assoc : (a b c : Bool) → (a || b) || c ≡ a || (b || c)
or_assoc true b c = refl
or_assoc false b c = refl

or_false : (b : Bool) → b || false ≡ b
or_false true = refl
or_false false = refl

pub all_retired : (ready : Ready) (s : State) (rs : List Recorded) → AllStanding ready s rs → (target : Target) → has_retired (state_after s (entries rs)) target ≡ has_retired s target || is_retired_by rs target
all_retired ready s [] h target = sym (or_false (has_retired s target))
all_retired ready s (r ∷ rs) h target =
    all_retired ready (after s r.entry) rs h.1 target
    ∙ ap (λ b. b || is_retired_by rs target) (one_retired ready s r h.0 target)
    ∙ or_assoc (has_retired s target) (is_listed (retired_by r) target) (is_retired_by rs target)
