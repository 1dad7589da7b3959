-- Through a change what is there stays there, and what has retired stays retired.
use Rattle.std.proofs.Common.{◌≡◌, ℕ, Bool, true, false, cond, not, ◌&&◌, List, Option, Some, None, is_some, Result, Ok, Err, refl, sym, ap, subst, ◌∙◌}
use Rattle.std.specs.Option.{option_map}
use Rattle.std.specs.FinMap as map
use Rattle.host_words.specs.Spelling.{is_name, is_path}
use Rattle.bt_mapkind.specs.declared.attr.MapAttr.{MapAttr}
use Rattle.bt_mapkind.specs.declared.errno.Errno.{Errno}
use Rattle.bt_mapkind.specs.declared.errno.Errno.TheVariants.{ENOENT, EINVAL, EPERM, EEXIST, EBUSY}
use Rattle.bt_mapkind.specs.declared.request.MapOp.{MapOp}
use Rattle.bt_mapkind.specs.declared.request.MapOp.TheVariants.{SetLink as SetLinkOp}
use Rattle.bt_mapkind.specs.Attributes.{good}
use Rattle.bt_mapkind.specs.Step.{Step, map_step, is_flag}
use Rattle.bt_roots.specs.View.{position_of}
use Rattle.bt_roots.specs.Exchange.{prog_at}
use Rattle.bt_roots.specs.declared.target.Target.{Target}
use Rattle.bt_roots.specs.declared.target.Target.TheVariants.{Map, Prog}
use Rattle.host_state.specs.declared.change.Change.{Change}
use Rattle.host_state.specs.declared.change.Change.TheVariants.{Create, Operate, Freeze, Link, Load, Pin, Unpin, Attach, Detach}
use Rattle.host_state.specs.declared.change.Origin.{Origin}
use Rattle.host_state.specs.declared.reply.Reply.{Reply}
use Rattle.host_state.specs.declared.reply.Reply.TheVariants.{Done, Id, Loaded}
use Rattle.host_state.specs.State.{HostMap, HostProg, State}
use Rattle.host_state.specs.Settled.{is_reached, settle, is_live_in, named_in}
use Rattle.bt_mapkind.specs.Inner.{holds_ids, form_fault}
use Rattle.host_state.specs.Act.{Outcome, act, if_live, live_map, is_console, bars, flag_of, operated_to, unless, created_with, new_prog, with_attached}
use Rattle.host_state.proofs.Tests.{new_map, with_pin, without_pin, with_prog, operated_at, named_fault, linked_at, pinned, frozen_at, template_of, has_maps, loaded, detached_from}
use Rattle.host_state.proofs.ByIdLemmas.{get-mapped, at_put}
use Rattle.host_state.proofs.Lasting.{unpin_by, attach_by, put_prog_by, take_prog_by}
use Rattle.journal_model.specs.Rebase.{is_retired_map, is_retired_prog}

-- what is in one state is in the other, and what has retired in the one has retired in the other
pub record Lasts (s t : State) : Type 0 where
  pub maps : (id : ℕ) → is_some (map.get s.maps id) ≡ true → is_some (map.get t.maps id) ≡ true
  pub progs : (id : ℕ) → is_some (map.get s.progs id) ≡ true → is_some (map.get t.progs id) ≡ true
  pub retired_maps : (id : ℕ) → is_retired_map (map.get s.maps id) ≡ true → is_retired_map (map.get t.maps id) ≡ true
  pub retired_progs : (id : ℕ) → is_retired_prog (map.get s.progs id) ≡ true → is_retired_prog (map.get t.progs id) ≡ true

pub lasts_itself : (s : State) → Lasts s s
lasts_itself s = record { maps = λ id r. r; progs = λ id r. r; retired_maps = λ id r. r; retired_progs = λ id r. r }

pub lasts_on : (s t u : State) → Lasts s t → Lasts t u → Lasts s u
lasts_on s t u h k = record {
  maps = λ id r. k.maps id (h.maps id r);
  progs = λ id r. k.progs id (h.progs id r);
  retired_maps = λ id r. k.retired_maps id (h.retired_maps id r);
  retired_progs = λ id r. k.retired_progs id (h.retired_progs id r);
}

is_some-map : {X Y : Type 0} (f : X → Y) (o : Option X) → is_some (option_map f o) ≡ is_some o
is_some-map f None = refl
is_some-map f (Some x) = refl

not_and : (a b : Bool) → not a ≡ true → not (a && b) ≡ true
not_and true b e = cc
not_and false b e = refl

-- to settle drops nothing, and makes nothing live
settled : (s : State) → Lasts s (settle s)
unfolding settle
settled s = record {
  maps = λ id r. ap is_some (get-mapped (λ id (m : HostMap). record m { live = m.live && is_reached s (Map id) }) s.maps id) ∙ is_some-map _ (map.get s.maps id) ∙ r;
  progs = λ id r. ap is_some (get-mapped (λ id (p : HostProg). record p { live = p.live && is_reached s (Prog id) }) s.progs id) ∙ is_some-map _ (map.get s.progs id) ∙ r;
  retired_maps = λ id r. ap is_retired_map (get-mapped (λ id (m : HostMap). record m { live = m.live && is_reached s (Map id) }) s.maps id) ∙ map_too id (map.get s.maps id) r;
  retired_progs = λ id r. ap is_retired_prog (get-mapped (λ id (p : HostProg). record p { live = p.live && is_reached s (Prog id) }) s.progs id) ∙ prog_too id (map.get s.progs id) r;
}
  where
    map_too : (id : ℕ) (o : Option HostMap) → is_retired_map o ≡ true → is_retired_map (option_map (λ (m : HostMap). record m { live = m.live && is_reached s (Map id) }) o) ≡ true
    map_too id None r = r
    map_too id (Some m) r = not_and m.live (is_reached s (Map id)) r

    prog_too : (id : ℕ) (o : Option HostProg) → is_retired_prog o ≡ true → is_retired_prog (option_map (λ (p : HostProg). record p { live = p.live && is_reached s (Prog id) }) o) ≡ true
    prog_too id None r = r
    prog_too id (Some p) r = not_and p.live (is_reached s (Prog id)) r

-- ---- a test that may refuse has not
pub passed : (test : Bool) (errno : Errno) (o : Outcome) (done : State × Reply) → cond test (Err errno) o ≡ Ok done → (test ≡ false) × (o ≡ Ok done)
passed true errno o done e = cc
passed false errno o done e = (refl, e)

met : (test : Bool) (errno : Errno) (o : Outcome) (done : State × Reply) → cond test o (Err errno) ≡ Ok done → o ≡ Ok done
met true errno o done e = e
met false errno o done e = cc

unless_not : (fault : Option Errno) (o : Outcome) (done : State × Reply) → unless fault o ≡ Ok done → o ≡ Ok done
unless_not None o done e = e
unless_not (Some errno) o done e = cc

abbrev state_or : State → Outcome → State
state_or s (Ok done) = done.0
state_or s (Err errno) = s

-- the change settles a state in which it lasts
comes_to : (s middle : State) (reply : Reply) (done : State × Reply) → Lasts s middle → ◌≡◌ {A = Outcome} (Ok (settle middle, reply)) (Ok done) → Lasts s done.0
comes_to s middle reply done h e = subst (Lasts s) (ap (state_or s) e) (lasts_on s middle (settle middle) h (settled middle))

-- ---- one map is written
live_is : (o : Option HostMap) (m : HostMap) → if_live o ≡ Some m → o ≡ Some m
live_is None m e = cc
live_is (Some n) m e = by_live n.live e
  where
    by_live : (live : Bool) → cond live (Some n) None ≡ Some m → Some n ≡ Some m
    by_live true e = e
    by_live false e = cc

written : (s : State) (id : ℕ) (m n : HostMap) → map.get s.maps id ≡ Some m → n.live ≡ m.live → Lasts s (record s { maps = map.insert s.maps id n })
written s id m n there same = record {
  maps = λ q r. at_put s.maps id q (Some n) (λ o. is_some o ≡ true) (λ is. refl) r;
  progs = λ q r. r;
  retired_maps = λ q r. at_put s.maps id q (Some n) (λ o. is_retired_map o ≡ true) (λ is. ap not same ∙ sym (ap is_retired_map there) ∙ ap (λ i. is_retired_map (map.get s.maps i)) (sym is) ∙ r) r;
  retired_progs = λ q r. r;
}

stepped : (s : State) (id : ℕ) (m : HostMap) (op : MapOp) (done : State × Reply) → map.get s.maps id ≡ Some m → (step : Step) → operated_to s id m op step ≡ Ok done → Lasts s done.0
stepped s id m op done there (Err errno) e = cc
stepped s id m op done there (Ok step) e = comes_to s _ _ done (written s id m (record m { contents = step.contents }) there refl) e

operated : (s : State) (origin : Origin) (id : ℕ) (op : MapOp) (done : State × Reply) → (o : Option HostMap) → live_map s id ≡ o → operated_at s id o origin op ≡ Ok done → Lasts s done.0
operated s origin id op done None is e = cc
operated s origin id op done (Some m) is e =
    stepped s id m op done (live_is (map.get s.maps id) m is) (map_step m.attr m.contents op)
    (passed (bars origin (holds_ids m.attr.kind) op) EINVAL _ done (passed (is_console origin && m.frozen) EPERM _ done (passed (not (is_flag (flag_of op))) EINVAL _ done e).1).1).1

linked : (s : State) (id : ℕ) (key : List ℕ) (named flag : ℕ) (done : State × Reply) → (o : Option HostMap) → live_map s id ≡ o → linked_at s id o key named flag ≡ Ok done → Lasts s done.0
linked s id key named flag done None is e = cc
linked s id key named flag done (Some m) is e =
    stepped s id m (SetLinkOp key named flag) done (live_is (map.get s.maps id) m is) (map_step m.attr m.contents (SetLinkOp key named flag))
    (unless_not (named_fault s m.template (named_in m.attr.kind named)) _ done
    (unless_not (form_fault m.attr key flag) _ done (passed m.frozen EPERM _ done (passed (not (is_flag flag)) EINVAL _ done e).1).1))

frozen : (s : State) (id : ℕ) (done : State × Reply) → (o : Option HostMap) → live_map s id ≡ o → frozen_at s id o ≡ Ok done → Lasts s done.0
frozen s id done None is e = cc
frozen s id done (Some m) is e = comes_to s _ Done done (written s id m (record m { frozen = true }) (live_is (map.get s.maps id) m is) refl) (passed m.frozen EBUSY _ done e).1

-- ---- an object is made
no_map : (o : Option HostMap) (b : Bool) → is_some o ≡ false → is_retired_map o ≡ true → b ≡ true
no_map None b absent r = cc
no_map (Some m) b absent r = cc

no_prog : (o : Option HostProg) (b : Bool) → is_some o ≡ false → is_retired_prog o ≡ true → b ≡ true
no_prog None b absent r = cc
no_prog (Some p) b absent r = cc

created : (s : State) (id : ℕ) (attr : MapAttr) (charge : ℕ) (name path : List ℕ) (done : State × Reply) → map.contains_key s.maps id ≡ false
    → (found : Result (Option MapAttr) Errno) → created_with s id attr charge name path found ≡ Ok done → Lasts s done.0
created s id attr charge name path done absent (Err errno) e = cc
created s id attr charge name path done absent (Ok template) e =
    comes_to s (record s { maps = map.insert s.maps id (new_map attr charge name template); pins = map.insert s.pins path (Map id) }) (Id id) done
    (record {
      maps = λ q r. at_put s.maps id q (Some (new_map attr charge name template)) (λ o. is_some o ≡ true) (λ is. refl) r;
      progs = λ q r. r;
      retired_maps = λ q r. at_put s.maps id q (Some (new_map attr charge name template)) (λ o. is_retired_map o ≡ true)
          (λ is. no_map (map.get s.maps q) false (ap (λ i. is_some (map.get s.maps i)) is ∙ absent) r) r;
      retired_progs = λ q r. r;
    })
    (passed (map.contains_key s.pins path) EEXIST _ done (passed (not (is_path path)) EINVAL _ done e).1).1

put_in : (s : State) (id : ℕ) (prog : HostProg) (path : List ℕ) (done : State × Reply) → loaded s id prog path ≡ Ok done → Lasts s done.0
put_in s id prog path done e =
    let absent : (map.contains_key s.progs id ≡ false) × (_ ≡ Ok done) = passed (map.contains_key s.progs id) EEXIST _ done e in
    comes_to s (with_prog s id prog path) (Loaded id) done
    (record {
      maps = λ q r. r;
      progs = λ q r. at_put s.progs id q (Some prog) (λ o. is_some o ≡ true) (λ is. refl) r;
      retired_maps = λ q r. r;
      retired_progs = λ q r. at_put s.progs id q (Some prog) (λ o. is_retired_prog o ≡ true) (λ is. no_prog (map.get s.progs q) (not prog.live) (ap (λ i. is_some (map.get s.progs i)) is ∙ absent.0) r) r;
    })
    (passed (map.contains_key s.pins path) EEXIST _ done (passed (not (is_path path)) EINVAL _ done (passed (not (has_maps s prog.code)) ENOENT _ done absent.1).1).1).1

-- ---- pins and devices
same_objects : (s t : State) → t.maps ≡ s.maps → t.progs ≡ s.progs → Lasts s t
same_objects s t m p = record {
  maps = λ id r. ap (λ (ms : map.FinMap _ _). is_some (map.get ms id)) m ∙ r;
  progs = λ id r. ap (λ (ps : map.FinMap _ _). is_some (map.get ps id)) p ∙ r;
  retired_maps = λ id r. ap (λ (ms : map.FinMap _ _). is_retired_map (map.get ms id)) m ∙ r;
  retired_progs = λ id r. ap (λ (ps : map.FinMap _ _). is_retired_prog (map.get ps id)) p ∙ r;
}

pinned_so : (s : State) (target : Target) (path : List ℕ) (done : State × Reply) → pinned s target path ≡ Ok done → Lasts s done.0
pinned_so s target path done e =
    comes_to s (with_pin s path target) Done done (same_objects s (with_pin s path target) refl refl)
    (passed (map.contains_key s.pins path) EEXIST _ done (passed (not (is_path path)) EINVAL _ done (passed (not (is_live_in s target)) ENOENT _ done e).1).1).1

unpinned_so : (s : State) (path : List ℕ) (done : State × Reply) → (there : Bool) → unpin_by s path there ≡ Ok done → Lasts s done.0
unpinned_so s path done there e = comes_to s (without_pin s path) Done done (same_objects s (without_pin s path) refl refl) (met there ENOENT _ done e)

put_on : (s : State) (prog position : ℕ) (done : State × Reply) → (busy : Bool) → put_prog_by s position prog busy ≡ Ok done → Lasts s done.0
put_on s prog position done busy e = comes_to s (with_attached s position (Some prog)) Done done (same_objects s (with_attached s position (Some prog)) refl refl) (passed busy EBUSY _ done e).1

attached_so : (s : State) (prog : ℕ) (overwrite live : Bool) (done : State × Reply) → (position : Option ℕ) → attach_by s prog overwrite live position ≡ Ok done → Lasts s done.0
attached_so s prog overwrite false done position e = cc
attached_so s prog overwrite true done None e = cc
attached_so s prog overwrite true done (Some position) e = put_on s prog position done (is_some (prog_at s.devices position) && not overwrite) e

taken_off : (s : State) (position : ℕ) (done : State × Reply) → (there : Bool) → take_prog_by s position there ≡ Ok done → Lasts s done.0
taken_off s position done there e = comes_to s (with_attached s position None) Done done (same_objects s (with_attached s position None) refl refl) (met there ENOENT _ done e)

detached_so : (s : State) (done : State × Reply) → (position : Option ℕ) → detached_from s position ≡ Ok done → Lasts s done.0
detached_so s done None e = cc
detached_so s done (Some position) e = taken_off s position done (is_some (prog_at s.devices position)) e

-- ---- a change
acted : (s : State) (change : Change) (done : State × Reply) → act s change ≡ Ok done → Lasts s done.0
unfolding act
acted s (Create id attr charge name path template) done e =
    let absent : (map.contains_key s.maps id ≡ false) × (_ ≡ Ok done) = passed (map.contains_key s.maps id) EEXIST _ done e in
    created s id attr charge name path done absent.0 (template_of s attr.kind template) (passed (not (good attr && is_name name)) EINVAL _ done absent.1).1
acted s (Operate origin id op) done e = operated s origin id op done (live_map s id) refl e
acted s (Freeze id) done e = frozen s id done (live_map s id) refl e
acted s (Link id key named flag) done e = linked s id key named flag done (live_map s id) refl e
acted s (Load id code name path) done e = put_in s id (new_prog code name) path done e
acted s (Pin target path) done e = pinned_so s target path done e
acted s (Unpin path) done e = unpinned_so s path done (map.contains_key s.pins path) e
acted s (Attach prog device overwrite) done e = attached_so s prog overwrite (is_live_in s (Prog prog)) done (position_of s.devices device) e
acted s (Detach device) done e = detached_so s done (position_of s.devices device) e

pub act_lasts : (s t : State) (change : Change) (reply : Reply) → act s change ≡ Ok (t, reply) → Lasts s t
act_lasts s t change reply e = acted s change (t, reply) e
