-- What a book needs of a change that is done: the id that it tells, and which ids are in the state after it.
use Rattle.std.proofs.Common.{◌≡◌, ◌⊎◌, inl, inr, ℕ, Bool, true, false, cond, not, ◌&&◌, List, refl, sym, ap, subst, ◌∙◌}
use Rattle.std.specs.Prelude.{if◌then◌else◌, Option, Some, None, is_some, option_map, Result, Ok, Err}
use Rattle.std.specs.FinMap as map
use Rattle.host_words.specs.Spelling.{is_name, is_path}
use Rattle.bt_mapkind.specs.declared.attr.MapAttr.{MapAttr}
use Rattle.bt_mapkind.specs.declared.errno.Errno.{Errno}
use Rattle.bt_mapkind.specs.declared.errno.Errno.TheVariants.{ENOENT, EINVAL, EPERM, EEXIST, EBUSY}
use Rattle.bt_mapkind.specs.declared.request.MapOp.{MapOp}
use Rattle.bt_mapkind.specs.declared.request.MapOp.TheVariants.{Update as UpdateOp, Delete as DeleteOp, Push as PushOp, Pop as PopOp, Store as StoreOp, Atomic as AtomicOp, SetLink as SetLinkOp}
use Rattle.bt_mapkind.specs.declared.request.MapReply.{MapReply}
use Rattle.bt_mapkind.specs.declared.request.MapReply.TheVariants.{Done as MapDone, Nothing as MapNothing, Found as MapFound, Value as MapValue, Key as MapKey, Link as MapLink, Count as MapCount}
use Rattle.bt_mapkind.specs.Attributes.{good}
use Rattle.bt_mapkind.specs.Step.{Step, map_step, is_flag}
use Rattle.host_state.specs.declared.change.Change.{Change}
use Rattle.host_state.specs.declared.change.Change.TheVariants.{Create, Operate, Freeze, Link, Load, Pin, Unpin, Attach, Detach}
use Rattle.host_state.specs.declared.change.Origin.{Origin}
use Rattle.host_state.specs.declared.reply.Reply.{Reply}
use Rattle.host_state.specs.declared.reply.Reply.TheVariants.{Done, Id}
use Rattle.bt_verify.specs.Verified.{Checked}
use Rattle.bt_objects.specs.declared.make.Make.{Make}
use Rattle.bt_roots.specs.View.{Pins, position_of}
use Rattle.bt_roots.specs.Exchange.{prog_at, attach_at}
use Rattle.bt_roots.specs.declared.device.Device.{Device}
use Rattle.bt_roots.specs.declared.target.Target.{Target}
use Rattle.bt_roots.specs.declared.target.Target.TheVariants.{Map, Prog}
use Rattle.host_state.specs.World.{makes_in}
use Rattle.host_state.specs.State.{HostMap, State}
use Rattle.host_state.specs.Settled.{settle, is_live_in, named_in}
use Rattle.bt_mapkind.specs.Inner.{holds_ids, form_fault}
use Rattle.host_state.specs.Act.{Outcome, act, if_live, live_map, is_console, bars, flag_of, bytes_told, reply_of, operated_to, unless, created_with, new_prog as made_of, with_attached}
use Rattle.host_state.proofs.Tests.{new_map, without_pin, with_prog, operated_at, named_fault, linked_at, pinned, frozen_at, template_of, has_maps, loaded, attached_to, detached_from}
use Rattle.journal_model.specs.Told.{id_told, prog_told as told_prog}
use Rattle.journal_model.proofs.Mapped.{has-mapped, had-insert}
use Rattle.journal_model.proofs.Made.{make_of, get-makes_in, made-settled, made-insert}

-- the id of the map that a change makes
abbrev pub new_id : Change → Option ℕ
new_id (Create id attr charge name path template) = Some id
new_id _ = None

-- the id of the program that a change loads
abbrev pub new_prog : Change → Option ℕ
new_prog (Load id code name path) = Some id
new_prog _ = None

-- the box of the map that a change makes
abbrev pub new_box : Change → Option (ℕ × Make)
new_box (Create id attr charge name path template) = Some (id, record { attr = attr; charge = charge })
new_box _ = None

-- the new id is told, no other id comes, and no other box
pub record IsDone (s : State) (change : Change) (done : State × Reply) : Type 0 where
  pub told : id_told done.1 ≡ new_id change
  pub prog_told : told_prog done.1 ≡ new_prog change
  pub maps : (id : ℕ) → map.contains_key done.0.maps id ≡ true → (map.contains_key s.maps id ≡ true) ⊎ (new_id change ≡ Some id)
  pub progs : (id : ℕ) → map.contains_key done.0.progs id ≡ true → (map.contains_key s.progs id ≡ true) ⊎ (new_prog change ≡ Some id)
  pub boxes : (id : ℕ) (make : Make) → map.get (makes_in done.0) id ≡ Some make → (map.get (makes_in s) id ≡ Some make) ⊎ (new_box change ≡ Some (id, make))

settled_maps : (s : State) (id : ℕ) → map.contains_key (settle s).maps id ≡ true → map.contains_key s.maps id ≡ true
unfolding settle
settled_maps s id h = sym (has-mapped _ s.maps id) ∙ h

settled_progs : (s : State) (id : ℕ) → map.contains_key (settle s).progs id ≡ true → map.contains_key s.progs id ≡ true
unfolding settle
settled_progs s id h = sym (has-mapped _ s.progs id) ∙ h

-- a test that may refuse has not
not_err : (test : Bool) (errno : Errno) (o : Outcome) (done : State × Reply) → cond test (Err errno) o ≡ Ok done → o ≡ Ok done
not_err true errno o done e = cc
not_err false errno o done e = e

same_ok : (a b : State × Reply) → ◌≡◌ {A = Outcome} (Ok a) (Ok b) → a ≡ b
same_ok a b e = cc

-- ---- an operation and a freeze
live_is : (s : State) (id : ℕ) (m : HostMap) → live_map s id ≡ Some m → map.get s.maps id ≡ Some m
live_is s id m e = there (map.get s.maps id) e
  where
    if_so : (n : HostMap) (live : Bool) → cond live (Some n) None ≡ Some m → Some n ≡ Some m
    if_so n true f = f
    if_so n false f = cc

    there : (o : Option HostMap) → if_live o ≡ Some m → o ≡ Some m
    there None f = cc
    there (Some n) f = if_so n n.live f

-- no new id is told, and none comes; the boxes are those that were there
record IsKept (s : State) (done : State × Reply) : Type 0 where
  told : id_told done.1 ≡ None
  prog_told : told_prog done.1 ≡ None
  maps : (id : ℕ) → map.contains_key done.0.maps id ≡ true → map.contains_key s.maps id ≡ true
  progs : (id : ℕ) → map.contains_key done.0.progs id ≡ true → map.contains_key s.progs id ≡ true
  boxes : (id : ℕ) (make : Make) → map.get (makes_in done.0) id ≡ Some make → map.get (makes_in s) id ≡ Some make

-- a map that takes the place of one of its make
abbrev replaced : State → ℕ → HostMap → State
replaced s id n = record s { maps = map.insert s.maps id n }

replaced_maps : (s : State) (id : ℕ) (n : HostMap) → map.contains_key s.maps id ≡ true → (q : ℕ) → map.contains_key (replaced s id n).maps q ≡ true → map.contains_key s.maps q ≡ true
replaced_maps s id n there q h = elim (had-insert s.maps id n q h) [ inl was ↦ was | inr same ↦ ap (map.contains_key s.maps) same ∙ there ]

replaced_boxes : (s : State) (id : ℕ) (m n : HostMap) → map.get s.maps id ≡ Some m → make_of n ≡ make_of m → (q : ℕ) (make : Make) → map.get (makes_in (replaced s id n)) q ≡ Some make → map.get (makes_in s) q ≡ Some make
replaced_boxes s id m n there alike q make e =
    elim (made-insert s id n q make (sym (get-makes_in (replaced s id n) q) ∙ e)) [
      | inl was ↦ was
      | inr same ↦ ap (map.get (makes_in s)) same.0 ∙ get-makes_in s id ∙ ap (option_map make_of) there ∙ ap Some (sym alike ∙ sym same.1)
    ]

replaced_kept : (s : State) (id : ℕ) (m n : HostMap) (reply : Reply) → map.get s.maps id ≡ Some m → make_of n ≡ make_of m → id_told reply ≡ None → told_prog reply ≡ None → IsKept s (settle (replaced s id n), reply)
replaced_kept s id m n reply there alike told none =
    let after : State = replaced s id n in record {
      told = told;
      prog_told = none;
      maps = λ q h. replaced_maps s id n (ap is_some there) q (settled_maps after q h);
      progs = λ q h. settled_progs after q h;
      boxes = λ q make h. replaced_boxes s id m n there alike q make (sym (made-settled after q) ∙ h);
    }

-- an operation tells no new id
bytes_no_id : (op : MapOp) (bytes : List ℕ) → (id_told (bytes_told op bytes) ≡ None) × (told_prog (bytes_told op bytes) ≡ None)
bytes_no_id (UpdateOp key value flag) bytes = (refl, refl)
bytes_no_id (DeleteOp key) bytes = (refl, refl)
bytes_no_id (PushOp value flag) bytes = (refl, refl)
bytes_no_id PopOp bytes = (refl, refl)
bytes_no_id (StoreOp key offset stored) bytes = (refl, refl)
bytes_no_id (AtomicOp key offset size op operand) bytes = (refl, refl)
bytes_no_id (SetLinkOp key id flag) bytes = (refl, refl)

no_id : (op : MapOp) (reply : MapReply) → (id_told (reply_of op reply) ≡ None) × (told_prog (reply_of op reply) ≡ None)
no_id op MapDone = (refl, refl)
no_id op MapNothing = (refl, refl)
no_id op (MapFound key value) = (refl, refl)
no_id op (MapValue bytes) = bytes_no_id op bytes
no_id op (MapKey key) = (refl, refl)
no_id op (MapLink id) = (refl, refl)
no_id op (MapCount n) = (refl, refl)

operated_kept : (s : State) (origin : Origin) (id : ℕ) (op : MapOp) (done : State × Reply) → operated_at s id (live_map s id) origin op ≡ Ok done → IsKept s done
operated_kept s origin id op done e = at (live_map s id) refl e
  where
    stepped : (m : HostMap) → map.get s.maps id ≡ Some m → (step : Step) → operated_to s id m op step ≡ Ok done → IsKept s done
    stepped m there (Err errno) e = cc
    stepped m there (Ok step) e = subst (IsKept s) (same_ok _ done e) (replaced_kept s id m (record m { contents = step.contents }) (reply_of op step.reply) there refl (no_id op step.reply).0 (no_id op step.reply).1)

    at : (o : Option HostMap) → live_map s id ≡ o → operated_at s id o origin op ≡ Ok done → IsKept s done
    at None l e = cc
    at (Some m) l e =
        stepped m (live_is s id m l) (map_step m.attr m.contents op)
        (not_err (bars origin (holds_ids m.attr.kind) op) EINVAL _ done
        (not_err (is_console origin && m.frozen) EPERM _ done (not_err (not (is_flag (flag_of op))) EINVAL _ done e)))

frozen_kept : (s : State) (id : ℕ) (done : State × Reply) → frozen_at s id (live_map s id) ≡ Ok done → IsKept s done
frozen_kept s id done e = at (live_map s id) refl e
  where
    at : (o : Option HostMap) → live_map s id ≡ o → frozen_at s id o ≡ Ok done → IsKept s done
    at None l e = cc
    at (Some m) l e = subst (IsKept s) (same_ok _ done (not_err m.frozen EBUSY _ done e)) (replaced_kept s id m (record m { frozen = true }) Done (live_is s id m l) refl refl refl)

-- what stands against an outcome does not
unless_not : (fault : Option Errno) (o : Outcome) (done : State × Reply) → unless fault o ≡ Ok done → o ≡ Ok done
unless_not None o done e = e
unless_not (Some errno) o done e = cc

linked_kept : (s : State) (id : ℕ) (key : List ℕ) (named flag : ℕ) (done : State × Reply) → linked_at s id (live_map s id) key named flag ≡ Ok done → IsKept s done
linked_kept s id key named flag done e = at (live_map s id) refl e
  where
    stepped : (m : HostMap) → map.get s.maps id ≡ Some m → (step : Step) → operated_to s id m (SetLinkOp key named flag) step ≡ Ok done → IsKept s done
    stepped m there (Err errno) e = cc
    stepped m there (Ok step) e = subst (IsKept s) (same_ok _ done e) (replaced_kept s id m (record m { contents = step.contents }) (reply_of (SetLinkOp key named flag) step.reply) there refl (no_id (SetLinkOp key named flag) step.reply).0 (no_id (SetLinkOp key named flag) step.reply).1)

    at : (o : Option HostMap) → live_map s id ≡ o → linked_at s id o key named flag ≡ Ok done → IsKept s done
    at None l e = cc
    at (Some m) l e =
        stepped m (live_is s id m l) (map_step m.attr m.contents (SetLinkOp key named flag))
        (unless_not (named_fault s m.template (named_in m.attr.kind named)) _ done
        (unless_not (form_fault m.attr key flag) _ done
        (not_err m.frozen EPERM _ done (not_err (not (is_flag flag)) EINVAL _ done e))))

-- other pins
pins_kept : (s : State) (pins : Pins) → IsKept s (settle (record s { pins = pins }), Done)
pins_kept s pins =
    let after : State = record s { pins = pins } in record {
      told = refl;
      prog_told = refl;
      maps = λ q h. settled_maps after q h;
      progs = λ q h. settled_progs after q h;
      boxes = λ q make h. sym (made-settled after q) ∙ h;
    }

pinned_kept : (s : State) (target : Target) (path : List ℕ) (done : State × Reply) → pinned s target path ≡ Ok done → IsKept s done
pinned_kept s target path done e =
    subst (IsKept s)
    (same_ok _ done (not_err (map.contains_key s.pins path) EEXIST _ done (not_err (not (is_path path)) EINVAL _ done (not_err (not (is_live_in s target)) ENOENT _ done e))))
    (pins_kept s (map.insert s.pins path target))

abbrev unpinned_by : State → List ℕ → Bool → Outcome
unpinned_by s path there = if there then Ok (settle (without_pin s path), Done) else Err ENOENT

unpinned_kept : (s : State) (path : List ℕ) (there : Bool) (done : State × Reply) → unpinned_by s path there ≡ Ok done → IsKept s done
unpinned_kept s path true done e = subst (IsKept s) (same_ok _ done e) (pins_kept s (map.remove s.pins path))
unpinned_kept s path false done e = cc

-- other devices
devices_kept : (s : State) (devices : List Device) → IsKept s (settle (record s { devices = devices }), Done)
devices_kept s devices =
    let after : State = record s { devices = devices } in record {
      told = refl;
      prog_told = refl;
      maps = λ q h. settled_maps after q h;
      progs = λ q h. settled_progs after q h;
      boxes = λ q make h. sym (made-settled after q) ∙ h;
    }

abbrev attach_by : State → ℕ → Bool → Bool → Option ℕ → Outcome
attach_by s prog overwrite live position = if not live then Err ENOENT else attached_to s prog overwrite position

abbrev take_prog_by : State → ℕ → Bool → Outcome
take_prog_by s position there = if there then Ok (settle (with_attached s position None), Done) else Err ENOENT

attached_kept : (s : State) (prog : ℕ) (overwrite live : Bool) (position : Option ℕ) (done : State × Reply) → attach_by s prog overwrite live position ≡ Ok done → IsKept s done
attached_kept s prog overwrite false position done e = cc
attached_kept s prog overwrite true None done e = cc
attached_kept s prog overwrite true (Some position) done e =
    subst (IsKept s) (same_ok _ done (not_err (is_some (prog_at s.devices position) && not overwrite) EBUSY _ done e)) (devices_kept s (attach_at s.devices position (Some prog)))

detached_kept : (s : State) (position : Option ℕ) (done : State × Reply) → detached_from s position ≡ Ok done → IsKept s done
detached_kept s None done e = cc
detached_kept s (Some position) done e = by_test (is_some (prog_at s.devices position)) e
  where
    by_test : (there : Bool) → take_prog_by s position there ≡ Ok done → IsKept s done
    by_test true e = subst (IsKept s) (same_ok _ done e) (devices_kept s (attach_at s.devices position None))
    by_test false e = cc

kept_done : (s : State) (change : Change) (done : State × Reply) → new_id change ≡ None → new_prog change ≡ None → IsKept s done → IsDone s change done
kept_done s change done none no_prog k = record {
  told = k.told ∙ sym none;
  prog_told = k.prog_told ∙ sym no_prog;
  maps = λ q h. inl (k.maps q h);
  progs = λ q h. inl (k.progs q h);
  boxes = λ q make h. inl (k.boxes q make h);
}

-- ---- a new map
-- the state with one more map and one more pin
abbrev with_map : State → ℕ → HostMap → Pins → State
with_map s id m pins = record s { maps = map.insert s.maps id m; pins = pins }

made_done : (s : State) (id : ℕ) (attr : MapAttr) (charge : ℕ) (name path : List ℕ) (template : Option ℕ) (m : HostMap) (pins : Pins) → make_of m ≡ record { attr = attr; charge = charge } →
    IsDone s (Create id attr charge name path template) (settle (with_map s id m pins), Id id)
made_done s id attr charge name path template m pins made = record {
  told = refl;
  prog_told = refl;
  maps = λ q h. elim (had-insert s.maps id m q (settled_maps (with_map s id m pins) q h)) [ inl was ↦ inl was | inr same ↦ inr (ap Some (sym same)) ];
  progs = λ q h. inl (settled_progs (with_map s id m pins) q h);
  boxes = λ q make h. elim (made-insert s id m q make (sym (get-makes_in (with_map s id m pins) q) ∙ sym (made-settled (with_map s id m pins) q) ∙ h)) [ inl was ↦ inl was | inr same ↦ inr (new_one q make same) ];
}
  where
    new_one : (q : ℕ) (make : Make) → (q ≡ id) × (make ≡ make_of m) → ◌≡◌ {A = Option (ℕ × Make)} (Some (id, record { attr = attr; charge = charge })) (Some (q, make))
    new_one q make same = let made_is : make_of m ≡ record { attr = attr; charge = charge } = made in let is : make ≡ record { attr = attr; charge = charge } = same.1 ∙ made in cc

created_done : (s : State) (id : ℕ) (attr : MapAttr) (charge : ℕ) (name path : List ℕ) (template : Option ℕ) (done : State × Reply) → (r : Result (Option MapAttr) Errno) → created_with s id attr charge name path r ≡ Ok done → IsDone s (Create id attr charge name path template) done
created_done s id attr charge name path template done (Err errno) e = cc
created_done s id attr charge name path template done (Ok of) e =
    subst (IsDone s (Create id attr charge name path template)) (same_ok _ done (not_err (map.contains_key s.pins path) EEXIST _ done (not_err (not (is_path path)) EINVAL _ done e)))
    (made_done s id attr charge name path template (new_map attr charge name of) (map.insert s.pins path (Map id)) refl)

-- ---- a new program
loaded_done : (s : State) (id : ℕ) (code : Checked) (name path : List ℕ) (done : State × Reply) → loaded s id (made_of code name) path ≡ Ok done → IsDone s (Load id code name path) done
loaded_done s id code name path done e =
    let after : State = with_prog s id (made_of code name) path in
    subst (IsDone s (Load id code name path))
    (same_ok _ done (not_err (map.contains_key s.pins path) EEXIST _ done (not_err (not (is_path path)) EINVAL _ done
    (not_err (not (has_maps s code)) ENOENT _ done (not_err (map.contains_key s.progs id) EEXIST _ done e)))))
    (record {
      told = refl;
      prog_told = refl;
      maps = λ q h. inl (settled_maps after q h);
      progs = λ q h. elim (had-insert s.progs id (made_of code name) q (settled_progs after q h)) [ inl was ↦ inl was | inr same ↦ inr (ap Some (sym same)) ];
      boxes = λ q make h. inl (sym (made-settled after q) ∙ h);
    })

-- ---- a change
pub acted : (s : State) (change : Change) (done : State × Reply) → act s change ≡ Ok done → IsDone s change done
unfolding act
acted s (Create id attr charge name path template) done e =
    created_done s id attr charge name path template done (template_of s attr.kind template)
    (not_err (not (good attr && is_name name)) EINVAL _ done (not_err (map.contains_key s.maps id) EEXIST _ done e))
acted s (Operate origin id op) done e = kept_done s (Operate origin id op) done refl refl (operated_kept s origin id op done e)
acted s (Freeze id) done e = kept_done s (Freeze id) done refl refl (frozen_kept s id done e)
acted s (Link id key named flag) done e = kept_done s (Link id key named flag) done refl refl (linked_kept s id key named flag done e)
acted s (Load id code name path) done e = loaded_done s id code name path done e
acted s (Pin target path) done e = kept_done s (Pin target path) done refl refl (pinned_kept s target path done e)
acted s (Unpin path) done e = kept_done s (Unpin path) done refl refl (unpinned_kept s path (map.contains_key s.pins path) done e)
acted s (Attach prog device overwrite) done e = kept_done s (Attach prog device overwrite) done refl refl (attached_kept s prog overwrite (is_live_in s (Prog prog)) (position_of s.devices device) done e)
acted s (Detach device) done e = kept_done s (Detach device) done refl refl (detached_kept s (position_of s.devices device) done e)
