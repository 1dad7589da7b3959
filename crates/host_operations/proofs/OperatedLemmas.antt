-- An operation on a world is what `act` says.
use Rattle.std.proofs.Common.{◌≡◌, ℕ, Bool, true, false, ◌&&◌, not, Option, Some, None, Result, Ok, Err, is_some, refl, sym, ap, ◌∙◌}
use Rattle.std.specs.Prelude.{if◌then◌else◌}
use Rattle.std.specs.FinMap as map
use Rattle.bt_mapkind.specs.declared.errno.Errno.{Errno as Error}
use Rattle.bt_mapkind.specs.declared.errno.Errno.TheVariants.{EINVAL, EPERM}
use Rattle.bt_mapkind.specs.declared.request.MapOp.{MapOp}
use Rattle.bt_mapkind.specs.Seen.{Seen}
use Rattle.bt_mapkind.specs.Step.{map_step, is_flag}
use Rattle.bt_objects.specs.Boxes.{ById, make_of}
use Rattle.bt_roots.specs.View.{RootsView}
use Rattle.host_state.specs.declared.change.Origin.{Origin}
use Rattle.host_state.specs.declared.change.Change.TheVariants.{Operate}
use Rattle.host_state.specs.declared.entry.MapEntry.{MapEntry}
use Rattle.host_state.specs.declared.reply.Reply.{Reply}
use Rattle.host_state.specs.declared.reply.Refusal.{Refusal}
use Rattle.host_state.specs.declared.reply.Refusal.TheVariants.{Errno, NoMemory, WrongBlank, JournalFull, BudgetFull, SerialsSpent, IdsSpent}
use Rattle.host_undoing.specs.declared.undoing.Undoing.{Undoing}
use Rattle.bt_mapkind.specs.Inner.{holds_ids}
use Rattle.host_state.specs.State.{HostMap, State, hosted, entry_of}
use Rattle.host_state.specs.Act.{Outcome, act, if_live, live_map, is_console, bars, flag_of, operated_to}
use Rattle.host_state.proofs.Tests.{operated_at}
use Rattle.host_state.specs.Hosts.{Entries, entry_at, held, host_of, hosts_of, state_of, view_of, frozen_of}
use Rattle.host_operations.specs.Operated.{operation_fault, OperatesOn}
use Rattle.host_retirement.proofs.EntryLemmas.{holds_ids_by}
use Rattle.host_retirement.specs.Gathered.{holds_ids_in}
use Rattle.host_undoing.specs.Answers.{Answers, IsReason, IsUnchanged}
use Rattle.host_undoing.proofs.Parts.{IsApplied}
use Rattle.host_state.proofs.ByIdLemmas.{same_some}
use Rattle.host_state.proofs.HostLemmas.{get-hosts_of, held_some}

-- ---- what an operation answers
pub operation_acts : (s : State) (id : ℕ) (m : HostMap) (origin : Origin) (op : MapOp) → live_map s id ≡ Some m → is_flag (flag_of op) ≡ true
    → is_console origin && m.frozen ≡ false → bars origin (holds_ids m.attr.kind) op ≡ false
    → operated_at s id (live_map s id) origin op ≡ operated_to s id m op (map_step m.attr m.contents op)
operation_acts s id m origin op live flagged unbarred unheld =
    let rest = operated_to s id m op (map_step m.attr m.contents op) in
    ap (λ o. operated_at s id o origin op) live
    ∙ ap (λ b. if not b then Err EINVAL else if is_console origin && m.frozen then Err EPERM else if bars origin (holds_ids m.attr.kind) op then Err EINVAL else rest) flagged
    ∙ ap (λ b. if b then Err EPERM else if bars origin (holds_ids m.attr.kind) op then Err EINVAL else rest) unbarred
    ∙ ap (λ b. if b then Err EINVAL else rest) unheld

-- who asks may not have it
held_acts : (s : State) (id : ℕ) (m : HostMap) (origin : Origin) (op : MapOp) → live_map s id ≡ Some m → is_flag (flag_of op) ≡ true → is_console origin && m.frozen ≡ false
    → bars origin (holds_ids m.attr.kind) op ≡ true → operated_at s id (live_map s id) origin op ≡ Err EINVAL
held_acts s id m origin op live flagged unbarred held =
    let rest = operated_to s id m op (map_step m.attr m.contents op) in
    ap (λ o. operated_at s id o origin op) live
    ∙ ap (λ b. if not b then Err EINVAL else if is_console origin && m.frozen then Err EPERM else if bars origin (holds_ids m.attr.kind) op then Err EINVAL else rest) flagged
    ∙ ap (λ b. if b then Err EPERM else if bars origin (holds_ids m.attr.kind) op then Err EINVAL else rest) unbarred
    ∙ ap (λ b. if b then Err EINVAL else rest) held

-- ---- why an operation is refused whatever the map holds
-- what is known if nothing stands against an operation
pub record MayOperate (o : Option MapEntry) (origin : Origin) (flag : ℕ) : Type 0 where
  pub entry : MapEntry
  pub is : o ≡ Some entry
  pub live : entry.live ≡ true
  pub flagged : is_flag flag ≡ true
  pub unbarred : is_console origin && entry.frozen ≡ false

not_false : (b : Bool) → not b ≡ false → b ≡ true
not_false true e = refl
not_false false e = cc

pub may_operate : (o : Option MapEntry) (origin : Origin) (flag : ℕ) → operation_fault (frozen_of o) origin flag ≡ None → MayOperate o origin flag
may_operate None origin flag e = cc
may_operate (Some entry) origin flag e = by_live entry.live refl e
  where
    by_test : entry.live ≡ true → (closed barred : Bool) → not (is_flag flag) ≡ closed → is_console origin && entry.frozen ≡ barred
        → (if closed then Some EINVAL else if barred then Some EPERM else None) ≡ None → MayOperate (Some entry) origin flag
    by_test live true barred c b e = cc
    by_test live false true c b e = cc
    by_test live false false c b e = record { entry = entry; is = refl; live = live; flagged = not_false (is_flag flag) c; unbarred = b }

    by_live : (live : Bool) → entry.live ≡ live → operation_fault (if live then Some entry.frozen else None) origin flag ≡ None → MayOperate (Some entry) origin flag
    by_live true is e = by_test is (not (is_flag flag)) (is_console origin && entry.frozen) refl refl e
    by_live false is e = cc

-- the map of an entry
pub host_there : (boxes : ById Seen) (entries : Entries) (id : ℕ) (s : Seen) (entry : MapEntry) → map.get boxes id ≡ Some s → held (entry_at entries id) ≡ Some entry
    → map.get (hosts_of boxes entries) id ≡ Some (hosted (make_of s) s.contents entry)
host_there boxes entries id s entry box is = get-hosts_of boxes entries id ∙ (λ i. host_of (box i) (is i))

pub live_there : (s : State) (id : ℕ) (m : HostMap) → map.get s.maps id ≡ Some m → m.live ≡ true → live_map s id ≡ Some m
live_there s id m there live = ap if_live there ∙ ap (λ b. if b then Some m else None) live

-- the fault that is told is the one that `act` answers
pub fault_acts : (boxes : ById Seen) (entries : Entries) (roots : RootsView) (id : ℕ) (origin : Origin) (op : MapOp) (errno : Error)
    → is_some (entry_at entries id) ≡ is_some (map.get boxes id) → operation_fault (frozen_of (held (entry_at entries id))) origin (flag_of op) ≡ Some errno
    → operated_at (state_of boxes entries roots) id (live_map (state_of boxes entries roots) id) origin op ≡ Err errno
fault_acts boxes entries roots id origin op errno same fault =
    let s = state_of boxes entries roots in
    ap (λ o. operated_at s id (if_live o) origin op) (get-hosts_of boxes entries id)
    ∙ by_entry s (entry_at entries id) (map.get boxes id) same fault
  where
    by_test : (closed barred : Bool) (rest : Outcome) → (if closed then Some EINVAL else if barred then Some EPERM else None) ≡ Some errno
        → (if closed then Err EINVAL else if barred then Err EPERM else rest) ≡ Err errno
    by_test true barred rest e = ap Err (same_some e)
    by_test false true rest e = ap Err (same_some e)
    by_test false false rest e = cc

    by_live : (s : State) (m : HostMap) (live frozen : Bool) → m.live ≡ live → m.frozen ≡ frozen → operation_fault (if live then Some frozen else None) origin (flag_of op) ≡ Some errno
        → operated_at s id (if live then Some m else None) origin op ≡ Err errno
    by_live s m true frozen is f e =
        by_test (not (is_flag (flag_of op))) (is_console origin && m.frozen)
        (if bars origin (holds_ids m.attr.kind) op then Err EINVAL else operated_to s id m op (map_step m.attr m.contents op))
        (ap (λ b. if not (is_flag (flag_of op)) then Some EINVAL else if is_console origin && b then Some EPERM else None) f ∙ e)
    by_live s m false frozen is f e = ap Err (same_some e)

    by_entry : (s : State) (o : Option (Option MapEntry)) (box : Option Seen) → is_some o ≡ is_some box → operation_fault (frozen_of (held o)) origin (flag_of op) ≡ Some errno
        → operated_at s id (if_live (host_of box (held o))) origin op ≡ Err errno
    by_entry s None None same e = ap Err (same_some e)
    by_entry s None (Some b) same e = cc
    by_entry s (Some entry) None same e = cc
    by_entry s (Some None) (Some b) same e = ap Err (same_some e)
    by_entry s (Some (Some entry)) (Some b) same e = by_live s (hosted (make_of b) b.contents entry) entry.live entry.frozen refl refl e

-- ---- the entry of a map that is there
pub entry_of_host : (boxes : ById Seen) (entries : Entries) (id : ℕ) (host : HostMap) (entry : MapEntry) → map.get (hosts_of boxes entries) id ≡ Some host → held (entry_at entries id) ≡ Some entry
    → entry_of host ≡ entry
entry_of_host boxes entries id host entry there is = at (map.get boxes id) (sym (get-hosts_of boxes entries id ∙ ap (host_of (map.get boxes id)) is) ∙ there)
  where
    at : (b : Option Seen) → host_of b (Some entry) ≡ Some host → entry_of host ≡ entry
    at None e = cc
    at (Some b) e = sym (ap entry_of (same_some e))

-- its type is that of its box
host_holds : (boxes : ById Seen) (entries : Entries) (id : ℕ) (host : HostMap) (entry : MapEntry) → map.get (hosts_of boxes entries) id ≡ Some host → held (entry_at entries id) ≡ Some entry
    → holds_ids host.attr.kind ≡ holds_ids_in boxes id
host_holds boxes entries id host entry there is = at (map.get boxes id) (sym (get-hosts_of boxes entries id ∙ ap (host_of (map.get boxes id)) is) ∙ there)
  where
    at : (b : Option Seen) → host_of b (Some entry) ≡ Some host → holds_ids host.attr.kind ≡ holds_ids_by b
    at None e = cc
    at (Some b) e = sym (ap (λ (m : HostMap). holds_ids m.attr.kind) (same_some e))

-- ---- an operation that is done
module _ (boxes new : ById Seen) (old entries : Entries) (roots : RootsView) (work left : ℕ) (id : ℕ) (origin : Origin) (op : MapOp) (may : MayOperate (held (entry_at old id)) origin (flag_of op))
    (unheld : bars origin (holds_ids_in boxes id) op ≡ false) where
  was : State
  was = state_of boxes old roots

  -- a map on which it is done is the one whose entry was tested
  frozen_is : (host : HostMap) → map.get was.maps id ≡ Some host → is_console origin && host.frozen ≡ false
  unfolding was
  frozen_is host there = ap (λ (e : MapEntry). is_console origin && e.frozen) (entry_of_host boxes old id host may.entry there may.is) ∙ may.unbarred

  live_is : (host : HostMap) → map.get was.maps id ≡ Some host → live_map was id ≡ Some host
  unfolding was
  live_is host there = live_there (state_of boxes old roots) id host there (ap (λ (e : MapEntry). e.live) (entry_of_host boxes old id host may.entry there may.is) ∙ may.live)

  kind_is : (host : HostMap) → map.get was.maps id ≡ Some host → bars origin (holds_ids host.attr.kind) op ≡ false
  unfolding was
  kind_is host there = ap (λ b. bars origin b op) (host_holds boxes old id host may.entry there may.is) ∙ unheld

  pub operation_done : (reply : Reply) (undoing : Undoing) → OperatesOn (view_of boxes old roots work) id op (Ok (reply, undoing)) (view_of new entries roots left)
      → IsApplied (view_of boxes old roots work) (Operate origin id op) reply undoing (view_of new entries roots left)
  unfolding was act
  operation_done reply undoing (host, there, done) = record {
    acts = operation_acts (state_of boxes old roots) id host origin op (live_is host there) may.flagged (frozen_is host there) (kind_is host there) ∙ done.acts;
    joins = done.joins;
    own = done.own;
    retires = done.retires;
    boxes = done.boxes;
  }

  pub operation_refused : (refusal : Refusal) → OperatesOn (view_of boxes old roots work) id op (Err refusal) (view_of new entries roots left)
      → IsReason (view_of boxes old roots work) (Operate origin id op) refusal × IsUnchanged (view_of boxes old roots work) (view_of new entries roots left)
  unfolding was act
  operation_refused (Errno errno) (host, there, told, same) = (
    (
      tt,
      operation_acts (state_of boxes old roots) id host origin op (live_is host there) may.flagged (frozen_is host there) (kind_is host there)
          ∙ ap (operated_to (state_of boxes old roots) id host op) told,
    ),
    same,
  )
  operation_refused NoMemory same = (tt, same)
  operation_refused WrongBlank h = absurd h
  operation_refused JournalFull h = absurd h
  operation_refused BudgetFull h = absurd h
  operation_refused SerialsSpent h = absurd h
  operation_refused IdsSpent h = absurd h

  pub operation_told : (result : Result (Reply × Undoing) Refusal) → OperatesOn (view_of boxes old roots work) id op result (view_of new entries roots left)
      → Answers (view_of boxes old roots work) (Operate origin id op) result (view_of new entries roots left)
  operation_told (Ok done) d = operation_done done.0 done.1 d
  operation_told (Err refusal) r = operation_refused refusal r

-- the box of a map on which an operation may be done is there
pub box_there : (boxes : ById Seen) (entries : Entries) (id : ℕ) (entry : MapEntry) → is_some (entry_at entries id) ≡ is_some (map.get boxes id) → held (entry_at entries id) ≡ Some entry
    → is_some (map.get boxes id) ≡ true
box_there boxes entries id entry same is = sym same ∙ ap is_some (held_some (entry_at entries id) entry is)

-- what is barred is refused
pub operation_barred : (boxes : ById Seen) (entries : Entries) (roots : RootsView) (id : ℕ) (origin : Origin) (op : MapOp) → MayOperate (held (entry_at entries id)) origin (flag_of op)
    → is_some (entry_at entries id) ≡ is_some (map.get boxes id) → bars origin (holds_ids_in boxes id) op ≡ true
    → operated_at (state_of boxes entries roots) id (live_map (state_of boxes entries roots) id) origin op ≡ Err EINVAL
operation_barred boxes entries roots id origin op may same held = at (map.get boxes id) refl (box_there boxes entries id may.entry same may.is)
  where
    at : (b : Option Seen) → map.get boxes id ≡ b → is_some b ≡ true → operated_at (state_of boxes entries roots) id (live_map (state_of boxes entries roots) id) origin op ≡ Err EINVAL
    at None b_is there = cc
    at (Some b) b_is there =
        let host : HostMap = hosted (make_of b) b.contents may.entry in
        held_acts (state_of boxes entries roots) id host origin op
        (live_there (state_of boxes entries roots) id host (host_there boxes entries id b may.entry b_is may.is) may.live) may.flagged may.unbarred
        (ap (λ o. bars origin (holds_ids_by o) op) (sym b_is) ∙ held)
