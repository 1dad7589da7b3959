-- What an operation and the walk after it count. An operation leaves a map its type and its room, so the walk makes as
-- many calls at most as before.
use Rattle.std.proofs.Common.{◌≡◌, ◌+◌, ℕ, Bool, true, false, cond, Option, Some, None, Result, Ok, Err, inl, is_some, ◌&&◌, not, refl, sym, ap, ◌∙◌, arith, ◌*◌, List, [], ◌∷◌, map as each}
use Rattle.std.specs.FinMap as map
use Rattle.bt_mapkind.specs.declared.request.MapOp.{MapOp}
use Rattle.bt_mapkind.specs.Seen.{Seen}
use Rattle.bt_objects.specs.Boxes.{ById, make_of, one_more}
use Rattle.host_state.specs.declared.entry.MapEntry.{MapEntry}
use Rattle.bt_mapkind.specs.Kept.{Kept, is_new}
use Rattle.bt_mapkind.specs.Well.{IsWell}
use Rattle.bt_mapkind.specs.declared.request.MapOp.TheVariants.{SetLink}
use Rattle.host_operations.specs.Operated.{takes_link_at}
use Rattle.host_operations.proofs.PutLemmas.{link_taken}
use Rattle.bt_objects.specs.ById.{mapped}
use Rattle.bt_mapkind.specs.Inner.{holds_ids}
use Rattle.host_state.specs.State.{HostMap, hosted}
use Rattle.host_state.specs.Act.{if_live}
use Rattle.host_state.specs.Hosts.{Entries, entry_at, held, host_of, live_in, hosts_of}
use Rattle.host_operations.proofs.OperationLemmas.{IsOperated}
use Rattle.host_retirement.specs.Gathered.{holds_ids_in, calls_in}
use Rattle.host_retirement.proofs.EntryLemmas.{holds_ids_by}
use Rattle.host_state.specs.declared.reply.Reply.{Reply}
use Rattle.host_state.specs.Work.{AllOrNone, WorksAt, Works, holds_ids_at, has_link_under, calls_of_walk}
use Rattle.host_state.proofs.CallLemmas.{calls_to_walk, within_one, within_both, within_more, within_call}
use Rattle.host_state.proofs.ByIdLemmas.{get-put_same, put_there, get-mapped, mapped-put, entries-mapped}
use Rattle.host_state.proofs.HostLemmas.{held_some, get-hosts_of, hosts_changed}
use Rattle.std.specs.Prelude.{if◌then◌else◌}
use Rattle.std.proofs.lemmas.List.Sums.{sum_by-cons}
use Rattle.std.specs.List.{sum_by}
use Rattle.std.specs.Option.{option_map}
use Rattle.bt_mapkind.specs.declared.attr.MapAttr.{MapAttr}

-- ---- the work
-- a map stays of its type
pub kind_stays : (boxes new : ById Seen) (id : ℕ) (op : MapOp) (reply : Reply) (kept : Kept) → IsOperated boxes id op reply kept new → holds_ids_in new id ≡ holds_ids_in boxes id
kind_stays boxes new id op reply kept u =
    ap (λ b. holds_ids_by (map.get b id)) u.boxes
    ∙ ap holds_ids_by (get-put_same boxes id (Some u.after))
    ∙ ap (λ a. holds_ids a.kind) u.done.make.attr
    ∙ sym (ap holds_ids_by u.there)

pub works_done : (A F : Type 0) (a : A) (ids now_ids : Bool) (walk now_walk old middle new : ℕ) → now_ids ≡ ids → now_walk ≡ walk → middle ≡ one_more old → WorksAt now_ids now_walk middle new
    → let done : Result A F = Ok a in Works ids (walk + 2) done old (one_more old) new
works_done A F a true true walk now_walk old middle new same room one walked = within_both 1 now_walk (walk + 2) old middle new (omega (arith, room)) (within_one 1 old middle (omega arith) one) walked
works_done A F a false false walk now_walk old middle new same room one stayed = stayed ∙ one
works_done A F a true false walk now_walk old middle new same room one walked = cc
works_done A F a false true walk now_walk old middle new same room one walked = cc

pub works_refused : (A F : Type 0) (f : F) (ids : Bool) (walk old new : ℕ) → AllOrNone old (one_more old) new → let refused : Result A F = Err f in Works ids (walk + 2) refused old (one_more old) new
works_refused A F f true walk old new counts = within_more 1 (walk + 2) old new (omega arith) (within_call old new counts)
works_refused A F f false walk old new counts = counts

pub works_back : (A F : Type 0) (f : F) (ids now_ids : Bool) (walk now_walk old middle new last : ℕ) → now_ids ≡ ids → now_walk ≡ walk → now_ids ≡ true → middle ≡ one_more old → WorksAt now_ids now_walk middle new → last ≡ one_more new
    → let refused : Result A F = Err f in Works ids (walk + 2) refused old (one_more old) last
works_back A F f true true walk now_walk old middle new last same room is one walked again =
    within_both (walk + 1) 1 (walk + 2) old new last (omega arith)
    (within_both 1 now_walk (walk + 1) old middle new (omega (arith, room)) (within_one 1 old middle (omega arith) one) walked)
    (within_one 1 new last (omega arith) again)
works_back A F f false true walk now_walk old middle new last same room is one walked again = cc
works_back A F f ids false walk now_walk old middle new last same room is one walked again = cc

-- nothing was counted
pub stayed : (work most : ℕ) → AllOrNone work most work
stayed work most = inl refl

-- a live map holds ids if its box does
pub live_holds : (boxes : ById Seen) (entries : Entries) (id : ℕ) (entry : MapEntry) → is_some (entry_at entries id) ≡ is_some (map.get boxes id) → held (entry_at entries id) ≡ Some entry → entry.live ≡ true
    → holds_ids_in boxes id ≡ holds_ids_at (live_in boxes entries id)
live_holds boxes entries id entry same is live = at (map.get boxes id) (sym same ∙ ap is_some (held_some (entry_at entries id) entry is))
  where
    at : (b : Option Seen) → is_some b ≡ true → holds_ids_by b ≡ holds_ids_at (if_live (host_of b (held (entry_at entries id))))
    at None there = cc
    at (Some s) there =
        sym (ap (λ o. holds_ids_at (if_live (host_of (Some s) o))) is ∙ ap (λ b. holds_ids_at (cond b (Some (hosted (make_of s) s.contents entry)) None)) live)

-- and has an id under a key if its box does
pub live_links : (boxes : ById Seen) (entries : Entries) (id : ℕ) (key : List ℕ) (named flag : ℕ) (entry : MapEntry) → is_some (entry_at entries id) ≡ is_some (map.get boxes id) → held (entry_at entries id) ≡ Some entry
    → entry.live ≡ true → takes_link_at (map.get boxes id) (SetLink key named flag) ≡ has_link_under (live_in boxes entries id) key
live_links boxes entries id key named flag entry same is live = at (map.get boxes id) (sym same ∙ ap is_some (held_some (entry_at entries id) entry is))
  where
    at : (b : Option Seen) → is_some b ≡ true → takes_link_at b (SetLink key named flag) ≡ has_link_under (if_live (host_of b (held (entry_at entries id)))) key
    at None there = cc
    at (Some s) there =
        sym (ap (λ o. has_link_under (if_live (host_of (Some s) o)) key) is ∙ ap (λ b. has_link_under (cond b (Some (hosted (make_of s) s.contents entry)) None) key) live)

-- ---- what an operation took away
-- the type of a map and what takes an operation back tell whether it took a link away
pub takes_so : (boxes new : ById Seen) (id : ℕ) (op : MapOp) (reply : Reply) (kept : Kept) (u : IsOperated boxes id op reply kept new) → IsWell u.before.attr u.before.contents
    → (holds_ids_in new id && not (is_new kept.back)) ≡ takes_link_at (map.get boxes id) op
takes_so boxes new id op reply kept u well =
    ap (λ b. b && not (is_new kept.back)) (kind_stays boxes new id op reply kept u ∙ ap holds_ids_by u.there)
    ∙ link_taken u.before.attr u.before.contents op (record { contents = u.after.contents; reply = u.told; back = kept.back }) well u.done.step
    ∙ sym (ap (λ o. takes_link_at o op) u.there)

-- ---- an operation leaves a map its room
abbrev calls_as : ℕ → HostMap → ℕ
calls_as id m = calls_to_walk m

sum_each : (es : List (ℕ × HostMap)) → sum_by (λ (e : ℕ × ℕ). e.1) (each (λ (e : ℕ × HostMap). (e.0, calls_to_walk e.1)) es) ≡ sum_by (λ (e : ℕ × HostMap). calls_to_walk e.1) es
sum_each [] = refl
sum_each (e ∷ es) =
    sum_by-cons (λ (e : ℕ × ℕ). e.1) (e.0, calls_to_walk e.1) (each (λ (e : ℕ × HostMap). (e.0, calls_to_walk e.1)) es)
    ∙ ap (λ n. calls_to_walk e.1 + n) (sum_each es)
    ∙ sym (sum_by-cons (λ (e : ℕ × HostMap). calls_to_walk e.1) e es)

by_rooms : (maps : ById HostMap) → calls_of_walk maps ≡ sum_by (λ (e : ℕ × ℕ). e.1) (map.entries (mapped calls_as maps))
by_rooms maps = sym (ap (sum_by (λ (e : ℕ × ℕ). e.1)) (entries-mapped calls_as maps) ∙ sum_each (map.entries maps))

same_room : (id : ℕ) (s t : Seen) (entry : Option MapEntry) → t.attr ≡ s.attr → option_map (calls_as id) (host_of (Some s) entry) ≡ option_map (calls_as id) (host_of (Some t) entry)
same_room id s t None same = refl
same_room id s t (Some entry) same = ap (λ (a : MapAttr). Some (if holds_ids a.kind then 2 * a.max_entries + 1 else 0)) (sym same)

pub room_stays : (boxes new : ById Seen) (entries : Entries) (id : ℕ) (op : MapOp) (reply : Reply) (kept : Kept) → IsOperated boxes id op reply kept new → calls_in new entries ≡ calls_in boxes entries
room_stays boxes new entries id op reply kept u =
    by_rooms (hosts_of new entries) ∙ ap (λ ns. sum_by (λ (e : ℕ × ℕ). e.1) (map.entries ns)) rooms ∙ sym (by_rooms (hosts_of boxes entries))
  where
    entry : Option MapEntry
    entry = held (entry_at entries id)

    there : map.get (mapped calls_as (hosts_of boxes entries)) id ≡ option_map (calls_as id) (host_of (Some u.after) entry)
    there =
        get-mapped calls_as (hosts_of boxes entries) id
        ∙ ap (option_map (calls_as id)) (get-hosts_of boxes entries id ∙ ap (λ b. host_of b entry) u.there)
        ∙ same_room id u.before u.after entry u.done.make.attr

    rooms : mapped calls_as (hosts_of new entries) ≡ mapped calls_as (hosts_of boxes entries)
    rooms =
        ap (λ b. mapped calls_as (hosts_of b entries)) u.boxes
        ∙ ap (mapped calls_as) (hosts_changed boxes entries id u.after)
        ∙ mapped-put calls_as (hosts_of boxes entries) id (host_of (Some u.after) entry)
        ∙ put_there (mapped calls_as (hosts_of boxes entries)) id (option_map (calls_as id) (host_of (Some u.after) entry)) there
