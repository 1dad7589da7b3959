-- The answer of a live map is that of its box.
use Rattle.std.proofs.Common.{◌≡◌, ◌≤◌, ◌+◌, ◌*◌, ◌&&◌, ℕ, false, IsTrue, List, length, Option, Some, None, Result, Ok, Err, is_some, refl, sym, ap, subst, ◌∙◌}
use Rattle.std.specs.Prelude.{MatchOption, nat_le, map as each}
use Rattle.std.specs.List.{list_all}
use Rattle.std.proofs.lemmas.Bool.{leb-true}
use Rattle.std.proofs.lemmas.List.{length-map}
use Rattle.host_words.specs.Spelling.{is_name}
use Rattle.bt_mapkind.proofs.Stays.{both_true}
use Rattle.std.specs.FinMap as map
use Rattle.bt_mapkind.specs.declared.errno.Errno.{Errno as Error}
use Rattle.bt_mapkind.specs.declared.errno.Errno.TheVariants.{ENOENT}
use Rattle.bt_mapkind.specs.declared.request.MapFault.{MapFault}
use Rattle.bt_mapkind.specs.declared.request.MapFault.TheVariants.{Errno}
use Rattle.bt_mapkind.specs.declared.request.MapReply.{MapReply}
use Rattle.bt_mapkind.specs.declared.request.Query.{Query}
use Rattle.bt_mapkind.specs.Seen.{Seen}
use Rattle.bt_mapkind.specs.Answers.{IsAnswer}
use Rattle.bt_mapkind.specs.Read.{key_of_index}
use Rattle.bt_objects.specs.Boxes.{ById, ReadAt, make_of}
use Rattle.bt_roots.specs.declared.device.Device.{Device}
use Rattle.bt_roots.specs.View.{RootsView, are_distinct, devices_are_good}
use Rattle.bt_roots.specs.Exchange.{device_named}
use Rattle.host_state.specs.declared.ask.Ask.TheVariants.{Attr, Map, Maps, Dump, Progs, Code, Pinned, Devices, Start, Fetch}
use Rattle.host_state.specs.declared.ask.AskReply.TheVariants.{Attr as AttrReply, Answered, Pinned as PinnedReply, Refused}
use Rattle.host_state.specs.Act.{if_live}
use Rattle.host_state.specs.State.{HostProg}
use Rattle.host_state.specs.Ask.{ask, if_found, reply_of, maps_shown, progs_shown, if_live_prog, devices_shown, live_prog}
use Rattle.host_state.proofs.Asked.{attr_of, read_from, code_of, dumped, started, slot_fetched, fetched}
use Rattle.host_state.specs.Hosts.{Entries, hosts_of, progs_of, state_of, live_in, live_prog_at}
use Rattle.host_retirement.specs.Gathered.{count_at, id_under}
use Rattle.host_state.specs.Work.{calls_at, calls_of}
use Rattle.std.specs.Option.{option_map}
use Rattle.bt_objects.specs.declared.make.Make.{Make}
use Rattle.host_state.proofs.ByIdLemmas.{same_some}
use Rattle.host_state.proofs.HostLemmas.{get-hosts_of, get-progs_of, IsLive}

-- the box's answer
pub answer_of : (boxes : ById Seen) (id : ℕ) (box : Seen) (query : Query) (result : Result MapReply MapFault) → map.get boxes id ≡ Some box → ReadAt boxes id query result
    → IsAnswer box query result
answer_of boxes id box query result there answer = subst (λ o. MatchOption o (result ≡ Err (Errno ENOENT)) (λ s. IsAnswer s query result)) there answer

pub answered : (boxes : ById Seen) (entries : Entries) (id : ℕ) (query : Query) (reply : MapReply) (l : IsLive boxes entries id) → ReadAt boxes id query (Ok reply)
    → Answered reply ≡ read_from (live_in boxes entries id) query
answered boxes entries id query reply l a =
    let told = (answer_of boxes id l.box query (Ok reply) l.there a).told in sym (ap (λ o. read_from o query) l.live ∙ ap reply_of told)

pub refused : (boxes : ById Seen) (entries : Entries) (id : ℕ) (query : Query) (errno : Error) (l : IsLive boxes entries id) → ReadAt boxes id query (Err (Errno errno))
    → Refused errno ≡ read_from (live_in boxes entries id) query
refused boxes entries id query errno l a =
    let told = (answer_of boxes id l.box query (Err (Errno errno)) l.there a).told in sym (ap (λ o. read_from o query) l.live ∙ ap reply_of told)

-- a question to a state
pub asked : (boxes : ById Seen) (entries : Entries) (roots : RootsView) (id : ℕ) (query : Query) → read_from (live_in boxes entries id) query ≡ ask (state_of boxes entries roots) (Map id query)
unfolding ask
asked boxes entries roots id query = ap (λ o. read_from (if_live o) query) (sym (get-hosts_of boxes entries id))

pub none_of : {X : Type 0} (o : Option X) → is_some o ≡ false → o ≡ None
none_of None e = refl
none_of (Some x) e = cc

-- the attributes of a live map
pub attr_is : (boxes : ById Seen) (entries : Entries) (id : ℕ) (make : Make) → IsLive boxes entries id → Some make ≡ option_map make_of (map.get boxes id)
    → AttrReply make.attr ≡ attr_of (live_in boxes entries id)
attr_is boxes entries id make l is = ap (λ (m : Make). AttrReply m.attr) (same_some (is ∙ ap (option_map make_of) l.there)) ∙ sym (ap attr_of l.live)

pub attr_none : (boxes : ById Seen) (entries : Entries) (id : ℕ) → IsLive boxes entries id → None ≡ option_map make_of (map.get boxes id) → Refused ENOENT ≡ attr_of (live_in boxes entries id)
attr_none boxes entries id l is = cc (is, ap (option_map make_of) l.there)

pub asked_attr : (boxes : ById Seen) (entries : Entries) (roots : RootsView) (id : ℕ) → attr_of (live_in boxes entries id) ≡ ask (state_of boxes entries roots) (Attr id)
unfolding ask
asked_attr boxes entries roots id = ap (λ o. attr_of (if_live o)) (sym (get-hosts_of boxes entries id))

-- maps shown, and a dump
pub asked_maps : (boxes : ById Seen) (entries : Entries) (roots : RootsView) (only : Option ℕ) → maps_shown (hosts_of boxes entries) (live_in boxes entries) only ≡ ask (state_of boxes entries roots) (Maps only)
unfolding ask
asked_maps boxes entries roots only = λ i. maps_shown (hosts_of boxes entries) (λ id. if_live (sym (get-hosts_of boxes entries id) i)) only

pub asked_dump : (boxes : ById Seen) (entries : Entries) (roots : RootsView) (id : ℕ) → dumped (live_in boxes entries id) ≡ ask (state_of boxes entries roots) (Dump id)
unfolding ask
asked_dump boxes entries roots id = ap (λ o. dumped (if_live o)) (sym (get-hosts_of boxes entries id))

pub calls_dump : (boxes : ById Seen) (entries : Entries) (roots : RootsView) (id : ℕ) → calls_at (live_in boxes entries id) ≡ calls_of (state_of boxes entries roots) (Dump id)
calls_dump boxes entries roots id = ap (λ o. calls_at (if_live o)) (sym (get-hosts_of boxes entries id))

pub calls_live : (boxes : ById Seen) (entries : Entries) (id : ℕ) → IsLive boxes entries id → calls_at (live_in boxes entries id) ≡ 2 * count_at (map.get boxes id) + 1
calls_live boxes entries id l = ap calls_at l.live ∙ ap (λ o. 2 * count_at o + 1) (sym l.there)

-- programs shown, and the code of one
progs_found : (boxes : ById Seen) (entries : Entries) (roots : RootsView) → live_prog_at entries ≡ live_prog (state_of boxes entries roots)
progs_found boxes entries roots = λ i id. if_live_prog (sym (get-progs_of entries id) i)

pub asked_progs : (boxes : ById Seen) (entries : Entries) (roots : RootsView) (only : Option ℕ) → progs_shown (progs_of entries) (live_prog_at entries) only ≡ ask (state_of boxes entries roots) (Progs only)
unfolding ask
asked_progs boxes entries roots only = λ i. progs_shown (progs_of entries) (progs_found boxes entries roots i) only

pub asked_code : (boxes : ById Seen) (entries : Entries) (roots : RootsView) (id : ℕ) → code_of (live_prog_at entries id) ≡ ask (state_of boxes entries roots) (Code id)
unfolding ask
asked_code boxes entries roots id = ap (λ o. code_of (if_live_prog o)) (sym (get-progs_of entries id))

-- what is pinned at a path
pub asked_pinned : (boxes : ById Seen) (entries : Entries) (roots : RootsView) (path : List ℕ) → if_found PinnedReply (map.get roots.pins path) ≡ ask (state_of boxes entries roots) (Pinned path)
unfolding ask
asked_pinned boxes entries roots path = refl

-- devices shown: a host has at most 16
few_names : (names : List (List ℕ)) → IsTrue (devices_are_good names) → length names ≤ 16
unfolding devices_are_good
few_names names good =
    let named = both_true (nat_le 1 (length names) && nat_le (length names) 16 && list_all is_name names) (are_distinct names) good in
    let counted = both_true (nat_le 1 (length names) && nat_le (length names) 16) (list_all is_name names) named.0 in
    leb-true (length names) 16 (both_true (nat_le 1 (length names)) (nat_le (length names) 16) counted.0).1

pub few_devices : (devices : List Device) → IsTrue (devices_are_good (each (λ device. device.name) devices)) → length devices ≤ 16
few_devices devices good = subst (λ count. count ≤ 16) (length-map devices (λ device. device.name)) (few_names (each (λ device. device.name) devices) good)

pub asked_devices : (boxes : ById Seen) (entries : Entries) (roots : RootsView) (only : Option (List ℕ)) → devices_shown roots.devices only ≡ ask (state_of boxes entries roots) (Devices only)
unfolding ask
asked_devices boxes entries roots only = refl

-- programs to be run
pub asked_start : (boxes : ById Seen) (entries : Entries) (roots : RootsView) (device : List ℕ) → started (live_prog_at entries) (device_named roots.devices device) ≡ ask (state_of boxes entries roots) (Start device)
unfolding ask
asked_start boxes entries roots device = ap (λ (found : ℕ → Option HostProg). started found (device_named roots.devices device)) (progs_found boxes entries roots)

pub asked_fetch : (boxes : ById Seen) (entries : Entries) (roots : RootsView) (id index : ℕ) → fetched (live_prog_at entries) (live_in boxes entries id) index ≡ ask (state_of boxes entries roots) (Fetch id index)
unfolding ask
asked_fetch boxes entries roots id index = λ i. fetched (progs_found boxes entries roots i) (if_live (sym (get-hosts_of boxes entries id) i)) index

-- the slot of a live map
pub fetched_so : (boxes : ById Seen) (entries : Entries) (id index : ℕ) (found : ℕ → Option HostProg) (make : Make) → IsLive boxes entries id → Some make ≡ option_map make_of (map.get boxes id)
    → slot_fetched found make.attr.kind (id_under (map.get boxes id) (key_of_index index)) ≡ fetched found (live_in boxes entries id) index
fetched_so boxes entries id index found make l is =
    let same : make ≡ make_of l.box = same_some (is ∙ ap (option_map make_of) l.there) in
    (λ i. slot_fetched found (same i).attr.kind (id_under (l.there i) (key_of_index index))) ∙ sym (ap (λ o. fetched found o index) l.live)

pub fetched_none : (boxes : ById Seen) (entries : Entries) (id index : ℕ) (found : ℕ → Option HostProg) → IsLive boxes entries id → None ≡ option_map make_of (map.get boxes id)
    → Refused ENOENT ≡ fetched found (live_in boxes entries id) index
fetched_none boxes entries id index found l is = cc (is, ap (option_map make_of) l.there)
