-- What an operation that is not barred needs: it puts no id, and it walks if the console asks for it on a map of ids.
use Rattle.std.proofs.Common.{◌≡◌, ◌&&◌, ℕ, Bool, true, false, List, refl, ap}
use Rattle.bt_mapkind.specs.declared.request.MapOp.{MapOp}
use Rattle.bt_mapkind.specs.declared.request.MapOp.TheVariants.{Update, Delete, Push, Pop, Store, Atomic, SetLink}
use Rattle.bt_mapkind.specs.Seen.{Seen}
use Rattle.bt_objects.specs.Boxes.{ById}
use Rattle.bt_roots.specs.View.{RootsView}
use Rattle.host_state.specs.declared.change.Change.TheVariants.{Operate, Link}
use Rattle.std.specs.FinMap as map
use Rattle.host_retirement.specs.Gathered.{holds_ids_in}
use Rattle.host_state.specs.declared.change.Origin.{Origin}
use Rattle.host_state.specs.declared.change.Origin.TheVariants.{Console, Prog}
use Rattle.host_state.specs.Work.{walks, holds_ids_at, has_link_under}
use Rattle.host_state.specs.Act.{if_live, is_console, bars}
use Rattle.host_operations.specs.Operated.{PutsLive, takes_link_at}
use Rattle.host_state.specs.Hosts.{live_in, Entries, state_of}
use Rattle.host_state.proofs.HostLemmas.{get-hosts_of}

-- a link is barred, whoever asks
link_barred : (origin : Origin) (holds : Bool) (key : List ℕ) (id flag : ℕ) → bars origin holds (SetLink key id flag) ≡ true
link_barred Console holds key id flag = refl
link_barred (Prog prog) true key id flag = refl
link_barred (Prog prog) false key id flag = refl

-- what is not barred puts no id
pub puts_none : (boxes : ById Seen) (entries : Entries) (id : ℕ) (origin : Origin) (holds : Bool) (op : MapOp) → bars origin holds op ≡ false → PutsLive boxes entries id op
puts_none boxes entries id origin holds (Update key value flag) e = λ s named there put. absurd put
puts_none boxes entries id origin holds (Delete key) e = λ s named there put. absurd put
puts_none boxes entries id origin holds (Push value flag) e = λ s named there put. absurd put
puts_none boxes entries id origin holds Pop e = λ s named there put. absurd put
puts_none boxes entries id origin holds (Store key offset bytes) e = λ s named there put. absurd put
puts_none boxes entries id origin holds (Atomic key offset size op operand) e = λ s named there put. absurd put
puts_none boxes entries id origin holds (SetLink key named flag) e = let barred = link_barred origin holds key named flag in cc

-- it takes a link away if its map holds ids
pub takes_held : (boxes : ById Seen) (id : ℕ) (origin : Origin) (holds : Bool) (op : MapOp) → bars origin holds op ≡ false → takes_link_at (map.get boxes id) op ≡ holds_ids_in boxes id
takes_held boxes id origin holds (Update key value flag) e = refl
takes_held boxes id origin holds (Delete key) e = refl
takes_held boxes id origin holds (Push value flag) e = refl
takes_held boxes id origin holds Pop e = refl
takes_held boxes id origin holds (Store key offset bytes) e = refl
takes_held boxes id origin holds (Atomic key offset size op operand) e = refl
takes_held boxes id origin holds (SetLink key named flag) e = let barred = link_barred origin holds key named flag in cc

-- it walks there, since none but the console may have it there
pub walks_by : (origin : Origin) (holds at : Bool) (op : MapOp) → bars origin holds op ≡ false → holds ≡ at → holds ≡ is_console origin && at
walks_by Console holds at op may same = same
walks_by (Prog id) true at op may same = cc may
walks_by (Prog id) false at op may same = refl

pub walks_so : (boxes : ById Seen) (entries : Entries) (roots : RootsView) (origin : Origin) (id : ℕ) (op : MapOp) → walks (state_of boxes entries roots) (Operate origin id op) ≡ is_console origin && holds_ids_at (live_in boxes entries id)
walks_so boxes entries roots origin id op = ap (λ o. is_console origin && holds_ids_at (if_live o)) (get-hosts_of boxes entries id)

-- a link walks if an id stands under its key
pub link_walks : (boxes : ById Seen) (entries : Entries) (roots : RootsView) (id : ℕ) (key : List ℕ) (named flag : ℕ) → walks (state_of boxes entries roots) (Link id key named flag) ≡ has_link_under (live_in boxes entries id) key
link_walks boxes entries roots id key named flag = ap (λ o. has_link_under (if_live o) key) (get-hosts_of boxes entries id)
