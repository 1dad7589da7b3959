-- What each map of a world holds, as its box does.
use Rattle.std.proofs.Common.{◌≡◌, ℕ, IsTrue, Option, Some, None, refl, sym, subst, ◌∙◌}
use Rattle.std.specs.FinMap as map
use Rattle.bt_mapkind.specs.Attributes.{good}
use Rattle.bt_mapkind.specs.Bounds.{AreBounded}
use Rattle.bt_mapkind.specs.declared.attr.MapAttr.{MapAttr}
use Rattle.bt_mapkind.specs.Contents.{Contents}
use Rattle.bt_mapkind.specs.Seen.{Seen}
use Rattle.bt_mapkind.specs.Well.{IsWell}
use Rattle.bt_objects.specs.Boxes.{ById}
use Rattle.bt_roots.specs.View.{RootsView}
use Rattle.host_state.specs.declared.entry.MapEntry.{MapEntry}
use Rattle.host_state.specs.State.{HostMap}
use Rattle.host_state.specs.Hosts.{Entries, entry_at, held, host_of, state_of, IsBuilt, HoldsWell}
use Rattle.host_state.proofs.HostLemmas.{get-hosts_of}
use Rattle.host_state.proofs.ByIdLemmas.{same_some}

-- the map of a box and an entry has the attributes and the contents of the box
from_box : (P : MapAttr → Contents → Type 0) (b : Option Seen) (e : Option MapEntry) (m : HostMap) → ((s : Seen) → b ≡ Some s → P s.attr s.contents) → host_of b e ≡ Some m → P m.attr m.contents
from_box P None e m each is = cc
from_box P (Some s) None m each is = cc
from_box P (Some s) (Some entry) m each is = subst (λ (h : HostMap). P h.attr h.contents) (same_some is) (each s refl)

pub holds_well : (boxes : ById Seen) (entries : Entries) (roots : RootsView) → IsBuilt boxes entries → HoldsWell (state_of boxes entries roots)
holds_well boxes entries roots built = record {
  well = λ id m at. from_box IsWell (map.get boxes id) _ m (built.well id) (sym (get-hosts_of boxes entries id) ∙ at);
  bounded = λ id m at. from_box (λ a. AreBounded) (map.get boxes id) _ m (built.bounded id) (sym (get-hosts_of boxes entries id) ∙ at);
  attributes = λ id m at. has_good id m (map.get boxes id) (entry_at entries id) refl refl (sym (get-hosts_of boxes entries id) ∙ at);
}
  where
    has_good : (id : ℕ) (m : HostMap) (b : Option Seen) (e : Option (Option MapEntry)) → map.get boxes id ≡ b → entry_at entries id ≡ e → host_of b (held e) ≡ Some m → IsTrue (good m.attr)
    has_good id m None e box entry is = cc
    has_good id m (Some s) None box entry is = cc
    has_good id m (Some s) (Some None) box entry is = cc
    has_good id m (Some s) (Some (Some found)) box entry is = subst (λ (h : HostMap). IsTrue (good h.attr)) (same_some is) (built.good_attr id found s entry box)
