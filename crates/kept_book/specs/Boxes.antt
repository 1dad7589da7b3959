-- New boxes, for maps that are made again.
use Rattle.std.specs.Prelude.{◌≡◌, ⊤}
use Rattle.bt_mapkind.specs.declared.attr.MapAttr.{MapAttr}
use Rattle.bt_mapkind.specs.Attributes.{charge_of}
use Rattle.bt_mapkind.specs.Seen.{Seen, IsFresh}
use Rattle.host_state.specs.declared.change.Change.{Change}
use Rattle.host_state.specs.declared.change.Change.TheVariants.{Create}

-- a fresh box of these attributes, which charges what they come to
pub record IsNewBox (seen : Seen) (attr : MapAttr) : Type 0 where
  pub fresh : IsFresh seen
  pub attr_is : seen.attr ≡ attr
  pub charge_is : seen.charge ≡ charge_of attr

-- a create was kept with the charge that its attributes come to
abbrev pub ChargesItsDue : Change → Type 0
ChargesItsDue (Create id attr charge name path template) = charge ≡ charge_of attr
ChargesItsDue _ = ⊤
