-- What the definitions of states cite of maps, programs and roots, passed on from one place.
pub use Rattle.bt_mapkind.specs.declared.attr.MapAttr.{MapAttr}
pub use Rattle.bt_mapkind.specs.declared.attr.MapType.{MapType}
pub use Rattle.bt_mapkind.specs.declared.errno.Errno.{Errno}
pub use Rattle.bt_mapkind.specs.declared.errno.Errno.TheVariants.{ENOENT, EINVAL, EPERM, EEXIST, EBUSY}
pub use Rattle.bt_mapkind.specs.declared.request.MapOp.{MapOp}
pub use Rattle.bt_mapkind.specs.declared.request.MapReply.{MapReply}
pub use Rattle.bt_mapkind.specs.Attributes.{good}
pub use Rattle.bt_mapkind.specs.Contents.{Contents}
pub use Rattle.bt_mapkind.specs.Inner.{holds_ids, holds_progs, form_fault}
pub use Rattle.bt_mapkind.specs.Step.{map_step, is_flag}
pub use Rattle.bt_mapkind.specs.Read.{map_read}
pub use Rattle.bt_mapkind.specs.Well.{IsWell}
pub use Rattle.bt_mapkind.specs.Bounds.{AreBounded}
pub use Rattle.bt_mapkind.specs.Seen.{Seen}
pub use Rattle.bt_verify.specs.Verified.{Checked}
pub use Rattle.bt_objects.specs.declared.make.Make.{Make}
pub use Rattle.bt_objects.specs.ById.{ById, mapped}
pub use Rattle.bt_roots.specs.declared.back.RootBack.{RootBack}
pub use Rattle.bt_roots.specs.declared.device.Device.{Device}
pub use Rattle.bt_roots.specs.declared.target.Target.{Target}
pub use Rattle.bt_roots.specs.declared.target.Target.TheVariants.{Map, Prog}
pub use Rattle.bt_roots.specs.View.{Pins, Paths, RootsView}
pub use Rattle.bt_roots.specs.Reachable.{Links, IsAscending}
pub use Rattle.host_words.specs.Spelling.{is_name}
