-- One record is turned by one call of a box at most.
use Rattle.std.proofs.Common.{◌≡◌, ℕ, arith}
use Rattle.host_undoing.specs.declared.undoing.Part.{Part}
use Rattle.host_undoing.specs.declared.undoing.Part.TheVariants.{Contents, Frozen, Presence, Program, Pinned}
use Rattle.host_undoing.specs.declared.undoing.Undoing.{Undoing}
use Rattle.host_state.specs.Work.{CallsAtMost}
use Rattle.host_undoing.specs.Work.{after_part, after_turn}
use Rattle.host_state.proofs.CallLemmas.{within_none, within_one}

by_part : (p : Part) (old new : ℕ) → new ≡ after_part p old → CallsAtMost 1 old new
by_part (Contents id k) old new is = within_one 1 old new (omega arith) is
by_part (Frozen id frozen) old new is = within_none 1 old new is
by_part (Presence id make entry pin) old new is = within_none 1 old new is
by_part (Program id prog pin) old new is = within_none 1 old new is
by_part (Pinned pin) old new is = within_none 1 old new is

pub turned_once : (u : Undoing) (old new : ℕ) → new ≡ after_turn u old → CallsAtMost 1 old new
turned_once u old new is = by_part u.part old new is
