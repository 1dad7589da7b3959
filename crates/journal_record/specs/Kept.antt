-- What is seen of a record.
use Rattle.host_state.specs.declared.change.Change.TheVariants.{Operate}
use Rattle.host_undoing.specs.Exchange.{undoing_of}
use Rattle.journal_record.specs.declared.operated.Operated.{Operated}
use Rattle.journal_record.specs.declared.whole.Whole.{Whole}
use Rattle.journal_record.specs.declared.record.Kept.{Kept}
use Rattle.journal_record.specs.declared.record.Kept.TheVariants as kept
use Rattle.journal_record.specs.Recorded.{Recorded, recorded}

-- the operation is one on the map that its undoing exchanges
abbrev pub operated_view : Operated → Recorded
operated_view k = recorded k.serial (Operate k.origin k.undoing.map k.note.op) k.note.reply (undoing_of k.undoing)

abbrev pub whole_view : Whole → Recorded
whole_view k = recorded k.serial k.change k.reply k.undoing

abbrev pub recorded_of : Kept → Recorded
recorded_of (kept.Operated k) = operated_view k.value
recorded_of (kept.Whole k) = whole_view k.value
