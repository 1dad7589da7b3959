use Rattle.std.proofs.Common.{◌≡◌, ◌++◌, true, false, length, Ok}
use Rattle.journal_model.specs.Plain.{newest_force}
use Rattle.journal_model.specs.Replay.{replay}
use Rattle.journal_model.specs.Force.{without}
use Rattle.journal_model.proofs.Others.{Absent}
use Rattle.host_state.specs.Work.{CallsAtMost}
use Rattle.bt_without.proofs.CallLemmas.{IsAgain}
use Rattle.bt_without.proofs.taken_out.Given as goal

abbrev pub invariant-turning : goal.invariant-turning
invariant-turning g l = record {
  book : l.stage.plain ≡ l.fn.book.plain;
  begun : l.stage.begun ≡ l.fn.book.work;
  pasts : l.stage.staged.line.pasts ≡ l.fn.book.plain.line;
  serial : l.stage.staged.serial ≡ l.fn.serial;
  not_out : l.stage.staged.out ≡ false;
  whole : l.stage.staged.in_place ++ l.stage.staged.left ≡ newest_force l.fn.book.plain.line.moments;
  absent : Absent l.fn.serial l.stage.staged.left;
  work : CallsAtMost (length l.stage.staged.left) l.fn.book.work l.stage.staged.line.work;
  to_restore : l.stage.staged.to_restore ≡ length l.stage.staged.left;
}

abbrev pub decreases-turning : goal.decreases-turning
decreases-turning g l = length l.stage.staged.in_place

abbrev pub invariant-redoing : goal.invariant-redoing
invariant-redoing g l = record {
  book : l.stage.plain ≡ l.fn.book.plain;
  begun : l.stage.begun ≡ l.fn.book.work;
  pasts : l.stage.staged.line.pasts ≡ l.fn.book.plain.line;
  serial : l.stage.staged.serial ≡ l.fn.serial;
  out : l.stage.staged.out ≡ true;
  whole : l.stage.staged.in_place ++ l.stage.staged.left ≡ without l.fn.serial (newest_force l.fn.book.plain.line.moments);
  state : replay l.fn.book.plain.line.base l.stage.staged.in_place ≡ Ok l.stage.staged.state;
  work : IsAgain l.fn.book.plain.line.base l.fn.serial (newest_force l.fn.book.plain.line.moments) l.stage.staged l.fn.book.work;
}

abbrev pub decreases-redoing : goal.decreases-redoing
decreases-redoing g l = length l.stage.staged.left
