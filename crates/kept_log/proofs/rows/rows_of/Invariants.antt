use Rattle.kept_log.specs.Timed.{entries_of}
use Rattle.kept_log.specs.Logged.{AreLogged}
use Rattle.kept_log.proofs.rows.rows_of.Given as goal

abbrev pub invariant-loop-it : goal.invariant-loop-it
invariant-loop-it l = AreLogged (entries_of l.yielded) l.rows.items
