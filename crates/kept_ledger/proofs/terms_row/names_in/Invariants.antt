use Rattle.std.proofs.Common.{length}
use Rattle.kept_ledger.proofs.TermsBack.{IsCut}
use Rattle.kept_ledger.proofs.terms_row.names_in.Given as goal

abbrev pub invariant-loop-byte : goal.invariant-loop-byte
invariant-loop-byte l = IsCut l.text l.names.items l.name.items l.rest

abbrev pub decreases-loop-byte : goal.decreases-loop-byte
decreases-loop-byte l = length l.rest
