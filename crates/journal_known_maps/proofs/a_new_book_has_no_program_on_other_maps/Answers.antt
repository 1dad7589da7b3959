use Rattle.journal_known_maps.proofs.Knowing.{begins_knowing}
use Rattle.journal_known_maps.proofs.a_new_book_has_no_program_on_other_maps.Goals as goal

pub returns : goal.returns
returns c = begins_knowing
