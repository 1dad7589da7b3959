use Rattle.journal_known_maps.proofs.Knowing.{knows_its_maps}
use Rattle.journal_known_maps.proofs.a_map_keeps_its_attributes_through_every_run.Goals as goal

pub returns : goal.returns
returns c = knows_its_maps
