use Rattle.kept_file.proofs.FoundLemmas.{found_again}
use Rattle.kept_lines.specs.Kept.{IsFront, script_on}
use Rattle.kept_lines.proofs.laws.a_book_survives.Goals as goal

pub returns : goal.returns
returns g c it t files b script out_old out_new = found_again g.D.Disk g.E.Disk it t (IsFront files (script_on b script) out_old out_new)
