use Rattle.std.proofs.Common.{◌≡◌, refl, subst}
use Rattle.std.proofs.Math.Logic.{∥∥₁_map}
use Rattle.sqlite.specs.Files.{file_state}
use Rattle.journal_model.specs.Book.{PlainBook}
use Rattle.kept_file.specs.Keeps.{Keeps}
use Rattle.kept_file.proofs.FoundLemmas.{found_again}
use Rattle.kept_file.proofs.laws.a_kept_book_is_found_again.Goals as goal

pub returns : goal.returns
returns g c it t b numbered only left may opened is found =
    ∥∥₁_map (found_again g.D.Disk g.E.Disk it t (λ (x : PlainBook). x ≡ b) numbered (λ db r. record { book = b; is = refl; holds = only db r }) left may opened is found) (λ kept.
    subst (λ (x : PlainBook). Keeps t (file_state opened) x) kept.is kept.keeps)
