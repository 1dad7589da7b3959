-- Looks into the journal of the book that was begun.
use Rattle.std.proofs.Common.{◌≡◌, List, ℕ, Option, Ok, Err, refl, sym, subst}
use Rattle.sqlite.specs.State.{State}
use Rattle.journal_model.specs.Book.{PlainBook}
use Rattle.bt_journal.specs.BookView.{BookView}
use Rattle.console_looks.specs.declared.look.Look.{Look}
use Rattle.console_looks.specs.declared.look.Look.TheVariants.{Show, DryUndo}
use Rattle.console_script.specs.declared.summary.Summary.{Summary}
use Rattle.console_talk.specs.Talk.{TellsLook}
use Rattle.kept_ledger.specs.TermsView.{PlainTerms}
use Rattle.kept_lines.specs.Kept.{IsOnDisk}
use Rattle.kept_lines.specs.declared.fault.LinesFault.{LinesFault}
use Rattle.kept_lines.specs.declared.fault.LinesFault.TheVariants.{Write}
use Rattle.kept_lines.specs.Begun.{BeginsOn}
use Rattle.kept_host.specs.Looks.{LooksAt, LooksFront, StaysKept, LooksKept}
use Rattle.kept_lines.specs.declared.fault.KeptFault.{KeptFault}
use Rattle.kept_lines.specs.declared.fault.KeptFault.TheVariants.{Open, Make, Lines}

-- a look is told as in a dialogue, whatever it counts
pub tells_so : (look : Look) (b : PlainBook) (out_old out_new : Option (List ℕ)) (summary : Summary) → LooksAt look b out_old out_new summary → TellsLook look b out_old out_new
tells_so (Show serial) b out_old out_new summary it = record { looked = it.looked; shows = it.shows }
tells_so (DryUndo mark) b out_old out_new summary it = it.0

module _ (terms : PlainTerms) (look : Look) (old : State) (out_old : Option (List ℕ)) where
  -- nothing was looked at
  pub not_looked : (new : State) (fault : KeptFault) → BeginsOn terms old new (Err fault) → LooksKept terms look old new out_old out_old (Err fault)
  not_looked new (Open why) it = (record { unwritten = refl; disk = it.0 }, it.1)
  not_looked new (Make error) it = record { unwritten = refl; disk = it }
  not_looked new (Lines why) it = absurd it

  module _ (new : State) (out_new : Option (List ℕ)) (book : BookView) (begins : BeginsOn terms old new (Ok book)) where
    stays : StaysKept terms look old new out_old out_new book.plain
    stays clean ready t b has = let it = begins clean ready t b has in (it.0, subst (IsOnDisk t new) (sym it.0) it.1)

    pub looked_kept : (summary : Summary) → LooksAt look book.plain out_old out_new summary → LooksKept terms look old new out_old out_new (Ok summary)
    looked_kept summary it = record { book = book.plain; looked = it; kept = stays }

    pub look_stops : (why : LinesFault) → why ≡ Write → LooksFront look book.plain out_old out_new → LooksKept terms look old new out_old out_new (Err (Lines why))
    look_stops why is it = (is, record { book = book.plain; front = it; kept = stays })
