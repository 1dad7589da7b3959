-- A batch, line by line.
use Rattle.std.proofs.Common.{◌≡◌, ℕ, List, [], ◌∷◌, Result, sym, subst}
use Rattle.bt_mapkind.specs.declared.attr.MapAttr.{MapAttr}
use Rattle.bt_mapkind.specs.Seen.{Seen}
use Rattle.journal_model.specs.Book.{PlainBook}
use Rattle.journal_model.specs.Run.{PlainEvent}
use Rattle.bt_without.specs.declared.events.Answer.{Answer as EventAnswer}
use Rattle.thread_lock.specs.declared.sequential.Sequential.{Ghosts}
use Rattle.bt_desk.specs.declared.desk.Desk.{Desk}
use Rattle.bt_syntax.specs.declared.files.FileText.{FileText}
use Rattle.console_answer.specs.declared.answer.Answer.TheVariants.{Processed}
use Rattle.console_answer.specs.declared.told.Told.{Told}
use Rattle.console_answer.specs.declared.told.Told.TheVariants as told
use Rattle.bt_console.specs.declared.supply.NoBox.{NoBox}
use Rattle.console_script.specs.declared.summary.Summary.{Summary}
use Rattle.console_script.specs.declared.tally.Tally.{Tally}
use Rattle.console_script.specs.Tallies.{fresh, tallied_told, lines_told, accepted_told}
use Rattle.console_text.specs.Text.{text_of}
use Rattle.thread_live.specs.Footings.{Footing}
use Rattle.thread_live.specs.Lines.{OnlyWrites, Does, BatchComes, begins, behind, BatchGoes}

module _ {K S : Type 0} {g : Ghosts PlainBook PlainEvent EventAnswer} (gives : S → MapAttr → Result K NoBox → S → Type 0) (kind : K → Seen) (files : List FileText) (desk : Desk K)
    (lines : List (List ℕ)) (summary : Summary) (from : Footing S g) where
  pub batch_begins : (tally : Tally) → tally ≡ fresh summary → BatchComes gives kind files desk lines summary from lines 0 tally from
  batch_begins tally is = subst (λ it. BatchComes gives kind files desk lines summary from lines 0 it from) (sym is) begins

  pub batch_comes : (rest : List (List ℕ)) (line : List ℕ) (left next : List (List ℕ)) (accepted accepted' : ℕ) (tally tally' : Tally) (mid : Footing S g) (it : Told) (to : Footing S g)
      → BatchComes gives kind files desk lines summary from rest accepted tally mid → rest ≡ line ∷ left → Does gives kind files desk line it mid to
      → next ≡ lines_told left it → accepted' ≡ accepted_told accepted it → tally' ≡ tallied_told tally it
      → BatchComes gives kind files desk lines summary from next accepted' tally' to
  batch_comes rest line left next accepted accepted' tally tally' mid it to come cut does is_next is_accepted is_tally =
      subst (λ (s : List (List ℕ) × ℕ × Tally). BatchComes gives kind files desk lines summary from s.0 s.1 s.2 to) (λ i. (sym is_next i, sym is_accepted i, sym is_tally i))
      (behind line left accepted tally mid it to (subst (λ ls. BatchComes gives kind files desk lines summary from ls accepted tally mid) cut come) does)

  pub batch_goes : (rest : List (List ℕ)) (accepted : ℕ) (so_far tally : Tally) (mid to : Footing S g) (it : Told) → BatchComes gives kind files desk lines summary from rest accepted so_far mid → rest ≡ []
      → OnlyWrites (text_of (Processed accepted)) mid to → it ≡ told.Processed → tally ≡ tallied_told so_far it → BatchGoes gives kind files desk lines summary from to tally
  batch_goes rest accepted so_far tally mid to it come none writes is counts = record {
    accepted = accepted;
    so_far = so_far;
    mid = mid;
    comes = subst (λ ls. BatchComes gives kind files desk lines summary from ls accepted so_far mid) none come;
    writes = writes;
    counted = subst (λ t. tally ≡ tallied_told so_far t) is counts;
  }
