-- A line of a live host's console, by how it is read.
use Rattle.std.proofs.Common.{◌≡◌, ℕ, List, Option, Result, Ok, Err, inl, inr, subst}
use Rattle.std.specs.Prelude.{IfOk}
use Rattle.bt_mapkind.specs.declared.attr.MapAttr.{MapAttr}
use Rattle.bt_mapkind.specs.Seen.{Seen}
use Rattle.journal_model.specs.Book.{PlainBook}
use Rattle.journal_model.specs.Run.{PlainEvent}
use Rattle.bt_without.specs.declared.events.Answer.{Answer as EventAnswer}
use Rattle.thread_lock.specs.declared.sequential.Sequential.{Ghosts}
use Rattle.bt_desk.specs.declared.desk.Desk.{Desk}
use Rattle.bt_syntax.specs.Files.{batch_at}
use Rattle.bt_syntax.specs.Steps.{line_read}
use Rattle.bt_syntax.specs.declared.fault.SyntaxFault.{SyntaxFault}
use Rattle.bt_syntax.specs.declared.files.FileText.{FileText}
use Rattle.console_answer.specs.declared.fault.Fault.TheVariants.{NoMemory}
use Rattle.bt_console.specs.declared.supply.NoBox.{NoBox}
use Rattle.console_script.specs.declared.summary.Summary.{Summary}
use Rattle.console_script.specs.declared.tally.Tally.{Tally}
use Rattle.console_live_words.specs.LiveLines.{live_read}
use Rattle.console_live_words.specs.declared.command.LiveCommand.{LiveCommand}
use Rattle.thread_live.specs.declared.traffic.Traffic.{Traffic}
use Rattle.thread_live.specs.Footings.{Footing}
use Rattle.thread_live.specs.Lines.{IsRefused, ScriptBy, ScriptGoes, GoesBy, LineGoes}

module _ {K S E : Type 0} {g : Ghosts PlainBook PlainEvent EventAnswer} (gives : S → MapAttr → Result K NoBox → S → Type 0) (kind : K → Seen) (files : List FileText) (desk : Desk K)
    (line : List ℕ) (summary : Summary) (from to : Footing S g) where
  -- by the file of its batch
  pub script_by : (r : Result Tally E) (batch : Option (Option (List ℕ))) → batch ≡ batch_at files (line_read line) → IfOk r (λ tally. ScriptBy gives kind files desk line batch summary from to tally)
      → IfOk r (λ tally. ScriptGoes gives kind files desk line summary from to tally)
  script_by r batch is = subst (λ it. IfOk r (λ tally. ScriptBy gives kind files desk line it summary from to tally)) is

module _ {K S E : Type 0} {g : Ghosts PlainBook PlainEvent EventAnswer} (gives : S → MapAttr → Result K NoBox → S → Type 0) (kind : K → Seen) (files : List FileText) (desk : Desk K)
    (traffic : Traffic) (most : ℕ) (line : List ℕ) (summary : Summary) (from to : Footing S g) where
  -- by what it is read as
  pub goes_by : (r : Result Tally E) (read : Result (Option LiveCommand) SyntaxFault) → read ≡ live_read line → IfOk r (λ tally. GoesBy gives kind files desk traffic most line read summary from to tally)
      → IfOk r (λ tally. LineGoes gives kind files desk traffic most line summary from to tally)
  goes_by (Ok tally) read is it = inr (subst (λ read. GoesBy gives kind files desk traffic most line read summary from to tally) is it)
  goes_by (Err fault) read is it = tt

  pub unread : (r : Result Tally E) → IfOk r (λ tally. IsRefused NoMemory summary from to tally) → IfOk r (λ tally. LineGoes gives kind files desk traffic most line summary from to tally)
  unread (Ok tally) it = inl it
  unread (Err fault) it = tt
