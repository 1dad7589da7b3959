-- Lines one after the other: their events lead on, and their steps.
use Rattle.std.proofs.Common.{◌≡◌, ℕ, List, [], ◌++◌, Option, Some, None, Result, Ok, Err, OnOk, refl, sym, ap, ◌∙◌, append_assoc, append-nil}
use Rattle.std.specs.Prelude.{IfOk}
use Rattle.std.specs.Io.KnownBytes.{Appends}
use Rattle.bt_mapkind.specs.declared.attr.MapAttr.{MapAttr}
use Rattle.bt_mapkind.specs.Seen.{Seen}
use Rattle.journal_model.specs.Book.{PlainBook}
use Rattle.console_operand.specs.Line.{lines_of}
use Rattle.bt_syntax.specs.declared.files.FileText.{FileText}
use Rattle.console_answer.specs.declared.answer.Answer.{Answer}
use Rattle.console_answer.specs.declared.answer.Answer.TheVariants.{Processed}
use Rattle.console_answer.specs.Mishaps.{mishap_behind}
use Rattle.console_script.specs.NoBox.{NoBox}
use Rattle.console_script.specs.Frames.{Console}
use Rattle.console_script.specs.Lines.{line_text}
use Rattle.console_script.specs.declared.tally.Tally.{Tally}
use Rattle.console_script.specs.Running.{StepRuns, LeadsOn}
use Rattle.console_script.specs.Tallies.{tallied}
use Rattle.console_script.specs.Transcript.{Session, session_of}
use Rattle.console_script.proofs.StepRuns.{leads_to_then, step_to, batch_over}
use Rattle.kept_event.specs.declared.event.KeptEvent.{KeptEvent}
use Rattle.kept_book.proofs.LeadLemmas.{lead_on}
use Rattle.kept_file.specs.declared.fault.KeepFault.{KeepFault}
use Rattle.kept_lines.specs.Noting.{LeadsFurther}

pub further_none : (b : PlainBook) (events : List KeptEvent) → LeadsFurther b events b events
further_none b events = ([], sym (append-nil events), refl)

pub further_then : (b c d : PlainBook) (before mid after : List KeptEvent) → LeadsFurther b before c mid → LeadsFurther c mid d after → LeadsFurther b before d after
further_then b c d before mid after first then =
    (first.0 ++ then.0, then.1 ∙ ap (λ es. es ++ then.0) first.1 ∙ append_assoc before first.0 then.0, lead_on b c d first.0 then.0 first.2 then.2)

-- the events are as they were, and so is the book
pub further_same : (b : PlainBook) (before after : List KeptEvent) → after ≡ before → LeadsFurther b before b after
further_same b before after same = ([], same ∙ sym (append-nil before), refl)

module _ {S K : Type 0} (gives : S → MapAttr → Result K NoBox → S → Type 0) (seen : K → Seen) (files : List FileText) where
  -- a call that succeeds leads on
  abbrev pub IfLeads : S → Session → List ℕ → S → Console → List (List ℕ) → List ℕ → Result Tally KeepFault → Type 0
  IfLeads from s old to c left new result = IfOk result (λ tally. LeadsOn gives seen files from s (Some old) to (session_of c tally.summary left None) (Some new) tally.mishap)

  pub one_leads : (from to : S) (s : Session) (old new : List ℕ) (c : Console) (left : List (List ℕ)) (tally : Tally) (answer : Option Answer) (result : Result Tally KeepFault) →
      StepRuns gives seen files from s (session_of c tally.summary left None, answer) to → tally.mishap ≡ mishap_behind None answer → OnOk result (Appends (Some old) (Some new) (line_text answer)) → IfOk result (λ told. told ≡ tally) →
      IfLeads from s old to c left new result
  one_leads from to s old new c left tally answer (Ok told) it wrong wrote is =
      let r : Result Tally KeepFault = Ok told in step_to gives seen files from to s (Some old) (Some new) c left tally answer r it wrong wrote is
  one_leads from to s old new c left tally answer (Err fault) it wrong wrote is = tt

  pub leads_after : (from mid to : S) (s m : Session) (old now new : List ℕ) (c : Console) (left : List (List ℕ)) (result : Result Tally KeepFault) → LeadsOn gives seen files from s (Some old) mid m (Some now) None →
      IfLeads mid m now to c left new result → IfLeads from s old to c left new result
  leads_after from mid to s m old now new c left (Ok tally) first second =
      let r : Result Tally KeepFault = Ok tally in leads_to_then gives seen files from mid to s m (Some old) (Some now) (Some new) c left r first second
  leads_after from mid to s m old now new c left (Err fault) first second = tt

  pub batch_leads : (from now to : S) (start : Session) (old mid new : List ℕ) (c : Console) (tally : Tally) (left : List (List ℕ)) (rest : List ℕ) (accepted : ℕ)
      → LeadsOn gives seen files from start (Some old) now (session_of c tally.summary left (Some (record { left = lines_of rest; accepted = accepted }))) (Some mid) tally.mishap → (result : Result Tally KeepFault) → rest ≡ []
      → OnOk result (Appends (Some mid) (Some new) (line_text (Some (Processed accepted)))) → IfOk result (λ told. told ≡ tallied tally (Some (Processed accepted))) → IfLeads from start old now c left new result
  batch_leads from now to start old mid new c tally left rest accepted so (Ok told) end wrote is =
      let r : Result Tally KeepFault = Ok told in batch_over gives seen files from now to start (Some old) (Some mid) (Some new) c tally left rest accepted so r end wrote is
  batch_leads from now to start old mid new c tally left rest accepted so (Err fault) end wrote is = tt
