-- Lines on the book that a file keeps.
use Rattle.std.proofs.Common.{◌≡◌, inl, inr, Bool, true, false, ℕ, List, Option, Some, None, Result, Ok, Err, refl, sym, subst, ◌∙◌}
use Rattle.std.specs.Prelude.{IfOk}
use Rattle.std.specs.Io.KnownBytes.{Appends}
use Rattle.sqlite.specs.declared.error.Error.{Error}
use Rattle.host_words.specs.Spelling.{is_name}
use Rattle.bt_roots.specs.View.{devices_are_good}
use Rattle.journal_model.specs.Book.{fresh_book}
use Rattle.bt_syntax.specs.declared.files.FileText.{FileText}
use Rattle.console_operand.specs.Line.{lines_of}
use Rattle.console_answer.specs.declared.fault.Fault.TheVariants.{NotInForce}
use Rattle.console_text.specs.Text.{fault_text}
use Rattle.console_script.specs.Anew.{RunsAnew}
use Rattle.console_script.specs.Made.{AllGetNew}
use Rattle.console_script.specs.declared.summary.Summary.{Summary}
use Rattle.console_input.specs.Book.{Asked, Line}
use Rattle.console_looks.specs.declared.look.Look.{Look}
use Rattle.kept_log.specs.declared.line.LogLine.{LogLine}
use Rattle.console_input.specs.declared.fault.ReadFault.{ReadFault}
use Rattle.kept_lines.specs.declared.range.SerialRange.{SerialRange}
use Rattle.kept_host.specs.declared.range.taken.Taken.{Taken}
use Rattle.kept_host.specs.declared.range.taken.Taken.TheVariants.{NoneInForce}
use Rattle.kept_host.specs.Asks.{only_ask}
use Rattle.kept_host.specs.HostTerms.{host_terms}
use Rattle.kept_host.specs.Ranges.{TakesOpened}
use Rattle.kept_lines.specs.declared.databases.Database.{Database}
use Rattle.console_script.specs.Host.{device_names, limits}
use Rattle.kept_host.specs.Taking.{counts_taken}
use Rattle.bpfcon.specs.Book.{IsScriptAsked, IsOfNone, RunsOn, RanOn, LooksAnew, LooksOn, LogsOn, Refuses, TookAnew, TakesOn, DidLine}

-- a file is not there, and a script was asked whether it only asks
pub asks_none : (may_be_there : Bool → Type 0) (text : List ℕ) (asks : Bool) → asks ≡ only_ask (lines_of text) → may_be_there false → IsOfNone may_be_there text asks
asks_none may_be_there text true is it = (it, sym is)
asks_none may_be_there text false is it = inr (sym is)

module _ (may_be_there : List ℕ → Bool → Type 0) (may_open : List ℕ → Result Database Error → Type 0) (may_be_time : ℕ → Type 0) (may_read : List ℕ → ℕ → Result (List ℕ) ReadFault → Type 0) (old new : Option (List ℕ)) (file : List ℕ) where
  pub ran_on : {E : Type 0} (r : Result Summary E) (asked : Asked) (text : List ℕ) (files : List FileText) → IsScriptAsked may_read asked text files
      → IfOk r (RunsOn (may_be_there file) (may_open file) may_be_time files text old new) → IfOk r (λ summary. RanOn may_be_there may_open may_be_time may_read old new summary file asked)
  ran_on (Ok summary) asked text files script it = record { text = text; files = files; script = script; ran = it }
  ran_on (Err fault) asked text files script it = tt

  -- ---- a line
  module _ {E : Type 0} (line : List ℕ) (log : Option LogLine) (range : Option SerialRange) (look : Option Look) (r : Result Summary E) where
    pub told_line : (it : LogLine) → Some it ≡ log → IfOk r (LogsOn (may_be_there file) (may_open file) it old new) → IfOk r (λ summary. DidLine may_be_there may_open may_be_time may_read old new summary file line log range look)
    told_line it is told = subst (λ (l : Option LogLine). IfOk r (λ summary. DidLine may_be_there may_open may_be_time may_read old new summary file line l range look)) is told

    pub took_line : (it : SerialRange) → None ≡ log → Some it ≡ range → IfOk r (TakesOn (may_be_there file) (may_open file) may_be_time it old new) → IfOk r (λ summary. DidLine may_be_there may_open may_be_time may_read old new summary file line log range look)
    took_line it untold is took =
        subst (λ (l : Option LogLine). IfOk r (λ summary. DidLine may_be_there may_open may_be_time may_read old new summary file line l range look)) untold
        (subst (λ (s : Option SerialRange). IfOk r (λ summary. DidLine may_be_there may_open may_be_time may_read old new summary file line None s look)) is took)

    pub looked_line : (it : Look) → None ≡ log → None ≡ range → Some it ≡ look → IfOk r (LooksOn (may_be_there file) (may_open file) it old new) → IfOk r (λ summary. DidLine may_be_there may_open may_be_time may_read old new summary file line log range look)
    looked_line it untold untaken is looked =
        subst (λ (l : Option LogLine). IfOk r (λ summary. DidLine may_be_there may_open may_be_time may_read old new summary file line l range look)) untold
        (subst (λ (s : Option SerialRange). IfOk r (λ summary. DidLine may_be_there may_open may_be_time may_read old new summary file line None s look)) untaken
        (subst (λ (l : Option Look). IfOk r (λ summary. DidLine may_be_there may_open may_be_time may_read old new summary file line None None l)) is looked))

    -- one that asks for none of these was run
    pub ran_line : None ≡ log → None ≡ range → None ≡ look → IfOk r (λ summary. RanOn may_be_there may_open may_be_time may_read old new summary file (Line line)) → IfOk r (λ summary. DidLine may_be_there may_open may_be_time may_read old new summary file line log range look)
    ran_line untold untaken unlooked ran =
        subst (λ (l : Option LogLine). IfOk r (λ summary. DidLine may_be_there may_open may_be_time may_read old new summary file line l range look)) untold
        (subst (λ (s : Option SerialRange). IfOk r (λ summary. DidLine may_be_there may_open may_be_time may_read old new summary file line None s look)) untaken
        (subst (λ (l : Option Look). IfOk r (λ summary. DidLine may_be_there may_open may_be_time may_read old new summary file line None None l)) unlooked ran))

-- a range was taken out of the book of a file
pub took_on : (may_be_there : Bool → Type 0) (may_open : Result Database Error → Type 0) (may_be_time : ℕ → Type 0) (range : SerialRange) (old new : Option (List ℕ)) → may_be_there true → (taken : Taken) → TakesOpened may_open may_be_time host_terms range old new (Ok taken)
    → (summary : Summary) → summary ≡ counts_taken taken → TakesOn may_be_there may_open may_be_time range old new summary
took_on may_be_there may_open may_be_time range old new is taken took summary counts = inl (is, record { taken = taken; took = took; counts = counts })

-- of a new host none of it is in force
took_anew : (range : SerialRange) (old new : Option (List ℕ)) (summary : Summary) → Appends old new (fault_text NotInForce) → summary ≡ counts_taken NoneInForce → TookAnew range old new summary
unfolding devices_are_good is_name
took_anew range old new summary wrote counts = record { book = fresh_book device_names limits; opens = refl; comes = (refl, wrote); counts = counts }

pub taken_anew : {E : Type 0} (may_be_there : Bool → Type 0) (may_open : Result Database Error → Type 0) (may_be_time : ℕ → Type 0) (range : SerialRange) (old new : Option (List ℕ)) (r : Result Summary E) → may_be_there false → IfOk r (Refuses NotInForce old new)
    → IfOk r (TakesOn may_be_there may_open may_be_time range old new)
taken_anew may_be_there may_open may_be_time range old new (Ok summary) is it = inr (is, took_anew range old new summary it.text it.counts)
taken_anew may_be_there may_open may_be_time range old new (Err fault) is it = tt

-- a look was told of a new host
pub looked_anew : {E : Type 0} (may_be_there : Bool → Type 0) (may_open : Result Database Error → Type 0) (look : Look) (old new : Option (List ℕ)) (r : Result Summary E) → may_be_there false → IfOk r (LooksAnew look old new)
    → IfOk r (LooksOn may_be_there may_open look old new)
looked_anew may_be_there may_open look old new (Ok summary) is it = inr (is, it)
looked_anew may_be_there may_open look old new (Err fault) is it = tt

-- a script that only asks was run on a new host
pub ran_anew : {E : Type 0} (may_be_there : Bool → Type 0) (may_open : Result Database Error → Type 0) (may_be_time : ℕ → Type 0) (old new : Option (List ℕ)) (r : Result Summary E) (text : List ℕ) (files : List FileText) → IsOfNone may_be_there text true
    → IfOk r (λ summary. RunsAnew old new device_names limits AllGetNew files text (Ok summary)) → IfOk r (RunsOn may_be_there may_open may_be_time files text old new)
ran_anew may_be_there may_open may_be_time old new (Ok summary) text files is it = inr (is, it)
ran_anew may_be_there may_open may_be_time old new (Err fault) text files is it = tt
