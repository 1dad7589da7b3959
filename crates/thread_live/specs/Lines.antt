-- What the lines of a live host's console come to.
use Rattle.std.specs.Prelude.{◌≡◌, ◌⊎◌, ℕ, List, [], ◌∷◌, Option, Some, None, Result, Ok, Err}
use Rattle.std.specs.Io.KnownBytes.{Appends}
use Rattle.bt_mapkind.specs.declared.attr.MapAttr.{MapAttr}
use Rattle.bt_mapkind.specs.Seen.{Seen}
use Rattle.journal_model.specs.Book.{PlainBook}
use Rattle.journal_model.specs.Run.{PlainEvent}
use Rattle.bt_without.specs.declared.events.Answer.{Answer as EventAnswer}
use Rattle.thread_lock.specs.declared.sequential.Sequential.{Ghosts}
use Rattle.bt_desk.specs.declared.desk.Desk.{Desk}
use Rattle.console_operand.specs.Line.{lines_of}
use Rattle.bt_syntax.specs.Files.{batch_at}
use Rattle.bt_syntax.specs.Steps.{line_read}
use Rattle.bt_syntax.specs.declared.fault.SyntaxFault.{SyntaxFault}
use Rattle.bt_syntax.specs.declared.files.FileText.{FileText}
use Rattle.console_answer.specs.Answers.{syntax_fault_of}
use Rattle.console_answer.specs.declared.answer.Answer.TheVariants.{Processed}
use Rattle.console_answer.specs.declared.fault.Fault.{Fault}
use Rattle.console_answer.specs.declared.fault.Fault.TheVariants.{NoFile, NoMemory}
use Rattle.console_answer.specs.declared.told.Told.{Told}
use Rattle.console_answer.specs.declared.told.Told.TheVariants as told
use Rattle.bt_console.specs.declared.supply.NoBox.{NoBox}
use Rattle.console_script.specs.declared.summary.Summary.{Summary}
use Rattle.console_script.specs.declared.tally.Tally.{Tally}
use Rattle.console_script.specs.Tallies.{fresh, tallied_told, lines_told, accepted_told}
use Rattle.console_script.specs.Telling.{TellsLine}
use Rattle.console_text.specs.Text.{text_of}
use Rattle.thread_at_desk.specs.Lines.{LineAt}
use Rattle.console_live_words.specs.LiveLines.{live_read}
use Rattle.console_live_words.specs.declared.command.LiveCommand.{LiveCommand}
use Rattle.console_live_words.specs.declared.command.WorkersCommand.{WorkersCommand}
use Rattle.console_live_words.specs.declared.command.LiveCommand.TheVariants.{Workers, Try, Confirm}
use Rattle.thread_live.specs.declared.traffic.Traffic.{Traffic}
use Rattle.thread_live.specs.declared.workers.Heeded.{Heeded}
use Rattle.thread_live.specs.Footings.{Footing, RefusesBy}
use Rattle.thread_live.specs.Standings.{heeded, Tells}
use Rattle.thread_live.specs.Trying.{TriesChange, ConfirmsTry}

module _ {S : Type 0} {g : Ghosts PlainBook PlainEvent EventAnswer} where
  -- nothing but a text is new
  pub record OnlyWrites (text : List ℕ) (from to : Footing S g) : Type 0 where
    pub session : to.session ≡ from.session
    pub seat : to.seat ≡ from.seat
    pub wrote : Appends from.text to.text text

  -- a line was refused without a call of the desk, and counted
  pub record IsRefused (fault : Fault) (summary : Summary) (from to : Footing S g) (tally : Tally) : Type 0 where
    pub session : to.session ≡ from.session
    pub seat : to.seat ≡ from.seat
    pub refuses : RefusesBy from.text to.text fault summary tally

module _ {K S : Type 0} {g : Ghosts PlainBook PlainEvent EventAnswer} (gives : S → MapAttr → Result K NoBox → S → Type 0) (kind : K → Seen) (files : List FileText) (desk : Desk K) where
  -- one line of a script was done at the desk, its text was written, and this was told of it
  abbrev pub Does : List ℕ → Told → Footing S g → Footing S g → Type 0
  Does line it from to = TellsLine (λ answer. LineAt gives kind files desk from.session line answer to.session from.seat to.seat) from.text to.text (Ok it)

  -- a batch has come so far: the lines that are left of it, how many were accepted, and what they came to
  pub data BatchComes (lines : List (List ℕ)) (summary : Summary) (from : Footing S g) : List (List ℕ) → ℕ → Tally → Footing S g → Type 0 where
    begins : BatchComes lines summary from lines 0 (fresh summary) from
    behind : (line : List ℕ) (left : List (List ℕ)) (accepted : ℕ) (tally : Tally) (mid : Footing S g) (it : Told) (to : Footing S g)
        → BatchComes lines summary from (line ∷ left) accepted tally mid → Does line it mid to
        → BatchComes lines summary from (lines_told left it) (accepted_told accepted it) (tallied_told tally it) to

  -- a batch was done to its end or to the first line that was refused, and then how many were accepted was told
  pub record BatchGoes (lines : List (List ℕ)) (summary : Summary) (from to : Footing S g) (tally : Tally) : Type 0 where
    pub accepted : ℕ
    pub so_far : Tally
    pub mid : Footing S g
    pub comes : BatchComes lines summary from [] accepted so_far mid
    pub writes : OnlyWrites (text_of (Processed accepted)) mid to
    pub counted : tally ≡ tallied_told so_far told.Processed

  -- a line of a script was done, by the file of its batch: it runs none, one that is not at hand, or this one
  abbrev pub ScriptBy : List ℕ → Option (Option (List ℕ)) → Summary → Footing S g → Footing S g → Tally → Type 0
  ScriptBy line None summary from to tally = (it : Told) × Does line it from to × (tally ≡ tallied_told (fresh summary) it)
  ScriptBy line (Some None) summary from to tally = IsRefused NoFile summary from to tally
  ScriptBy line (Some (Some text)) summary from to tally = BatchGoes (lines_of text) summary from to tally

  abbrev pub ScriptGoes : List ℕ → Summary → Footing S g → Footing S g → Tally → Type 0
  ScriptGoes line summary from to tally = ScriptBy line (batch_at files (line_read line)) summary from to tally

module _ {K S : Type 0} {g : Ghosts PlainBook PlainEvent EventAnswer} (desk : Desk K) (traffic : Traffic) (most : ℕ) where
  -- a line ordered the workers, what comes of that was told, and it was counted
  pub record OrdersWorkers (order : WorkersCommand) (summary : Summary) (from to : Footing S g) (tally : Tally) : Type 0 where
    pub it : Heeded
    pub session : to.session ≡ from.session
    pub tells : Tells desk traffic most from.seat to.seat from.text to.text order it
    pub counted : tally ≡ heeded summary it

  -- a command that only a live host has was heeded
  abbrev pub HeedsCommand : LiveCommand → Summary → Footing S g → Footing S g → Tally → Type 0
  HeedsCommand (Workers order) summary from to tally = OrdersWorkers order summary from to tally
  HeedsCommand (Try name seconds) summary from to tally = TriesChange name summary from to tally
  HeedsCommand (Confirm name) summary from to tally = ConfirmsTry name summary from to tally

module _ {K S : Type 0} {g : Ghosts PlainBook PlainEvent EventAnswer} (gives : S → MapAttr → Result K NoBox → S → Type 0) (kind : K → Seen) (files : List FileText) (desk : Desk K) (traffic : Traffic) (most : ℕ) where
  -- a line was answered, by the command of live hosts that it is, if it is one
  abbrev pub Heeds : List ℕ → Option LiveCommand → Summary → Footing S g → Footing S g → Tally → Type 0
  Heeds line (Some command) summary from to tally = HeedsCommand desk traffic most command summary from to tally
  Heeds line None summary from to tally = ScriptGoes gives kind files desk line summary from to tally

  -- a line was answered, as it is read
  abbrev pub GoesBy : List ℕ → Result (Option LiveCommand) SyntaxFault → Summary → Footing S g → Footing S g → Tally → Type 0
  GoesBy line (Ok found) summary from to tally = Heeds line found summary from to tally
  GoesBy line (Err fault) summary from to tally = IsRefused (syntax_fault_of fault) summary from to tally

  -- a line was answered; or there was no memory to read it
  abbrev pub LineGoes : List ℕ → Summary → Footing S g → Footing S g → Tally → Type 0
  LineGoes line summary from to tally = IsRefused NoMemory summary from to tally ⊎ GoesBy line (live_read line) summary from to tally
