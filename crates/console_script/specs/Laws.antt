-- What holds of every script.
use Rattle.std.specs.Prelude.{List}
use Rattle.bt_syntax.specs.declared.files.FileText.{FileText}
use Rattle.bt_console.specs.Laws.{LeadsByEvents}
use Rattle.console_script.specs.Transcript.{Session, Step, after_steps}

-- the lines of a script leave the book that some events leave
abbrev pub AreOfEvents : List FileText → Session → List Step → Type 0
AreOfEvents files s run = LeadsByEvents s.console.book (after_steps files s run).console.book
