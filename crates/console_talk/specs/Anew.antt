-- A talk on a new host.
use Rattle.std.specs.Prelude.{◌≡◌, ℕ, List, Option, Result, Ok}
use Rattle.journal_model.specs.Book.{PlainBook, opened}
use Rattle.console_input.specs.Named.{AreFilesOf}
use Rattle.console_input.specs.declared.fault.ReadFault.{ReadFault}
use Rattle.console_script.specs.Made.{AllGetNew}
use Rattle.console_script.specs.declared.summary.Summary.{Summary}
use Rattle.console_talk.specs.declared.manner.Manner.{Manner}
use Rattle.console_talk.specs.Talk.{Talked, with_boxes}
use Rattle.console_script.specs.Host.{device_names, limits}

-- on a host in which nothing was done, with a new map for each that a line makes
pub record TalkedAnew (may_read : List ℕ → ℕ → Result (List ℕ) ReadFault → Type 0) (manner : Manner) (input old new : Option (List ℕ)) (summary : Summary) : Type 0 where
  pub book : PlainBook
  pub opens : opened device_names limits ≡ Ok book
  pub left : PlainBook
  pub talked : Talked (with_boxes AllGetNew) (AreFilesOf may_read) manner input book tt old left tt new summary
