-- What was looked at for a serial, written.
use Rattle.std.specs.Prelude.{◌≡◌, ℕ, List, ◌++◌, Option, Result, Ok, Err, IfOk}
use Rattle.std.specs.Io.KnownBytes.{Appends}
use Rattle.std.specs.declared.alloc.AllocError.{AllocError}
use Rattle.journal_model.specs.Book.{PlainBook}
use Rattle.console_answer.specs.declared.fault.Fault.TheVariants.{NoMemory as IsNoMemory}
use Rattle.console_text.specs.Text.{fault_text}
use Rattle.console_looks.specs.Shown.{shown_in}
use Rattle.console_looks.specs.LookText.{shown_text}
use Rattle.console_looks.specs.declared.shown.Showing.{Showing}

abbrev pub looked_text : Result Showing AllocError → List ℕ
looked_text (Ok it) = shown_text it
looked_text (Err no_memory) = fault_text IsNoMemory

module _ (serial : ℕ) (b : PlainBook) (old new : Option (List ℕ)) where
  -- this is what there is to show of a serial, or there was no memory to look; it was written
  pub record ShowsLooked (looked : Result Showing AllocError) : Type 0 where
    pub is : IfOk looked (λ it. it ≡ shown_in serial b)
    pub written : Appends old new (looked_text looked)

  -- what there is to show of a serial was written, or that there was no memory to look
  pub record ShowsSerial : Type 0 where
    pub looked : Result Showing AllocError
    pub shows : ShowsLooked looked

  -- of that a front was written, or all
  pub record ShowsFront : Type 0 where
    pub looked : Result Showing AllocError
    pub is : IfOk looked (λ it. it ≡ shown_in serial b)
    pub written : List ℕ
    pub unwritten : List ℕ
    pub cut : looked_text looked ≡ written ++ unwritten
    pub appends : Appends old new written
