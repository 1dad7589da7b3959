-- A line that was not read for lack of memory.
use Rattle.std.proofs.Common.{◌≡◌, ◌∙◌, ℕ, ◌<◌, ◌≤◌, List, [], length, refl, sym, ap, Option, None, Result, Ok, Err, inl, inr}
use Rattle.std.specs.Prelude.{IfOk, OnErr}
use Rattle.std.proofs.lemmas.Bool.{cases_lt, le-ltb}
use Rattle.console_operand.specs.Word.{words}
use Rattle.bt_syntax.specs.Steps.{line_read}
use Rattle.bt_syntax.specs.declared.command.Command.{Command}
use Rattle.bt_syntax.specs.declared.fault.SyntaxFault.{SyntaxFault}
use Rattle.bt_syntax.specs.declared.fault.SyntaxFault.TheVariants.{TooLong, NoMemory as NoMemoryToRead}
use Rattle.bt_syntax.specs.declared.files.FileText.{FileText}
use Rattle.console_answer.specs.declared.fault.Fault.{Fault}
use Rattle.console_answer.specs.declared.fault.Fault.TheVariants.{NoMemory}
use Rattle.console_script.specs.Lines.{with_files}
use Rattle.thread_at_desk.specs.Lines.{ReadsAs}

-- it is not too long, since such a line takes none
abbrev gone_wrong : SyntaxFault → Result (Option Command) SyntaxFault
gone_wrong fault = Err fault

pub not_too_long : (fault : SyntaxFault) (n : ℕ) → (131072 < n → gone_wrong fault ≡ gone_wrong TooLong) → fault ≡ NoMemoryToRead → n ≤ 131072
not_too_long fault n long wanted = elim (cases_lt 131072 n) [
  | inl above ↦ absurd (let e : gone_wrong fault ≡ gone_wrong TooLong = long above in cc)
  | inr within ↦ within
]

-- without words it reads so without memory
wordless : (line : List ℕ) → length line ≤ 131072 → words line ≡ [] → line_read line ≡ Ok None
wordless line short none = rw (le-ltb 131072 (length line) short, none) refl

pub reads_none : (files : List FileText) (line : List ℕ) (read : Result (Option Command) Fault) → length line ≤ 131072 → IfOk read (λ found. (found ≡ None) × (words line ≡ [])) → OnErr read (read ≡ Err NoMemory) → ReadsAs files line read
reads_none files line (Ok found) short none wanted =
    ap (with_files files) (wordless line short none.1) ∙ ap (λ (it : Option Command). let read : Result (Option Command) SyntaxFault = Ok it in read) (sym none.0)
reads_none files line (Err why) short none wanted = inl (cc)
