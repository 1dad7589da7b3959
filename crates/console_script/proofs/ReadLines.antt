-- What a line comes to with what it gets of a supplier: one that was read, and one that was not.
use Rattle.std.proofs.Common.{◌≡◌, ℕ, ◌≤◌, Bool, true, false, if◌then◌else◌, List, [], ◌∷◌, length, refl, sym, ◌∙◌, ap, subst, IsNone, Option, Some, None, Result, Ok, Err, inl, inr}
use Rattle.std.specs.Prelude.{◌&&◌}
use Rattle.std.proofs.lemmas.Bool.{le-leb, le-ltb, true≢false}
use Rattle.bt_mapkind.specs.declared.attr.MapAttr.{MapAttr}
use Rattle.bt_mapkind.specs.Seen.{Seen}
use Rattle.journal_model.specs.Blank.{Blank}
use Rattle.console_operand.specs.Word.{words}
use Rattle.bt_syntax.specs.Files.{opened}
use Rattle.bt_syntax.specs.Needs.{made_by, need_in}
use Rattle.bt_syntax.specs.Steps.{line_read}
use Rattle.bt_syntax.specs.declared.command.Command.{Command}
use Rattle.bt_syntax.specs.declared.command.Command.TheVariants as c
use Rattle.bt_syntax.specs.declared.files.FileText.{FileText}
use Rattle.bt_syntax.specs.declared.fault.SyntaxFault.{SyntaxFault}
use Rattle.console_answer.specs.Answers.{syntax_fault_of}
use Rattle.console_answer.specs.declared.answer.Answer.{Answer}
use Rattle.console_answer.specs.declared.answer.Answer.TheVariants.{Refused}
use Rattle.console_answer.specs.declared.fault.Fault.TheVariants.{NoMemory}
use Rattle.bt_console.specs.declared.supply.NoBox.{NoBox}
use Rattle.bt_console.specs.Commands.{command_done, unless_refused, UnlessRefused, Course}
use Rattle.bt_console.specs.Frames.{Console}
use Rattle.bt_console.specs.Supply.{IsSupplied, CommandRuns, LineRuns}
use Rattle.bt_console.specs.Lines.{answered, has_any, takes_memory, with_files, read_done, line_done, unread_answer, IsRightRead}
use Rattle.bt_console.proofs.Commanded.{course_of}
use Rattle.bt_console.proofs.Supplying.{not_asked}

-- a command was read
pub none_read : (command : Command) → IsNone (Some command) → ⊥
none_read command none = true≢false none

-- what a command makes, whatever file it names
made_opened : (files : List FileText) (command : Command) → made_by (opened files command) ≡ made_by command
made_opened files (c.Map command) = refl
made_opened files (c.Prog command) = refl
made_opened files (c.Net command) = refl
made_opened files (c.Batch path) = refl
made_opened files (c.Unpin path) = refl
made_opened files (c.Frame it) = refl
made_opened files (c.Run command) = refl
made_opened files (c.Journal command) = refl

module _ {S K : Type 0} (gives : S → MapAttr → Result K NoBox → S → Type 0) (seen : K → Seen) (c : Console) (from to : S) (files : List FileText) where
  -- what a line of words that is not too long did
  line_is : (blank : Option Blank) (line : List ℕ) (course : Course) → length line ≤ 131072 → has_any (words line) ≡ true →
      line_done files course c blank line ≡ (if course.refused then (c, Some (Refused NoMemory)) else read_done c course blank (with_files files (line_read line)))
  line_is blank line course short some = by course.refused
    where
      by : (refused : Bool) → (if refused && takes_memory line then (c, Some (Refused NoMemory)) else read_done c course blank (with_files files (line_read line))) ≡ (if refused then (c, Some (Refused NoMemory)) else read_done c course blank (with_files files (line_read line)))
      by true = rw (le-leb (length line) 131072 short, some) refl
      by false = refl

  any : (ws : List (List ℕ)) → (ws ≡ [] → ⊥) → has_any ws ≡ true
  any [] some = absurd (some refl)
  any (word ∷ words) some = refl

  pub line_of_command : (line : List ℕ) (command : Command) (made : Console × Answer) → length line ≤ 131072 → (words line ≡ [] → ⊥) → line_read line ≡ Ok (Some command) → CommandRuns gives seen c from (opened files command) made to →
      LineRuns gives seen files c from line (answered made) to
  line_of_command line command made short some read it = record {
    course = it.course;
    blank = it.blank;
    holds = subst (λ found. UnlessRefused it.course.refused (IsRightRead c.book it.course (with_files files found))) (sym read) it.holds;
    is = ap answered it.is ∙ by it.course.refused ∙ sym (line_is it.blank line it.course short (any (words line) some));
    box = inl (subst (λ found. IsSupplied gives seen from (need_in found) it.course it.blank to) (sym read) (subst (λ need. IsSupplied gives seen from need it.course it.blank to) (made_opened files command) it.box));
  }
    where
      by : (refused : Bool) → answered (unless_refused refused c (command_done c it.course (opened files command) it.blank)) ≡ (if refused then (c, Some (Refused NoMemory)) else read_done c it.course it.blank (with_files files (line_read line)))
      by true = refl
      by false = ap (λ found. read_done c it.course it.blank (with_files files found)) (sym read)

  -- no word
  pub line_of_nothing : (line : List ℕ) → line_read line ≡ Ok None → LineRuns gives seen files c from line (c, None) from
  line_of_nothing line read = record {
    course = course_of false;
    blank = None;
    holds = subst (λ found. IsRightRead c.book (course_of false) (with_files files found)) (sym read) tt;
    is = ap (λ found. read_done c (course_of false) None (with_files files found)) (sym read);
    box = inl (subst (λ found. IsSupplied gives seen from (need_in found) (course_of false) None from) (sym read) (not_asked from));
  }

  -- a fault
  pub line_of_fault : (line : List ℕ) (fault : SyntaxFault) → Err fault ≡ line_read line → LineRuns gives seen files c from line (c, Some (Refused (syntax_fault_of fault))) from
  line_of_fault line fault read = record {
    course = course_of false;
    blank = None;
    holds = subst (λ found. IsRightRead c.book (course_of false) (with_files files found)) read tt;
    is = ap (λ found. read_done c (course_of false) None (with_files files found)) read;
    box = inl (subst (λ found. IsSupplied gives seen from (need_in found) (course_of false) None from) read (not_asked from));
  }

  -- lack of memory: a line without words reads so without it
  wordless : (line : List ℕ) → length line ≤ 131072 → words line ≡ [] → line_read line ≡ Ok None
  wordless line short none = rw (le-ltb 131072 (length line) short, none) refl

  pub line_unread : (line : List ℕ) → length line ≤ 131072 → LineRuns gives seen files c from line (c, unread_answer (words line)) from
  line_unread line short = by (words line) refl
    where
      by : (ws : List (List ℕ)) → words line ≡ ws → LineRuns gives seen files c from line (c, unread_answer ws) from
      by [] e = line_of_nothing line (wordless line short e)
      by (word ∷ ws) e = record {
        course = course_of true;
        blank = None;
        holds = tt;
        is = sym (line_is None line (course_of true) short (ap has_any e));
        box = inr (record { refused = refl; box = not_asked from });
      }
