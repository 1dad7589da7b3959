-- What a command comes to with what it gets of a supplier.
use Rattle.std.proofs.Common.{◌≡◌, ℕ, true, refl, sym, subst, Option, Some, None, Result, Ok, Err}
use Rattle.bt_mapkind.specs.declared.attr.MapAttr.{MapAttr}
use Rattle.bt_mapkind.specs.Seen.{Seen}
use Rattle.journal_model.specs.Blank.{Blank}
use Rattle.bt_without.specs.Recording.{AreBlanks}
use Rattle.bt_syntax.specs.Needs.{made_by}
use Rattle.bt_syntax.specs.declared.command.Command.{Command}
use Rattle.console_answer.specs.declared.answer.Answer.{Answer}
use Rattle.console_answer.specs.declared.answer.Answer.TheVariants.{Refused}
use Rattle.console_answer.specs.declared.fault.Fault.TheVariants.{NoMemory}
use Rattle.bt_console.specs.declared.supply.NoBox.{NoBox}
use Rattle.bt_console.specs.declared.supply.NoBox.TheVariants.{AtEnd, NoMemory as NoMemoryForBox, TooLarge}
use Rattle.bt_console.specs.BlankOf.{blank_of}
use Rattle.bt_console.specs.Commands.{CommandGoes}
use Rattle.bt_console.specs.Frames.{Console}
use Rattle.bt_console.specs.Supply.{unmade, IsNotAsked, IsSupplied, CommandRuns}
use Rattle.bt_console.proofs.Blanks.{is_blank_of}
use Rattle.bt_console.proofs.Commanded.{course_of}

-- it was not asked
pub not_asked : {S : Type 0} (from : S) → IsNotAsked from None from
not_asked from = record { none = refl; same = refl }

module _ {S K : Type 0} (gives : S → MapAttr → Result K NoBox → S → Type 0) (seen : K → Seen) (c : Console) (from to : S) where
  -- what a command did, whatever blank its box has
  abbrev pub Goes : Command → Option K → Console × Answer → Type 0
  Goes command box made = (plain : Option Blank) → AreBlanks seen box plain → CommandGoes c command plain made

  pub ran_without : (command : Command) (made : Console × Answer) → made_by command ≡ None → Goes command None made → CommandRuns gives seen c from command made from
  ran_without command made none goes =
      let it = goes None tt in
      record {
        course = it.course;
        blank = None;
        holds = it.holds;
        is = it.is;
        box = subst (λ need. IsSupplied gives seen from need it.course None from) (sym none) (not_asked from);
      }

  pub ran_with : (command : Command) (attr : MapAttr) (box : K) (made : Console × Answer) → made_by command ≡ Some attr → gives from attr (Ok box) to → Goes command (Some box) made →
      CommandRuns gives seen c from command made to
  ran_with command attr box made some given goes =
      let it = goes (Some (blank_of (seen box))) (is_blank_of (seen box)) in
      record {
        course = it.course;
        blank = Some (blank_of (seen box));
        holds = it.holds;
        is = it.is;
        box = subst (λ need. IsSupplied gives seen from need it.course (Some (blank_of (seen box))) to) (sym some) (record { told = Ok box; given = given; gets = refl });
      }

  pub ran_at_end : (command : Command) (attr : MapAttr) (made : Console × Answer) → made_by command ≡ Some attr → gives from attr (Err AtEnd) to → Goes command None made →
      CommandRuns gives seen c from command made to
  ran_at_end command attr made some given goes =
      let it = goes None tt in
      record {
        course = it.course;
        blank = None;
        holds = it.holds;
        is = it.is;
        box = subst (λ need. IsSupplied gives seen from need it.course None to) (sym some) (record { told = Err AtEnd; given = given; gets = refl });
      }

  pub ran_too_large : (command : Command) (attr : MapAttr) (charge : ℕ) (made : Console × Answer) → made_by command ≡ Some attr → gives from attr (Err (TooLarge charge)) to → CommandGoes c command (Some (unmade attr charge)) made →
      CommandRuns gives seen c from command made to
  ran_too_large command attr charge made some given it = record {
    course = it.course;
    blank = Some (unmade attr charge);
    holds = it.holds;
    is = it.is;
    box = subst (λ need. IsSupplied gives seen from need it.course (Some (unmade attr charge)) to) (sym some) (record { told = Err (TooLarge charge); given = given; gets = refl });
  }

  pub ran_no_memory : (command : Command) (attr : MapAttr) → made_by command ≡ Some attr → gives from attr (Err NoMemoryForBox) to → CommandRuns gives seen c from command (c, Refused NoMemory) to
  ran_no_memory command attr some given = record {
    course = course_of true;
    blank = None;
    holds = tt;
    is = refl;
    box = subst (λ need. IsSupplied gives seen from need (course_of true) None to) (sym some) (record { told = Err NoMemoryForBox; given = given; gets = refl });
  }
