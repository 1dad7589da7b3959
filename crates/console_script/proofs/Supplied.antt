-- What a supplier that makes its boxes comes to over the lines of a script.
use Rattle.std.proofs.Common.{◌≡◌, ℕ, true, List, [], ◌∷◌, refl, ◌∙◌, ap, ◌++◌, Option, Some, None, Result, Ok, Err, inl, inr}
use Rattle.std.specs.Prelude.{◌⊎◌}
use Rattle.bt_mapkind.specs.declared.attr.MapAttr.{MapAttr}
use Rattle.bt_mapkind.specs.Seen.{Seen}
use Rattle.journal_model.specs.Blank.{Blank}
use Rattle.journal_model.specs.declared.limits.Limits.{Limits}
use Rattle.bt_syntax.specs.declared.files.FileText.{FileText}
use Rattle.console_script.specs.BlankOf.{blank_of}
use Rattle.console_script.specs.Commands.{Course}
use Rattle.console_script.specs.Supply.{GetsBox, IsAsked, LineIsSupplied}
use Rattle.console_script.specs.Supplied.{need_at, AreSupplied}
use Rattle.console_script.specs.Transcript.{Step}
use Rattle.console_script.specs.declared.summary.Summary.{Summary}
use Rattle.console_script.specs.NoBox.{NoBox}
use Rattle.console_script.specs.NoBox.TheVariants.{AtEnd, NoMemory, TooLarge}
use Rattle.console_script.proofs.Blanks.{is_fresh-fresh}
use Rattle.console_script.specs.Anew.{RunsAnew}
use Rattle.console_script.specs.Made.{new_map, new_blank, IsMade, GetsNew, AllGetNew}
use Rattle.console_script.specs.declared.fault.HostFault.{HostFault}
use Rattle.console_script.specs.declared.fault.HostFault.TheVariants.{BadDevices, BadLimits, NoMemory as NoMemoryForBook, Write}

-- the blank of a new map
blank_of-new : (attr : MapAttr) (s : Seen) → s ≡ new_map attr → blank_of s ≡ new_blank attr
blank_of-new attr s is =
    ap blank_of is ∙ ap (λ fresh. let blank : Blank = record { make = record { attr = attr; charge = (new_map attr).charge }; fresh = fresh } in blank) (is_fresh-fresh (new_map attr) refl)

module _ {S K : Type 0} (gives : S → MapAttr → Result K NoBox → S → Type 0) (seen : K → Seen) (makes : (from : S) (attr : MapAttr) (told : Result K NoBox) (to : S) → gives from attr told to → IsMade seen attr told) where
  gets_new : (from to : S) (attr : MapAttr) (course : Course) (blank : Option Blank) → IsAsked gives seen from attr course blank to → GetsNew (Some attr) course blank
  gets_new from to attr course blank it = by it.told (makes from attr it.told to it.given) it.gets
    where
      by : (told : Result K NoBox) → IsMade seen attr told → GetsBox seen attr told course blank → GetsNew (Some attr) course blank
      by (Ok kind) made gets = inl (gets ∙ ap Some (blank_of-new attr (seen kind) made))
      by (Err AtEnd) made gets = absurd made
      by (Err (TooLarge charge)) made gets = inl (gets ∙ ap (λ many. let blank : Blank = record { make = record { attr = attr; charge = many }; fresh = true } in Some blank) made)
      by (Err NoMemory) made gets = inr gets

  supplied_new : (from to : S) (need : Option MapAttr) (course : Course) (blank : Option Blank) → LineIsSupplied gives seen from need course blank to → GetsNew need course blank
  supplied_new from to None course blank (inl it) = it.none
  supplied_new from to None course blank (inr it) = it.box.none
  supplied_new from to (Some attr) course blank (inl it) = gets_new from to attr course blank it
  supplied_new from to (Some attr) course blank (inr it) = inr it.refused

  pub all_get_new : (from to : S) (run : List Step) → AreSupplied gives seen from run to → AllGetNew run
  all_get_new from to [] it = tt
  all_get_new from to (step ∷ run) it =
      (supplied_new from it.0 (need_at step.line) step.course step.blank it.1, all_get_new it.0 to run it.2)

-- what holds of the boxes of all lines
pub runs_with : (old new : Option (List ℕ)) (devices : List (List ℕ)) (limits : Limits) (P Q : List Step → Type 0) (files : List FileText) (script : List ℕ) (result : Result Summary HostFault) →
    ((run : List Step) → P run → Q run) → RunsAnew old new devices limits P files script result → RunsAnew old new devices limits Q files script result
runs_with old new devices limits P Q files script (Ok summary) implies it = record {
  book = it.book;
  opens = it.opens;
  left = it.left;
  ran = record {
    run = it.ran.run;
    boxes = implies it.ran.run it.ran.boxes;
    right = it.ran.right;
    all = it.ran.all;
    written = it.ran.written;
    book = it.ran.book;
    counts = it.ran.counts;
  };
}
runs_with old new devices limits P Q files script (Err BadDevices) implies it = it
runs_with old new devices limits P Q files script (Err BadLimits) implies it = it
runs_with old new devices limits P Q files script (Err NoMemoryForBook) implies it = it
runs_with old new devices limits P Q files script (Err Write) implies it = record {
  book = it.book;
  opens = it.opens;
  left = it.left;
  ran = record {
    run = it.ran.run;
    last = it.ran.last;
    boxes = implies (it.ran.run ++ it.ran.last ∷ []) it.ran.boxes;
    right = it.ran.right;
    front = it.ran.front;
    unwritten = it.ran.unwritten;
    cut = it.ran.cut;
    some_left = it.ran.some_left;
    written = it.ran.written;
    book = it.ran.book;
  };
}
