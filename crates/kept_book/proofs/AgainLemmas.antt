-- A change that was recorded is recorded again with a box of its own attributes and charge.
use Rattle.std.proofs.Common.{◌≡◌, ◌+◌, Bool, true, false, cond, not, ◌&&◌, Option, Some, None, refl, ◌∙◌, ap}
use Rattle.std.specs.Prelude.{nat_le, nat_lt}
use Rattle.host_words.specs.Spelling.{is_name}
use Rattle.bt_mapkind.specs.declared.attr.MapAttr.{MapAttr}
use Rattle.bt_mapkind.specs.declared.errno.Errno.TheVariants.{EINVAL}
use Rattle.bt_mapkind.specs.Attributes.{good}
use Rattle.host_state.specs.declared.change.Change.{Change}
use Rattle.host_state.specs.declared.change.Change.TheVariants.{Create, Load}
use Rattle.host_state.specs.declared.reply.Refusal.{Refusal}
use Rattle.host_state.specs.declared.reply.Refusal.TheVariants.{Errno, SerialsSpent, JournalFull, IdsSpent, WrongBlank, BudgetFull}
use Rattle.host_state.specs.Act.{act}
use Rattle.journal_model.specs.Plain.{now}
use Rattle.journal_model.specs.Window.{can_fold}
use Rattle.journal_model.specs.Blank.{Blank, suits}
use Rattle.journal_model.specs.Book.{PlainBook, is_full, charged, making_refusal, blank_refusal, box_refusal, refusal_of, done_as, recorded, recorded_as, recorded_unless}
use Rattle.journal_model.proofs.Attributes.{is_same_attr-Decides}
use Rattle.journal_model.proofs.Cases.{not_refused}
use Rattle.kept_book.specs.Leading.{box_of}

-- the test that may refuse stays, and what follows it refuses neither
passed_alike : (test : Bool) (x : Refusal) (o p : Option Refusal) → (o ≡ None → p ≡ None) → cond test (Some x) o ≡ None → cond test (Some x) p ≡ None
passed_alike true x o p f e = e
passed_alike false x o p f e = f e

abbrev as_kept : MapAttr → Blank → Blank
as_kept attr blank = record { make = record { attr = attr; charge = blank.make.charge }; fresh = true }

box_again : (b : PlainBook) (attr : MapAttr) (blank : Blank) → blank_refusal b attr (Some blank) ≡ None → blank_refusal b attr (Some (as_kept attr blank)) ≡ None
box_again b attr blank e =
    let over : Option Refusal = cond (nat_lt b.limits.budget (charged b + blank.make.charge)) (Some BudgetFull) None in
    let suit : suits attr (as_kept attr blank) ≡ true = (is_same_attr-Decides attr attr).1 refl in
    ap (λ t. cond (not t) (Some WrongBlank) over) suit ∙ not_refused (not (suits attr blank)) WrongBlank over e

-- nothing refuses the change as it was done, and it is done so again
pub record IsAgain (b : PlainBook) (it : Change) : Type 0 where
  pub refusal : refusal_of b it (box_of it) ≡ None
  pub done : done_as b it (box_of it) ≡ it

-- what makes neither a map nor a program comes with no box
no_box : (b : PlainBook) (blank : Blank) (o : Option Refusal) → o ≡ box_refusal (Some blank) → cond (nat_le b.limits.last_serial b.last_serial) (Some SerialsSpent) (cond (is_full b && not (can_fold b.line)) (Some JournalFull) o) ≡ None → ⊥
no_box b blank o is e =
    let none : o ≡ None = not_refused (is_full b && not (can_fold b.line)) JournalFull o (not_refused (nat_le b.limits.last_serial b.last_serial) SerialsSpent _ e) in
    cc

pub again : (b : PlainBook) (change : Change) (blank : Option Blank) → refusal_of b change blank ≡ None → IsAgain b (done_as b change blank)
again b (Create id attr charge name path template) (Some blank) e = record {
  refusal = passed_alike (nat_le b.limits.last_serial b.last_serial) SerialsSpent _ _
      (passed_alike (is_full b && not (can_fold b.line)) JournalFull _ _
      (passed_alike (nat_le b.limits.last_id b.last_map) IdsSpent _ _
      (passed_alike (not (good attr && is_name name)) (Errno EINVAL) _ _ (box_again b attr blank)))) e;
  done = refl;
}
again b (Create id attr charge name path template) None e =
    let making : making_refusal b (Create id attr charge name path template) None ≡ None =
    not_refused (is_full b && not (can_fold b.line)) JournalFull _ (not_refused (nat_le b.limits.last_serial b.last_serial) SerialsSpent _ e) in
    let no_blank : blank_refusal b attr None ≡ None =
    not_refused (not (good attr && is_name name)) (Errno EINVAL) _ (not_refused (nat_le b.limits.last_id b.last_map) IdsSpent _ making) in
    let no : ⊥ = cc in
    absurd no
again b (Load id code name path) (Some blank) e =
    let making : making_refusal b (Load id code name path) (Some blank) ≡ None =
    not_refused (is_full b && not (can_fold b.line)) JournalFull _ (not_refused (nat_le b.limits.last_serial b.last_serial) SerialsSpent _ e) in
    let no_blank : box_refusal (Some blank) ≡ None = not_refused (nat_le b.limits.last_id b.last_prog) IdsSpent _ making in
    let no : ⊥ = cc in
    absurd no
again b (Load id code name path) None e = record { refusal = e; done = refl }
again b _ (Some blank) e = absurd (no_box b blank (Some WrongBlank) refl e)
again b _ None e = record { refusal = e; done = refl }

-- so it is recorded again
pub recorded_again : (b : PlainBook) (change : Change) (blank : Option Blank) → refusal_of b change blank ≡ None →
    recorded b (done_as b change blank) (box_of (done_as b change blank)) ≡ recorded_as b (done_as b change blank) (act (now b.line) (done_as b change blank))
recorded_again b change blank e =
    let it : Change = done_as b change blank in
    let a : IsAgain b it = again b change blank e in
    ap (λ o. recorded_unless o b (done_as b it (box_of it))) a.refusal ∙ ap (λ (x : Change). recorded_as b x (act (now b.line) x)) a.done
