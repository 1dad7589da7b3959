-- What the calls of a command come to.
use Rattle.std.proofs.Common.{◌≡◌, ℕ, Bool, true, false, List, [], refl, sym, ◌∙◌, ap, subst, Option, None, Result, Ok, Err, inl, inr}
use Rattle.std.specs.Prelude.{◌⊎◌}
use Rattle.bt_mapkind.specs.declared.attr.MapAttr.{MapAttr}
use Rattle.host_state.specs.declared.change.Change.{Change}
use Rattle.journal_model.specs.Blank.{Blank}
use Rattle.journal_model.specs.declared.faults.WithoutFault.{WithoutFault}
use Rattle.journal_model.specs.declared.faults.WithoutFault.TheVariants.{NoMemory as NoMemoryToTakeOut}
use Rattle.journal_model.specs.Book.{PlainBook, OrNoMemory}
use Rattle.journal_model.specs.Without.{taken_out}
use Rattle.console_operand.specs.declared.object.Object.TheVariants.{Hex}
use Rattle.bt_syntax.specs.declared.prog.command.ProgCommand.{ProgCommand}
use Rattle.bt_syntax.specs.declared.prog.command.ProgCommand.TheVariants.{Load}
use Rattle.bt_syntax.specs.declared.command.Command.{Command}
use Rattle.console_answer.specs.Answers.{taken_out_answer}
use Rattle.console_reference.specs.References.{ToldUnlessRefused}
use Rattle.console_reference.specs.Programs.{Verdict, Judges, IsVerdict, live_maps}
use Rattle.bt_console.specs.Commands.{recorded_if, loading, prog_done, command_done, IsRightOn, IsRight, unless_refused, DoneUnlessRefused, Course, UnlessRefused, Goes, ProgGoes, CommandGoes}
use Rattle.bt_console.specs.Frames.{Console, on_book}
use Rattle.console_answer.specs.declared.answer.Answer.{Answer}
use Rattle.console_answer.specs.declared.answer.Answer.TheVariants.{Refused}
use Rattle.console_answer.specs.declared.fault.Fault.{Fault}
use Rattle.console_answer.specs.declared.fault.Fault.TheVariants.{NoMemory}

-- ---- after a reference was resolved
-- it was resolved, or an allocation failed
resolved_to : {A : Type 0} (named : Result A Fault) (x : A) → ToldUnlessRefused named (Ok x) → named ≡ Ok x
resolved_to named x (true, e) = absurd (cc)
resolved_to named x (false, e) = sym e

-- what is told of what was found
pub told_of : {A B : Type 0} (g : Result A Fault → Result B Fault) (does result : Result A Fault) (told : Result B Fault) → g (Err NoMemory) ≡ Err NoMemory → told ≡ g result → ToldUnlessRefused does result
    → ToldUnlessRefused (g does) told
told_of g does result told lost is (true, e) = (true, is ∙ ap g e ∙ lost)
told_of g does result told lost is (false, e) = (false, is ∙ ap g e)

-- what is told next, of what was found
pub told_next : {A B : Type 0} (g : Result A Fault → Result B Fault) (does : Result A Fault) (x : A) (told : Result B Fault) → ToldUnlessRefused does (Ok x) → ToldUnlessRefused (g (Ok x)) told
    → ToldUnlessRefused (g does) told
told_next g does x told found next = subst (λ named. ToldUnlessRefused (g named) told) (sym (resolved_to does x found)) next

pub told_lost : {A B : Type 0} (g : Result A Fault → Result B Fault) (does : Result A Fault) (fault : Fault) → ((why : Fault) → g (Err why) ≡ Err why) → ToldUnlessRefused does (Err fault)
    → ToldUnlessRefused (g does) (Err fault)
told_lost g does fault lost (true, e) = (true, cc)
told_lost g does fault lost (false, e) = (false, sym (lost fault) ∙ ap g e)

-- what is recorded of what was found
pub recorded_found : (b same_b : PlainBook) (does result : Result Change Fault) (blank : Option Blank) (made : PlainBook × Answer) → same_b ≡ b → ToldUnlessRefused does result
    → DoneUnlessRefused same_b (recorded_if same_b result blank) made → DoneUnlessRefused b (recorded_if b does blank) made
recorded_found b same_b does result blank made same told done =
    by told (subst (λ book. DoneUnlessRefused book (recorded_if book result blank) made) same done)
  where
    either : (refused : Bool) → made ≡ unless_refused refused b (b, Refused NoMemory) → made ≡ (b, Refused NoMemory)
    either true e = e
    either false e = e

    by : ToldUnlessRefused does result → DoneUnlessRefused b (recorded_if b result blank) made → DoneUnlessRefused b (recorded_if b does blank) made
    by (true, e) (refused, d) = (true, either refused (d ∙ ap (λ r. unless_refused refused b (recorded_if b r blank)) e))
    by (false, e) d = subst (λ r. DoneUnlessRefused b (recorded_if b r blank) made) e d

-- what is done of what was found, on the book that was asked
pub done_found : {A : Type 0} (does : PlainBook → Result A Fault → PlainBook × Answer) (b same_b : PlainBook) (named : Result A Fault) (x : A) (made : PlainBook × Answer) → same_b ≡ b → ToldUnlessRefused named (Ok x)
    → DoneUnlessRefused same_b (does same_b (Ok x)) made → DoneUnlessRefused b (does b named) made
done_found does b same_b named x made same told done =
    subst (λ n. DoneUnlessRefused b (does b n) made) (sym (resolved_to named x told)) (subst (λ book. DoneUnlessRefused book (does book (Ok x)) made) same done)

same_fault_told : {A : Type 0} (named : Result A Fault) (fault : Fault) → named ≡ Err NoMemory → named ≡ Err fault → fault ≡ NoMemory
same_fault_told named fault none told = cc (none, told)

pub done_lost : {A : Type 0} (does : PlainBook → Result A Fault → PlainBook × Answer) (b same_b : PlainBook) (named : Result A Fault) (fault : Fault) → ((why : Fault) → does b (Err why) ≡ (b, Refused why)) → same_b ≡ b
    → ToldUnlessRefused named (Err fault) → DoneUnlessRefused b (does b named) (same_b, Refused fault)
done_lost does b same_b named fault lost same (true, e) = (true, λ i. (same i, Refused (same_fault_told (Err fault) fault e refl i)))
done_lost does b same_b named fault lost same (false, e) = (false, (λ i. (same i, Refused fault)) ∙ sym (lost fault) ∙ ap (does b) e)

-- ---- a taking out
abbrev told_of_taking_out : PlainBook × Result ℕ WithoutFault → PlainBook × Answer
told_of_taking_out made = (made.0, taken_out_answer made.1)

pub taken_out_or_not : (b left : PlainBook) (serial : ℕ) (told : Result ℕ WithoutFault) → OrNoMemory b NoMemoryToTakeOut (taken_out b serial) (left, told)
    → DoneUnlessRefused b ((taken_out b serial).0, taken_out_answer (taken_out b serial).1) (left, taken_out_answer told)
taken_out_or_not b left serial told (true, e) = (true, ap told_of_taking_out e)
taken_out_or_not b left serial told (false, e) = (false, ap told_of_taking_out e)

-- ---- a command that loads no program
-- any verdict will do
abbrev pub no_verdict : Verdict
no_verdict = Err NoMemory

abbrev pub course_of : Bool → Course
course_of refused = record { refused = refused; verdict = no_verdict; wants = [] }

unless : {P : Type 0} (refused : Bool) → P → UnlessRefused refused P
unless true p = tt
unless false p = p

pub goes_plainly : {S : Type 0} (right : Course → Type 0) (s : S) (done : Course → S × Answer) (made : S × Answer) → right (course_of false) → right (course_of true) → done (course_of true) ≡ done (course_of false) →
    DoneUnlessRefused s (done (course_of false)) made → Goes right s done made
goes_plainly right s done made holds held same (true, e) = record { course = course_of true; holds = tt; is = e }
goes_plainly right s done made holds held same (false, e) = record { course = course_of false; holds = holds; is = e }

pub prog_of : (b : PlainBook) (command it : ProgCommand) (made : PlainBook × Answer) → command ≡ it → IsRightOn b no_verdict it → DoneUnlessRefused b (prog_done b no_verdict it) made → ProgGoes b command made
prog_of b command it made is holds done =
    subst (λ named. ProgGoes b named made) (sym is) (goes_plainly (λ course. IsRightOn b course.verdict it) b (λ course. prog_done b course.verdict it) made holds holds refl done)

-- a command on the book alone
on_book_done : (s : Console) (refused : Bool) (done : PlainBook × Answer) → on_book s (unless_refused refused s.book done) ≡ unless_refused refused s (on_book s done)
on_book_done s true done = refl
on_book_done s false done = refl

pub of_book : (s : Console) (done made : PlainBook × Answer) → DoneUnlessRefused s.book done made → DoneUnlessRefused s (on_book s done) (on_book s made)
of_book s done made (refused, e) = (refused, ap (λ d. on_book s d) e ∙ on_book_done s refused done)

pub goes_on_book : (s : Console) (right : Course → Type 0) (done : Course → PlainBook × Answer) (made : PlainBook × Answer) → Goes right s.book done made → Goes right s (λ course. on_book s (done course)) (on_book s made)
goes_on_book s right done made it =
    record { course = it.course; holds = it.holds; is = ap (λ d. on_book s d) it.is ∙ on_book_done s it.course.refused (done it.course) }

pub command_of : (s : Console) (command it : Command) (blank : Option Blank) (done made : PlainBook × Answer) → command ≡ it → IsRight s.book (course_of false) it → IsRight s.book (course_of true) it →
    command_done s (course_of true) it blank ≡ on_book s done → command_done s (course_of false) it blank ≡ on_book s done → DoneUnlessRefused s.book done made → CommandGoes s command blank (on_book s made)
command_of s command it blank done made is holds held does plain by_book =
    subst (λ named. CommandGoes s named blank (on_book s made)) (sym is)
    (goes_plainly (λ course. IsRight s.book course it) s (λ course. command_done s course it blank) (on_book s made) holds held (does ∙ sym plain)
    (subst (λ d. DoneUnlessRefused s d (on_book s made)) (sym plain) (of_book s done made by_book)))

-- ---- a program that is loaded
-- an allocation failed, or the verdict is right
judged : (maps : List (ℕ × MapAttr)) (bytes : List ℕ) (verdict : Verdict) → Judges maps bytes verdict → (verdict ≡ Err NoMemory) ⊎ IsVerdict maps bytes verdict
judged maps bytes (Ok code) h = inr h
judged maps bytes (Err NoMemory) h = inl refl
judged maps bytes (Err _) h = inr h

pub load_goes : (b same_b : PlainBook) (bytes path : List ℕ) (verdict : Verdict) (told : Result Change Fault) (made : PlainBook × Answer) → same_b ≡ b → Judges (live_maps b) bytes verdict
    → ToldUnlessRefused (loading path (Hex bytes) verdict) told → DoneUnlessRefused same_b (recorded_if same_b told None) made → ProgGoes b (Load (Hex bytes) path) made
load_goes b same_b bytes path verdict told made same judges is_told done =
    elim (judged (live_maps b) bytes verdict judges) [
      | inl lost ↦ record { course = course_of true; holds = tt; is = nothing (subst (λ v. DoneUnlessRefused b (recorded_if b (loading path (Hex bytes) v) None) made) lost does) }
      | inr right ↦ record { course = record { refused = does.0; verdict = verdict; wants = [] }; holds = unless does.0 right; is = does.1 }
    ]
  where
    does : DoneUnlessRefused b (recorded_if b (loading path (Hex bytes) verdict) None) made
    does = recorded_found b same_b (loading path (Hex bytes) verdict) told None made same is_told done

    nothing : DoneUnlessRefused b (b, Refused NoMemory) made → made ≡ (b, Refused NoMemory)
    nothing (true, e) = e
    nothing (false, e) = e
