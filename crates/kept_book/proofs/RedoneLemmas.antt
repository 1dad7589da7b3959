-- What a call that does a kept event again came to.
use Rattle.std.proofs.Common.{◌≡◌, ◌≢◌, ℕ, suc, ◌+◌, ◌-◌, ◌&&◌, Bool, true, false, cond, not, is_ok, is_err, List, [], ◌∷◌, ◌++◌, length, Result, Ok, Err, Option, Some, refl, sym, ◌∙◌, ap, subst, arith, append-nil, append_assoc, length-append}
use Rattle.std.specs.Prelude.{nat_le}
use Rattle.host_words.specs.Spelling.{is_name}
use Rattle.bt_mapkind.specs.declared.attr.MapAttr.{MapAttr}
use Rattle.bt_mapkind.specs.declared.errno.Errno.TheVariants.{EINVAL}
use Rattle.bt_mapkind.specs.Attributes.{good}
use Rattle.bt_mapkind.specs.Seen.{Seen}
use Rattle.bt_objects.specs.declared.make.Make.{Make}
use Rattle.host_state.specs.declared.change.Change.{Change}
use Rattle.host_state.specs.declared.change.Change.TheVariants.{Create}
use Rattle.host_state.specs.declared.reply.Reply.{Reply}
use Rattle.host_state.specs.declared.reply.Refusal.{Refusal}
use Rattle.host_state.specs.declared.reply.Refusal.TheVariants.{Errno, SerialsSpent, JournalFull, IdsSpent, NoMemory as NoMemoryToRecord}
use Rattle.journal_model.specs.declared.faults.MarkFault.{MarkFault}
use Rattle.journal_model.specs.declared.faults.MarkFault.TheVariants.{NoMemory as NoMemoryToMark}
use Rattle.journal_model.specs.declared.faults.UndoFault.{UndoFault}
use Rattle.journal_model.specs.declared.faults.NothingToUndo.{NothingToUndo}
use Rattle.journal_model.specs.declared.faults.RedoFault.{RedoFault}
use Rattle.journal_model.specs.declared.faults.ForgetFault.{ForgetFault}
use Rattle.journal_model.specs.declared.faults.WithoutFault.{WithoutFault}
use Rattle.journal_model.specs.declared.faults.WithoutFault.TheVariants.{NoMemory as NoMemoryToTakeOut}
use Rattle.journal_model.specs.Blank.{Blank, IsBlankOf}
use Rattle.journal_model.specs.Window.{can_fold}
use Rattle.journal_model.specs.Book.{PlainBook, is_full, refusal_of, blank_refusal, done_as, recorded, recorded_unless, marked, undone_to, undone_last, redone, OrNoMemory}
use Rattle.journal_model.specs.Without.{taken_out}
use Rattle.journal_model.specs.Forget.{forgotten}
use Rattle.journal_model.specs.Run.{bookstep}
use Rattle.journal_laws.proofs.Refusing.{changes_nothing}
use Rattle.kept_event.specs.declared.event.KeptEvent.{KeptEvent}
use Rattle.kept_event.specs.declared.event.KeptEvent.TheVariants as kept
use Rattle.kept_book.specs.declared.misfit.Misfit.{Misfit}
use Rattle.kept_book.specs.declared.misfit.Misfit.TheVariants.{DoesNotFit, NoMemory}
use Rattle.kept_book.specs.declared.misfit.Stop.{Stop}
use Rattle.kept_book.specs.Boxes.{IsNewBox}
use Rattle.kept_book.specs.Leading.{box_of, event_of, new_object, is_recorded_as, is_taken_out_as, answers_as, LeadTo}
use Rattle.kept_book.specs.Redone.{IsRedone, StopsAt, fitting, recording_misfit, marking_misfit, taking_misfit, judged, NeverFits, IsBoxFor}
use Rattle.kept_book.proofs.LeadLemmas.{lead_on}

-- ---- a call that takes no memory
-- if the test of its answer is that of the kept event, the event leads on or does not fit
pub judged_by : {A E : Type 0} (e : KeptEvent) (b c : PlainBook) (made : PlainBook × Result A E) (test : Result A E → Bool) (r : Result A E) →
    answers_as e (bookstep false b (event_of e)).1 ≡ test made.1 → (bookstep false b (event_of e)).0 ≡ made.0 → (c, r) ≡ made → IsRedone b e (fitting (test r)) c
judged_by e b c made test r answer state is = by (test r) refl
  where
    by : (t : Bool) → test r ≡ t → IsRedone b e (fitting t) c
    by true passes = (answer ∙ ap (λ p. test p.1) (sym is) ∙ passes, state ∙ ap (λ p. p.0) (sym is))
    by false fails = λ due. answer ∙ ap (λ p. test p.1) (sym is) ∙ fails

pub undo_redone : (b c : PlainBook) (name : List ℕ) (r : Result ℕ UndoFault) → (c, r) ≡ undone_to b name → IsRedone b (kept.UndoneTo name) (fitting (is_ok r)) c
undo_redone b c name r is = judged_by (kept.UndoneTo name) b c (undone_to b name) is_ok r refl refl is

pub undo_last_redone : (b c : PlainBook) (r : Result (Unit {0}) NothingToUndo) → (c, r) ≡ undone_last b → IsRedone b kept.UndoneLast (fitting (is_ok r)) c
undo_last_redone b c r is = judged_by kept.UndoneLast b c (undone_last b) is_ok r refl refl is

pub redo_redone : (b c : PlainBook) (r : Result (Unit {0}) RedoFault) → (c, r) ≡ redone b → IsRedone b kept.Redone (fitting (is_ok r)) c
redo_redone b c r is = judged_by kept.Redone b c (redone b) is_ok r refl refl is

pub forget_redone : (b c : PlainBook) (name : List ℕ) (r : Result (Unit {0}) ForgetFault) → (c, r) ≡ forgotten b name → IsRedone b (kept.Forgot name) (fitting (is_ok r)) c
forget_redone b c name r is = judged_by (kept.Forgot name) b c (forgotten b name) is_ok r refl refl is

-- ---- a call that may want memory
module _ {A E : Type 0} (e : KeptEvent) (b : PlainBook) (made : PlainBook × Result A E) (test : Result A E → Bool) (misfit : E → Misfit) (no_memory : E)
    (answer : answers_as e (bookstep false b (event_of e)).1 ≡ test made.1) (state : (bookstep false b (event_of e)).0 ≡ made.0)
    (fails : (fault : E) → test (Err fault) ≡ false) (wants : misfit no_memory ≡ NoMemory) (nothing : is_err made.1 ≡ true → made.0 ≡ b) where
  pub judged_with_memory : (c : PlainBook) (r : Result A E) → OrNoMemory b no_memory made (c, r) → IsRedone b e (judged test misfit r) c
  judged_with_memory c (Ok done) (true, is) =
      let second : ◌≡◌ {A = Result A E} (Ok done) (Err no_memory) = ap (λ p. p.1) is in
      let no : ⊥ = cc in
      absurd no
  judged_with_memory c (Ok done) (false, is) = judged_by e b c made test (Ok done) answer state is
  judged_with_memory c (Err fault) (true, is) = by (misfit fault) refl
    where
      by : (m : Misfit) → misfit fault ≡ m → IsRedone b e (Err m) c
      by NoMemory m_is = ap (λ p. p.0) is
      by DoesNotFit m_is =
          let second : ◌≡◌ {A = Result A E} (Err fault) (Err no_memory) = ap (λ p. p.1) is in
          let same : fault ≡ no_memory = cc in
          let fits : DoesNotFit ≡ NoMemory = sym m_is ∙ ap misfit same ∙ wants in
          let no : ⊥ = cc in
          absurd no
  judged_with_memory c (Err fault) (false, is) = by (misfit fault)
    where
      by : (m : Misfit) → IsRedone b e (Err m) c
      by NoMemory = ap (λ p. p.0) is ∙ nothing (ap (λ p. is_err p.1) (sym is))
      by DoesNotFit = λ due. answer ∙ ap (λ p. test p.1) (sym is) ∙ fails fault

pub mark_redone : (b c : PlainBook) (name : List ℕ) (r : Result (Unit {0}) MarkFault) → OrNoMemory b NoMemoryToMark (marked b name) (c, r) → IsRedone b (kept.Marked name) (judged is_ok marking_misfit r) c
mark_redone b c name r h =
    judged_with_memory (kept.Marked name) b (marked b name) is_ok marking_misfit NoMemoryToMark refl refl (λ fault. refl) refl (changes_nothing b false (event_of (kept.Marked name))) c r h

pub taking_redone : (b c : PlainBook) (serial own : ℕ) (r : Result ℕ WithoutFault) → OrNoMemory b NoMemoryToTakeOut (taken_out b serial) (c, r) → IsRedone b (kept.TakenOut serial own) (judged (is_taken_out_as own) taking_misfit r) c
taking_redone b c serial own r h =
    judged_with_memory (kept.TakenOut serial own) b (taken_out b serial) (is_taken_out_as own) taking_misfit NoMemoryToTakeOut refl refl (λ fault. refl) refl (changes_nothing b false (event_of (kept.TakenOut serial own))) c r h

pub record_redone : (b c : PlainBook) (serial : ℕ) (change : Change) (r : Result (ℕ × Reply) Refusal) → OrNoMemory b NoMemoryToRecord (recorded b change (box_of change)) (c, r)
    → IsRedone b (kept.Changed serial change) (judged (is_recorded_as serial (new_object change)) recording_misfit r) c
record_redone b c serial change r h =
    judged_with_memory (kept.Changed serial change) b (recorded b change (box_of change)) (is_recorded_as serial (new_object change)) recording_misfit NoMemoryToRecord refl refl (λ fault. refl) refl
    (changes_nothing b false (event_of (kept.Changed serial change))) c r h

-- ---- the box of a create
-- attributes that are not good are refused
not_recorded : (b : PlainBook) (serial : ℕ) (change : Change) (o : Option Refusal) (refusal : Refusal) → o ≡ Some refusal → is_recorded_as serial (new_object change) (recorded_unless o b (done_as b change (box_of change))).1 ≡ false
not_recorded b serial change o refusal is = ap (λ o. is_recorded_as serial (new_object change) (recorded_unless o b (done_as b change (box_of change))).1) is

-- one of the tests before the last refuses, or the last does
some_refusal : (t : Bool) (x : Refusal) (o : Option Refusal) → ((y : Refusal) × (o ≡ Some y)) → ((z : Refusal) × (cond t (Some x) o ≡ Some z))
some_refusal true x o h = (x, refl)
some_refusal false x o h = h

bad_attributes : (b : PlainBook) (id : ℕ) (attr : MapAttr) (charge : ℕ) (name path : List ℕ) (template : Option ℕ) (blank : Option Blank) → good attr ≡ false → ((z : Refusal) × (refusal_of b (Create id attr charge name path template) blank ≡ Some z))
bad_attributes b id attr charge name path template blank bad =
    some_refusal (nat_le b.limits.last_serial b.last_serial) SerialsSpent _
    (some_refusal (is_full b && not (can_fold b.line)) JournalFull _
    (some_refusal (nat_le b.limits.last_id b.last_map) IdsSpent _
    (Errno EINVAL, ap (λ t. cond (not (t && is_name name)) (Some (Errno EINVAL)) (blank_refusal b attr blank)) bad)))

pub never_good : (id : ℕ) (attr : MapAttr) (charge : ℕ) (name path : List ℕ) (template : Option ℕ) → good attr ≡ false → NeverFits (Create id attr charge name path template)
never_good id attr charge name path template bad b serial due =
    let change : Change = Create id attr charge name path template in
    let refused : ((z : Refusal) × (refusal_of b change (box_of change) ≡ Some z)) = bad_attributes b id attr charge name path template (box_of change) bad in
    not_recorded b serial change (refusal_of b change (box_of change)) refused.0 refused.1

-- nor is a charge that is none of these attributes kept as due
pub never_due : (seen : Seen) (id : ℕ) (attr : MapAttr) (charge : ℕ) (name path : List ℕ) (template : Option ℕ) → IsNewBox seen attr → seen.charge ≢ charge → NeverFits (Create id attr charge name path template)
never_due seen id attr charge name path template new apart b serial due = absurd (apart (new.charge_is ∙ sym due))

pub box_suits : (seen : Seen) (attr : MapAttr) (charge : ℕ) → IsNewBox seen attr → seen.charge ≡ charge → IsBlankOf seen (record { make = record { attr = attr; charge = charge }; fresh = true })
box_suits seen attr charge new same = record {
  make = λ i. (let make : Make = record { attr = sym new.attr_is i; charge = sym same i } in make);
  fresh = (λ t. new.fresh, λ f. refl);
}

-- a change that never fits does not fit now
pub never_redone : (b c : PlainBook) (serial : ℕ) (change : Change) → NeverFits change → IsRedone b (kept.Changed serial change) (Err DoesNotFit) c
never_redone b c serial change never = never b serial

-- ---- one event after the other
-- some of the events led to a book, and others are left
pub record IsLed (start : PlainBook) (events left : List KeptEvent) (now : PlainBook) : Type 0 where
  pub before : List KeptEvent
  pub whole : events ≡ before ++ left
  pub lead : LeadTo start before now

pub begun : (b : PlainBook) (es left : List KeptEvent) → left ≡ es → IsLed b es left b
begun b es left is = record { before = []; whole = sym is; lead = refl }

pub went_on : (start mid new : PlainBook) (es left rest : List KeptEvent) (e : KeptEvent) (r : Result (Unit {0}) Misfit) (u : Unit {0}) → IsLed start es left mid → left ≡ e ∷ rest → r ≡ Ok u → IsRedone mid e r new → IsLed start es rest new
went_on start mid new es left rest e r u h is ok k = record {
  before = h.before ++ e ∷ [];
  whole = h.whole ∙ ap (λ xs. h.before ++ xs) is ∙ sym (append_assoc h.before (e ∷ []) rest);
  lead = lead_on start mid new h.before (e ∷ []) h.lead (subst (λ r. IsRedone mid e r new) ok k);
}

pub ended : (start now : PlainBook) (es left : List KeptEvent) → IsLed start es left now → left ≡ [] → LeadTo start es now
ended start now es left h none = subst (λ xs. LeadTo start xs now) (sym (h.whole ∙ ap (λ xs. h.before ++ xs) none ∙ append-nil h.before)) h.lead

pub stopped : (start mid new : PlainBook) (es left rest : List KeptEvent) (e : KeptEvent) (r : Result (Unit {0}) Misfit) (stop : Stop) → IsLed start es left mid → left ≡ e ∷ rest → r ≡ Err stop.why → IsRedone mid e r new → stop.place ≡ length es - length rest → StopsAt start es stop new
stopped start mid new es left rest e r stop h is err k place =
    let whole : es ≡ h.before ++ e ∷ rest = h.whole ∙ ap (λ xs. h.before ++ xs) is in
    let long : length es ≡ length h.before + suc (length rest) = ap length whole ∙ length-append h.before (e ∷ rest) in
    record {
      before = h.before;
      one = e;
      behind = rest;
      whole = whole;
      place = omega (arith, place, long);
      until = mid;
      lead = h.lead;
      stops = subst (λ r. IsRedone mid e r new) err k;
    }

-- ---- a box that was not made
pub unmade_redone : {K : Type 0} (seen : K → Seen) (b : PlainBook) (serial : ℕ) (change : Change) (misfit : Misfit) → (let made : Result (Option K) Misfit = Err misfit in IsBoxFor seen change made) → IsRedone b (kept.Changed serial change) (Err misfit) b
unmade_redone seen b serial change DoesNotFit never = never_redone b b serial change never
unmade_redone seen b serial change NoMemory h = refl
