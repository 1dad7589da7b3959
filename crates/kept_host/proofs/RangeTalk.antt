-- A range in a dialogue: what it comes to among the other lines, and what is on the disk if it is not answered.
use Rattle.std.proofs.Common.{◌≡◌, inl, inr, ℕ, List, [], Option, Some, None, Result, Ok, Err, refl, sym, subst, append-nil}
use Rattle.std.specs.Prelude.{IfOk, OnOk, OnErr}
use Rattle.std.specs.Io.KnownBytes.{Appends}
use Rattle.std.proofs.KnownBytes.{Appends-nil}
use Rattle.sqlite.specs.State.{State, HasCleanDisk}
use Rattle.journal_model.specs.Book.{PlainBook}
use Rattle.console_operand.specs.Word.{words}
use Rattle.console_answer.specs.declared.fault.Fault.TheVariants.{NotInForce}
use Rattle.console_text.specs.Text.{fault_text}
use Rattle.console_text.specs.Written.{WritesFront}
use Rattle.bt_syntax.specs.declared.files.FileText.{FileText}
use Rattle.console_script.specs.Transcript.{Step}
use Rattle.console_talk.specs.declared.manner.Manner.TheVariants.{Dialogue}
use Rattle.console_talk.specs.Talk.{Said, said, Standing, Place, place, Goes, with_boxes}
use Rattle.console_talk.proofs.Spoken.{goes_so, come_by}
use Rattle.kept_ledger.specs.TermsView.{PlainTerms}
use Rattle.kept_ledger.specs.Ledger.{LeavesOnly}
use Rattle.kept_file.specs.Keeps.{HoldsOne}
use Rattle.kept_lines.specs.Kept.{IsOnDisk, WritesSome}
use Rattle.kept_lines.specs.RangeGrammar.{range_in}
use Rattle.kept_lines.specs.declared.range.SerialRange.{SerialRange}
use Rattle.kept_lines.specs.declared.fault.LinesFault.TheVariants.{CannotKeep, Write}
use Rattle.kept_host.specs.Taking.{ComesTo, UnlessAll, Stops}
use Rattle.kept_host.specs.declared.range.fault.RangeFault.{RangeFault}
use Rattle.kept_host.specs.declared.range.fault.RangeFault.TheVariants.{Lines, Open}
use Rattle.kept_host.specs.declared.range.taken.Taken.{Taken}
use Rattle.kept_host.specs.declared.range.taken.Taken.TheVariants.{All, NoneInForce, Refused}
use Rattle.kept_host.specs.Talks.{TookRange, GoesBy, GoesKept, HasComeKept, IsRangePart, IsPart}

-- ---- what was written of a text
some_whole : (old new : Option (List ℕ)) (text : List ℕ) → Appends old new text → WritesSome old new text
some_whole old new text wrote = record { written = text; unwritten = []; cut = sym (append-nil text); appends = wrote }

some_front : (old new : Option (List ℕ)) (text : List ℕ) → WritesFront old new text → WritesSome old new text
some_front old new text front = record { written = front.written; unwritten = front.unwritten; cut = front.cut; appends = front.appends }

some_none : (old new : Option (List ℕ)) (text : List ℕ) → new ≡ old → WritesSome old new text
some_none old new text same = record { written = []; unwritten = text; cut = refl; appends = subst (λ (to : Option (List ℕ)). Appends old to []) (sym same) (Appends-nil old) }

-- ---- a range that was not answered
module _ (range : SerialRange) (b : PlainBook) (t : PlainTerms) (s : State) (old new : Option (List ℕ)) where
  pub part_stopped : (Began : PlainTerms → Type 0) → HasCleanDisk s → Began t → (why : RangeFault) → Stops range b Began s old new why → LeavesOnly (HoldsOne t (IsRangePart range b old new)) s
  part_stopped Began clean began (Lines (CannotKeep why)) it db may = elim ((it.disk clean t began).leaves db may) [
    | inl held ↦ record { book = b; is = inl (refl, it.unwritten); holds = held }
    | inr held ↦ record { book = it.left; is = inr (inl (it.text, it.taken, some_none old new it.text it.unwritten)); holds = held }
  ]
  part_stopped Began clean began (Lines Write) (inl it) db may = record { book = it.left; is = inr (inl (it.text, it.taken, some_front old new it.text it.front)); holds = (it.disk clean t began).leaves db may }
  part_stopped Began clean began (Lines Write) (inr it) db may = record { book = b; is = inr (inr (refl, (it.fault, it.why, some_front old new (fault_text it.fault) it.front))); holds = (it.disk clean t began).leaves db may }
  part_stopped Began clean began (Open why) it db may = record { book = b; is = inl (refl, it.0); holds = it.1 clean t began db may }

  -- all of its answer was written
  pub part_written : (c : PlainBook) (taken : Taken) → ComesTo range b c old new taken → UnlessAll taken (c ≡ b) → IsOnDisk t s c → LeavesOnly (HoldsOne t (IsRangePart range b old new)) s
  part_written c (All count) comes same on db may =
      let (some, count_is, (text, all, wrote)) = comes in record { book = c; is = inr (inl (text, all, some_whole old new text wrote)); holds = on.leaves db may }
  part_written c NoneInForce comes same on db may = record { book = c; is = inr (inr (same, (NotInForce, inl (comes.0, refl), some_whole old new (fault_text NotInForce) comes.1))); holds = on.leaves db may }
  part_written c (Refused fault) comes same on db may = record { book = c; is = inr (inr (same, (fault, inr comes.0, some_whole old new (fault_text fault) comes.1))); holds = on.leaves db may }

-- so of the line that spells it
module _ (named : List ℕ → List FileText → Type 0) (at : Standing) (line : List ℕ) (old new : Option (List ℕ)) (range : SerialRange) (spells : range_in (words line) ≡ Some range) where
  part_by : (left : PlainBook) → IsRangePart range at.console.book old new left → IsPart named at line old new left
  part_by left (inl none) = inl none
  part_by left (inr front) = inr (inl (record { range = range; spells = spells; front = front }))

  pub part_range : {E : Type 0} (before : State) (s : State) (r : Result (Unit {0}) E)
      → OnErr r (HasCleanDisk s → (t : PlainTerms) → IsOnDisk t before at.console.book → LeavesOnly (HoldsOne t (IsRangePart range at.console.book old new)) s)
      → OnErr r (HasCleanDisk s → (t : PlainTerms) → IsOnDisk t before at.console.book → LeavesOnly (HoldsOne t (IsPart named at line old new)) s)
  part_range before s (Ok done) it = tt
  part_range before s (Err fault) it = λ clean t on db may. let held : HoldsOne t (IsRangePart range at.console.book old new) db = it clean t on db may in record { book = held.book; is = part_by held.book held.is; holds = held.holds }

-- ---- a range among the other lines
module _ {S : Type 0} (supplied : S → List Step → S → Type 0) (named : List ℕ → List FileText → Type 0) (Holds : Type 0) (line : List ℕ) (boxes : S) (at end : Standing) (old new : Option (List ℕ)) where
  pub goes_range : {E : Type 0} (range : SerialRange) (r : Result (Unit {0}) E) → range_in (words line) ≡ Some range → OnOk r (TookRange {S = Unit {0}} Holds range (place tt at old) (place tt end new))
      → IfOk r (λ _. (files : List FileText) × GoesKept supplied named Holds (said line files) (place boxes at old) (place boxes end new))
  goes_range range (Ok done) spells it = (
    [],
    subst (λ (spelt : Option SerialRange). GoesBy supplied named Holds spelt (said line []) (place boxes at old) (place boxes end new)) (sym spells)
        (record { taken = it.taken; book = it.book; comes = it.comes; same = it.same; boxes = refl; is = it.is }),
  )
  goes_range range (Err fault) spells it = tt

  pub goes_other : {E : Type 0} (to : S) (r : Result (Unit {0}) E) → range_in (words line) ≡ None → IfOk r (λ _. (files : List FileText) × Goes supplied named Dialogue (said line files) boxes at old to end new)
      → IfOk r (λ _. (files : List FileText) × GoesKept supplied named Holds (said line files) (place boxes at old) (place to end new))
  goes_other to (Ok done) none it =
      (it.0, subst (λ (spelt : Option SerialRange). GoesBy supplied named Holds spelt (said line it.0) (place boxes at old) (place to end new)) (sym none) it.1)
  goes_other to (Err fault) none it = tt

-- ---- by what holds of the disk, of more lines too
module _ {S : Type 0} (supplied : S → List Step → S → Type 0) (named : List ℕ → List FileText → Type 0) (Before Now : Type 0) (held : Now → Before) where
  goes_by_if : (spelt : Option SerialRange) (it : Said) (from to : Place S) → GoesBy supplied named Before spelt it from to → GoesBy supplied named Now spelt it from to
  goes_by_if None it from to h = h
  goes_by_if (Some range) it from to h = record { taken = h.taken; book = h.book; comes = h.comes; same = λ now. h.same (held now); boxes = h.boxes; is = h.is }

  pub goes_if : (it : Said) (from to : Place S) → GoesKept supplied named Before it from to → GoesKept supplied named Now it from to
  goes_if it = goes_by_if (range_in (words it.line)) it

  pub come_if : (input : Option (List ℕ)) (from : Place S) (left : Option (List ℕ)) (to : Place S) → HasComeKept supplied named Before input from left to → HasComeKept supplied named Now input from left to
  come_if = come_by (GoesKept supplied named Before) (GoesKept supplied named Now) (λ (p : Place S). p) goes_if Dialogue

-- and if what supplied its boxes implies what holds of them
module _ {S : Type 0} (P : S → List Step → S → Type 0) (Q : List Step → Type 0) (named : List ℕ → List FileText → Type 0) (implies : (from : S) (run : List Step) (to : S) → P from run to → Q run) (Holds : Type 0) where
  goes_by_so : (spelt : Option SerialRange) (it : Said) (from to : Place S) → GoesBy P named Holds spelt it from to → GoesBy (with_boxes Q) named Holds spelt it (place tt from.at from.text) (place tt to.at to.text)
  goes_by_so None it from to h = goes_so P Q named implies Dialogue it from.boxes from.at from.text to.boxes to.at to.text h
  goes_by_so (Some range) it from to h = record { taken = h.taken; book = h.book; comes = h.comes; same = h.same; boxes = refl; is = h.is }

  pub come_kept_so : (input : Option (List ℕ)) (from : Place S) (left : Option (List ℕ)) (to : Place S) → HasComeKept P named Holds input from left to
      → HasComeKept (with_boxes Q) named Holds input (place tt from.at from.text) left (place tt to.at to.text)
  come_kept_so = come_by (GoesKept P named Holds) (GoesKept (with_boxes Q) named Holds) (λ (p : Place S). place tt p.at p.text) (λ it. goes_by_so (range_in (words it.line)) it) Dialogue
