-- What is on the disk after frames, and what a crash leaves.
use Rattle.std.proofs.Common.{◌≡◌, ◌⊎◌, inl, inr, ℕ, ◌+◌, List, [], ◌++◌, length, Option, Some, refl, sym, ap, subst, ◌∙◌}
use Rattle.std.specs.Prelude.{is_some}
use Rattle.sqlite.specs.State.{State, HasCleanDisk}
use Rattle.journal_model.specs.Book.{PlainBook}
use Rattle.journal_model.specs.Well.{IsWellBook}
use Rattle.thread_frames.specs.declared.frame.FrameIn.{FrameIn}
use Rattle.thread_frames.specs.declared.fault.FramesFault.{FramesFault}
use Rattle.thread_frames.specs.declared.fault.FramesFault.TheVariants as frames
use Rattle.thread_frames.specs.Faults.{frames_fault}
use Rattle.thread_host_run.specs.declared.fault.RunHostFault.{RunHostFault}
use Rattle.thread_host_run.specs.declared.fault.RunHostFault.TheVariants as run
use Rattle.console_text.specs.Written.{WritesFront}
use Rattle.console_text.proofs.Writing.{Appends-nil, append_nil}
use Rattle.std.specs.Io.KnownBytes.{Appends}
use Rattle.thread_host_run.specs.FrameTexts.{ends_text}
use Rattle.thread_host_run.specs.HostRuns.{AreServed}
use Rattle.bt_workers.specs.declared.result.FrameResult.{FrameResult}
use Rattle.kept_event.specs.declared.event.KeptEvent.{KeptEvent}
use Rattle.kept_book.specs.Leading.{LeadTo}
use Rattle.kept_book.specs.Noted.{changes_since}
use Rattle.kept_ledger.specs.TermsView.{PlainTerms}
use Rattle.kept_ledger.specs.Ledger.{LeavesOnly}
use Rattle.kept_file.specs.Keeps.{HoldsBook, HoldsOne}
use Rattle.kept_file.specs.declared.fault.KeepFault.{KeepFault}
use Rattle.kept_lines.specs.Kept.{IsOnDisk, IsCut}
use Rattle.kept_lines.specs.declared.fault.LinesFault.TheVariants.{CannotKeep, Write}
use Rattle.thread_kept_frames.specs.declared.fault.ServeFault.{ServeFault}
use Rattle.thread_kept_frames.specs.declared.fault.ServeFault.TheVariants.{BadFrames, NoMemory, NoThread, Lines}
use Rattle.thread_kept_frames.specs.Faults.{fault_of_frames, fault_of_run}
use Rattle.thread_kept_frames.specs.Serving.{IsUnserved, BeforeOrServed, StopsPortion, BeforeOrAfter, Stops}
use Rattle.thread_kept_frames.proofs.OfFrames.{served_lead}

-- what was noted leads
pub noted_lead : (b c : PlainBook) (all : List FrameIn) (ends : List FrameResult) (since : ℕ) (noted : List KeptEvent) → IsWellBook b → AreServed b all ends c → since ≡ b.last_serial
    → noted ≡ changes_since since c → since + length noted ≡ c.last_serial → LeadTo b noted c
noted_lead b c all ends since noted well served last is count =
    let same : noted ≡ changes_since b.last_serial c = is ∙ ap (λ n. changes_since n c) last in
    let whole : b.last_serial + length (changes_since b.last_serial c) ≡ c.last_serial = (λ i. sym last i + length (sym same i)) ∙ count in
    subst (λ es. LeadTo b es c) (sym same) (served_lead b all ends c well served whole)

-- ---- why no frame was served
pub unserved_frames : (all : List FrameIn) (fault : FramesFault) → (frames_fault all ≡ Some fault) ⊎ (fault ≡ frames.NoMemory) → IsUnserved all (fault_of_frames fault)
unserved_frames all frames.TooMany (inl is) = ap is_some is
unserved_frames all frames.TooMany (inr other) = absurd (cc)
unserved_frames all (frames.FrameTooLong number) (inl is) = ap is_some is
unserved_frames all (frames.FrameTooLong number) (inr other) = absurd (cc)
unserved_frames all frames.NoMemory why = tt

pub unserved_run : (all : List FrameIn) (fault : RunHostFault) → IsUnserved all (fault_of_run fault)
unserved_run all run.NoThread = tt
unserved_run all run.BadFrames = tt
unserved_run all run.BadDevices = tt
unserved_run all run.BadLimits = tt
unserved_run all run.NoMemory = tt
unserved_run all run.Write = tt

-- ---- a text that is held back
pub held_text : (old new text : List ℕ) → old ≡ [] → Appends (Some old) (Some new) text → new ≡ text
held_text old new text none wrote = wrote ∙ ap (λ xs. xs ++ text) none

module _ (all : List FrameIn) (b : PlainBook) where
  -- ---- a portion of which no frame was served
  pub portion_before : (t : PlainTerms) (s : State) → LeavesOnly (HoldsBook t b) s → LeavesOnly (HoldsOne t (BeforeOrServed all b)) s
  portion_before t s leaves db may = record { book = b; is = inl refl; holds = leaves db may }

  pub portion_unserved : (s : State) (fault : ServeFault) → IsUnserved all fault → StopsPortion all b (λ t. IsOnDisk t s b) s fault
  portion_unserved s BadFrames why = record { why = why; disk = λ clean t on. on }
  portion_unserved s NoMemory why = record { why = why; disk = λ clean t on. on }
  portion_unserved s NoThread why = record { why = why; disk = λ clean t on. on }
  portion_unserved s (Lines fault) why = absurd why

  -- ---- all frames were served
  module _ (ends : List FrameResult) (c : PlainBook) (served : AreServed b all ends c) where
    pub portion_behind : (t : PlainTerms) (s : State) → LeavesOnly (HoldsBook t c) s → LeavesOnly (HoldsOne t (BeforeOrServed all b)) s
    portion_behind t s leaves db may = record { book = c; is = inr (ends, served); holds = leaves db may }

    pub portion_cut : (t : PlainTerms) (s : State) → IsCut t s b c → LeavesOnly (HoldsOne t (BeforeOrServed all b)) s
    portion_cut t s cut db may = elim (cut.leaves db may) [
      | inl held ↦ record { book = b; is = inl refl; holds = held }
      | inr held ↦ record { book = c; is = inr (ends, served); holds = held }
    ]

    pub portion_unkept : (Began : PlainTerms → Type 0) (new : State) (fault : ServeFault) (why : KeepFault) → fault ≡ Lines (CannotKeep why) → (HasCleanDisk new → (t : PlainTerms) → Began t → IsCut t new b c)
        → StopsPortion all b Began new fault
    portion_unkept Began new fault why is disk = subst (StopsPortion all b Began new) (sym is) (record { ends = ends; left = c; served = served; disk = disk })

    -- nothing was added
    pub still_cut : (t : PlainTerms) (s : State) → IsOnDisk t s b → IsCut t s b c
    still_cut t s on = record { keeps = λ is_open. on.keeps; leaves = λ db may. inl (on.leaves db may) }

  -- ---- what is written of a portion: nothing if it is not kept
  module _ (out_old : Option (List ℕ)) where
    before_or_after : (left : PlainBook) → BeforeOrServed all b left → BeforeOrAfter all b out_old out_old left
    before_or_after left (inl same) = inl (same, refl)
    before_or_after left (inr it) = inr (it.0, it.1, record { written = []; unwritten = ends_text it.0 (length left.line.moments); cut = refl; appends = Appends-nil out_old })

    pub untold_left : (t : PlainTerms) (s : State) → LeavesOnly (HoldsOne t (BeforeOrServed all b)) s → LeavesOnly (HoldsOne t (BeforeOrAfter all b out_old out_old)) s
    untold_left t s only db may = let it : HoldsOne t (BeforeOrServed all b) db = only db may in record { book = it.book; is = before_or_after it.book it.is; holds = it.holds }

    pub untold_stops : (Began : PlainTerms → Type 0) (s : State) (fault : ServeFault) → StopsPortion all b Began s fault → Stops all b Began s out_old out_old fault
    untold_stops Began s BadFrames it = record { why = it.why; unwritten = refl; disk = it.disk }
    untold_stops Began s NoMemory it = record { why = it.why; unwritten = refl; disk = it.disk }
    untold_stops Began s NoThread it = record { why = it.why; unwritten = refl; disk = it.disk }
    untold_stops Began s (Lines (CannotKeep why)) it = record { ends = it.ends; left = it.left; served = it.served; unwritten = refl; disk = it.disk }
    untold_stops Began s (Lines Write) it = absurd it

    -- all of it is kept
    module _ (ends : List FrameResult) (c : PlainBook) (served : AreServed b all ends c) (out_new : Option (List ℕ)) where
      abbrev text : List ℕ
      text = ends_text ends (length c.line.moments)

      told_some : (written unwritten : List ℕ) → text ≡ written ++ unwritten → Appends out_old out_new written → (t : PlainTerms) (s : State) → LeavesOnly (HoldsBook t c) s → LeavesOnly (HoldsOne t (BeforeOrAfter all b out_old out_new)) s
      told_some written unwritten cut wrote t s leaves db may = record {
        book = c;
        is = inr (ends, served, record { written = written; unwritten = unwritten; cut = cut; appends = wrote });
        holds = leaves db may;
      }

      pub told_left : Appends out_old out_new text → (t : PlainTerms) (s : State) → LeavesOnly (HoldsBook t c) s → LeavesOnly (HoldsOne t (BeforeOrAfter all b out_old out_new)) s
      told_left = told_some text [] (sym (append_nil text))

      pub front_left : WritesFront out_old out_new text → (t : PlainTerms) (s : State) → LeavesOnly (HoldsBook t c) s → LeavesOnly (HoldsOne t (BeforeOrAfter all b out_old out_new)) s
      front_left front = told_some front.written front.unwritten front.cut front.appends
