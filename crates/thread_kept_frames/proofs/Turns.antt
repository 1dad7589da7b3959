-- Lines that are answered, and frames that flow between them, one turn after the other.
use Rattle.std.proofs.Common.{◌≡◌, ◌⊎◌, inl, inr, ℕ, ◌<◌, List, [], ◌∷◌, length, Option, Some, None, refl, sym, ◌∙◌, ap, subst}
use Rattle.std.specs.Prelude.{⊤}
use Rattle.std.specs.Option.{IfSome}
use Rattle.std.specs.Io.BufRead.{take_through, DropsThrough}
use Rattle.sqlite.specs.State.{State}
use Rattle.journal_model.specs.Book.{PlainBook}
use Rattle.console_operand.specs.Line.{lines_of}
use Rattle.bt_syntax.specs.declared.files.FileText.{FileText}
use Rattle.console_script.specs.Transcript.{Step}
use Rattle.console_talk.specs.declared.manner.Manner.TheVariants.{Dialogue}
use Rattle.console_talk.specs.Talk.{Said, Place, Ends, MayStopAt, MayStop}
use Rattle.console_talk.proofs.Spoken.{gave_none, come_on, come_by}
use Rattle.kept_ledger.specs.TermsView.{PlainTerms}
use Rattle.kept_ledger.specs.Ledger.{LeavesOnly}
use Rattle.kept_file.specs.Keeps.{HoldsBook, HoldsOne}
use Rattle.kept_host.specs.Talks.{GoesKept, IsNext, IsBegun, IsPart}
use Rattle.kept_host.proofs.RangeTalk.{goes_if}
use Rattle.kept_host.proofs.Talking.{holds_so, holds_one}
use Rattle.thread_frames.specs.declared.frame.FrameIn.{FrameIn}
use Rattle.thread_kept_frames.specs.declared.live.course.Course.{Course}
use Rattle.thread_kept_frames.specs.Portions.{Flowing, flowing, ServesPortion, Flowed, none, portion, BeforeOrBehind}
use Rattle.thread_kept_frames.specs.Living.{LivePlace, beside, book_at, on_book, FramesFlow, GoesLive, HasLived, IsLiveFront}

-- nothing is left of an input
pub stops_at_its_end : (left : Option (List ℕ)) → IfSome left (λ text. text ≡ []) → MayStop Dialogue left
stops_at_its_end None is = tt
stops_at_its_end (Some text) is = subst (λ (rest : List ℕ). MayStopAt Dialogue (lines_of rest)) (sym is) tt

-- ---- frames that flow
module _ (all : List FrameIn) (passes : Option ℕ) where
  -- a portion alone
  pub flowed_one : {from to : Flowing} → ServesPortion all passes from to → Flowed all passes from to
  flowed_one it = portion none it

  flowed_then : {from mid to : Flowing} → Flowed all passes from mid → Flowed all passes mid to → Flowed all passes from to
  flowed_then before none = before
  flowed_then before (portion it served) = portion (flowed_then before it) served

  module _ {S : Type 0} where
    flows_none : (at : LivePlace S) → FramesFlow all passes at at
    flows_none at = record { flowed = none; only = refl }

    flows_on : (from mid to : LivePlace S) → FramesFlow all passes from mid → Flowed all passes (flowing (book_at mid) mid.course) (flowing (book_at to) to.course) → to.talk ≡ on_book mid.talk (book_at to) → FramesFlow all passes from to
    flows_on from mid to before more only = record {
      flowed = flowed_then before.flowed more;
      only = only ∙ ap (λ (p : Place S). on_book p (book_at to)) before.only;
    }

  -- ---- turns
  module _ {S : Type 0} (supplied : S → List Step → S → Type 0) (named : List ℕ → List FileText → Type 0) (input : Option (List ℕ)) (from : LivePlace S) where
    module _ (Holds : Type 0) where
      -- before the first
      pub lived_first : HasLived all passes supplied named Holds input from input from
      lived_first = record { last = from; came = record { said = []; went = refl; gave = gave_none input; none_ends = tt }; flow = flows_none from }

      module _ (left : Option (List ℕ)) (here : LivePlace S) (lived : HasLived all passes supplied named Holds input from left here) where
        -- frames flow on
        pub lived_flow : (to : LivePlace S) → Flowed all passes (flowing (book_at here) here.course) (flowing (book_at to) to.course) → to.talk ≡ on_book here.talk (book_at to) → HasLived all passes supplied named Holds input from left to
        lived_flow to more only = record { last = lived.last; came = lived.came; flow = flows_on lived.last here to lived.flow more only }

        -- a line is answered
        pub lived_line : (next : Option (List ℕ)) (it : Said) (given after : List ℕ) (to : Place S) → IfSome left (λ text. given ≡ take_through 10 text) → DropsThrough left next 10 → 0 < length given → lines_of given ≡ it.line ∷ lines_of after
            → ¬ (Ends Dialogue it.line) → GoesKept supplied named Holds it here.talk to → HasLived all passes supplied named Holds input from next (beside to here.course)
        lived_line next it given after to read drops some cut goes_on went = record {
          last = beside to here.course;
          came = come_on (GoesLive all passes supplied named Holds) Dialogue input from left next lived.last (beside to here.course) it given after lived.came read drops some cut goes_on
              (record { mid = here.talk; flow = lived.flow; went = went });
          flow = flows_none (beside to here.course);
        }

    -- by what holds of the disk later, too
    module _ (Before Now : Type 0) (held : Now → Before) where
      goes_live_if : (it : Said) (mid to : LivePlace S) → GoesLive all passes supplied named Before it mid to → GoesLive all passes supplied named Now it mid to
      goes_live_if it mid to went = record { mid = went.mid; flow = went.flow; went = goes_if supplied named Before Now held it went.mid to.talk went.went }

      pub lived_if : (left : Option (List ℕ)) (to : LivePlace S) → HasLived all passes supplied named Before input from left to → HasLived all passes supplied named Now input from left to
      lived_if left to lived = record {
        last = lived.last;
        came = come_by (GoesLive all passes supplied named Before) (GoesLive all passes supplied named Now) (λ (p : LivePlace S). p) goes_live_if Dialogue input from left lived.last lived.came;
        flow = lived.flow;
      }

    -- ---- a host that stopped
    module _ (Holds : Type 0) (holds : Holds) (unsaid : Option (List ℕ)) (to : LivePlace S) (lived : HasLived all passes supplied named Holds input from unsaid to) (t : PlainTerms) (s : State) where
      front_by : (new : Option (List ℕ)) (left : PlainBook) → ((left ≡ book_at to) × (new ≡ to.talk.text)) ⊎ ((line : List ℕ) × IsNext unsaid line × IsBegun named to.talk.at line to.talk.text new left) → IsLiveFront all passes supplied named input from new left
      front_by new left further = record { unsaid = unsaid; to = to; lived = lived_if Holds ⊤ (λ _. holds) unsaid to lived; further = further }

      -- between two turns
      pub front_here : LeavesOnly (HoldsBook t (book_at to)) s → LeavesOnly (HoldsOne t (IsLiveFront all passes supplied named input from to.talk.text)) s
      front_here only = holds_one t (IsLiveFront all passes supplied named input from to.talk.text) s (book_at to) (front_by to.talk.text (book_at to) (inl (refl, refl))) only

      -- in a line
      front_part : (line : List ℕ) (new : Option (List ℕ)) → IsNext unsaid line → (left : PlainBook) → IsPart named to.talk.at line to.talk.text new left → IsLiveFront all passes supplied named input from new left
      front_part line new next left (inl nothing) = front_by new left (inl nothing)
      front_part line new next left (inr begun) = front_by new left (inr (line, next, begun))

      pub front_line : (line : List ℕ) (new : Option (List ℕ)) → IsNext unsaid line → LeavesOnly (HoldsOne t (IsPart named to.talk.at line to.talk.text new)) s → LeavesOnly (HoldsOne t (IsLiveFront all passes supplied named input from new)) s
      front_line line new next only = holds_so t (IsPart named to.talk.at line to.talk.text new) (IsLiveFront all passes supplied named input from new) s (front_part line new next) only

      -- in a portion
      front_portion : (left : PlainBook) → BeforeOrBehind all passes (flowing (book_at to) to.course) left → IsLiveFront all passes supplied named input from to.talk.text left
      front_portion left (inl same) = front_by to.talk.text left (inl (same, refl))
      front_portion left (inr it) =
          let behind : LivePlace S = beside (on_book to.talk left) it.0 in
          record {
            unsaid = unsaid;
            to = behind;
            lived = lived_flow ⊤ unsaid to (lived_if Holds ⊤ (λ _. holds) unsaid to lived) behind (flowed_one it.1) refl;
            further = inl (refl, refl);
          }

      pub front_flow : LeavesOnly (HoldsOne t (BeforeOrBehind all passes (flowing (book_at to) to.course))) s → LeavesOnly (HoldsOne t (IsLiveFront all passes supplied named input from to.talk.text)) s
      front_flow only = holds_so t (BeforeOrBehind all passes (flowing (book_at to) to.course)) (IsLiveFront all passes supplied named input from to.talk.text) s front_portion only
