-- A setup on the book that was begun, and a live host on the book that it left.
use Rattle.std.proofs.Common.{◌≡◌, ℕ, List, length, Option, Some, None, Result, Ok, Err, refl, sym, ap, subst}
use Rattle.std.specs.Prelude.{⊤}
use Rattle.std.specs.Io.KnownBytes.{Keeps}
use Rattle.std.proofs.KnownBytes.{Appends-kept}
use Rattle.sqlite.specs.State.{State, HasCleanDisk}
use Rattle.journal_model.specs.Book.{PlainBook}
use Rattle.bt_journal.specs.BookView.{BookView}
use Rattle.console_operand.specs.Line.{lines_of}
use Rattle.console_operand.specs.Word.{words}
use Rattle.bt_syntax.specs.declared.files.FileText.{FileText}
use Rattle.console_input.specs.Named.{AreFilesOf}
use Rattle.console_input.specs.declared.fault.ReadFault.{ReadFault}
use Rattle.console_script.specs.Tallies.{both_counts}
use Rattle.console_script.specs.Transcript.{Step, begun, transcript, RanAll}
use Rattle.console_script.specs.Made.{AllGetNew}
use Rattle.console_script.specs.declared.summary.Summary.{Summary}
use Rattle.console_talk.specs.declared.manner.Manner.TheVariants.{Dialogue}
use Rattle.console_talk.specs.Talk.{Said, Place, place, silent, with_boxes}
use Rattle.console_talk.proofs.Spoken.{goes_so, come_by}
use Rattle.thread_frames.specs.declared.frame.FrameIn.{FrameIn}
use Rattle.kept_ledger.specs.TermsView.{PlainTerms}
use Rattle.kept_ledger.specs.Ledger.{LeavesOnly}
use Rattle.kept_file.specs.Keeps.{HoldsOne}
use Rattle.kept_lines.specs.Begun.{BeginsOn}
use Rattle.kept_lines.specs.Kept.{IsOnDisk}
use Rattle.kept_lines.specs.RangeGrammar.{range_in}
use Rattle.kept_lines.specs.declared.range.SerialRange.{SerialRange}
use Rattle.kept_lines.proofs.Beginning.{begun_on}
use Rattle.kept_host.specs.Talks.{StaysOnDisk, GoesBy}
use Rattle.kept_host.proofs.Talking.{holds_so}
use Rattle.thread_kept_frames.specs.Courses.{start}
use Rattle.thread_kept_frames.specs.Hosts.{HadBook}
use Rattle.thread_kept_frames.specs.Living.{LivePlace, beside, FramesFlow, GoesLive, HasLived, LivedThrough, IsLiveFront}
use Rattle.thread_kept_frames.specs.Lives.{IsSetUp, set_up, StaysSetUp, LiveStops, LivesKept}
use Rattle.thread_kept_frames.specs.declared.live.course.Course.{Course}
use Rattle.thread_kept_frames.specs.declared.live.fault.LiveFault.{LiveFault}
use Rattle.thread_kept_frames.specs.declared.live.fault.LiveHostFault.TheVariants.{Live}
use Rattle.thread_kept_frames.specs.declared.live.kept.LivedHost.{LivedHost}
use Rattle.thread_kept_frames.proofs.Turns.{lived_first, lived_if, front_here}

-- ---- if what supplied its boxes implies that each was new
abbrev bare_talk : {S : Type 0} → Place S → Place (Unit {0})
bare_talk it = place tt it.at it.text

abbrev bare : {S : Type 0} → LivePlace S → LivePlace (Unit {0})
bare it = beside (bare_talk it.talk) it.course

module _ (all : List FrameIn) (passes : Option ℕ) {S : Type 0} (P : S → List Step → S → Type 0) (named : List ℕ → List FileText → Type 0) (implies : (from : S) (run : List Step) (to : S) → P from run to → AllGetNew run) where
  goes_new : (Holds : Type 0) (spelt : Option SerialRange) (it : Said) (from to : Place S) → GoesBy P named Holds spelt it from to → GoesBy (with_boxes AllGetNew) named Holds spelt it (bare_talk from) (bare_talk to)
  goes_new Holds None it from to h = goes_so P AllGetNew named implies Dialogue it from.boxes from.at from.text to.boxes to.at to.text h
  goes_new Holds (Some range) it from to h = record { taken = h.taken; book = h.book; comes = h.comes; same = h.same; boxes = refl; is = h.is }

  flow_new : (from to : LivePlace S) → FramesFlow all passes from to → FramesFlow all passes (bare from) (bare to)
  flow_new from to it = record { flowed = it.flowed; only = ap (λ (p : Place S). bare_talk p) it.only }

  live_new : (Holds : Type 0) (it : Said) (from to : LivePlace S) → GoesLive all passes P named Holds it from to → GoesLive all passes (with_boxes AllGetNew) named Holds it (bare from) (bare to)
  live_new Holds it from to h = record {
    mid = bare_talk h.mid;
    flow = flow_new from (beside h.mid to.course) h.flow;
    went = goes_new Holds (range_in (words it.line)) it h.mid to.talk h.went;
  }

  lived_new : (Holds : Type 0) (input : Option (List ℕ)) (from : LivePlace S) (left : Option (List ℕ)) (to : LivePlace S) → HasLived all passes P named Holds input from left to
      → HasLived all passes (with_boxes AllGetNew) named Holds input (bare from) left (bare to)
  lived_new Holds input from left to it = record {
    last = bare it.last;
    came = come_by (GoesLive all passes P named Holds) (GoesLive all passes (with_boxes AllGetNew) named Holds) (λ (p : LivePlace S). bare p) (live_new Holds) Dialogue input from left it.last it.came;
    flow = flow_new it.last to it.flow;
  }

  -- and what held of the disk holds still
  through_new : (Before Now : Type 0) → (Now → Before) → (input : Option (List ℕ)) (from : LivePlace S) (book : PlainBook) (to : S) (text : Option (List ℕ)) (summary : Summary) (course : Course)
      → LivedThrough all passes P named Before input from book to text summary course → LivedThrough all passes (with_boxes AllGetNew) named Now input (bare from) book tt text summary course
  through_new Before Now held input from book to text summary course it =
      let last : LivePlace S = beside (place to it.end text) course in
      record {
        unsaid = it.unsaid;
        end = it.end;
        lived = lived_new Now input from it.unsaid last (lived_if all passes P named input from Before Now held it.unsaid last it.lived);
        stops = it.stops;
        took = it.took;
        left = it.left;
        counts = it.counts;
      }

  front_new : (input : Option (List ℕ)) (from : LivePlace S) (new : Option (List ℕ)) (left : PlainBook) → IsLiveFront all passes P named input from new left → IsLiveFront all passes (with_boxes AllGetNew) named input (bare from) new left
  front_new input from new left it = record { unsaid = it.unsaid; to = bare it.to; lived = lived_new ⊤ input from it.unsaid it.to it.lived; further = it.further }

-- ---- a setup on the book of a database, and what comes after it
module _ (terms : PlainTerms) (files : List FileText) (script : List ℕ) (all : List FrameIn) (passes : Option ℕ) (may_read : List ℕ → ℕ → Result (List ℕ) ReadFault → Type 0) (input : Option (List ℕ)) (old : State)
    (out_old : Option (List ℕ)) (mid : State) (book : BookView) (begins : BeginsOn terms old mid (Ok book)) (Boxes : List Step → Type 0) (made : (run : List Step) → Boxes run → AllGetNew run) (kept : State) (between asked : Option (List ℕ))
    (left : PlainBook) (counts : Summary) (clean_lines : HasCleanDisk kept → HasCleanDisk mid) (on : HasCleanDisk kept → (t : PlainTerms) → IsOnDisk t mid book.plain → IsOnDisk t kept left)
    (ran : RanAll out_old between book.plain Boxes files script left counts) (flushed : Keeps between asked) where
  had : HasCleanDisk kept → (t : PlainTerms) → HadBook terms old book.plain t → IsOnDisk t kept left
  had clean t has = on clean t (begun_on terms old mid book begins (clean_lines clean) t has)

  module _ (new : State) (out_new : Option (List ℕ)) (clean_live : HasCleanDisk new → HasCleanDisk kept) where
    abbrev is_set_up : IsSetUp terms files script all passes may_read input old new out_old out_new
    is_set_up = record {
      book = book.plain;
      begins = λ clean ready t b has. (begins (clean_lines (clean_live clean)) ready t b has).0;
      left = left;
      counts = counts;
      asked = asked;
      ran = record {
        run = ran.run;
        boxes = made ran.run ran.boxes;
        right = ran.right;
        all = ran.all;
        written = Appends-kept out_old between asked (transcript files (begun book.plain (lines_of script)) ran.run) ran.written flushed;
        book = ran.book;
        counts = ran.counts;
      };
    }

    module _ {S : Type 0} (P : S → List Step → S → Type 0) (implies : (from : S) (run : List Step) (to : S) → P from run to → AllGetNew run) (from : S) where
      abbrev first : LivePlace S
      first = beside (place from (silent left) asked) start

      pub lived_kept : (to : S) (closed : PlainBook) (answered : Summary) (course : Course) (it : LivedHost) → LivedThrough all passes P (AreFilesOf may_read) (StaysOnDisk kept new left) input first closed to out_new answered course → it.course ≡ course
          → (HasCleanDisk new → (t : PlainTerms) → IsOnDisk t kept left → IsOnDisk t new closed) → it.summary ≡ both_counts counts answered → it.moments ≡ length closed.line.moments
          → LivesKept terms files script all passes may_read input old new out_old out_new (Ok it)
      lived_kept to closed answered course it lived same closes summary moments = record {
        setup = is_set_up;
        closed = closed;
        answered = answered;
        lived = through_new all passes P (AreFilesOf may_read) implies (StaysOnDisk kept new left) (StaysSetUp terms files script all passes may_read input old new out_old out_new is_set_up)
            (λ stays. (stays.0, (stays.1.0, had (clean_live stays.0) stays.1.0 stays.1.1))) input first closed to out_new answered it.course
            (subst (LivedThrough all passes P (AreFilesOf may_read) (StaysOnDisk kept new left) input first closed to out_new answered) (sym same) lived);
        summary = summary;
        moments = moments;
        kept = λ clean t has. closes clean t (had (clean_live clean) t has);
      }

      pub live_stopped : (fault : LiveFault) → (HasCleanDisk new → (t : PlainTerms) → IsOnDisk t kept left → LeavesOnly (HoldsOne t (IsLiveFront all passes P (AreFilesOf may_read) input first out_new)) new)
          → LivesKept terms files script all passes may_read input old new out_old out_new (Err (Live fault))
      live_stopped fault leaves = record {
        setup = is_set_up;
        leaves = λ clean t has. holds_so t (IsLiveFront all passes P (AreFilesOf may_read) input first out_new) (IsLiveFront all passes (with_boxes AllGetNew) (AreFilesOf may_read) input (bare first) out_new) new
            (front_new all passes P (AreFilesOf may_read) implies input first out_new) (leaves clean t (had (clean_live clean) t has));
      }

  -- before the first line
  pub live_unasked : (fault : LiveFault) → LivesKept terms files script all passes may_read input old kept out_old asked (Err (Live fault))
  live_unasked fault =
      let first : LivePlace (Unit {0}) = beside (place tt (silent left) asked) start in
      let named = AreFilesOf may_read in
      record {
        setup = is_set_up kept asked (λ clean. clean);
        leaves = λ clean t has. front_here all passes (with_boxes AllGetNew) named input first ⊤ tt input first (lived_first all passes (with_boxes AllGetNew) named input first ⊤) t kept (had clean t has).leaves;
      }
