-- A script on the book that was begun, and frames that are served on the book that it left.
use Rattle.std.proofs.Common.{◌≡◌, ℕ, List, length, Option, Result, Ok, Err, refl}
use Rattle.std.specs.Io.KnownBytes.{Appends, Keeps}
use Rattle.sqlite.specs.State.{State, HasCleanDisk}
use Rattle.sqlite.specs.declared.error.Error.{Error}
use Rattle.journal_model.specs.Book.{PlainBook}
use Rattle.bt_journal.specs.BookView.{BookView}
use Rattle.bt_syntax.specs.declared.files.FileText.{FileText}
use Rattle.console_script.specs.Transcript.{Step, RanAll}
use Rattle.console_script.specs.Made.{AllGetNew}
use Rattle.console_script.specs.declared.summary.Summary.{Summary}
use Rattle.thread_frames.specs.declared.frame.FrameIn.{FrameIn}
use Rattle.thread_host_run.specs.HostRuns.{AreToldOf}
use Rattle.thread_host_run.proofs.OnHost.{ran_so, told_kept}
use Rattle.kept_ledger.specs.TermsView.{PlainTerms}
use Rattle.kept_lines.specs.Begun.{BeginsOn}
use Rattle.kept_lines.specs.Kept.{IsOnDisk, Stops as LinesStop, script_on}
use Rattle.kept_lines.specs.declared.fault.KeptFault.{KeptFault}
use Rattle.kept_lines.specs.declared.fault.KeptFault.TheVariants.{Open, Make, Lines}
use Rattle.kept_lines.specs.declared.fault.LinesFault.{LinesFault}
use Rattle.kept_lines.specs.declared.fault.LinesFault.TheVariants.{CannotKeep, Write}
use Rattle.kept_lines.proofs.Beginning.{begun_on, stops_by}
use Rattle.thread_kept_frames.specs.Serving.{Stops}
use Rattle.kept_lines.specs.declared.databases.Database.{Database}
use Rattle.thread_kept_frames.specs.Hosts.{IsOfDatabase, HadBook, ServesKept, ServesOpened}
use Rattle.thread_kept_frames.specs.declared.fault.ServeFault.{ServeFault}
use Rattle.thread_kept_frames.specs.declared.fault.ServeFault.TheVariants as serve
use Rattle.thread_kept_frames.specs.declared.host_fault.HostRunFault.TheVariants.{Script, Frames}
use Rattle.thread_kept_frames.specs.declared.kept.ServedHost.{ServedHost}

-- a book of other terms was on the disk when frames began that stopped
frames_by : (all : List FrameIn) (b : PlainBook) (P Q : PlainTerms → Type 0) (new : State) (out_old out_new : Option (List ℕ)) (fault : ServeFault)
    → (HasCleanDisk new → (t : PlainTerms) → P t → Q t) → Stops all b Q new out_old out_new fault → Stops all b P new out_old out_new fault
frames_by all b P Q new out_old out_new serve.BadFrames implies it = record { why = it.why; unwritten = it.unwritten; disk = λ clean t was. it.disk clean t (implies clean t was) }
frames_by all b P Q new out_old out_new serve.NoMemory implies it = record { why = it.why; unwritten = it.unwritten; disk = λ clean t was. it.disk clean t (implies clean t was) }
frames_by all b P Q new out_old out_new serve.NoThread implies it = record { why = it.why; unwritten = it.unwritten; disk = λ clean t was. it.disk clean t (implies clean t was) }
frames_by all b P Q new out_old out_new (serve.Lines (CannotKeep why)) implies it = record {
  ends = it.ends;
  left = it.left;
  served = it.served;
  unwritten = it.unwritten;
  disk = λ clean t was. it.disk clean t (implies clean t was);
}
frames_by all b P Q new out_old out_new (serve.Lines Write) implies it = record {
  ends = it.ends;
  left = it.left;
  served = it.served;
  front = it.front;
  disk = λ clean t was. it.disk clean t (implies clean t was);
}

module _ (terms : PlainTerms) (files : List FileText) (script : List ℕ) (all : List FrameIn) (old : State) (out_old : Option (List ℕ)) where
  -- no line was run
  pub not_begun : (new : State) (fault : KeptFault) → BeginsOn terms old new (Err fault) → ServesKept terms files script all old new out_old out_old (Err (Script fault))
  not_begun new (Open why) it = (record { unwritten = refl; disk = it.0 }, it.1)
  not_begun new (Make error) it = record { unwritten = refl; disk = it }
  not_begun new (Lines why) it = absurd it

  module _ (mid : State) (book : BookView) (begins : BeginsOn terms old mid (Ok book)) where
    of_database : (new : State) → (HasCleanDisk new → HasCleanDisk mid) → IsOfDatabase terms old new book.plain
    of_database new clean_before clean ready t b has = (begins (clean_before clean) ready t b has).0

    pub script_stops : (new : State) (out_new : Option (List ℕ)) → (HasCleanDisk new → HasCleanDisk mid) → (why : LinesFault) → LinesStop files (script_on book.plain script) (λ t. IsOnDisk t mid book.plain) new out_old out_new why
        → ServesKept terms files script all old new out_old out_new (Err (Script (Lines why)))
    script_stops new out_new clean_before why it = record {
      book = book.plain;
      begins = of_database new clean_before;
      stops = stops_by files (script_on book.plain script) (HadBook terms old book.plain) (λ t. IsOnDisk t mid book.plain) new out_old out_new why (λ clean. begun_on terms old mid book begins (clean_before clean)) it;
    }

    -- ---- all lines were run, and are kept
    module _ (kept : State) (between : Option (List ℕ)) (left : PlainBook) (P : List Step → Type 0) (implies : (run : List Step) → P run → AllGetNew run) (clean_lines : HasCleanDisk kept → HasCleanDisk mid)
        (on : HasCleanDisk kept → (t : PlainTerms) → IsOnDisk t mid book.plain → IsOnDisk t kept left) where
      had : HasCleanDisk kept → (t : PlainTerms) → HadBook terms old book.plain t → IsOnDisk t kept left
      had clean t has = on clean t (begun_on terms old mid book begins (clean_lines clean) t has)

      pub frames_served : (new : State) (out_new : Option (List ℕ)) (closed : PlainBook) (it : ServedHost) → (HasCleanDisk new → HasCleanDisk kept) → RanAll out_old between book.plain P files script left it.summary
          → AreToldOf left all it.ends.items closed (Appends between out_new) → it.moments ≡ length closed.line.moments → (HasCleanDisk new → (t : PlainTerms) → IsOnDisk t kept left → IsOnDisk t new closed)
          → ServesKept terms files script all old new out_old out_new (Ok it)
      frames_served new out_new closed it clean_frames ran told moments closes = record {
        book = book.plain;
        begins = of_database new (λ clean. clean_lines (clean_frames clean));
        left = left;
        between = between;
        ran = ran_so out_old between book.plain left files script it.summary implies ran;
        closed = closed;
        told = told;
        moments = moments;
        kept = λ clean t has. closes clean t (had (clean_frames clean) t has);
      }

      pub frames_stop : (new : State) (out_new : Option (List ℕ)) (summary : Summary) (fault : ServeFault) → (HasCleanDisk new → HasCleanDisk kept) → RanAll out_old between book.plain P files script left summary
          → Stops all left (λ t. IsOnDisk t kept left) new between out_new fault → ServesKept terms files script all old new out_old out_new (Err (Frames fault))
      frames_stop new out_new summary fault clean_frames ran it = record {
        book = book.plain;
        begins = of_database new (λ clean. clean_lines (clean_frames clean));
        left = left;
        summary = summary;
        between = between;
        ran = ran_so out_old between book.plain left files script summary implies ran;
        stops = frames_by all left (HadBook terms old book.plain) (λ t. IsOnDisk t kept left) new between out_new fault (λ clean. had (clean_frames clean)) it;
      }

-- if nothing more was written after it
pub opened_kept : (may_open : Result Database Error → Type 0) (may_be_time : ℕ → Type 0) (terms : PlainTerms) (files : List FileText) (script frames : List ℕ) (old mid new : Option (List ℕ)) (it : ServedHost)
    → ServesOpened may_open may_be_time terms files script frames old mid (Ok it) → Keeps mid new → ServesOpened may_open may_be_time terms files script frames old new (Ok it)
opened_kept may_open may_be_time terms files script frames old mid new it done kept = record {
  all = done.all;
  in_file = done.in_file;
  old = done.old;
  new = done.new;
  opened = done.opened;
  ready = done.ready;
  times = done.times;
  went = record {
    book = done.went.book;
    begins = done.went.begins;
    left = done.went.left;
    between = done.went.between;
    ran = done.went.ran;
    closed = done.went.closed;
    told = told_kept done.went.left done.went.closed done.all it.ends.items done.went.between mid new done.went.told kept;
    moments = done.went.moments;
    kept = done.went.kept;
  };
}
