-- A dialogue on a kept book: what its lines leave, whether or not they come to their end.
use Rattle.std.proofs.Common.{◌≡◌, ◌⊎◌, inl, inr, ℕ, ◌<◌, List, [], ◌∷◌, length, Option, Some, None, Result, Ok, Err, refl, sym, subst}
use Rattle.std.specs.Prelude.{⊤, OnOk, OnErr}
use Rattle.std.specs.Option.{IfSome}
use Rattle.std.specs.Io.BufRead.{take_through, drop_through}
use Rattle.sqlite.specs.State.{State, HasCleanDisk}
use Rattle.sqlite.specs.declared.error.Error.{Error}
use Rattle.journal_model.specs.Book.{PlainBook}
use Rattle.bt_journal.specs.BookView.{BookView}
use Rattle.console_operand.specs.Line.{lines_of}
use Rattle.bt_syntax.specs.declared.files.FileText.{FileText}
use Rattle.console_input.specs.Named.{AreFilesOf}
use Rattle.console_input.specs.declared.fault.ReadFault.{ReadFault}
use Rattle.console_script.specs.Transcript.{Step}
use Rattle.console_script.specs.declared.summary.Summary.{Summary}
use Rattle.console_script.specs.Made.{AllGetNew}
use Rattle.console_talk.specs.declared.manner.Manner.TheVariants.{Dialogue}
use Rattle.console_looks.specs.declared.look.Look.{Look}
use Rattle.console_talk.specs.Talk.{Standing, Place, place, silent, before, looks, with_boxes}
use Rattle.console_talk.proofs.Spoken.{first_read, gave_none}
use Rattle.kept_ledger.specs.TermsView.{PlainTerms}
use Rattle.kept_ledger.specs.Ledger.{LeavesOnly}
use Rattle.kept_file.specs.Keeps.{HoldsBook, HoldsOne}
use Rattle.kept_lines.specs.Kept.{IsOnDisk, IsFront}
use Rattle.kept_lines.specs.declared.databases.Database.{Database}
use Rattle.kept_host.specs.declared.fault.Broken.{Broken}
use Rattle.kept_host.specs.declared.fault.Broken.TheVariants as broken
use Rattle.kept_lines.specs.declared.fault.InFileFault.TheVariants.{Unopened, Kept}
use Rattle.kept_lines.specs.declared.fault.KeptFault.{KeptFault}
use Rattle.kept_lines.specs.declared.fault.KeptFault.TheVariants.{Open, Make, Lines}
use Rattle.kept_host.specs.declared.fault.TalkFault.{TalkFault}
use Rattle.kept_host.specs.declared.fault.TalkFault.TheVariants.{InFile, Unread}
use Rattle.kept_lines.specs.Begun.{BeginsOn}
use Rattle.kept_host.specs.Looks.{LooksFront}
use Rattle.kept_host.specs.Talks.{StaysOnDisk, HasComeKept, TalkedThrough, IsBegun, IsPart, IsNext, IsTalkFront, StaysKept, TalkStops, TalksKept, fault_of, TalksOpened, TalksInFile}
use Rattle.kept_host.proofs.RangeTalk.{come_if, come_kept_so}

-- a database of one of some books is one of others, if they are all among those
pub holds_so : (t : PlainTerms) (P Q : PlainBook → Type 0) (s : State) → ((b : PlainBook) → P b → Q b) → LeavesOnly (HoldsOne t P) s → LeavesOnly (HoldsOne t Q) s
holds_so t P Q s implies only db may = let it : HoldsOne t P db = only db may in record { book = it.book; is = implies it.book it.is; holds = it.holds }

pub holds_one : (t : PlainTerms) (P : PlainBook → Type 0) (s : State) (b : PlainBook) → P b → LeavesOnly (HoldsBook t b) s → LeavesOnly (HoldsOne t P) s
holds_one t P s b is only db may = record { book = b; is = is; holds = only db may }

-- ---- a line that was not answered
module _ (named : List ℕ → List FileText → Type 0) (at : Standing) (line : List ℕ) (old : Option (List ℕ)) (t : PlainTerms) (s : State) where
  -- nothing was done
  pub part_none : LeavesOnly (HoldsBook t at.console.book) s → LeavesOnly (HoldsOne t (IsPart named at line old old)) s
  part_none only = holds_one t (IsPart named at line old old) s at.console.book (inl (refl, refl)) only

  -- some steps were done
  pub part_front : (files : List FileText) (new : Option (List ℕ)) → named line files → LeavesOnly (HoldsOne t (IsFront files (before at line) old new)) s → LeavesOnly (HoldsOne t (IsPart named at line old new)) s
  part_front files new are only =
      holds_so t (IsFront files (before at line) old new) (IsPart named at line old new) s (λ b front. inr (inr (inr (record { files = files; are = are; front = front })))) only

-- of what a line looks at a front was written
pub part_look : {E : Type 0} (named : List ℕ → List FileText → Type 0) (at : Standing) (line : List ℕ) (old new : Option (List ℕ)) (s : State) (look : Look) (r : Result (Unit {0}) E) → looks Dialogue line ≡ Some look
    → OnErr r (LooksFront look at.console.book old new) → OnErr r (HasCleanDisk s → (t : PlainTerms) → IsOnDisk t s at.console.book → LeavesOnly (HoldsOne t (IsPart named at line old new)) s)
part_look named at line old new s look (Ok done) so front = tt
part_look named at line old new s look (Err fault) so front =
    λ clean t on. holds_one t (IsPart named at line old new) s at.console.book (inr (inr (inl (record { look = look; looks_so = so; front = front; stays = refl })))) on.leaves

-- ---- a line that changed nothing
pub still_kept : {E : Type 0} (t : PlainTerms) (s : State) (b left : PlainBook) (r : Result (Unit {0}) E) → left ≡ b → IsOnDisk t s b → OnOk r (IsOnDisk t s left)
still_kept t s b left (Ok done) same on = subst (IsOnDisk t s) (sym same) on
still_kept t s b left (Err fault) same on = tt

-- ---- a dialogue that was not ended
pub next_line : (left : Option (List ℕ)) (given line after : List ℕ) → IfSome left (λ text. given ≡ take_through 10 text) → 0 < length given → lines_of given ≡ line ∷ lines_of after → IsNext left line
next_line None given line after read some cut = tt
next_line (Some text) given line after read some cut = (lines_of (drop_through 10 text), first_read text given line after read some cut)

module _ {S : Type 0} (supplied : S → List Step → S → Type 0) (named : List ℕ → List FileText → Type 0) (input : Option (List ℕ)) (from : Place S) where
  -- before the first line
  pub come_first : (Holds : Type 0) → HasComeKept supplied named Holds input from input from
  come_first Holds = record { said = []; went = refl; gave = gave_none input; none_ends = tt }

  module _ (Holds : Type 0) (holds : Holds) (unsaid : Option (List ℕ)) (to : Place S) (came : HasComeKept supplied named Holds input from unsaid to) (t : PlainTerms) (s : State) where
    front_by : (new : Option (List ℕ)) (left : PlainBook) → ((left ≡ to.at.console.book) × (new ≡ to.text)) ⊎ ((line : List ℕ) × IsNext unsaid line × IsBegun named to.at line to.text new left) → IsTalkFront supplied named input from new left
    front_by new left further = record { unsaid = unsaid; to = to; came = come_if supplied named Holds ⊤ (λ _. holds) input from unsaid to came; further = further }

    -- no line more was begun
    pub front_here : LeavesOnly (HoldsBook t to.at.console.book) s → LeavesOnly (HoldsOne t (IsTalkFront supplied named input from to.text)) s
    front_here only = holds_one t (IsTalkFront supplied named input from to.text) s to.at.console.book (front_by to.text to.at.console.book (inl (refl, refl))) only

    further_by : (line : List ℕ) (new : Option (List ℕ)) → IsNext unsaid line → (left : PlainBook) → IsPart named to.at line to.text new left → IsTalkFront supplied named input from new left
    further_by line new next left (inl none) = front_by new left (inl none)
    further_by line new next left (inr begun) = front_by new left (inr (line, next, begun))

    pub front_further : (line : List ℕ) (new : Option (List ℕ)) → IsNext unsaid line → LeavesOnly (HoldsOne t (IsPart named to.at line to.text new)) s → LeavesOnly (HoldsOne t (IsTalkFront supplied named input from new)) s
    front_further line new next only = holds_so t (IsPart named to.at line to.text new) (IsTalkFront supplied named input from new) s (further_by line new next) only

  -- if what supplied its boxes implies that each was new
  front_so : ((from : S) (run : List Step) (to : S) → supplied from run to → AllGetNew run) → (new : Option (List ℕ)) (left : PlainBook) → IsTalkFront supplied named input from new left
      → IsTalkFront (with_boxes AllGetNew) named input (place tt from.at from.text) new left
  front_so implies new left it = record {
    unsaid = it.unsaid;
    to = place tt it.to.at it.to.text;
    came = come_kept_so supplied AllGetNew named implies ⊤ input from it.unsaid it.to it.came;
    further = it.further;
  }

-- ---- on the book that was begun
module _ (terms : PlainTerms) (may_read : List ℕ → ℕ → Result (List ℕ) ReadFault → Type 0) (input : Option (List ℕ)) (old : State) (out_old : Option (List ℕ)) where
  -- no line was read
  pub not_talked : (new : State) (fault : KeptFault) → BeginsOn terms old new (Err fault) → TalksKept terms may_read input old new out_old out_old (Err (InFile (Kept fault)))
  not_talked new (Open why) it = inl (record { unwritten = refl; disk = it.0 }, it.1)
  not_talked new (Make error) it = record { unwritten = refl; disk = it }
  not_talked new (Lines why) it = absurd it

  stops_by : (new : State) (out_new : Option (List ℕ)) (why : Broken) → TalkStops terms may_read input old new out_old out_new → TalksKept terms may_read input old new out_old out_new (Err (fault_of why))
  stops_by new out_new (broken.Lines why) it = it
  stops_by new out_new (broken.Open why) it = inr it
  stops_by new out_new (broken.Unread why) it = it

  module _ {S : Type 0} (P : S → List Step → S → Type 0) (implies : (from : S) (run : List Step) (to : S) → P from run to → AllGetNew run) (from : S) (mid new : State) (out_new : Option (List ℕ)) (book : BookView)
      (begins : BeginsOn terms old mid (Ok book)) (clean_before : HasCleanDisk new → HasCleanDisk mid) where
    stays_so : StaysKept terms may_read input old new out_old out_new → StaysOnDisk mid new book.plain
    stays_so (clean, (ready, (t, (b, has)))) = let begun = begins (clean_before clean) ready t b has in (clean, (t, subst (IsOnDisk t mid) (sym begun.0) begun.1))

    pub talked_kept : (to : S) (left : PlainBook) (summary : Summary) → TalkedThrough P (AreFilesOf may_read) (StaysOnDisk mid new book.plain) input (place from (silent book.plain) out_old) left to out_new summary
        → (HasCleanDisk new → (t : PlainTerms) → IsOnDisk t mid book.plain → IsOnDisk t new left) → TalksKept terms may_read input old new out_old out_new (Ok summary)
    talked_kept to left summary it kept =
        let Stays = StaysKept terms may_read input old new out_old out_new in
        let named = AreFilesOf may_read in
        let first = place from (silent book.plain) out_old in
        let last = place to it.end out_new in
        record {
          book = book.plain;
          left = left;
          talked = record {
            unsaid = it.unsaid;
            end = it.end;
            came = come_kept_so P AllGetNew named implies Stays input first it.unsaid last (come_if P named (StaysOnDisk mid new book.plain) Stays stays_so input first it.unsaid last it.came);
            stops = it.stops;
            took = it.took;
            left = it.left;
            counts = it.counts;
          };
          kept = λ clean ready t b has.
              let begun = begins (clean_before clean) ready t b has in
              (begun.0, kept clean t (subst (IsOnDisk t mid) (sym begun.0) begun.1));
        }

    pub talk_stopped : (why : Broken) (fault : TalkFault) → fault ≡ fault_of why
        → (HasCleanDisk new → (t : PlainTerms) → IsOnDisk t mid book.plain → LeavesOnly (HoldsOne t (IsTalkFront P (AreFilesOf may_read) input (place from (silent book.plain) out_old) out_new)) new)
        → TalksKept terms may_read input old new out_old out_new (Err fault)
    talk_stopped why fault is leaves =
        let front = IsTalkFront P (AreFilesOf may_read) input (place from (silent book.plain) out_old) out_new in
        let front_new = IsTalkFront (with_boxes AllGetNew) (AreFilesOf may_read) input (place tt (silent book.plain) out_old) out_new in
        subst (λ (f : TalkFault). TalksKept terms may_read input old new out_old out_new (Err f)) (sym is)
        (stops_by new out_new why (record {
          book = book.plain;
          leaves = λ clean ready t b has.
              let begun = begins (clean_before clean) ready t b has in (
                begun.0,
                holds_so t front front_new new (front_so P (AreFilesOf may_read) input (place from (silent book.plain) out_old) implies out_new)
                    (leaves clean t (subst (IsOnDisk t mid) (sym begun.0) begun.1)),
              );
        }))

-- ---- on the book of a file
pub in_file : (may_open : Result Database Error → Type 0) (terms : PlainTerms) (may_read : List ℕ → ℕ → Result (List ℕ) ReadFault → Type 0) (input out_old out_new : Option (List ℕ)) (result : Result Summary TalkFault)
    → TalksOpened may_open terms may_read input out_old out_new result → TalksInFile may_open terms may_read input out_old out_new result
in_file may_open terms may_read input out_old out_new (Ok summary) it = it
in_file may_open terms may_read input out_old out_new (Err (InFile (Unopened error))) it = absurd it.ran
in_file may_open terms may_read input out_old out_new (Err (InFile (Kept fault))) it = it
in_file may_open terms may_read input out_old out_new (Err (Unread why)) it = it
