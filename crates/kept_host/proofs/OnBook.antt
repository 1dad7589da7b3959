-- A range of changes taken out of the book that was begun.
use Rattle.std.proofs.Common.{◌≡◌, inl, inr, ℕ, List, Option, Ok, Err, refl, sym, subst}
use Rattle.std.specs.Io.KnownBytes.{Keeps}
use Rattle.std.proofs.KnownBytes.{Appends-kept}
use Rattle.sqlite.specs.State.{State, HasCleanDisk}
use Rattle.journal_model.specs.Book.{PlainBook}
use Rattle.bt_journal.specs.BookView.{BookView}
use Rattle.console_answer.specs.declared.fault.Fault.TheVariants.{NotInForce}
use Rattle.console_text.specs.Text.{fault_text}
use Rattle.kept_file.specs.Keeps.{HoldsOne}
use Rattle.kept_ledger.specs.TermsView.{PlainTerms}
use Rattle.kept_ledger.specs.Ledger.{LeavesOnly}
use Rattle.kept_lines.specs.Kept.{IsOnDisk}
use Rattle.kept_host.specs.Taking.{AllOrNone, ComesTo, UnlessAll, Stops}
use Rattle.kept_lines.specs.declared.fault.LinesFault.TheVariants.{CannotKeep, Write}
use Rattle.kept_host.specs.declared.range.fault.RangeFault.{RangeFault}
use Rattle.kept_host.specs.declared.range.fault.RangeFault.TheVariants as taking
use Rattle.kept_lines.specs.declared.range.SerialRange.{SerialRange}
use Rattle.kept_host.specs.declared.range.taken.Taken.{Taken}
use Rattle.kept_host.specs.declared.range.taken.Taken.TheVariants.{All, NoneInForce, Refused}
use Rattle.kept_lines.specs.Begun.{WasReady, HasBook, BeginsOn}
use Rattle.kept_host.specs.Ranges.{IsOfDatabase, HasOnDisk, TakingStops, TakesKept}
use Rattle.kept_lines.specs.declared.fault.KeptFault.{KeptFault}
use Rattle.kept_lines.specs.declared.fault.KeptFault.TheVariants.{Open, Make, Lines}

-- what was written stays if nothing more is written after it
pub comes_kept : (range : SerialRange) (b c : PlainBook) (old mid new : Option (List ℕ)) (taken : Taken) → ComesTo range b c old mid taken → Keeps mid new → ComesTo range b c old new taken
comes_kept range b c old mid new (All count) it kept = let (some, count_is, (text, all, wrote)) = it in (some, count_is, (text, all, Appends-kept old mid new text wrote kept))
comes_kept range b c old mid new NoneInForce it kept = (it.0, Appends-kept old mid new (fault_text NotInForce) it.1 kept)
comes_kept range b c old mid new (Refused fault) it kept = (it.0, Appends-kept old mid new (fault_text fault) it.1 kept)

-- what a range came to that was not answered, by what was known of its book before
stops_began : (range : SerialRange) (b : PlainBook) (Before Began : PlainTerms → Type 0) (new : State) (out_old out_new : Option (List ℕ)) → (HasCleanDisk new → (t : PlainTerms) → Before t → Began t)
    → (why : RangeFault) → Stops range b Began new out_old out_new why → Stops range b Before new out_old out_new why
stops_began range b Before Began new out_old out_new began (taking.Lines (CannotKeep why)) it = record { left = it.left; text = it.text; taken = it.taken; unwritten = it.unwritten; disk = λ clean t was. it.disk clean t (began clean t was) }
stops_began range b Before Began new out_old out_new began (taking.Lines Write) (inl it) = inl (record { left = it.left; text = it.text; taken = it.taken; front = it.front; disk = λ clean t was. it.disk clean t (began clean t was) })
stops_began range b Before Began new out_old out_new began (taking.Lines Write) (inr it) = inr (record { fault = it.fault; why = it.why; front = it.front; disk = λ clean t was. it.disk clean t (began clean t was) })
stops_began range b Before Began new out_old out_new began (taking.Open why) it = (it.0, λ clean t was. it.1 clean t (began clean t was))

module _ (terms : PlainTerms) (range : SerialRange) (old : State) (out_old : Option (List ℕ)) where
  -- nothing was done
  pub not_taken : (new : State) (fault : KeptFault) → BeginsOn terms old new (Err fault) → TakesKept terms range old new out_old out_old (Err fault)
  not_taken new (Open why) it = inl (record { unwritten = refl; disk = it.0 }, it.1)
  not_taken new (Make error) it = record { unwritten = refl; disk = it }
  not_taken new (Lines why) it = absurd it

  module _ (mid new : State) (out_new : Option (List ℕ)) (book : BookView) (begins : BeginsOn terms old mid (Ok book)) (clean_before : HasCleanDisk new → HasCleanDisk mid) where
    is_it : IsOfDatabase terms range old new out_old out_new book.plain
    is_it clean ready t b has = (begins (clean_before clean) ready t b has).0

    on_disk : HasOnDisk terms range old new out_old out_new mid book.plain
    on_disk clean ready t b has = let it = begins (clean_before clean) ready t b has in subst (IsOnDisk t mid) (sym it.0) it.1

    module _ (left_so : HasCleanDisk new → (t : PlainTerms) → IsOnDisk t mid book.plain → LeavesOnly (HoldsOne t (AllOrNone range book.plain)) new) where
      pub took_kept : (left : PlainBook) (taken : Taken) (out_mid : Option (List ℕ)) → ComesTo range book.plain left out_old out_mid taken → Keeps out_mid out_new
          → (HasCleanDisk new → (t : PlainTerms) → IsOnDisk t mid book.plain → IsOnDisk t new left)
          → (HasCleanDisk new → (t : PlainTerms) → IsOnDisk t mid book.plain → UnlessAll taken (left ≡ book.plain)) → TakesKept terms range old new out_old out_new (Ok taken)
      took_kept left taken out_mid comes keeps kept same = record {
        book = book.plain;
        begins = is_it;
        left = left;
        comes = comes_kept range book.plain left out_old out_mid out_new taken comes keeps;
        kept = λ clean ready t b has. kept clean t (on_disk clean ready t b has);
        same = λ clean ready t b has. same clean t (on_disk clean ready t b has);
        leaves = λ clean ready t b has. left_so clean t (on_disk clean ready t b has);
      }

      pub stops_kept : (why : RangeFault) → Stops range book.plain (λ t. IsOnDisk t mid book.plain) new out_old out_new why → TakingStops terms range old new out_old out_new why
      stops_kept why stops = record {
        book = book.plain;
        begins = is_it;
        stops = stops_began range book.plain (λ t. WasReady old × HasBook terms t old book.plain) (λ t. IsOnDisk t mid book.plain) new out_old out_new (λ clean t was. on_disk clean was.0 t book.plain was.1) why stops;
        leaves = λ clean ready t b has. left_so clean t (on_disk clean ready t b has);
      }
