-- What is on the disk after a range, and what a crash leaves.
use Rattle.std.proofs.Common.{◌≡◌, ◌⊎◌, inl, inr, ℕ, ◌<◌, true, false, List, [], ◌∷◌, length, Option, Result, Ok, Err, OnOk, refl, sym, subst, arith}
use Rattle.std.specs.Prelude.{◌==◌, IfOk, IfErr}
use Rattle.std.proofs.lemmas.Bool.{eqb-true}
use Rattle.std.specs.Io.KnownBytes.{Appends}
use Rattle.sqlite_trees.specs.Tree.{Trees}
use Rattle.sqlite.specs.State.{State, HasCleanDisk, Survives}
use Rattle.journal_model.specs.Book.{PlainBook}
use Rattle.console_answer.specs.declared.fault.Fault.{Fault}
use Rattle.console_text.specs.Text.{fault_text}
use Rattle.console_text.specs.Written.{WritesFront}
use Rattle.kept_event.specs.declared.event.KeptEvent.{KeptEvent}
use Rattle.kept_book.specs.Leading.{LeadTo}
use Rattle.kept_ledger.specs.TermsView.{PlainTerms}
use Rattle.kept_ledger.specs.Ledger.{IsLedger, LeavesOnly}
use Rattle.kept_file.specs.Keeps.{HoldsBook, HoldsOne}
use Rattle.kept_lines.specs.Kept.{IsOnDisk, IsCut, IsLost}
use Rattle.kept_lines.specs.declared.fault.LinesFault.{LinesFault}
use Rattle.kept_lines.specs.declared.fault.LinesFault.TheVariants.{CannotKeep, Write}
use Rattle.kept_host.specs.declared.range.fault.RangeFault.{RangeFault}
use Rattle.kept_host.specs.declared.range.fault.RangeFault.TheVariants.{Lines}
use Rattle.kept_lines.specs.declared.range.SerialRange.{SerialRange}
use Rattle.kept_host.specs.declared.range.taken.Taken.{Taken}
use Rattle.kept_host.specs.declared.range.taken.Taken.TheVariants.{All, NoneInForce, Refused}
use Rattle.kept_lines.specs.Chosen.{chosen}
use Rattle.kept_host.specs.Taking.{AllTaken, AllOrNone, ComesTo, UnlessAll, IfAll, IsUnwrittenRefusal, Stops}

-- ---- a book that is opened again
module _ (old new : State) (survives : Survives old new (λ _. (t : PlainTerms) (events : List KeptEvent) → IsLedger t events old → ⊥)) where
  pub was_clean : HasCleanDisk new → HasCleanDisk old
  was_clean clean = omega (arith, clean, survives.clean)

  pub left_opened : HasCleanDisk new → (t : PlainTerms) (b : PlainBook) → IsOnDisk t old b → LeavesOnly (HoldsBook t b) new
  left_opened clean t b on db may = by (survives.crash clean db may)
    where
      by : old.may_leave db ⊎ ((t : PlainTerms) (events : List KeptEvent) → IsLedger t events old → ⊥) → HoldsBook t b db
      by (inl was) = on.leaves db was
      by (inr never) = absurd (never t on.keeps.events on.keeps.ledger)

  pub on_disk_again : (HasCleanDisk new → (t : PlainTerms) (events : List KeptEvent) → IsLedger t events old → IsLedger t events new)
      → HasCleanDisk new → (t : PlainTerms) (b : PlainBook) → IsOnDisk t old b → IsOnDisk t new b
  on_disk_again same clean t b on = record {
    keeps = record { events = on.keeps.events; ledger = same clean t on.keeps.events on.keeps.ledger; leads = on.keeps.leads };
    leaves = left_opened clean t b on;
  }

-- ---- what a crash leaves
module _ (range : SerialRange) (b : PlainBook) where
  pub left_before : (t : PlainTerms) (s : State) → LeavesOnly (HoldsBook t b) s → LeavesOnly (HoldsOne t (AllOrNone range b)) s
  left_before t s leaves db may = record { book = b; is = inl refl; holds = leaves db may }

  module _ (c : PlainBook) (text : List ℕ) (taken : AllTaken (chosen range b) b c text) where
    holds_behind : (t : PlainTerms) (db : Trees) → HoldsBook t c db → HoldsOne t (AllOrNone range b) db
    holds_behind t db held = record { book = c; is = inr (text, taken); holds = held }

    pub left_behind : (t : PlainTerms) (s : State) → LeavesOnly (HoldsBook t c) s → LeavesOnly (HoldsOne t (AllOrNone range b)) s
    left_behind t s leaves db may = holds_behind t db (leaves db may)

    left_cut : (t : PlainTerms) (s : State) → IsCut t s b c → LeavesOnly (HoldsOne t (AllOrNone range b)) s
    left_cut t s cut db may = elim (cut.leaves db may) [
      | inl held ↦ record { book = b; is = inl refl; holds = held }
      | inr held ↦ holds_behind t db held
    ]

    -- of what all of them noted
    module _ (old new : State) (out_old out_new : Option (List ℕ)) (events : List KeptEvent) (leads : LeadTo b events c) where
      pub lost_left : (fault : LinesFault) → IsLost old new out_old out_new events text fault → HasCleanDisk new → (t : PlainTerms) → IsOnDisk t old b → LeavesOnly (HoldsOne t (AllOrNone range b)) new
      lost_left (CannotKeep why) h clean t on = left_cut t new (h.1 clean t b c on leads)
      lost_left Write h clean t on = left_behind t new (h.1 clean t b c on leads).leaves

      pub lost_stops : (fault : LinesFault) → IsLost old new out_old out_new events text fault → Stops range b (λ t. IsOnDisk t old b) new out_old out_new (Lines fault)
      lost_stops (CannotKeep why) h = record { left = c; text = text; taken = taken; unwritten = h.2; disk = λ clean t on. h.1 clean t b c on leads }
      lost_stops Write h = inl (record { left = c; text = text; taken = taken; front = h.2; disk = λ clean t on. h.1 clean t b c on leads })

-- ---- a line that says why none is taken out
pub any_ok : {A E P : Type 0} (r : Result A E) → P → OnOk r P
any_ok (Ok it) p = p
any_ok (Err fault) p = tt

module _ (out_old out_new : Option (List ℕ)) (fault : Fault) (it : Taken) where
  pub comes_so : (range : SerialRange) (b c : PlainBook) (r : Result Taken RangeFault) → IfOk r (λ told. (told ≡ it) × Appends out_old out_new (fault_text fault))
      → (Appends out_old out_new (fault_text fault) → ComesTo range b c out_old out_new it) → IfOk r (ComesTo range b c out_old out_new)
  comes_so range b c (Ok told) h comes = subst (ComesTo range b c out_old out_new) (sym h.0) (comes h.1)
  comes_so range b c (Err why) h comes = tt

  pub same_so : (P : Type 0) (r : Result Taken RangeFault) → IfOk r (λ told. (told ≡ it) × Appends out_old out_new (fault_text fault)) → UnlessAll it P → IfOk r (λ told. UnlessAll told P)
  same_so P (Ok told) h same = subst (λ (x : Taken). UnlessAll x P) (sym h.0) same
  same_so P (Err why) h same = tt

  pub all_so : (P : Type 0) (r : Result Taken RangeFault) → IfOk r (λ told. (told ≡ it) × Appends out_old out_new (fault_text fault)) → IfAll it P → IfOk r (λ told. IfAll told P)
  all_so P (Ok told) h all = subst (λ (x : Taken). IfAll x P) (sym h.0) all
  all_so P (Err why) h all = tt

  pub stops_so : (range : SerialRange) (b : PlainBook) (old new : State) (r : Result Taken RangeFault) → IfErr r (λ why. (why ≡ Lines Write) × WritesFront out_old out_new (fault_text fault))
      → (WritesFront out_old out_new (fault_text fault) → IsUnwrittenRefusal range b (λ t. IsOnDisk t old b) new out_old out_new) → IfErr r (Stops range b (λ t. IsOnDisk t old b) new out_old out_new)
  stops_so range b old new (Ok told) h stops = tt
  stops_so range b old new (Err why) h stops = subst (Stops range b (λ t. IsOnDisk t old b) new out_old out_new) (sym h.0) (inr (stops h.1))

-- ---- the serials
pub no_items : (xs : List ℕ) → (length xs == 0) ≡ true → xs ≡ []
no_items [] h = refl
no_items (x ∷ xs) h = let none : length (x ∷ xs) ≡ 0 = eqb-true (length (x ∷ xs)) 0 h in absurd (omega arith)

pub some_items : (xs : List ℕ) → (length xs == 0) ≡ false → 0 < length xs
some_items [] h = absurd (cc)
some_items (x ∷ xs) h = omega arith

-- ---- what follows if all are taken out
pub if_all : (P Q : Type 0) → (P → Q) → (taken : Taken) → IfAll taken P → IfAll taken Q
if_all P Q implies (All count) h = implies h
if_all P Q implies NoneInForce h = tt
if_all P Q implies (Refused fault) h = tt
