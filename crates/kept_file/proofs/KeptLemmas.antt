-- What is added leads on.
use Rattle.std.proofs.Common.{List, ◌++◌, Ok, Err, Result, OnOk, OnErr}
use Rattle.sqlite_trees.specs.Tree.{Trees}
use Rattle.sqlite.specs.State.{State}
use Rattle.sqlite.proofs.StateLemmas.{survives_weaker}
use Rattle.journal_model.specs.Book.{PlainBook}
use Rattle.kept_event.specs.declared.event.KeptEvent.{KeptEvent}
use Rattle.kept_book.specs.Leading.{LeadTo}
use Rattle.kept_book.proofs.LeadLemmas.{lead_on}
use Rattle.kept_ledger.specs.TermsView.{PlainTerms}
use Rattle.kept_ledger.specs.Ledger.{Hold, IsLedger, Commits}
use Rattle.kept_file.specs.Keeps.{Keeps, HoldsBook, start_of}

pub on_ok : {A E P : Type 0} (r : Result A E) → P → OnOk r P
on_ok (Ok a) p = p
on_ok (Err e) p = tt

pub then_ok : {A E P Q : Type 0} (r : Result A E) → (P → Q) → OnOk r P → OnOk r Q
then_ok (Ok a) f p = f p
then_ok (Err e) f p = tt

pub then_err : {A E P Q : Type 0} (r : Result A E) → (P → Q) → OnErr r P → OnErr r Q
then_err (Ok a) f p = tt
then_err (Err e) f p = f p

-- ---- what is added
pub keeps_more : (t : PlainTerms) (s : State) (b c : PlainBook) (events more : List KeptEvent) → LeadTo (start_of t) events b → LeadTo b more c → IsLedger t (events ++ more) s → Keeps t s c
keeps_more t s b c events more first then ledger = record { events = events ++ more; ledger = ledger; leads = lead_on (start_of t) b c events more first then }

pub holds_more : (t : PlainTerms) (db : Trees) (b c : PlainBook) (events more : List KeptEvent) → LeadTo (start_of t) events b → LeadTo b more c → Hold t (events ++ more) db → HoldsBook t c db
holds_more t db b c events more first then held = record { events = events ++ more; holds = held; leads = lead_on (start_of t) b c events more first then }

-- ---- what a call committed
pub commits_as : {A E : Type 0} (old new : State) (r : Result A E) (Now Then : State → Type 0) (P Q : Trees → Type 0) → (Now new → Then new) → ((db : Trees) → P db → Q db) → Commits old new r Now P → Commits old new r Then Q
commits_as old new r Now Then P Q now after h = record {
  done = λ clean. then_ok r now (h.done clean);
  durable = λ clean. then_ok r (λ only db may. after db (only db may)) (h.durable clean);
  crash = survives_weaker old new _ _ (λ _ db left. after db left) h.crash;
}
