-- What a connection keeps that is opened over what a crash left.
use Rattle.std.proofs.Common.{IsTrue, sym, subst}
use Rattle.std.proofs.Math.Logic.{∥∥₁_map}
use Rattle.sqlite_disk.specs.declared.Disk.{Ghosts}
use Rattle.sqlite_trees.specs.Objects.{catalog_tree}
use Rattle.sqlite_trees.specs.Tree.{Trees}
use Rattle.sqlite_store.specs.declared.store.FileStore.{FileStore}
use Rattle.sqlite_store.specs.FileStore.{state as store_state, view, recovers}
use Rattle.sqlite_wal.specs.Recovery.{Image}
use Rattle.sqlite_catalog.proofs.ReadLemmas.{lists_once}
use Rattle.sqlite.specs.Effect.{Database}
use Rattle.sqlite.specs.Files.{file_state, IsOpened}
use Rattle.sqlite.specs.Held.{Held}
use Rattle.sqlite.specs.Start.{FindsIn}
use Rattle.sqlite.proofs.Theorems.{next_run}
use Rattle.journal_model.specs.Book.{PlainBook}
use Rattle.kept_ledger.specs.TermsView.{PlainTerms}
use Rattle.kept_ledger.specs.Table.{ledger_schema}
use Rattle.kept_file.specs.Keeps.{HoldsOne, KeepsOne}

-- if a crash leaves databases of these books only, it keeps one of them
pub found_again : {D E : Type 0} (g : Ghosts D) (h : Ghosts E) (it : FileStore D g) (t : PlainTerms) (Books : PlainBook → Type 0) → IsTrue (view it).is_numbered → ((db : Trees) → recovers it db → HoldsOne t Books db)
    → (left : Image) → (store_state it).may_leave left → (opened : Held (FileStore E h)) → IsOpened opened → FindsIn left (file_state opened) → ∥ KeepsOne t Books (file_state opened) ∥₁
found_again g h it t Books numbered only left may opened is found =
    let s = file_state opened in
    let live = (is.1 is.0.is_open).0 in
    ∥∥₁_map (next_run it numbered (λ db r. (ledger_schema, (only db r).holds.holds.held.sound)) left may s found) (λ r.
    let held : HoldsOne t Books s.now.trees = subst (λ (d : Database). HoldsOne t Books d.trees) (sym is.0.clean) (only _ r) in
    record {
      book = held.book;
      is = held.is;
      keeps = record {
        events = held.holds.events;
        ledger = record {
          entries = held.holds.holds.entries;
          are = held.holds.holds.are;
          ledger = record {
            schema = lists_once (s.now.trees catalog_tree) s.now.schema ledger_schema live.lists held.holds.holds.held.sound.lists;
            held = held.holds.holds.held;
            committed = sym is.0.clean;
            autocommit = is.0.autocommit;
          };
        };
        leads = held.holds.leads;
      };
    })
