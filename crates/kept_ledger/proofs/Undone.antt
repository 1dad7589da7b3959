-- What an error leaves: the last commit stays, and a rollback shows it again.
use Rattle.std.proofs.Common.{◌≡◌, ℕ, List, [], length, true, false, Bool, None, IsSome, IsTrue, MatchBool, Ok, Err, Result, OnErr, inl, inr, refl, sym, ap, subst, ◌∙◌}
use Rattle.sqlite_value.specs.declared.value.Value.{Value}
use Rattle.sqlite_value.specs.Order.{Row as Values}
use Rattle.sqlite_trees.specs.Tree.{Trees}
use Rattle.sqlite_schema.specs.declared.command.Command.TheVariants.{Begin, Insert, Rollback}
use Rattle.sqlite_schema.specs.declared.command.Source.TheVariants.{Values as Given}
use Rattle.sqlite_resolve.specs.declared.compiled.Compiled.{Compiled}
use Rattle.sqlite_resolve.specs.declared.error.CompileError.{CompileError}
use Rattle.sqlite.specs.declared.error.Error.{Error}
use Rattle.sqlite.specs.Listing.{understood}
use Rattle.sqlite.specs.Effect.{Database}
use Rattle.sqlite.specs.Calls.{IsWrite}
use Rattle.sqlite.specs.State.{State, KeepsCommit, IsUnchanged, IsRolledBack, Executes, ExecutesIn, RunsCommand, IsNotRun, IsNoStatement, IsMisplaced, MayChange, shows_rows, CommitsBy}
use Rattle.sqlite.proofs.Callers.{runs_as, IsPlain, command_of}
use Rattle.kept_event.specs.declared.event.KeptEvent.{KeptEvent}
use Rattle.kept_ledger.specs.Table.{ledger_schema}
use Rattle.kept_ledger.specs.TermsView.{PlainTerms}
use Rattle.kept_ledger.specs.Ledger.{Entry, HoldEntries, IsLedger, IsLedgerOf, IsAdding, IsUndone}
use Rattle.kept_ledger.proofs.Texts.{add_text, begin_text, rollback_text, add_is, add_plain, begin_is, begin_plain, terms, RollsBack, rolls_back}
use Rattle.kept_ledger.proofs.Statements.{commits_as}

-- ---- the last commit stays
keeps_same : (old new : State) → IsUnchanged old new → KeepsCommit old new
keeps_same old new same = record { was_open = λ _. same.0.was_open; committed = λ _. same.0.committed_is }

keeps_undone : (old new : State) → IsRolledBack old new → KeepsCommit old new
keeps_undone old new back = record { was_open = back.was_open; committed = λ it. (back.undone it).1 }

pub keeps_none : (s : State) → KeepsCommit s s
keeps_none s = record { was_open = λ it. it; committed = λ _. refl }

pub then_keeps : (a b c : State) → KeepsCommit a b → KeepsCommit b c → KeepsCommit a c
then_keeps a b c one two = record { was_open = λ it. one.was_open (two.was_open it); committed = λ it. two.committed it ∙ one.committed (two.was_open it) }

-- if a statement gives an error
runs_err : (old new : State) (sql : List ℕ) (c : Compiled) (params : Values) (e : Error) (P : Type 0) (shows : Bool) → MatchBool shows (P × IsUnchanged old new) (RunsCommand old new sql c params (Err e)) → KeepsCommit old new
runs_err old new sql c params e P true h = keeps_same old new h.1
runs_err old new sql c params e P false (inl h) = keeps_same old new h.1
runs_err old new sql c params e P false (inr fails) = keeps_undone old new fails.3

pub keeps_err : (sql : List ℕ) (params : Values) (old new : State) (e : Error) → Executes sql params old new (Err e) → KeepsCommit old new
unfolding ExecutesIn IsNotRun
keeps_err sql params old new e (inl (inl h)) = keeps_same old new h.1
keeps_err sql params old new e (inl (inr fails)) = keeps_undone old new fails.3
keeps_err sql params old new e (inr h) = runs_err old new sql h.0 _ e _ (shows_rows false h.0) h.2

pub keeps_begin : (old new : State) (t : PlainTerms) (es : List Entry) (r : Result ℕ Error) → IsLedgerOf t es old → Executes begin_text [] old new r → KeepsCommit old new
keeps_begin old new t es (Err e) was h = keeps_err begin_text [] old new e h
keeps_begin old new t es (Ok count) was h =
    let ran = runs_as begin_text [] old new ledger_schema was.schema Begin (begin_is ledger_schema) (begin_plain ledger_schema) count h in
    record { was_open = λ _. ran.1.was_open; committed = λ _. ran.1.committed_is }

pub keeps_add : (old new : State) (params : List Value) (t : PlainTerms) (es : List Entry) (r : Result ℕ Error) → IsAdding t es old → Executes add_text params old new r → KeepsCommit old new
keeps_add old new params t es (Err e) was h = keeps_err add_text params old new e h
keeps_add old new params t es (Ok count) was h =
    let w = runs_as add_text params old new ledger_schema was.schema (Insert 0 (Given terms 22)) add_is add_plain count h in
    record { was_open = λ _. w.shown.was_open; committed = λ _. rw was.inside at w.shown.committed_is }

pub keeps_end : (sql : List ℕ) (old new : State) (r : Result ℕ Error) → Executes sql [] old new r → OnErr r (KeepsCommit old new)
keeps_end sql old new (Err e) h = keeps_err sql [] old new e h
keeps_end sql old new (Ok count) h = tt

pub on_err : {A E P : Type 0} (r : Result A E) → P → OnErr r P
on_err (Ok a) p = tt
on_err (Err e) p = p

-- ---- a rollback
undone_back : (old new : State) → IsRolledBack old new → IsUndone old new
undone_back old new back = record { was_open = back.was_open; now_is = λ it. (back.undone it).0; committed_is = λ it. (back.undone it).1; autocommit = back.autocommit }

-- with no transaction there is nothing to undo
pub undone_none : (s : State) → s.in_transaction ≡ false → (IsTrue s.is_open → s.now ≡ s.committed) → IsUndone s s
undone_none s auto settled = record { was_open = λ it. it; now_is = settled; committed_is = λ _. refl; autocommit = auto }

-- ROLLBACK is a statement, whatever the tables
no_other : (s : State) (e : Error) → ¬ IsNoStatement s rollback_text [] e
no_other s e (inl h) = subst (RollsBack rollback_text) h.1 (rolls_back s.now.schema)
no_other s e (inr (c, is, inl h)) = h.0 (subst (RollsBack rollback_text) is (rolls_back s.now.schema)).0
no_other s e (inr (c, is, inr (inl h))) = let it = subst (RollsBack rollback_text) is (rolls_back s.now.schema) in h.0 (sym (ap length it.1))
no_other s e (inr (c, is, inr (inr h))) = let it = subst (RollsBack rollback_text) is (rolls_back s.now.schema) in h.0 it.2

-- and in a transaction it is not out of place
in_place : (s : State) (e : Error) → s.in_transaction ≡ true → ¬ IsMisplaced s Rollback e
in_place s e inside (inl (at, inl h)) = let no = h.0 in cc
in_place s e inside (inl (at, inr h)) = let out = h.1 in cc
in_place s e inside (inr (at, name, inl h, unnamed)) = cc
in_place s e inside (inr (at, name, inr h, unnamed)) = cc

no_change : (c : Compiled) → c.command ≡ Rollback → c.returning ≡ None → ¬ MayChange c
no_change c is none (inl writes) = subst IsWrite is writes
no_change c is none (inr some) = let never = subst IsSome none some in cc

fails_back : (old new : State) (e : Error) (c : Compiled) (params : Values) → old.in_transaction ≡ true → c.command ≡ Rollback → c.returning ≡ None → RunsCommand old new rollback_text c params (Err e) → IsUndone old new
fails_back old new e c params inside is none (inl (inl misplaced, same)) = absurd (in_place old e inside (subst (λ k. IsMisplaced old k e) is misplaced))
fails_back old new e c params inside is none (inl (inr does, same)) = absurd (no_change c is none does.0)
fails_back old new e c params inside is none (inr fails) = undone_back old new fails.3

pub rolls_undone : (old new : State) (r : Result ℕ Error) → old.in_transaction ≡ true → Executes rollback_text [] old new r → IsUndone old new
unfolding ExecutesIn IsNotRun
rolls_undone old new (Err e) inside (inl (inl h)) = absurd (no_other old e h.0)
rolls_undone old new (Err e) inside (inl (inr fails)) = undone_back old new fails.3
rolls_undone old new (Err e) inside (inr (c, it, h)) =
    let is = subst (RollsBack rollback_text) it.is (rolls_back old.now.schema) in
    let hidden : shows_rows false c ≡ false = rw (is.3, is.4) refl in
    fails_back old new e c _ inside is.4 is.3 (rw hidden at h)
rolls_undone old new (Ok count) inside (c, it, h) =
    let is = subst (RollsBack rollback_text) it.is (rolls_back old.now.schema) in
    let hidden : shows_rows false c ≡ false = rw (is.3, is.4) refl in
    undone_back old new (rw is.4 at (rw hidden at h)).1

pub rollback_commits : (s : State) (db : Trees) → ¬ CommitsBy rollback_text [] s db
rollback_commits s db h = elim (commits_as rollback_text [] s s.now.schema refl Rollback (is_rollback s) (is_plain s) db h) [
  | inl other ↦ elim other.0 [ inl e ↦ absurd cc | inr e ↦ absurd (let is = e.2 in cc) ]
  | inr may ↦ absurd (let is = may.3 in cc)
]
  where
    of_command : (r : Result Compiled CompileError) → RollsBack rollback_text r → command_of r ≡ Rollback
    of_command (Ok c) it = it.4
    of_command (Err e) it = absurd it

    of_plain : (r : Result Compiled CompileError) → RollsBack rollback_text r → IsPlain r
    of_plain (Ok c) it = (it.3, it.2)
    of_plain (Err e) it = it

    is_rollback : (s : State) → command_of (understood s.now.schema rollback_text) ≡ Rollback
    is_rollback s = of_command (understood s.now.schema rollback_text) (rolls_back s.now.schema)

    is_plain : (s : State) → IsPlain (understood s.now.schema rollback_text)
    is_plain s = of_plain (understood s.now.schema rollback_text) (rolls_back s.now.schema)

-- ---- the book is as it was
pub kept_after : (a b c : State) (t : PlainTerms) (events : List KeptEvent) → IsLedger t events a → KeepsCommit a b → IsUndone b c → IsTrue c.is_open → IsLedger t events c
kept_after a b c t events was keeps undone still =
    let b_open = undone.was_open still in
    let now : c.now ≡ a.now = undone.now_is still ∙ keeps.committed b_open ∙ was.ledger.committed in
    record {
      entries = was.entries;
      are = was.are;
      ledger = record {
        schema = ap (λ (d : Database). d.schema) now ∙ was.ledger.schema;
        held = subst (λ (d : Database). HoldEntries t was.entries d.trees) (sym now) was.ledger.held;
        committed = undone.committed_is still ∙ keeps.committed b_open ∙ was.ledger.committed ∙ sym now;
        autocommit = undone.autocommit;
      };
    }
