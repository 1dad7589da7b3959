-- Why events were not added, from call to call.
use Rattle.std.proofs.Common.{◌≡◌, ◌≤◌, ◌⊎◌, inl, inr, ℕ, List, Ok, Err, Result, IfErr, IsErrAnd, sym, subst, arith}
use Rattle.sqlite_value.specs.Order.{Row as Values}
use Rattle.sqlite_schema.specs.declared.schema.Schema.{Schema}
use Rattle.sqlite.specs.declared.error.Error.{Error}
use Rattle.sqlite.specs.declared.error.Error.TheVariants.{SqliteFailure}
use Rattle.sqlite.specs.declared.error.ErrorCode.TheVariants.{OutOfMemory}
use Rattle.sqlite_trees.specs.declared.store.Store.{Ghosts}
use Rattle.sqlite.specs.State.{State, Executes}
use Rattle.sqlite.specs.Held.{Held, state}
use Rattle.kept_ledger.specs.Table.{ledger_schema}
use Rattle.kept_ledger.specs.Statements.{Statement, IsOneOf, HasReason, added, adding, making, add_text}

-- the one statement that adds an event
is_added : (R : Type 0) (schema : Schema) (sql : List ℕ) → IsOneOf added schema sql → ((schema ≡ ledger_schema) × (sql ≡ add_text) → R) → R
is_added R schema sql (inl it) then = then it
is_added R schema sql (inr none) then = absurd none

module _ {S : Type 0} (g : Ghosts S) where
  -- the statement that was asked last
  pub at_last : (statements : List Statement) (old mid new : Held S) (sql : List ℕ) (params : Values) (e : Error) → IsOneOf statements (state g mid).now.schema sql
      → (state g old).faults ≤ (state g mid).faults → Executes sql params (state g mid) (state g new) (Err e) → HasReason g statements old new e
  at_last statements old mid new sql params e is since h =
      inr (record { text = sql; params = params; before = mid; after = new; is_one = is; answers = h; since = since; until = omega arith })

  pub at_last_or_memory : (statements : List Statement) (old mid new : Held S) (sql : List ℕ) (e : Error) → IsOneOf statements (state g mid).now.schema sql
      → (state g old).faults ≤ (state g mid).faults → (e ≡ SqliteFailure OutOfMemory) ⊎ ((params : Values) × Executes sql params (state g mid) (state g new) (Err e))
      → HasReason g statements old new e
  at_last_or_memory statements old mid new sql e is since (inl memory) = inl memory
  at_last_or_memory statements old mid new sql e is since (inr h) = at_last statements old mid new sql h.0 e is since h.1

  -- what came before, and after
  pub between : (statements : List Statement) (old a b new : Held S) (e : Error) → (state g old).faults ≤ (state g a).faults → (state g b).faults ≤ (state g new).faults
      → HasReason g statements a b e → HasReason g statements old new e
  between statements old a b new e since until (inl memory) = inl memory
  between statements old a b new e since until (inr h) = inr (record {
    text = h.text;
    params = h.params;
    before = h.before;
    after = h.after;
    is_one = h.is_one;
    answers = h.answers;
    since = omega (arith, since, h.since);
    until = omega (arith, until, h.until);
  })

  -- as one of more statements
  more_of : (few many : List Statement) (old new : Held S) (e : Error) → ((schema : Schema) (sql : List ℕ) → IsOneOf few schema sql → IsOneOf many schema sql)
      → HasReason g few old new e → HasReason g many old new e
  more_of few many old new e all (inl memory) = inl memory
  more_of few many old new e all (inr h) = inr (record {
    text = h.text;
    params = h.params;
    before = h.before;
    after = h.after;
    is_one = all (state g h.before).now.schema h.text h.is_one;
    answers = h.answers;
    since = h.since;
    until = h.until;
  })

  pub as_adding : (old new : Held S) (e : Error) → HasReason g added old new e → HasReason g adding old new e
  as_adding old new e h = more_of added adding old new e (λ schema sql is. is_added _ schema sql is (λ it. inr (inl it))) h

  pub as_making : (old new : Held S) (e : Error) → HasReason g added old new e → HasReason g making old new e
  as_making old new e h = more_of added making old new e (λ schema sql is. is_added _ schema sql is (λ it. inr (inr (inr (inr (inl it)))))) h

-- ---- the answer of a call
pub by_statement : (old new : State) (sql : List ℕ) (r : Result ℕ Error) → ((params : Values) × Executes sql params old new r)
    → IfErr r (λ e. (e ≡ SqliteFailure OutOfMemory) ⊎ ((params : Values) × Executes sql params old new (Err e)))
by_statement old new sql (Ok count) h = tt
by_statement old new sql (Err e) h = inr h

-- what the exit of a `?` returns
pub lacked : {T : Type 0} (Q : Error → Type 0) (r : Result T Error) → IsErrAnd r (λ e. e ≡ SqliteFailure OutOfMemory) → IfErr r (λ e. (e ≡ SqliteFailure OutOfMemory) ⊎ Q e)
lacked Q (Ok it) h = absurd h
lacked Q (Err e) h = inl h

pub passed : {T : Type 0} (Q : Error → Type 0) (e : Error) (r : Result T Error) → IsErrAnd r (λ made. made ≡ e) → Q e → IfErr r Q
passed Q e (Ok it) h q = absurd h
passed Q e (Err made) h q = subst Q (sym h) q
