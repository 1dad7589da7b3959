-- How much work an undo does, a change that calls no box, and an access of a program.
use Rattle.std.specs.Prelude.{◌≡◌, ℕ, List, Result, Ok, Err}
use Rattle.program_access.specs.declared.access.Access.{Access}
use Rattle.program_access.specs.declared.access.Access.TheVariants.{Load, Lookup, Peek, Fetch}
use Rattle.journal_model.specs.Plain.{Past}
use Rattle.journal_keeping.specs.Calls.{calls_back}
use Rattle.host_state.specs.Work.{CallsAtMost}

-- an undo of so many moments makes no more calls than these take, and a refused one makes none
abbrev pub CallsToUndo : {E : Type 0} → List Past → Result ℕ E → ℕ → ℕ → Type 0
CallsToUndo ms (Ok undone) old new = CallsAtMost (calls_back undone ms) old new
CallsToUndo ms (Err refusal) old new = new ≡ old

-- a change that makes a map or a program calls no box, or is refused as any other
abbrev pub CallsNone : {A E : Type 0} → Result A E → ℕ → ℕ → Type 0
CallsNone (Ok done) old new = new ≡ old
CallsNone (Err refusal) old new = CallsAtMost 2 old new

-- an access of a program asks one box once, or is an operation, of which two calls are made at most: its own and the one that
-- takes it back
abbrev pub calls_to_serve : Access → ℕ
calls_to_serve (Load id key offset size) = 1
calls_to_serve (Lookup id key outer) = 1
calls_to_serve (Peek id value_size) = 1
calls_to_serve (Fetch id index) = 1
calls_to_serve _ = 2
