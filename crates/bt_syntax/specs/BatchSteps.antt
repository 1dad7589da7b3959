-- The path of a batch's file after `file`, read a word at a time.
use Rattle.std.specs.Prelude.{ℕ, if◌then◌else◌, List, Option, Some, None, codes}
use Rattle.std.specs.Str.{bytes_eq}
use Rattle.bt_syntax.specs.declared.batch.BatchState.{BatchState}
use Rattle.bt_syntax.specs.declared.batch.BatchState.TheVariants as batch

abbrev pub batch_step : BatchState → List ℕ → Option BatchState
batch_step batch.File w = if bytes_eq w (codes "file") then Some batch.Path else None
batch_step batch.Path w = Some (batch.Done w)
batch_step (batch.Done path) w = None

abbrev pub batch_finish : BatchState → Option (List ℕ)
batch_finish batch.File = None
batch_finish batch.Path = None
batch_finish (batch.Done path) = Some path
