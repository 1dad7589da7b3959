use Rattle.std.proofs.Common.{◌≡◌, ℕ, ◌<◌}
use Rattle.bt_verify.specs.Masks.{IsTable}
use Rattle.bt_verify.specs.Paths.{IsUnwritten}
use Rattle.bt_verify.proofs.pass.first_unwritten.Given as goal

abbrev pub invariant-loop-place : goal.invariant-loop-place
invariant-loop-place l = record {
  visits : l.visits ≡ l.place;
  table : IsTable l.slots l.place l.masks;
  earlier : (k : ℕ) → k < l.place → (r : ℕ) → ¬ IsUnwritten l.slots k r;
}
