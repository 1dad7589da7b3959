use Rattle.std.proofs.Common.{◌≡◌, ◌++◌, ◌∷◌, [], take, arith, subst, ◌+◌, inl, refl}
use Rattle.std.proofs.lemmas.Grind.{common_steps}
use Rattle.sqlite.specs.State.{HasCleanDisk}
use Rattle.sqlite.specs.Held.{state}
use Rattle.sqlite.proofs.StateLemmas.{survives_then}
use Rattle.kept_ledger.specs.Ledger.{IsAdding, stamped}
use Rattle.kept_ledger.proofs.Adding.{one_more}
use Rattle.kept_ledger.proofs.Undone.{then_keeps}
use Rattle.kept_ledger.specs.Statements.{add_text, added, HasReason}
use Rattle.kept_ledger.proofs.Reasons.{passed, at_last_or_memory}
use Rattle.kept_ledger.proofs.group.add_each.Goals as goal

pub events-preserved : goal.events-preserved
events-preserved g c =
    let old = state g.S.Store c.args.conn.now in
    let mid = state g.S.Store c.events.conn in
    let new = state g.S.Store c.add.new.conn in
    let before = take c.events.event-index c.args.events.now in
    let so_far = stamped c.args.time before in
    let kept = c.events.invariant in
    let step : take (c.events.event-index + 1) c.args.events.now ≡ before ++ c.event-item.result ∷ [] = grind (arith, common_steps) in (
      survives_then old mid new _ _ _ (λ _ db none. none) (λ clean db none t es was. none t (es ++ so_far) (kept.1 (omega (arith, c.add.ensures.crash.clean)) t es was)) kept.0 c.add.ensures.crash,
      λ clean t es was. subst (λ all. IsAdding t all new) (one_more es before _ c.event-item.result c.args.time step)
          (c.in_ok-add.ensures.added clean t (es ++ so_far) (kept.1 (omega (arith, c.add.ensures.crash.clean)) t es was)),
      λ clean t es was.
          let mid_clean : HasCleanDisk mid = omega (arith, clean, c.add.ensures.crash.clean) in
          then_keeps old mid new (kept.2 mid_clean t es was) (c.add.ensures.keeps clean t (es ++ so_far) (kept.1 mid_clean t es was)),
    )

pub returns-clause-added : goal.returns-clause-added
returns-clause-added g c clean t es was =
    let whole : take c.events.event-index c.args.events.now ≡ c.args.events.now = grind (arith, common_steps) in
    subst (λ more. IsAdding t (es ++ stamped c.args.time more) (state g.S.Store c.events.conn)) whole (c.events.invariant.1 clean t es was)

pub returns-in_err-add-clause-crash : goal.returns-in_err-add-clause-crash
returns-in_err-add-clause-crash g c =
    let old = state g.S.Store c.args.conn.now in
    let mid = state g.S.Store c.events.conn in
    let new = state g.S.Store c.add.new.conn in
    let so_far = stamped c.args.time (take c.events.event-index c.args.events.now) in
    let kept = c.events.invariant in
    survives_then old mid new _ _ _ (λ _ db none. none) (λ clean db none t es was. none t (es ++ so_far) (kept.1 (omega (arith, c.add.ensures.crash.clean)) t es was)) kept.0 c.add.ensures.crash

pub returns-in_err-add-clause-keeps : goal.returns-in_err-add-clause-keeps
returns-in_err-add-clause-keeps g c clean t es was =
    let old = state g.S.Store c.args.conn.now in
    let mid = state g.S.Store c.events.conn in
    let new = state g.S.Store c.add.new.conn in
    let so_far = stamped c.args.time (take c.events.event-index c.args.events.now) in
    let kept = c.events.invariant in
    let mid_clean : HasCleanDisk mid = omega (arith, clean, c.add.ensures.crash.clean) in
    then_keeps old mid new (kept.2 mid_clean t es was) (c.add.ensures.keeps clean t (es ++ so_far) (kept.1 mid_clean t es was))

pub returns-clause-keeps : goal.returns-clause-keeps
returns-clause-keeps g c clean t es was = c.events.invariant.2 clean t es was

pub returns-in_err-add-clause-reason : goal.returns-in_err-add-clause-reason
returns-in_err-add-clause-reason g c clean t es was =
    let old = c.args.conn.now in
    let mid = c.events.conn in
    let new = c.add.new.conn in
    let kept = c.events.invariant in
    let mid_clean : HasCleanDisk (state g.S.Store mid) = omega (arith, clean, c.add.ensures.crash.clean) in
    let e = c.in_err-add.field-0.0 in
    passed (HasReason g.S.Store added old new) e c.from_residual.result c.from_residual.ensures.1
    (at_last_or_memory g.S.Store added old mid new add_text e (inl ((kept.1 mid_clean t es was).schema, refl)) kept.0.counts (c.in_err-add.ensures.reason clean))
