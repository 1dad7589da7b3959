use Rattle.std.proofs.Common.{◌≡◌, sym, ap, ◌∙◌, subst, arith}
use mathlib.Core.Option.{some, some-injective}
use Rattle.thread_lock.specs.declared.rule.Kept.{Kept}
use Rattle.thread_lock.specs.History.{Leads}
use Rattle.thread_lock.specs.Seats.{opening}
use Rattle.thread_lock.proofs.Ends.{ends}
use Rattle.thread_lock.proofs.turns.Turns.close.Goals as goal

pub returns : goal.returns
returns g c =
    let e = ends g.S.Sequential.steps c.args.self.table.shared.key c.args.seat.place.id c.word.result c.args.seat.place.me.0 _ _ c.close_with-closed.ensures.values.2 c.word.ensures (c.word-2.ensures ∙ ap some (sym c.if-word.false)) in
    let same : e.kept ≡ c.take-state.result = some-injective _ _ (sym e.there ∙ c.take-state.ensures.value) in
    let counted = c.args.seat.counted in
    record {
      log = e.log;
      leads = subst (λ (k : Kept g.row.S.Denot g.row.S-Event.Denot g.row.S-Answer.Denot). Leads g.S.Sequential.steps (opening c.args.self) e.log k.state) same e.leads;
      begins = e.begins;
      same_calls = e.same_calls;
      room = omega (arith, e.room, counted);
    }
