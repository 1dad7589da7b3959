use Rattle.std.proofs.Common.{◌+◌, ◌-◌, length, refl, sym, ◌∙◌, ap, arith}
use Rattle.journal_keeping.specs.Boxes.{states_of}
use Rattle.journal_keeping.proofs.BoxesLemmas.{states-back}
use Rattle.journal_keeping.proofs.CutLemmas.{cut-back, cut_none}
use Rattle.journal_model.specs.Plain.{Pasts, cut}
use Rattle.journal_keeping.specs.Calls.{calls_back}
use Rattle.host_state.proofs.CallLemmas.{none_made, made_more, made_within}
use Rattle.journal_keeping.proofs.CutLemmas.{one_more_back}
use Rattle.journal_keeping.proofs.going.go_back.Goals as goal

pub loop-line-preserved : goal.loop-line-preserved
loop-line-preserved g c =
    let p = c.loop-line.line.pasts in
    record {
      pasts = ap (cut c.args.count) c.back.ensures.pasts ∙ cut-back c.args.count p (omega (arith, c.moment_count.ensures, c.loop-line-test.true)) ∙ c.loop-line.invariant.pasts;
      boxes = c.back.ensures.boxes ∙ c.loop-line.invariant.boxes;
      states = ap states_of c.back.ensures.pasts ∙ states-back p.base p.moments p.undone ∙ c.loop-line.invariant.states;
      work = made_more _ _ (calls_back 1 p.moments) _ _ _ _
          (one_more_back c.args.count p.moments (omega (arith, c.moment_count.ensures, c.loop-line-test.true)) ∙ ap (λ (q : Pasts). calls_back 1 p.moments + calls_back (length q.moments - c.args.count) q.moments) (sym c.back.ensures.pasts))
          c.loop-line.invariant.work c.back.ensures.work;
    }

pub returns-clause-pasts : goal.returns-clause-pasts
returns-clause-pasts g c = sym (cut_none c.args.count c.loop-line.line.pasts (omega (arith, c.moment_count.ensures, c.loop-line-test.false))) ∙ c.loop-line.invariant.pasts

pub loop-line-init : goal.loop-line-init
loop-line-init g c = record { pasts = refl; boxes = refl; states = refl; work = none_made _ _ }

pub returns-clause-work : goal.returns-clause-work
returns-clause-work g c = made_within _ _ _ _ _ (omega arith) c.loop-line.invariant.work
