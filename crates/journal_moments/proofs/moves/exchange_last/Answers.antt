use Rattle.std.proofs.Common.{◌≡◌, ℕ, ◌++◌, List, take, drop, reverse, vec_capacity, refl, sym, ◌∙◌, ap, subst, arith}
use Rattle.host_state.specs.State.{State}
use Rattle.journal_record.specs.After.{state_after}
use Rattle.journal_record.specs.Recorded.{Recorded}
use Rattle.journal_moments.specs.Line.{entries, stood, laid, AllLying, foot}
use Rattle.journal_moments.specs.MomentView.{MomentView, taking_view}
use Rattle.journal_moments.proofs.CutLemmas.{between-all}
use Rattle.journal_record.proofs.LineLemmas.{leads_past, foot_past_is, state_after-append, entries-append, entries-stood}
use Rattle.journal_moments.proofs.SwapLemmas.{swapped-alone}
use Rattle.host_state.proofs.CallLemmas.{within_both}
use Rattle.journal_moments.proofs.moves.exchange_last.Goals as goal

pub lay_down-requires-clause-leads : goal.lay_down-requires-clause-leads
lay_down-requires-clause-leads g c κs within = leads_past _ _ _ _ c.args.taking.now.at c.requires.leads

pub stand_up-requires-clause-lying : goal.stand_up-requires-clause-lying
stand_up-requires-clause-lying g c κs within =
    subst (λ v. AllLying v c.lay_down.new.world.state (reverse c.args.taking.now.other.items)) (sym c.lay_down.ensures.ready)
    (subst (λ v. AllLying c.args.world.now.ready v (reverse c.args.taking.now.other.items)) (sym (c.lay_down.ensures.state ∙ foot_past_is _ _ _ _ c.args.taking.now.at c.requires.leads)) c.requires.can.lying)

pub returns-clause-exchanges : goal.returns-clause-exchanges
returns-clause-exchanges g c =
    let m : MomentView = taking_view c.args.taking.now in
    let rs : List Recorded = c.args.records.now.items in
    let at : ℕ = c.args.taking.now.at in
    let w : State = c.args.world.now.state in
    let base : State = foot w rs in
    let front : List Recorded = take at rs in
    let others : List Recorded = reverse c.args.taking.now.other.items in
    let low : c.lay_down.new.world.state ≡ state_after base (entries front) = c.lay_down.ensures.state ∙ foot_past_is _ _ _ _ at c.requires.leads in
    let records : c.stand_up.new.records.items ≡ front ++ stood (state_after base (entries front)) others =
    c.stand_up.ensures.records ∙ (λ i. c.lay_down.ensures.records i ++ stood (low i) others) in
    record {
      state =
          c.stand_up.ensures.state
          ∙ (λ i. state_after (low i) (sym (entries-stood (state_after base (entries front)) others) i))
          ∙ sym (state_after-append base (entries front) (entries (stood (state_after base (entries front)) others)))
          ∙ ap (state_after base) (sym (entries-append front (stood (state_after base (entries front)) others)))
          ∙ ap (λ xs. state_after base (entries xs)) (sym records);
      ready = c.stand_up.ensures.ready ∙ c.lay_down.ensures.ready;
      records = records ∙ sym (swapped-alone base rs m c.requires.last);
      moment = record {
        at_same = refl;
        serial_same = refl;
        out_same = refl;
        stays_same = refl;
        other = ap (λ v. v.items) c.swap.ensures.x_after
            ∙ c.lay_down.ensures.into
            ∙ ap (λ xs. xs ++ reverse (laid (foot w (drop at rs)) (drop at rs))) c.requires.spare
            ∙ ap (λ s. reverse (laid s (drop at rs))) (foot_past_is _ _ _ _ at c.requires.leads)
            ∙ ap (λ xs. reverse (laid (state_after base (entries front)) xs)) (sym (between-all at m.stays rs c.requires.last));
        room_back = omega (arith, ap (λ v. vec_capacity v) c.swap.ensures.y_after, c.stand_up.ensures.from_kept, c.args.taking.now.other.ok.0, c.args.taking.now.other.ok.1);
      };
      work = within_both _ _ _ _ _ _ (omega (arith, c.requires.last, c.args.records.now.ok.0, c.args.taking.now.other.ok.0)) c.lay_down.ensures.work c.stand_up.ensures.work;
    }
