use Rattle.std.proofs.Common.{◌≡◌, ℕ, List, Some, None, sym, ◌∙◌, ap, subst}
use Rattle.host_state.specs.World.{WorldView}
use Rattle.journal_record.specs.Recorded.{Recorded}
use Rattle.journal_record.specs.After.{state_after}
use Rattle.journal_moments.specs.Calls.{calls_to_swap}
use Rattle.journal_moments.specs.Line.{entries, foot, swapped}
use Rattle.journal_moments.specs.MomentView.{MomentView, change_view, taking_view, view_of}
use Rattle.journal_moments.specs.Swaps.{Exchanges}
use Rattle.journal_record.proofs.LineLemmas.{leads_past}
use Rattle.journal_moments.proofs.OneLemmas.{up_records, up_state, up_moment, down_records, down_state, down_moment}
use Rattle.host_state.specs.Work.{CallsAtMost}
use Rattle.journal_moments.proofs.moves.exchange_lowered.Goals.{in-Change+in-Some, in-Change+in-None, in-Taking}
use Rattle.journal_moments.proofs.moves.exchange_lowered.Goals as goal

pub lay_one-requires-clause-leads : goal.lay_one-requires-clause-leads
lay_one-requires-clause-leads g c κs within = leads_past _ _ _ _ c.in-Change.at c.requires.leads

pub returns-clause-exchanges : goal.returns-clause-exchanges
returns-clause-exchanges g c =
    let rs : List Recorded = c.args.records.now.items in
    let old : WorldView = c.args.world.now in
    let m : MomentView = c.args.moment.now in
    let n : MomentView = view_of c.match-moment.moment-inside.form in
    elim c.match-moment.branch [
      | in-Change+in-Some w ↦
          let is : m ≡ change_view w.in-Change.serial w.in-Change.at (Some w.in-Some.record) =
          sym c.moment.view_is ∙ ap view_of w.in-Change.is ∙ ap (change_view w.in-Change.serial w.in-Change.at) (sym w.take.ensures.value ∙ w.in-Some.is) in
          let records : c.match-moment.records.items ≡ swapped (foot old.state rs) rs m =
          ap (λ v. v.items) w.records-is ∙ w.stand_one.ensures.records ∙ up_records _ _ _ rs _ m w.in-Change.serial w.in-Change.at w.in-Some.record is c.requires.leads c.requires.can in
          record {
            state =
                ap (λ v. v.state) w.world-is
                ∙ w.stand_one.ensures.state
                ∙ up_state _ _ _ rs _ m w.in-Change.serial w.in-Change.at w.in-Some.record is c.requires.leads c.requires.can
                ∙ ap (λ xs. state_after (foot old.state rs) (entries xs)) (sym records);
            ready = ap (λ v. v.ready) w.world-is ∙ w.stand_one.ensures.ready;
            records = records;
            moment = up_moment _ _ _ rs _ m w.in-Change.serial w.in-Change.at w.in-Some.record is c.requires.leads c.requires.can n (ap (λ i. view_of i.form) w.moment-inside-is ∙ ap (change_view w.in-Change.serial w.in-Change.at) w.take.ensures.after);
            work =
                subst (λ (v : ℕ). CallsAtMost (calls_to_swap rs m) old.work v) (sym (ap (λ v. v.work) w.world-is))
                (subst (λ x. CallsAtMost (calls_to_swap rs x) old.work w.stand_one.new.world.work) (sym is) w.stand_one.ensures.work);
          }
      | in-Change+in-None w ↦
          let is : m ≡ change_view w.in-Change.serial w.in-Change.at None =
          sym c.moment.view_is ∙ ap view_of w.in-Change.is ∙ ap (change_view w.in-Change.serial w.in-Change.at) (sym w.take.ensures.value ∙ w.in-None.is) in
          let records : c.match-moment.records.items ≡ swapped (foot old.state rs) rs m =
          ap (λ v. v.items) w.records-is ∙ w.lay_one.ensures.records ∙ down_records _ _ _ rs _ m w.in-Change.serial w.in-Change.at is c.requires.leads c.requires.can in
          record {
            state =
                ap (λ v. v.state) w.world-is
                ∙ w.lay_one.ensures.state
                ∙ down_state _ _ _ rs _ m w.in-Change.serial w.in-Change.at is c.requires.leads c.requires.can
                ∙ ap (λ xs. state_after (foot old.state rs) (entries xs)) (sym records);
            ready = ap (λ v. v.ready) w.world-is ∙ w.lay_one.ensures.ready;
            records = records;
            moment = down_moment _ _ _ rs _ m w.in-Change.serial w.in-Change.at is c.requires.leads c.requires.can n w.lay_one.result
                (ap (λ i. view_of i.form) w.moment-inside-is ∙ ap (change_view w.in-Change.serial w.in-Change.at) w.put.ensures) w.lay_one.ensures.result;
            work =
                subst (λ (v : ℕ). CallsAtMost (calls_to_swap rs m) old.work v) (sym (ap (λ v. v.work) w.world-is))
                (subst (λ x. CallsAtMost (calls_to_swap rs x) old.work w.lay_one.new.world.work) (sym is) w.lay_one.ensures.work);
          }
      | in-Taking w ↦
          let is : taking_view w.deref_mut.result.now ≡ m = ap taking_view w.deref_mut.ensures.value ∙ ap view_of (sym w.in-Taking.is) ∙ c.moment.view_is in
          subst (λ x. Exchanges old rs x c.match-moment.world c.match-moment.records.items n) is
          (subst (λ x. Exchanges old rs (taking_view w.deref_mut.result.now) c.match-moment.world c.match-moment.records.items x) (sym (ap (λ i. view_of i.form) w.moment-inside-is))
          (subst (λ v. Exchanges old rs (taking_view w.deref_mut.result.now) v c.match-moment.records.items (taking_view w.exchange_taking.new.taking)) (sym w.world-is)
          (subst (λ v. Exchanges old rs (taking_view w.deref_mut.result.now) w.exchange_taking.new.world v.items (taking_view w.exchange_taking.new.taking)) (sym w.records-is) w.exchange_taking.ensures.exchanges)))
    ]
