use Rattle.std.proofs.Common.{◌≡◌, ◌==◌, ◌∷◌, take, drop, map as each, cond, Some, None, sym, ◌∙◌, ap, arith, deque_len, deque_capacity}
use Rattle.std.proofs.lemmas.Bool.{eq-eqb, ne_eqb, eqb-true, eqb-false}
use Rattle.std.proofs.lemmas.List.{nil_from_length}
use Rattle.journal_model.specs.Window.{first_in_force}
use Rattle.journal_moments.specs.Held.{Held, held, pasts_of}
use Rattle.journal_moments.specs.Lowered.{lowered}
use Rattle.journal_moments.specs.MomentView.{MomentView}
use Rattle.journal_moments.proofs.StandingLemmas.{within, next_past}
use Rattle.journal_moments.proofs.FirstLemmas.{first_both, first_unmade, first_unchanged}
use Rattle.journal_timeline.proofs.timeline.Timeline.first_in_force.Goals as goal
use Rattle.journal_timeline.proofs.timeline.Timeline.first_in_force.Goals.{then-self-eq0-via-then-self-eq0, then-self-eq0-via-else-self-eq0+then-is_empty}

pub returns-then-self-eq0 : goal.returns-then-self-eq0
returns-then-self-eq0 g c =
    let i = c.self.inside in
    let a : Held = held i.world i.records.items (deque_capacity i.records) i.moments.items i.standing i.gone in
    let none : first_in_force (pasts_of a) ≡ None = (elim c.then-self-eq0.branch [
      | then-self-eq0-via-then-self-eq0 w ↦ first_unmade a (ap (λ n. each (lowered i.gone) (take n i.moments.items)) w.if-self-eq0.true)
      | then-self-eq0-via-else-self-eq0+then-is_empty w ↦ first_unchanged a c.self.invariant (nil_from_length i.records.items (omega (arith, eqb-true (deque_len i.records) 0 (sym w.if-is_empty.ensures), i.records.ok.0)))
    ]) in
    sym none ∙ ap (λ v. first_in_force v.pasts) c.self.view_is

pub returns-then-serial : goal.returns-then-serial
returns-then-serial g c =
    let i = c.self.inside in
    let f : MomentView → MomentView = lowered i.gone in
    let a : Held = held i.world i.records.items (deque_capacity i.records) i.moments.items i.standing i.gone in
    let m : MomentView = c.index-2.result.now in
    let next : drop 0 a.moments ≡ f m ∷ drop 1 a.moments = next_past f 0 i.standing i.moments.items m (omega (arith, c.if-self-eq0.false)) (within f i.standing i.moments.items c.self.invariant.counts) c.index-2.ensures in
    let both = first_both a c.self.invariant c.index.result.now (f m) (drop 1 a.moments) (omega (arith, eqb-false (deque_len i.records) 0 (sym c.if-is_empty.ensures), i.records.ok.0)) c.index.ensures next in
    ap (λ t. cond t (Some c.serial-serial.result) None) (sym (eq-eqb c.serial-serial.result c.serial.result c.if-serial.true))
    ∙ (λ j. cond (c.serial-serial.ensures j == c.serial.ensures j) (Some (c.serial-serial.ensures j)) None)
    ∙ sym both ∙ ap (λ v. first_in_force v.pasts) c.self.view_is

pub returns-else-serial : goal.returns-else-serial
returns-else-serial g c =
    let i = c.self.inside in
    let f : MomentView → MomentView = lowered i.gone in
    let a : Held = held i.world i.records.items (deque_capacity i.records) i.moments.items i.standing i.gone in
    let m : MomentView = c.index-2.result.now in
    let next : drop 0 a.moments ≡ f m ∷ drop 1 a.moments = next_past f 0 i.standing i.moments.items m (omega (arith, c.if-self-eq0.false)) (within f i.standing i.moments.items c.self.invariant.counts) c.index-2.ensures in
    let both = first_both a c.self.invariant c.index.result.now (f m) (drop 1 a.moments) (omega (arith, eqb-false (deque_len i.records) 0 (sym c.if-is_empty.ensures), i.records.ok.0)) c.index.ensures next in
    ap (λ t. cond t (Some c.serial-serial.result) None) (sym (ne_eqb c.serial-serial.result c.serial.result c.if-serial.false))
    ∙ (λ j. cond (c.serial-serial.ensures j == c.serial.ensures j) (Some (c.serial-serial.ensures j)) None)
    ∙ sym both ∙ ap (λ v. first_in_force v.pasts) c.self.view_is
