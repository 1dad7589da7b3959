use Rattle.std.proofs.Common.{◌≡◌, ℕ, ◌+◌, ◌-◌, ◌<◌, ◌≤◌, ◌++◌, ◌∷◌, length, drop, sym, ◌∙◌, ap, subst, arith, deque_capacity}
use Rattle.journal_model.specs.Rebase.{still_taken_out}
use Rattle.journal_model.specs.Plain.{Pasts, cut}
use Rattle.journal_moments.specs.Held.{Held, held, pasts_of}
use Rattle.journal_moments.specs.Lowered.{lowered}
use Rattle.journal_moments.specs.MomentView.{MomentView}
use Rattle.journal_moments.specs.Taken.{first_taken_up_to, TakenByAgeSince}
use Rattle.journal_moments.proofs.NewestLemmas.{length-moments}
use Rattle.journal_moments.proofs.StandingLemmas.{within, next_past}
use Rattle.journal_moments.proofs.TakenOutLemmas.{none_before, first_taking, all_later, first_lowered}
use Rattle.journal_timeline.proofs.timeline.Timeline.first_taking_out.Goals as goal

pub returns-then-count-eq0 : goal.returns-then-count-eq0
returns-then-count-eq0 g c =
    let p : Pasts = c.args.self.now.pasts in
    let none : c.args.count ≡ 0 = c.if-count-eq0.true in
    sym (none_before p) ∙ ap (λ n. still_taken_out n p) (sym none)

pub index-requires : goal.index-requires
index-requires g c =
    let i = c.self.inside in
    let a : Held = held i.world i.records.items (deque_capacity i.records) i.moments.items i.standing i.gone in
    omega (arith, c.if-count-eq0.false, c.requires.within, ap (λ v. length v.pasts.moments) c.self.view_is, length-moments a, c.self.invariant.counts, within (lowered i.gone) i.standing i.moments.items c.self.invariant.counts, i.moments.ok.0)

pub returns : goal.returns
returns g c =
    let i = c.self.inside in
    let f : MomentView → MomentView = lowered i.gone in
    let a : Held = held i.world i.records.items (deque_capacity i.records) i.moments.items i.standing i.gone in
    let before : ℕ = c.args.count - 1 in
    let count : before + 1 ≡ c.args.count = omega (arith, c.if-count-eq0.false) in
    let enough : i.standing ≤ length i.moments.items = within f i.standing i.moments.items c.self.invariant.counts in
    let some : c.args.count ≤ i.standing = omega (arith, c.requires.within, ap (λ v. length v.pasts.moments) c.self.view_is, length-moments a, c.self.invariant.counts) in
    let less : before < i.standing = omega (arith, c.if-count-eq0.false, some) in
    let m : MomentView = c.index.result.now in
    let next : drop before a.moments ≡ f m ∷ drop (before + 1) a.moments = next_past f before i.standing i.moments.items m less enough c.index.ensures in
    let aged : (let q = cut (before + 1) (pasts_of a) in TakenByAgeSince q.moments q.undone) =
    subst (λ n. let q = cut n (pasts_of a) in TakenByAgeSince q.moments q.undone) (sym count) (subst (λ v. let q = cut c.args.count v.pasts in TakenByAgeSince q.moments q.undone) (sym c.self.view_is) c.requires.by_age) in
    c.first_taking_out.ensures
    ∙ ap (λ s. first_taken_up_to s (drop c.args.count i.moments.items)) c.serial-newest.ensures
    ∙ sym (first_lowered i.gone m.serial (drop c.args.count i.moments.items))
    ∙ ap (first_taken_up_to m.serial) (sym (all_later f c.args.count i.standing i.moments.items some enough) ∙ ap (λ n. drop n a.moments ++ a.undone) (sym count))
    ∙ sym (first_taking a before (f m) next aged)
    ∙ ap (λ n. still_taken_out n (pasts_of a)) count
    ∙ ap (λ v. still_taken_out c.args.count v.pasts) c.self.view_is
