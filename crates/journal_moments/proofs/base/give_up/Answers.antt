use Rattle.std.proofs.Common.{◌≡◌, ◌+◌, Bool, if◌then◌else◌, List, length, map as each, sym, ◌∙◌, ap, subst, arith, deque_len}
use Rattle.std.specs.List.{refill}
use Rattle.journal_moments.specs.Lowered.{lowered, AllLowered}
use Rattle.journal_moments.specs.MomentView.{MomentView}
use Rattle.journal_moments.proofs.GoneLemmas.{AllLowered-more, AllLowered-anew}
use Rattle.journal_moments.proofs.LoweredLemmas.{AllLowered-length}
use Rattle.journal_moments.proofs.base.give_up.Goals as goal

pub returns-then-add : goal.returns-then-add
returns-then-add c = subst (λ n. AllLowered c.args.more (each (lowered c.args.gone.now) c.args.moments.now.items) (each (lowered n) c.args.moments.now.items)) (sym (c.add.ensures ∙ ap (λ (b : Bool). if b then c.args.gone.now + c.args.more else c.args.gone.now) c.if-add.true)) (AllLowered-more c.args.more c.args.gone.now c.args.moments.now.items)

pub returns : goal.returns
returns c =
    let ms : List MomentView = c.args.moments.now.items in
    let ws : List MomentView = c.lower.new.moments in
    let lowered_by : AllLowered c.args.gone.now ms ws =
    subst (λ n. AllLowered n ms ws) (c.count.ensures ∙ c.add.ensures ∙ ap (λ (b : Bool). if b then c.args.gone.now + c.args.more else c.args.gone.now) c.if-add.false) (subst (λ xs. AllLowered c.count.result xs ws) c.make_contiguous.ensures.value c.lower.ensures) in
    let same : length ws ≡ deque_len c.args.moments.now = omega (arith, AllLowered-length c.args.gone.now ms ws lowered_by, c.args.moments.now.ok.0) in
    let new : List MomentView = refill (deque_len c.args.moments.now) ms ws in
    subst (λ n. AllLowered c.args.more (each (lowered c.args.gone.now) ms) (each (lowered n) new)) (sym c.restart.ensures)
    (AllLowered-anew c.args.more c.args.gone.now ms new (subst (AllLowered c.args.gone.now ms) (sym (c.make_contiguous.ensures.writes_back ws same)) lowered_by))
