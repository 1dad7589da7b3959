use Rattle.std.proofs.Common.{◌≡◌, ◌≤◌, ℕ, List, [], ◌∷◌, length, drop, reverse, refl, sym, ◌∙◌, ap, arith}
use Rattle.std.proofs.lemmas.List.{drop_all}
use Rattle.host_state.specs.State.{State}
use Rattle.host_undoing.specs.Exchange.{turned}
use Rattle.journal_record.specs.Recorded.{Recorded}
use Rattle.journal_record.specs.Records.{laid, foot}
use Rattle.journal_record.proofs.LineLemmas.{OneBack, one_back_past, drop_push}
use Rattle.host_state.proofs.CallLemmas.{within_none}
use Rattle.journal_record.proofs.TurnLemmas.{turned_once}
use Rattle.journal_record.proofs.turning.lay_one.Goals as goal

pub returns-clause-result : goal.returns-clause-result
returns-clause-result g c =
    let at : ℕ = c.args.at in
    let w : State = c.args.world.now.state in
    let rs : List Recorded = c.args.records.now.items in
    let r : Recorded = c.in-Some.record in
    let rest : List Recorded = c.pop_back.new.self.items in
    let within : at ≤ length rest = omega (arith, c.in-Some.ensures.cases, c.pop_back.new.self.ok.0, c.args.records.now.ok.0, c.len.ensures, c.if-len-at.false, c.requires.within) in
    let none : drop at rest ≡ [] = drop_all at rest (omega (arith, c.in-Some.ensures.cases, c.pop_back.new.self.ok.0, c.args.records.now.ok.0, c.requires.one)) in
    let b : OneBack c.args.world.now.ready w (drop at rest) r = one_back_past c.args.world.now.ready at w rs rest r c.in-Some.ensures.items within c.requires.leads in
    sym (ap (λ xs. reverse (laid (foot w xs) xs)) (drop_push at rs rest r c.in-Some.ensures.items within)
    ∙ b.laid_is c.turn.new.self c.turn.ensures.entry c.turn.ensures.undoing
    ∙ ap (λ xs. c.turn.new.self ∷ reverse (laid (foot (turned w r.undoing) xs) xs)) none)

pub returns-then-len-at-clause-work : goal.returns-then-len-at-clause-work
returns-then-len-at-clause-work g c = within_none _ _ _ refl

pub returns-clause-work : goal.returns-clause-work
returns-clause-work g c = turned_once c.in-Some.record.undoing _ _ c.turn.ensures.work
