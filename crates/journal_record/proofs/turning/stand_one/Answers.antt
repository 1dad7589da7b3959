use Rattle.std.proofs.Common.{[], ◌++◌, sym, ◌∙◌, ap}
use Rattle.journal_record.proofs.LineLemmas.{one_forth}
use Rattle.journal_record.proofs.TurnLemmas.{turned_once}
use Rattle.journal_record.proofs.turning.stand_one.Goals as goal

pub returns-clause-records : goal.returns-clause-records
returns-clause-records g c =
    c.push_back_reserved.ensures.items
    ∙ ap (λ xs. c.args.records.now.items ++ xs) (sym ((one_forth c.args.world.now.ready c.args.world.now.state c.args.lying [] c.requires.lies).stood_is c.turn.new.self c.turn.ensures.entry c.turn.ensures.undoing))

pub returns-clause-work : goal.returns-clause-work
returns-clause-work g c = turned_once c.args.lying.undoing _ _ c.turn.ensures.work
