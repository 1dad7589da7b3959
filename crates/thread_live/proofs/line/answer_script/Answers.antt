use Rattle.std.proofs.Common.{refl, sym, ap, ◌∙◌, Some, None}
use Rattle.std.specs.Option.{option_map}
use Rattle.bt_desk.proofs.Visiting.{if_ok}
use Rattle.bt_syntax.specs.Files.{file_at}
use Rattle.thread_live.specs.Footings.{footing}
use Rattle.thread_live.proofs.Going.{script_by}
use Rattle.thread_live.proofs.line.answer_script.Goals as goal

-- it runs no batch
pub returns-in-None-clause-goes : goal.returns-in-None-clause-goes
returns-in-None-clause-goes g c =
    script_by g.S.Supply.gives g.K.MapKind.seen c.args.files.now c.args.desk.now c.args.line.now c.args.operator.now.summary
    (footing c.args.operator.now.session c.args.seat.now (g.W.Output.contents c.args.out.now)) (footing c.answer_single.new.operator.session c.answer_single.new.seat (g.W.Output.contents c.answer_single.new.out))
    c.answer_single.result None (ap (λ o. option_map (file_at c.args.files.now) (option_map (λ path. path.now) o)) (sym c.in-None.is) ∙ ap (option_map (file_at c.args.files.now)) c.batch_path.ensures)
    c.answer_single.ensures.does

-- the file of its batch is at hand
pub returns-in-Some-file_at-clause-goes : goal.returns-in-Some-file_at-clause-goes
returns-in-Some-file_at-clause-goes g c =
    script_by g.S.Supply.gives g.K.MapKind.seen c.args.files.now c.args.desk.now c.args.line.now c.args.operator.now.summary
    (footing c.args.operator.now.session c.args.seat.now (g.W.Output.contents c.args.out.now)) (footing c.batch_at.new.session c.batch_at.new.seat (g.W.Output.contents c.batch_at.new.out))
    c.batch_at.result (Some (Some c.in-Some-file_at.text.now))
    (ap Some (ap (option_map (λ text. text.now)) (sym c.in-Some-file_at.is) ∙ c.file_at.ensures)
    ∙ ap (λ o. option_map (file_at c.args.files.now) (option_map (λ path. path.now) o)) (sym c.in-Some.is) ∙ ap (option_map (file_at c.args.files.now)) c.batch_path.ensures)
    c.batch_at.ensures.goes

-- or it is not
pub returns-in-None-file_at-clause-goes : goal.returns-in-None-file_at-clause-goes
returns-in-None-file_at-clause-goes g c =
    script_by g.S.Supply.gives g.K.MapKind.seen c.args.files.now c.args.desk.now c.args.line.now c.args.operator.now.summary
    (footing c.args.operator.now.session c.args.seat.now (g.W.Output.contents c.args.out.now)) (footing c.args.operator.now.session c.args.seat.now (g.W.Output.contents c.refuse.new.out))
    c.refuse.result (Some None)
    (ap Some (ap (option_map (λ text. text.now)) (sym c.in-None-file_at.is) ∙ c.file_at.ensures)
    ∙ ap (λ o. option_map (file_at c.args.files.now) (option_map (λ path. path.now) o)) (sym c.in-Some.is) ∙ ap (option_map (file_at c.args.files.now)) c.batch_path.ensures)
    (if_ok _ _ c.refuse.result (λ tally it. record { session = refl; seat = refl; refuses = it }) c.refuse.ensures.refuses)
