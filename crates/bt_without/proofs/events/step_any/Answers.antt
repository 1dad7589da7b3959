use Rattle.std.proofs.Common.{refl, sym, subst}
use Rattle.bt_without.specs.Calls.{CallsOfEvent}
use Rattle.bt_without.specs.Events.{IsStep}
use Rattle.bt_without.specs.declared.events.Answer.TheVariants.{Marked, UndoneTo, UndoneLast, Redone, Forgot, Listed, Asked, Started, Served}
use Rattle.bt_without.proofs.EventLemmas.{mark_is_step, undo_to_is_step, undo_last_is_step, redo_is_step, forget_is_step, list_is_step, ask_is_step, start_is_step, serve_is_step}
use Rattle.bt_without.proofs.events.step_any.Goals as goal

pub returns-in-Mark-clause-stepped : goal.returns-in-Mark-clause-stepped
returns-in-Mark-clause-stepped g c =
    let seen = g.K.MapKind.seen in
    subst (λ e. IsStep seen c.args.book.now.plain e (Marked c.mark.result) c.mark.new.self.plain) (sym c.in-Mark.is)
    (mark_is_step seen c.args.book.now.plain c.mark.new.self.plain c.in-Mark.name c.mark.result c.mark.ensures.plain)

pub returns-in-UndoTo-clause-stepped : goal.returns-in-UndoTo-clause-stepped
returns-in-UndoTo-clause-stepped g c =
    let seen = g.K.MapKind.seen in
    subst (λ e. IsStep seen c.args.book.now.plain e (UndoneTo c.undo_to.result) c.undo_to.new.self.plain) (sym c.in-UndoTo.is)
    (undo_to_is_step seen c.args.book.now.plain c.undo_to.new.self.plain c.in-UndoTo.name c.undo_to.result c.undo_to.ensures.plain)

pub returns-in-UndoLast-clause-stepped : goal.returns-in-UndoLast-clause-stepped
returns-in-UndoLast-clause-stepped g c =
    let seen = g.K.MapKind.seen in
    subst (λ e. IsStep seen c.args.book.now.plain e (UndoneLast c.undo_last.result) c.undo_last.new.self.plain) (sym c.in-UndoLast.is)
    (undo_last_is_step seen c.args.book.now.plain c.undo_last.new.self.plain c.undo_last.result c.undo_last.ensures.plain)

pub returns-in-Redo-clause-stepped : goal.returns-in-Redo-clause-stepped
returns-in-Redo-clause-stepped g c =
    let seen = g.K.MapKind.seen in
    subst (λ e. IsStep seen c.args.book.now.plain e (Redone c.redo.result) c.redo.new.self.plain) (sym c.in-Redo.is)
    (redo_is_step seen c.args.book.now.plain c.redo.new.self.plain c.redo.result c.redo.ensures.plain)

pub returns-in-Forget-clause-stepped : goal.returns-in-Forget-clause-stepped
returns-in-Forget-clause-stepped g c =
    let seen = g.K.MapKind.seen in
    subst (λ e. IsStep seen c.args.book.now.plain e (Forgot c.forget.result) c.forget.new.self.plain) (sym c.in-Forget.is)
    (forget_is_step seen c.args.book.now.plain c.forget.new.self.plain c.in-Forget.name c.forget.result c.forget.ensures.plain)

pub returns-in-Ask-clause-stepped : goal.returns-in-Ask-clause-stepped
returns-in-Ask-clause-stepped g c =
    let seen = g.K.MapKind.seen in
    subst (λ e. IsStep seen c.args.book.now.plain e (Asked c.ask.result) c.ask.new.self.plain) (sym c.in-Ask.is)
    (ask_is_step seen c.args.book.now.plain c.ask.new.self.plain c.in-Ask.question c.ask.result c.ask.ensures.answer c.ask.ensures.same)

pub returns-in-Start-clause-stepped : goal.returns-in-Start-clause-stepped
returns-in-Start-clause-stepped g c =
    let seen = g.K.MapKind.seen in
    subst (λ e. IsStep seen c.args.book.now.plain e (Started c.start.result) c.start.new.self.plain) (sym c.in-Start.is)
    (start_is_step seen c.args.book.now.plain c.start.new.self.plain c.in-Start.device c.start.result c.start.ensures.plain)

pub returns-in-Serve-clause-stepped : goal.returns-in-Serve-clause-stepped
returns-in-Serve-clause-stepped g c =
    let seen = g.K.MapKind.seen in
    subst (λ e. IsStep seen c.args.book.now.plain e (Served c.serve.result) c.serve.new.self.plain) (sym c.in-Serve.is)
    (serve_is_step seen c.args.book.now.plain c.serve.new.self.plain c.in-Serve.prog c.in-Serve.access c.serve.result c.serve.ensures.served)

pub returns-in-List-clause-stepped : goal.returns-in-List-clause-stepped
returns-in-List-clause-stepped g c =
    let seen = g.K.MapKind.seen in
    subst (λ e. IsStep seen c.args.book.now.plain e (Listed c.list.result) c.args.book.now.plain) (sym c.in-List.is)
    (list_is_step seen c.args.book.now.plain c.list.result c.list.ensures)

pub returns-in-Mark-clause-work : goal.returns-in-Mark-clause-work
returns-in-Mark-clause-work g c =
    subst (λ e. CallsOfEvent g.K.MapKind.seen c.args.book.now.plain e (Marked c.mark.result) c.args.book.now.work c.mark.new.self.work) (sym c.in-Mark.is) c.mark.ensures.work

pub returns-in-UndoTo-clause-work : goal.returns-in-UndoTo-clause-work
returns-in-UndoTo-clause-work g c =
    subst (λ e. CallsOfEvent g.K.MapKind.seen c.args.book.now.plain e (UndoneTo c.undo_to.result) c.args.book.now.work c.undo_to.new.self.work) (sym c.in-UndoTo.is) c.undo_to.ensures.work

pub returns-in-UndoLast-clause-work : goal.returns-in-UndoLast-clause-work
returns-in-UndoLast-clause-work g c =
    subst (λ e. CallsOfEvent g.K.MapKind.seen c.args.book.now.plain e (UndoneLast c.undo_last.result) c.args.book.now.work c.undo_last.new.self.work) (sym c.in-UndoLast.is) c.undo_last.ensures.work

pub returns-in-Redo-clause-work : goal.returns-in-Redo-clause-work
returns-in-Redo-clause-work g c =
    subst (λ e. CallsOfEvent g.K.MapKind.seen c.args.book.now.plain e (Redone c.redo.result) c.args.book.now.work c.redo.new.self.work) (sym c.in-Redo.is) c.redo.ensures.work

pub returns-in-Forget-clause-work : goal.returns-in-Forget-clause-work
returns-in-Forget-clause-work g c =
    subst (λ e. CallsOfEvent g.K.MapKind.seen c.args.book.now.plain e (Forgot c.forget.result) c.args.book.now.work c.forget.new.self.work) (sym c.in-Forget.is) c.forget.ensures.work

pub returns-in-Ask-clause-work : goal.returns-in-Ask-clause-work
returns-in-Ask-clause-work g c =
    subst (λ e. CallsOfEvent g.K.MapKind.seen c.args.book.now.plain e (Asked c.ask.result) c.args.book.now.work c.ask.new.self.work) (sym c.in-Ask.is) c.ask.ensures.work

pub returns-in-Start-clause-work : goal.returns-in-Start-clause-work
returns-in-Start-clause-work g c =
    subst (λ e. CallsOfEvent g.K.MapKind.seen c.args.book.now.plain e (Started c.start.result) c.args.book.now.work c.start.new.self.work) (sym c.in-Start.is) c.start.ensures.work

pub returns-in-Serve-clause-work : goal.returns-in-Serve-clause-work
returns-in-Serve-clause-work g c =
    subst (λ e. CallsOfEvent g.K.MapKind.seen c.args.book.now.plain e (Served c.serve.result) c.args.book.now.work c.serve.new.self.work) (sym c.in-Serve.is) c.serve.ensures.work

pub returns-in-List-clause-work : goal.returns-in-List-clause-work
returns-in-List-clause-work g c =
    subst (λ e. CallsOfEvent g.K.MapKind.seen c.args.book.now.plain e (Listed c.list.result) c.args.book.now.work c.args.book.now.work) (sym c.in-List.is) refl
