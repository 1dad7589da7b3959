use Rattle.std.proofs.Common.{sym, subst}
use Rattle.bt_mapkind.specs.declared.errno.Errno.TheVariants.{ENOMEM}
use Rattle.program_access.specs.declared.reply.AccessReply.TheVariants as told
use Rattle.host_state.specs.State.{State}
use Rattle.host_state.specs.declared.change.Change.{Change}
use Rattle.host_state.specs.Work.{CallsAtMost, walks, most_calls}
use Rattle.journal_keeping.specs.Calls.{calls_refused}
use Rattle.journal_model.specs.Plain.{now}
use Rattle.journal_model.specs.Serve.{by_helper, OrWant}
use Rattle.bt_journal.specs.Recording.{MakesNone}
use Rattle.bt_journal.proofs.book.Book.update.Goals as goal

pub change_by_helper-requires-after_bounds : goal.change_by_helper-requires-after_bounds
change_by_helper-requires-after_bounds g c κs within = subst MakesNone (sym c.update_by-change.ensures) tt

pub returns-clause-told : goal.returns-clause-told
returns-clause-told g c =
    let b = c.args.self.now.plain in
    subst (λ (change : Change). OrWant b (told.Errno ENOMEM) (by_helper b c.args.map change) (c.change_by_helper.new.self.plain, c.change_by_helper.result)) c.update_by-change.ensures c.change_by_helper.ensures.told

pub returns-clause-work : goal.returns-clause-work
returns-clause-work g c =
    let b = c.args.self.now in
    let s : State = now b.plain.line in
    subst (λ (change : Change). CallsAtMost (calls_refused (walks s change) (most_calls s change)) b.work c.change_by_helper.new.self.work) c.update_by-change.ensures c.change_by_helper.ensures.work
