use Rattle.std.proofs.Common.{◌+◌, sym, subst}
use Rattle.host_state.specs.Act.{act}
use Rattle.host_state.specs.declared.change.Change.{Change}
use Rattle.host_state.specs.declared.reply.Refusal.TheVariants.{NoMemory}
use Rattle.journal_model.specs.Plain.{now}
use Rattle.journal_model.specs.Book.{with_prog_id, noted_as, OrNoMemory}
use Rattle.bt_journal.proofs.CallLemmas.{loaded_costs}
use Rattle.bt_journal.proofs.book.Book.record_plain.Goals as goal

pub returns-in-Load-clause-plain : goal.returns-in-Load-clause-plain
returns-in-Load-clause-plain g c =
    let b = c.args.self.now.plain in
    subst (λ (change : Change). OrNoMemory b NoMemory (noted_as b (with_prog_id (b.last_prog + 1) change) (act (now b.line) (with_prog_id (b.last_prog + 1) change))) (c.record_load.new.self.plain, c.record_load.result))
    (sym c.in-Load.is) c.record_load.ensures.plain

pub returns-in-Load-clause-work : goal.returns-in-Load-clause-work
returns-in-Load-clause-work g c =
    let b = c.args.self.now in
    loaded_costs (now b.plain.line) c.args.change _ _ _ _ c.record_load.result b.work c.record_load.new.self.work c.in-Load.is c.record_load.ensures.work
