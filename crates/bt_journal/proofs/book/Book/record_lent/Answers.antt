use Rattle.std.proofs.Common.{◌+◌, ◌∙◌, cond, None, Result, sym, ap, subst, ℕ}
use Rattle.std.specs.Prelude.{is_ok}
use Rattle.host_state.specs.Act.{act}
use Rattle.host_state.specs.declared.change.Change.{Change}
use Rattle.host_state.specs.declared.reply.Reply.{Reply}
use Rattle.host_state.specs.declared.reply.Refusal.{Refusal}
use Rattle.host_state.specs.declared.reply.Refusal.TheVariants.{NoMemory}
use Rattle.journal_model.specs.Plain.{now}
use Rattle.journal_model.specs.Book.{PlainBook, within_window, recorded_as, OrNoMemory}
use Rattle.journal_model.proofs.Cases.{has_room}
use Rattle.bt_journal.proofs.RefusalLemmas.{recorded_free, with_prog_known}
use Rattle.bt_journal.proofs.JoinLemmas.{noted_joins, noted_windows}
use Rattle.bt_journal.proofs.book.Book.record_lent.Goals as goal

pub in_window-requires-after_bounds : goal.in_window-requires-after_bounds
in_window-requires-after_bounds g c κs bounds = λ ok.
    let b = c.args.self.now.plain in
    noted_joins b c.args.change.now c.record_known-made.new.self.plain c.record_known-made.result (act (now b.line) c.args.change.now) (has_room b (c.refusal_of.ensures.room c.in-None.is)) c.record_known-made.ensures.plain ok

pub returns-in-None-clause-plain : goal.returns-in-None-clause-plain
returns-in-None-clause-plain g c =
    let b = c.args.self.now.plain in
    let change : Change = c.args.change.now in
    let made : OrNoMemory b NoMemory (recorded_as b change (act (now b.line) change)) (cond (is_ok c.record_known-made.result) (within_window c.record_known-made.new.self.plain) c.record_known-made.new.self.plain, c.record_known-made.result) =
    noted_windows b change c.record_known-made.new.self.plain c.record_known-made.result (act (now b.line) change) c.record_known-made.ensures.plain in
    subst (λ (r : PlainBook × Result (ℕ × Reply) Refusal). OrNoMemory b NoMemory r (c.in_window.new.self.plain, c.in_window.result))
    (ap (λ (x : Change). recorded_as b x (act (now b.line) x)) (sym (with_prog_known change (b.last_prog + 1) c.requires))
    ∙ sym (recorded_free b change None c.refusal_of.result c.in-None.is (c.refusal_of.ensures.refusal None tt)))
    (subst (λ (x : PlainBook × Result (ℕ × Reply) Refusal). OrNoMemory b NoMemory (recorded_as b change (act (now b.line) change)) x) (λ i. (sym c.in_window.ensures.plain i, sym c.in_window.ensures.made i)) made)
