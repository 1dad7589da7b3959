use Rattle.std.proofs.Common.{sym, ◌∙◌, ap, subst}
use Rattle.program_access.specs.declared.access.Access.{Access}
use Rattle.host_state.specs.Work.{CallsAtMost}
use Rattle.journal_model.specs.Serve.{served, want_told, OrWant}
use Rattle.journal_access.specs.Serving.{Reads}
use Rattle.bt_journal.specs.Undone.{calls_to_serve}
use Rattle.bt_journal.proofs.book.Book.serve.Goals as goal

pub returns-in-Atomic-clause-served : goal.returns-in-Atomic-clause-served
returns-in-Atomic-clause-served g c =
    let b = c.args.self.now.plain in
    subst (λ (a : Access). OrWant b (want_told a) (served b c.args.prog a) (c.combine.new.self.plain, c.combine.result)) (sym c.in-Atomic.is) c.combine.ensures.told

pub returns-in-Lookup-clause-served : goal.returns-in-Lookup-clause-served
returns-in-Lookup-clause-served g c =
    let b = c.args.self.now.plain in
    subst (λ (a : Access). OrWant b (want_told a) (served b c.args.prog a) (c.look_up.new.self.plain, c.look_up.result)) (sym c.in-Lookup.is) c.look_up.ensures.told

pub returns-in-Lookup-clause-sure : goal.returns-in-Lookup-clause-sure
returns-in-Lookup-clause-sure g c all reads = c.look_up.ensures.sure all ∙ sym (ap (served c.args.self.now.plain c.args.prog) c.in-Lookup.is)

pub returns-in-Atomic-clause-sure : goal.returns-in-Atomic-clause-sure
returns-in-Atomic-clause-sure g c all reads = absurd (subst Reads c.in-Atomic.is reads)

pub returns-in-Atomic-clause-work : goal.returns-in-Atomic-clause-work
returns-in-Atomic-clause-work g c =
    let b = c.args.self.now in
    subst (λ (a : Access). CallsAtMost (calls_to_serve a) b.work c.combine.new.self.work) (sym c.in-Atomic.is) c.combine.ensures.work

pub returns-in-Lookup-clause-work : goal.returns-in-Lookup-clause-work
returns-in-Lookup-clause-work g c =
    let b = c.args.self.now in
    subst (λ (a : Access). CallsAtMost (calls_to_serve a) b.work c.look_up.new.self.work) (sym c.in-Lookup.is) c.look_up.ensures.work
