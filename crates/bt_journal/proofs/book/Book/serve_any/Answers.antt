use Rattle.std.proofs.Common.{sym, ◌∙◌, ap, subst}
use Rattle.bt_mapkind.specs.declared.errno.Errno.TheVariants.{ENOMEM}
use Rattle.program_access.specs.declared.access.Access.{Access}
use Rattle.program_access.specs.declared.reply.AccessReply.TheVariants as told
use Rattle.host_state.specs.Work.{CallsAtMost}
use Rattle.journal_model.specs.Serve.{served, want_told, loaded, peeked, fetched, OrWant}
use Rattle.journal_access.specs.Serving.{Reads}
use Rattle.bt_journal.specs.Undone.{calls_to_serve}
use Rattle.bt_journal.proofs.ServeLemmas.{read_so, read_sure}
use Rattle.bt_journal.proofs.book.Book.serve_any.Goals as goal

pub returns-in-Load-clause-served : goal.returns-in-Load-clause-served
returns-in-Load-clause-served g c =
    let b = c.args.self.now.plain in
    subst (λ (a : Access). OrWant b (want_told a) (served b c.args.prog a) (c.load.new.self.plain, c.told_or.result)) (sym c.in-Load.is)
    (read_so b c.load.new.self.plain told.Refused (loaded b c.in-Load.map c.in-Load.key c.in-Load.offset c.in-Load.size) c.load.result c.told_or.result c.load.ensures.told c.load.ensures.same c.told_or.ensures)

pub returns-in-Store-clause-served : goal.returns-in-Store-clause-served
returns-in-Store-clause-served g c =
    let b = c.args.self.now.plain in
    subst (λ (a : Access). OrWant b (want_told a) (served b c.args.prog a) (c.store.new.self.plain, c.store.result)) (sym c.in-Store.is) c.store.ensures.told

pub returns-in-Atomic-clause-served : goal.returns-in-Atomic-clause-served
returns-in-Atomic-clause-served g c =
    let b = c.args.self.now.plain in
    subst (λ (a : Access). OrWant b (want_told a) (served b c.args.prog a) (c.combine.new.self.plain, c.combine.result)) (sym c.in-Atomic.is) c.combine.ensures.told

pub returns-in-Lookup-clause-served : goal.returns-in-Lookup-clause-served
returns-in-Lookup-clause-served g c =
    let b = c.args.self.now.plain in
    subst (λ (a : Access). OrWant b (want_told a) (served b c.args.prog a) (c.look_up.new.self.plain, c.look_up.result)) (sym c.in-Lookup.is) c.look_up.ensures.told

pub returns-in-Update-clause-served : goal.returns-in-Update-clause-served
returns-in-Update-clause-served g c =
    let b = c.args.self.now.plain in
    subst (λ (a : Access). OrWant b (want_told a) (served b c.args.prog a) (c.update.new.self.plain, c.update.result)) (sym c.in-Update.is) c.update.ensures.told

pub returns-in-Delete-clause-served : goal.returns-in-Delete-clause-served
returns-in-Delete-clause-served g c =
    let b = c.args.self.now.plain in
    subst (λ (a : Access). OrWant b (want_told a) (served b c.args.prog a) (c.delete.new.self.plain, c.delete.result)) (sym c.in-Delete.is) c.delete.ensures.told

pub returns-in-Push-clause-served : goal.returns-in-Push-clause-served
returns-in-Push-clause-served g c =
    let b = c.args.self.now.plain in
    subst (λ (a : Access). OrWant b (want_told a) (served b c.args.prog a) (c.push.new.self.plain, c.push.result)) (sym c.in-Push.is) c.push.ensures.told

pub returns-in-Pop-clause-served : goal.returns-in-Pop-clause-served
returns-in-Pop-clause-served g c =
    let b = c.args.self.now.plain in
    subst (λ (a : Access). OrWant b (want_told a) (served b c.args.prog a) (c.pop.new.self.plain, c.pop.result)) (sym c.in-Pop.is) c.pop.ensures.told

pub returns-in-Peek-clause-served : goal.returns-in-Peek-clause-served
returns-in-Peek-clause-served g c =
    let b = c.args.self.now.plain in
    subst (λ (a : Access). OrWant b (want_told a) (served b c.args.prog a) (c.peek.new.self.plain, c.told_or-in-Peek.result)) (sym c.in-Peek.is)
    (read_so b c.peek.new.self.plain (told.Errno ENOMEM) (peeked b c.in-Peek.map) c.peek.result c.told_or-in-Peek.result c.peek.ensures.told c.peek.ensures.same c.told_or-in-Peek.ensures)

pub returns-in-Fetch-clause-served : goal.returns-in-Fetch-clause-served
returns-in-Fetch-clause-served g c =
    let b = c.args.self.now.plain in
    subst (λ (a : Access). OrWant b (want_told a) (served b c.args.prog a) (c.fetch.new.self.plain, c.told_or-in-Fetch.result)) (sym c.in-Fetch.is)
    (read_so b c.fetch.new.self.plain (told.Errno ENOMEM) (fetched b c.in-Fetch.map c.in-Fetch.index) c.fetch.result c.told_or-in-Fetch.result c.fetch.ensures.told c.fetch.ensures.same c.told_or-in-Fetch.ensures)

pub returns-in-Load-clause-sure : goal.returns-in-Load-clause-sure
returns-in-Load-clause-sure g c all reads =
    let b = c.args.self.now.plain in
    read_sure b c.load.new.self.plain told.Refused (loaded b c.in-Load.map c.in-Load.key c.in-Load.offset c.in-Load.size) c.load.result c.told_or.result c.load.ensures.told (c.load.ensures.room all) c.load.ensures.same c.told_or.ensures
    ∙ sym (ap (served b c.args.prog) c.in-Load.is)

pub returns-in-Lookup-clause-sure : goal.returns-in-Lookup-clause-sure
returns-in-Lookup-clause-sure g c all reads = c.look_up.ensures.sure all ∙ sym (ap (served c.args.self.now.plain c.args.prog) c.in-Lookup.is)

pub returns-in-Peek-clause-sure : goal.returns-in-Peek-clause-sure
returns-in-Peek-clause-sure g c all reads =
    let b = c.args.self.now.plain in
    read_sure b c.peek.new.self.plain (told.Errno ENOMEM) (peeked b c.in-Peek.map) c.peek.result c.told_or-in-Peek.result c.peek.ensures.told (c.peek.ensures.room all) c.peek.ensures.same c.told_or-in-Peek.ensures
    ∙ sym (ap (served b c.args.prog) c.in-Peek.is)

pub returns-in-Store-clause-sure : goal.returns-in-Store-clause-sure
returns-in-Store-clause-sure g c all reads = absurd (subst Reads c.in-Store.is reads)

pub returns-in-Atomic-clause-sure : goal.returns-in-Atomic-clause-sure
returns-in-Atomic-clause-sure g c all reads = absurd (subst Reads c.in-Atomic.is reads)

pub returns-in-Update-clause-sure : goal.returns-in-Update-clause-sure
returns-in-Update-clause-sure g c all reads = absurd (subst Reads c.in-Update.is reads)

pub returns-in-Delete-clause-sure : goal.returns-in-Delete-clause-sure
returns-in-Delete-clause-sure g c all reads = absurd (subst Reads c.in-Delete.is reads)

pub returns-in-Push-clause-sure : goal.returns-in-Push-clause-sure
returns-in-Push-clause-sure g c all reads = absurd (subst Reads c.in-Push.is reads)

pub returns-in-Pop-clause-sure : goal.returns-in-Pop-clause-sure
returns-in-Pop-clause-sure g c all reads = absurd (subst Reads c.in-Pop.is reads)

pub returns-in-Fetch-clause-sure : goal.returns-in-Fetch-clause-sure
returns-in-Fetch-clause-sure g c all reads = absurd (subst Reads c.in-Fetch.is reads)

pub returns-in-Load-clause-work : goal.returns-in-Load-clause-work
returns-in-Load-clause-work g c = subst (λ (a : Access). CallsAtMost (calls_to_serve a) c.args.self.now.work c.load.new.self.work) (sym c.in-Load.is) c.load.ensures.work

pub returns-in-Store-clause-work : goal.returns-in-Store-clause-work
returns-in-Store-clause-work g c = subst (λ (a : Access). CallsAtMost (calls_to_serve a) c.args.self.now.work c.store.new.self.work) (sym c.in-Store.is) c.store.ensures.work

pub returns-in-Atomic-clause-work : goal.returns-in-Atomic-clause-work
returns-in-Atomic-clause-work g c = subst (λ (a : Access). CallsAtMost (calls_to_serve a) c.args.self.now.work c.combine.new.self.work) (sym c.in-Atomic.is) c.combine.ensures.work

pub returns-in-Lookup-clause-work : goal.returns-in-Lookup-clause-work
returns-in-Lookup-clause-work g c = subst (λ (a : Access). CallsAtMost (calls_to_serve a) c.args.self.now.work c.look_up.new.self.work) (sym c.in-Lookup.is) c.look_up.ensures.work

pub returns-in-Update-clause-work : goal.returns-in-Update-clause-work
returns-in-Update-clause-work g c = subst (λ (a : Access). CallsAtMost (calls_to_serve a) c.args.self.now.work c.update.new.self.work) (sym c.in-Update.is) c.update.ensures.work

pub returns-in-Delete-clause-work : goal.returns-in-Delete-clause-work
returns-in-Delete-clause-work g c = subst (λ (a : Access). CallsAtMost (calls_to_serve a) c.args.self.now.work c.delete.new.self.work) (sym c.in-Delete.is) c.delete.ensures.work

pub returns-in-Push-clause-work : goal.returns-in-Push-clause-work
returns-in-Push-clause-work g c = subst (λ (a : Access). CallsAtMost (calls_to_serve a) c.args.self.now.work c.push.new.self.work) (sym c.in-Push.is) c.push.ensures.work

pub returns-in-Pop-clause-work : goal.returns-in-Pop-clause-work
returns-in-Pop-clause-work g c = subst (λ (a : Access). CallsAtMost (calls_to_serve a) c.args.self.now.work c.pop.new.self.work) (sym c.in-Pop.is) c.pop.ensures.work

pub returns-in-Peek-clause-work : goal.returns-in-Peek-clause-work
returns-in-Peek-clause-work g c = subst (λ (a : Access). CallsAtMost (calls_to_serve a) c.args.self.now.work c.peek.new.self.work) (sym c.in-Peek.is) c.peek.ensures.work

pub returns-in-Fetch-clause-work : goal.returns-in-Fetch-clause-work
returns-in-Fetch-clause-work g c = subst (λ (a : Access). CallsAtMost (calls_to_serve a) c.args.self.now.work c.fetch.new.self.work) (sym c.in-Fetch.is) c.fetch.ensures.work
