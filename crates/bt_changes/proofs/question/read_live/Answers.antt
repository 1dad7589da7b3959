use Rattle.host_state.specs.Hosts.{entries_in, live_in}
use Rattle.std.proofs.Common.{◌≡◌, is_some, Err, sym, ap, subst, ◌∙◌}
use Rattle.bt_objects.specs.Boxes.{ReadAt}
use Rattle.host_state.specs.declared.ask.AskReply.TheVariants.{Refused}
use Rattle.host_state.proofs.Asked.{read_from}
use Rattle.bt_changes.proofs.AskLemmas.{none_of, answered, refused}
use Rattle.host_state.proofs.HostLemmas.{nothing_live, live_there}
use Rattle.bt_changes.proofs.question.read_live.Goals as goal

pub returns-then-is_none-clause-answer : goal.returns-then-is_none-clause-answer
returns-then-is_none-clause-answer g c =
    let none = sym c.frozen_if_live.ensures ∙ none_of c.frozen_if_live.result c.if-is_none.ensures in
    sym (ap (λ o. read_from o c.args.query.now) (nothing_live c.args.objects.now.by_id (entries_in c.args.entries.now) c.args.id none))

pub returns-in-Ok-clause-answer : goal.returns-in-Ok-clause-answer
returns-in-Ok-clause-answer g c =
    let l = live_there c.args.objects.now.by_id (entries_in c.args.entries.now) c.args.id c.requires (ap is_some (sym c.frozen_if_live.ensures) ∙ c.if-is_none.ensures) in
    answered c.args.objects.now.by_id (entries_in c.args.entries.now) c.args.id c.args.query.now c.in-Ok.reply l
    (subst (ReadAt c.args.objects.now.by_id c.args.id c.args.query.now) c.in-Ok.is c.read_at.ensures.answer)

pub returns-in-Err-Errno-clause-answer : goal.returns-in-Err-Errno-clause-answer
returns-in-Err-Errno-clause-answer g c =
    let l = live_there c.args.objects.now.by_id (entries_in c.args.entries.now) c.args.id c.requires (ap is_some (sym c.frozen_if_live.ensures) ∙ c.if-is_none.ensures) in
    subst (λ e. Refused e ≡ read_from (live_in c.args.objects.now.by_id (entries_in c.args.entries.now) c.args.id) c.args.query.now) (sym c.in-Err-Errno.errno-is)
    (refused c.args.objects.now.by_id (entries_in c.args.entries.now) c.args.id c.args.query.now c.in-Err-Errno.errno l
    (subst (ReadAt c.args.objects.now.by_id c.args.id c.args.query.now) (c.in-Err-Errno.is ∙ ap Err c.in-Err-Errno.field-0-is) c.read_at.ensures.answer))

pub returns-in-Err-NoMemory-clause-room : goal.returns-in-Err-NoMemory-clause-room
returns-in-Err-NoMemory-clause-room g c all = absurd (c.read_at.ensures.room all (c.in-Err-NoMemory.is ∙ ap Err c.in-Err-NoMemory.field-0-is))
