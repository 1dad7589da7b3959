use Rattle.std.proofs.Common.{List, ℕ, Ok, Err, sym, subst, ◌∙◌}
use Rattle.bt_mapkind.specs.Seen.{Seen}
use Rattle.bt_objects.specs.Boxes.{ById}
use Rattle.bt_roots.specs.Answers.{IsAnswered, attach_answer}
use Rattle.host_state.specs.declared.change.Change.TheVariants.{Attach}
use Rattle.host_state.specs.declared.reply.Reply.TheVariants.{Done}
use Rattle.host_undoing.specs.declared.undoing.Part.TheVariants.{Pinned}
use Rattle.host_state.specs.Hosts.{Entries, view_of, IsSound, entries_in}
use Rattle.host_undoing.proofs.Parts.{IsApplied}
use Rattle.host_undoing.specs.Answers.{IsUnchanged}
use Rattle.host_pins.proofs.PinLemmas.{same_sound, put_back, put_back_sound}
use Rattle.host_pins.proofs.AttachLemmas.{none_attached, not_attached_dead, not_attached, put_there, attach_sound, attach_applied}
use Rattle.host_pins.proofs.attach.attach.Goals as goal

pub returns-then-not-is_live_prog-clause-answer : goal.returns-then-not-is_live_prog-clause-answer
returns-then-not-is_live_prog-clause-answer g c = not_attached_dead c.args.host.now.objects.by_id (entries_in c.args.host.now.entries) c.args.host.now.roots c.args.host.now.objects.work c.args.prog c.args.device.now c.args.overwrite (sym c.is_live_prog.ensures ∙ c.if-not-is_live_prog.true)

pub returns-in-Err-clause-sound : goal.returns-in-Err-clause-sound
returns-in-Err-clause-sound g c = same_sound c.args.host.now.objects.by_id (entries_in c.args.host.now.entries) c.args.host.now.roots c.attach.new.self (none_attached c.args.host.now.roots c.attach.new.self c.args.prog c.args.device.now c.args.overwrite c.in-Err.fault (subst (λ (name : List ℕ). IsAnswered (attach_answer c.args.host.now.roots name c.args.prog c.args.overwrite) c.args.host.now.roots (Err c.in-Err.fault) c.attach.new.self) c.as_slice.ensures.value c.in-Err.ensures.answer)) c.requires

pub returns-in-Err-clause-answer : goal.returns-in-Err-clause-answer
returns-in-Err-clause-answer g c =
    not_attached c.args.host.now.objects.by_id (entries_in c.args.host.now.entries) c.args.host.now.roots c.attach.new.self c.args.host.now.objects.work c.args.host.now.objects.work c.args.prog c.args.device.now c.args.overwrite c.in-Err.fault c.refusal_of.result (sym c.is_live_prog.ensures ∙ c.if-not-is_live_prog.false) (subst (λ (name : List ℕ). IsAnswered (attach_answer c.args.host.now.roots name c.args.prog c.args.overwrite) c.args.host.now.roots (Err c.in-Err.fault) c.attach.new.self) c.as_slice.ensures.value c.in-Err.ensures.answer) c.refusal_of.ensures

pub returns-in-Ok-retire_if-clause-sound : goal.returns-in-Ok-retire_if-clause-sound
returns-in-Ok-retire_if-clause-sound g c =
    subst (λ (b : ById Seen). IsSound b (entries_in c.retire_if.new.entries) c.attach.new.self) (sym c.retire_if.ensures.same)
    (attach_sound c.args.host.now.objects.by_id (entries_in c.args.host.now.entries) (entries_in c.retire_if.new.entries) c.args.host.now.roots c.attach.new.self c.args.host.now.objects.work c.retire_if.new.objects.work c.args.prog c.args.device.now c.args.overwrite c.in-Ok.pin c.in-Ok-retire_if.retired c.requires (sym c.is_live_prog.ensures ∙ c.if-not-is_live_prog.false)
    (put_there c.args.host.now.roots c.args.prog c.args.device.now c.args.overwrite c.in-Ok.pin c.attach.new.self (subst (λ (name : List ℕ). IsAnswered (attach_answer c.args.host.now.roots name c.args.prog c.args.overwrite) c.args.host.now.roots (Ok c.in-Ok.pin) c.attach.new.self) c.as_slice.ensures.value c.in-Ok.ensures.answer)) c.in-Ok.ensures.restores c.in-Ok.ensures.fits c.in-Ok.ensures.keeps c.in-Ok-retire_if.ensures.retired)

pub returns-in-Ok-retire_if-clause-answer : goal.returns-in-Ok-retire_if-clause-answer
returns-in-Ok-retire_if-clause-answer g c =
    subst (λ (b : ById Seen). IsApplied (view_of c.args.host.now.objects.by_id (entries_in c.args.host.now.entries) c.args.host.now.roots c.args.host.now.objects.work) (Attach c.args.prog c.args.device.now c.args.overwrite) Done (record { part = Pinned c.in-Ok.pin; retired = c.in-Ok-retire_if.retired }) (view_of b (entries_in c.retire_if.new.entries) c.attach.new.self c.retire_if.new.objects.work))
    (sym c.retire_if.ensures.same)
    (attach_applied c.args.host.now.objects.by_id (entries_in c.args.host.now.entries) (entries_in c.retire_if.new.entries) c.args.host.now.roots c.attach.new.self c.args.host.now.objects.work c.retire_if.new.objects.work c.args.prog c.args.device.now c.args.overwrite c.in-Ok.pin c.in-Ok-retire_if.retired c.requires (sym c.is_live_prog.ensures ∙ c.if-not-is_live_prog.false)
    (put_there c.args.host.now.roots c.args.prog c.args.device.now c.args.overwrite c.in-Ok.pin c.attach.new.self (subst (λ (name : List ℕ). IsAnswered (attach_answer c.args.host.now.roots name c.args.prog c.args.overwrite) c.args.host.now.roots (Ok c.in-Ok.pin) c.attach.new.self) c.as_slice.ensures.value c.in-Ok.ensures.answer)) c.in-Ok.ensures.restores c.in-Ok.ensures.fits c.in-Ok.ensures.keeps c.in-Ok-retire_if.ensures.retired)

pub returns-in-Err-retire_if-clause-sound : goal.returns-in-Err-retire_if-clause-sound
returns-in-Err-retire_if-clause-sound g c =
    subst (λ (x : ById Seen × Entries). IsSound x.0 x.1 c.turn.new.self) (λ i. (sym c.retire_if.ensures.same i, sym c.in-Err-retire_if.ensures.refused i))
    (put_back_sound c.args.host.now.objects.by_id (entries_in c.args.host.now.entries) c.args.host.now.roots c.attach.new.self c.in-Ok.pin c.turn.new.self c.in-Ok.ensures.restores c.turn.ensures.roots c.in-Ok.ensures.keeps c.requires)

pub returns-in-Err-retire_if-clause-answer : goal.returns-in-Err-retire_if-clause-answer
returns-in-Err-retire_if-clause-answer g c = (
  tt,
  subst (λ (x : ById Seen × Entries). IsUnchanged (view_of c.args.host.now.objects.by_id (entries_in c.args.host.now.entries) c.args.host.now.roots c.args.host.now.objects.work) (view_of x.0 x.1 c.turn.new.self c.retire_if.new.objects.work)) (λ i. (sym c.retire_if.ensures.same i, sym c.in-Err-retire_if.ensures.refused i))
      (put_back c.args.host.now.objects.by_id (entries_in c.args.host.now.entries) c.args.host.now.roots c.attach.new.self c.in-Ok.pin c.turn.new.self c.in-Ok.ensures.restores c.turn.ensures.roots c.in-Ok.ensures.keeps c.args.host.now.objects.work c.retire_if.new.objects.work),
)
