use Rattle.std.proofs.Common.{List, ℕ, Ok, Err, refl, sym, subst}
use Rattle.bt_mapkind.specs.Seen.{Seen}
use Rattle.bt_objects.specs.Boxes.{ById}
use Rattle.bt_roots.specs.Answers.{IsAnswered, detach_answer}
use Rattle.host_state.specs.declared.change.Change.TheVariants.{Detach}
use Rattle.host_state.specs.declared.reply.Reply.TheVariants.{Done}
use Rattle.host_undoing.specs.declared.undoing.Part.TheVariants.{Pinned}
use Rattle.host_retirement.specs.Cut.{HangsOn}
use Rattle.host_state.specs.Hosts.{Entries, state_of, view_of, IsSound, entries_in}
use Rattle.host_undoing.proofs.Parts.{IsApplied}
use Rattle.host_undoing.specs.Answers.{IsUnchanged}
use Rattle.host_state.proofs.CallLemmas.{within_none}
use Rattle.host_pins.proofs.CutLemmas.{hangs}
use Rattle.host_pins.proofs.PinLemmas.{same_sound, put_back, put_back_sound}
use Rattle.host_pins.proofs.AttachLemmas.{none_detached, not_detached, taken_off, detach_sound, detach_applied}
use Rattle.host_pins.proofs.attach.detach.Goals as goal

pub retire_cut-requires-clause-cut : goal.retire_cut-requires-clause-cut
retire_cut-requires-clause-cut g c κs bounds =
    subst (λ cut. HangsOn cut (state_of c.args.host.now.objects.by_id (entries_in c.args.host.now.entries) c.detach.new.self)) (sym c.target.ensures)
    (hangs c.args.host.now.objects.by_id (entries_in c.args.host.now.entries) c.args.host.now.roots c.detach.new.self c.in-Ok.pin c.in-Ok.ensures.restores c.requires)

pub returns-in-Err-clause-sound : goal.returns-in-Err-clause-sound
returns-in-Err-clause-sound g c = same_sound c.args.host.now.objects.by_id (entries_in c.args.host.now.entries) c.args.host.now.roots c.detach.new.self (none_detached c.args.host.now.roots c.detach.new.self c.args.device.now c.in-Err.fault (subst (λ (name : List ℕ). IsAnswered (detach_answer c.args.host.now.roots name) c.args.host.now.roots (Err c.in-Err.fault) c.detach.new.self) c.as_slice.ensures.value c.in-Err.ensures.answer)) c.requires

pub returns-in-Err-clause-answer : goal.returns-in-Err-clause-answer
returns-in-Err-clause-answer g c =
    not_detached c.args.host.now.objects.by_id (entries_in c.args.host.now.entries) c.args.host.now.roots c.detach.new.self c.args.host.now.objects.work c.args.host.now.objects.work c.args.device.now c.in-Err.fault c.refusal_of.result (subst (λ (name : List ℕ). IsAnswered (detach_answer c.args.host.now.roots name) c.args.host.now.roots (Err c.in-Err.fault) c.detach.new.self) c.as_slice.ensures.value c.in-Err.ensures.answer) c.refusal_of.ensures

pub returns-in-Err-clause-work : goal.returns-in-Err-clause-work
returns-in-Err-clause-work g c = within_none _ c.args.host.now.objects.work c.args.host.now.objects.work refl

pub returns-in-Ok-retire_cut-clause-sound : goal.returns-in-Ok-retire_cut-clause-sound
returns-in-Ok-retire_cut-clause-sound g c =
    subst (λ (b : ById Seen). IsSound b (entries_in c.retire_cut.new.entries) c.detach.new.self) (sym c.retire_cut.ensures.same)
    (detach_sound c.args.host.now.objects.by_id (entries_in c.args.host.now.entries) (entries_in c.retire_cut.new.entries) c.args.host.now.roots c.detach.new.self c.args.host.now.objects.work c.retire_cut.new.objects.work c.args.device.now c.in-Ok.pin c.in-Ok-retire_cut.retired c.requires
    (taken_off c.args.host.now.roots c.args.device.now c.in-Ok.pin c.detach.new.self (subst (λ (name : List ℕ). IsAnswered (detach_answer c.args.host.now.roots name) c.args.host.now.roots (Ok c.in-Ok.pin) c.detach.new.self) c.as_slice.ensures.value c.in-Ok.ensures.answer)) c.in-Ok.ensures.restores c.in-Ok.ensures.fits c.in-Ok.ensures.keeps c.in-Ok-retire_cut.ensures.retired)

pub returns-in-Ok-retire_cut-clause-answer : goal.returns-in-Ok-retire_cut-clause-answer
returns-in-Ok-retire_cut-clause-answer g c =
    subst (λ (b : ById Seen). IsApplied (view_of c.args.host.now.objects.by_id (entries_in c.args.host.now.entries) c.args.host.now.roots c.args.host.now.objects.work) (Detach c.args.device.now) Done (record { part = Pinned c.in-Ok.pin; retired = c.in-Ok-retire_cut.retired }) (view_of b (entries_in c.retire_cut.new.entries) c.detach.new.self c.retire_cut.new.objects.work))
    (sym c.retire_cut.ensures.same)
    (detach_applied c.args.host.now.objects.by_id (entries_in c.args.host.now.entries) (entries_in c.retire_cut.new.entries) c.args.host.now.roots c.detach.new.self c.args.host.now.objects.work c.retire_cut.new.objects.work c.args.device.now c.in-Ok.pin c.in-Ok-retire_cut.retired c.requires
    (taken_off c.args.host.now.roots c.args.device.now c.in-Ok.pin c.detach.new.self (subst (λ (name : List ℕ). IsAnswered (detach_answer c.args.host.now.roots name) c.args.host.now.roots (Ok c.in-Ok.pin) c.detach.new.self) c.as_slice.ensures.value c.in-Ok.ensures.answer)) c.in-Ok.ensures.restores c.in-Ok.ensures.fits c.in-Ok.ensures.keeps c.in-Ok-retire_cut.ensures.retired)

pub returns-in-Err-retire_cut-clause-sound : goal.returns-in-Err-retire_cut-clause-sound
returns-in-Err-retire_cut-clause-sound g c =
    subst (λ (x : ById Seen × Entries). IsSound x.0 x.1 c.turn.new.self) (λ i. (sym c.retire_cut.ensures.same i, sym c.in-Err-retire_cut.ensures.refused i))
    (put_back_sound c.args.host.now.objects.by_id (entries_in c.args.host.now.entries) c.args.host.now.roots c.detach.new.self c.in-Ok.pin c.turn.new.self c.in-Ok.ensures.restores c.turn.ensures.roots c.in-Ok.ensures.keeps c.requires)

pub returns-in-Err-retire_cut-clause-answer : goal.returns-in-Err-retire_cut-clause-answer
returns-in-Err-retire_cut-clause-answer g c = (
  tt,
  subst (λ (x : ById Seen × Entries). IsUnchanged (view_of c.args.host.now.objects.by_id (entries_in c.args.host.now.entries) c.args.host.now.roots c.args.host.now.objects.work) (view_of x.0 x.1 c.turn.new.self c.retire_cut.new.objects.work)) (λ i. (sym c.retire_cut.ensures.same i, sym c.in-Err-retire_cut.ensures.refused i))
      (put_back c.args.host.now.objects.by_id (entries_in c.args.host.now.entries) c.args.host.now.roots c.detach.new.self c.in-Ok.pin c.turn.new.self c.in-Ok.ensures.restores c.turn.ensures.roots c.in-Ok.ensures.keeps c.args.host.now.objects.work c.retire_cut.new.objects.work),
)
