use Rattle.host_state.specs.Hosts.{entries_in}
use Rattle.std.proofs.Common.{sym, ◌∙◌}
use Rattle.host_pins.proofs.CreatedLemmas.{new_pin}
use Rattle.host_pins.proofs.PinLemmas.{pin_sound, pin_applied, not_pinned_dead, not_pinned, no_pin_sound}
use Rattle.host_pins.proofs.pin.pin.Goals as goal

pub returns-then-not-is_live-clause-answer : goal.returns-then-not-is_live-clause-answer
returns-then-not-is_live-clause-answer g c = not_pinned_dead c.args.host.now.objects.by_id (entries_in c.args.host.now.entries) c.args.host.now.roots c.args.host.now.objects.work c.args.target c.args.path.now c.requires (sym c.is_live.ensures ∙ c.if-not-is_live.true)

pub returns-in-Ok-clause-sound : goal.returns-in-Ok-clause-sound
returns-in-Ok-clause-sound g c =
    pin_sound c.args.host.now.objects.by_id (entries_in c.args.host.now.entries) c.args.host.now.roots c.pin.new.self c.args.host.now.objects.work c.args.target c.args.path.now c.in-Ok.pin c.none_retired.result c.requires (sym c.is_live.ensures ∙ c.if-not-is_live.false)
    (new_pin c.args.host.now.roots c.args.path.now c.args.target c.in-Ok.pin c.pin.new.self c.in-Ok.ensures.answer) c.in-Ok.ensures.restores c.in-Ok.ensures.fits c.in-Ok.ensures.keeps

pub returns-in-Ok-clause-answer : goal.returns-in-Ok-clause-answer
returns-in-Ok-clause-answer g c =
    pin_applied c.args.host.now.objects.by_id (entries_in c.args.host.now.entries) c.args.host.now.roots c.pin.new.self c.args.host.now.objects.work c.args.target c.args.path.now c.in-Ok.pin c.none_retired.result c.requires (sym c.is_live.ensures ∙ c.if-not-is_live.false)
    (new_pin c.args.host.now.roots c.args.path.now c.args.target c.in-Ok.pin c.pin.new.self c.in-Ok.ensures.answer) c.in-Ok.ensures.restores c.in-Ok.ensures.fits c.in-Ok.ensures.keeps c.none_retired.ensures.targets c.none_retired.ensures.live

pub returns-in-Err-clause-sound : goal.returns-in-Err-clause-sound
returns-in-Err-clause-sound g c = no_pin_sound c.args.host.now.objects.by_id (entries_in c.args.host.now.entries) c.args.host.now.roots c.pin.new.self c.args.target c.args.path.now c.in-Err.fault c.in-Err.ensures.answer c.requires

pub returns-in-Err-clause-answer : goal.returns-in-Err-clause-answer
returns-in-Err-clause-answer g c =
    not_pinned c.args.host.now.objects.by_id (entries_in c.args.host.now.entries) c.args.host.now.roots c.pin.new.self c.args.host.now.objects.work c.args.target c.args.path.now c.in-Err.fault c.refusal_of.result c.requires (sym c.is_live.ensures ∙ c.if-not-is_live.false) c.in-Err.ensures.answer c.refusal_of.ensures
