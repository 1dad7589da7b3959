use Rattle.std.proofs.Common.{sym, subst, ◌∙◌}
use Rattle.host_state.specs.Hosts.{Entries, entries_in, view_of, IsSound}
use Rattle.host_state.specs.Act.{new_prog}
use Rattle.host_undoing.specs.Answers.{IsUnchanged}
use Rattle.host_state.specs.State.{HostProg}
use Rattle.host_pins.proofs.CreatedLemmas.{ProgPinnedIn, new_pin}
use Rattle.host_pins.proofs.LoadLemmas.{may_load, load_faulty, unchanged, twice_put, has_room_now, load_applied, load_sound, load_refused, load_refused_sound}
use Rattle.host_pins.proofs.load.load.Goals as goal

pub returns-in-Some-clause-answer : goal.returns-in-Some-clause-answer
returns-in-Some-clause-answer g c =
    load_faulty c.args.host.now.objects.by_id (entries_in c.args.host.now.entries) c.args.host.now.roots c.args.host.now.objects.work c.args.id c.args.code.now c.args.name.now c.args.path.now c.in-Some.errno c.requires
    (sym c.load_fault.ensures ∙ c.in-Some.is)

pub pin_prog-requires : goal.pin_prog-requires
pin_prog-requires g c none = cc (sym none ∙ has_room_now (entries_in c.args.host.now.entries) (entries_in c.add_prog.new.entries) c.args.id _ c.in-Ok-add_prog.ensures.added)

pub returns-in-Err-add_prog-clause-sound : goal.returns-in-Err-add_prog-clause-sound
returns-in-Err-add_prog-clause-sound g c = subst (λ (e : Entries). IsSound c.args.host.now.objects.by_id e c.args.host.now.roots) (sym c.in-Err-add_prog.ensures.refused) c.requires

pub returns-in-Err-add_prog-clause-answer : goal.returns-in-Err-add_prog-clause-answer
returns-in-Err-add_prog-clause-answer g c = (
  tt,
  subst (λ (e : Entries). IsUnchanged (view_of c.args.host.now.objects.by_id (entries_in c.args.host.now.entries) c.args.host.now.roots c.args.host.now.objects.work) (view_of c.args.host.now.objects.by_id e c.args.host.now.roots c.args.host.now.objects.work))
      (sym c.in-Err-add_prog.ensures.refused) (unchanged c.args.host.now.objects.by_id (entries_in c.args.host.now.entries) c.args.host.now.roots c.args.host.now.objects.work),
)

pub returns-in-Ok-pin_prog-clause-sound : goal.returns-in-Ok-pin_prog-clause-sound
returns-in-Ok-pin_prog-clause-sound g c =
    let old = entries_in c.args.host.now.entries in
    let middle = entries_in c.add_prog.new.entries in
    let new = entries_in c.pin_prog.new.entries in
    let prog = new_prog c.args.code.now c.args.name.now in
    let p = subst (λ r. ProgPinnedIn middle c.args.host.now.roots c.args.id prog c.args.path.now r new c.pin_prog.new.roots) c.in-Ok-pin_prog.is (subst (λ (p : HostProg). ProgPinnedIn (entries_in c.add_prog.new.entries) c.args.host.now.roots c.args.id p c.args.path.now c.pin_prog.result (entries_in c.pin_prog.new.entries) c.pin_prog.new.roots) c.in-Ok.ensures c.pin_prog.ensures) in
    load_sound c.args.host.now.objects.by_id old new c.args.host.now.roots c.pin_prog.new.roots 0 c.args.id c.args.code.now c.args.name.now c.args.path.now c.in-Ok-pin_prog.pin c.requires
    (may_load old c.args.id c.args.code.now (sym c.load_fault.ensures ∙ c.in_default.is))
    (new_pin c.args.host.now.roots c.args.path.now _ c.in-Ok-pin_prog.pin c.pin_prog.new.roots p.answered) (twice_put old middle new c.args.id _ _ c.in-Ok-add_prog.ensures.added p.put)
    c.none_retired-retired.result c.none_retired-retired.ensures.targets c.none_retired-retired.ensures.live

pub returns-in-Ok-pin_prog-clause-answer : goal.returns-in-Ok-pin_prog-clause-answer
returns-in-Ok-pin_prog-clause-answer g c =
    let old = entries_in c.args.host.now.entries in
    let middle = entries_in c.add_prog.new.entries in
    let new = entries_in c.pin_prog.new.entries in
    let prog = new_prog c.args.code.now c.args.name.now in
    let p = subst (λ r. ProgPinnedIn middle c.args.host.now.roots c.args.id prog c.args.path.now r new c.pin_prog.new.roots) c.in-Ok-pin_prog.is (subst (λ (p : HostProg). ProgPinnedIn (entries_in c.add_prog.new.entries) c.args.host.now.roots c.args.id p c.args.path.now c.pin_prog.result (entries_in c.pin_prog.new.entries) c.pin_prog.new.roots) c.in-Ok.ensures c.pin_prog.ensures) in
    load_applied c.args.host.now.objects.by_id old new c.args.host.now.roots c.pin_prog.new.roots c.args.host.now.objects.work c.args.id c.args.code.now c.args.name.now c.args.path.now c.in-Ok-pin_prog.pin c.requires
    (may_load old c.args.id c.args.code.now (sym c.load_fault.ensures ∙ c.in_default.is))
    (new_pin c.args.host.now.roots c.args.path.now _ c.in-Ok-pin_prog.pin c.pin_prog.new.roots p.answered) (twice_put old middle new c.args.id _ _ c.in-Ok-add_prog.ensures.added p.put)
    c.none_retired-retired.result c.none_retired-retired.ensures.targets c.none_retired-retired.ensures.live

pub returns-in-Err-pin_prog-clause-sound : goal.returns-in-Err-pin_prog-clause-sound
returns-in-Err-pin_prog-clause-sound g c =
    let old = entries_in c.args.host.now.entries in
    let middle = entries_in c.add_prog.new.entries in
    let new = entries_in c.pin_prog.new.entries in
    let prog = new_prog c.args.code.now c.args.name.now in
    load_refused_sound c.args.host.now.objects.by_id old middle new c.args.host.now.roots c.pin_prog.new.roots c.args.id c.args.code.now c.args.name.now c.args.path.now c.in-Err-pin_prog.refusal c.requires
    (may_load old c.args.id c.args.code.now (sym c.load_fault.ensures ∙ c.in_default.is)) c.in-Ok-add_prog.ensures.added
    (subst (λ r. ProgPinnedIn middle c.args.host.now.roots c.args.id prog c.args.path.now r new c.pin_prog.new.roots) c.in-Err-pin_prog.is (subst (λ (p : HostProg). ProgPinnedIn (entries_in c.add_prog.new.entries) c.args.host.now.roots c.args.id p c.args.path.now c.pin_prog.result (entries_in c.pin_prog.new.entries) c.pin_prog.new.roots) c.in-Ok.ensures c.pin_prog.ensures))

pub returns-in-Err-pin_prog-clause-answer : goal.returns-in-Err-pin_prog-clause-answer
returns-in-Err-pin_prog-clause-answer g c =
    let old = entries_in c.args.host.now.entries in
    let middle = entries_in c.add_prog.new.entries in
    let new = entries_in c.pin_prog.new.entries in
    let prog = new_prog c.args.code.now c.args.name.now in
    load_refused c.args.host.now.objects.by_id old middle new c.args.host.now.roots c.pin_prog.new.roots c.args.id c.args.code.now c.args.name.now c.args.path.now c.in-Err-pin_prog.refusal c.requires
    (may_load old c.args.id c.args.code.now (sym c.load_fault.ensures ∙ c.in_default.is)) c.in-Ok-add_prog.ensures.added c.args.host.now.objects.work
    (subst (λ r. ProgPinnedIn middle c.args.host.now.roots c.args.id prog c.args.path.now r new c.pin_prog.new.roots) c.in-Err-pin_prog.is (subst (λ (p : HostProg). ProgPinnedIn (entries_in c.add_prog.new.entries) c.args.host.now.roots c.args.id p c.args.path.now c.pin_prog.result (entries_in c.pin_prog.new.entries) c.pin_prog.new.roots) c.in-Ok.ensures c.pin_prog.ensures))

pub returns-in-Err-clause-answer : goal.returns-in-Err-clause-answer
returns-in-Err-clause-answer g c = (tt, unchanged c.args.host.now.objects.by_id (entries_in c.args.host.now.entries) c.args.host.now.roots c.args.host.now.objects.work)
