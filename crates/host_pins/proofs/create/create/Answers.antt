use Rattle.host_state.specs.Hosts.{entries_in}
use Rattle.std.proofs.Common.{refl, sym, subst, ◌∙◌}
use Rattle.bt_objects.specs.Boxes.{make_of}
use Rattle.host_state.specs.declared.entry.MapEntry.{MapEntry}
use Rattle.host_pins.proofs.CreatedLemmas.{PinnedIn, may, new_pin, act_create_fault}
use Rattle.host_state.specs.State.{new_entry}
use Rattle.host_state.proofs.HostLemmas.{is_some-host}
use Rattle.host_state.proofs.ByIdLemmas.{get-mapped}
use Rattle.host_pins.proofs.PresenceLemmas.{has_blank, create_applied, create_sound, create_refused, refused_sound}
use Rattle.host_pins.proofs.create.create.Goals as goal

pub returns-then-not-was_made-clause-answer : goal.returns-then-not-was_made-clause-answer
returns-then-not-was_made-clause-answer g c = (
  λ blank. cc (c.was_made.ensures.1 (sym (get-mapped (λ id s. make_of s) c.args.host.now.objects.by_id c.args.map) ∙ blank), c.if-not-was_made.true),
  record { state = refl; boxes = record { makes = refl; progs = λ q there. there; room = λ path there. there } },
)

pub returns-in-Err-clause-answer : goal.returns-in-Err-clause-answer
returns-in-Err-clause-answer g c =
    let boxes = c.args.host.now.objects.by_id in
    let entries = (entries_in c.args.host.now.entries) in (
      (
        has_blank boxes c.args.map c.args.make (c.was_made.ensures.0 c.if-not-was_made.false),
        act_create_fault boxes entries c.args.host.now.roots c.args.map c.args.make.attr c.args.make.charge c.args.name.now c.args.path.now c.args.template c.in-Err.errno c.requires.built.same_ids
            (is_some-host boxes entries c.args.map (c.requires.built.same_ids c.args.map)) (sym c.may_create.ensures ∙ c.in-Err.is),
      ),
      record { state = refl; boxes = record { makes = refl; progs = λ q there. there; room = λ path there. there } },
    )

pub returns-in-Ok-pin_new-clause-sound : goal.returns-in-Ok-pin_new-clause-sound
returns-in-Ok-pin_new-clause-sound g c =
    let boxes = c.args.host.now.objects.by_id in
    let entries = (entries_in c.args.host.now.entries) in
    let p = subst (λ r. PinnedIn entries c.args.host.now.roots c.args.map (new_entry c.args.name.now c.in-Ok.agreed) c.args.path.now r (entries_in c.pin_new.new.entries) c.pin_new.new.roots) c.in-Ok-pin_new.is (subst (λ (e : MapEntry). PinnedIn (entries_in c.args.host.now.entries) c.args.host.now.roots c.args.map e c.args.path.now c.pin_new.result (entries_in c.pin_new.new.entries) c.pin_new.new.roots) c.in-Ok-new_entry.ensures c.pin_new.ensures) in
    create_sound boxes entries (entries_in c.pin_new.new.entries) c.args.host.now.roots c.pin_new.new.roots 0 c.args.map c.args.make c.args.name.now c.args.path.now c.args.template c.in-Ok.agreed c.in-Ok-pin_new.pin c.requires
    (c.was_made.ensures.0 c.if-not-was_made.false)
    (may boxes entries c.args.map c.args.make.attr c.args.name.now c.args.template c.in-Ok.agreed (sym c.may_create.ensures ∙ c.in-Ok.is))
    (new_pin c.args.host.now.roots c.args.path.now _ c.in-Ok-pin_new.pin c.pin_new.new.roots p.answered) p.put c.none_retired.result c.none_retired.ensures.targets c.none_retired.ensures.live

pub returns-in-Ok-pin_new-clause-answer : goal.returns-in-Ok-pin_new-clause-answer
returns-in-Ok-pin_new-clause-answer g c =
    let boxes = c.args.host.now.objects.by_id in
    let entries = (entries_in c.args.host.now.entries) in
    let p = subst (λ r. PinnedIn entries c.args.host.now.roots c.args.map (new_entry c.args.name.now c.in-Ok.agreed) c.args.path.now r (entries_in c.pin_new.new.entries) c.pin_new.new.roots) c.in-Ok-pin_new.is (subst (λ (e : MapEntry). PinnedIn (entries_in c.args.host.now.entries) c.args.host.now.roots c.args.map e c.args.path.now c.pin_new.result (entries_in c.pin_new.new.entries) c.pin_new.new.roots) c.in-Ok-new_entry.ensures c.pin_new.ensures) in
    create_applied boxes entries (entries_in c.pin_new.new.entries) c.args.host.now.roots c.pin_new.new.roots _ c.args.map c.args.make c.args.name.now c.args.path.now c.args.template c.in-Ok.agreed c.in-Ok-pin_new.pin c.requires
    (c.was_made.ensures.0 c.if-not-was_made.false)
    (may boxes entries c.args.map c.args.make.attr c.args.name.now c.args.template c.in-Ok.agreed (sym c.may_create.ensures ∙ c.in-Ok.is))
    (new_pin c.args.host.now.roots c.args.path.now _ c.in-Ok-pin_new.pin c.pin_new.new.roots p.answered) p.put c.none_retired.result c.none_retired.ensures.targets c.none_retired.ensures.live

pub returns-in-Err-pin_new-clause-sound : goal.returns-in-Err-pin_new-clause-sound
returns-in-Err-pin_new-clause-sound g c =
    let entries = (entries_in c.args.host.now.entries) in
    refused_sound c.args.host.now.objects.by_id entries (entries_in c.pin_new.new.entries) c.args.host.now.roots c.pin_new.new.roots c.args.map (new_entry c.args.name.now c.in-Ok.agreed) c.args.path.now c.in-Err-pin_new.refusal
    (subst (λ r. PinnedIn entries c.args.host.now.roots c.args.map (new_entry c.args.name.now c.in-Ok.agreed) c.args.path.now r (entries_in c.pin_new.new.entries) c.pin_new.new.roots) c.in-Err-pin_new.is (subst (λ (e : MapEntry). PinnedIn (entries_in c.args.host.now.entries) c.args.host.now.roots c.args.map e c.args.path.now c.pin_new.result (entries_in c.pin_new.new.entries) c.pin_new.new.roots) c.in-Ok-new_entry.ensures c.pin_new.ensures))
    c.requires

pub returns-in-Err-pin_new-clause-answer : goal.returns-in-Err-pin_new-clause-answer
returns-in-Err-pin_new-clause-answer g c =
    let boxes = c.args.host.now.objects.by_id in
    let entries = (entries_in c.args.host.now.entries) in
    create_refused boxes entries (entries_in c.pin_new.new.entries) c.args.host.now.roots c.pin_new.new.roots _ c.args.map c.args.make c.args.name.now c.args.path.now c.args.template c.in-Ok.agreed c.in-Err-pin_new.refusal c.requires
    (c.was_made.ensures.0 c.if-not-was_made.false)
    (may boxes entries c.args.map c.args.make.attr c.args.name.now c.args.template c.in-Ok.agreed (sym c.may_create.ensures ∙ c.in-Ok.is))
    (subst (λ r. PinnedIn entries c.args.host.now.roots c.args.map (new_entry c.args.name.now c.in-Ok.agreed) c.args.path.now r (entries_in c.pin_new.new.entries) c.pin_new.new.roots) c.in-Err-pin_new.is (subst (λ (e : MapEntry). PinnedIn (entries_in c.args.host.now.entries) c.args.host.now.roots c.args.map e c.args.path.now c.pin_new.result (entries_in c.pin_new.new.entries) c.pin_new.new.roots) c.in-Ok-new_entry.ensures c.pin_new.ensures))

pub returns-in-Err-new_entry-clause-answer : goal.returns-in-Err-new_entry-clause-answer
returns-in-Err-new_entry-clause-answer g c = (tt, record { state = refl; boxes = record { makes = refl; progs = λ q there. there; room = λ path there. there } })
