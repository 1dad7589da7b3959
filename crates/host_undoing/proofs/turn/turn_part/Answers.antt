use Rattle.std.proofs.Common.{sym, ap, subst, ◌∙◌}
use Rattle.host_undoing.specs.Exchange.{part_turned, part_back, FitsPlace}
use Rattle.host_state.specs.Hosts.{state_of, ready_of, entries_in}
use Rattle.host_undoing.proofs.TurnedLemmas.{fits_box, contents_state, contents_undoing, contents_ready, contents_built}
use Rattle.host_undoing.proofs.FrozenLemmas.{frozen_state, frozen_undoing, frozen_built, frozen_ready}
use Rattle.host_undoing.proofs.ReturnedLemmas.{has_prog, same_built, program_state, program_undoing, program_ready, has_entry, presence_state, presence_undoing, presence_ready, presence_built, pinned_state, pinned_undoing, pinned_ready}
use Rattle.host_undoing.proofs.turn.turn_part.Goals as goal

pub turn_contents-requires-after_bounds : goal.turn_contents-requires-after_bounds
turn_contents-requires-after_bounds g c κs within =
    let place = subst (FitsPlace (ready_of c.args.objects.now.by_id (entries_in c.args.entries.now) c.args.roots.now) (state_of c.args.objects.now.by_id (entries_in c.args.entries.now) c.args.roots.now)) c.in-Contents.is c.requires.fits in fits_box c.args.objects.now.by_id (entries_in c.args.entries.now) c.args.roots.now c.in-Contents.map c.in-Contents.kept place

pub returns-in-Contents-clause-built : goal.returns-in-Contents-clause-built
returns-in-Contents-clause-built g c =
    let place = subst (FitsPlace (ready_of c.args.objects.now.by_id (entries_in c.args.entries.now) c.args.roots.now) (state_of c.args.objects.now.by_id (entries_in c.args.entries.now) c.args.roots.now)) c.in-Contents.is c.requires.fits in contents_built c.args.objects.now.by_id c.turn_contents.new.objects.by_id (entries_in c.args.entries.now) c.args.roots.now c.in-Contents.map c.in-Contents.kept c.turn_contents.new.kept c.requires.built place c.turn_contents.ensures.turned

pub returns-in-Contents-clause-state : goal.returns-in-Contents-clause-state
returns-in-Contents-clause-state g c =
    let place = subst (FitsPlace (ready_of c.args.objects.now.by_id (entries_in c.args.entries.now) c.args.roots.now) (state_of c.args.objects.now.by_id (entries_in c.args.entries.now) c.args.roots.now)) c.in-Contents.is c.requires.fits in contents_state c.args.objects.now.by_id c.turn_contents.new.objects.by_id (entries_in c.args.entries.now) c.args.roots.now c.in-Contents.map c.in-Contents.kept c.turn_contents.new.kept c.requires.built place c.turn_contents.ensures.turned ∙ ap (part_turned (state_of c.args.objects.now.by_id (entries_in c.args.entries.now) c.args.roots.now)) (sym c.in-Contents.is)

pub returns-in-Contents-clause-part : goal.returns-in-Contents-clause-part
returns-in-Contents-clause-part g c =
    let place = subst (FitsPlace (ready_of c.args.objects.now.by_id (entries_in c.args.entries.now) c.args.roots.now) (state_of c.args.objects.now.by_id (entries_in c.args.entries.now) c.args.roots.now)) c.in-Contents.is c.requires.fits in contents_undoing c.args.objects.now.by_id c.turn_contents.new.objects.by_id (entries_in c.args.entries.now) c.args.roots.now c.in-Contents.map c.in-Contents.kept c.turn_contents.new.kept c.requires.built place c.turn_contents.ensures.turned ∙ ap (part_back (state_of c.args.objects.now.by_id (entries_in c.args.entries.now) c.args.roots.now)) (sym c.in-Contents.is)

pub returns-in-Contents-clause-ready : goal.returns-in-Contents-clause-ready
returns-in-Contents-clause-ready g c =
    let place = subst (FitsPlace (ready_of c.args.objects.now.by_id (entries_in c.args.entries.now) c.args.roots.now) (state_of c.args.objects.now.by_id (entries_in c.args.entries.now) c.args.roots.now)) c.in-Contents.is c.requires.fits in contents_ready c.args.objects.now.by_id c.turn_contents.new.objects.by_id (entries_in c.args.entries.now) c.args.roots.now c.in-Contents.map c.in-Contents.kept c.turn_contents.new.kept c.requires.built place c.turn_contents.ensures.turned

pub returns-in-Frozen-clause-built : goal.returns-in-Frozen-clause-built
returns-in-Frozen-clause-built g c =
    let place = subst (FitsPlace (ready_of c.args.objects.now.by_id (entries_in c.args.entries.now) c.args.roots.now) (state_of c.args.objects.now.by_id (entries_in c.args.entries.now) c.args.roots.now)) c.in-Frozen.is c.requires.fits in
    frozen_built c.args.objects.now.by_id (entries_in c.args.entries.now) (entries_in c.exchange_frozen.new.entries) c.args.roots.now c.in-Frozen.map c.in-Frozen.frozen c.exchange_frozen.new.frozen c.requires.built place
    c.exchange_frozen.ensures.puts c.exchange_frozen.ensures.before

pub returns-in-Frozen-clause-state : goal.returns-in-Frozen-clause-state
returns-in-Frozen-clause-state g c =
    let place = subst (FitsPlace (ready_of c.args.objects.now.by_id (entries_in c.args.entries.now) c.args.roots.now) (state_of c.args.objects.now.by_id (entries_in c.args.entries.now) c.args.roots.now)) c.in-Frozen.is c.requires.fits in
    frozen_state c.args.objects.now.by_id (entries_in c.args.entries.now) (entries_in c.exchange_frozen.new.entries) c.args.roots.now c.in-Frozen.map c.in-Frozen.frozen c.exchange_frozen.new.frozen c.requires.built place
    c.exchange_frozen.ensures.puts c.exchange_frozen.ensures.before
    ∙ ap (part_turned (state_of c.args.objects.now.by_id (entries_in c.args.entries.now) c.args.roots.now)) (sym c.in-Frozen.is)

pub returns-in-Frozen-clause-part : goal.returns-in-Frozen-clause-part
returns-in-Frozen-clause-part g c =
    let place = subst (FitsPlace (ready_of c.args.objects.now.by_id (entries_in c.args.entries.now) c.args.roots.now) (state_of c.args.objects.now.by_id (entries_in c.args.entries.now) c.args.roots.now)) c.in-Frozen.is c.requires.fits in
    frozen_undoing c.args.objects.now.by_id (entries_in c.args.entries.now) (entries_in c.exchange_frozen.new.entries) c.args.roots.now c.in-Frozen.map c.in-Frozen.frozen c.exchange_frozen.new.frozen c.requires.built place
    c.exchange_frozen.ensures.puts c.exchange_frozen.ensures.before
    ∙ ap (part_back (state_of c.args.objects.now.by_id (entries_in c.args.entries.now) c.args.roots.now)) (sym c.in-Frozen.is)

pub exchange_entry-requires : goal.exchange_entry-requires
exchange_entry-requires g c =
    let place = subst (FitsPlace (ready_of c.args.objects.now.by_id (entries_in c.args.entries.now) c.args.roots.now) (state_of c.args.objects.now.by_id (entries_in c.args.entries.now) c.args.roots.now)) c.in-Presence.is c.requires.fits in has_entry c.args.objects.now.by_id (entries_in c.args.entries.now) c.args.roots.now c.in-Presence.map c.in-Presence.make c.in-Presence.entry c.requires.built place.0

pub returns-in-Presence-clause-built : goal.returns-in-Presence-clause-built
returns-in-Presence-clause-built g c =
    let place = subst (FitsPlace (ready_of c.args.objects.now.by_id (entries_in c.args.entries.now) c.args.roots.now) (state_of c.args.objects.now.by_id (entries_in c.args.entries.now) c.args.roots.now)) c.in-Presence.is c.requires.fits in
    presence_built c.args.objects.now.by_id (entries_in c.args.entries.now) (entries_in c.exchange_entry.new.entries) c.args.roots.now c.turn.new.self c.in-Presence.map c.in-Presence.make c.in-Presence.entry c.in-Presence.pin
    c.requires.built place.0 c.turn.ensures.roots c.exchange_entry.ensures.puts

pub returns-in-Presence-clause-state : goal.returns-in-Presence-clause-state
returns-in-Presence-clause-state g c =
    let place = subst (FitsPlace (ready_of c.args.objects.now.by_id (entries_in c.args.entries.now) c.args.roots.now) (state_of c.args.objects.now.by_id (entries_in c.args.entries.now) c.args.roots.now)) c.in-Presence.is c.requires.fits in
    presence_state c.args.objects.now.by_id (entries_in c.args.entries.now) (entries_in c.exchange_entry.new.entries) c.args.roots.now c.turn.new.self c.in-Presence.map c.in-Presence.make c.in-Presence.entry c.in-Presence.pin
    c.requires.built place.0 c.turn.ensures.roots c.exchange_entry.ensures.puts
    ∙ ap (part_turned (state_of c.args.objects.now.by_id (entries_in c.args.entries.now) c.args.roots.now)) (sym c.in-Presence.is)

pub returns-in-Presence-clause-part : goal.returns-in-Presence-clause-part
returns-in-Presence-clause-part g c =
    let place = subst (FitsPlace (ready_of c.args.objects.now.by_id (entries_in c.args.entries.now) c.args.roots.now) (state_of c.args.objects.now.by_id (entries_in c.args.entries.now) c.args.roots.now)) c.in-Presence.is c.requires.fits in
    presence_undoing c.args.objects.now.by_id (entries_in c.args.entries.now) (entries_in c.exchange_entry.new.entries) c.args.roots.now c.turn.new.self c.in-Presence.map c.in-Presence.make c.in-Presence.entry c.in-Presence.pin
    c.requires.built place.0 c.turn.ensures.roots c.exchange_entry.ensures.puts
    c.exchange_entry.new.entry c.turn.new.back c.exchange_entry.ensures.before c.turn.ensures.back
    ∙ ap (part_back (state_of c.args.objects.now.by_id (entries_in c.args.entries.now) c.args.roots.now)) (sym c.in-Presence.is)

pub returns-in-Presence-clause-ready : goal.returns-in-Presence-clause-ready
returns-in-Presence-clause-ready g c =
    let place = subst (FitsPlace (ready_of c.args.objects.now.by_id (entries_in c.args.entries.now) c.args.roots.now) (state_of c.args.objects.now.by_id (entries_in c.args.entries.now) c.args.roots.now)) c.in-Presence.is c.requires.fits in
    presence_ready c.args.objects.now.by_id (entries_in c.args.entries.now) (entries_in c.exchange_entry.new.entries) c.args.roots.now c.turn.new.self c.in-Presence.map c.in-Presence.make c.in-Presence.entry c.in-Presence.pin
    c.requires.built place.0 c.turn.ensures.roots c.exchange_entry.ensures.puts

pub returns-in-Frozen-clause-ready : goal.returns-in-Frozen-clause-ready
returns-in-Frozen-clause-ready g c = frozen_ready c.args.objects.now.by_id (entries_in c.args.entries.now) (entries_in c.exchange_frozen.new.entries) c.args.roots.now c.in-Frozen.map c.in-Frozen.frozen c.exchange_frozen.ensures.puts

pub exchange_prog-requires : goal.exchange_prog-requires
exchange_prog-requires g c =
    let place = subst (FitsPlace (ready_of c.args.objects.now.by_id (entries_in c.args.entries.now) c.args.roots.now) (state_of c.args.objects.now.by_id (entries_in c.args.entries.now) c.args.roots.now)) c.in-Program.is c.requires.fits in
    has_prog c.args.objects.now.by_id (entries_in c.args.entries.now) c.args.roots.now c.in-Program.prog c.in-Program.entry place.0

pub returns-in-Program-clause-built : goal.returns-in-Program-clause-built
returns-in-Program-clause-built g c = same_built c.args.objects.now.by_id (entries_in c.args.entries.now) (entries_in c.exchange_prog.new.entries) c.exchange_prog.ensures.puts.1 c.requires.built

pub returns-in-Program-clause-state : goal.returns-in-Program-clause-state
returns-in-Program-clause-state g c =
    let place = subst (FitsPlace (ready_of c.args.objects.now.by_id (entries_in c.args.entries.now) c.args.roots.now) (state_of c.args.objects.now.by_id (entries_in c.args.entries.now) c.args.roots.now)) c.in-Program.is c.requires.fits in
    program_state c.args.objects.now.by_id (entries_in c.args.entries.now) (entries_in c.exchange_prog.new.entries) c.args.roots.now c.turn-in-Program.new.self c.in-Program.prog c.in-Program.entry c.in-Program.pin
    place.0 c.turn-in-Program.ensures.roots c.exchange_prog.ensures.puts
    ∙ ap (part_turned (state_of c.args.objects.now.by_id (entries_in c.args.entries.now) c.args.roots.now)) (sym c.in-Program.is)

pub returns-in-Program-clause-part : goal.returns-in-Program-clause-part
returns-in-Program-clause-part g c =
    let place = subst (FitsPlace (ready_of c.args.objects.now.by_id (entries_in c.args.entries.now) c.args.roots.now) (state_of c.args.objects.now.by_id (entries_in c.args.entries.now) c.args.roots.now)) c.in-Program.is c.requires.fits in
    program_undoing c.args.objects.now.by_id (entries_in c.args.entries.now) (entries_in c.exchange_prog.new.entries) c.args.roots.now c.turn-in-Program.new.self c.in-Program.prog c.in-Program.entry c.in-Program.pin
    place.0 c.turn-in-Program.ensures.roots c.exchange_prog.ensures.puts
    c.exchange_prog.new.prog c.turn-in-Program.new.back c.exchange_prog.ensures.before c.turn-in-Program.ensures.back
    ∙ ap (part_back (state_of c.args.objects.now.by_id (entries_in c.args.entries.now) c.args.roots.now)) (sym c.in-Program.is)

pub returns-in-Program-clause-ready : goal.returns-in-Program-clause-ready
returns-in-Program-clause-ready g c =
    let place = subst (FitsPlace (ready_of c.args.objects.now.by_id (entries_in c.args.entries.now) c.args.roots.now) (state_of c.args.objects.now.by_id (entries_in c.args.entries.now) c.args.roots.now)) c.in-Program.is c.requires.fits in
    program_ready c.args.objects.now.by_id (entries_in c.args.entries.now) (entries_in c.exchange_prog.new.entries) c.args.roots.now c.turn-in-Program.new.self c.in-Program.prog c.in-Program.entry c.in-Program.pin
    place.0 c.turn-in-Program.ensures.roots c.exchange_prog.ensures.puts

pub returns-in-Pinned-clause-state : goal.returns-in-Pinned-clause-state
returns-in-Pinned-clause-state g c =
    pinned_state c.args.objects.now.by_id (entries_in c.args.entries.now) c.args.roots.now c.turn-in-Pinned.new.self c.in-Pinned.pin c.turn-in-Pinned.ensures.roots ∙ ap (part_turned (state_of c.args.objects.now.by_id (entries_in c.args.entries.now) c.args.roots.now)) (sym c.in-Pinned.is)

pub returns-in-Pinned-clause-part : goal.returns-in-Pinned-clause-part
returns-in-Pinned-clause-part g c =
    pinned_undoing c.args.objects.now.by_id (entries_in c.args.entries.now) c.args.roots.now c.turn-in-Pinned.new.self c.in-Pinned.pin c.turn-in-Pinned.ensures.roots c.turn-in-Pinned.new.back c.turn-in-Pinned.ensures.back ∙ ap (part_back (state_of c.args.objects.now.by_id (entries_in c.args.entries.now) c.args.roots.now)) (sym c.in-Pinned.is)

pub returns-in-Pinned-clause-ready : goal.returns-in-Pinned-clause-ready
returns-in-Pinned-clause-ready g c =
    pinned_ready c.args.objects.now.by_id (entries_in c.args.entries.now) c.args.roots.now c.turn-in-Pinned.new.self c.in-Pinned.pin c.turn-in-Pinned.ensures.roots
