use Rattle.std.proofs.Common.{false, refl, ◌∙◌, ap, length, take, drop, arith, Some, deque_capacity, map as each}
use Rattle.journal_moments.specs.View.{LineView}
use Rattle.journal_moments.specs.Held.{Held, held}
use Rattle.journal_timeline.specs.Staged.{staged}
use Rattle.journal_timeline.specs.StageHeld.{StageHeld, stage_held}
use Rattle.journal_moments.proofs.HeldLemmas.{SameLine, Sound-same, pasts_of-same}
use Rattle.journal_moments.proofs.StandingLemmas.{within}
use Rattle.journal_timeline.proofs.BeginLemmas.{Begins, SoundStage-begin, staged_of-begin}
use Rattle.journal_moments.specs.Lowered.{lowered}
use Rattle.journal_timeline.proofs.stage.LineStage.new.Goals as goal

pub invariant_of-line : goal.invariant_of-line
invariant_of-line g c =
    let i = c.line.inside in
    let a : Held = held i.world i.records.items (deque_capacity i.records) i.moments.items i.standing i.gone in
    let b : Held = held i.world c.make_room.new.records.items (deque_capacity c.make_room.new.records) c.make_room.new.moments.items i.standing i.gone in
    let e = c.make_room.ensures in
    let same : SameLine a b = record { state = refl; ready = refl; records = e.records; moments = ap (λ xs. each (lowered i.gone) (take i.standing xs)) e.moments; undone = ap (λ xs. each (lowered i.gone) (drop i.standing xs)) e.moments; records_room = e.records_kept; standing = refl } in
    Sound-same a b c.line.invariant same

pub returns-in-Err-make_room : goal.returns-in-Err-make_room
returns-in-Err-make_room g c =
    let i = c.line.inside in
    let a : Held = held i.world i.records.items (deque_capacity i.records) i.moments.items i.standing i.gone in
    let b : Held = held i.world c.make_room.new.records.items (deque_capacity c.make_room.new.records) c.make_room.new.moments.items i.standing i.gone in
    let e = c.make_room.ensures in
    let same : SameLine a b = record { state = refl; ready = refl; records = e.records; moments = ap (λ xs. each (lowered i.gone) (take i.standing xs)) e.moments; undone = ap (λ xs. each (lowered i.gone) (drop i.standing xs)) e.moments; records_room = e.records_kept; standing = refl } in
    ap (λ p. let v : LineView = record { pasts = p; makes = i.world.ready.makes; work = i.world.work } in v) (pasts_of-same a b c.line.invariant same) ∙ c.line.view_is

pub invariant_of-result : goal.invariant_of-result
invariant_of-result g c =
    let i = c.line.inside in
    let a : Held = held i.world i.records.items (deque_capacity i.records) i.moments.items i.standing i.gone in
    let b : StageHeld = stage_held i.world c.make_room.new.records.items (deque_capacity c.make_room.new.records) c.in-Ok.pending.value c.in-Ok-of_one.short.value c.args.serial false 0 c.make_room.new.moments.items (deque_capacity c.make_room.new.moments) i.standing i.gone in
    let begins : Begins a b c.args.serial = record {
      world = refl;
      records = c.make_room.ensures.records;
      moments = ap (λ xs. each (lowered i.gone) (take i.standing xs)) c.make_room.ensures.moments;
      undone = ap (λ xs. each (lowered i.gone) (drop i.standing xs)) c.make_room.ensures.moments;
      room = c.make_room.ensures.records_kept;
      standing = refl;
      moments_room = omega (arith, c.in-Ok-make_room.ensures.moments_room, c.make_room.new.moments.ok.0, ap length c.make_room.ensures.moments, ap (λ xs. length (each (lowered i.gone) (take i.standing xs))) c.make_room.ensures.moments, within (lowered i.gone) i.standing i.moments.items c.line.invariant.counts, c.line.invariant.counts);
      serial_is = refl;
      pending_out = ap Some c.in-Ok.ensures.out_is;
      at = c.in-Ok.ensures.at_is ∙ c.len.ensures ∙ i.records.ok.0;
      other = c.in-Ok.ensures.other;
      stays = c.in-Ok.ensures.stays;
      short = record { out = ap Some c.in-Ok-of_one.ensures.out_is; other = c.in-Ok-of_one.ensures.other; empty = c.in-Ok-of_one.ensures.spare; room = c.in-Ok-of_one.ensures.room };
      other_room = omega (arith, c.in-Ok.ensures.other_room, c.len.ensures, i.records.ok.0);
      spare = c.in-Ok.ensures.spare;
      spare_room = omega (arith, c.in-Ok.ensures.spare_room, c.len.ensures, i.records.ok.0);
      out = refl;
      passed = refl;
    } in
    SoundStage-begin a b c.args.serial c.line.invariant begins

pub returns : goal.returns
returns g c =
    let i = c.line.inside in
    let a : Held = held i.world i.records.items (deque_capacity i.records) i.moments.items i.standing i.gone in
    let b : StageHeld = stage_held i.world c.make_room.new.records.items (deque_capacity c.make_room.new.records) c.in-Ok.pending.value c.in-Ok-of_one.short.value c.args.serial false 0 c.make_room.new.moments.items (deque_capacity c.make_room.new.moments) i.standing i.gone in
    let begins : Begins a b c.args.serial = record {
      world = refl;
      records = c.make_room.ensures.records;
      moments = ap (λ xs. each (lowered i.gone) (take i.standing xs)) c.make_room.ensures.moments;
      undone = ap (λ xs. each (lowered i.gone) (drop i.standing xs)) c.make_room.ensures.moments;
      room = c.make_room.ensures.records_kept;
      standing = refl;
      moments_room = omega (arith, c.in-Ok-make_room.ensures.moments_room, c.make_room.new.moments.ok.0, ap length c.make_room.ensures.moments, ap (λ xs. length (each (lowered i.gone) (take i.standing xs))) c.make_room.ensures.moments, within (lowered i.gone) i.standing i.moments.items c.line.invariant.counts, c.line.invariant.counts);
      serial_is = refl;
      pending_out = ap Some c.in-Ok.ensures.out_is;
      at = c.in-Ok.ensures.at_is ∙ c.len.ensures ∙ i.records.ok.0;
      other = c.in-Ok.ensures.other;
      stays = c.in-Ok.ensures.stays;
      short = record { out = ap Some c.in-Ok-of_one.ensures.out_is; other = c.in-Ok-of_one.ensures.other; empty = c.in-Ok-of_one.ensures.spare; room = c.in-Ok-of_one.ensures.room };
      other_room = omega (arith, c.in-Ok.ensures.other_room, c.len.ensures, i.records.ok.0);
      spare = c.in-Ok.ensures.spare;
      spare_room = omega (arith, c.in-Ok.ensures.spare_room, c.len.ensures, i.records.ok.0);
      out = refl;
      passed = refl;
    } in
    staged_of-begin a b c.args.serial c.line.invariant begins ∙ ap (λ l. staged l c.args.serial) c.line.view_is
