use Rattle.std.proofs.Common.{◌≡◌, ◌<◌, List, [], ◌∷◌, ◌++◌, length, map, drop, sym, ◌∙◌, subst, arith, rules}
use Rattle.std.proofs.lemmas.Bool.{eqb-false}
use Rattle.std.proofs.lemmas.Grind.{common_steps}
use Rattle.std.proofs.lemmas.List.Elements.{All-push, All-same}
use Rattle.thread_frames.specs.Faults.{IsShort}
use Rattle.thread_frames.specs.declared.frame.FrameIn.{FrameIn}
use Rattle.thread_capture.specs.Captures.{Stand, packet_of, IsOn}
use Rattle.thread_capture.proofs.Reading.{stand_push, too_many, none_first, too_long}
use Rattle.thread_capture.proofs.Short.{no_fault}
use Rattle.thread_capture.proofs.capture.frames_in.Goals as goal

pub returns-then-len-eq-MOST_FRAMES-clause-none : goal.returns-then-len-eq-MOST_FRAMES-clause-none
returns-then-len-eq-MOST_FRAMES-clause-none c = λ _ frames has.
    let some : 0 < length c.packets.rest.now = omega (arith, eqb-false (length c.packets.rest.now) 0 (sym c.is_empty.ensures ∙ c.packets-test.true)) in
    too_many c.args.bytes.now c.args.device.now c.in-Some.order (sym c.order_of.ensures ∙ c.in-Some.is) c.packets.frames.items c.packets.rest.now c.packets.invariant.stand
    some (search rules) frames has

pub returns-in_default-first_packet-clause-none : goal.returns-in_default-first_packet-clause-none
returns-in_default-first_packet-clause-none c = λ _ frames has.
    let some : 0 < length c.packets.rest.now = omega (arith, eqb-false (length c.packets.rest.now) 0 (sym c.is_empty.ensures ∙ c.packets-test.true)) in
    none_first c.args.bytes.now c.args.device.now c.in-Some.order (sym c.order_of.ensures ∙ c.in-Some.is) c.packets.frames.items c.packets.rest.now c.packets.invariant.stand
    some c.in_default-first_packet.ensures.none frames has

pub returns-in_err-frame-clause-none : goal.returns-in_err-frame-clause-none
returns-in_err-frame-clause-none c = λ bad frames has.
    too_long c.args.bytes.now c.args.device.now c.in-Some.order (sym c.order_of.ensures ∙ c.in-Some.is) c.packets.frames.items c.packets.rest.now c.packets.invariant.stand
    c.in-Some-first_packet.packet.now c.in-Some-first_packet.behind.now c.in-Some-first_packet.ensures.found (c.in_err-frame.ensures.long (search rules)) frames has

pub packets-preserved : goal.packets-preserved
packets-preserved c =
    let frame : FrameIn = c.in_ok-frame.frame in
    let frames : List FrameIn = c.packets.frames.items in
    let items : c.push.new.self.items ≡ frames ++ frame ∷ [] = grind (arith, common_steps) in
    let P : List FrameIn → Type 0 = λ it. Stand c.in-Some.order (drop 24 c.args.bytes.now) (map packet_of it) c.in-Some-first_packet.behind.now in
    record {
      stand = subst P (sym items) (stand_push c.in-Some.order (drop 24 c.args.bytes.now) frames c.packets.rest.now c.in-Some-first_packet.packet.now c.in-Some-first_packet.behind.now frame c.packets.invariant.stand c.in-Some-first_packet.ensures.found c.in_ok-frame.ensures.bytes);
      on = All-same (IsOn c.args.device.now) c.push.new.self.items (frames ++ frame ∷ []) items (All-push (IsOn c.args.device.now) frames frame c.packets.invariant.on c.in_ok-frame.ensures.on);
      few = omega (arith, c.packets.invariant.few);
      short = All-same IsShort c.push.new.self.items (frames ++ frame ∷ []) items (All-push IsShort frames frame c.packets.invariant.short c.in_ok-frame.ensures.short);
    }

pub returns-clause-good : goal.returns-clause-good
returns-clause-good c = no_fault c.packets.frames.items c.packets.invariant.few c.packets.invariant.short
