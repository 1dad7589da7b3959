use Rattle.std.proofs.Common.{◌≡◌, ◌-◌, ◌+◌, inl, refl, take, drop, map, rules, arith}
use Rattle.std.proofs.lemmas.Grind.{common_steps}
use Rattle.sqlite.specs.Held.{state}
use Rattle.kept_lines.specs.Kept.{IsOnDisk}
use Rattle.kept_host.proofs.Talking.{holds_so, holds_one}
use Rattle.thread_kept_frames.specs.Serving.{BeforeOrServed}
use Rattle.thread_kept_frames.specs.Portions.{content_of, flowing, BeforeOrBehind}
use Rattle.thread_kept_frames.proofs.Copying.{copies_good}
use Rattle.thread_kept_frames.proofs.PortionLemmas.{copies_next, before_or_behind, not_bad}
use Rattle.thread_kept_frames.proofs.live.portion.keep_next.Goals as goal

-- ---- there is no memory for the copies
pub returns-in-Err-clause-clean : goal.returns-in-Err-clause-clean
returns-in-Err-clause-clean g c clean = clean

pub returns-in-Err-clause-left : goal.returns-in-Err-clause-left
returns-in-Err-clause-left g c clean t on =
    holds_one t (BeforeOrBehind c.args.flow.now.frames.items c.args.flow.now.passes (flowing c.args.book.plain c.args.course)) (state g.D.Store c.args.conn.now) c.args.book.plain (inl refl) on.leaves

pub returns-in-Err-clause-good : goal.returns-in-Err-clause-good
returns-in-Err-clause-good g c good is = cc

-- ---- the portion is kept
pub returns-in-Ok-keep_portion-clause-served : goal.returns-in-Ok-keep_portion-clause-served
returns-in-Ok-keep_portion-clause-served g c = record {
  count = c.args.count;
  due = c.requires.due;
  frames = c.in-Ok.frames.items;
  copies = copies_next c.args.flow.now.frames.items c.as_slice-all.result.now c.in-Ok.frames.items c.args.course.next c.args.count c.as_slice-all.ensures.value c.in-Ok.ensures;
  ends = c.in-Ok-keep_portion.field-0.ends.items;
  served = c.in-Ok-keep_portion.ensures.served;
  comes = first_of (cc, search rules, grind (arith, common_steps));
}

pub returns-in-Ok-keep_portion-clause-clean : goal.returns-in-Ok-keep_portion-clause-clean
returns-in-Ok-keep_portion-clause-clean g c = c.keep_portion.ensures.clean

pub returns-in-Ok-keep_portion-clause-kept : goal.returns-in-Ok-keep_portion-clause-kept
returns-in-Ok-keep_portion-clause-kept g c = c.in-Ok-keep_portion.ensures.kept

pub returns-in-Ok-keep_portion-clause-good : goal.returns-in-Ok-keep_portion-clause-good
returns-in-Ok-keep_portion-clause-good g c good is = cc

-- ---- it is not
pub returns-in-Err-keep_portion-clause-clean : goal.returns-in-Err-keep_portion-clause-clean
returns-in-Err-keep_portion-clause-clean g c = c.keep_portion.ensures.clean

pub returns-in-Err-keep_portion-clause-left : goal.returns-in-Err-keep_portion-clause-left
returns-in-Err-keep_portion-clause-left g c clean t on =
    let all = c.args.flow.now.frames.items in
    let frames = c.in-Ok.frames.items in
    let b = c.args.book.plain in
    let copies : map content_of frames ≡ map content_of (take c.args.count (drop c.args.course.next all)) = first_of (search rules, grind (arith, common_steps)) in
    holds_so t (BeforeOrServed frames b) (BeforeOrBehind all c.args.flow.now.passes (flowing b c.args.course)) (state g.D.Store c.keep_portion.new.conn)
    (before_or_behind all frames c.args.flow.now.passes b c.args.course c.args.count c.requires.due copies) (c.keep_portion.ensures.left clean t on)

pub returns-in-Err-keep_portion-clause-good : goal.returns-in-Err-keep_portion-clause-good
returns-in-Err-keep_portion-clause-good g c good is =
    let all = c.args.flow.now.frames.items in
    let frames = c.in-Ok.frames.items in
    let b = c.args.book.plain in
    let copies : map content_of frames ≡ map content_of (take c.args.count (drop c.args.course.next all)) = first_of (search rules, grind (arith, common_steps)) in
    not_bad frames b (λ t. IsOnDisk t (state g.D.Store c.args.conn.now) b) (state g.D.Store c.keep_portion.new.conn) c.in-Err-keep_portion.fault
    (copies_good all frames c.args.course.next c.args.count good copies) c.in-Err-keep_portion.ensures.stops (cc)
