use Rattle.std.proofs.Common.{rules}
use Rattle.thread_frame_lines.proofs.Spelling.{too_many, no_frame}
use Rattle.thread_frame_lines.proofs.Short.{no_fault}
use Rattle.thread_frame_lines.proofs.lines.frames_in.Goals as goal

pub returns-then-len-eq-MOST_FRAMES-clause-none : goal.returns-then-len-eq-MOST_FRAMES-clause-none
returns-then-len-eq-MOST_FRAMES-clause-none c = λ _ frames spells.
    too_many c.args.text.now c.lines.frames.items c.lines.rest c.in-Some.lines _ _ c.lines.invariant.all c.in-Some.is c.cut.ensures.parts (search rules) frames spells

pub returns-in_err-frame-clause-none : goal.returns-in_err-frame-clause-none
returns-in_err-frame-clause-none c = λ bad frames spells.
    no_frame c.args.text.now c.lines.frames.items c.lines.rest c.in-Some.lines _ _ c.lines.invariant.all c.in-Some.is c.cut.ensures.parts (c.in_err-frame.ensures.none (search rules)) frames spells

pub returns-clause-good : goal.returns-clause-good
returns-clause-good c = no_fault c.lines.frames.items c.lines.invariant.few c.lines.invariant.short
