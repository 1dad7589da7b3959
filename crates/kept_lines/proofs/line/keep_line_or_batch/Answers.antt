use Rattle.std.proofs.Common.{None, Some, Ok, ◌∷◌, refl, sym, ◌∙◌, ap}
use Rattle.std.specs.Option.{option_map}
use Rattle.console_operand.specs.Line.{lines_of}
use Rattle.console_answer.specs.declared.answer.Answer.TheVariants.{Refused}
use Rattle.console_answer.specs.declared.fault.Fault.TheVariants.{NoFile}
use Rattle.console_script.specs.Frames.{console_of}
use Rattle.console_text.proofs.Writing.{Appends-nil}
use Rattle.console_script.specs.declared.tally.Tally.{Tally}
use Rattle.console_script.specs.Tallies.{fresh, tallied, tallied_told}
use Rattle.console_script.specs.Transcript.{batch_of, session_of}
use Rattle.console_script.proofs.Told.{told_tallies}
use Rattle.console_script.proofs.StepRuns.{leads_one, batch_begins, batch_missing, script_line}
use Rattle.kept_lines.proofs.Further.{one_leads, leads_after}
use Rattle.kept_lines.proofs.line.keep_line_or_batch.Goals as goal

pub returns-in_default-clause-leads : goal.returns-in_default-clause-leads
returns-in_default-clause-leads g c = λ left.
    let s = session_of (console_of c.args.book.now.plain c.args.runs.now) c.args.summary (c.args.line.now ∷ left) None in
    let then_c = console_of c.keep_line.new.book.plain c.keep_line.new.runs in
    let none = sym (ap (option_map (λ path. path.now)) c.in_default.is) ∙ c.batch_path.ensures in
    let it = c.in_ok-told.ensures.tells in
    one_leads g.S.Supply.gives g.K.MapKind.seen c.args.files.now c.args.supply.now c.keep_line.new.supply s c.args.group.now.text.items c.keep_line.new.group.text.items then_c left
    (tallied (fresh c.args.summary) it.answer) it.answer (Ok c.with_told.result)
    (script_line g.S.Supply.gives g.K.MapKind.seen c.args.files.now c.args.supply.now (console_of c.args.book.now.plain c.args.runs.now) c.args.summary left c.keep_line.new.supply c.args.line.now then_c it.answer it.right none)
    refl it.wrote (c.with_told.ensures ∙ ap (λ (t : Tally). tallied_told t c.in_ok-told.told) c.fresh.ensures ∙ ap (tallied_told (fresh c.args.summary)) it.tells ∙ told_tallies (fresh c.args.summary) it.answer)

pub returns-in-Some-file_at-clause-leads : goal.returns-in-Some-file_at-clause-leads
returns-in-Some-file_at-clause-leads g c = λ left.
    let here = console_of c.args.book.now.plain c.args.runs.now in
    let s = session_of here c.args.summary (c.args.line.now ∷ left) None in
    let m = session_of here c.args.summary left (Some (batch_of (lines_of c.in-Some-file_at.text.now))) in
    let old = c.args.group.now.text.items in
    let is = sym (ap (option_map (λ path. path.now)) c.in-Some.is) ∙ c.batch_path.ensures in
    let some = sym (ap (option_map (λ text. text.now)) c.in-Some-file_at.is) ∙ c.file_at.ensures in
    leads_after g.S.Supply.gives g.K.MapKind.seen c.args.files.now c.args.supply.now c.args.supply.now c.keep_batch.new.supply s m old old c.keep_batch.new.group.text.items
    (console_of c.keep_batch.new.book.plain c.keep_batch.new.runs) left c.keep_batch.result
    (leads_one g.S.Supply.gives g.K.MapKind.seen c.args.files.now c.args.supply.now c.args.supply.now s m None (Some old) (Some old)
    (batch_begins g.S.Supply.gives g.K.MapKind.seen c.args.files.now c.args.supply.now here c.args.summary left c.args.line.now c.in-Some.path.now c.in-Some-file_at.text.now is some) (Appends-nil (Some old)))
    (c.keep_batch.ensures.leads left)

pub returns-in-None-clause-leads : goal.returns-in-None-clause-leads
returns-in-None-clause-leads g c = λ left.
    let here = console_of c.args.book.now.plain c.args.runs.now in
    let s = session_of here c.args.summary (c.args.line.now ∷ left) None in
    let is = sym (ap (option_map (λ path. path.now)) c.in-Some.is) ∙ c.batch_path.ensures in
    let none = sym (ap (option_map (λ text. text.now)) c.in-None.is) ∙ c.file_at.ensures in
    one_leads g.S.Supply.gives g.K.MapKind.seen c.args.files.now c.args.supply.now c.args.supply.now s c.args.group.now.text.items c.tell.new.group.text.items here left
    (tallied (fresh c.args.summary) (Some (Refused NoFile))) (Some (Refused NoFile)) c.tell.result
    (batch_missing g.S.Supply.gives g.K.MapKind.seen c.args.files.now c.args.supply.now here c.args.summary left c.args.line.now c.in-Some.path.now is none)
    refl c.tell.ensures.text (rw c.fresh-in-None.ensures at c.tell.ensures.counts)
