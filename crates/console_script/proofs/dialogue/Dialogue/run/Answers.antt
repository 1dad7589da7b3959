use Rattle.std.proofs.Common.{◌≡◌, None, ◌∷◌, sym, ◌∙◌, ap, subst}
use Rattle.console_script.specs.Frames.{console_of}
use Rattle.console_script.specs.declared.tally.Tally.{Tally}
use Rattle.console_script.specs.Dialogue.{DialogueView}
use Rattle.console_script.specs.Running.{LeadsOn}
use Rattle.console_script.specs.Tallies.{fresh}
use Rattle.console_script.specs.Transcript.{session_of}
use Rattle.console_script.proofs.StepRuns.{leads_one, wordless_line}
use Rattle.console_text.proofs.Writing.{Appends-nil}
use Rattle.console_script.proofs.dialogue.Dialogue.run.Goals as goal

pub returns-then-has_no_words-clause-leads : goal.returns-then-has_no_words-clause-leads
returns-then-has_no_words-clause-leads g c = λ left.
    let here = console_of c.args.book.now.plain c.args.self.now.runs in
    let summary = c.args.self.now.summary in
    let files = c.args.files.now in
    let supply = c.args.supply.now in
    let old = g.W.Output.contents c.args.out.now in
    let s = session_of here summary (c.args.line.now ∷ left) None in
    let is : c.fresh.result ≡ fresh summary = c.fresh.ensures ∙ ap (λ (d : DialogueView). fresh d.summary) c.self.view_is in
    subst (λ (x : Tally). LeadsOn g.S.Supply.gives g.K.MapKind.seen files supply s old supply (session_of here x.summary left None) old x.mishap) (sym is)
    (leads_one g.S.Supply.gives g.K.MapKind.seen files supply supply s (session_of here summary left None) None old old
    (wordless_line g.S.Supply.gives g.K.MapKind.seen files supply here summary left c.args.line.now (c.has_no_words.ensures c.if-has_no_words.true)) (Appends-nil old))
