use Rattle.std.proofs.Common.{List, ℕ, rules, subst, arith}
use Rattle.console_input.specs.Named.{Adds, IsNamedIn, AddsFiles, IsAtHand}
use Rattle.console_input.proofs.NamedFiles.{deeper_named, files_more, files_done}
use Rattle.console_input.proofs.named.read_deeper.Goals as goal

pub loop-file-preserved : goal.loop-file-preserved
loop-file-preserved g c =
    let first = c.args.first.now in
    let old = c.loop-file.deeper.items in
    let new = c.add_named.new.files.items in
    record {
      left = c.in_ok-left.ensures.left;
      named = deeper_named first c.loop-file.file-index c.file-item.result old new (search rules) (search rules)
          (subst (λ (text : List ℕ). Adds (IsNamedIn text) old new) c.as_slice.ensures.value c.in_ok-left.ensures.named) c.loop-file.invariant.named;
      whole = files_more (IsAtHand (g.R.FileReader.may_read c.args.rt.now)) first old new c.loop-file.file-index c.file-item.result (search rules) c.file-item.is c.loop-file.invariant.whole
          (subst (λ (text : List ℕ). AddsFiles (IsAtHand (g.R.FileReader.may_read c.args.rt.now)) first text old new) c.as_slice.ensures.value c.in_ok-left.ensures.whole);
    }

pub returns-clause-whole : goal.returns-clause-whole
returns-clause-whole g c = files_done (IsAtHand (g.R.FileReader.may_read c.args.rt.now)) c.args.first.now c.loop-file.deeper.items c.loop-file.file-index (omega arith) c.loop-file.invariant.whole
