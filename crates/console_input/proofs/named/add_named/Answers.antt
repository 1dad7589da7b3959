use Rattle.std.proofs.Common.{◌∙◌, rules, subst, arith}
use Rattle.std.specs.Prelude.{Contains}
use Rattle.console_input.specs.Named.{IsAtHand}
use Rattle.console_input.proofs.NamedFiles.{adds_nothing, adds_more, paths_more, paths_done}
use Rattle.console_input.proofs.named.add_named.Goals as goal

pub loop-path-init : goal.loop-path-init
loop-path-init g c = record { left = c.requires; named = adds_nothing _ _; whole = search rules }

pub loop-path-preserved : goal.loop-path-preserved
loop-path-preserved g c =
    let paths = c.deref-path-items.result.now in
    let among : Contains c.in_ok-paths.paths.items c.path-item.result = (c.loop-path.path-index, search rules, search rules) in
    record {
      left = c.in_ok-left.ensures.left;
      named = adds_more c.args.text.now c.path-item.result c.args.files.now.items c.loop-path.files.items c.add.new.files.items c.in_ok-left.ensures.named
          (subst (λ paths. Contains paths c.path-item.result) c.in_ok-paths.ensures among) c.loop-path.invariant.named;
      whole = paths_more (IsAtHand (g.R.FileReader.may_read c.args.rt.now)) c.args.known.now c.args.files.now.items paths c.loop-path.files.items c.add.new.files.items c.loop-path.path-index c.path-item.result
          (search rules) c.path-item.is c.loop-path.invariant.whole c.in_ok-left.ensures.whole;
    }

pub returns-clause-whole : goal.returns-clause-whole
returns-clause-whole g c =
    paths_done (IsAtHand (g.R.FileReader.may_read c.args.rt.now)) c.args.known.now c.args.files.now.items c.deref-path-items.result.now c.args.text.now c.loop-path.files.items c.loop-path.path-index (omega arith) (c.deref-path-items.ensures.value ∙ c.in_ok-paths.ensures) c.loop-path.invariant.whole
