use Rattle.std.proofs.Common.{◌≡◌, ◌<◌, List, [], Option, None, length, get_or, sym, ap, ◌∙◌, arith, rules}
use Rattle.std.proofs.lemmas.Grind.{common_steps}
use Rattle.program_machine.specs.Held.{Held}
use Rattle.program_machine.specs.Places.{kept_by, kept_in}
use Rattle.program_machine.specs.declared.key.Key.{Key}
use Rattle.program_machine.specs.declared.kind.Kind.{Kind}
use Rattle.program_machine.proofs.Pairs.{kept_there}
use Rattle.program_machine.proofs.spilled.Spilled.get.Goals as goal

pub returns-in-None : goal.returns-in-None
returns-in-None c =
    let kinds : c.args.word < length c.self.inside.kinds = grind (arith, common_steps) in
    let keys : c.args.word < length c.self.inside.keys = grind (arith, common_steps) in
    let none : get_or c.self.inside.kinds c.args.word None ≡ None = search rules in
    let key : Key = get_or c.self.inside.keys c.args.word (record { size = 0; bytes = [] }) in
    sym (ap (λ (kind : Option Kind). kept_by kind key) none)
    ∙ sym (kept_there c.self.inside.kinds c.self.inside.keys c.args.word kinds keys)
    ∙ ap (λ (values : List (Option Held)). kept_in values c.args.word) c.self.view_is
