use Rattle.std.proofs.Common.{ap, ap₂, ◌∙◌}
use Rattle.kept_event.specs.declared.row.Row.{Row}
use Rattle.kept_event.specs.Reading.{event_by, read_with}
use Rattle.kept_event.proofs.ReadBack.{back, loaded}
use Rattle.kept_event.proofs.read.event_in.Goals as goal

pub returns-clause-back : goal.returns-clause-back
returns-clause-back c event bounded is =
    let row = c.args.row.now in
    let code = c.in_ok-code.code in
    c.event_by.ensures ∙ ap₂ (λ name path. event_by row.verb row name path code) c.in_ok-name.ensures c.in_ok-path.ensures ∙ ap (read_with code) is
    ∙ back event code bounded (λ own found. let its = loaded event own found bounded in
    c.in_ok-code.ensures own its.0 (ap (λ (r : Row). r.code) is ∙ its.1) (ap (λ (r : Row). r.value) is ∙ its.2))

pub returns-clause-columns : goal.returns-clause-columns
returns-clause-columns c =
    let row = c.args.row.now in
    let code = c.in_ok-code.code in
    (code, c.event_by.ensures ∙ ap₂ (λ name path. event_by row.verb row name path code) c.in_ok-name.ensures c.in_ok-path.ensures)
