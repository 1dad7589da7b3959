use Rattle.std.proofs.Common.{◌≡◌, ℕ, Bool, true, false, if◌then◌else◌, Option, Some, Result, Err, sym, ap, ◌∙◌}
use Rattle.console_answer.specs.declared.fault.Fault.{Fault}
use Rattle.console_answer.specs.declared.fault.Fault.TheVariants.{NoMemory}
use Rattle.console_reference.specs.declared.reference.FoundMap.{FoundMap}
use Rattle.console_reference.specs.References.{map_named, template_of, template_named}
use Rattle.console_reference.proofs.reference.find_template.Goals as goal

-- a template is told as its map is
told : (refused : Bool) (does result : Result FoundMap Fault) → result ≡ (if refused then Err NoMemory else does) → template_of result ≡ (if refused then Err NoMemory else template_of does)
told true does result is = ap template_of is
told false does result is = ap template_of is

pub returns-in-Some-clause-found : goal.returns-in-Some-clause-found
returns-in-Some-clause-found g c =
    let found = c.find_map.ensures.found in
    let named = map_named c.args.book.now.plain c.in-Some.map in (
      found.0,
      c.template_of.ensures ∙ told found.0 named c.find_map.result found.1
          ∙ ap (λ (o : Option _). if found.0 then Err NoMemory else template_named c.args.book.now.plain o) (sym c.in-Some.is),
    )
