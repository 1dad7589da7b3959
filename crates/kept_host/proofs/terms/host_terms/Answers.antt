use Rattle.std.proofs.Common.{◌≡◌, List, ℕ, Some, sym, ◌∙◌}
use Rattle.std.specs.Prelude.{◌&&◌}
use Rattle.std.proofs.lemmas.Option.{cond_some}
use Rattle.bt_roots.specs.View.{devices_are_good}
use Rattle.journal_model.specs.Book.{limits_are_good}
use Rattle.journal_model.specs.declared.limits.Limits.{Limits}
use Rattle.kept_ledger.specs.TermsView.{PlainTerms, terms_of}
use Rattle.console_script.specs.Host.{device_names}
use Rattle.kept_host.specs.HostTerms.{kept_limits, host_terms}
use Rattle.kept_host.proofs.terms.host_terms.Goals as goal

terms_are : (devices : List (List ℕ)) (l : Limits) (t : PlainTerms) → devices ≡ device_names → l ≡ kept_limits → terms_of devices l ≡ Some t → t ≡ host_terms
terms_are devices l t names bounds is =
    let made : PlainTerms = record { devices = devices; limits = l } in
    let parts = cond_some (devices_are_good devices && limits_are_good l) made t is in
    sym parts.1 ∙ (λ i. record { devices = names i; limits = bounds i })

pub returns-in-Some : goal.returns-in-Some
returns-in-Some c = terms_are c.in-Ok.devices.items c.kept_limits.result c.in-Some.terms c.in-Ok.ensures.named c.kept_limits.ensures (sym c.in-Some.ensures)
