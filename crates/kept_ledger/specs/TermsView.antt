-- What a kept book began with: its devices and its limits.
use Rattle.std.specs.Prelude.{ℕ, ◌^◌, ◌<◌, ◌&&◌, List, IsTrue, Option, Some, None, if◌then◌else◌, refl}
use Rattle.std.specs.Coded.{Coded, code_by, coded×, coded_ℕ, coded_list}
use Rattle.bt_roots.specs.View.{devices_are_good}
use Rattle.journal_model.specs.contracts.limits.Limits as limits
use Rattle.journal_model.specs.declared.limits.Limits.{Limits}
use Rattle.journal_model.specs.Book.{limits_are_good}

pub record PlainTerms : Type 0 where
  pub devices : List (List ℕ)
  pub limits : Limits

abbrev pub terms_code : Coded PlainTerms
terms_code = code_by (List (List ℕ) × Limits) (coded× (coded_list (coded_list coded_ℕ)) limits.the_row.coded) (λ t. (t.devices, t.limits)) (λ p. record { devices = p.0; limits = p.1 }) (λ _. refl)

-- a book can begin with them
abbrev pub AreGood : PlainTerms → Type 0
AreGood t = IsTrue (devices_are_good t.devices) × IsTrue (limits_are_good t.limits)

-- devices and limits as terms, if a book can begin with them
abbrev pub terms_of : List (List ℕ) → Limits → Option PlainTerms
terms_of devices limits = if devices_are_good devices && limits_are_good limits then Some (record { devices = devices; limits = limits }) else None

-- the numbers are of their types
pub record FitLimits (limits : Limits) : Type 0 where
  pub journal : limits.journal < 2 ^ 64
  pub budget : limits.budget < 2 ^ 64
  pub last_id : limits.last_id < 2 ^ 32
  pub last_serial : limits.last_serial < 2 ^ 64

pub record AreTerms (t : PlainTerms) : Type 0 where
  pub good : AreGood t
  pub fit : FitLimits t.limits
