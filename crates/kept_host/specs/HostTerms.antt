-- What the program's host in a file begins with.
use Rattle.std.specs.Prelude.{◌^◌, ◌-◌}
use Rattle.journal_model.specs.declared.limits.Limits.{Limits}
use Rattle.kept_ledger.specs.TermsView.{PlainTerms}
use Rattle.console_script.specs.Host.{device_names, limits}

-- the limits of the program's host, but for the last serial: the greatest number of SQLite's integers
abbrev pub kept_limits : Limits
kept_limits = record limits { last_serial = 2 ^ 63 - 1 }

abbrev pub host_terms : PlainTerms
host_terms = record { devices = device_names; limits = kept_limits }
