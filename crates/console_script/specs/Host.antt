-- The host of the program.
use Rattle.std.specs.Prelude.{ℕ, ◌^◌, ◌-◌, codes, List, [], ◌∷◌}
use Rattle.journal_model.specs.declared.limits.Limits.{Limits}

abbrev pub device_names : List (List ℕ)
device_names = codes "eth0" ∷ codes "eth1" ∷ []

-- the limits of a host whose journal keeps so many moments
abbrev pub limits_of : ℕ → Limits
limits_of moments = record { journal = moments; budget = 67108864; last_id = 2 ^ 32 - 1; last_serial = 2 ^ 64 - 1 }

abbrev pub limits : Limits
limits = limits_of 65536
