-- Which live objects have a name.
use Rattle.std.specs.Prelude.{ℕ, List, [], ◌∷◌, filter, map as each}
use Rattle.std.specs.Str.{bytes_eq}
use Rattle.host_state.specs.declared.shown.MapRow.{MapRow}
use Rattle.host_state.specs.declared.shown.ProgRow.{ProgRow}
use Rattle.bt_changes.specs.declared.named.OfName.{OfName}
use Rattle.bt_changes.specs.declared.named.OfName.TheVariants.{Nothing, One, Several}

-- the only one of these ids, if there is just one
abbrev pub of_ids : List ℕ → OfName
of_ids [] = Nothing
of_ids (id ∷ []) = One id
of_ids (id ∷ other ∷ ids) = Several

-- with one more
abbrev pub with_one : OfName → ℕ → OfName
with_one Nothing id = One id
with_one (One other) id = Several
with_one Several id = Several

-- the ids of the maps shown that have this name
abbrev pub maps_of_name : List ℕ → List MapRow → List ℕ
maps_of_name name rows = each (λ row. row.id) (filter (λ row. bytes_eq row.name name) rows)

-- and of the programs
abbrev pub progs_of_name : List ℕ → List ProgRow → List ℕ
progs_of_name name rows = each (λ row. row.id) (filter (λ row. bytes_eq row.name name) rows)
