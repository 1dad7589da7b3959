-- What is shown of the live maps and programs of a world, from its entries in their order.
use Rattle.std.proofs.Common.{◌≡◌, ℕ, Bool, true, false, List, [], ◌∷◌, ◌++◌, map as each, Option, Some, None, cond, refl, sym, ap, ◌∙◌, append-nil as append_nil}
use Rattle.std.specs.Option.{option_map, option_to_list}
use Rattle.std.specs.List.{filter, flat_map}
use Rattle.std.specs.List.Sorted.{IsStrictlySortedBy}
use Rattle.std.specs.Map.{keys_of}
use Rattle.std.specs.Ordering.{nat_cmp}
use Rattle.std.specs.FinMap as map
use Rattle.bt_mapkind.specs.Seen.{Seen}
use Rattle.host_state.specs.declared.entry.MapEntry.{MapEntry}
use Rattle.host_state.specs.declared.shown.MapRow.{MapRow}
use Rattle.host_state.specs.declared.shown.ProgRow.{ProgRow}
use Rattle.bt_objects.specs.ById.{ById}
use Rattle.host_state.specs.State.{HostMap, HostProg}
use Rattle.host_state.specs.Act.{if_live}
use Rattle.host_state.specs.Ask.{row_of, rows_of, prog_row, prog_rows, if_live_prog, shown_as}
use Rattle.host_state.specs.declared.shown.Element.{Element}
use Rattle.host_retirement.specs.Gathered.{element_at, id_under}
use Rattle.host_state.specs.Hosts.{Entries, Table, host_of, hosts_of, progs_of}
use Rattle.host_retirement.proofs.EntryLemmas.{host_at, hosts_listed, listed, prog_itself, progs_listed, with_id}

-- the row of what is there, if anything is
abbrev rows_if : ℕ → Option HostMap → List MapRow
rows_if id found = option_to_list (option_map (λ (m : HostMap). row_of (id, m)) found)

abbrev prog_rows_if : ℕ → Option HostProg → List ProgRow
prog_rows_if id found = option_to_list (option_map (λ (p : HostProg). prog_row (id, p)) found)

abbrev pub rows_at : ById Seen → ℕ → Option MapEntry → List MapRow
rows_at boxes id entry = rows_if id (if_live (host_of (map.get boxes id) entry))

abbrev pub prog_rows_at : ℕ → Option HostProg → List ProgRow
prog_rows_at id prog = prog_rows_if id (if_live_prog prog)

-- the rows of the live ones
abbrev shown : List (ℕ × HostMap) → List MapRow
shown hosts = each row_of (filter (λ (e : ℕ × HostMap). e.1.live) hosts)

abbrev pub rows_in : ById Seen → Table MapEntry → List MapRow
rows_in boxes es = flat_map (λ (e : ℕ × Option MapEntry). rows_at boxes e.0 e.1) es

rows_listed : (boxes : ById Seen) (es : Table MapEntry) → shown (listed (host_at boxes) es) ≡ rows_in boxes es
rows_listed boxes [] = refl
rows_listed boxes (e ∷ es) = here (host_of (map.get boxes e.0) e.1) (rows_listed boxes es)
  where
    by_live : (m : HostMap) (live : Bool) → shown (listed (host_at boxes) es) ≡ rows_in boxes es
        → each row_of (cond live ((e.0, m) ∷ filter (λ (e : ℕ × HostMap). e.1.live) (listed (host_at boxes) es)) (filter (λ (e : ℕ × HostMap). e.1.live) (listed (host_at boxes) es)))
        ≡ rows_if e.0 (cond live (Some m) None) ++ rows_in boxes es
    by_live m true rest = ap (λ rows. row_of (e.0, m) ∷ rows) rest
    by_live m false rest = rest

    here : (o : Option HostMap) → shown (listed (host_at boxes) es) ≡ rows_in boxes es → shown (with_id e.0 o ++ listed (host_at boxes) es) ≡ rows_if e.0 (if_live o) ++ rows_in boxes es
    here None rest = rest
    here (Some m) rest = by_live m m.live rest

pub all_shown : (boxes : ById Seen) (entries : Entries) → IsStrictlySortedBy nat_cmp (keys_of entries.maps) → rows_in boxes entries.maps ≡ rows_of (hosts_of boxes entries)
all_shown boxes entries h = sym (ap shown (hosts_listed boxes entries h) ∙ rows_listed boxes entries.maps)

pub rows_left : (boxes : ById Seen) (rows : List MapRow) (rest es : Table MapEntry) → rest ≡ [] → rows ++ rows_in boxes rest ≡ rows_in boxes es → rows ≡ rows_in boxes es
rows_left boxes rows rest es none e = sym (append_nil rows) ∙ ap (λ r. rows ++ rows_in boxes r) (sym none) ∙ e

-- the same of programs
abbrev progs_shown : List (ℕ × HostProg) → List ProgRow
progs_shown progs = each prog_row (filter (λ (e : ℕ × HostProg). e.1.live) progs)

abbrev pub prog_rows_in : Table HostProg → List ProgRow
prog_rows_in es = flat_map (λ (e : ℕ × Option HostProg). prog_rows_at e.0 e.1) es

prog_rows_listed : (es : Table HostProg) → progs_shown (listed prog_itself es) ≡ prog_rows_in es
prog_rows_listed [] = refl
prog_rows_listed (e ∷ es) = here e.1 (prog_rows_listed es)
  where
    by_live : (p : HostProg) (live : Bool) → progs_shown (listed prog_itself es) ≡ prog_rows_in es
        → each prog_row (cond live ((e.0, p) ∷ filter (λ (e : ℕ × HostProg). e.1.live) (listed prog_itself es)) (filter (λ (e : ℕ × HostProg). e.1.live) (listed prog_itself es)))
        ≡ prog_rows_if e.0 (cond live (Some p) None) ++ prog_rows_in es
    by_live p true rest = ap (λ rows. prog_row (e.0, p) ∷ rows) rest
    by_live p false rest = rest

    here : (o : Option HostProg) → progs_shown (listed prog_itself es) ≡ prog_rows_in es → progs_shown (with_id e.0 o ++ listed prog_itself es) ≡ prog_rows_if e.0 (if_live_prog o) ++ prog_rows_in es
    here None rest = rest
    here (Some p) rest = by_live p p.live rest

pub all_progs_shown : (entries : Entries) → IsStrictlySortedBy nat_cmp (keys_of entries.progs) → prog_rows_in entries.progs ≡ prog_rows (progs_of entries)
all_progs_shown entries h = sym (ap progs_shown (progs_listed entries h) ∙ prog_rows_listed entries.progs)

pub prog_rows_left : (rows : List ProgRow) (rest es : Table HostProg) → rest ≡ [] → rows ++ prog_rows_in rest ≡ prog_rows_in es → rows ≡ prog_rows_in es
prog_rows_left rows rest es none e = sym (append_nil rows) ∙ ap (λ r. rows ++ prog_rows_in r) (sym none) ∙ e

-- what is shown of the element of a box of this number
abbrev pub shown_at : Option Seen → ℕ → Option Element
shown_at box n = shown_as (id_under box) (element_at box n)
