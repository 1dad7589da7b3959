-- The objects of a name, from the entries in their order.
use Rattle.std.proofs.Common.{◌≡◌, ℕ, Bool, true, false, List, [], ◌∷◌, ◌++◌, map as each, Option, Some, None, cond, refl, sym, ap, ◌∙◌, append-nil as append_nil}
use Rattle.std.specs.Prelude.{if◌then◌else◌}
use Rattle.std.specs.List.{filter, flat_map}
use Rattle.std.specs.Str.{bytes_eq}
use Rattle.bt_mapkind.specs.Seen.{Seen}
use Rattle.host_state.specs.declared.entry.MapEntry.{MapEntry}
use Rattle.host_state.specs.declared.shown.MapRow.{MapRow}
use Rattle.host_state.specs.declared.shown.ProgRow.{ProgRow}
use Rattle.host_state.specs.State.{HostProg}
use Rattle.bt_objects.specs.ById.{ById}
use Rattle.host_state.specs.Hosts.{Table}
use Rattle.bt_changes.specs.declared.named.OfName.{OfName}
use Rattle.bt_changes.specs.declared.named.OfName.TheVariants.{Nothing, One, Several}
use Rattle.bt_changes.specs.Named.{of_ids, with_one, maps_of_name, progs_of_name}
use Rattle.bt_changes.proofs.ShownLemmas.{rows_at, prog_rows_at, rows_in, prog_rows_in}

-- ---- one more after others
pub one_more : (ids : List ℕ) (id : ℕ) → with_one (of_ids ids) id ≡ of_ids (ids ++ id ∷ [])
one_more [] id = refl
one_more (a ∷ []) id = refl
one_more (a ∷ b ∷ ids) id = refl

-- ---- those of a name among more rows
maps_then : (name : List ℕ) (rows more : List MapRow) → maps_of_name name (rows ++ more) ≡ maps_of_name name rows ++ maps_of_name name more
maps_then name [] more = refl
maps_then name (row ∷ rows) more = by (bytes_eq row.name name) (maps_then name rows more)
  where
    by : (b : Bool) → maps_of_name name (rows ++ more) ≡ maps_of_name name rows ++ maps_of_name name more
        → each (λ (r : MapRow). r.id) (cond b (row ∷ filter (λ (r : MapRow). bytes_eq r.name name) (rows ++ more)) (filter (λ (r : MapRow). bytes_eq r.name name) (rows ++ more)))
        ≡ each (λ (r : MapRow). r.id) (cond b (row ∷ filter (λ (r : MapRow). bytes_eq r.name name) rows) (filter (λ (r : MapRow). bytes_eq r.name name) rows)) ++ maps_of_name name more
    by true rest = ap (λ ids. row.id ∷ ids) rest
    by false rest = rest

progs_then : (name : List ℕ) (rows more : List ProgRow) → progs_of_name name (rows ++ more) ≡ progs_of_name name rows ++ progs_of_name name more
progs_then name [] more = refl
progs_then name (row ∷ rows) more = by (bytes_eq row.name name) (progs_then name rows more)
  where
    by : (b : Bool) → progs_of_name name (rows ++ more) ≡ progs_of_name name rows ++ progs_of_name name more
        → each (λ (r : ProgRow). r.id) (cond b (row ∷ filter (λ (r : ProgRow). bytes_eq r.name name) (rows ++ more)) (filter (λ (r : ProgRow). bytes_eq r.name name) (rows ++ more)))
        ≡ each (λ (r : ProgRow). r.id) (cond b (row ∷ filter (λ (r : ProgRow). bytes_eq r.name name) rows) (filter (λ (r : ProgRow). bytes_eq r.name name) rows)) ++ progs_of_name name more
    by true rest = ap (λ ids. row.id ∷ ids) rest
    by false rest = rest

-- ---- what was found so far: it has the name among the entries that were passed
pub record HasFound (found : OfName) (left all : List ℕ) : Type 0 where
  pub before : List ℕ
  pub is : found ≡ of_ids before
  pub whole : before ++ left ≡ all

append_assoc : (a b c : List ℕ) → (a ++ b) ++ c ≡ a ++ (b ++ c)
append_assoc [] b c = refl
append_assoc (x ∷ a) b c = ap (λ ids. x ∷ ids) (append_assoc a b c)

pub none_yet : (all : List ℕ) → HasFound Nothing all all
none_yet all = record { before = []; is = refl; whole = refl }

-- one more entry, of which this tells whether it has the name
found_more : (found : OfName) (id : ℕ) (has : Bool) (here left all : List ℕ) → (if has then id ∷ [] else []) ≡ here → HasFound found (here ++ left) all → HasFound (if has then with_one found id else found) left all
found_more found id true here left all is it = record {
  before = it.before ++ id ∷ [];
  is = ap (λ (f : OfName). with_one f id) it.is ∙ one_more it.before id;
  whole = append_assoc it.before (id ∷ []) left ∙ ap (λ ids. it.before ++ (ids ++ left)) is ∙ it.whole;
}
found_more found id false here left all is it = record { before = it.before; is = it.is; whole = ap (λ ids. it.before ++ (ids ++ left)) is ∙ it.whole }

pub all_found : (found : OfName) (all : List ℕ) → HasFound found [] all → found ≡ of_ids all
all_found found all it = it.is ∙ ap of_ids (sym (append_nil it.before) ∙ it.whole)

pub map_more : (name : List ℕ) (boxes : ById Seen) (found : OfName) (id : ℕ) (entry : Option MapEntry) (has : Bool) (left : Table MapEntry) (all : List ℕ) → (if has then id ∷ [] else []) ≡ maps_of_name name (rows_at boxes id entry)
    → HasFound found (maps_of_name name (rows_in boxes ((id, entry) ∷ left))) all → HasFound (if has then with_one found id else found) (maps_of_name name (rows_in boxes left)) all
map_more name boxes found id entry has left all is it =
    found_more found id has (maps_of_name name (rows_at boxes id entry)) (maps_of_name name (rows_in boxes left)) all is
    (rw (maps_then name (rows_at boxes id entry) (rows_in boxes left)) at it)

pub prog_more : (name : List ℕ) (found : OfName) (id : ℕ) (prog : Option HostProg) (has : Bool) (left : Table HostProg) (all : List ℕ) → (if has then id ∷ [] else []) ≡ progs_of_name name (prog_rows_at id prog)
    → HasFound found (progs_of_name name (prog_rows_in ((id, prog) ∷ left))) all → HasFound (if has then with_one found id else found) (progs_of_name name (prog_rows_in left)) all
prog_more name found id prog has left all is it =
    found_more found id has (progs_of_name name (prog_rows_at id prog)) (progs_of_name name (prog_rows_in left)) all is
    (rw (progs_then name (prog_rows_at id prog) (prog_rows_in left)) at it)
