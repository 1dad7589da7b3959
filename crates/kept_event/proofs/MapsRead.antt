-- The bytes of maps read as those maps again.
use Rattle.std.proofs.Common.{◌≡◌, ℕ, ◌+◌, ◌-◌, take, ◌^◌, ◌<◌, ◌≤◌, nat_lt, false, List, [], ◌∷◌, ◌++◌, length, get_or, drop, append-nil, subst, Some, None, w32, refl, sym, ap, ◌∙◌, arith, length-append, append_assoc, rules}
use Rattle.std.specs.Int.{to_le_bytes, from_le_bytes}
use Rattle.std.proofs.lemmas.Bool.Decides.{nat_tests}
use Rattle.std.proofs.lemmas.Grind.{common_steps}
use Rattle.std.proofs.lemmas.List.{take_more}
use Rattle.std.proofs.lemmas.Nat.{from_le_bytes-to_le_bytes_4}
use Rattle.bt_mapkind.specs.declared.attr.MapAttr.{MapAttr}
use Rattle.bt_mapkind.specs.declared.attr.MapType.{MapType}
use Rattle.bt_mapkind.specs.declared.attr.MapType.TheVariants as type
use Rattle.bt_mapkind.specs.Codes.{number_of_type}
use Rattle.bt_mapkind.specs.Index.{index_of}
use Rattle.kept_event.specs.Maps.{map_bytes, maps_bytes, FitsMap, FitMaps, type_numbered, first_map}

abbrev pub Map : Type 0
Map = ℕ × MapAttr

-- ---- a number
four_of : (n : ℕ) (tail : List ℕ) → index_of (to_le_bytes w32 n ++ tail) ≡ from_le_bytes w32 (to_le_bytes w32 n)
unfolding index_of
four_of n tail = refl

number_back : (n : ℕ) (tail : List ℕ) → n < 2 ^ 32 → index_of (to_le_bytes w32 n ++ tail) ≡ n
number_back n tail small = four_of n tail ∙ from_le_bytes-to_le_bytes_4 n small

-- ---- a type
type_small : (kind : MapType) → number_of_type kind < 2 ^ 32
type_small type.Array = omega arith
type_small type.Hash = omega arith
type_small type.LpmTrie = omega arith
type_small type.Queue = omega arith
type_small type.Stack = omega arith
type_small type.ArrayOfMaps = omega arith
type_small type.ProgArray = omega arith
type_small type.HashOfMaps = omega arith

type_again : (kind : MapType) → type_numbered (number_of_type kind) ≡ Some kind
type_again type.Array = refl
type_again type.Hash = refl
type_again type.LpmTrie = refl
type_again type.Queue = refl
type_again type.Stack = refl
type_again type.ArrayOfMaps = refl
type_again type.ProgArray = refl
type_again type.HashOfMaps = refl

-- ---- a map
bytes_of_one : (m : Map) → length (map_bytes m) ≡ 24
bytes_of_one m = refl

long_enough : (m : Map) (rest : List ℕ) → nat_lt (length (map_bytes m ++ rest)) 24 ≡ false
long_enough m rest =
    let both : length (map_bytes m ++ rest) ≡ 24 + length rest = length-append (map_bytes m) rest ∙ ap (λ n. n + length rest) (bytes_of_one m) in
    rw both (grind (arith, nat_tests))

behind_first : (m : Map) (rest : List ℕ) → drop 24 (map_bytes m ++ rest) ≡ rest
behind_first m rest = refl

first_back : (m : Map) (rest : List ℕ) → FitsMap m → first_map (map_bytes m ++ rest) ≡ Some m
unfolding first_map
first_back m rest fits =
    let bytes = map_bytes m ++ rest in
    let id : index_of bytes ≡ m.0 = number_back m.0 _ fits.id in
    let kind : index_of (drop 4 bytes) ≡ number_of_type m.1.kind = number_back (number_of_type m.1.kind) _ (type_small m.1.kind) in
    let key : index_of (drop 8 bytes) ≡ m.1.key_size = number_back m.1.key_size _ fits.attr.key_size in
    let value : index_of (drop 12 bytes) ≡ m.1.value_size = number_back m.1.value_size _ fits.attr.value_size in
    let entries : index_of (drop 16 bytes) ≡ m.1.max_entries = number_back m.1.max_entries _ fits.attr.max_entries in
    let flags : index_of (drop 20 bytes) ≡ m.1.flags = number_back m.1.flags _ fits.attr.flags in
    rw (long_enough m rest, kind, type_again m.1.kind, id, key, value, entries, flags) refl

-- what stands past the end of a list
abbrev pub no_map : Map
no_map = (0, record { kind = type.Array; key_size = 0; value_size = 0; max_entries = 0; flags = 0 })

bytes_behind : (maps : List Map) (m : Map) → maps_bytes (maps ++ m ∷ []) ≡ maps_bytes maps ++ map_bytes m
bytes_behind [] m = append-nil (map_bytes m)
bytes_behind (first ∷ maps) m = ap (λ t. map_bytes first ++ t) (bytes_behind maps m) ∙ sym (append_assoc (map_bytes first) (maps_bytes maps) (map_bytes m))

fit_behind : (maps : List Map) (m : Map) → FitMaps maps → FitsMap m → FitMaps (maps ++ m ∷ [])
fit_behind [] m all one = (one, tt)
fit_behind (first ∷ maps) m all one = (all.0, fit_behind maps m all.1 one)

pub bytes_more : (maps : List Map) (k : ℕ) → k < length maps → maps_bytes (take (k + 1) maps) ≡ maps_bytes (take k maps) ++ map_bytes (get_or maps k no_map)
bytes_more maps k within = ap maps_bytes (take_more maps k no_map within) ∙ bytes_behind (take k maps) (get_or maps k no_map)

pub fit_more : (maps : List Map) (k : ℕ) → k < length maps → FitMaps (take k maps) → FitsMap (get_or maps k no_map) → FitMaps (take (k + 1) maps)
fit_more maps k within all one = subst FitMaps (sym (take_more maps k no_map within)) (fit_behind (take k maps) (get_or maps k no_map) all one)

-- what is after a position, as a slice
behind_place : (n : ℕ) (bytes : List ℕ) → take (length bytes - n) (drop n bytes) ≡ drop n bytes
behind_place n bytes = grind (arith, common_steps)

pub behind_is : (n : ℕ) (bytes cut : List ℕ) → cut ≡ take (length bytes - n) (drop n bytes) → cut ≡ drop n bytes
behind_is n bytes cut e = e ∙ behind_place n bytes

-- the map that six numbers are
pub first_found : (bytes : List ℕ) (id number key value entries flags : ℕ) (kind : MapType) → 24 ≤ length bytes → id ≡ index_of bytes → number ≡ index_of (take (length bytes - 4) (drop 4 bytes))
    → Some kind ≡ type_numbered number → key ≡ index_of (take (length bytes - 8) (drop 8 bytes)) → value ≡ index_of (take (length bytes - 12) (drop 12 bytes))
    → entries ≡ index_of (take (length bytes - 16) (drop 16 bytes)) → flags ≡ index_of (take (length bytes - 20) (drop 20 bytes))
    → Some (id, record { kind = kind; key_size = key; value_size = value; max_entries = entries; flags = flags }) ≡ first_map bytes
unfolding first_map
first_found bytes id number key value entries flags kind enough id_is number_is kind_is key_is value_is entries_is flags_is =
    let long : nat_lt (length bytes) 24 ≡ false = grind (arith, nat_tests) in
    let n : index_of (drop 4 bytes) ≡ number = sym (number_is ∙ ap index_of (behind_place 4 bytes)) in
    let k : index_of (drop 8 bytes) ≡ key = sym (key_is ∙ ap index_of (behind_place 8 bytes)) in
    let v : index_of (drop 12 bytes) ≡ value = sym (value_is ∙ ap index_of (behind_place 12 bytes)) in
    let e : index_of (drop 16 bytes) ≡ entries = sym (entries_is ∙ ap index_of (behind_place 16 bytes)) in
    let f : index_of (drop 20 bytes) ≡ flags = sym (flags_is ∙ ap index_of (behind_place 20 bytes)) in
    rw (long, n, sym kind_is, sym id_is, k, v, e, f) refl

-- ---- maps, of which some are read
pub record IsSplit (all done : List Map) (rest : List ℕ) : Type 0 where
  pub tail : List Map
  pub parts : all ≡ done ++ tail
  pub bytes : rest ≡ maps_bytes tail
  pub fits : FitMaps tail

-- the next of them
pub record Next (tail : List Map) (rest : List ℕ) : Type 0 where
  pub first : Map
  pub others : List Map
  pub is : tail ≡ first ∷ others
  pub found : first_map rest ≡ Some first
  pub behind : drop 24 rest ≡ maps_bytes others
  pub fits : FitMaps others

pub next : (tail : List Map) (rest : List ℕ) → rest ≡ maps_bytes tail → FitMaps tail → 0 < length rest → Next tail rest
next [] rest e fits some = absurd (omega (arith, some, ap length e))
next (m ∷ ms) rest e fits some = record {
  first = m;
  others = ms;
  is = refl;
  found = ap first_map e ∙ first_back m (maps_bytes ms) fits.0;
  behind = ap (drop 24) e ∙ behind_first m (maps_bytes ms);
  fits = fits.1;
}

pub none_left : (tail : List Map) → length (maps_bytes tail) ≡ 0 → tail ≡ []
none_left [] e = refl
none_left (m ∷ ms) e = absurd (omega (arith, e, bytes_of_one m, length-append (map_bytes m) (maps_bytes ms)))

pub one_more : (all done : List Map) (rest behind : List ℕ) (m : Map) → IsSplit all done rest → 0 < length rest → first_map rest ≡ Some m → behind ≡ drop 24 rest → IsSplit all (done ++ m ∷ []) behind
one_more all done rest behind m was some found cut =
    let n = next was.tail rest was.bytes was.fits some in
    let same : n.first ≡ m = cc in
    let assoc : done ++ m ∷ n.others ≡ (done ++ m ∷ []) ++ n.others = search (rules, append_assoc) in
    record { tail = n.others; parts = was.parts ∙ ap (λ t. done ++ t) (n.is ∙ ap (λ f. f ∷ n.others) same) ∙ assoc; bytes = cut ∙ n.behind; fits = n.fits }

pub all_read : (all done : List Map) (rest : List ℕ) → IsSplit all done rest → length rest ≡ 0 → done ≡ all
all_read all done rest was empty =
    let none : was.tail ≡ [] = none_left was.tail (sym (ap length was.bytes) ∙ empty) in
    let whole : done ++ [] ≡ done = search rules in
    sym (was.parts ∙ ap (λ t. done ++ t) none ∙ whole)

pub never_stuck : (all done : List Map) (rest : List ℕ) → IsSplit all done rest → 0 < length rest → first_map rest ≡ None → ⊥
never_stuck all done rest was some none = let n = next was.tail rest was.bytes was.fits some in let found = n.found in cc
