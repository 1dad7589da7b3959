-- Exchanges of different keys are of different places.
use Rattle.std.proofs.Common.{◌≡◌, ℕ, true, ◌&&◌, ◌==◌, List, [], length, Option, Some, None, sym, ap, ◌∙◌, arith}
use Rattle.std.proofs.lemmas.Bool.Decides.{nat_tests}
use Rattle.bt_mapkind.specs.declared.attr.MapAttr.{MapAttr}
use Rattle.bt_mapkind.specs.declared.attr.MapType.{MapType}
use Rattle.bt_mapkind.specs.declared.attr.MapType.TheVariants.{Array, Hash, LpmTrie, Queue, Stack, ArrayOfMaps, ProgArray, HashOfMaps}
use Rattle.bt_mapkind.specs.declared.exchange.Back.TheVariants.{Key}
use Rattle.bt_mapkind.specs.Attributes.{good, suits_type, is_within}
use Rattle.bt_mapkind.specs.Bytes.{AreBytes}
use Rattle.bt_mapkind.specs.Contents.{Contents as Held, Values, Entries, Items, Slots, Links}
use Rattle.bt_mapkind.specs.Exchange.{exchange_fits, is_address}
use Rattle.bt_mapkind.specs.Sizes.{key_fits, value_fits, pair_fits}
use Rattle.bt_mapkind.specs.Well.{IsWell, OfValues, shape_of_type}
use Rattle.bt_mapkind.proofs.Stays.{both_true, no_fit, key_size_of}
use Rattle.map_laws.proofs.Bounded.{index_of_one}
use Rattle.map_laws.specs.Place.{Place, AtIndex, AtKey, Whole, Nowhere, place_in}

-- a key of an exchange that fits has the size of the map's keys
pub key_of_fit : (a : MapAttr) (c : Held) (key : List ℕ) (value : Option (List ℕ)) → exchange_fits a c (Key key value) ≡ true → length key ≡ a.key_size
key_of_fit a (Values vs) key None fits = no_fit fits
key_of_fit a (Values vs) key (Some value) fits = key_size_of a key (both_true (key_fits a key) (value_fits a value) (both_true (pair_fits a key value) _ fits).0).0
key_of_fit a (Entries m) key None fits = key_size_of a key (both_true (key_fits a key) (is_address a key) fits).0
key_of_fit a (Entries m) key (Some value) fits =
    key_size_of a key (both_true (key_fits a key) (value_fits a value) (both_true (pair_fits a key value) (is_address a key) (both_true (pair_fits a key value && is_address a key) _ fits).0).0).0
key_of_fit a (Items xs) key value fits = no_fit fits
key_of_fit a (Slots ls) key value fits = no_fit fits
key_of_fit a (Links m) key value fits = no_fit fits

-- the keys of an array have four bytes
four_long : (a : MapAttr) → good a ≡ true → shape_of_type a.kind ≡ OfValues → a.key_size ≡ 4
four_long a fine shape = by a.kind shape (both_true (is_within 1 256 a.value_size && is_within 1 65536 a.max_entries) (suits_type a.kind a.key_size a.value_size a.flags) fine).1
  where
    by : (kind : MapType) → shape_of_type kind ≡ OfValues → suits_type kind a.key_size a.value_size a.flags ≡ true → a.key_size ≡ 4
    by Array shape e = let p = both_true (a.key_size == 4) (a.flags == 0) e in grind (arith, nat_tests, p.0)
    by Hash shape e = cc
    by LpmTrie shape e = cc
    by Queue shape e = cc
    by Stack shape e = cc
    by ArrayOfMaps shape e = cc
    by ProgArray shape e = cc
    by HashOfMaps shape e = cc

abbrev index_at : Place → ℕ
index_at (AtIndex n) = n
index_at (AtKey key) = 0
index_at Whole = 0
index_at Nowhere = 0

abbrev key_at : Place → List ℕ
key_at (AtIndex n) = []
key_at (AtKey key) = key
key_at Whole = []
key_at Nowhere = []

-- exchanges of one place are of one key
pub same_place : (a : MapAttr) (c : Held) (key other : List ℕ) (x : Option (List ℕ)) → IsWell a c → good a ≡ true → exchange_fits a c (Key key x) ≡ true → length other ≡ a.key_size → AreBytes key → AreBytes other
    → place_in (shape_of_type a.kind) key ≡ place_in (shape_of_type a.kind) other → key ≡ other
same_place a (Values vs) key other x w fine fits long bytes others same =
    let four = four_long a fine w.shape in
    index_of_one key other bytes others (key_of_fit a (Values vs) key x fits ∙ four) (long ∙ four)
    (ap index_at (sym (ap (λ s. place_in s key) w.shape) ∙ same ∙ ap (λ s. place_in s other) w.shape))
same_place a (Entries m) key other x w fine fits long bytes others same = ap key_at (sym (ap (λ s. place_in s key) w.shape) ∙ same ∙ ap (λ s. place_in s other) w.shape)
same_place a (Items xs) key other x w fine fits long bytes others same = no_fit fits
same_place a (Slots ls) key other x w fine fits long bytes others same = no_fit fits
same_place a (Links m) key other x w fine fits long bytes others same = no_fit fits
