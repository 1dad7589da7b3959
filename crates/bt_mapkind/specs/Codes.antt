-- How what is seen of a map is told apart by a proof: each of its types has a code.
use Rattle.std.specs.Prelude.{◌≡◌, ℕ, zero, suc, List, Option, ◌⊎◌, refl, Bool}
use Rattle.std.specs.Coded.{Coded, code_by, coded×, coded⊎, coded_ℕ, coded_bool, coded_list, coded_option}
use Rattle.std.proofs.Common.{inl, inr}
use Rattle.std.specs.FinMap as map
use Rattle.bt_mapkind.specs.declared.attr.MapAttr.{MapAttr}
use Rattle.bt_mapkind.specs.declared.attr.MapType.{MapType}
use Rattle.bt_mapkind.specs.declared.attr.MapType.TheVariants.{Array, Hash, LpmTrie, Queue, Stack, ArrayOfMaps, ProgArray, HashOfMaps}
use Rattle.bt_mapkind.specs.Contents.{Contents, ByKey, Values, Entries, Items, Slots, Links}
use Rattle.bt_mapkind.specs.Seen.{Seen}

abbrev pub number_of_type : MapType → ℕ
number_of_type Array = 0
number_of_type Hash = 1
number_of_type LpmTrie = 2
number_of_type Queue = 3
number_of_type Stack = 4
number_of_type ArrayOfMaps = 5
number_of_type ProgArray = 6
number_of_type HashOfMaps = 7

abbrev pub type_of_number : ℕ → MapType
type_of_number zero = Array
type_of_number (suc zero) = Hash
type_of_number (suc (suc zero)) = LpmTrie
type_of_number (suc (suc (suc zero))) = Queue
type_of_number (suc (suc (suc (suc zero)))) = Stack
type_of_number (suc (suc (suc (suc (suc zero))))) = ArrayOfMaps
type_of_number (suc (suc (suc (suc (suc (suc zero)))))) = ProgArray
type_of_number _ = HashOfMaps

abbrev pub type_again : (kind : MapType) → type_of_number (number_of_type kind) ≡ kind
type_again Array = refl
type_again Hash = refl
type_again LpmTrie = refl
type_again Queue = refl
type_again Stack = refl
type_again ArrayOfMaps = refl
type_again ProgArray = refl
type_again HashOfMaps = refl

abbrev pub type_code : Coded MapType
type_code = code_by ℕ coded_ℕ number_of_type type_of_number type_again

abbrev pub attr_code : Coded MapAttr
attr_code =
    code_by (MapType × (ℕ × (ℕ × (ℕ × ℕ)))) (coded× type_code (coded× coded_ℕ (coded× coded_ℕ (coded× coded_ℕ coded_ℕ))))
    (λ a. (a.kind, (a.key_size, (a.value_size, (a.max_entries, a.flags)))))
    (λ p. record { kind = p.0; key_size = p.1.0; value_size = p.1.1.0; max_entries = p.1.1.1.0; flags = p.1.1.1.1 }) (λ _. refl)

abbrev pub bytes_code : Coded (List ℕ)
bytes_code = coded_list coded_ℕ

-- one of five shapes
abbrev pub Sum : Type 0
Sum = List (List ℕ) ⊎ (ByKey (List ℕ) ⊎ (List (List ℕ) ⊎ (List (Option ℕ) ⊎ ByKey ℕ)))

abbrev pub sum_of : Contents → Sum
sum_of (Values vs) = inl vs
sum_of (Entries m) = inr (inl m)
sum_of (Items xs) = inr (inr (inl xs))
sum_of (Slots ls) = inr (inr (inr (inl ls)))
sum_of (Links m) = inr (inr (inr (inr m)))

abbrev pub contents_of_sum : Sum → Contents
contents_of_sum (inl vs) = Values vs
contents_of_sum (inr (inl m)) = Entries m
contents_of_sum (inr (inr (inl xs))) = Items xs
contents_of_sum (inr (inr (inr (inl ls)))) = Slots ls
contents_of_sum (inr (inr (inr (inr m)))) = Links m

abbrev pub contents_again : (c : Contents) → contents_of_sum (sum_of c) ≡ c
contents_again (Values vs) = refl
contents_again (Entries m) = refl
contents_again (Items xs) = refl
contents_again (Slots ls) = refl
contents_again (Links m) = refl

abbrev pub contents_code : Coded Contents
contents_code =
    code_by Sum
    (coded⊎ (coded_list bytes_code) (coded⊎ (map.code bytes_code bytes_code) (coded⊎ (coded_list bytes_code) (coded⊎ (coded_list (coded_option coded_ℕ)) (map.code bytes_code coded_ℕ)))))
    sum_of contents_of_sum contents_again

abbrev pub seen_code : Coded Seen
seen_code =
    code_by (MapAttr × (Contents × (ℕ × Bool))) (coded× attr_code (coded× contents_code (coded× coded_ℕ coded_bool))) (λ s. (s.attr, (s.contents, (s.charge, s.roomy))))
    (λ p. record { attr = p.0; contents = p.1.0; charge = p.1.1.0; roomy = p.1.1.1 }) (λ _. refl)
