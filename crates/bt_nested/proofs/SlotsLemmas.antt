-- Maps of an id or none by index: what a dump lists, and that a change or a turning follows the table.
use Rattle.std.proofs.Common.{◌≡◌, ℕ, ◌<◌, true, List, length, get_or, set, map, replicate, Option, None, option_map, IsTrue, nat_eq, refl, sym, ap, ap₂, subst, ◌∙◌, arith}
use Rattle.std.specs.List.{slice_get}
use Rattle.std.proofs.lemmas.Bool.Decides.{nat_tests}
use Rattle.std.proofs.lemmas.List.{length-replicate}
use Rattle.std.proofs.lemmas.Option.{slice_get-map, slice_get-get_or}
use Rattle.std.proofs.lemmas.Simd.{map-map}
use Rattle.bt_mapkind.specs.declared.attr.MapAttr.{MapAttr}
use Rattle.bt_mapkind.specs.declared.attr.MapType.{MapType}
use Rattle.bt_mapkind.specs.declared.exchange.Back.{Back}
use Rattle.bt_mapkind.specs.declared.exchange.Back.TheVariants.{Link}
use Rattle.bt_mapkind.specs.declared.request.MapReply.TheVariants.{Key}
use Rattle.bt_mapkind.specs.declared.attr.MapType.TheVariants.{Array, Hash, LpmTrie, Queue, Stack, ArrayOfMaps, ProgArray, HashOfMaps}
use Rattle.bt_mapkind.specs.Attributes.{charge_of, good, suits_type}
use Rattle.bt_mapkind.specs.Contents.{Contents, Slots, fresh, fresh_of_type}
use Rattle.bt_mapkind.specs.Index.{index_of}
use Rattle.bt_mapkind.specs.Read.{key_of_index, key_found, filled_keys}
use Rattle.bt_mapkind.specs.Well.{OfSlots, shape_of_type}
use Rattle.bt_mapkind.specs.Exchange.{exchanged, slots_fit}
use Rattle.bt_mapkind.specs.Laws.{IsTurnable}
use Rattle.bt_mapkind.specs.Answers.{IsTurned}
use Rattle.bt_mapkind.proofs.OfKinds.{replicate_of_all}
use Rattle.bt_mapkind.proofs.Stays.{stays, both_true}
use Rattle.bt_nested.specs.Filled.{filled}
use Rattle.bt_nested.specs.Held.{IsArrayOfIds}
use Rattle.bt_nested.proofs.FilledLemmas.{all_empty, none_filled}

-- ---- a dump
keys_of_filled : (ids : List (Option ℕ)) → filled_keys ids ≡ map key_of_index (filled ids)
keys_of_filled ids = sym (map-map key_of_index (λ (e : ℕ × Option ℕ). e.0) _)

pub item_seen : (ids : List (Option ℕ)) (key : List ℕ) (n index : ℕ) → n < length (filled ids) → index ≡ get_or (filled ids) n 0 → key ≡ key_of_index index → Key key ≡ key_found (slice_get (filled_keys ids) n)
item_seen ids key n index within is same =
    sym (ap (λ l. key_found (slice_get l n)) (keys_of_filled ids)
    ∙ ap key_found (slice_get-map key_of_index (filled ids) n)
    ∙ ap (λ o. key_found (option_map key_of_index o)) (slice_get-get_or (filled ids) n 0 within)
    ∙ ap Key (ap key_of_index (sym is) ∙ sym same))

-- ---- a turning
pub turned : (a : MapAttr) (ids now : List (Option ℕ)) (back : Back) (key : List ℕ) (id before left : Option ℕ) (index : ℕ) → IsArrayOfIds a ids → IsTrue (slots_fit a ids back) → back ≡ Link key id → index ≡ index_of key
    → now ≡ set ids index id → before ≡ get_or ids index None → left ≡ before
    → IsTurned (record { attr = a; contents = Slots ids; charge = charge_of a; roomy = true }) back (record { attr = a; contents = Slots now; charge = charge_of a; roomy = true }) (Link key left)
turned a ids now back key id before left index h fits is at after found kept =
    let exchange : exchanged (Slots ids) back ≡ (Slots now, Link key left) =
    ap (exchanged (Slots ids)) is
    ∙ ap₂ (λ (l : List (Option ℕ)) o. (Slots l, Link key o)) (ap (λ i. set ids i id) (sym at) ∙ sym after) (ap (λ i. get_or ids i None) (sym at) ∙ sym (kept ∙ found)) in
    let t : IsTurnable a (Slots now) (Link key left) =
    subst (λ (r : Contents × Back). IsTurnable a r.0 r.1) exchange (stays a (Slots ids) back (record { well = h.well; fits = fits })) in
    record { exchange = exchange; make = record { attr = refl; charge = refl; roomy = refl }; fits = t.fits }

-- ---- a new map
fresh_slots : (kind : MapType) (size count : ℕ) → shape_of_type kind ≡ OfSlots → fresh_of_type kind size count ≡ Slots (replicate count None)
fresh_slots Array size count is = cc
fresh_slots Hash size count is = cc
fresh_slots LpmTrie size count is = cc
fresh_slots Queue size count is = cc
fresh_slots Stack size count is = cc
fresh_slots ArrayOfMaps size count is = refl
fresh_slots ProgArray size count is = refl
fresh_slots HashOfMaps size count is = cc

four_bytes : (kind : MapType) (key value flags : ℕ) → shape_of_type kind ≡ OfSlots → suits_type kind key value flags ≡ true → key ≡ 4
four_bytes Array key value flags is suits = cc
four_bytes Hash key value flags is suits = cc
four_bytes LpmTrie key value flags is suits = cc
four_bytes Queue key value flags is suits = cc
four_bytes Stack key value flags is suits = cc
four_bytes ArrayOfMaps key value flags is suits = grind (arith, nat_tests, suits)
four_bytes ProgArray key value flags is suits = grind (arith, nat_tests, suits)
four_bytes HashOfMaps key value flags is suits = cc

pub held_new : (kind : MapType) (a : MapAttr) (ids : List (Option ℕ)) → shape_of_type kind ≡ OfSlots → a.kind ≡ kind → good a ≡ true → ids ≡ replicate a.max_entries None → IsArrayOfIds a ids
held_new kind a ids slots is limits new =
    let shape : shape_of_type a.kind ≡ OfSlots = ap shape_of_type is ∙ slots in
    record {
      limits = limits;
      key_size = four_bytes a.kind a.key_size a.value_size a.flags shape (both_true _ _ limits).1;
      well = record { shape = shape; sizes = ap length new ∙ length-replicate a.max_entries None };
    }

pub new_is_fresh : (kind : MapType) (a : MapAttr) (ids : List (Option ℕ)) → shape_of_type kind ≡ OfSlots → a.kind ≡ kind → ids ≡ replicate a.max_entries None → Slots ids ≡ fresh a
new_is_fresh kind a ids slots is new = ap Slots new ∙ sym (fresh_slots a.kind a.value_size a.max_entries (ap shape_of_type is ∙ slots))

pub empty_is_fresh : (a : MapAttr) (ids : List (Option ℕ)) (count : ℕ) → IsArrayOfIds a ids → count ≡ length (filled ids) → nat_eq count 0 ≡ true → Slots ids ≡ fresh a
empty_is_fresh a ids count h is none =
    let empty : length (filled ids) ≡ 0 = grind (arith, nat_tests) in
    ap Slots (replicate_of_all None ids a.max_entries h.well.sizes (all_empty ids empty)) ∙ sym (fresh_slots a.kind a.value_size a.max_entries h.well.shape)

same_slots : (xs ys : List (Option ℕ)) → Slots xs ≡ Slots ys → xs ≡ ys
same_slots xs ys e = cc

pub fresh_is_empty : (a : MapAttr) (ids : List (Option ℕ)) (count : ℕ) → IsArrayOfIds a ids → count ≡ length (filled ids) → Slots ids ≡ fresh a → nat_eq count 0 ≡ true
fresh_is_empty a ids count h is e =
    let empty : length (filled ids) ≡ 0 = ap (λ l. length (filled l)) (same_slots ids _ (e ∙ fresh_slots a.kind a.value_size a.max_entries h.well.shape)) ∙ ap length (none_filled a.max_entries) in
    grind (arith, nat_tests)
