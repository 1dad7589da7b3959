-- What a turning leaves: contents that the map can hold, and an exchange that fits them.
use Rattle.std.proofs.Common.{◌≡◌, ℕ, ◌+◌, ◌<◌, ◌≤◌, Bool, true, false, ◌&&◌, List, [], ◌++◌, length, Option, Some, None, is_some, nat_lt, refl, ap, sym, subst, ◌∙◌, arith, length-append, length-set}
use Rattle.std.specs.List.{All}
use Rattle.std.proofs.lemmas.List.Elements.{All-set, All-get_or, All-append, All-cons, All-nil, All-head, All-contains, Contains-append_left, Contains-append_right, Contains-get_or}
use Rattle.std.proofs.lemmas.Bool.Decides.{nat_tests}
use Rattle.std.specs.Option.{option_to_list}
use Rattle.std.specs.FinMap as map
use Rattle.bt_mapkind.specs.declared.attr.MapAttr.{MapAttr}
use Rattle.bt_mapkind.specs.declared.exchange.Back.{Back}
use Rattle.bt_mapkind.specs.declared.exchange.Back.TheVariants.{Key, Ends, Link}
use Rattle.bt_mapkind.specs.Contents.{Contents, ByKey, Values, Entries, Items, Slots, Links}
use Rattle.bt_mapkind.specs.Index.{index_of}
use Rattle.bt_mapkind.specs.Sizes.{key_fits, value_fits, pair_fits}
use Rattle.bt_mapkind.specs.Exchange.{entries_fit, links_fit, item_fits, put_under, one_if, is_address}
use Rattle.bt_mapkind.specs.Laws.{IsTurnable, StaysTurnable}
use Rattle.bt_mapkind.proofs.Keyed.{len-put_under_within, room_to_put_back, each-put_under, RoomFor}
use Rattle.bt_mapkind.proofs.Ends.{Parts, parts, exchanged_ends, fits_ends_of, fits_of_ends}

-- a value or a key of the map's size
abbrev pub HasValueSize : MapAttr → List ℕ → Type 0
HasValueSize a v = length v ≡ a.value_size

pub value_size_of : (a : MapAttr) (v : List ℕ) → value_fits a v ≡ true → HasValueSize a v
value_size_of a v e = grind (arith, nat_tests, e)

pub value_fits_of : (a : MapAttr) (v : List ℕ) → HasValueSize a v → value_fits a v ≡ true
value_fits_of a v e = grind (arith, nat_tests, e)

pub key_size_of : (a : MapAttr) (k : List ℕ) → key_fits a k ≡ true → length k ≡ a.key_size
key_size_of a k e = grind (arith, nat_tests, e)

pub key_fits_of : (a : MapAttr) (k : List ℕ) → length k ≡ a.key_size → key_fits a k ≡ true
key_fits_of a k e = grind (arith, nat_tests, e)

pub both_true : (p q : Bool) → p && q ≡ true → (p ≡ true) × (q ≡ true)
both_true true true e = (refl, refl)
both_true true false e = cc
both_true false q e = cc

pub and_true : (p q : Bool) → p ≡ true → q ≡ true → p && q ≡ true
and_true p q a b = rw (a, b) refl

pub below_of : (m n : ℕ) → nat_lt m n ≡ true → m < n
below_of m n e = grind (arith, nat_tests, e)

pub true_of_below : (m n : ℕ) → m < n → nat_lt m n ≡ true
true_of_below m n e = grind (arith, nat_tests, e)

-- ---- an array
stays_value : (a : MapAttr) (vs : List (List ℕ)) (key value : List ℕ) → StaysTurnable a (Values vs) (Key key (Some value))
stays_value a vs key value t =
    let pair = both_true (pair_fits a key value) _ t.fits in
    let sizes = both_true (key_fits a key) _ pair.0 in
    let within : index_of key < length vs = below_of _ _ pair.1 in
    record {
      well = record {
        shape = t.well.shape;
        sizes = (length-set vs (index_of key) value ∙ t.well.sizes.0, All-set (HasValueSize a) vs (index_of key) value (value_size_of a value sizes.1) t.well.sizes.1);
      };
      fits = and_true _ _
          (and_true _ _ sizes.0 (value_fits_of a _ (All-get_or (HasValueSize a) vs (index_of key) [] within t.well.sizes.1)))
          (true_of_below _ _ (rw (length-set vs (index_of key) value) within));
    }

-- ---- a hash or an LPM trie
-- what an exchange that fits says of its key and of what it puts there
record FitsEntry (a : MapAttr) (m : ByKey (List ℕ)) (key : List ℕ) (value : Option (List ℕ)) : Type 0 where
  key_size : key_fits a key ≡ true
  stands : is_address a key ≡ true
  value_size : (v : List ℕ) → value ≡ Some v → HasValueSize a v
  room : RoomFor a m key value

fits_entry_of : (a : MapAttr) (m : ByKey (List ℕ)) (key : List ℕ) (value : Option (List ℕ)) → entries_fit a m (Key key value) ≡ true → FitsEntry a m key value
fits_entry_of a m key None e =
    let h = both_true (key_fits a key) _ e in
    record { key_size = h.0; stands = h.1; value_size = λ v is. cc; room = tt }
fits_entry_of a m key (Some value) e =
    let h = both_true (pair_fits a key value && is_address a key) _ e in
    let g = both_true (pair_fits a key value) _ h.0 in
    let s = both_true (key_fits a key) _ g.0 in
    record { key_size = s.0; stands = g.1; value_size = λ v is. ap length (same v value is) ∙ value_size_of a value s.1; room = h.1 }
  where
    same : (v w : List ℕ) → Some w ≡ Some v → v ≡ w
    same v w is = cc

fits_of_entry : (a : MapAttr) (m : ByKey (List ℕ)) (key : List ℕ) (value : Option (List ℕ)) → FitsEntry a m key value → entries_fit a m (Key key value) ≡ true
fits_of_entry a m key None f = and_true _ _ f.key_size f.stands
fits_of_entry a m key (Some value) f = and_true _ _ (and_true _ _ (and_true _ _ f.key_size (value_fits_of a value (f.value_size value refl))) f.stands) f.room

stays_entry : (a : MapAttr) (m : ByKey (List ℕ)) (key : List ℕ) (value : Option (List ℕ)) → StaysTurnable a (Entries m) (Key key value)
stays_entry a m key value t =
    let f = fits_entry_of a m key value t.fits in
    record {
      well = record {
        shape = t.well.shape;
        sizes = (
          len-put_under_within a m key value t.well.sizes.0 f.room,
          each-put_under m key value t.well.sizes.1 (λ new is. record { key_size = key_size_of a key f.key_size; stands = f.stands; value_size = f.value_size new is }),
        );
      };
      fits = fits_of_entry a (put_under m key value) key (map.get m key) (record {
        key_size = f.key_size;
        stands = f.stands;
        value_size = λ v is. (t.well.sizes.1 key v is).value_size;
        room = room_to_put_back a m key value t.well.sizes.0;
      });
    }

-- ---- a queue or a stack
length-option : (o : Option (List ℕ)) → length (option_to_list o) ≡ one_if (is_some o)
length-option None = refl
length-option (Some x) = refl

all_of_item : (a : MapAttr) (o : Option (List ℕ)) → item_fits a o ≡ true → All (HasValueSize a) (option_to_list o)
all_of_item a None e = All-nil (HasValueSize a)
all_of_item a (Some v) e = All-cons (HasValueSize a) v [] (value_size_of a v e) (All-nil (HasValueSize a))

item_of_all : (a : MapAttr) (o : Option (List ℕ)) → All (HasValueSize a) (option_to_list o) → item_fits a o ≡ true
item_of_all a None all = refl
item_of_all a (Some v) all = value_fits_of a v (All-head (HasValueSize a) v [] all)

all_left : (a : MapAttr) (xs ys : List (List ℕ)) → All (HasValueSize a) (xs ++ ys) → All (HasValueSize a) xs
all_left a xs ys all k d below = All-contains (HasValueSize a) (xs ++ ys) _ all (Contains-append_left xs ys _ (Contains-get_or xs k d below))

all_right : (a : MapAttr) (xs ys : List (List ℕ)) → All (HasValueSize a) (xs ++ ys) → All (HasValueSize a) ys
all_right a xs ys all k d below = All-contains (HasValueSize a) (xs ++ ys) _ all (Contains-append_right xs ys _ (Contains-get_or ys k d below))

-- items with what stands at each end
abbrev with_ends : Option (List ℕ) → List (List ℕ) → Option (List ℕ) → List (List ℕ)
with_ends first mid last = option_to_list first ++ (mid ++ option_to_list last)

length-with_ends : (first : Option (List ℕ)) (mid : List (List ℕ)) (last : Option (List ℕ)) → length (with_ends first mid last) ≡ one_if (is_some first) + (length mid + one_if (is_some last))
length-with_ends first mid last =
    length-append (option_to_list first) (mid ++ option_to_list last)
    ∙ ap (λ n. n + length (mid ++ option_to_list last)) (length-option first)
    ∙ ap (λ n. one_if (is_some first) + n) (length-append mid (option_to_list last) ∙ ap (λ n. length mid + n) (length-option last))

stays_at_ends : (a : MapAttr) (first : Option (List ℕ)) (mid : List (List ℕ)) (last p q : Option (List ℕ)) → StaysTurnable a (Items (with_ends first mid last)) (Ends (is_some first) (is_some last) p q)
stays_at_ends a first mid last p q t =
    let f = fits_ends_of a (with_ends first mid last) (is_some first) (is_some last) p q t.fits in
    let all = t.well.sizes.1 in
    let inner = all_right a (option_to_list first) (mid ++ option_to_list last) all in
    let was : length (with_ends first mid last) ≡ one_if (is_some first) + (length mid + one_if (is_some last)) = length-with_ends first mid last in
    let is : length (with_ends p mid q) ≡ one_if (is_some p) + (length mid + one_if (is_some q)) = length-with_ends p mid q in
    let room : length (with_ends first mid last) + (one_if (is_some p) + one_if (is_some q)) ≤ a.max_entries + (one_if (is_some first) + one_if (is_some last)) = f.room in
    let within : length (with_ends first mid last) ≤ a.max_entries = t.well.sizes.0 in
    subst (λ (r : Contents × Back). IsTurnable a r.0 r.1) (sym (exchanged_ends first mid last p q))
    (record {
      well = record {
        shape = t.well.shape;
        sizes = (
          omega arith,
          All-append (HasValueSize a) (option_to_list p) (mid ++ option_to_list q) (all_of_item a p f.front_size)
              (All-append (HasValueSize a) mid (option_to_list q) (all_left a mid (option_to_list last) inner) (all_of_item a q f.rear_size)),
        );
      };
      fits = fits_of_ends a (with_ends p mid q) (is_some p) (is_some q) first last (record {
        there = omega arith;
        front_size = item_of_all a first (all_left a (option_to_list first) (mid ++ option_to_list last) all);
        rear_size = item_of_all a last (all_right a mid (option_to_list last) inner);
        room = omega arith;
      });
    })

stays_items : (a : MapAttr) (xs : List (List ℕ)) (front rear : Bool) (p q : Option (List ℕ)) → Parts xs front rear → StaysTurnable a (Items xs) (Ends front rear p q)
stays_items a xs front rear p q s = rw (s.is, ← s.front_is, ← s.rear_is) (stays_at_ends a s.first s.mid s.last p q)

-- ---- maps of ids
stays_slot : (a : MapAttr) (ls : List (Option ℕ)) (key : List ℕ) (id : Option ℕ) → StaysTurnable a (Slots ls) (Link key id)
stays_slot a ls key id t =
    let h = both_true (key_fits a key) _ t.fits in
    record {
      well = record { shape = t.well.shape; sizes = length-set ls (index_of key) id ∙ t.well.sizes };
      fits = and_true _ _ h.0 (true_of_below _ _ (rw (length-set ls (index_of key) id) (below_of _ _ h.1)));
    }

record FitsLink (a : MapAttr) (m : ByKey ℕ) (key : List ℕ) (id : Option ℕ) : Type 0 where
  key_size : key_fits a key ≡ true
  room : RoomFor a m key id

fits_link_of : (a : MapAttr) (m : ByKey ℕ) (key : List ℕ) (id : Option ℕ) → links_fit a m (Link key id) ≡ true → FitsLink a m key id
fits_link_of a m key None e = record { key_size = e; room = tt }
fits_link_of a m key (Some id) e = let h = both_true (key_fits a key) _ e in record { key_size = h.0; room = h.1 }

fits_of_link : (a : MapAttr) (m : ByKey ℕ) (key : List ℕ) (id : Option ℕ) → FitsLink a m key id → links_fit a m (Link key id) ≡ true
fits_of_link a m key None f = f.key_size
fits_of_link a m key (Some id) f = and_true _ _ f.key_size f.room

stays_link : (a : MapAttr) (m : ByKey ℕ) (key : List ℕ) (id : Option ℕ) → StaysTurnable a (Links m) (Link key id)
stays_link a m key id t =
    let f = fits_link_of a m key id t.fits in
    record {
      well = record {
        shape = t.well.shape;
        sizes = (len-put_under_within a m key id t.well.sizes.0 f.room, each-put_under m key id t.well.sizes.1 (λ new is. key_size_of a key f.key_size));
      };
      fits = fits_of_link a (put_under m key id) key (map.get m key) (record { key_size = f.key_size; room = room_to_put_back a m key id t.well.sizes.0 });
    }

pub no_fit : {P : Type 0} → false ≡ true → P
no_fit e = cc

pub stays : (a : MapAttr) (c : Contents) (b : Back) → StaysTurnable a c b
stays a (Values vs) (Key key None) t = no_fit t.fits
stays a (Values vs) (Key key (Some value)) t = stays_value a vs key value t
stays a (Values vs) (Ends _ _ _ _) t = no_fit t.fits
stays a (Values vs) (Link _ _) t = no_fit t.fits
stays a (Entries m) (Key key value) t = stays_entry a m key value t
stays a (Entries m) (Ends _ _ _ _) t = no_fit t.fits
stays a (Entries m) (Link _ _) t = no_fit t.fits
stays a (Items xs) (Key _ _) t = no_fit t.fits
stays a (Items xs) (Ends front rear p q) t = stays_items a xs front rear p q (parts front rear xs (fits_ends_of a xs front rear p q t.fits).there) t
stays a (Items xs) (Link _ _) t = no_fit t.fits
stays a (Slots ls) (Key _ _) t = no_fit t.fits
stays a (Slots ls) (Ends _ _ _ _) t = no_fit t.fits
stays a (Slots ls) (Link key id) t = stays_slot a ls key id t
stays a (Links m) (Key _ _) t = no_fit t.fits
stays a (Links m) (Ends _ _ _ _) t = no_fit t.fits
stays a (Links m) (Link key id) t = stays_link a m key id t
