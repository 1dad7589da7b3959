-- Exchanges: whether one can be turned at a map, and what a turning leaves.
use Rattle.std.specs.Prelude.{ℕ, ◌+◌, Bool, true, false, List, [], ◌∷◌, ◌++◌, length, nat_lt, nat_le, ◌&&◌, ◌||◌, slice_set, slice_index_or, Option, Some, None, is_some}
use Rattle.std.specs.Option.{option_to_list}
use Rattle.std.specs.FinMap as map
use Rattle.bt_mapkind.specs.declared.attr.MapAttr.{MapAttr}
use Rattle.bt_mapkind.specs.declared.exchange.Back.{Back}
use Rattle.bt_mapkind.specs.declared.exchange.Back.TheVariants.{Key, Ends, Link}
use Rattle.bt_mapkind.specs.Contents.{Contents, ByKey, Values, Entries, Items, Slots, Links}
use Rattle.bt_mapkind.specs.Prefix.{address, is_same}
use Rattle.bt_mapkind.specs.Sizes.{pair_fits, key_fits, value_fits}
use Rattle.bt_mapkind.specs.Index.{index_of}

-- an array keeps every value
abbrev pub values_fit : MapAttr → List (List ℕ) → Back → Bool
values_fit a vs (Key key None) = false
values_fit a vs (Key key (Some value)) = pair_fits a key value && nat_lt (index_of key) (length vs)
values_fit a vs (Ends _ _ _ _) = false
values_fit a vs (Link _ _) = false

-- whether an address is this key
abbrev pub is_at : List ℕ → Option (List ℕ) → Bool
is_at key None = false
is_at key (Some stored) = is_same stored key

-- whether a key is one under which an entry can stand
abbrev pub is_address : MapAttr → List ℕ → Bool
is_address a key = is_at key (address a key)

-- whether a key is there already, or one more has room
abbrev pub has_room : {X : Type 0} → MapAttr → ByKey X → List ℕ → Bool
has_room a m key = map.contains_key m key || nat_lt (map.len m) a.max_entries

abbrev pub entries_fit : MapAttr → ByKey (List ℕ) → Back → Bool
entries_fit a m (Key key None) = key_fits a key && is_address a key
entries_fit a m (Key key (Some value)) = pair_fits a key value && is_address a key && has_room a m key
entries_fit a m (Ends _ _ _ _) = false
entries_fit a m (Link _ _) = false

-- how many an end takes or puts
abbrev pub one_if : Bool → ℕ
one_if true = 1
one_if false = 0

abbrev pub item_fits : MapAttr → Option (List ℕ) → Bool
item_fits a None = true
item_fits a (Some value) = value_fits a value

-- the items to take are there, and the room suffices for those to put
abbrev pub items_fit : MapAttr → List (List ℕ) → Back → Bool
items_fit a xs (Key _ _) = false
items_fit a xs (Ends front rear put_front put_rear) =
    nat_le (one_if front + one_if rear) (length xs) && item_fits a put_front && item_fits a put_rear
    && nat_le (length xs + (one_if (is_some put_front) + one_if (is_some put_rear))) (a.max_entries + (one_if front + one_if rear))
items_fit a xs (Link _ _) = false

abbrev pub slots_fit : MapAttr → List (Option ℕ) → Back → Bool
slots_fit a ls (Key _ _) = false
slots_fit a ls (Ends _ _ _ _) = false
slots_fit a ls (Link key id) = key_fits a key && nat_lt (index_of key) (length ls)

abbrev pub links_fit : MapAttr → ByKey ℕ → Back → Bool
links_fit a m (Key _ _) = false
links_fit a m (Ends _ _ _ _) = false
links_fit a m (Link key None) = key_fits a key
links_fit a m (Link key (Some id)) = key_fits a key && has_room a m key

-- whether an exchange can be turned: its form and its sizes are the map's, the place is there, the items to take are
-- there, and the room suffices
abbrev pub exchange_fits : MapAttr → Contents → Back → Bool
exchange_fits a (Values vs) b = values_fit a vs b
exchange_fits a (Entries m) b = entries_fit a m b
exchange_fits a (Items xs) b = items_fit a xs b
exchange_fits a (Slots ls) b = slots_fit a ls b
exchange_fits a (Links m) b = links_fit a m b

-- a finite map with a value under a key, or without the key
abbrev pub put_under : {X : Type 0} → ByKey X → List ℕ → Option X → ByKey X
put_under m key None = map.remove m key
put_under m key (Some value) = map.insert m key value

-- what a turning leaves: the contents, and the exchange, which then means what stood there
abbrev pub values_exchanged : List (List ℕ) → Back → Contents × Back
values_exchanged vs (Key key None) = (Values vs, Key key None)
values_exchanged vs (Key key (Some value)) =
    (Values (slice_set vs (index_of key) value), Key key (Some (slice_index_or vs (index_of key) [])))
values_exchanged vs (Ends a b c d) = (Values vs, Ends a b c d)
values_exchanged vs (Link key id) = (Values vs, Link key id)

abbrev pub entries_exchanged : ByKey (List ℕ) → Back → Contents × Back
entries_exchanged m (Key key value) = (Entries (put_under m key value), Key key (map.get m key))
entries_exchanged m (Ends a b c d) = (Entries m, Ends a b c d)
entries_exchanged m (Link key id) = (Entries m, Link key id)

-- the oldest item, if it is taken, and the others
abbrev pub front_of : Bool → List (List ℕ) → Option (List ℕ) × List (List ℕ)
front_of false xs = (None, xs)
front_of true [] = (None, [])
front_of true (x ∷ xs) = (Some x, xs)

-- the newest of x and xs, and the others
abbrev pub newest : List ℕ → List (List ℕ) → Option (List ℕ) × List (List ℕ)
newest x [] = (Some x, [])
newest x (y ∷ ys) = ((newest y ys).0, x ∷ (newest y ys).1)

-- the newest item, if it is taken, and the others
abbrev pub rear_of : Bool → List (List ℕ) → Option (List ℕ) × List (List ℕ)
rear_of false xs = (None, xs)
rear_of true [] = (None, [])
rear_of true (x ∷ xs) = newest x xs

-- takes first, then puts
abbrev pub items_exchanged : List (List ℕ) → Back → Contents × Back
items_exchanged xs (Key key value) = (Items xs, Key key value)
items_exchanged xs (Ends front rear put_front put_rear) =
    let f = front_of front xs in
    let r = rear_of rear f.1 in
    (Items (option_to_list put_front ++ (r.1 ++ option_to_list put_rear)), Ends (is_some put_front) (is_some put_rear) f.0 r.0)
items_exchanged xs (Link key id) = (Items xs, Link key id)

abbrev pub slots_exchanged : List (Option ℕ) → Back → Contents × Back
slots_exchanged ls (Key key value) = (Slots ls, Key key value)
slots_exchanged ls (Ends a b c d) = (Slots ls, Ends a b c d)
slots_exchanged ls (Link key id) = (Slots (slice_set ls (index_of key) id), Link key (slice_index_or ls (index_of key) None))

abbrev pub links_exchanged : ByKey ℕ → Back → Contents × Back
links_exchanged m (Key key value) = (Links m, Key key value)
links_exchanged m (Ends a b c d) = (Links m, Ends a b c d)
links_exchanged m (Link key id) = (Links (put_under m key id), Link key (map.get m key))

abbrev pub exchanged : Contents → Back → Contents × Back
exchanged (Values vs) b = values_exchanged vs b
exchanged (Entries m) b = entries_exchanged m b
exchanged (Items xs) b = items_exchanged xs b
exchanged (Slots ls) b = slots_exchanged ls b
exchanged (Links m) b = links_exchanged m b
