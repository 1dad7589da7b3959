-- An exchange that fits a map is held by what is reserved for the exchanges of maps of its sizes.
use Rattle.std.proofs.Common.{◌≡◌, ◌+◌, ◌≤◌, ℕ, true, ◌&&◌, nat_le, List, length, Option, Some, None, is_some, arith}
use Rattle.bt_mapkind.specs.declared.attr.MapAttr.{MapAttr}
use Rattle.bt_mapkind.specs.declared.exchange.Back.{Back}
use Rattle.bt_mapkind.specs.declared.exchange.Back.TheVariants.{Key, Ends, Link}
use Rattle.bt_mapkind.specs.Contents.{Contents, Values, Entries, Items, Slots, Links}
use Rattle.bt_mapkind.specs.Sizes.{key_fits, value_fits, pair_fits}
use Rattle.bt_mapkind.specs.Exchange.{exchange_fits, is_address, has_room, item_fits, one_if}
use Rattle.bt_mapkind.proofs.Stays.{both_true, key_size_of, value_size_of}
use Rattle.bt_mapkind.specs.Kept.{bytes_of, bytes_in, room_of}

item_within : (a : MapAttr) (item : Option (List ℕ)) → item_fits a item ≡ true → bytes_of item ≤ a.value_size
item_within a None e = omega arith
item_within a (Some value) e = let v = value_size_of a value e in omega (arith, v)

-- an exchange that fits a map is held by what is reserved for maps of its sizes
pub fits_in : (a : MapAttr) (c : Contents) (back : Back) → exchange_fits a c back ≡ true → bytes_in back ≤ room_of a
fits_in a (Values vs) (Key key None) e = cc
fits_in a (Values vs) (Key key (Some value)) e =
    let p = both_true (key_fits a key) (value_fits a value) (both_true (pair_fits a key value) _ e).0 in
    let k = key_size_of a key p.0 in
    let v = value_size_of a value p.1 in
    omega (arith, k, v)
fits_in a (Values vs) (Ends f r p q) e = cc
fits_in a (Values vs) (Link key id) e = cc
fits_in a (Entries m) (Key key None) e =
    let k = key_size_of a key (both_true (key_fits a key) (is_address a key) e).0 in
    omega (arith, k)
fits_in a (Entries m) (Key key (Some value)) e =
    let p = both_true (key_fits a key) (value_fits a value) (both_true (pair_fits a key value) (is_address a key) (both_true (pair_fits a key value && is_address a key) (has_room a m key) e).0).0 in
    let k = key_size_of a key p.0 in
    let v = value_size_of a value p.1 in
    omega (arith, k, v)
fits_in a (Entries m) (Ends f r p q) e = cc
fits_in a (Entries m) (Link key id) e = cc
fits_in a (Items xs) (Key key value) e = cc
fits_in a (Items xs) (Ends f r p q) e =
    let there = nat_le (one_if f + one_if r) (length xs) in
    let room = nat_le (length xs + (one_if (is_some p) + one_if (is_some q))) (a.max_entries + (one_if f + one_if r)) in
    let items = both_true (there && item_fits a p) (item_fits a q) (both_true (there && item_fits a p && item_fits a q) room e).0 in
    let front = item_within a p (both_true there (item_fits a p) items.0).1 in
    let rear = item_within a q items.1 in
    omega (arith, front, rear)
fits_in a (Items xs) (Link key id) e = cc
fits_in a (Slots ls) (Key key value) e = cc
fits_in a (Slots ls) (Ends f r p q) e = cc
fits_in a (Slots ls) (Link key id) e =
    let k = key_size_of a key (both_true (key_fits a key) _ e).0 in
    omega (arith, k)
fits_in a (Links m) (Key key value) e = cc
fits_in a (Links m) (Ends f r p q) e = cc
fits_in a (Links m) (Link key None) e =
    let k = key_size_of a key e in
    omega (arith, k)
fits_in a (Links m) (Link key (Some id)) e =
    let k = key_size_of a key (both_true (key_fits a key) _ e).0 in
    omega (arith, k)
