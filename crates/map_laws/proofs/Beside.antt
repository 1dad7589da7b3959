-- An operation beside an exchange at another place.
use Rattle.std.proofs.Common.{◌≡◌, ◌≢◌, ℕ, Bool, true, false, not, ◌&&◌, ◌||◌, List, Option, Some, None, is_some, nat_lt, nat_le, refl, ap, sym, ◌∙◌, subst, arith}
use Rattle.std.proofs.lemmas.Bool.Decides.{nat_tests}
use Rattle.std.specs.FinMap as map
use Rattle.bt_mapkind.specs.declared.attr.MapAttr.{MapAttr}
use Rattle.bt_mapkind.specs.declared.exchange.Back.{Back}
use Rattle.bt_mapkind.specs.declared.exchange.Back.TheVariants.{Key, Ends, Link}
use Rattle.bt_mapkind.specs.declared.request.MapOp.{MapOp}
use Rattle.bt_mapkind.specs.Contents.{ByKey, Contents, Values, Entries, Items, Slots, Links}
use Rattle.bt_mapkind.specs.Sizes.{pair_fits}
use Rattle.bt_mapkind.specs.Exchange.{exchanged, exchange_fits, is_address, has_room}
use Rattle.bt_mapkind.specs.Laws.{IsTurnable}
use Rattle.bt_mapkind.specs.Step.{Changed}
use Rattle.bt_mapkind.specs.Well.{OfEntries, shape_of_type}
use Rattle.map_laws.specs.Place.{place_in, place_of, lacks, adds_key, is_full, is_put, puts_key, is_new, is_by_key, then_turned}
use Rattle.map_laws.specs.Laws.{forth_of, IsTurningAtItsPlace, IsToldNew, StaysBeside, StepsBeside}
use Rattle.bt_mapkind.proofs.Stays.{no_fit, both_true}
use Rattle.map_laws.proofs.Apart.{exchanges_apart}
use Rattle.map_laws.proofs.AtPlaces.{changes_at_its_place}
use Rattle.map_laws.proofs.Carried.{operation_apart}
use Rattle.map_laws.proofs.Room.{by_key, fits_after, leaves_room, tells_new}

and_false : (b : Bool) → b && false ≡ false
and_false true = refl
and_false false = refl

there_of : (o : Option (List ℕ)) → not (is_some o) ≡ false → is_some o ≡ true
there_of None h = cc
there_of (Some v) h = refl

not_new_key : (k : List ℕ) (o : Option (List ℕ)) → is_new (Key k o) ≡ false → is_some o ≡ true
not_new_key k None h = cc
not_new_key k (Some v) h = refl

put_is_old : (b : Back) → is_put b ≡ true → is_new b ≡ false
put_is_old (Key k None) h = cc
put_is_old (Key k (Some v)) h = refl
put_is_old (Ends _ _ _ _) h = refl
put_is_old (Link k None) h = cc
put_is_old (Link k (Some v)) h = refl

old_key : (a : MapAttr) (m : ByKey (List ℕ)) (k : List ℕ) (x : Option (List ℕ)) → shape_of_type a.kind ≡ OfEntries → map.contains_key m k ≡ true → puts_key a (Entries m) (Key k x) ≡ false
old_key a m k x shape there =
    ap (λ s. is_put (Key k x) && lacks (Entries m) (place_in s k)) shape ∙ ap (λ b. is_put (Key k x) && not b) there ∙ and_false (is_put (Key k x))

-- an exchange of a key that is there puts no new one
no_new : (a : MapAttr) (c : Contents) (b : Back) → IsTurnable a c b → is_by_key (shape_of_type a.kind) ≡ true → is_new (exchanged c b).1 ≡ false → puts_key a c b ≡ false
no_new a (Values vs) b t k h = and_false (is_put b)
no_new a (Entries m) (Key key x) t k h = old_key a m key x t.well.shape (not_new_key key (map.get m key) h)
no_new a (Entries m) (Ends _ _ _ _) t k h = no_fit t.fits
no_new a (Entries m) (Link _ _) t k h = no_fit t.fits
no_new a (Items xs) b t k h = let other = by_key _ _ t.well.shape k in cc
no_new a (Slots ls) b t k h = let other = by_key _ _ t.well.shape k in cc
no_new a (Links m) b t k h = let other = by_key _ _ t.well.shape k in cc

absent_of : (p b : Bool) → p && not b ≡ true → b ≡ false
absent_of true true h = cc
absent_of true false h = refl
absent_of false true h = cc
absent_of false false h = refl

room_left : (there : Bool) (n limit : ℕ) → there ≡ false → there || nat_lt n limit ≡ true → nat_le limit n ≡ false
room_left true n limit absent h = cc
room_left false n limit absent h = grind (arith, nat_tests, h)

-- an exchange that fits and puts a new key has room
room_of_fit : (a : MapAttr) (c : Contents) (b : Back) → IsTurnable a c b → is_by_key (shape_of_type a.kind) ≡ true → puts_key a c b ≡ true → is_full a c ≡ false
room_of_fit a (Values vs) b t k h = refl
room_of_fit a (Entries m) (Key key None) t k h = cc
room_of_fit a (Entries m) (Key key (Some v)) t k h =
    let f = both_true (pair_fits a key v && is_address a key) (has_room a m key) t.fits in
    let absent = absent_of true (map.contains_key m key) (sym (ap (λ s. is_put (Key key (Some v)) && lacks (Entries m) (place_in s key)) t.well.shape) ∙ h) in
    room_left (map.contains_key m key) (map.len m) a.max_entries absent f.1
room_of_fit a (Entries m) (Ends _ _ _ _) t k h = no_fit t.fits
room_of_fit a (Entries m) (Link _ _) t k h = no_fit t.fits
room_of_fit a (Items xs) b t k h = let other = by_key _ _ t.well.shape k in cc
room_of_fit a (Slots ls) b t k h = let other = by_key _ _ t.well.shape k in cc
room_of_fit a (Links m) b t k h = let other = by_key _ _ t.well.shape k in cc

-- what an operation that adds a key finds of room after the exchange
as_full : (a : MapAttr) (c : Contents) (u : Back) (op : MapOp) (changed : Changed) → IsTurnable a c u → is_by_key (shape_of_type a.kind) ≡ true → IsToldNew a c op changed
    → (is_put (exchanged c u).1 ≡ false → is_new changed.back ≡ false) → (put : Bool) → is_put (exchanged c u).1 ≡ put → adds_key a c op ≡ true → is_full a (exchanged c u).0 ≡ is_full a c
as_full a c u op changed t k told room true is adds = leaves_room a c u t.well (no_new a c u t k (put_is_old (exchanged c u).1 is)) (told.room adds) ∙ sym (told.room adds)
as_full a c u op changed t k told room false is adds = let both = sym adds ∙ (told.new ∙ room is) in cc

-- what an exchange that puts a key back finds of room after the operation
has_place : (a : MapAttr) (c : Contents) (u f : Back) (back : Back) → IsTurnable a c u → IsTurnable a c f → is_by_key (shape_of_type a.kind) ≡ true → (exchanged c f).1 ≡ back
    → (is_put (exchanged c u).1 ≡ false → is_new back ≡ false) → (put : Bool) → is_put (exchanged c u).1 ≡ put → puts_key a c u ≡ true → is_full a (exchanged c f).0 ≡ false
has_place a c u f back t g k is room true put puts = let both = sym puts ∙ no_new a c u t k (put_is_old (exchanged c u).1 put) in cc
has_place a c u f back t g k is room false put puts = leaves_room a c f g.well (no_new a c f g k (ap is_new is ∙ room put)) (room_of_fit a c u t k puts)

pub stays_beside : (a : MapAttr) (c : Contents) (u : Back) (op : MapOp) (changed : Changed) → StaysBeside a c u op changed
stays_beside a c u op changed t k e apart room = whole (changes_at_its_place a c op changed t.well e)
  where
    whole : IsTurningAtItsPlace a c op changed → StepsBeside a c u op changed
    whole at =
        let told = tells_new a c op changed t.well k e in
        let g : IsTurnable a c (forth_of changed) = record { well = t.well; fits = at.fits } in
        let differs : place_of a u ≢ place_of a (forth_of changed) = λ same. apart (same ∙ at.forth_place) in
        let order = exchanges_apart a c u (forth_of changed) t at.fits differs in
        let placed = has_place a c u (forth_of changed) changed.back t g k (ap (λ (p : Contents × Back). p.1) at.turned) room (is_put (exchanged c u).1) refl in
        record {
          steps = operation_apart a c u op t apart (as_full a c u op changed t k told room (is_put (exchanged c u).1) refl) ∙ ap (λ s. then_turned s u) e;
          fits = subst (λ (p : Contents × Back). exchange_fits a p.0 u ≡ true) at.turned (fits_after a c (forth_of changed) u g t.fits (λ same. differs (sym same)) placed);
          face = subst (λ (p : Contents × Back). (exchanged p.0 u).1 ≡ (exchanged c u).1) at.turned order.first;
        }
