-- An exchange that is turned twice.
use Rattle.std.proofs.Common.{◌≡◌, ℕ, true, List, [], length, get_or, set, Option, Some, None, ◌<◌, refl, ap, ◌∙◌, arith}
use Rattle.std.proofs.lemmas.List.{set-set, set-get_or, get_or-set_same}
use Rattle.std.proofs.lemmas.Bool.Decides.{nat_tests}
use Rattle.bt_mapkind.specs.declared.attr.MapAttr.{MapAttr}
use Rattle.bt_mapkind.specs.declared.exchange.Back.{Back}
use Rattle.bt_mapkind.specs.declared.exchange.Back.TheVariants.{Key, Ends, Link}
use Rattle.bt_mapkind.specs.Contents.{Contents, ByKey, Values, Entries, Items, Slots, Links}
use Rattle.bt_mapkind.specs.Index.{index_of}
use Rattle.bt_mapkind.specs.Exchange.{values_fit, slots_fit}
use Rattle.bt_mapkind.specs.Laws.{TurnsBack}
use Rattle.bt_mapkind.proofs.Keyed.{put_under-back, get-put_under_same}
use Rattle.bt_mapkind.proofs.Ends.{parts, twice_items, fits_ends_of}

both : {A B : Type 0} {x y : A} {z w : B} → x ≡ y → z ≡ w → ◌≡◌ {A = A × B} (x, z) (y, w)
both p q = λ i. (p i, q i)

value_within : (a : MapAttr) (vs : List (List ℕ)) (key value : List ℕ) → values_fit a vs (Key key (Some value)) ≡ true → index_of key < length vs
value_within a vs key value e = grind (arith, nat_tests, e)

slot_within : (a : MapAttr) (ls : List (Option ℕ)) (key : List ℕ) (id : Option ℕ) → slots_fit a ls (Link key id) ≡ true → index_of key < length ls
slot_within a ls key id e = grind (arith, nat_tests, e)

-- what stood at an index, put back over what was put there
set_back : {X : Type 0} (xs : List X) (i : ℕ) (x d : X) → i < length xs → ◌≡◌ {A = List X × X} (set (set xs i x) i (get_or xs i d), get_or (set xs i x) i d) (xs, x)
set_back xs i x d lt = both (set-set xs i x (get_or xs i d) ∙ set-get_or xs i d) (get_or-set_same xs i x d lt)

pub twice : (a : MapAttr) (c : Contents) (b : Back) → TurnsBack a c b
twice a (Values vs) (Key key None) e = refl
twice a (Values vs) (Key key (Some value)) e =
    ap (λ (p : List (List ℕ) × List ℕ). (Values p.0, Key key (Some p.1))) (set_back vs (index_of key) value [] (value_within a vs key value e))
twice a (Values vs) (Ends _ _ _ _) e = refl
twice a (Values vs) (Link _ _) e = refl
twice a (Entries m) (Key key value) e =
    ap (λ (p : ByKey (List ℕ) × Option (List ℕ)). (Entries p.0, Key key p.1)) (both (put_under-back m key value) (get-put_under_same m key value))
twice a (Entries m) (Ends _ _ _ _) e = refl
twice a (Entries m) (Link _ _) e = refl
twice a (Items xs) (Key _ _) e = refl
twice a (Items xs) (Ends front rear p q) e = twice_items xs front rear p q (parts front rear xs (fits_ends_of a xs front rear p q e).there)
twice a (Items xs) (Link _ _) e = refl
twice a (Slots ls) (Key _ _) e = refl
twice a (Slots ls) (Ends _ _ _ _) e = refl
twice a (Slots ls) (Link key id) e =
    ap (λ (p : List (Option ℕ) × Option ℕ). (Slots p.0, Link key p.1)) (set_back ls (index_of key) id None (slot_within a ls key id e))
twice a (Links m) (Key _ _) e = refl
twice a (Links m) (Ends _ _ _ _) e = refl
twice a (Links m) (Link key id) e =
    ap (λ (p : ByKey ℕ × Option ℕ). (Links p.0, Link key p.1)) (both (put_under-back m key id) (get-put_under_same m key id))
