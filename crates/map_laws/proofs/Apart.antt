-- Exchanges at different places of a map.
use Rattle.std.proofs.Common.{◌≡◌, ◌≢◌, ℕ, Bool, true, false, List, [], Option, Some, None, cond, sym, refl, ap, ◌∙◌, subst}
use Rattle.std.proofs.lemmas.List.{set_comm, get_or-set_other}
use Rattle.std.specs.FinMap as map
use Rattle.std.specs.FinMap.{nat_cmp-IsAntisymmetric, slice_cmp-IsAntisymmetric}
use Rattle.std.specs.Cmp.Lexicographic.{nat_list_cmp_total}
use Rattle.bt_mapkind.specs.declared.attr.MapAttr.{MapAttr}
use Rattle.bt_mapkind.specs.declared.exchange.Back.{Back}
use Rattle.bt_mapkind.specs.declared.exchange.Back.TheVariants.{Key, Ends, Link}
use Rattle.bt_mapkind.specs.Contents.{Contents, ByKey, Values, Entries, Items, Slots, Links}
use Rattle.bt_mapkind.specs.Index.{index_of}
use Rattle.bt_mapkind.specs.Prefix.{is_same}
use Rattle.bt_mapkind.specs.Exchange.{put_under, values_fit, entries_fit, slots_fit, links_fit}
use Rattle.bt_mapkind.specs.Well.{Shape, OfValues, OfEntries, OfItems, OfSlots, OfLinks, shape_of_type}
use Rattle.map_laws.specs.Place.{AtIndex, AtKey, Whole, place_of, place_in}
use Rattle.map_laws.specs.Laws.{EitherOrder, ExchangesApart}
use Rattle.bt_mapkind.proofs.Keyed.{get-put_under, same_of}
use Rattle.bt_mapkind.proofs.Stays.{no_fit}

-- ---- maps by key
pub get-put_under_other : {X : Type 0} (m : ByKey X) (key other : List ℕ) (x : Option X) → key ≢ other → map.get (put_under m key x) other ≡ map.get m other
get-put_under_other m key other x apart = cases (is_same other key) refl (get-put_under m key other x)
  where
    cases : (b : Bool) → is_same other key ≡ b → map.get (put_under m key x) other ≡ cond b x (map.get m other) → map.get (put_under m key x) other ≡ map.get m other
    cases true same is = absurd (apart (sym (same_of other key same)))
    cases false differ is = is

put_under-either : {X : Type 0} (m : ByKey X) (key other : List ℕ) (x y : Option X) → key ≢ other → put_under (put_under m key x) other y ≡ put_under (put_under m other y) key x
put_under-either m key other x y apart =
    map.same_map nat_list_cmp_total (slice_cmp-IsAntisymmetric nat_cmp-IsAntisymmetric) _ _ (λ k.
    get-put_under (put_under m key x) other k y
    ∙ ap (cond (is_same k other) y) (get-put_under m key k x)
    ∙ cases k (is_same k other) (is_same k key) refl refl
    ∙ sym (ap (cond (is_same k key) x) (get-put_under m other k y))
    ∙ sym (get-put_under (put_under m other y) key k x))
  where
    cases : (k : List ℕ) (p q : Bool) → is_same k other ≡ p → is_same k key ≡ q → cond p y (cond q x (map.get m k)) ≡ cond q x (cond p y (map.get m k))
    cases k true true e f = absurd (apart (sym (same_of k key f) ∙ same_of k other e))
    cases k true false e f = refl
    cases k false q e f = refl

pub entries_apart : (m : ByKey (List ℕ)) (key other : List ℕ) (x y : Option (List ℕ)) → key ≢ other → EitherOrder (Entries m) (Key key x) (Key other y)
entries_apart m key other x y apart = record {
  contents = ap Entries (put_under-either m key other x y apart);
  first = ap (Key key) (get-put_under_other m other key y (λ e. apart (sym e)));
  second = ap (Key other) (get-put_under_other m key other x apart);
}

pub links_apart : (m : ByKey ℕ) (key other : List ℕ) (x y : Option ℕ) → key ≢ other → EitherOrder (Links m) (Link key x) (Link other y)
links_apart m key other x y apart = record {
  contents = ap Links (put_under-either m key other x y apart);
  first = ap (Link key) (get-put_under_other m other key y (λ e. apart (sym e)));
  second = ap (Link other) (get-put_under_other m key other x apart);
}

-- ---- lists by index
pub values_apart : (vs : List (List ℕ)) (key other x y : List ℕ) → index_of key ≢ index_of other → EitherOrder (Values vs) (Key key (Some x)) (Key other (Some y))
values_apart vs key other x y apart = record {
  contents = ap Values (set_comm vs (index_of key) (index_of other) x y apart);
  first = ap (λ v. Key key (Some v)) (get_or-set_other vs (index_of other) (index_of key) y [] apart);
  second = ap (λ v. Key other (Some v)) (get_or-set_other vs (index_of key) (index_of other) x [] (λ e. apart (sym e)));
}

pub slots_apart : (ls : List (Option ℕ)) (key other : List ℕ) (x y : Option ℕ) → index_of key ≢ index_of other → EitherOrder (Slots ls) (Link key x) (Link other y)
slots_apart ls key other x y apart = record {
  contents = ap Slots (set_comm ls (index_of key) (index_of other) x y apart);
  first = ap (Link key) (get_or-set_other ls (index_of other) (index_of key) y None apart);
  second = ap (Link other) (get_or-set_other ls (index_of key) (index_of other) x None (λ e. apart (sym e)));
}

-- ---- any map
-- if the contents are of the type's shape, the keys' places differ in that shape
keys_apart : (s t : Shape) (key other : List ℕ) → s ≡ t → place_in s key ≢ place_in s other → place_in t key ≢ place_in t other
keys_apart s t key other e apart = subst (λ s. place_in s key ≢ place_in s other) e apart

-- every place of a queue or a stack is the whole
pub place_of_items : (a : MapAttr) (b : Back) → shape_of_type a.kind ≡ OfItems → place_of a b ≡ Whole
place_of_items a (Key key _) e = ap (λ s. place_in s key) e
place_of_items a (Ends _ _ _ _) e = refl
place_of_items a (Link key _) e = ap (λ s. place_in s key) e

values_either : (vs : List (List ℕ)) (a : MapAttr) (b other : Back) → shape_of_type a.kind ≡ OfValues → values_fit a vs b ≡ true → values_fit a vs other ≡ true → place_of a b ≢ place_of a other → EitherOrder (Values vs) b other
values_either vs a (Key key (Some x)) (Key other (Some y)) e f g apart = values_apart vs key other x y (λ i. keys_apart _ OfValues key other e apart (ap AtIndex i))
values_either vs a (Key key None) other e f g apart = no_fit f
values_either vs a (Ends _ _ _ _) other e f g apart = no_fit f
values_either vs a (Link _ _) other e f g apart = no_fit f
values_either vs a (Key key (Some x)) (Key other None) e f g apart = no_fit g
values_either vs a (Key key (Some x)) (Ends _ _ _ _) e f g apart = no_fit g
values_either vs a (Key key (Some x)) (Link _ _) e f g apart = no_fit g

entries_either : (m : ByKey (List ℕ)) (a : MapAttr) (b other : Back) → shape_of_type a.kind ≡ OfEntries → entries_fit a m b ≡ true → entries_fit a m other ≡ true → place_of a b ≢ place_of a other → EitherOrder (Entries m) b other
entries_either m a (Key key x) (Key other y) e f g apart = entries_apart m key other x y (λ i. keys_apart _ OfEntries key other e apart (ap AtKey i))
entries_either m a (Ends _ _ _ _) other e f g apart = no_fit f
entries_either m a (Link _ _) other e f g apart = no_fit f
entries_either m a (Key key x) (Ends _ _ _ _) e f g apart = no_fit g
entries_either m a (Key key x) (Link _ _) e f g apart = no_fit g

slots_either : (ls : List (Option ℕ)) (a : MapAttr) (b other : Back) → shape_of_type a.kind ≡ OfSlots → slots_fit a ls b ≡ true → slots_fit a ls other ≡ true → place_of a b ≢ place_of a other → EitherOrder (Slots ls) b other
slots_either ls a (Link key x) (Link other y) e f g apart = slots_apart ls key other x y (λ i. keys_apart _ OfSlots key other e apart (ap AtIndex i))
slots_either ls a (Key _ _) other e f g apart = no_fit f
slots_either ls a (Ends _ _ _ _) other e f g apart = no_fit f
slots_either ls a (Link key x) (Key _ _) e f g apart = no_fit g
slots_either ls a (Link key x) (Ends _ _ _ _) e f g apart = no_fit g

links_either : (m : ByKey ℕ) (a : MapAttr) (b other : Back) → shape_of_type a.kind ≡ OfLinks → links_fit a m b ≡ true → links_fit a m other ≡ true → place_of a b ≢ place_of a other → EitherOrder (Links m) b other
links_either m a (Link key x) (Link other y) e f g apart = links_apart m key other x y (λ i. keys_apart _ OfLinks key other e apart (ap AtKey i))
links_either m a (Key _ _) other e f g apart = no_fit f
links_either m a (Ends _ _ _ _) other e f g apart = no_fit f
links_either m a (Link key x) (Key _ _) e f g apart = no_fit g
links_either m a (Link key x) (Ends _ _ _ _) e f g apart = no_fit g

pub exchanges_apart : (a : MapAttr) (c : Contents) (b other : Back) → ExchangesApart a c b other
exchanges_apart a (Values vs) b other t g apart = values_either vs a b other t.well.shape t.fits g apart
exchanges_apart a (Entries m) b other t g apart = entries_either m a b other t.well.shape t.fits g apart
exchanges_apart a (Items xs) b other t g apart = absurd (apart (place_of_items a b t.well.shape ∙ sym (place_of_items a other t.well.shape)))
exchanges_apart a (Slots ls) b other t g apart = slots_either ls a b other t.well.shape t.fits g apart
exchanges_apart a (Links m) b other t g apart = links_either m a b other t.well.shape t.fits g apart
