-- What was put is found, and what stands elsewhere is as before.
use Rattle.std.proofs.Common.{◌≡◌, ◌≢◌, ℕ, zero, suc, ◌<◌, Bool, true, false, not, ◌==◌, if◌then◌else◌, List, [], ◌∷◌, length, set, slice_get, Option, Some, None, Ok, Err, nat_le, refl, ap, sym, subst, ◌∙◌, arith, ◌⊎◌, inl, inr}
use Rattle.std.proofs.lemmas.Bool.Decides.{nat_tests}
use Rattle.std.proofs.lemmas.List.{get_or-set_other, get_or-set_same}
use Rattle.std.specs.FinMap as map
use Rattle.bt_mapkind.specs.declared.attr.MapAttr.{MapAttr}
use Rattle.bt_mapkind.specs.declared.errno.Errno.{Errno}
use Rattle.bt_mapkind.specs.declared.errno.Errno.TheVariants.{EINVAL}
use Rattle.bt_mapkind.specs.declared.exchange.Back.{Back}
use Rattle.bt_mapkind.specs.declared.exchange.Back.TheVariants.{Key, Ends, Link}
use Rattle.bt_mapkind.specs.declared.request.MapOp.{MapOp}
use Rattle.bt_mapkind.specs.declared.request.MapOp.TheVariants.{Update, SetLink}
use Rattle.bt_mapkind.specs.Attributes.{is_lpm}
use Rattle.bt_mapkind.specs.Contents.{Contents, ByKey, Values, Entries, Items, Slots, Links}
use Rattle.bt_mapkind.specs.Index.{index_of}
use Rattle.bt_mapkind.specs.Sizes.{key_fits, pair_fits}
use Rattle.bt_mapkind.specs.Prefix.{address, longest_match}
use Rattle.bt_mapkind.specs.Step.{Changed, Step, is_flag, is_past, entry_updated, values_step, slots_step, links_step, map_step}
use Rattle.bt_mapkind.specs.Read.{Read, entry_found, found, found_at}
use Rattle.bt_mapkind.specs.Exchange.{exchange_fits, exchanged}
use Rattle.bt_mapkind.specs.Well.{IsWell, Shape, OfValues, OfEntries, OfSlots, OfLinks, shape_of_type}
use Rattle.map_laws.specs.Place.{Place, AtIndex, AtKey, place_of, place_in, place_at}
use Rattle.map_laws.specs.Standing.{value_at, id_at, SameAt, looked_up}
use Rattle.map_laws.specs.Laws.{forth_of, ValueStands, IdStands, OthersStay, LooksUpItsPlace}
use Rattle.bt_mapkind.proofs.Stays.{no_fit}
use Rattle.bt_mapkind.proofs.Keyed.{get-put_under_same}
use Rattle.map_laws.proofs.Apart.{get-put_under_other}
use Rattle.map_laws.proofs.AtPlaces.{plain_address, changes_at_its_place, values_no_entries, slots_no_entries, links_no_entries}

-- ---- an element of a list after a write
slice_get-set_other : {X : Type 0} (xs : List X) (i j : ℕ) (x : X) → j ≢ i → slice_get (set xs i x) j ≡ slice_get xs j
slice_get-set_other [] i j x apart = refl
slice_get-set_other (y ∷ ys) zero zero x apart = absurd (apart refl)
slice_get-set_other (y ∷ ys) zero (suc j) x apart = refl
slice_get-set_other (y ∷ ys) (suc i) zero x apart = refl
slice_get-set_other (y ∷ ys) (suc i) (suc j) x apart = slice_get-set_other ys i j x (λ e. apart (ap suc e))

slice_get-set_same : {X : Type 0} (xs : List X) (i : ℕ) (x : X) → i < length xs → slice_get (set xs i x) i ≡ Some x
slice_get-set_same [] i x below = absurd (omega arith)
slice_get-set_same (y ∷ ys) zero x below = refl
slice_get-set_same (y ∷ ys) (suc i) x below = slice_get-set_same ys i x (omega arith)

-- ---- every place but the exchange's
index_place : (s : Shape) (key : List ℕ) (n : ℕ) → s ≡ OfValues ⊎ s ≡ OfSlots → AtIndex n ≢ place_in s key → n ≢ index_of key
index_place s key n (inl e) apart is = apart (ap AtIndex is ∙ sym (ap (λ s. place_in s key) e))
index_place s key n (inr e) apart is = apart (ap AtIndex is ∙ sym (ap (λ s. place_in s key) e))

key_place : (s : Shape) (key other : List ℕ) → s ≡ OfEntries ⊎ s ≡ OfLinks → AtKey other ≢ place_in s key → key ≢ other
key_place s key other (inl e) apart is = apart (ap AtKey (sym is) ∙ sym (ap (λ s. place_in s key) e))
key_place s key other (inr e) apart is = apart (ap AtKey (sym is) ∙ sym (ap (λ s. place_in s key) e))

others_as_before : (a : MapAttr) (c : Contents) (b : Back) (p : Place) → IsWell a c → exchange_fits a c b ≡ true → p ≢ place_of a b → SameAt c (exchanged c b).0 p
others_as_before a (Values vs) (Key key None) p w f apart = no_fit f
others_as_before a (Values vs) (Key key (Some v)) (AtIndex n) w f apart =
    record { value = slice_get-set_other vs (index_of key) n v (index_place _ key n (inl w.shape) apart); id = refl }
others_as_before a (Values vs) (Key key (Some v)) p w f apart = record { value = refl; id = refl }
others_as_before a (Values vs) (Ends _ _ _ _) p w f apart = no_fit f
others_as_before a (Values vs) (Link _ _) p w f apart = no_fit f
others_as_before a (Entries m) (Key key x) (AtKey other) w f apart =
    record { value = get-put_under_other m key other x (key_place _ key other (inl w.shape) apart); id = refl }
others_as_before a (Entries m) (Key key x) p w f apart = record { value = refl; id = refl }
others_as_before a (Entries m) (Ends _ _ _ _) p w f apart = no_fit f
others_as_before a (Entries m) (Link _ _) p w f apart = no_fit f
others_as_before a (Items xs) (Key _ _) p w f apart = no_fit f
others_as_before a (Items xs) (Ends _ _ _ _) p w f apart = record { value = refl; id = refl }
others_as_before a (Items xs) (Link _ _) p w f apart = no_fit f
others_as_before a (Slots ls) (Key _ _) p w f apart = no_fit f
others_as_before a (Slots ls) (Ends _ _ _ _) p w f apart = no_fit f
others_as_before a (Slots ls) (Link key x) (AtIndex n) w f apart =
    record { value = refl; id = get_or-set_other ls (index_of key) n x None (index_place _ key n (inr w.shape) apart) }
others_as_before a (Slots ls) (Link key x) p w f apart = record { value = refl; id = refl }
others_as_before a (Links m) (Key _ _) p w f apart = no_fit f
others_as_before a (Links m) (Ends _ _ _ _) p w f apart = no_fit f
others_as_before a (Links m) (Link key x) (AtKey other) w f apart =
    record { value = refl; id = get-put_under_other m key other x (key_place _ key other (inr w.shape) apart) }
others_as_before a (Links m) (Link key x) p w f apart = record { value = refl; id = refl }

pub others_stay : (a : MapAttr) (c : Contents) (op : MapOp) (changed : Changed) (p : Place) → OthersStay a c op changed p
others_stay a c op changed p w e apart =
    let t = changes_at_its_place a c op changed w e in
    subst (λ (r : Contents × Back). SameAt c r.0 p) t.turned (others_as_before a c (forth_of changed) p w t.fits (λ is. apart (is ∙ t.forth_place)))

-- ---- a fact of a step, if it is accepted
abbrev IfAccepted : (Changed → Type 0) → Step → Type 0
IfAccepted P (Ok changed) = P changed
IfAccepted P (Err errno) = Unit {0}

or_fails : (P : Changed → Type 0) (test : Bool) (errno : Errno) (step : Step) → (test ≡ false → IfAccepted P step) → IfAccepted P (if test then Err errno else step)
or_fails P true errno step h = tt
or_fails P false errno step h = h refl

either : (P : Changed → Type 0) (test : Bool) (step other : Step) → IfAccepted P step → IfAccepted P other → IfAccepted P (if test then step else other)
either P true step other h g = h
either P false step other h g = g

-- ---- a value that was put
abbrev HasValue : Place → List ℕ → Changed → Type 0
HasValue p value changed = value_at changed.contents p ≡ Some value

below_of_not_past : (m n : ℕ) → nat_le m n ≡ false → n < m
below_of_not_past m n e = grind (arith, nat_tests)

-- the place of a key that is its own address
place_of_key : (a : MapAttr) (s : Shape) (key : List ℕ) → shape_of_type a.kind ≡ s → s ≢ OfEntries → place_at a (address a key) ≡ place_in s key
place_of_key a s key e plain = ap (place_at a) (plain_address a s key e plain) ∙ ap (λ s. place_in s key) e

value_in_array : (a : MapAttr) (vs : List (List ℕ)) (key value : List ℕ) (flag : ℕ) → IfAccepted (HasValue (AtIndex (index_of key)) value) (values_step a vs (Update key value flag))
value_in_array a vs key value flag =
    let P = HasValue (AtIndex (index_of key)) value in
    or_fails P (not (is_flag flag)) _ _ (λ _. or_fails P (not (pair_fits a key value)) _ _ (λ _. or_fails P (is_past vs key) _ _ (λ within. or_fails P (flag == 1) _ _ (λ _.
    slice_get-set_same vs (index_of key) value (below_of_not_past _ _ within)))))

value_in_entries : (a : MapAttr) (m : ByKey (List ℕ)) (s : Option (List ℕ)) (value : List ℕ) (flag : ℕ) → shape_of_type a.kind ≡ OfEntries → IfAccepted (HasValue (place_at a s) value) (entry_updated a m s value flag)
value_in_entries a m None value flag e = tt
value_in_entries a m (Some key) value flag e =
    let P = HasValue (place_in (shape_of_type a.kind) key) value in
    let there : value_at (Entries (map.insert m key value)) (place_in (shape_of_type a.kind) key) ≡ Some value =
    ap (λ s. value_at (Entries (map.insert m key value)) (place_in s key)) e ∙ get-put_under_same m key (Some value) in
    either P (map.contains_key m key) _ _ (or_fails P (flag == 1) _ _ (λ _. there))
    (or_fails P (flag == 2) _ _ (λ _. or_fails P (nat_le a.max_entries (map.len m)) _ _ (λ _. there)))

value_in : (a : MapAttr) (c : Contents) (key value : List ℕ) (flag : ℕ) → IsWell a c → IfAccepted (HasValue (place_at a (address a key)) value) (map_step a c (Update key value flag))
value_in a (Values vs) key value flag w =
    subst (λ p. IfAccepted (HasValue p value) (values_step a vs (Update key value flag))) (sym (place_of_key a OfValues key w.shape values_no_entries)) (value_in_array a vs key value flag)
value_in a (Entries m) key value flag w =
    let P = HasValue (place_at a (address a key)) value in
    or_fails P (not (is_flag flag)) _ _ (λ _. or_fails P (not (pair_fits a key value)) _ _ (λ _. value_in_entries a m (address a key) value flag w.shape))
value_in a (Items xs) key value flag w = tt
value_in a (Slots ls) key value flag w = tt
value_in a (Links m) key value flag w = tt

pub value_stands : (a : MapAttr) (c : Contents) (key value : List ℕ) (flag : ℕ) (changed : Changed) → ValueStands a c key value flag changed
value_stands a c key value flag changed w e = subst (IfAccepted (HasValue (place_at a (address a key)) value)) e (value_in a c key value flag w)

-- ---- an id that was put
abbrev HasId : Place → ℕ → Changed → Type 0
HasId p id changed = id_at changed.contents p ≡ Some id

id_in_slots : (a : MapAttr) (ls : List (Option ℕ)) (key : List ℕ) (id flag : ℕ) → IfAccepted (HasId (AtIndex (index_of key)) id) (slots_step a ls (SetLink key id flag))
id_in_slots a ls key id flag =
    let P = HasId (AtIndex (index_of key)) id in
    or_fails P (not (key_fits a key)) _ _ (λ _. or_fails P (not (flag == 0)) _ _ (λ _. or_fails P (is_past ls key) _ _ (λ within.
    get_or-set_same ls (index_of key) (Some id) None (below_of_not_past _ _ within))))

id_in_links : (a : MapAttr) (m : ByKey ℕ) (key : List ℕ) (id flag : ℕ) → IfAccepted (HasId (AtKey key) id) (links_step a m (SetLink key id flag))
id_in_links a m key id flag =
    let P = HasId (AtKey key) id in
    let there : map.get (map.insert m key id) key ≡ Some id = get-put_under_same m key (Some id) in
    or_fails P (not (is_flag flag)) _ _ (λ _. or_fails P (not (key_fits a key)) _ _ (λ _.
    either P (map.contains_key m key) _ _ (or_fails P (flag == 1) _ _ (λ _. there))
    (or_fails P (flag == 2) _ _ (λ _. or_fails P (nat_le a.max_entries (map.len m)) _ _ (λ _. there)))))

id_in : (a : MapAttr) (c : Contents) (key : List ℕ) (id flag : ℕ) → IsWell a c → IfAccepted (HasId (place_at a (address a key)) id) (map_step a c (SetLink key id flag))
id_in a (Values vs) key id flag w = tt
id_in a (Entries m) key id flag w = tt
id_in a (Items xs) key id flag w = tt
id_in a (Slots ls) key id flag w =
    subst (λ p. IfAccepted (HasId p id) (slots_step a ls (SetLink key id flag))) (sym (place_of_key a OfSlots key w.shape slots_no_entries)) (id_in_slots a ls key id flag)
id_in a (Links m) key id flag w =
    subst (λ p. IfAccepted (HasId p id) (links_step a m (SetLink key id flag))) (sym (place_of_key a OfLinks key w.shape links_no_entries)) (id_in_links a m key id flag)

pub id_stands : (a : MapAttr) (c : Contents) (key : List ℕ) (id flag : ℕ) (changed : Changed) → IdStands a c key id flag changed
id_stands a c key id flag changed w e = subst (IfAccepted (HasId (place_at a (address a key)) id)) e (id_in a c key id flag w)

-- ---- a look-up
pub fits_reads : (fits : Bool) (read : Read) → fits ≡ true → (if not fits then Err EINVAL else read) ≡ read
fits_reads true read e = refl
fits_reads false read e = no_fit e

own_address : (a : MapAttr) (key : List ℕ) → is_lpm a.kind ≡ false → address a key ≡ Some key
own_address a key e = rw e refl

pub looks_up : (a : MapAttr) (c : Contents) (key : List ℕ) → LooksUpItsPlace a c key
looks_up a (Values vs) key w plain fits =
    fits_reads (key_fits a key) _ fits ∙ ap (looked_up (Values vs) key) (sym (place_of_key a OfValues key w.shape values_no_entries))
looks_up a (Entries m) key w plain fits =
    fits_reads (key_fits a key) _ fits ∙ ap (λ s. Ok (entry_found a m key s)) (own_address a key plain)
    ∙ ap (λ (lpm : Bool). Ok (if lpm then found (longest_match m key) else found_at key (map.get m key))) plain
    ∙ ap (looked_up (Entries m) key) (sym (ap (place_at a) (own_address a key plain) ∙ ap (λ s. place_in s key) w.shape))
looks_up a (Items xs) key w plain fits = refl
looks_up a (Slots ls) key w plain fits =
    fits_reads (key_fits a key) _ fits ∙ ap (looked_up (Slots ls) key) (sym (place_of_key a OfSlots key w.shape slots_no_entries))
looks_up a (Links m) key w plain fits =
    fits_reads (key_fits a key) _ fits ∙ ap (looked_up (Links m) key) (sym (place_of_key a OfLinks key w.shape links_no_entries))
