-- The place of what an accepted operation is taken back by.
use Rattle.std.proofs.Common.{◌≡◌, ◌≢◌, ℕ, Bool, true, false, not, ◌==◌, if◌then◌else◌, List, [], ◌∷◌, length, get_or, Option, Some, None, Ok, Err, nat_lt, nat_le, refl, ap, sym, subst, ◌∙◌}
use Rattle.std.specs.FinMap as map
use Rattle.bt_mapkind.specs.declared.attr.MapAttr.{MapAttr}
use Rattle.bt_mapkind.specs.declared.attr.MapType.{MapType}
use Rattle.bt_mapkind.specs.declared.attr.MapType.TheVariants.{LpmTrie}
use Rattle.bt_mapkind.specs.declared.errno.Errno.{Errno}
use Rattle.bt_mapkind.specs.declared.exchange.Back.{Back}
use Rattle.bt_mapkind.specs.declared.exchange.Back.TheVariants.{Key}
use Rattle.bt_mapkind.specs.declared.request.MapOp.{MapOp}
use Rattle.bt_mapkind.specs.declared.request.MapOp.TheVariants.{Update, Delete, Push, Pop, Store, Atomic, SetLink}
use Rattle.bt_mapkind.specs.Attributes.{is_lpm, is_stack}
use Rattle.bt_mapkind.specs.Contents.{Contents, ByKey, Values, Entries, Items, Slots, Links}
use Rattle.bt_mapkind.specs.Index.{index_of}
use Rattle.bt_mapkind.specs.Sizes.{key_fits, value_fits, pair_fits, range_fits}
use Rattle.bt_mapkind.specs.Prefix.{address}
use Rattle.bt_mapkind.specs.declared.atomic.AtomicOp.{AtomicOp}
use Rattle.bt_mapkind.specs.declared.atomic.AtomicSize.{AtomicSize}
use Rattle.bt_mapkind.specs.Atomic.{size_in_bytes}
use Rattle.bt_mapkind.specs.Step.{Changed, Step, unless, is_flag, is_past, part_fault, entry_updated, entry_deleted, with_key, entry_stored, entry_combined, entry_at, oldest_replaced, oldest_popped, newest_taken, newest_popped, slot_cleared, values_step, entries_step, items_step, slots_step, links_step, map_step}
use Rattle.bt_mapkind.specs.Exchange.{exchange_fits, exchanged, rear_of}
use Rattle.bt_mapkind.specs.Well.{IsWell, Shape, OfValues, OfEntries, OfItems, OfSlots, OfLinks, shape_of_type}
use Rattle.map_laws.specs.Place.{Place, Whole, place_of, place_in, place_at, place_of_op}
use Rattle.map_laws.specs.Laws.{ChangesAtItsPlace, forth_of}
use Rattle.bt_mapkind.proofs.Turning.{turning}
use Rattle.bt_mapkind.proofs.Twice.{twice}

-- ---- a key is its own address in every map but an LPM trie
not_lpm : (kind : MapType) (s : Shape) → shape_of_type kind ≡ s → s ≢ OfEntries → is_lpm kind ≡ false
not_lpm LpmTrie s e ne = absurd (ne (sym e))
not_lpm kind s e ne = refl

pub plain_address : (a : MapAttr) (s : Shape) (key : List ℕ) → shape_of_type a.kind ≡ s → s ≢ OfEntries → address a key ≡ Some key
plain_address a s key e ne = rw (not_lpm a.kind s e ne) refl

plain_place : (a : MapAttr) (s : Shape) (key : List ℕ) → shape_of_type a.kind ≡ s → s ≢ OfEntries → place_in (shape_of_type a.kind) key ≡ place_at a (address a key)
plain_place a s key e ne = sym (ap (place_at a) (plain_address a s key e ne))

pub values_no_entries : OfValues ≢ OfEntries
values_no_entries e = cc

pub items_no_entries : OfItems ≢ OfEntries
items_no_entries e = cc

pub slots_no_entries : OfSlots ≢ OfEntries
slots_no_entries e = cc

pub links_no_entries : OfLinks ≢ OfEntries
links_no_entries e = cc

-- ---- the exchange of a step, if it is accepted, is at a place
abbrev BackAt : MapAttr → Place → Step → Type 0
BackAt a p (Ok changed) = place_of a changed.back ≡ p
BackAt a p (Err errno) = Unit {0}

or_fails : (a : MapAttr) (p : Place) (test : Bool) (errno : Errno) (step : Step) → BackAt a p step → BackAt a p (if test then Err errno else step)
or_fails a p true errno step h = tt
or_fails a p false errno step h = h

either : (a : MapAttr) (p : Place) (test : Bool) (step other : Step) → BackAt a p step → BackAt a p other → BackAt a p (if test then step else other)
either a p true step other h g = h
either a p false step other h g = g

unless_fails : (a : MapAttr) (p : Place) (fault : Option Errno) (step : Step) → BackAt a p step → BackAt a p (unless fault step)
unless_fails a p None step h = h
unless_fails a p (Some errno) step h = tt

-- ---- an array
values_at : (a : MapAttr) (vs : List (List ℕ)) (op : MapOp) → shape_of_type a.kind ≡ OfValues → BackAt a (place_of_op a op) (values_step a vs op)
values_at a vs (Update key value flag) e =
    or_fails a _ (not (is_flag flag)) _ _ (or_fails a _ (not (pair_fits a key value)) _ _ (or_fails a _ (is_past vs key) _ _ (or_fails a _ (flag == 1) _ _ (plain_place a OfValues key e values_no_entries))))
values_at a vs (Delete key) e = tt
values_at a vs (Push value flag) e = tt
values_at a vs Pop e = tt
values_at a vs (Store key offset bytes) e = unless_fails a _ (part_fault a vs key offset (length bytes)) _ (plain_place a OfValues key e values_no_entries)
values_at a vs (Atomic key offset size op operand) e = unless_fails a _ (part_fault a vs key offset (size_in_bytes size)) _ (plain_place a OfValues key e values_no_entries)
values_at a vs (SetLink key id flag) e = tt

-- ---- a hash or an LPM trie
updated_at : (a : MapAttr) (m : ByKey (List ℕ)) (stored : Option (List ℕ)) (value : List ℕ) (flag : ℕ) → BackAt a (place_at a stored) (entry_updated a m stored value flag)
updated_at a m None value flag = tt
updated_at a m (Some key) value flag =
    either a _ (map.contains_key m key) _ _ (or_fails a _ (flag == 1) _ _ refl)
    (or_fails a _ (flag == 2) _ _ (or_fails a _ (nat_le a.max_entries (map.len m)) _ _ refl))

deleted_at : (a : MapAttr) (m : ByKey (List ℕ)) (stored : Option (List ℕ)) → BackAt a (place_at a stored) (entry_deleted m stored)
deleted_at a m None = tt
deleted_at a m (Some key) = either a _ (map.contains_key m key) _ _ refl tt

stored_at : (a : MapAttr) (m : ByKey (List ℕ)) (key : List ℕ) (value : Option (List ℕ)) (offset : ℕ) (bytes : List ℕ) → BackAt a (place_at a (Some key)) (entry_stored a m (with_key key value) offset bytes)
stored_at a m key None offset bytes = tt
stored_at a m key (Some value) offset bytes = or_fails a _ (not (range_fits a offset (length bytes))) _ _ refl

stores_at : (a : MapAttr) (m : ByKey (List ℕ)) (stored : Option (List ℕ)) (offset : ℕ) (bytes : List ℕ) → BackAt a (place_at a stored) (entry_stored a m (entry_at m stored) offset bytes)
stores_at a m None offset bytes = tt
stores_at a m (Some key) offset bytes = stored_at a m key (map.get m key) offset bytes

combined_at : (a : MapAttr) (m : ByKey (List ℕ)) (key : List ℕ) (value : Option (List ℕ)) (offset : ℕ) (size : AtomicSize) (op : AtomicOp) (operand : ℕ) → BackAt a (place_at a (Some key)) (entry_combined a m (with_key key value) offset size op operand)
combined_at a m key None offset size op operand = tt
combined_at a m key (Some value) offset size op operand = or_fails a _ (not (range_fits a offset (size_in_bytes size))) _ _ refl

combines_at : (a : MapAttr) (m : ByKey (List ℕ)) (stored : Option (List ℕ)) (offset : ℕ) (size : AtomicSize) (op : AtomicOp) (operand : ℕ) → BackAt a (place_at a stored) (entry_combined a m (entry_at m stored) offset size op operand)
combines_at a m None offset size op operand = tt
combines_at a m (Some key) offset size op operand = combined_at a m key (map.get m key) offset size op operand

entries_at : (a : MapAttr) (m : ByKey (List ℕ)) (op : MapOp) → BackAt a (place_of_op a op) (entries_step a m op)
entries_at a m (Update key value flag) =
    or_fails a _ (not (is_flag flag)) _ _ (or_fails a _ (not (pair_fits a key value)) _ _ (updated_at a m (address a key) value flag))
entries_at a m (Delete key) = or_fails a _ (not (key_fits a key)) _ _ (deleted_at a m (address a key))
entries_at a m (Push value flag) = tt
entries_at a m Pop = tt
entries_at a m (Store key offset bytes) = or_fails a _ (not (key_fits a key)) _ _ (stores_at a m (address a key) offset bytes)
entries_at a m (Atomic key offset size op operand) =
    or_fails a _ (not (key_fits a key)) _ _ (combines_at a m (address a key) offset size op operand)
entries_at a m (SetLink key id flag) = tt

-- ---- a queue or a stack
replaced_at : (a : MapAttr) (xs : List (List ℕ)) (value : List ℕ) → BackAt a Whole (oldest_replaced xs value)
replaced_at a [] value = tt
replaced_at a (x ∷ xs) value = refl

oldest_at : (a : MapAttr) (xs : List (List ℕ)) → BackAt a Whole (oldest_popped xs)
oldest_at a [] = tt
oldest_at a (x ∷ xs) = refl

taken_at : (a : MapAttr) (item : Option (List ℕ)) (others : List (List ℕ)) → BackAt a Whole (newest_taken item others)
taken_at a None others = tt
taken_at a (Some item) others = refl

items_at : (a : MapAttr) (xs : List (List ℕ)) (op : MapOp) → BackAt a (place_of_op a op) (items_step a xs op)
items_at a xs (Update key value flag) = tt
items_at a xs (Delete key) = tt
items_at a xs (Push value flag) =
    or_fails a _ (not (is_flag flag)) _ _ (or_fails a _ (not (value_fits a value)) _ _ (or_fails a _ (flag == 1) _ _
    (either a _ (nat_lt (length xs) a.max_entries) _ _ refl (either a _ (flag == 2) _ _ (replaced_at a xs value) tt))))
items_at a xs Pop = either a Whole (is_stack a.kind) (newest_popped xs) (oldest_popped xs) (taken_at a (rear_of true xs).0 (rear_of true xs).1) (oldest_at a xs)
items_at a xs (Store key offset bytes) = tt
items_at a xs (Atomic key offset size op operand) = tt
items_at a xs (SetLink key id flag) = tt

-- ---- maps of ids
cleared_at : (a : MapAttr) (ls : List (Option ℕ)) (key : List ℕ) (id : Option ℕ) → BackAt a (place_in (shape_of_type a.kind) key) (slot_cleared ls key id)
cleared_at a ls key None = tt
cleared_at a ls key (Some id) = refl

slots_at : (a : MapAttr) (ls : List (Option ℕ)) (op : MapOp) → shape_of_type a.kind ≡ OfSlots → BackAt a (place_of_op a op) (slots_step a ls op)
slots_at a ls (Update key value flag) e = tt
slots_at a ls (Delete key) e =
    or_fails a _ (not (key_fits a key)) _ _ (or_fails a _ (is_past ls key) _ _
    (subst (λ p. BackAt a p (slot_cleared ls key (get_or ls (index_of key) None))) (plain_place a OfSlots key e slots_no_entries) (cleared_at a ls key (get_or ls (index_of key) None))))
slots_at a ls (Push value flag) e = tt
slots_at a ls Pop e = tt
slots_at a ls (Store key offset bytes) e = tt
slots_at a ls (Atomic key offset size op operand) e = tt
slots_at a ls (SetLink key id flag) e =
    or_fails a _ (not (key_fits a key)) _ _ (or_fails a _ (not (flag == 0)) _ _ (or_fails a _ (is_past ls key) _ _ (plain_place a OfSlots key e slots_no_entries)))

links_at : (a : MapAttr) (m : ByKey ℕ) (op : MapOp) → shape_of_type a.kind ≡ OfLinks → BackAt a (place_of_op a op) (links_step a m op)
links_at a m (Update key value flag) e = tt
links_at a m (Delete key) e =
    or_fails a _ (not (key_fits a key)) _ _ (either a _ (map.contains_key m key) _ _ (plain_place a OfLinks key e links_no_entries) tt)
links_at a m (Push value flag) e = tt
links_at a m Pop e = tt
links_at a m (Store key offset bytes) e = tt
links_at a m (Atomic key offset size op operand) e = tt
links_at a m (SetLink key id flag) e =
    let at = plain_place a OfLinks key e links_no_entries in
    or_fails a _ (not (is_flag flag)) _ _ (or_fails a _ (not (key_fits a key)) _ _
    (either a _ (map.contains_key m key) _ _ (or_fails a _ (flag == 1) _ _ at)
    (or_fails a _ (flag == 2) _ _ (or_fails a _ (nat_le a.max_entries (map.len m)) _ _ at))))

-- ---- any map
step_at : (a : MapAttr) (c : Contents) (op : MapOp) → IsWell a c → BackAt a (place_of_op a op) (map_step a c op)
step_at a (Values vs) op w = values_at a vs op w.shape
step_at a (Entries m) op w = entries_at a m op
step_at a (Items xs) op w = items_at a xs op
step_at a (Slots ls) op w = slots_at a ls op w.shape
step_at a (Links m) op w = links_at a m op w.shape

-- an exchange keeps its place when it is turned
pub place_of-exchanged : (a : MapAttr) (c : Contents) (b : Back) → place_of a (exchanged c b).1 ≡ place_of a b
place_of-exchanged a (Values vs) (Key key None) = refl
place_of-exchanged a (Values vs) b = refl
place_of-exchanged a (Entries m) (Key key x) = refl
place_of-exchanged a (Entries m) b = refl
place_of-exchanged a (Items xs) (Key key x) = refl
place_of-exchanged a (Items xs) b = refl
place_of-exchanged a (Slots ls) (Key key x) = refl
place_of-exchanged a (Slots ls) b = refl
place_of-exchanged a (Links m) (Key key x) = refl
place_of-exchanged a (Links m) b = refl

pub changes_at_its_place : (a : MapAttr) (c : Contents) (op : MapOp) (changed : Changed) → ChangesAtItsPlace a c op changed
changes_at_its_place a c op changed w e =
    let t = turning a c op changed w e in
    let back : exchanged changed.contents changed.back ≡ (c, t.forth) =
    ap (λ (r : Contents × Back). exchanged r.0 r.1) (sym t.turned) ∙ twice a c t.forth t.fits in
    let forth : t.forth ≡ forth_of changed = sym (ap (λ (r : Contents × Back). r.1) back) in
    let at : place_of a changed.back ≡ place_of_op a op = subst (BackAt a (place_of_op a op)) e (step_at a c op w) in
    record {
      fits = subst (λ f. exchange_fits a c f ≡ true) forth t.fits;
      turned = subst (λ f. exchanged c f ≡ (changed.contents, changed.back)) forth t.turned;
      forth_place = place_of-exchanged a changed.contents changed.back ∙ at;
      back_place = at;
    }
