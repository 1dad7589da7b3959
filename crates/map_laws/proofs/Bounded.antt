-- What a map holds is made of bytes and of ids of 32 bits, and stays so.
use Rattle.std.proofs.Common.{◌≡◌, ℕ, zero, suc, ◌+◌, ◌-◌, ◌/◌, ◌%◌, ◌^◌, ◌<◌, min, Bool, true, false, not, ◌==◌, if◌then◌else◌, List, [], ◌∷◌, ◌++◌, length, take, drop, get_or, Option, Some, None, Ok, Err, nat_lt, nat_le, refl, ap, sym, subst, ◌∙◌, arith}
use Rattle.std.specs.Bool.{⊤}
use Rattle.std.specs.List.{All}
use Rattle.std.specs.Option.{IfSome, option_to_list}
use Rattle.std.specs.Int.{w32, to_le_bytes}
use Rattle.std.specs.FinMap as map
use Rattle.std.proofs.lemmas.Nat.{div-add-mod', le_bytes_4}
use Rattle.std.proofs.lemmas.List.Elements.{All-nil, All-cons, All-head, All-tail, All-append, All-set, All-take, All-drop, All-replicate}
use Rattle.bt_mapkind.specs.declared.attr.MapAttr.{MapAttr}
use Rattle.bt_mapkind.specs.declared.attr.MapType.{MapType}
use Rattle.bt_mapkind.specs.declared.attr.MapType.TheVariants.{Array, Hash, LpmTrie, Queue, Stack, ArrayOfMaps, ProgArray, HashOfMaps}
use Rattle.bt_mapkind.specs.declared.atomic.AtomicOp.{AtomicOp}
use Rattle.bt_mapkind.specs.declared.atomic.AtomicSize.{AtomicSize}
use Rattle.bt_mapkind.specs.declared.atomic.AtomicSize.TheVariants.{Word, DoubleWord}
use Rattle.bt_mapkind.specs.declared.errno.Errno.{Errno}
use Rattle.bt_mapkind.specs.declared.errno.Errno.TheVariants.{E2BIG, EEXIST, EINVAL, ENOENT}
use Rattle.bt_mapkind.specs.declared.exchange.Back.{Back}
use Rattle.bt_mapkind.specs.declared.exchange.Back.TheVariants.{Key, Ends, Link}
use Rattle.bt_mapkind.specs.declared.request.MapOp.{MapOp}
use Rattle.bt_mapkind.specs.declared.request.MapOp.TheVariants.{Update, Delete, Push, Pop, Store, Atomic, SetLink}
use Rattle.bt_mapkind.specs.declared.request.MapReply.{MapReply}
use Rattle.bt_mapkind.specs.Answers.{IsDone, IsTurned}
use Rattle.bt_mapkind.specs.Attributes.{is_lpm, is_stack}
use Rattle.bt_mapkind.specs.Atomic.{overwritten, part_of, size_in_bytes, bytes_of, bytes_after}
use Rattle.bt_mapkind.specs.Bounds.{IsId, AreBounded, IsBoundedBack, IsBoundedOp}
use Rattle.bt_mapkind.specs.Bytes.{AreBytes}
use Rattle.bt_mapkind.specs.Contents.{Contents, ByKey, Values, Entries, Items, Slots, Links, fresh, fresh_of_type}
use Rattle.bt_mapkind.specs.Exchange.{front_of, newest, rear_of}
use Rattle.bt_mapkind.specs.Index.{index_of}
use Rattle.bt_mapkind.specs.Prefix.{high_bits, masked, has_its_bits, address}
use Rattle.bt_mapkind.specs.Seen.{Seen}
use Rattle.bt_mapkind.specs.Sizes.{key_fits, value_fits, pair_fits, range_fits}
use Rattle.bt_mapkind.specs.Step.{Changed, Step, unless, is_flag, is_past, part_fault, full_errno, entry_updated, entry_deleted, with_key, entry_at, entry_stored, entry_combined, oldest_replaced, oldest_popped, newest_taken, newest_popped, slot_cleared, map_step}
use Rattle.bt_mapkind.specs.Well.{EachEntry}
use Rattle.map_laws.specs.Bounded.{TurnsBounded, ChangesBounded, IsIndexOfOne}
use Rattle.bt_mapkind.proofs.Fresh.{no_entry}
use Rattle.bt_mapkind.proofs.Keyed.{each-put_under}

-- ---- bytes of bytes
abbrev pub IsByte : ℕ → Type 0
IsByte byte = byte < 256

none : AreBytes []
none = All-nil IsByte

overwritten_bytes : (value : List ℕ) (offset : ℕ) (bytes : List ℕ) → AreBytes value → AreBytes bytes → AreBytes (overwritten value offset bytes)
overwritten_bytes value offset bytes v b =
    All-append IsByte (take offset value ++ bytes) _ (All-append IsByte (take offset value) bytes (All-take IsByte offset value v) b) (All-drop IsByte (offset + length bytes) value v)

four : (a b c d : ℕ) (bytes : List ℕ) → AreBytes bytes → AreBytes (a % 256 ∷ b % 256 ∷ c % 256 ∷ d % 256 ∷ bytes)
four a b c d bytes rest = one a (b % 256 ∷ c % 256 ∷ d % 256 ∷ bytes) (one b (c % 256 ∷ d % 256 ∷ bytes) (one c (d % 256 ∷ bytes) (one d bytes rest)))
  where
    one : (n : ℕ) (bytes : List ℕ) → AreBytes bytes → AreBytes (n % 256 ∷ bytes)
    one n bytes rest = All-cons IsByte (n % 256) bytes (omega arith) rest

digits : (size : AtomicSize) (n : ℕ) → AreBytes (bytes_of size n)
unfolding bytes_of
digits Word n = four n (n / 256 ^ 1) (n / 256 ^ 2) (n / 256 ^ 3) [] none
digits DoubleWord n =
    four n (n / 256 ^ 1) (n / 256 ^ 2) (n / 256 ^ 3) (n / 256 ^ 4 % 256 ∷ n / 256 ^ 5 % 256 ∷ n / 256 ^ 6 % 256 ∷ n / 256 ^ 7 % 256 ∷ []) (four (n / 256 ^ 4) (n / 256 ^ 5) (n / 256 ^ 6) (n / 256 ^ 7) [] none)

high_is_byte : (n byte : ℕ) → byte < 256 → high_bits n byte < 256
high_is_byte n byte b = within _ (byte % 2 ^ (8 - n)) byte (div-add-mod' byte (2 ^ (8 - n))) b
  where
    within : (q r n : ℕ) → q + r ≡ n → n < 256 → q < 256
    within q r n is b = omega arith

masked_bytes : (n : ℕ) (bytes : List ℕ) → AreBytes bytes → AreBytes (masked n bytes)
masked_bytes n [] b = none
masked_bytes n (byte ∷ bytes) b =
    All-cons IsByte _ _ (high_is_byte (min n 8) byte (All-head IsByte byte bytes b)) (masked_bytes (n - 8) bytes (All-tail IsByte byte bytes b))

address_bytes : (a : MapAttr) (key : List ℕ) → AreBytes key → IfSome (address a key) AreBytes
address_bytes a key b = cases (is_lpm a.kind) (has_its_bits key)
  where
    cases : (lpm fits : Bool) → IfSome (if lpm then (if fits then Some (take 4 key ++ masked (index_of key) (drop 4 key)) else None) else Some key) AreBytes
    cases true true = All-append IsByte (take 4 key) _ (All-take IsByte 4 key b) (masked_bytes _ (drop 4 key) (All-drop IsByte 4 key b))
    cases true false = tt
    cases false fits = b

-- ---- what is found
element : {X : Type 0} (P : X → Type 0) (xs : List X) (i : ℕ) (d : X) → P d → All P xs → P (get_or xs i d)
element P [] i d other all = other
element P (x ∷ xs) zero d other all = All-head P x xs all
element P (x ∷ xs) (suc i) d other all = element P xs i d other (All-tail P x xs all)

found : {X : Type 0} (P : List ℕ → X → Type 0) (m : ByKey X) (key : List ℕ) → EachEntry m P → IfSome (map.get m key) (P key)
found {X} P m key each = at (map.get m key) refl
  where
    at : (o : Option X) → map.get m key ≡ o → IfSome o (P key)
    at None is = tt
    at (Some x) is = each key x is

the_one : {X : Type 0} (P : X → Type 0) (o : Option X) (x : X) → IfSome o P → o ≡ Some x → P x
the_one {X} P None x p is = cc
the_one {X} P (Some y) x p is = subst P (same y is) p
  where
    same : (y : X) → Some y ≡ Some x → y ≡ x
    same y e = cc

-- ---- a turning
front_bytes : (taken : Bool) (xs : List (List ℕ)) → All AreBytes xs → IfSome (front_of taken xs).0 AreBytes × All AreBytes (front_of taken xs).1
front_bytes false xs all = (tt, all)
front_bytes true [] all = (tt, all)
front_bytes true (x ∷ xs) all = (All-head AreBytes x xs all, All-tail AreBytes x xs all)

newest_bytes : (x : List ℕ) (xs : List (List ℕ)) → All AreBytes (x ∷ xs) → IfSome (newest x xs).0 AreBytes × All AreBytes (newest x xs).1
newest_bytes x [] all = (All-head AreBytes x [] all, All-nil AreBytes)
newest_bytes x (y ∷ ys) all =
    let rest = newest_bytes y ys (All-tail AreBytes x (y ∷ ys) all) in
    (rest.0, All-cons AreBytes x _ (All-head AreBytes x (y ∷ ys) all) rest.1)

rear_bytes : (taken : Bool) (xs : List (List ℕ)) → All AreBytes xs → IfSome (rear_of taken xs).0 AreBytes × All AreBytes (rear_of taken xs).1
rear_bytes false xs all = (tt, all)
rear_bytes true [] all = (tt, all)
rear_bytes true (x ∷ xs) all = newest_bytes x xs all

put_bytes : (o : Option (List ℕ)) → IfSome o AreBytes → All AreBytes (option_to_list o)
put_bytes None p = All-nil AreBytes
put_bytes (Some x) p = All-cons AreBytes x [] p (All-nil AreBytes)

abbrev pub HasId : Option ℕ → Type 0
HasId slot = IfSome slot IsId

pub turned_bounded : (c : Contents) (b : Back) → TurnsBounded c b
turned_bounded (Values vs) (Key key None) w b = (w, b)
turned_bounded (Values vs) (Key key (Some value)) w b = (All-set AreBytes vs (index_of key) value b.1 w, (b.0, element AreBytes vs (index_of key) [] none w))
turned_bounded (Values vs) (Ends _ _ _ _) w b = (w, b)
turned_bounded (Values vs) (Link _ _) w b = (w, b)
turned_bounded (Entries m) (Key key value) w b =
    (each-put_under m key value w (λ new is. (b.0, the_one AreBytes value new b.1 is)), (b.0, second (map.get m key) (found _ m key w)))
  where
    second : (o : Option (List ℕ)) → IfSome o (λ value. AreBytes key × AreBytes value) → IfSome o AreBytes
    second None p = tt
    second (Some v) p = p.1
turned_bounded (Entries m) (Ends _ _ _ _) w b = (w, b)
turned_bounded (Entries m) (Link _ _) w b = (w, b)
turned_bounded (Items xs) (Key _ _) w b = (w, b)
turned_bounded (Items xs) (Ends front rear p q) w b =
    let f = front_bytes front xs w in
    let r = rear_bytes rear (front_of front xs).1 f.1 in
    (All-append AreBytes (option_to_list p) _ (put_bytes p b.0) (All-append AreBytes _ (option_to_list q) r.1 (put_bytes q b.1)), (f.0, r.0))
turned_bounded (Items xs) (Link _ _) w b = (w, b)
turned_bounded (Slots ls) (Key _ _) w b = (w, b)
turned_bounded (Slots ls) (Ends _ _ _ _) w b = (w, b)
turned_bounded (Slots ls) (Link key id) w b = (All-set HasId ls (index_of key) id b.1 w, (b.0, element HasId ls (index_of key) None tt w))
turned_bounded (Links m) (Key _ _) w b = (w, b)
turned_bounded (Links m) (Ends _ _ _ _) w b = (w, b)
turned_bounded (Links m) (Link key id) w b =
    (each-put_under m key id w (λ new is. (b.0, the_one IsId id new b.1 is)), (b.0, second (map.get m key) (found _ m key w)))
  where
    second : (o : Option ℕ) → IfSome o (λ id. AreBytes key × IsId id) → IfSome o IsId
    second None p = tt
    second (Some id) p = p.1

-- ---- a step: what it leaves, if it is accepted, is bounded
abbrev Leaves : Step → Type 0
Leaves (Ok changed) = AreBounded changed.contents × IsBoundedBack changed.back
Leaves (Err errno) = ⊤

past_test : (refuses : Bool) (errno : Errno) (step : Step) → Leaves step → Leaves (if refuses then Err errno else step)
past_test true errno step s = tt
past_test false errno step s = s

if_accepted : (accepts : Bool) (errno : Errno) (step : Step) → Leaves step → Leaves (if accepts then step else Err errno)
if_accepted true errno step s = s
if_accepted false errno step s = tt

either_way : (test : Bool) (step other : Step) → Leaves step → Leaves other → Leaves (if test then step else other)
either_way true step other s o = s
either_way false step other s o = o

past_fault : (fault : Option Errno) (step : Step) → Leaves step → Leaves (unless fault step)
past_fault None step s = s
past_fault (Some errno) step s = tt

combined_bytes : (value : List ℕ) (offset : ℕ) (size : AtomicSize) (op : AtomicOp) (operand : ℕ) → AreBytes value → AreBytes (overwritten value offset (bytes_after op size operand (part_of value offset (size_in_bytes size))))
combined_bytes value offset size op operand v = overwritten_bytes value offset _ v (digits size _)

values_bounded : (a : MapAttr) (vs : List (List ℕ)) (op : MapOp) → All AreBytes vs → IsBoundedOp op → Leaves (map_step a (Values vs) op)
values_bounded a vs (Update key value flag) w b =
    past_test (not (is_flag flag)) EINVAL _ (past_test (not (pair_fits a key value)) EINVAL _ (past_test (is_past vs key) E2BIG _ (past_test (flag == 1) EEXIST _
    (turned_bounded (Values vs) (Key key (Some value)) w b))))
values_bounded a vs (Delete key) w b = tt
values_bounded a vs (Push value flag) w b = tt
values_bounded a vs Pop w b = tt
values_bounded a vs (Store key offset bytes) w b =
    past_fault (part_fault a vs key offset (length bytes)) _
    (turned_bounded (Values vs) (Key key (Some _)) w (b.0, overwritten_bytes _ offset bytes (element AreBytes vs (index_of key) [] none w) b.1))
values_bounded a vs (Atomic key offset size op operand) w b =
    past_fault (part_fault a vs key offset (size_in_bytes size)) _
    (turned_bounded (Values vs) (Key key (Some _)) w (b, combined_bytes _ offset size op operand (element AreBytes vs (index_of key) [] none w)))
values_bounded a vs (SetLink key id flag) w b = tt

entry_set_bounded : (m : ByKey (List ℕ)) (key value : List ℕ) → AreBounded (Entries m) → AreBytes key → AreBytes value → AreBounded (Entries (map.insert m key value)) × IsBoundedBack (Key key (map.get m key))
entry_set_bounded m key value w k v = turned_bounded (Entries m) (Key key (Some value)) w (k, v)

updated_bounded : (a : MapAttr) (m : ByKey (List ℕ)) (stored : Option (List ℕ)) (value : List ℕ) (flag : ℕ) → AreBounded (Entries m) → IfSome stored AreBytes → AreBytes value → Leaves (entry_updated a m stored value flag)
updated_bounded a m None value flag w k v = tt
updated_bounded a m (Some key) value flag w k v =
    let set = entry_set_bounded m key value w k v in
    either_way (map.contains_key m key) _ _ (past_test (flag == 1) EEXIST _ set) (past_test (flag == 2) ENOENT _ (past_test (nat_le a.max_entries (map.len m)) (full_errno a) _ set))

deleted_bounded : (m : ByKey (List ℕ)) (stored : Option (List ℕ)) → AreBounded (Entries m) → IfSome stored AreBytes → Leaves (entry_deleted m stored)
deleted_bounded m None w k = tt
deleted_bounded m (Some key) w k = if_accepted (map.contains_key m key) ENOENT _ (turned_bounded (Entries m) (Key key None) w (k, tt))

at_address : (m : ByKey (List ℕ)) (stored : Option (List ℕ)) → AreBounded (Entries m) → IfSome (entry_at m stored) (λ e. AreBytes e.0 × AreBytes e.1)
at_address m None w = tt
at_address m (Some key) w = with (map.get m key) (found _ m key w)
  where
    with : (o : Option (List ℕ)) → IfSome o (λ value. AreBytes key × AreBytes value) → IfSome (with_key key o) (λ e. AreBytes e.0 × AreBytes e.1)
    with None p = tt
    with (Some value) p = p

stored_bounded : (a : MapAttr) (m : ByKey (List ℕ)) (e : Option (List ℕ × List ℕ)) (offset : ℕ) (bytes : List ℕ) → AreBounded (Entries m) → IfSome e (λ e. AreBytes e.0 × AreBytes e.1) → AreBytes bytes → Leaves (entry_stored a m e offset bytes)
stored_bounded a m None offset bytes w is b = tt
stored_bounded a m (Some e) offset bytes w is b =
    past_test (not (range_fits a offset (length bytes))) EINVAL _ (entry_set_bounded m e.0 _ w is.0 (overwritten_bytes e.1 offset bytes is.1 b))

combined_bounded : (a : MapAttr) (m : ByKey (List ℕ)) (e : Option (List ℕ × List ℕ)) (offset : ℕ) (size : AtomicSize) (op : AtomicOp) (operand : ℕ) → AreBounded (Entries m) → IfSome e (λ e. AreBytes e.0 × AreBytes e.1) → Leaves (entry_combined a m e offset size op operand)
combined_bounded a m None offset size op operand w is = tt
combined_bounded a m (Some e) offset size op operand w is =
    past_test (not (range_fits a offset (size_in_bytes size))) EINVAL _ (entry_set_bounded m e.0 _ w is.0 (combined_bytes e.1 offset size op operand is.1))

entries_bounded : (a : MapAttr) (m : ByKey (List ℕ)) (op : MapOp) → AreBounded (Entries m) → IsBoundedOp op → Leaves (map_step a (Entries m) op)
entries_bounded a m (Update key value flag) w b =
    past_test (not (is_flag flag)) EINVAL _ (past_test (not (pair_fits a key value)) EINVAL _ (updated_bounded a m (address a key) value flag w (address_bytes a key b.0) b.1))
entries_bounded a m (Delete key) w b = past_test (not (key_fits a key)) EINVAL _ (deleted_bounded m (address a key) w (address_bytes a key b))
entries_bounded a m (Push value flag) w b = tt
entries_bounded a m Pop w b = tt
entries_bounded a m (Store key offset bytes) w b =
    past_test (not (key_fits a key)) EINVAL _ (stored_bounded a m _ offset bytes w (at_address m (address a key) w) b.1)
entries_bounded a m (Atomic key offset size op operand) w b =
    past_test (not (key_fits a key)) EINVAL _ (combined_bounded a m _ offset size op operand w (at_address m (address a key) w))
entries_bounded a m (SetLink key id flag) w b = tt

replaced_bounded : (xs : List (List ℕ)) (value : List ℕ) → All AreBytes xs → AreBytes value → Leaves (oldest_replaced xs value)
replaced_bounded [] value w b = tt
replaced_bounded (x ∷ xs) value w b = turned_bounded (Items (x ∷ xs)) (Ends true false None (Some value)) w (tt, b)

oldest_bounded : (xs : List (List ℕ)) → All AreBytes xs → Leaves (oldest_popped xs)
oldest_bounded [] w = tt
oldest_bounded (x ∷ xs) w = (All-tail AreBytes x xs w, (All-head AreBytes x xs w, tt))

taken_bounded : (item : Option (List ℕ)) (others : List (List ℕ)) → IfSome item AreBytes → All AreBytes others → Leaves (newest_taken item others)
taken_bounded None others i w = tt
taken_bounded (Some item) others i w = (w, (tt, i))

popped_bounded : (stack : Bool) (xs : List (List ℕ)) → All AreBytes xs → Leaves (if stack then newest_popped xs else oldest_popped xs)
popped_bounded true xs w = let r = rear_bytes true xs w in taken_bounded _ _ r.0 r.1
popped_bounded false xs w = oldest_bounded xs w

pushed_bounded : (a : MapAttr) (xs : List (List ℕ)) (value : List ℕ) (flag : ℕ) → All AreBytes xs → AreBytes value → Leaves (map_step a (Items xs) (Push value flag))
pushed_bounded a xs value flag w b =
    past_test (not (is_flag flag)) EINVAL _ (past_test (not (value_fits a value)) EINVAL _ (past_test (flag == 1) EINVAL _
    (either_way (nat_lt (length xs) a.max_entries) _ _ (turned_bounded (Items xs) (Ends false false None (Some value)) w (tt, b)) (if_accepted (flag == 2) E2BIG _ (replaced_bounded xs value w b)))))

cleared_bounded : (ls : List (Option ℕ)) (key : List ℕ) (id : Option ℕ) → AreBounded (Slots ls) → AreBytes key → Leaves (slot_cleared ls key id)
cleared_bounded ls key None w k = tt
cleared_bounded ls key (Some id) w k = turned_bounded (Slots ls) (Link key None) w (k, tt)

linked_bounded : (a : MapAttr) (m : ByKey ℕ) (key : List ℕ) (id flag : ℕ) → AreBounded (Links m) → AreBytes key → IsId id → Leaves (map_step a (Links m) (SetLink key id flag))
linked_bounded a m key id flag w k i =
    let set = turned_bounded (Links m) (Link key (Some id)) w (k, i) in
    past_test (not (is_flag flag)) EINVAL _ (past_test (not (key_fits a key)) EINVAL _
    (either_way (map.contains_key m key) _ _ (past_test (flag == 1) EEXIST _ set) (past_test (flag == 2) ENOENT _ (past_test (nat_le a.max_entries (map.len m)) E2BIG _ set))))

step_bounded : (a : MapAttr) (c : Contents) (op : MapOp) → AreBounded c → IsBoundedOp op → Leaves (map_step a c op)
step_bounded a (Values vs) op w b = values_bounded a vs op w b
step_bounded a (Entries m) op w b = entries_bounded a m op w b
step_bounded a (Items xs) (Update key value flag) w b = tt
step_bounded a (Items xs) (Delete key) w b = tt
step_bounded a (Items xs) (Push value flag) w b = pushed_bounded a xs value flag w b
step_bounded a (Items xs) Pop w b = popped_bounded (is_stack a.kind) xs w
step_bounded a (Items xs) (Store key offset bytes) w b = tt
step_bounded a (Items xs) (Atomic key offset size op operand) w b = tt
step_bounded a (Items xs) (SetLink key id flag) w b = tt
step_bounded a (Slots ls) (Update key value flag) w b = tt
step_bounded a (Slots ls) (Delete key) w b =
    past_test (not (key_fits a key)) EINVAL _ (past_test (is_past ls key) E2BIG _ (cleared_bounded ls key (get_or ls (index_of key) None) w b))
step_bounded a (Slots ls) (Push value flag) w b = tt
step_bounded a (Slots ls) Pop w b = tt
step_bounded a (Slots ls) (Store key offset bytes) w b = tt
step_bounded a (Slots ls) (Atomic key offset size op operand) w b = tt
step_bounded a (Slots ls) (SetLink key id flag) w b =
    past_test (not (key_fits a key)) EINVAL _ (past_test (not (flag == 0)) EINVAL _ (past_test (is_past ls key) E2BIG _ (turned_bounded (Slots ls) (Link key (Some id)) w b)))
step_bounded a (Links m) (Update key value flag) w b = tt
step_bounded a (Links m) (Delete key) w b =
    past_test (not (key_fits a key)) EINVAL _ (if_accepted (map.contains_key m key) ENOENT _ (turned_bounded (Links m) (Link key None) w (b, tt)))
step_bounded a (Links m) (Push value flag) w b = tt
step_bounded a (Links m) Pop w b = tt
step_bounded a (Links m) (Store key offset bytes) w b = tt
step_bounded a (Links m) (Atomic key offset size op operand) w b = tt
step_bounded a (Links m) (SetLink key id flag) w b = linked_bounded a m key id flag w b.0 b.1

pub changed_bounded : (a : MapAttr) (c : Contents) (op : MapOp) (changed : Changed) → ChangesBounded a c op changed
changed_bounded a c op changed w b is = subst Leaves is (step_bounded a c op w b)

-- ---- a new map
pub fresh_is_bounded : (a : MapAttr) → AreBounded (fresh a)
fresh_is_bounded a = of a.kind
  where
    of : (kind : MapType) → AreBounded (fresh_of_type kind a.value_size a.max_entries)
    of Array = All-replicate AreBytes _ _ (All-replicate IsByte _ _ (omega arith))
    of Hash = no_entry _
    of LpmTrie = no_entry _
    of Queue = All-nil AreBytes
    of Stack = All-nil AreBytes
    of ArrayOfMaps = All-replicate HasId _ None tt
    of ProgArray = All-replicate HasId _ None tt
    of HashOfMaps = no_entry _

-- ---- keys of four bytes
pub index_of_one : (key other : List ℕ) → IsIndexOfOne key other
unfolding index_of
index_of_one key other k o four also same = sym (again key k four) ∙ ap (to_le_bytes w32) same ∙ again other o also
  where
    again : (bytes : List ℕ) → AreBytes bytes → length bytes ≡ 4 → to_le_bytes w32 (index_of bytes) ≡ bytes
    again bytes b long = le_bytes_4 bytes _ long (λ i. element IsByte bytes i 0 (omega arith) b) refl

-- ---- a map that was changed, or turned
pub done_bounded : (old new : Seen) (op : MapOp) (reply : MapReply) (back : Back) → IsBoundedOp op → IsDone old op reply back new → AreBounded old.contents → AreBounded new.contents
done_bounded old new op reply back b done w = (changed_bounded old.attr old.contents op (record { contents = new.contents; reply = reply; back = back }) w b done.step).0

pub turning_bounded : (old new : Seen) (back left : Back) → IsBoundedBack back → IsTurned old back new left → AreBounded old.contents → AreBounded new.contents
turning_bounded old new back left b turned w =
    subst (λ (p : Contents × Back). AreBounded p.0) turned.exchange (turned_bounded old.contents back w b).0
