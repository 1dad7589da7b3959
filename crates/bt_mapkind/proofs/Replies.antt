-- The reply of every operation that the table accepts follows from its exchange.
use Rattle.std.proofs.Common.{◌≡◌, ℕ, Bool, true, false, not, ◌==◌, if◌then◌else◌, List, [], ◌∷◌, length, get_or, Option, Some, None, Ok, Err, nat_lt, nat_le, refl, ap, sym, subst}
use Rattle.std.specs.FinMap as map
use Rattle.bt_mapkind.specs.declared.attr.MapAttr.{MapAttr}
use Rattle.bt_mapkind.specs.declared.errno.Errno.{Errno}
use Rattle.bt_mapkind.specs.declared.errno.Errno.TheVariants.{ENOENT, E2BIG, EEXIST, EINVAL}
use Rattle.bt_mapkind.specs.declared.atomic.AtomicOp.{AtomicOp}
use Rattle.bt_mapkind.specs.declared.atomic.AtomicSize.{AtomicSize}
use Rattle.bt_mapkind.specs.declared.exchange.Back.{Back}
use Rattle.bt_mapkind.specs.declared.exchange.Back.TheVariants.{Key, Ends, Link}
use Rattle.bt_mapkind.specs.declared.request.MapOp.{MapOp}
use Rattle.bt_mapkind.specs.declared.request.MapOp.TheVariants.{Update, Delete, Push, Pop, Store, Atomic, SetLink}
use Rattle.bt_mapkind.specs.declared.request.MapReply.{MapReply}
use Rattle.bt_mapkind.specs.Attributes.{is_stack}
use Rattle.bt_mapkind.specs.Contents.{Contents, ByKey, Values, Entries, Items, Slots, Links}
use Rattle.bt_mapkind.specs.Index.{index_of}
use Rattle.bt_mapkind.specs.Sizes.{key_fits, value_fits, pair_fits, range_fits}
use Rattle.bt_mapkind.specs.Prefix.{address}
use Rattle.bt_mapkind.specs.Atomic.{part_of, size_in_bytes}
use Rattle.bt_mapkind.specs.Exchange.{rear_of}
use Rattle.bt_mapkind.specs.Kept.{some_bytes}
use Rattle.bt_mapkind.specs.Reply.{reply_with, RepliesWith}
use Rattle.bt_mapkind.specs.Step.{Changed, Step, goes, unless, is_flag, is_past, part_fault, full_errno, entry_updated, entry_deleted, entry_at, entry_stored, entry_combined, atomic_reply, oldest_replaced, oldest_popped, newest_taken, slot_cleared}
use Rattle.bt_mapkind.proofs.Turning.{refused, same_changed, entry_there}

-- the reply of a step, if it is accepted, follows from its exchange
Tells : MapOp → Step → Type 0
Tells op step = (changed : Changed) → step ≡ Ok changed → changed.reply ≡ reply_with op changed.back

-- a step that is refused
never : (op : MapOp) (errno : Errno) → Tells op (Err errno)
unfolding Tells
never op errno changed e = refused e

-- a step that is accepted
told : (op : MapOp) (contents : Contents) (reply : MapReply) (back : Back) → reply ≡ reply_with op back → Tells op (goes contents reply back)
unfolding Tells
told op contents reply back is changed e = subst (λ (c : Changed). c.reply ≡ reply_with op c.back) (same_changed _ _ (goes contents reply back) refl e) is

either : (op : MapOp) (test : Bool) (here there : Step) → Tells op here → Tells op there → Tells op (if test then here else there)
either op true here there h t = h
either op false here there h t = t

-- a test that an accepted step has passed, and one that it has not
passes : (op : MapOp) (test : Bool) (errno : Errno) (step : Step) → Tells op step → Tells op (if not test then Err errno else step)
passes op test errno step t = either op (not test) (Err errno) step (never op errno) t

avoids : (op : MapOp) (test : Bool) (errno : Errno) (step : Step) → Tells op step → Tells op (if test then Err errno else step)
avoids op test errno step t = either op test (Err errno) step (never op errno) t

stands : (op : MapOp) (fault : Option Errno) (step : Step) → Tells op step → Tells op (unless fault step)
stands op None step t = t
stands op (Some errno) step t = never op errno

-- ---- an array
values_tell : (a : MapAttr) (vs : List (List ℕ)) (op : MapOp) (changed : Changed) → RepliesWith a (Values vs) op changed
unfolding Tells
values_tell a vs (Update key value flag) =
    let op = Update key value flag in
    passes op (is_flag flag) EINVAL _ (passes op (pair_fits a key value) EINVAL _ (avoids op (is_past vs key) E2BIG _ (avoids op (flag == 1) EEXIST _ (told op _ _ _ refl))))
values_tell a vs (Delete key) = never (Delete key) EINVAL
values_tell a vs (Push value flag) = never (Push value flag) EINVAL
values_tell a vs Pop = never Pop EINVAL
values_tell a vs (Store key offset bytes) =
    let op = Store key offset bytes in
    stands op (part_fault a vs key offset (length bytes)) _ (told op _ _ (Key key (Some (get_or vs (index_of key) []))) refl)
values_tell a vs (Atomic key offset size op operand) =
    let asked = Atomic key offset size op operand in
    stands asked (part_fault a vs key offset (size_in_bytes size)) _ (told asked _ _ (Key key (Some (get_or vs (index_of key) []))) refl)
values_tell a vs (SetLink key id flag) = never (SetLink key id flag) EINVAL

-- ---- a hash or an LPM trie
update_tells : (a : MapAttr) (m : ByKey (List ℕ)) (key value : List ℕ) (flag : ℕ) (stored : Option (List ℕ)) → Tells (Update key value flag) (entry_updated a m stored value flag)
update_tells a m key value flag None = never _ EINVAL
update_tells a m key value flag (Some stored) =
    let op = Update key value flag in
    either op (map.contains_key m stored) _ _ (avoids op (flag == 1) EEXIST _ (told op _ _ _ refl))
    (avoids op (flag == 2) ENOENT _ (avoids op (nat_le a.max_entries (map.len m)) (full_errno a) _ (told op _ _ _ refl)))

delete_tells : (m : ByKey (List ℕ)) (key : List ℕ) (stored : Option (List ℕ)) → Tells (Delete key) (entry_deleted m stored)
delete_tells m key None = never _ EINVAL
delete_tells m key (Some stored) = either (Delete key) (map.contains_key m stored) _ _ (told _ _ _ _ refl) (never _ ENOENT)

store_tells : (a : MapAttr) (m : ByKey (List ℕ)) (key : List ℕ) (offset : ℕ) (bytes : List ℕ) (e : Option (List ℕ × List ℕ)) → Tells (Store key offset bytes) (entry_stored a m e offset bytes)
store_tells a m key offset bytes None = never _ ENOENT
store_tells a m key offset bytes (Some e) = passes _ (range_fits a offset (length bytes)) EINVAL _ (told _ _ _ _ refl)

combine_tells : (a : MapAttr) (m : ByKey (List ℕ)) (key : List ℕ) (offset : ℕ) (size : AtomicSize) (op : AtomicOp) (operand : ℕ) (e : Option (List ℕ × List ℕ)) → entry_at m (address a key) ≡ e → Tells (Atomic key offset size op operand) (entry_combined a m e offset size op operand)
combine_tells a m key offset size op operand None is = never _ ENOENT
combine_tells a m key offset size op operand (Some e) is =
    let there = (entry_there m (address a key) e is).is in
    passes _ (range_fits a offset (size_in_bytes size)) EINVAL _
    (told _ _ _ _ (ap (λ value. atomic_reply op (part_of (some_bytes value) offset (size_in_bytes size))) (sym there)))

entries_tell : (a : MapAttr) (m : ByKey (List ℕ)) (op : MapOp) (changed : Changed) → RepliesWith a (Entries m) op changed
unfolding Tells
entries_tell a m (Update key value flag) =
    let op = Update key value flag in
    passes op (is_flag flag) EINVAL _ (passes op (pair_fits a key value) EINVAL _ (update_tells a m key value flag (address a key)))
entries_tell a m (Delete key) = passes (Delete key) (key_fits a key) EINVAL _ (delete_tells m key (address a key))
entries_tell a m (Push value flag) = never (Push value flag) EINVAL
entries_tell a m Pop = never Pop EINVAL
entries_tell a m (Store key offset bytes) =
    passes (Store key offset bytes) (key_fits a key) EINVAL _ (store_tells a m key offset bytes (entry_at m (address a key)))
entries_tell a m (Atomic key offset size op operand) =
    passes (Atomic key offset size op operand) (key_fits a key) EINVAL _ (combine_tells a m key offset size op operand (entry_at m (address a key)) refl)
entries_tell a m (SetLink key id flag) = never (SetLink key id flag) EINVAL

-- ---- a queue or a stack
replace_tells : (xs : List (List ℕ)) (value : List ℕ) (flag : ℕ) → Tells (Push value flag) (oldest_replaced xs value)
replace_tells [] value flag = never _ E2BIG
replace_tells (x ∷ xs) value flag = told _ _ _ _ refl

oldest_tells : (xs : List (List ℕ)) → Tells Pop (oldest_popped xs)
oldest_tells [] = never _ ENOENT
oldest_tells (x ∷ xs) = told Pop _ _ (Ends false false (Some x) None) refl

newest_tells : (item : Option (List ℕ)) (others : List (List ℕ)) → Tells Pop (newest_taken item others)
newest_tells None others = never _ ENOENT
newest_tells (Some item) others = told Pop _ _ (Ends false false None (Some item)) refl

items_tell : (a : MapAttr) (xs : List (List ℕ)) (op : MapOp) (changed : Changed) → RepliesWith a (Items xs) op changed
unfolding Tells
items_tell a xs (Update key value flag) = never (Update key value flag) EINVAL
items_tell a xs (Delete key) = never (Delete key) EINVAL
items_tell a xs (Push value flag) =
    let op = Push value flag in
    passes op (is_flag flag) EINVAL _ (passes op (value_fits a value) EINVAL _ (avoids op (flag == 1) EINVAL _
    (either op (nat_lt (length xs) a.max_entries) _ _ (told op _ _ _ refl) (either op (flag == 2) _ _ (replace_tells xs value flag) (never op E2BIG)))))
items_tell a xs Pop = either Pop (is_stack a.kind) _ _ (newest_tells (rear_of true xs).0 (rear_of true xs).1) (oldest_tells xs)
items_tell a xs (Store key offset bytes) = never (Store key offset bytes) EINVAL
items_tell a xs (Atomic key offset size op operand) = never (Atomic key offset size op operand) EINVAL
items_tell a xs (SetLink key id flag) = never (SetLink key id flag) EINVAL

-- ---- maps of ids
clear_tells : (ls : List (Option ℕ)) (key : List ℕ) (id : Option ℕ) → Tells (Delete key) (slot_cleared ls key id)
clear_tells ls key None = never _ ENOENT
clear_tells ls key (Some id) = told _ _ _ _ refl

slots_tell : (a : MapAttr) (ls : List (Option ℕ)) (op : MapOp) (changed : Changed) → RepliesWith a (Slots ls) op changed
unfolding Tells
slots_tell a ls (Update key value flag) = never (Update key value flag) EINVAL
slots_tell a ls (Delete key) =
    passes (Delete key) (key_fits a key) EINVAL _ (avoids (Delete key) (is_past ls key) E2BIG _ (clear_tells ls key (get_or ls (index_of key) None)))
slots_tell a ls (Push value flag) = never (Push value flag) EINVAL
slots_tell a ls Pop = never Pop EINVAL
slots_tell a ls (Store key offset bytes) = never (Store key offset bytes) EINVAL
slots_tell a ls (Atomic key offset size op operand) = never (Atomic key offset size op operand) EINVAL
slots_tell a ls (SetLink key id flag) =
    let op = SetLink key id flag in
    passes op (key_fits a key) EINVAL _ (passes op (flag == 0) EINVAL _ (avoids op (is_past ls key) E2BIG _ (told op _ _ _ refl)))

links_tell : (a : MapAttr) (m : ByKey ℕ) (op : MapOp) (changed : Changed) → RepliesWith a (Links m) op changed
unfolding Tells
links_tell a m (Update key value flag) = never (Update key value flag) EINVAL
links_tell a m (Delete key) =
    passes (Delete key) (key_fits a key) EINVAL _ (either (Delete key) (map.contains_key m key) _ _ (told (Delete key) _ _ (Link key (map.get m key)) refl) (never (Delete key) ENOENT))
links_tell a m (Push value flag) = never (Push value flag) EINVAL
links_tell a m Pop = never Pop EINVAL
links_tell a m (Store key offset bytes) = never (Store key offset bytes) EINVAL
links_tell a m (Atomic key offset size op operand) = never (Atomic key offset size op operand) EINVAL
links_tell a m (SetLink key id flag) =
    let op = SetLink key id flag in
    passes op (is_flag flag) EINVAL _ (passes op (key_fits a key) EINVAL _
    (either op (map.contains_key m key) _ _ (avoids op (flag == 1) EEXIST _ (told op _ _ _ refl))
    (avoids op (flag == 2) ENOENT _ (avoids op (nat_le a.max_entries (map.len m)) E2BIG _ (told op _ _ _ refl)))))

pub replies : (a : MapAttr) (c : Contents) (op : MapOp) (changed : Changed) → RepliesWith a c op changed
replies a (Values vs) op = values_tell a vs op
replies a (Entries m) op = entries_tell a m op
replies a (Items xs) op = items_tell a xs op
replies a (Slots ls) op = slots_tell a ls op
replies a (Links m) op = links_tell a m op
