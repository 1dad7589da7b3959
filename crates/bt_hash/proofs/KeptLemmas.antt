-- The changes of a map of entries whose exchange is kept follow the table.
use Rattle.std.proofs.Common.{◌≡◌, ℕ, ◌+◌, ◌≤◌, Bool, true, false, List, length, Option, Some, None, is_some, not, MatchOption, refl, ap, ◌∙◌, arith}
use Rattle.std.specs.FinMap as map
use Rattle.std.proofs.lemmas.Bool.Decides.{nat_tests}
use Rattle.bt_mapkind.specs.declared.attr.MapAttr.{MapAttr}
use Rattle.bt_mapkind.specs.declared.attr.MapType.{MapType}
use Rattle.bt_mapkind.specs.declared.atomic.AtomicOp.{AtomicOp}
use Rattle.bt_mapkind.specs.declared.atomic.AtomicSize.{AtomicSize}
use Rattle.bt_mapkind.specs.declared.exchange.Back.TheVariants.{Key}
use Rattle.bt_mapkind.specs.declared.request.MapOp.TheVariants.{Store, Atomic}
use Rattle.bt_mapkind.specs.declared.request.MapReply.TheVariants.{Done}
use Rattle.bt_mapkind.specs.Atomic.{overwritten, part_of, size_in_bytes, bytes_after}
use Rattle.bt_mapkind.specs.Contents.{ByKey, Entries}
use Rattle.bt_mapkind.specs.Kept.{Kept as KeptBack, room_of}
use Rattle.bt_mapkind.specs.Prefix.{address}
use Rattle.bt_mapkind.specs.Reply.{reply_with}
use Rattle.bt_mapkind.specs.Sizes.{range_fits}
use Rattle.bt_mapkind.specs.Step.{map_step, goes}
use Rattle.bt_mapkind.proofs.Stays.{key_fits_of}
use Rattle.bt_mapkind.proofs.Prefixes.{address_stands}
use Rattle.map_table.specs.Table.{Kept}
use Rattle.bt_hash.specs.Held.{IsHeld, PartFits}
use Rattle.map_table.proofs.TableLemmas.{with_entries}

-- a block that holds every exchange of a map holds that of an entry
pub room_for : {kind : MapType} (a : MapAttr) (table : Kept) (key stored : List ℕ) (room : ℕ) → IsHeld kind a table → length key ≡ a.key_size → address a key ≡ Some stored → room_of a ≤ room → length stored + table.value_size ≤ room
room_for a table key stored room h size at fits =
    let long : length stored ≡ length key = (address_stands a key stored at).key_size in
    omega (arith, long, size, h.value_size, fits)

pub same_room : (m : ByKey (List ℕ)) (key : List ℕ) (before after : KeptBack) → MatchOption (map.get m key) (after ≡ before) (λ value. after ≡ record before { back = Key key (Some value) }) → after.room ≡ before.room
same_room m key before after kept = by_value (map.get m key) kept
  where
    by_value : (found : Option (List ℕ)) → MatchOption found (after ≡ before) (λ value. after ≡ record before { back = Key key (Some value) }) → after.room ≡ before.room
    by_value None is = ap (λ (k : KeptBack). k.room) is
    by_value (Some value) is = ap (λ (k : KeptBack). k.room) is

-- ---- a part of a value
module _ (a : MapAttr) (old new : Kept) (key at : List ℕ) (before after : KeptBack) (stands : address a key ≡ Some at) (there : true ≡ map.contains_key old.entries at)
    (kept : MatchOption (map.get old.entries at) (after ≡ before) (λ value. after ≡ record before { back = Key at (Some value) })) where
  pub stored : (offset : ℕ) (bytes : List ℕ) → PartFits a key offset (length bytes) → MatchOption (map.get old.entries at) (new ≡ old) (λ value. new ≡ with_entries old (map.insert old.entries at (overwritten value offset bytes)))
      → map_step a (Entries old.entries) (Store key offset bytes) ≡ goes (Entries new.entries) Done after.back
  stored offset bytes fits written = by_value (map.get old.entries at) refl written kept
    where
      by_value : (found : Option (List ℕ)) → map.get old.entries at ≡ found → MatchOption found (new ≡ old) (λ value. new ≡ with_entries old (map.insert old.entries at (overwritten value offset bytes)))
          → MatchOption found (after ≡ before) (λ value. after ≡ record before { back = Key at (Some value) })
          → map_step a (Entries old.entries) (Store key offset bytes) ≡ goes (Entries new.entries) Done after.back
      by_value None is w k = let not : true ≡ false = there ∙ ap is_some is in cc
      by_value (Some value) is w k =
          let range : range_fits a offset (length bytes) ≡ true = let within = fits.range in grind (arith, nat_tests) in
          rw (key_fits_of a key fits.key_size, stands, is, range, w, k) (ap (λ (o : Option (List ℕ)). goes (Entries (map.insert old.entries at (overwritten value offset bytes))) Done (Key at o)) is)

  pub combined : (offset : ℕ) (size : AtomicSize) (op : AtomicOp) (operand : ℕ) → PartFits a key offset (size_in_bytes size)
      → MatchOption (map.get old.entries at) (new ≡ old) (λ value. new ≡ with_entries old (map.insert old.entries at (overwritten value offset (bytes_after op size operand (part_of value offset (size_in_bytes size))))))
      → map_step a (Entries old.entries) (Atomic key offset size op operand) ≡ goes (Entries new.entries) (reply_with (Atomic key offset size op operand) after.back) after.back
  combined offset size op operand fits written = by_value (map.get old.entries at) refl written kept
    where
      by_value : (found : Option (List ℕ)) → map.get old.entries at ≡ found → MatchOption found (new ≡ old) (λ value. new ≡ with_entries old (map.insert old.entries at (overwritten value offset (bytes_after op size operand (part_of value offset (size_in_bytes size))))))
          → MatchOption found (after ≡ before) (λ value. after ≡ record before { back = Key at (Some value) })
          → map_step a (Entries old.entries) (Atomic key offset size op operand) ≡ goes (Entries new.entries) (reply_with (Atomic key offset size op operand) after.back) after.back
      by_value None is w k = let not : true ≡ false = there ∙ ap is_some is in cc
      by_value (Some value) is w k =
          let range : range_fits a offset (size_in_bytes size) ≡ true = let within = fits.range in grind (arith, nat_tests) in
          rw (key_fits_of a key fits.key_size, stands, is, range, w, k)
          (ap (λ (o : Option (List ℕ)). goes (Entries (map.insert old.entries at (overwritten value offset (bytes_after op size operand (part_of value offset (size_in_bytes size)))))) (reply_with (Atomic key offset size op operand) (Key at (Some value))) (Key at o)) is)

-- ---- whether an address is new
pub missing_of : (fresh there : Bool) → fresh ≡ not there → fresh ≡ true → false ≡ there
missing_of fresh true told is = cc
missing_of fresh false told is = refl

pub there_of : (fresh there : Bool) → fresh ≡ not there → fresh ≡ false → true ≡ there
there_of fresh true told is = refl
there_of fresh false told is = cc
