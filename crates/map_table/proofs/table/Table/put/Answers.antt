use Rattle.std.proofs.Common.{arith, length, ap}
use Rattle.map_table.proofs.TableLemmas.{len_is, capacity_is, place_within, key_long, value_long, whole_key, whole_value}
use Rattle.map_table.proofs.FoundLemmas.{next_row, row_next, next_unlinked, put_kept}
use Rattle.map_table.proofs.table.Table.put.Goals as goal

pub index-row-requires : goal.index-row-requires
index-row-requires c = omega (arith, c.len.ensures.count, len_is _ _ _ _ _ _ _ c.self.invariant.table c.self.view_is, capacity_is _ _ _ _ _ _ _ c.self.invariant.table c.self.view_is, c.self.invariant.room, c.self.inside.free.ok.0)

pub write-requires-clause-there : goal.write-requires-clause-there
write-requires-clause-there c = row_next _ _ _ _ _ _ _ _ c.self.invariant c.self.view_is _ c.requires.room (next_row _ _ _ _ _ _ _ _ c.self.invariant c.self.view_is _ _ c.len.ensures.count c.requires.room c.index-row.ensures)

pub write-requires-clause-within : goal.write-requires-clause-within
write-requires-clause-within c =
    omega (arith, key_long _ _ _ _ _ _ _ c.self.invariant.table c.self.view_is _ (row_next _ _ _ _ _ _ _ _ c.self.invariant c.self.view_is _ c.requires.room (next_row _ _ _ _ _ _ _ _ c.self.invariant c.self.view_is _ _ c.len.ensures.count c.requires.room c.index-row.ensures)), c.requires.key_size, ap length c.as_slice-bytes.ensures.value)

pub write-requires-2-clause-there : goal.write-requires-2-clause-there
write-requires-2-clause-there c =
    let there = row_next _ _ _ _ _ _ _ _ c.self.invariant c.self.view_is _ c.requires.room (next_row _ _ _ _ _ _ _ _ c.self.invariant c.self.view_is _ _ c.len.ensures.count c.requires.room c.index-row.ensures) in
    rw c.self.invariant.table.value_count there

pub write-requires-2-clause-within : goal.write-requires-2-clause-within
write-requires-2-clause-within c = omega (arith, value_long _ _ _ _ _ _ _ c.self.invariant.table c.self.view_is _ (row_next _ _ _ _ _ _ _ _ c.self.invariant c.self.view_is _ c.requires.room (next_row _ _ _ _ _ _ _ _ c.self.invariant c.self.view_is _ _ c.len.ensures.count c.requires.room c.index-row.ensures)), c.requires.value_size)

pub insert-requires-clause-place : goal.insert-requires-clause-place
insert-requires-clause-place c = place_within _ _ _ _ _ _ _ c.self.invariant.table c.self.view_is c.gap_of-place.result _ c.gap_of-place.ensures

pub insert-requires-clause-room : goal.insert-requires-clause-room
insert-requires-clause-room c = omega (arith, len_is _ _ _ _ _ _ _ c.self.invariant.table c.self.view_is, capacity_is _ _ _ _ _ _ _ c.self.invariant.table c.self.view_is, c.self.invariant.capacity, c.requires.room)

pub bucket_of-bucket-requires : goal.bucket_of-bucket-requires
bucket_of-bucket-requires c = rw c.len-2.ensures c.self.invariant.index.some

pub link-requires-clause-bucket : goal.link-requires-clause-bucket
link-requires-clause-bucket c = rw c.len-2.ensures at c.bucket_of-bucket.ensures.within

pub link-requires-clause-row : goal.link-requires-clause-row
link-requires-clause-row c = rw c.self.invariant.index.rows (row_next _ _ _ _ _ _ _ _ c.self.invariant c.self.view_is _ c.requires.room (next_row _ _ _ _ _ _ _ _ c.self.invariant c.self.view_is _ _ c.len.ensures.count c.requires.room c.index-row.ensures))

pub link-requires-clause-free : goal.link-requires-clause-free
link-requires-clause-free c = next_unlinked _ _ _ _ _ _ _ _ c.self.invariant c.self.view_is _ c.requires.room (next_row _ _ _ _ _ _ _ _ c.self.invariant c.self.view_is _ _ c.len.ensures.count c.requires.room c.index-row.ensures)

pub invariant_of-self : goal.invariant_of-self
invariant_of-self c =
    let read = (next_row _ _ _ _ _ _ _ _ c.self.invariant c.self.view_is _ _ c.len.ensures.count c.requires.room c.index-row.ensures) in
    let there = row_next _ _ _ _ _ _ _ _ c.self.invariant c.self.view_is _ c.requires.room read in
    (put_kept _ _ _ _ _ _ _ _ c.self.invariant c.self.view_is c.gap_of-place.result _ c.bucket_of-bucket.result c.len-2.result c.as_slice-bytes.result.now c.args.key.now c.args.value.now _ _ _ _ c.gap_of-place.ensures c.requires.room c.requires.key_size c.requires.value_size read
    (whole_key _ _ _ _ _ _ _ c.self.invariant.table c.self.view_is _ c.args.key.now c.as_slice-bytes.result.now _ there c.as_slice-bytes.ensures.value c.requires.key_size c.write.ensures) (whole_value _ _ _ _ _ _ _ c.self.invariant.table c.self.view_is _ c.args.value.now _ there c.requires.value_size c.write-2.ensures) c.insert.ensures c.as_slice-bytes.ensures.value c.len-2.ensures c.bucket_of-bucket.ensures.bucket c.link.ensures).invariant

pub returns : goal.returns
returns c =
    let read = (next_row _ _ _ _ _ _ _ _ c.self.invariant c.self.view_is _ _ c.len.ensures.count c.requires.room c.index-row.ensures) in
    let there = row_next _ _ _ _ _ _ _ _ c.self.invariant c.self.view_is _ c.requires.room read in
    (put_kept _ _ _ _ _ _ _ _ c.self.invariant c.self.view_is c.gap_of-place.result _ c.bucket_of-bucket.result c.len-2.result c.as_slice-bytes.result.now c.args.key.now c.args.value.now _ _ _ _ c.gap_of-place.ensures c.requires.room c.requires.key_size c.requires.value_size read
    (whole_key _ _ _ _ _ _ _ c.self.invariant.table c.self.view_is _ c.args.key.now c.as_slice-bytes.result.now _ there c.as_slice-bytes.ensures.value c.requires.key_size c.write.ensures) (whole_value _ _ _ _ _ _ _ c.self.invariant.table c.self.view_is _ c.args.value.now _ there c.requires.value_size c.write-2.ensures) c.insert.ensures c.as_slice-bytes.ensures.value c.len-2.ensures c.bucket_of-bucket.ensures.bucket c.link.ensures).view
