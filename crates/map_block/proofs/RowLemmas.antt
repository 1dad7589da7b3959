-- Reading and writing a row of a block.
use Rattle.std.proofs.Common.{◌≡◌, ◌≢◌, ◌⊎◌, inl, inr, ℕ, ◌+◌, ◌-◌, ◌*◌, ◌<◌, ◌≤◌, List, [], ◌++◌, length, take, drop, get_or, set, replicate, refl, sym, subst, ap, ◌∙◌, arith, length-append, length-take, length-drop, get_or-set_same, get_or-set_other, length-set, append_assoc}
use Rattle.std.proofs.lemmas.List.FromFn.{length-map-range_with_len, get_or-map-range_with_len, fill_by_all}
use Rattle.std.proofs.lemmas.List.{take-append-drop, take-append-le, drop-append-le, length-replicate, take-replicate, drop-replicate, get_or-replicate, drop-drop, drop-take, take-take}
use Rattle.std.proofs.Math.Seq.{take-length, take-append_seam, drop-append_seam, drop-append-add}
use Rattle.std.proofs.lemmas.Slice.{drop-append-drop}
use Rattle.std.proofs.lemmas.Bool.{cases_lt}
use Rattle.std.proofs.Math.Nat.{mul-le-mul_right}
use Rattle.std.proofs.Common.{append-nil, add-zero}
use Rattle.std.proofs.Math.ListN.{drop_of_length-le}
use Rattle.std.specs.Prelude.{Vec}
use Rattle.std.specs.Vec.{with_items}
use Rattle.std.specs.List.{All}
use Rattle.std.proofs.lemmas.List.Elements.{All-replicate, All-same}
use Rattle.bt_mapkind.proofs.OfKinds.{replicate_of_all}
use Rattle.bt_mapkind.specs.Atomic.{overwritten, part_of, size_in_bytes, bytes_of, bytes_after}
use Rattle.bt_mapkind.specs.declared.atomic.AtomicOp.{AtomicOp}
use Rattle.bt_mapkind.specs.declared.atomic.AtomicSize.{AtomicSize}
use Rattle.bt_mapkind.specs.declared.atomic.AtomicSize.TheVariants.{Word, DoubleWord}
use Rattle.map_block.specs.Rows.{row_of, rows}

-- ---- a list with other bytes in place
-- what ends before the write
front_only : (xs ys : List ℕ) (from n : ℕ) → from + n ≤ length xs → take n (drop from (xs ++ ys)) ≡ take n (drop from xs)
front_only xs ys from n le =
    ap (take n) (drop-append-le from xs ys (omega arith))
    ∙ take-append-le n (drop from xs) ys (simp length-drop (omega arith))

below_write : (bs o : List ℕ) (at from n : ℕ) → from + n ≤ at → at ≤ length bs → take n (drop from (overwritten bs at o)) ≡ take n (drop from bs)
below_write bs o at from n le within =
    let le' : from + n ≤ length (take at bs) = simp length-take (omega arith) in
    ap (λ l. take n (drop from l)) (append_assoc (take at bs) o (drop (at + length o) bs))
    ∙ front_only (take at bs) (o ++ drop (at + length o) bs) from n le'
    ∙ sym (front_only (take at bs) (drop at bs) from n le')
    ∙ ap (λ l. take n (drop from l)) (take-append-drop at bs)

-- what begins after it
above_write : (bs o : List ℕ) (at from : ℕ) → at + length o ≤ from → at ≤ length bs → drop from (overwritten bs at o) ≡ drop from bs
above_write bs o at from le within = drop-append-drop (at + length o) bs (take at bs ++ o) from le (simp (length-append, length-take) (omega arith))

-- the bytes in the middle of three parts
overwritten-middle : (xs q ys o : List ℕ) → length q ≡ length o → overwritten (xs ++ (q ++ ys)) (length xs) o ≡ xs ++ (o ++ ys)
overwritten-middle xs q ys o same =
    ap (λ l. l ++ o ++ drop (length xs + length o) (xs ++ (q ++ ys))) (take-append_seam xs (q ++ ys))
    ∙ ap (λ l. xs ++ o ++ l) (drop-append-add xs (q ++ ys) (length o) ∙ ap (λ n. drop n (q ++ ys)) (sym same) ∙ drop-append_seam q ys)
    ∙ append_assoc xs o ys

-- a write within one part of three
write_within : (a p q s b o : List ℕ) → length q ≡ length o
    → take (length (p ++ (q ++ s))) (drop (length a) (overwritten (a ++ ((p ++ (q ++ s)) ++ b)) (length a + length p) o))
    ≡ overwritten (p ++ (q ++ s)) (length p) o
write_within a p q s b o same =
    ap (λ l. take (length (p ++ (q ++ s))) (drop (length a) l))
    (ap (λ l. overwritten l (length a + length p) o)
    (ap (λ l. a ++ l) (append_assoc p (q ++ s) b ∙ ap (λ l. p ++ l) (append_assoc q s b)) ∙ sym (append_assoc a p (q ++ (s ++ b))))
    ∙ ap (λ n. overwritten ((a ++ p) ++ (q ++ (s ++ b))) n o) (sym (length-append a p))
    ∙ overwritten-middle (a ++ p) q (s ++ b) o same
    ∙ append_assoc a p (o ++ (s ++ b)))
    ∙ ap (take (length (p ++ (q ++ s)))) (drop-append_seam a (p ++ (o ++ (s ++ b))) ∙ ap (λ l. p ++ l) (sym (append_assoc o s b)) ∙ sym (append_assoc p (o ++ s) b))
    ∙ ap (λ n. take n ((p ++ (o ++ s)) ++ b)) (as_long p q s o same)
    ∙ take-append_seam (p ++ (o ++ s)) b
    ∙ sym (overwritten-middle p q s o same)
  where
    as_long : (p q s o : List ℕ) → length q ≡ length o → length (p ++ (q ++ s)) ≡ length (p ++ (o ++ s))
    as_long p q s o same = simp length-append (omega arith)

-- a write within the middle of three parts
split_write : (a r b o : List ℕ) (off : ℕ) → off + length o ≤ length r → take (length r) (drop (length a) (overwritten (a ++ (r ++ b)) (length a + off) o)) ≡ overwritten r off o
split_write a r b o off le =
    let p : List ℕ = take off r in
    let q : List ℕ = take (length o) (drop off r) in
    let s : List ℕ = drop (length o) (drop off r) in
    let is : p ++ (q ++ s) ≡ r = ap (λ l. take off r ++ l) (take-append-drop (length o) (drop off r)) ∙ take-append-drop off r in
    let p_long : length p ≡ off = simp length-take (omega arith) in
    let q_long : length q ≡ length o = simp (length-take, length-drop) (omega arith) in
    let P : List ℕ → ℕ → Type 0 = λ r k. take (length r) (drop (length a) (overwritten (a ++ (r ++ b)) (length a + k) o)) ≡ overwritten r k o in
    subst (λ r. P r off) is (subst (P (p ++ (q ++ s))) p_long (write_within a p q s b o q_long))

at_write : (bs o : List ℕ) (from off n : ℕ) → off + length o ≤ n → from + n ≤ length bs → take n (drop from (overwritten bs (from + off) o)) ≡ overwritten (take n (drop from bs)) off o
at_write bs o from off n le within =
    let a : List ℕ = take from bs in
    let r : List ℕ = take n (drop from bs) in
    let b : List ℕ = drop n (drop from bs) in
    let is : a ++ (r ++ b) ≡ bs = ap (λ l. take from bs ++ l) (take-append-drop n (drop from bs)) ∙ take-append-drop from bs in
    let a_long : length a ≡ from = simp length-take (omega arith) in
    let r_long : length r ≡ n = simp (length-take, length-drop) (omega arith) in
    let fits : off + length o ≤ length r = omega arith in
    let P : List ℕ → ℕ → ℕ → Type 0 = λ bs from n. take n (drop from (overwritten bs (from + off) o)) ≡ overwritten r off o in
    subst (λ bs. P bs from n) is (subst (λ from. P (a ++ (r ++ b)) from n) a_long (subst (P (a ++ (r ++ b)) (length a)) r_long (split_write a r b o off fits)))

-- ---- rows
pub length-rows : (size count : ℕ) (bytes : List ℕ) → length (rows size count bytes) ≡ count
length-rows size count bytes = length-map-range_with_len (row_of size bytes) 0 count

pub get_or-rows : (size count : ℕ) (bytes : List ℕ) (i : ℕ) (d : List ℕ) → i < count → get_or (rows size count bytes) i d ≡ row_of size bytes i
get_or-rows size count bytes i d lt = get_or-map-range_with_len (row_of size bytes) 0 count i i d lt (omega arith)

-- the rows before an index end where its row begins
row_ends : (size i count : ℕ) → i < count → i * size + size ≤ count * size
row_ends size i count lt = let le : i + 1 ≤ count = omega arith in let h : (i + 1) * size ≤ count * size = mul-le-mul_right size le in omega (arith, h)

-- what a block of rows says of its bytes
pub record IsBlock (size count : ℕ) (bytes : List ℕ) (seen : List (List ℕ)) : Type 0 where
  pub view : rows size count bytes ≡ seen
  pub long : length bytes ≡ count * size

pub count_of : (size count : ℕ) (bytes : List ℕ) (seen : List (List ℕ)) → IsBlock size count bytes seen → length seen ≡ count
count_of size count bytes seen b = sym (ap length b.view) ∙ length-rows size count bytes

pub row_there : (size count : ℕ) (bytes : List ℕ) (seen : List (List ℕ)) (i : ℕ) → IsBlock size count bytes seen → i < length seen → i * size + size ≤ length bytes
row_there size count bytes seen i b lt =
    let n : length seen ≡ count = count_of size count bytes seen b in
    let h : i * size + size ≤ count * size = row_ends size i count (omega arith) in
    omega (arith, b.long)

pub row_seen : (size count : ℕ) (bytes : List ℕ) (seen : List (List ℕ)) (i : ℕ) → IsBlock size count bytes seen → i < length seen → get_or seen i [] ≡ row_of size bytes i
row_seen size count bytes seen i b lt =
    let n : length seen ≡ count = count_of size count bytes seen b in
    ap (λ l. get_or l i []) (sym b.view) ∙ get_or-rows size count bytes i [] (omega arith)

pub row_long : (size count : ℕ) (bytes : List ℕ) (seen : List (List ℕ)) (i : ℕ) → IsBlock size count bytes seen → i < length seen → length (get_or seen i []) ≡ size
row_long size count bytes seen i b lt =
    let there : i * size + size ≤ length bytes = row_there size count bytes seen i b lt in
    ap length (row_seen size count bytes seen i b lt) ∙ simp (length-take, length-drop) (omega arith)

-- a row after a write within it, before it and after it
row_written : (size count : ℕ) (bytes : List ℕ) (seen : List (List ℕ)) (i off : ℕ) (o : List ℕ) → IsBlock size count bytes seen → i < length seen → off + length o ≤ size
    → overwritten (get_or seen i []) off o ≡ row_of size (overwritten bytes (i * size + off) o) i
row_written size count bytes seen i off o b lt fits =
    ap (λ r. overwritten r off o) (row_seen size count bytes seen i b lt)
    ∙ sym (at_write bytes o (i * size) off size fits (row_there size count bytes seen i b lt))

row_above : (size count : ℕ) (bytes : List ℕ) (seen : List (List ℕ)) (i k off : ℕ) (o : List ℕ) → IsBlock size count bytes seen → i < length seen → off + length o ≤ size → k < i
    → get_or seen k [] ≡ row_of size (overwritten bytes (i * size + off) o) k
row_above size count bytes seen i k off o b lt fits below =
    let there : i * size + size ≤ length bytes = row_there size count bytes seen i b lt in
    let ends : k * size + size ≤ i * size = row_ends size k i below in
    row_seen size count bytes seen k b (omega arith) ∙ sym (below_write bytes o (i * size + off) (k * size) size (omega arith) (omega arith))

row_below : (size count : ℕ) (bytes : List ℕ) (seen : List (List ℕ)) (i k off : ℕ) (o : List ℕ) → IsBlock size count bytes seen → k < length seen → off + length o ≤ size → i < k
    → get_or seen k [] ≡ row_of size (overwritten bytes (i * size + off) o) k
row_below size count bytes seen i k off o b lt fits above =
    let lt' : i < length seen = omega arith in
    let there : i * size + size ≤ length bytes = row_there size count bytes seen i b lt' in
    let ends : i * size + size ≤ k * size = row_ends size i k above in
    row_seen size count bytes seen k b lt ∙ sym (ap (take size) (above_write bytes o (i * size + off) (k * size) (omega arith) (omega arith)))

-- every row after a write within one
pub rows_written : (size count : ℕ) (bytes : List ℕ) (seen : List (List ℕ)) (i off : ℕ) (o : List ℕ) → IsBlock size count bytes seen → i < length seen → off + length o ≤ length (get_or seen i [])
    → rows size count (overwritten bytes (i * size + off) o) ≡ set seen i (overwritten (get_or seen i []) off o)
rows_written size count bytes seen i off o b lt fits =
    let n : length seen ≡ count = count_of size count bytes seen b in
    let long : length (get_or seen i []) ≡ size = row_long size count bytes seen i b lt in
    sym (fill_by_all (row_of size (overwritten bytes (i * size + off) o)) (set seen i (overwritten (get_or seen i []) off o)) count [] (length-set seen i _ ∙ n)
    (λ k below. each k (omega arith) (omega arith) (cases_lt k i) (cases_lt i k)))
  where
    each : (k : ℕ) → k < length seen → off + length o ≤ size → (k < i) ⊎ (i ≤ k) → (i < k) ⊎ (k ≤ i) → get_or (set seen i (overwritten (get_or seen i []) off o)) k [] ≡ row_of size (overwritten bytes (i * size + off) o) k
    each k below in_row (inl less) more = let other : k ≢ i = omega arith in get_or-set_other seen i k _ [] other ∙ row_above size count bytes seen i k off o b lt in_row less
    each k below in_row (inr ge) (inl more) = let other : k ≢ i = omega arith in get_or-set_other seen i k _ [] other ∙ row_below size count bytes seen i k off o b below in_row more
    each k below in_row (inr ge) (inr le) = let same : i ≡ k = omega arith in
        subst (λ k. get_or (set seen i (overwritten (get_or seen i []) off o)) k [] ≡ row_of size (overwritten bytes (i * size + off) o) k) same
        (get_or-set_same seen i _ [] lt ∙ row_written size count bytes seen i off o b lt in_row)

-- rows of zero bytes
pub rows-zeros : (size count : ℕ) → rows size count (replicate (count * size) 0) ≡ replicate count (replicate size 0)
rows-zeros size count = sym (fill_by_all (row_of size (replicate (count * size) 0)) (replicate count (replicate size 0)) count [] (length-replicate count _) each)
  where
    each : (k : ℕ) → k < count → get_or (replicate count (replicate size 0)) k [] ≡ row_of size (replicate (count * size) 0) k
    each k below =
        let ends : k * size + size ≤ count * size = row_ends size k count below in
        get_or-replicate count k _ [] below
        ∙ sym (ap (take size) (drop-replicate (k * size) (count * size) 0) ∙ take-replicate size (count * size - k * size) 0 (omega arith))

-- if every byte is zero, so is every row
pub zero_rows : (size count : ℕ) (bytes : List ℕ) (seen : List (List ℕ)) → IsBlock size count bytes seen → All (λ byte. byte ≡ 0) bytes → All (All (λ byte. byte ≡ 0)) seen
zero_rows size count bytes seen b zero =
    All-same (All (λ byte. byte ≡ 0)) seen _ (sym b.view ∙ ap (rows size count) (replicate_of_all 0 bytes (count * size) b.long zero) ∙ rows-zeros size count)
    (All-replicate (All (λ byte. byte ≡ 0)) count _ (All-replicate (λ byte. byte ≡ 0) size 0 refl))

-- a write within its row is within the bytes
pub within_bytes : (size count : ℕ) (bytes : List ℕ) (seen : List (List ℕ)) (i off n : ℕ) → IsBlock size count bytes seen → i < length seen → off + n ≤ length (get_or seen i []) → i * size + off + n ≤ length bytes
within_bytes size count bytes seen i off n b lt fits =
    let there : i * size + size ≤ length bytes = row_there size count bytes seen i b lt in
    omega (arith, row_long size count bytes seen i b lt)

-- ---- a whole row
pub overwritten-whole : (row o : List ℕ) → length o ≡ length row → overwritten row 0 o ≡ o
overwritten-whole row o same =
    let past : length row ≤ 0 + length o = omega arith in
    ap (λ l. o ++ l) (drop_of_length-le row past) ∙ append-nil o

pub rows_replaced : (size count : ℕ) (bytes : List ℕ) (seen : List (List ℕ)) (i : ℕ) (o : List ℕ) → IsBlock size count bytes seen → i < length seen → length o ≡ length (get_or seen i [])
    → rows size count (overwritten bytes (i * size) o) ≡ set seen i o
rows_replaced size count bytes seen i o b lt same =
    ap (λ n. rows size count (overwritten bytes n o)) (sym (add-zero (i * size)))
    ∙ rows_written size count bytes seen i 0 o b lt (omega arith)
    ∙ ap (set seen i) (overwritten-whole (get_or seen i []) o same)

pub row_left : (size count : ℕ) (bytes : List ℕ) (seen : List (List ℕ)) (i n : ℕ) → IsBlock size count bytes seen → i < length seen → n ≡ length (get_or seen i []) → part_of bytes (i * size) n ≡ get_or seen i []
row_left size count bytes seen i n b lt same =
    ap (part_of bytes (i * size)) (same ∙ row_long size count bytes seen i b lt) ∙ sym (row_seen size count bytes seen i b lt)

-- a vector after a write through a slice of all of it
pub refilled : {Z : Type 0} (v : Vec ℕ Z) (ws : List ℕ) → length ws ≡ length v.items → (with_items v ws).items ≡ ws
refilled v ws same =
    let n : v.len ≡ length ws = v.ok.0 ∙ sym same in
    let none : length v.items ≤ length ws = omega arith in
    ap (λ l. take v.len (ws ++ l)) (drop_of_length-le v.items none) ∙ ap (take v.len) (append-nil ws) ∙ ap (λ k. take k ws) n ∙ take-length ws

-- a part of a row
pub part_within : (size count : ℕ) (bytes : List ℕ) (seen : List (List ℕ)) (i off n : ℕ) → IsBlock size count bytes seen → i < length seen → off + n ≤ length (get_or seen i []) → part_of bytes (i * size + off) n ≡ part_of (get_or seen i []) off n
part_within size count bytes seen i off n b lt fits =
    let within : off + n ≤ size = omega (arith, row_long size count bytes seen i b lt) in
    ap (take n) (sym (drop-drop off (i * size) bytes))
    ∙ sym (ap (λ r. part_of r off n) (row_seen size count bytes seen i b lt) ∙ inner size off n (drop (i * size) bytes) within)
  where
    inner : (size off n : ℕ) (xs : List ℕ) → off + n ≤ size → take n (drop off (take size xs)) ≡ take n (drop off xs)
    inner size off n xs within =
        let is : size ≡ off + (size - off) = omega arith in
        ap (λ k. take n (drop off (take k xs))) is ∙ ap (take n) (drop-take off (size - off) xs) ∙ take-take n (size - off) (drop off xs) (omega arith)

length-bytes_of : (size : AtomicSize) (n : ℕ) → length (bytes_of size n) ≡ size_in_bytes size
unfolding bytes_of
length-bytes_of Word n = refl
length-bytes_of DoubleWord n = refl

pub rows_combined : (size count : ℕ) (bytes : List ℕ) (seen : List (List ℕ)) (i off : ℕ) (op : AtomicOp) (width : AtomicSize) (operand : ℕ) → IsBlock size count bytes seen → i < length seen → off + size_in_bytes width ≤ length (get_or seen i [])
    → rows size count (overwritten bytes (i * size + off) (bytes_after op width operand (part_of bytes (i * size + off) (size_in_bytes width))))
    ≡ set seen i (overwritten (get_or seen i []) off (bytes_after op width operand (part_of (get_or seen i []) off (size_in_bytes width))))
rows_combined size count bytes seen i off op width operand b lt fits =
    let fits' : off + length (bytes_after op width operand (part_of bytes (i * size + off) (size_in_bytes width))) ≤ length (get_or seen i []) = rw (length-bytes_of width _) fits in
    rows_written size count bytes seen i off _ b lt fits'
    ∙ ap (λ part. set seen i (overwritten (get_or seen i []) off (bytes_after op width operand part))) (part_within size count bytes seen i off (size_in_bytes width) b lt fits)
