-- A capture whose packets were read so far.
use Rattle.std.proofs.Common.{◌≡◌, ℕ, ◌+◌, ◌<◌, ◌≤◌, List, [], ◌∷◌, ◌++◌, length, map, drop, sym, ◌∙◌, ap, subst, arith, All, Some, length-append}
use Rattle.std.proofs.lemmas.List.{length-map, map_push}
use Rattle.std.proofs.lemmas.List.Elements.{All-head, All-tail}
use Rattle.std.proofs.lemmas.Option.{same_Some}
use Rattle.thread_frames.specs.Faults.{IsShort}
use Rattle.thread_frames.specs.declared.frame.FrameIn.{FrameIn}
use Rattle.thread_frames.specs.declared.frame.TheConstants.{MOST_BYTES}
use Rattle.thread_capture.specs.declared.order.Order.{Order}
use Rattle.thread_capture.specs.Captures.{order_of, StandsFirst, Stand, packet_of, HasFrames}
use Rattle.thread_capture.proofs.Packets.{stand_more, stand_rest, some_left, none_left, first_left}

-- one more
pub stand_push : (order : Order) (bytes : List ℕ) (frames : List FrameIn) (rest packet behind : List ℕ) (frame : FrameIn) → Stand order bytes (map packet_of frames) rest → StandsFirst order rest packet behind → frame.bytes.items ≡ packet → Stand order bytes (map packet_of (frames ++ frame ∷ [])) behind
stand_push order bytes frames rest packet behind frame stand first same =
    let P : List (List ℕ) → Type 0 = λ it. Stand order bytes it behind in
    let Q : List ℕ → Type 0 = λ it. StandsFirst order rest it behind in
    subst P (sym (map_push packet_of frames frame)) (stand_more order bytes (map packet_of frames) rest (packet_of frame) behind stand (subst Q (sym same) first))

same_front : (x y : List ℕ) (xs ys : List (List ℕ)) → x ∷ xs ≡ y ∷ ys → x ≡ y
same_front x y xs ys e = cc

same_back : (x y : List ℕ) (xs ys : List (List ℕ)) → x ∷ xs ≡ y ∷ ys → xs ≡ ys
same_back x y xs ys e = cc

no_cons : (x : List ℕ) (xs : List (List ℕ)) → [] ≡ x ∷ xs → ⊥
no_cons x xs e = cc

-- a packet of short frames is short
short_packet : (frames : List FrameIn) (front : List (List ℕ)) (packet : List ℕ) (left : List (List ℕ)) → map packet_of frames ≡ front ++ packet ∷ left → All IsShort frames → length packet ≤ MOST_BYTES
short_packet [] [] packet left is short = absurd (no_cons packet left is)
short_packet [] (p ∷ front) packet left is short = absurd (no_cons p (front ++ packet ∷ left) is)
short_packet (f ∷ frames) [] packet left is short =
    let same : length (packet_of f) ≡ length packet = ap length (same_front (packet_of f) packet (map packet_of frames) left is) in
    let fits : length (packet_of f) ≤ MOST_BYTES = All-head IsShort f frames short in
    omega (arith, same, fits)
short_packet (f ∷ frames) (p ∷ front) packet left is short =
    short_packet frames front packet left (same_back (packet_of f) p (map packet_of frames) (front ++ packet ∷ left) is) (All-tail IsShort f frames short)

module _ (bytes device : List ℕ) (order : Order) (magic : order_of bytes ≡ Some order) where
  same_order : (frames : List FrameIn) (has : HasFrames bytes device frames) → has.capture.order ≡ order
  same_order frames has = same_Some has.capture.order order (sym has.capture.magic ∙ magic)

  module _ (read : List FrameIn) (rest : List ℕ) (stand : Stand order (drop 24 bytes) (map packet_of read) rest) where
    -- the packets that are left
    left_of : (frames : List FrameIn) → HasFrames bytes device frames → (left : List (List ℕ)) × (map packet_of frames ≡ map packet_of read ++ left) × Stand order rest left []
    left_of frames has =
        let P : Order → Type 0 = λ it. Stand it (drop 24 bytes) (map packet_of frames) [] in
        stand_rest order (drop 24 bytes) (map packet_of read) rest (map packet_of frames) stand (subst P (same_order frames has) has.capture.stand)

    pub too_many : 0 < length rest → length read ≡ 65536 → (frames : List FrameIn) → HasFrames bytes device frames → ⊥
    too_many some full frames has =
        let left = left_of frames has in
        let more : 0 < length left.0 = some_left order rest left.0 some left.2 in
        let count : length (map packet_of frames) ≡ length (map packet_of read) + length left.0 = ap length left.1 ∙ length-append (map packet_of read) left.0 in
        omega (arith, full, has.few, more, count, length-map frames packet_of, length-map read packet_of)

    pub none_first : 0 < length rest → ((packet behind : List ℕ) → StandsFirst order rest packet behind → ⊥) → (frames : List FrameIn) → HasFrames bytes device frames → ⊥
    none_first some none frames has =
        let left = left_of frames has in
        none_left order rest left.0 some none left.2

    pub too_long : (packet behind : List ℕ) → StandsFirst order rest packet behind → MOST_BYTES < length packet → (frames : List FrameIn) → HasFrames bytes device frames → ⊥
    too_long packet behind first long frames has =
        let left = left_of frames has in
        let others = first_left order rest packet behind left.0 first left.2 in
        let short : length packet ≤ MOST_BYTES = short_packet frames (map packet_of read) packet others.0 (left.1 ∙ ap (λ (it : List (List ℕ)). map packet_of read ++ it) others.1) has.short in
        omega (arith, short, long)
