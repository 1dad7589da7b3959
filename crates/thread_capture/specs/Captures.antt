-- Captures as tcpdump writes them: the classic file of pcap-savefile(5), not pcapng.
use Rattle.std.specs.Prelude.{◌≡◌, ◌==◌, ℕ, ◌≤◌, nat_le, nat_lt, Bool, ◌&&◌, ◌||◌, if◌then◌else◌, IsTrue, List, [], ◌∷◌, ◌++◌, length, map, drop, All, Option, Some, None}
use Rattle.byteorder.specs.Endian.{little_number, big_number}
use Rattle.thread_frames.specs.Faults.{IsShort}
use Rattle.thread_frames.specs.declared.frame.FrameIn.{FrameIn}
use Rattle.thread_frames.specs.declared.frame.TheConstants.{MOST_FRAMES}
use Rattle.thread_capture.specs.declared.order.Order.{Order}
use Rattle.thread_capture.specs.declared.order.Order.TheVariants.{Little, Big}

-- the number of so many bytes at a position, in either byte order
unfoldable pub number_at : Order → ℕ → List ℕ → ℕ → ℕ
number_at Little size bytes place = little_number size (drop place bytes)
number_at Big size bytes place = big_number size (drop place bytes)

-- the magic number of a capture with times in microseconds, or in nanoseconds
abbrev pub is_magic : ℕ → Bool
is_magic number = (number == 0xa1b2c3d4) || (number == 0xa1b23c4d)

-- the byte order in which a file begins with a magic number; none does in both
unfoldable pub order_of : List ℕ → Option Order
order_of bytes =
    if nat_lt (length bytes) 4 then None
    else if is_magic (number_at Little 4 bytes 0) then Some Little
    else if is_magic (number_at Big 4 bytes 0) then Some Big
    else None

-- after its magic number a header of 24 bytes has the version, 2.4, and in its last four bytes the link type of Ethernet
unfoldable pub is_header : Order → List ℕ → Bool
is_header order bytes =
    nat_le 24 (length bytes) && (number_at order 2 bytes 4 == 2) && (number_at order 2 bytes 6 == 4) && (number_at order 4 bytes 20 == 1)

-- a packet stands first: a header of 16 bytes, whose third number says how many bytes were captured, then these, then the rest
pub record StandsFirst (order : Order) (bytes packet rest : List ℕ) : Type 0 where
  pub header : 16 ≤ length bytes
  pub captured : number_at order 4 bytes 8 ≡ length packet
  pub behind : drop 16 bytes ≡ packet ++ rest

-- these packets stand first, one after the other, then the rest
abbrev pub Stand : Order → List ℕ → List (List ℕ) → List ℕ → Type 0
Stand order bytes [] rest = bytes ≡ rest
Stand order bytes (packet ∷ packets) rest = (behind : List ℕ) × StandsFirst order bytes packet behind × Stand order behind packets rest

-- a header, and after it these packets and nothing else, with all numbers in one byte order
pub record IsCapture (bytes : List ℕ) (packets : List (List ℕ)) : Type 0 where
  pub order : Order
  pub magic : order_of bytes ≡ Some order
  pub header : IsTrue (is_header order bytes)
  pub stand : Stand order (drop 24 bytes) packets []

abbrev pub packet_of : FrameIn → List ℕ
packet_of frame = frame.bytes.items

abbrev pub IsOn : List ℕ → FrameIn → Type 0
IsOn device frame = frame.device ≡ device

-- the frames are the packets of a capture, in order, each on the device, and are neither too many nor too long for a host run
pub record HasFrames (bytes device : List ℕ) (frames : List FrameIn) : Type 0 where
  pub capture : IsCapture bytes (map packet_of frames)
  pub on : All (IsOn device) frames
  pub few : length frames ≤ MOST_FRAMES
  pub short : All IsShort frames
