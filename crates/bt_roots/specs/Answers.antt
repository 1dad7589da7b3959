-- What each call on the roots is to answer: a fault, or the roots after one exchange, with the exchange
-- that takes it back (the commands of bpftool-map(8), bpftool-prog(8) and bpftool-net(8)).
use Rattle.std.specs.Prelude.{◌≡◌, ℕ, Bool, not, ◌&&◌, List, Option, Some, None, is_some, Result, Ok, Err, if◌then◌else◌}
use Rattle.std.specs.FinMap as map
use Rattle.std.specs.FinSet as set
use Rattle.host_words.specs.Spelling.{is_path}
use Rattle.bt_roots.specs.declared.target.Target.{Target}
use Rattle.bt_roots.specs.declared.back.RootBack.{RootBack}
use Rattle.bt_roots.specs.declared.back.RootBack.TheVariants.{Pin, Attachment}
use Rattle.bt_roots.specs.declared.fault.RootFault.{RootFault}
use Rattle.bt_roots.specs.declared.fault.RootFault.TheVariants.{BadPath, Exists, NoEntry, NoDevice, Busy, NoMemory}
use Rattle.bt_roots.specs.View.{RootsView, position_of}
use Rattle.bt_roots.specs.Exchange.{exchanged, prog_at}

abbrev pub Answer : Type 0
Answer = Result (RootsView × RootBack) RootFault

-- the roots with room for the path
abbrev pub with_room : RootsView → List ℕ → RootsView
with_room roots path = record roots { room = set.insert roots.room path }

-- pins the object at a good path at which nothing is pinned, and makes room for the path
unfoldable pub pin_answer : RootsView → List ℕ → Target → Answer
pin_answer roots path target =
    if not (is_path path) then Err BadPath else
    if map.contains_key roots.pins path then Err Exists else
    Ok (exchanged (with_room roots path) (Pin path (Some target)))

-- takes the pin away
unfoldable pub unpin_answer : RootsView → List ℕ → Answer
unpin_answer roots path =
    if map.contains_key roots.pins path then Ok (exchanged roots (Pin path None)) else Err NoEntry

-- attaches the program at the position; a device that has one gives it up only to an overwrite
abbrev pub attach_there : RootsView → ℕ → Bool → Option ℕ → Answer
attach_there roots prog overwrite None = Err NoDevice
attach_there roots prog overwrite (Some position) =
    if is_some (prog_at roots.devices position) && not overwrite then Err Busy else
    Ok (exchanged roots (Attachment position (Some prog)))

-- attaches the program to the device of the name
unfoldable pub attach_answer : RootsView → List ℕ → ℕ → Bool → Answer
attach_answer roots name prog overwrite = attach_there roots prog overwrite (position_of roots.devices name)

-- detaches the program at the position
abbrev pub detach_there : RootsView → Option ℕ → Answer
detach_there roots None = Err NoDevice
detach_there roots (Some position) =
    if is_some (prog_at roots.devices position) then Ok (exchanged roots (Attachment position None)) else Err NoEntry

-- detaches the program of the device of the name
unfoldable pub detach_answer : RootsView → List ℕ → Answer
detach_answer roots name = detach_there roots (position_of roots.devices name)

-- the call led from old to new as the answer says; only in place of an accepted one may an allocation have
-- failed, and then nothing changed
abbrev pub IsAnswered : Answer → RootsView → Result RootBack RootFault → RootsView → Type 0
IsAnswered (Ok meant) old (Ok back) new = (new ≡ meant.0) × (back ≡ meant.1)
IsAnswered (Ok meant) old (Err fault) new = (fault ≡ NoMemory) × (new ≡ old)
IsAnswered (Err meant) old (Ok back) new = ⊥
IsAnswered (Err meant) old (Err fault) new = (fault ≡ meant) × (new ≡ old)
