-- Which faults may end what: a fault that is none of these can come of no run of it.
use Rattle.std.specs.Prelude.{◌⊎◌, ⊤, List, Option, Result, Err}
use Rattle.std.specs.declared.alloc.Global.{Global}
use Rattle.std.specs.declared.string.String.{String}
use Rattle.console_input.specs.Book.{IsRequest}
use Rattle.console_input.specs.declared.fault.ArgsFault.{ArgsFault}
use Rattle.bpfcon.specs.Faults.{IsOfArgs}
use Rattle.bpfcon.specs.declared.fault.Fault.{Fault}
use Rattle.bpfcon.specs.declared.fault.Fault.TheVariants.{Unread, BadFrames, NoMemory, NoThread, Spent, OfFile, OfFrames, OfLive, OfLog, CannotWrite}

-- what ends a part: a lack of memory and an input that is not read end any; the others may, if its output has refused to write, or
-- as it serves frames, is a live host, or has its book in a file
abbrev pub EndsPart : Type 0 → Type 0 → Type 0 → Type 0 → Fault → Type 0
EndsPart refused frames live book NoMemory = ⊤
EndsPart refused frames live book (Unread name cause) = ⊤
EndsPart refused frames live book CannotWrite = refused
EndsPart refused frames live book (BadFrames why) = frames
EndsPart refused frames live book NoThread = frames
EndsPart refused frames live book Spent = live
EndsPart refused frames live book (OfFile file fault) = book
EndsPart refused frames live book (OfLog file fault) = book
EndsPart refused frames live book _ = ⊥

abbrev pub EndsReading : Fault → Type 0
EndsReading = EndsPart ⊥ ⊥ ⊥ ⊥

-- an output that is not written ends what writes to it only if it has refused a write or a flush
abbrev pub EndsLines : Type 0 → Fault → Type 0
EndsLines refused = EndsPart refused ⊥ ⊥ ⊥

abbrev pub EndsFrames : Type 0 → Fault → Type 0
EndsFrames refused = EndsPart refused ⊤ ⊥ ⊥

abbrev pub EndsLive : Type 0 → Fault → Type 0
EndsLive refused = EndsPart refused ⊤ ⊤ ⊥

abbrev pub EndsBook : Type 0 → Fault → Type 0
EndsBook refused = EndsPart refused ⊥ ⊥ ⊤

-- frames on the book in a file, besides: bytes that are no frames, frames that are not served, not kept or not told, and a live host
-- that stops
abbrev pub EndsOfFrames : Fault → Type 0
EndsOfFrames (BadFrames why) = ⊤
EndsOfFrames (OfFrames file fault) = ⊤
EndsOfFrames (OfLive file fault) = ⊤
EndsOfFrames _ = ⊥

abbrev pub EndsServed : Type 0 → Fault → Type 0
EndsServed refused fault = EndsOfFrames fault ⊎ EndsBook refused fault

-- what was asked, with a book in a file or without
abbrev pub EndsRun : Type 0 → Fault → Type 0
EndsRun refused fault = EndsLive refused fault ⊎ EndsServed refused fault

-- the program, whose output no contract names: arguments that ask for nothing it does, or what it does for them
abbrev pub EndsProgram : (Result (List (String Global)) ArgsFault → Type 0) → (Result (Option (String Global)) ArgsFault → Type 0) → Fault → Type 0
EndsProgram may_be may_name fault = ((why : ArgsFault) × IsRequest may_be may_name (Err why) × IsOfArgs why fault) ⊎ EndsRun ⊤ fault
