-- What ends the program, by the fault of a part of it.
use Rattle.std.specs.Prelude.{◌≡◌, ◌⊎◌, ◌==◌, if◌then◌else◌, ℕ, List, Result, Ok, Err, codes, string_bytes}
use Rattle.std.specs.declared.alloc.Global.{Global}
use Rattle.std.specs.declared.string.String.{String}
use Rattle.console_script.specs.declared.summary.Summary.{Summary}
use Rattle.thread_host_run.specs.declared.fault.RunHostFault.{RunHostFault}
use Rattle.thread_host_run.specs.declared.fault.RunHostFault.TheVariants as served
use Rattle.console_input.specs.declared.fault.ArgsFault.{ArgsFault}
use Rattle.console_input.specs.declared.fault.ArgsFault.TheVariants as args
use Rattle.console_input.specs.declared.fault.ReadFault.{ReadFault}
use Rattle.console_input.specs.declared.fault.ReadFault.TheVariants as read
use Rattle.bpfcon.specs.declared.fault.Fault.{Fault}
use Rattle.thread_host_run.specs.declared.no_frames.NoFrames.{NoFrames}
use Rattle.thread_host_run.specs.FramesOf.{TellsNoFrames}
use Rattle.kept_lines.specs.declared.fault.InFileFault.TheVariants.{Unopened, Kept}
use Rattle.thread_kept_frames.specs.declared.host_fault.HostRunFault.TheVariants.{Script, Frames}
use Rattle.thread_kept_frames.specs.declared.host_fault.HostInFileFault.{HostInFileFault}
use Rattle.thread_kept_frames.specs.declared.host_fault.HostInFileFault.TheVariants as in_file
use Rattle.thread_kept_frames.specs.declared.fault.ServeFault.TheVariants as serve
use Rattle.thread_kept_frames.specs.declared.live.listener.ListenFault.{ListenFault}
use Rattle.thread_kept_frames.specs.declared.live.listener.ListenFault.TheVariants as listen
use Rattle.thread_live.specs.declared.fault.LineFault.{LineFault}
use Rattle.thread_live.specs.declared.fault.LineFault.TheVariants as line
use Rattle.bpfcon.specs.declared.fault.Fault.TheVariants.{Usage, Command, NoWord, NotOfBook, BadBook, Unread, BadFrames, NoMemory, NoThread, Spent, OfFile, OfFrames, CannotWrite}

-- a host run did not come to its end; of a file that has no frames it is told why
abbrev pub IsNoFrames : List ℕ → Fault → Type 0
IsNoFrames bytes fault = (why : NoFrames) × TellsNoFrames bytes why × (fault ≡ BadFrames why)

abbrev pub IsOfServing : List ℕ → RunHostFault → Fault → Type 0
IsOfServing bytes served.BadDevices fault = fault ≡ NoMemory
IsOfServing bytes served.BadLimits fault = fault ≡ NoMemory
IsOfServing bytes served.BadFrames fault = IsNoFrames bytes fault
IsOfServing bytes served.NoMemory fault = fault ≡ NoMemory
IsOfServing bytes served.NoThread fault = fault ≡ NoThread
IsOfServing bytes served.Write fault = fault ≡ CannotWrite

-- nor did one on the book in a file, which the fault names
abbrev pub IsOfKept : String Global → List ℕ → HostInFileFault → Fault → Type 0
IsOfKept file bytes in_file.BadFrames fault = IsNoFrames bytes fault
IsOfKept file bytes in_file.NoMemory fault = fault ≡ NoMemory
IsOfKept file bytes (in_file.Unopened error) fault = fault ≡ OfFile file (Unopened error)
IsOfKept file bytes (in_file.Kept (Script why)) fault = fault ≡ OfFile file (Kept why)
IsOfKept file bytes (in_file.Kept (Frames why)) fault = fault ≡ OfFrames file why

-- nobody hears the lines of standard input for a live host on the book in a file
abbrev pub unheard : String Global → ListenFault → Fault
unheard file listen.NoMemory = NoMemory
unheard file listen.NoThread = OfFrames file serve.NoThread

abbrev pub fault_of_line : LineFault → Fault
fault_of_line line.Write = CannotWrite
fault_of_line line.SeatSpent = Spent

-- an input of this name was not read; or there is no memory, also if there is none for the name
abbrev pub IsOfRead : List ℕ → ReadFault → Fault → Type 0
IsOfRead name read.NoMemory fault = fault ≡ NoMemory
IsOfRead name (read.Unread why) fault = (fault ≡ NoMemory) ⊎ ((it : String Global) × (string_bytes it ≡ name) × (fault ≡ Unread it why))

-- there is no order in the arguments
abbrev pub IsOfArgs : ArgsFault → Fault → Type 0
IsOfArgs args.Usage fault = fault ≡ Usage
IsOfArgs args.Command fault = fault ≡ Command
IsOfArgs args.NoWord fault = fault ≡ NoWord
IsOfArgs args.NotOfBook fault = fault ≡ NotOfBook
IsOfArgs args.BadBook fault = fault ≡ BadBook
IsOfArgs (args.Read why) fault = IsOfRead (codes "the arguments") why fault

-- the status that the program ends with: 0 if no line was refused, 1 if one was, and 2 if the run did not come to its end
abbrev pub status_of : Result Summary Fault → ℕ
status_of (Ok summary) = if summary.refused == 0 then 0 else 1
status_of (Err fault) = 2
