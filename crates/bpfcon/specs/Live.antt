-- A live host: how it began, and how it went on until its console came back.
use Rattle.std.specs.Prelude.{◌≡◌, ℕ, List, [], Option, Some, None, Result, Ok, string_bytes}
use Rattle.std.specs.Io.KnownBytes.{Keeps}
use Rattle.std.specs.declared.alloc.Global.{Global}
use Rattle.std.specs.declared.string.String.{String}
use Rattle.bt_mapkind.specs.declared.attr.MapAttr.{MapAttr}
use Rattle.bt_mapkind.specs.Seen.{Seen}
use Rattle.journal_model.specs.Book.{PlainBook, opened as new_book}
use Rattle.journal_model.specs.Run.{PlainEvent}
use Rattle.bt_without.specs.declared.events.Answer.{Answer}
use Rattle.thread_lock.specs.declared.sequential.Sequential.{Ghosts}
use Rattle.thread_lock.specs.declared.seat.Seat.{Seat}
use Rattle.thread_lock.specs.Seats.{seen}
use Rattle.bt_desk.specs.declared.desk.Desk.{Desk}
use Rattle.bt_desk.specs.Seats.{opened, ClosesAs}
use Rattle.bt_syntax.specs.declared.files.FileText.{FileText}
use Rattle.bt_console.specs.declared.supply.NoBox.{NoBox}
use Rattle.bt_console.specs.Frames.{no_runs}
use Rattle.console_script.specs.declared.summary.Summary.{Summary}
use Rattle.console_script.specs.Transcript.{RanAll}
use Rattle.console_script.specs.Made.{AllGetNew}
use Rattle.thread_host_run.specs.FramesOf.{capture_device, AreFramesAt}
use Rattle.console_input.specs.Named.{AreFilesOf}
use Rattle.console_input.specs.declared.fault.ReadFault.{ReadFault}
use Rattle.console_input.specs.declared.live.LiveOptions.{LiveOptions}
use Rattle.thread_at_desk.specs.declared.session.Session.{Session}
use Rattle.thread_live.specs.declared.traffic.Traffic.{Traffic}
use Rattle.thread_live.specs.Footings.{footing}
use Rattle.thread_live.specs.Crew.{TalksAndEnds, Beside}
use Rattle.console_script.specs.Host.{device_names, limits_of}
use Rattle.bpfcon.specs.LiveTalk.{TalkedToEnd}

-- the device at which the frames of a capture come in: the one that is named, or eth0
abbrev pub device_in : Option (String Global) → List ℕ
device_in (Some name) = string_bytes name
device_in None = capture_device

-- the frames were read, and the script was run to its end on a new host and its transcript written; it left this book
pub record BeganLive (old new : Option (List ℕ)) (options : LiveOptions) (files : List FileText) (script frames : List ℕ) (left : PlainBook) (traffic : Traffic) (counts : Summary) : Type 0 where
  pub in_file : AreFramesAt (device_in options.device) frames traffic.frames.items
  pub book : PlainBook
  pub opens : new_book device_names (limits_of options.journal) ≡ Ok book
  pub ran : RanAll old new book AllGetNew files script left counts

module _ {K S : Type 0} (g : Ghosts PlainBook PlainEvent Answer) (gives : S → MapAttr → Result K NoBox → S → Type 0) (kind : K → Seen) where
  -- A book was shared at a desk. There workers served their frames, a keeper took back what was tried, and a console answered the
  -- lines of an input, all by turns: a legal history leads from that book to the one that was left, and begins with all that the
  -- console's seat had seen at last
  pub record LivesOn (named : List ℕ → List FileText → Type 0) (traffic : Traffic) (most : ℕ) (book : PlainBook) (session : Session S) (counts : Summary) (old new : Option (List ℕ)) (summary : Summary) : Type 0 where
    pub input : Option (List ℕ)
    pub between : Option (List ℕ)
    pub flushed : Keeps old between
    pub desk : Desk K
    pub opens : opened desk ≡ book
    pub first : Seat PlainBook PlainEvent Answer g
    pub has_seen_nothing : seen first ≡ []
    pub last : Seat PlainBook PlainEvent Answer g
    pub beside : Beside desk traffic
        (λ from to. TalksAndEnds desk (λ at told on. TalkedToEnd gives kind named desk traffic most input (footing session at between) counts on new told) from summary to) first last
    pub left : PlainBook
    pub closes : ClosesAs desk last left

  -- the script of a live host was run, and then its workers served the frames while the lines of an input were answered
  pub record RanLive (may_read : List ℕ → ℕ → Result (List ℕ) ReadFault → Type 0) (old new : Option (List ℕ)) (options : LiveOptions) (files : List FileText) (script frames : List ℕ) (summary : Summary) : Type 0 where
    pub between : Option (List ℕ)
    pub left : PlainBook
    pub traffic : Traffic
    pub counts : Summary
    pub began : BeganLive old between options files script frames left traffic counts
    pub session : Session S
    pub no_open_runs : session.runs ≡ no_runs
    pub lives : LivesOn (AreFilesOf may_read) traffic options.journal left session counts between new summary
