-- Lines on the book that a file keeps, and what the program does, by what is asked.
use Rattle.std.specs.Prelude.{ℕ, Bool, List, Option, Some, None, Result, Ok, ◌≡◌, ◌⊎◌, true, false, string_bytes}
use Rattle.std.specs.Io.KnownBytes.{Appends}
use Rattle.std.specs.declared.alloc.Global.{Global}
use Rattle.std.specs.declared.string.String.{String}
use Rattle.sqlite.specs.declared.error.Error.{Error}
use Rattle.bt_mapkind.specs.declared.attr.MapAttr.{MapAttr}
use Rattle.bt_mapkind.specs.Seen.{Seen}
use Rattle.journal_model.specs.Book.{PlainBook, opened}
use Rattle.journal_model.specs.Run.{PlainEvent}
use Rattle.bt_without.specs.declared.events.Answer.{Answer}
use Rattle.thread_lock.specs.declared.sequential.Sequential.{Ghosts as Turns}
use Rattle.bt_console.specs.declared.supply.NoBox.{NoBox}
use Rattle.bt_syntax.specs.declared.files.FileText.{FileText}
use Rattle.console_script.specs.declared.summary.Summary.{Summary}
use Rattle.console_operand.specs.Line.{lines_of}
use Rattle.console_operand.specs.Word.{words}
use Rattle.console_answer.specs.declared.fault.Fault.{Fault}
use Rattle.console_answer.specs.declared.fault.Fault.TheVariants.{Syntax}
use Rattle.console_text.specs.Text.{fault_text}
use Rattle.console_looks.specs.LookGrammar.{look_in}
use Rattle.console_looks.specs.declared.look.Look.{Look}
use Rattle.console_script.specs.Anew.{RunsAnew}
use Rattle.console_script.specs.Made.{AllGetNew}
use Rattle.console_input.specs.Book.{Asked, Line, Input, Script, Shell, Host, Live, asked_for, IsRequest}
use Rattle.console_input.specs.Named.{AreFilesOf}
use Rattle.console_input.specs.declared.book.BookOrder.{BookOrder}
use Rattle.console_input.specs.declared.book.Request.{Request}
use Rattle.console_input.specs.declared.book.Request.TheVariants as request
use Rattle.console_input.specs.declared.fault.ArgsFault.{ArgsFault}
use Rattle.console_input.specs.declared.fault.ReadFault.{ReadFault}
use Rattle.console_input.specs.declared.live.Live.{Live as LiveOrder}
use Rattle.console_input.specs.declared.source.TheConstants.{MOST_FRAMES}
use Rattle.kept_host.specs.Asks.{only_ask}
use Rattle.kept_host.specs.HostTerms.{host_terms}
use Rattle.kept_log.specs.LogGrammar.{log_line_in}
use Rattle.kept_log.specs.declared.line.LogLine.{LogLine}
use Rattle.kept_log.specs.declared.line.LogLine.TheVariants.{Asks, Wrong}
use Rattle.kept_lines.specs.RangeGrammar.{range_in}
use Rattle.kept_host.specs.Taking.{ComesTo, counts_taken}
use Rattle.kept_lines.specs.declared.range.SerialRange.{SerialRange}
use Rattle.kept_host.specs.declared.range.taken.Taken.{Taken}
use Rattle.kept_host.specs.declared.range.taken.Taken.TheVariants.{NoneInForce}
use Rattle.kept_host.specs.Logs.{LogsOpened}
use Rattle.kept_host.specs.Looks.{LooksAt, LooksFront, LooksOpened}
use Rattle.kept_host.specs.Ranges.{TakesOpened}
use Rattle.kept_host.specs.Runs.{RunsOpened}
use Rattle.kept_host.specs.Talks.{TalksOpened}
use Rattle.kept_lines.specs.declared.databases.Database.{Database}
use Rattle.thread_frames.specs.declared.frame.FrameIn.{FrameIn}
use Rattle.thread_host_run.specs.FramesOf.{AreFramesAt}
use Rattle.thread_kept_frames.specs.Hosts.{ServesOpened}
use Rattle.thread_kept_frames.specs.Lives.{LivesOpened}
use Rattle.thread_kept_frames.specs.declared.kept.ServedHost.{ServedHost}
use Rattle.thread_kept_frames.specs.declared.live.kept.LivedHost.{LivedHost}
use Rattle.thread_live.specs.Reports.{report_text}
use Rattle.thread_live.specs.declared.report.Report.{Report}
use Rattle.thread_live.specs.declared.report.State.TheVariants.{Stopped}
use Rattle.bpfcon.specs.Carried.{IsScriptOf, AreOfLive, Carried}
use Rattle.bpfcon.specs.Live.{device_in}
use Rattle.console_script.specs.Host.{device_names, limits}

-- a line, a text from standard input, or what stands in a file; and the files that it names
abbrev pub IsScriptAsked : (List ℕ → ℕ → Result (List ℕ) ReadFault → Type 0) → Asked → List ℕ → List FileText → Type 0
IsScriptAsked may_read (Line line) text files = (text ≡ line) × AreFilesOf may_read text files
IsScriptAsked may_read Input text files = AreFilesOf may_read text files
IsScriptAsked may_read (Script path) text files = IsScriptOf may_read path text files
IsScriptAsked may_read (Host path frames) text files = IsScriptOf may_read path text files
IsScriptAsked may_read (Live live) text files = IsScriptOf may_read (string_bytes live.setup) text files
IsScriptAsked may_read Shell text files = ⊥

-- whether a script only asks, and the file is not there
abbrev pub IsOfNone : (Bool → Type 0) → List ℕ → Bool → Type 0
IsOfNone may_be_there text true = may_be_there false × (only_ask (lines_of text) ≡ true)
IsOfNone may_be_there text false = may_be_there true ⊎ (only_ask (lines_of text) ≡ false)

-- a script was run on the book of a file; or on a new host, if it only asks and the file is not there
abbrev pub RunsOn : (Bool → Type 0) → (Result Database Error → Type 0) → (ℕ → Type 0) → List FileText → List ℕ → Option (List ℕ) → Option (List ℕ) → Summary → Type 0
RunsOn may_be_there may_open may_be_time files text old new summary =
    (IsOfNone may_be_there text false × RunsOpened may_open may_be_time host_terms files text old new (Ok summary))
    ⊎ (IsOfNone may_be_there text true × RunsAnew old new device_names limits AllGetNew files text (Ok summary))

-- a look was told of a host in which nothing was done
pub record LooksAnew (look : Look) (old new : Option (List ℕ)) (summary : Summary) : Type 0 where
  pub book : PlainBook
  pub opens : opened device_names limits ≡ Ok book
  pub looked : LooksAt look book old new summary

-- or not all of it was written
abbrev pub StopsAnew : Look → Option (List ℕ) → Option (List ℕ) → Type 0
StopsAnew look old new = (book : PlainBook) × (opened device_names limits ≡ Ok book) × LooksFront look book old new

-- a look was told of the book of a file; or of a new host, if the file was not there
abbrev pub LooksOn : (Bool → Type 0) → (Result Database Error → Type 0) → Look → Option (List ℕ) → Option (List ℕ) → Summary → Type 0
LooksOn may_be_there may_open look old new summary = (may_be_there true × LooksOpened may_open host_terms look old new (Ok summary)) ⊎ (may_be_there false × LooksAnew look old new summary)

-- the last events of the book of a file were written, or nothing if the file was not there
pub record TellsLogOf (may_be_there : Bool → Type 0) (may_open : Result Database Error → Type 0) (most : Option ℕ) (old new : Option (List ℕ)) (summary : Summary) : Type 0 where
  pub told : (may_be_there true × LogsOpened may_open most old new (Ok tt)) ⊎ (may_be_there false × (new ≡ old))
  pub counts : summary ≡ record { accepted = 1; refused = 0 }

-- a line was answered with a fault
pub record Refuses (fault : Fault) (old new : Option (List ℕ)) (summary : Summary) : Type 0 where
  pub text : Appends old new (fault_text fault)
  pub counts : summary ≡ record { accepted = 0; refused = 1 }

-- what a line does that begins as one that asks for a log
abbrev pub LogsOn : (Bool → Type 0) → (Result Database Error → Type 0) → LogLine → Option (List ℕ) → Option (List ℕ) → Summary → Type 0
LogsOn may_be_there may_open (Asks most) = TellsLogOf may_be_there may_open most
LogsOn may_be_there may_open (Wrong word) = Refuses (Syntax word)

-- a range was taken out of the book of a file, or none of it
pub record TookOn (may_open : Result Database Error → Type 0) (may_be_time : ℕ → Type 0) (range : SerialRange) (old new : Option (List ℕ)) (summary : Summary) : Type 0 where
  pub taken : Taken
  pub took : TakesOpened may_open may_be_time host_terms range old new (Ok taken)
  pub counts : summary ≡ counts_taken taken

-- or none of it is in force on a host in which nothing was done
pub record TookAnew (range : SerialRange) (old new : Option (List ℕ)) (summary : Summary) : Type 0 where
  pub book : PlainBook
  pub opens : opened device_names limits ≡ Ok book
  pub comes : ComesTo range book book old new NoneInForce
  pub counts : summary ≡ counts_taken NoneInForce

-- so it is answered if the file was not there
abbrev pub TakesOn : (Bool → Type 0) → (Result Database Error → Type 0) → (ℕ → Type 0) → SerialRange → Option (List ℕ) → Option (List ℕ) → Summary → Type 0
TakesOn may_be_there may_open may_be_time range old new summary = (may_be_there true × TookOn may_open may_be_time range old new summary) ⊎ (may_be_there false × TookAnew range old new summary)

-- what is told of a live host at its end
abbrev pub report_of : LivedHost → Report
report_of it = record { workers = 2; state = Stopped; tally = it.course.tally; moments = it.moments; most_moments = 65_536; rate = None }

-- on the book of a file
module _ (may_be_there : List ℕ → Bool → Type 0) (may_open : List ℕ → Result Database Error → Type 0) (may_be_time : ℕ → Type 0) (may_read : List ℕ → ℕ → Result (List ℕ) ReadFault → Type 0) (old new : Option (List ℕ)) (summary : Summary) (file : List ℕ) where
  -- the lines of a script were run
  pub record RanOn (asked : Asked) : Type 0 where
    pub text : List ℕ
    pub files : List FileText
    pub script : IsScriptAsked may_read asked text files
    pub ran : RunsOn (may_be_there file) (may_open file) may_be_time files text old new summary

  -- a line was run; or the log was told for which it asks, or the range was taken out that it spells, or what it asks was looked at
  abbrev pub DidLine : List ℕ → Option LogLine → Option SerialRange → Option Look → Type 0
  DidLine line (Some log) _ _ = LogsOn (may_be_there file) (may_open file) log old new summary
  DidLine line None (Some range) _ = TakesOn (may_be_there file) (may_open file) may_be_time range old new summary
  DidLine line None None (Some look) = LooksOn (may_be_there file) (may_open file) look old new summary
  DidLine line None None None = RanOn (Line line)

  -- the lines of an input were answered one by one
  pub record TalkedOn : Type 0 where
    pub input : Option (List ℕ)
    pub talked : TalksOpened (may_open file) host_terms may_read input old new (Ok summary)

  -- the script of a file was run, and then the frames of another were served on the host that it left
  pub record ServedOn (path frames : List ℕ) : Type 0 where
    pub text : List ℕ
    pub files : List FileText
    pub script : IsScriptOf may_read path text files
    pub bytes : List ℕ
    pub read : may_read frames MOST_FRAMES (Ok bytes)
    pub it : ServedHost
    pub served : ServesOpened (may_open file) may_be_time host_terms files text bytes old new (Ok it)
    pub counts : summary ≡ it.summary

  -- the script of a live host was run, and then the lines of an input were answered while the frames of another file were served; how
  -- these ended was told at last
  pub record LivedOn (live : LiveOrder) : Type 0 where
    pub text : List ℕ
    pub files : List FileText
    pub bytes : List ℕ
    pub are : AreOfLive may_read live text files bytes
    pub frames : List FrameIn
    pub in_file : AreFramesAt (device_in live.options.device) bytes frames
    pub input : Option (List ℕ)
    pub between : Option (List ℕ)
    pub it : LivedHost
    pub lived : LivesOpened (may_open file) host_terms files text frames live.options.repeat may_read input old between (Ok it)
    pub told : Appends between new (report_text (report_of it))
    pub counts : summary ≡ it.summary

  abbrev pub DidOn : Asked → Type 0
  DidOn Shell = TalkedOn
  DidOn (Line line) = DidLine line (log_line_in (words line)) (range_in (words line)) (look_in (words line))
  DidOn Input = RanOn Input
  DidOn (Script path) = RanOn (Script path)
  DidOn (Host path frames) = ServedOn path frames
  DidOn (Live live) = LivedOn live

-- what is asked of the book of a file was done
abbrev pub RanBook : (List ℕ → Bool → Type 0) → (List ℕ → ℕ → Result Database Error → Type 0) → (ℕ → Type 0) → (List ℕ → ℕ → Result (List ℕ) ReadFault → Type 0) → Option (List ℕ) → Option (List ℕ) → Summary → BookOrder → Type 0
RanBook may_be_there may_open may_be_time may_read old new summary order = DidOn may_be_there (λ it. may_open it order.wait) may_be_time may_read old new summary (string_bytes order.file) (asked_for order.lines)

-- ---- what was asked, with a book or without one
-- by how a desk steps, what supplies boxes, what is seen of one, and where databases lie
module _ {K S : Type 0} (g : Turns PlainBook PlainEvent Answer) (gives : S → MapAttr → Result K NoBox → S → Type 0) (kind : K → Seen) (may_be_there : List ℕ → Bool → Type 0) (may_open : List ℕ → ℕ → Result Database Error → Type 0) (may_be_time : ℕ → Type 0) where
  abbrev pub Did : (List ℕ → ℕ → Result (List ℕ) ReadFault → Type 0) → Option (List ℕ) → Option (List ℕ) → Summary → Request → Type 0
  Did may_read old new summary (request.Plain order) = Carried g gives kind may_read old new summary order
  Did may_read old new summary (request.Book order) = RanBook may_be_there may_open may_be_time may_read old new summary order

  -- what the arguments ask was done
  pub record DidAsked (may_be : Result (List (String Global)) ArgsFault → Type 0) (may_name : Result (Option (String Global)) ArgsFault → Type 0) (may_read : List ℕ → ℕ → Result (List ℕ) ReadFault → Type 0) (summary : Summary) : Type 0 where
    pub request : Request
    pub asked : IsRequest may_be may_name (Ok request)
    pub old : Option (List ℕ)
    pub new : Option (List ℕ)
    pub did : Did may_read old new summary request
