-- What the program does, by its order.
use Rattle.std.specs.Prelude.{◌≡◌, ℕ, List, Option, Result, Ok, string_bytes}
use Rattle.std.specs.Io.KnownBytes.{Appends}
use Rattle.bt_mapkind.specs.declared.attr.MapAttr.{MapAttr}
use Rattle.bt_mapkind.specs.Seen.{Seen}
use Rattle.journal_model.specs.Book.{PlainBook}
use Rattle.journal_model.specs.Run.{PlainEvent}
use Rattle.bt_without.specs.declared.events.Answer.{Answer}
use Rattle.thread_lock.specs.declared.sequential.Sequential.{Ghosts}
use Rattle.bt_syntax.specs.declared.files.FileText.{FileText}
use Rattle.bt_console.specs.declared.supply.NoBox.{NoBox}
use Rattle.console_script.specs.declared.summary.Summary.{Summary}
use Rattle.console_script.specs.Transcript.{no_counts}
use Rattle.console_input.specs.Named.{AreFilesOf}
use Rattle.console_input.specs.declared.fault.ReadFault.{ReadFault}
use Rattle.console_input.specs.declared.order.Order.{Order}
use Rattle.console_input.specs.declared.order.Order.TheVariants.{Help, Version, Shell, RunInput, Run, Host, HostThen, Live}
use Rattle.console_input.specs.declared.live.Live.{Live as LiveOrder}
use Rattle.console_input.specs.declared.source.TheConstants.{MOST_SCRIPT, MOST_FRAMES}
use Rattle.console_script.specs.Anew.{RunsAnew}
use Rattle.console_script.specs.Made.{AllGetNew}
use Rattle.thread_host_run.specs.HostRuns.{RunsNewHost}
use Rattle.console_talk.specs.declared.manner.Manner.{Manner}
use Rattle.console_talk.specs.declared.manner.Manner.TheVariants.{Script, Dialogue}
use Rattle.console_script.specs.Host.{device_names, limits}
use Rattle.thread_host_run.specs.HostRun.{HasServedThen}
use Rattle.bpfcon.specs.Live.{RanLive}
use Rattle.console_talk.specs.Anew.{TalkedAnew}

-- a script stands in the file of this path, and these are the files that it names
pub record IsScriptOf (may_read : List ℕ → ℕ → Result (List ℕ) ReadFault → Type 0) (path text : List ℕ) (files : List FileText) : Type 0 where
  pub read : may_read path MOST_SCRIPT (Ok text)
  pub files_read : AreFilesOf may_read text files

module _ (may_read : List ℕ → ℕ → Result (List ℕ) ReadFault → Type 0) (old new : Option (List ℕ)) (summary : Summary) where
  -- a text was written
  pub record IsSaid : Type 0 where
    pub text : List ℕ
    pub wrote : Appends old new text
    pub counts : summary ≡ no_counts

  -- the lines of an input were answered
  pub record Answered (manner : Manner) : Type 0 where
    pub input : Option (List ℕ)
    pub talked : TalkedAnew may_read manner input old new summary

  -- the script of a file was run
  pub record RanFile (path : List ℕ) : Type 0 where
    pub text : List ℕ
    pub files : List FileText
    pub script : IsScriptOf may_read path text files
    pub ran : RunsAnew old new device_names limits AllGetNew files text (Ok summary)

  -- the script of a file was run, and the frames of another were served
  pub record Served (path frames : List ℕ) : Type 0 where
    pub text : List ℕ
    pub files : List FileText
    pub script : IsScriptOf may_read path text files
    pub lines : List ℕ
    pub read : may_read frames MOST_FRAMES (Ok lines)
    pub ran : RunsNewHost old new device_names limits files text lines (Ok summary)

  -- and then the script of a third file was run on the host that the frames left
  pub record ServedThen (path frames after : List ℕ) : Type 0 where
    pub text : List ℕ
    pub files : List FileText
    pub script : IsScriptOf may_read path text files
    pub lines : List ℕ
    pub read : may_read frames MOST_FRAMES (Ok lines)
    pub then_text : List ℕ
    pub then_files : List FileText
    pub then_script : IsScriptOf may_read after then_text then_files
    pub ran : HasServedThen old new files text lines then_files then_text summary

-- the script of a live host's setup, and the bytes of its frames
pub record AreOfLive (may_read : List ℕ → ℕ → Result (List ℕ) ReadFault → Type 0) (live : LiveOrder) (text : List ℕ) (files : List FileText) (frames : List ℕ) : Type 0 where
  pub script : IsScriptOf may_read (string_bytes live.setup) text files
  pub read : may_read (string_bytes live.frames) MOST_FRAMES (Ok frames)

-- by how a desk steps, what supplies boxes, and what is seen of one
module _ {K S : Type 0} (g : Ghosts PlainBook PlainEvent Answer) (gives : S → MapAttr → Result K NoBox → S → Type 0) (kind : K → Seen) where
  module _ (may_read : List ℕ → ℕ → Result (List ℕ) ReadFault → Type 0) (old new : Option (List ℕ)) (summary : Summary) where
    -- the script of a live host was run, and then its workers served frames while the lines of an input were answered
    pub record CarriedLive (live : LiveOrder) : Type 0 where
      pub text : List ℕ
      pub files : List FileText
      pub frames : List ℕ
      pub are : AreOfLive may_read live text files frames
      pub ran : RanLive g gives kind may_read old new live.options files text frames summary

    abbrev pub Carried : Order → Type 0
    Carried Help = IsSaid may_read old new summary
    Carried Version = IsSaid may_read old new summary
    Carried Shell = Answered may_read old new summary Dialogue
    Carried RunInput = Answered may_read old new summary Script
    Carried (Run path) = RanFile may_read old new summary (string_bytes path)
    Carried (Host path frames) = Served may_read old new summary (string_bytes path) (string_bytes frames)
    Carried (HostThen path frames after) = ServedThen may_read old new summary (string_bytes path) (string_bytes frames) (string_bytes after)
    Carried (Live live) = CarriedLive live
