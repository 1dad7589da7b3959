-- What the program does by its order, if it came to its end.
use Rattle.std.proofs.Common.{◌≡◌, ℕ, List, Option, Result, Ok, Err, sym, subst}
use Rattle.std.specs.Prelude.{Bool, IfOk, MatchResult}
use Rattle.std.specs.declared.alloc.Global.{Global}
use Rattle.std.specs.declared.string.String.{String}
use Rattle.std.specs.Io.KnownBytes.{Appends}
use Rattle.sqlite.specs.declared.error.Error.{Error}
use Rattle.bt_mapkind.specs.declared.attr.MapAttr.{MapAttr}
use Rattle.bt_mapkind.specs.Seen.{Seen}
use Rattle.journal_model.specs.Book.{PlainBook}
use Rattle.journal_model.specs.Run.{PlainEvent}
use Rattle.bt_without.specs.declared.events.Answer.{Answer}
use Rattle.thread_lock.specs.declared.sequential.Sequential.{Ghosts}
use Rattle.bt_syntax.specs.declared.files.FileText.{FileText}
use Rattle.bt_console.specs.declared.supply.NoBox.{NoBox}
use Rattle.console_script.specs.declared.summary.Summary.{Summary}
use Rattle.console_script.specs.Transcript.{no_counts}
use Rattle.console_input.specs.Book.{IsRequest}
use Rattle.console_input.specs.declared.book.Request.{Request}
use Rattle.kept_lines.specs.declared.databases.Database.{Database}
use Rattle.console_input.specs.declared.fault.ArgsFault.{ArgsFault}
use Rattle.console_input.specs.declared.fault.ReadFault.{ReadFault}
use Rattle.console_input.specs.declared.live.Live.{Live as LiveOrder}
use Rattle.console_input.specs.declared.source.TheConstants.{MOST_FRAMES}
use Rattle.console_script.specs.Anew.{RunsAnew}
use Rattle.console_script.specs.Made.{AllGetNew}
use Rattle.thread_host_run.specs.HostRuns.{RunsNewHost}
use Rattle.bpfcon.specs.declared.fault.Fault.{Fault}
use Rattle.bpfcon.specs.declared.fault.Fault.TheVariants.{CannotWrite}
use Rattle.console_talk.specs.declared.manner.Manner.{Manner}
use Rattle.console_script.specs.Host.{device_names, limits}
use Rattle.console_talk.specs.Anew.{TalkedAnew}
use Rattle.thread_host_run.specs.HostRun.{HasServedThen}
use Rattle.bpfcon.specs.Live.{RanLive}
use Rattle.bpfcon.specs.Carried.{IsScriptOf, AreOfLive, IsSaid, Answered, RanFile, Served, ServedThen, CarriedLive}
use Rattle.bpfcon.specs.Book.{Did, DidAsked}

module _ (may_read : List ℕ → ℕ → Result (List ℕ) ReadFault → Type 0) (old new : Option (List ℕ)) where
  pub said : {E : Type 0} (r : Result Summary E) (text : List ℕ) → IfOk r (λ summary. Appends old new text × (summary ≡ no_counts)) → IfOk r (λ summary. IsSaid may_read old new summary)
  said (Ok summary) text it = record { text = text; wrote = it.0; counts = it.1 }
  said (Err fault) text it = tt

  pub answered : {E : Type 0} (r : Result Summary E) (manner : Manner) (input : Option (List ℕ)) → IfOk r (λ summary. TalkedAnew may_read manner input old new summary) → IfOk r (λ summary. Answered may_read old new summary manner)
  answered (Ok summary) manner input it = record { input = input; talked = it }
  answered (Err fault) manner input it = tt

  pub ran_file : {E : Type 0} (r : Result Summary E) (path text : List ℕ) (files : List FileText) → IsScriptOf may_read path text files
      → IfOk r (λ summary. RunsAnew old new device_names limits AllGetNew files text (Ok summary)) → IfOk r (λ summary. RanFile may_read old new summary path)
  ran_file (Ok summary) path text files script it = record { text = text; files = files; script = script; ran = it }
  ran_file (Err fault) path text files script it = tt

  pub served : {E : Type 0} (r : Result Summary E) (path frames text lines : List ℕ) (files : List FileText) → IsScriptOf may_read path text files → may_read frames MOST_FRAMES (Ok lines)
      → IfOk r (λ summary. RunsNewHost old new device_names limits files text lines (Ok summary)) → IfOk r (λ summary. Served may_read old new summary path frames)
  served (Ok summary) path frames text lines files script read it = record { text = text; files = files; script = script; lines = lines; read = read; ran = it }
  served (Err fault) path frames text lines files script read it = tt

-- a host run after which another script was run
module _ (may_read : List ℕ → ℕ → Result (List ℕ) ReadFault → Type 0) (old new : Option (List ℕ)) where
  pub served_then : {E : Type 0} (r : Result Summary E) (path frames after text lines then_text : List ℕ) (files then_files : List FileText) → IsScriptOf may_read path text files → may_read frames MOST_FRAMES (Ok lines)
      → IsScriptOf may_read after then_text then_files → IfOk r (λ summary. HasServedThen old new files text lines then_files then_text summary) → IfOk r (λ summary. ServedThen may_read old new summary path frames after)
  served_then (Ok summary) path frames after text lines then_text files then_files script read then_script it = record {
    text = text;
    files = files;
    script = script;
    lines = lines;
    read = read;
    then_text = then_text;
    then_files = then_files;
    then_script = then_script;
    ran = it;
  }
  served_then (Err fault) path frames after text lines then_text files then_files script read then_script it = tt

-- by how a desk steps, what supplies boxes, and what is seen of one
module _ {K S : Type 0} (g : Ghosts PlainBook PlainEvent Answer) (gives : S → MapAttr → Result K NoBox → S → Type 0) (kind : K → Seen) where
  -- a live host that was carried out
  pub carried_live : {E : Type 0} (may_read : List ℕ → ℕ → Result (List ℕ) ReadFault → Type 0) (old new : Option (List ℕ)) (r : Result Summary E) (live : LiveOrder) (text frames : List ℕ) (files : List FileText)
      → AreOfLive may_read live text files frames → IfOk r (λ summary. RanLive g gives kind may_read old new live.options files text frames summary) → IfOk r (λ summary. CarriedLive g gives kind may_read old new summary live)
  carried_live may_read old new (Ok summary) live text frames files are it = record { text = text; files = files; frames = frames; are = are; ran = it }
  carried_live may_read old new (Err fault) live text frames files are it = tt

-- what was asked was done
module _ {K S : Type 0} (g : Ghosts PlainBook PlainEvent Answer) (gives : S → MapAttr → Result K NoBox → S → Type 0) (kind : K → Seen) (may_be_there : List ℕ → Bool → Type 0) (may_open : List ℕ → ℕ → Result Database Error → Type 0) (may_be_time : ℕ → Type 0) where
  pub did_asked : (may_be : Result (List (String Global)) ArgsFault → Type 0) (may_name : Result (Option (String Global)) ArgsFault → Type 0) (may_read : List ℕ → ℕ → Result (List ℕ) ReadFault → Type 0) (request : Request) (old new : Option (List ℕ)) (ran : Result Summary Fault)
      → IsRequest may_be may_name (Ok request) → IfOk ran (λ summary. Did g gives kind may_be_there may_open may_be_time may_read old new summary request) → IfOk ran (λ summary. DidAsked g gives kind may_be_there may_open may_be_time may_be may_name may_read summary)
  did_asked may_be may_name may_read request old new (Ok summary) asks it = record { request = request; asked = asks; old = old; new = new; did = it }
  did_asked may_be may_name may_read request old new (Err fault) asks it = tt

-- a run that was carried out, and whose output was flushed
pub flushed_so : {A B : Type 0} (P : Summary → Type 0) (flush : Result A B) (result ran : Result Summary Fault) → MatchResult flush (λ _. result ≡ ran) (λ _. result ≡ Err CannotWrite) → IfOk ran P → IfOk result P
flushed_so P (Ok done) result ran is so = subst (λ (r : Result Summary Fault). IfOk r P) (sym is) so
flushed_so P (Err error) result ran is so = subst (λ (r : Result Summary Fault). IfOk r P) (sym is) tt
