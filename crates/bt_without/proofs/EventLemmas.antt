-- Each call is a step of the plain book, and steps one after another are a run.
use Rattle.std.proofs.Common.{◌≡◌, ℕ, true, false, List, [], ◌∷◌, ◌++◌, map, Option, Result, Ok, Err, IfOk, refl, sym, ◌∙◌, ap, subst}
use Rattle.std.proofs.lemmas.List.{map-append}
use Rattle.std.specs.declared.alloc.AllocError.{AllocError}
use Rattle.bt_mapkind.specs.Seen.{Seen}
use Rattle.bt_verify.specs.Program.{ProgramView}
use Rattle.program_access.specs.declared.access.Access.{Access}
use Rattle.program_access.specs.declared.reply.AccessReply.{AccessReply}
use Rattle.host_state.specs.declared.ask.Ask.{Ask as Question}
use Rattle.host_state.specs.declared.ask.AskReply.{AskReply}
use Rattle.host_state.specs.declared.change.Change.{Change}
use Rattle.host_state.specs.declared.reply.Reply.{Reply}
use Rattle.host_state.specs.declared.reply.Refusal.{Refusal}
use Rattle.host_state.specs.declared.reply.Refusal.TheVariants.{NoMemory}
use Rattle.journal_model.specs.declared.faults.ForgetFault.{ForgetFault}
use Rattle.journal_model.specs.declared.faults.MarkFault.{MarkFault}
use Rattle.journal_model.specs.declared.faults.MarkFault.TheVariants.{NoMemory as NoMemoryForMark}
use Rattle.journal_model.specs.declared.faults.NothingToUndo.{NothingToUndo}
use Rattle.journal_model.specs.declared.faults.RedoFault.{RedoFault}
use Rattle.journal_model.specs.declared.faults.StartFault.{StartFault}
use Rattle.journal_model.specs.declared.faults.StartFault.TheVariants.{NoMemory as NoMemoryForStart}
use Rattle.journal_model.specs.declared.faults.UndoFault.{UndoFault}
use Rattle.journal_model.specs.declared.faults.WithoutFault.{WithoutFault}
use Rattle.journal_model.specs.declared.faults.WithoutFault.TheVariants.{NoMemory as NoMemoryForWithout}
use Rattle.journal_model.specs.declared.listed.JournalList.{JournalList}
use Rattle.journal_model.specs.Blank.{Blank}
use Rattle.journal_model.specs.Book.{PlainBook, recorded, marked, undone_to, undone_last, redone, asked, OrNoMemory}
use Rattle.journal_model.specs.Without.{taken_out}
use Rattle.journal_model.specs.Forget.{forgotten}
use Rattle.journal_model.specs.Listed.{listed}
use Rattle.journal_model.specs.Serve.{started, served, want_told, OrWant}
use Rattle.journal_model.specs.Run.{PlainEvent, PlainAnswer, event_of, answers_as, Record as PlainRecord, Mark as PlainMark, UndoTo as PlainUndoTo, UndoLast as PlainUndoLast, Redo as PlainRedo, Without as PlainWithout, Forget as PlainForget, ListAll as PlainList, Ask as PlainAsk, Start as PlainStart, Serve as PlainServe, Recorded as PlainRecorded, Marked as PlainMarked, UndoneTo as PlainUndoneTo, UndoneLast as PlainUndoneLast, Redone as PlainRedone, TakenOut as PlainTakenOut, Forgot as PlainForgot, Listed as PlainListed, Asked as PlainAsked, Started as PlainStarted, Served as PlainServed}
use Rattle.journal_model.proofs.Running.{bookrun-push}
use Rattle.bt_journal.specs.Recording.{AreBlanks}
use Rattle.bt_without.specs.Events.{IsEvent, AreEvents, answer_of, IsStep, IsRun}
use Rattle.bt_without.specs.declared.events.Event.{Event}
use Rattle.bt_without.specs.declared.events.Event.TheVariants.{Record, Mark, UndoTo, UndoLast, Redo, Without, Forget, List as ListAll, Ask, Start, Serve}
use Rattle.bt_without.specs.declared.events.Answer.{Answer}
use Rattle.bt_without.specs.declared.events.Answer.TheVariants.{Recorded, Marked, UndoneTo, UndoneLast, Redone, TakenOut, Forgot, Listed, Asked, Started, Served}

-- ---- each call
pub record_is_step : {K : Type 0} (seen : K → Seen) (old new : PlainBook) (change : Change) (blank : Option K) (result : Result (ℕ × Reply) Refusal) (b : Option Blank) → AreBlanks seen blank b
    → ((plain : Option Blank) → AreBlanks seen blank plain → OrNoMemory old NoMemory (recorded old change plain) (new, result)) → IsStep seen old (Record change blank) (Recorded result) new
record_is_step seen old new change blank result b is h = record {
  given = ((h b is).0, PlainRecord change b);
  event_is = (b, is, refl);
  does = ap (answers_as PlainRecorded) (sym (h b is).1);
}

pub mark_is_step : {K : Type 0} (seen : K → Seen) (old new : PlainBook) (name : List ℕ) (result : Result (Unit {0}) MarkFault) → OrNoMemory old NoMemoryForMark (marked old name) (new, result) → IsStep seen old (Mark name) (Marked result) new
mark_is_step seen old new name result h = record { given = (h.0, PlainMark name); event_is = refl; does = ap (answers_as PlainMarked) (sym h.1) }

pub undo_to_is_step : {K : Type 0} (seen : K → Seen) (old new : PlainBook) (name : List ℕ) (result : Result ℕ UndoFault) → (new, result) ≡ undone_to old name → IsStep seen old (UndoTo name) (UndoneTo result) new
undo_to_is_step seen old new name result h = record { given = (false, PlainUndoTo name); event_is = refl; does = ap (answers_as PlainUndoneTo) (sym h) }

pub undo_last_is_step : {K : Type 0} (seen : K → Seen) (old new : PlainBook) (result : Result (Unit {0}) NothingToUndo) → (new, result) ≡ undone_last old → IsStep seen old UndoLast (UndoneLast result) new
undo_last_is_step seen old new result h = record { given = (false, PlainUndoLast); event_is = refl; does = ap (answers_as PlainUndoneLast) (sym h) }

pub redo_is_step : {K : Type 0} (seen : K → Seen) (old new : PlainBook) (result : Result (Unit {0}) RedoFault) → (new, result) ≡ redone old → IsStep seen old Redo (Redone result) new
redo_is_step seen old new result h = record { given = (false, PlainRedo); event_is = refl; does = ap (answers_as PlainRedone) (sym h) }

pub without_is_step : {K : Type 0} (seen : K → Seen) (old new : PlainBook) (serial : ℕ) (result : Result ℕ WithoutFault) → OrNoMemory old NoMemoryForWithout (taken_out old serial) (new, result) → IsStep seen old (Without serial) (TakenOut result) new
without_is_step seen old new serial result h = record { given = (h.0, PlainWithout serial); event_is = refl; does = ap (answers_as PlainTakenOut) (sym h.1) }

pub forget_is_step : {K : Type 0} (seen : K → Seen) (old new : PlainBook) (name : List ℕ) (result : Result (Unit {0}) ForgetFault) → (new, result) ≡ forgotten old name → IsStep seen old (Forget name) (Forgot result) new
forget_is_step seen old new name result h = record { given = (false, PlainForget name); event_is = refl; does = ap (answers_as PlainForgot) (sym h) }

pub list_is_step : {K : Type 0} (seen : K → Seen) (old : PlainBook) (result : Result JournalList AllocError) → IfOk result (λ list. list ≡ listed old) → IsStep seen old ListAll (Listed result) old
list_is_step seen old (Ok list) a = record { given = (false, PlainList); event_is = refl; does = λ i. (old, PlainListed (Ok (sym a i))) }
list_is_step seen old (Err e) a = record { given = (true, PlainList); event_is = refl; does = refl }

pub ask_is_step : {K : Type 0} (seen : K → Seen) (old new : PlainBook) (question : Question) (result : Result AskReply AllocError) → IfOk result (λ reply. reply ≡ asked old question) → new ≡ old → IsStep seen old (Ask question) (Asked result) new
ask_is_step seen old new question (Ok reply) a same = record { given = (false, PlainAsk question); event_is = refl; does = λ i. (sym same i, PlainAsked (Ok (sym a i))) }
ask_is_step seen old new question (Err e) a same = record { given = (true, PlainAsk question); event_is = refl; does = λ i. (sym same i, PlainAsked (Err e)) }

pub start_is_step : {K : Type 0} (seen : K → Seen) (old new : PlainBook) (device : List ℕ) (result : Result (Option (ProgramView × ℕ)) StartFault) → OrNoMemory old NoMemoryForStart (old, started old device) (new, result)
    → IsStep seen old (Start device) (Started result) new
start_is_step seen old new device result (true, e) = record { given = (true, PlainStart device); event_is = refl; does = ap (answers_as PlainStarted) (sym e) }
start_is_step seen old new device result (false, e) = record { given = (false, PlainStart device); event_is = refl; does = ap (answers_as PlainStarted) (sym e) }

pub serve_is_step : {K : Type 0} (seen : K → Seen) (old new : PlainBook) (prog : ℕ) (access : Access) (reply : AccessReply) → OrWant old (want_told access) (served old prog access) (new, reply)
    → IsStep seen old (Serve prog access) (Served reply) new
serve_is_step seen old new prog access reply h = record { given = (h.0, PlainServe prog access); event_is = refl; does = ap (answers_as PlainServed) (sym h.1) }

-- ---- one call after another
more_events : {K : Type 0} (seen : K → Seen) (es : List (Event K)) (ps : List PlainEvent) (e : Event K) (p : PlainEvent) → AreEvents seen es ps → IsEvent seen e p → AreEvents seen (es ++ e ∷ []) (ps ++ p ∷ [])
more_events seen [] [] e p h k = (k, tt)
more_events seen [] (q ∷ qs) e p h k = absurd h
more_events seen (d ∷ ds) [] e p h k = absurd h
more_events seen (d ∷ ds) (q ∷ qs) e p h k = (h.0, more_events seen ds qs e p h.1 k)

pub run_more : {K : Type 0} (seen : K → Seen) (old mid new : PlainBook) (events : List (Event K)) (answers longer : List Answer) (event : Event K) (answer : Answer)
    → IsRun seen old events answers mid → IsStep seen mid event answer new → longer ≡ answers ++ answer ∷ [] → IsRun seen old (events ++ event ∷ []) longer new
run_more seen old mid new events answers longer event answer r s l = record {
  given = r.given ++ s.given ∷ [];
  events_are = subst (AreEvents seen (events ++ event ∷ [])) (sym (map-append event_of r.given (s.given ∷ [])))
      (more_events seen events (map event_of r.given) event (event_of s.given) r.events_are s.event_is);
  run = bookrun-push old r.given s.given.0 (event_of s.given) mid new (map answer_of answers) (answer_of answer) r.run s.does
      ∙ ap (λ xs. let p : PlainBook × List PlainAnswer = (new, xs) in p) (sym (map-append answer_of answers (answer ∷ [])))
      ∙ ap (λ xs. let p : PlainBook × List PlainAnswer = (new, map answer_of xs) in p) (sym l);
}
