-- What is noted of an event leads where it led.
use Rattle.std.proofs.Common.{◌≡◌, ℕ, ◌+◌, ◌&&◌, Bool, true, false, cond, is_ok, is_err, List, [], ◌∷◌, ◌++◌, option_map, option_to_list, Result, Ok, Err, Option, Some, None, refl, sym, ◌∙◌, ap, subst}
use Rattle.std.proofs.lemmas.Bool.{eq-eqb}
use Rattle.bt_mapkind.specs.declared.request.MapOp.TheVariants as op
use Rattle.program_access.specs.declared.access.Access.TheVariants as access
use Rattle.bt_roots.specs.declared.target.Target.TheVariants.{Map, Prog}
use Rattle.host_state.specs.declared.change.Change.{Change}
use Rattle.host_state.specs.declared.change.Change.TheVariants.{Create, Load}
use Rattle.host_state.specs.declared.reply.Reply.{Reply}
use Rattle.host_state.specs.declared.reply.Reply.TheVariants.{Done, Id, Loaded, Value, Old}
use Rattle.host_state.specs.declared.reply.Refusal.{Refusal}
use Rattle.host_state.specs.State.{State}
use Rattle.host_state.specs.Act.{Outcome, act}
use Rattle.journal_model.specs.declared.faults.WithoutFault.{WithoutFault}
use Rattle.journal_model.specs.Plain.{now}
use Rattle.journal_model.specs.Blank.{Blank}
use Rattle.journal_model.specs.Book.{PlainBook, within_window, with_moment, refusal_of, done_as, recorded, recorded_as, recorded_unless, undone_to, undone_last, redone, marked}
use Rattle.journal_model.specs.Without.{taken_out}
use Rattle.journal_model.specs.Forget.{forgotten}
use Rattle.journal_model.specs.Serve.{operation}
use Rattle.journal_model.specs.Told.{id_told, prog_told, taken_serial}
use Rattle.journal_model.specs.Run.{PlainEvent, PlainAnswer, Record, Mark, UndoTo, UndoLast, Redo, Without, Forget, ListAll, Ask, Start, Serve, Given, bookstep, book_after}
use Rattle.journal_model.specs.Well.{IsWellBook}
use Rattle.journal_model.proofs.Acts.{IsDone, acted}
use Rattle.journal_model.proofs.Cases.{room_for}
use Rattle.journal_invariant.proofs.Events.{step_stays}
use Rattle.journal_laws.specs.Laws.{is_refused}
use Rattle.journal_laws.proofs.Refusing.{changes_nothing}
use Rattle.kept_event.specs.declared.event.KeptEvent.TheVariants as kept
use Rattle.kept_book.specs.Leading.{box_of, new_object, tells, is_recorded_as, is_taken_out_as, LeadTo}
use Rattle.kept_book.specs.Noted.{changes_since, accepts_move, move_as, noted, noted_in}
use Rattle.kept_book.specs.Laws.{NotedLeads, NotesLead}
use Rattle.kept_book.proofs.LeadLemmas.{lead_on}
use Rattle.kept_book.proofs.AgainLemmas.{recorded_again}
use Rattle.kept_book.proofs.NewestLemmas.{none_since, one_since}
use Rattle.kept_book.proofs.MoveLemmas.{moves_add_none}

-- ---- nothing is noted
pub stays : (b : PlainBook) → IsWellBook b → LeadTo b (changes_since b.last_serial b) b
stays b w = subst (λ es. LeadTo b es b) (sym (none_since b w)) refl

-- ---- a change
-- the reply tells what was made
tells_map : (reply : Reply) (id : ℕ) → id_told reply ≡ Some id → tells reply (Some (Map id)) ≡ true
tells_map Done id e = cc
tells_map (Id got) id e = let same : got ≡ id = cc in eq-eqb got id same
tells_map (Loaded got) id e = cc
tells_map (Value bytes) id e = cc
tells_map (Old number) id e = cc

tells_prog : (reply : Reply) (id : ℕ) → prog_told reply ≡ Some id → tells reply (Some (Prog id)) ≡ true
tells_prog Done id e = cc
tells_prog (Id got) id e = cc
tells_prog (Loaded got) id e = let same : got ≡ id = cc in eq-eqb got id same
tells_prog (Value bytes) id e = cc
tells_prog (Old number) id e = cc

tells_made : (s : State) (change : Change) (done : State × Reply) → IsDone s change done → tells done.1 (new_object change) ≡ true
tells_made s (Create id attr charge name path template) done d = tells_map done.1 id d.told
tells_made s (Load id code name path) done d = tells_prog done.1 id d.prog_told
tells_made s _ done d = refl

both : (s t : Bool) → s ≡ true → t ≡ true → s && t ≡ true
both true t e f = f
both false t e f = cc

record_leads : (b : PlainBook) → IsWellBook b → (change : Change) (blank : Option Blank) → refusal_of b change blank ≡ None → (o : Outcome) → act (now b.line) (done_as b change blank) ≡ o →
    LeadTo b (changes_since b.last_serial (recorded_as b (done_as b change blank) o).0) (recorded_as b (done_as b change blank) o).0
record_leads b w change blank none (Err errno) acts = stays b w
record_leads b w change blank none (Ok done) acts =
    let it : Change = done_as b change blank in
    let c : PlainBook = within_window (with_moment b it done) in
    let again : recorded b it (box_of it) ≡ (c, Ok (b.last_serial + 1, done.1)) = recorded_again b change blank none ∙ ap (recorded_as b it) acts in
    let told : tells done.1 (new_object it) ≡ true = tells_made (now b.line) it done (acted (now b.line) it done acts) in
    let accepts : is_recorded_as (b.last_serial + 1) (new_object it) (recorded b it (box_of it)).1 ≡ true =
    ap (λ p. is_recorded_as (b.last_serial + 1) (new_object it) p.1) again ∙ both _ _ (eq-eqb (b.last_serial + 1) (b.last_serial + 1) refl) told in
    let lead : LeadTo b (kept.Changed (b.last_serial + 1) it ∷ []) c = (accepts, ap (λ p. p.0) again) in
    subst (λ es. LeadTo b es c) (sym (one_since b w it done.0 done.1 (room_for b change blank none))) lead

change_leads : (b : PlainBook) → IsWellBook b → (change : Change) (blank : Option Blank) → LeadTo b (changes_since b.last_serial (recorded b change blank).0) (recorded b change blank).0
change_leads b w change blank = by (refusal_of b change blank) refl
  where
    by : (o : Option Refusal) → refusal_of b change blank ≡ o → LeadTo b (changes_since b.last_serial (recorded_unless o b (done_as b change blank)).0) (recorded_unless o b (done_as b change blank)).0
    by (Some refusal) e = stays b w
    by None e = record_leads b w change blank e (act (now b.line) (done_as b change blank)) refl

-- ---- a move of the journal
err_of : {A E : Type 0} (r : Result A E) → is_ok r ≡ false → is_err r ≡ true
err_of (Ok x) e = cc
err_of (Err f) e = refl

-- it is noted if it is accepted, and else the book stays
move_leads : (b : PlainBook) → IsWellBook b → (refused : Bool) (event : PlainEvent) → let made : PlainBook × PlainAnswer = bookstep refused b event in
    (accepts_move made.1 ≡ false → is_refused made.1 ≡ true) → (accepts_move made.1 ≡ true → LeadTo b (option_to_list (move_as event made.1)) made.0) → LeadTo b (noted b event made) made.0
move_leads b w refused event not_accepted accepted = by (accepts_move (bookstep refused b event).1) refl
  where
    by : (t : Bool) → accepts_move (bookstep refused b event).1 ≡ t → LeadTo b (option_to_list (cond t (move_as event (bookstep refused b event).1) None) ++ changes_since b.last_serial (bookstep refused b event).0) (bookstep refused b event).0
    by true e =
        lead_on b (bookstep refused b event).0 (bookstep refused b event).0 (option_to_list (move_as event (bookstep refused b event).1)) (changes_since b.last_serial (bookstep refused b event).0) (accepted e)
        (subst (λ es. LeadTo (bookstep refused b event).0 es (bookstep refused b event).0) (sym (moves_add_none refused b event w e)) refl)
    by false e =
        let same : (bookstep refused b event).0 ≡ b = changes_nothing b refused event (not_accepted e) in
        subst (λ (c : PlainBook). LeadTo b (changes_since b.last_serial c) c) (sym same) (stays b w)

taking_leads : (b : PlainBook) (serial : ℕ) (r : Result ℕ WithoutFault) → (taken_out b serial).1 ≡ r → is_ok r ≡ true → LeadTo b (option_to_list (option_map (λ (own : ℕ). kept.TakenOut serial own) (taken_serial r))) (taken_out b serial).0
taking_leads b serial (Ok own) e ok = (ap (is_taken_out_as own) e ∙ eq-eqb own own refl, refl)
taking_leads b serial (Err fault) e ok = let no : ⊥ = cc in absurd no

-- ---- each event
pub noted_leads : (b : PlainBook) (refused : Bool) (event : PlainEvent) → NotedLeads b refused event
noted_leads b true (Record change blank) w = stays b w
noted_leads b false (Record change blank) w = change_leads b w change blank
noted_leads b true (Mark name) w = stays b w
noted_leads b false (Mark name) w = move_leads b w false (Mark name) (err_of (marked b name).1) (λ ok. (ok, refl))
noted_leads b refused (UndoTo name) w = move_leads b w refused (UndoTo name) (err_of (undone_to b name).1) (λ ok. (ok, refl))
noted_leads b refused UndoLast w = move_leads b w refused UndoLast (err_of (undone_last b).1) (λ ok. (ok, refl))
noted_leads b refused Redo w = move_leads b w refused Redo (err_of (redone b).1) (λ ok. (ok, refl))
noted_leads b true (Without serial) w = stays b w
noted_leads b false (Without serial) w = move_leads b w false (Without serial) (err_of (taken_out b serial).1) (taking_leads b serial (taken_out b serial).1 refl)
noted_leads b refused (Forget name) w = move_leads b w refused (Forget name) (err_of (forgotten b name).1) (λ ok. (ok, refl))
noted_leads b refused ListAll w = stays b w
noted_leads b refused (Ask question) w = stays b w
noted_leads b refused (Start device) w = stays b w
noted_leads b true (Serve prog asked) w = stays b w
noted_leads b false (Serve prog (access.Load id key offset size)) w = stays b w
noted_leads b false (Serve prog (access.Store id key offset bytes)) w = change_leads b w (operation prog id (op.Store key offset bytes)) None
noted_leads b false (Serve prog (access.Atomic id key offset size it operand)) w = change_leads b w (operation prog id (op.Atomic key offset size it operand)) None
noted_leads b false (Serve prog (access.Lookup id key outer)) w = stays b w
noted_leads b false (Serve prog (access.Update id key value flag)) w = change_leads b w (operation prog id (op.Update key value flag)) None
noted_leads b false (Serve prog (access.Delete id key)) w = change_leads b w (operation prog id (op.Delete key)) None
noted_leads b false (Serve prog (access.Push id value flag)) w = change_leads b w (operation prog id (op.Push value flag)) None
noted_leads b false (Serve prog (access.Pop id value_size)) w = change_leads b w (operation prog id op.Pop) None
noted_leads b false (Serve prog (access.Peek id value_size)) w = stays b w
noted_leads b false (Serve prog (access.Fetch id index)) w = stays b w

-- ---- one after the other
pub notes_lead : (b : PlainBook) (events : List Given) → NotesLead b events
notes_lead b [] w = refl
notes_lead b (given ∷ rest) w =
    let made : PlainBook × PlainAnswer = bookstep given.0 b given.1 in
    lead_on b made.0 (book_after made.0 rest) (noted b given.1 made) (noted_in made.0 rest) (noted_leads b given.0 given.1 w) (notes_lead made.0 rest (step_stays given.0 b given.1 w))
