-- What one event does, by cases: it is refused or asks, and the book stays; or a change, that of a program too, a mark, an
-- undo, a redo, a taking out or a forgetting is done.
use Rattle.std.proofs.Common.{◌≡◌, ℕ, ◌+◌, ◌-◌, ◌≤◌, Bool, true, false, cond, not, ◌&&◌, ◌||◌, List, [], ◌∷◌, ◌++◌, length, refl}
use Rattle.std.specs.Prelude.{⊤, nat_le, Result, Ok, Err, Option, Some, None}
use Rattle.std.proofs.lemmas.Bool.{leb-true}
use Rattle.host_words.specs.Spelling.{is_name}
use Rattle.bt_mapkind.specs.declared.errno.Errno.TheVariants.{EINVAL}
use Rattle.bt_mapkind.specs.declared.request.MapOp.TheVariants as op
use Rattle.bt_mapkind.specs.Attributes.{good}
use Rattle.program_access.specs.declared.access.Access.{Access}
use Rattle.program_access.specs.declared.access.Access.TheVariants as access
use Rattle.program_access.specs.declared.reply.AccessReply.{AccessReply}
use Rattle.host_state.specs.declared.change.Change.{Change}
use Rattle.host_state.specs.declared.change.Change.TheVariants.{Create, Load}
use Rattle.host_state.specs.declared.reply.Reply.{Reply}
use Rattle.host_state.specs.declared.reply.Refusal.{Refusal}
use Rattle.host_state.specs.declared.reply.Refusal.TheVariants.{Errno, SerialsSpent, JournalFull, IdsSpent}
use Rattle.host_state.specs.State.{State}
use Rattle.host_state.specs.Act.{Outcome, act}
use Rattle.journal_model.specs.declared.faults.MarkFault.TheVariants.{BadName}
use Rattle.journal_model.specs.declared.faults.MarkFault.{MarkFault}
use Rattle.journal_model.specs.declared.faults.NothingToUndo.{NothingToUndo}
use Rattle.journal_model.specs.declared.faults.RedoFault.{RedoFault}
use Rattle.journal_model.specs.declared.faults.WithoutFault.{WithoutFault}
use Rattle.journal_model.specs.declared.faults.WithoutFault.TheVariants.{NotInForce, SerialsSpent as NoSerial, JournalFull as NoRoom, DependsOn}
use Rattle.journal_model.specs.declared.faults.ForgetFault.TheVariants.{StillTakenOut}
use Rattle.journal_model.specs.Plain.{Past, now, newest_force}
use Rattle.journal_model.specs.Replay.{replay}
use Rattle.journal_model.specs.Without.{without_fault, with_taken_out, taken_out_as, taken_out_unless}
use Rattle.journal_model.specs.Force.{is_in_force, without}
use Rattle.journal_model.specs.Forget.{based_at, forgotten_unless, forgotten_from}
use Rattle.journal_model.specs.Rebase.{still_taken_out}
use Rattle.journal_model.specs.Window.{can_fold, is_first}
use Rattle.journal_model.specs.Marks.{moments_at}
use Rattle.journal_model.specs.Blank.{Blank}
use Rattle.journal_model.specs.Book.{PlainBook, is_full, within_window, making_refusal, blank_refusal, refusal_of, done_as, last_map_after, last_prog_after, with_moment, recorded, recorded_as, recorded_unless, marked_unless, with_mark, back_to, undone_from, redo_fault, brought_back}
use Rattle.journal_model.specs.Serve.{reply_told, change_told, in_words, pointer_refusal, helper_refusal, is_live_at, loaded, looked_up, peeked, fetched, operation, served, want_told}
use Rattle.journal_model.specs.Run.{PlainEvent, PlainAnswer, Record, Mark, UndoTo, UndoLast, Redo, Without, Forget, ListAll, Ask, Start, Serve, Recorded, Marked, UndoneTo, UndoneLast, Redone, TakenOut, Forgot, Served, bookstep}
use Rattle.journal_model.specs.Told.{serial_in, id_in, prog_in}

-- a change as it is done: a create has the next map id, and a load the next program id
abbrev pub IsNumbered : ℕ → ℕ → Change → Type 0
IsNumbered new prog (Create id attr charge name path template) = id ≡ new
IsNumbered new prog (Load id code name path) = id ≡ prog
IsNumbered new prog _ = ⊤

-- the moment of a change that is done
abbrev pub new_moment : PlainBook → Change → State → Reply → Past
new_moment b change s reply = record {
  serial = b.last_serial + 1;
  out = None;
  force = newest_force b.line.moments ++ record { serial = b.last_serial + 1; change = change; reply = reply } ∷ [];
  state = s;
}

-- the moment of a taking out
abbrev pub taking_out : PlainBook → ℕ → State → Past
taking_out b serial s = record { serial = b.last_serial + 1; out = Some serial; force = without serial (newest_force b.line.moments); state = s }

-- if as many moments are in force as may be, the oldest can join the base; and it is not that of the change taken out
abbrev pub HasRoom : PlainBook → Type 0
HasRoom b = is_full b ≡ true → can_fold b.line ≡ true

abbrev pub HasRoomWithout : PlainBook → ℕ → Type 0
HasRoomWithout b serial = is_full b ≡ true → (can_fold b.line ≡ true) × (is_first serial b.line ≡ false)

-- what is shown of each case
pub record Shown (P : PlainBook × PlainAnswer → Type 0) (b : PlainBook) (event : PlainEvent) : Type 0 where
  pub stays : (answer : PlainAnswer) → serial_in answer ≡ None → id_in answer ≡ None → prog_in answer ≡ None → P (b, answer)
  pub records : (change : Change) (s : State) (reply : Reply) → IsNumbered (b.last_map + 1) (b.last_prog + 1) change → act (now b.line) change ≡ Ok (s, reply) → HasRoom b → P (within_window (with_moment b change (s, reply)), Recorded (Ok (b.last_serial + 1, reply)))
  pub serves : (change : Change) (s : State) (reply : Reply) → IsNumbered (b.last_map + 1) (b.last_prog + 1) change → act (now b.line) change ≡ Ok (s, reply)
      → last_map_after change b.last_map ≡ b.last_map → last_prog_after change b.last_prog ≡ b.last_prog → HasRoom b → P (within_window (with_moment b change (s, reply)), Served (reply_told reply))
  pub marks : (name : List ℕ) → event ≡ Mark name → moments_at name b.marks ≡ None → P (with_mark b name, Marked (Ok tt))
  pub undoes : (count : ℕ) → P (back_to b count, UndoneTo (Ok (length b.line.moments - count)))
  pub undoes_last : 1 ≤ length b.line.moments → P (back_to b (length b.line.moments - 1), UndoneLast (Ok tt))
  pub redoes : 1 ≤ length b.line.undone → P (brought_back b, Redone (Ok tt))
  pub takes_out : (serial : ℕ) (s : State) → is_in_force serial (newest_force b.line.moments) ≡ true → replay b.line.base (without serial (newest_force b.line.moments)) ≡ Ok s → HasRoomWithout b serial
      → P (within_window (with_taken_out b serial (without serial (newest_force b.line.moments)) s), TakenOut (Ok (b.last_serial + 1)))
  pub forgets : (name : List ℕ) (count : ℕ) → event ≡ Forget name → moments_at name b.marks ≡ Some count → still_taken_out count b.line ≡ None → P (based_at b count, Forgot (Ok tt))

-- ---- a change
-- a test that may refuse has not
pub not_refused : {X : Type 0} (test : Bool) (x : X) (o : Option X) → cond test (Some x) o ≡ None → o ≡ None
not_refused true x o e = cc
not_refused false x o e = e

not_there : {X : Type 0} (test : Bool) (x : X) (o : Option X) → cond test (Some x) o ≡ None → test ≡ false
not_there true x o e = cc
not_there false x o e = refl

-- if no test stands against it, the oldest can join the base of a full book
pub has_room : (b : PlainBook) → (is_full b && not (can_fold b.line)) ≡ false → HasRoom b
has_room b = by (is_full b) (can_fold b.line)
  where
    by : (full fold : Bool) → (full && not fold) ≡ false → full ≡ true → fold ≡ true
    by full true e is = refl
    by true false e is = cc
    by false false e is = cc

numbered : (b : PlainBook) (change : Change) (blank : Option Blank) → refusal_of b change blank ≡ None → IsNumbered (b.last_map + 1) (b.last_prog + 1) (done_as b change blank)
numbered b (Create id attr charge name path template) (Some blank) e = refl
numbered b (Create id attr charge name path template) None e =
    let making : making_refusal b (Create id attr charge name path template) None ≡ None =
    not_refused (is_full b && not (can_fold b.line)) JournalFull _ (not_refused (nat_le b.limits.last_serial b.last_serial) SerialsSpent _ e) in
    let no_blank : blank_refusal b attr None ≡ None =
    not_refused (not (good attr && is_name name)) (Errno EINVAL) _ (not_refused (nat_le b.limits.last_id b.last_map) IdsSpent _ making) in
    cc
numbered b (Load id code name path) (Some blank) e = refl
numbered b (Load id code name path) None e = refl
numbered b _ (Some blank) e = tt
numbered b _ None e = tt

-- nothing refused the change, so there is room for its moment
pub room_for : (b : PlainBook) (change : Change) (blank : Option Blank) → refusal_of b change blank ≡ None → HasRoom b
room_for b change blank e = has_room b (not_there (is_full b && not (can_fold b.line)) JournalFull _ (not_refused (nat_le b.limits.last_serial b.last_serial) SerialsSpent _ e))

recorded_cases : (P : PlainBook × PlainAnswer → Type 0) (b : PlainBook) → (event : PlainEvent) → Shown P b event → (change : Change) → (o : Outcome) → IsNumbered (b.last_map + 1) (b.last_prog + 1) change → HasRoom b → act (now b.line) change ≡ o → P ((recorded_as b change o).0, Recorded (recorded_as b change o).1)
recorded_cases P b event shown change (Err errno) n room e = shown.stays (Recorded (Err (Errno errno))) refl refl refl
recorded_cases P b event shown change (Ok done) n room e = shown.records change done.0 done.1 n e room

unless_cases : (P : PlainBook × PlainAnswer → Type 0) (b : PlainBook) → (event : PlainEvent) → Shown P b event → (change : Change) (blank : Option Blank) (o : Option Refusal) → refusal_of b change blank ≡ o →
    P ((recorded_unless o b (done_as b change blank)).0, Recorded (recorded_unless o b (done_as b change blank)).1)
unless_cases P b event shown change blank (Some refusal) e = shown.stays (Recorded (Err refusal)) refl refl refl
unless_cases P b event shown change blank None e = recorded_cases P b event shown (done_as b change blank) _ (numbered b change blank e) (room_for b change blank e) refl

-- ---- a change of a program, which makes nothing
as_served : (P : PlainBook × PlainAnswer → Type 0) (b : PlainBook) → (event : PlainEvent) → Shown P b event → (refused : Refusal → AccessReply) (change : Change) → (o : Outcome) → IsNumbered (b.last_map + 1) (b.last_prog + 1) change
    → last_map_after change b.last_map ≡ b.last_map → last_prog_after change b.last_prog ≡ b.last_prog → act (now b.line) change ≡ o → HasRoom b → P ((recorded_as b change o).0, Served (change_told refused (recorded_as b change o).1))
as_served P b event shown refused change (Err errno) n maps progs e room = shown.stays (Served (refused (Errno errno))) refl refl refl
as_served P b event shown refused change (Ok done) n maps progs e room = shown.serves change done.0 done.1 n e maps progs room

unless_served : (P : PlainBook × PlainAnswer → Type 0) (b : PlainBook) → (event : PlainEvent) → Shown P b event → (refused : Refusal → AccessReply) (change : Change)
    → last_map_after (done_as b change None) b.last_map ≡ b.last_map → last_prog_after (done_as b change None) b.last_prog ≡ b.last_prog → (o : Option Refusal) → refusal_of b change None ≡ o →
    P ((recorded_unless o b (done_as b change None)).0, Served (change_told refused (recorded_unless o b (done_as b change None)).1))
unless_served P b event shown refused change maps progs (Some refusal) e = shown.stays (Served (refused refusal)) refl refl refl
unless_served P b event shown refused change maps progs None e = as_served P b event shown refused (done_as b change None) _ (numbered b change None e) maps progs refl (room_for b change None e)

served_cases : (P : PlainBook × PlainAnswer → Type 0) (b : PlainBook) → (event : PlainEvent) → Shown P b event → (refused : Refusal → AccessReply) (change : Change)
    → last_map_after (done_as b change None) b.last_map ≡ b.last_map → last_prog_after (done_as b change None) b.last_prog ≡ b.last_prog →
    P ((in_words refused (recorded b change None)).0, Served (in_words refused (recorded b change None)).1)
served_cases P b event shown refused change maps progs = unless_served P b event shown refused change maps progs (refusal_of b change None) refl

access_cases : (P : PlainBook × PlainAnswer → Type 0) (b : PlainBook) → (event : PlainEvent) → Shown P b event → (prog : ℕ) (asked : Access) → P ((served b prog asked).0, Served (served b prog asked).1)
access_cases P b event shown prog (access.Load id key offset size) = shown.stays (Served (loaded b id key offset size)) refl refl refl
access_cases P b event shown prog (access.Store id key offset bytes) = served_cases P b event shown pointer_refusal (operation prog id (op.Store key offset bytes)) refl refl
access_cases P b event shown prog (access.Atomic id key offset size it operand) = served_cases P b event shown pointer_refusal (operation prog id (op.Atomic key offset size it operand)) refl refl
access_cases P b event shown prog (access.Lookup id key outer) = shown.stays (Served (looked_up b id key)) refl refl refl
access_cases P b event shown prog (access.Update id key value flag) = served_cases P b event shown (helper_refusal (is_live_at b id)) (operation prog id (op.Update key value flag)) refl refl
access_cases P b event shown prog (access.Delete id key) = served_cases P b event shown (helper_refusal (is_live_at b id)) (operation prog id (op.Delete key)) refl refl
access_cases P b event shown prog (access.Push id value flag) = served_cases P b event shown (helper_refusal (is_live_at b id)) (operation prog id (op.Push value flag)) refl refl
access_cases P b event shown prog (access.Pop id value_size) = served_cases P b event shown (helper_refusal (is_live_at b id)) (operation prog id op.Pop) refl refl
access_cases P b event shown prog (access.Peek id value_size) = shown.stays (Served (peeked b id)) refl refl refl
access_cases P b event shown prog (access.Fetch id index) = shown.stays (Served (fetched b id index)) refl refl refl

-- ---- a mark
marked_cases : (P : PlainBook × PlainAnswer → Type 0) (b : PlainBook) → (name : List ℕ) → Shown P b (Mark name) → (o : Option ℕ) → moments_at name b.marks ≡ o → P ((marked_unless o b name).0, Marked (marked_unless o b name).1)
marked_cases P b name shown (Some moments) e = shown.stays (Marked (marked_unless (Some moments) b name).1) refl refl refl
marked_cases P b name shown None e = shown.marks name refl e

-- ---- a taking out
taken_cases : (P : PlainBook × PlainAnswer → Type 0) (b : PlainBook) → (event : PlainEvent) → Shown P b event → (serial : ℕ) → is_in_force serial (newest_force b.line.moments) ≡ true → HasRoomWithout b serial → (r : Result State ℕ) → replay b.line.base (without serial (newest_force b.line.moments)) ≡ r →
    P ((taken_out_as b serial (without serial (newest_force b.line.moments)) r).0, TakenOut (taken_out_as b serial (without serial (newest_force b.line.moments)) r).1)
taken_cases P b event shown serial there room (Err first) e = shown.stays (TakenOut (Err (DependsOn first))) refl refl refl
taken_cases P b event shown serial there room (Ok s) e = shown.takes_out serial s there e room

pub in_force : (b : PlainBook) (serial : ℕ) → without_fault b serial ≡ None → is_in_force serial (newest_force b.line.moments) ≡ true
in_force b serial = there (is_in_force serial (newest_force b.line.moments)) _
  where
    there : (test : Bool) (o : Option WithoutFault) → cond (not test) (Some NotInForce) o ≡ None → test ≡ true
    there true o e = refl
    there false o e = cc

pub has_room_without : (b : PlainBook) (serial : ℕ) → (is_full b && (is_first serial b.line || not (can_fold b.line))) ≡ false → HasRoomWithout b serial
has_room_without b serial = by (is_full b) (is_first serial b.line) (can_fold b.line)
  where
    by : (full first fold : Bool) → (full && (first || not fold)) ≡ false → full ≡ true → (fold ≡ true) × (first ≡ false)
    by true true fold e is = cc
    by true false true e is = (refl, refl)
    by true false false e is = cc
    by false first fold e is = cc

pub room_without : (b : PlainBook) (serial : ℕ) → without_fault b serial ≡ None → HasRoomWithout b serial
room_without b serial e =
    let there = not_refused (not (is_in_force serial (newest_force b.line.moments))) NotInForce _ e in
    has_room_without b serial (not_there (is_full b && (is_first serial b.line || not (can_fold b.line))) NoRoom None (not_refused (nat_le b.limits.last_serial b.last_serial) NoSerial _ there))

taken_unless : (P : PlainBook × PlainAnswer → Type 0) (b : PlainBook) → (event : PlainEvent) → Shown P b event → (serial : ℕ) (o : Option WithoutFault) → without_fault b serial ≡ o → P ((taken_out_unless o b serial).0, TakenOut (taken_out_unless o b serial).1)
taken_unless P b event shown serial (Some fault) e = shown.stays (TakenOut (Err fault)) refl refl refl
taken_unless P b event shown serial None e = taken_cases P b event shown serial (in_force b serial e) (room_without b serial e) _ refl

-- ---- a forgetting
forgot_unless : (P : PlainBook × PlainAnswer → Type 0) (b : PlainBook) (name : List ℕ) → Shown P b (Forget name) → (count : ℕ) → moments_at name b.marks ≡ Some count → (o : Option ℕ) → still_taken_out count b.line ≡ o →
    P ((forgotten_unless o b count).0, Forgot (forgotten_unless o b count).1)
forgot_unless P b name shown count found (Some serial) e = shown.stays (Forgot (Err (StillTakenOut serial))) refl refl refl
forgot_unless P b name shown count found None e = shown.forgets name count refl found e

forgot_cases : (P : PlainBook × PlainAnswer → Type 0) (b : PlainBook) (name : List ℕ) → Shown P b (Forget name) → (o : Option ℕ) → moments_at name b.marks ≡ o → P ((forgotten_from b name o).0, Forgot (forgotten_from b name o).1)
forgot_cases P b name shown None e = shown.stays (Forgot (forgotten_from b name None).1) refl refl refl
forgot_cases P b name shown (Some count) e = forgot_unless P b name shown count e (still_taken_out count b.line) refl

-- ---- an event
undone_cases : (P : PlainBook × PlainAnswer → Type 0) (b : PlainBook) → (event : PlainEvent) (name : List ℕ) → Shown P b event → (o : Option ℕ) → P ((undone_from b name o).0, UndoneTo (undone_from b name o).1)
undone_cases P b event name shown None = shown.stays (UndoneTo (undone_from b name None).1) refl refl refl
undone_cases P b event name shown (Some count) = shown.undoes count

pub step_cases : (P : PlainBook × PlainAnswer → Type 0) (refused : Bool) (b : PlainBook) (event : PlainEvent) → Shown P b event → P (bookstep refused b event)
step_cases P true b (Record change blank) shown = shown.stays (bookstep true b (Record change blank)).1 refl refl refl
step_cases P false b (Record change blank) shown = unless_cases P b (Record change blank) shown change blank _ refl
step_cases P true b (Mark name) shown = shown.stays (bookstep true b (Mark name)).1 refl refl refl
step_cases P false b (Mark name) shown = named (is_name name)
  where
    named : (good : Bool) → let made : PlainBook × Result (Unit {0}) MarkFault = cond (not good) (b, Err BadName) (marked_unless (moments_at name b.marks) b name) in P (made.0, Marked made.1)
    named true = marked_cases P b name shown _ refl
    named false = shown.stays (Marked (Err BadName)) refl refl refl
step_cases P refused b (UndoTo name) shown = undone_cases P b (UndoTo name) name shown (moments_at name b.marks)
step_cases P refused b UndoLast shown = last (nat_le 1 (length b.line.moments)) refl
  where
    last : (any : Bool) → nat_le 1 (length b.line.moments) ≡ any →
        let made : PlainBook × Result (Unit {0}) NothingToUndo = cond any (back_to b (length b.line.moments - 1), Ok tt) (b, Err (record {})) in P (made.0, UndoneLast made.1)
    last true e = shown.undoes_last (leb-true 1 (length b.line.moments) e)
    last false e = shown.stays (UndoneLast (Err (record {}))) refl refl refl
step_cases P refused b Redo shown = first (nat_le 1 (length b.line.undone)) refl
  where
    first : (any : Bool) → nat_le 1 (length b.line.undone) ≡ any → let made : PlainBook × Result (Unit {0}) RedoFault = cond any (brought_back b, Ok tt) (b, Err (redo_fault b.gave_up)) in P (made.0, Redone made.1)
    first true e = shown.redoes (leb-true 1 (length b.line.undone) e)
    first false e = shown.stays (Redone (Err (redo_fault b.gave_up))) refl refl refl
step_cases P true b (Without serial) shown = shown.stays (bookstep true b (Without serial)).1 refl refl refl
step_cases P false b (Without serial) shown = taken_unless P b (Without serial) shown serial (without_fault b serial) refl
step_cases P refused b (Forget name) shown = forgot_cases P b name shown (moments_at name b.marks) refl
step_cases P refused b ListAll shown = shown.stays (bookstep refused b ListAll).1 refl refl refl
step_cases P refused b (Ask question) shown = shown.stays (bookstep refused b (Ask question)).1 refl refl refl
step_cases P refused b (Start device) shown = shown.stays (bookstep refused b (Start device)).1 refl refl refl
step_cases P true b (Serve prog asked) shown = shown.stays (Served (want_told asked)) refl refl refl
step_cases P false b (Serve prog asked) shown = access_cases P b (Serve prog asked) shown prog asked
