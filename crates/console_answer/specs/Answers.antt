-- What a line answers, from what the book answers.
use Rattle.std.specs.Prelude.{ℕ, List, Option, Some, None, Result, Ok, Err}
use Rattle.bt_mapkind.specs.declared.errno.Errno.TheVariants.{ENOENT, EINVAL}
use Rattle.bt_mapkind.specs.declared.request.MapReply.{MapReply}
use Rattle.bt_mapkind.specs.declared.request.MapReply.TheVariants as reply
use Rattle.bt_insn.specs.declared.fault.DecodeFault.{DecodeFault}
use Rattle.bt_insn.specs.declared.fault.DecodeFault.TheVariants as decode
use Rattle.bt_verify.specs.declared.fault.VerifyFault.{VerifyFault}
use Rattle.bt_verify.specs.declared.fault.VerifyFault.TheVariants as verify
use Rattle.host_state.specs.declared.ask.AskReply.{AskReply}
use Rattle.host_state.specs.declared.ask.AskReply.TheVariants as told
use Rattle.host_state.specs.declared.reply.Reply.{Reply}
use Rattle.host_state.specs.declared.reply.Refusal.{Refusal}
use Rattle.host_state.specs.declared.reply.Refusal.TheVariants as refusal
use Rattle.journal_model.specs.declared.faults.ForgetFault.{ForgetFault}
use Rattle.journal_model.specs.declared.faults.ForgetFault.TheVariants as forget
use Rattle.journal_model.specs.declared.faults.MarkFault.{MarkFault}
use Rattle.journal_model.specs.declared.faults.MarkFault.TheVariants as mark
use Rattle.journal_model.specs.declared.faults.NothingToUndo.{NothingToUndo}
use Rattle.journal_model.specs.declared.faults.RedoFault.{RedoFault}
use Rattle.journal_model.specs.declared.faults.RedoFault.TheVariants as redo
use Rattle.journal_model.specs.declared.faults.UndoFault.{UndoFault}
use Rattle.journal_model.specs.declared.faults.UndoFault.TheVariants as undo
use Rattle.journal_model.specs.declared.faults.WithoutFault.{WithoutFault}
use Rattle.journal_model.specs.declared.faults.WithoutFault.TheVariants as without
use Rattle.journal_model.specs.declared.faults.StartFault.{StartFault}
use Rattle.journal_model.specs.declared.faults.StartFault.TheVariants as start
use Rattle.bt_syntax.specs.declared.fault.SyntaxFault.{SyntaxFault}
use Rattle.bt_syntax.specs.declared.fault.SyntaxFault.TheVariants as syntax
use Rattle.console_answer.specs.declared.answer.Answer.{Answer}
use Rattle.console_answer.specs.declared.answer.Answer.TheVariants as answer
use Rattle.console_answer.specs.declared.fault.Fault.{Fault}
use Rattle.console_answer.specs.declared.fault.Fault.TheVariants as fault

-- ---- refusals
abbrev pub fault_of : Refusal → Fault
fault_of (refusal.Errno errno) = fault.Errno errno
fault_of refusal.NoMemory = fault.NoMemory
fault_of refusal.JournalFull = fault.JournalFull
fault_of refusal.BudgetFull = fault.BudgetFull
fault_of refusal.SerialsSpent = fault.SerialsSpent
fault_of refusal.IdsSpent = fault.IdsSpent
fault_of refusal.WrongBlank = fault.WrongBlank

abbrev pub mark_fault_of : MarkFault → Fault
mark_fault_of mark.BadName = fault.Errno EINVAL
mark_fault_of mark.MarkTaken = fault.MarkTaken
mark_fault_of mark.NoMemory = fault.NoMemory

abbrev pub redo_fault_of : RedoFault → Fault
redo_fault_of redo.NothingToRedo = fault.NothingToRedo
redo_fault_of (redo.RedoLost serial) = fault.RedoLost serial

abbrev pub undo_fault_of : UndoFault → Fault
undo_fault_of undo.NoMark = fault.NoMark
undo_fault_of undo.MarkForgotten = fault.MarkForgotten

abbrev pub forget_fault_of : ForgetFault → Fault
forget_fault_of forget.NoMark = fault.NoMark
forget_fault_of forget.MarkForgotten = fault.MarkForgotten
forget_fault_of (forget.StillTakenOut serial) = fault.StillTakenOut serial

abbrev pub without_fault_of : WithoutFault → Fault
without_fault_of without.NotInForce = fault.NotInForce
without_fault_of without.SerialsSpent = fault.SerialsSpent
without_fault_of without.JournalFull = fault.JournalFull
without_fault_of (without.DependsOn serial) = fault.DependsOn serial
without_fault_of without.NoMemory = fault.NoMemory

abbrev pub start_fault_of : StartFault → Fault
start_fault_of start.NoDevice = fault.Errno ENOENT
start_fault_of start.NoMemory = fault.NoMemory

-- lack of memory says nothing of a program
abbrev pub decode_fault_of : DecodeFault → Fault
decode_fault_of decode.NoMemory = fault.NoMemory
decode_fault_of why = fault.Decode why

abbrev pub verify_fault_of : VerifyFault → Fault
verify_fault_of verify.NoMemory = fault.NoMemory
verify_fault_of why = fault.Verify why

abbrev pub syntax_fault_of : SyntaxFault → Fault
syntax_fault_of syntax.TooLong = fault.TooLong
syntax_fault_of (syntax.At word) = fault.Syntax word
syntax_fault_of syntax.NoMemory = fault.NoMemory

-- ---- answers
abbrev pub change_answer : Result (ℕ × Reply) Refusal → Answer
change_answer (Ok done) = answer.Changed done.0 done.1
change_answer (Err why) = answer.Refused (fault_of why)

abbrev pub mark_answer : List ℕ → Result (Unit {0}) MarkFault → Answer
mark_answer name (Ok made) = answer.Marked name
mark_answer name (Err why) = answer.Refused (mark_fault_of why)

abbrev pub undo_answer : Result ℕ UndoFault → Answer
undo_answer (Ok count) = answer.Undone count
undo_answer (Err why) = answer.Refused (undo_fault_of why)

abbrev pub undo_last_answer : Result (Unit {0}) NothingToUndo → Answer
undo_last_answer (Ok done) = answer.Undone 1
undo_last_answer (Err why) = answer.Refused fault.NothingToUndo

abbrev pub redo_answer : Result (Unit {0}) RedoFault → Answer
redo_answer (Ok done) = answer.Redone
redo_answer (Err why) = answer.Refused (redo_fault_of why)

abbrev pub forgot_answer : List ℕ → Result (Unit {0}) ForgetFault → Answer
forgot_answer name (Ok done) = answer.Forgot name
forgot_answer name (Err why) = answer.Refused (forget_fault_of why)

-- a change was taken out, under a serial of the taking out's own
abbrev pub taken_out_answer : Result ℕ WithoutFault → Answer
taken_out_answer (Ok serial) = answer.TakenOut serial
taken_out_answer (Err why) = answer.Refused (without_fault_of why)

-- what stands under the key that was asked for, which in an LPM trie need not be the key that was found
abbrev pub found_under : Option (List ℕ) → List ℕ → Answer
found_under (Some key) value = answer.Found key value
found_under None value = answer.Refused (fault.Errno EINVAL)

abbrev pub linked_under : Option (List ℕ) → ℕ → Answer
linked_under (Some key) id = answer.Linked key id
linked_under None id = answer.Refused (fault.Errno EINVAL)

-- a map gives no other replies to a look-up than nothing, what it found, a link, or the next item without a key
abbrev pub read_answer : Option (List ℕ) → MapReply → Answer
read_answer key reply.Nothing = answer.NotFound
read_answer key (reply.Value bytes) = answer.Value bytes
read_answer key (reply.Found stored value) = found_under key value
read_answer key (reply.Link id) = linked_under key id
read_answer key _ = answer.Refused (fault.Errno EINVAL)

abbrev pub look_up_answer : Option (List ℕ) → AskReply → Answer
look_up_answer key (told.Answered it) = read_answer key it
look_up_answer key (told.Refused errno) = answer.Refused (fault.Errno errno)
look_up_answer key _ = answer.Refused (fault.Errno EINVAL)

-- the next key
abbrev pub key_answer : MapReply → Answer
key_answer (reply.Key key) = answer.NextKey key
key_answer reply.Nothing = answer.NoNextKey
key_answer _ = answer.Refused (fault.Errno EINVAL)

abbrev pub next_answer : AskReply → Answer
next_answer (told.Answered it) = key_answer it
next_answer (told.Refused errno) = answer.Refused (fault.Errno errno)
next_answer _ = answer.Refused (fault.Errno EINVAL)

-- what maps there are, and what a map holds
abbrev pub shown_answer : AskReply → Answer
shown_answer (told.Maps rows) = answer.Shown rows
shown_answer (told.Refused errno) = answer.Refused (fault.Errno errno)
shown_answer _ = answer.Refused (fault.Errno EINVAL)

abbrev pub dump_answer : AskReply → Answer
dump_answer (told.Dump elements) = answer.Dumped elements
dump_answer (told.Refused errno) = answer.Refused (fault.Errno errno)
dump_answer _ = answer.Refused (fault.Errno EINVAL)

-- what programs there are, and the instructions of one
abbrev pub progs_answer : AskReply → Answer
progs_answer (told.Progs rows) = answer.Progs rows
progs_answer (told.Refused errno) = answer.Refused (fault.Errno errno)
progs_answer _ = answer.Refused (fault.Errno EINVAL)

abbrev pub code_answer : AskReply → Answer
code_answer (told.Code insns) = answer.Code insns
code_answer (told.Refused errno) = answer.Refused (fault.Errno errno)
code_answer _ = answer.Refused (fault.Errno EINVAL)

-- the programs that are attached to devices
abbrev pub devices_answer : AskReply → Answer
devices_answer (told.Devices rows) = answer.Devices rows
devices_answer (told.Refused errno) = answer.Refused (fault.Errno errno)
devices_answer _ = answer.Refused (fault.Errno EINVAL)
