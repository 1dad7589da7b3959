-- What a command does to the book and answers. Its references are resolved before the change; a box that was made for the
-- line stands as its blank, and the verdict on a program that is loaded is handed in.
use Rattle.std.specs.Prelude.{◌≡◌, ℕ, Bool, true, false, List, [], Option, Some, None, Result, Ok, Err, ⊤}
use Rattle.bt_mapkind.specs.declared.attr.MapAttr.{MapAttr}
use Rattle.bt_mapkind.specs.declared.request.MapOp.{MapOp}
use Rattle.bt_mapkind.specs.declared.request.MapOp.TheVariants as op
use Rattle.bt_mapkind.specs.declared.request.Query.{Query}
use Rattle.bt_mapkind.specs.declared.request.Query.TheVariants.{Lookup as LookupQuery, Next as NextQuery, Peek}
use Rattle.bt_roots.specs.declared.target.Target.TheVariants.{Map, Prog}
use Rattle.host_state.specs.declared.ask.Ask.{Ask}
use Rattle.host_state.specs.declared.ask.Ask.TheVariants as ask
use Rattle.host_state.specs.declared.ask.AskReply.{AskReply}
use Rattle.host_state.specs.declared.change.Change.{Change}
use Rattle.host_state.specs.declared.change.Change.TheVariants as change
use Rattle.host_state.specs.declared.change.Origin.TheVariants as origin
use Rattle.host_state.specs.declared.reply.Reply.{Reply}
use Rattle.host_state.specs.declared.reply.Refusal.{Refusal}
use Rattle.journal_model.specs.Blank.{Blank}
use Rattle.journal_model.specs.Book.{PlainBook, recorded, marked, undone_to, undone_last, redone, asked}
use Rattle.journal_model.specs.Forget.{forgotten}
use Rattle.journal_model.specs.Without.{taken_out}
use Rattle.journal_model.specs.Listed.{listed}
use Rattle.console_operand.specs.declared.reference.Reference.{Reference}
use Rattle.console_map_syntax.specs.declared.command.UpdateFlag.{UpdateFlag}
use Rattle.console_map_syntax.specs.declared.command.UpdateFlag.TheVariants as flag
use Rattle.console_map_syntax.specs.declared.command.MapCommand.{MapCommand}
use Rattle.console_map_syntax.specs.declared.command.MapCommand.TheVariants as m
use Rattle.console_operand.specs.declared.object.Object.{Object}
use Rattle.console_operand.specs.declared.object.Object.TheVariants as object
use Rattle.bt_syntax.specs.declared.prog.command.ProgCommand.{ProgCommand}
use Rattle.bt_syntax.specs.declared.prog.command.ProgCommand.TheVariants as p
use Rattle.bt_syntax.specs.declared.net.command.NetCommand.{NetCommand}
use Rattle.bt_syntax.specs.declared.net.command.NetCommand.TheVariants as n
use Rattle.bt_syntax.specs.declared.journal.JournalCommand.{JournalCommand}
use Rattle.bt_syntax.specs.declared.journal.JournalCommand.TheVariants as j
use Rattle.bt_syntax.specs.declared.frame.Frame.{Frame}
use Rattle.bt_syntax.specs.declared.run.RunCommand.{RunCommand}
use Rattle.bt_syntax.specs.declared.run.RunCommand.TheVariants as r
use Rattle.bt_syntax.specs.declared.command.Command.{Command}
use Rattle.bt_syntax.specs.declared.command.Command.TheVariants as c
use Rattle.console_answer.specs.Answers.{change_answer, mark_answer, undo_answer, undo_last_answer, redo_answer, forgot_answer, taken_out_answer, look_up_answer, next_answer, shown_answer, dump_answer, progs_answer, code_answer, devices_answer}
use Rattle.bt_console.specs.declared.edit.Edit.{Edit}
use Rattle.bt_console.specs.declared.edit.Edit.TheVariants as edit
use Rattle.bt_console.specs.declared.inquiry.Inquiry.{Inquiry}
use Rattle.bt_console.specs.declared.inquiry.Inquiry.TheVariants as inquiry
use Rattle.console_answer.specs.declared.answer.Answer.{Answer}
use Rattle.console_answer.specs.declared.answer.Answer.TheVariants.{Refused, Listed}
use Rattle.console_answer.specs.declared.fault.Fault.{Fault}
use Rattle.console_answer.specs.declared.fault.Fault.TheVariants.{NoMemory, NoFile, NestedBatch}
use Rattle.console_reference.specs.declared.reference.FoundMap.{FoundMap}
use Rattle.console_reference.specs.declared.value.Item.{Item}
use Rattle.console_reference.specs.declared.value.Item.TheVariants as item
use Rattle.console_reference.specs.References.{map_named, IsByIdOrPath, prog_named, template_named, item_named}
use Rattle.console_reference.specs.Programs.{Verdict, IsVerdict, live_maps, name_of}
use Rattle.bt_console.specs.Frames.{Console, on_book, frame_done, FrameEnds, run_start, run_step}

-- ---- changes
-- a new map, pinned at a path, whose template was found: its id and its charge are set when it is recorded
abbrev pub making : List ℕ → MapAttr → List ℕ → Result (Option ℕ) Fault → Result Change Fault
making path attr name (Err fault) = Err fault
making path attr name (Ok template) = Ok (change.Create 0 attr 0 name path template)

-- a flag as bpf(2) numbers it
abbrev pub flag_number : UpdateFlag → ℕ
flag_number flag.Any = 0
flag_number flag.NoExist = 1
flag_number flag.Exist = 2

-- what a push without a key writes; an id is no bytes
abbrev pub pushed : Item → List ℕ
pushed (item.Bytes value) = value
pushed (item.Id named) = []

-- an operation that the console asks for
abbrev pub operation : ℕ → MapOp → Change
operation id it = change.Operate origin.Console id it

-- without a key an item is pushed
abbrev pub writing : ℕ → Option (List ℕ) → UpdateFlag → Item → Change
writing id None it value = operation id (op.Push (pushed value) (flag_number it))
writing id (Some key) it (item.Bytes value) = operation id (op.Update key value (flag_number it))
writing id (Some key) it (item.Id named) = change.Link id key named (flag_number it)

abbrev pub written : ℕ → Option (List ℕ) → UpdateFlag → Result Item Fault → Result Change Fault
written id key it (Err fault) = Err fault
written id key it (Ok value) = Ok (writing id key it value)

abbrev pub change_of : PlainBook → FoundMap → Edit → Result Change Fault
change_of b map (edit.Write key value it) = written map.id key it (item_named b map.kind value)
change_of b map (edit.Delete key) = Ok (operation map.id (op.Delete key))
change_of b map edit.Pop = Ok (operation map.id op.Pop)
change_of b map edit.Freeze = Ok (change.Freeze map.id)
change_of b map (edit.Pin path) = Ok (change.Pin (Map map.id) path)

-- a change of the map of a reference
abbrev pub change_at : PlainBook → Result FoundMap Fault → Edit → Result Change Fault
change_at b (Err fault) it = Err fault
change_at b (Ok map) it = change_of b map it

abbrev pub changed : PlainBook × Result (ℕ × Reply) Refusal → PlainBook × Answer
changed done = (done.0, change_answer done.1)

-- the change is recorded, if what it speaks of was found
abbrev pub recorded_if : PlainBook → Result Change Fault → Option Blank → PlainBook × Answer
recorded_if b (Err fault) blank = (b, Refused fault)
recorded_if b (Ok it) blank = changed (recorded b it blank)

-- a change of a map that was found
abbrev pub edited : PlainBook → FoundMap → Edit → PlainBook × Answer
edited b map it = recorded_if b (change_of b map it) None

abbrev pub changed_at : PlainBook → Reference (List ℕ) → Edit → PlainBook × Answer
changed_at b map it = recorded_if b (change_at b (map_named b map) it) None

-- ---- questions
-- without a key the next item of a queue or a stack is asked for
abbrev pub look_up_query : Option (List ℕ) → Query
look_up_query None = Peek
look_up_query (Some key) = LookupQuery key

abbrev pub question_of : ℕ → Inquiry → Ask
question_of id (inquiry.LookUp key) = ask.Map id (look_up_query key)
question_of id (inquiry.Next key) = ask.Map id (NextQuery key)
question_of id inquiry.Dump = ask.Dump id
question_of id inquiry.Show = ask.Maps (Some id)

abbrev pub inquiry_answer : Inquiry → AskReply → Answer
inquiry_answer (inquiry.LookUp key) reply = look_up_answer key reply
inquiry_answer (inquiry.Next key) reply = next_answer reply
inquiry_answer inquiry.Dump reply = dump_answer reply
inquiry_answer inquiry.Show reply = shown_answer reply

-- a question to the map of a reference
abbrev pub told_at : PlainBook → Result FoundMap Fault → Inquiry → Answer
told_at b (Err fault) it = Refused fault
told_at b (Ok map) it = inquiry_answer it (asked b (question_of map.id it))

abbrev pub asked_at : PlainBook → Reference (List ℕ) → Inquiry → PlainBook × Answer
asked_at b map it = (b, told_at b (map_named b map) it)

-- ---- commands
abbrev pub map_done : PlainBook → MapCommand → Option Blank → PlainBook × Answer
map_done b (m.Show None) blank = (b, shown_answer (asked b (ask.Maps None)))
map_done b (m.Show (Some map)) blank = asked_at b map inquiry.Show
map_done b (m.Create path attr name inner_map) blank = recorded_if b (making path attr name (template_named b inner_map)) blank
map_done b (m.Dump map) blank = asked_at b map inquiry.Dump
map_done b (m.Update map key value it) blank = changed_at b map (edit.Write key value it)
map_done b (m.Lookup map key) blank = asked_at b map (inquiry.LookUp key)
map_done b (m.GetNext map key) blank = asked_at b map (inquiry.Next key)
map_done b (m.Delete map key) blank = changed_at b map (edit.Delete key)
map_done b (m.Peek map) blank = asked_at b map (inquiry.LookUp None)
map_done b (m.Push map value) blank = changed_at b map (edit.Write None value flag.Any)
map_done b (m.Pop map) blank = changed_at b map edit.Pop
map_done b (m.Freeze map) blank = changed_at b map edit.Freeze
map_done b (m.Pin map path) blank = changed_at b map (edit.Pin path)

-- a program that was found is pinned
abbrev pub pinning : List ℕ → Result ℕ Fault → Result Change Fault
pinning path (Err fault) = Err fault
pinning path (Ok id) = Ok (change.Pin (Prog id) path)

-- a new program, pinned at a path: its id is set when it is recorded. A file that is at hand was opened before
abbrev pub loading : List ℕ → Object → Verdict → Result Change Fault
loading path (object.File file) verdict = Err NoFile
loading path (object.Hex bytes) (Err fault) = Err fault
loading path (object.Hex bytes) (Ok code) = Ok (change.Load 0 code (name_of path) path)

-- a question about a program that was found
abbrev pub shown_prog : PlainBook → Result ℕ Fault → Answer
shown_prog b (Err fault) = Refused fault
shown_prog b (Ok id) = progs_answer (asked b (ask.Progs (Some id)))

abbrev pub shown_progs : PlainBook → Option (Reference (List ℕ)) → Answer
shown_progs b None = progs_answer (asked b (ask.Progs None))
shown_progs b (Some prog) = shown_prog b (prog_named b prog)

abbrev pub dumped_prog : PlainBook → Result ℕ Fault → Answer
dumped_prog b (Err fault) = Refused fault
dumped_prog b (Ok id) = code_answer (asked b (ask.Code id))

abbrev pub prog_done : PlainBook → Verdict → ProgCommand → PlainBook × Answer
prog_done b verdict (p.Show prog) = (b, shown_progs b prog)
prog_done b verdict (p.Dump prog) = (b, dumped_prog b (prog_named b prog))
prog_done b verdict (p.Pin prog path) = recorded_if b (pinning path (prog_named b prog)) None
prog_done b verdict (p.Load it path) = recorded_if b (loading path it verdict) None

-- a program that was found is attached to a device
abbrev pub attaching : List ℕ → Bool → Result ℕ Fault → Result Change Fault
attaching device overwrite (Err fault) = Err fault
attaching device overwrite (Ok id) = Ok (change.Attach id device overwrite)

abbrev pub net_done : PlainBook → NetCommand → PlainBook × Answer
net_done b (n.Show device) = (b, devices_answer (asked b (ask.Devices device)))
net_done b (n.Attach prog device overwrite) = recorded_if b (attaching device overwrite (prog_named b prog)) None
net_done b (n.Detach device) = recorded_if b (Ok (change.Detach device)) None

abbrev pub journal_done : PlainBook → JournalCommand → PlainBook × Answer
journal_done b (j.Mark name) = ((marked b name).0, mark_answer name (marked b name).1)
journal_done b (j.Undo None) = ((undone_last b).0, undo_last_answer (undone_last b).1)
journal_done b (j.Undo (Some name)) = ((undone_to b name).0, undo_answer (undone_to b name).1)
journal_done b j.Redo = ((redone b).0, redo_answer (redone b).1)
journal_done b (j.Forget name) = ((forgotten b name).0, forgot_answer name (forgotten b name).1)
journal_done b j.List = (b, Listed (listed b))
journal_done b (j.Without serial) = ((taken_out b serial).0, taken_out_answer (taken_out b serial).1)

abbrev pub run_done : Console → List Bool → RunCommand → Console × Answer
run_done s wants (r.Start frame) = run_start s frame
run_done s wants (r.Step number) = run_step s wants number

-- how a command or a line went: whether an allocation failed in it, the verdict on the program that it loads, and, for each
-- access of a run in it, whether an allocation failed in that
pub record Course : Type 0 where
  pub refused : Bool
  pub verdict : Verdict
  pub wants : List Bool

-- the console after a command, and its answer
abbrev pub command_done : Console → Course → Command → Option Blank → Console × Answer
command_done s course (c.Map command) blank = on_book s (map_done s.book command blank)
command_done s course (c.Prog command) blank = on_book s (prog_done s.book course.verdict command)
command_done s course (c.Net command) blank = on_book s (net_done s.book command)
command_done s course (c.Batch path) blank = (s, Refused NestedBatch)
command_done s course (c.Unpin path) blank = on_book s (changed (recorded s.book (change.Unpin path) None))
command_done s course (c.Frame frame) blank = on_book s (frame_done s.book course.wants frame)
command_done s course (c.Run command) blank = run_done s course.wants command
command_done s course (c.Journal command) blank = on_book s (journal_done s.book command)

-- the verdict on what is loaded is right
abbrev pub IsRightOf : PlainBook → Verdict → Object → Type 0
IsRightOf b verdict (object.Hex bytes) = IsVerdict (live_maps b) bytes verdict
IsRightOf b verdict (object.File file) = ⊤

-- the verdict is right, for a command that loads a program; no other asks for one
abbrev pub IsRightOn : PlainBook → Verdict → ProgCommand → Type 0
IsRightOn b verdict (p.Load it path) = IsRightOf b verdict it
IsRightOn b verdict (p.Show prog) = ⊤
IsRightOn b verdict (p.Dump prog) = ⊤
IsRightOn b verdict (p.Pin prog path) = ⊤

-- and the steps of a frame come to its end
abbrev pub IsRight : PlainBook → Course → Command → Type 0
IsRight b course (c.Prog command) = IsRightOn b course.verdict command
IsRight b course (c.Frame frame) = FrameEnds b course.wants frame
IsRight b course (c.Map command) = ⊤
IsRight b course (c.Net command) = ⊤
IsRight b course (c.Batch path) = ⊤
IsRight b course (c.Unpin path) = ⊤
IsRight b course (c.Run command) = ⊤
IsRight b course (c.Journal command) = ⊤

-- ---- lack of memory
-- if an allocation failed the answer is NoMemory, and all stays
abbrev pub unless_refused : {S : Type 0} → Bool → S → S × Answer → S × Answer
unless_refused true s done = (s, Refused NoMemory)
unless_refused false s done = done

-- an allocation failed, or it is what is to be done
abbrev pub DoneUnlessRefused : {S : Type 0} → S → S × Answer → S × Answer → Type 0
DoneUnlessRefused s done made = (refused : Bool) × (made ≡ unless_refused refused s done)

-- commands that take no memory, to which none is refused
abbrev pub IsUndoRedoOrForget : JournalCommand → Type 0
IsUndoRedoOrForget (j.Undo name) = ⊤
IsUndoRedoOrForget j.Redo = ⊤
IsUndoRedoOrForget (j.Forget name) = ⊤
IsUndoRedoOrForget _ = ⊥

abbrev pub TakesNoMemory : Command → Type 0
TakesNoMemory (c.Journal command) = IsUndoRedoOrForget command
TakesNoMemory _ = ⊥

-- a look-up in a map that is named by its id or its path
abbrev pub IsOfOneKey : Inquiry → Type 0
IsOfOneKey (inquiry.LookUp key) = ⊤
IsOfOneKey (inquiry.Next key) = ⊤
IsOfOneKey inquiry.Dump = ⊥
IsOfOneKey inquiry.Show = ⊥

abbrev pub IsMapLookUp : MapCommand → Type 0
IsMapLookUp (m.Lookup map key) = IsByIdOrPath map
IsMapLookUp (m.GetNext map key) = IsByIdOrPath map
IsMapLookUp (m.Peek map) = IsByIdOrPath map
IsMapLookUp _ = ⊥

abbrev pub LooksUp : Command → Type 0
LooksUp (c.Map command) = IsMapLookUp command
LooksUp _ = ⊥

-- an allocation failed, and then nothing is said, or this holds
abbrev pub UnlessRefused : Bool → Type 0 → Type 0
UnlessRefused true P = ⊤
UnlessRefused false P = P

-- a command went some way that is right, and this was made
pub record Goes {S : Type 0} (right : Course → Type 0) (s : S) (done : Course → S × Answer) (made : S × Answer) : Type 0 where
  pub course : Course
  pub holds : UnlessRefused course.refused (right course)
  pub is : made ≡ unless_refused course.refused s (done course)

abbrev pub ProgGoes : PlainBook → ProgCommand → PlainBook × Answer → Type 0
ProgGoes b command made = Goes (λ course. IsRightOn b course.verdict command) b (λ course. prog_done b course.verdict command) made

abbrev pub FrameGoes : PlainBook → Frame → PlainBook × Answer → Type 0
FrameGoes b frame made = Goes (λ course. FrameEnds b course.wants frame) b (λ course. frame_done b course.wants frame) made

abbrev pub RunGoes : Console → RunCommand → Console × Answer → Type 0
RunGoes s command made = Goes (λ course. ⊤) s (λ course. run_done s course.wants command) made

abbrev pub CommandGoes : Console → Command → Option Blank → Console × Answer → Type 0
CommandGoes s command blank made = Goes (λ course. IsRight s.book course command) s (λ course. command_done s course command blank) made
