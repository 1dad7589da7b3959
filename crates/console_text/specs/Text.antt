-- The text of an answer: one line, which ends with LF. Bytes are two lower-case hexadecimal digits each, divided by single
-- spaces, as bpftool-map(8) shows them.
use Rattle.std.specs.Prelude.{ℕ, zero, suc, ◌+◌, ◌-◌, ◌/◌, ◌%◌, nat_lt, if◌then◌else◌, Bool, List, [], ◌∷◌, ◌++◌, length, codes, decimal}
use Rattle.std.specs.List.{flat_map, concat}
use Rattle.bt_insn.specs.declared.fault.DecodeFault.{DecodeFault}
use Rattle.bt_insn.specs.declared.fault.DecodeFault.TheVariants as decode
use Rattle.bt_insn.specs.declared.insn.Insn.{Insn}
use Rattle.bt_insn.specs.Register as register
use Rattle.bt_insn.specs.Spelling.{spelling_of}
use Rattle.bt_insn.specs.Table.{slots_of}
use Rattle.bt_verify.specs.declared.fault.VerifyFault.{VerifyFault}
use Rattle.bt_verify.specs.declared.fault.VerifyFault.TheVariants as verify
use Rattle.bt_mapkind.specs.declared.errno.Errno.{Errno}
use Rattle.bt_mapkind.specs.declared.errno.Errno.TheVariants as errno
use Rattle.bt_mapkind.specs.ErrnoNumber.{number_of}
use Rattle.bt_mapkind.specs.declared.attr.MapAttr.{MapAttr}
use Rattle.bt_mapkind.specs.declared.attr.MapType.{MapType}
use Rattle.bt_mapkind.specs.declared.attr.MapType.TheVariants as type
use Rattle.host_state.specs.declared.shown.MapRow.{MapRow}
use Rattle.host_state.specs.declared.shown.ProgRow.{ProgRow}
use Rattle.host_state.specs.declared.shown.DeviceRow.{DeviceRow}
use Rattle.host_state.specs.declared.shown.Element.{Element}
use Rattle.host_state.specs.declared.shown.Element.TheVariants as element
use Rattle.host_state.specs.declared.change.Origin.{Origin}
use Rattle.host_state.specs.declared.change.Origin.TheVariants as origin
use Rattle.host_state.specs.declared.reply.Reply.{Reply}
use Rattle.host_state.specs.declared.reply.Reply.TheVariants as reply
use Rattle.journal_model.specs.declared.listed.Deed.{Deed}
use Rattle.journal_model.specs.declared.listed.Deed.TheVariants as deed
use Rattle.journal_model.specs.declared.listed.ChangeRow.{ChangeRow}
use Rattle.journal_model.specs.declared.listed.MarkRow.{MarkRow}
use Rattle.journal_model.specs.declared.listed.JournalList.{JournalList}
use Rattle.program_machine.specs.declared.reason.Reason.{Reason}
use Rattle.program_machine.specs.declared.reason.Reason.TheVariants as reason
use Rattle.program_step.specs.declared.outcome.Action.{Action}
use Rattle.program_step.specs.declared.outcome.Action.TheVariants as action
use Rattle.program_step.specs.Outcome as outcomes
use Rattle.bt_interp.specs.declared.end.End.{End}
use Rattle.bt_interp.specs.declared.end.End.TheVariants.{Done, Aborted, NoProgram}
use Rattle.console_answer.specs.declared.answer.Answer.{Answer}
use Rattle.console_answer.specs.declared.answer.Answer.TheVariants as answer
use Rattle.console_answer.specs.declared.fault.Fault.{Fault}
use Rattle.console_answer.specs.declared.fault.Fault.TheVariants as fault
use Rattle.console_text.specs.declared.piece.Piece.{Piece}
use Rattle.console_text.specs.declared.piece.Piece.TheVariants as piece

-- ---- bytes
abbrev pub hex_digit : ℕ → ℕ
hex_digit n = if nat_lt n 10 then 48 + n else 97 + (n - 10)

abbrev pub hex_of : ℕ → List ℕ
hex_of byte = hex_digit (byte / 16) ∷ hex_digit (byte % 16) ∷ []

abbrev pub spaced_hex_of : ℕ → List ℕ
spaced_hex_of byte = 32 ∷ hex_of byte

abbrev pub bytes_text : List ℕ → List ℕ
bytes_text [] = []
bytes_text (byte ∷ bytes) = hex_of byte ++ flat_map spaced_hex_of bytes

-- a number in hexadecimal, of at most so many digits, without leading zeros
abbrev pub low_digit : ℕ → List ℕ
low_digit n = hex_digit (n % 16) ∷ []

abbrev pub hexadecimal_within : ℕ → ℕ → List ℕ
hexadecimal_within zero n = []
hexadecimal_within (suc digits) n = if nat_lt n 16 then low_digit n else hexadecimal_within digits (n / 16) ++ low_digit n

unfoldable pub hexadecimal : ℕ → List ℕ
hexadecimal n = hexadecimal_within 8 n

-- ---- pieces of a text
abbrev pub piece_text : Piece → List ℕ
piece_text (piece.Plain text) = text.now
piece_text (piece.Word word) = word.now
piece_text (piece.Number number) = decimal number
piece_text (piece.Hexadecimal number) = hexadecimal number
piece_text (piece.Bytes bytes) = bytes_text bytes.now
piece_text (piece.Spaced bytes) = flat_map spaced_hex_of bytes.now

abbrev pub pieces_text : List Piece → List ℕ
pieces_text pieces = flat_map piece_text pieces

-- ---- answers
abbrev pub errno_name : Errno → List ℕ
errno_name errno.EPERM = codes "EPERM"
errno_name errno.ENOENT = codes "ENOENT"
errno_name errno.E2BIG = codes "E2BIG"
errno_name errno.ENOMEM = codes "ENOMEM"
errno_name errno.EBUSY = codes "EBUSY"
errno_name errno.EEXIST = codes "EEXIST"
errno_name errno.EINVAL = codes "EINVAL"
errno_name errno.ENOSPC = codes "ENOSPC"

-- a fault of a program, with the slot where it stands, and what is wrong there
abbrev pub slot_text : List ℕ → ℕ → List ℕ
slot_text words slot = concat (words ∷ decimal slot ∷ codes "\n" ∷ [])

abbrev pub slot_and_text : List ℕ → ℕ → ℕ → List ℕ
slot_and_text words slot what = concat (words ∷ decimal slot ∷ codes " " ∷ decimal what ∷ codes "\n" ∷ [])

abbrev pub decode_text : DecodeFault → List ℕ
decode_text decode.BadLength = codes "Error: decode BadLength\n"
decode_text decode.TooLong = codes "Error: decode TooLong\n"
decode_text (decode.BadOpcode slot) = slot_text (codes "Error: decode BadOpcode ") slot
decode_text (decode.BadField slot) = slot_text (codes "Error: decode BadField ") slot
decode_text (decode.HalfWide slot) = slot_text (codes "Error: decode HalfWide ") slot
decode_text decode.NoMemory = codes "Error: no memory\n"

abbrev pub verify_text : VerifyFault → List ℕ
verify_text verify.TooLong = codes "Error: verify TooLong\n"
verify_text (verify.WritesFrame slot) = slot_text (codes "Error: verify WritesFrame ") slot
verify_text (verify.NoHelper slot) = slot_text (codes "Error: verify NoHelper ") slot
verify_text (verify.NoMap slot id) = slot_and_text (codes "Error: verify NoMap ") slot id
verify_text (verify.JumpOut slot) = slot_text (codes "Error: verify JumpOut ") slot
verify_text (verify.IntoWide slot) = slot_text (codes "Error: verify IntoWide ") slot
verify_text (verify.BackEdge slot) = slot_text (codes "Error: verify BackEdge ") slot
verify_text verify.FallsOff = codes "Error: verify FallsOff\n"
verify_text (verify.Uninit slot r) = slot_and_text (codes "Error: verify Uninit ") slot (register.number_of r)
verify_text verify.NoMemory = codes "Error: no memory\n"

abbrev pub fault_text : Fault → List ℕ
fault_text (fault.Errno it) = concat (codes "Error: " ∷ errno_name it ∷ codes " (-" ∷ decimal (number_of it) ∷ codes ")\n" ∷ [])
fault_text (fault.Syntax word) = concat (codes "Error: syntax at word " ∷ decimal word ∷ codes "\n" ∷ [])
fault_text fault.TooLong = codes "Error: line too long\n"
fault_text fault.Ambiguous = codes "Error: ambiguous\n"
fault_text fault.JournalFull = codes "Error: journal full\n"
fault_text fault.BudgetFull = codes "Error: budget full\n"
fault_text fault.SerialsSpent = codes "Error: serials spent\n"
fault_text fault.IdsSpent = codes "Error: ids spent\n"
fault_text fault.WrongBlank = codes "Error: wrong blank\n"
fault_text fault.NoMemory = codes "Error: no memory\n"
fault_text fault.NoMark = codes "Error: no mark\n"
fault_text fault.MarkForgotten = codes "Error: mark forgotten\n"
fault_text fault.MarkTaken = codes "Error: mark taken\n"
fault_text fault.NothingToUndo = codes "Error: nothing to undo\n"
fault_text fault.NothingToRedo = codes "Error: nothing to redo\n"
fault_text (fault.RedoLost serial) = concat (codes "Error: redo lost " ∷ decimal serial ∷ codes "\n" ∷ [])
fault_text (fault.StillTakenOut serial) = concat (codes "Error: still taken out " ∷ decimal serial ∷ codes "\n" ∷ [])
fault_text fault.NotInForce = codes "Error: not in force\n"
fault_text (fault.DependsOn serial) = concat (codes "Error: depends on " ∷ decimal serial ∷ codes "\n" ∷ [])
fault_text fault.NoRun = codes "Error: no run\n"
fault_text fault.RunsFull = codes "Error: runs full\n"
fault_text fault.NoFile = codes "Error: no file\n"
fault_text fault.NestedBatch = codes "Error: nested batch\n"
fault_text (fault.Decode it) = decode_text it
fault_text (fault.Verify it) = verify_text it

-- the old number that an atomic instruction found is not shown
abbrev pub change_text : ℕ → Reply → List ℕ
change_text serial reply.Done = concat (codes "ok " ∷ decimal serial ∷ codes "\n" ∷ [])
change_text serial (reply.Id id) = concat (codes "ok " ∷ decimal serial ∷ codes " id " ∷ decimal id ∷ codes "\n" ∷ [])
change_text serial (reply.Loaded id) = concat (codes "ok " ∷ decimal serial ∷ codes " id " ∷ decimal id ∷ codes "\n" ∷ [])
change_text serial (reply.Value bytes) = concat (codes "ok " ∷ decimal serial ∷ codes " value: " ∷ bytes_text bytes ∷ codes "\n" ∷ [])
change_text serial (reply.Old number) = concat (codes "ok " ∷ decimal serial ∷ codes "\n" ∷ [])

abbrev pub found_text : List ℕ → List ℕ → List ℕ
found_text key value = concat (codes "key: " ∷ bytes_text key ∷ codes " value: " ∷ bytes_text value ∷ codes "\n" ∷ [])

abbrev pub linked_text : List ℕ → ℕ → List ℕ
linked_text key id = concat (codes "key: " ∷ bytes_text key ∷ codes " value: id " ∷ decimal id ∷ codes "\n" ∷ [])

abbrev pub value_text : List ℕ → List ℕ
value_text value = concat (codes "value: " ∷ bytes_text value ∷ codes "\n" ∷ [])

abbrev pub marked_text : List ℕ → List ℕ
marked_text name = concat (codes "marked " ∷ name ∷ codes "\n" ∷ [])

abbrev pub forgot_text : List ℕ → List ℕ
forgot_text name = concat (codes "forgot " ∷ name ∷ codes "\n" ∷ [])

abbrev pub undone_text : ℕ → List ℕ
undone_text count = concat (codes "undone " ∷ decimal count ∷ codes "\n" ∷ [])

abbrev pub taken_out_text : ℕ → List ℕ
taken_out_text serial = concat (codes "ok " ∷ decimal serial ∷ codes "\n" ∷ [])

abbrev pub next_text : List ℕ → List ℕ
next_text key = concat (codes "next key: " ∷ bytes_text key ∷ codes "\n" ∷ [])

-- ---- a dump: its elements one a line, and how many they are
abbrev pub element_text : Element → List ℕ
element_text (element.Pair key value) = found_text key value
element_text (element.Item value) = value_text value
element_text (element.Link key id) = linked_text key id

abbrev pub count_text : ℕ → List ℕ
count_text count = concat (codes "found " ∷ decimal count ∷ codes " elements\n" ∷ [])

abbrev pub dump_text : List Element → List ℕ
dump_text elements = flat_map element_text elements ++ count_text (length elements)

-- ---- maps shown, one a line
abbrev pub type_name : MapType → List ℕ
type_name type.Array = codes "array"
type_name type.Hash = codes "hash"
type_name type.LpmTrie = codes "lpm_trie"
type_name type.Queue = codes "queue"
type_name type.Stack = codes "stack"
type_name type.ArrayOfMaps = codes "array_of_maps"
type_name type.ProgArray = codes "prog_array"
type_name type.HashOfMaps = codes "hash_of_maps"

abbrev pub naming_text : ℕ → MapType → List ℕ → List ℕ
naming_text id kind name = concat (decimal id ∷ codes ": " ∷ type_name kind ∷ codes " name " ∷ name ∷ [])

abbrev pub sizes_text : MapAttr → List ℕ
sizes_text a =
    concat (codes " flags 0x" ∷ hexadecimal a.flags ∷ codes " key " ∷ decimal a.key_size ∷ codes "B value " ∷ decimal a.value_size ∷ codes "B max_entries " ∷ decimal a.max_entries ∷ [])

abbrev pub end_text : Bool → List ℕ
end_text frozen = if frozen then codes " frozen\n" else codes "\n"

abbrev pub row_text : MapRow → List ℕ
row_text row = naming_text row.id row.attr.kind row.name ++ (sizes_text row.attr ++ end_text row.frozen)

-- ---- programs shown, one a line: a wide instruction counts once
abbrev pub next_id_text : ℕ → List ℕ
next_id_text id = concat (codes "," ∷ decimal id ∷ [])

abbrev pub ids_text : List ℕ → List ℕ
ids_text [] = []
ids_text (id ∷ ids) = concat (codes " map_ids " ∷ decimal id ∷ []) ++ flat_map next_id_text ids

abbrev pub program_text : ℕ → List ℕ → ℕ → List ℕ
program_text id name insns = concat (decimal id ∷ codes ": xdp name " ∷ name ∷ codes " insns " ∷ decimal insns ∷ [])

abbrev pub prog_text : ProgRow → List ℕ
prog_text row = program_text row.id row.name row.insns ++ (ids_text row.maps ++ codes "\n")

-- ---- the instructions of a program, one a line, each with its first slot
abbrev pub insn_text : ℕ → Insn → List ℕ
insn_text slot insn = concat (decimal slot ∷ codes ": " ∷ bytes_text (spelling_of insn) ∷ codes "\n" ∷ [])

abbrev pub code_text : ℕ → List Insn → List ℕ
code_text slot [] = []
code_text slot (insn ∷ insns) = insn_text slot insn ++ code_text (slot + slots_of insn) insns

-- ---- devices shown, one a line: the name, the ifindex and the program
abbrev pub attached_text : List ℕ → ℕ → ℕ → List ℕ
attached_text name ifindex prog = concat (name ∷ codes "(" ∷ decimal ifindex ∷ codes ") id " ∷ decimal prog ∷ codes "\n" ∷ [])

abbrev pub device_text : DeviceRow → List ℕ
device_text row = attached_text row.name row.ifindex row.prog

-- ---- what a journal lists: each change with its serial, who made it and what it did, then each mark with its number of moments
abbrev pub made_by_text : ℕ → Origin → List ℕ
made_by_text serial origin.Console = concat (decimal serial ∷ codes " console " ∷ [])
made_by_text serial (origin.Prog id) = concat (decimal serial ∷ codes " prog " ∷ decimal id ∷ codes " " ∷ [])

abbrev pub deed_at_id_text : List ℕ → ℕ → List ℕ
deed_at_id_text words id = concat (words ∷ decimal id ∷ [])

abbrev pub deed_at_word_text : List ℕ → List ℕ → List ℕ
deed_at_word_text words word = concat (words ∷ word ∷ [])

abbrev pub deed_text : Deed → List ℕ
deed_text (deed.Create id) = deed_at_id_text (codes "create map ") id
deed_text (deed.Update id) = deed_at_id_text (codes "update map ") id
deed_text (deed.Delete id) = deed_at_id_text (codes "delete map ") id
deed_text (deed.Push id) = deed_at_id_text (codes "push map ") id
deed_text (deed.Pop id) = deed_at_id_text (codes "pop map ") id
deed_text (deed.Store id) = deed_at_id_text (codes "store map ") id
deed_text (deed.Atomic id) = deed_at_id_text (codes "atomic map ") id
deed_text (deed.Freeze id) = deed_at_id_text (codes "freeze map ") id
deed_text (deed.Link id) = deed_at_id_text (codes "link map ") id
deed_text (deed.Load id) = deed_at_id_text (codes "load prog ") id
deed_text (deed.Pin path) = deed_at_word_text (codes "pin ") path
deed_text (deed.Unpin path) = deed_at_word_text (codes "unpin ") path
deed_text (deed.Attach device) = deed_at_word_text (codes "attach ") device
deed_text (deed.Detach device) = deed_at_word_text (codes "detach ") device

abbrev pub made_text : ChangeRow → List ℕ
made_text row = made_by_text row.serial row.origin ++ deed_text row.deed

abbrev pub change_row_text : ChangeRow → List ℕ
change_row_text row = made_text row ++ codes "\n"

abbrev pub named_mark_text : List ℕ → ℕ → List ℕ
named_mark_text name moments = concat (codes "mark " ∷ name ∷ codes " " ∷ decimal moments ∷ codes "\n" ∷ [])

abbrev pub mark_row_text : MarkRow → List ℕ
mark_row_text row = named_mark_text row.name row.moments

abbrev pub journal_text : JournalList → List ℕ
journal_text list = flat_map change_row_text list.changes ++ flat_map mark_row_text list.marks

-- ---- how a frame ended, and runs
abbrev pub action_name : Action → List ℕ
action_name action.Aborted = codes "XDP_ABORTED"
action_name action.Drop = codes "XDP_DROP"
action_name action.Pass = codes "XDP_PASS"
action_name action.Tx = codes "XDP_TX"
action_name action.Redirect = codes "XDP_REDIRECT"

abbrev pub reason_name : Reason → List ℕ
reason_name reason.Gone = codes "Gone"
reason_name reason.OutOfRange = codes "OutOfRange"
reason_name reason.WrongKind = codes "WrongKind"
reason_name reason.Refused = codes "Refused"
reason_name reason.WrongReply = codes "WrongReply"

abbrev pub aborted_text : Reason → List ℕ
aborted_text it = concat (codes "XDP_ABORTED 0 " ∷ reason_name it ∷ codes "\n" ∷ [])

abbrev pub ended_text : End → List ℕ
ended_text (Done it) = concat (action_name it ∷ codes " " ∷ decimal (outcomes.number_of it) ∷ codes "\n" ∷ [])
ended_text (Aborted abort) = aborted_text abort.reason
ended_text NoProgram = codes "XDP_PASS 2 no program\n"

abbrev pub started_text : ℕ → List ℕ
started_text run = concat (codes "run " ∷ decimal run ∷ codes "\n" ∷ [])

abbrev pub accessed_text : ℕ → List ℕ
accessed_text run = concat (codes "run " ∷ decimal run ∷ codes " access\n" ∷ [])

-- a run that ended, as a frame would
abbrev pub naming_run_text : ℕ → List ℕ
naming_run_text run = concat (codes "run " ∷ decimal run ∷ codes " " ∷ [])

abbrev pub stopped_text : ℕ → End → List ℕ
stopped_text run end = naming_run_text run ++ ended_text end

abbrev pub processed_text : ℕ → List ℕ
processed_text count = concat (codes "processed " ∷ decimal count ∷ codes " commands\n" ∷ [])

abbrev pub text_of : Answer → List ℕ
text_of (answer.Changed serial it) = change_text serial it
text_of (answer.Found key value) = found_text key value
text_of (answer.Linked key id) = linked_text key id
text_of (answer.Value value) = value_text value
text_of answer.NotFound = codes "not found\n"
text_of (answer.NextKey key) = next_text key
text_of answer.NoNextKey = codes "no next key\n"
text_of (answer.Shown rows) = flat_map row_text rows
text_of (answer.Dumped elements) = dump_text elements
text_of (answer.Marked name) = marked_text name
text_of (answer.Undone count) = undone_text count
text_of answer.Redone = codes "redone 1\n"
text_of (answer.Forgot name) = forgot_text name
text_of (answer.TakenOut serial) = taken_out_text serial
text_of (answer.Listed list) = journal_text list
text_of (answer.Progs rows) = flat_map prog_text rows
text_of (answer.Code insns) = code_text 0 insns
text_of (answer.Devices rows) = flat_map device_text rows
text_of (answer.Ended end) = ended_text end
text_of (answer.Started run) = started_text run
text_of (answer.Accessed run) = accessed_text run
text_of (answer.Stopped run end) = stopped_text run end
text_of (answer.Processed count) = processed_text count
text_of (answer.Refused it) = fault_text it
