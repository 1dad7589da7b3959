-- The serials and ids that replies and answers tell.
use Rattle.std.specs.Prelude.{ℕ, List, filter_map, Result, Ok, Err, Option, Some, None}
use Rattle.host_state.specs.declared.reply.Reply.{Reply}
use Rattle.host_state.specs.declared.reply.Reply.TheVariants.{Done, Id, Loaded, Value, Old}
use Rattle.host_state.specs.declared.reply.Refusal.{Refusal}
use Rattle.journal_model.specs.declared.faults.WithoutFault.{WithoutFault}
use Rattle.journal_model.specs.Run.{PlainAnswer, Recorded, Marked, UndoneTo, UndoneLast, Redone, TakenOut, Forgot, Listed, Asked, Started, Served}

abbrev pub serial_of : Result (ℕ × Reply) Refusal → Option ℕ
serial_of (Ok done) = Some done.0
serial_of (Err refusal) = None

abbrev pub taken_serial : Result ℕ WithoutFault → Option ℕ
taken_serial (Ok serial) = Some serial
taken_serial (Err fault) = None

abbrev pub serial_in : PlainAnswer → Option ℕ
serial_in (Recorded result) = serial_of result
serial_in (Marked result) = None
serial_in (UndoneTo result) = None
serial_in (UndoneLast result) = None
serial_in (Redone result) = None
serial_in (TakenOut result) = taken_serial result
serial_in (Forgot result) = None
serial_in (Listed result) = None
serial_in (Asked result) = None
serial_in (Started result) = None
serial_in (Served reply) = None

abbrev pub serials_in : List PlainAnswer → List ℕ
serials_in answers = filter_map serial_in answers

abbrev pub id_told : Reply → Option ℕ
id_told Done = None
id_told (Id id) = Some id
id_told (Loaded id) = None
id_told (Value bytes) = None
id_told (Old number) = None

abbrev pub id_of : Result (ℕ × Reply) Refusal → Option ℕ
id_of (Ok done) = id_told done.1
id_of (Err refusal) = None

abbrev pub id_in : PlainAnswer → Option ℕ
id_in (Recorded result) = id_of result
id_in (Marked result) = None
id_in (UndoneTo result) = None
id_in (UndoneLast result) = None
id_in (Redone result) = None
id_in (TakenOut result) = None
id_in (Forgot result) = None
id_in (Listed result) = None
id_in (Asked result) = None
id_in (Started result) = None
id_in (Served reply) = None

-- the same of a program
abbrev pub prog_told : Reply → Option ℕ
prog_told Done = None
prog_told (Id id) = None
prog_told (Loaded id) = Some id
prog_told (Value bytes) = None
prog_told (Old number) = None

abbrev pub prog_of : Result (ℕ × Reply) Refusal → Option ℕ
prog_of (Ok done) = prog_told done.1
prog_of (Err refusal) = None

abbrev pub prog_in : PlainAnswer → Option ℕ
prog_in (Recorded result) = prog_of result
prog_in (Marked result) = None
prog_in (UndoneTo result) = None
prog_in (UndoneLast result) = None
prog_in (Redone result) = None
prog_in (TakenOut result) = None
prog_in (Forgot result) = None
prog_in (Listed result) = None
prog_in (Asked result) = None
prog_in (Started result) = None
prog_in (Served reply) = None

abbrev pub progs_in : List PlainAnswer → List ℕ
progs_in answers = filter_map prog_in answers

abbrev pub ids_in : List PlainAnswer → List ℕ
ids_in answers = filter_map id_in answers
