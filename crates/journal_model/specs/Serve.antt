-- What a frame's start and an access of a running program are told, and what an access makes of the plain book. The
-- cases are this project's profile of bpf-helpers(7) and of RFC 9669's loads, stores and atomic operations.
use Rattle.std.specs.Prelude.{◌≡◌, ℕ, ◌+◌, ◌==◌, nat_le, Bool, true, false, List, length, Option, Some, None, Result, Ok, Err, if◌then◌else◌}
use Rattle.bt_insn.specs.LoadStore.{size_bytes}
use Rattle.bt_insn.specs.declared.load_store.Size.{Size}
use Rattle.bt_mapkind.specs.declared.errno.Errno.{Errno}
use Rattle.bt_mapkind.specs.declared.errno.Errno.TheVariants.{ENOENT, ENOMEM, EINVAL}
use Rattle.bt_mapkind.specs.declared.request.MapOp.{MapOp}
use Rattle.bt_mapkind.specs.declared.request.MapOp.TheVariants as op
use Rattle.bt_mapkind.specs.declared.request.MapReply.{MapReply}
use Rattle.bt_mapkind.specs.declared.request.MapReply.TheVariants as map_reply
use Rattle.bt_mapkind.specs.declared.request.Query.TheVariants.{Lookup as ToLookup, Peek as ToPeek}
use Rattle.bt_mapkind.specs.Atomic.{part_of}
use Rattle.bt_mapkind.specs.Index.{index_of}
use Rattle.bt_verify.specs.Program.{ProgramView}
use Rattle.program_access.specs.declared.access.Access.{Access}
use Rattle.program_access.specs.declared.access.Access.TheVariants.{Load, Store, Atomic, Lookup, Update, Delete, Push, Pop, Peek, Fetch}
use Rattle.program_access.specs.declared.reply.AccessReply.{AccessReply}
use Rattle.program_access.specs.declared.reply.AccessReply.TheVariants as told
use Rattle.host_state.specs.declared.ask.Ask.TheVariants as ask
use Rattle.host_state.specs.declared.ask.AskReply.{AskReply}
use Rattle.host_state.specs.declared.ask.AskReply.TheVariants as ask_reply
use Rattle.host_state.specs.declared.change.Change.{Change}
use Rattle.host_state.specs.declared.change.Change.TheVariants.{Operate}
use Rattle.host_state.specs.declared.change.Origin.TheVariants.{Prog}
use Rattle.host_state.specs.declared.reply.Reply.{Reply}
use Rattle.host_state.specs.declared.reply.Reply.TheVariants as reply
use Rattle.host_state.specs.declared.reply.Refusal.{Refusal}
use Rattle.host_state.specs.declared.reply.Refusal.TheVariants as refusal
use Rattle.bt_mapkind.specs.Inner.{holds_ids, holds_progs}
use Rattle.bt_mapkind.specs.Index.{number_of}
use Rattle.journal_model.specs.declared.faults.StartFault.{StartFault}
use Rattle.journal_model.specs.declared.faults.StartFault.TheVariants.{NoDevice}
use Rattle.journal_model.specs.Book.{PlainBook, recorded, asked}

-- ---- a frame's start
abbrev pub start_told : AskReply → Result (Option (ProgramView × ℕ)) StartFault
start_told (ask_reply.Started program) = Ok program
start_told _ = Err NoDevice

-- the program that is attached to a device, with its ifindex
abbrev pub started : PlainBook → List ℕ → Result (Option (ProgramView × ℕ)) StartFault
started b device = start_told (asked b (ask.Start device))

-- ---- refusals
-- through a pointer to a value: the map or its key is gone, or the range is none of the value
abbrev pub pointer_errno : Errno → AccessReply
pointer_errno ENOENT = told.Gone
pointer_errno EINVAL = told.OutOfRange
pointer_errno _ = told.Refused

abbrev pub pointer_refusal : Refusal → AccessReply
pointer_refusal (refusal.Errno errno) = pointer_errno errno
pointer_refusal _ = told.Refused

-- of a helper, at a map that is live or is not
abbrev pub helper_errno : Bool → Errno → AccessReply
helper_errno live ENOENT = if live then told.Errno ENOENT else told.Gone
helper_errno live errno = told.Errno errno

abbrev pub helper_refusal : Bool → Refusal → AccessReply
helper_refusal live (refusal.Errno errno) = helper_errno live errno
helper_refusal live _ = told.Errno ENOMEM

-- if an allocation failed: a lookup, and what goes through a pointer, ends the run
abbrev pub want_told : Access → AccessReply
want_told (Load id key offset size) = told.Refused
want_told (Store id key offset bytes) = told.Refused
want_told (Atomic id key offset size op operand) = told.Refused
want_told (Lookup id key outer) = told.Refused
want_told _ = told.Errno ENOMEM

-- ---- changes
-- a change that is accepted makes nothing, so it tells no id
abbrev pub reply_told : Reply → AccessReply
reply_told reply.Done = told.Done
reply_told (reply.Id id) = told.Done
reply_told (reply.Loaded id) = told.Done
reply_told (reply.Value bytes) = told.Value bytes
reply_told (reply.Old number) = told.Number number

abbrev pub change_told : (Refusal → AccessReply) → Result (ℕ × Reply) Refusal → AccessReply
change_told refused (Ok done) = reply_told done.1
change_told refused (Err fault) = refused fault

-- what recording leaves and answers, in the words of a program
abbrev pub in_words : (Refusal → AccessReply) → PlainBook × Result (ℕ × Reply) Refusal → PlainBook × AccessReply
in_words refused made = (made.0, change_told refused made.1)

abbrev pub by_pointer : PlainBook → Change → PlainBook × AccessReply
by_pointer b it = in_words pointer_refusal (recorded b it None)

-- a map that is live tells its attributes
abbrev pub tells_attr : AskReply → Bool
tells_attr (ask_reply.Attr a) = true
tells_attr _ = false

abbrev pub is_live_at : PlainBook → ℕ → Bool
is_live_at b id = tells_attr (asked b (ask.Attr id))

abbrev pub by_helper : PlainBook → ℕ → Change → PlainBook × AccessReply
by_helper b id it = in_words (helper_refusal (is_live_at b id)) (recorded b it None)

-- what is told, unless something stands against it
abbrev pub told_unless : Option AccessReply → AccessReply → AccessReply
told_unless (Some fault) read = fault
told_unless None read = read

-- ---- a load
-- a part of a value, as a number
abbrev pub number_in : List ℕ → ℕ → Size → AccessReply
number_in value offset size =
    if nat_le (offset + size_bytes size) (length value) then told.Number (number_of (part_of value offset (size_bytes size)))
    else told.OutOfRange

-- the key itself was found: an LPM trie may find a shorter prefix, of which the first four bytes are the length
abbrev pub is_itself : List ℕ → List ℕ → Bool
is_itself key found = index_of found == index_of key

abbrev pub load_found : List ℕ → ℕ → Size → MapReply → AccessReply
load_found key offset size (map_reply.Found found value) = if is_itself key found then number_in value offset size else told.Gone
load_found key offset size map_reply.Nothing = told.Gone
load_found key offset size _ = told.OutOfRange

abbrev pub load_read : List ℕ → ℕ → Size → AskReply → AccessReply
load_read key offset size (ask_reply.Answered it) = load_found key offset size it
load_read key offset size (ask_reply.Refused errno) = pointer_errno errno
load_read key offset size _ = told.Gone

-- what stands against a load whatever the map holds, by its attributes
abbrev pub load_fault : AskReply → Option AccessReply
load_fault (ask_reply.Attr a) = if holds_ids a.kind then Some told.OutOfRange else None
load_fault _ = Some told.Gone

abbrev pub loaded : PlainBook → ℕ → List ℕ → ℕ → Size → AccessReply
loaded b id key offset size = told_unless (load_fault (asked b (ask.Attr id))) (load_read key offset size (asked b (ask.Map id (ToLookup key))))

-- ---- a lookup
-- an inner map, with its attributes
abbrev pub inner_told : ℕ → AskReply → AccessReply
inner_told id (ask_reply.Attr a) = told.Map id a
inner_told id _ = told.Nothing

abbrev pub lookup_found : PlainBook → MapReply → AccessReply
lookup_found b (map_reply.Found key value) = told.Found key
lookup_found b map_reply.Nothing = told.Nothing
lookup_found b (map_reply.Link id) = inner_told id (asked b (ask.Attr id))
lookup_found b _ = told.Errno EINVAL

abbrev pub lookup_read : PlainBook → AskReply → AccessReply
lookup_read b (ask_reply.Answered it) = lookup_found b it
lookup_read b (ask_reply.Refused errno) = told.Errno errno
lookup_read b _ = told.Gone

-- what stands against a lookup whatever the map holds: a program array is none for programs
abbrev pub lookup_fault : AskReply → Option AccessReply
lookup_fault (ask_reply.Attr a) = if holds_progs a.kind then Some (told.Errno EINVAL) else None
lookup_fault _ = Some told.Gone

abbrev pub looked_up : PlainBook → ℕ → List ℕ → AccessReply
looked_up b id key = told_unless (lookup_fault (asked b (ask.Attr id))) (lookup_read b (asked b (ask.Map id (ToLookup key))))

-- ---- a peek and a fetch
abbrev pub peek_found : MapReply → AccessReply
peek_found (map_reply.Value bytes) = told.Value bytes
peek_found _ = told.Errno EINVAL

abbrev pub peek_told : Bool → AskReply → AccessReply
peek_told live (ask_reply.Answered it) = peek_found it
peek_told live (ask_reply.Refused errno) = helper_errno live errno
peek_told live _ = told.Gone

abbrev pub peeked : PlainBook → ℕ → AccessReply
peeked b id = peek_told (is_live_at b id) (asked b (ask.Map id ToPeek))

-- only a map that is not live is missing
abbrev pub fetch_told : AskReply → AccessReply
fetch_told (ask_reply.Fetched program) = told.Prog program
fetch_told (ask_reply.Refused errno) = helper_errno false errno
fetch_told _ = told.Gone

abbrev pub fetched : PlainBook → ℕ → ℕ → AccessReply
fetched b id index = fetch_told (asked b (ask.Fetch id index))

-- ---- an access
-- an operation that a program asks for
abbrev pub operation : ℕ → ℕ → MapOp → Change
operation prog id it = Operate (Prog prog) id it

-- of the running program: a change is recorded as its own, and a question changes nothing
abbrev pub served : PlainBook → ℕ → Access → PlainBook × AccessReply
served b prog (Load id key offset size) = (b, loaded b id key offset size)
served b prog (Store id key offset bytes) = by_pointer b (operation prog id (op.Store key offset bytes))
served b prog (Atomic id key offset size it operand) = by_pointer b (operation prog id (op.Atomic key offset size it operand))
served b prog (Lookup id key outer) = (b, looked_up b id key)
served b prog (Update id key value flag) = by_helper b id (operation prog id (op.Update key value flag))
served b prog (Delete id key) = by_helper b id (operation prog id (op.Delete key))
served b prog (Push id value flag) = by_helper b id (operation prog id (op.Push value flag))
served b prog (Pop id value_size) = by_helper b id (operation prog id op.Pop)
served b prog (Peek id value_size) = (b, peeked b id)
served b prog (Fetch id index) = (b, fetched b id index)

-- a failed allocation, and then the book is as it was and this is told, or what the plain book does
abbrev pub OrWant : PlainBook → AccessReply → PlainBook × AccessReply → PlainBook × AccessReply → Type 0
OrWant old want does made = (refused : Bool) × (made ≡ (if refused then (old, want) else does))
