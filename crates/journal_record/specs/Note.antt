-- What a note of an operation, of a change or of a reply says.
use Rattle.std.specs.Prelude.{⊤, ◌+◌, ◌≤◌, length, take, drop}
use Rattle.host_state.specs.declared.change.Change.{Change}
use Rattle.host_state.specs.declared.change.Change.TheVariants.{Create, Operate, Freeze, Link, Load, Pin, Unpin, Attach, Detach}
use Rattle.host_state.specs.declared.reply.Reply.{Reply}
use Rattle.host_state.specs.declared.reply.Reply.TheVariants.{Done, Id, Loaded, Value, Old}
use Rattle.journal_record.specs.declared.note.ChangeForm.{ChangeForm}
use Rattle.journal_record.specs.declared.note.ChangeForm.TheVariants.{Create as Creates, Operate as Operates, Freeze as Freezes, Link as Links, Load as Loads, Pin as Pins, Unpin as Unpins, Attach as Attaches, Detach as Detaches}
use Rattle.bt_mapkind.specs.declared.request.MapOp.{MapOp}
use Rattle.bt_mapkind.specs.declared.request.MapOp.TheVariants.{Update, Delete, Push, Pop, Store, Atomic, SetLink}
use Rattle.journal_record.specs.declared.op_note.OpForm.{OpForm}
use Rattle.journal_record.specs.declared.op_note.OpForm.TheVariants.{Update as Updates, Delete as Deletes, Push as Pushes, Pop as Pops, Store as Stores, Atomic as Combines, SetLink as SetsLink}
use Rattle.journal_record.specs.declared.reply_note.ReplyForm.{ReplyForm}
use Rattle.journal_record.specs.declared.reply_note.ReplyForm.TheVariants.{Done as SaysDone, Id as SaysId, Loaded as SaysLoaded, Value as SaysValue, Old as SaysOld}

-- the key comes first among the bytes, and then the value or what is stored
abbrev pub op_of : OpForm → MapOp
op_of (Updates key_size bytes flag) = Update (take key_size bytes.items) (drop key_size bytes.items) flag
op_of (Deletes key) = Delete key.items
op_of (Pushes value flag) = Push value.items flag
op_of Pops = Pop
op_of (Stores key_size block offset) = Store (take key_size block.items) offset (drop key_size block.items)
op_of (Combines key offset size op operand) = Atomic key.items offset size op operand
op_of (SetsLink key id flag) = SetLink key.items id flag

abbrev pub change_of : ChangeForm → Change
change_of (Creates id attr charge name path template) = Create id attr charge name path template
change_of (Operates origin id op) = Operate origin id op
change_of (Freezes id) = Freeze id
change_of (Links id key named flag) = Link id key.items named flag
change_of (Loads id code name path) = Load id code name path
change_of (Pins target path) = Pin target path
change_of (Unpins path) = Unpin path
change_of (Attaches prog device overwrite) = Attach prog device overwrite
change_of (Detaches device) = Detach device

abbrev pub reply_of : ReplyForm → Reply
reply_of SaysDone = Done
reply_of (SaysId id) = Id id
reply_of (SaysLoaded id) = Loaded id
reply_of (SaysValue bytes) = Value bytes.items
reply_of (SaysOld number) = Old number

-- a key and a value, or the bytes that are stored, are of at most 260 bytes
abbrev pub IsShortOp : OpForm → Type 0
IsShortOp (Updates key_size bytes flag) = (key_size ≤ 260) × (key_size ≤ length bytes.items) × (length bytes.items ≤ key_size + 260)
IsShortOp (Deletes key) = length key.items ≤ 260
IsShortOp (Pushes value flag) = length value.items ≤ 260
IsShortOp Pops = ⊤
IsShortOp (Stores key_size bytes offset) = (key_size ≤ 260) × (key_size ≤ length bytes.items) × (length bytes.items ≤ key_size + 260)
IsShortOp (Combines key offset size op operand) = length key.items ≤ 260
IsShortOp (SetsLink key id flag) = length key.items ≤ 260

-- and the key of a link
abbrev pub IsShort : ChangeForm → Type 0
IsShort (Links id key named flag) = length key.items ≤ 260
IsShort _ = ⊤
