-- How what is looked at is written.
use Rattle.std.specs.Prelude.{ℕ, Bool, if◌then◌else◌, List, [], ◌∷◌, ◌++◌, take, Option, Some, None, codes, decimal}
use Rattle.std.specs.List.{concat}
use Rattle.std.specs.Str.{bytes_eq}
use Rattle.bt_mapkind.specs.declared.request.MapOp.{MapOp}
use Rattle.bt_mapkind.specs.declared.request.MapOp.TheVariants as op
use Rattle.bt_mapkind.specs.declared.request.MapReply.{MapReply}
use Rattle.bt_mapkind.specs.declared.request.MapReply.TheVariants as reply
use Rattle.bt_roots.specs.declared.target.Target.{Target}
use Rattle.bt_roots.specs.declared.target.Target.TheVariants as target
use Rattle.host_state.specs.declared.ask.AskReply.{AskReply}
use Rattle.host_state.specs.declared.ask.AskReply.TheVariants.{Answered, Pinned, Devices}
use Rattle.host_state.specs.declared.change.Change.{Change}
use Rattle.host_state.specs.declared.change.Change.TheVariants.{Create, Operate, Link, Load}
use Rattle.host_state.specs.declared.shown.DeviceRow.{DeviceRow}
use Rattle.console_answer.specs.declared.fault.Fault.TheVariants.{NotInForce as IsNotInForce}
use Rattle.console_text.specs.Text.{bytes_text, made_text, fault_text}
use Rattle.console_looks.specs.Shown.{key_of}
use Rattle.console_looks.specs.declared.shown.ChangeShown.{ChangeShown}
use Rattle.console_looks.specs.declared.shown.Showing.{Showing}
use Rattle.console_looks.specs.declared.shown.Showing.TheVariants.{Found, NotInForce, Older}

-- ---- where a change happened
abbrev pub operation_place : MapOp → List ℕ
operation_place (op.Update key value flag) = codes " key: " ++ bytes_text key
operation_place (op.Delete key) = codes " key: " ++ bytes_text key
operation_place (op.Push value flag) = codes " item: " ++ bytes_text value
operation_place op.Pop = []
operation_place (op.Store key offset bytes) = codes " key: " ++ bytes_text key
operation_place (op.Atomic key offset size it operand) = codes " key: " ++ bytes_text key
operation_place (op.SetLink key named flag) = codes " key: " ++ bytes_text key

abbrev pub place_text : Change → List ℕ
place_text (Create id attr charge name path template) = codes " at " ++ path
place_text (Operate origin id it) = operation_place it
place_text (Link id key named flag) = codes " key: " ++ bytes_text key
place_text (Load id code name path) = codes " at " ++ path
place_text _ = []

-- the name of a new object
abbrev pub name_text : Change → List ℕ
name_text (Create id attr charge name path template) = codes " name " ++ name
name_text (Load id code name path) = codes " name " ++ name
name_text _ = []

-- ---- what stood there
-- an entry that was found is that of a key: of an LPM trie it may be that of another prefix, whose length its first bytes tell
abbrev pub is_same_entry : List ℕ → List ℕ → Bool
is_same_entry key found = bytes_eq (take 4 key) (take 4 found)

abbrev pub found_text : List ℕ → List ℕ → List ℕ → List ℕ
found_text key found value = if is_same_entry key found then bytes_text value else codes "none"

abbrev pub reply_text : List ℕ → MapReply → List ℕ
reply_text key (reply.Found found value) = found_text key found value
reply_text key (reply.Value value) = bytes_text value
reply_text key (reply.Link id) = codes "id " ++ decimal id
reply_text key _ = codes "none"

abbrev pub target_text : Target → List ℕ
target_text (target.Map id) = codes "map " ++ decimal id
target_text (target.Prog id) = codes "prog " ++ decimal id

abbrev pub devices_text : List DeviceRow → List ℕ
devices_text [] = codes "none"
devices_text (row ∷ rows) = codes "prog " ++ decimal row.prog

-- by the answer to what was asked there
abbrev pub stood_text : List ℕ → AskReply → List ℕ
stood_text key (Answered answer) = reply_text key answer
stood_text key (Pinned target) = target_text target
stood_text key (Devices rows) = devices_text rows
stood_text key _ = codes "none"

-- after a label, if something was asked
abbrev pub then_text : List ℕ → List ℕ → Option AskReply → List ℕ
then_text label key None = []
then_text label key (Some answer) = label ++ stood_text key answer

-- ---- a change that is shown
-- what comes after its row
abbrev pub behind_text : ChangeShown → List ℕ
behind_text it =
    let key = key_of it.change in
    concat (name_text it.change ∷ place_text it.change ∷ then_text (codes " before: ") key it.before ∷ then_text (codes " after: ") key it.after ∷ codes "\n" ∷ [])

abbrev pub found_change_text : ChangeShown → List ℕ
found_change_text it = made_text it.row ++ behind_text it

abbrev pub older_text : ℕ → List ℕ
older_text oldest = concat (codes "Error: joined the base, or was undone: the journal begins at " ∷ decimal oldest ∷ codes "\n" ∷ [])

abbrev pub shown_text : Showing → List ℕ
shown_text (Found it) = found_change_text it
shown_text NotInForce = fault_text IsNotInForce
shown_text (Older oldest) = older_text oldest
