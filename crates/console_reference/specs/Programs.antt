-- What a program that is to be loaded comes to: its bytes are decoded, and the instructions verified against the live
-- maps. The name of a program is what comes after the last slash of its path, cut to 15 bytes.
use Rattle.std.specs.Prelude.{◌==◌, if◌then◌else◌, ℕ, List, [], ◌∷◌, map as each, take, None, Result, Ok, Err, ⊤}
use Rattle.bt_insn.specs.declared.insn.Insn.{Insn}
use Rattle.bt_insn.specs.declared.fault.DecodeFault.{DecodeFault}
use Rattle.bt_insn.specs.declared.fault.DecodeFault.TheVariants as decode
use Rattle.bt_insn.specs.Grammar as decoder
use Rattle.bt_insn.specs.Grammar.{ReadsAs}
use Rattle.bt_mapkind.specs.declared.attr.MapAttr.{MapAttr}
use Rattle.bt_verify.specs.declared.fault.VerifyFault.{VerifyFault}
use Rattle.bt_verify.specs.declared.fault.VerifyFault.TheVariants as verify
use Rattle.bt_verify.specs.Maps.{AreNamed}
use Rattle.bt_verify.specs.Slots.{slots}
use Rattle.bt_verify.specs.Verified as verifier
use Rattle.bt_verify.specs.Verified.{Checked, IsSound}
use Rattle.host_state.specs.declared.ask.Ask.TheVariants as ask
use Rattle.host_state.specs.declared.ask.AskReply.{AskReply}
use Rattle.host_state.specs.declared.ask.AskReply.TheVariants as told
use Rattle.host_state.specs.declared.shown.MapRow.{MapRow}
use Rattle.journal_model.specs.Book.{PlainBook, asked}
use Rattle.console_answer.specs.declared.fault.Fault.{Fault}
use Rattle.console_answer.specs.declared.fault.Fault.TheVariants as fault

-- ---- the maps that a program may name
abbrev pub pair_of : MapRow → ℕ × MapAttr
pair_of row = (row.id, row.attr)

abbrev pub pairs_in : AskReply → List (ℕ × MapAttr)
pairs_in (told.Maps rows) = each pair_of rows
pairs_in _ = []

-- the live maps with their attributes, by ascending id
abbrev pub live_maps : PlainBook → List (ℕ × MapAttr)
live_maps b = pairs_in (asked b (ask.Maps None))

-- ---- the verdict on a program: its code, or its first fault
abbrev pub Verdict : Type 0
Verdict = Result Checked Fault

-- the bytes spell these instructions, no rule is broken, and these are the maps that they name
pub record IsLetIn (maps : List (ℕ × MapAttr)) (bytes : List ℕ) (code : Checked) : Type 0 where
  pub reads : ReadsAs bytes code.insns
  pub sound : IsSound maps code.insns
  pub named : AreNamed (slots code.insns) maps code.maps

-- the bytes spell instructions, and this is their first fault
pub record IsTurnedDown (maps : List (ℕ × MapAttr)) (bytes : List ℕ) (why : VerifyFault) : Type 0 where
  pub insns : List Insn
  pub reads : ReadsAs bytes insns
  pub fault : verifier.IsFault maps insns why

-- lack of memory is no verdict
abbrev pub IsMisread : List ℕ → DecodeFault → Type 0
IsMisread bytes decode.NoMemory = ⊥
IsMisread bytes why = decoder.IsFault bytes why

abbrev pub IsUnsafe : List (ℕ × MapAttr) → List ℕ → VerifyFault → Type 0
IsUnsafe maps bytes verify.NoMemory = ⊥
IsUnsafe maps bytes why = IsTurnedDown maps bytes why

-- the verdict is right, for a program that may name these maps
abbrev pub IsVerdict : List (ℕ × MapAttr) → List ℕ → Verdict → Type 0
IsVerdict maps bytes (Ok code) = IsLetIn maps bytes code
IsVerdict maps bytes (Err (fault.Decode why)) = IsMisread bytes why
IsVerdict maps bytes (Err (fault.Verify why)) = IsUnsafe maps bytes why
IsVerdict maps bytes (Err _) = ⊥

-- the verdict is right, or an allocation failed
abbrev pub Judges : List (ℕ × MapAttr) → List ℕ → Verdict → Type 0
Judges maps bytes (Err fault.NoMemory) = ⊤
Judges maps bytes verdict = IsVerdict maps bytes verdict

-- ---- names
-- what comes after the last slash of the rest, or else this
abbrev pub part_from : List ℕ → List ℕ → List ℕ
part_from part [] = part
part_from part (byte ∷ rest) = part_from (if byte == 47 then rest else part) rest

abbrev pub name_of : List ℕ → List ℕ
name_of path = take 15 (part_from path path)
