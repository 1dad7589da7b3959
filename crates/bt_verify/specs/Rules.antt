-- The rules that each instruction keeps by itself, in the order in which they are told.
use Rattle.std.specs.Prelude.{◌≡◌, ℕ, ℤ, ◌<◌, ◌==◌, nat_lt, Option, Some, None, is_some, if◌then◌else◌, List, slice_get}
use Rattle.std.specs.Option.{option_or}
use Rattle.std.specs.Int.{bit_at}
use Rattle.bt_insn.specs.declared.insn.Insn.{Insn}
use Rattle.bt_insn.specs.declared.insn.Insn.TheVariants.{Call, LoadMap}
use Rattle.bt_mapkind.specs.declared.attr.MapAttr.{MapAttr}
use Rattle.bt_verify.specs.declared.fault.VerifyFault.{VerifyFault}
use Rattle.bt_verify.specs.declared.fault.VerifyFault.TheVariants.{WritesFrame, NoHelper, NoMap, JumpOut, IntoWide, BackEdge}
use Rattle.bt_verify.specs.declared.slot.Slot.{Slot}
use Rattle.bt_verify.specs.declared.slot.Slot.TheVariants.{First, Second}
use Rattle.bt_verify.specs.Helper.{helper_of}
use Rattle.bt_verify.specs.Maps.{find_map}
use Rattle.bt_verify.specs.Registers.{writes}
use Rattle.bt_verify.specs.Flow.{target_of, slot_at}

-- R10, the frame pointer, is never written
abbrev pub frame_fault : ℕ → Insn → Option VerifyFault
frame_fault i v = if bit_at (writes v) 10 == 1 then Some (WritesFrame i) else None

-- a helper that is called exists
abbrev pub helper_fault : ℕ → Insn → Option VerifyFault
helper_fault i (Call helper) = if is_some (helper_of helper) then None else Some (NoHelper i)
helper_fault i _ = None

-- a map that is named exists
abbrev pub map_fault : List (ℕ × MapAttr) → ℕ → Insn → Option VerifyFault
map_fault maps i (LoadMap dst id) = if is_some (find_map maps id) then None else Some (NoMap i id)
map_fault maps i _ = None

-- a jump goes to a slot of the program in which an instruction begins, and forward
abbrev pub landing_fault : ℕ → ℕ → Option Slot → Option VerifyFault
landing_fault i to None = Some (JumpOut i)
landing_fault i to (Some Second) = Some (IntoWide i)
landing_fault i to (Some (First v)) = if nat_lt i to then None else Some (BackEdge i)

abbrev pub arrival_fault : List Slot → ℕ → Option ℕ → Option VerifyFault
arrival_fault code i None = Some (JumpOut i)
arrival_fault code i (Some to) = landing_fault i to (slice_get code to)

abbrev pub jump_fault : List Slot → ℕ → Option ℤ → Option VerifyFault
jump_fault code i None = None
jump_fault code i (Some target) = arrival_fault code i (slot_at (Some target))

-- the first rule that the instruction at slot i breaks
unfoldable pub insn_fault : List (ℕ × MapAttr) → List Slot → ℕ → Insn → Option VerifyFault
insn_fault maps code i v =
    option_or (frame_fault i v) (option_or (helper_fault i v) (option_or (map_fault maps i v) (jump_fault code i (target_of i v))))

-- the instruction at slot k, if one begins there, breaks no rule
abbrev pub KeepsRules : List (ℕ × MapAttr) → List Slot → ℕ → Type 0
KeepsRules maps code k = (v : Insn) → slice_get code k ≡ Some (First v) → insn_fault maps code k v ≡ None

-- no instruction breaks a rule
abbrev pub KeepRules : List (ℕ × MapAttr) → List Slot → Type 0
KeepRules maps code = (k : ℕ) → KeepsRules maps code k

-- this is the first rule that the instruction at slot k breaks
abbrev pub FaultAt : List (ℕ × MapAttr) → List Slot → ℕ → VerifyFault → Type 0
FaultAt maps code k f = (v : Insn) × (slice_get code k ≡ Some (First v)) × (insn_fault maps code k v ≡ Some f)

-- and no instruction before it breaks one
pub record IsFirstFault (maps : List (ℕ × MapAttr)) (code : List Slot) (f : VerifyFault) : Type 0 where
  pub place : ℕ
  pub here : FaultAt maps code place f
  pub earlier : (k : ℕ) → k < place → KeepsRules maps code k
