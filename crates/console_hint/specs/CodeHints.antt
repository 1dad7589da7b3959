-- What is wrong with the bytes of a program, by the fault that was found first.
use Rattle.std.specs.Prelude.{ℕ, ℤ, ◌==◌, ◌&&◌, if◌then◌else◌, List, length, Option, Some, None}
use Rattle.std.specs.Option.{option_map}
use Rattle.bt_insn.specs.declared.fault.DecodeFault.{DecodeFault}
use Rattle.bt_insn.specs.declared.fault.DecodeFault.TheVariants as decode
use Rattle.bt_verify.specs.declared.fault.VerifyFault.{VerifyFault}
use Rattle.bt_verify.specs.declared.fault.VerifyFault.TheVariants as verify
use Rattle.bt_mapkind.specs.Attributes.{is_within}
use Rattle.console_hint.specs.Slots.{slot_at}
use Rattle.console_hint.specs.Targets.{target_of}
use Rattle.console_hint.specs.declared.slot.Slot.{Slot}
use Rattle.console_hint.specs.declared.slot.TheConstants.{CALL, WIDE}
use Rattle.console_hint.specs.declared.code_hint.CodeHint.{CodeHint}
use Rattle.console_hint.specs.declared.code_hint.CodeHint.TheVariants as hint

-- what is said of the slot of a number, and nothing if there is none
abbrev pub hint_if : Option Slot → (Slot → CodeHint) → CodeHint
hint_if (Some slot) say = say slot
hint_if None say = hint.Plain

-- where the jump in the slot of a number leads
abbrev pub target_at : List ℕ → ℕ → Option ℤ
target_at program number = option_map (λ slot. target_of slot number) (slot_at program number)

-- what is said of a jump that leads there
abbrev pub jump_if : Option ℤ → (ℤ → CodeHint) → CodeHint
jump_if (Some to) say = say to
jump_if None say = hint.Plain

-- a call of a function of the program or of the kernel, the load of a value's address, or another field
abbrev pub field_hint : ℕ → Slot → CodeHint
field_hint number slot =
    if (slot.opcode == CALL) && (slot.src == 1) then hint.LocalCall number else
    if (slot.opcode == CALL) && (slot.src == 2) then hint.KernelCall number else
    if (slot.opcode == WIDE) && is_within 2 6 slot.src then hint.Global number else
    hint.Field number slot.opcode

abbrev pub decode_hint : List ℕ → DecodeFault → CodeHint
decode_hint program decode.BadLength = hint.Bytes (length program)
decode_hint program decode.TooLong = hint.TooLong
decode_hint program (decode.BadOpcode number) = hint_if (slot_at program number) (λ slot. hint.Opcode number slot.opcode)
decode_hint program (decode.BadField number) = hint_if (slot_at program number) (field_hint number)
decode_hint program (decode.HalfWide number) = hint.HalfWide number
decode_hint program decode.NoMemory = hint.Plain

abbrev pub verify_hint : List ℕ → VerifyFault → CodeHint
verify_hint program verify.TooLong = hint.TooLong
verify_hint program (verify.WritesFrame number) = hint.WritesFrame number
verify_hint program (verify.NoHelper number) = hint_if (slot_at program number) (λ slot. hint.Helper number slot.immediate)
verify_hint program (verify.NoMap number id) = hint.NoMap number id
verify_hint program (verify.JumpOut number) = jump_if (target_at program number) (hint.JumpOut number)
verify_hint program (verify.IntoWide number) = jump_if (target_at program number) (hint.IntoWide number)
verify_hint program (verify.BackEdge number) = jump_if (target_at program number) (hint.BackEdge number)
verify_hint program verify.FallsOff = hint.FallsOff
verify_hint program (verify.Uninit number register) = hint.Uninit number register
verify_hint program verify.NoMemory = hint.Plain
