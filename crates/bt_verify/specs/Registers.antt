-- Which registers an instruction reads, writes and leaves unwritten. A set of registers is a number with bit r for Rr.
use Rattle.std.specs.Prelude.{ℕ, ◌^◌, ◌-◌, Option, Some, None, bit_or}
use Rattle.bt_insn.specs.Register.{number_of}
use Rattle.bt_insn.specs.declared.register.Register.{Register}
use Rattle.bt_insn.specs.declared.operand.Operand.{Operand}
use Rattle.bt_insn.specs.declared.operand.Operand.TheVariants.{Immediate, Register as InRegister}
use Rattle.bt_insn.specs.declared.alu.AluOp.{AluOp}
use Rattle.bt_insn.specs.declared.alu.AluOp.TheVariants.{Mov}
use Rattle.bt_insn.specs.declared.load_store.AtomicOp.{AtomicOp}
use Rattle.bt_insn.specs.declared.load_store.AtomicOp.TheVariants.{Add, Or, And, Xor, CompareExchange}
use Rattle.bt_insn.specs.declared.insn.Insn.{Insn}
use Rattle.bt_insn.specs.declared.insn.Insn.TheVariants.{Alu, Neg, MoveSigned, ByteSwap, Jump, JumpIf, Call, Exit, LoadImmediate, LoadMap, Load, LoadSigned, Store, Atomic}
use Rattle.bt_verify.specs.declared.helper.Helper.{Helper}
use Rattle.bt_verify.specs.Helper.{helper_of, arguments}

-- one register
abbrev pub just : Register → ℕ
just r = 2 ^ number_of r

-- a register and another
abbrev pub both : Register → Register → ℕ
both r q = bit_or (just r) (just q)

abbrev pub in_operand : Operand → ℕ
in_operand (Immediate n) = 0
in_operand (InRegister r) = just r

-- a register and what a second operand has
abbrev pub with_operand : Register → Operand → ℕ
with_operand r o = bit_or (just r) (in_operand o)

abbrev pub read_by : Option Helper → ℕ
read_by None = 0
read_by (Some h) = arguments h

-- what an arithmetic operation reads: MOV its source alone
abbrev pub alu_reads : AluOp → Register → Operand → ℕ
alu_reads Mov dst src = in_operand src
alu_reads op dst src = with_operand dst src

-- what an atomic operation reads: R0 too, if it compares
abbrev pub atomic_reads : AtomicOp → Register → Register → ℕ
atomic_reads CompareExchange dst src = bit_or (both dst src) 1
atomic_reads op dst src = both dst src

-- and writes: the source, if it fetches; R0, if it compares
abbrev pub atomic_writes : AtomicOp → Register → ℕ
atomic_writes Add src = 0
atomic_writes Or src = 0
atomic_writes And src = 0
atomic_writes Xor src = 0
atomic_writes CompareExchange src = 1
atomic_writes op src = just src

-- the registers that it reads
abbrev pub reads : Insn → ℕ
reads (Alu width op dst src) = alu_reads op dst src
reads (Neg width dst) = just dst
reads (MoveSigned extension dst src) = just src
reads (ByteSwap order size dst) = just dst
reads (Jump distance) = 0
reads (JumpIf width condition dst src offset) = with_operand dst src
reads (Call helper) = read_by (helper_of helper)
reads Exit = 1
reads (LoadImmediate dst value) = 0
reads (LoadMap dst id) = 0
reads (Load size dst src offset) = just src
reads (LoadSigned size dst src offset) = just src
reads (Store size dst src offset) = with_operand dst src
reads (Atomic width op dst src offset) = atomic_reads op dst src

-- the registers that it writes
abbrev pub writes : Insn → ℕ
writes (Alu width op dst src) = just dst
writes (Neg width dst) = just dst
writes (MoveSigned extension dst src) = just dst
writes (ByteSwap order size dst) = just dst
writes (Jump distance) = 0
writes (JumpIf width condition dst src offset) = 0
writes (Call helper) = 1
writes Exit = 0
writes (LoadImmediate dst value) = just dst
writes (LoadMap dst id) = just dst
writes (Load size dst src offset) = just dst
writes (LoadSigned size dst src offset) = just dst
writes (Store size dst src offset) = 0
writes (Atomic width op dst src offset) = atomic_writes op src

-- the registers that it does not leave unwritten: a call leaves R1 to R5 so
abbrev pub keeps : Insn → ℕ
keeps (Call helper) = 0xffff - 0b111110
keeps _ = 0xffff
