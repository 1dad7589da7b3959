-- Which bytes spell which instructions, and which fault other bytes have: the first one, slot by slot.
use Rattle.std.specs.Prelude.{◌≡◌, ◌≢◌, ℕ, ◌*◌, ◌%◌, ◌<◌, ◌≤◌, List, ◌∷◌, ◌++◌, length}
use Rattle.std.specs.List.{AllByRecursion}
use Rattle.bt_insn.specs.declared.fault.DecodeFault.{DecodeFault}
use Rattle.bt_insn.specs.declared.fault.DecodeFault.TheVariants.{BadLength, TooLong, BadOpcode, BadField, HalfWide, NoMemory}
use Rattle.bt_insn.specs.declared.insn.Insn.{Insn}
use Rattle.bt_insn.specs.Slot.{slot_bytes}
use Rattle.bt_insn.specs.Table.{Fits, fields_of, slots_of}
use Rattle.bt_insn.specs.Spelling.{spelling_of, spelling, slots_in}

-- The bytes spell these instructions, at most 4,096 slots of them.
pub record ReadsAs (bytes : List ℕ) (insns : List Insn) : Type 0 where
  pub fits : AllByRecursion Fits insns
  pub few : slots_in insns ≤ 4096
  pub spelled : bytes ≡ spelling insns

-- some legal form has this opcode
abbrev pub IsOpcode : ℕ → Type 0
IsOpcode opcode = (v : Insn) × ((fields_of v).opcode ≡ opcode)

-- the bytes begin with an instruction
pub record BeginsWith (bytes : List ℕ) (v : Insn) : Type 0 where
  pub rest : List ℕ
  pub fits : Fits v
  pub parts : bytes ≡ spelling_of v ++ rest

-- the bytes are the first slot of a wide instruction
pub record IsHalf (bytes : List ℕ) : Type 0 where
  pub insn : Insn
  pub fits : Fits insn
  pub wide : slots_of insn ≡ 2
  pub first : bytes ≡ slot_bytes (fields_of insn)

-- the first byte is this one
pub record HasOpcode (bytes : List ℕ) (opcode : ℕ) : Type 0 where
  pub others : List ℕ
  pub parts : bytes ≡ opcode ∷ others

-- the first byte is the opcode of no legal form
pub record IsUnknown (bytes : List ℕ) : Type 0 where
  pub opcode : ℕ
  pub first : HasOpcode bytes opcode
  pub illegal : ¬ IsOpcode opcode

-- the first byte is the opcode of a legal form, and yet no instruction is spelled, neither whole nor by half
pub record IsMisspelled (bytes : List ℕ) : Type 0 where
  pub opcode : ℕ
  pub first : HasOpcode bytes opcode
  pub legal : IsOpcode opcode
  pub no_half : ¬ IsHalf bytes
  pub no_insn : (v : Insn) → ¬ BeginsWith bytes v

-- why no instruction is read at the front of the bytes, which lie at a slot
abbrev pub FaultAt : List ℕ → ℕ → DecodeFault → Type 0
FaultAt bytes slot (BadOpcode i) = (i ≡ slot) × IsUnknown bytes
FaultAt bytes slot (HalfWide i) = (i ≡ slot) × IsHalf bytes
FaultAt bytes slot (BadField i) = (i ≡ slot) × IsMisspelled bytes
FaultAt bytes slot _ = ⊥

-- instructions are read as far as the fault
pub record StopsWith (bytes : List ℕ) (fault : DecodeFault) : Type 0 where
  pub read : List Insn
  pub rest : List ℕ
  pub fits : AllByRecursion Fits read
  pub parts : bytes ≡ spelling read ++ rest
  pub here : FaultAt rest (slots_in read) fault

-- The first fault. Lack of memory says nothing of the bytes.
abbrev pub IsFault : List ℕ → DecodeFault → Type 0
IsFault bytes BadLength = length bytes % 8 ≢ 0
IsFault bytes TooLong = (length bytes % 8 ≡ 0) × (8 * 4096 < length bytes)
IsFault bytes NoMemory = Unit {0}
IsFault bytes fault = (length bytes % 8 ≡ 0) × (length bytes ≤ 8 * 4096) × StopsWith bytes fault
