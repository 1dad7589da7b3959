use Rattle.std.proofs.Common.{arith}
use Rattle.bt_insn.specs.declared.fault.DecodeFault.TheVariants.{BadLength, TooLong}
use Rattle.bt_insn.proofs.Readings.{no_fault, only_reading}
use Rattle.bt_insn.proofs.decoder.decode.Goals as goal

pub returns-then-bytes-ne0-clause-only : goal.returns-then-bytes-ne0-clause-only
returns-then-bytes-ne0-clause-only c = λ insns reads. no_fault c.args.bytes.now insns BadLength reads (λ whole. omega arith)

pub returns-then-bytes-gt-MAX_SLOTS-clause-only : goal.returns-then-bytes-gt-MAX_SLOTS-clause-only
returns-then-bytes-gt-MAX_SLOTS-clause-only c = λ insns reads. no_fault c.args.bytes.now insns TooLong reads (omega arith, omega arith)

pub returns-clause-only : goal.returns-clause-only
returns-clause-only c = λ insns reads. only_reading c.args.bytes.now insns c.read_slots.result c.read_slots.ensures.found c.read_slots.ensures.fault reads
