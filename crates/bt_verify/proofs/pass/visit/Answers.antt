use Rattle.std.proofs.Common.{◌-◌, ◌<◌, ◌^◌, arith, refl, sym, ◌∙◌, rules}
use Rattle.std.specs.Prelude.{slice_index, bit_and, bit_or}
use Rattle.std.proofs.lemmas.Nat.{and_le_l}
use Rattle.std.proofs.lemmas.Nat.Bits.{shr_and_one}
use Rattle.bt_verify.specs.Flow.{next_of, jump_of}
use Rattle.bt_verify.proofs.Table.{starts_within, arrives_within, not_one, table_skips, table_goes, no_path, lacks, is_lacking}
use Rattle.bt_verify.proofs.pass.visit.Goals as goal

pub returns-then-mask-eq1-clause-next : goal.returns-then-mask-eq1-clause-next
returns-then-mask-eq1-clause-next c = λ _. table_skips c.args.slots.now c.args.place c.args.masks.now c.requires.table
    (λ k js s p. no_path c.args.slots.now c.args.place c.args.masks.now c.requires.runs c.requires.table c.requires.place (sym (shr_and_one (slice_index c.args.masks.now c.args.place) 15) ∙ c.if-mask-eq1.true) js p)

pub returns-then-mask-eq1-clause-all : goal.returns-then-mask-eq1-clause-all
returns-then-mask-eq1-clause-all c = λ r lt u. absurd (no_path c.args.slots.now c.args.place c.args.masks.now c.requires.runs c.requires.table c.requires.place (sym (shr_and_one (slice_index c.args.masks.now c.args.place) 15) ∙ c.if-mask-eq1.true) u.path u.leads)

pub pass_on-requires-clause-next : goal.pass_on-requires-clause-next
pass_on-requires-clause-next c = starts_within c.args.slots.now c.args.masks.now (next_of c.args.place c.in-First.insn) c.requires.table.long ((c.requires.runs.each c.args.place c.in-First.insn c.in-First.ensures).next)

pub pass_on-requires-clause-jump : goal.pass_on-requires-clause-jump
pass_on-requires-clause-jump c = arrives_within c.args.slots.now c.args.masks.now c.args.place (jump_of c.args.place c.in-First.insn) c.requires.table.long ((c.requires.runs.each c.args.place c.in-First.insn c.in-First.ensures).jump)

pub returns-then-lacking-eq0-clause-next : goal.returns-then-lacking-eq0-clause-next
returns-then-lacking-eq0-clause-next c = λ _.
    table_goes c.args.slots.now c.args.place c.args.masks.now c.pass_on.new.masks (bit_or (bit_and (slice_index c.args.masks.now c.args.place) c.keeps.result) c.writes.result) c.in-First.insn
    c.requires.runs c.requires.table c.requires.place c.in-First.ensures
    (not_one (slice_index c.args.masks.now c.args.place) 15 (λ e. c.if-mask-eq1.false (shr_and_one (slice_index c.args.masks.now c.args.place) 15 ∙ e)))
    (rw (c.keeps.ensures, c.writes.ensures.value) refl)
    c.pass_on.ensures

pub returns-then-lacking-eq0-clause-all : goal.returns-then-lacking-eq0-clause-all
returns-then-lacking-eq0-clause-all c = λ r r11 u.
    let fits : slice_index c.args.masks.now c.args.place < 2 ^ 16 = search rules in
    rw c.reads.ensures.value (lacks c.args.slots.now c.args.place r c.args.masks.now c.in-First.insn c.requires.runs c.requires.table c.requires.place fits c.in-First.ensures r11 u)

pub returns-else-lacking-eq0-clause-all : goal.returns-else-lacking-eq0-clause-all
returns-else-lacking-eq0-clause-all c = λ r r11 u.
    let fits : slice_index c.args.masks.now c.args.place < 2 ^ 16 = search rules in
    rw c.reads.ensures.value (lacks c.args.slots.now c.args.place r c.args.masks.now c.in-First.insn c.requires.runs c.requires.table c.requires.place fits c.in-First.ensures r11 u)

pub returns-else-lacking-eq0-clause-only : goal.returns-else-lacking-eq0-clause-only
returns-else-lacking-eq0-clause-only c = λ r r11 e.
    let fits : slice_index c.args.masks.now c.args.place < 2 ^ 16 = search rules in
    is_lacking c.args.slots.now c.args.place r c.args.masks.now c.in-First.insn c.requires.table c.requires.place fits c.in-First.ensures r11 (rw c.reads.ensures.value at e)

pub returns-else-lacking-eq0-clause-few : goal.returns-else-lacking-eq0-clause-few
returns-else-lacking-eq0-clause-few c = omega (arith, and_le_l c.reads.result (65535 - slice_index c.args.masks.now c.args.place), c.reads.ensures.few)
