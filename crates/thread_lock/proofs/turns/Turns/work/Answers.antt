use Rattle.std.proofs.Common.{◌∷◌, ◌∙◌, ap}
use Rattle.atomic_table.specs.Table.{rest}
use Rattle.thread_lock.proofs.Calling.{has_slot}
use Rattle.thread_lock.proofs.turns.Turns.work.Goals as goal

pub slot_mut-kept-requires : goal.slot_mut-kept-requires
slot_mut-kept-requires g c = (c.requires.table, (c.requires.holds.0, has_slot c.args.place.now.me c.requires.holds.0 c.requires.holds.1))

pub returns-clause-works : goal.returns-clause-works
returns-clause-works g c =
    let none_left = ap rest c.requires.holds.1 in
    let found = c.slot_mut-kept.result.now in record {
      before = found;
      after = record { state = c.step-answer.new.arg2; last = c.of-2.result; before = found.before };
      call = record { event = c.of-asked.result; answer = c.of.result };
      held = c.slot_mut-kept.ensures.value ∙ ap (λ l. (0, found) ∷ l) none_left;
      is = ap (λ l. (c.args.place.now.me.0, (0, record { state = c.step-answer.new.arg2; last = c.of-2.result; before = found.before }) ∷ l)) none_left;
      does = c.requires.steps _ _ _ c.step-answer.ensures;
      noted = c.of-2.ensures;
      asked = c.of-asked.ensures;
      answered = c.of.ensures;
    }
