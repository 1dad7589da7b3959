use Rattle.std.proofs.Common.{rules, ◌-◌, length, refl, arith}
use Rattle.std.proofs.lemmas.Option.{slice_get_read}
use Rattle.thread_rounds.proofs.rounds.copy_at.Goals as goal

pub returns-clause-copy : goal.returns-clause-copy
returns-clause-copy c = record {
  frame = c.index-frames-index.result;
  at = slice_get_read c.args.frames.now (length c.args.frames.now) (c.args.number - 1) c.index-frames-index.result refl (let bounds = c.requires.number in omega arith) c.index-frames-index.is;
  device = c.in_ok-device.ensures;
  bytes = search rules;
}
