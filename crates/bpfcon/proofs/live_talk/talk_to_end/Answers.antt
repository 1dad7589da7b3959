use Rattle.thread_live.specs.Footings.{footing}
use Rattle.bpfcon.proofs.live_talk.talk_to_end.Goals as goal

pub returns-clause-talked : goal.returns-clause-talked
returns-clause-talked g c = record {
  mid = c.split-looker.new.seat;
  looker = c.split-looker.result;
  parted = record { same = c.split-looker.ensures.seen.0; other_same = c.split-looker.ensures.seen.1; same_numbers = c.split-looker.ensures.numbers.0 };
  last = footing c.answer_lines.new.operator.session c.answer_lines.new.seat (g.W.Output.contents c.answer_lines.new.out);
  talked = c.in_ok-answer_lines.ensures.talked;
  ends = rw c.in_ok-answer_lines.ensures.most at c.in_ok-end_traffic.ensures.ended;
}
