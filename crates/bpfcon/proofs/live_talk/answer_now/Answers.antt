use Rattle.std.proofs.Common.{refl}
use Rattle.thread_live.specs.Footings.{footing}
use Rattle.bpfcon.proofs.SpokenLive.{whenever}
use Rattle.bpfcon.proofs.live_talk.answer_now.Goals as goal

pub returns-clause-answered : goal.returns-clause-answered
returns-clause-answered g c =
    whenever c.told.result (
      c.in_ok-files.files.items,
      record {
        files = c.in_ok-files.ensures;
        done = footing c.answer_line.new.operator.session c.answer_line.new.seat (g.W.Output.contents c.answer_line.new.out);
        tally = c.in_ok-tally.tally;
        goes = rw c.as_slice-files.ensures.value at c.in_ok-tally.ensures.goes;
        counted = c.in_ok-tally.ensures.counted;
        session = refl;
        seat = refl;
        text = c.told.ensures.kept;
      },
    )
