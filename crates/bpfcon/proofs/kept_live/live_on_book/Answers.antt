use Rattle.std.proofs.Common.{inr}
use Rattle.bpfcon.specs.Ends.{EndsServed}
use Rattle.bpfcon.proofs.Ending.{passed, read_book}
use Rattle.bpfcon.proofs.Living.{if_ok}
use Rattle.bpfcon.proofs.kept_live.live_on_book.Goals as goal

pub returns-in-Ok-live_at-clause-ran : goal.returns-in-Ok-live_at-clause-ran
returns-in-Ok-live_at-clause-ran g c =
    if_ok _ c.told.result (λ summary is. record {
      text = c.in_ok-given.given.0.text.items;
      files = c.in_ok-given.given.0.files.items;
      bytes = c.in_ok-given.given.1.items;
      are = c.in_ok-given.ensures.ran;
      frames = c.in_ok-flow.flow.frames.items;
      in_file = rw c.as_slice-bytes.ensures.value at c.in_ok-flow.ensures.frames;
      input = _;
      between = g.W.Output.contents c.live_at.new.out;
      it = c.in-Ok-live_at.lived;
      lived = rw (c.as_str-at.ensures.value, c.in_ok-terms.ensures, c.in_ok-flow.ensures.passes) at c.in-Ok-live_at.ensures;
      told = (rw is at c.told.ensures.told).0;
      counts = (rw is at c.told.ensures.told).1;
    })

pub returns-in_err-given-clause-only : goal.returns-in_err-given-clause-only
returns-in_err-given-clause-only g c = passed (EndsServed _) c.in_err-given.field-0.0 c.from_residual.result c.from_residual.ensures.1 (inr (read_book _ _ c.in_err-given.ensures.only))
