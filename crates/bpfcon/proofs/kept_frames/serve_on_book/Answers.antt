use Rattle.std.proofs.Common.{inr, refl}
use Rattle.thread_kept_frames.proofs.Hosting.{opened_kept}
use Rattle.bpfcon.specs.Ends.{EndsServed}
use Rattle.bpfcon.proofs.Ending.{passed, read_book}
use Rattle.bpfcon.proofs.kept_frames.serve_on_book.Goals as goal

pub returns-in-Ok-tell_frames-clause-ran : goal.returns-in-Ok-tell_frames-clause-ran
returns-in-Ok-tell_frames-clause-ran g c = record {
  text = c.in_ok-script.script.text.items;
  files = c.in_ok-script.script.files.items;
  script = c.in_ok-script.ensures.ran;
  bytes = c.in_ok-bytes.bytes.items;
  read = c.in_ok-bytes.ensures.ran;
  it = c.in-Ok.served;
  served = opened_kept _ _ _ _ _ _ _ _ _ c.in-Ok.served (rw (c.as_str-at.ensures.value, c.as_slice.ensures.value, c.in_ok-terms.ensures) at c.in-Ok.ensures) c.tell_frames.ensures.written;
  counts = refl;
}

pub returns-in_err-script-clause-only : goal.returns-in_err-script-clause-only
returns-in_err-script-clause-only g c = passed (EndsServed _) c.in_err-script.field-0.0 c.from_residual.result c.from_residual.ensures.1 (inr (read_book _ _ c.in_err-script.ensures.only))

pub returns-in_err-bytes-clause-only : goal.returns-in_err-bytes-clause-only
returns-in_err-bytes-clause-only g c =
    passed (EndsServed _) c.in_err-bytes.field-0.0 c.from_residual-in_err-bytes.result c.from_residual-in_err-bytes.ensures.1 (inr (read_book _ _ c.in_err-bytes.ensures.only))
