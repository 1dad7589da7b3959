use Rattle.std.proofs.Common.{[], sym, append-nil}
use Rattle.std.proofs.KnownBytes.{Appends-kept}
use Rattle.console_looks.specs.Answered.{looked_text}
use Rattle.console_looks.proofs.answered.answer_show.Goals as goal

pub returns-in-Err-clause-front : goal.returns-in-Err-clause-front
returns-in-Err-clause-front g c = record {
  looked = c.show-looked.result;
  is = c.show-looked.ensures.shown;
  written = c.in-Err.ensures.text.written;
  unwritten = c.in-Err.ensures.text.unwritten;
  cut = c.in-Err.ensures.text.cut;
  appends = c.in-Err.ensures.text.appends;
}

pub returns-in-Ok-flush_all-clause-shown : goal.returns-in-Ok-flush_all-clause-shown
returns-in-Ok-flush_all-clause-shown g c = record {
  is = c.show-looked.ensures.shown;
  written = Appends-kept (g.W.Output.contents c.args.out.now) (g.W.Output.contents c.put_looked.new.out) (g.W.Output.contents c.flush_all.new.self) (looked_text c.show-looked.result) c.in-Ok.ensures.text c.flush_all.ensures.bytes;
}

pub returns-in-Err-flush_all-clause-front : goal.returns-in-Err-flush_all-clause-front
returns-in-Err-flush_all-clause-front g c = record {
  looked = c.show-looked.result;
  is = c.show-looked.ensures.shown;
  written = looked_text c.show-looked.result;
  unwritten = [];
  cut = sym (append-nil (looked_text c.show-looked.result));
  appends = Appends-kept (g.W.Output.contents c.args.out.now) (g.W.Output.contents c.put_looked.new.out) (g.W.Output.contents c.flush_all.new.self) (looked_text c.show-looked.result) c.in-Ok.ensures.text c.flush_all.ensures.bytes;
}
