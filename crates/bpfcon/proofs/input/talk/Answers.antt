use Rattle.console_script.proofs.Supplied.{all_get_new}
use Rattle.console_talk.proofs.Spoken.{buffered_front}
use Rattle.console_talk.proofs.Anew.{talked_anew, talked_whole}
use Rattle.bpfcon.proofs.input.talk.Goals as goal

pub returns-clause-talked : goal.returns-clause-talked
returns-clause-talked g c =
    talked_anew _ (g.R.FileReader.may_read c.args.rt.now) (λ from run to it. all_get_new _ _ (λ from attr told to it. it) from to run it) c.args.manner (g.I.Read.remaining c.args.reader) _
    (buffered_front g.I.Read.remaining c.args.reader c.take.result c.in-Ok.input c.in-Ok.ensures.inner c.in-Ok.ensures.empty c.in-Ok.ensures.capacity c.take.ensures.limit c.take.ensures.inner) c.in-Ok-new_book.book.plain _ (g.W.Output.contents c.args.out.now)
    c.answer_lines-talked.new.book.plain _ (g.W.Output.contents c.answer_lines-talked.new.out)
    c.answer_lines-talked.result c.in-Ok-new_book.ensures.opens c.answer_lines-talked.ensures.ran

pub returns-clause-whole : goal.returns-clause-whole
returns-clause-whole g c =
    talked_whole _ (g.R.FileReader.may_read c.args.rt.now) (λ from run to it. all_get_new _ _ (λ from attr told to it. it) from to run it) c.args.manner (g.I.Read.remaining c.args.reader) _
    (buffered_front g.I.Read.remaining c.args.reader c.take.result c.in-Ok.input c.in-Ok.ensures.inner c.in-Ok.ensures.empty c.in-Ok.ensures.capacity c.take.ensures.limit c.take.ensures.inner) c.in-Ok-new_book.book.plain _ (g.W.Output.contents c.args.out.now)
    c.answer_lines-talked.new.book.plain _ (g.W.Output.contents c.answer_lines-talked.new.out)
    c.answer_lines-talked.result c.answer_lines-talked.ensures.ran
