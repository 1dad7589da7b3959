use Rattle.kept_host.proofs.Talking.{in_file}
use Rattle.kept_host.proofs.file.talk_in_file.Goals as goal

pub returns : goal.returns
returns g c =
    in_file (g.R.Databases.may_open c.args.rt.now c.args.path.now c.args.seconds) c.args.terms (g.R.FileReader.may_read c.args.rt.now) (g.I.Read.remaining c.args.input.now) (g.W.Output.contents c.args.out.now) (g.W.Output.contents c.talk_kept-talked.new.out)
    c.talk_kept-talked.result
    (record { old = c.in-Ok.it; new = record { conn = c.talk_kept-talked.new.conn }; opened = c.in-Ok.ensures.opened; ready = c.in-Ok.ensures.ready; ran = c.talk_kept-talked.ensures })
