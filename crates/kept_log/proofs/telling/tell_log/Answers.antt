use Rattle.std.proofs.Common.{refl, subst}
use Rattle.std.specs.Io.KnownBytes.{Appends}
use Rattle.console_text.specs.Written.{WritesFront}
use Rattle.kept_log.specs.LogText.{log_text}
use Rattle.kept_log.proofs.telling.tell_log.Goals as goal

pub returns-in-Err : goal.returns-in-Err
returns-in-Err g c = record { told = λ clean t es was. c.in-Err.ensures.fit clean t es was; unread = refl; crash = c.in-Err.ensures.crash }

pub returns-in-Ok-put_log : goal.returns-in-Ok-put_log
returns-in-Ok-put_log g c = record {
  told = λ clean t es was. record {
    rows = c.in-Ok.log.items;
    are = c.in-Ok.ensures.rows clean t es was;
    written = subst (λ rows. Appends (g.W.Output.contents c.args.out.now) (g.W.Output.contents c.put_log.new.out) (log_text rows)) c.as_slice.ensures.value c.in-Ok-put_log.ensures.text;
    stays = c.in-Ok.ensures.stays clean t es was;
  };
  unread = tt;
  crash = c.in-Ok.ensures.crash;
}

pub returns : goal.returns
returns g c = record {
  told = λ clean t es was. record {
    rows = c.in-Ok.log.items;
    are = c.in-Ok.ensures.rows clean t es was;
    written = subst (λ rows. WritesFront (g.W.Output.contents c.args.out.now) (g.W.Output.contents c.put_log.new.out) (log_text rows)) c.as_slice.ensures.value c.in-Err-put_log.ensures.text;
    stays = c.in-Ok.ensures.stays clean t es was;
  };
  unread = tt;
  crash = c.in-Ok.ensures.crash;
}
