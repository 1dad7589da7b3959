use Rattle.bpfcon.specs.Ends.{EndsLines, EndsFrames, EndsLive}
use Rattle.bpfcon.proofs.Carrying.{said, answered}
use Rattle.bpfcon.proofs.Ending.{may, in_live, lines_live}
use Rattle.bpfcon.proofs.carry_out.Goals as goal

pub returns-in-Help-clause-ran : goal.returns-in-Help-clause-ran
returns-in-Help-clause-ran g c = rw c.in-Help.is (said (g.R.FileReader.may_read c.args.rt.now) _ _ c.say-ran.result _ c.say-ran.ensures.said)

pub returns-in-Version-clause-ran : goal.returns-in-Version-clause-ran
returns-in-Version-clause-ran g c = rw c.in-Version.is (said (g.R.FileReader.may_read c.args.rt.now) _ _ c.say-ran-in-Version.result _ c.say-ran-in-Version.ensures.said)

pub returns-in-Shell-clause-ran : goal.returns-in-Shell-clause-ran
returns-in-Shell-clause-ran g c = rw c.in-Shell.is (answered (g.R.FileReader.may_read c.args.rt.now) _ _ c.talk-ran.result _ _ c.talk-ran.ensures.talked)

pub returns-in-RunInput-clause-ran : goal.returns-in-RunInput-clause-ran
returns-in-RunInput-clause-ran g c = rw c.in-RunInput.is (answered (g.R.FileReader.may_read c.args.rt.now) _ _ c.talk-ran-in-RunInput.result _ _ c.talk-ran-in-RunInput.ensures.talked)

pub returns-in-Run-clause-ran : goal.returns-in-Run-clause-ran
returns-in-Run-clause-ran g c = rw (c.in-Run.is, ← c.as_str.ensures.value) c.run_file-ran.ensures.ran

pub returns-in-Host-clause-ran : goal.returns-in-Host-clause-ran
returns-in-Host-clause-ran g c = rw (c.in-Host.is, ← c.as_str-in-Host.ensures.value, ← c.as_str-in-Host-2.ensures.value) c.serve-ran.ensures.ran

pub returns-in-HostThen-clause-ran : goal.returns-in-HostThen-clause-ran
returns-in-HostThen-clause-ran g c = rw (c.in-HostThen.is, ← c.as_str-in-HostThen.ensures.value, ← c.as_str-in-HostThen-2.ensures.value, ← c.as_str-in-HostThen-3.ensures.value) c.serve_then-ran.ensures.ran

pub returns-in-Live-clause-ran : goal.returns-in-Live-clause-ran
returns-in-Live-clause-ran g c = rw c.in-Live.is c.go_live.ensures.ran

pub returns-in-Help-clause-only : goal.returns-in-Help-clause-only
returns-in-Help-clause-only g c = may (EndsLines _) (EndsLive _) c.say-ran.result (lines_live _) c.say-ran.ensures.only

pub returns-in-Version-clause-only : goal.returns-in-Version-clause-only
returns-in-Version-clause-only g c = may (EndsLines _) (EndsLive _) c.say-ran-in-Version.result (lines_live _) c.say-ran-in-Version.ensures.only

pub returns-in-Shell-clause-only : goal.returns-in-Shell-clause-only
returns-in-Shell-clause-only g c = may (EndsLines _) (EndsLive _) c.talk-ran.result (lines_live _) c.talk-ran.ensures.only

pub returns-in-RunInput-clause-only : goal.returns-in-RunInput-clause-only
returns-in-RunInput-clause-only g c = may (EndsLines _) (EndsLive _) c.talk-ran-in-RunInput.result (lines_live _) c.talk-ran-in-RunInput.ensures.only

pub returns-in-Run-clause-only : goal.returns-in-Run-clause-only
returns-in-Run-clause-only g c = may (EndsLines _) (EndsLive _) c.run_file-ran.result (lines_live _) c.run_file-ran.ensures.only

pub returns-in-Host-clause-only : goal.returns-in-Host-clause-only
returns-in-Host-clause-only g c = may (EndsFrames _) (EndsLive _) c.serve-ran.result (in_live _) c.serve-ran.ensures.only

pub returns-in-HostThen-clause-only : goal.returns-in-HostThen-clause-only
returns-in-HostThen-clause-only g c = may (EndsFrames _) (EndsLive _) c.serve_then-ran.result (in_live _) c.serve_then-ran.ensures.only
