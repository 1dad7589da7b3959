use Rattle.std.proofs.Common.{sym, subst, IfOk, refl}
use Rattle.std.proofs.lemmas.Result.{IfOk-weaker}
use Rattle.console_operand.specs.Automaton.{GoesOn, GoesOver}
use Rattle.console_map_syntax.specs.MapSteps.{map_step}
use Rattle.bt_syntax.specs.ProgSteps.{prog_step}
use Rattle.bt_syntax.specs.NetSteps.{net_step}
use Rattle.bt_syntax.specs.BatchSteps.{batch_step}
use Rattle.bt_syntax.specs.UnpinSteps.{unpin_step}
use Rattle.bt_syntax.specs.FrameSteps.{frame_step}
use Rattle.bt_syntax.specs.RunSteps.{run_step}
use Rattle.bt_syntax.specs.JournalSteps.{journal_step}
use Rattle.bt_syntax.specs.Steps.{step}
use Rattle.bt_syntax.specs.declared.command.State.TheVariants as s
use Rattle.console_operand.proofs.OverRead.{goes_one, goes_mapped, over_mapped}
use Rattle.bt_syntax.proofs.command.State.go_on.Goals as goal

pub returns-in-Start-clause-goes_on : goal.returns-in-Start-clause-goes_on
returns-in-Start-clause-goes_on c =
    goes_one step c.begin.result c.args.self.now c.begin.new.self c.args.word.now c.args.unread.now
    (subst (λ x. GoesOn c.begin.result (step x c.args.word.now) c.begin.new.self) (sym c.in-Start.is) c.begin.ensures)

pub returns-in-Map-clause-goes_on : goal.returns-in-Map-clause-goes_on
returns-in-Map-clause-goes_on c =
    let call = c.go_on in
    subst (λ x. IfOk call.result (λ goes. GoesOver step goes x c.args.word.now c.args.unread.now (s.Map call.new.self) call.new.unread)) (sym c.in-Map.is)
    (IfOk-weaker call.result _ _
    (λ goes h. over_mapped map_step step s.Map (λ x w. refl) goes c.in-Map.state call.new.self c.args.word.now c.args.unread.now call.new.unread h) call.ensures.goes_on)

pub returns-in-Prog-clause-goes_on : goal.returns-in-Prog-clause-goes_on
returns-in-Prog-clause-goes_on c =
    let call = c.go_on-in-Prog in
    subst (λ x. IfOk call.result (λ goes. GoesOver step goes x c.args.word.now c.args.unread.now (s.Prog call.new.self) c.args.unread.now)) (sym c.in-Prog.is)
    (IfOk-weaker call.result _ _
    (λ goes h. goes_mapped prog_step step s.Prog (λ x w. refl) goes c.in-Prog.state call.new.self c.args.word.now c.args.unread.now h) call.ensures)

pub returns-in-Net-clause-goes_on : goal.returns-in-Net-clause-goes_on
returns-in-Net-clause-goes_on c =
    let call = c.go_on-in-Net in
    subst (λ x. GoesOver step call.result x c.args.word.now c.args.unread.now (s.Net call.new.self) c.args.unread.now) (sym c.in-Net.is)
    (goes_mapped net_step step s.Net (λ x w. refl) call.result c.in-Net.state call.new.self c.args.word.now c.args.unread.now call.ensures)

pub returns-in-Batch-clause-goes_on : goal.returns-in-Batch-clause-goes_on
returns-in-Batch-clause-goes_on c =
    let call = c.go_on-in-Batch in
    subst (λ x. GoesOver step call.result x c.args.word.now c.args.unread.now (s.Batch call.new.self) c.args.unread.now) (sym c.in-Batch.is)
    (goes_mapped batch_step step s.Batch (λ x w. refl) call.result c.in-Batch.state call.new.self c.args.word.now c.args.unread.now call.ensures)

pub returns-in-Unpin-clause-goes_on : goal.returns-in-Unpin-clause-goes_on
returns-in-Unpin-clause-goes_on c =
    let call = c.go_on-in-Unpin in
    subst (λ x. GoesOver step call.result x c.args.word.now c.args.unread.now (s.Unpin call.new.self) c.args.unread.now) (sym c.in-Unpin.is)
    (goes_mapped unpin_step step s.Unpin (λ x w. refl) call.result c.in-Unpin.state call.new.self c.args.word.now c.args.unread.now call.ensures)

pub returns-in-Frame-clause-goes_on : goal.returns-in-Frame-clause-goes_on
returns-in-Frame-clause-goes_on c =
    let call = c.go_on-in-Frame in
    subst (λ x. IfOk call.result (λ goes. GoesOver step goes x c.args.word.now c.args.unread.now (s.Frame call.new.self) c.args.unread.now)) (sym c.in-Frame.is)
    (IfOk-weaker call.result _ _
    (λ goes h. goes_mapped frame_step step s.Frame (λ x w. refl) goes c.in-Frame.state call.new.self c.args.word.now c.args.unread.now h) call.ensures)

pub returns-in-Run-clause-goes_on : goal.returns-in-Run-clause-goes_on
returns-in-Run-clause-goes_on c =
    let call = c.go_on-in-Run in
    subst (λ x. IfOk call.result (λ goes. GoesOver step goes x c.args.word.now c.args.unread.now (s.Run call.new.self) c.args.unread.now)) (sym c.in-Run.is)
    (IfOk-weaker call.result _ _
    (λ goes h. goes_mapped run_step step s.Run (λ x w. refl) goes c.in-Run.state call.new.self c.args.word.now c.args.unread.now h) call.ensures)

pub returns-in-Journal-clause-goes_on : goal.returns-in-Journal-clause-goes_on
returns-in-Journal-clause-goes_on c =
    let call = c.go_on-in-Journal in
    subst (λ x. IfOk call.result (λ goes. GoesOver step goes x c.args.word.now c.args.unread.now (s.Journal call.new.self) c.args.unread.now)) (sym c.in-Journal.is)
    (IfOk-weaker call.result _ _
    (λ goes h. goes_mapped journal_step step s.Journal (λ x w. refl) goes c.in-Journal.state call.new.self c.args.word.now c.args.unread.now h) call.ensures)
