-- Doing a list of changes again is each answering as it did, one after the other.
use Rattle.std.proofs.Common.{◌≡◌, List, [], ◌∷◌, ◌∙◌, ap}
use Rattle.std.specs.Prelude.{Ok}
use Rattle.host_state.specs.State.{State}
use Rattle.host_state.specs.Act.{act}
use Rattle.journal_model.specs.Replay.{Entry, as_before, go_on, replay}
use Rattle.journal_model.proofs.Replaying.{same_state, answers, answered_so, went_on}
use Rattle.journal_laws.specs.Headline.{LeadAsBefore, ReplaysAsBefore}

leads : (s : State) (es : List Entry) (t : State) → replay s es ≡ Ok t → LeadAsBefore s es t
leads s [] t h = same_state s t h
leads s (e ∷ es) t h =
    let w = went_on (as_before e (act s e.change)) (λ u. replay u es) t h in
    (w.0, answers s w.0 e w.1, leads w.0 es t w.2)

led : (s : State) (es : List Entry) (t : State) → LeadAsBefore s es t → replay s es ≡ Ok t
led s [] t h = ap Ok h
led s (e ∷ es) t h = ap (λ r. go_on r (λ u. replay u es)) (answered_so s h.0 e h.1) ∙ led h.0 es t h.2

pub replays_as_before : (s : State) (es : List Entry) (t : State) → ReplaysAsBefore s es t
replays_as_before s es t = (leads s es t, led s es t)
