-- Histories one after the other lead the plain book as both together do.
use Rattle.std.proofs.Common.{◌≡◌, List, [], ◌∷◌, ◌++◌, map, refl, ◌∙◌, ap}
use Rattle.journal_model.specs.Book.{PlainBook}
use Rattle.journal_model.specs.Run.{PlainEvent, PlainAnswer, Given, event_of, bookstep, bookrun}
use Rattle.bt_without.specs.Events.{answer_of}
use Rattle.thread_lock.specs.History.{Leads}
use Rattle.bt_desk.specs.Events.{Steps}
use Rattle.bt_desk.specs.Histories.{Call, Runs, IsLegal}

abbrev pub events_in : List Call → List PlainEvent
events_in history = map (λ (call : Call). call.event) history

abbrev pub answers_in : List Call → List PlainAnswer
answers_in history = map (λ (call : Call). answer_of call.answer) history

-- an answer before those of the rest
abbrev with_first : PlainAnswer → PlainBook × List PlainAnswer → PlainBook × List PlainAnswer
with_first answer rest = (rest.0, answer ∷ rest.1)

pub leads_runs : (b c : PlainBook) (history : List Call) → Leads Steps b history c → Runs b history c
leads_runs b c [] h = record { given = []; events = refl; run = ap (λ x. let p : PlainBook × List PlainAnswer = (x, []) in p) h }
leads_runs b c (call ∷ more) h =
    let rest = leads_runs h.0 c more h.2 in record {
      given = (h.1.0, call.event) ∷ rest.given;
      events = ap (λ es. call.event ∷ es) rest.events;
      run = ap (λ (one : PlainBook × PlainAnswer). with_first one.1 (bookrun one.0 rest.given)) h.1.1 ∙ ap (with_first (answer_of call.answer)) rest.run;
    }

pub legal_runs : (b : PlainBook) (history : List Call) → ((c : PlainBook) × Leads Steps b history c) → IsLegal b history
legal_runs b history h = (h.0, leads_runs b h.0 history h.1)

-- ---- one history after another
pub record Cut (given : List Given) (b c : PlainBook) (first second : List Call) : Type 0 where
  pub mid : PlainBook
  pub ahead : List Given
  pub behind : List Given
  pub whole : given ≡ ahead ++ behind
  pub events_ahead : map event_of ahead ≡ events_in first
  pub run_ahead : bookrun b ahead ≡ (mid, answers_in first)
  pub events_behind : map event_of behind ≡ events_in second
  pub run_behind : bookrun mid behind ≡ (c, answers_in second)

both : (b c : PlainBook) (xs ys : List PlainAnswer) → b ≡ c → xs ≡ ys → ◌≡◌ {A = PlainBook × List PlainAnswer} (b, xs) (c, ys)
both b c xs ys p q = λ i. (p i, q i)

same_tail : {A : Type 0} (x y : A) (xs ys : List A) → x ∷ xs ≡ y ∷ ys → xs ≡ ys
same_tail x y xs ys e = cc

same_head : {A : Type 0} (x y : A) (xs ys : List A) → x ∷ xs ≡ y ∷ ys → x ≡ y
same_head x y xs ys e = cc

pub cut : (given : List Given) (b c : PlainBook) (first second : List Call) → map event_of given ≡ events_in (first ++ second) → bookrun b given ≡ (c, answers_in (first ++ second)) → Cut given b c first second
cut given b c [] second p q = record { mid = b; ahead = []; behind = given; whole = refl; events_ahead = refl; run_ahead = refl; events_behind = p; run_behind = q }
cut [] b c (call ∷ first) second p q = absurd (let z : [] ≡ call.event ∷ events_in (first ++ second) = p in cc)
cut (g ∷ given) b c (call ∷ first) second p q =
    let one : PlainBook × PlainAnswer = bookstep g.0 b g.1 in
    let more : PlainBook × List PlainAnswer = bookrun one.0 given in
    let told : one.1 ∷ more.1 ≡ answer_of call.answer ∷ answers_in (first ++ second) = ap (λ m. m.1) q in
    let r = cut given one.0 c first second (same_tail g.1 call.event (map event_of given) (events_in (first ++ second)) p)
    (let tail : more.1 ≡ answers_in (first ++ second) = same_tail one.1 (answer_of call.answer) more.1 (answers_in (first ++ second)) told in
    λ i. (ap (λ m. m.0) q i, tail i)) in
    record {
      mid = r.mid;
      ahead = g ∷ r.ahead;
      behind = r.behind;
      whole = ap (λ gs. g ∷ gs) r.whole;
      events_ahead = ap (λ e. e ∷ map event_of r.ahead) (same_head g.1 call.event (map event_of given) (events_in (first ++ second)) p) ∙ ap (λ es. call.event ∷ es) r.events_ahead;
      run_ahead = ap (with_first one.1) r.run_ahead ∙ ap (λ a. let p : PlainBook × List PlainAnswer = (r.mid, a ∷ answers_in first) in p) (same_head one.1 (answer_of call.answer) more.1 (answers_in (first ++ second)) told);
      events_behind = r.events_behind;
      run_behind = r.run_behind;
    }
