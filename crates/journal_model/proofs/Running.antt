-- Runs event by event.
use Rattle.std.proofs.Common.{◌≡◌, ℕ, ◌+◌, ◌<◌, Bool, List, [], ◌∷◌, ◌++◌, length, map, get_or, take, refl, sym, ◌∙◌, ap}
use Rattle.std.proofs.lemmas.List.{map-append, take_more}
use Rattle.journal_model.specs.Book.{PlainBook}
use Rattle.journal_model.specs.Run.{PlainEvent, PlainAnswer, Given, event_of, bookstep, bookrun, book_after}

-- one event more
pub bookrun-push : (b : PlainBook) (gs : List Given) (refused : Bool) (e : PlainEvent) (mid new : PlainBook) (answers : List PlainAnswer) (answer : PlainAnswer) →
    bookrun b gs ≡ (mid, answers) → bookstep refused mid e ≡ (new, answer) → bookrun b (gs ++ (refused, e) ∷ []) ≡ (new, answers ++ answer ∷ [])
bookrun-push b [] refused e mid new answers answer h k =
    let as_is : answers ≡ [] = ap (λ p. p.1) (sym h) in
    let mid_is : b ≡ mid = ap (λ p. p.0) h in
    ap (λ m. let s : PlainBook × PlainAnswer = bookstep refused m e in let p : PlainBook × List PlainAnswer = (s.0, s.1 ∷ []) in p) mid_is
    ∙ ap (λ s. let p : PlainBook × List PlainAnswer = (s.0, s.1 ∷ []) in p) k
    ∙ ap (λ xs. let p : PlainBook × List PlainAnswer = (new, xs ++ answer ∷ []) in p) (sym as_is)
bookrun-push b (g ∷ gs) refused e mid new answers answer h k =
    let s : PlainBook × PlainAnswer = bookstep g.0 b g.1 in
    let rest : PlainBook × List PlainAnswer = bookrun s.0 gs in
    let r : bookrun s.0 (gs ++ (refused, e) ∷ []) ≡ (new, rest.1 ++ answer ∷ []) =
    bookrun-push s.0 gs refused e mid new rest.1 answer (ap (λ m. let p : PlainBook × List PlainAnswer = (m, rest.1) in p) (ap (λ p. p.0) h)) k in
    ap (λ t. let p : PlainBook × List PlainAnswer = (t.0, s.1 ∷ t.1) in p) r
    ∙ ap (λ xs. let p : PlainBook × List PlainAnswer = (new, xs ++ answer ∷ []) in p) (ap (λ p. p.1) h)

-- some events after others
pub book_after-append : (b : PlainBook) (xs ys : List Given) → book_after b (xs ++ ys) ≡ book_after (book_after b xs) ys
book_after-append b [] ys = refl
book_after-append b (x ∷ xs) ys = book_after-append (bookstep x.0 b x.1).0 xs ys

-- the first events of a list have led here, each with whether an allocation failed in it
pub record HasRun (b : PlainBook) (events : List PlainEvent) (now : PlainBook) (answers : List PlainAnswer) : Type 0 where
  pub given : List Given
  pub events_are : map event_of given ≡ events
  pub run : bookrun b given ≡ (now, answers)

-- and the next one more
pub has_run_more : (b mid new : PlainBook) (answers longer : List PlainAnswer) (answer : PlainAnswer) (events : List PlainEvent) (i : ℕ) (d : PlainEvent) → i < length events →
    HasRun b (take i events) mid answers → (refused : Bool) × (bookstep refused mid (get_or events i d) ≡ (new, answer)) → longer ≡ answers ++ answer ∷ [] →
    HasRun b (take (i + 1) events) new longer
has_run_more b mid new answers longer answer events i d h g s e =
    let last : List Given = (s.0, get_or events i d) ∷ [] in
    record {
      given = g.given ++ last;
      events_are = map-append event_of g.given last ∙ ap (λ xs. xs ++ get_or events i d ∷ []) g.events_are ∙ sym (take_more events i d h);
      run = bookrun-push b g.given s.0 (get_or events i d) mid new answers answer g.run s.1 ∙ ap (λ xs. let p : PlainBook × List PlainAnswer = (new, xs) in p) (sym e);
    }
