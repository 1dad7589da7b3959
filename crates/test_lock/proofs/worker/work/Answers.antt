use mathlib.Core.List.{map-append}
use Rattle.std.proofs.Common.{◌≡◌, ℕ, List, [], ◌∷◌, ◌++◌, map, ap, sym, ◌∙◌, subst, append_assoc}
use Rattle.thread_lock.specs.declared.counter.Ask.TheVariants.{Add}
use Rattle.thread_lock.specs.History.{entry}
use Rattle.thread_lock.specs.Plays.{first_number}
use Rattle.thread_lock.specs.Seats.{number, own_calls}
use Rattle.test_lock.proofs.worker.work.Goals as goal

-- one call and one answer more
one_more : {X Y : Type 0} (f : X → Y) (start calls more : List Y) (answers all : List X) (x : X) → more ≡ calls ++ f x ∷ [] → all ≡ answers ++ x ∷ [] → calls ≡ start ++ map f answers → more ≡ start ++ map f all
one_more {X} {Y} f start calls more answers all x called kept old =
    called
    ∙ (ap (λ (l : List Y). l ++ f x ∷ []) old
    ∙ (append_assoc start (map f answers) (f x ∷ []) ∙ ap (λ (l : List Y). start ++ l) (sym (map-append f answers (x ∷ [])) ∙ ap (map f) (sym kept))))

pub loop-preserved : goal.loop-preserved
loop-preserved g c =
    let called = c.in-Ok.ensures.called in
    let same = c.loop.invariant.same in record {
      seat = c.call.ensures.seat;
      same = called.same_numbers ∙ same;
      own = one_more (λ (answer : ℕ). entry (number c.args.seat) (Add 1) answer) (own_calls c.args.seat) (own_calls c.loop.seat) (own_calls c.call.new.seat) c.loop.answers.items _ c.in-Ok.answer
          (subst (λ (n : ℕ). own_calls c.call.new.seat ≡ own_calls c.loop.seat ++ entry n (Add 1) c.in-Ok.answer ∷ []) (ap first_number same) called.own_call)
          (c.push_reserved.ensures.items ∙ ap (λ (l : List ℕ). l ++ c.in-Ok.answer ∷ []) c.reserve.ensures.items) c.loop.invariant.own;
    }
