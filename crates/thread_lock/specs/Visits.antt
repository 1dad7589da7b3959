-- Visits: a caller's function has the state for one call, and what comes of that.
use Rattle.std.specs.Prelude.{◌≡◌, ◌-◌, List, [], ◌∷◌, ◌++◌}
use Rattle.std.specs.Borrow.{MutBor}
use Rattle.std.specs.Fn.{Once}
use Rattle.thread_lock.specs.declared.entry.Entry.{Entry}
use Rattle.thread_lock.specs.declared.rule.Kept.{Kept}
use Rattle.thread_lock.specs.declared.rule.View.{View}
use Rattle.thread_lock.specs.declared.rule.Stage.TheVariants.{Idle}
use Rattle.thread_lock.specs.History.{Leads, own, entry}
use Rattle.thread_lock.specs.Rule.{Knows}
use Rattle.thread_lock.specs.Plays.{first_number}

-- a call of f on a state and a job may return `told`, and leave them as `after` and job'
pub record Does {F S J T : Type 0} (g : Once F (MutBor S × (MutBor J × Unit {0})) (T × (MutBor S × (MutBor J × Unit {0})))) (f : F) (job : J) (told : T) (job' : J) (before after : S) : Type 0 where
  pub shown : MutBor S
  pub shows : shown.now ≡ before
  pub handed : MutBor J
  pub hands : handed.now ≡ job
  pub left : MutBor S
  pub leaves : left.now ≡ after
  pub returned : MutBor J
  pub gives : returned.now ≡ job'
  pub met : g.post f (shown, (handed, tt)) (told, (left, (returned, tt)))

module _ {S E A : Type 0} where
  -- the function worked on the state in the seat's slot, if the state that it found is noted
  pub record WorksOn (did : S → S → Type 0) (m m' : Knows S E A) : Type 0 where
    pub before : Kept S E A
    pub after : Kept S E A
    pub held : m.1 ≡ (0, before) ∷ []
    pub is : m' ≡ (m.0, (0, after) ∷ [])
    pub noted : after.before.value ≡ before.state
    pub went : did before.state after.state

  -- one visit: calls of others lead to the state that it found, and its own call from there to the state that it left
  pub record Visits (steps : S → E → A → S → Type 0) (opening : S) (did : S → S → Type 0) (v w : View S E A) : Type 0 where
    pub between : List (Entry E A)
    pub event : E
    pub answer : A
    pub before : S
    pub after : S
    pub seen : w.seen ≡ (v.seen ++ between) ++ entry (first_number v.numbers) event answer ∷ []
    pub others : own v.numbers between ≡ []
    pub found : Leads steps opening (v.seen ++ between) before
    pub does : steps before event answer after
    pub went : did before after
    pub opening_is : w.opening ≡ v.opening
    pub numbers : w.numbers ≡ v.numbers
    pub left : w.left ≡ v.left - 1
    pub stage : w.stage ≡ Idle
