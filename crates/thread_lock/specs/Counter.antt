-- The counter of one thread.
use Rattle.std.specs.Prelude.{◌≡◌, ℕ, ◌+◌, ◌%◌, ◌^◌}
use Rattle.thread_lock.specs.declared.counter.Counter.{Counter}
use Rattle.thread_lock.specs.declared.counter.Ask.{Ask}
use Rattle.thread_lock.specs.declared.counter.Ask.TheVariants.{Add, Read}

abbrev pub count_after : ℕ → Ask → ℕ
count_after n (Add k) = (n + k) % 2 ^ 64
count_after n Read = n

-- what is asked is added, and the answer is the count after it
abbrev pub Counts : Counter → Ask → ℕ → Counter → Type 0
Counts before ask answer after = (after.count ≡ count_after before.count ask) × (answer ≡ after.count)
