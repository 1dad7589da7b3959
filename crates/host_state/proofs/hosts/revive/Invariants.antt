use Rattle.std.proofs.Common.{◌≡◌, ◌≤◌, ℕ, length, drop}
use Rattle.host_state.specs.Hosts.{entries_in}
use Rattle.host_state.proofs.ReviveLemmas.{left_to, progs_left_to}
use Rattle.host_state.proofs.hosts.revive.Given as goal

-- what is left to be done leads to what all leads to
abbrev pub invariant-loop-target : goal.invariant-loop-target
invariant-loop-target l =
    (l.target-index ≤ length l.targets)
    × ((q : ℕ) → left_to (drop l.target-index l.targets) l.live (entries_in l.entries) q ≡ left_to l.targets l.live (entries_in l.initial.entries) q)
    × ((q : ℕ) → progs_left_to (drop l.target-index l.targets) l.live (entries_in l.entries) q ≡ progs_left_to l.targets l.live (entries_in l.initial.entries) q)
