-- Registers: numbers and positions in the stack by themselves, other values by their kinds and keys.
use Rattle.std.specs.Prelude.{◌≡◌, ℕ, ◌<◌, Bool, true, false, List, slice_index_or}
use Rattle.program_machine.specs.Held.{Held, Number, Pointer, Stack}
use Rattle.program_machine.specs.Places.{held_by, paired}
use Rattle.program_machine.specs.declared.key.Key.{Key}
use Rattle.program_machine.specs.declared.kind.Kind.{Kind}
use Rattle.program_machine.specs.declared.kind.Kind.TheVariants.{Number as ANumber, Stack as AStack, Context as AContext}
use Rattle.program_machine.specs.declared.registers.Sort.{Sort}
use Rattle.program_machine.specs.declared.registers.Sort.TheVariants.{Number as IsNumber, Stack as IsStack, Other}

abbrev pub sorted : Sort → ℕ → Sort × ℕ
sorted sort n = (sort, n)

-- what a register holds, by its sort and number, and by the value that stands apart
abbrev pub seen : Sort × ℕ → Held → Held
seen (IsNumber, n) apart = Number n
seen (IsStack, n) apart = Pointer Stack n
seen (Other, n) apart = apart

abbrev pub seen_all : List Sort → List ℕ → List Kind → List Key → List Held
seen_all sorts numbers kinds keys = paired seen (paired sorted sorts numbers) (paired held_by kinds keys)

-- what is neither a number nor a position in the stack stands apart
abbrev pub is_apart : Kind → Bool
is_apart (ANumber n) = false
is_apart (AStack position) = false
is_apart _ = true

abbrev pub AreApart : List Kind → Type 0
AreApart kinds = (i : ℕ) → i < 11 → is_apart (slice_index_or kinds i AContext) ≡ true
