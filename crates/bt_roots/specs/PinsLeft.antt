-- The pins that an iterator over them has left.
use Rattle.std.specs.Prelude.{ℕ, List}
use Rattle.std.specs.List.{filter_map}
use Rattle.std.specs.Option.{option_map}
use Rattle.bt_roots.specs.declared.target.Target.{Target}
use Rattle.bt_roots.specs.declared.pins.Pins.{Pins}
use Rattle.bt_roots.specs.Slots.{Slots}

-- the entries with something pinned
abbrev pub pinned_in : Slots → List (List ℕ × Target)
pinned_in slots = filter_map (λ slot. option_map (λ target. (slot.0, target)) slot.1) slots

abbrev pub pins_left : Pins → List (List ℕ × Target)
pins_left pins = pinned_in pins.slots
