-- The lines that only look at the journal, as their words spell them.
use Rattle.std.specs.Prelude.{ℕ, if◌then◌else◌, List, [], ◌∷◌, Option, Some, None, codes}
use Rattle.std.specs.Option.{option_map}
use Rattle.std.specs.Str.{bytes_eq}
use Rattle.console_operand.specs.Number.{long_number_of}
use Rattle.console_looks.specs.declared.look.Look.{Look}
use Rattle.console_looks.specs.declared.look.Look.TheVariants.{Show, DryUndo}

-- after `journal show`: one word, a serial
abbrev pub serial_in : List (List ℕ) → Option Look
serial_in (word ∷ []) = option_map Show (long_number_of word)
serial_in _ = None

-- after `journal undo -n`: one word, the name of a mark, or none
abbrev pub mark_in : List (List ℕ) → Option Look
mark_in [] = Some (DryUndo None)
mark_in (name ∷ []) = Some (DryUndo (Some name))
mark_in _ = None

-- after `journal undo`
abbrev pub dry_in : List (List ℕ) → Option Look
dry_in [] = None
dry_in (word ∷ words) = if bytes_eq word (codes "-n") then mark_in words else None

-- after `journal`
abbrev pub look_behind : List (List ℕ) → Option Look
look_behind [] = None
look_behind (word ∷ words) =
    if bytes_eq word (codes "show") then serial_in words else
    if bytes_eq word (codes "undo") then dry_in words else None

-- a line
abbrev pub look_in : List (List ℕ) → Option Look
look_in [] = None
look_in (word ∷ words) = if bytes_eq word (codes "journal") then look_behind words else None
