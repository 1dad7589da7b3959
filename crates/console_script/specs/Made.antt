-- Boxes that are made when they are asked for.
use Rattle.std.specs.Prelude.{◌≡◌, ◌⊎◌, true, ⊤, List, [], ◌∷◌, Option, Some, None, Result, Ok, Err}
use Rattle.bt_mapkind.specs.declared.attr.MapAttr.{MapAttr}
use Rattle.bt_mapkind.specs.Attributes.{charge_of}
use Rattle.bt_mapkind.specs.Contents.{fresh}
use Rattle.bt_mapkind.specs.Seen.{Seen}
use Rattle.journal_model.specs.Blank.{Blank}
use Rattle.console_script.specs.Commands.{Course}
use Rattle.console_script.specs.Supplied.{need_at}
use Rattle.console_script.specs.Transcript.{Step}
use Rattle.console_script.specs.NoBox.{NoBox}
use Rattle.console_script.specs.NoBox.TheVariants.{AtEnd, NoMemory, TooLarge}

-- a new map of these attributes
abbrev pub new_map : MapAttr → Seen
new_map attr = record { attr = attr; contents = fresh attr; charge = charge_of attr; roomy = true }

-- a new map of just these attributes was made, or there was no memory or no room for it
abbrev pub IsMade : {K : Type 0} → (K → Seen) → MapAttr → Result K NoBox → Type 0
IsMade seen attr (Ok kind) = seen kind ≡ new_map attr
IsMade seen attr (Err AtEnd) = ⊥
IsMade seen attr (Err NoMemory) = ⊤
IsMade seen attr (Err (TooLarge charge)) = charge ≡ charge_of attr

-- its blank
abbrev pub new_blank : MapAttr → Blank
new_blank attr = record { make = record { attr = attr; charge = charge_of attr }; fresh = true }

-- a line that makes a map of good attributes goes as with a new map of just these, or memory was refused to it; no other
-- gets a box
abbrev pub GetsNew : Option MapAttr → Course → Option Blank → Type 0
GetsNew None course blank = blank ≡ None
GetsNew (Some attr) course blank = (blank ≡ Some (new_blank attr)) ⊎ (course.refused ≡ true)

abbrev pub AllGetNew : List Step → Type 0
AllGetNew [] = ⊤
AllGetNew (it ∷ run) = GetsNew (need_at it.line) it.course it.blank × AllGetNew run
