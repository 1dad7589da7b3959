-- The code of an event, by which a proof tells events apart.
use Rattle.std.specs.Prelude.{◌≡◌, ◌⊎◌, ℕ, Bool, true, false, List, Option, Some, None, refl}
use mathlib.Core.Logic.{inl, inr}
use Rattle.std.specs.Coded.{Coded, code_by, coded×, coded⊎, coded_ℕ, coded_bool, coded_list, coded_option}
use Rattle.program_access.specs.contracts.access.Access as access
use Rattle.program_access.specs.declared.access.Access.{Access}
use Rattle.bt_objects.specs.contracts.make.Make as make
use Rattle.bt_objects.specs.declared.make.Make.{Make}
use Rattle.host_state.specs.contracts.ask.Ask as ask
use Rattle.host_state.specs.declared.ask.Ask.{Ask as Question}
use Rattle.host_state.specs.contracts.change.Change as change
use Rattle.host_state.specs.declared.change.Change.{Change}
use Rattle.journal_model.specs.Blank.{Blank}
use Rattle.journal_model.specs.Run.{PlainEvent, Record, Mark, UndoTo, UndoLast, Redo, Without, Forget, ListAll, Ask, Start, Serve}

abbrev pub blank_code : Coded Blank
blank_code = code_by (Make × Bool) (coded× make.the_row.coded coded_bool) (λ b. (b.make, b.fresh)) (λ p. record { make = p.0; fresh = p.1 }) (λ _. refl)

-- the events that say nothing more
abbrev Bare : Type 0
Bare = Option Bool

-- the events by what they say
abbrev Parts : Type 0
Parts = (Change × Option Blank) ⊎ (List ℕ ⊎ (List ℕ ⊎ (Bare ⊎ (ℕ ⊎ (Question ⊎ (List ℕ ⊎ ((ℕ × Access) ⊎ List ℕ)))))))

abbrev to_parts : PlainEvent → Parts
to_parts (Record change blank) = inl (change, blank)
to_parts (Mark name) = inr (inl name)
to_parts (UndoTo name) = inr (inr (inl name))
to_parts UndoLast = inr (inr (inr (inl None)))
to_parts Redo = inr (inr (inr (inl (Some true))))
to_parts ListAll = inr (inr (inr (inl (Some false))))
to_parts (Without serial) = inr (inr (inr (inr (inl serial))))
to_parts (Ask question) = inr (inr (inr (inr (inr (inl question)))))
to_parts (Start device) = inr (inr (inr (inr (inr (inr (inl device))))))
to_parts (Serve prog access) = inr (inr (inr (inr (inr (inr (inr (inl (prog, access))))))))
to_parts (Forget name) = inr (inr (inr (inr (inr (inr (inr (inr name)))))))

abbrev of_parts : Parts → PlainEvent
of_parts (inl it) = Record it.0 it.1
of_parts (inr (inl name)) = Mark name
of_parts (inr (inr (inl name))) = UndoTo name
of_parts (inr (inr (inr (inl None)))) = UndoLast
of_parts (inr (inr (inr (inl (Some true))))) = Redo
of_parts (inr (inr (inr (inl (Some false))))) = ListAll
of_parts (inr (inr (inr (inr (inl serial))))) = Without serial
of_parts (inr (inr (inr (inr (inr (inl question)))))) = Ask question
of_parts (inr (inr (inr (inr (inr (inr (inl device))))))) = Start device
of_parts (inr (inr (inr (inr (inr (inr (inr (inl it)))))))) = Serve it.0 it.1
of_parts (inr (inr (inr (inr (inr (inr (inr (inr name)))))))) = Forget name

pub back : (event : PlainEvent) → of_parts (to_parts event) ≡ event
back (Record change blank) = refl
back (Mark name) = refl
back (UndoTo name) = refl
back UndoLast = refl
back Redo = refl
back ListAll = refl
back (Without serial) = refl
back (Ask question) = refl
back (Start device) = refl
back (Serve prog access) = refl
back (Forget name) = refl

abbrev pub event_code : Coded PlainEvent
event_code =
    code_by Parts
    (coded⊎ (coded× change.the_row.coded (coded_option blank_code)) (coded⊎ (coded_list coded_ℕ) (coded⊎ (coded_list coded_ℕ)
    (coded⊎ (coded_option coded_bool) (coded⊎ coded_ℕ (coded⊎ ask.the_row.coded (coded⊎ (coded_list coded_ℕ) (coded⊎ (coded× coded_ℕ access.the_row.coded) (coded_list coded_ℕ)))))))))
    to_parts of_parts back
