-- What contracts see of a timeline, and its code.
use Rattle.std.specs.Prelude.{ℕ, List, refl, Option}
use Rattle.std.specs.Coded.{Coded, code_by, coded×, coded_ℕ, coded_list, coded_option}
use Rattle.std.specs.FinMap as map
use Rattle.bt_objects.specs.contracts.make.Make as make
use Rattle.bt_objects.specs.declared.make.Make.{Make}
use Rattle.bt_objects.specs.ById.{ById}
use Rattle.host_state.specs.State.{State}
use Rattle.host_state.proofs.Codes.{state_code}
use Rattle.host_state.specs.contracts.change.Change as change
use Rattle.host_state.specs.contracts.reply.Reply as reply
use Rattle.host_state.specs.declared.change.Change.{Change}
use Rattle.host_state.specs.declared.reply.Reply.{Reply}
use Rattle.journal_model.specs.Replay.{Entry}
use Rattle.journal_model.specs.Plain.{Past, Pasts}

-- the moments with their states, the boxes by id with what they were made with, and the units of work done
pub record LineView : Type 0 where
  pub pasts : Pasts
  pub makes : ById Make
  pub work : ℕ

abbrev pub entry_code : Coded Entry
entry_code =
    code_by (ℕ × (Change × Reply)) (coded× coded_ℕ (coded× change.the_row.coded reply.the_row.coded)) (λ e. (e.serial, (e.change, e.reply)))
    (λ p. record { serial = p.0; change = p.1.0; reply = p.1.1 }) (λ _. refl)

abbrev pub past_code : Coded Past
past_code =
    code_by (ℕ × (Option ℕ × (List Entry × State))) (coded× coded_ℕ (coded× (coded_option coded_ℕ) (coded× (coded_list entry_code) state_code)))
    (λ m. (m.serial, (m.out, (m.force, m.state)))) (λ p. record { serial = p.0; out = p.1.0; force = p.1.1.0; state = p.1.1.1 }) (λ _. refl)

abbrev pub pasts_code : Coded Pasts
pasts_code =
    code_by (State × (List Past × List Past)) (coded× state_code (coded× (coded_list past_code) (coded_list past_code)))
    (λ p. (p.base, (p.moments, p.undone))) (λ p. record { base = p.0; moments = p.1.0; undone = p.1.1 }) (λ _. refl)

abbrev pub line_code : Coded LineView
line_code =
    code_by (Pasts × (ById Make × ℕ)) (coded× pasts_code (coded× (map.code coded_ℕ make.the_row.coded) coded_ℕ)) (λ v. (v.pasts, (v.makes, v.work)))
    (λ p. record { pasts = p.0; makes = p.1.0; work = p.1.1 }) (λ _. refl)
