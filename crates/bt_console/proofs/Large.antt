-- A map whose box was not made, for the budget leaves too little for it.
use Rattle.std.proofs.Common.{◌≡◌, ℕ, Bool, true, false, if◌then◌else◌, List, refl, sym, ◌∙◌, ap, Option, Some, None, Result, Ok, Err}
use Rattle.bt_mapkind.specs.declared.attr.MapAttr.{MapAttr}
use Rattle.bt_mapkind.specs.Attributes.{good}
use Rattle.host_state.specs.declared.change.Change.TheVariants.{Create}
use Rattle.host_state.specs.declared.reply.Refusal.{Refusal}
use Rattle.journal_model.specs.Blank.{Blank}
use Rattle.journal_model.specs.Book.{PlainBook, refusal_of, recorded_unless, done_as}
use Rattle.console_operand.specs.declared.reference.Reference.{Reference}
use Rattle.console_map_syntax.specs.declared.command.MapCommand.TheVariants as m
use Rattle.bt_syntax.specs.Needs.{made_by}
use Rattle.bt_syntax.specs.declared.command.Command.{Command}
use Rattle.bt_syntax.specs.declared.command.Command.TheVariants as c
use Rattle.console_answer.specs.Answers.{change_answer}
use Rattle.console_answer.specs.declared.answer.Answer.{Answer}
use Rattle.console_answer.specs.declared.fault.Fault.{Fault}
use Rattle.console_reference.specs.References.{template_named, ToldUnlessRefused}
use Rattle.bt_console.specs.Commands.{making, changed, recorded_if, map_done, DoneUnlessRefused, CommandGoes}
use Rattle.bt_console.specs.Frames.{Console, on_book}
use Rattle.bt_console.specs.Supply.{unmade}
use Rattle.bt_console.proofs.Commanded.{command_of, done_found}

-- the attributes of the map that a command makes are its own
made_attr : (is_good : Bool) (own attr : MapAttr) → (if is_good then Some own else None) ≡ Some attr → own ≡ attr
made_attr true own attr made = cc
made_attr false own attr made = absurd (cc)

module _ (path : List ℕ) (attr : MapAttr) (name : List ℕ) (inner : Option (Reference (List ℕ))) (charge : ℕ) where
  abbrev large : Option Blank
  large = Some (unmade attr charge)

  -- what is done once the template was looked up
  abbrev does : PlainBook → Result (Option ℕ) Fault → PlainBook × Answer
  does b template = recorded_if b (making path attr name template) large

  pub refused_large : (b same_b : PlainBook) (template : Option ℕ) (refusal : Refusal) → same_b ≡ b → ToldUnlessRefused (template_named b inner) (Ok template) →
      Some refusal ≡ refusal_of same_b (Create 0 attr 0 name path template) large → DoneUnlessRefused b (map_done b (m.Create path attr name inner) large) (same_b, change_answer (Err refusal))
  refused_large b same_b template refusal same told is =
      done_found does b same_b (template_named b inner) template (same_b, change_answer (Err refusal)) same told
      (false, ap (λ why. changed (recorded_unless why same_b (done_as same_b (Create 0 attr 0 name path template) large))) is)

  pub large_goes : (s : Console) (command : Command) (own : MapAttr) (made : PlainBook × Answer) → command ≡ c.Map (m.Create path own name inner) → made_by command ≡ Some attr →
      DoneUnlessRefused s.book (map_done s.book (m.Create path attr name inner) large) made → CommandGoes s command large (on_book s made)
  large_goes s command own made is some done =
      command_of s command (c.Map (m.Create path attr name inner)) large (map_done s.book (m.Create path attr name inner) large) made
      (is ∙ ap (λ it. c.Map (m.Create path it name inner)) (made_attr (good own) own attr (sym (ap made_by is) ∙ some))) tt tt refl refl done
