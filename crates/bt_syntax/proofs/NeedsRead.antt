-- A line needs a map just when it is a well-formed `map create` with good attributes.
use Rattle.std.proofs.Common.{◌≡◌, ℕ, ◌≤◌, true, false, cond, List, [], ◌∷◌, length, refl, sym, ◌∙◌, ap, subst, Option, Some, None, Result, Ok, Err}
use Rattle.std.specs.Prelude.{codes, nat_lt, unwrap_or, IfOk, IfSome}
use Rattle.std.specs.Option.{option_map, option_and_then}
use Rattle.std.proofs.lemmas.Bool.{le-ltb, ltb-false}
use Rattle.bt_mapkind.specs.Attributes.{good}
use Rattle.bt_mapkind.specs.declared.attr.MapAttr.{MapAttr}
use Rattle.console_operand.specs.Word.{words}
use Rattle.console_operand.specs.Automaton.{outcome, read}
use Rattle.console_map_syntax.specs.MapGrammar.{SpellsMap, updated}
use Rattle.console_map_syntax.specs.MapGrammar as mg
use Rattle.console_map_syntax.specs.CreateSteps.{create_step, create_finish}
use Rattle.console_map_syntax.specs.MapSteps.{map_step, map_finish}
use Rattle.bt_syntax.specs.Grammar.{Spells}
use Rattle.bt_syntax.specs.Grammar as g
use Rattle.bt_syntax.specs.Steps.{step, finish, told, words_read, Answers}
use Rattle.console_map_syntax.specs.Made.{map_made}
use Rattle.bt_syntax.specs.Needs.{MakesNoMap, made_by, need_in, need_of, Makes}
use Rattle.console_map_syntax.specs.declared.command.MapCommand.{MapCommand}
use Rattle.console_map_syntax.specs.declared.command.MapCommand.TheVariants as m
use Rattle.console_map_syntax.specs.declared.command.UpdateFlag.TheVariants as fl
use Rattle.console_map_syntax.specs.declared.create.CreateState.TheVariants as cs
use Rattle.console_map_syntax.specs.declared.state.MapState.TheVariants as ms
use Rattle.console_map_syntax.specs.declared.update.Updating.{Updating}
use Rattle.bt_syntax.specs.declared.command.Command.{Command}
use Rattle.bt_syntax.specs.declared.command.Command.TheVariants as c
use Rattle.bt_syntax.specs.declared.command.State.TheVariants as s
use Rattle.bt_syntax.specs.declared.fault.SyntaxFault.{SyntaxFault}
use Rattle.bt_syntax.specs.declared.fault.SyntaxFault.TheVariants as fault
use Rattle.bt_syntax.proofs.Least.{found, nothing}
use Rattle.console_map_syntax.proofs.MapRead.{of_create}
use Rattle.bt_syntax.proofs.LineRead.{told_command, told_only, read_is_spelled, refused_at, of_map}
use Rattle.console_operand.proofs.Reading.{map_some}

pub itself : (r : Result (Option Command) SyntaxFault) → Answers r r
itself (Ok x) = refl
itself (Err fault.NoMemory) = tt
itself (Err fault.TooLong) = refl
itself (Err (fault.At k)) = refl

-- what words come to is no lack of memory
told_is : (o : Result (Option Command) ℕ) (answer : Result (Option Command) SyntaxFault) → Answers (told o) answer → told o ≡ answer
told_is (Ok x) answer h = h
told_is (Err k) answer h = h

made_is : (line : List ℕ) (attr : MapAttr) (command : Command) → length line ≤ 131072 → Spells (words line) command → made_by command ≡ Some attr → Makes line attr
made_is line attr (c.Map (m.Create path given name inner)) limit spelled h =
    elim (good given) as (λ b. good given ≡ b → cond b (Some given) None ≡ Some attr → Makes line attr) [
      | true ↦ λ e same.
          let is : given ≡ attr = cc in
          record {
            path = path;
            name = name;
            inner = inner;
            limit = limit;
            spelled = subst (λ a. Spells (words line) (c.Map (m.Create path a name inner))) is spelled;
            limits = subst (λ a. good a ≡ true) is e;
          }
      | false ↦ λ _ same. cc
    ] refl h
made_is line attr (c.Map (m.Update map key value flag)) limit spelled h = cc
made_is line attr (c.Map (m.Show map)) limit spelled h = cc
made_is line attr (c.Map (m.Dump map)) limit spelled h = cc
made_is line attr (c.Map (m.Lookup map key)) limit spelled h = cc
made_is line attr (c.Map (m.GetNext map key)) limit spelled h = cc
made_is line attr (c.Map (m.Delete map key)) limit spelled h = cc
made_is line attr (c.Map (m.Peek map)) limit spelled h = cc
made_is line attr (c.Map (m.Push map value)) limit spelled h = cc
made_is line attr (c.Map (m.Pop map)) limit spelled h = cc
made_is line attr (c.Map (m.Freeze map)) limit spelled h = cc
made_is line attr (c.Map (m.Pin map path)) limit spelled h = cc
made_is line attr (c.Prog command) limit spelled h = cc
made_is line attr (c.Net command) limit spelled h = cc
made_is line attr (c.Batch path) limit spelled h = cc
made_is line attr (c.Unpin path) limit spelled h = cc
made_is line attr (c.Frame it) limit spelled h = cc
made_is line attr (c.Run command) limit spelled h = cc
made_is line attr (c.Journal command) limit spelled h = cc

found_makes : (line : List ℕ) (attr : MapAttr) (r : Result (Option Command) SyntaxFault) → length line ≤ 131072 → IfOk r (λ x. IfSome x (Spells (words line))) → need_in r ≡ Some attr → Makes line attr
found_makes line attr (Ok None) limit spelled h = cc
found_makes line attr (Ok (Some command)) limit spelled h = made_is line attr command limit spelled h
found_makes line attr (Err e) limit spelled h = cc

pub needs_makes : (line : List ℕ) (attr : MapAttr) → need_of line ≡ Some attr → Makes line attr
needs_makes line attr h =
    elim (nat_lt 131072 (length line)) as (λ b. nat_lt 131072 (length line) ≡ b → need_in (cond b (Err fault.TooLong) (words_read (words line))) ≡ Some attr → Makes line attr) [
      | true ↦ λ _ none. cc
      | false ↦ λ e found.
          found_makes line attr (words_read (words line)) (ltb-false 131072 (length line) e) (told_command (words_read (words line)) (words line) (itself (words_read (words line)))) found
    ] refl h

pub makes_needs : (line : List ℕ) (attr : MapAttr) → Makes line attr → need_of line ≡ Some attr
makes_needs line attr it =
    let command : Command = c.Map (m.Create it.path attr it.name it.inner) in
    let is : words_read (words line) ≡ Ok (Some command) =
    told_is (outcome step finish s.Start 0 (words line)) (Ok (Some command)) (told_only (words_read (words line)) (words line) (itself (words_read (words line))) command it.spelled) in
    ap (λ b. need_in (cond b (Err fault.TooLong) (words_read (words line)))) (le-ltb 131072 (length line) it.limit)
    ∙ ap need_in is
    ∙ ap (λ b. cond b (Some attr) None) it.limits

-- what a line makes is what its words come to
need_is : (o : Result (Option Command) ℕ) (words : List (List ℕ)) → outcome step finish s.Start 0 words ≡ o → need_in (told o) ≡ option_and_then made_by (read step finish s.Start words)
need_is (Ok None) words e =
    let none : [] ≡ words = sym ((nothing step finish s.Start 0 words e).1) in
    subst (λ w. None ≡ option_and_then made_by (read step finish s.Start w)) none refl
need_is (Ok (Some command)) words e = sym (ap (option_and_then made_by) (found step finish s.Start 0 words command e))
need_is (Err k) words e = sym (ap (option_and_then made_by) (refused_at words k e))

pub need_read : (line : List ℕ) → length line ≤ 131072 → need_of line ≡ option_and_then made_by (read step finish s.Start (words line))
need_read line limit =
    ap (λ b. need_in (cond b (Err fault.TooLong) (words_read (words line)))) (le-ltb 131072 (length line) limit)
    ∙ need_is (outcome step finish s.Start 0 (words line)) (words line) refl

-- only `create` makes a map
update_makes_none : (u : Updating) (command : MapCommand) → updated u ≡ Some command → map_made command ≡ None
update_makes_none u command h = map_some u.value (λ value. m.Update u.map u.key value (unwrap_or u.flag fl.Any)) command (λ value _ is. subst (λ x. map_made x ≡ None) is refl) h

created_first : {words : List (List ℕ)} {command : MapCommand} (attr : MapAttr) → SpellsMap words command → map_made command ≡ Some attr → (tail : List (List ℕ)) × (words ≡ codes "create" ∷ tail)
created_first attr (mg.create {path} {words} all done) made = (path ∷ words, refl)
created_first attr (mg.update {u = u} {command} it given done) made = let none = update_makes_none u command done in cc
created_first attr mg.show_all made = cc
created_first attr mg.list_all made = cc
created_first attr (mg.show it) made = cc
created_first attr (mg.list it) made = cc
created_first attr (mg.dump it) made = cc
created_first attr (mg.lookup it) made = cc
created_first attr (mg.lookup_key it given) made = cc
created_first attr (mg.getnext it) made = cc
created_first attr (mg.getnext_key it given) made = cc
created_first attr (mg.delete it given) made = cc
created_first attr (mg.peek it) made = cc
created_first attr (mg.push it given) made = cc
created_first attr (mg.enqueue it given) made = cc
created_first attr (mg.pop it) made = cc
created_first attr (mg.dequeue it) made = cc
created_first attr (mg.freeze it) made = cc
created_first attr (mg.pin it) made = cc

made_first : {words : List (List ℕ)} {command : Command} (attr : MapAttr) → Spells words command → made_by command ≡ Some attr →
    (tail : List (List ℕ)) × (words ≡ codes "map" ∷ codes "create" ∷ tail)
made_first attr (g.map it) made = let (tail, is) = created_first attr it made in (tail, ap (λ ws. codes "map" ∷ ws) is)
made_first attr (g.prog it) made = cc
made_first attr (g.net it) made = cc
made_first attr g.batch made = cc
made_first attr g.unpin made = cc
made_first attr (g.frame it) made = cc
made_first attr (g.run it) made = cc
made_first attr (g.journal it) made = cc

pub none_made : (words : List (List ℕ)) → MakesNoMap words → option_and_then made_by (read step finish s.Start words) ≡ None
none_made words other =
    elim (read step finish s.Start words) as (λ o. read step finish s.Start words ≡ o → option_and_then made_by o ≡ None) [
      | None ↦ λ _. refl
      | Some command ↦ λ e. by_made command e (made_by command) refl
    ] refl
  where
    by_made : (command : Command) → read step finish s.Start words ≡ Some command → (o : Option MapAttr) → made_by command ≡ o → made_by command ≡ None
    by_made command e None none = none
    by_made command e (Some attr) made = let (tail, is) = made_first attr (read_is_spelled words command e) made in absurd (other tail is)

made_within : (o : Option MapCommand) → option_and_then made_by (option_map c.Map o) ≡ option_and_then map_made o
made_within None = refl
made_within (Some command) = refl

-- what comes after `map create` makes it
pub create_made : (words : List (List ℕ)) → option_and_then made_by (read step finish s.Start (codes "map" ∷ codes "create" ∷ words)) ≡ option_and_then map_made (read create_step create_finish cs.Path words)
create_made words =
    ap (option_and_then made_by) (of_map (ms.Create cs.Path) words)
    ∙ made_within (read map_step map_finish (ms.Create cs.Path) words)
    ∙ ap (option_and_then map_made) (of_create cs.Path words)

-- the need of a line that begins with these words
pub need_create : (line : List ℕ) (rest : List (List ℕ)) → length line ≤ 131072 → words line ≡ codes "map" ∷ codes "create" ∷ rest →
    need_of line ≡ option_and_then map_made (read create_step create_finish cs.Path rest)
need_create line rest limit are = need_read line limit ∙ ap (λ ws. option_and_then made_by (read step finish s.Start ws)) are ∙ create_made rest

-- and of one that does not
pub need_other : (line : List ℕ) → length line ≤ 131072 → MakesNoMap (words line) → need_of line ≡ None
need_other line limit other = need_read line limit ∙ none_made (words line) other
