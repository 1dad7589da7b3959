-- `map update`: what is spelled is read, what is read is spelled, and each state can be gone on with.
use Rattle.std.proofs.Common.{◌≡◌, ℕ, ◌≤◌, cond, List, [], ◌∷◌, ◌++◌, length, refl, sym, ◌∙◌, ap, subst, arith, zero, suc, Option, Some, None, IsSome}
use Rattle.std.specs.Prelude.{codes, is_some}
use Rattle.std.specs.Option.{option_map, option_and_then}
use Rattle.console_operand.specs.Word.{spelled_by}
use Rattle.console_operand.specs.Automaton.{read, Leads}
use Rattle.console_operand.specs.DataSteps.{no_data, data_step, data_finish}
use Rattle.console_operand.specs.ValueSteps.{value_step, value_finish}
use Rattle.console_operand.specs.Reference.{IsReference}
use Rattle.console_map_syntax.specs.MapGrammar.{flag_word, with_key, with_value, with_flag, ungiven, updated, Gives, none, key, value, flag}
use Rattle.console_map_syntax.specs.UpdateSteps.{update_word, update_words, given_step, fields_step, behind, at, going_step, named_update, update_step, update_finish}
use Rattle.console_operand.specs.declared.data_words.Data.{Data}
use Rattle.console_operand.specs.declared.reference.Reference.{Reference}
use Rattle.console_operand.specs.declared.reference.Form.TheVariants as form
use Rattle.console_operand.specs.declared.reference.Naming.TheVariants as n
use Rattle.console_operand.specs.declared.value.Value.{Value}
use Rattle.console_operand.specs.declared.value.ValueState.{ValueState}
use Rattle.console_operand.specs.declared.value.ValueState.TheVariants.{First}
use Rattle.console_map_syntax.specs.declared.command.MapCommand.{MapCommand}
use Rattle.console_map_syntax.specs.declared.command.UpdateFlag.{UpdateFlag}
use Rattle.console_map_syntax.specs.declared.command.UpdateFlag.TheVariants as fl
use Rattle.console_map_syntax.specs.declared.update.UpdateWord.{UpdateWord}
use Rattle.console_map_syntax.specs.declared.update.UpdateWord.TheVariants as u
use Rattle.console_map_syntax.specs.declared.update.Updating.{Updating}
use Rattle.console_map_syntax.specs.declared.update.UpdatePart.{UpdatePart}
use Rattle.console_map_syntax.specs.declared.update.UpdatePart.TheVariants as part
use Rattle.console_map_syntax.specs.declared.update.UpdateState.{UpdateState}
use Rattle.console_map_syntax.specs.declared.update.UpdateState.TheVariants as update
use Rattle.console_operand.proofs.Reading.{spelled_is, gone_on_where}
use Rattle.console_operand.proofs.PartRead.{reads_behind, part_read, part_spelled, behind_fits}
use Rattle.console_operand.proofs.DataRead.{EndsData, data_leads, leads_data, word_ends, word_over, data_end, data_completes}
use Rattle.console_operand.proofs.ValueRead.{value_leads, leads_value, words_over, value_end, value_completes}
use Rattle.console_operand.proofs.ReferenceRead.{Refers, reference_read, reference_spelled, naming_end}

-- what is given, with a key or a value that is being read
abbrev given_at : Updating → UpdateState
given_at x = at x part.Nothing

abbrev at_key : Updating → Data → UpdateState
at_key x d = at x (part.Key d)

abbrev at_value : Updating → ValueState → UpdateState
at_value x s = at x (part.Value s)

mapped : {A B C : Type 0} (f : A → B) (next : B → Option C) (o : Option A) → option_and_then next (option_map f o) ≡ option_and_then (λ a. next (f a)) o
mapped f next None = refl
mapped f next (Some a) = refl

abbrev reads : UpdateState → List (List ℕ) → Option MapCommand
reads state words = read update_step update_finish state words

-- none of these words is a byte
pub update_word_ends : (it : UpdateWord) (d : Data) → data_step d (update_word it) ≡ None
update_word_ends u.Key d = word_ends d (codes "key") refl refl refl
update_word_ends u.Value d = word_ends d (codes "value") refl refl refl
update_word_ends (u.Flag fl.Any) d = word_ends d (codes "any") refl refl refl
update_word_ends (u.Flag fl.Exist) d = word_ends d (codes "exist") refl refl refl
update_word_ends (u.Flag fl.NoExist) d = word_ends d (codes "noexist") refl refl refl

gives_ends : {words : List (List ℕ)} {x y : Updating} → Gives words x y → EndsData words
gives_ends none = tt
gives_ends (key free given more) = update_word_ends u.Key
gives_ends (value free given more) = update_word_ends u.Value
gives_ends (flag it free more) = update_word_ends (u.Flag it)

flag_spelled : (it : UpdateFlag) → spelled_by update_word update_words (flag_word it) ≡ Some (u.Flag it)
flag_spelled fl.Any = refl
flag_spelled fl.Exist = refl
flag_spelled fl.NoExist = refl

-- what may come after a key, and after a value
abbrev behind_key : Updating → List ℕ → List ℕ → Option UpdateState
behind_key x bytes word = fields_step (with_key x bytes) word

abbrev ended_key : Updating → List ℕ → Option MapCommand
ended_key x bytes = updated (with_key x bytes)

abbrev behind_value : Updating → Value (List ℕ) → List ℕ → Option UpdateState
behind_value x it word = fields_step (with_value x it) word

abbrev ended_value : Updating → Value (List ℕ) → Option MapCommand
ended_value x it = updated (with_value x it)

as_key : (x : Updating) (bytes : List ℕ) (rest : List (List ℕ)) →
    reads_behind data_step data_finish update_step update_finish (behind_key x) (ended_key x) bytes rest ≡ reads (given_at (with_key x bytes)) rest
as_key x bytes [] = refl
as_key x bytes (word ∷ rest) = refl

as_value : (x : Updating) (it : Value (List ℕ)) (rest : List (List ℕ)) →
    reads_behind value_step value_finish update_step update_finish (behind_value x) (ended_value x) it rest ≡ reads (given_at (with_value x it)) rest
as_value x it [] = refl
as_value x it (word ∷ rest) = refl

-- words that lead through a key are read, and so are those that lead through a value
through_key : (x : Updating) (words rest : List (List ℕ)) (d end : Data) (bytes : List ℕ) → Leads data_step d words end → data_finish end ≡ Some bytes → EndsData rest →
    reads (at_key x d) (words ++ rest) ≡ reads (given_at (with_key x bytes)) rest
through_key x words rest d end bytes leads is ends =
    part_read data_step data_finish update_step update_finish (behind_key x) (ended_key x) (at_key x) (λ d more w e. ap (λ o. going_step (behind x (part.Key d)) w (option_map part.Key o)) e)
    (λ d w e. ap (λ o. going_step (behind x (part.Key d)) w (option_map part.Key o)) e ∙ mapped (with_key x) (λ u. fields_step u w) (data_finish d)) (λ d. mapped (with_key x) updated (data_finish d)) words rest d end bytes leads is (word_over end rest ends)
    ∙ as_key x bytes rest

through_value : (x : Updating) (words rest : List (List ℕ)) (s end : ValueState) (it : Value (List ℕ)) → Leads value_step s words end → value_finish end ≡ Some it → EndsData rest →
    reads (at_value x s) (words ++ rest) ≡ reads (given_at (with_value x it)) rest
through_value x words rest s end it leads is ends =
    part_read value_step value_finish update_step update_finish (behind_value x) (ended_value x) (at_value x) (λ s more w e. ap (λ o. going_step (behind x (part.Value s)) w (option_map part.Value o)) e)
    (λ s w e. ap (λ o. going_step (behind x (part.Value s)) w (option_map part.Value o)) e ∙ mapped (with_value x) (λ u. fields_step u w) (value_finish s)) (λ s. mapped (with_value x) updated (value_finish s)) words rest s end it leads is (words_over end it rest is ends)
    ∙ as_value x it rest

-- what is given is read
gives_read : {words : List (List ℕ)} {x y : Updating} → Gives words x y → reads (given_at x) words ≡ updated y
gives_read none = refl
gives_read {x = x} (key {words} {rest} {bytes} free given more) =
    let (end, leads, is) = data_leads given in
    ap (λ o. option_and_then (λ next. reads next (words ++ rest)) (cond (is_some o) None (Some (at_key x no_data)))) free
    ∙ through_key x words rest no_data end bytes leads is (gives_ends more)
    ∙ gives_read more
gives_read {x = x} (value {words} {rest} {it} free given more) =
    let (end, leads, is) = value_leads given in
    ap (λ o. option_and_then (λ next. reads next (words ++ rest)) (cond (is_some o) None (Some (at_value x First)))) free
    ∙ through_value x words rest First end it leads is (gives_ends more)
    ∙ gives_read more
gives_read {x = x} (flag {rest} it free more) =
    ap (λ o. option_and_then (λ next. reads next rest) (option_and_then (given_step x) o)) (flag_spelled it)
    ∙ ap (λ o. option_and_then (λ next. reads next rest) (cond (is_some o) None (Some (given_at (with_flag x it))))) free
    ∙ gives_read more

pub update_read : {name words : List (List ℕ)} {map : Reference (List ℕ)} {x : Updating} {command : MapCommand} → IsReference name map → Gives words (ungiven map) x →
    updated x ≡ Some command → reads (update.Map n.Form) (name ++ words) ≡ Some command
update_read {words = words} name given done = reference_read update_step update_finish named_update (λ naming w. refl) name words ∙ gives_read given ∙ done

abbrev Given : Updating → List (List ℕ) → MapCommand → Type 0
Given x words command = (y : Updating) × Gives words x y × (updated y ≡ Some command)

-- what is read after no more words than these is given
abbrev Deeper : List (List ℕ) → Type 0
Deeper words = (rest : List (List ℕ)) → length rest ≤ length words → (x : Updating) (command : MapCommand) → reads (given_at x) rest ≡ Some command → Given x rest command

key_given : (words : List (List ℕ)) → Deeper words → (x : Updating) (command : MapCommand) → x.key ≡ None → reads (at_key x no_data) words ≡ Some command → Given x (codes "key" ∷ words) command
key_given words deeper x command free h =
    let it = part_spelled data_step data_finish update_step update_finish (behind_key x) (ended_key x) (at_key x) (λ d more w e. ap (λ o. going_step (behind x (part.Key d)) w (option_map part.Key o)) e)
    (λ d w e. ap (λ o. going_step (behind x (part.Key d)) w (option_map part.Key o)) e ∙ mapped (with_key x) (λ u. fields_step u w) (data_finish d)) (λ d. mapped (with_key x) updated (data_finish d)) words no_data command h in
    let (y, given, done) = deeper it.rest (behind_fits words it.front it.rest it.cut) (with_key x it.value) command (sym (as_key x it.value it.rest) ∙ it.behind) in
    (y, subst (λ all. Gives (codes "key" ∷ all) x y) (sym it.cut) (key {v = y} free (leads_data it.front it.end it.value it.leads it.is) given), done)

value_given : (words : List (List ℕ)) → Deeper words → (x : Updating) (command : MapCommand) → x.value ≡ None → reads (at_value x First) words ≡ Some command →
    Given x (codes "value" ∷ words) command
value_given words deeper x command free h =
    let it = part_spelled value_step value_finish update_step update_finish (behind_value x) (ended_value x) (at_value x) (λ s more w e. ap (λ o. going_step (behind x (part.Value s)) w (option_map part.Value o)) e)
    (λ s w e. ap (λ o. going_step (behind x (part.Value s)) w (option_map part.Value o)) e ∙ mapped (with_value x) (λ u. fields_step u w) (value_finish s)) (λ s. mapped (with_value x) updated (value_finish s)) words First command h in
    let (y, given, done) = deeper it.rest (behind_fits words it.front it.rest it.cut) (with_value x it.value) command (sym (as_value x it.value it.rest) ∙ it.behind) in
    (y, subst (λ all. Gives (codes "value" ∷ all) x y) (sym it.cut) (value {v = y} free (leads_value it.front it.end it.value it.leads it.is) given), done)

-- a word that may come
word_given : (words : List (List ℕ)) → Deeper words → (x : Updating) (it : UpdateWord) (command : MapCommand) → option_and_then (λ next. reads next words) (given_step x it) ≡ Some command →
    Given x (update_word it ∷ words) command
word_given words deeper x u.Key command h =
    elim x.key as (λ o. x.key ≡ o → option_and_then (λ next. reads next words) (cond (is_some o) None (Some (at_key x no_data))) ≡ Some command →
    Given x (codes "key" ∷ words) command) [
      | None ↦ λ free e. key_given words deeper x command free e
      | Some _ ↦ λ _ e. cc
    ] refl h
word_given words deeper x u.Value command h =
    elim x.value as (λ o. x.value ≡ o → option_and_then (λ next. reads next words) (cond (is_some o) None (Some (at_value x First))) ≡ Some command →
    Given x (codes "value" ∷ words) command) [
      | None ↦ λ free e. value_given words deeper x command free e
      | Some _ ↦ λ _ e. cc
    ] refl h
word_given words deeper x (u.Flag it) command h =
    elim x.flag as (λ o. x.flag ≡ o → option_and_then (λ next. reads next words) (cond (is_some o) None (Some (given_at (with_flag x it)))) ≡ Some command →
    Given x (flag_word it ∷ words) command) [
      | None ↦ λ free e. let (y, given, done) = deeper words (omega arith) (with_flag x it) command e in (y, flag it free given, done)
      | Some _ ↦ λ _ e. cc
    ] refl h

-- what is read is given
given_spelled : (n : ℕ) (words : List (List ℕ)) → length words ≤ n → (x : Updating) (command : MapCommand) → reads (given_at x) words ≡ Some command → Given x words command
given_spelled n [] fits x command h = (x, none, h)
given_spelled zero (word ∷ words) fits x command h = absurd (omega (arith, fits))
given_spelled (suc n) (word ∷ words) fits x command h =
    gone_on_where (spelled_by update_word update_words word) (given_step x) (λ next. reads next words) command (λ it at e.
    subst (λ first. Given x (first ∷ words) command) (sym (spelled_is update_word update_words word it at))
    (word_given words (λ rest short. given_spelled n rest (omega (arith, short, fits))) x it command e)) h

pub update_spelled : (words : List (List ℕ)) (command : MapCommand) → reads (update.Map n.Form) words ≡ Some command →
    Refers words (λ map rest. Given (ungiven map) rest command)
update_spelled words command h =
    let it = reference_spelled update_step update_finish named_update (λ naming w. refl) (λ naming. refl) words command h in
    record { name = it.name; rest = it.rest; map = it.map; cut = it.cut; is = it.is; behind = given_spelled (length it.rest) it.rest (omega arith) (ungiven it.map) command it.behind }

abbrev given_end : Updating → List (List ℕ)
given_end x = cond (is_some x.value) [] (codes "value" ∷ codes "0" ∷ [])

abbrev behind_end : Updating → UpdatePart → List (List ℕ)
behind_end x part.Nothing = given_end x
behind_end x (part.Key d) = data_end d.bytes ++ given_end x
behind_end x (part.Value s) = value_end s ++ []

abbrev pub update_end : UpdateState → List (List ℕ)
update_end (update.Map naming) = naming_end naming ++ codes "value" ∷ codes "0" ∷ []
update_end (update.Given g) = behind_end g.given g.part

given_ends : (map : Reference (List ℕ)) (keyed : Option (List ℕ)) (given : Option (Value (List ℕ))) (it : Option UpdateFlag) →
    let x : Updating = record { map = map; key = keyed; value = given; flag = it } in
    EndsData (given_end x) × IsSome (reads (given_at x) (given_end x))
given_ends map keyed None it = (update_word_ends u.Value, refl)
given_ends map keyed (Some given) it = (tt, refl)

behind_ends : (x : Updating) (p : UpdatePart) → IsSome (reads (at x p) (behind_end x p))
behind_ends x part.Nothing = (given_ends x.map x.key x.value x.flag).1
behind_ends x (part.Key d) =
    let (end, bytes, leads, is) = data_completes d in
    let (stops, ends) = given_ends x.map (Some bytes) x.value x.flag in
    subst (λ o. IsSome o) (sym (through_key x (data_end d.bytes) (given_end x) d end bytes leads is stops)) ends
behind_ends x (part.Value s) =
    let (end, it, leads, is) = value_completes s in
    subst (λ o. IsSome o) (sym (through_value x (value_end s) [] s end it leads is tt)) refl

pub update_ends : (state : UpdateState) → IsSome (reads state (update_end state))
update_ends (update.Map n.Form) = refl
update_ends (update.Map (n.Object form.Id)) = refl
update_ends (update.Map (n.Object form.Pinned)) = refl
update_ends (update.Map (n.Object form.Name)) = refl
update_ends (update.Given g) = behind_ends g.given g.part
