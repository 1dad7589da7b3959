-- `map create`: what is spelled is read, what is read is spelled, and each state can be gone on with.
use Rattle.std.proofs.Common.{◌≡◌, ℕ, ◌≤◌, true, false, cond, List, [], ◌∷◌, ◌++◌, length, refl, sym, ◌∙◌, ap, subst, arith, zero, suc, Option, Some, None, IsSome}
use Rattle.std.specs.Prelude.{codes, is_some}
use Rattle.std.specs.Option.{option_map, option_and_then}
use Rattle.bt_mapkind.specs.declared.attr.MapType.{MapType}
use Rattle.bt_mapkind.specs.declared.attr.MapType.TheVariants as type
use Rattle.console_operand.specs.Word.{spelled_by}
use Rattle.console_operand.specs.Automaton.{read}
use Rattle.console_map_syntax.specs.MapGrammar.{setting_word, is_set, set_to, with_inner, unset, created, Settings, none, setting, inner}
use Rattle.console_map_syntax.specs.CreateSteps.{create_word, create_words, setting_step, named_inner, create_step, create_finish}
use Rattle.console_operand.specs.declared.reference.Reference.{Reference}
use Rattle.console_operand.specs.declared.reference.Reference.TheVariants.{Id, Pinned, Named}
use Rattle.console_operand.specs.declared.reference.Form.TheVariants as form
use Rattle.console_operand.specs.declared.reference.Naming.TheVariants as n
use Rattle.console_map_syntax.specs.declared.command.MapCommand.{MapCommand}
use Rattle.console_map_syntax.specs.declared.create.Setting.{Setting}
use Rattle.console_map_syntax.specs.declared.create.Setting.TheVariants as s
use Rattle.console_map_syntax.specs.declared.create.CreateWord.{CreateWord}
use Rattle.console_map_syntax.specs.declared.create.CreateWord.TheVariants as w
use Rattle.console_map_syntax.specs.declared.create.Creating.{Creating}
use Rattle.console_map_syntax.specs.declared.create.CreateState.{CreateState}
use Rattle.console_map_syntax.specs.declared.create.CreateState.TheVariants as create
use Rattle.console_operand.proofs.Reading.{spelled_is, gone_on_by, gone_on_where}
use Rattle.console_operand.proofs.PartRead.{behind_fits}
use Rattle.console_operand.proofs.ReferenceRead.{reference_read, reference_spelled, naming_end}

abbrev reads : CreateState → List (List ℕ) → Option MapCommand
reads state words = read create_step create_finish state words

word_spelled : (it : CreateWord) → spelled_by create_word create_words (create_word it) ≡ Some it
word_spelled (w.Setting s.Type) = refl
word_spelled (w.Setting s.Key) = refl
word_spelled (w.Setting s.Value) = refl
word_spelled (w.Setting s.Entries) = refl
word_spelled (w.Setting s.Name) = refl
word_spelled (w.Setting s.Flags) = refl
word_spelled w.InnerMap = refl

-- settings that are spelled are read
settings_read : {words : List (List ℕ)} {u v : Creating} → Settings words u v → reads (create.Settings u) words ≡ created v
settings_read none = refl
settings_read {u = u} (setting {word} {rest} it free set more) =
    ap (λ o. option_and_then (λ next. reads next (word ∷ rest)) (option_and_then (setting_step u) o)) (word_spelled (w.Setting it))
    ∙ ap (λ b. option_and_then (λ next. reads next (word ∷ rest)) (cond b None (Some (create.Value u it)))) free
    ∙ ap (λ o. option_and_then (λ next. reads next rest) (option_map create.Settings o)) set
    ∙ settings_read more
settings_read {u = u} (inner {name} {rest} {map} free it more) =
    ap (λ o. option_and_then (λ next. reads next (name ++ rest)) (cond (is_some o) None (Some (create.InnerMap u n.Form)))) free
    ∙ reference_read create_step create_finish (named_inner u) (λ naming w. refl) it rest
    ∙ settings_read more

pub create_read : {words : List (List ℕ)} {path : List ℕ} {u : Creating} {command : MapCommand} → Settings words (unset path) u → created u ≡ Some command →
    reads create.Path (path ∷ words) ≡ Some command
create_read all done = settings_read all ∙ done

abbrev SetTo : Creating → List (List ℕ) → MapCommand → Type 0
SetTo u words command = (v : Creating) × Settings words u v × (created v ≡ Some command)

-- what is read after fewer words than these is set
abbrev Deeper : List (List ℕ) → Type 0
Deeper words = (rest : List (List ℕ)) → length rest ≤ length words → (u : Creating) (command : MapCommand) → reads (create.Settings u) rest ≡ Some command → SetTo u rest command

value_set : (words : List (List ℕ)) → Deeper words → (u : Creating) (it : Setting) (command : MapCommand) → is_set u it ≡ false → reads (create.Value u it) words ≡ Some command →
    SetTo u (setting_word it ∷ words) command
value_set [] deeper u it command free h = cc
value_set (word ∷ words) deeper u it command free h =
    gone_on_by (set_to u it word) create.Settings (λ next. reads next words) command (λ v set more.
    let (last, all, done) = deeper words (omega arith) v command more in
    (last, setting it free set all, done)) h

inner_set : (words : List (List ℕ)) → Deeper words → (u : Creating) (command : MapCommand) → u.inner_map ≡ None → reads (create.InnerMap u n.Form) words ≡ Some command →
    SetTo u (codes "inner_map" ∷ words) command
inner_set words deeper u command free h =
    let it = reference_spelled create_step create_finish (named_inner u) (λ naming w. refl) (λ naming. refl) words command h in
    let (last, all, done) = deeper it.rest (behind_fits words it.name it.rest it.cut) (with_inner u it.map) command it.behind in
    (last, subst (λ ws. Settings (codes "inner_map" ∷ ws) u last) (sym it.cut) (inner free it.is all), done)

-- a word may come if it has not
word_set : (words : List (List ℕ)) → Deeper words → (u : Creating) (it : CreateWord) (command : MapCommand) → option_and_then (λ next. reads next words) (setting_step u it) ≡ Some command →
    SetTo u (create_word it ∷ words) command
word_set words deeper u (w.Setting it) command h =
    elim (is_set u it) as (λ b. is_set u it ≡ b → option_and_then (λ next. reads next words) (cond b None (Some (create.Value u it))) ≡ Some command → SetTo u (setting_word it ∷ words) command) [
      | true ↦ λ _ e. cc
      | false ↦ λ free e. value_set words deeper u it command free e
    ] refl h
word_set words deeper u w.InnerMap command h =
    elim u.inner_map as (λ o. u.inner_map ≡ o → option_and_then (λ next. reads next words) (cond (is_some o) None (Some (create.InnerMap u n.Form))) ≡ Some command →
    SetTo u (codes "inner_map" ∷ words) command) [
      | Some _ ↦ λ _ e. cc
      | None ↦ λ free e. inner_set words deeper u command free e
    ] refl h

settings_spelled : (n : ℕ) (words : List (List ℕ)) → length words ≤ n → (u : Creating) (command : MapCommand) → reads (create.Settings u) words ≡ Some command → SetTo u words command
settings_spelled n [] fits u command h = (u, none, h)
settings_spelled zero (word ∷ words) fits u command h = absurd (omega (arith, fits))
settings_spelled (suc n) (word ∷ words) fits u command h =
    gone_on_where (spelled_by create_word create_words word) (setting_step u) (λ next. reads next words) command (λ it at e.
    subst (λ first. SetTo u (first ∷ words) command) (sym (spelled_is create_word create_words word it at))
    (word_set words (λ rest short. settings_spelled n rest (omega (arith, short, fits))) u it command e)) h

pub create_spelled : (words : List (List ℕ)) (path : List ℕ) (command : MapCommand) → reads create.Path (path ∷ words) ≡ Some command → SetTo (unset path) words command
create_spelled words path command h = settings_spelled (length words) words (omega arith) (unset path) command h

-- what is missing
abbrev unless : {A : Type 0} → Option A → List (List ℕ) → List (List ℕ)
unless None words = words
unless (Some _) words = []

abbrev settings_end : Creating → List (List ℕ)
settings_end u =
    unless u.kind (codes "type" ∷ codes "array" ∷ []) ++ (unless u.value_size (codes "value" ∷ codes "1" ∷ []) ++
    (unless u.max_entries (codes "entries" ∷ codes "1" ∷ []) ++ unless u.name (codes "name" ∷ codes "x" ∷ [])))

abbrev value_end : Creating → Setting → List (List ℕ)
value_end u s.Type = codes "array" ∷ settings_end (record u { kind = Some type.Array })
value_end u s.Key = codes "0" ∷ settings_end (record u { key_size = Some 0 })
value_end u s.Value = codes "0" ∷ settings_end (record u { value_size = Some 0 })
value_end u s.Entries = codes "0" ∷ settings_end (record u { max_entries = Some 0 })
value_end u s.Name = codes "x" ∷ settings_end (record u { name = Some (codes "x") })
value_end u s.Flags = codes "0" ∷ settings_end (record u { flags = Some 0 })

abbrev pub create_end : CreateState → List (List ℕ)
create_end create.Path = codes "x" ∷ settings_end (unset (codes "x"))
create_end (create.Settings u) = settings_end u
create_end (create.Value u it) = value_end u it
create_end (create.InnerMap u naming) = naming_end naming ++ settings_end u

all_ends : (path : List ℕ) (kind : Option MapType) (key value entries : Option ℕ) (name : Option (List ℕ)) (flags : Option ℕ) (map : Option (Reference (List ℕ))) →
    let u : Creating = record { path = path; kind = kind; key_size = key; value_size = value; max_entries = entries; name = name; flags = flags; inner_map = map } in
    IsSome (reads (create.Settings u) (settings_end u))
all_ends p (Some a) k (Some b) (Some c) (Some d) f m = refl
all_ends p None k (Some b) (Some c) (Some d) f m = refl
all_ends p (Some a) k None (Some c) (Some d) f m = refl
all_ends p None k None (Some c) (Some d) f m = refl
all_ends p (Some a) k (Some b) None (Some d) f m = refl
all_ends p None k (Some b) None (Some d) f m = refl
all_ends p (Some a) k None None (Some d) f m = refl
all_ends p None k None None (Some d) f m = refl
all_ends p (Some a) k (Some b) (Some c) None f m = refl
all_ends p None k (Some b) (Some c) None f m = refl
all_ends p (Some a) k None (Some c) None f m = refl
all_ends p None k None (Some c) None f m = refl
all_ends p (Some a) k (Some b) None None f m = refl
all_ends p None k (Some b) None None f m = refl
all_ends p (Some a) k None None None f m = refl
all_ends p None k None None None f m = refl

settings_ends : (u : Creating) → IsSome (reads (create.Settings u) (settings_end u))
settings_ends u = all_ends u.path u.kind u.key_size u.value_size u.max_entries u.name u.flags u.inner_map

value_ends : (u : Creating) (it : Setting) → IsSome (reads (create.Value u it) (value_end u it))
value_ends u s.Type = settings_ends (record u { kind = Some type.Array })
value_ends u s.Key = settings_ends (record u { key_size = Some 0 })
value_ends u s.Value = settings_ends (record u { value_size = Some 0 })
value_ends u s.Entries = settings_ends (record u { max_entries = Some 0 })
value_ends u s.Name = settings_ends (record u { name = Some (codes "x") })
value_ends u s.Flags = settings_ends (record u { flags = Some 0 })

pub create_ends : (state : CreateState) → IsSome (reads state (create_end state))
create_ends create.Path = refl
create_ends (create.Settings u) = settings_ends u
create_ends (create.Value u it) = value_ends u it
create_ends (create.InnerMap u n.Form) = settings_ends (with_inner u (Id 1))
create_ends (create.InnerMap u (n.Object form.Id)) = settings_ends (with_inner u (Id 1))
create_ends (create.InnerMap u (n.Object form.Pinned)) = settings_ends (with_inner u (Pinned (codes "1")))
create_ends (create.InnerMap u (n.Object form.Name)) = settings_ends (with_inner u (Named (codes "1")))
