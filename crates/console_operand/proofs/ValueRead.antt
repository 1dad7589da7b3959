-- VALUE: the words that are read as such are those that spell it.
use Rattle.std.proofs.Common.{◌≡◌, ◌+◌, ◌<◌, ◌≤◌, ℕ, false, List, [], ◌∷◌, ◌++◌, refl, sym, ◌∙◌, ap, subst, arith, length, Some, None}
use Rattle.std.specs.Prelude.{codes}
use Rattle.std.specs.Option.{option_map}
use Rattle.std.proofs.lemmas.List.{append-nil}
use Rattle.console_operand.specs.Automaton.{Reading, Leads, Takes}
use Rattle.console_operand.specs.Word.{spelled_by}
use Rattle.console_operand.specs.Number.{number_of, byte_of}
use Rattle.console_operand.specs.Data.{AreBytes}
use Rattle.console_operand.specs.Reference.{IsReference, id, pinned, named}
use Rattle.console_operand.specs.ReferenceSteps.{form_word, forms}
use Rattle.console_operand.specs.Value.{IsValue, bytes, object}
use Rattle.console_operand.specs.DataSteps.{no_data, data_step, data_finish, TakesBytes}
use Rattle.console_operand.specs.ValueSteps.{named_value, begun_by, value_step, value_finish}
use Rattle.console_operand.specs.declared.data_words.Data.{Data}
use Rattle.console_operand.specs.declared.reference.Reference.{Reference}
use Rattle.console_operand.specs.declared.reference.Reference.TheVariants.{Id, Pinned, Named}
use Rattle.console_operand.specs.declared.reference.Form.{Form}
use Rattle.console_operand.specs.declared.reference.Form.TheVariants as form
use Rattle.console_operand.specs.declared.reference.Naming.TheVariants as n
use Rattle.console_operand.specs.declared.reference.Named.TheVariants as come
use Rattle.console_operand.specs.declared.value.Value.{Value}
use Rattle.console_operand.specs.declared.value.Value.TheVariants as value
use Rattle.console_operand.specs.declared.value.ValueState.{ValueState}
use Rattle.console_operand.specs.declared.value.ValueState.TheVariants as v
use Rattle.console_operand.proofs.Reading.{spelled_is, map_some}
use Rattle.console_operand.proofs.PartRead.{Ends, leads_within}
use Rattle.console_operand.proofs.DataRead.{EndsData, bytes_steps, data_leads, leads_data, word_ends, data_end, data_completes}
use Rattle.console_operand.proofs.ReferenceRead.{naming_end}

-- VALUE that is read to its end
abbrev Ended : ValueState → List (List ℕ) → Value (List ℕ) → Type 0
Ended s words it = (end : ValueState) × Leads value_step s words end × (value_finish end ≡ Some it)

data_within : (d end : Data) (words : List (List ℕ)) → Leads data_step d words end → Leads value_step (v.Data d) words (v.Data end)
data_within d end words h = leads_within data_step value_step v.Data (λ d more w e. ap (option_map v.Data) e) d end words h

-- the word of a form is no byte
form_over : (f : Form) → data_step no_data (form_word f) ≡ None
form_over form.Id = word_ends no_data (codes "id") refl refl refl
form_over form.Pinned = word_ends no_data (codes "pinned") refl refl refl
form_over form.Name = word_ends no_data (codes "name") refl refl refl

no_form : (word : List ℕ) (more : Data) → data_step no_data word ≡ Some more → spelled_by form_word forms word ≡ None
no_form word more h =
    elim (spelled_by form_word forms word) as (λ o. spelled_by form_word forms word ≡ o → o ≡ None) [
      | None ↦ λ _. refl
      | Some f ↦ λ e. let over : data_step no_data word ≡ None = subst (λ w. data_step no_data w ≡ None) (sym (spelled_is form_word forms word f e)) (form_over f) in cc
    ] refl

bytes_lead : (words : List (List ℕ)) (end : Data) (given : List ℕ) → Leads data_step no_data words end → data_finish end ≡ Some given → Ended v.First words (value.Data given)
bytes_lead [] end given h is = let none : None ≡ data_finish end = ap data_finish h in cc
bytes_lead (word ∷ words) end given h is = (
  v.Data end,
  (v.Data h.0, ap (λ o. begun_by o word) (no_form word h.0 h.1) ∙ ap (option_map v.Data) h.1, data_within h.0 end words h.2),
  ap (option_map value.Data) is,
)

-- bytes that are taken begin a value
pub value_begun : (before after : Reading) (row : List ℕ) → TakesBytes byte_of before row after → 0 < length row → length row ≤ 260 →
    Takes value_step v.First before (v.Data (record { is_hex = false; bytes = row })) after
value_begun before after row it some room =
    let fits : length no_data.bytes + length row ≤ 260 = omega (arith, room) in
    record { front = it.front; leads = leads it.front (some_front it.front row it.are some) (bytes_steps no_data it.front row it.are fits); cut = it.cut; count = it.count }
  where
    some_front : (front : List (List ℕ)) (row : List ℕ) → AreBytes byte_of front row → 0 < length row → 0 < length front
    some_front [] [] are some = absurd (omega arith)
    some_front [] (byte ∷ row) are some = absurd are
    some_front (word ∷ front) row are some = omega arith

    leads : (front : List (List ℕ)) → 0 < length front → Leads data_step no_data front (record { is_hex = false; bytes = row }) → Leads value_step v.First front (v.Data (record { is_hex = false; bytes = row }))
    leads [] some h = absurd (omega arith)
    leads (word ∷ front) some h =
        (v.Data h.0, ap (λ o. begun_by o word) (no_form word h.0 h.1) ∙ ap (option_map v.Data) h.1, data_within h.0 (record { is_hex = false; bytes = row }) front h.2)

-- no byte that is taken leaves it as it is
pub value_unbegun : (s : ValueState) (before after : Reading) (row : List ℕ) → TakesBytes byte_of before row after → length row ≡ 0 → Takes value_step s before s after
value_unbegun s before after row it none = record { front = it.front; leads = subst (λ front. Leads value_step s front s) (sym empty) refl; cut = it.cut; count = it.count }
  where
    no_front : (front : List (List ℕ)) (row : List ℕ) → AreBytes byte_of front row → length row ≡ 0 → front ≡ []
    no_front [] row are none = refl
    no_front (word ∷ front) [] are none = absurd are
    no_front (word ∷ front) (byte ∷ row) are none = absurd (omega arith)

    empty : it.front ≡ []
    empty = no_front it.front row it.are none

object_leads : {words : List (List ℕ)} {it : Reference (List ℕ)} → IsReference words it → Ended v.First words (value.Object it)
object_leads (id {word} {number} e) = (
  v.Found (Id number),
  (
    v.Object (n.Object form.Id),
    refl,
    (v.Found (Id number), ap (λ o. option_map named_value (option_map (λ number. come.Found (Id number)) o)) e, refl),
  ),
  refl,
)
object_leads (pinned {path}) = (v.Found (Pinned path), (v.Object (n.Object form.Pinned), refl, (v.Found (Pinned path), refl, refl)), refl)
object_leads (named {name}) = (v.Found (Named name), (v.Object (n.Object form.Name), refl, (v.Found (Named name), refl, refl)), refl)

-- VALUE that is spelled is read
pub value_leads : {words : List (List ℕ)} {it : Value (List ℕ)} → IsValue words it → (end : ValueState) × Leads value_step v.First words end × (value_finish end ≡ Some it)
value_leads (bytes {words} {given} it) = let (end, leads, is) = data_leads it in bytes_lead words end given leads is
value_leads (object it) = object_leads it

-- nothing comes after a reference
found_value : (name words : List (List ℕ)) (found : Reference (List ℕ)) (s end : ValueState) (it : Value (List ℕ)) → IsReference name found → v.Found found ≡ s →
    Leads value_step s words end → value_finish end ≡ Some it → IsValue (name ++ words) it
found_value name [] found s end it refers same h is =
    let there : value.Object found ≡ it = some_same (ap value_finish (same ∙ h) ∙ is) in
    subst (λ all. IsValue all it) (sym (append-nil name)) (subst (IsValue name) there (object refers))
  where
    some_same : Some (value.Object found) ≡ Some it → value.Object found ≡ it
    some_same e = cc
found_value name (word ∷ words) found s end it refers same h is =
    let none : value_step s word ≡ None = ap (λ x. value_step x word) (sym same) in cc (none, h.1)

object_value : (f : Form) (words : List (List ℕ)) (end : ValueState) (it : Value (List ℕ)) → Leads value_step (v.Object (n.Object f)) words end → value_finish end ≡ Some it →
    IsValue (form_word f ∷ words) it
object_value f [] end it h is = let none : None ≡ value_finish end = ap value_finish h in cc
object_value form.Id (word ∷ words) end it h is =
    elim (number_of word) as (λ o. number_of word ≡ o → option_map named_value (option_map (λ number. come.Found (Id number)) o) ≡ Some h.0 → IsValue (codes "id" ∷ word ∷ words) it) [
      | None ↦ λ _ none. cc
      | Some number ↦ λ e found. found_value (codes "id" ∷ word ∷ []) words (Id number) h.0 end it (id e) (cc) h.2 is
    ] refl h.1
object_value form.Pinned (word ∷ words) end it h is =
    let same : v.Found (Pinned word) ≡ h.0 = found_same h.1 in
    found_value (codes "pinned" ∷ word ∷ []) words (Pinned word) h.0 end it pinned same h.2 is
  where
    found_same : Some (v.Found (Pinned word)) ≡ Some h.0 → v.Found (Pinned word) ≡ h.0
    found_same e = cc
object_value form.Name (word ∷ words) end it h is =
    let same : v.Found (Named word) ≡ h.0 = found_same h.1 in
    found_value (codes "name" ∷ word ∷ []) words (Named word) h.0 end it named same h.2 is
  where
    found_same : Some (v.Found (Named word)) ≡ Some h.0 → v.Found (Named word) ≡ h.0
    found_same e = cc

data_inside : (words : List (List ℕ)) (d : Data) (end : ValueState) → Leads value_step (v.Data d) words end → (last : Data) × (end ≡ v.Data last) × Leads data_step d words last
data_inside [] d end h = (d, sym h, refl)
data_inside (word ∷ words) d end h =
    map_some (data_step d word) v.Data h.0 (λ more e same.
    let (last, is, leads) = data_inside words more end (subst (λ s. Leads value_step s words end) (sym same) h.2) in
    (last, is, (more, e, leads))) h.1

data_value : (word : List ℕ) (words : List (List ℕ)) (d : Data) (end : ValueState) (it : Value (List ℕ)) → data_step no_data word ≡ Some d →
    Leads value_step (v.Data d) words end → value_finish end ≡ Some it → IsValue (word ∷ words) it
data_value word words d end it begins h is =
    let (last, at, leads) = data_inside words d end h in
    map_some (data_finish last) value.Data it (λ given some same.
    subst (IsValue (word ∷ words)) same (bytes (leads_data (word ∷ words) last given (d, begins, leads) some)))
    (subst (λ s. value_finish s ≡ Some it) at is)

-- what is read is VALUE
pub leads_value : (words : List (List ℕ)) (end : ValueState) (it : Value (List ℕ)) → Leads value_step v.First words end → value_finish end ≡ Some it → IsValue words it
leads_value [] end it h is = let none : None ≡ value_finish end = ap value_finish h in cc
leads_value (word ∷ words) end it h is =
    elim (spelled_by form_word forms word) as (λ o. spelled_by form_word forms word ≡ o → begun_by o word ≡ Some h.0 → IsValue (word ∷ words) it) [
      | Some f ↦ λ e first.
          let same : v.Object (n.Object f) ≡ h.0 = cc in
          subst (λ w. IsValue (w ∷ words) it) (sym (spelled_is form_word forms word f e))
          (object_value f words end it (subst (λ s. Leads value_step s words end) (sym same) h.2) is)
      | None ↦ λ _ first.
          map_some (data_step no_data word) v.Data h.0 (λ d begins same.
          data_value word words d end it begins (subst (λ s. Leads value_step s words end) (sym same) h.2) is) first
    ] refl h.1

-- a word that is no byte ends it
value_over : (s : ValueState) (it : Value (List ℕ)) (word : List ℕ) → value_finish s ≡ Some it → ((d : Data) → data_step d word ≡ None) → value_step s word ≡ None
value_over v.First it word is over = cc
value_over (v.Data d) it word is over = ap (option_map v.Data) (over d)
value_over (v.Object naming) it word is over = cc
value_over (v.Found found) it word is over = refl

pub words_over : (end : ValueState) (it : Value (List ℕ)) (words : List (List ℕ)) → value_finish end ≡ Some it → EndsData words → Ends value_step end words
words_over end it [] is over = tt
words_over end it (word ∷ words) is over = value_over end it word is over

-- words that complete VALUE
abbrev pub value_end : ValueState → List (List ℕ)
value_end v.First = codes "0" ∷ []
value_end (v.Data d) = data_end d.bytes
value_end (v.Object naming) = naming_end naming
value_end (v.Found it) = []

pub value_completes : (s : ValueState) → (end : ValueState) × (it : Value (List ℕ)) × Leads value_step s (value_end s) end × (value_finish end ≡ Some it)
value_completes v.First = let d : Data = record { is_hex = false; bytes = 0 ∷ [] } in (v.Data d, value.Data (0 ∷ []), (v.Data d, refl, refl), refl)
value_completes (v.Data d) =
    let (end, found, leads, is) = data_completes d in
    (v.Data end, value.Data found, data_within d end (data_end d.bytes) leads, ap (option_map value.Data) is)
value_completes (v.Object n.Form) = (
  v.Found (Id 1),
  value.Object (Id 1),
  (v.Object (n.Object form.Id), refl, (v.Found (Id 1), refl, refl)),
  refl,
)
value_completes (v.Object (n.Object form.Id)) = (v.Found (Id 1), value.Object (Id 1), (v.Found (Id 1), refl, refl), refl)
value_completes (v.Object (n.Object form.Pinned)) = (
  v.Found (Pinned (codes "1")),
  value.Object (Pinned (codes "1")),
  (v.Found (Pinned (codes "1")), refl, refl),
  refl,
)
value_completes (v.Object (n.Object form.Name)) = (
  v.Found (Named (codes "1")),
  value.Object (Named (codes "1")),
  (v.Found (Named (codes "1")), refl, refl),
  refl,
)
value_completes (v.Found it) = (v.Found it, value.Object it, refl, refl)
