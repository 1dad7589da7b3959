-- The boxes of all states that a book keeps, as its moments come and go.
use Rattle.std.proofs.Common.{◌≡◌, ◌⊎◌, inl, inr, ℕ, ◌+◌, ◌-◌, ◌≤◌, Bool, true, false, cond, List, [], ◌∷◌, ◌++◌, length, take, drop, reverse, map as each, refl, sym, ◌∙◌, ap, subst, arith}
use Rattle.std.specs.Prelude.{Option, Some, None, is_some}
use Rattle.std.specs.Ordering.{nat_cmp, eq_by_cmp}
use Rattle.std.specs.Cmp.{nat_cmp_total}
use Rattle.std.specs.FinMap as map
use Rattle.std.proofs.lemmas.List.{take-append-drop}
use Rattle.bt_objects.specs.declared.make.Make.{Make}
use Rattle.host_state.specs.declared.change.Change.{Change}
use Rattle.host_state.specs.declared.change.Change.TheVariants.{Create}
use Rattle.host_state.specs.declared.reply.Reply.{Reply}
use Rattle.bt_objects.specs.ById.{ById}
use Rattle.host_state.specs.State.{State}
use Rattle.host_state.specs.World.{makes_in}
use Rattle.journal_model.specs.Plain.{Past, Pasts, one_forth, cut}
use Rattle.journal_model.specs.Book.{kept_states}
use Rattle.journal_model.specs.Well.{Each, Tells}
use Rattle.journal_model.proofs.Lists.{Each-append, Each-front, Each-rest, Each-reverse}
use Rattle.journal_model.proofs.Mapped.{same_of, is_itself, some-mapped}
use Rattle.journal_model.proofs.Made.{make_of, get-makes_in}
use Rattle.journal_model.proofs.Acts.{new_box, IsDone}
use Rattle.journal_model.proofs.Cases.{IsNumbered}

-- ---- what holds of each kept state
-- it holds of the state of a moment
abbrev pub OfState : (State → Type 0) → Past → Type 0
OfState P m = P m.state

pub record OfKept (P : State → Type 0) (p : Pasts) : Type 0 where
  pub base : P p.base
  pub moments : Each (OfState P) p.moments
  pub undone : Each (OfState P) p.undone

each_state : (P : State → Type 0) (ms : List Past) → Each (OfState P) ms → Each P (each (λ (m : Past). m.state) ms)
each_state P [] h = tt
each_state P (m ∷ ms) h = (h.0, each_state P ms h.1)

state_each : (P : State → Type 0) (ms : List Past) → Each P (each (λ (m : Past). m.state) ms) → Each (OfState P) ms
state_each P [] h = tt
state_each P (m ∷ ms) h = (h.0, state_each P ms h.1)

pub of_kept : (P : State → Type 0) (p : Pasts) → Each P (kept_states p) → OfKept P p
of_kept P p h =
    let all : Each (OfState P) (p.moments ++ p.undone) = state_each P (p.moments ++ p.undone) h.1 in
    record { base = h.0; moments = Each-front (OfState P) p.moments p.undone all; undone = Each-rest (OfState P) p.moments p.undone all }

pub kept_of : (P : State → Type 0) (p : Pasts) → OfKept P p → Each P (kept_states p)
kept_of P p h = (h.base, each_state P (p.moments ++ p.undone) (Each-append (OfState P) p.moments p.undone h.moments h.undone))

pub kept_cut : (P : State → Type 0) (count : ℕ) (p : Pasts) → OfKept P p → OfKept P (cut count p)
kept_cut P count p h =
    let past : ℕ = length p.moments - count in
    let parts : Each (OfState P) (take past p.moments ++ drop past p.moments) = subst (Each (OfState P)) (sym (take-append-drop past p.moments)) h.moments in
    record {
      base = h.base;
      moments = Each-rest (OfState P) (take past p.moments) (drop past p.moments) parts;
      undone = Each-append (OfState P) (reverse (take past p.moments)) p.undone (Each-reverse (OfState P) (take past p.moments) (Each-front (OfState P) (take past p.moments) (drop past p.moments) parts)) h.undone;
    }

pub kept_forth : (P : State → Type 0) (p : Pasts) → OfKept P p → OfKept P (one_forth p)
kept_forth P p h = first p.undone p.moments h.undone h.moments
  where
    first : (us ms : List Past) → Each (OfState P) us → Each (OfState P) ms → OfKept P (record { base = p.base; moments = take 1 us ++ ms; undone = drop 1 us })
    first [] ms u m = record { base = h.base; moments = m; undone = tt }
    first (x ∷ us) ms u m = record { base = h.base; moments = (u.0, m); undone = u.1 }

-- ---- one box more
abbrev pub with_box : Option (ℕ × Make) → ById Make → ById Make
with_box None makes = makes
with_box (Some box) makes = map.insert makes box.0 box.1

pub has_map : (s : State) (id : ℕ) (make : Make) → map.get (makes_in s) id ≡ Some make → map.contains_key s.maps id ≡ true
has_map s id make e = sym (some-mapped make_of (map.get s.maps id)) ∙ ap is_some (sym (get-makes_in s id) ∙ e)

pub map_has_box : (s : State) (id : ℕ) → map.contains_key s.maps id ≡ true → is_some (map.get (makes_in s) id) ≡ true
map_has_box s id has = ap is_some (get-makes_in s id) ∙ some-mapped make_of (map.get s.maps id) ∙ has

-- a box of a new id is told of beside those of a state without it
pub tells_more : (makes : ById Make) (last prog : ℕ) (change : Change) → IsNumbered (last + 1) prog change → (s : State) → ((id : ℕ) → map.contains_key s.maps id ≡ true → id ≤ last) → Tells makes s → Tells (with_box (new_box change) makes) s
tells_more makes last prog (Create new attr charge name path template) n s low t id make e =
    map.get-insert nat_cmp_total makes new (record { attr = attr; charge = charge }) id ∙ apart (eq_by_cmp nat_cmp id new) refl
  where
    apart : (b : Bool) → eq_by_cmp nat_cmp id new ≡ b → cond b (Some (record { attr = attr; charge = charge })) (map.get makes id) ≡ Some make
    apart true tied =
        let within : id ≤ last = low id (has_map s id make e) in
        let same : id ≡ new = same_of id new tied in
        absurd (omega arith)
    apart false other = t id make e
tells_more makes last prog _ n s low t id make e = t id make e

-- and of those of the state after the change
pub tells_after : (makes : ById Make) (s : State) (change : Change) (done : State × Reply) → IsDone s change done → Tells (with_box (new_box change) makes) s → Tells (with_box (new_box change) makes) done.0
tells_after makes s change done d t id make e = from (d.boxes id make e)
  where
    from : (map.get (makes_in s) id ≡ Some make) ⊎ (new_box change ≡ Some (id, make)) → map.get (with_box (new_box change) makes) id ≡ Some make
    from (inl was) = t id make was
    from (inr new) =
        ap (λ box. map.get (with_box box makes) id) new
        ∙ map.get-insert nat_cmp_total makes id make id
        ∙ ap (λ b. cond b (Some make) (map.get makes id)) (is_itself id)
