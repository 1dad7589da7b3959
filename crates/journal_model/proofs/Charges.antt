-- When boxes by id are those of the maps of kept states, each id once.
use Rattle.std.proofs.Common.{◌≡◌, ◌⊎◌, inl, inr, ℕ, Bool, true, false, cond, List, [], ◌∷◌, ◌++◌, refl, sym, ◌∙◌, ap, subst}
use Rattle.std.specs.Prelude.{Option, Some, None, flat_map}
use Rattle.std.specs.Option.{option_or}
use Rattle.std.specs.Ordering.{nat_cmp, eq_by_cmp}
use Rattle.std.specs.Cmp.{nat_cmp_total}
use Rattle.std.specs.FinMap as map
use Rattle.std.specs.FinMap.{nat_cmp-IsAntisymmetric, find}
use Rattle.bt_objects.specs.declared.make.Make.{Make}
use Rattle.bt_objects.specs.ById.{ById}
use Rattle.host_state.specs.State.{State}
use Rattle.host_state.specs.World.{makes_in}
use Rattle.journal_model.specs.Book.{makes_of}
use Rattle.journal_model.specs.Well.{Each, OneOf, Tells, AreBoxesOf}

find-append : (id : ℕ) (xs ys : List (ℕ × Make)) → find nat_cmp id (xs ++ ys) ≡ option_or (find nat_cmp id xs) (find nat_cmp id ys)
find-append id [] ys = refl
find-append id (x ∷ xs) ys = here (eq_by_cmp nat_cmp id x.0) (find-append id xs ys)
  where
    here : (b : Bool) → find nat_cmp id (xs ++ ys) ≡ option_or (find nat_cmp id xs) (find nat_cmp id ys) →
        cond b (Some x.1) (find nat_cmp id (xs ++ ys)) ≡ option_or (cond b (Some x.1) (find nat_cmp id xs)) (find nat_cmp id ys)
    here true rest = refl
    here false rest = rest

-- the first state that has the id tells its make
pub get-makes_of : (s : State) (ss : List State) (id : ℕ) → map.get (makes_of (s ∷ ss)) id ≡ option_or (map.get (makes_in s) id) (map.get (makes_of ss) id)
get-makes_of s ss id =
    map.get-from_entries nat_cmp_total (map.entries (makes_in s) ++ flat_map (λ t. map.entries (makes_in t)) ss) id
    ∙ find-append id (map.entries (makes_in s)) (flat_map (λ t. map.entries (makes_in t)) ss)
    ∙ ap (λ o. option_or o (find nat_cmp id (flat_map (λ t. map.entries (makes_in t)) ss))) (sym (map.get-entries (makes_in s) id))
    ∙ ap (λ o. option_or (map.get (makes_in s) id) o) (sym (map.get-from_entries nat_cmp_total (flat_map (λ t. map.entries (makes_in t)) ss) id))

-- the first that has the id is it
found : (makes : ById Make) (id : ℕ) (make : Make) (states : List State) → map.get makes id ≡ Some make →
    Each (Tells makes) states →
    OneOf (λ s. map.get (makes_in s) id ≡ Some make) states → map.get (makes_of states) id ≡ Some make
found makes id make [] e each one = absurd one
found makes id make (s ∷ ss) e each one = get-makes_of s ss id ∙ here (map.get (makes_in s) id) refl one (found makes id make ss e each.1)
  where
    here : (o : Option Make) → map.get (makes_in s) id ≡ o → (map.get (makes_in s) id ≡ Some make) ⊎ OneOf (λ t. map.get (makes_in t) id ≡ Some make) ss →
        (OneOf (λ t. map.get (makes_in t) id ≡ Some make) ss → map.get (makes_of ss) id ≡ Some make) → option_or o (map.get (makes_of ss) id) ≡ Some make
    here (Some other) f one rest = sym (each.0 id other f) ∙ e
    here None f (inl g) rest = cc
    here None f (inr later) rest = rest later

-- none has it
not_found : (makes : ById Make) (id : ℕ) (states : List State) → map.get makes id ≡ None →
    Each (Tells makes) states → map.get (makes_of states) id ≡ None
not_found makes id [] e each = map.get-from_entries nat_cmp_total [] id
not_found makes id (s ∷ ss) e each = get-makes_of s ss id ∙ here (map.get (makes_in s) id) refl (not_found makes id ss e each.1)
  where
    here : (o : Option Make) → map.get (makes_in s) id ≡ o → map.get (makes_of ss) id ≡ None → option_or o (map.get (makes_of ss) id) ≡ None
    here (Some other) f rest = let there : map.get makes id ≡ Some other = each.0 id other f in cc
    here None f rest = rest

pub boxes_are : (makes : ById Make) (states : List State) → AreBoxesOf makes states → makes ≡ makes_of states
boxes_are makes states h = map.same_map nat_cmp_total nat_cmp-IsAntisymmetric makes (makes_of states) (λ id. at id (map.get makes id) refl)
  where
    at : (id : ℕ) (o : Option Make) → map.get makes id ≡ o → o ≡ map.get (makes_of states) id
    at id None e = sym (not_found makes id states e h.has_box)
    at id (Some make) e = sym (found makes id make states e h.has_box (h.has_map id make e))

-- ---- boxes of kept states
of_each : {X : Type 0} (P : X → Type 0) (x : X) (xs : List X) → Each P xs → OneOf (λ y. y ≡ x) xs → P x
of_each P x [] each one = absurd one
of_each P x (y ∷ ys) each (inl same) = subst P same each.0
of_each P x (y ∷ ys) each (inr later) = of_each P x ys each.1 later

each_of : {X : Type 0} (P : X → Type 0) (xs : List X) → ((x : X) → OneOf (λ y. y ≡ x) xs → P x) → Each P xs
each_of P [] f = tt
each_of P (x ∷ xs) f = (f x (inl refl), each_of P xs (λ y one. f y (inr one)))

one_of_map : {X : Type 0} (P Q : X → Type 0) (xs : List X) → ((x : X) → P x → Q x) → OneOf P xs → OneOf Q xs
one_of_map P Q [] f one = absurd one
one_of_map P Q (x ∷ xs) f (inl here) = inl (f x here)
one_of_map P Q (x ∷ xs) f (inr later) = inr (one_of_map P Q xs f later)

has_map_of : (states : List State) (id : ℕ) (make : Make) → map.get (makes_of states) id ≡ Some make → OneOf (λ s. map.get (makes_in s) id ≡ Some make) states
has_map_of [] id make e = let none : map.get (makes_of []) id ≡ None = map.get-from_entries nat_cmp_total [] id in cc
has_map_of (s ∷ ss) id make e = here (map.get (makes_in s) id) refl (sym (get-makes_of s ss id) ∙ e) (has_map_of ss id make)
  where
    here : (o : Option Make) → map.get (makes_in s) id ≡ o → option_or o (map.get (makes_of ss) id) ≡ Some make →
        (map.get (makes_of ss) id ≡ Some make → OneOf (λ t. map.get (makes_in t) id ≡ Some make) ss) → (map.get (makes_in s) id ≡ Some make) ⊎ OneOf (λ t. map.get (makes_in t) id ≡ Some make) ss
    here (Some other) f g rest = inl (f ∙ g)
    here None f g rest = inr (rest g)

-- if any boxes tell of all states, the boxes of these states do
pub tell_themselves : (makes : ById Make) (states : List State) → Each (Tells makes) states → AreBoxesOf (makes_of states) states
tell_themselves makes states each = record {
  has_box = each_of (Tells (makes_of states)) states (λ s one id make e.
      found makes id make states (of_each (Tells makes) s states each one id make e) each (one_of_map (λ t. t ≡ s) (λ t. map.get (makes_in t) id ≡ Some make) states (λ t same. ap (λ u. map.get (makes_in u) id) same ∙ e) one));
  has_map = has_map_of states;
}
