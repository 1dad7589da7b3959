-- The boxes of a book are those of its states.
use Rattle.std.proofs.Common.{◌≡◌, ◌⊎◌, inl, inr, ℕ, suc, ◌≤◌, ◌<◌, Bool, true, false, cond, List, [], ◌∷◌, ◌++◌, length, reverse, map as each, Option, Some, None, is_some, refl, sym, ◌∙◌, ap, subst, arith}
use Rattle.std.specs.Prelude.{nat_lt}
use Rattle.std.proofs.lemmas.List.{reverse-append, reverse-reverse, append_assoc, map-append, length-append}
use Rattle.std.proofs.lemmas.Bool.Decides.{nat_tests}
use Rattle.std.specs.Cmp.{nat_cmp_total}
use Rattle.std.specs.FinMap as map
use Rattle.std.specs.FinMap.{nat_cmp-IsAntisymmetric}
use Rattle.bt_objects.specs.Ids.{is_among}
use Rattle.bt_objects.specs.declared.make.Make.{Make}
use Rattle.bt_objects.specs.ById.{ById}
use Rattle.host_state.specs.State.{State}
use Rattle.host_state.specs.World.{makes_in, charged_of, ListsAll}
use Rattle.journal_model.specs.Plain.{Past, Pasts, newest_state, one_back, one_forth}
use Rattle.journal_model.specs.Book.{kept_states, makes_of}
use Rattle.journal_model.specs.Well.{Each, OneOf, Tells, IdsUpTo}
use Rattle.journal_model.proofs.Lists.{Each-append, Each-map, Each-rest, Each-front, Each-reverse}
use Rattle.journal_model.proofs.Mapped.{has-mapped}
use Rattle.journal_model.proofs.Charges.{boxes_are}
use Rattle.journal_keeping.specs.Boxes.{newest, IsUpTo, ListsProgs, AreKept, HasCome, HasComeFrom, AllCome, LivesAtLast, LivesInBase, KeepsBoxes, states_of}
use Rattle.journal_timeline.specs.Retired.{NoneRetired}
use Rattle.journal_timeline.specs.Listed.{ListsMoments, ListsPasts}
use Rattle.journal_keeping.specs.declared.ids.LastIds.{LastIds}
use Rattle.journal_keeping.proofs.IdsLemmas.{newest_up}

abbrev pub state_of : Past → State
state_of m = m.state

-- ---- undo and redo keep the states
pub states-back : (base : State) (ms us : List Past) → states_of (one_back (record { base = base; moments = ms; undone = us })) ≡ states_of (record { base = base; moments = ms; undone = us })
states-back base [] us = refl
states-back base (m ∷ ms) us =
    ap (λ xs. xs ++ (each state_of ms ++ base ∷ [])) (reverse-append (m.state ∷ []) (each state_of us))
    ∙ append_assoc (reverse (each state_of us)) (m.state ∷ []) (each state_of ms ++ base ∷ [])

pub states-forth : (base : State) (ms us : List Past) → states_of (one_forth (record { base = base; moments = ms; undone = us })) ≡ states_of (record { base = base; moments = ms; undone = us })
states-forth base ms [] = refl
states-forth base ms (u ∷ us) =
    sym (ap (λ xs. xs ++ (each state_of ms ++ base ∷ [])) (reverse-append (u.state ∷ []) (each state_of us))
    ∙ append_assoc (reverse (each state_of us)) (u.state ∷ []) (each state_of ms ++ base ∷ []))

-- the same boxes and states
pub KeepsBoxes-same : (makes other : ById Make) (p q : Pasts) (lasts : List LastIds) (maps progs : List ℕ) → other ≡ makes → states_of q ≡ states_of p → KeepsBoxes makes (states_of p) lasts maps progs → KeepsBoxes other (states_of q) lasts maps progs
KeepsBoxes-same makes other p q lasts maps progs m s h =
    subst (λ (o : ById Make). KeepsBoxes o (states_of q) lasts maps progs) (sym m) (subst (λ ss. KeepsBoxes makes ss lasts maps progs) (sym s) h)

pub KeepsBoxes-forth : (makes other : ById Make) (p q : Pasts) (lasts : List LastIds) (maps progs : List ℕ) → other ≡ makes → q ≡ one_forth p → KeepsBoxes makes (states_of p) lasts maps progs → KeepsBoxes other (states_of q) lasts maps progs
KeepsBoxes-forth makes other p q lasts maps progs m e h = KeepsBoxes-same makes other p q lasts maps progs m (ap states_of e ∙ states-forth p.base p.moments p.undone) h

-- ---- the oldest state
lives_below : (s : State) (xs : List State) (base : State) → LivesAtLast s (xs ++ base ∷ []) → NoneRetired base
lives_below s [] base h = h
lives_below s (x ∷ xs) base h = lives_below x xs base h

pub base_of_lives : (xs : List State) (base : State) → LivesInBase (xs ++ base ∷ []) → NoneRetired base
base_of_lives [] base h = h
base_of_lives (x ∷ xs) base h = lives_below x xs base h

lives_at : (s : State) (xs : List State) (base : State) → NoneRetired base → LivesAtLast s (xs ++ base ∷ [])
lives_at s [] base h = h
lives_at s (x ∷ xs) base h = lives_at x xs base h

pub lives_in : (xs : List State) (base : State) → NoneRetired base → LivesInBase (xs ++ base ∷ [])
lives_in [] base h = h
lives_in (x ∷ xs) base h = lives_at x xs base h

-- those of the moments, and the base
pub states_end : (p : Pasts) → states_of p ≡ (reverse (each state_of p.undone) ++ each state_of p.moments) ++ p.base ∷ []
states_end p = sym (append_assoc (reverse (each state_of p.undone)) (each state_of p.moments) (p.base ∷ []))

pub base_lives : (makes : ById Make) (p : Pasts) (lasts : List LastIds) (maps progs : List ℕ) → KeepsBoxes makes (states_of p) lasts maps progs → NoneRetired p.base
base_lives makes p lasts maps progs h = base_of_lives (reverse (each state_of p.undone) ++ each state_of p.moments) p.base (subst LivesInBase (states_end p) h.base_lives)

pub lives_pasts : (p : Pasts) → NoneRetired p.base → LivesInBase (states_of p)
lives_pasts p h = subst LivesInBase (sym (states_end p)) (lives_in (reverse (each state_of p.undone) ++ each state_of p.moments) p.base h)

-- ---- a map and its box
pub in_state : (s : State) (id : ℕ) (make : Make) → map.get (makes_in s) id ≡ Some make → map.contains_key s.maps id ≡ true
in_state s id make e = sym (has-mapped _ s.maps id) ∙ ap is_some e

pub has_box : (makes : ById Make) (s : State) → Tells makes s → (id : ℕ) → map.contains_key s.maps id ≡ true → map.contains_key makes id ≡ true
has_box makes s t id there = some_of (map.get (makes_in s) id) refl (has-mapped _ s.maps id ∙ there)
  where
    some_of : (o : Option Make) → map.get (makes_in s) id ≡ o → is_some o ≡ true → map.contains_key makes id ≡ true
    some_of None e has = cc
    some_of (Some make) e has = ap is_some (t id make e)

pub box_of : (m : ById Make) (id : ℕ) (P : Type 0) → map.contains_key m id ≡ true → ((make : Make) → map.get m id ≡ Some make → P) → P
box_of m id P there f = here (map.get m id) refl there
  where
    here : (o : Option Make) → map.get m id ≡ o → is_some o ≡ true → P
    here None e has = cc
    here (Some make) e has = f make e

pub get-kept : (m : ById Make) (ids : List ℕ) (q : ℕ) → map.get (map.retain_keys m (is_among ids)) q ≡ cond (is_among ids q) (map.get m q) None
get-kept m ids q = map.get-retain_keys m (is_among ids) q (λ x same. ap (is_among ids) (sym (nat_cmp-IsAntisymmetric q x same)))

-- the boxes that are kept are those of a part of them, if the ids that are kept are its own
pub kept_is : (m part : ById Make) (ids : List ℕ) → ((q : ℕ) (make : Make) → map.get part q ≡ Some make → map.get m q ≡ Some make) → ((q : ℕ) → is_among ids q ≡ map.contains_key part q) → map.retain_keys m (is_among ids) ≡ part
kept_is m part ids within keys =
    map.same_map nat_cmp_total nat_cmp-IsAntisymmetric _ _ (λ q.
    get-kept m ids q
    ∙ ap (λ b. cond b (map.get m q) None) (keys q)
    ∙ here q (map.get part q) refl)
  where
    here : (q : ℕ) (o : Option Make) → map.get part q ≡ o → cond (is_some o) (map.get m q) None ≡ o
    here q None e = refl
    here q (Some make) e = within q make e

-- ---- kept states
pub AreKept-length : (makes : ById Make) (ss : List State) (ls : List LastIds) → AreKept makes ss ls → length ss ≡ length ls
AreKept-length makes [] [] h = refl
AreKept-length makes [] (l ∷ ls) h = absurd h
AreKept-length makes (s ∷ ss) [] h = absurd h
AreKept-length makes (s ∷ ss) (l ∷ ls) h = ap (λ n. suc n) (AreKept-length makes ss ls h.1)

pub tells_each : (makes : ById Make) (ss : List State) (ls : List LastIds) → AreKept makes ss ls → Each (Tells makes) ss
tells_each makes [] [] h = tt
tells_each makes [] (l ∷ ls) h = absurd h
tells_each makes (s ∷ ss) [] h = absurd h
tells_each makes (s ∷ ss) (l ∷ ls) h = (h.0.tells, tells_each makes ss ls h.1)

-- the older ones are kept by themselves
pub AreKept-rest : (makes : ById Make) (xs ys : List State) (ks ls : List LastIds) → length xs ≡ length ks → AreKept makes (xs ++ ys) (ks ++ ls) → AreKept makes ys ls
AreKept-rest makes [] ys [] ls e h = h
AreKept-rest makes [] ys (k ∷ ks) ls e h = absurd (omega (arith, e))
AreKept-rest makes (x ∷ xs) ys [] ls e h = absurd (omega (arith, e))
AreKept-rest makes (x ∷ xs) ys (k ∷ ks) ls e h = AreKept-rest makes xs ys ks ls (omega (arith, e)) h.1

pub AllCome-rest : (xs ys : List State) (ks ls : List LastIds) → length xs ≡ length ks → AllCome (xs ++ ys) (ks ++ ls) → AllCome ys ls
AllCome-rest [] ys [] ls e h = h
AllCome-rest [] ys (k ∷ ks) ls e h = absurd (omega (arith, e))
AllCome-rest (x ∷ xs) ys [] ls e h = absurd (omega (arith, e))
AllCome-rest (x ∷ xs) ys (k ∷ ks) ls e h = AllCome-rest xs ys ks ls (omega (arith, e)) h.1

-- what comes from the newest of them
pub come_first : (s base : State) (ms : List Past) (ls : List LastIds) → HasCome s (newest_state base ms) (newest ls) → HasComeFrom s (each state_of ms ++ base ∷ []) ls
come_first s base [] [] h = tt
come_first s base [] (l ∷ ls) h = h
come_first s base (m ∷ ms) [] h = tt
come_first s base (m ∷ ms) (l ∷ ls) h = h

-- and by boxes that are the same up to the last id
pub AreKept-same : (makes other : ById Make) (ss : List State) (ls : List LastIds) → ((id : ℕ) → id ≤ (newest ls).map_id → map.get other id ≡ map.get makes id) → AreKept makes ss ls → AreKept other ss ls
AreKept-same makes other [] [] same h = tt
AreKept-same makes other [] (l ∷ ls) same h = absurd h
AreKept-same makes other (s ∷ ss) [] same h = absurd h
AreKept-same makes other (s ∷ ss) (l ∷ ls) same h =
    let up : IsUpTo l (newest ls) = newest_up l ls h.0.rises in (
      record {
        tells = λ id make e. same id (h.0.within.maps id (in_state s id make e)) ∙ h.0.tells id make e;
        within = h.0.within;
        rises = h.0.rises;
        gave = λ id make e low new. h.0.gave id make (sym (same id low) ∙ e) low new;
      },
      AreKept-same makes other ss ls (λ id low. same id (omega (arith, low, up.0))) h.1,
    )

-- the ids of the newest state
pub newest_within : (makes : ById Make) (base : State) (ms : List Past) (ls : List LastIds) → AreKept makes (each state_of ms ++ base ∷ []) ls → IdsUpTo (newest ls).map_id (newest ls).prog_id (newest_state base ms)
newest_within makes base [] [] h = absurd h
newest_within makes base [] (l ∷ ls) h = h.0.within
newest_within makes base (m ∷ ms) [] h = absurd h
newest_within makes base (m ∷ ms) (l ∷ ls) h = h.0.within

pub newest_has : (P : State → Type 0) (base : State) (ms : List Past) → Each P (each state_of ms ++ base ∷ []) → P (newest_state base ms)
newest_has P base [] h = h.0
newest_has P base (m ∷ ms) h = h.0

-- programs that are listed up to the last id are listed
pub listed_up : (makes : ById Make) (progs others : List ℕ) (ss : List State) (ls : List LastIds) → AreKept makes ss ls → ((id : ℕ) → id ≤ (newest ls).prog_id → is_among progs id ≡ true → is_among others id ≡ true) → Each (ListsProgs progs) ss → Each (ListsProgs others) ss
listed_up makes progs others [] [] h f l = tt
listed_up makes progs others [] (k ∷ ks) h f l = absurd h
listed_up makes progs others (s ∷ ss) [] h f l = absurd h
listed_up makes progs others (s ∷ ss) (k ∷ ks) h f l =
    let up : IsUpTo k (newest ks) = newest_up k ks h.0.rises in
    (λ id there. f id (h.0.within.progs id there) (l.0 id there), listed_up makes progs others ss ks h.1 (λ id low. f id (omega (arith, low, up.1))) l.1)

-- a box is of a map of one of the states
has_map : (makes : ById Make) (ss : List State) (ls : List LastIds) (id : ℕ) (make : Make) → 0 < length ss → AreKept makes ss ls → map.get makes id ≡ Some make → id ≤ (newest ls).map_id → OneOf (λ s. map.get (makes_in s) id ≡ Some make) ss
has_map makes [] ls id make some h e low = absurd (omega (arith, some))
has_map makes (s ∷ ss) [] id make some h e low = absurd h
has_map makes (s ∷ []) (l ∷ []) id make some h e low = inl (h.0.gave id make e low tt)
has_map makes (s ∷ []) (l ∷ k ∷ ks) id make some h e low = absurd h.1
has_map makes (s ∷ t ∷ ts) (l ∷ []) id make some h e low = absurd h.1
has_map makes (s ∷ t ∷ ts) (l ∷ k ∷ ks) id make some h e low = here (has_map makes (t ∷ ts) (k ∷ ks) id make (omega arith) h.1 e) (nat_lt k.map_id id) refl
  where
    here : (id ≤ k.map_id → OneOf (λ s. map.get (makes_in s) id ≡ Some make) (t ∷ ts)) → (b : Bool) → nat_lt k.map_id id ≡ b → OneOf (λ s. map.get (makes_in s) id ≡ Some make) (s ∷ t ∷ ts)
    here older true f =
        let above : k.map_id < id = grind (arith, nat_tests, f) in
        inl (h.0.gave id make e low (above, Each-map (IsUpTo k) (λ (l : LastIds). l.map_id < id) ks (λ l u. omega (arith, u.0, above)) h.1.0.rises))
    here older false f = inr (older (grind (arith, nat_tests, f)))

-- ---- in another order
OneOf-left : {X : Type 0} (P : X → Type 0) (xs ys : List X) → OneOf P xs → OneOf P (xs ++ ys)
OneOf-left P [] ys h = absurd h
OneOf-left P (x ∷ xs) ys (inl h) = inl h
OneOf-left P (x ∷ xs) ys (inr h) = inr (OneOf-left P xs ys h)

OneOf-right : {X : Type 0} (P : X → Type 0) (xs ys : List X) → OneOf P ys → OneOf P (xs ++ ys)
OneOf-right P [] ys h = h
OneOf-right P (x ∷ xs) ys h = inr (OneOf-right P xs ys h)

OneOf-parts : {X : Type 0} (P : X → Type 0) (xs ys : List X) → OneOf P (xs ++ ys) → OneOf P xs ⊎ OneOf P ys
OneOf-parts P [] ys h = inr h
OneOf-parts P (x ∷ xs) ys (inl h) = inl (inl h)
OneOf-parts P (x ∷ xs) ys (inr h) = elim (OneOf-parts P xs ys h) [ inl a ↦ inl (inr a) | inr b ↦ inr b ]

OneOf-reverse : {X : Type 0} (P : X → Type 0) (xs : List X) → OneOf P (reverse xs) → OneOf P xs
OneOf-reverse P [] h = h
OneOf-reverse P (x ∷ xs) h =
    elim (OneOf-parts P (reverse xs) (x ∷ []) (subst (OneOf P) (reverse-append (x ∷ []) xs) h)) [ inl a ↦ inr (OneOf-reverse P xs a) | inr b ↦ first b ]
  where
    first : OneOf P (x ∷ []) → OneOf P (x ∷ xs)
    first (inl a) = inl a
    first (inr b) = absurd b

pub Each-kept : (P : State → Type 0) (p : Pasts) → Each P (states_of p) → Each P (kept_states p)
Each-kept P p h =
    let us : List State = each state_of p.undone in
    let ms : List State = each state_of p.moments in
    let rest : Each P (ms ++ p.base ∷ []) = Each-rest P (reverse us) (ms ++ p.base ∷ []) h in
    let undone : Each P us = subst (Each P) (reverse-reverse us) (Each-reverse P (reverse us) (Each-front P (reverse us) (ms ++ p.base ∷ []) h)) in
    ((Each-rest P ms (p.base ∷ []) rest).0, subst (Each P) (sym (map-append state_of p.moments p.undone)) (Each-append P ms us (Each-front P ms (p.base ∷ []) rest) undone))

OneOf-kept : (P : State → Type 0) (p : Pasts) → OneOf P (states_of p) → OneOf P (kept_states p)
OneOf-kept P p h =
    let us : List State = each state_of p.undone in
    let ms : List State = each state_of p.moments in
    elim (OneOf-parts P (reverse us) (ms ++ p.base ∷ []) h) [
      | inl a ↦ inr (subst (OneOf P) (sym (map-append state_of p.moments p.undone)) (OneOf-right P ms us (OneOf-reverse P us a)))
      | inr b ↦ elim (OneOf-parts P ms (p.base ∷ []) b) [
        | inl a ↦ inr (subst (OneOf P) (sym (map-append state_of p.moments p.undone)) (OneOf-left P ms us a))
        | inr c ↦ base c
      ]
    ]
  where
    base : OneOf P (p.base ∷ []) → OneOf P (kept_states p)
    base (inl a) = inl a
    base (inr b) = absurd b

-- ---- the boxes are those of the kept states
some_states : (p : Pasts) → 0 < length (states_of p)
some_states p =
    let us : List State = each state_of p.undone in
    let ms : List State = each state_of p.moments in
    omega (arith, length-append (reverse us) (ms ++ p.base ∷ []), length-append ms (p.base ∷ []))

pub charged_is : (makes : ById Make) (p : Pasts) (lasts : List LastIds) (maps progs : List ℕ) → KeepsBoxes makes (states_of p) lasts maps progs → charged_of makes ≡ charged_of (makes_of (kept_states p))
charged_is makes p lasts maps progs h =
    ap charged_of (boxes_are makes (kept_states p) record {
      has_box = Each-kept _ p (tells_each makes (states_of p) lasts h.kept);
      has_map = λ id make e. OneOf-kept _ p (has_map makes (states_of p) lasts id make (some_states p) h.kept e (h.maps_below id (h.ids id ∙ ap is_some e)));
    })

-- ---- the ids of the states are listed
lists_state : (makes : ById Make) (maps progs : List ℕ) (s : State) → Tells makes s → ((q : ℕ) → is_among maps q ≡ map.contains_key makes q) → ListsProgs progs s → ListsAll maps progs s
lists_state makes maps progs s t m p = record {
  maps_listed = λ id there e. m id ∙ has_box makes s t id (ap is_some e);
  progs_listed = λ id there e. p id (ap is_some e);
}

each_listed : (maps progs : List ℕ) (ms : List Past) → Each (ListsAll maps progs) (each state_of ms) → ListsMoments maps progs ms
each_listed maps progs [] h = tt
each_listed maps progs (m ∷ ms) h = (h.0, each_listed maps progs ms h.1)

both : {P Q : State → Type 0} (R : State → Type 0) (xs : List State) → ((s : State) → P s → Q s → R s) → Each P xs → Each Q xs → Each R xs
both R [] f a b = tt
both R (x ∷ xs) f a b = (f x a.0 b.0, both R xs f a.1 b.1)

lists_pasts : (maps progs : List ℕ) (p : Pasts) → Each (ListsAll maps progs) (states_of p) → ListsPasts maps progs p
lists_pasts maps progs p h =
    let us : List State = each state_of p.undone in
    let ms : List State = each state_of p.moments in
    let rest : Each (ListsAll maps progs) (ms ++ p.base ∷ []) = Each-rest (ListsAll maps progs) _ (ms ++ p.base ∷ []) h in
    record {
      in_base = (Each-rest (ListsAll maps progs) ms (p.base ∷ []) rest).0;
      in_moments = each_listed maps progs p.moments (Each-front (ListsAll maps progs) ms (p.base ∷ []) rest);
      in_undone = each_listed maps progs p.undone (subst (Each (ListsAll maps progs)) (reverse-reverse us) (Each-reverse (ListsAll maps progs) (reverse us) (Each-front (ListsAll maps progs) (reverse us) (ms ++ p.base ∷ []) h)));
    }

pub has_listed : (makes : ById Make) (p : Pasts) (lasts : List LastIds) (maps progs : List ℕ) → KeepsBoxes makes (states_of p) lasts maps progs → ListsPasts maps progs p
has_listed makes p lasts maps progs h =
    lists_pasts maps progs p (both (ListsAll maps progs) (states_of p) (λ s t l. lists_state makes maps progs s t h.ids l) (tells_each makes (states_of p) lasts h.kept) h.progs_listed)
