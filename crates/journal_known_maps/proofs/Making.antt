-- If the maps of a state have some attributes, so have those that a change leaves, if the one that it creates has.
use Rattle.std.proofs.Common.{◌≡◌, ◌⊎◌, inl, inr, ℕ, ◌+◌, ◌≤◌, ◌==◌, Bool, true, false, cond, not, List, [], ◌∷◌, Option, Some, None, Ok, refl, sym, ◌∙◌, ap, subst, arith, eq-eqb}
use Rattle.std.specs.Prelude.{⊤, option_map, if◌then◌else◌}
use Rattle.std.proofs.lemmas.Bool.{eqb-true}
use Rattle.std.specs.FinMap as map
use Rattle.bt_mapkind.specs.declared.attr.MapAttr.{MapAttr}
use Rattle.bt_objects.specs.declared.make.Make.{Make}
use Rattle.bt_objects.specs.ById.{ById}
use Rattle.host_state.specs.declared.change.Change.{Change}
use Rattle.host_state.specs.declared.change.Change.TheVariants.{Create}
use Rattle.host_state.specs.declared.reply.Reply.{Reply}
use Rattle.host_state.specs.State.{HostMap, State}
use Rattle.host_state.specs.Act.{act}
use Rattle.host_state.specs.World.{makes_in}
use Rattle.host_state.proofs.ByIdLemmas.{same_some}
use Rattle.journal_model.specs.Replay.{Entry, replay, as_before}
use Rattle.journal_model.specs.Rebase.{is_retired_map, without_retired}
use Rattle.journal_model.specs.Book.{last_map_after}
use Rattle.journal_model.specs.Well.{Each, Tells}
use Rattle.journal_model.proofs.Acts.{new_box, acted}
use Rattle.journal_model.proofs.Cases.{IsNumbered}
use Rattle.journal_model.proofs.Growing.{makes_stay, box_after}
use Rattle.journal_model.proofs.Made.{make_of, get-makes_in}
use Rattle.journal_model.proofs.Replaying.{same_state, answers, went_on}
use Rattle.journal_invariant.proofs.Dropping.{get-passed}
use Rattle.journal_known_maps.specs.Known.{HaveAttributes}

-- ---- a state
-- each box of the state was made with these attributes
abbrev pub BoxesHave : (ℕ → Option MapAttr) → State → Type 0
BoxesHave maps s = (id : ℕ) (make : Make) → map.get (makes_in s) id ≡ Some make → maps id ≡ Some make.attr

pub attributes : (maps : ℕ → Option MapAttr) (s : State) → BoxesHave maps s → HaveAttributes maps s
attributes maps s h id m there = h id (make_of m) (get-makes_in s id ∙ ap (option_map make_of) there)

pub boxes_dropped : (maps : ℕ → Option MapAttr) (base s : State) → BoxesHave maps s → BoxesHave maps (without_retired base s)
boxes_dropped maps base s h id make e =
    h id make (
    get-makes_in s id
    ∙ left (not (is_retired_map (map.get base.maps id))) (map.get s.maps id)
    (sym (ap (option_map make_of) (get-passed s.maps (λ q. not (is_retired_map (map.get base.maps q))) id)) ∙ sym (get-makes_in (without_retired base s) id) ∙ e)
    )
  where
    left : (b : Bool) (o : Option HostMap) → option_map make_of (cond b o None) ≡ Some make → option_map make_of o ≡ Some make
    left true o e = e
    left false o e = cc

-- ---- a change
-- the map that a change creates has these attributes
abbrev pub CreateHas : (ℕ → Option MapAttr) → Change → Type 0
CreateHas maps (Create id attr charge name path template) = maps id ≡ Some attr
CreateHas maps _ = ⊤

box_has : (maps : ℕ → Option MapAttr) (change : Change) (id : ℕ) (make : Make) → CreateHas maps change → new_box change ≡ Some (id, make) → maps id ≡ Some make.attr
box_has maps (Create new attr charge name path template) id make k e = subst (λ (box : ℕ × Make). maps box.0 ≡ Some box.1.attr) (same_some e) k
box_has maps _ id make k e = cc

create_has : (maps : ℕ → Option MapAttr) (change : Change) → ((id : ℕ) (make : Make) → new_box change ≡ Some (id, make) → maps id ≡ Some make.attr) → CreateHas maps change
create_has maps (Create id attr charge name path template) f = f id (record { attr = attr; charge = charge }) refl
create_has maps _ f = tt

pub act_has : (maps : ℕ → Option MapAttr) (s t : State) (change : Change) (reply : Reply) → act s change ≡ Ok (t, reply) → BoxesHave maps s → CreateHas maps change → BoxesHave maps t
act_has maps s t change reply e h k id make there = from ((acted s change (t, reply) e).boxes id make there)
  where
    from : (map.get (makes_in s) id ≡ Some make) ⊎ (new_box change ≡ Some (id, make)) → maps id ≡ Some make.attr
    from (inl was) = h id make was
    from (inr new) = box_has maps change id make k new

-- ---- the changes that led to a state
boxes_stay : (es : List Entry) (s t : State) → replay s es ≡ Ok t → (id : ℕ) (make : Make) → map.get (makes_in s) id ≡ Some make → map.get (makes_in t) id ≡ Some make
boxes_stay [] s t e id make there = subst (λ (u : State). map.get (makes_in u) id ≡ Some make) (same_state s t e) there
boxes_stay (x ∷ es) s t e id make there =
    let w = went_on (as_before x (act s x.change)) (λ u. replay u es) t e in
    boxes_stay es w.0 t w.2 id make (makes_stay s w.0 x.change x.reply (answers s w.0 x w.1) id make there)

pub creates_have : (maps : ℕ → Option MapAttr) (es : List Entry) (s t : State) → replay s es ≡ Ok t → BoxesHave maps t → Each (λ (x : Entry). CreateHas maps x.change) es
creates_have maps [] s t e h = tt
creates_have maps (x ∷ es) s t e h =
    let w = went_on (as_before x (act s x.change)) (λ u. replay u es) t e in
    let acts : act s x.change ≡ Ok (w.0, x.reply) = answers s w.0 x w.1 in (
      create_has maps x.change (λ id make new. h id make (boxes_stay es w.0 t w.2 id make (box_after s w.0 x.change x.reply acts id make new))),
      creates_have maps es w.0 t w.2 h,
    )

-- ---- more maps
-- the attributes in boxes by id
abbrev pub attr_in : ById Make → ℕ → Option MapAttr
attr_in makes id = option_map (λ (make : Make). make.attr) (map.get makes id)

pub told_have : (makes : ById Make) (s : State) → Tells makes s → BoxesHave (attr_in makes) s
told_have makes s t id make e = ap (option_map (λ (make : Make). make.attr)) (t id make e)

-- what is known stays known
abbrev pub Extends : (ℕ → Option MapAttr) → (ℕ → Option MapAttr) → Type 0
Extends maps more = (id : ℕ) (attr : MapAttr) → maps id ≡ Some attr → more id ≡ Some attr

pub boxes_more : (maps more : ℕ → Option MapAttr) → Extends maps more → (s : State) → BoxesHave maps s → BoxesHave more s
boxes_more maps more x s h id make e = x id make.attr (h id make e)

pub create_more : (maps more : ℕ → Option MapAttr) → Extends maps more → (change : Change) → CreateHas maps change → CreateHas more change
create_more maps more x (Create id attr charge name path template) k = x id attr k
create_more maps more x _ k = tt

-- no map has an id above this
abbrev pub AreUpTo : ℕ → (ℕ → Option MapAttr) → Type 0
AreUpTo last maps = (id : ℕ) (attr : MapAttr) → maps id ≡ Some attr → id ≤ last

-- the maps with the one that a change creates
abbrev pub with_created : Change → (ℕ → Option MapAttr) → ℕ → Option MapAttr
with_created (Create id attr charge name path template) maps q = if q == id then Some attr else maps q
with_created _ maps q = maps q

pub created_extends : (last prog : ℕ) (change : Change) → IsNumbered (last + 1) prog change → (maps : ℕ → Option MapAttr) → AreUpTo last maps → Extends maps (with_created change maps)
created_extends last prog (Create id attr charge name path template) n maps low q a e = by (q == id) refl
  where
    by : (b : Bool) → (q == id) ≡ b → cond b (Some attr) (maps q) ≡ Some a
    by true same =
        let within : q ≤ last = low q a e in
        let is : q ≡ id = eqb-true q id same in
        absurd (omega (arith, n))
    by false apart = e
created_extends last prog _ n maps low q a e = e

pub created_up_to : (last prog : ℕ) (change : Change) → IsNumbered (last + 1) prog change → (maps : ℕ → Option MapAttr) → AreUpTo last maps → AreUpTo (last_map_after change last) (with_created change maps)
created_up_to last prog (Create id attr charge name path template) n maps low q a e = by (q == id) refl e
  where
    by : (b : Bool) → (q == id) ≡ b → cond b (Some attr) (maps q) ≡ Some a → q ≤ id
    by true same f = let is : q ≡ id = eqb-true q id same in omega arith
    by false apart f = let within : q ≤ last = low q a f in omega (arith, n)
created_up_to last prog _ n maps low q a e = low q a e

pub created_has : (change : Change) (maps : ℕ → Option MapAttr) → CreateHas (with_created change maps) change
created_has (Create id attr charge name path template) maps = ap (λ b. cond b (Some attr) (maps id)) (eq-eqb id id refl)
created_has _ maps = tt
