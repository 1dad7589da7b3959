-- Where a later change that is apart from one of one key of a map differs from it: it is elsewhere, or at another key of the map.
use Rattle.std.proofs.Common.{◌≡◌, ◌≢◌, ℕ, Bool, true, false, ◌&&◌, ◌||◌, ◌==◌, not, List, ◌++◌, Option, Some, None, Result, Ok, is_some, inl, inr, refl, sym, ap, subst, ◌∙◌, arith}
use Rattle.std.specs.Prelude.{◌⊎◌, nat_eq}
use Rattle.std.specs.FinMap as map
use Rattle.std.specs.Ordering.{nat_cmp, eq_by_cmp}
use Rattle.std.specs.Cmp.Lexicographic.{pointwise, nat_list_eq_equiv}
use Rattle.std.proofs.lemmas.Bool.Decides.{nat_tests}
use Rattle.host_words.specs.Spelling.{is_name}
use Rattle.bt_mapkind.specs.declared.attr.MapAttr.{MapAttr}
use Rattle.bt_mapkind.specs.declared.errno.Errno.{Errno as Error}
use Rattle.bt_mapkind.specs.declared.exchange.Back.{Back}
use Rattle.bt_mapkind.specs.declared.exchange.Back.TheVariants.{Key, Ends, Link as LinkBack}
use Rattle.bt_mapkind.specs.declared.request.MapOp.{MapOp}
use Rattle.bt_mapkind.specs.declared.request.MapOp.TheVariants.{Update, Delete, Push, Pop, Store, Atomic, SetLink}
use Rattle.bt_mapkind.specs.Attributes.{good}
use Rattle.bt_mapkind.specs.Contents.{Contents as Held, Values, Entries, Items, Slots, Links}
use Rattle.bt_mapkind.specs.Exchange.{exchange_fits, exchanged}
use Rattle.bt_mapkind.specs.Kept.{Kept, is_keyed, is_new, is_same_key, IsByteKey}
use Rattle.bt_mapkind.specs.Laws.{IsTakenBack}
use Rattle.bt_mapkind.specs.Step.{Changed, map_step}
use Rattle.bt_mapkind.specs.Well.{IsWell, shape_of}
use Rattle.bt_mapkind.proofs.Turning.{taken_back}
use Rattle.bt_mapkind.proofs.Stays.{no_fit}
use Rattle.map_laws.specs.Place.{place_of, place_of_op, is_put, is_delete, is_by_key}
use Rattle.map_laws.proofs.AtPlaces.{changes_at_its_place}
use Rattle.host_state.specs.declared.change.Change.{Change}
use Rattle.host_state.specs.declared.change.Change.TheVariants.{Create, Operate, Freeze, Link, Load, Pin, Unpin, Attach, Detach}
use Rattle.host_state.specs.declared.change.Origin.{Origin}
use Rattle.host_state.specs.declared.reply.Reply.{Reply}
use Rattle.host_state.specs.State.{HostMap, State}
use Rattle.host_state.specs.Act.{act}
use Rattle.host_state.proofs.ByIdLemmas.{same_of, same_some}
use Rattle.host_state.proofs.Tests.{template_of}
use Rattle.host_state.proofs.Lasting.{created_by}
use Rattle.host_undoing.specs.declared.undoing.Part.{Part}
use Rattle.host_undoing.specs.declared.undoing.Part.TheVariants.{Contents}
use Rattle.host_undoing.specs.Answers.{ExchangesFor, IsOwn}
use Rattle.host_apart.specs.Alike.{HasByteKey}
use Rattle.host_apart.specs.Laws.{IsWellMap}
use Rattle.host_apart.specs.Refilled.{IsElsewhere, IsPartElsewhere}
use Rattle.host_apart.specs.Spots.{any_meet, written_in, looked_at_in, are_apart}
use Rattle.host_apart.proofs.Keys.{same_place, key_of_fit}
use Rattle.host_apart.proofs.OperatedLemmas.{keyed_by_key}

pub record IsApartFrom (id : ℕ) (later : Change) (part : Part) : Type 0 where
  pub change : IsElsewhere id later
  pub exchange : IsPartElsewhere id part

pub record IsAtOtherKey (id : ℕ) (m : HostMap) (k : Kept) (later : Change) (part : Part) : Type 0 where
  pub origin : Origin
  pub op : MapOp
  pub changed : Changed
  pub room : ℕ
  pub change_is : later ≡ Operate origin id op
  pub part_is : part ≡ Contents id (record { back = changed.back; room = room })
  pub step : map_step m.attr m.contents op ≡ Ok changed
  pub keyed : is_keyed changed.back ≡ true
  pub differs : place_of m.attr k.back ≢ place_of_op m.attr op
  pub gives_room : is_put (exchanged m.contents k.back).1 ≡ false → is_new changed.back ≡ false

-- ---- on contents of bytes under keys
-- exchanges are of one key
keyed_of_fit : (a : MapAttr) (c : Held) (b : Back) → is_by_key (shape_of c) ≡ true → exchange_fits a c b ≡ true → is_keyed b ≡ true
keyed_of_fit a (Values vs) (Key key value) is fits = refl
keyed_of_fit a (Values vs) (Ends _ _ _ _) is fits = no_fit fits
keyed_of_fit a (Values vs) (LinkBack _ _) is fits = no_fit fits
keyed_of_fit a (Entries m) (Key key value) is fits = refl
keyed_of_fit a (Entries m) (Ends _ _ _ _) is fits = no_fit fits
keyed_of_fit a (Entries m) (LinkBack _ _) is fits = no_fit fits
keyed_of_fit a (Items xs) b is fits = no_fit is
keyed_of_fit a (Slots ls) b is fits = no_fit is
keyed_of_fit a (Links m) b is fits = no_fit is

-- and no id is put
pub no_link : (a : MapAttr) (c : Held) (key : List ℕ) (named flag : ℕ) (changed : Changed) → is_by_key (shape_of c) ≡ true → map_step a c (SetLink key named flag) ≡ Ok changed → true ≡ false
no_link a (Values vs) key named flag changed is e = cc
no_link a (Entries m) key named flag changed is e = cc
no_link a (Items xs) key named flag changed is e = no_fit is
no_link a (Slots ls) key named flag changed is e = no_fit is
no_link a (Links m) key named flag changed is e = no_fit is

-- ---- what is apart
equal_itself : (n : ℕ) → (n == n) ≡ true
equal_itself n = grind (arith, nat_tests)

first_not : (same key rest more : Bool) → same ≡ true → not (((same && key) || rest) || more) ≡ true → key ≡ false
first_not true true rest more is e = cc
first_not true false rest more is e = refl
first_not false key rest more is e = cc

second_not : (first same rest more : Bool) → same ≡ true → not (first || ((same || rest) || more)) ≡ true → true ≡ false
second_not true same rest more is e = cc
second_not false true rest more is e = cc
second_not false false rest more is e = cc

-- the spots of two exchanges of one key of one map
record KeysApart (op : MapOp) (b c : Back) : Type 0 where
  keys : is_same_key b c ≡ false
  room : is_delete op ≡ true → is_new c ≡ false

keys_apart : (id : ℕ) (origin : Origin) (op later : MapOp) (b c : Back) → is_keyed b ≡ true → is_keyed c ≡ true
    → not (any_meet (written_in id op (Some b)) (written_in id later (Some c) ++ looked_at_in origin id (Some c))) ≡ true → KeysApart op b c
keys_apart id origin op later (Key key x) (Key other y) is other_is apart = record {
  keys = first_not (id == id) (pointwise nat_eq key other) _ _ (equal_itself id) apart;
  room = room op later y apart;
}
  where
    room : (op later : MapOp) (y : Option (List ℕ)) → not (any_meet (written_in id op (Some (Key key x))) (written_in id later (Some (Key other y)) ++ looked_at_in origin id (Some (Key other y)))) ≡ true
        → is_delete op ≡ true → is_new (Key other y) ≡ false
    room op later (Some value) apart deletes = refl
    room (Update _ _ _) later None apart deletes = no_fit deletes
    room (Push _ _) later None apart deletes = no_fit deletes
    room Pop later None apart deletes = no_fit deletes
    room (Store _ _ _) later None apart deletes = no_fit deletes
    room (Atomic _ _ _ _ _) later None apart deletes = no_fit deletes
    room (SetLink _ _ _) later None apart deletes = no_fit deletes
    room (Delete _) (Update _ _ _) None apart deletes = second_not _ (id == id) _ _ (equal_itself id) apart
    room (Delete _) (Delete _) None apart deletes = second_not _ (id == id) _ _ (equal_itself id) apart
    room (Delete _) (Push _ _) None apart deletes = second_not _ (id == id) _ _ (equal_itself id) apart
    room (Delete _) Pop None apart deletes = second_not _ (id == id) _ _ (equal_itself id) apart
    room (Delete _) (Store _ _ _) None apart deletes = second_not _ (id == id) _ _ (equal_itself id) apart
    room (Delete _) (Atomic _ _ _ _ _) None apart deletes = second_not _ (id == id) _ _ (equal_itself id) apart
    room (Delete _) (SetLink _ _ _) None apart deletes = second_not _ (id == id) _ _ (equal_itself id) apart
keys_apart id origin op later (Key key x) (Ends _ _ _ _) is other_is apart = no_fit other_is
keys_apart id origin op later (Key key x) (LinkBack _ _) is other_is apart = no_fit other_is
keys_apart id origin op later (Ends _ _ _ _) c is other_is apart = no_fit is
keys_apart id origin op later (LinkBack _ _) c is other_is apart = no_fit is

-- exchanges of different keys are of different places
places_differ : (a : MapAttr) (c d : Held) (b e : Back) → IsWell a c → good a ≡ true → is_keyed b ≡ true → is_keyed e ≡ true → exchange_fits a c b ≡ true → exchange_fits a d e ≡ true → IsByteKey b → IsByteKey e
    → is_same_key b e ≡ false → place_of a b ≢ place_of a e
places_differ a c d (Key key x) (Key other y) w fine is other_is fits other_fits bytes others apart same =
    let k : key ≡ other = same_place a c key other x w fine fits (key_of_fit a d other y other_fits) bytes others same in
    let e : true ≡ false = sym (nat_list_eq_equiv.refl key) ∙ ap (pointwise nat_eq key) k ∙ apart in cc
places_differ a c d (Key key x) (Ends _ _ _ _) w fine is other_is fits other_fits bytes others apart same = no_fit other_is
places_differ a c d (Key key x) (LinkBack _ _) w fine is other_is fits other_fits bytes others apart same = no_fit other_is
places_differ a c d (Ends _ _ _ _) e w fine is other_is fits other_fits bytes others apart same = no_fit is
places_differ a c d (LinkBack _ _) e w fine is other_is fits other_fits bytes others apart same = no_fit is

not_false : (b : Bool) → not b ≡ false → b ≡ true
not_false true e = refl
not_false false e = cc

module _ (s : State) (id : ℕ) (m : HostMap) (k : Kept) (origin : Origin) (op : MapOp) (there : map.get s.maps id ≡ Some m) (well : IsWellMap m) (fits : exchange_fits m.attr m.contents k.back ≡ true)
    (keyed : is_keyed k.back ≡ true) (bytes : IsByteKey k.back) (puts : is_put (exchanged m.contents k.back).1 ≡ not (is_delete op)) where
  by_key : is_by_key (shape_of m.contents) ≡ true
  by_key = keyed_by_key m.attr m.contents k.back keyed fits

  -- an operation on the same map
  at_id : (by : Origin) (later : MapOp) (part : Part) → ExchangesFor s id later part → HasByteKey part → are_apart (Operate origin id op) (Contents id k) (Operate by id later) part ≡ true
      → IsAtOtherKey id m k (Operate by id later) part
  at_id by later part own has apart = record {
    origin = by;
    op = later;
    changed = own.changed;
    room = own.room;
    change_is = refl;
    part_is = own.is;
    step = step;
    keyed = as_keyed;
    differs = λ same.
        places_differ m.attr m.contents own.changed.contents k.back own.changed.back well.0 well.1 keyed as_keyed fits back.turnable.fits bytes (subst HasByteKey own.is has) spots.keys
        (same ∙ sym (changes_at_its_place m.attr m.contents later own.changed well.0 step).back_place);
    gives_room = λ none. spots.room (not_false (is_delete op) (sym puts ∙ none));
  }
    where
      step : map_step m.attr m.contents later ≡ Ok own.changed
      step = subst (λ (x : HostMap). map_step x.attr x.contents later ≡ Ok own.changed) (same_some (sym own.there ∙ there)) own.step

      back : IsTakenBack m.attr m.contents own.changed
      back = taken_back m.attr m.contents later own.changed well.0 step

      as_keyed : is_keyed own.changed.back ≡ true
      as_keyed = keyed_of_fit m.attr own.changed.contents own.changed.back (ap is_by_key (sym back.turnable.well.shape ∙ well.0.shape) ∙ by_key) back.turnable.fits

      spots : KeysApart op k.back own.changed.back
      spots = keys_apart id by op later k.back own.changed.back keyed as_keyed (subst (λ (p : Part). are_apart (Operate origin id op) (Contents id k) (Operate by id later) p ≡ true) own.is apart)

  operated : (by : Origin) (q : ℕ) (later : MapOp) (part : Part) → ExchangesFor s q later part → HasByteKey part → are_apart (Operate origin id op) (Contents id k) (Operate by q later) part ≡ true
      → IsApartFrom id (Operate by q later) part ⊎ IsAtOtherKey id m k (Operate by q later) part
  operated by q later part own has apart = cases (eq_by_cmp nat_cmp q id) refl
    where
      cases : (b : Bool) → eq_by_cmp nat_cmp q id ≡ b → IsApartFrom id (Operate by q later) part ⊎ IsAtOtherKey id m k (Operate by q later) part
      cases false e = inl (record { change = e; exchange = subst (IsPartElsewhere id) (sym own.is) e })
      cases true e =
          let is : q ≡ id = same_of q id e in
          inr (subst (λ x. IsAtOtherKey id m k (Operate by x later) part) (sym is)
          (at_id by later part (subst (λ x. ExchangesFor s x later part) is own) has (subst (λ x. are_apart (Operate origin id op) (Contents id k) (Operate by x later) part ≡ true) is apart)))

  linked : (q : ℕ) (key : List ℕ) (named flag : ℕ) (part : Part) → ExchangesFor s q (SetLink key named flag) part → IsApartFrom id (Link q key named flag) part
  linked q key named flag part own = let e = cases (eq_by_cmp nat_cmp q id) refl in record { change = e; exchange = subst (IsPartElsewhere id) (sym own.is) e }
    where
      cases : (b : Bool) → eq_by_cmp nat_cmp q id ≡ b → eq_by_cmp nat_cmp q id ≡ false
      cases false e = e
      cases true e =
          let host : own.host ≡ m = same_some (sym own.there ∙ ap (map.get s.maps) (same_of q id e) ∙ there) in
          e ∙ no_link m.attr m.contents key named flag own.changed by_key (subst (λ (x : HostMap). map_step x.attr x.contents (SetLink key named flag) ≡ Ok own.changed) host own.step)

  created : (t : State) (reply : Reply) (q : ℕ) (attr : MapAttr) (charge : ℕ) (name path : List ℕ) (template : Option ℕ) → act s (Create q attr charge name path template) ≡ Ok (t, reply) → eq_by_cmp nat_cmp q id ≡ false
  unfolding act
  created t reply q attr charge name path template e = by (map.contains_key s.maps q) (good attr && is_name name) (template_of s attr.kind template) refl e
    where
      cases : map.contains_key s.maps q ≡ false → (b : Bool) → eq_by_cmp nat_cmp q id ≡ b → b ≡ false
      cases absent true tied = sym (ap is_some (ap (map.get s.maps) (same_of q id tied) ∙ there)) ∙ absent
      cases absent false apart = refl

      by : (taken fine : Bool) (found : Result (Option MapAttr) Error) → map.contains_key s.maps q ≡ taken → created_by s q attr charge name path taken fine found ≡ Ok (t, reply) → eq_by_cmp nat_cmp q id ≡ false
      by true fine found is e = cc
      by false fine found is e = cases is (eq_by_cmp nat_cmp q id) refl

  -- where a later change differs
  pub spots_differ : (t : State) (reply : Reply) (later : Change) (part : Part) → act s later ≡ Ok (t, reply) → IsOwn s later part → HasByteKey part → are_apart (Operate origin id op) (Contents id k) later part ≡ true
      → IsApartFrom id later part ⊎ IsAtOtherKey id m k later part
  spots_differ t reply (Create q attr charge name path template) part e own has apart =
      let differs = created t reply q attr charge name path template e in inl (record { change = tt; exchange = subst (IsPartElsewhere id) (sym own.1) differs })
  spots_differ t reply (Operate by q later) part e own has apart = operated by q later part own has apart
  spots_differ t reply (Freeze q) part e own has apart = inl (record { change = tt; exchange = subst (IsPartElsewhere id) (sym own) tt })
  spots_differ t reply (Link q key named flag) part e own has apart = inl (linked q key named flag part own)
  spots_differ t reply (Load q code name path) part e own has apart = inl (record { change = tt; exchange = subst (IsPartElsewhere id) (sym own.1) tt })
  spots_differ t reply (Pin target path) part e own has apart = inl (record { change = tt; exchange = subst (IsPartElsewhere id) (sym own.1) tt })
  spots_differ t reply (Unpin path) part e own has apart = inl (record { change = tt; exchange = subst (IsPartElsewhere id) (sym own.1) tt })
  spots_differ t reply (Attach prog device overwrite) part e own has apart = inl (record { change = tt; exchange = subst (IsPartElsewhere id) (sym own.1) tt })
  spots_differ t reply (Detach device) part e own has apart = inl (record { change = tt; exchange = subst (IsPartElsewhere id) (sym own.1) tt })
