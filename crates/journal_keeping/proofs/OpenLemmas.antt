-- The boxes of a book with no moments.
use Rattle.std.proofs.Common.{◌≡◌, ℕ, ◌≤◌, true, List, [], is_some, sym, ap, subst, ◌∙◌}
use Rattle.std.specs.Ordering.{nat_cmp}
use Rattle.std.specs.FinMap as map
use Rattle.bt_objects.specs.Ids.{is_among}
use Rattle.bt_objects.specs.declared.make.Make.{Make}
use Rattle.bt_objects.specs.ById.{ById}
use Rattle.std.specs.Option.{option_map}
use Rattle.host_state.specs.State.{HostMap}
use Rattle.bt_roots.specs.declared.target.Target.TheVariants.{Map, Prog}
use Rattle.host_state.specs.World.{fresh_state, makes_in}
use Rattle.host_state.proofs.ByIdLemmas.{same_map, get-mapped}
use Rattle.journal_model.specs.Rebase.{is_retired_map, is_retired_prog}
use Rattle.journal_model.specs.Plain.{Pasts}
use Rattle.journal_timeline.specs.Retired.{NoneRetired}
use Rattle.journal_keeping.specs.Boxes.{none_given, IsUpTo, KeepsBoxes, states_of, lasts_of}
use Rattle.journal_keeping.specs.declared.ids.LastIds.{LastIds}
use Rattle.journal_model.specs.Well.{Each}
use Rattle.journal_keeping.proofs.IdsLemmas.{up_itself}

abbrev make_in : ℕ → HostMap → Make
make_in id m = record { attr = m.attr; charge = m.charge }

no_makes : (names : List (List ℕ)) → makes_in (fresh_state names) ≡ map.empty
no_makes names = same_map _ _ (λ q. get-mapped make_in map.empty q ∙ ap (option_map (make_in q)) (map.get-empty nat_cmp q) ∙ sym (map.get-empty nat_cmp q))

no_progs : (names : List (List ℕ)) (id : ℕ) → map.contains_key (fresh_state names).progs id ≡ true → is_among [] id ≡ true
no_progs names id there = cc (sym there ∙ ap is_some (map.get-empty nat_cmp id))

no_maps : (names : List (List ℕ)) (id : ℕ) → map.contains_key (fresh_state names).maps id ≡ true → id ≤ 0
no_maps names id there = cc (sym there ∙ ap is_some (map.get-empty nat_cmp id))

none_above : (names : List (List ℕ)) (id : ℕ) → map.contains_key (fresh_state names).progs id ≡ true → id ≤ 0
none_above names id there = cc (sym there ∙ ap is_some (map.get-empty nat_cmp id))

none_retired : (names : List (List ℕ)) → NoneRetired (fresh_state names)
none_retired names (Map id) = ap is_retired_map (map.get-empty nat_cmp id)
none_retired names (Prog id) = ap is_retired_prog (map.get-empty nat_cmp id)

-- a new book has no boxes
pub new_boxes : (makes : ById Make) (pasts : Pasts) (names : List (List ℕ)) (base : LastIds) (lasts : List LastIds) (maps progs : List ℕ) → makes ≡ map.empty → pasts ≡ record { base = fresh_state names; moments = []; undone = [] } → base ≡ none_given → lasts ≡ [] → maps ≡ [] → progs ≡ []
    → KeepsBoxes makes (states_of pasts) (lasts_of base lasts) maps progs
new_boxes makes pasts names base lasts maps progs no_boxes is first none no_ids no_programs =
    subst (λ (x : ById Make × (Pasts × (LastIds × (List LastIds × (List ℕ × List ℕ))))). KeepsBoxes x.0 (states_of x.1.0) (lasts_of x.1.1.0 x.1.1.1.0) x.1.1.1.1.0 x.1.1.1.1.1) (λ i. (sym no_boxes i, (sym is i, (sym first i, (sym none i, (sym no_ids i, sym no_programs i)))))) (record {
      kept = (
        record {
          tells = λ id make at. sym (ap (λ (ms : ById Make). map.get ms id) (no_makes names)) ∙ at;
          within = record { maps = no_maps names; progs = none_above names };
          rises = tt;
          gave = λ id make at low new. ap (λ (ms : ById Make). map.get ms id) (no_makes names) ∙ at;
        },
        tt,
      );
      come = (tt, tt);
      ids = λ id. sym (ap is_some (map.get-empty nat_cmp id));
      maps_below = λ id at. cc;
      progs_below = λ id at. cc;
      maps_ascend = tt;
      progs_ascend = tt;
      progs_listed = (no_progs names, tt);
      base_lives = none_retired names;
    })

pub new_lasts : (last base : LastIds) (lasts : List LastIds) → last ≡ none_given → base ≡ none_given → lasts ≡ [] → Each (IsUpTo last) (lasts_of base lasts)
new_lasts last base lasts is first none =
    subst (λ (x : LastIds × List LastIds). Each (IsUpTo last) (lasts_of x.0 x.1)) (λ i. (sym first i, sym none i)) (subst (λ l. IsUpTo last l) is (up_itself last), tt)
