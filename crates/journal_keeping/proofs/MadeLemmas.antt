-- A moment that is made keeps the boxes, with those of undone moments given up.
use Rattle.std.proofs.Common.{◌≡◌, ◌⊎◌, inl, inr, ℕ, ◌+◌, ◌≤◌, ◌<◌, Bool, true, false, cond, List, [], ◌∷◌, ◌++◌, length, reverse, take, drop, map as each, Option, Some, None, is_some, refl, sym, ◌∙◌, ap, subst, arith}
use Rattle.std.specs.Prelude.{IsTrue, option_to_list}
use Rattle.std.proofs.lemmas.List.{length-append, length-reverse, length-map, length-drop}
use Rattle.std.specs.FinMap as map
use Rattle.bt_objects.specs.Ids.{is_among}
use Rattle.bt_objects.specs.declared.make.Make.{Make}
use Rattle.bt_objects.specs.ById.{ById}
use Rattle.host_state.specs.State.{State}
use Rattle.host_state.specs.World.{makes_in}
use Rattle.host_state.specs.declared.reply.Reply.{Reply}
use Rattle.journal_model.specs.Told.{id_told, prog_told}
use Rattle.journal_model.specs.Plain.{Pasts, now}
use Rattle.journal_model.specs.Well.{Each, Tells, IdsUpTo}
use Rattle.journal_model.proofs.Lists.{Each-rest}
use Rattle.journal_timeline.specs.View.{LineView}
use Rattle.journal_keeping.specs.Boxes.{lasts_of, newest, IsUpTo, ListsProgs, HasComeFrom, IsKept, AreKept, KeepsBoxes, IsNewMap, IsNewProg, IsMade, states_of}
use Rattle.journal_keeping.specs.declared.ids.LastIds.{LastIds}
use Rattle.journal_keeping.proofs.IdsLemmas.{up_to-all, with_new, among_with, old_with, new_with, Rises-with, AreBelow-with, lasts-push, lasts-parts, newest_up, up_itself}
use Rattle.journal_keeping.proofs.BoxesLemmas.{state_of, in_state, has_box, box_of, get-kept, AreKept-length, AreKept-rest, AreKept-same, AllCome-rest, come_first, tells_each, newest_within, newest_has, listed_up, base_lives, lives_pasts}

above_newest : (ls : List LastIds) (q : ℕ) → 0 < length ls → IsNewMap ls q → (newest ls).map_id < q
above_newest [] q some h = absurd (omega (arith, some))
above_newest (l ∷ ls) q some h = h.0

above_newest_prog : (ls : List LastIds) (q : ℕ) → 0 < length ls → IsNewProg ls q → (newest ls).prog_id < q
above_newest_prog [] q some h = absurd (omega (arith, some))
above_newest_prog (l ∷ ls) q some h = h.0

-- the states that stand
abbrev standing : Pasts → List State
standing p = each state_of p.moments ++ p.base ∷ []

some_standing : (makes : ById Make) (p : Pasts) (ls : List LastIds) → AreKept makes (standing p) ls → 0 < length ls
some_standing makes p ls h = omega (arith, AreKept-length makes (standing p) ls h, length-append (each state_of p.moments) (p.base ∷ []))

-- what is asked of the boxes that are kept: those of the ids up to the last of the standing moments, and of the new id
pub record Keeps (line : LineView) (ls : List LastIds) (maps : List ℕ) (reply : Reply) (makes : ById Make) : Type 0 where
  pub is : (q : ℕ) → map.get makes q ≡ cond (is_among (with_new (newest ls).map_id maps (id_told reply)) q) (map.get line.makes q) None

-- the same boxes up to there as before
agrees : (line : LineView) (ks ls : List LastIds) (maps progs : List ℕ) (last : LastIds) (reply : Reply) (makes : ById Make) → (h : IsMade line (ks ++ ls) maps progs last reply) → 0 < length ls → Keeps line ls maps reply makes
    → (q : ℕ) → q ≤ (newest ls).map_id → map.get makes q ≡ map.get h.before.makes q
agrees line ks ls maps progs last reply makes h some k q low = k.is q ∙ here (is_among (with_new (newest ls).map_id maps (id_told reply)) q) refl (map.get h.before.makes q) refl
  where
    listed : is_among (with_new (newest ls).map_id maps (id_told reply)) q ≡ true → is_among maps q ≡ true
    listed e = elim (among_with (newest ls).map_id maps (id_told reply) q e) [
      | inl a ↦ a.1
      | inr told ↦ (let new : (newest ls).map_id < q = above_newest ls q some (Each-rest (λ (l : LastIds). l.map_id < q) ks ls (h.new_map q told).0) in absurd (omega (arith, low, new)))
    ]

    here : (b : Bool) → is_among (with_new (newest ls).map_id maps (id_told reply)) q ≡ b → (o : Option Make) → map.get h.before.makes q ≡ o → cond b (map.get line.makes q) None ≡ o
    here true e (Some make) f = h.had q make f
    here true e None f = let there : true ≡ is_some (map.get h.before.makes q) = sym (listed e) ∙ h.kept.ids q in cc (there ∙ ap is_some f)
    here false e None f = refl
    here false e (Some make) f = cc (sym e ∙ old_with (newest ls).map_id maps (id_told reply) q low (h.kept.ids q ∙ ap is_some f))

-- boxes that are listed are there
there_with : (line : LineView) (lasts : List LastIds) (top : ℕ) (maps progs : List ℕ) (last : LastIds) (reply : Reply) → (h : IsMade line lasts maps progs last reply) → (q : ℕ) → is_among (with_new top maps (id_told reply)) q ≡ true → map.contains_key line.makes q ≡ true
there_with line lasts top maps progs last reply h q e = elim (among_with top maps (id_told reply) q e) [
  | inl a ↦ box_of h.before.makes q (map.contains_key line.makes q ≡ true) (sym (h.kept.ids q) ∙ a.1) (λ make f. ap is_some (h.had q make f))
  | inr told ↦ h.has_box q told
]

-- the new moment is kept
new_kept : (line : LineView) (ks ls : List LastIds) (maps progs : List ℕ) (last : LastIds) (reply : Reply) (makes : ById Make) → (h : IsMade line (ks ++ ls) maps progs last reply) → AreKept h.before.makes (standing h.before.pasts) ls → Keeps line ls maps reply makes
    → IsKept makes h.moment.state last ls
new_kept line ks ls maps progs last reply makes h stands k = record {
  tells = λ id make e. k.is id ∙ ap (λ b. cond b (map.get line.makes id) None) (among id (h.maps_from id (in_state h.moment.state id make e))) ∙ h.tells id make e;
  within = record { maps = λ id there. low_map id (h.maps_from id there); progs = λ id there. low_prog id (h.progs_from id there) };
  rises = Each-rest (IsUpTo last) ks ls h.rises;
  gave = λ id make e low new. from id make new (is_among (with_new (newest ls).map_id maps (id_told reply)) id) refl (sym (k.is id) ∙ e);
}
  where
    within : IdsUpTo (newest ls).map_id (newest ls).prog_id (now h.before.pasts)
    within = newest_within h.before.makes h.before.pasts.base h.before.pasts.moments ls stands

    up : IsUpTo last (newest ls)
    up = newest_up last ls (Each-rest (IsUpTo last) ks ls h.rises)

    listed : (id : ℕ) → map.contains_key (now h.before.pasts).maps id ≡ true → is_among maps id ≡ true
    listed id was = h.kept.ids id ∙ has_box h.before.makes (now h.before.pasts) (newest_has (Tells h.before.makes) h.before.pasts.base h.before.pasts.moments (tells_each h.before.makes (standing h.before.pasts) ls stands)) id was

    among : (id : ℕ) → IsTrue (map.contains_key (now h.before.pasts).maps id) ⊎ (id_told reply ≡ Some id) → is_among (with_new (newest ls).map_id maps (id_told reply)) id ≡ true
    among id (inl was) = old_with (newest ls).map_id maps (id_told reply) id (within.maps id was) (listed id was)
    among id (inr told) = new_with (newest ls).map_id maps (id_told reply) id told

    low_map : (id : ℕ) → IsTrue (map.contains_key (now h.before.pasts).maps id) ⊎ (id_told reply ≡ Some id) → id ≤ last.map_id
    low_map id (inl was) = let l : id ≤ (newest ls).map_id = within.maps id was in omega (arith, l, up.0)
    low_map id (inr told) = (h.new_map id told).1

    low_prog : (id : ℕ) → IsTrue (map.contains_key (now h.before.pasts).progs id) ⊎ (prog_told reply ≡ Some id) → id ≤ last.prog_id
    low_prog id (inl was) = let l : id ≤ (newest ls).prog_id = within.progs id was in omega (arith, l, up.1)
    low_prog id (inr told) = (h.new_prog id told).1

    made : (id : ℕ) (make : Make) → id_told reply ≡ Some id → map.get line.makes id ≡ Some make → map.get (makes_in h.moment.state) id ≡ Some make
    made id make told e = elim (h.new id make e) [
      | inl was ↦ (let low : id ≤ (newest (ks ++ ls)).map_id = h.kept.maps_below id (h.kept.ids id ∙ ap is_some was) in
          let some : 0 < length (ks ++ ls) = omega (arith, length-append ks ls, some_standing h.before.makes h.before.pasts ls stands) in
          let above : (newest (ks ++ ls)).map_id < id = above_newest (ks ++ ls) id some (h.new_map id told).0 in absurd (omega (arith, low, above)))
      | inr a ↦ a.1
    ]

    from : (id : ℕ) (make : Make) → IsNewMap ls id → (b : Bool) → is_among (with_new (newest ls).map_id maps (id_told reply)) id ≡ b → cond b (map.get line.makes id) None ≡ Some make → map.get (makes_in h.moment.state) id ≡ Some make
    from id make new true f g = elim (among_with (newest ls).map_id maps (id_told reply) id f) [
      | inl a ↦ (let low : id ≤ (newest ls).map_id = a.0 in
          let above : (newest ls).map_id < id = above_newest ls id (some_standing h.before.makes h.before.pasts ls stands) new in absurd (omega (arith, low, above)))
      | inr told ↦ made id make told g
    ]
    from id make new false f g = cc

-- what the new moment has was there before it, or is new
new_come : (line : LineView) (ks ls : List LastIds) (maps progs : List ℕ) (last : LastIds) (reply : Reply) → (h : IsMade line (ks ++ ls) maps progs last reply) → 0 < length ls → HasComeFrom h.moment.state (standing h.before.pasts) ls
new_come line ks ls maps progs last reply h some = come_first h.moment.state h.before.pasts.base h.before.pasts.moments ls record {
  maps = λ id there. (elim (h.maps_from id there) [ inl was ↦ inl was | inr told ↦ inr (above_newest ls id some (Each-rest (λ (l : LastIds). l.map_id < id) ks ls (h.new_map id told).0)) ]);
  progs = λ id there. (elim (h.progs_from id there) [ inl was ↦ inl was | inr told ↦ inr (above_newest_prog ls id some (Each-rest (λ (l : LastIds). l.prog_id < id) ks ls (h.new_prog id told).0)) ]);
}

-- the boxes of the standing moments and of the new one are kept
pub KeepsBoxes-made : (line : LineView) (ks ls : List LastIds) (maps progs : List ℕ) (last : LastIds) (reply : Reply) (makes : ById Make) → (h : IsMade line (ks ++ ls) maps progs last reply) → length ks ≡ length h.before.pasts.undone → Keeps line ls maps reply makes
    → KeepsBoxes makes (states_of line.pasts) (last ∷ ls) (with_new (newest ls).map_id maps (id_told reply)) (with_new (newest ls).prog_id progs (prog_told reply))
KeepsBoxes-made line ks ls maps progs last reply makes h len k =
    let top : LastIds = newest ls in
    let ss : List State = standing h.before.pasts in
    let us : List State = reverse (each state_of h.before.pasts.undone) in
    let stands : AreKept h.before.makes ss ls = AreKept-rest h.before.makes us ss ks ls (length-reverse (each state_of h.before.pasts.undone) ∙ length-map h.before.pasts.undone state_of ∙ sym len) h.kept.kept in
    let some : 0 < length ls = some_standing h.before.makes h.before.pasts ls stands in
    let up : IsUpTo last top = newest_up last ls (Each-rest (IsUpTo last) ks ls h.rises) in
    let within : IdsUpTo top.map_id top.prog_id (now h.before.pasts) = newest_within h.before.makes h.before.pasts.base h.before.pasts.moments ls stands in
    let listed : Each (ListsProgs progs) ss = Each-rest (ListsProgs progs) us ss h.kept.progs_listed in
    subst (λ p. KeepsBoxes makes (states_of p) (last ∷ ls) (with_new top.map_id maps (id_told reply)) (with_new top.prog_id progs (prog_told reply))) (sym h.pasts) (record {
      come = (new_come line ks ls maps progs last reply h some, AllCome-rest us ss ks ls (length-reverse (each state_of h.before.pasts.undone) ∙ length-map h.before.pasts.undone state_of ∙ sym len) h.kept.come);
      kept = (new_kept line ks ls maps progs last reply makes h stands k, AreKept-same h.before.makes makes ss ls (agrees line ks ls maps progs last reply makes h some k) stands);
      ids = λ q. here q (is_among (with_new top.map_id maps (id_told reply)) q) refl ∙ sym (ap is_some (k.is q));
      maps_below = AreBelow-with top.map_id maps (id_told reply) last.map_id up.0 (λ q told. (h.new_map q told).1);
      progs_below = AreBelow-with top.prog_id progs (prog_told reply) last.prog_id up.1 (λ q told. (h.new_prog q told).1);
      maps_ascend = Rises-with top.map_id maps (id_told reply) h.kept.maps_ascend (λ q told. (let new : (newest ls).map_id < q = above_newest ls q some (Each-rest (λ (l : LastIds). l.map_id < q) ks ls (h.new_map q told).0) in omega (arith, new)));
      progs_ascend = Rises-with top.prog_id progs (prog_told reply) h.kept.progs_ascend (λ q told. (let new : (newest ls).prog_id < q = above_newest_prog ls q some (Each-rest (λ (l : LastIds). l.prog_id < q) ks ls (h.new_prog q told).0) in omega (arith, new)));
      progs_listed = (
        λ id there. (elim (h.progs_from id there) [
          | inl was ↦ old_with top.prog_id progs (prog_told reply) id (within.progs id was) (newest_has (ListsProgs progs) h.before.pasts.base h.before.pasts.moments listed id was)
          | inr told ↦ new_with top.prog_id progs (prog_told reply) id told
        ]),
        listed_up h.before.makes progs (with_new top.prog_id progs (prog_told reply)) ss ls stands (λ id low a. old_with top.prog_id progs (prog_told reply) id low a) listed,
      );
      base_lives = lives_pasts (record { base = h.before.pasts.base; moments = h.moment ∷ h.before.pasts.moments; undone = [] }) (base_lives h.before.makes h.before.pasts (ks ++ ls) maps progs h.kept);
    })
  where
    here : (q : ℕ) (b : Bool) → is_among (with_new (newest ls).map_id maps (id_told reply)) q ≡ b → b ≡ is_some (cond b (map.get line.makes q) None)
    here q true e = sym (there_with line (ks ++ ls) (newest ls).map_id maps progs last reply h q e)
    here q false e = refl

-- the other way round, if no moment was undone
listed_all : (line : LineView) (ls : List LastIds) (maps progs : List ℕ) (last : LastIds) (reply : Reply) → (h : IsMade line ls maps progs last reply) → (q : ℕ) → is_among (with_new (newest ls).map_id maps (id_told reply)) q ≡ map.contains_key line.makes q
listed_all line ls maps progs last reply h q = same (is_among (with_new (newest ls).map_id maps (id_told reply)) q) (map.contains_key line.makes q) (there_with line ls (newest ls).map_id maps progs last reply h q) back
  where
    same : (a b : Bool) → (a ≡ true → b ≡ true) → (b ≡ true → a ≡ true) → a ≡ b
    same true b f g = sym (f refl)
    same false true f g = g refl
    same false false f g = refl

    back : map.contains_key line.makes q ≡ true → is_among (with_new (newest ls).map_id maps (id_told reply)) q ≡ true
    back there = box_of line.makes q (is_among (with_new (newest ls).map_id maps (id_told reply)) q ≡ true) there (λ make e. elim (h.new q make e) [
      | inl was ↦ (let among : is_among maps q ≡ true = h.kept.ids q ∙ ap is_some was in old_with (newest ls).map_id maps (id_told reply) q (h.kept.maps_below q among) among)
      | inr a ↦ new_with (newest ls).map_id maps (id_told reply) q a.0
    ])

-- ---- the moment is noted
-- so many moments stood before it
undone_is : (base : LastIds) (line : LineView) (xs lasts : List LastIds) (maps progs : List ℕ) (last : LastIds) (reply : Reply) → lasts_of base xs ≡ lasts → (h : IsMade line lasts maps progs last reply) → length xs + 1 ≡ length h.before.pasts.undone + length line.pasts.moments
undone_is base line xs lasts maps progs last reply is h =
    let us : List State = reverse (each state_of h.before.pasts.undone) in
    omega (
      arith,
      AreKept-length h.before.makes (states_of h.before.pasts) lasts h.kept.kept,
      ap length is,
      ap (λ p. length p.moments) h.pasts,
      length-append us (standing h.before.pasts),
      length-reverse (each state_of h.before.pasts.undone),
      length-map h.before.pasts.undone state_of,
      length-append (each state_of h.before.pasts.moments) (h.before.pasts.base ∷ []),
      length-map h.before.pasts.moments state_of,
      length-append (reverse xs) (base ∷ []),
      length-reverse xs,
    )

pub some_moment : (line : LineView) (lasts : List LastIds) (maps progs : List ℕ) (last : LastIds) (reply : Reply) → IsMade line lasts maps progs last reply → 1 ≤ length line.pasts.moments
some_moment line lasts maps progs last reply h = omega (arith, ap (λ p. length p.moments) h.pasts)

-- nothing is given up
pub noted_more : (base : LastIds) (line : LineView) (xs : List LastIds) (maps progs : List ℕ) (last : LastIds) (reply : Reply) → IsMade line (lasts_of base xs) maps progs last reply → length xs + 1 ≡ length line.pasts.moments
    → KeepsBoxes line.makes (states_of line.pasts) (lasts_of base (xs ++ last ∷ [])) (maps ++ option_to_list (id_told reply)) (progs ++ option_to_list (prog_told reply))
noted_more base line xs maps progs last reply h all =
    subst (λ ls. KeepsBoxes line.makes (states_of line.pasts) ls (maps ++ option_to_list (id_told reply)) (progs ++ option_to_list (prog_told reply))) (sym (lasts-push base xs last))
    (subst (λ ids. KeepsBoxes line.makes (states_of line.pasts) (last ∷ lasts_of base xs) (ids ++ option_to_list (id_told reply)) (progs ++ option_to_list (prog_told reply))) (up_to-all (newest (lasts_of base xs)).map_id maps h.kept.maps_below)
    (subst (λ ids. KeepsBoxes line.makes (states_of line.pasts) (last ∷ lasts_of base xs) (with_new (newest (lasts_of base xs)).map_id maps (id_told reply)) (ids ++ option_to_list (prog_told reply))) (up_to-all (newest (lasts_of base xs)).prog_id progs h.kept.progs_below)
    (KeepsBoxes-made line [] (lasts_of base xs) maps progs last reply line.makes h (omega (arith, undone_is base line xs (lasts_of base xs) maps progs last reply refl h, all)) (record { is = λ q. sym (here q (map.get line.makes q) refl) }))))
  where
    itself : (o : Option Make) → cond (is_some o) o None ≡ o
    itself None = refl
    itself (Some make) = refl

    here : (q : ℕ) (o : Option Make) → map.get line.makes q ≡ o → cond (is_among (with_new (newest (lasts_of base xs)).map_id maps (id_told reply)) q) o None ≡ o
    here q o e = ap (λ b. cond b o None) (listed_all line (lasts_of base xs) maps progs last reply h q ∙ ap is_some e) ∙ itself o

-- what was given past so many moments is given up
pub noted_less : (base : LastIds) (line : LineView) (n : ℕ) (xs : List LastIds) (maps progs : List ℕ) (last : LastIds) (reply : Reply) (makes : ById Make) → IsMade line (lasts_of base xs) maps progs last reply → n + 1 ≡ length line.pasts.moments
    → makes ≡ map.retain_keys line.makes (is_among (with_new (newest (lasts_of base (take n xs))).map_id maps (id_told reply)))
    → KeepsBoxes makes (states_of line.pasts) (lasts_of base (take n xs ++ last ∷ [])) (with_new (newest (lasts_of base (take n xs))).map_id maps (id_told reply)) (with_new (newest (lasts_of base (take n xs))).prog_id progs (prog_told reply))
noted_less base line n xs maps progs last reply makes h all is =
    let ls : List LastIds = lasts_of base (take n xs) in
    let ks : List LastIds = reverse (drop n xs) in
    let parts : IsMade line (ks ++ ls) maps progs last reply = subst (λ lasts. IsMade line lasts maps progs last reply) (lasts-parts base n xs) h in
    let len : length ks ≡ length parts.before.pasts.undone = omega (arith, undone_is base line xs (ks ++ ls) maps progs last reply (lasts-parts base n xs) parts, all, length-reverse (drop n xs), length-drop n xs) in
    subst (λ lasts. KeepsBoxes makes (states_of line.pasts) lasts (with_new (newest ls).map_id maps (id_told reply)) (with_new (newest ls).prog_id progs (prog_told reply))) (sym (lasts-push base (take n xs) last))
    (KeepsBoxes-made line ks ls maps progs last reply makes parts len (record { is = λ q. ap (λ (m : ById Make). map.get m q) is ∙ get-kept line.makes (with_new (newest ls).map_id maps (id_told reply)) q }))

-- none of the last ids is above those of the new moment
pub noted_lasts : (base : LastIds) (xs : List LastIds) (n : ℕ) (last : LastIds) → Each (IsUpTo last) (lasts_of base xs) → Each (IsUpTo last) (lasts_of base (take n xs ++ last ∷ []))
noted_lasts base xs n last h =
    subst (Each (IsUpTo last)) (sym (lasts-push base (take n xs) last))
    (up_itself last, Each-rest (IsUpTo last) (reverse (drop n xs)) (lasts_of base (take n xs)) (subst (Each (IsUpTo last)) (lasts-parts base n xs) h))
