-- A recorded change makes a moment.
use Rattle.std.proofs.Common.{◌≡◌, ◌⊎◌, inl, inr, ℕ, ◌+◌, ◌≤◌, ◌<◌, Bool, true, false, cond, List, [], ◌∷◌, ◌++◌, Ok, Option, Some, None, is_some, IsSome, refl, sym, ◌∙◌, ap, subst, arith}
use Rattle.std.specs.Ordering.{nat_cmp, eq_by_cmp}
use Rattle.std.specs.Cmp.{nat_cmp_total}
use Rattle.std.specs.FinMap as map
use Rattle.bt_objects.specs.declared.make.Make.{Make}
use Rattle.bt_verify.specs.Verified.{Checked}
use Rattle.host_state.specs.declared.change.Change.{Change}
use Rattle.host_state.specs.declared.change.Change.TheVariants.{Create, Load}
use Rattle.host_state.specs.declared.reply.Reply.{Reply}
use Rattle.bt_objects.specs.ById.{ById}
use Rattle.host_state.specs.State.{State}
use Rattle.host_state.specs.World.{makes_in}
use Rattle.host_state.specs.Act.{act}
use Rattle.host_state.proofs.Lasting.{made_by, makes_after}
use Rattle.journal_model.specs.Told.{id_told, prog_told}
use Rattle.journal_model.specs.Plain.{now, newest_force, appended}
use Rattle.journal_model.specs.Replay.{Entry}
use Rattle.journal_model.specs.Well.{Each, Tells}
use Rattle.journal_model.proofs.Lists.{Each-map, Each-rest}
use Rattle.journal_model.proofs.Acts.{new_id, new_prog, new_box, IsDone, acted}
use Rattle.journal_model.proofs.Boxes.{with_box, tells_more, tells_after}
use Rattle.journal_model.proofs.Cases.{IsNumbered}
use Rattle.journal_model.proofs.Growing.{had_with}
use Rattle.journal_model.proofs.Mapped.{same_of, is_itself}
use Rattle.journal_keeping.specs.View.{LineView}
use Rattle.journal_keeping.specs.Steps.{Appends}
use Rattle.journal_keeping.specs.Boxes.{lasts_of, newest, IsUpTo, IsMade, KeepsBoxes, states_of}
use Rattle.bt_journal.specs.Recording.{MakesNone}
use Rattle.journal_keeping.specs.declared.ids.LastIds.{LastIds}
use Rattle.journal_keeping.proofs.IdsLemmas.{newest_up, up_trans, up_itself}
use Rattle.journal_keeping.proofs.BoxesLemmas.{has_box, tells_each, newest_has}

abbrev pub entry_at : ℕ → Change → Reply → Entry
entry_at serial change reply = record { serial = serial; change = change; reply = reply }

-- what a change makes gets the ids that follow the last
pub record IsNext (before last : LastIds) (change : Change) : Type 0 where
  pub up : IsUpTo last before
  pub numbered : IsNumbered (before.map_id + 1) (before.prog_id + 1) change
  pub map_id : (id : ℕ) → new_id change ≡ Some id → (id ≡ before.map_id + 1) × (id ≤ last.map_id)
  pub prog_id : (id : ℕ) → new_prog change ≡ Some id → (id ≡ before.prog_id + 1) × (id ≤ last.prog_id)

-- ---- the boxes with the new one
-- a box that was not there is of the new map
new_with_box : (change : Change) (makes : ById Make) (s t : State) → makes_in t ≡ makes_after change (makes_in s) → (q : ℕ) (make : Make) → map.get (with_box (new_box change) makes) q ≡ Some make
    → (map.get makes q ≡ Some make) ⊎ ((new_id change ≡ Some q) × (map.get (makes_in t) q ≡ Some make))
new_with_box (Create id attr charge name path template) makes s t made q make e =
    here (eq_by_cmp nat_cmp q id) refl (sym (map.get-insert nat_cmp_total makes id new q) ∙ e)
  where
    new : Make
    new = record { attr = attr; charge = charge }

    here : (b : Bool) → eq_by_cmp nat_cmp q id ≡ b → cond b (Some new) (map.get makes q) ≡ Some make → (map.get makes q ≡ Some make) ⊎ ((Some id ≡ Some q) × (map.get (makes_in t) q ≡ Some make))
    here true tied f = inr (
      ap Some (sym (same_of q id tied)),
      ap (λ (m : ById Make). map.get m q) made ∙ map.get-insert nat_cmp_total (makes_in s) id new q ∙ ap (λ b. cond b (Some new) (map.get (makes_in s) q)) tied ∙ f,
    )
    here false apart f = inl f
new_with_box _ makes s t made q make e = inl e

box_with : (change : Change) (makes : ById Make) (q : ℕ) → new_id change ≡ Some q → map.contains_key (with_box (new_box change) makes) q ≡ true
box_with (Create id attr charge name path template) makes q e =
    ap is_some (ap (map.get (map.insert makes id new)) (same e) ∙ map.get-insert nat_cmp_total makes id new id ∙ ap (λ b. cond b (Some new) (map.get makes id)) (is_itself id))
  where
    new : Make
    new = record { attr = attr; charge = charge }

    same : Some id ≡ Some q → q ≡ id
    same e = cc
box_with _ makes q e = cc

-- ---- the change is done
-- what a book keeps of its boxes and ids
pub record Kept (old : LineView) (lasts : List LastIds) (maps progs : List ℕ) (before : LastIds) : Type 0 where
  pub boxes : KeepsBoxes old.makes (states_of old.pasts) lasts maps progs
  pub given : Each (IsUpTo before) lasts

-- the next id is free
pub free_box : (old : LineView) (ls : List LastIds) (maps progs : List ℕ) (before : LastIds) → Kept old ls maps progs before → ¬ (IsSome (map.get old.makes (before.map_id + 1)))
free_box old ls maps progs before h s =
    let low : before.map_id + 1 ≤ (newest ls).map_id = h.boxes.maps_below (before.map_id + 1) (h.boxes.ids (before.map_id + 1) ∙ s) in
    let up : IsUpTo before (newest ls) = newest_up before ls h.given in
    absurd (omega (arith, low, up.0))

-- the change was done with its box taken in
pub made_by_change : (old placed new : LineView) (ls : List LastIds) (maps progs : List ℕ) (before last : LastIds) (serial : ℕ) (change : Change) (reply : Reply) → Kept old ls maps progs before → IsNext before last change
    → placed.pasts ≡ old.pasts → placed.makes ≡ with_box (new_box change) old.makes → Appends placed serial change (Ok reply) new.pasts → new.makes ≡ placed.makes → IsMade new ls maps progs last reply
made_by_change old placed new ls maps progs before last serial change reply h n same box a m =
    let t : State = a.0 in
    let acts : act (now old.pasts) change ≡ Ok (t, reply) = ap (λ p. act (now p) change) (sym same) ∙ a.1 in
    let d : IsDone (now old.pasts) change (t, reply) = acted (now old.pasts) change (t, reply) acts in
    let boxes : new.makes ≡ with_box (new_box change) old.makes = m ∙ box in
    let made : makes_in t ≡ makes_after change (makes_in (now old.pasts)) = made_by (now old.pasts) t change reply acts in
    let tells : Tells old.makes (now old.pasts) = newest_has (Tells old.makes) old.pasts.base old.pasts.moments (Each-rest (Tells old.makes) _ _ (tells_each old.makes (states_of old.pasts) ls h.boxes.kept)) in
    let within : (id : ℕ) → map.contains_key (now old.pasts).maps id ≡ true → id ≤ before.map_id = below tells in
    let told : (id : ℕ) → id_told reply ≡ Some id → new_id change ≡ Some id = λ id e. sym d.told ∙ e in
    let told_prog : (id : ℕ) → prog_told reply ≡ Some id → new_prog change ≡ Some id = λ id e. sym d.prog_told ∙ e in
    record {
      before = old;
      kept = h.boxes;
      moment = record { serial = serial; out = None; force = newest_force old.pasts.moments ++ entry_at serial change reply ∷ []; state = t };
      pasts = a.2 ∙ ap (λ p. appended p (entry_at serial change reply) t) same;
      tells = subst (λ (o : ById Make). Tells o t) (sym boxes) (tells_after old.makes (now old.pasts) change (t, reply) d (tells_more old.makes before.map_id (before.prog_id + 1) change n.numbered (now old.pasts) within tells));
      maps_from = λ id there. or_told (d.maps id there) d.told;
      progs_from = λ id there. or_told (d.progs id there) d.prog_told;
      had = λ id make e. ap (λ (o : ById Make). map.get o id) boxes ∙ had_with change old.makes (λ q e. free q (n.map_id q e).0) id make e;
      new = λ id make e. (elim (new_with_box change old.makes (now old.pasts) t made id make (sym (ap (λ (o : ById Make). map.get o id) boxes) ∙ e)) [ inl was ↦ inl was | inr b ↦ inr (d.told ∙ b.0, b.1) ]);
      has_box = λ id e. ap (λ (o : ById Make). map.contains_key o id) boxes ∙ box_with change old.makes id (told id e);
      new_map = λ id e. (above_all id (n.map_id id (told id e)).0, (n.map_id id (told id e)).1);
      new_prog = λ id e. (above_all_progs id (n.prog_id id (told_prog id e)).0, (n.prog_id id (told_prog id e)).1);
      rises = up_trans last before ls n.up h.given;
    }
  where
    below : Tells old.makes (now old.pasts) → (id : ℕ) → map.contains_key (now old.pasts).maps id ≡ true → id ≤ before.map_id
    below tells id there =
        let low : id ≤ (newest ls).map_id = h.boxes.maps_below id (h.boxes.ids id ∙ has_box old.makes (now old.pasts) tells id there) in
        let up : IsUpTo before (newest ls) = newest_up before ls h.given in omega (arith, low, up.0)

    or_told : {P : Type 0} {x y z : Option ℕ} → P ⊎ (y ≡ z) → x ≡ y → P ⊎ (x ≡ z)
    or_told (inl p) e = inl p
    or_told (inr q) e = inr (e ∙ q)

    free : (q : ℕ) → q ≡ before.map_id + 1 → ¬ (IsSome (map.get old.makes q))
    free q e = subst (λ i. ¬ (IsSome (map.get old.makes i))) (sym e) (free_box old ls maps progs before h)

    above_all : (q : ℕ) → q ≡ before.map_id + 1 → Each (λ (l : LastIds). l.map_id < q) ls
    above_all q e = Each-map (IsUpTo before) (λ (l : LastIds). l.map_id < q) ls (λ l u. omega (arith, u.0, e)) h.given

    above_all_progs : (q : ℕ) → q ≡ before.prog_id + 1 → Each (λ (l : LastIds). l.prog_id < q) ls
    above_all_progs q e = Each-map (IsUpTo before) (λ (l : LastIds). l.prog_id < q) ls (λ l u. omega (arith, u.1, e)) h.given

-- the same lists
pub made_at : (line : LineView) (base top : LastIds) (ls ks : List LastIds) (maps more progs others : List ℕ) (last : LastIds) (reply : Reply) → top ≡ base → ks ≡ ls → more ≡ maps → others ≡ progs → IsMade line (lasts_of base ls) maps progs last reply → IsMade line (lasts_of top ks) more others last reply
made_at line base top ls ks maps more progs others last reply b l m p h =
    subst (λ (x : LastIds × (List LastIds × (List ℕ × List ℕ))). IsMade line (lasts_of x.0 x.1.0) x.1.1.0 x.1.1.1 last reply) (λ i. (sym b i, (sym l i, (sym m i, sym p i)))) h

-- ---- a change that makes nothing
record MakesNothing (before : LastIds) (change : Change) : Type 0 where
  next : IsNext before before change
  box : new_box change ≡ None

nothing : (before : LastIds) (change : Change) → new_id change ≡ None → new_prog change ≡ None → new_box change ≡ None → IsNumbered (before.map_id + 1) (before.prog_id + 1) change → MakesNothing before change
nothing before change i p b n = record {
  next = record { up = up_itself before; numbered = n; map_id = λ id e. cc (sym i ∙ e); prog_id = λ id e. cc (sym p ∙ e) };
  box = b;
}

makes_nothing : (before : LastIds) (change : Change) → MakesNone change → MakesNothing before change
makes_nothing before (Create id attr charge name path template) n = absurd n
makes_nothing before (Load id code name path) n = absurd n
makes_nothing before change n = nothing before change refl refl refl tt

pub made_known : (old new : LineView) (ls : List LastIds) (maps progs : List ℕ) (before : LastIds) (serial : ℕ) (change : Change) (reply : Reply) → Kept old ls maps progs before → MakesNone change
    → Appends old serial change (Ok reply) new.pasts → new.makes ≡ old.makes → IsMade new ls maps progs before reply
made_known old new ls maps progs before serial change reply h none a m =
    let n : MakesNothing before change = makes_nothing before change none in
    made_by_change old old new ls maps progs before before serial change reply h n.next refl (sym (ap (λ box. with_box box old.makes) n.box)) a m

-- ---- a change that loads a program
pub made_loaded : (old new : LineView) (ls : List LastIds) (maps progs : List ℕ) (before : LastIds) (serial : ℕ) (code : Checked) (name path : List ℕ) (reply : Reply) → Kept old ls maps progs before
    → Appends old serial (Load (before.prog_id + 1) code name path) (Ok reply) new.pasts → new.makes ≡ old.makes → IsMade new ls maps progs (record { map_id = before.map_id; prog_id = before.prog_id + 1 }) reply
made_loaded old new ls maps progs before serial code name path reply h a m =
    made_by_change old old new ls maps progs before (record { map_id = before.map_id; prog_id = before.prog_id + 1 }) serial (Load (before.prog_id + 1) code name path) reply h (record {
      up = (omega arith, omega arith);
      numbered = refl;
      map_id = λ id e. cc;
      prog_id = λ id e. next id e;
    }) refl refl a m
  where
    same : (id : ℕ) → Some (before.prog_id + 1) ≡ Some id → id ≡ before.prog_id + 1
    same id e = cc

    next : (id : ℕ) → Some (before.prog_id + 1) ≡ Some id → (id ≡ before.prog_id + 1) × (id ≤ before.prog_id + 1)
    next id e = let is : id ≡ before.prog_id + 1 = same id e in (is, omega (arith, is))

-- ---- a change that makes a map of this box
-- a change that makes this of a box under this id
abbrev pub IsNew : ℕ → Make → Change → Type 0
IsNew new make (Create id attr charge name path template) = (id ≡ new) × (make ≡ record { attr = attr; charge = charge })
IsNew new make _ = ⊥

record MakesMap (before : LastIds) (make : Make) (change : Change) : Type 0 where
  next : IsNext before (record { map_id = before.map_id + 1; prog_id = before.prog_id }) change
  box : new_box change ≡ Some (before.map_id + 1, make)

makes_map : (before : LastIds) (make : Make) (change : Change) → IsNew (before.map_id + 1) make change → MakesMap before make change
makes_map before make (Create id attr charge name path template) n = record {
  next = record { up = (omega arith, omega arith); numbered = n.0; map_id = λ q e. next q e; prog_id = λ q e. cc };
  box = ap (λ i. let r : Option (ℕ × Make) = Some (i, record { attr = attr; charge = charge }) in r) n.0 ∙ ap (λ k. let r : Option (ℕ × Make) = Some (before.map_id + 1, k) in r) (sym n.1);
}
  where
    same : (q : ℕ) → Some id ≡ Some q → q ≡ id
    same q e = cc

    next : (q : ℕ) → Some id ≡ Some q → (q ≡ before.map_id + 1) × (q ≤ before.map_id + 1)
    next q e = let is : q ≡ before.map_id + 1 = same q e ∙ n.0 in (is, omega (arith, is))
makes_map before make _ n = absurd n

pub made_new : (old placed new : LineView) (ls : List LastIds) (maps progs : List ℕ) (before : LastIds) (serial : ℕ) (change : Change) (make : Make) (reply : Reply) → Kept old ls maps progs before → IsNew (before.map_id + 1) make change
    → placed.pasts ≡ old.pasts → placed.makes ≡ map.insert old.makes (before.map_id + 1) make → Appends placed serial change (Ok reply) new.pasts → new.makes ≡ placed.makes
    → IsMade new ls maps progs (record { map_id = before.map_id + 1; prog_id = before.prog_id }) reply
made_new old placed new ls maps progs before serial change make reply h new_is same box a m =
    let n : MakesMap before make change = makes_map before make change new_is in
    made_by_change old placed new ls maps progs before (record { map_id = before.map_id + 1; prog_id = before.prog_id }) serial change reply h n.next same (box ∙ sym (ap (λ b. with_box b old.makes) n.box)) a m
