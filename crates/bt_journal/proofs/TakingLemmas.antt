-- The objects of a book from which one change is being taken out.
use Rattle.std.proofs.Common.{◌≡◌, inl, inr, ℕ, Bool, true, false, cond, List, ◌∷◌, Result, Ok, Err, Option, Some, None, sym, ◌∙◌, ap, subst}
use Rattle.std.specs.Prelude.{IsTrue}
use Rattle.std.specs.Cmp.{nat_cmp_total}
use Rattle.std.specs.FinMap as map
use Rattle.bt_objects.specs.declared.make.Make.{Make}
use Rattle.host_state.specs.declared.change.Change.{Change}
use Rattle.host_state.specs.declared.change.Change.TheVariants.{Create}
use Rattle.host_state.specs.declared.reply.Reply.TheVariants.{Done}
use Rattle.bt_objects.specs.ById.{ById}
use Rattle.host_state.specs.State.{HostProg, State}
use Rattle.host_state.specs.World.{makes_in}
use Rattle.host_state.specs.Act.{act}
use Rattle.host_state.proofs.Lasting.{made_by, makes_after}
use Rattle.journal_model.specs.Told.{prog_told}
use Rattle.journal_model.specs.Replay.{Entry}
use Rattle.journal_model.specs.Plain.{now}
use Rattle.journal_model.specs.Well.{Each, Tells}
use Rattle.journal_model.specs.Without.{with_taking_out}
use Rattle.journal_model.proofs.Lists.{Each-map, Each-rest}
use Rattle.journal_model.proofs.Acts.{new_box, IsDone, acted}
use Rattle.journal_model.proofs.Growing.{makes_stay, progs_stay, prog_after}
use Rattle.journal_model.proofs.Replaying.{answers}
use Rattle.journal_model.proofs.Mapped.{has-mapped, is_itself}
use Rattle.journal_keeping.specs.View.{LineView}
use Rattle.journal_keeping.specs.Boxes.{IsUpTo, IsMade, KeepsBoxes, states_of}
use Rattle.journal_keeping.specs.Staged.{Staged, SameLine, HasBlankIn, HasBoxesLeft, TakesOutAlone, TurnsBack, DoesNext, StaysStaged, GoesOn}
use Rattle.journal_keeping.specs.AgainFault.{AgainFault}
use Rattle.journal_keeping.specs.AgainFault.TheVariants.{Differs, NoMemory}
use Rattle.bt_journal.specs.Taking.{IsPart}
use Rattle.journal_keeping.specs.declared.ids.LastIds.{LastIds}
use Rattle.journal_keeping.proofs.BoxesLemmas.{box_of, in_state, tells_each, newest_has}

-- ---- what a change makes is there
blank_after : (change : Change) (makes after : ById Make) → after ≡ makes_after change makes → HasBlankIn after change
blank_after (Create id attr charge name path template) makes after e =
    ap (λ (m : ById Make). map.get m id) e ∙ map.get-insert nat_cmp_total makes id (record { attr = attr; charge = charge }) id ∙ ap (λ b. cond b (Some (record { attr = attr; charge = charge })) (map.get makes id)) (is_itself id)
blank_after _ makes after e = tt

blank_more : (change : Change) (makes more : ById Make) → ((id : ℕ) (make : Make) → map.get makes id ≡ Some make → map.get more id ≡ Some make) → HasBlankIn makes change → HasBlankIn more change
blank_more (Create id attr charge name path template) makes more f h = f id _ h
blank_more _ makes more f h = tt

blank_box : (change : Change) (makes : ById Make) (id : ℕ) (make : Make) → HasBlankIn makes change → new_box change ≡ Some (id, make) → map.get makes id ≡ Some make
blank_box (Create its attr charge name path template) makes id make h n = subst (λ (box : ℕ × Make). map.get makes box.0 ≡ Some box.1) (same n) h
  where
    new : Make
    new = record { attr = attr; charge = charge }

    same : ◌≡◌ {A = Option (ℕ × Make)} (Some (its, new)) (Some (id, make)) → ◌≡◌ {A = ℕ × Make} (its, new) (id, make)
    same e = cc
blank_box _ makes id make h n = cc

-- ---- the parts
left_more : (P : Entry → Type 0) (b : Bool) (e : Entry) (olds news : List Entry) → news ≡ cond b olds (e ∷ olds) → P e → Each P olds → Each P news
left_more P true e olds news is p h = subst (Each P) (sym is) h
left_more P false e olds news is p h = subst (Each P) (sym is) (p, h)

pub part_back : (whole : State) (old new : Staged) (is_it : Bool) → TurnsBack old is_it new → IsPart whole old.state old.left → IsPart whole new.state new.left
part_back whole old new is_it t h =
    let e : Entry = t.last.0 in
    let acts : act new.state e.change ≡ Ok (old.state, e.reply) = answers new.state old.state e t.acts in
    let d : IsDone new.state e.change (old.state, e.reply) = acted new.state e.change (old.state, e.reply) acts in
    record {
      maps = λ id make f. h.maps id make (makes_stay new.state old.state e.change e.reply acts id make f);
      progs = λ id f. h.progs id (progs_stay new.state old.state e.change e.reply acts id f);
      boxes_left = left_more (λ (e : Entry). HasBlankIn (makes_in whole) e.change) is_it e old.left new.left t.last.3 (blank_more e.change (makes_in old.state) (makes_in whole) h.maps (blank_after e.change (makes_in new.state) (makes_in old.state) (made_by new.state old.state e.change e.reply acts))) h.boxes_left;
      progs_left = left_more (λ (e : Entry). (id : ℕ) → prog_told e.reply ≡ Some id → IsTrue (map.contains_key whole.progs id)) is_it e old.left new.left t.last.3 (λ id told. h.progs id (prog_after new.state old.state e.change e.reply acts id (sym d.prog_told ∙ told))) h.progs_left;
    }

-- the one is taken out alone
pub part_alone : (whole : State) (old new : Staged) → TakesOutAlone old new → IsPart whole old.state old.left → IsPart whole new.state new.left
part_alone whole old new t h = record {
  maps = λ id make f. h.maps id make (ap (λ (m : ById Make). map.get m id) (sym t.makes) ∙ f);
  progs = λ id f. h.progs id (ap (λ (m : ById HostProg). map.contains_key m id) (sym t.progs) ∙ f);
  boxes_left = subst (Each (λ (e : Entry). HasBlankIn (makes_in whole) e.change)) (sym t.left) tt;
  progs_left = subst (Each (λ (e : Entry). (id : ℕ) → prog_told e.reply ≡ Some id → IsTrue (map.contains_key whole.progs id))) (sym t.left) tt;
}

pub part_next : (whole : State) (old new : Staged) → DoesNext old new → IsPart whole old.state old.left → IsPart whole new.state new.left
part_next whole old new t h =
    let e : Entry = t.next.0 in
    let d : IsDone old.state e.change (new.state, e.reply) = acted old.state e.change (new.state, e.reply) (answers old.state new.state e t.next.3) in
    let boxes : Each (λ (e : Entry). HasBlankIn (makes_in whole) e.change) (e ∷ new.left) = subst (Each (λ (e : Entry). HasBlankIn (makes_in whole) e.change)) t.next.1 h.boxes_left in
    let progs : Each (λ (e : Entry). (id : ℕ) → prog_told e.reply ≡ Some id → IsTrue (map.contains_key whole.progs id)) (e ∷ new.left) =
    subst (Each (λ (e : Entry). (id : ℕ) → prog_told e.reply ≡ Some id → IsTrue (map.contains_key whole.progs id))) t.next.1 h.progs_left in
    record {
      maps = λ id make f. (elim (d.boxes id make f) [ inl was ↦ h.maps id make was | inr n ↦ blank_box e.change (makes_in whole) id make boxes.0 n ]);
      progs = λ id f. (elim (d.progs id f) [ inl was ↦ h.progs id was | inr n ↦ progs.0 id (d.prog_told ∙ n) ]);
      boxes_left = boxes.1;
      progs_left = progs.1;
    }

pub part_stays : (whole : State) (old new : Staged) → StaysStaged old new → IsPart whole old.state old.left → IsPart whole new.state new.left
part_stays whole old new t h = subst (λ (x : State × List Entry). IsPart whole x.0 x.1) (λ i. (sym t.state i, sym t.left i)) h

-- what is still to be done again has its boxes
pub boxes_left : (s : Staged) (lasts : List LastIds) (maps progs : List ℕ) → KeepsBoxes s.line.makes (states_of s.line.pasts) lasts maps progs → IsPart (now s.line.pasts) s.state s.left → HasBoxesLeft s
boxes_left s lasts maps progs k h =
    let tells : Tells s.line.makes (now s.line.pasts) = newest_has (Tells s.line.makes) s.line.pasts.base s.line.pasts.moments (Each-rest (Tells s.line.makes) _ _ (tells_each s.line.makes (states_of s.line.pasts) lasts k.kept)) in
    Each-map (λ (e : Entry). HasBlankIn (makes_in (now s.line.pasts)) e.change) (λ (e : Entry). HasBlankIn s.line.makes e.change) s.left (λ e b. blank_more e.change (makes_in (now s.line.pasts)) s.line.makes tells b) h.boxes_left

-- ---- the taking out is a moment
none_told : (id : ℕ) → ◌≡◌ {A = Option ℕ} None (Some id) → ⊥
none_told id e = cc

pub made_taken : (s : Staged) (line : LineView) (serial : ℕ) (lasts : List LastIds) (maps progs : List ℕ) (last : LastIds) → KeepsBoxes s.line.makes (states_of s.line.pasts) lasts maps progs → Each (IsUpTo last) lasts → IsPart (now s.line.pasts) s.state s.left
    → line.pasts ≡ with_taking_out s.line.pasts serial s.serial s.in_place s.state → line.makes ≡ s.line.makes → IsMade line lasts maps progs last Done
made_taken s line serial lasts maps progs last k up h p m =
    let tells : Tells s.line.makes (now s.line.pasts) = newest_has (Tells s.line.makes) s.line.pasts.base s.line.pasts.moments (Each-rest (Tells s.line.makes) _ _ (tells_each s.line.makes (states_of s.line.pasts) lasts k.kept)) in
    record {
      before = s.line;
      kept = k;
      moment = record { serial = serial; out = Some s.serial; force = s.in_place; state = s.state };
      pasts = p;
      tells = λ id make f. ap (λ (o : ById Make). map.get o id) m ∙ tells id make (h.maps id make f);
      maps_from = λ id there. inl (box_of (makes_in s.state) id (IsTrue (map.contains_key (now s.line.pasts).maps id)) (has-mapped _ s.state.maps id ∙ there) (λ make f. in_state (now s.line.pasts) id make (h.maps id make f)));
      progs_from = λ id there. inl (h.progs id there);
      had = λ id make f. ap (λ (o : ById Make). map.get o id) m ∙ f;
      new = λ id make f. inl (sym (ap (λ (o : ById Make). map.get o id) m) ∙ f);
      has_box = λ id e. absurd (none_told id e);
      new_map = λ id e. absurd (none_told id e);
      new_prog = λ id e. absurd (none_told id e);
      rises = up;
    }

-- ---- the next change, done again or refused
pub same_went : (old new : Staged) (result : Result (Unit {0}) AgainFault) → GoesOn old result new → SameLine old new
same_went old new (Ok done) h = h.same
same_went old new (Err (Differs serial)) h = h.1.same
same_went old new (Err NoMemory) h = h.same

pub part_went : (whole : State) (old new : Staged) (result : Result (Unit {0}) AgainFault) → GoesOn old result new → IsPart whole old.state old.left → IsPart whole new.state new.left
part_went whole old new (Ok done) h p = part_next whole old new h p
part_went whole old new (Err (Differs serial)) h p = part_stays whole old new h.1 p
part_went whole old new (Err NoMemory) h p = part_stays whole old new h p
