-- A stage of a timeline: the next record is done again.
use Rattle.std.proofs.Common.{◌≡◌, ℕ, zero, suc, ◌+◌, ◌-◌, ◌<◌, ◌≤◌, true, List, [], ◌∷◌, ◌++◌, length, get_or, take, drop, reverse, refl, sym, ◌∙◌, ap, subst, arith, Ok, Err, Some}
use Rattle.std.proofs.lemmas.List.{take-append-le, length-append, length-reverse, drop_more, get_or-reverse}
use Rattle.host_state.specs.State.{State}
use Rattle.host_state.specs.World.{Ready, WorldView}
use Rattle.host_state.proofs.Growth.{Grows}
use Rattle.host_state.specs.Act.{act}
use Rattle.host_undoing.specs.Exchange.{back_of, Joins}
use Rattle.host_apart.specs.Alike.{HasByteKey}
use Rattle.journal_model.specs.Replay.{Entry, as_before}
use Rattle.journal_moments.specs.After.{state_after}
use Rattle.journal_moments.specs.Recorded.{Recorded}
use Rattle.journal_moments.specs.Line.{entry_of, entries, RetiresJust, retired_by, AllLying, stood, Leads, swapped, CanSwap, Down, Up}
use Rattle.journal_timeline.specs.StageHeld.{StageHeld, base_of, staged_of, Redoing, SoundStage}
use Rattle.host_undoing.specs.Answers.{IsOwn, IsUnchanged}
use Rattle.journal_timeline.specs.Steps.{DoesAgain}
use Rattle.journal_timeline.specs.Staged.{DoesNext, StaysStaged, GoesOn}
use Rattle.journal_timeline.specs.declared.stage.AgainFault.{AgainFault}
use Rattle.journal_timeline.specs.declared.stage.AgainFault.TheVariants.{Differs, NoMemory}
use Rattle.journal_moments.proofs.LineLemmas.{entries-append}
use Rattle.journal_moments.proofs.SwapLemmas.{CanSwap-room, Down-room, Up-room, swapped-alone, stands_none}
use Rattle.journal_moments.proofs.AppendLemmas.{leads_push}
use Rattle.journal_moments.proofs.GrownLemmas.{AllStanding-grow, CanSwap-grow, Down-grow, Up-grow}
use Rattle.journal_timeline.proofs.StageLemmas.{stage_from, stage_line, is_redoing, phase_true}

-- ---- with more that stands ready
abbrev pub with_ready : StageHeld → Ready → StageHeld
with_ready a ready = record a { world = record a.world { ready = ready } }

pub SoundStage-grow : (a : StageHeld) (ready : Ready) → Grows a.world.ready ready → SoundStage a → a.out ≡ true → SoundStage (with_ready a ready)
SoundStage-grow a ready g s o =
    let t : Redoing a = is_redoing a s o in
    record {
      leads = record { standing = AllStanding-grow a.world.ready ready _ _ g s.leads.standing; top = s.leads.top };
      can = CanSwap-grow a.world.ready ready _ _ _ _ g s.can;
      spare = s.spare;
      out = s.out;
      phase = phase_true a.out (with_ready a ready) o (record { at = t.at; passed = t.passed; none_left = t.none_left; room_spare = t.room_spare });
      down = Down-grow a.world.ready ready _ _ _ _ g s.down;
      up = Up-grow a.world.ready ready _ _ _ _ g s.up;
      room_records = s.room_records;
      counts = s.counts;
      room_moments = s.room_moments;
    }

-- ---- the next record was done again in a, giving b
pub record GoesAgain (a b : StageHeld) (old r : Recorded) : Type 0 where
  pub is_out : a.out ≡ true
  pub some : a.passed < length a.pending.other
  pub read : old ≡ get_or a.pending.other (length a.pending.other - 1 - a.passed) old
  pub entry : r.entry ≡ old.entry
  pub acts : act a.world.state r.entry.change ≡ Ok (b.world.state, r.entry.reply)
  pub own : IsOwn a.world.state r.entry.change r.undoing.part
  pub bytes : HasByteKey r.undoing.part
  pub joins : Joins a.world.ready a.world.state b.world.state r.undoing (back_of b.world.state r.undoing)
  pub retires : RetiresJust a.world.state b.world.state (retired_by r)
  pub ready : b.world.ready ≡ a.world.ready
  pub records : b.records ≡ a.records ++ r ∷ []
  pub room : b.room ≡ a.room
  pub fits : length b.records ≤ b.room
  pub pending : b.pending ≡ a.pending
  pub spare : b.spare ≡ a.spare
  pub serial : b.serial ≡ a.serial
  pub out : b.out ≡ a.out
  pub passed : b.passed ≡ a.passed + 1
  pub moments : b.moments ≡ a.moments
  pub moments_room : b.moments_room ≡ a.moments_room
  pub undone : b.undone ≡ a.undone
  pub standing : b.standing ≡ a.standing

again_leads : (a b : StageHeld) (old r : Recorded) → SoundStage a → GoesAgain a b old r → Leads a.world.ready (base_of a) b.world.state b.records
again_leads a b old r s g =
    subst (Leads a.world.ready (base_of a) b.world.state) (sym g.records)
    (leads_push a.world.ready (base_of a) a.world.state b.world.state a.records r s.leads g.acts g.own g.bytes g.joins g.retires)

again_take : (a : StageHeld) (r : Recorded) → SoundStage a → take a.pending.at (a.records ++ r ∷ []) ≡ take a.pending.at a.records
again_take a r s = take-append-le a.pending.at a.records (r ∷ []) (omega (arith, s.can.within))

-- while any is left to do again, none stayed in place after the one
no_others : (stays passed held : ℕ) → (0 < stays → passed ≡ held) → passed < held → stays ≡ 0
no_others zero passed held h some = refl
no_others (suc k) passed held h some = let all : passed ≡ held = h (omega arith) in absurd (omega (arith, all, some))

again_none : (a b : StageHeld) (old r : Recorded) → SoundStage a → GoesAgain a b old r → a.pending.stays ≡ 0
again_none a b old r s g = no_others a.pending.stays a.passed (length a.pending.other) (is_redoing a s g.is_out).none_left g.some

again_swapped : (a b : StageHeld) (old r : Recorded) → SoundStage a → GoesAgain a b old r → swapped (base_of a) b.records b.pending ≡ swapped (base_of a) a.records a.pending
again_swapped a b old r s g =
    ap (λ m. swapped (base_of a) b.records m) g.pending
    ∙ ap (λ xs. swapped (base_of a) xs a.pending) g.records
    ∙ swapped-alone (base_of a) (a.records ++ r ∷ []) a.pending (again_none a b old r s g)
    ∙ ap (λ xs. xs ++ stood (state_after (base_of a) (entries xs)) (reverse a.pending.other)) (again_take a r s)
    ∙ sym (swapped-alone (base_of a) a.records a.pending (again_none a b old r s g))

again_redoing : (a b : StageHeld) (old r : Recorded) → SoundStage a → GoesAgain a b old r → Redoing b
again_redoing a b old r s g =
    let t : Redoing a = is_redoing a s g.is_out in
    record {
      at = omega (arith, t.at, ap length g.records, length-append a.records (r ∷ []), ap (λ m. m.at) g.pending, ap (λ m. m.stays) g.pending, g.passed);
      passed = omega (arith, g.some, g.passed, ap (λ m. length m.other) g.pending);
      none_left = λ some. absurd (omega (arith, some, again_none a b old r s g, ap (λ m. m.stays) g.pending));
      room_spare = λ left. let room : length a.pending.other ≤ a.pending.room = t.room_spare g.some in omega (arith, room, ap (λ m. length m.other) g.pending, ap (λ m. m.room) g.pending);
    }

again_can : (a b : StageHeld) (old r : Recorded) → SoundStage a → GoesAgain a b old r → CanSwap a.world.ready (base_of a) b.records b.room b.pending
again_can a b old r s g =
    let t : Redoing a = is_redoing a s g.is_out in
    subst (CanSwap a.world.ready (base_of a) b.records b.room) (sym g.pending)
    (subst (λ xs. CanSwap a.world.ready (base_of a) xs b.room a.pending) (sym g.records)
    (record {
      within = omega (arith, s.can.within, length-append a.records (r ∷ []));
      standing = stands_none a.world.ready _ a.pending.stays (a.records ++ r ∷ []) (again_none a b old r s g);
      one = λ some. absurd (omega (arith, some, again_none a b old r s g));
      lying = subst (λ xs. AllLying a.world.ready (state_after (base_of a) (entries xs)) (reverse a.pending.other)) (sym (again_take a r s)) s.can.lying;
      room_back = let room : length a.pending.other ≤ a.pending.room = t.room_spare g.some in omega (arith, length-append a.records (r ∷ []), t.at, room, g.some);
      room_forth = omega (arith, s.can.room_forth, g.room);
    }))

pub SoundStage-again : (a b : StageHeld) (old r : Recorded) → SoundStage a → GoesAgain a b old r → SoundStage b
SoundStage-again a b old r s g =
    let base : State = base_of a in
    let whole : List Recorded = swapped base a.records a.pending in
    stage_from a.world.ready b base whole g.ready (again_leads a b old r s g) (again_can a b old r s g) (g.spare ∙ s.spare) (ap (λ m. m.out) g.pending ∙ s.out ∙ ap Some (sym g.serial)) (phase_true b.out b (g.out ∙ g.is_out) (again_redoing a b old r s g)) (again_swapped a b old r s g)
    (subst (λ ms. Down a.world.ready base whole b.room (reverse ms)) (sym g.moments) (Down-room a.world.ready _ _ _ _ _ (omega (arith, g.room)) s.down))
    (subst (λ us. Up a.world.ready base whole b.room us) (sym g.undone) (Up-room a.world.ready _ _ _ _ _ (omega (arith, g.room)) s.up))
    g.fits
    (ap length g.moments ∙ s.counts ∙ sym g.standing)
    (omega (arith, s.room_moments, ap length g.moments, g.moments_room))

pub left_next : (a : StageHeld) (old : Recorded) → a.passed < length a.pending.other → old ≡ get_or a.pending.other (length a.pending.other - 1 - a.passed) old
    → entries (drop a.passed (reverse a.pending.other)) ≡ old.entry ∷ entries (drop (a.passed + 1) (reverse a.pending.other))
left_next a old h e =
    let xs : List Recorded = a.pending.other in
    let l : a.passed < length (reverse xs) = omega (arith, h, length-reverse xs) in
    ap entries (drop_more (reverse xs) a.passed old l)
    ∙ ap (λ x. entry_of x ∷ entries (drop (a.passed + 1) (reverse xs))) (get_or-reverse xs a.passed old h ∙ sym e)

-- a0 is a before more stood ready
pub DoesNext-again : (a0 : StageHeld) (ready : Ready) (b : StageHeld) (old r : Recorded) → SoundStage (with_ready a0 ready) → GoesAgain (with_ready a0 ready) b old r → ready.makes ≡ a0.world.ready.makes
    → as_before old.entry (act a0.world.state old.entry.change) ≡ Ok b.world.state → DoesNext (staged_of a0) (staged_of b)
unfolding staged_of
DoesNext-again a0 ready b old r s g m w =
    let a : StageHeld = with_ready a0 ready in
    let base : State = base_of a in
    record {
      same = record {
        pasts = stage_line ready b base (swapped base a.records a.pending) a.moments a.undone (again_leads a b old r s g) (again_swapped a b old r s g) g.moments g.undone
            ∙ sym (stage_line ready a base (swapped base a.records a.pending) a.moments a.undone s.leads refl refl refl);
        makes = ap (λ (v : Ready). v.makes) g.ready ∙ m;
        serial = g.serial;
      };
      out = g.out;
      next = (
        old.entry,
        left_next a old g.some g.read ∙ ap (λ k. old.entry ∷ entries (drop k (reverse a.pending.other))) (sym g.passed) ∙ ap (λ m. old.entry ∷ entries (drop b.passed (reverse m.other))) (sym g.pending),
        ap entries g.records ∙ entries-append a.records (r ∷ []) ∙ ap (λ e. entries a.records ++ e ∷ []) g.entry,
        w,
      );
    }

-- ---- b is a, with another world that shows the same
pub record SameStage (a b : StageHeld) : Type 0 where
  pub state : b.world.state ≡ a.world.state
  pub ready : b.world.ready ≡ a.world.ready
  pub records : b.records ≡ a.records
  pub room : b.room ≡ a.room
  pub pending : b.pending ≡ a.pending
  pub spare : b.spare ≡ a.spare
  pub serial : b.serial ≡ a.serial
  pub out : b.out ≡ a.out
  pub passed : b.passed ≡ a.passed
  pub moments : b.moments ≡ a.moments
  pub moments_room : b.moments_room ≡ a.moments_room
  pub undone : b.undone ≡ a.undone
  pub standing : b.standing ≡ a.standing

same_stage_leads : (a b : StageHeld) → SoundStage a → SameStage a b → Leads a.world.ready (base_of a) b.world.state b.records
same_stage_leads a b s h = subst (λ w. Leads a.world.ready (base_of a) w b.records) (sym h.state) (subst (λ xs. Leads a.world.ready (base_of a) a.world.state xs) (sym h.records) s.leads)

same_swapped : (a b : StageHeld) → SameStage a b → swapped (base_of a) b.records b.pending ≡ swapped (base_of a) a.records a.pending
same_swapped a b h = ap (λ m. swapped (base_of a) b.records m) h.pending ∙ ap (λ xs. swapped (base_of a) xs a.pending) h.records

pub SoundStage-same : (a b : StageHeld) → SoundStage a → SameStage a b → a.out ≡ true → SoundStage b
SoundStage-same a b s h o =
    let base : State = base_of a in
    let whole : List Recorded = swapped base a.records a.pending in
    let t : Redoing a = is_redoing a s o in
    stage_from a.world.ready b base whole h.ready (same_stage_leads a b s h)
    (subst (CanSwap a.world.ready base b.records b.room) (sym h.pending) (subst (λ xs. CanSwap a.world.ready base xs b.room a.pending) (sym h.records) (CanSwap-room a.world.ready _ _ _ _ _ (omega (arith, h.room)) s.can)))
    (h.spare ∙ s.spare)
    (ap (λ m. m.out) h.pending ∙ s.out ∙ ap Some (sym h.serial))
    (phase_true b.out b (h.out ∙ o) (record {
      at = omega (arith, t.at, ap length h.records, ap (λ m. m.at) h.pending, ap (λ m. m.stays) h.pending, h.passed);
      passed = omega (arith, t.passed, h.passed, ap (λ m. length m.other) h.pending);
      none_left = λ some.
          let all : a.passed ≡ length a.pending.other = t.none_left (omega (arith, some, ap (λ m. m.stays) h.pending)) in omega (arith, all, h.passed, ap (λ m. length m.other) h.pending);
      room_spare = λ left.
          let room : length a.pending.other ≤ a.pending.room = t.room_spare (omega (arith, left, h.passed, ap (λ m. length m.other) h.pending)) in
          omega (arith, room, ap (λ m. length m.other) h.pending, ap (λ m. m.room) h.pending);
    }))
    (same_swapped a b h)
    (subst (λ ms. Down a.world.ready base whole b.room (reverse ms)) (sym h.moments) (Down-room a.world.ready _ _ _ _ _ (omega (arith, h.room)) s.down))
    (subst (λ us. Up a.world.ready base whole b.room us) (sym h.undone) (Up-room a.world.ready _ _ _ _ _ (omega (arith, h.room)) s.up))
    (omega (arith, s.room_records, ap length h.records, h.room))
    (ap length h.moments ∙ s.counts ∙ sym h.standing)
    (omega (arith, s.room_moments, ap length h.moments, h.moments_room))

pub StaysStaged-same : (a0 : StageHeld) (ready : Ready) (b : StageHeld) → SoundStage (with_ready a0 ready) → SameStage (with_ready a0 ready) b → ready.makes ≡ a0.world.ready.makes → StaysStaged (staged_of a0) (staged_of b)
unfolding staged_of
StaysStaged-same a0 ready b s h m =
    let a : StageHeld = with_ready a0 ready in
    let base : State = base_of a in
    record {
      same = record {
        pasts = stage_line ready b base (swapped base a.records a.pending) a.moments a.undone (same_stage_leads a b s h) (same_swapped a b h) h.moments h.undone
            ∙ sym (stage_line ready a base (swapped base a.records a.pending) a.moments a.undone s.leads refl refl refl);
        makes = ap (λ (v : Ready). v.makes) h.ready ∙ m;
        serial = h.serial;
      };
      in_place = ap entries h.records;
      left = ap (λ k. entries (drop k (reverse b.pending.other))) h.passed ∙ ap (λ m. entries (drop a.passed (reverse m.other))) h.pending;
      out = h.out;
      state = h.state;
    }

-- what is said of a refused entry
abbrev pub RefusedAgain : State → Entry → AgainFault → Type 0
RefusedAgain w e (Differs serial) = as_before e (act w e.change) ≡ Err serial
RefusedAgain w e NoMemory = Unit {0}

pub GoesOn-err : (a0 : StageHeld) (ready : Ready) (b : StageHeld) (old : Recorded) (fault : AgainFault) → SoundStage (with_ready a0 ready) → SameStage (with_ready a0 ready) b → ready.makes ≡ a0.world.ready.makes → a0.passed < length a0.pending.other
    → old ≡ get_or a0.pending.other (length a0.pending.other - 1 - a0.passed) old → RefusedAgain a0.world.state old.entry fault → GoesOn (staged_of a0) (Err fault) (staged_of b)
unfolding staged_of
GoesOn-err a0 ready b old (Differs serial) s h m l e f =
    ((old.entry, entries (drop (a0.passed + 1) (reverse a0.pending.other)), left_next a0 old l e, f), StaysStaged-same a0 ready b s h m)
GoesOn-err a0 ready b old NoMemory s h m l e f = StaysStaged-same a0 ready b s h m

-- what is said of doing a refused one again
pub refused_again : (w v : WorldView) (rs new : List Recorded) (e : Entry) (fault : AgainFault) → DoesAgain w rs e (Err fault) v new → RefusedAgain w.state e fault × IsUnchanged w v × (new ≡ rs)
refused_again w v rs new e (Differs serial) h = h
refused_again w v rs new e NoMemory h = (tt, h.0, h.1)
