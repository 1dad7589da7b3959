-- A stage of a timeline begins.
use Rattle.std.proofs.Common.{◌≡◌, ℕ, ◌+◌, ◌≤◌, Bool, false, List, [], ◌++◌, length, take, drop, reverse, sym, ◌∙◌, ap, subst, arith, Some}
use Rattle.std.proofs.lemmas.List.{append-nil, take_all}
use Rattle.host_state.specs.State.{State}
use Rattle.host_state.specs.World.{Ready, WorldView}
use Rattle.journal_model.specs.Replay.{Entry}
use Rattle.journal_model.specs.Plain.{now, newest_force}
use Rattle.journal_moments.specs.After.{state_after}
use Rattle.journal_moments.specs.View.{LineView}
use Rattle.journal_moments.specs.Line.{entries, AllLying, stood, Leads, swapped, Down, Up}
use Rattle.journal_moments.specs.Held.{Held, base_of as line_base, pasts_of as line_pasts, line_of, Sound}
use Rattle.journal_moments.proofs.SwapLemmas.{Down-room, Up-room, swapped-alone, stands_none}
use Rattle.journal_moments.proofs.HeldLemmas.{pasts_is}
use Rattle.journal_moments.proofs.NewestLemmas.{now-pasts_of, force-pasts_of}
use Rattle.journal_timeline.specs.StageHeld.{StageHeld, staged_of, calls_to_restore, IsShort, SoundStage}
use Rattle.journal_timeline.specs.Staged.{Staged, staged}
use Rattle.journal_timeline.proofs.StageLemmas.{stage_from, stage_line, staged_is, phase_false}

pub record Begins (a : Held) (b : StageHeld) (serial : ℕ) : Type 0 where
  pub world : b.world ≡ a.world
  pub records : b.records ≡ a.records
  pub moments : b.moments ≡ a.moments
  pub undone : b.undone ≡ a.undone
  pub room : a.room ≤ b.room
  pub standing : b.standing ≡ a.standing
  pub moments_room : length b.moments + 1 ≤ b.moments_room
  pub serial_is : b.serial ≡ serial
  pub pending_out : b.pending.out ≡ Some serial
  pub at : b.pending.at ≡ length a.records
  pub stays : b.pending.stays ≡ 0
  pub other : b.pending.other ≡ []
  pub other_room : length a.records ≤ b.other_room
  pub spare : b.spare ≡ []
  pub spare_room : length a.records ≤ b.pending.room
  pub short : IsShort serial b.short b.short_spare
  pub out : b.out ≡ false
  pub passed : b.passed ≡ 0

begins_leads : (a : Held) (b : StageHeld) (serial : ℕ) → Sound a → Begins a b serial → Leads a.world.ready (line_base a) b.world.state b.records
begins_leads a b serial s g = subst (λ (w : WorldView). Leads a.world.ready (line_base a) w.state b.records) (sym g.world) (subst (λ xs. Leads a.world.ready (line_base a) a.world.state xs) (sym g.records) s.leads)

begins_swapped : (a : Held) (b : StageHeld) (serial : ℕ) → Sound a → Begins a b serial → swapped (line_base a) b.records b.pending ≡ a.records
begins_swapped a b serial s g =
    swapped-alone (line_base a) b.records b.pending g.stays
    ∙ ap (λ xs. take b.pending.at b.records ++ stood (state_after (line_base a) (entries (take b.pending.at b.records))) (reverse xs)) g.other
    ∙ append-nil (take b.pending.at b.records)
    ∙ take_all b.pending.at b.records (omega (arith, g.at, ap length g.records))
    ∙ g.records

pub SoundStage-begin : (a : Held) (b : StageHeld) (serial : ℕ) → Sound a → Begins a b serial → SoundStage b
SoundStage-begin a b serial s g =
    let base : State = line_base a in
    let ready : Ready = a.world.ready in
    let n : length b.records ≡ length a.records = ap length g.records in
    let none : length b.pending.other ≡ 0 = ap length g.other in
    stage_from ready b base a.records (ap (λ (w : WorldView). w.ready) g.world) (begins_leads a b serial s g)
    (record {
      within = omega (arith, g.at, g.stays, n);
      lying = subst (λ xs. AllLying ready (state_after base (entries (take b.pending.at b.records))) (reverse xs)) (sym g.other) tt;
      standing = stands_none ready _ b.pending.stays b.records g.stays;
      one = λ some. absurd (omega (arith, some, g.stays));
      room_back = omega (arith, g.at, n);
      room_forth = omega (arith, g.at, g.stays, n, none, s.room_records, g.room);
    })
    g.spare
    (g.pending_out ∙ ap Some (sym g.serial_is))
    (phase_false b.out b g.out (record {
      at = omega (arith, g.at, n);
      stays = g.stays;
      passed = g.passed;
      room_other = omega (arith, g.other_room, n, none);
      room_spare = omega (arith, g.spare_room, n, none);
      short = subst (λ i. IsShort i b.short b.short_spare) (sym g.serial_is) g.short;
    }))
    (begins_swapped a b serial s g)
    (subst (λ xs. Down ready base a.records b.room (reverse xs)) (sym g.moments) (Down-room ready _ _ _ _ _ g.room s.down))
    (subst (λ xs. Up ready base a.records b.room xs) (sym g.undone) (Up-room ready _ _ _ _ _ g.room s.up))
    (omega (arith, n, s.room_records, g.room))
    (ap length g.moments ∙ s.counts ∙ sym g.standing)
    g.moments_room

none_to_restore : (a : Held) (b : StageHeld) (serial : ℕ) → Begins a b serial → calls_to_restore b ≡ 0
none_to_restore a b serial g = omega (arith, g.at, g.stays, ap length g.records, ap length g.other)

abbrev staged_with : LineView → ℕ → List Entry → List Entry → Bool → State → ℕ → Staged
staged_with l i p q o w n = record { line = l; serial = i; in_place = p; left = q; out = o; state = w; to_restore = n }

pub staged_of-begin : (a : Held) (b : StageHeld) (serial : ℕ) → Sound a → Begins a b serial → staged_of b ≡ staged (line_of a) serial
staged_of-begin a b serial s g =
    let base : State = line_base a in
    let l : LineView = line_of a in
    staged_is b
    ∙ ap (λ p. staged_with (record { pasts = p; makes = b.world.ready.makes; work = b.world.work }) b.serial (entries b.records) (entries (drop b.passed (reverse b.pending.other))) b.out b.world.state (calls_to_restore b))
    (stage_line a.world.ready b base a.records a.moments a.undone (begins_leads a b serial s g) (begins_swapped a b serial s g) g.moments g.undone ∙ sym (pasts_is a))
    ∙ ap (λ (w : WorldView). staged_with (record { pasts = line_pasts a; makes = w.ready.makes; work = w.work }) b.serial (entries b.records) (entries (drop b.passed (reverse b.pending.other))) b.out w.state (calls_to_restore b)) g.world
    ∙ ap (λ i. staged_with l i (entries b.records) (entries (drop b.passed (reverse b.pending.other))) b.out a.world.state (calls_to_restore b)) g.serial_is
    ∙ ap (λ es. staged_with l serial es (entries (drop b.passed (reverse b.pending.other))) b.out a.world.state (calls_to_restore b)) (ap entries g.records ∙ sym (force-pasts_of a s))
    ∙ ap (λ xs. staged_with l serial (newest_force (line_pasts a).moments) (entries (drop b.passed (reverse xs))) b.out a.world.state (calls_to_restore b)) g.other
    ∙ ap (λ k. staged_with l serial (newest_force (line_pasts a).moments) (entries (drop k (reverse []))) b.out a.world.state (calls_to_restore b)) g.passed
    ∙ ap (λ o. staged_with l serial (newest_force (line_pasts a).moments) [] o a.world.state (calls_to_restore b)) g.out
    ∙ ap (λ w. staged_with l serial (newest_force (line_pasts a).moments) [] false w (calls_to_restore b)) (sym (now-pasts_of a s))
    ∙ ap (λ n. staged_with l serial (newest_force (line_pasts a).moments) [] false (now (line_pasts a)) n) (none_to_restore a b serial g)
