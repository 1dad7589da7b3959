-- A stage of a timeline: records are turned back, and it is ended.
use Rattle.std.proofs.Common.{◌≡◌, ℕ, ◌+◌, ◌-◌, ◌<◌, ◌≤◌, eqb, Bool, true, false, cond, List, [], ◌∷◌, ◌++◌, length, get_or, take, drop, reverse, refl, sym, ◌∙◌, ap, subst, arith, Ok, Result, Some}
use Rattle.std.proofs.lemmas.List.{reverse-append, length-take-le, take-append-drop, length-reverse, length-map, length-drop, drop_more, drop_all}
use Rattle.host_state.specs.State.{State}
use Rattle.host_state.specs.World.{Ready, WorldView}
use Rattle.host_state.specs.Act.{act}
use Rattle.journal_model.specs.Replay.{Entry, replay, as_before}
use Rattle.journal_model.specs.Plain.{Past, Pasts}
use Rattle.journal_model.specs.Without.{with_taking_out}
use Rattle.journal_moments.specs.After.{after, state_after}
use Rattle.journal_moments.specs.Recorded.{Recorded}
use Rattle.journal_moments.specs.Line.{entry_of, entries, lay, laid, AllStanding, foot, Leads, behind, swapped, CanSwap, Down, Up, other_force, past, pasts_down}
use Rattle.journal_moments.specs.Held.{Held, pasts_of as line_pasts, Sound}
use Rattle.journal_timeline.specs.StageHeld.{StageHeld, base_of, pasts_of, staged_of, calls_to_restore, IsShort, Phase, Turning, Redoing, SoundStage}
use Rattle.journal_timeline.specs.Staged.{TurnsBack}
use Rattle.journal_moments.specs.MomentView.{MomentView}
use Rattle.journal_moments.specs.Swaps.{Exchanges}
use Rattle.journal_moments.proofs.LineLemmas.{foot_of, foot_past_is, state_after-append, AllStanding-front, AllStanding-rest, entries-append}
use Rattle.journal_moments.proofs.SwapLemmas.{AllStanding-swapped, entries-swapped, Down-room, Up-room, SameExchange, swapped-same, CanSwap-same}
use Rattle.journal_moments.proofs.LaidLemmas.{reverse-laid, swapped-laid, CanSwap-laid}
use Rattle.journal_moments.proofs.HeldLemmas.{line, line_from, sound_from}
use Rattle.journal_moments.proofs.ReplayedLemmas.{as_before-standing, replay_standing}

-- a stage from its parts
pub stage_from : (ready : Ready) (b : StageHeld) (base : State) (whole : List Recorded) → b.world.ready ≡ ready → Leads ready base b.world.state b.records → CanSwap ready base b.records b.room b.pending → b.spare ≡ [] → b.pending.out ≡ Some b.serial → Phase b.out b
    → swapped base b.records b.pending ≡ whole → Down ready base whole b.room (reverse b.moments) → Up ready base whole b.room b.undone
    → length b.records ≤ b.room → length b.moments ≡ b.standing → length b.moments + 1 ≤ b.moments_room → SoundStage b
stage_from ready b base whole q h k sp o ph e d u z x y =
    let f : base_of b ≡ base = foot_of ready base b.world.state b.records h in
    record {
      leads = subst (λ v. Leads v (base_of b) b.world.state b.records) (sym q) (subst (λ s. Leads ready s b.world.state b.records) (sym f) h);
      can = subst (λ v. CanSwap v (base_of b) b.records b.room b.pending) (sym q) (subst (λ s. CanSwap ready s b.records b.room b.pending) (sym f) k);
      spare = sp;
      out = o;
      phase = ph;
      down = subst (λ v. Down v (base_of b) (swapped (base_of b) b.records b.pending) b.room (reverse b.moments)) (sym q)
          (subst (λ s. Down ready s (swapped s b.records b.pending) b.room (reverse b.moments)) (sym f) (subst (λ xs. Down ready base xs b.room (reverse b.moments)) (sym e) d));
      up = subst (λ v. Up v (base_of b) (swapped (base_of b) b.records b.pending) b.room b.undone) (sym q)
          (subst (λ s. Up ready s (swapped s b.records b.pending) b.room b.undone) (sym f) (subst (λ xs. Up ready base xs b.room b.undone) (sym e) u));
      room_records = z;
      counts = x;
      room_moments = y;
    }

-- the timeline that a stage keeps
pub stage_line : (ready : Ready) (b : StageHeld) (base : State) (whole : List Recorded) (ms us : List MomentView) → Leads ready base b.world.state b.records → swapped base b.records b.pending ≡ whole → b.moments ≡ ms → b.undone ≡ us
    → pasts_of b ≡ line base (entries whole) (reverse ms) us
stage_line ready b base whole ms us h e m u =
    let f : base_of b ≡ base = foot_of ready base b.world.state b.records h in
    ap (λ s. line s (other_force (entries b.records) b.pending) (reverse b.moments) b.undone) f
    ∙ ap (λ es. line base es (reverse b.moments) b.undone) (sym (entries-swapped base b.records b.pending) ∙ ap entries e)
    ∙ ap (λ xs. line base (entries whole) (reverse xs) b.undone) m
    ∙ ap (λ xs. line base (entries whole) (reverse ms) xs) u

pub staged_is : (a : StageHeld) → staged_of a ≡ record {
  line = record { pasts = pasts_of a; makes = a.world.ready.makes; work = a.world.work };
  serial = a.serial;
  in_place = entries a.records;
  left = entries (drop a.passed (reverse a.pending.other));
  out = a.out;
  state = a.world.state;
  to_restore = calls_to_restore a;
}
unfolding staged_of
staged_is a = refl

pub is_turning : (a : StageHeld) → SoundStage a → a.out ≡ false → Turning a
is_turning a s e = subst (λ b. Phase b a) e s.phase

pub is_redoing : (a : StageHeld) → SoundStage a → a.out ≡ true → Redoing a
is_redoing a s e = subst (λ b. Phase b a) e s.phase

pub phase_false : (a : Bool) (b : StageHeld) → a ≡ false → Turning b → Phase a b
phase_false a b e t = subst (λ x. Phase x b) (sym e) t

pub phase_true : (a : Bool) (b : StageHeld) → a ≡ true → Redoing b → Phase a b
phase_true a b e t = subst (λ x. Phase x b) (sym e) t

pub staged-out : (a : StageHeld) → (staged_of a).out ≡ a.out
staged-out a = ap (λ s. s.out) (staged_is a)

pub staged-in_place : (a : StageHeld) → length (staged_of a).in_place ≡ length a.records
staged-in_place a = ap (λ s. length s.in_place) (staged_is a) ∙ length-map a.records entry_of

pub staged-left : (a : StageHeld) → length (staged_of a).left ≡ length a.pending.other - a.passed
staged-left a =
    ap (λ s. length s.left) (staged_is a) ∙ length-map (drop a.passed (reverse a.pending.other)) entry_of ∙ length-drop a.passed (reverse a.pending.other)
    ∙ ap (λ n. n - a.passed) (length-reverse a.pending.other)

-- ---- one record is turned back
-- the last record in place is turned back in a, giving b
pub record LaysOne (a b : StageHeld) (r : Recorded) : Type 0 where
  pub some : 0 < length a.records
  pub not_out : a.out ≡ false
  pub at : b.pending.at ≡ length a.records - 1
  pub stays : b.pending.stays ≡ a.pending.stays
  pub short : b.short ≡ a.short
  pub short_spare : b.short_spare ≡ a.short_spare
  pub state : b.world.state ≡ foot a.world.state (drop (length a.records - 1) a.records)
  pub ready : b.world.ready ≡ a.world.ready
  pub records : b.records ≡ take (length a.records - 1) a.records
  pub other : let x = drop (length a.records - 1) a.records in b.pending.other ≡ a.pending.other ++ reverse (laid (foot a.world.state x) x)
  pub spare : b.spare ≡ a.spare
  pub pending_room : b.pending.room ≡ a.pending.room
  pub other_room : a.other_room ≤ b.other_room
  pub room : b.room ≡ a.room
  pub moments : b.moments ≡ a.moments
  pub moments_room : b.moments_room ≡ a.moments_room
  pub undone : b.undone ≡ a.undone
  pub standing : b.standing ≡ a.standing
  pub serial : b.serial ≡ a.serial
  pub out : b.pending.out ≡ a.pending.out
  pub read : r ≡ get_or a.records (length a.records - 1) r

last_is : (rs : List Recorded) (r : Recorded) → 0 < length rs → r ≡ get_or rs (length rs - 1) r → drop (length rs - 1) rs ≡ r ∷ []
last_is rs r h e =
    let n : ℕ = length rs - 1 in
    drop_more rs n r (omega (arith, h)) ∙ ap (λ xs. get_or rs n r ∷ xs) (drop_all (n + 1) rs (omega arith)) ∙ ap (λ x. x ∷ []) (sym e)

lays_leads : (a b : StageHeld) (r : Recorded) → SoundStage a → LaysOne a b r → Leads a.world.ready (base_of a) b.world.state b.records
lays_leads a b r s g =
    let base : State = base_of a in
    let rs : List Recorded = a.records in
    let n : ℕ = length rs - 1 in
    subst (Leads a.world.ready base b.world.state) (sym g.records)
    (record {
      standing = AllStanding-front a.world.ready base (take n rs) (drop n rs) (subst (AllStanding a.world.ready base) (sym (take-append-drop n rs)) s.leads.standing);
      top = g.state ∙ foot_past_is a.world.ready base a.world.state rs n s.leads;
    })

lays_other : (a b : StageHeld) (r : Recorded) → SoundStage a → LaysOne a b r → let n = length a.records - 1 in
    b.pending.other ≡ a.pending.other ++ reverse (laid (state_after (base_of a) (entries (take n a.records))) (drop n a.records))
lays_other a b r s g =
    let x : List Recorded = drop (length a.records - 1) a.records in
    g.other ∙ ap (λ v. a.pending.other ++ reverse (laid v x)) (foot_past_is a.world.ready (base_of a) a.world.state a.records (length a.records - 1) s.leads)

lays_other_at : (a b : StageHeld) (r : Recorded) → SoundStage a → LaysOne a b r
    → b.pending.other ≡ a.pending.other ++ reverse (laid (state_after (base_of a) (entries (take b.pending.at a.records))) (drop b.pending.at a.records))
lays_other_at a b r s g = subst (λ n. b.pending.other ≡ a.pending.other ++ reverse (laid (state_after (base_of a) (entries (take n a.records))) (drop n a.records))) (sym g.at) (lays_other a b r s g)

lays_swapped : (a b : StageHeld) (r : Recorded) → SoundStage a → LaysOne a b r → swapped (base_of a) b.records b.pending ≡ swapped (base_of a) a.records a.pending
lays_swapped a b r s g =
    let t : Turning a = is_turning a s g.not_out in
    ap (λ xs. swapped (base_of a) xs b.pending) (g.records ∙ ap (λ n. take n a.records) (sym g.at))
    ∙ swapped-laid a.world.ready (base_of a) a.world.state a.records a.pending b.pending s.leads t.at (omega (arith, g.at)) t.stays (g.stays ∙ t.stays) (lays_other_at a b r s g)

lays_can : (a b : StageHeld) (r : Recorded) → SoundStage a → LaysOne a b r → CanSwap a.world.ready (base_of a) b.records b.room b.pending
lays_can a b r s g =
    let t : Turning a = is_turning a s g.not_out in
    subst (λ xs. CanSwap a.world.ready (base_of a) xs b.room b.pending) (sym (g.records ∙ ap (λ n. take n a.records) (sym g.at)))
    (CanSwap-laid a.world.ready (base_of a) a.world.state a.records a.room b.room a.pending b.pending s.leads s.can t.at (omega (arith, g.at)) t.stays (g.stays ∙ t.stays) (omega (arith, g.room)) (lays_other_at a b r s g))

-- what is turned back then
lays_reverse : (a b : StageHeld) (r : Recorded) → SoundStage a → LaysOne a b r → let n = length a.records - 1 in
    reverse b.pending.other ≡ lay (state_after (base_of a) (entries (take n a.records))) r ∷ reverse a.pending.other
lays_reverse a b r s g =
    let n : ℕ = length a.records - 1 in
    let v : State = state_after (base_of a) (entries (take n a.records)) in
    reverse-laid v (drop n a.records) a.pending.other b.pending.other (lays_other a b r s g)
    ∙ ap (λ xs. laid v xs ++ reverse a.pending.other) (last_is a.records r g.some g.read)

pub lays_length : (a b : StageHeld) (r : Recorded) → SoundStage a → LaysOne a b r → (length b.records + 1 ≡ length a.records) × (length b.pending.other ≡ length a.pending.other + 1)
lays_length a b r s g =
    let n : ℕ = length a.records - 1 in (
      omega (arith, ap length g.records, length-take-le n a.records (omega arith), g.some),
      omega (arith, ap length (lays_reverse a b r s g), length-reverse a.pending.other, length-reverse b.pending.other),
    )

pub SoundStage-back : (a b : StageHeld) (r : Recorded) → SoundStage a → LaysOne a b r → Phase b.out b → SoundStage b
SoundStage-back a b r s g ph =
    let base : State = base_of a in
    let whole : List Recorded = swapped base a.records a.pending in
    let l : (length b.records + 1 ≡ length a.records) × (length b.pending.other ≡ length a.pending.other + 1) = lays_length a b r s g in
    stage_from a.world.ready b base whole g.ready (lays_leads a b r s g) (lays_can a b r s g) (g.spare ∙ s.spare) (g.out ∙ s.out ∙ ap Some (sym g.serial)) ph (lays_swapped a b r s g)
    (subst (λ ms. Down a.world.ready base whole b.room (reverse ms)) (sym g.moments) (Down-room a.world.ready _ _ _ _ _ (omega (arith, g.room)) s.down))
    (subst (λ us. Up a.world.ready base whole b.room us) (sym g.undone) (Up-room a.world.ready _ _ _ _ _ (omega (arith, g.room)) s.up))
    (omega (arith, s.room_records, l.0, g.room))
    (ap length g.moments ∙ s.counts ∙ sym g.standing)
    (omega (arith, s.room_moments, ap length g.moments, g.moments_room))

pub Turning-back : (a b : StageHeld) (r : Recorded) → SoundStage a → LaysOne a b r → b.passed ≡ a.passed → Turning b
Turning-back a b r s g e =
    let t : Turning a = is_turning a s g.not_out in
    let l : (length b.records + 1 ≡ length a.records) × (length b.pending.other ≡ length a.pending.other + 1) = lays_length a b r s g in
    record {
      at = omega (arith, g.at, l.0);
      stays = g.stays ∙ t.stays;
      passed = e ∙ t.passed;
      room_other = omega (arith, l.0, l.1, t.room_other, g.other_room);
      room_spare = omega (arith, l.0, l.1, t.room_spare, g.pending_room);
      short = subst (λ (x : ℕ × MomentView × List Recorded). IsShort x.0 x.1 x.2) (λ i. (sym g.serial i, sym g.short i, sym g.short_spare i)) t.short;
    }

pub Redoing-back : (a b : StageHeld) (r : Recorded) → SoundStage a → LaysOne a b r → b.passed ≡ 1 → Redoing b
Redoing-back a b r s g e =
    let t : Turning a = is_turning a s g.not_out in
    let l : (length b.records + 1 ≡ length a.records) × (length b.pending.other ≡ length a.pending.other + 1) = lays_length a b r s g in
    record {
      at = omega (arith, g.at, g.stays, t.stays, l.0, e);
      passed = omega (arith, l.1, e);
      none_left = λ some. absurd (omega (arith, some, g.stays, t.stays));
      room_spare = λ left. omega (arith, l.0, l.1, t.room_spare, g.pending_room);
    }

lays_line : (a b : StageHeld) (r : Recorded) → SoundStage a → LaysOne a b r → pasts_of b ≡ pasts_of a
lays_line a b r s g =
    let base : State = base_of a in
    stage_line a.world.ready b base (swapped base a.records a.pending) a.moments a.undone (lays_leads a b r s g) (lays_swapped a b r s g) g.moments g.undone
    ∙ sym (stage_line a.world.ready a base (swapped base a.records a.pending) a.moments a.undone s.leads refl refl refl)

-- its change led from there to the state before
lays_acts : (a b : StageHeld) (r : Recorded) → SoundStage a → LaysOne a b r → as_before r.entry (act b.world.state r.entry.change) ≡ Ok a.world.state
lays_acts a b r s g =
    let base : State = base_of a in
    let rs : List Recorded = a.records in
    let n : ℕ = length rs - 1 in
    let v : State = state_after base (entries (take n rs)) in
    let h : Leads a.world.ready base b.world.state b.records = lays_leads a b r s g in
    let below : b.world.state ≡ v = h.top ∙ ap (λ xs. state_after base (entries xs)) g.records in
    let parts : rs ≡ take n rs ++ r ∷ [] = sym (take-append-drop n rs) ∙ ap (λ xs. take n rs ++ xs) (last_is rs r g.some g.read) in
    let all : AllStanding a.world.ready base (take n rs ++ r ∷ []) = subst (AllStanding a.world.ready base) parts s.leads.standing in
    let top : a.world.state ≡ after v r.entry =
    s.leads.top ∙ ap (λ xs. state_after base (entries xs)) parts ∙ ap (state_after base) (entries-append (take n rs) (r ∷ [])) ∙ state_after-append base (entries (take n rs)) (r.entry ∷ []) in
    ap (λ w. as_before r.entry (act w r.entry.change)) below ∙ as_before-standing a.world.ready v r (AllStanding-rest a.world.ready base (take n rs) (r ∷ []) all).0 ∙ ap (λ w. let x : Result State ℕ = Ok w in x) (sym top)

left_cases : (is_it : Bool) (r : Recorded) (olds : List Entry) (x : Recorded) (xs : List Recorded) → x.entry ≡ r.entry → entries xs ≡ olds → entries (drop (cond is_it 1 0) (x ∷ xs)) ≡ cond is_it olds (r.entry ∷ olds)
left_cases true r olds x xs e h = h
left_cases false r olds x xs e h = ap (λ y. y ∷ entries xs) e ∙ ap (λ ys. r.entry ∷ ys) h

pub TurnsBack-back : (a b : StageHeld) (r : Recorded) → SoundStage a → LaysOne a b r → (is_it : Bool) → b.out ≡ is_it → is_it ≡ eqb r.entry.serial a.serial → b.passed ≡ cond is_it 1 0 → TurnsBack (staged_of a) is_it (staged_of b)
unfolding staged_of lay
TurnsBack-back a b r s g is_it o e p =
    let base : State = base_of a in
    let rs : List Recorded = a.records in
    let n : ℕ = length rs - 1 in
    let h : Leads a.world.ready base b.world.state b.records = lays_leads a b r s g in
    let t : Turning a = is_turning a s g.not_out in
    let olds : List Entry = entries (reverse a.pending.other) in
    let left_a : entries (drop a.passed (reverse a.pending.other)) ≡ olds = ap (λ k. entries (drop k (reverse a.pending.other))) t.passed in
    record {
      same = record { pasts = lays_line a b r s g; makes = ap (λ (v : Ready). v.makes) g.ready; serial = g.serial };
      last = (
        r.entry,
        ap entries (sym (take-append-drop n rs)) ∙ entries-append (take n rs) (drop n rs) ∙ ap (λ xs. entries (take n rs) ++ entries xs) (last_is rs r g.some g.read) ∙ ap (λ xs. entries xs ++ r.entry ∷ []) (sym g.records),
        e,
        ap (λ k. entries (drop k (reverse b.pending.other))) p ∙ ap (λ xs. entries (drop (cond is_it 1 0) xs)) (lays_reverse a b r s g) ∙ left_cases is_it r olds (lay (state_after base (entries (take n rs))) r) (reverse a.pending.other) refl refl ∙ ap (λ xs. cond is_it xs (r.entry ∷ xs)) (sym left_a),
      );
      out = o;
      acts = lays_acts a b r s g;
      state = ap (λ v. replay v (entries b.records)) (foot_of a.world.ready base b.world.state b.records h) ∙ replay_standing a.world.ready base b.records h.standing ∙ ap (λ v. let x : Result State ℕ = Ok v in x) (sym h.top);
    }

-- ---- the stage is ended by putting all back
pub record Restores (a : StageHeld) (b : Held) : Type 0 where
  pub moment : MomentView
  pub exchanges : Exchanges a.world a.records a.pending b.world b.records moment
  pub room : a.room ≤ b.room
  pub fits : length b.records ≤ b.room
  pub moments : b.moments ≡ a.moments
  pub undone : b.undone ≡ a.undone
  pub standing : b.standing ≡ a.standing

restores_leads : (a : StageHeld) (b : Held) → SoundStage a → Restores a b → Leads a.world.ready (base_of a) b.world.state b.records
restores_leads a b s g =
    let base : State = base_of a in
    record {
      standing = subst (AllStanding a.world.ready base) (sym g.exchanges.records) (AllStanding-swapped a.world.ready base a.world.state a.records _ a.pending s.leads s.can);
      top = g.exchanges.state;
    }

pub Sound-restore : (a : StageHeld) (b : Held) → SoundStage a → Restores a b → Sound b
Sound-restore a b s g =
    let base : State = base_of a in
    sound_from a.world.ready b base (swapped base a.records a.pending) (reverse a.moments) a.undone g.exchanges.ready (restores_leads a b s g) g.exchanges.records (ap reverse g.moments) g.undone
    (Down-room a.world.ready _ _ _ _ _ g.room s.down) (Up-room a.world.ready _ _ _ _ _ g.room s.up)
    g.fits
    (ap length g.moments ∙ s.counts ∙ sym g.standing)

pub pasts_of-restore : (a : StageHeld) (b : Held) → SoundStage a → Restores a b → line_pasts b ≡ (staged_of a).line.pasts
pasts_of-restore a b s g =
    let base : State = base_of a in
    line_from a.world.ready b base (swapped base a.records a.pending) (reverse a.moments) a.undone (restores_leads a b s g) g.exchanges.records (ap reverse g.moments) g.undone
    ∙ sym (ap (λ x. x.line.pasts) (staged_is a) ∙ stage_line a.world.ready a base (swapped base a.records a.pending) a.moments a.undone s.leads refl refl refl)

-- ---- the stage is ended by keeping what is in place
pub record Keeps (a : StageHeld) (b : Held) (m : MomentView) : Type 0 where
  pub world : b.world ≡ a.world
  pub records : b.records ≡ a.records
  pub room : b.room ≡ a.room
  pub moments : b.moments ≡ a.moments ++ m ∷ []
  pub undone : b.undone ≡ []
  pub counts : length b.moments ≡ b.standing
  pub at : m.at ≡ a.pending.at
  pub stays : m.stays ≡ a.pending.stays
  pub other : m.other ≡ a.pending.other
  pub spare : m.room ≡ a.pending.room
  pub out : m.out ≡ a.pending.out

keeps_leads : (a : StageHeld) (b : Held) (m : MomentView) → SoundStage a → Keeps a b m → Leads a.world.ready (base_of a) b.world.state b.records
keeps_leads a b m s g = subst (λ (w : WorldView). Leads a.world.ready (base_of a) w.state b.records) (sym g.world) (subst (λ xs. Leads a.world.ready (base_of a) a.world.state xs) (sym g.records) s.leads)

keeps_exchange : (a : StageHeld) (b : Held) (m : MomentView) → Keeps a b m → SameExchange m a.pending
keeps_exchange a b m g = record { at = g.at; stays = g.stays; other = g.other; room = omega (arith, g.spare) }

pub Sound-keep : (a : StageHeld) (b : Held) (m : MomentView) → SoundStage a → Keeps a b m → Sound b
Sound-keep a b m s g =
    let base : State = base_of a in
    let rs : List Recorded = a.records in
    let ready : Ready = a.world.ready in
    sound_from ready b base rs (m ∷ reverse a.moments) [] (ap (λ (w : WorldView). w.ready) g.world) (keeps_leads a b m s g) g.records (ap reverse g.moments ∙ reverse-append a.moments (m ∷ [])) g.undone
    (subst (λ n. Down ready base rs n (m ∷ reverse a.moments)) (sym g.room)
    (CanSwap-same m a.pending (keeps_exchange a b m g) base rs ready _ s.can, subst (λ xs. Down ready base xs a.room (reverse a.moments)) (sym (swapped-same m a.pending (keeps_exchange a b m g) base rs)) s.down))
    tt
    (omega (arith, s.room_records, ap length g.records, g.room))
    g.counts

pub pasts_of-keep : (a : StageHeld) (b : Held) (m : MomentView) (serial : ℕ) → SoundStage a → Keeps a b m → m.serial ≡ serial → line_pasts b ≡ with_taking_out (staged_of a).line.pasts serial (staged_of a).serial (staged_of a).in_place (staged_of a).state
unfolding staged_of
pasts_of-keep a b m serial s g i =
    let base : State = base_of a in
    let rs : List Recorded = a.records in
    let ms : List MomentView = reverse a.moments in
    let es : List Entry = entries rs in
    line_from a.world.ready b base rs (m ∷ ms) [] (keeps_leads a b m s g) g.records (ap reverse g.moments ∙ reverse-append a.moments (m ∷ [])) g.undone
    ∙ ap (λ fs. let p : Pasts = record { base = base; moments = past base es m ∷ pasts_down base fs ms; undone = [] } in p)
    (λ i. take (g.at i) es ++ (entries (reverse (g.other i)) ++ behind (g.stays i) es))
    ∙ ap (λ q. let p : Pasts = record { base = base; moments = q ∷ pasts_down base (other_force es a.pending) ms; undone = [] } in p)
    (ap (λ j. let p : Past = record { serial = j; out = m.out; force = es; state = state_after base es } in p) i
    ∙ ap (λ o. let p : Past = record { serial = serial; out = o; force = es; state = state_after base es } in p) (g.out ∙ s.out)
    ∙ ap (λ v. let p : Past = record { serial = serial; out = Some a.serial; force = es; state = v } in p) (sym s.leads.top))
