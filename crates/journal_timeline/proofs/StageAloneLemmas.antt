-- A stage of a timeline: the one is taken out alone.
use Rattle.std.proofs.Common.{◌≡◌, ◌<◌, ℕ, ◌+◌, ◌-◌, ◌≤◌, false, true, List, [], ◌∷◌, ◌++◌, length, take, drop, reverse, refl, sym, ◌∙◌, ap, subst, arith, Ok, Result, Some}
use Rattle.std.proofs.lemmas.List.{append-nil, drop_at, take_all, length-map, length-reverse, length-take-le, length-drop}
use Rattle.host_state.specs.State.{State}
use Rattle.host_state.specs.World.{Ready, makes_in}
use Rattle.host_undoing.specs.Exchange.{turned}
use Rattle.host_state.specs.Hosts.{HoldsWell}
use Rattle.host_state.specs.Work.{CallsAtMost}
use Rattle.host_apart.specs.Laws.{AreWell}
use Rattle.journal_model.specs.Replay.{Entry, replay}
use Rattle.journal_model.specs.Well.{Each, EachPair}
use Rattle.journal_moments.specs.After.{state_after}
use Rattle.journal_moments.specs.Alone.{is_alone, is_alone_of, IsPlaceOf}
use Rattle.journal_moments.proofs.InPlaceLemmas.{are_well}
use Rattle.journal_moments.proofs.AloneLemmas.{well_below, Goes, goes, same_objects}
use Rattle.journal_moments.proofs.FoundLemmas.{alone_same, IsAlone, alone_at}
use Rattle.journal_moments.proofs.LineLemmas.{AllStanding-rest, entries-append, state_after-append, foot_of}
use Rattle.journal_moments.specs.Calls.{calls_by, calls_to_swap}
use Rattle.journal_moments.specs.Recorded.{Recorded}
use Rattle.journal_moments.specs.Line.{entry_of, entries, laid, IsSpared, AllStanding, AllLying, Leads, stood, behind, between, under, swapped, CanSwap, Down, Up}
use Rattle.journal_moments.specs.MomentView.{MomentView}
use Rattle.journal_moments.specs.Swaps.{Exchanges}
use Rattle.journal_moments.proofs.ReplayedLemmas.{replay_standing}
use Rattle.journal_moments.proofs.SwapLemmas.{swapped-alone, AllStanding-swapped, CanSwap-again, CanSwap-room, Down-room, Up-room, swapped-again, length-swapped}
use Rattle.journal_timeline.specs.StageHeld.{StageHeld, base_of, staged_of, IsShort, Turning, SoundStage}
use Rattle.journal_timeline.specs.Staged.{Staged, TakesOutAlone}
use Rattle.journal_timeline.proofs.StageLemmas.{stage_from, stage_line, staged_is, is_turning, phase_true}

none_held : (xs : List Recorded) → length xs ≡ 1 → entries (drop 1 (reverse xs)) ≡ []
none_held [] e = cc
none_held (x ∷ []) e = refl
none_held (x ∷ y ∷ xs) e = absurd (omega (arith, e))

-- nothing is turned back
pub record IsWhole (a : StageHeld) : Type 0 where
  pub not_out : a.out ≡ false
  pub none : a.pending.other ≡ []

pub is_whole : (a : StageHeld) → SoundStage a → a.out ≡ false → entries (drop a.passed (reverse a.pending.other)) ≡ [] → IsWhole a
is_whole a s not_out left =
    record { not_out = not_out; none = nothing a.pending.other (sym (ap (λ k. entries (drop k (reverse a.pending.other))) (is_turning a s not_out).passed) ∙ left) }
  where
    nothing : (xs : List Recorded) → entries (reverse xs) ≡ [] → xs ≡ []
    nothing [] e = refl
    nothing (x ∷ xs) e = absurd (let n : length (entries (reverse (x ∷ xs))) ≡ 0 = ap length e in omega (arith, n, length-map (reverse (x ∷ xs)) entry_of, length-reverse (x ∷ xs)))

-- the one at its place is taken out by a moment that leaves those after it in place
pub record TakesAt (a : StageHeld) (m : MomentView) : Type 0 where
  pub place : IsPlaceOf a.serial a.records m.at
  pub within : m.at < length a.records
  pub stays : m.stays ≡ length a.records - m.at - 1
  pub other : m.other ≡ []
  pub room : 1 ≤ m.room
  pub in_order : EachPair (λ (earlier later : Entry). earlier.serial < later.serial) (entries a.records)
  pub alone : is_alone a.serial (base_of a) (entries a.records) ≡ true
  pub well : AreWell a.world.state

-- by what is seen of the stage
pub takes_at : (a : StageHeld) (old : Staged) (m : MomentView) → staged_of a ≡ old → is_alone old.serial old.line.pasts.base old.in_place ≡ true → EachPair (λ (earlier later : Entry). earlier.serial < later.serial) old.in_place
    → HoldsWell a.world.state → IsPlaceOf a.serial a.records m.at → m.at < length a.records → m.stays ≡ length a.records - m.at - 1 → m.other ≡ [] → 1 ≤ m.room → TakesAt a m
takes_at a old m seen alone in_order well place within stays other room = record {
  place = place;
  within = within;
  stays = stays;
  other = other;
  room = room;
  in_order = subst (λ (x : Staged). EachPair (λ (earlier later : Entry). earlier.serial < later.serial) x.in_place) (sym seen ∙ staged_is a) in_order;
  alone = ap (λ (x : Staged). is_alone x.serial x.line.pasts.base x.in_place) (sym (staged_is a) ∙ seen) ∙ alone;
  well = are_well a.world.state well;
}

pub whole_seen : (a : StageHeld) (old : Staged) → SoundStage a → staged_of a ≡ old → old.out ≡ false → old.left ≡ [] → IsWhole a
whole_seen a old s seen out left = is_whole a s (ap (λ (x : Staged). x.out) (sym (staged_is a) ∙ seen) ∙ out) (ap (λ (x : Staged). x.left) (sym (staged_is a) ∙ seen) ∙ left)

pub short_seen : (a : StageHeld) (old : Staged) → SoundStage a → staged_of a ≡ old → old.out ≡ false → IsShort a.serial a.short a.short_spare
short_seen a old s seen out = (is_turning a s (ap (λ (x : Staged). x.out) (sym (staged_is a) ∙ seen) ∙ out)).short

-- so it is among those in place
pub never_missing : (a : StageHeld) (old : Staged) → SoundStage a → staged_of a ≡ old → is_alone old.serial old.line.pasts.base old.in_place ≡ true → is_alone_of a.serial a.records ≡ false → ⊥
never_missing a old s seen alone none =
    never (sym (ap (λ (x : Staged). is_alone x.serial x.line.pasts.base x.in_place) (sym (staged_is a) ∙ seen) ∙ alone) ∙ alone_same a.world.ready a.serial (base_of a) a.records s.leads.standing ∙ none)
  where
    never : true ≡ false → ⊥
    never e = cc

module _ (a : StageHeld) (m : MomentView) (s : SoundStage a) (g : TakesAt a m) where
  abbrev base : State
  base = base_of a

  abbrev rs : List Recorded
  rs = a.records

  abbrev one : Recorded
  one = g.place.one

  abbrev rest : List Recorded
  rest = drop (m.at + 1) rs

  front_length : length (take m.at rs) ≡ m.at
  front_length = length-take-le m.at rs (omega (arith, g.within))

  rest_length : length rest ≡ m.stays
  rest_length = length-drop (m.at + 1) rs ∙ omega (arith, g.stays, g.within)

  rear_is : behind m.stays rs ≡ rest
  rear_is = let n : length rs - m.stays ≡ m.at + 1 = omega (arith, g.stays, g.within) in ap (λ k. drop k rs) n

  go_is : between m.at m.stays rs ≡ one ∷ []
  go_is =
      (let n : (length rs - m.stays) - m.at ≡ 1 = omega (arith, g.stays, g.within) in ap (λ k. take k (drop m.at rs)) n)
      ∙ ap (take 1) (ap (drop m.at) g.place.is ∙ drop_at (take m.at rs) (one ∷ rest) m.at front_length)

  found : IsAlone one rest
  found = alone_at a.serial rs m.at g.place g.in_order (sym (alone_same a.world.ready a.serial base rs s.leads.standing) ∙ g.alone)

  -- it stands there, below the others
  whole : AllStanding a.world.ready base (take m.at rs ++ one ∷ rest)
  whole = subst (AllStanding a.world.ready base) g.place.is s.leads.standing

  above : AllStanding a.world.ready (under base rs m) (one ∷ rest)
  above = AllStanding-rest a.world.ready base (take m.at rs) (one ∷ rest) whole

  top : a.world.state ≡ state_after (under base rs m) (entries (one ∷ rest))
  top =
      s.leads.top
      ∙ ap (λ xs. state_after base (entries xs)) g.place.is
      ∙ ap (state_after base) (entries-append (take m.at rs) (one ∷ rest))
      ∙ state_after-append base (entries (take m.at rs)) (entries (one ∷ rest))

  left : Goes a.world.ready (under base rs m) one found.keyed above.0 (well_below a.world.ready (under base rs m) (one ∷ rest) above (subst AreWell top g.well)) rest
  left = goes a.world.ready (under base rs m) one found.keyed above.0 (well_below a.world.ready (under base rs m) (one ∷ rest) above (subst AreWell top g.well)) rest above.1 found.spared

  -- no object comes or goes
  objects : (makes_in (turned a.world.state one.undoing) ≡ makes_in a.world.state) × ((turned a.world.state one.undoing).progs ≡ a.world.state.progs)
  objects = same_objects a.world.ready (under base rs m) one found.keyed above.0 (well_below a.world.ready (under base rs m) (one ∷ rest) above (subst AreWell top g.well)) a.world.state

  pub can_take : CanSwap a.world.ready (base_of a) a.records a.room m
  can_take = record {
    within = omega (arith, g.within, g.stays);
    lying = subst (λ xs. AllLying a.world.ready (under base rs m) (reverse xs)) (sym g.other) tt;
    standing =
        subst (λ ys. AllStanding a.world.ready (state_after (under base rs m) (entries (reverse ys))) (behind m.stays rs)) (sym g.other)
        (subst (AllStanding a.world.ready (under base rs m)) (sym rear_is) left.standing);
    one = λ some. record {
      one = one;
      only = ap (λ xs. xs ++ m.other) go_is ∙ ap (λ ys. one ∷ ys) g.other;
      keyed = found.keyed;
      spared = subst (Each (IsSpared one)) (sym rear_is) found.spared;
    };
    room_back = omega (arith, g.within, g.stays, g.room);
    room_forth = omega (arith, g.within, g.stays, ap (λ (xs : List Recorded). length xs) g.other, s.room_records);
  }

  -- ---- a stage b is a, once it is exchanged
  pub record TakesAlone (b : StageHeld) (n : MomentView) : Type 0 where
    pub exchanges : Exchanges a.world a.records m b.world b.records n
    pub room : a.room ≤ b.room
    pub fits : length b.records ≤ b.room
    pub pending : b.pending ≡ n
    pub spare : b.spare ≡ []
    pub out_is : m.out ≡ Some a.serial
    pub serial : b.serial ≡ a.serial
    pub out : b.out ≡ true
    pub passed : b.passed ≡ 1
    pub moments : b.moments ≡ a.moments
    pub moments_room : b.moments_room ≡ a.moments_room
    pub undone : b.undone ≡ a.undone
    pub standing : b.standing ≡ a.standing

  module _ (w : IsWhole a) (b : StageHeld) (n : MomentView) (t : TakesAlone b n) where
    turning : Turning a
    turning = is_turning a s w.not_out

    all_in_place : swapped base rs a.pending ≡ rs
    all_in_place =
        swapped-alone base rs a.pending turning.stays
        ∙ ap (λ ys. take a.pending.at rs ++ stood (under base rs a.pending) (reverse ys)) w.none
        ∙ append-nil (take a.pending.at rs)
        ∙ take_all a.pending.at rs (omega (arith, turning.at))

    after_leads : Leads a.world.ready base b.world.state b.records
    after_leads = record {
      standing = subst (AllStanding a.world.ready base) (sym t.exchanges.records) (AllStanding-swapped a.world.ready base a.world.state rs a.room m s.leads can_take);
      top = t.exchanges.state;
    }

    held_length : length n.other ≡ 1
    held_length =
        ap (λ (xs : List Recorded). length xs) (t.exchanges.moment.other ∙ ap (λ xs. reverse (laid (under base rs m) xs)) go_is)

    count : length b.records ≡ m.at + m.stays
    count = ap (λ (xs : List Recorded). length xs) t.exchanges.records ∙ length-swapped base rs m can_take.within ∙ omega (arith, ap (λ (xs : List Recorded). length xs) g.other)

    back : swapped base b.records b.pending ≡ rs
    back = (λ i. swapped base (t.exchanges.records i) (t.pending i)) ∙ swapped-again a.world.ready base a.world.state rs a.room m n s.leads can_take t.exchanges.moment

    can_back : CanSwap a.world.ready base b.records b.room b.pending
    can_back =
        subst (λ (x : List Recorded × MomentView). CanSwap a.world.ready base x.0 b.room x.1) (λ i. (sym t.exchanges.records i, sym t.pending i))
        (CanSwap-room a.world.ready base (swapped base rs m) a.room b.room n t.room (CanSwap-again a.world.ready base a.world.state rs a.room m n s.leads can_take t.exchanges.moment s.room_records))

    turned_is : b.world.state ≡ turned a.world.state one.undoing
    turned_is =
        t.exchanges.state
        ∙ ap (λ xs. state_after base (entries xs)) (t.exchanges.records ∙ (λ i. take m.at rs ++ (stood (under base rs m) (reverse (g.other i)) ++ rear_is i)))
        ∙ ap (state_after base) (entries-append (take m.at rs) rest)
        ∙ state_after-append base (entries (take m.at rs)) (entries rest)
        ∙ sym left.state
        ∙ ap (λ v. turned v one.undoing) (sym top)

    pub SoundStage-alone : SoundStage b
    SoundStage-alone =
        stage_from a.world.ready b base rs t.exchanges.ready after_leads can_back t.spare
        (ap (λ (x : MomentView). x.out) t.pending ∙ t.exchanges.moment.out_same ∙ t.out_is ∙ ap Some (sym t.serial))
        (phase_true b.out b t.out (record {
          at = omega (arith, count, ap (λ (x : MomentView). x.at) t.pending, ap (λ (x : MomentView). x.stays) t.pending, t.exchanges.moment.at_same, t.exchanges.moment.stays_same, t.passed);
          passed = omega (arith, held_length, ap (λ (x : MomentView). length x.other) t.pending, t.passed);
          none_left = λ some. omega (arith, held_length, ap (λ (x : MomentView). length x.other) t.pending, t.passed);
          room_spare = λ more. absurd (omega (arith, more, held_length, ap (λ (x : MomentView). length x.other) t.pending, t.passed));
        }))
        back
        (subst (λ ms. Down a.world.ready base rs b.room (reverse ms)) (sym t.moments) (Down-room a.world.ready _ _ _ _ _ t.room (subst (λ xs. Down a.world.ready base xs a.room (reverse a.moments)) all_in_place s.down)))
        (subst (λ us. Up a.world.ready base rs b.room us) (sym t.undone) (Up-room a.world.ready _ _ _ _ _ t.room (subst (λ xs. Up a.world.ready base xs a.room a.undone) all_in_place s.up)))
        t.fits
        (ap length t.moments ∙ s.counts ∙ sym t.standing)
        (omega (arith, s.room_moments, ap length t.moments, t.moments_room))

    pub takes_out_alone : TakesOutAlone (staged_of a) (staged_of b)
    unfolding staged_of
    takes_out_alone =
        let es : List Entry = entries (take m.at rs) in
        record {
          same = record {
            pasts = stage_line a.world.ready b base rs a.moments a.undone after_leads back t.moments t.undone ∙ sym (stage_line a.world.ready a base rs a.moments a.undone s.leads all_in_place refl refl);
            makes = ap (λ (v : Ready). v.makes) t.exchanges.ready;
            serial = t.serial;
          };
          one = (
            es,
            one.entry,
            entries rest,
            ap entries g.place.is ∙ entries-append (take m.at rs) (one ∷ rest),
            g.place.serial_is,
            ap entries (t.exchanges.records ∙ (λ i. take m.at rs ++ (stood (under base rs m) (reverse (g.other i)) ++ rear_is i))) ∙ entries-append (take m.at rs) rest,
          );
          left = ap (λ k. entries (drop k (reverse b.pending.other))) t.passed ∙ none_held b.pending.other (ap (λ (x : MomentView). length x.other) t.pending ∙ held_length);
          out = t.out;
          state =
              ap (λ v. replay v (entries b.records)) (foot_of a.world.ready base b.world.state b.records after_leads)
              ∙ replay_standing a.world.ready base b.records after_leads.standing
              ∙ ap (λ v. let x : Result State ℕ = Ok v in x) (sym after_leads.top);
          makes = ap makes_in turned_is ∙ objects.0;
          progs = ap (λ (v : State). v.progs) turned_is ∙ objects.1;
          to_restore = omega (arith, count, held_length, ap (λ (x : MomentView). x.at) t.pending, ap (λ (x : MomentView). x.stays) t.pending, ap (λ (x : MomentView). length x.other) t.pending, t.exchanges.moment.at_same, t.exchanges.moment.stays_same);
        }

    pub calls_alone : CallsAtMost 1 a.world.work b.world.work
    calls_alone = subst (λ k. CallsAtMost k a.world.work b.world.work) one_call t.exchanges.work
      where
        one_call : calls_to_swap rs m ≡ 1
        one_call = ap (λ o. calls_by o ((length rs - (m.at + m.stays)) + length m.other)) t.out_is ∙ omega (arith, g.within, g.stays, ap (λ (xs : List Recorded). length xs) g.other)
