-- A moment that exchanges a single record below those that stay: its record is turned above them, and goes or comes below them.
use Rattle.std.proofs.Common.{◌≡◌, inl, inr, ℕ, ◌+◌, ◌-◌, ◌<◌, ◌≤◌, List, [], ◌∷◌, ◌++◌, length, take, drop, reverse, Some, refl, sym, ◌∙◌, ap, subst, arith}
use Rattle.std.proofs.lemmas.List.{append-nil, drop_at, length-take-le}
use Rattle.host_state.specs.State.{State}
use Rattle.host_state.specs.World.{WorldView}
use Rattle.host_undoing.specs.Exchange.{turned, back_of, Fits}
use Rattle.host_state.specs.Work.{CallsAtMost}
use Rattle.host_state.specs.Hosts.{HoldsWell}
use Rattle.host_apart.specs.Laws.{AreWell}
use Rattle.journal_record.specs.After.{after, state_after}
use Rattle.journal_record.specs.Recorded.{Recorded}
use Rattle.journal_moments.specs.Calls.{calls_by, calls_to_swap}
use Rattle.journal_moments.specs.Line.{entries, lay, stand, laid, stood, foot, IsStanding, IsLying, AllStanding, AllLying, Leads, behind, between, under, swapped, ExchangesOne, CanSwap}
use Rattle.journal_moments.specs.Swaps.{Exchanges}
use Rattle.journal_moments.specs.MomentView.{MomentView}
use Rattle.journal_moments.proofs.CutLemmas.{length-between, in_three}
use Rattle.journal_record.proofs.LineLemmas.{state_after-append, entries-append}
use Rattle.journal_moments.proofs.SwapLemmas.{state_after-swapped, between_stands, behind_stands, top_is, one_of_two}
use Rattle.journal_record.proofs.AloneLemmas.{well_below, Goes, goes, Comes, comes}

-- the maps of a world hold what they can hold
pub are_well : (s : State) → HoldsWell s → AreWell s
are_well s h id m there = (h.well id m there, h.attributes id m there)

-- a record is known by its entry and its undoing
same_record : (x y : Recorded) → x.entry ≡ y.entry → x.undoing ≡ y.undoing → x ≡ y
same_record x y e u = λ i. record { entry = e i; undoing = u i }

-- what is exchanged turns what is in place back, or lies there
only_other : (x : Recorded) (other : List Recorded) → other ≡ [] → (xs : List Recorded) → xs ++ other ≡ x ∷ [] → xs ≡ x ∷ []
only_other x other none xs e = sym (append-nil xs) ∙ ap (λ ys. xs ++ ys) (sym none) ∙ e

popped : (x r : Recorded) (rest : List Recorded) → x ∷ [] ≡ rest ++ r ∷ [] → (rest ≡ []) × (r ≡ x)
popped x r [] e = (refl, cc)
popped x r (y ∷ []) e = cc
popped x r (y ∷ z ∷ rest) e = cc

-- the turned record has changed places with none, and others are in place
pub record Turns (old new : WorldView) (r u : Recorded) : Type 0 where
  pub state : new.state ≡ turned old.state r.undoing
  pub ready : new.ready ≡ old.ready
  pub undoing : u.undoing ≡ back_of old.state r.undoing
  pub entry : u.entry ≡ r.entry
  pub work : CallsAtMost 1 old.work new.work

-- the moment is as it was but for what it holds
pub record Keeps (m n : MomentView) : Type 0 where
  pub at : n.at ≡ m.at
  pub serial : n.serial ≡ m.serial
  pub out : n.out ≡ m.out
  pub stays : n.stays ≡ m.stays
  pub room : length m.other ≤ n.room

module _ (old : WorldView) (rs : List Recorded) (room : ℕ) (m : MomentView) (some : 0 < m.stays) (h : Leads old.ready (foot old.state rs) old.state rs) (k : CanSwap old.ready (foot old.state rs) rs room m) (well : AreWell old.state) where
  abbrev base : State
  base = foot old.state rs

  abbrev s : State
  s = under base rs m

  abbrev rear : List Recorded
  rear = behind m.stays rs

  abbrev x : ExchangesOne rs m
  x = k.one some

  front_length : length (take m.at rs) ≡ m.at
  front_length = length-take-le m.at rs (omega (arith, k.within))

  past : (go : List Recorded) → between m.at m.stays rs ≡ go → drop m.at rs ≡ go ++ rear
  past go e = ap (drop m.at) (sym (in_three m.at m.stays rs k.within)) ∙ drop_at (take m.at rs) (between m.at m.stays rs ++ rear) m.at front_length ∙ ap (λ xs. xs ++ rear) e

  top : (go : List Recorded) → between m.at m.stays rs ≡ go → old.state ≡ state_after (state_after s (entries go)) (entries rear)
  top go e = top_is old.ready base old.state rs m h k.within ∙ ap (λ xs. state_after (state_after s (entries xs)) (entries rear)) e

  above : (go : List Recorded) → between m.at m.stays rs ≡ go → AllStanding old.ready (state_after s (entries go)) rear
  above go e = subst (λ xs. AllStanding old.ready (state_after s (entries xs)) rear) e (behind_stands old.ready base old.state rs m h k.within)

  well_above_one : (go : List Recorded) → between m.at m.stays rs ≡ go → AreWell (state_after s (entries go))
  well_above_one go e = well_below old.ready (state_after s (entries go)) rear (above go e) (subst AreWell (top go e) well)

  calls : (out : ℕ) → m.out ≡ Some out → (length rs - (m.at + m.stays)) + length m.other ≡ 1 → (new : ℕ) → CallsAtMost 1 old.work new → CallsAtMost (calls_to_swap rs m) old.work new
  calls out is one new c = subst (λ n. CallsAtMost n old.work new) (sym (ap (λ o. calls_by o ((length rs - (m.at + m.stays)) + length m.other)) is ∙ one)) c

  -- ---- it is in place
  module _ (stands : m.other ≡ []) where
    go_is : between m.at m.stays rs ≡ x.one ∷ []
    go_is = only_other x.one m.other stands (between m.at m.stays rs) x.only

    standing : IsStanding old.ready s x.one
    standing = (subst (AllStanding old.ready s) go_is (between_stands old.ready base old.state rs m h k.within)).0

    below : AreWell s
    below = well_below old.ready s (x.one ∷ []) (standing, tt) (well_above_one (x.one ∷ []) go_is)

    left : Goes old.ready s x.one x.keyed standing below rear
    left = goes old.ready s x.one x.keyed standing below rear (above (x.one ∷ []) go_is) x.spared

    pub lay_room : length rs ≡ m.at + 1 + m.stays
    lay_room = omega (arith, k.within, length-between m.at m.stays rs k.within, ap (λ (xs : List Recorded). length xs) go_is)

    module _ (r : Recorded) (rest : List Recorded) (is : rs ≡ take m.at rs ++ r ∷ rest) where
      both : r ∷ rest ≡ x.one ∷ rear
      both = sym (drop_at (take m.at rs) (r ∷ rest) m.at front_length) ∙ ap (drop m.at) (sym is) ∙ past (x.one ∷ []) go_is

      r_is : r ≡ x.one
      r_is = cc both

      rest_is : rest ≡ rear
      rest_is = cc both

      pub lay_fits : Fits old.ready old.state r.undoing
      lay_fits = subst (λ (p : State × Recorded). Fits old.ready p.0 p.1.undoing) (λ i. (sym (top (x.one ∷ []) go_is) i, sym r_is i)) left.fits

      pub lay_exchanges : (new : WorldView) (u : Recorded) (n : MomentView) (out : ℕ) → Turns old new r u → Keeps m n → n.other ≡ u ∷ [] → m.out ≡ Some out → Exchanges old rs m new (take m.at rs ++ rest) n
      unfolding lay
      lay_exchanges new u n out t keeps other out_is =
          let records : take m.at rs ++ rest ≡ swapped base rs m = (λ i. take m.at rs ++ rest_is i) ∙ ap (λ ys. take m.at rs ++ (stood s (reverse ys) ++ rear)) (sym stands) in
          let w : old.state ≡ state_after (after s x.one.entry) (entries rear) = top (x.one ∷ []) go_is in
          record {
            state =
                t.state
                ∙ (λ i. turned (w i) (r_is i).undoing)
                ∙ left.state
                ∙ sym (state_after-append base (entries (take m.at rs)) (entries rear))
                ∙ ap (state_after base) (sym (entries-append (take m.at rs) rear))
                ∙ ap (λ xs. state_after base (entries (take m.at rs ++ xs))) (sym rest_is);
            ready = t.ready;
            records = records;
            moment = record {
              at_same = keeps.at;
              serial_same = keeps.serial;
              out_same = keeps.out;
              stays_same = keeps.stays;
              other = other
                  ∙ ap (λ y. y ∷ []) (same_record u (lay s x.one) (t.entry ∙ ap (λ (y : Recorded). y.entry) r_is) (t.undoing ∙ (λ i. back_of (w i) (r_is i).undoing) ∙ left.face))
                  ∙ ap (λ xs. reverse (laid s xs)) (sym go_is);
              room_back = keeps.room;
            };
            work = calls out out_is (omega (arith, lay_room, ap (λ (xs : List Recorded). length xs) stands)) new.work t.work;
          }

  -- ---- it lies there
  module _ (one_lies : m.other ≡ x.one ∷ []) (none : between m.at m.stays rs ≡ []) where
    lying : IsLying old.ready s x.one
    lying = (subst (λ ys. AllLying old.ready s (reverse ys)) one_lies k.lying).0

    come : Comes old.ready s x.one rear
    come =
        comes old.ready s x.one rear x.keyed lying (well_above_one [] none)
        (subst (λ ys. AllStanding old.ready (state_after s (entries (reverse ys))) rear) one_lies k.standing) x.spared

    pub stand_room : length rs ≡ m.at + m.stays
    stand_room = omega (arith, k.within, length-between m.at m.stays rs k.within, ap (λ (xs : List Recorded). length xs) none)

    module _ (r : Recorded) (r_is : r ≡ x.one) where
      pub stand_fits : Fits old.ready old.state r.undoing
      stand_fits = subst (λ (p : State × Recorded). Fits old.ready p.0 p.1.undoing) (λ i. (sym (top [] none) i, sym r_is i)) come.fits

      pub stand_exchanges : (new : WorldView) (u : Recorded) (n : MomentView) (out : ℕ) → Turns old new r u → Keeps m n → n.other ≡ [] → m.out ≡ Some out → Exchanges old rs m new (take m.at rs ++ u ∷ drop m.at rs) n
      unfolding stand
      stand_exchanges new u n out t keeps other out_is =
          let w : old.state ≡ state_after s (entries rear) = top [] none in
          let u_is : u ≡ stand s x.one = same_record u (stand s x.one) (t.entry ∙ ap (λ (y : Recorded). y.entry) r_is) (t.undoing ∙ (λ i. back_of (w i) (r_is i).undoing) ∙ come.face) in
          let records : take m.at rs ++ u ∷ drop m.at rs ≡ swapped base rs m = (λ i. take m.at rs ++ u_is i ∷ past [] none i) ∙ ap (λ ys. take m.at rs ++ (stood s (reverse ys) ++ rear)) (sym one_lies) in
          record {
            state =
                t.state
                ∙ (λ i. turned (w i) (r_is i).undoing)
                ∙ come.state
                ∙ ap (λ ys. state_after (state_after s (entries (reverse ys))) (entries rear)) (sym one_lies)
                ∙ sym (state_after-swapped base rs m)
                ∙ ap (λ xs. state_after base (entries xs)) (sym records);
            ready = t.ready;
            records = records;
            moment = record {
              at_same = keeps.at;
              serial_same = keeps.serial;
              out_same = keeps.out;
              stays_same = keeps.stays;
              other = other ∙ ap (λ xs. reverse (laid s xs)) (sym none);
              room_back = keeps.room;
            };
            work = calls out out_is (omega (arith, stand_room, ap (λ (xs : List Recorded). length xs) one_lies)) new.work t.work;
          }

  -- which of the two it is, if it holds a record
  pub record Lies (r : Recorded) (rest : List Recorded) : Type 0 where
    pub other : m.other ≡ (k.one some).one ∷ []
    pub none : between m.at m.stays rs ≡ []
    pub rest_is : rest ≡ []
    pub r_is : r ≡ (k.one some).one

  pub lies : (r : Recorded) (rest : List Recorded) → m.other ≡ rest ++ r ∷ [] → Lies r rest
  lies r rest e = elim (one_of_two (between m.at m.stays rs) m.other x.one x.only) [ inl p ↦ no_record rest (sym p.1 ∙ e) | inr p ↦ found p ]
    where
      no_record : (ys : List Recorded) → [] ≡ ys ++ r ∷ [] → Lies r rest
      no_record [] f = cc
      no_record (y ∷ ys) f = cc

      found : (between m.at m.stays rs ≡ []) × (m.other ≡ x.one ∷ []) → Lies r rest
      found p = let q : (rest ≡ []) × (r ≡ x.one) = popped x.one r rest (sym p.1 ∙ e) in record { other = p.1; none = p.0; rest_is = q.0; r_is = q.1 }
