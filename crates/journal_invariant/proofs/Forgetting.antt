-- Giving up the past before a mark leaves a book well, and keeps what is later.
use Rattle.std.proofs.Common.{◌≡◌, ℕ, ◌+◌, ◌-◌, ◌<◌, ◌≤◌, List, [], ◌∷◌, ◌++◌, length, take, drop, reverse, map as each, refl, sym, ◌∙◌, ap, subst, arith}
use Rattle.std.specs.Prelude.{nat_le, Ok, None}
use Rattle.std.proofs.lemmas.Bool.{leb-true}
use Rattle.std.proofs.lemmas.List.{reverse-reverse, take-append-drop, length-append, length-map, length-drop}
use Rattle.host_state.specs.State.{State}
use Rattle.host_state.specs.Settled.{IsSettled}
use Rattle.journal_model.specs.Replay.{Entry, replay}
use Rattle.journal_model.specs.Plain.{Past, newest_state, newest_force}
use Rattle.journal_model.specs.Marks.{Mark}
use Rattle.journal_model.specs.Book.{PlainBook, kept_states, back_to}
use Rattle.journal_model.specs.Forget.{based_at}
use Rattle.journal_model.specs.Rebase.{still_taken_out, without_retired}
use Rattle.journal_model.specs.Well.{Each, EachPair, all_moments, EachFollows, IsInOrder, IdsUpTo, IsWellMoment, IsWellBook, Tells}
use Rattle.journal_invariant.specs.Live.{HasSameLive, KeepsWhatIsLater}
use Rattle.journal_model.proofs.Lists.{Each-map, Each-append, Each-front, Each-rest, Each-reverse, Each-passing, Each-both, Each-each, EachPair-rest, EachPair-front, EachPair-each}
use Rattle.journal_model.proofs.Replaying.{replay_after}
use Rattle.journal_model.proofs.Charges.{tell_themselves}
use Rattle.journal_model.proofs.Boxes.{OfState, OfKept, of_kept, kept_of}
use Rattle.journal_invariant.proofs.Dropping.{StaysRetired, retired_itself, settled_dropped, IsReplayed, replay_dropped, ids_dropped, tells_dropped, same_dropped}
use Rattle.journal_invariant.proofs.Advanced.{behind, earlier, later, new_base, taken_in, on_base, parts, advanced_moments, advanced_undone, all_advanced, moments_left}
use Rattle.journal_invariant.proofs.Following.{EachFollows-rest, Spares, spares, BeginsWith, dropped, Behind, all_behind}
use Rattle.journal_invariant.proofs.Staying.{boxes_of, newest_is_well, newest_tells}

module _ (b : PlainBook) (w : IsWellBook b) (count : ℕ) (none : still_taken_out count b.line ≡ None) where
  abbrev past : List Past
  past = earlier count b.line

  abbrev ahead : List Past
  ahead = take (behind count b.line) b.line.moments

  abbrev base : State
  base = new_base count b.line

  abbrev front : List Entry
  front = taken_in count b.line

  abbrev on : Past → Past
  on = on_base count b.line

  abbrev after : PlainBook
  after = based_at b count

  -- ---- the new base
  all_well : Each (IsWellMoment b) (later count b.line ++ past)
  all_well = subst (Each (IsWellMoment b)) (parts count b.line) w.moments

  at_base : (replay b.line.base front ≡ Ok base) × IsInOrder b.last_serial front × IdsUpTo b.last_map b.last_prog base
  at_base = newest_is_well b past w.base (Each-rest (IsWellMoment b) (later count b.line) past all_well)

  base_settled : IsSettled base
  base_settled = (replay_dropped b.line.base b.line.base front base w.settled (retired_itself b.line.base) at_base.0).settled

  -- ---- the moments that stay
  spared : Each (Spares front) (reverse ahead) × Each (Spares front) b.line.undone
  spared = let all : Each (Spares front) (reverse ahead ++ b.line.undone) = spares front (reverse ahead ++ b.line.undone) none in
      (Each-front (Spares front) (reverse ahead) b.line.undone all, Each-rest (Spares front) (reverse ahead) b.line.undone all)

  ahead_spared : Each (Spares front) ahead
  ahead_spared = subst (Each (Spares front)) (reverse-reverse ahead) (Each-reverse (Spares front) (reverse ahead) spared.0)

  followed : EachFollows (later count b.line ++ past)
  followed = subst EachFollows (parts count b.line) w.follow

  all_on : Behind base front (later count b.line) past
  all_on = all_behind base front (later count b.line) past refl followed (Each-append (Spares front) (reverse b.line.undone) ahead (Each-reverse (Spares front) b.line.undone spared.1) ahead_spared)

  -- a later moment, from the new base
  replays : (m : Past) → IsWellMoment b m → (h : BeginsWith front m.force) → IsReplayed base base h.more m.state
  replays m wm h = replay_dropped base base h.more m.state base_settled (retired_itself base) (sym (replay_after b.line.base base front h.more at_base.0) ∙ ap (replay b.line.base) (sym h.is) ∙ wm.replayed)

  well_on : (m : Past) → IsWellMoment b m → BeginsWith front m.force → IsWellMoment after (on m)
  well_on m wm h =
      let left : drop (length front) m.force ≡ h.more = dropped front m.force h in
      let order : IsInOrder b.last_serial (front ++ h.more) = subst (IsInOrder b.last_serial) h.is wm.in_order in
      record {
        replayed = ap (replay (without_retired base base)) left ∙ (replays m wm h).dropped;
        in_order = subst (IsInOrder b.last_serial) (sym left)
            (EachPair-rest (λ (x y : Entry). x.serial < y.serial) front h.more order.0, Each-rest (λ (e : Entry). e.serial ≤ b.last_serial) front h.more order.1);
        given = wm.given;
        ids = ids_dropped base b.last_map b.last_prog m.state wm.ids;
      }

  later_well : Each (λ m. IsWellMoment after (on m)) (later count b.line)
  later_well = Each-both (IsWellMoment b) (λ m. BeginsWith front m.force) (λ m. IsWellMoment after (on m)) (later count b.line) well_on (Each-front (IsWellMoment b) (later count b.line) past all_well) all_on.each_begins

  -- ---- boxes
  pub forgotten_tells : Each (Tells (boxes_of b)) (kept_states after.line)
  forgotten_tells =
      let P : State → Type 0 = Tells (boxes_of b) in
      let old : OfKept P b.line = of_kept P b.line w.boxes.has_box in
      let both : Each (OfState P) (ahead ++ past) = subst (Each (OfState P)) (sym (take-append-drop (behind count b.line) b.line.moments)) old.moments in
      let kept : (ms : List Past) → Each (OfState P) ms → Each (OfState P) (each on ms) = λ ms h. Each-each (OfState P) on ms (Each-map (OfState P) (λ m. P (on m).state) ms (λ m t. tells_dropped base (boxes_of b) m.state t) h) in
      kept_of P after.line (record {
        base = tells_dropped base (boxes_of b) base (newest_tells (boxes_of b) b.line.base past old.base (Each-rest (OfState P) ahead past both));
        moments = subst (Each (OfState P)) (sym (advanced_moments count b.line)) (kept ahead (Each-front (OfState P) ahead past both));
        undone = subst (Each (OfState P)) (sym (advanced_undone count b.line)) (kept b.line.undone old.undone);
      })

  -- ---- the book
  -- the moments that join the base are no longer among the others
  given : count ≤ length b.line.moments → b.gone + count + length (all_moments after.line) ≤ b.last_serial
  given low =
      let left : length (all_moments after.line) ≡ length (later count b.line) = ap length (all_advanced count b.line) ∙ length-map (later count b.line) on in
      let whole : length (all_moments b.line) ≡ length (later count b.line) + length past = ap length (parts count b.line) ∙ length-append (later count b.line) past in
      let first : length past ≡ length b.line.moments - (length b.line.moments - count) = length-drop (length b.line.moments - count) b.line.moments in
      omega (arith, left, whole, first, low, w.serials)

  pub forgotten_well : count ≤ length b.line.moments → IsWellBook (based_at b count)
  forgotten_well low = record {
    base = ids_dropped base b.last_map b.last_prog base at_base.2;
    settled = settled_dropped base base (retired_itself base) base_settled;
    moments = subst (Each (IsWellMoment after)) (sym (all_advanced count b.line)) (Each-each (IsWellMoment after) on (later count b.line) later_well);
    follow = subst EachFollows (sym (all_advanced count b.line)) all_on.follow;
    rising = subst (EachPair (λ (newer older : Past). older.serial < newer.serial)) (sym (all_advanced count b.line))
        (EachPair-each (λ (newer older : Past). older.serial < newer.serial) on (later count b.line)
        (EachPair-front (λ (newer older : Past). older.serial < newer.serial) (later count b.line) past (subst (EachPair (λ (newer older : Past). older.serial < newer.serial)) (parts count b.line) w.rising)));
    serials = given low;
    boxes = tell_themselves (boxes_of b) (kept_states after.line) forgotten_tells;
    marks = Each-each (λ (mark : Mark). mark.moments ≤ length after.line.moments) (λ (m : Mark). record m { moments = m.moments - count }) _
        (Each-passing (λ (mark : Mark). mark.moments ≤ length b.line.moments) (λ (mark : Mark). mark.moments - count ≤ length after.line.moments) (λ (m : Mark). nat_le count m.moments) b.marks
        (λ mark passed low. let left : length after.line.moments ≡ length b.line.moments - count = moments_left count b.line in let from : count ≤ mark.moments = leb-true count mark.moments passed in omega arith) w.marks);
  }

  -- ---- what is later
  ahead_on : Behind base front ahead past
  ahead_on =
      all_behind base front ahead past refl
      (subst EachFollows (sym (take-append-drop (behind count b.line) b.line.moments)) (EachFollows-rest (reverse b.line.undone) b.line.moments w.follow)) ahead_spared

  ahead_well : Each (IsWellMoment b) ahead
  ahead_well = Each-front (IsWellMoment b) ahead past (subst (Each (IsWellMoment b)) (sym (take-append-drop (behind count b.line) b.line.moments)) (Each-rest (IsWellMoment b) (reverse b.line.undone) b.line.moments w.moments))

  pub ahead_begins : Each (λ (m : Past). BeginsWith front m.force) ahead
  ahead_begins = ahead_on.each_begins

  -- no object that has retired in the base lives in a later moment
  pub ahead_retired : Each (λ (m : Past). StaysRetired base m.state) ahead
  ahead_retired = Each-both (IsWellMoment b) (λ m. BeginsWith front m.force) (λ (m : Past). StaysRetired base m.state) ahead (λ m wm h. (replays m wm h).retired) ahead_well ahead_on.each_begins

  newest_same : (ms : List Past) → Each (λ (m : Past). StaysRetired base m.state) ms → HasSameLive (newest_state b.line.base (ms ++ past)) (newest_state (without_retired base base) (each on ms))
  newest_same [] h = same_dropped base base (retired_itself base)
  newest_same (m ∷ ms) h = same_dropped base m.state h.0

  pub keeps_what_is_later : KeepsWhatIsLater b (back_to b count) (based_at b count)
  keeps_what_is_later = record {
    base = same_dropped base base (retired_itself base);
    state = subst (λ (x : List Past × List Past). HasSameLive (newest_state b.line.base x.0) (newest_state (without_retired base base) x.1))
        (λ i. (take-append-drop (behind count b.line) b.line.moments i, sym (advanced_moments count b.line) i))
        (newest_same ahead ahead_retired);
    force = ap newest_force (sym (take-append-drop (behind count b.line) b.line.moments)) ∙ ahead_on.newest.is ∙ ap (λ es. front ++ es) (sym ahead_on.on_base ∙ ap newest_force (sym (advanced_moments count b.line)));
  }
