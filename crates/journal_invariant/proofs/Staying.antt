-- A new book is well; and a change, a mark, an undo, a redo and a taking out leave a book well.
use Rattle.std.proofs.Common.{◌≡◌, ◌⊎◌, inl, inr, ℕ, suc, ◌+◌, ◌-◌, ◌<◌, ◌≤◌, Bool, true, false, cond, not, List, [], ◌∷◌, ◌++◌, length, take, drop, reverse, refl, sym, ◌∙◌, ap, subst, arith}
use Rattle.std.specs.Prelude.{nat_le, is_some, Option, None, Result, Ok, Err, Some}
use Rattle.std.specs.Ordering.{nat_cmp}
use Rattle.std.specs.FinMap as map
use Rattle.std.proofs.lemmas.Bool.{leb-true}
use Rattle.std.proofs.lemmas.List.{reverse-append, reverse-reverse, append_assoc, take-append-drop, length-drop, length-append}
use Rattle.bt_roots.specs.View.{devices_are_good}
use Rattle.host_state.specs.declared.change.Change.{Change}
use Rattle.host_state.specs.declared.change.Change.TheVariants.{Create, Load}
use Rattle.host_state.specs.declared.reply.Reply.{Reply}
use Rattle.host_state.specs.State.{State}
use Rattle.host_state.specs.Settled.{IsSettled}
use Rattle.host_state.specs.World.{fresh_state, makes_in}
use Rattle.bt_objects.specs.ById.{ById}
use Rattle.bt_objects.specs.declared.make.Make.{Make}
use Rattle.host_state.specs.Act.{act}
use Rattle.journal_model.specs.declared.limits.Limits.{Limits}
use Rattle.journal_model.specs.declared.faults.BookFault.{BookFault}
use Rattle.journal_model.specs.declared.faults.BookFault.TheVariants.{BadDevices, BadLimits}
use Rattle.journal_model.specs.Replay.{Entry, replay}
use Rattle.journal_model.specs.Plain.{Past, Pasts, newest_state, newest_force, now, one_forth, cut}
use Rattle.journal_model.specs.Marks.{Mark, has_name, moments_at}
use Rattle.journal_model.specs.Book.{PlainBook, kept_states, makes_of, limits_are_good, fresh_book, opened, last_map_after, last_prog_after, with_moment, with_mark, back_to, brought_back}
use Rattle.journal_model.specs.Well.{Each, EachPair, all_moments, IdsUpTo, IsInOrder, IsWellMoment, EachFollows, IsWellBook, Tells}
use Rattle.journal_model.specs.Without.{with_taken_out}
use Rattle.journal_model.specs.Force.{is_in_force, without}
use Rattle.journal_invariant.specs.Laws.{BeginsWell}
use Rattle.journal_model.proofs.Lists.{Each-map, Each-append, Each-rest, Each-passing, EachPair-rest, EachPair-push}
use Rattle.journal_model.proofs.Replaying.{replay_push}
use Rattle.journal_model.proofs.Acts.{new_id, new_prog, new_box, IsDone, acted}
use Rattle.journal_model.proofs.Charges.{tell_themselves}
use Rattle.journal_model.proofs.Boxes.{OfState, OfKept, of_kept, kept_of, kept_cut, kept_forth, with_box, tells_more, tells_after, has_map, map_has_box}
use Rattle.journal_model.proofs.Cases.{IsNumbered, new_moment, taking_out}
use Rattle.journal_invariant.proofs.Settling.{fresh_settled}
use Rattle.journal_invariant.proofs.Following.{EachFollows-rest}
use Rattle.journal_model.proofs.Others.{others_in_order, IsWithin, within_replay}

-- ---- a new book
no_ids : (devices : List (List ℕ)) → IdsUpTo 0 0 (fresh_state devices)
no_ids devices = record {
  maps = λ id has. let none : map.contains_key (fresh_state devices).maps id ≡ false = ap is_some (map.get-empty nat_cmp id) in cc;
  progs = λ id has. let none : map.contains_key (fresh_state devices).progs id ≡ false = ap is_some (map.get-empty nat_cmp id) in cc;
}

pub fresh_is_well : (devices : List (List ℕ)) (limits : Limits) → IsWellBook (fresh_book devices limits)
fresh_is_well devices limits = record {
  base = no_ids devices;
  settled = fresh_settled devices;
  moments = tt;
  follow = tt;
  rising = tt;
  serials = omega arith;
  boxes = tell_themselves (makes_in (fresh_state devices)) (fresh_state devices ∷ []) ((λ id make e. e), tt);
  marks = tt;
}

-- a test that may refuse has not
not_err : (test : Bool) (fault : BookFault) (o : Result PlainBook BookFault) (b : PlainBook) → cond test (Err fault) o ≡ Ok b → o ≡ Ok b
not_err true fault o b e = cc
not_err false fault o b e = e

same_ok : (a b : PlainBook) → ◌≡◌ {A = Result PlainBook BookFault} (Ok a) (Ok b) → a ≡ b
same_ok a b e = cc

pub opened_is : (devices : List (List ℕ)) (limits : Limits) (b : PlainBook) → opened devices limits ≡ Ok b → fresh_book devices limits ≡ b
opened_is devices limits b e = same_ok (fresh_book devices limits) b (not_err (not (limits_are_good limits)) BadLimits _ b (not_err (not (devices_are_good devices)) BadDevices _ b e))

pub begins_well : (devices : List (List ℕ)) (limits : Limits) (b : PlainBook) → BeginsWell devices limits b
begins_well devices limits b e = subst IsWellBook (opened_is devices limits b e) (fresh_is_well devices limits)

-- ---- what was given may rise
ids_more : (map_id prog_id more_map more_prog : ℕ) (s : State) → map_id ≤ more_map → prog_id ≤ more_prog → IdsUpTo map_id prog_id s → IdsUpTo more_map more_prog s
ids_more map_id prog_id more_map more_prog s m p ids = record {
  maps = λ id has. let low : id ≤ map_id = ids.maps id has in omega arith;
  progs = λ id has. let low : id ≤ prog_id = ids.progs id has in omega arith;
}

-- what a book may change without harm to its moments
pub record Follows (b c : PlainBook) : Type 0 where
  pub base : c.line.base ≡ b.line.base
  pub serials : b.last_serial ≤ c.last_serial
  pub maps : b.last_map ≤ c.last_map
  pub progs : b.last_prog ≤ c.last_prog

pub well_later : (b c : PlainBook) → Follows b c → (m : Past) → IsWellMoment b m → IsWellMoment c m
well_later b c f m w = record {
  replayed = ap (λ s. replay s m.force) f.base ∙ w.replayed;
  in_order = (w.in_order.0, Each-map (λ (e : Entry). e.serial ≤ b.last_serial) (λ (e : Entry). e.serial ≤ c.last_serial) m.force (λ e low. omega (arith, f.serials)) w.in_order.1);
  given = omega (arith, w.given, f.serials);
  ids = ids_more b.last_map b.last_prog c.last_map c.last_prog m.state f.maps f.progs w.ids;
}

-- the boxes of all states that it keeps
abbrev pub boxes_of : PlainBook → ById Make
boxes_of b = makes_of (kept_states b.line)

-- the boxes tell of what stands of the kept states
pub same_tells : (b : PlainBook) → IsWellBook b → (p : Pasts) → ((P : State → Type 0) → OfKept P b.line → OfKept P p) → Each (Tells (boxes_of b)) (kept_states p)
same_tells b w p kept = kept_of (Tells (boxes_of b)) p (kept (Tells (boxes_of b)) (of_kept (Tells (boxes_of b)) b.line w.boxes.has_box))

-- the same moments stand
pub well_same : (b c : PlainBook) → Follows b c → c.gone ≡ b.gone → all_moments c.line ≡ all_moments b.line → ((P : State → Type 0) → OfKept P b.line → OfKept P c.line) → Each (λ (mark : Mark). mark.moments ≤ length c.line.moments) c.marks → IsWellBook b → IsWellBook c
well_same b c f gone same kept marks w = record {
  base = subst (IdsUpTo c.last_map c.last_prog) (sym f.base) (ids_more b.last_map b.last_prog c.last_map c.last_prog b.line.base f.maps f.progs w.base);
  settled = subst IsSettled (sym f.base) w.settled;
  moments = subst (Each (IsWellMoment c)) (sym same) (Each-map (IsWellMoment b) (IsWellMoment c) (all_moments b.line) (well_later b c f) w.moments);
  follow = subst EachFollows (sym same) w.follow;
  rising = subst (EachPair (λ (newer older : Past). older.serial < newer.serial)) (sym same) w.rising;
  serials = omega (arith, gone, ap length same, w.serials, f.serials);
  boxes = tell_themselves (boxes_of b) (kept_states c.line) (same_tells b w c.line kept);
  marks = marks;
}

-- ---- undo and redo
pub moved_all : (count : ℕ) (p : Pasts) → all_moments (cut count p) ≡ all_moments p
moved_all count p =
    let past : ℕ = length p.moments - count in
    let gone : List Past = take past p.moments in
    ap (λ ms. ms ++ drop past p.moments) (reverse-append (reverse gone) p.undone ∙ ap (λ ms. reverse p.undone ++ ms) (reverse-reverse gone))
    ∙ append_assoc (reverse p.undone) gone (drop past p.moments)
    ∙ ap (λ ms. reverse p.undone ++ ms) (take-append-drop past p.moments)

pub brought_all : (p : Pasts) → all_moments (one_forth p) ≡ all_moments p
brought_all p = first p.undone p.moments
  where
    first : (us ms : List Past) → reverse (drop 1 us) ++ (take 1 us ++ ms) ≡ reverse us ++ ms
    first [] ms = refl
    first (u ∷ us) ms = sym (ap (λ vs. vs ++ ms) (reverse-append (u ∷ []) us) ∙ append_assoc (reverse us) (u ∷ []) ms)

pub undone_well : (b : PlainBook) → IsWellBook b → (count : ℕ) → IsWellBook (back_to b count)
undone_well b w count =
    let past : ℕ = length b.line.moments - count in
    let left : length (drop past b.line.moments) ≡ length b.line.moments - past = length-drop past b.line.moments in
    well_same b (back_to b count) (record { base = refl; serials = omega arith; maps = omega arith; progs = omega arith }) refl (moved_all count b.line) (λ P. kept_cut P count b.line)
    (Each-passing (λ (mark : Mark). mark.moments ≤ length b.line.moments) (λ (mark : Mark). mark.moments ≤ length (drop past b.line.moments)) (λ (mark : Mark). nat_le mark.moments count) b.marks
    (λ mark passed low. let within : mark.moments ≤ count = leb-true mark.moments count passed in omega arith) w.marks) w

pub redone_well : (b : PlainBook) → IsWellBook b → IsWellBook (brought_back b)
redone_well b w =
    let more : length (take 1 b.line.undone ++ b.line.moments) ≡ length (take 1 b.line.undone) + length b.line.moments = length-append (take 1 b.line.undone) b.line.moments in
    well_same b (brought_back b) (record { base = refl; serials = omega arith; maps = omega arith; progs = omega arith }) refl (brought_all b.line) (λ P. kept_forth P b.line)
    (Each-map (λ (mark : Mark). mark.moments ≤ length b.line.moments) (λ (mark : Mark). mark.moments ≤ length (take 1 b.line.undone ++ b.line.moments)) b.marks (λ mark low. omega arith) w.marks) w

-- ---- marks
pub low_mark : (name : List ℕ) (n count : ℕ) (marks : List Mark) → Each (λ (mark : Mark). mark.moments ≤ n) marks → moments_at name marks ≡ Some count → count ≤ n
low_mark name n count [] low e = cc
low_mark name n count (mark ∷ marks) low e = here (has_name name mark) e (low_mark name n count marks low.1)
  where
    here : (b : Bool) → cond b (Some mark.moments) (moments_at name marks) ≡ Some count → (moments_at name marks ≡ Some count → count ≤ n) → count ≤ n
    here true f rest = let same : mark.moments ≡ count = cc in omega (arith, low.0)
    here false f rest = rest f

pub marked_well : (b : PlainBook) → IsWellBook b → (name : List ℕ) → IsWellBook (with_mark b name)
marked_well b w name =
    well_same b (with_mark b name) (record { base = refl; serials = omega arith; maps = omega arith; progs = omega arith }) refl refl (λ P k. k)
    (Each-append (λ (mark : Mark). mark.moments ≤ length b.line.moments) b.marks _ w.marks (omega arith, tt)) w

-- ---- recording
pub newest_is_well : (b : PlainBook) (ms : List Past) → IdsUpTo b.last_map b.last_prog b.line.base → Each (IsWellMoment b) ms →
    (replay b.line.base (newest_force ms) ≡ Ok (newest_state b.line.base ms)) × IsInOrder b.last_serial (newest_force ms) × IdsUpTo b.last_map b.last_prog (newest_state b.line.base ms)
newest_is_well b [] base w = (refl, (tt, tt), base)
newest_is_well b (m ∷ ms) base w = (w.0.replayed, w.0.in_order, w.0.ids)

numbered_more : (last prog : ℕ) (change : Change) → IsNumbered (last + 1) prog change → last ≤ last_map_after change last
numbered_more last prog (Create id attr charge name path template) n = omega arith
numbered_more last prog _ n = omega arith

new_id_within : (last : ℕ) (change : Change) (id : ℕ) → new_id change ≡ Some id → id ≤ last_map_after change last
new_id_within last (Create new attr charge name path template) id e = let same : new ≡ id = cc in omega arith
new_id_within last _ id e = cc

prog_numbered_more : (map_id last : ℕ) (change : Change) → IsNumbered map_id (last + 1) change → last ≤ last_prog_after change last
prog_numbered_more map_id last (Load its_id code name path) n = omega arith
prog_numbered_more map_id last _ n = omega arith

new_prog_within : (last : ℕ) (change : Change) (id : ℕ) → new_prog change ≡ Some id → id ≤ last_prog_after change last
new_prog_within last (Load new code name path) id e = let same : new ≡ id = cc in omega arith
new_prog_within last _ id e = cc

done_ids : (b : PlainBook) (s : State) (change : Change) (done : State × Reply) → IsNumbered (b.last_map + 1) (b.last_prog + 1) change → IsDone s change done → IdsUpTo b.last_map b.last_prog s
    → IdsUpTo (last_map_after change b.last_map) (last_prog_after change b.last_prog) done.0
done_ids b s change done n d ids = record {
  maps = λ id has. from id (d.maps id has);
  progs = λ id has. from_prog id (d.progs id has);
}
  where
    from : (id : ℕ) → (map.contains_key s.maps id ≡ true) ⊎ (new_id change ≡ Some id) → id ≤ last_map_after change b.last_map
    from id (inl was) = let low : id ≤ b.last_map = ids.maps id was in let more : b.last_map ≤ last_map_after change b.last_map = numbered_more b.last_map (b.last_prog + 1) change n in omega arith
    from id (inr new) = new_id_within b.last_map change id new

    from_prog : (id : ℕ) → (map.contains_key s.progs id ≡ true) ⊎ (new_prog change ≡ Some id) → id ≤ last_prog_after change b.last_prog
    from_prog id (inl was) = let low : id ≤ b.last_prog = ids.progs id was in let more : b.last_prog ≤ last_prog_after change b.last_prog = prog_numbered_more (b.last_map + 1) b.last_prog change n in omega arith
    from_prog id (inr new) = new_prog_within b.last_prog change id new

pub newest_tells : (makes : ById Make) (base : State) (ms : List Past) → Tells makes base → Each (OfState (Tells makes)) ms → Tells makes (newest_state base ms)
newest_tells makes base [] t ts = t
newest_tells makes base (m ∷ ms) t ts = ts.0

each_more : (b : PlainBook) (change : Change) → IsNumbered (b.last_map + 1) (b.last_prog + 1) change → (ms : List Past) → Each (IsWellMoment b) ms → Each (OfState (Tells (boxes_of b))) ms → Each (OfState (Tells (with_box (new_box change) (boxes_of b)))) ms
each_more b change n [] w t = tt
each_more b change n (m ∷ ms) w t = (tells_more (boxes_of b) b.last_map (b.last_prog + 1) change n m.state w.0.ids.maps t.0, each_more b change n ms w.1 t.1)

-- the new box is told of beside those of the states that are kept
pub recorded_tells : (b : PlainBook) → IsWellBook b → (change : Change) (s : State) (reply : Reply) → IsNumbered (b.last_map + 1) (b.last_prog + 1) change → IsDone (now b.line) change (s, reply) →
    Each (Tells (with_box (new_box change) (boxes_of b))) (kept_states (with_moment b change (s, reply)).line)
recorded_tells b w change s reply n done =
    let c : PlainBook = with_moment b change (s, reply) in
    let makes : ById Make = with_box (new_box change) (boxes_of b) in
    let old : OfKept (Tells (boxes_of b)) b.line = of_kept (Tells (boxes_of b)) b.line w.boxes.has_box in
    let below : Each (IsWellMoment b) b.line.moments = Each-rest (IsWellMoment b) (reverse b.line.undone) b.line.moments w.moments in
    let base : Tells makes b.line.base = tells_more (boxes_of b) b.last_map (b.last_prog + 1) change n b.line.base w.base.maps old.base in
    let moments : Each (OfState (Tells makes)) b.line.moments = each_more b change n b.line.moments below old.moments in
    let new : Tells makes s = tells_after (boxes_of b) (now b.line) change (s, reply) done (newest_tells makes b.line.base b.line.moments base moments) in
    kept_of (Tells makes) c.line (record { base = base; moments = (new, moments); undone = tt })

-- one moment more, with the next serial
one_more_given : (b : PlainBook) → IsWellBook b → b.gone + suc (length b.line.moments) ≤ b.last_serial + 1
one_more_given b w =
    let all : length (all_moments b.line) ≡ length (reverse b.line.undone) + length b.line.moments = length-append (reverse b.line.undone) b.line.moments in
    omega (arith, all, w.serials)

pub recorded_well : (b : PlainBook) → IsWellBook b → (change : Change) (s : State) (reply : Reply) → IsNumbered (b.last_map + 1) (b.last_prog + 1) change → act (now b.line) change ≡ Ok (s, reply) → IsWellBook (with_moment b change (s, reply))
recorded_well b w change s reply n acts =
    let c : PlainBook = with_moment b change (s, reply) in
    let e : Entry = record { serial = b.last_serial + 1; change = change; reply = reply } in
    let more : b.last_map ≤ last_map_after change b.last_map = numbered_more b.last_map (b.last_prog + 1) change n in
    let more_progs : b.last_prog ≤ last_prog_after change b.last_prog = prog_numbered_more (b.last_map + 1) b.last_prog change n in
    let f : Follows b c = record { base = refl; serials = omega arith; maps = more; progs = more_progs } in
    let below : Each (IsWellMoment b) b.line.moments = Each-rest (IsWellMoment b) (reverse b.line.undone) b.line.moments w.moments in
    let newest = newest_is_well b b.line.moments w.base below in
    let force : List Entry = newest_force b.line.moments in
    let ids : IdsUpTo c.last_map c.last_prog s = done_ids b (now b.line) change (s, reply) n (acted (now b.line) change (s, reply) acts) newest.2 in
    let new : IsWellMoment c (new_moment b change s reply) = record {
      replayed = replay_push b.line.base (now b.line) s force e newest.0 acts;
      in_order = (
        EachPair-push (λ (x y : Entry). x.serial < y.serial) force e newest.1.0 (Each-map (λ (x : Entry). x.serial ≤ b.last_serial) (λ (x : Entry). x.serial < b.last_serial + 1) force (λ x low. omega arith) newest.1.1),
        Each-append (λ (x : Entry). x.serial ≤ b.last_serial + 1) force _ (Each-map (λ (x : Entry). x.serial ≤ b.last_serial) (λ (x : Entry). x.serial ≤ b.last_serial + 1) force (λ x low. omega arith) newest.1.1) (omega arith, tt),
      );
      given = omega arith;
      ids = ids;
    } in
    record {
      base = ids_more b.last_map b.last_prog c.last_map c.last_prog b.line.base more more_progs w.base;
      settled = w.settled;
      moments = (new, Each-map (IsWellMoment b) (IsWellMoment c) b.line.moments (well_later b c f) below);
      follow = ((e, refl, refl), EachFollows-rest (reverse b.line.undone) b.line.moments w.follow);
      rising = (
        Each-map (IsWellMoment b) (λ (older : Past). older.serial < b.last_serial + 1) b.line.moments (λ m wm. omega (arith, wm.given)) below,
        EachPair-rest (λ (newer older : Past). older.serial < newer.serial) (reverse b.line.undone) b.line.moments w.rising,
      );
      serials = one_more_given b w;
      boxes = tell_themselves (with_box (new_box change) (boxes_of b)) (kept_states c.line) (recorded_tells b w change s reply n (acted (now b.line) change (s, reply) acts));
      marks = Each-map (λ (mark : Mark). mark.moments ≤ length b.line.moments) (λ (mark : Mark). mark.moments ≤ length c.line.moments) b.marks (λ mark low. omega arith) w.marks;
    }

-- ---- a taking out
-- its state has no other objects than the one before it
pub others_within : (b : PlainBook) → IsWellBook b → (serial : ℕ) (s : State) → replay b.line.base (without serial (newest_force b.line.moments)) ≡ Ok s → IsWithin s (now b.line)
others_within b w serial s replayed =
    let below : Each (IsWellMoment b) b.line.moments = Each-rest (IsWellMoment b) (reverse b.line.undone) b.line.moments w.moments in
    within_replay serial (newest_force b.line.moments) b.line.base b.line.base s (now b.line) (record { makes = λ id make e. e; progs = λ id e. e }) replayed (newest_is_well b b.line.moments w.base below).0

taken_ids : (b : PlainBook) (s : State) → IsWithin s (now b.line) → IdsUpTo b.last_map b.last_prog (now b.line) → IdsUpTo b.last_map b.last_prog s
taken_ids b s within ids = record {
  maps = λ id has. ids.maps id (there id (map.get (makes_in s) id) refl (map_has_box s id has));
  progs = λ id has. ids.progs id (within.progs id has);
}
  where
    there : (id : ℕ) (o : Option Make) → map.get (makes_in s) id ≡ o → is_some o ≡ true → map.contains_key (now b.line).maps id ≡ true
    there id None e some = cc
    there id (Some make) e some = has_map (now b.line) id make (within.makes id make e)

pub taken_tells : (b : PlainBook) → IsWellBook b → (serial : ℕ) (s : State) → IsWithin s (now b.line) → Each (Tells (boxes_of b)) (kept_states (with_taken_out b serial (without serial (newest_force b.line.moments)) s).line)
taken_tells b w serial s within =
    let c : PlainBook = with_taken_out b serial (without serial (newest_force b.line.moments)) s in
    let old : OfKept (Tells (boxes_of b)) b.line = of_kept (Tells (boxes_of b)) b.line w.boxes.has_box in
    let newest : Tells (boxes_of b) (now b.line) = newest_tells (boxes_of b) b.line.base b.line.moments old.base old.moments in
    kept_of (Tells (boxes_of b)) c.line (record { base = old.base; moments = ((λ id make e. newest id make (within.makes id make e)), old.moments); undone = tt })

pub taken_well : (b : PlainBook) → IsWellBook b → (serial : ℕ) (s : State) → is_in_force serial (newest_force b.line.moments) ≡ true → replay b.line.base (without serial (newest_force b.line.moments)) ≡ Ok s → IsWellBook (with_taken_out b serial (without serial (newest_force b.line.moments)) s)
taken_well b w serial s there replayed =
    let c : PlainBook = with_taken_out b serial (without serial (newest_force b.line.moments)) s in
    let f : Follows b c = record { base = refl; serials = omega arith; maps = omega arith; progs = omega arith } in
    let below : Each (IsWellMoment b) b.line.moments = Each-rest (IsWellMoment b) (reverse b.line.undone) b.line.moments w.moments in
    let newest = newest_is_well b b.line.moments w.base below in
    let within : IsWithin s (now b.line) = others_within b w serial s replayed in
    let others : IsInOrder b.last_serial (without serial (newest_force b.line.moments)) = others_in_order b.last_serial serial (newest_force b.line.moments) newest.1 in
    let new : IsWellMoment c (taking_out b serial s) = record {
      replayed = replayed;
      in_order = (others.0, Each-map (λ (x : Entry). x.serial ≤ b.last_serial) (λ (x : Entry). x.serial ≤ b.last_serial + 1) (without serial (newest_force b.line.moments)) (λ x low. omega arith) others.1);
      given = omega arith;
      ids = taken_ids b s within newest.2;
    } in
    record {
      base = w.base;
      settled = w.settled;
      moments = (new, Each-map (IsWellMoment b) (IsWellMoment c) b.line.moments (well_later b c f) below);
      follow = ((there, refl), EachFollows-rest (reverse b.line.undone) b.line.moments w.follow);
      rising = (
        Each-map (IsWellMoment b) (λ (older : Past). older.serial < b.last_serial + 1) b.line.moments (λ m wm. omega (arith, wm.given)) below,
        EachPair-rest (λ (newer older : Past). older.serial < newer.serial) (reverse b.line.undone) b.line.moments w.rising,
      );
      serials = one_more_given b w;
      boxes = tell_themselves (boxes_of b) (kept_states c.line) (taken_tells b w serial s within);
      marks = Each-map (λ (mark : Mark). mark.moments ≤ length b.line.moments) (λ (mark : Mark). mark.moments ≤ length c.line.moments) b.marks (λ mark low. omega arith) w.marks;
    }
