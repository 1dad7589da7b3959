-- A new book is within its limits, and every event keeps a book within them.
use Rattle.std.proofs.Common.{◌≡◌, ℕ, ◌+◌, ◌-◌, ◌<◌, ◌≤◌, Bool, true, false, cond, not, ◌&&◌, List, [], ◌∷◌, length, reverse, refl, sym, ◌∙◌, ap, subst, arith}
use Rattle.std.specs.Prelude.{nat_le, nat_lt, Result, Ok, Err, Option, Some, None, is_some}
use Rattle.std.specs.Ordering.{nat_cmp}
use Rattle.std.specs.FinMap as map
use Rattle.std.proofs.lemmas.Bool.{leb-false, ltb-false}
use Rattle.std.proofs.lemmas.List.{length-append, length-map, length-drop}
use Rattle.host_words.specs.Spelling.{is_name}
use Rattle.bt_mapkind.specs.declared.errno.Errno.TheVariants.{EINVAL}
use Rattle.bt_mapkind.specs.Attributes.{good}
use Rattle.program_access.specs.declared.access.Access.{Access}
use Rattle.program_access.specs.declared.access.Access.TheVariants as access
use Rattle.bt_mapkind.specs.declared.request.MapOp.TheVariants as op
use Rattle.host_state.specs.declared.change.Change.{Change}
use Rattle.host_state.specs.declared.change.Change.TheVariants.{Create, Load}
use Rattle.host_state.specs.declared.reply.Reply.{Reply}
use Rattle.host_state.specs.declared.reply.Refusal.{Refusal}
use Rattle.host_state.specs.declared.reply.Refusal.TheVariants.{Errno, WrongBlank, BudgetFull, JournalFull, SerialsSpent, IdsSpent}
use Rattle.host_state.specs.State.{State}
use Rattle.host_state.specs.Act.{Outcome, act}
use Rattle.host_state.specs.World.{fresh_state, charged_of}
use Rattle.journal_model.specs.declared.limits.Limits.{Limits}
use Rattle.journal_model.specs.declared.faults.WithoutFault.{WithoutFault}
use Rattle.journal_model.specs.declared.faults.WithoutFault.TheVariants.{NotInForce, SerialsSpent as NoSerial}
use Rattle.journal_model.specs.Replay.{replay}
use Rattle.journal_model.specs.Plain.{Past, Pasts, now, one_forth, newest_force, cut}
use Rattle.journal_model.specs.Marks.{Mark, moments_at}
use Rattle.journal_model.specs.Blank.{Blank, suits}
use Rattle.journal_model.specs.Book.{PlainBook, kept_states, charged, fresh_book, is_full, folded, within_window, refusal_of, making_refusal, done_as, last_map_after, last_prog_after, with_moment, recorded, recorded_as, recorded_unless, marked_unless, back_to, undone_from, brought_back}
use Rattle.journal_model.specs.Without.{without_fault, with_taken_out, taken_out, taken_out_as, taken_out_unless}
use Rattle.journal_model.specs.Force.{is_in_force, without}
use Rattle.journal_model.specs.Forget.{based_at, forgotten_unless, forgotten_from}
use Rattle.journal_model.specs.Rebase.{advanced, still_taken_out}
use Rattle.journal_model.specs.Window.{can_fold}
use Rattle.journal_model.specs.Serve.{operation, served}
use Rattle.journal_model.specs.Run.{PlainEvent, Given, Record, Mark as MakeMark, UndoTo, UndoLast, Redo, Without, Forget, Serve, bookstep}
use Rattle.journal_model.specs.Well.{Each, Tells, all_moments, IsWellBook}
use Rattle.journal_invariant.specs.Laws.{IsWithinLimits, BeginsWithinLimits, StaysWithinLimits}
use Rattle.journal_model.proofs.Acts.{new_box, acted}
use Rattle.journal_model.proofs.Boxes.{with_box, has_map, kept_cut, kept_forth}
use Rattle.journal_model.proofs.Cases.{IsNumbered, HasRoom, new_moment, taking_out, room_for, room_without, in_force}
use Rattle.journal_invariant.proofs.Advanced.{earlier, later, on_base, parts, all_advanced}
use Rattle.journal_invariant.proofs.Charging.{no_boxes, no_charge, charge_of, with_box_charge, told_charge}
use Rattle.journal_invariant.proofs.Staying.{boxes_of, opened_is, same_tells, recorded_tells, recorded_well, others_within, taken_tells, taken_well, moved_all, brought_all}
use Rattle.journal_invariant.proofs.Forgetting.{forgotten_tells}
use Rattle.journal_invariant.proofs.Windowed.{Grows, moment_grows, taking_grows, window_cases, can_join}
use Rattle.journal_invariant.proofs.Events.{step_stays}

-- ---- a new book
no_maps : (devices : List (List ℕ)) → Tells no_boxes (fresh_state devices)
no_maps devices id make e =
    let none : map.contains_key (fresh_state devices).maps id ≡ false = ap is_some (map.get-empty nat_cmp id) in
    let some : map.contains_key (fresh_state devices).maps id ≡ true = has_map (fresh_state devices) id make e in
    cc

fresh_within : (devices : List (List ℕ)) (limits : Limits) → IsWithinLimits limits (fresh_book devices limits)
fresh_within devices limits =
    let none : charged (fresh_book devices limits) ≤ charged_of no_boxes = told_charge no_boxes (fresh_state devices ∷ []) (no_maps devices, tt) in
    record { stand = refl; moments = omega arith; serials = omega arith; map_ids = omega arith; prog_ids = omega arith; charges = omega (arith, none, no_charge) }

pub begins_within_limits : (devices : List (List ℕ)) (limits : Limits) (b : PlainBook) → BeginsWithinLimits devices limits b
begins_within_limits devices limits b e = subst (IsWithinLimits limits) (opened_is devices limits b e) (fresh_within devices limits)

-- ---- what no refusal stands against
-- a test that may refuse has not
passed : {X : Type 0} (test : Bool) (x : X) (o : Option X) → cond test (Some x) o ≡ None → (test ≡ false) × (o ≡ None)
passed true x o e = cc
passed false x o e = (refl, e)

-- the ids that a change gives and the charge of its box are within the limits
record Fits (limits : Limits) (b : PlainBook) (change : Change) : Type 0 where
  numbered : IsNumbered (b.last_map + 1) (b.last_prog + 1) change
  map_ids : last_map_after change b.last_map ≤ limits.last_id
  prog_ids : last_prog_after change b.last_prog ≤ limits.last_id
  charges : charged b + charge_of (new_box change) ≤ limits.budget

-- either of two books, whatever is answered
either : {A : Type 0} (P : PlainBook → Type 0) (test : Bool) (x y : PlainBook × A) → P x.0 → P y.0 → P (cond test x y).0
either P true x y h k = h
either P false x y h k = k

module _ (b : PlainBook) (w : IsWellBook b) (k : IsWithinLimits b.limits b) where
  abbrev Within : PlainBook → Type 0
  Within c = IsWithinLimits b.limits c

  fits : (change : Change) (blank : Option Blank) → making_refusal b change blank ≡ None → Fits b.limits b (done_as b change blank)
  fits (Create id attr charge name path template) None e =
      let ids = passed (nat_le b.limits.last_id b.last_map) IdsSpent _ e in
      let names = passed (not (good attr && is_name name)) (Errno EINVAL) _ ids.1 in
      let no_blank : Some WrongBlank ≡ None = names.1 in
      cc
  fits (Create id attr charge name path template) (Some blank) e =
      let ids = passed (nat_le b.limits.last_id b.last_map) IdsSpent _ e in
      let names = passed (not (good attr && is_name name)) (Errno EINVAL) _ ids.1 in
      let suited = passed (not (suits attr blank)) WrongBlank _ names.1 in
      let paid = passed (nat_lt b.limits.budget (charged b + blank.make.charge)) BudgetFull None suited.1 in
      let room : b.last_map < b.limits.last_id = leb-false b.limits.last_id b.last_map ids.0 in
      record { numbered = refl; map_ids = omega (arith, room); prog_ids = k.prog_ids; charges = ltb-false b.limits.budget (charged b + blank.make.charge) paid.0 }
  fits (Load id code name path) None e =
      let ids = passed (nat_le b.limits.last_id b.last_prog) IdsSpent None e in
      let room : b.last_prog < b.limits.last_id = leb-false b.limits.last_id b.last_prog ids.0 in
      record { numbered = refl; map_ids = k.map_ids; prog_ids = omega (arith, room); charges = omega (arith, k.charges) }
  fits (Load id code name path) (Some blank) e = let no_box = passed (nat_le b.limits.last_id b.last_prog) IdsSpent (Some WrongBlank) e in let none : Some WrongBlank ≡ None = no_box.1 in cc
  fits _ None e = record { numbered = tt; map_ids = k.map_ids; prog_ids = k.prog_ids; charges = omega (arith, k.charges) }
  fits _ (Some blank) e = cc

  -- ---- the same moments, or fewer, and no other boxes
  no_more : (p : Pasts) (gone : ℕ) (marks : List Mark) (forgotten_marks : List (List ℕ)) (gave_up : Option ℕ) → length (all_moments p) ≤ length (all_moments b.line) → Each (Tells (boxes_of b)) (kept_states p)
      → Within (record b { line = p; gone = gone; marks = marks; forgotten_marks = forgotten_marks; gave_up = gave_up })
  no_more p gone marks forgotten_marks gave_up fewer tells =
      let charge = told_charge (boxes_of b) (kept_states p) tells in
      record { stand = refl; moments = omega (arith, fewer, k.moments); serials = k.serials; map_ids = k.map_ids; prog_ids = k.prog_ids; charges = omega (arith, charge, k.charges) }

  back_within : (count : ℕ) → Within (back_to b count)
  back_within count = no_more (cut count b.line) b.gone _ b.forgotten_marks _ (omega (arith, ap length (moved_all count b.line))) (same_tells b w (cut count b.line) (λ P. kept_cut P count b.line))

  forth_within : Within (brought_back b)
  forth_within = no_more (one_forth b.line) b.gone b.marks b.forgotten_marks b.gave_up (omega (arith, ap length (brought_all b.line))) (same_tells b w (one_forth b.line) (λ P. kept_forth P b.line))

  based_within : (count : ℕ) → still_taken_out count b.line ≡ None → Within (based_at b count)
  based_within count none =
      let left : length (all_moments (advanced count b.line)) ≡ length (later count b.line) = ap length (all_advanced count b.line) ∙ length-map (later count b.line) (on_base count b.line) in
      let all : length (all_moments b.line) ≡ length (later count b.line) + length (earlier count b.line) = ap length (parts count b.line) ∙ length-append (later count b.line) (earlier count b.line) in
      no_more (advanced count b.line) _ _ b.forgotten_marks b.gave_up (omega (arith, left, all)) (forgotten_tells b w count none)

  -- ---- one moment more
  -- the book has grown, and what it may not grow past is within the limits but for the moments: the window keeps to those
  grown_within : (c : PlainBook) (m : Past) → Grows b c m → IsWellBook c → c.last_serial ≤ b.limits.last_serial → c.last_map ≤ b.limits.last_id → c.last_prog ≤ b.limits.last_id → charged c ≤ b.limits.budget
      → Within (within_window c)
  grown_within c m g wc serials maps progs charges = window_cases Within c short long
    where
      all : length (all_moments c.line) ≡ length b.line.moments + 1
      all = ap (λ (p : Pasts). length (all_moments p)) g.line ∙ omega arith

      longer : length c.line.moments ≡ length b.line.moments + 1
      longer = ap (λ (p : Pasts). length p.moments) g.line ∙ omega arith

      journal : c.limits.journal ≡ b.limits.journal
      journal = ap (λ (limits : Limits). limits.journal) g.limits

      short : length c.line.moments ≤ c.limits.journal → Within c
      short few = record { stand = g.limits; moments = omega (arith, few, all, longer, journal); serials = serials; map_ids = maps; prog_ids = progs; charges = charges }

      long : nat_lt c.limits.journal (length c.line.moments) ≡ true → Within (folded c)
      long many =
          let none : still_taken_out 1 c.line ≡ None = can_join b c m g many in
          let before : length (all_moments b.line) ≡ length (reverse b.line.undone) + length b.line.moments = length-append (reverse b.line.undone) b.line.moments in
          let left : length (all_moments (advanced 1 c.line)) ≡ length (later 1 c.line) = ap length (all_advanced 1 c.line) ∙ length-map (later 1 c.line) (on_base 1 c.line) in
          let whole : length (all_moments c.line) ≡ length (later 1 c.line) + length (earlier 1 c.line) = ap length (parts 1 c.line) ∙ length-append (later 1 c.line) (earlier 1 c.line) in
          let first : length (earlier 1 c.line) ≡ length c.line.moments - (length c.line.moments - 1) = length-drop (length c.line.moments - 1) c.line.moments in
          let charge : charged (folded c) ≤ charged c = told_charge (boxes_of c) (kept_states (advanced 1 c.line)) (forgotten_tells c wc 1 none) in
          record {
            stand = g.limits;
            moments = omega (arith, left, whole, first, all, longer, before, k.moments);
            serials = serials;
            map_ids = maps;
            prog_ids = progs;
            charges = omega (arith, charge, charges);
          }

  moment_within : (change : Change) (s : State) (reply : Reply) → b.last_serial < b.limits.last_serial → HasRoom b → Fits b.limits b change → act (now b.line) change ≡ Ok (s, reply)
      → Within (within_window (with_moment b change (s, reply)))
  moment_within change s reply serial room f acts =
      let c : PlainBook = with_moment b change (s, reply) in
      let makes = with_box (new_box change) (boxes_of b) in
      let told : charged c ≤ charged_of makes = told_charge makes (kept_states c.line) (recorded_tells b w change s reply f.numbered (acted (now b.line) change (s, reply) acts)) in
      let more = with_box_charge (new_box change) (boxes_of b) in
      grown_within c (new_moment b change s reply) (moment_grows b change s reply room) (recorded_well b w change s reply f.numbered acts) (omega (arith, serial)) f.map_ids f.prog_ids (omega (arith, told, more, f.charges))

  recorded_within : (change : Change) (blank : Option Blank) → Within (recorded b change blank).0
  recorded_within change blank = unless (refusal_of b change blank) refl
    where
      done : (o : Outcome) → act (now b.line) (done_as b change blank) ≡ o → refusal_of b change blank ≡ None → Within (recorded_as b (done_as b change blank) o).0
      done (Err errno) e none = k
      done (Ok made) e none =
          let serials = passed (nat_le b.limits.last_serial b.last_serial) SerialsSpent _ none in
          let full = passed (is_full b && not (can_fold b.line)) JournalFull _ serials.1 in
          moment_within (done_as b change blank) made.0 made.1 (leb-false b.limits.last_serial b.last_serial serials.0) (room_for b change blank none) (fits change blank full.1) e

      unless : (o : Option Refusal) → refusal_of b change blank ≡ o → Within (recorded_unless o b (done_as b change blank)).0
      unless (Some refusal) e = k
      unless None e = done (act (now b.line) (done_as b change blank)) refl e

  served_within : (prog : ℕ) (it : Access) → Within (served b prog it).0
  served_within prog (access.Store id key offset bytes) = recorded_within (operation prog id (op.Store key offset bytes)) None
  served_within prog (access.Atomic id key offset size it operand) = recorded_within (operation prog id (op.Atomic key offset size it operand)) None
  served_within prog (access.Update id key value flag) = recorded_within (operation prog id (op.Update key value flag)) None
  served_within prog (access.Delete id key) = recorded_within (operation prog id (op.Delete key)) None
  served_within prog (access.Push id value flag) = recorded_within (operation prog id (op.Push value flag)) None
  served_within prog (access.Pop id value_size) = recorded_within (operation prog id op.Pop) None
  served_within prog _ = k

  -- ---- a taking out
  taken_within : (serial : ℕ) → Within (taken_out b serial).0
  taken_within serial = unless (without_fault b serial) refl
    where
      done : (r : Result State ℕ) → replay b.line.base (without serial (newest_force b.line.moments)) ≡ r → without_fault b serial ≡ None → Within (taken_out_as b serial (without serial (newest_force b.line.moments)) r).0
      done (Err first) e none = k
      done (Ok s) e none =
          let there = passed (not (is_in_force serial (newest_force b.line.moments))) NotInForce _ none in
          let serials = passed (nat_le b.limits.last_serial b.last_serial) NoSerial _ there.1 in
          let below : b.last_serial < b.limits.last_serial = leb-false b.limits.last_serial b.last_serial serials.0 in
          let c : PlainBook = with_taken_out b serial (without serial (newest_force b.line.moments)) s in
          let told : charged c ≤ charged b = told_charge (boxes_of b) (kept_states c.line) (taken_tells b w serial s (others_within b w serial s e)) in
          grown_within c (taking_out b serial s) (taking_grows b serial s (room_without b serial none)) (taken_well b w serial s (in_force b serial none) e) (omega (arith, below)) k.map_ids k.prog_ids (omega (arith, told, k.charges))

      unless : (o : Option WithoutFault) → without_fault b serial ≡ o → Within (taken_out_unless o b serial).0
      unless (Some fault) e = k
      unless None e = done (replay b.line.base (without serial (newest_force b.line.moments))) refl e

  -- ---- an event
  marked_within : (name : List ℕ) (o : Option ℕ) → Within (marked_unless o b name).0
  marked_within name (Some moments) = k
  marked_within name None = no_more b.line b.gone _ _ b.gave_up (omega arith) (same_tells b w b.line (λ P kept. kept))

  undone_within : (name : List ℕ) (o : Option ℕ) → Within (undone_from b name o).0
  undone_within name None = k
  undone_within name (Some count) = back_within count

  forgotten_within : (name : List ℕ) (o : Option ℕ) → Within (forgotten_from b name o).0
  forgotten_within name None = k
  forgotten_within name (Some count) = unless (still_taken_out count b.line) refl
    where
      unless : (o : Option ℕ) → still_taken_out count b.line ≡ o → Within (forgotten_unless o b count).0
      unless (Some serial) e = k
      unless None e = based_within count e

  step_within : (refused : Bool) (event : PlainEvent) → Within (bookstep refused b event).0
  step_within refused (Record change blank) = either Within refused _ (recorded b change blank) k (recorded_within change blank)
  step_within refused (MakeMark name) = either Within refused _ _ k (either Within (not (is_name name)) _ (marked_unless (moments_at name b.marks) b name) k (marked_within name (moments_at name b.marks)))
  step_within refused (UndoTo name) = undone_within name (moments_at name b.marks)
  step_within refused UndoLast = either Within (nat_le 1 (length b.line.moments)) (back_to b (length b.line.moments - 1), Ok tt) _ (back_within (length b.line.moments - 1)) k
  step_within refused Redo = either Within (nat_le 1 (length b.line.undone)) (brought_back b, Ok tt) _ forth_within k
  step_within refused (Without serial) = either Within refused _ (taken_out b serial) k (taken_within serial)
  step_within refused (Forget name) = forgotten_within name (moments_at name b.marks)
  step_within refused (Serve prog it) = either Within refused _ (served b prog it) k (served_within prog it)
  step_within refused _ = k

pub stays_within_limits : (limits : Limits) (b : PlainBook) (events : List Given) → StaysWithinLimits limits b events
stays_within_limits limits b [] w k = k
stays_within_limits limits b (given ∷ rest) w k =
    stays_within_limits limits (bookstep given.0 b given.1).0 rest (step_stays given.0 b given.1 w)
    (subst (λ l. IsWithinLimits l (bookstep given.0 b given.1).0) k.stand (step_within b w (subst (λ l. IsWithinLimits l b) (sym k.stand) k) given.0 given.1))
