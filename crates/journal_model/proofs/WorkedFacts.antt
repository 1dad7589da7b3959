-- Small facts of the plain book, each worked out by hand beforehand: the definitions answer as an operator expects.
use Rattle.std.proofs.Common.{◌≡◌, ℕ, ◌+◌, true, false, cond, List, [], ◌∷◌, length, refl, ap}
use Rattle.std.specs.Prelude.{nat_lt, Some, None, Ok, Err, codes}
use Rattle.host_words.specs.Spelling.{is_name}
use Rattle.bt_mapkind.specs.declared.attr.MapAttr.{MapAttr}
use Rattle.bt_mapkind.specs.declared.attr.MapType.TheVariants.{Array}
use Rattle.bt_mapkind.specs.declared.errno.Errno.TheVariants.{EINVAL}
use Rattle.bt_roots.specs.View.{devices_are_good}
use Rattle.host_state.specs.declared.change.Change.{Change}
use Rattle.bt_mapkind.specs.declared.request.MapOp.TheVariants.{Update}
use Rattle.host_state.specs.declared.change.Change.TheVariants.{Create, Operate}
use Rattle.host_state.specs.declared.change.Origin.TheVariants.{Console}
use Rattle.host_state.specs.declared.reply.Reply.TheVariants.{Done, Id}
use Rattle.host_state.specs.declared.reply.Refusal.TheVariants.{Errno, WrongBlank, JournalFull, BudgetFull, SerialsSpent, IdsSpent}
use Rattle.host_state.specs.State.{State}
use Rattle.host_state.specs.Act.{act}
use Rattle.journal_model.specs.declared.limits.Limits.{Limits}
use Rattle.journal_model.specs.declared.faults.BookFault.TheVariants.{BadDevices, BadLimits}
use Rattle.journal_model.specs.declared.faults.MarkFault.TheVariants.{BadName, MarkTaken}
use Rattle.journal_model.specs.declared.faults.RedoFault.TheVariants.{NothingToRedo, RedoLost}
use Rattle.journal_model.specs.declared.faults.ForgetFault.TheVariants.{NoMark, MarkForgotten, StillTakenOut}
use Rattle.journal_model.specs.declared.faults.UndoFault.TheVariants as undo
use Rattle.journal_model.specs.declared.faults.WithoutFault.TheVariants.{JournalFull as NoRoom}
use Rattle.journal_model.specs.Plain.{Past, now}
use Rattle.journal_model.specs.Marks.{Mark}
use Rattle.journal_model.specs.Blank.{Blank}
use Rattle.journal_model.specs.Book.{PlainBook, fresh_book, opened, resolved, recorded_as, recorded_unless, recorded, within_window, with_moment, charged, marked, undone_to, undone_last, redone}
use Rattle.journal_model.specs.Without.{with_taken_out, taken_out}
use Rattle.journal_model.specs.Force.{without}
use Rattle.journal_model.specs.Forget.{forgotten}
use Rattle.journal_model.specs.Rebase.{without_retired}

abbrev few : ℕ → ℕ → ℕ → Limits
few journal last_id last_serial = record { journal = journal; budget = 10; last_id = last_id; last_serial = last_serial }

abbrev array : ℕ → MapAttr
array value_size = record { kind = Array; key_size = 4; value_size = value_size; max_entries = 2; flags = 0 }

abbrev box : ℕ → Blank
box value_size = record { make = record { attr = array value_size; charge = 10 }; fresh = true }

abbrev used : Blank
used = record { make = record { attr = array 1; charge = 10 }; fresh = false }

-- the id and the charge that are handed in do not count
abbrev create : List ℕ → Change
create name = Create 77 (array 1) 99 name (codes "/m") None

abbrev update : Change
update = Operate Console 1 (Update (0 ∷ 0 ∷ 0 ∷ 0 ∷ []) (7 ∷ []) 0)

-- a map is made at 1 and updated at 2, with a mark after each
abbrev first : State → Past
first s = record { serial = 1; out = None; force = record { serial = 1; change = create (codes "m"); reply = Id 1 } ∷ []; state = s }

abbrev second : State → Past
second s = record {
  serial = 2;
  out = None;
  force = record { serial = 1; change = create (codes "m"); reply = Id 1 } ∷ record { serial = 2; change = update; reply = Done } ∷ [];
  state = s;
}

abbrev mark_at : List ℕ → ℕ → Mark
mark_at name moments = record { name = name; moments = moments }

abbrev two : State → State → State → Limits → PlainBook
two none one more limits = record {
  line = record { base = none; moments = second more ∷ first one ∷ []; undone = [] };
  gone = 0;
  marks = mark_at (codes "a") 1 ∷ mark_at (codes "b") 2 ∷ [];
  forgotten_marks = [];
  gave_up = None;
  last_serial = 2;
  last_map = 1;
  last_prog = 0;
  limits = limits;
}

-- ---- a new book
a_journal_of_no_moment_is_bad : opened (codes "eth0" ∷ []) (few 0 9 9) ≡ Err BadLimits
unfolding devices_are_good is_name
a_journal_of_no_moment_is_bad = refl

a_journal_of_a_million_is_good : opened (codes "eth0" ∷ []) (few 1000000 9 9) ≡ Ok (fresh_book (codes "eth0" ∷ []) (few 1000000 9 9))
unfolding devices_are_good is_name
a_journal_of_a_million_is_good = refl

a_journal_of_more_is_bad : opened (codes "eth0" ∷ []) (few 1000001 9 9) ≡ Err BadLimits
unfolding devices_are_good is_name
a_journal_of_more_is_bad = refl

bad_devices_are_told_first : opened [] (few 0 9 9) ≡ Err BadDevices
unfolding devices_are_good is_name
bad_devices_are_told_first = refl

-- ---- a book of two moments
module _ (none one more : State) where
  abbrev book : PlainBook
  book = two none one more (few 9 9 9)

  undo_to_the_first_mark_undoes_one : (undone_to book (codes "a")).1 ≡ Ok 1
  undo_to_the_first_mark_undoes_one = refl

  then_the_map_is_not_updated : now (undone_to book (codes "a")).0.line ≡ one
  then_the_map_is_not_updated = refl

  then_the_later_mark_is_gone : (undone_to book (codes "a")).0.marks ≡ mark_at (codes "a") 1 ∷ []
  then_the_later_mark_is_gone = refl

  then_a_redo_updates_it : now (redone (undone_to book (codes "a")).0).0.line ≡ more
  then_a_redo_updates_it = refl

  redo_brings_no_mark_back : (redone (undone_to book (codes "a")).0).0.marks ≡ mark_at (codes "a") 1 ∷ []
  redo_brings_no_mark_back = refl

  undo_to_the_last_mark_undoes_none : undone_to book (codes "b") ≡ (book, Ok 0)
  undo_to_the_last_mark_undoes_none = refl

  no_mark_of_that_name : (undone_to book (codes "c")).1 ≡ Err undo.NoMark
  no_mark_of_that_name = refl

  two_undos_leave_nothing : now (undone_last (undone_last book).0).0.line ≡ none
  two_undos_leave_nothing = refl

  a_third_undo_is_refused : (undone_last (undone_last (undone_last book).0).0).1 ≡ Err (record {})
  a_third_undo_is_refused = refl

  the_moment_undone_last_comes_back_first : now (redone (undone_last (undone_last book).0).0).0.line ≡ one
  the_moment_undone_last_comes_back_first = refl

  nothing_to_redo : redone book ≡ (book, Err NothingToRedo)
  nothing_to_redo = refl

  redo_was_lost : redone (record book { gave_up = Some 7 }) ≡ (record book { gave_up = Some 7 }, Err (RedoLost 7))
  redo_was_lost = refl

  an_undo_forgets_what_was_lost : (undone_last (record book { gave_up = Some 7 })).0.gave_up ≡ None
  an_undo_forgets_what_was_lost = refl

  an_undo_of_none_does_not : (undone_to (record book { gave_up = Some 7 }) (codes "b")).0.gave_up ≡ Some 7
  an_undo_of_none_does_not = refl

  a_mark_stands_once : marked book (codes "a") ≡ (book, Err MarkTaken)
  unfolding is_name
  a_mark_stands_once = refl

  a_mark_has_a_good_name : marked book (codes "a b") ≡ (book, Err BadName)
  unfolding is_name
  a_mark_has_a_good_name = refl

  -- ---- what refuses a change, and in which order
  spent_serials_come_first : (recorded (two none one more (few 2 1 2)) update (Some used)).1 ≡ Err SerialsSpent
  spent_serials_come_first = refl

  -- the changes of these serials were taken out at 3
  abbrev without_change : ℕ → PlainBook
  without_change serial = with_taken_out book serial (without serial (second more).force) none

  then_a_full_journal_whose_first_change_was_taken_out : (recorded (record (without_change 1) { limits = few 3 1 4 }) update (Some used)).1 ≡ Err JournalFull
  then_a_full_journal_whose_first_change_was_taken_out = refl

  another_full_journal_refuses_nothing : (recorded (two none one more (few 2 1 3)) update (Some used)).1 ≡ Err WrongBlank
  another_full_journal_refuses_nothing = refl

  where_a_later_change_was_taken_out_too : (recorded (record (without_change 2) { limits = few 3 1 4 }) update (Some used)).1 ≡ Err WrongBlank
  where_a_later_change_was_taken_out_too = refl

  the_first_change_of_a_full_journal_stays : (taken_out (two none one more (few 2 1 3)) 1).1 ≡ Err NoRoom
  the_first_change_of_a_full_journal_stays = refl

  then_spent_ids : (recorded (two none one more (few 3 1 3)) (create (codes "a b")) None).1 ≡ Err IdsSpent
  then_spent_ids = refl

  then_a_bad_name : (recorded book (create (codes "a b")) None).1 ≡ Err (Errno EINVAL)
  unfolding is_name
  then_a_bad_name = refl

  then_no_box : (recorded book (create (codes "c")) None).1 ≡ Err WrongBlank
  unfolding is_name
  then_no_box = refl

  a_used_box_is_wrong : (recorded book (create (codes "c")) (Some used)).1 ≡ Err WrongBlank
  unfolding is_name
  a_used_box_is_wrong = refl

  a_box_of_another_size_is_wrong : (recorded book (create (codes "c")) (Some (box 8))).1 ≡ Err WrongBlank
  unfolding is_name
  a_box_of_another_size_is_wrong = refl

  the_budget_counts_the_new_box : charged book ≡ 10 → (recorded book (create (codes "c")) (Some (box 1))).1 ≡ Err BudgetFull
  unfolding is_name
  the_budget_counts_the_new_box e =
      ap (λ n. (recorded_unless (cond (nat_lt 10 (n + 10)) (Some BudgetFull) None) book (resolved 2 (Some (box 1)) (create (codes "c")))).1) e

  an_update_has_no_box : (recorded book update (Some (box 1))).1 ≡ Err WrongBlank
  an_update_has_no_box = refl

  a_create_gets_the_next_id_and_the_charge_of_its_box : resolved 2 (Some (box 1)) (create (codes "c")) ≡ Create 2 (array 1) 10 (codes "c") (codes "/m") None
  a_create_gets_the_next_id_and_the_charge_of_its_box = refl

  -- ---- a change that is done
  an_update_gets_the_next_serial : (s : State) → act more update ≡ Ok (s, Done) → (recorded book update None).1 ≡ Ok (3, Done)
  an_update_gets_the_next_serial s acts = ap (λ o. (recorded_as book update o).1) acts

  an_update_after_an_undo_gives_it_up : (s : State) → act one update ≡ Ok (s, Done) → (recorded (undone_last book).0 update None).0.gave_up ≡ Some 3
  an_update_after_an_undo_gives_it_up s acts = ap (λ o. (recorded_as (undone_last book).0 update o).0.gave_up) acts

  and_no_serial_comes_back : (s : State) → act one update ≡ Ok (s, Done) → (recorded (undone_last book).0 update None).1 ≡ Ok (3, Done)
  and_no_serial_comes_back s acts = ap (λ o. (recorded_as (undone_last book).0 update o).1) acts

  -- ---- the past before a mark
  abbrev based : PlainBook
  based = (forgotten book (codes "a")).0

  the_past_is_given_up : (forgotten book (codes "a")).1 ≡ Ok tt
  the_past_is_given_up = refl

  the_state_at_the_mark_is_the_base : based.line.base ≡ without_retired one one
  the_state_at_the_mark_is_the_base = refl

  one_moment_is_left : based.line.moments ≡ record { serial = 2; out = None; force = record { serial = 2; change = update; reply = Done } ∷ []; state = without_retired one more } ∷ []
  one_moment_is_left = refl

  marks_count_from_the_base : based.marks ≡ mark_at (codes "a") 0 ∷ mark_at (codes "b") 1 ∷ []
  marks_count_from_the_base = refl

  a_mark_before_it_is_gone : (forgotten book (codes "b")).0.marks ≡ mark_at (codes "b") 0 ∷ []
  a_mark_before_it_is_gone = refl

  no_serial_is_given_back : based.last_serial ≡ 2
  no_serial_is_given_back = refl

  undo_leads_to_the_base : now (undone_to based (codes "a")).0.line ≡ without_retired one one
  undo_leads_to_the_base = refl

  an_undone_moment_stays : now (redone (forgotten (undone_last book).0 (codes "a")).0).0.line ≡ without_retired one more
  an_undone_moment_stays = refl

  no_such_mark_to_forget : forgotten book (codes "c") ≡ (book, Err NoMark)
  no_such_mark_to_forget = refl

  a_later_taking_out_keeps_its_change : forgotten (without_change 1) (codes "a") ≡ (without_change 1, Err (StillTakenOut 3))
  a_later_taking_out_keeps_its_change = refl

  undone_too : (forgotten (undone_last (without_change 1)).0 (codes "a")).1 ≡ Err (StillTakenOut 3)
  undone_too = refl

  not_that_of_a_later_change : (forgotten (without_change 2) (codes "a")).1 ≡ Ok tt
  not_that_of_a_later_change = refl

  -- ---- the window
  -- a full book, with a mark before its first moment
  abbrev full : PlainBook
  full = record (two none one more (few 2 1 9)) { marks = mark_at (codes "z") 0 ∷ mark_at (codes "a") 1 ∷ [] }

  -- and with one moment more
  abbrev moved_on : PlainBook
  moved_on = within_window (with_moment full update (none, Done))

  the_oldest_moment_joins_the_base : moved_on.line.base ≡ without_retired one one
  the_oldest_moment_joins_the_base = refl

  as_many_moments_stay : length moved_on.line.moments ≡ 2
  as_many_moments_stay = refl

  each_mark_falls_by_one : moved_on.marks ≡ mark_at (codes "a") 0 ∷ []
  each_mark_falls_by_one = refl

  the_mark_before_it_is_forgotten : undone_to moved_on (codes "z") ≡ (moved_on, Err undo.MarkForgotten)
  the_mark_before_it_is_forgotten = refl

  to_a_forgetting_too : forgotten moved_on (codes "z") ≡ (moved_on, Err MarkForgotten)
  to_a_forgetting_too = refl

  a_forgotten_mark_is_made_anew : (marked moved_on (codes "z")).0.marks ≡ mark_at (codes "a") 0 ∷ mark_at (codes "z") 2 ∷ []
  unfolding is_name
  a_forgotten_mark_is_made_anew = refl

  and_is_forgotten_no_more : (marked moved_on (codes "z")).0.forgotten_marks ≡ []
  unfolding is_name
  and_is_forgotten_no_more = refl

  an_undo_leads_back_as_far_as_the_window : now (undone_to moved_on (codes "a")).0.line ≡ without_retired one one
  an_undo_leads_back_as_far_as_the_window = refl

  what_is_undone_needs_no_room : (recorded (undone_last full).0 update (Some used)).1 ≡ Err WrongBlank
  what_is_undone_needs_no_room = refl
