-- A book stays well at each call: its plain book is what an event makes of one that was.
use Rattle.std.proofs.Common.{◌≡◌, ℕ, ◌+◌, List, [], reverse, Ok, Option, true, refl, sym, ◌∙◌, ap, subst}
use Rattle.bt_objects.specs.declared.make.Make.{Make}
use Rattle.host_state.specs.State.{State}
use Rattle.host_state.specs.Act.{act}
use Rattle.host_state.specs.declared.change.Change.{Change}
use Rattle.host_state.specs.declared.change.Change.TheVariants.{Create, Load}
use Rattle.host_state.specs.declared.reply.Reply.{Reply}
use Rattle.journal_model.specs.Replay.{replay}
use Rattle.journal_model.specs.Plain.{Pasts, now, newest_force, appended}
use Rattle.journal_model.specs.Book.{PlainBook, with_moment, given_up_by, last_map_after, last_prog_after}
use Rattle.journal_model.specs.Marks.{Mark}
use Rattle.journal_keeping.specs.MarksView.{MarksView}
use Rattle.journal_model.specs.Well.{IsInOrder, all_moments, IsWellMoment, IsWellBook}
use Rattle.journal_model.specs.Without.{with_taken_out}
use Rattle.journal_model.specs.Force.{is_in_force, without}
use Rattle.journal_model.proofs.Cases.{IsNumbered}
use Rattle.journal_model.proofs.Lists.{Each-map, Each-rest}
use Rattle.journal_invariant.proofs.Staying.{newest_is_well, recorded_well, taken_well}
use Rattle.journal_keeping.specs.Staged.{Staged}
use Rattle.bt_journal.specs.Recording.{MakesNone}
use Rattle.bt_journal.specs.Taking.{IsRest}
use Rattle.bt_journal.proofs.RecordLemmas.{IsNew, entry_at}
use Rattle.bt_journal.proofs.OrderedLemmas.{rest_kept}

-- what gave undone moments up does not matter
well_given_up : (b : PlainBook) (gave : Option ℕ) → IsWellBook b → IsWellBook (record b { gave_up = gave })
well_given_up b gave w = record {
  base = w.base;
  settled = w.settled;
  moments = Each-map (IsWellMoment b) (IsWellMoment (record b { gave_up = gave })) (all_moments b.line) (λ m wm. record { replayed = wm.replayed; in_order = wm.in_order; given = wm.given; ids = wm.ids }) w.moments;
  follow = w.follow;
  rising = w.rising;
  serials = w.serials;
  boxes = w.boxes;
  marks = w.marks;
}

-- the same moments
pub well_as : (b : PlainBook) (line : Pasts) (gave : Option ℕ) → line ≡ b.line → IsWellBook b → IsWellBook (record b { line = line; gave_up = gave })
well_as b line gave l w = subst (λ (x : Pasts). IsWellBook (record b { line = x; gave_up = gave })) (sym l) (well_given_up b gave w)

-- and these marks
pub well_marks : (b : PlainBook) (line : Pasts) (v : MarksView) (gave : Option ℕ) → line ≡ b.line → v.gone ≡ b.gone → v.standing ≡ b.marks → v.forgotten ≡ b.forgotten_marks → IsWellBook b
    → IsWellBook (record b { line = line; gone = v.gone; marks = v.standing; forgotten_marks = v.forgotten; gave_up = gave })
well_marks b line v gave l g m f w =
    subst (λ (x : Pasts × (ℕ × (List Mark × List (List ℕ)))). IsWellBook (record b { line = x.0; gone = x.1.0; marks = x.1.1.0; forgotten_marks = x.1.1.1; gave_up = gave }))
    (λ i. (sym l i, (sym g i, (sym m i, sym f i)))) (well_given_up b gave w)

-- the changes in force are in the order of their serials
pub force_in_order : (b : PlainBook) → IsWellBook b → IsInOrder b.last_serial (newest_force b.line.moments)
force_in_order b w = (newest_is_well b b.line.moments w.base (Each-rest (IsWellMoment b) (reverse b.line.undone) b.line.moments w.moments)).1

-- and lead from the base to the state
pub force_replayed : (b : PlainBook) → IsWellBook b → replay b.line.base (newest_force b.line.moments) ≡ Ok (now b.line)
force_replayed b w = (newest_is_well b b.line.moments w.base (Each-rest (IsWellMoment b) (reverse b.line.undone) b.line.moments w.moments)).0

-- ---- a change that is done
pub well_recorded : (b c : PlainBook) (change : Change) (s : State) (reply : Reply) → c ≡ with_moment b change (s, reply) → IsNumbered (b.last_map + 1) (b.last_prog + 1) change → act (now b.line) change ≡ Ok (s, reply) → IsWellBook b → IsWellBook c
well_recorded b c change s reply is n acts w = subst IsWellBook (sym is) (recorded_well b w change s reply n acts)

-- one that makes nothing gives no id
none_numbered : (map_id prog_id : ℕ) (change : Change) → MakesNone change → IsNumbered map_id prog_id change
none_numbered map_id prog_id (Create id attr charge name path template) n = absurd n
none_numbered map_id prog_id (Load id code name path) n = absurd n
none_numbered map_id prog_id _ n = tt

no_map : (change : Change) (last : ℕ) → MakesNone change → last ≡ last_map_after change last
no_map (Create id attr charge name path template) last n = absurd n
no_map _ last n = refl

no_prog : (change : Change) (last : ℕ) → MakesNone change → last ≡ last_prog_after change last
no_prog (Load id code name path) last n = absurd n
no_prog _ last n = refl

pub well_known : (b : PlainBook) (change : Change) (s : State) (reply : Reply) (line : Pasts) (gave : Option ℕ) → MakesNone change → line ≡ appended b.line (entry_at (b.last_serial + 1) change reply) s → gave ≡ given_up_by (b.last_serial + 1) b.line.undone b.gave_up
    → act (now b.line) change ≡ Ok (s, reply) → IsWellBook b → IsWellBook (record b { line = line; gave_up = gave; last_serial = b.last_serial + 1 })
well_known b change s reply line gave none l g acts w =
    well_recorded b _ change s reply
    (λ i. record b { line = l i; gave_up = g i; last_serial = b.last_serial + 1; last_map = no_map change b.last_map none i; last_prog = no_prog change b.last_prog none i })
    (none_numbered (b.last_map + 1) (b.last_prog + 1) change none) acts w

-- one that makes a map gives its id
pub new_numbered : (change : Change) (map_id prog_id : ℕ) (make : Make) → IsNew map_id make change → IsNumbered map_id prog_id change
new_numbered (Create id attr charge name path template) map_id prog_id make n = n.0
new_numbered _ map_id prog_id make n = absurd n

-- ---- a taking out
pub well_taken : (b c : PlainBook) (s : Staged) → c ≡ with_taken_out b s.serial s.in_place s.state → s.line.pasts ≡ b.line → s.out ≡ true → s.left ≡ [] → IsRest s → replay b.line.base s.in_place ≡ Ok s.state → IsWellBook b → IsWellBook c
well_taken b c s is line out left rest replayed w =
    let kept = rest_kept s out left rest in
    let among : is_in_force s.serial (newest_force b.line.moments) ≡ true = ap (λ (p : Pasts). is_in_force s.serial (newest_force p.moments)) (sym line) ∙ kept.0 in
    let force : s.in_place ≡ without s.serial (newest_force b.line.moments) = kept.1 ∙ ap (λ (p : Pasts). without s.serial (newest_force p.moments)) line in
    subst IsWellBook (sym (is ∙ ap (λ f. with_taken_out b s.serial f s.state) force)) (taken_well b w s.serial s.state among (ap (replay b.line.base) (sym force) ∙ replayed))
