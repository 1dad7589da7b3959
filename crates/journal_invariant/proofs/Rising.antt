-- Each serial, each map id and each program id that a run gives is above all that were given before.
use Rattle.std.proofs.Common.{◌≡◌, ◌≤◌, ℕ, ◌+◌, Bool, List, [], ◌∷◌, sym, ◌∙◌, subst, arith}
use Rattle.std.specs.Prelude.{Option, None}
use Rattle.std.specs.List.{cons_option}
use Rattle.host_state.specs.declared.change.Change.{Change}
use Rattle.host_state.specs.declared.change.Change.TheVariants.{Create, Load}
use Rattle.journal_model.specs.Plain.{now, newest_force}
use Rattle.journal_model.specs.Book.{PlainBook, last_map_after, last_prog_after, with_moment}
use Rattle.journal_model.specs.Force.{without}
use Rattle.journal_model.specs.Without.{with_taken_out}
use Rattle.journal_model.specs.Run.{PlainEvent, PlainAnswer, Given, bookstep, answers_of}
use Rattle.journal_invariant.specs.Laws.{Rises, SerialsRise, IdsRise, ProgIdsRise}
use Rattle.journal_model.specs.Told.{serial_in, serials_in, id_in, ids_in, prog_in, progs_in}
use Rattle.journal_model.proofs.Acts.{new_id, new_prog, acted}
use Rattle.journal_model.proofs.Cases.{IsNumbered, step_cases}
use Rattle.journal_invariant.proofs.Windowed.{same_serial, same_map, same_prog}

-- what is told goes before what rises after it
abbrev RisesBy : ℕ → Option ℕ → ℕ → Type 0
RisesBy before told after = (ns : List ℕ) → Rises after ns → Rises before (cons_option told ns)

nothing_told : (last : ℕ) (told : Option ℕ) → told ≡ None → RisesBy last told last
nothing_told last told e ns h = subst (λ o. Rises last (cons_option o ns)) (sym e) h

-- what rises above a number rises above a lower one
rises_above : (low high : ℕ) → low ≤ high → (ns : List ℕ) → Rises high ns → Rises low ns
rises_above low high below [] h = tt
rises_above low high below (n ∷ ns) h = (omega (arith, below, h.0), h.1)

serial_rises : (refused : Bool) (b : PlainBook) (event : PlainEvent) → RisesBy b.last_serial (serial_in (bookstep refused b event).1) (bookstep refused b event).0.last_serial
serial_rises refused b event =
    let P : PlainBook × PlainAnswer → Type 0 = λ p. RisesBy b.last_serial (serial_in p.1) p.0.last_serial in
    step_cases P refused b event (record {
      stays = λ answer s i p. nothing_told b.last_serial (serial_in answer) s;
      records = λ change s reply n acts room ns h. (omega arith, subst (λ last. Rises last ns) (same_serial (with_moment b change (s, reply))) h);
      serves = λ change s reply n acts maps progs room ns h.
          rises_above b.last_serial (b.last_serial + 1) (omega arith) ns (subst (λ last. Rises last ns) (same_serial (with_moment b change (s, reply))) h);
      marks = λ name is none ns h. h;
      undoes = λ count ns h. h;
      undoes_last = λ any ns h. h;
      redoes = λ any ns h. h;
      takes_out = λ serial s there r room ns h. (omega arith, subst (λ last. Rises last ns) (same_serial (with_taken_out b serial (without serial (newest_force b.line.moments)) s)) h);
      forgets = λ name count is found none ns h. h;
    })

pub serials_rise : (b : PlainBook) (events : List Given) → SerialsRise b events
serials_rise b [] = tt
serials_rise b (given ∷ rest) =
    serial_rises given.0 b given.1 (serials_in (answers_of (bookstep given.0 b given.1).0 rest)) (serials_rise (bookstep given.0 b given.1).0 rest)

-- ---- map ids
numbered_rises : (last prog : ℕ) (change : Change) → IsNumbered (last + 1) prog change → RisesBy last (new_id change) (last_map_after change last)
numbered_rises last prog (Create id attr charge name path template) n ns h = (omega arith, h)
numbered_rises last prog _ n ns h = h

id_rises : (refused : Bool) (b : PlainBook) (event : PlainEvent) → RisesBy b.last_map (id_in (bookstep refused b event).1) (bookstep refused b event).0.last_map
id_rises refused b event =
    let P : PlainBook × PlainAnswer → Type 0 = λ p. RisesBy b.last_map (id_in p.1) p.0.last_map in
    step_cases P refused b event (record {
      stays = λ answer s i p. nothing_told b.last_map (id_in answer) i;
      records = λ change s reply n acts room ns h.
          subst (λ o. Rises b.last_map (cons_option o ns)) (sym (acted (now b.line) change (s, reply) acts).told)
          (numbered_rises b.last_map (b.last_prog + 1) change n ns (subst (λ last. Rises last ns) (same_map (with_moment b change (s, reply))) h));
      serves = λ change s reply n acts maps progs room ns h. subst (λ last. Rises last ns) (same_map (with_moment b change (s, reply)) ∙ maps) h;
      marks = λ name is none ns h. h;
      undoes = λ count ns h. h;
      undoes_last = λ any ns h. h;
      redoes = λ any ns h. h;
      takes_out = λ serial s there r room ns h. subst (λ last. Rises last ns) (same_map (with_taken_out b serial (without serial (newest_force b.line.moments)) s)) h;
      forgets = λ name count is found none ns h. h;
    })

pub ids_rise : (b : PlainBook) (events : List Given) → IdsRise b events
ids_rise b [] = tt
ids_rise b (given ∷ rest) = id_rises given.0 b given.1 (ids_in (answers_of (bookstep given.0 b given.1).0 rest)) (ids_rise (bookstep given.0 b given.1).0 rest)

-- ---- program ids
prog_numbered_rises : (map_id last : ℕ) (change : Change) → IsNumbered map_id (last + 1) change → RisesBy last (new_prog change) (last_prog_after change last)
prog_numbered_rises map_id last (Load id code name path) n ns h = (omega arith, h)
prog_numbered_rises map_id last _ n ns h = h

prog_rises : (refused : Bool) (b : PlainBook) (event : PlainEvent) → RisesBy b.last_prog (prog_in (bookstep refused b event).1) (bookstep refused b event).0.last_prog
prog_rises refused b event =
    let P : PlainBook × PlainAnswer → Type 0 = λ p. RisesBy b.last_prog (prog_in p.1) p.0.last_prog in
    step_cases P refused b event (record {
      stays = λ answer s i p. nothing_told b.last_prog (prog_in answer) p;
      records = λ change s reply n acts room ns h.
          subst (λ o. Rises b.last_prog (cons_option o ns)) (sym (acted (now b.line) change (s, reply) acts).prog_told)
          (prog_numbered_rises (b.last_map + 1) b.last_prog change n ns (subst (λ last. Rises last ns) (same_prog (with_moment b change (s, reply))) h));
      serves = λ change s reply n acts maps progs room ns h. subst (λ last. Rises last ns) (same_prog (with_moment b change (s, reply)) ∙ progs) h;
      marks = λ name is none ns h. h;
      undoes = λ count ns h. h;
      undoes_last = λ any ns h. h;
      redoes = λ any ns h. h;
      takes_out = λ serial s there r room ns h. subst (λ last. Rises last ns) (same_prog (with_taken_out b serial (without serial (newest_force b.line.moments)) s)) h;
      forgets = λ name count is found none ns h. h;
    })

pub prog_ids_rise : (b : PlainBook) (events : List Given) → ProgIdsRise b events
prog_ids_rise b [] = tt
prog_ids_rise b (given ∷ rest) = prog_rises given.0 b given.1 (progs_in (answers_of (bookstep given.0 b given.1).0 rest)) (prog_ids_rise (bookstep given.0 b given.1).0 rest)
