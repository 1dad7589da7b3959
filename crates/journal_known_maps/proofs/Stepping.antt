-- What one event makes of a book of which it is known what attributes its maps have, and what its programs were verified against.
use Rattle.std.proofs.Common.{◌≡◌, ℕ, ◌+◌, ◌-◌, Bool, true, false, cond, not, List, length, Option, Some, None, Result, Ok, Err, refl, sym, subst}
use Rattle.std.specs.Prelude.{nat_le}
use Rattle.host_words.specs.Spelling.{is_name}
use Rattle.bt_mapkind.specs.declared.attr.MapAttr.{MapAttr}
use Rattle.bt_mapkind.specs.declared.request.MapOp.TheVariants as op
use Rattle.program_access.specs.declared.access.Access.{Access}
use Rattle.program_access.specs.declared.access.Access.TheVariants as access
use Rattle.host_state.specs.declared.change.Change.{Change}
use Rattle.host_state.specs.declared.change.Change.TheVariants.{Create, Load}
use Rattle.host_state.specs.declared.reply.Reply.{Reply}
use Rattle.host_state.specs.declared.reply.Refusal.{Refusal}
use Rattle.host_state.specs.State.{State}
use Rattle.host_state.specs.Act.{Outcome, act}
use Rattle.journal_model.specs.declared.faults.WithoutFault.{WithoutFault}
use Rattle.journal_model.specs.Replay.{Entry, replay}
use Rattle.journal_model.specs.Force.{without}
use Rattle.journal_model.specs.Plain.{Past, Pasts, now, newest_force}
use Rattle.journal_model.specs.Marks.{moments_at}
use Rattle.journal_model.specs.Blank.{Blank}
use Rattle.journal_model.specs.Book.{PlainBook, refusal_of, done_as, within_window, with_moment, recorded, recorded_as, recorded_unless, marked_unless, with_mark, back_to, undone_from, brought_back}
use Rattle.journal_model.specs.Without.{without_fault, with_taken_out, taken_out, taken_out_as, taken_out_unless}
use Rattle.journal_model.specs.Forget.{based_at, forgotten_unless, forgotten_from}
use Rattle.journal_model.specs.Rebase.{still_taken_out}
use Rattle.journal_model.specs.Serve.{operation, served}
use Rattle.journal_model.specs.Run.{PlainEvent, PlainAnswer, Record, Mark, UndoTo, UndoLast, Redo, Without, Forget, Serve, bookstep}
use Rattle.journal_model.specs.Well.{all_moments, IsWellBook}
use Rattle.journal_model.proofs.Lists.{Each-map}
use Rattle.journal_model.proofs.Cases.{IsNumbered, step_cases}
use Rattle.journal_invariant.proofs.Windowed.{same_map}
use Rattle.journal_known_maps.specs.Known.{ProgsKnow, LoadKnows, EventKnows}
use Rattle.journal_known_maps.proofs.Loading.{act_knows, progs_dropped}
use Rattle.journal_known_maps.proofs.Making.{BoxesHave, CreateHas, act_has, boxes_dropped, Extends, boxes_more, create_more, AreUpTo, with_created, created_extends, created_up_to, created_has}
use Rattle.journal_known_maps.proofs.Lines.{ForceHas, Holds, replays, cut_holds, forth_holds, advanced_holds, moment_holds, taken_holds}

-- ---- programs
-- each program of the moments was verified against these maps
abbrev pub Knows : (ℕ → Option MapAttr) → Pasts → Type 0
Knows maps p = Holds (ProgsKnow maps) (LoadKnows maps) p

module _ (maps : ℕ → Option MapAttr) (b : PlainBook) (w : IsWellBook b) (h : Knows maps b.line) where
  abbrev KnowsAt : PlainBook → Type 0
  KnowsAt c = Knows maps c.line

  -- either of two books, whatever is answered
  either : {A : Type 0} (test : Bool) (x y : PlainBook × A) → KnowsAt x.0 → KnowsAt y.0 → KnowsAt (cond test x y).0
  either true x y p q = p
  either false x y p q = q

  recorded_knows : (change : Change) (blank : Option Blank) → LoadKnows maps (done_as b change blank) → KnowsAt (recorded b change blank).0
  recorded_knows change blank k = unless (refusal_of b change blank)
    where
      done : (o : Outcome) → act (now b.line) (done_as b change blank) ≡ o → KnowsAt (recorded_as b (done_as b change blank) o).0
      done (Err errno) e = h
      done (Ok made) e = moment_holds (ProgsKnow maps) (LoadKnows maps) (act_knows maps) (progs_dropped maps) b w h (done_as b change blank) made.0 made.1 e k

      unless : (o : Option Refusal) → KnowsAt (recorded_unless o b (done_as b change blank)).0
      unless (Some refusal) = h
      unless None = done (act (now b.line) (done_as b change blank)) refl

  -- a load is done with another id
  load_done : (change : Change) (blank : Option Blank) → LoadKnows maps change → LoadKnows maps (done_as b change blank)
  load_done (Load id code name path) None k = k
  load_done (Load id code name path) (Some blank) k = k
  load_done (Create id attr charge name path template) None k = tt
  load_done (Create id attr charge name path template) (Some blank) k = tt
  load_done _ None k = tt
  load_done _ (Some blank) k = tt

  served_knows : (prog : ℕ) (it : Access) → KnowsAt (served b prog it).0
  served_knows prog (access.Store id key offset bytes) = recorded_knows (operation prog id (op.Store key offset bytes)) None tt
  served_knows prog (access.Atomic id key offset size it operand) = recorded_knows (operation prog id (op.Atomic key offset size it operand)) None tt
  served_knows prog (access.Update id key value flag) = recorded_knows (operation prog id (op.Update key value flag)) None tt
  served_knows prog (access.Delete id key) = recorded_knows (operation prog id (op.Delete key)) None tt
  served_knows prog (access.Push id value flag) = recorded_knows (operation prog id (op.Push value flag)) None tt
  served_knows prog (access.Pop id value_size) = recorded_knows (operation prog id op.Pop) None tt
  served_knows prog _ = h

  taken_knows : (serial : ℕ) → KnowsAt (taken_out b serial).0
  taken_knows serial = unless (without_fault b serial)
    where
      done : (r : Result State ℕ) → replay b.line.base (without serial (newest_force b.line.moments)) ≡ r → KnowsAt (taken_out_as b serial (without serial (newest_force b.line.moments)) r).0
      done (Err first) e = h
      done (Ok s) e = taken_holds (ProgsKnow maps) (LoadKnows maps) (act_knows maps) (progs_dropped maps) b w h serial s e

      unless : (o : Option WithoutFault) → KnowsAt (taken_out_unless o b serial).0
      unless (Some fault) = h
      unless None = done (replay b.line.base (without serial (newest_force b.line.moments))) refl

  marked_knows : (name : List ℕ) (o : Option ℕ) → KnowsAt (marked_unless o b name).0
  marked_knows name (Some moments) = h
  marked_knows name None = h

  back_knows : (count : ℕ) → KnowsAt (back_to b count)
  back_knows count = cut_holds (ProgsKnow maps) (LoadKnows maps) (act_knows maps) count b.line h

  undone_knows : (name : List ℕ) (o : Option ℕ) → KnowsAt (undone_from b name o).0
  undone_knows name None = h
  undone_knows name (Some count) = back_knows count

  forgotten_knows : (name : List ℕ) (o : Option ℕ) → KnowsAt (forgotten_from b name o).0
  forgotten_knows name None = h
  forgotten_knows name (Some count) = unless (still_taken_out count b.line)
    where
      unless : (o : Option ℕ) → KnowsAt (forgotten_unless o b count).0
      unless (Some serial) = h
      unless None = advanced_holds (ProgsKnow maps) (LoadKnows maps) (act_knows maps) (progs_dropped maps) count b.line (replays b w) h

  pub step_knows : (refused : Bool) (event : PlainEvent) → EventKnows maps event → KnowsAt (bookstep refused b event).0
  step_knows refused (Record change blank) k = either refused _ (recorded b change blank) h (recorded_knows change blank (load_done change blank k))
  step_knows refused (Mark name) k = either refused _ _ h (either (not (is_name name)) _ (marked_unless (moments_at name b.marks) b name) h (marked_knows name (moments_at name b.marks)))
  step_knows refused (UndoTo name) k = undone_knows name (moments_at name b.marks)
  step_knows refused UndoLast k = either (nat_le 1 (length b.line.moments)) (back_to b (length b.line.moments - 1), Ok tt) _ (back_knows (length b.line.moments - 1)) h
  step_knows refused Redo k = either (nat_le 1 (length b.line.undone)) (brought_back b, Ok tt) _ (forth_holds (ProgsKnow maps) (LoadKnows maps) (act_knows maps) b.line h) h
  step_knows refused (Without serial) k = either refused _ (taken_out b serial) h (taken_knows serial)
  step_knows refused (Forget name) k = forgotten_knows name (moments_at name b.marks)
  step_knows refused (Serve prog it) k = either refused _ (served b prog it) h (served_knows prog it)
  step_knows refused _ k = h

-- ---- maps
-- each map of the moments has these attributes
abbrev pub Have : (ℕ → Option MapAttr) → Pasts → Type 0
Have maps p = Holds (BoxesHave maps) (CreateHas maps) p

have_more : (maps more : ℕ → Option MapAttr) → Extends maps more → (p : Pasts) → Have maps p → Have more p
have_more maps more x p h = record {
  base = boxes_more maps more x p.base h.base;
  moments = Each-map (ForceHas (CreateHas maps)) (ForceHas (CreateHas more)) (all_moments p) (
      λ (m : Past) forces. Each-map (λ (e : Entry). CreateHas maps e.change) (λ (e : Entry). CreateHas more e.change) m.force (λ (e : Entry) k. create_more maps more x e.change k) forces
      ) h.moments;
}

-- the maps of a later book have these attributes and some more, of new ids
pub record Goes (maps : ℕ → Option MapAttr) (c : PlainBook) : Type 0 where
  pub more : ℕ → Option MapAttr
  pub extends : Extends maps more
  pub have : Have more c.line
  pub low : AreUpTo c.last_map more

module _ (maps : ℕ → Option MapAttr) (b : PlainBook) (w : IsWellBook b) (h : Have maps b.line) (low : AreUpTo b.last_map maps) where
  stayed : (c : PlainBook) → c.last_map ≡ b.last_map → Have maps c.line → Goes maps c
  stayed c same k = record { more = maps; extends = λ id attr e. e; have = k; low = subst (λ last. AreUpTo last maps) (sym same) low }

  recorded_goes : (change : Change) (s : State) (reply : Reply) → IsNumbered (b.last_map + 1) (b.last_prog + 1) change → act (now b.line) change ≡ Ok (s, reply) → Goes maps (within_window (with_moment b change (s, reply)))
  recorded_goes change s reply n e =
      let more : ℕ → Option MapAttr = with_created change maps in
      let x : Extends maps more = created_extends b.last_map (b.last_prog + 1) change n maps low in
      record {
        more = more;
        extends = x;
        have = moment_holds (BoxesHave more) (CreateHas more) (act_has more) (boxes_dropped more) b w (have_more maps more x b.line h) change s reply e (created_has change maps);
        low = subst (λ last. AreUpTo last more) (sym (same_map (with_moment b change (s, reply)))) (created_up_to b.last_map (b.last_prog + 1) change n maps low);
      }

  pub step_goes : (refused : Bool) (event : PlainEvent) → Goes maps (bookstep refused b event).0
  step_goes refused event =
      let P : PlainBook × PlainAnswer → Type 0 = λ p. Goes maps p.0 in
      step_cases P refused b event (record {
        stays = λ answer s i p. stayed b refl h;
        records = λ change s reply n acts room. recorded_goes change s reply n acts;
        serves = λ change s reply n acts maps_same progs_same room. recorded_goes change s reply n acts;
        marks = λ name is none. stayed (with_mark b name) refl h;
        undoes = λ count. stayed (back_to b count) refl (cut_holds (BoxesHave maps) (CreateHas maps) (act_has maps) count b.line h);
        undoes_last = λ any. stayed (back_to b (length b.line.moments - 1)) refl (cut_holds (BoxesHave maps) (CreateHas maps) (act_has maps) (length b.line.moments - 1) b.line h);
        redoes = λ any. stayed (brought_back b) refl (forth_holds (BoxesHave maps) (CreateHas maps) (act_has maps) b.line h);
        takes_out = λ serial s there replayed room.
            let c : PlainBook = with_taken_out b serial (without serial (newest_force b.line.moments)) s in
            stayed (within_window c) (same_map c) (taken_holds (BoxesHave maps) (CreateHas maps) (act_has maps) (boxes_dropped maps) b w h serial s replayed);
        forgets = λ name count is found none. stayed (based_at b count) refl (advanced_holds (BoxesHave maps) (CreateHas maps) (act_has maps) (boxes_dropped maps) count b.line (replays b w) h);
      })
