-- A list of events from a well book has attributes by id that its maps have, and that what it answers agrees with.
use Rattle.std.proofs.Common.{◌≡◌, inl, inr, ℕ, ◌≤◌, List, [], ◌∷◌, ◌++◌, reverse, Option, Some, None, refl, sym, ◌∙◌, subst}
use Rattle.std.specs.Prelude.{option_map}
use Rattle.std.specs.Ordering.{nat_cmp}
use Rattle.std.specs.FinMap as map
use Rattle.std.proofs.lemmas.List.{reverse-reverse}
use Rattle.bt_mapkind.specs.declared.attr.MapAttr.{MapAttr}
use Rattle.bt_objects.specs.declared.make.Make.{Make}
use Rattle.host_state.specs.State.{State}
use Rattle.host_state.specs.World.{makes_in}
use Rattle.journal_model.specs.declared.limits.Limits.{Limits}
use Rattle.journal_model.specs.Plain.{Past}
use Rattle.journal_model.specs.Book.{PlainBook, state_of, kept_states, fresh_book}
use Rattle.journal_model.specs.Run.{Given, event_of, bookstep, book_after, answers_of}
use Rattle.journal_model.specs.Well.{Each, OneOf, all_moments, IdsUpTo, IsWellMoment, IsWellBook, Tells}
use Rattle.journal_model.proofs.Lists.{Each-map, Each-append, Each-front, Each-rest, Each-reverse, Each-both}
use Rattle.journal_model.proofs.Boxes.{OfState, OfKept, of_kept, kept_of, has_map}
use Rattle.journal_invariant.proofs.Events.{step_stays}
use Rattle.journal_invariant.proofs.Staying.{boxes_of, opened_is}
use Rattle.journal_known_maps.specs.Known.{HaveAttributes, ProgsKnow, LoadKnows, BookKnows, EventKnows, AnswerKnows, RunsOnKnownMaps, BeginsKnowing}
use Rattle.journal_known_maps.proofs.Loading.{act_knows}
use Rattle.journal_known_maps.proofs.Making.{BoxesHave, CreateHas, act_has, attributes, creates_have, attr_in, told_have, Extends, boxes_more, AreUpTo}
use Rattle.journal_known_maps.proofs.Lines.{ForceHas, IsReplay, replays, now_holds}
use Rattle.journal_known_maps.proofs.Telling.{step_tells}
use Rattle.journal_known_maps.proofs.Stepping.{Knows, step_knows, Have, Goes, step_goes}

-- ---- a well book
undone_of : (R : Past → Type 0) (us ms : List Past) → Each R (reverse us ++ ms) → Each R us
undone_of R us ms h = subst (Each R) (reverse-reverse us) (Each-reverse R (reverse us) (Each-front R (reverse us) ms h))

one_of : {X : Type 0} (P Q : X → Type 0) (xs : List X) → Each P xs → OneOf Q xs → (x : X) × P x × Q x
one_of P Q [] h one = absurd one
one_of P Q (x ∷ xs) h (inl here) = (x, h.0, here)
one_of P Q (x ∷ xs) h (inr later) = one_of P Q xs h.1 later

module _ (b : PlainBook) (w : IsWellBook b) where
  -- the attributes in its boxes
  abbrev first : ℕ → Option MapAttr
  first = attr_in (boxes_of b)

  first_have : Have first b.line
  first_have =
      let P : State → Type 0 = Tells (boxes_of b) in
      let old : OfKept P b.line = of_kept P b.line w.boxes.has_box in
      let all : Each (OfState P) (all_moments b.line) = Each-append (OfState P) (reverse b.line.undone) b.line.moments (Each-reverse (OfState P) b.line.undone old.undone) old.moments in
      record {
        base = told_have (boxes_of b) b.line.base old.base;
        moments = Each-both (IsReplay b.line.base) (OfState P) (ForceHas (CreateHas first)) (all_moments b.line)
            (λ (m : Past) replayed tells. creates_have first m.force b.line.base m.state replayed (told_have (boxes_of b) m.state tells)) (replays b w) all;
      }

  all_low : Each (IdsUpTo b.last_map b.last_prog) (kept_states b.line)
  all_low =
      let P : State → Type 0 = IdsUpTo b.last_map b.last_prog in
      let ids : (ms : List Past) → Each (IsWellMoment b) ms → Each (OfState P) ms = λ ms h. Each-map (IsWellMoment b) (OfState P) ms (λ (m : Past) well. well.ids) h in
      kept_of P b.line (record {
        base = w.base;
        moments = ids b.line.moments (Each-rest (IsWellMoment b) (reverse b.line.undone) b.line.moments w.moments);
        undone = ids b.line.undone (undone_of (IsWellMoment b) b.line.undone b.line.moments w.moments);
      })

  first_low : AreUpTo b.last_map first
  first_low id attr e = by (map.get (boxes_of b) id) refl e
    where
      by : (o : Option Make) → map.get (boxes_of b) id ≡ o → option_map (λ (make : Make). make.attr) o ≡ Some attr → id ≤ b.last_map
      by None is f = cc
      by (Some make) is f =
          let one = one_of (IdsUpTo b.last_map b.last_prog) (λ (s : State). map.get (makes_in s) id ≡ Some make) (kept_states b.line) all_low (w.boxes.has_map id make is) in
          one.1.maps id (has_map one.0 id make one.2)

-- ---- a run
-- in each book of a run
abbrev HaveAlong : (ℕ → Option MapAttr) → PlainBook → List Given → Type 0
HaveAlong maps b [] = HaveAttributes maps (state_of b)
HaveAlong maps b (given ∷ rest) = HaveAttributes maps (state_of b) × HaveAlong maps (bookstep given.0 b given.1).0 rest

-- with the attributes of the maps that are created on the way
record Through (maps : ℕ → Option MapAttr) (b : PlainBook) (events : List Given) : Type 0 where
  all : ℕ → Option MapAttr
  extends : Extends maps all
  along : HaveAlong all b events

now_have : (maps : ℕ → Option MapAttr) (b : PlainBook) → IsWellBook b → Have maps b.line → BoxesHave maps (state_of b)
now_have maps b w h = now_holds (BoxesHave maps) (CreateHas maps) (act_has maps) b w h

through : (events : List Given) (b : PlainBook) (maps : ℕ → Option MapAttr) → IsWellBook b → Have maps b.line → AreUpTo b.last_map maps → Through maps b events
through [] b maps w h low = record { all = maps; extends = λ id attr e. e; along = attributes maps (state_of b) (now_have maps b w h) }
through (given ∷ rest) b maps w h low =
    let next : Goes maps (bookstep given.0 b given.1).0 = step_goes maps b w h low given.0 given.1 in
    let r : Through next.more (bookstep given.0 b given.1).0 rest = through rest (bookstep given.0 b given.1).0 next.more (step_stays given.0 b given.1 w) next.have next.low in
    let x : Extends maps r.all = λ id attr e. r.extends id attr (next.extends id attr e) in
    record { all = r.all; extends = x; along = (attributes r.all (state_of b) (boxes_more maps r.all x (state_of b) (now_have maps b w h)), r.along) }

-- after each first part of it
at_part : (maps : ℕ → Option MapAttr) (events before after : List Given) (b : PlainBook) → events ≡ before ++ after → HaveAlong maps b events → HaveAttributes maps (state_of (book_after b before))
at_part maps [] [] after b e h = h
at_part maps (given ∷ rest) [] after b e h = h.0
at_part maps [] (x ∷ before) after b e h = absurd (let z : [] ≡ x ∷ (before ++ after) = e in cc)
at_part maps (given ∷ rest) (x ∷ before) after b e h =
    let z : given ∷ rest ≡ x ∷ (before ++ after) = e in
    let same : given ≡ x = cc in
    let others : rest ≡ before ++ after = cc in
    at_part maps rest before after (bookstep x.0 b x.1).0 others (subst (λ (g : Given). HaveAlong maps (bookstep g.0 b g.1).0 rest) same h.1)

now_along : (maps : ℕ → Option MapAttr) (events : List Given) (b : PlainBook) → HaveAlong maps b events → HaveAttributes maps (state_of b)
now_along maps [] b h = h
now_along maps (given ∷ rest) b h = h.0

all_answers : (maps : ℕ → Option MapAttr) (events : List Given) (b : PlainBook) → IsWellBook b → HaveAlong maps b events → Knows maps b.line → Each (λ (given : Given). EventKnows maps (event_of given)) events → Each (AnswerKnows maps) (answers_of b events)
all_answers maps [] b w h k e = tt
all_answers maps (given ∷ rest) b w h k e = (
  step_tells maps b h.0 (now_holds (ProgsKnow maps) (LoadKnows maps) (act_knows maps) b w k) given.0 given.1,
  all_answers maps rest (bookstep given.0 b given.1).0 (step_stays given.0 b given.1 w) h.1 (step_knows maps b w k given.0 given.1 e.0) e.1,
)

pub knows_its_maps : (b : PlainBook) (events : List Given) → RunsOnKnownMaps b events
knows_its_maps b events w =
    let r : Through (first b w) b events = through events b (first b w) w (first_have b w) (first_low b w) in
    record {
      maps = r.all;
      attributes = λ before after e. at_part r.all events before after b e r.along;
      answers = λ k e. all_answers r.all events b w r.along (record { base = k.base; moments = k.moments }) e;
    }

-- ---- a new book
pub begins_knowing : (devices : List (List ℕ)) (limits : Limits) (b : PlainBook) (maps : ℕ → Option MapAttr) → BeginsKnowing devices limits b maps
begins_knowing devices limits b maps e =
    let none : BookKnows maps (fresh_book devices limits) = record { base = λ id p there. cc (sym (map.get-empty nat_cmp id) ∙ there); moments = tt } in
    subst (BookKnows maps) (opened_is devices limits b e) none
