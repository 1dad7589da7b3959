-- A well book without its undone moments is well.
use Rattle.std.proofs.Common.{◌<◌, reverse, refl, arith}
use Rattle.std.proofs.lemmas.List.{length-append}
use Rattle.host_state.specs.State.{State}
use Rattle.journal_model.specs.Plain.{Past}
use Rattle.journal_model.specs.Window.{kept_line}
use Rattle.journal_model.specs.Book.{PlainBook, kept_states}
use Rattle.journal_model.specs.Well.{IsWellMoment, IsWellBook, Tells}
use Rattle.journal_model.proofs.Lists.{Each-map, Each-rest, EachPair-rest}
use Rattle.journal_model.proofs.Charges.{tell_themselves}
use Rattle.journal_model.proofs.Boxes.{OfKept, of_kept, kept_of}
use Rattle.journal_invariant.proofs.Following.{EachFollows-rest}
use Rattle.journal_invariant.proofs.Staying.{boxes_of, Follows, well_later}

abbrev pub kept_book : PlainBook → PlainBook
kept_book b = record b { line = kept_line b.line }

pub kept_well : (b : PlainBook) → IsWellBook b → IsWellBook (kept_book b)
kept_well b w =
    let P : State → Type 0 = Tells (boxes_of b) in
    let f : Follows b (kept_book b) = record { base = refl; serials = omega arith; maps = omega arith; progs = omega arith } in
    let old : OfKept P b.line = of_kept P b.line w.boxes.has_box in
    record {
      base = w.base;
      settled = w.settled;
      moments = Each-map (IsWellMoment b) (IsWellMoment (kept_book b)) b.line.moments (well_later b (kept_book b) f) (Each-rest (IsWellMoment b) (reverse b.line.undone) b.line.moments w.moments);
      follow = EachFollows-rest (reverse b.line.undone) b.line.moments w.follow;
      rising = EachPair-rest (λ (newer older : Past). older.serial < newer.serial) (reverse b.line.undone) b.line.moments w.rising;
      serials = omega (arith, length-append (reverse b.line.undone) b.line.moments, w.serials);
      boxes = tell_themselves (boxes_of b) (kept_states (kept_line b.line)) (kept_of P (kept_line b.line) (record { base = old.base; moments = old.moments; undone = tt }));
      marks = w.marks;
    }
