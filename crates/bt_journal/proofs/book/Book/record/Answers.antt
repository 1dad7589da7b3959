use Rattle.std.proofs.Common.{◌+◌, ◌∙◌, ℕ, cond, true, Option, Some, None, Result, refl, sym, ap, subst}
use Rattle.std.specs.Prelude.{is_ok}
use Rattle.bt_objects.specs.Boxes.{make_of}
use Rattle.host_state.specs.Act.{act}
use Rattle.host_state.specs.declared.change.Change.{Change}
use Rattle.host_state.specs.declared.reply.Reply.{Reply}
use Rattle.host_state.specs.declared.reply.Refusal.{Refusal}
use Rattle.host_state.specs.declared.reply.Refusal.TheVariants.{NoMemory}
use Rattle.journal_model.specs.Blank.{Blank, IsBlankOf}
use Rattle.journal_model.specs.Plain.{now}
use Rattle.journal_model.specs.Book.{PlainBook, within_window, recorded, recorded_as, resolved, with_prog_id, OrNoMemory}
use Rattle.journal_model.proofs.Cases.{has_room}
use Rattle.bt_journal.specs.Recording.{AreBlanks, BoxSuits}
use Rattle.bt_journal.proofs.RefusalLemmas.{recorded_free, with_blank, with_none}
use Rattle.bt_journal.proofs.NewLemmas.{with_prog_new}
use Rattle.bt_journal.proofs.JoinLemmas.{noted_joins, noted_windows}
use Rattle.bt_journal.proofs.book.Book.record.Goals as goal

pub in_window-requires-after_bounds : goal.in_window-requires-after_bounds
in_window-requires-after_bounds g c κs bounds = λ ok.
    let b = c.args.self.now.plain in
    let seen = g.K.MapKind.seen in
    let suits = subst (λ (o : Option _). BoxSuits seen b c.args.change o) c.in-Some-blank.is (c.refusal_of.ensures.box_suits c.in-None.is) in
    let blank : Blank = record { make = make_of (seen c.in-Some-blank.kind); fresh = true } in
    let is : IsBlankOf (seen c.in-Some-blank.kind) blank = record { make = refl; fresh = ((λ t. suits.fresh), (λ f. refl)) } in
    let change : Change = resolved (b.last_map + 1) (Some blank) c.args.change in
    noted_joins b change c.record_new-made.new.self.plain c.record_new-made.result (act (now b.line) change) (has_room b (c.refusal_of.ensures.room c.in-None.is)) (c.record_new-made.ensures.plain blank is) ok

pub returns-in-Some-blank-clause-plain : goal.returns-in-Some-blank-clause-plain
returns-in-Some-blank-clause-plain g c =
    let b = c.args.self.now.plain in
    let seen = g.K.MapKind.seen in
    let suits = subst (λ (o : Option _). BoxSuits seen b c.args.change o) c.in-Some-blank.is (c.refusal_of.ensures.box_suits c.in-None.is) in
    λ plain a. with_blank seen c.in-Some-blank.kind (λ plain. OrNoMemory b NoMemory (recorded b c.args.change plain) (c.in_window.new.self.plain, c.in_window.result))
    (λ blank is.
    let change : Change = resolved (b.last_map + 1) (Some blank) c.args.change in
    let made : OrNoMemory b NoMemory (recorded_as b change (act (now b.line) change)) (cond (is_ok c.record_new-made.result) (within_window c.record_new-made.new.self.plain) c.record_new-made.new.self.plain, c.record_new-made.result) =
    noted_windows b change c.record_new-made.new.self.plain c.record_new-made.result (act (now b.line) change) (c.record_new-made.ensures.plain blank is) in
    subst (λ (r : PlainBook × Result (ℕ × Reply) Refusal). OrNoMemory b NoMemory r (c.in_window.new.self.plain, c.in_window.result))
    (ap (λ (x : Change). recorded_as b (resolved (b.last_map + 1) (Some blank) x) (act (now b.line) (resolved (b.last_map + 1) (Some blank) x))) (sym (with_prog_new c.args.change (b.last_prog + 1) _ suits.suits))
    ∙ sym (recorded_free b c.args.change (Some blank) c.refusal_of.result c.in-None.is
    (c.refusal_of.ensures.refusal (Some blank) (subst (λ (o : Option _). AreBlanks seen o (Some blank)) (sym c.in-Some-blank.is) is))))
    (subst (λ (x : PlainBook × Result (ℕ × Reply) Refusal). OrNoMemory b NoMemory (recorded_as b change (act (now b.line) change)) x)
    (λ i. (sym c.in_window.ensures.plain i, sym c.in_window.ensures.made i)) made))
    plain (subst (λ (o : Option _). AreBlanks seen o plain) c.in-Some-blank.is a)

pub in_window-requires-in-None-blank-after_bounds : goal.in_window-requires-in-None-blank-after_bounds
in_window-requires-in-None-blank-after_bounds g c κs bounds = λ ok.
    let b = c.args.self.now.plain in
    let change : Change = with_prog_id (b.last_prog + 1) c.args.change in
    noted_joins b change c.record_plain-made.new.self.plain c.record_plain-made.result (act (now b.line) change) (has_room b (c.refusal_of.ensures.room c.in-None.is)) c.record_plain-made.ensures.plain ok

pub returns-in-None-blank-clause-plain : goal.returns-in-None-blank-clause-plain
returns-in-None-blank-clause-plain g c =
    let b = c.args.self.now.plain in
    let change : Change = with_prog_id (b.last_prog + 1) c.args.change in
    let seen = g.K.MapKind.seen in
    let made : OrNoMemory b NoMemory (recorded_as b change (act (now b.line) change)) (cond (is_ok c.record_plain-made.result) (within_window c.record_plain-made.new.self.plain) c.record_plain-made.new.self.plain, c.record_plain-made.result) =
    noted_windows b change c.record_plain-made.new.self.plain c.record_plain-made.result (act (now b.line) change) c.record_plain-made.ensures.plain in
    λ plain a. with_none seen (λ plain. OrNoMemory b NoMemory (recorded b c.args.change plain) (c.in_window-in-None-blank.new.self.plain, c.in_window-in-None-blank.result))
    (subst (λ (r : PlainBook × Result (ℕ × Reply) Refusal). OrNoMemory b NoMemory r (c.in_window-in-None-blank.new.self.plain, c.in_window-in-None-blank.result))
    (sym (recorded_free b c.args.change None c.refusal_of.result c.in-None.is (c.refusal_of.ensures.refusal None (subst (λ (o : Option _). AreBlanks seen o None) (sym c.in-None-blank.is) tt))))
    (subst (λ (x : PlainBook × Result (ℕ × Reply) Refusal). OrNoMemory b NoMemory (recorded_as b change (act (now b.line) change)) x) (λ i. (sym c.in_window-in-None-blank.ensures.plain i, sym c.in_window-in-None-blank.ensures.made i)) made))
    plain (subst (λ (o : Option _). AreBlanks seen o plain) c.in-None-blank.is a)
