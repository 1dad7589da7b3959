use Rattle.std.proofs.Common.{rules, refl, ◌≡◌, ◌∙◌, ◌&&◌, not, ap, Option, Some, sym, subst, arith}
use Rattle.std.proofs.lemmas.Bool.Decides.{nat_tests}
use Rattle.host_state.specs.declared.change.Change.TheVariants.{Create}
use Rattle.journal_model.specs.Book.{PlainBook, is_full, refusal_of, charged}
use Rattle.journal_model.specs.Window.{can_fold}
use Rattle.bt_journal.specs.BookView.{BookView}
use Rattle.bt_journal.specs.Recording.{AreBlanks, BoxSuits}
use Rattle.journal_keeping.specs.Boxes.{lasts_of}
use Rattle.journal_keeping.proofs.BoxesLemmas.{charged_is}
use Rattle.bt_journal.proofs.RefusalLemmas.{refusal_create, some_blank}
use Rattle.bt_journal.proofs.book.Book.refusal_of.Goals as goal

pub returns-in-Some-clause-refusal : goal.returns-in-Some-clause-refusal
returns-in-Some-clause-refusal g c =
    let b = c.self.inside in
    let p : PlainBook = record { line = b.line.pasts; gone = b.marks.gone; marks = b.marks.standing; forgotten_marks = b.marks.forgotten; gave_up = b.gave_up; last_serial = b.last_serial; last_map = b.last_ids.map_id; last_prog = b.last_ids.prog_id; limits = b.limits } in
    let h = some_blank g.K.MapKind.seen c.in-Some.kind c.blank_refusal.result (λ blank. refusal_of p (Create c.in-Create.id c.in-Create.attr c.in-Create.charge c.in-Create.name c.in-Create.path c.in-Create.template) blank)
    (λ blank is. refusal_create p c.blank_refusal.result c.in-Create.id c.in-Create.attr c.in-Create.charge c.in-Create.name c.in-Create.path c.in-Create.template (Some blank)
    (grind (arith, nat_tests, c.if-self.false))
    (ap (λ (v : BookView). is_full v.plain && not (can_fold v.plain.line)) c.self.view_is ∙ sym c.is_closed.ensures ∙ c.if-is_closed.false)
    (grind (arith, nat_tests, c.if-self-2.false))
    (search rules)
    (c.blank_refusal.ensures.refusal p blank is (sym (c.charged.ensures ∙ charged_is b.line.makes b.line.pasts (lasts_of b.ids.base b.ids.lasts.items) b.ids.maps.items b.ids.progs.items c.self.invariant.0)) refl)) in
    λ plain a. subst (λ v. c.blank_refusal.result ≡ refusal_of v.plain c.args.change.now plain) c.self.view_is
    (subst (λ change. c.blank_refusal.result ≡ refusal_of p change plain) (sym c.in-Create.is) (h plain (subst (λ (o : Option _). AreBlanks g.K.MapKind.seen o plain) c.in-Some.is a)))

pub returns-in-Some-clause-box_suits : goal.returns-in-Some-clause-box_suits
returns-in-Some-clause-box_suits g c =
    let b = c.self.inside in
    let p : PlainBook = record { line = b.line.pasts; gone = b.marks.gone; marks = b.marks.standing; forgotten_marks = b.marks.forgotten; gave_up = b.gave_up; last_serial = b.last_serial; last_map = b.last_ids.map_id; last_prog = b.last_ids.prog_id; limits = b.limits } in
    let in_use : c.charged.result ≡ charged p = c.charged.ensures ∙ charged_is b.line.makes b.line.pasts (lasts_of b.ids.base b.ids.lasts.items) b.ids.maps.items b.ids.progs.items c.self.invariant.0 in
    λ none. subst (λ v. BoxSuits g.K.MapKind.seen v.plain c.args.change.now c.args.blank.now) c.self.view_is
    (subst (λ change. BoxSuits g.K.MapKind.seen p change c.args.blank.now) (sym c.in-Create.is)
    (subst (λ (o : Option _). BoxSuits g.K.MapKind.seen p (Create c.in-Create.id c.in-Create.attr c.in-Create.charge c.in-Create.name c.in-Create.path c.in-Create.template) o) (sym c.in-Some.is)
    (record {
      ids = omega (arith, c.if-self-2.false);
      charges = omega (arith, (c.blank_refusal.ensures.suits none).2, in_use);
      fresh = (c.blank_refusal.ensures.suits none).0;
      suits = (c.blank_refusal.ensures.suits none).1;
    })))
