use Rattle.std.proofs.Common.{◌≡◌, ◌++◌, [], ◌∷◌, List, ℕ, refl, sym, ◌∙◌, ap, subst, append_assoc, append-nil}
use Rattle.kept_event.specs.declared.event.KeptEvent.{KeptEvent}
use Rattle.kept_book.specs.Leading.{LeadTo}
use Rattle.kept_lines.proofs.Further.{further_then}
use Rattle.kept_host.specs.Taking.{AllTaken, OneRefused, IsWhy}
use Rattle.kept_host.proofs.Together.{none_taken, all_then, refused_then, why_first, why_of, no_serials}
use Rattle.kept_host.proofs.range.takings.take_each.Goals as goal

pub serials-init : goal.serials-init
serials-init g c = record {
  taken = λ d text h. subst (λ front. AllTaken c.args.serials.now c.args.book.now.plain d (front ++ text)) (sym c.new-held.ensures.text) h;
  refused = λ fault h. h;
  leads = ([], c.new-held.ensures.events, refl);
  same = λ _. refl;
}

pub serials-preserved : goal.serials-preserved
serials-preserved g c =
    let was = c.serials in
    let b = was.book.plain in
    let now = c.take_one.new.book.plain in
    let serial = c.in-Some.serial.now in
    let after = c.in-Some.after.now in
    let cut : was.rest.now ≡ serial ∷ after = c.in-Some.ensures.cases.0 in
    let one = c.in-Ok.ensures.taken in
    record {
      taken = λ d text h.
          subst (λ all. AllTaken c.args.serials.now c.args.book.now.plain d all) (sym (append_assoc was.held.text.items one.0 text) ∙ ap (λ front. front ++ text) (sym {A = List ℕ} one.1))
          (was.invariant.taken d (one.0 ++ text) (subst (λ xs. AllTaken xs b d (one.0 ++ text)) (sym cut) (all_then serial after b now one.0 one.2 d text h)));
      refused = λ fault h. was.invariant.refused fault (subst (λ xs. OneRefused xs b fault) (sym cut) (refused_then serial after b now one.0 one.2 fault h));
      leads = further_then c.args.book.now.plain b now [] was.held.events.items c.take_one.new.held.events.items was.invariant.leads c.in-Ok.ensures.leads;
      same = λ h. absurd (cc);
    }

pub returns-clause-taken : goal.returns-clause-taken
returns-clause-taken g c =
    subst (λ all. AllTaken c.args.serials.now c.args.book.now.plain c.serials.book.plain all) (append-nil c.serials.held.text.items)
    (c.serials.invariant.taken c.serials.book.plain [] (subst (λ xs. AllTaken xs c.serials.book.plain c.serials.book.plain []) (sym (no_serials c.serials.rest.now c.in_default.ensures.cases)) (none_taken c.serials.book.plain)))

pub returns-clause-leads : goal.returns-clause-leads
returns-clause-leads g c =
    let it = c.serials.invariant.leads in subst (λ (events : List KeptEvent). LeadTo c.args.book.now.plain events c.serials.book.plain) (sym it.1) it.2

pub returns-in-Err-clause-refused : goal.returns-in-Err-clause-refused
returns-in-Err-clause-refused g c =
    let was = c.serials in
    let cut : was.rest.now ≡ c.in-Some.serial.now ∷ c.in-Some.after.now = c.in-Some.ensures.cases.0 in
    why_of c.args.serials.now was.rest.now c.args.book.now.plain was.book.plain c.in-Err.refusal.fault (was.invariant.refused c.in-Err.refusal.fault)
    (subst (λ xs. IsWhy xs was.book.plain c.in-Err.refusal.fault) (sym cut) (why_first c.in-Some.serial.now c.in-Some.after.now was.book.plain c.in-Err.refusal.fault c.in-Err.ensures.refused))
