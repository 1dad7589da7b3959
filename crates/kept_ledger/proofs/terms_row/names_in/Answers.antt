use Rattle.std.proofs.Common.{◌∷◌, [], ◌++◌, ap, subst, ◌∙◌}
use Rattle.std.proofs.lemmas.List.{nil_from_length}
use Rattle.kept_ledger.proofs.TermsBack.{IsCut, cut_begins, cut_on, cut_ends}
use Rattle.kept_ledger.proofs.terms_row.names_in.Goals as goal

pub loop-byte-init : goal.loop-byte-init
loop-byte-init c = cut_begins c.args.text.now c.new-names.result.items c.new-name.result.items (cc) (cc)

pub loop-byte-preserved : goal.loop-byte-preserved
loop-byte-preserved c =
    let was = c.loop-byte in
    cut_on c.args.text.now was.names.items c.read_byte.new.names.items was.name.items c.read_byte.new.name.items was.rest.now c.in-Some.behind.now c.in-Some.byte.now c.in-Some.ensures.cases.0 was.invariant
    c.in_ok-read_byte.ensures

pub returns : goal.returns
returns c =
    let was = c.loop-byte in
    cut_ends c.args.text.now was.names.items was.name.items c.push_word.new.names.items
    (subst (λ rest. IsCut c.args.text.now was.names.items was.name.items rest) (nil_from_length was.rest.now c.in_default.ensures.cases) was.invariant)
    (c.in_ok-push_word.ensures ∙ ap (λ w. was.names.items ++ w ∷ []) c.as_slice.ensures.value)
