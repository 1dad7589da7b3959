use Rattle.std.proofs.Common.{◌∙◌, sym, rules, inr, Ok}
use Rattle.console_input.specs.Named.{IsAtHand}
use Rattle.console_input.proofs.NamedFiles.{adds_known, adds_present, leaves_room, leaves_rest}
use Rattle.console_input.proofs.named.add.Goals as goal

pub returns-then-is_there-clause-whole : goal.returns-then-is_there-clause-whole
returns-then-is_there-clause-whole g c =
    adds_known (IsAtHand (g.R.FileReader.may_read c.args.rt.now)) c.args.known.now c.args.files.now.items c.args.path.now (sym (rw c.as_slice.ensures.value at c.is_there.ensures) ∙ c.if-is_there.true)

pub returns-in_ok-push-in-Some-checked_sub-clause-named : goal.returns-in_ok-push-in-Some-checked_sub-clause-named
returns-in_ok-push-in-Some-checked_sub-clause-named g c = let it = c.in_ok-push-in-Some-checked_sub.ensures in inr (it.0, it.1, it.3)

pub returns-in_ok-push-in-Some-checked_sub-clause-whole : goal.returns-in_ok-push-in-Some-checked_sub-clause-whole
returns-in_ok-push-in-Some-checked_sub-clause-whole g c =
    adds_present (IsAtHand (g.R.FileReader.may_read c.args.rt.now)) c.args.known.now c.args.files.now.items c.args.path.now {T = Unit {0}} {E = Unit {0}} (Ok tt) c.push.new.files.items c.in-Some.bytes.items
    (sym (rw c.as_slice.ensures.value at c.is_there.ensures) ∙ c.if-is_there.false) (rw c.in-Some.is at c.in_ok-bytes.ensures)
    (leaves_room c.args.known.now c.args.files.now.items c.in-Some.bytes.items c.args.left c.in-Some-checked_sub.rest c.requires (search rules))
    c.in_ok-push-in-Some-checked_sub.ensures

pub returns-in_ok-push-in-Some-checked_sub-clause-left : goal.returns-in_ok-push-in-Some-checked_sub-clause-left
returns-in_ok-push-in-Some-checked_sub-clause-left g c =
    leaves_rest {T = Unit {0}} {E = Unit {0}} (Ok tt) c.args.known.now c.args.files.now.items c.push.new.files.items c.args.path.now c.in-Some.bytes.items c.args.left c.in-Some-checked_sub.rest c.requires (search rules)
    c.in_ok-push-in-Some-checked_sub.ensures
