use Rattle.std.proofs.Common.{◌≡◌, ◌+◌, ◌≤◌, List, [], rules, sym, subst}
use Rattle.std.specs.Prelude.{All}
use Rattle.bt_syntax.specs.declared.files.FileText.{FileText}
use Rattle.console_input.specs.Named.{texts, bytes_in, Adds, IsNamedIn, IsNamedInAny, AddsFiles, AreDeeper, AreFilesOf, IsAtHand}
use Rattle.console_input.specs.declared.named.TheConstants.{MOST_NAMED}
use Rattle.console_input.proofs.NamedFiles.{all_named, named_all, named_whole, few_all}
use Rattle.console_input.proofs.named.read_named.Goals as goal

pub returns : goal.returns
returns g c =
    let may_read = g.R.FileReader.may_read c.args.rt.now in
    let may_give = IsAtHand may_read in
    let text = c.args.text.now in
    let first = c.add_named.new.files.items in
    let deeper = c.in_ok-deeper.deeper.items in
    let none : c.new-files.result.items ≡ [] = search rules in
    let named = all_named (IsNamedIn text) [] first (subst (λ (old : List FileText). Adds (IsNamedIn text) old first) none c.in_ok-left.ensures.named) (search rules) in
    let behind = subst (λ files. All (IsNamedInAny files) deeper) c.as_slice.ensures.value c.in_ok-deeper.ensures.named in
    subst (λ files. AreFilesOf may_read text files) (sym {A = List FileText} c.in_ok-append.ensures) (record {
      named = named_all text first deeper named behind;
      whole = named_whole may_give text first deeper (subst (λ (old : List FileText). AddsFiles may_give [] text old first) none c.in_ok-left.ensures.whole)
          (subst (λ (files : List FileText). AreDeeper may_give files deeper) c.as_slice.ensures.value c.in_ok-deeper.ensures.whole);
      few = few_all first deeper (subst (λ (files : List FileText). bytes_in (texts files) + bytes_in (texts deeper) ≤ MOST_NAMED) c.as_slice.ensures.value c.in_ok-deeper.ensures.few);
    })
