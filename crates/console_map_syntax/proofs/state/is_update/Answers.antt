use Rattle.std.proofs.Common.{◌≡◌, List, ℕ, sym, arith, codes}
use Rattle.std.proofs.lemmas.Slice.Eq.{bytes_eq-Decides, text_from_reads}
use Rattle.console_map_syntax.proofs.state.is_update.Goals as goal

pub returns-in-update : goal.returns-in-update
returns-in-update c =
    let word : List ℕ = c.args.word.now in
    let is : word ≡ codes "update" = text_from_reads word (codes "update") (omega arith) (omega arith, (omega arith, (omega arith, (omega arith, (omega arith, (omega arith, tt)))))) in
    sym ((bytes_eq-Decides word (codes "update")).1 is)
