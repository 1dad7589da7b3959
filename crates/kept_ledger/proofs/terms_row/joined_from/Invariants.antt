use Rattle.std.proofs.Common.{◌≡◌, ◌++◌, ◌∷◌, take, flat_map}
use Rattle.kept_ledger.proofs.terms_row.joined_from.Given as goal

abbrev pub invariant-names : goal.invariant-names
invariant-names l = l.text.items ≡ l.first ++ flat_map (λ name. 32 ∷ name) (take l.name-index l.others)
