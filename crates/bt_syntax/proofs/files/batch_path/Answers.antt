use Rattle.std.proofs.Common.{◌≡◌, ◌≤◌, ℕ, List, [], ◌∷◌, length, sym, ◌∙◌, ap, arith, Option, Some, None, Bor}
use Rattle.std.specs.Prelude.{codes, MatchOption}
use Rattle.std.specs.Option.{option_map}
use Rattle.console_operand.specs.Word.{words}
use Rattle.bt_syntax.specs.Files.{batch_in, AreNotOne}
use Rattle.bt_syntax.specs.Steps.{line_read}
use Rattle.bt_syntax.proofs.BatchPath.{runs_batch, runs_none}
use Rattle.bt_syntax.proofs.files.batch_path.Goals as goal

-- what comes after `batch file`
behind : (rest : List (List ℕ)) (path : List ℕ) → codes "batch" ∷ codes "file" ∷ rest ≡ codes "batch" ∷ codes "file" ∷ path ∷ [] → rest ≡ path ∷ []
behind rest path e = cc

only : (line : List ℕ) (rest : List (List ℕ)) (word : Option (Bor (List ℕ))) → length line ≤ 131072 → words line ≡ codes "batch" ∷ codes "file" ∷ rest →
    MatchOption word (AreNotOne rest) (λ w. rest ≡ w.now ∷ []) → option_map (λ w. w.now) word ≡ batch_in (line_read line)
only line rest None limit are none = runs_none line limit (λ path is. none path (behind rest path (sym are ∙ is)))
only line rest (Some word) limit are one = runs_batch line word.now limit (are ∙ ap (λ ws. codes "batch" ∷ codes "file" ∷ ws) one)

pub returns-in_err-behind_batch_file : goal.returns-in_err-behind_batch_file
returns-in_err-behind_batch_file c =
    let limit : length c.args.line.now ≤ 131072 = omega (arith, c.if-line-gt-LINE_MAX.false) in
    ap (option_map (λ w. w.now)) c.from_residual.ensures ∙ runs_none c.args.line.now limit (λ path are. c.in_err-behind_batch_file.ensures (path ∷ []) are)

pub returns : goal.returns
returns c =
    let limit : length c.args.line.now ≤ 131072 = omega (arith, c.if-line-gt-LINE_MAX.false) in
    only c.args.line.now (words c.in_ok-behind_batch_file.field-0.now) c.only_word.result limit c.in_ok-behind_batch_file.ensures c.only_word.ensures
