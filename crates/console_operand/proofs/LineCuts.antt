-- How the lines of a text begin.
use Rattle.std.proofs.Common.{◌≡◌, ◌≢◌, ℕ, ◌<◌, ◌==◌, ◌&&◌, true, false, cond, List, [], ◌∷◌, ◌++◌, length, take, drop, get_or, refl, sym, ◌∙◌, ap, arith, suc, zero}
use Rattle.std.specs.List.{onto_first}
use Rattle.std.proofs.lemmas.Bool.{ne_eqb}
use Rattle.std.proofs.Math.Bool.{and-false}
use Rattle.console_operand.specs.Line.{lines_of, without_cr, begins_lf, is_empty}

-- one byte in front of a text whose first line ends
put_first : (byte : ℕ) (text line : List ℕ) (rest : List (List ℕ)) → (byte == 10) ≡ false → ((byte == 13) && begins_lf text) ≡ false →
    ((byte == 13) && is_empty line) ≡ false → lines_of text ≡ without_cr line ∷ rest → lines_of (byte ∷ text) ≡ without_cr (byte ∷ line) ∷ rest
put_first byte text line rest no_lf no_crlf no_cr h =
    ap (λ b. cond b ([] ∷ lines_of text) (cond ((byte == 13) && begins_lf text) (lines_of text) (onto_first byte (lines_of text)))) no_lf
    ∙ ap (λ b. cond b (lines_of text) (onto_first byte (lines_of text))) no_crlf
    ∙ ap (onto_first byte) h
    ∙ sym (ap (λ b. cond b [] (byte ∷ without_cr line) ∷ rest) no_cr)

-- the first line ends at the first line feed
pub line_cut : (text : List ℕ) (n : ℕ) → n < length text → ((k : ℕ) → k < n → (get_or text k 0 == 10) ≡ false) → (get_or text n 0 == 10) ≡ true →
    lines_of text ≡ without_cr (take n text) ∷ lines_of (drop (suc n) text)
line_cut [] n h inside at = absurd (omega arith)
line_cut (byte ∷ text) zero h inside at =
    ap (λ b. cond b ([] ∷ lines_of text) (cond ((byte == 13) && begins_lf text) (lines_of text) (onto_first byte (lines_of text)))) at
line_cut (byte ∷ []) (suc n) h inside at = absurd (omega arith)
line_cut (byte ∷ next ∷ text) (suc zero) h inside at =
    let deeper = line_cut (next ∷ text) zero (omega arith) (λ k below. absurd (omega arith)) at in
    elim (byte == 13) as (λ b. (byte == 13) ≡ b → lines_of (byte ∷ next ∷ text) ≡ without_cr (byte ∷ []) ∷ lines_of text) [
      | true ↦ λ cr.
          ap (λ b. cond b ([] ∷ lines_of (next ∷ text)) (cond ((byte == 13) && (next == 10)) (lines_of (next ∷ text)) (onto_first byte (lines_of (next ∷ text))))) (inside 0 (omega arith))
          ∙ ap (λ b. cond (b && (next == 10)) (lines_of (next ∷ text)) (onto_first byte (lines_of (next ∷ text)))) cr
          ∙ ap (λ b. cond b (lines_of (next ∷ text)) (onto_first byte (lines_of (next ∷ text)))) at
          ∙ deeper
          ∙ sym (ap (λ b. cond (b && true) [] (byte ∷ []) ∷ lines_of text) cr)
      | false ↦ λ other. put_first byte (next ∷ text) [] (lines_of text) (inside 0 (omega arith)) (ap (λ b. b && (next == 10)) other) (ap (λ b. b && true) other) deeper
    ] refl
line_cut (byte ∷ next ∷ text) (suc (suc n)) h inside at =
    let deeper = line_cut (next ∷ text) (suc n) (omega arith) (λ k below. inside (suc k) (omega arith)) at in
    put_first byte (next ∷ text) (next ∷ take n text) (lines_of (drop (suc n) text)) (inside 0 (omega arith))
    (ap (λ b. (byte == 13) && b) (inside 1 (omega arith)) ∙ and-false (byte == 13)) (and-false (byte == 13)) deeper

-- the last line has no line feed
pub line_whole : (byte : ℕ) (text : List ℕ) → ((k : ℕ) → k < length (byte ∷ text) → (get_or (byte ∷ text) k 0 == 10) ≡ false) → lines_of (byte ∷ text) ≡ (byte ∷ text) ∷ []
line_whole byte [] inside =
    ap (λ b. cond b ([] ∷ []) (cond ((byte == 13) && false) [] ((byte ∷ []) ∷ []))) (inside 0 (omega arith))
    ∙ ap (λ b. cond b [] ((byte ∷ []) ∷ [])) (and-false (byte == 13))
line_whole byte (next ∷ text) inside =
    let rest = lines_of (next ∷ text) in
    ap (λ b. cond b ([] ∷ rest) (cond ((byte == 13) && (next == 10)) rest (onto_first byte rest))) (inside 0 (omega arith))
    ∙ ap (λ b. cond ((byte == 13) && b) rest (onto_first byte rest)) (inside 1 (omega arith))
    ∙ ap (λ b. cond b rest (onto_first byte rest)) (and-false (byte == 13))
    ∙ ap (onto_first byte) (line_whole next text (λ k below. inside (suc k) (omega arith)))

pub lines_last : (text : List ℕ) → 0 < length text → ((k : ℕ) → k < length text → (get_or text k 0 == 10) ≡ false) → lines_of text ≡ text ∷ []
lines_last [] some inside = absurd (omega arith)
lines_last (byte ∷ text) some inside = line_whole byte text inside

-- a CR at the end of a line goes, and nothing else
pub cr_off : (line : List ℕ) (byte : ℕ) → byte ≡ 13 → without_cr (line ++ byte ∷ []) ≡ line
cr_off [] byte cr = ap (λ b. cond ((b == 13) && true) [] (byte ∷ [])) cr
cr_off (first ∷ []) byte cr =
    ap (λ b. cond b [] (first ∷ without_cr (byte ∷ []))) (and-false (first == 13)) ∙ ap (λ rest. first ∷ rest) (cr_off [] byte cr)
cr_off (first ∷ second ∷ line) byte cr =
    ap (λ b. cond b [] (first ∷ without_cr ((second ∷ line) ++ byte ∷ []))) (and-false (first == 13)) ∙ ap (λ rest. first ∷ rest) (cr_off (second ∷ line) byte cr)

pub no_cr : (line : List ℕ) (byte : ℕ) → byte ≢ 13 → without_cr (line ++ byte ∷ []) ≡ line ++ byte ∷ []
no_cr [] byte other = ap (λ b. cond (b && true) [] (byte ∷ [])) (ne_eqb byte 13 other)
no_cr (first ∷ []) byte other =
    ap (λ b. cond b [] (first ∷ without_cr (byte ∷ []))) (and-false (first == 13)) ∙ ap (λ rest. first ∷ rest) (no_cr [] byte other)
no_cr (first ∷ second ∷ line) byte other =
    ap (λ b. cond b [] (first ∷ without_cr ((second ∷ line) ++ byte ∷ []))) (and-false (first == 13)) ∙ ap (λ rest. first ∷ rest) (no_cr (second ∷ line) byte other)
