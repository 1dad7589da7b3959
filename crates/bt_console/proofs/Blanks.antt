-- Each box has its blank.
use Rattle.std.proofs.Common.{◌≡◌, true, refl, ap, ◌∙◌}
use Rattle.std.proofs.lemmas.Bool.{false≢true, eqb-true, eq-eqb, and_parts, and_from}
use base.Stored.{Gv, gnil, gnum, gcons}
use Rattle.bt_mapkind.specs.Codes.{contents_code}
use Rattle.bt_mapkind.specs.Contents.{fresh}
use Rattle.bt_mapkind.specs.Seen.{Seen, IsFresh}
use Rattle.journal_model.specs.Blank.{IsBlankOf}
use Rattle.bt_console.specs.BlankOf.{is_same_code, is_fresh, blank_of}

same_code : (a b : Gv) → is_same_code a b ≡ true → a ≡ b
unfolding is_same_code
same_code gnil gnil e = refl
same_code gnil (gnum n) e = absurd (false≢true e)
same_code gnil (gcons c d) e = absurd (false≢true e)
same_code (gnum m) gnil e = absurd (false≢true e)
same_code (gnum m) (gnum n) e = ap gnum (eqb-true m n e)
same_code (gnum m) (gcons c d) e = absurd (false≢true e)
same_code (gcons a b) gnil e = absurd (false≢true e)
same_code (gcons a b) (gnum n) e = absurd (false≢true e)
same_code (gcons a b) (gcons c d) e =
    let parts = and_parts (is_same_code a c) (is_same_code b d) e in
    ap (λ x. gcons x b) (same_code a c parts.0) ∙ ap (λ y. gcons c y) (same_code b d parts.1)

is_same_code-same : (a : Gv) → is_same_code a a ≡ true
unfolding is_same_code
is_same_code-same gnil = refl
is_same_code-same (gnum n) = eq-eqb n n refl
is_same_code-same (gcons a b) = and_from (is_same_code a a) (is_same_code b b) (is_same_code-same a) (is_same_code-same b)

is_fresh-true : (s : Seen) → is_fresh s ≡ true → IsFresh s
unfolding is_fresh
is_fresh-true s e = contents_code.inj s.contents (fresh s.attr) (same_code (contents_code.code s.contents) (contents_code.code (fresh s.attr)) e)

pub is_fresh-fresh : (s : Seen) → IsFresh s → is_fresh s ≡ true
unfolding is_fresh
is_fresh-fresh s e =
    ap (λ contents. is_same_code (contents_code.code contents) (contents_code.code (fresh s.attr))) e ∙ is_same_code-same (contents_code.code (fresh s.attr))

pub is_blank_of : (s : Seen) → IsBlankOf s (blank_of s)
is_blank_of s = record { make = refl; fresh = (is_fresh-true s, is_fresh-fresh s) }
