-- The longest match in an LPM trie is the longest among all that match.
use Rattle.std.proofs.Common.{◌≡◌, ℕ, ◌≤◌, Bool, true, false, cond, nat_lt, List, [], ◌∷◌, Option, Some, None, refl, sym, arith}
use Rattle.std.proofs.lemmas.Bool.Decides.{nat_tests}
use Rattle.std.specs.List.{All, Contains, filter}
use Rattle.std.specs.Option.{MatchOption}
use Rattle.std.specs.FinMap.{entries}
use Rattle.std.proofs.lemmas.List.Elements.{All-nil, All-cons, All-weaker, Contains-append_left, Contains-append_right, Contains-push}
use Rattle.bt_mapkind.specs.Contents.{ByKey}
use Rattle.bt_mapkind.specs.Prefix.{prefix_length, is_prefix_of, longer, longest}
use Rattle.bt_mapkind.specs.Laws.{IsLongestMatch, FindsLongest}

abbrev Entry : Type 0
Entry = List ℕ × List ℕ

-- what is found among entries
abbrev Finds : List ℕ → List Entry → Option Entry → Type 0
Finds key es found = MatchOption found (All (λ e. is_prefix_of key e.0 ≡ false) es) (IsLongestMatch es key)

NotLonger : List ℕ → Entry → Entry → Type 0
NotLonger key found e = is_prefix_of key e.0 ≡ true → prefix_length e.0 ≤ prefix_length found.0

head_is_there : (x : Entry) (es : List Entry) → Contains (x ∷ es) x
head_is_there x es = Contains-append_left (x ∷ []) es x (Contains-push [] x)

rest_is_there : (x y : Entry) (es : List Entry) → Contains es y → Contains (x ∷ es) y
rest_is_there x y es h = Contains-append_right (x ∷ []) es y h

absent_is_not_longer : (key : List ℕ) (found e : Entry) → is_prefix_of key e.0 ≡ false → NotLonger key found e
unfolding NotLonger
absent_is_not_longer key found e apart is = absurd (clash (sym apart) is)
  where
    clash : false ≡ is_prefix_of key e.0 → is_prefix_of key e.0 ≡ true → ⊥
    clash p q = cc

-- one more entry, which matches
with_match : (key : List ℕ) (x : Entry) (es : List Entry) (found : Option Entry) → is_prefix_of key x.0 ≡ true → Finds key es found → Finds key (x ∷ es) (longer x found)
unfolding NotLonger
with_match key x es None is none = record {
  there = head_is_there x es;
  matches = is;
  longest = All-cons (NotLonger key x) x es (λ _. omega arith)
      (All-weaker (λ e. is_prefix_of key e.0 ≡ false) (NotLonger key x) (absent_is_not_longer key x) es none);
}
with_match key x es (Some f) is found = cases (nat_lt (prefix_length x.0) (prefix_length f.0)) refl
  where
    cases : (b : Bool) → nat_lt (prefix_length x.0) (prefix_length f.0) ≡ b → Finds key (x ∷ es) (cond b (Some f) (Some x))
    cases true below =
        let le : prefix_length x.0 ≤ prefix_length f.0 = grind (arith, nat_tests, below) in
        record {
          there = rest_is_there x f es found.there;
          matches = found.matches;
          longest = All-cons (NotLonger key f) x es (λ _. le) found.longest;
        }
    cases false above =
        let le : prefix_length f.0 ≤ prefix_length x.0 = grind (arith, nat_tests, above) in
        record {
          there = head_is_there x es;
          matches = is;
          longest = All-cons (NotLonger key x) x es (λ _. omega arith)
              (All-weaker (NotLonger key f) (NotLonger key x) (λ e h is. let l : prefix_length e.0 ≤ prefix_length f.0 = h is in omega arith) es found.longest);
        }

-- one more entry, which does not match
with_other : (key : List ℕ) (x : Entry) (es : List Entry) (found : Option Entry) → is_prefix_of key x.0 ≡ false → Finds key es found → Finds key (x ∷ es) found
unfolding NotLonger
with_other key x es None apart none = All-cons (λ e. is_prefix_of key e.0 ≡ false) x es apart none
with_other key x es (Some f) apart found = record {
  there = rest_is_there x f es found.there;
  matches = found.matches;
  longest = All-cons (NotLonger key f) x es (absent_is_not_longer key f x apart) found.longest;
}

finds : (key : List ℕ) (es : List Entry) → Finds key es (longest (filter (λ e. is_prefix_of key e.0) es))
finds key [] = All-nil (λ e. is_prefix_of key e.0 ≡ false)
finds key (x ∷ es) = one_more key x es (is_prefix_of key x.0) refl (finds key es)
  where
    one_more : (key : List ℕ) (x : Entry) (es : List Entry) (b : Bool) → is_prefix_of key x.0 ≡ b → Finds key es (longest (filter (λ e. is_prefix_of key e.0) es))
        → Finds key (x ∷ es) (longest (cond b (x ∷ filter (λ e. is_prefix_of key e.0) es) (filter (λ e. is_prefix_of key e.0) es)))
    one_more key x es true is rest = with_match key x es (longest (filter (λ e. is_prefix_of key e.0) es)) is rest
    one_more key x es false is rest = with_other key x es (longest (filter (λ e. is_prefix_of key e.0) es)) is rest

pub finds_longest : (m : ByKey (List ℕ)) (key : List ℕ) → FindsLongest m key
finds_longest m key = finds key (entries m)
