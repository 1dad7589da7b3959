-- Where the marks of a name stand, among marks that are made, dropped or lowered.
use Rattle.std.proofs.Common.{◌≡◌, ◌≢◌, ℕ, ◌-◌, ◌≤◌, Bool, true, false, cond, List, [], ◌∷◌, ◌++◌, map as each, refl, sym, ◌∙◌, ap, arith}
use Rattle.std.specs.Prelude.{nat_le, nat_eq, filter, is_some, Some, None}
use Rattle.std.specs.Cmp.Lexicographic.{pointwise, bytes_decides}
use Rattle.std.proofs.lemmas.Bool.{leb-true}
use Rattle.journal_model.specs.Marks.{Mark, has_name, moments_at, marks_from}
use Rattle.journal_model.specs.Well.{Each}
use Rattle.journal_model.proofs.Lists.{Each-map, Each-filter, Each-each}

-- every mark of the name stands at this number of moments
abbrev pub IsAt : List ℕ → ℕ → Mark → Type 0
IsAt name n mark = has_name name mark ≡ true → mark.moments ≡ n

-- ---- of those that stand
-- if the mark is found
pub found_at : (name : List ℕ) (n count : ℕ) (marks : List Mark) → Each (IsAt name n) marks → moments_at name marks ≡ Some count → count ≡ n
found_at name n count [] at e = cc
found_at name n count (mark ∷ marks) at e = here (has_name name mark) refl e (found_at name n count marks at.1)
  where
    here : (b : Bool) → has_name name mark ≡ b → cond b (Some mark.moments) (moments_at name marks) ≡ Some count → (moments_at name marks ≡ Some count → count ≡ n) → count ≡ n
    here true named f rest = let same : mark.moments ≡ n = at.0 named in cc
    here false named f rest = rest f

-- a mark that is still there after those of a greater number are gone
pub found_below : (name : List ℕ) (n count : ℕ) (marks : List Mark) → Each (IsAt name n) marks → is_some (moments_at name (filter (λ (m : Mark). nat_le m.moments count) marks)) ≡ true → n ≤ count
found_below name n count [] at e = cc
found_below name n count (mark ∷ marks) at e = here (nat_le mark.moments count) refl e (found_below name n count marks at.1)
  where
    kept : List Mark
    kept = filter (λ (m : Mark). nat_le m.moments count) marks

    named_here : (b : Bool) → has_name name mark ≡ b → mark.moments ≤ count → is_some (cond b (Some mark.moments) (moments_at name kept)) ≡ true → (is_some (moments_at name kept) ≡ true → n ≤ count) → n ≤ count
    named_here true named low f rest = let same : mark.moments ≡ n = at.0 named in omega arith
    named_here false named low f rest = rest f

    here : (b : Bool) → nat_le mark.moments count ≡ b → is_some (moments_at name (cond b (mark ∷ kept) kept)) ≡ true → (is_some (moments_at name kept) ≡ true → n ≤ count) → n ≤ count
    here true low f rest = named_here (has_name name mark) refl (leb-true mark.moments count low) f rest
    here false low f rest = rest f

-- a mark that is still there after those of a smaller number are gone
pub found_from : (name : List ℕ) (n count : ℕ) (marks : List Mark) → Each (IsAt name n) marks → is_some (moments_at name (marks_from count marks)) ≡ true → count ≤ n
found_from name n count [] at e = cc
found_from name n count (mark ∷ marks) at e = here (nat_le count mark.moments) refl e (found_from name n count marks at.1)
  where
    kept : List Mark
    kept = filter (λ (m : Mark). nat_le count m.moments) marks

    lower : List Mark → List Mark
    lower ms = each (λ (m : Mark). record m { moments = m.moments - count }) ms

    named_here : (b : Bool) → has_name name mark ≡ b → count ≤ mark.moments → is_some (cond b (Some (mark.moments - count)) (moments_at name (lower kept))) ≡ true → (is_some (moments_at name (lower kept)) ≡ true → count ≤ n) → count ≤ n
    named_here true named low f rest = let same : mark.moments ≡ n = at.0 named in omega arith
    named_here false named low f rest = rest f

    here : (b : Bool) → nat_le count mark.moments ≡ b → is_some (moments_at name (lower (cond b (mark ∷ kept) kept))) ≡ true → (is_some (moments_at name (lower kept)) ≡ true → count ≤ n) → count ≤ n
    here true low f rest = named_here (has_name name mark) refl (leb-true count mark.moments low) f rest
    here false low f rest = rest f

-- the marks of a name stand so many moments lower
pub at_from : (name : List ℕ) (n count : ℕ) (marks : List Mark) → Each (IsAt name n) marks → Each (IsAt name (n - count)) (marks_from count marks)
at_from name n count marks at =
    Each-each (IsAt name (n - count)) (λ (m : Mark). record m { moments = m.moments - count }) (filter (λ (m : Mark). nat_le count m.moments) marks)
    (Each-map (IsAt name n) (λ (m : Mark). IsAt name (n - count) (record m { moments = m.moments - count })) (filter (λ (m : Mark). nat_le count m.moments) marks) (λ m here named. ap (λ k. k - count) (here named))
    (Each-filter (IsAt name n) (λ (m : Mark). nat_le count m.moments) marks at))

-- a mark of another name
pub other_mark : (name other : List ℕ) (n count : ℕ) (marks : List Mark) → is_some (moments_at name marks) ≡ true → moments_at other marks ≡ None → IsAt name n (record { name = other; moments = count })
other_mark name other n count marks stands none same =
    let equal : other ≡ name = (bytes_decides other name).0 same in
    let gone : is_some (moments_at name marks) ≡ false = ap (λ w. is_some (moments_at w marks)) (sym equal) ∙ ap is_some none in
    cc

-- ---- a mark that is made
pub none_named : (name : List ℕ) (n : ℕ) (marks : List Mark) → moments_at name marks ≡ None → Each (IsAt name n) marks
none_named name n [] e = tt
none_named name n (mark ∷ marks) e = here (has_name name mark) refl e (none_named name n marks)
  where
    here : (b : Bool) → has_name name mark ≡ b → cond b (Some mark.moments) (moments_at name marks) ≡ None → (moments_at name marks ≡ None → Each (IsAt name n) marks) → Each (IsAt name n) (mark ∷ marks)
    here true named f rest = cc
    here false named f rest = ((λ same. cc), rest f)

pub found_last : (name : List ℕ) (n : ℕ) (marks : List Mark) → is_some (moments_at name (marks ++ record { name = name; moments = n } ∷ [])) ≡ true
found_last name n [] = ap (λ b. is_some (cond b (Some n) None)) ((bytes_decides name name).1 refl)
found_last name n (mark ∷ marks) = here (has_name name mark) (found_last name n marks)
  where
    rest : List Mark
    rest = marks ++ record { name = name; moments = n } ∷ []

    here : (b : Bool) → is_some (moments_at name rest) ≡ true → is_some (cond b (Some mark.moments) (moments_at name rest)) ≡ true
    here true e = refl
    here false e = e

-- ---- of those that stood
-- a mark that stands with one more of another name stood before
pub stood : (name other : List ℕ) (n : ℕ) (marks : List Mark) → (other ≢ name) → is_some (moments_at name (marks ++ record { name = other; moments = n } ∷ [])) ≡ true → is_some (moments_at name marks) ≡ true
stood name other n [] differs e = here (has_name name (record { name = other; moments = n })) refl e
  where
    here : (b : Bool) → pointwise nat_eq other name ≡ b → is_some (cond b (Some n) None) ≡ true → is_some (moments_at name []) ≡ true
    here true same f = absurd (differs ((bytes_decides other name).0 same))
    here false apart f = f
stood name other n (mark ∷ marks) differs e = here (has_name name mark) e (stood name other n marks differs)
  where
    rest : List Mark
    rest = marks ++ record { name = other; moments = n } ∷ []

    here : (b : Bool) → is_some (cond b (Some mark.moments) (moments_at name rest)) ≡ true → (is_some (moments_at name rest) ≡ true → is_some (moments_at name marks) ≡ true) → is_some (cond b (Some mark.moments) (moments_at name marks)) ≡ true
    here true f g = refl
    here false f g = g f

-- a mark that stands among those that are left stood before
pub stood_all : (name : List ℕ) (count : ℕ) (marks : List Mark) → is_some (moments_at name (filter (λ (m : Mark). nat_le m.moments count) marks)) ≡ true → is_some (moments_at name marks) ≡ true
stood_all name count [] e = e
stood_all name count (mark ∷ marks) e = here (nat_le mark.moments count) e (stood_all name count marks)
  where
    kept : List Mark
    kept = filter (λ (m : Mark). nat_le m.moments count) marks

    named_here : (b : Bool) → is_some (cond b (Some mark.moments) (moments_at name kept)) ≡ true → (is_some (moments_at name kept) ≡ true → is_some (moments_at name marks) ≡ true) → is_some (cond b (Some mark.moments) (moments_at name marks)) ≡ true
    named_here true f g = refl
    named_here false f g = g f

    in_front : (b : Bool) → is_some (moments_at name marks) ≡ true → is_some (cond b (Some mark.moments) (moments_at name marks)) ≡ true
    in_front true f = refl
    in_front false f = f

    here : (b : Bool) → is_some (moments_at name (cond b (mark ∷ kept) kept)) ≡ true → (is_some (moments_at name kept) ≡ true → is_some (moments_at name marks) ≡ true) → is_some (cond (has_name name mark) (Some mark.moments) (moments_at name marks)) ≡ true
    here true f g = named_here (has_name name mark) f g
    here false f g = in_front (has_name name mark) (g f)

-- a mark that stands among those that are left stood before
pub stood_from : (name : List ℕ) (count : ℕ) (marks : List Mark) → is_some (moments_at name (marks_from count marks)) ≡ true → is_some (moments_at name marks) ≡ true
stood_from name count [] e = e
stood_from name count (mark ∷ marks) e = here (nat_le count mark.moments) e (stood_from name count marks)
  where
    kept : List Mark
    kept = filter (λ (m : Mark). nat_le count m.moments) marks

    lower : List Mark → List Mark
    lower ms = each (λ (m : Mark). record m { moments = m.moments - count }) ms

    named_here : (b : Bool) → is_some (cond b (Some (mark.moments - count)) (moments_at name (lower kept))) ≡ true → (is_some (moments_at name (lower kept)) ≡ true → is_some (moments_at name marks) ≡ true)
        → is_some (cond b (Some mark.moments) (moments_at name marks)) ≡ true
    named_here true f g = refl
    named_here false f g = g f

    in_front : (b : Bool) → is_some (moments_at name marks) ≡ true → is_some (cond b (Some mark.moments) (moments_at name marks)) ≡ true
    in_front true f = refl
    in_front false f = f

    here : (b : Bool) → is_some (moments_at name (lower (cond b (mark ∷ kept) kept))) ≡ true → (is_some (moments_at name (lower kept)) ≡ true → is_some (moments_at name marks) ≡ true)
        → is_some (cond (has_name name mark) (Some mark.moments) (moments_at name marks)) ≡ true
    here true f g = named_here (has_name name mark) f g
    here false f g = in_front (has_name name mark) (g f)
