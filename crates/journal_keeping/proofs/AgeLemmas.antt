-- What later moments took out was in force at a number of moments just if it is not newer than the last of them.
use Rattle.std.proofs.Common.{◌≡◌, ℕ, ◌<◌, ◌≤◌, ◌==◌, ◌||◌, Bool, true, false, List, [], ◌∷◌, ◌++◌, reverse, Option, Some, None, refl, sym, ◌∙◌, ap, subst, arith}
use Rattle.std.specs.Prelude.{⊤, nat_le, not}
use Rattle.std.proofs.lemmas.List.{reverse-reverse}
use Rattle.std.proofs.lemmas.Bool.Decides.{nat_tests}
use Rattle.journal_model.specs.Replay.{Entry}
use Rattle.journal_model.specs.Plain.{Past, Pasts, newest_force}
use Rattle.journal_model.specs.Well.{Each, EachPair, ForceFollows, EachFollows, all_moments}
use Rattle.journal_model.specs.Force.{is_in_force}
use Rattle.journal_model.proofs.Lists.{Each-map, Each-append, Each-rest, Each-reverse, Each-filter, EachPair-rest}
use Rattle.journal_invariant.proofs.Following.{EachFollows-rest}
use Rattle.journal_timeline.specs.Taken.{TakenByAge, TakenByAgeSince}

abbrev Rising : List Past → Type 0
Rising ms = EachPair (λ (newer older : Past). older.serial < newer.serial) ms

-- ---- a list in force
-- what holds of the serial of each change holds of one that is in force
of_force : (P : ℕ → Type 0) (serial : ℕ) (es : List Entry) → Each (λ (e : Entry). P e.serial) es → is_in_force serial es ≡ true → P serial
of_force P serial [] h there = cc
of_force P serial (e ∷ es) h there = by (e.serial == serial) refl there (of_force P serial es h.1)
  where
    by : (b : Bool) → (e.serial == serial) ≡ b → (b || is_in_force serial es) ≡ true → (is_in_force serial es ≡ true → P serial) → P serial
    by true is t rest = let same : e.serial ≡ serial = grind (arith, nat_tests, is) in subst P same h.0
    by false is t rest = rest t

or_true : (b : Bool) → (b || true) ≡ true
or_true true = refl
or_true false = refl

each_there : (es : List Entry) → Each (λ (e : Entry). is_in_force e.serial es ≡ true) es
each_there [] = tt
each_there (e ∷ es) =
    let itself : (e.serial == e.serial) ≡ true = grind (arith, nat_tests) in (
      ap (λ b. b || is_in_force e.serial es) itself,
      Each-map (λ (x : Entry). is_in_force x.serial es ≡ true) (λ (x : Entry). is_in_force x.serial (e ∷ es) ≡ true) es (λ x there. ap (λ b. (e.serial == x.serial) || b) there ∙ or_true (e.serial == x.serial)) (each_there es),
    )

-- a newer change is not in force
none_newer : (last serial : ℕ) (es : List Entry) → Each (λ (e : Entry). e.serial ≤ last) es → last < serial → is_in_force serial es ≡ false
none_newer last serial [] h newer = refl
none_newer last serial (e ∷ es) h newer =
    let low : e.serial ≤ last = h.0 in
    let apart : (e.serial == serial) ≡ false = grind (arith, nat_tests, low, newer) in
    ap (λ b. b || is_in_force serial es) apart ∙ none_newer last serial es h.1 newer

-- ---- the changes of a moment are not newer than it
abbrev NotNewer : List Past → Type 0
NotNewer [] = ⊤
NotNewer (m ∷ ms) = Each (λ (e : Entry). e.serial ≤ m.serial) m.force

older_force : (serial : ℕ) (ms : List Past) → Each (λ (o : Past). o.serial < serial) ms → NotNewer ms → Each (λ (e : Entry). e.serial ≤ serial) (newest_force ms)
older_force serial [] r up = tt
older_force serial (o ∷ os) r up = Each-map (λ (e : Entry). e.serial ≤ o.serial) (λ (e : Entry). e.serial ≤ serial) o.force (λ e low. let less : o.serial < serial = r.0 in omega (arith, low, less)) up

follows_up : (serial : ℕ) (out : Option ℕ) (before force : List Entry) → Each (λ (e : Entry). e.serial ≤ serial) before → ForceFollows serial out before force → Each (λ (e : Entry). e.serial ≤ serial) force
follows_up serial None before force up g =
    subst (Each (λ (e : Entry). e.serial ≤ serial)) (sym g.2) (Each-append (λ (e : Entry). e.serial ≤ serial) before (g.0 ∷ []) up (omega (arith, g.1), tt))
follows_up serial (Some out) before force up g =
    subst (Each (λ (e : Entry). e.serial ≤ serial)) (sym g.1) (Each-filter (λ (e : Entry). e.serial ≤ serial) (λ (e : Entry). not (e.serial == out)) before up)

not_newer : (ms : List Past) → EachFollows ms → Rising ms → NotNewer ms
not_newer [] f r = tt
not_newer (m ∷ ms) f r = follows_up m.serial m.out (newest_force ms) m.force (older_force m.serial ms r.0 (not_newer ms f.1 r.1)) f.0

-- ---- later moments
-- of each change in force, and of each that was taken out, its age tells whether it was in force at the moment m
module _ (m : Past) (ms : List Past) (first_is : EachFollows (m ∷ ms)) (rises : Rising (m ∷ ms)) where
  abbrev Tells : ℕ → Type 0
  Tells serial = is_in_force serial m.force ≡ nat_le serial m.serial

  record Aged (later : List Past) : Type 0 where
    force : Each (λ (e : Entry). Tells e.serial) (newest_force (later ++ m ∷ ms))
    outs : TakenByAge m.serial m.force later

  both : (es : List Entry) → Each (λ (e : Entry). is_in_force e.serial m.force ≡ true) es → Each (λ (e : Entry). e.serial ≤ m.serial) es → Each (λ (e : Entry). Tells e.serial) es
  both [] a b = tt
  both (e ∷ es) a b =
      let low : e.serial ≤ m.serial = b.0 in
      let older : true ≡ nat_le e.serial m.serial = grind (arith, nat_tests, low) in
      (a.0 ∙ older, both es a.1 b.1)

  next_force : (serial : ℕ) (out : Option ℕ) (before force : List Entry) → m.serial < serial → Each (λ (e : Entry). Tells e.serial) before → ForceFollows serial out before force → Each (λ (e : Entry). Tells e.serial) force
  next_force serial None before force newer up g =
      let above : false ≡ nat_le serial m.serial = grind (arith, nat_tests, newer) in
      let apart : Tells serial = none_newer m.serial serial m.force (not_newer (m ∷ ms) first_is rises) newer ∙ above in
      subst (Each (λ (e : Entry). Tells e.serial)) (sym g.2) (Each-append (λ (e : Entry). Tells e.serial) before (g.0 ∷ []) up (subst Tells (sym g.1) apart, tt))
  next_force serial (Some out) before force newer up g =
      subst (Each (λ (e : Entry). Tells e.serial)) (sym g.1) (Each-filter (λ (e : Entry). Tells e.serial) (λ (e : Entry). not (e.serial == out)) before up)

  next_out : (serial : ℕ) (o : Option ℕ) (before force : List Entry) → Each (λ (e : Entry). Tells e.serial) before → ForceFollows serial o before force → (out : ℕ) → o ≡ Some out → Tells out
  next_out serial None before force up g out is = cc
  next_out serial (Some taken) before force up g out is = subst Tells (same taken out is) (of_force Tells taken before up g.0)
    where
      same : (a b : ℕ) → Some a ≡ Some b → a ≡ b
      same a b e = cc

  aged : (later : List Past) → EachFollows (later ++ m ∷ ms) → Rising (later ++ m ∷ ms) → Aged later
  aged [] f r = record { force = both m.force (each_there m.force) (not_newer (m ∷ ms) first_is rises); outs = tt }
  aged (l ∷ later) f r =
      let rest : Aged later = aged later f.1 r.1 in
      let newer : m.serial < l.serial = (Each-rest (λ (o : Past). o.serial < l.serial) later (m ∷ ms) r.0).0 in
      let before : List Entry = newest_force (later ++ m ∷ ms) in
      record {
        force = next_force l.serial l.out before l.force newer rest.force f.0;
        outs = (next_out l.serial l.out before l.force rest.force f.0, rest.outs);
      }

-- of all moments, undone or in force, those that are undone are the later ones
pub taken_by_age : (p : Pasts) → EachFollows (all_moments p) → Rising (all_moments p) → TakenByAgeSince p.moments p.undone
taken_by_age p f r = by p.moments f r
  where
    by : (ms : List Past) → EachFollows (reverse p.undone ++ ms) → Rising (reverse p.undone ++ ms) → TakenByAgeSince ms p.undone
    by [] f r = tt
    by (m ∷ ms) f r =
        let P : Past → Type 0 = λ x. ((out : ℕ) → x.out ≡ Some out → is_in_force out m.force ≡ nat_le out m.serial) in
        let first_is : EachFollows (m ∷ ms) = EachFollows-rest (reverse p.undone) (m ∷ ms) f in
        let rises : Rising (m ∷ ms) = EachPair-rest (λ (newer older : Past). older.serial < newer.serial) (reverse p.undone) (m ∷ ms) r in
        subst (Each P) (reverse-reverse p.undone) (Each-reverse P (reverse p.undone) (aged m ms first_is rises (reverse p.undone) f r).outs)
