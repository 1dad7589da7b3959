-- The first of the later moments that took out a change from before.
use Rattle.std.proofs.Common.{◌≡◌, ℕ, zero, suc, ◌+◌, ◌-◌, ◌<◌, ◌≤◌, Bool, cond, List, [], ◌∷◌, ◌++◌, length, get_or, take, drop, reverse, map as each, Option, Some, None, refl, sym, ◌∙◌, ap, ap₂, subst, arith}
use Rattle.std.specs.Prelude.{nat_le, if◌then◌else◌}
use Rattle.std.proofs.lemmas.List.{reverse-append, reverse-reverse, map-append, take-append-drop, take_at, drop_at, take_more, drop_all, drop-append-le, length-take-le, take-map, drop-map, length-reverse, length-map, length-drop}
use Rattle.host_state.specs.State.{State}
use Rattle.journal_model.specs.Replay.{Entry}
use Rattle.journal_model.specs.Plain.{Past, Pasts, newest_force, cut}
use Rattle.journal_model.specs.Rebase.{or_else, taken_from, first_taken_from, still_taken_out}
use Rattle.journal_model.specs.Force.{is_in_force}
use Rattle.journal_moments.specs.Line.{entries, other_force, pasts_down, pasts_up}
use Rattle.host_state.specs.World.{WorldView}
use Rattle.journal_record.specs.Recorded.{Recorded}
use Rattle.journal_moments.specs.Held.{Held, held, base_of, pasts_of}
use Rattle.journal_moments.specs.Lowered.{lowered}
use Rattle.journal_moments.specs.Taken.{taken_up_to, first_taken_up_to, TakenByAge, TakenByAgeSince}
use Rattle.journal_moments.specs.MomentView.{MomentView}
use Rattle.journal_moments.proofs.HeldLemmas.{pasts_is}
use Rattle.journal_moments.proofs.NewestLemmas.{length-moments}

-- what is told of a moment: its serial, and the serial that it took out
abbrev Told : Type 0
Told = ℕ × Option ℕ

abbrev told : Past → Told
told m = (m.serial, m.out)

abbrev told_by : MomentView → Told
told_by m = (m.serial, m.out)

-- the first of some that took out what passes a test
abbrev passes : (ℕ → Bool) → ℕ → Option ℕ → Option ℕ
passes test serial None = None
passes test serial (Some out) = if test out then Some serial else None

abbrev first : (ℕ → Bool) → List Told → Option ℕ
first test [] = None
first test (t ∷ ts) = or_else (passes test t.0 t.1) (first test ts)

first_from : (force : List Entry) (ms : List Past) → first_taken_from force ms ≡ first (λ out. is_in_force out force) (each told ms)
first_from force [] = refl
first_from force (m ∷ ms) = ap₂ or_else (one m.serial m.out) (first_from force ms)
  where
    one : (serial : ℕ) (out : Option ℕ) → taken_from force serial out ≡ passes (λ out. is_in_force out force) serial out
    one serial None = refl
    one serial (Some out) = refl

first_by : (last : ℕ) (ms : List MomentView) → first_taken_up_to last ms ≡ first (λ out. nat_le out last) (each told_by ms)
first_by last [] = refl
first_by last (m ∷ ms) = ap₂ or_else (one m.serial m.out) (first_by last ms)
  where
    one : (serial : ℕ) (out : Option ℕ) → taken_up_to last serial out ≡ passes (λ out. nat_le out last) serial out
    one serial None = refl
    one serial (Some out) = refl

by_age : (last : ℕ) (force : List Entry) (ms : List Past) → TakenByAge last force ms → first (λ out. is_in_force out force) (each told ms) ≡ first (λ out. nat_le out last) (each told ms)
by_age last force [] h = refl
by_age last force (m ∷ ms) h = ap₂ or_else (one m.serial m.out h.0) (by_age last force ms h.1)
  where
    one : (serial : ℕ) (o : Option ℕ) → ((out : ℕ) → o ≡ Some out → is_in_force out force ≡ nat_le out last) → passes (λ out. is_in_force out force) serial o ≡ passes (λ out. nat_le out last) serial o
    one serial None h = refl
    one serial (Some out) h = ap (λ b. cond b (Some serial) None) (h out refl)

-- ---- the moments of a line in order
told_down : (base : State) (es : List Entry) (ms : List MomentView) → each told (pasts_down base es ms) ≡ each told_by ms
told_down base es [] = refl
told_down base es (m ∷ ms) = ap (λ ts. told_by m ∷ ts) (told_down base (other_force es m) ms)

told_up : (base : State) (es : List Entry) (ms : List MomentView) → each told (pasts_up base es ms) ≡ each told_by ms
told_up base es [] = refl
told_up base es (m ∷ ms) = ap (λ ts. told_by m ∷ ts) (told_up base (other_force es m) ms)

each-back : {X Y : Type 0} (f : X → Y) (xs : List X) → each f (reverse xs) ≡ reverse (each f xs)
each-back f [] = refl
each-back f (x ∷ xs) =
    ap (each f) (reverse-append (x ∷ []) xs) ∙ map-append f (reverse xs) (x ∷ []) ∙ ap (λ ys. ys ++ f x ∷ []) (each-back f xs) ∙ sym (reverse-append (f x ∷ []) (each f xs))

-- the last of a list, read from its end and put in order again
last_ones : {X : Type 0} (count : ℕ) (xs : List X) → reverse (take (length xs - count) (reverse xs)) ≡ drop count xs
last_ones count xs =
    let k : ℕ = length xs - count in
    let rest : length (drop count xs) ≡ k = length-drop count xs in
    ap (λ ys. reverse (take k ys)) (ap reverse (sym (take-append-drop count xs)) ∙ reverse-append (take count xs) (drop count xs))
    ∙ ap reverse (take_at (reverse (drop count xs)) (reverse (take count xs)) k (length-reverse (drop count xs) ∙ rest))
    ∙ reverse-reverse (drop count xs)

-- the moments in force, the newest first
moments_told : (a : Held) → each told (pasts_of a).moments ≡ reverse (each told_by a.moments)
moments_told a =
    ap (λ (q : Pasts). each told q.moments) (pasts_is a) ∙ told_down (base_of a) (entries a.records) (reverse a.moments) ∙ each-back told_by a.moments

later_told : (a : Held) (count : ℕ) → each told (cut count (pasts_of a)).undone ≡ each told_by (drop count a.moments ++ a.undone)
later_told a count =
    let p : Pasts = pasts_of a in
    let k : ℕ = length p.moments - count in
    let up : each told p.undone ≡ each told_by a.undone = ap (λ (q : Pasts). each told q.undone) (pasts_is a) ∙ told_up (base_of a) (entries a.records) a.undone in
    let len : length p.moments ≡ length (each told_by a.moments) = length-moments a ∙ sym (length-map a.moments told_by) in
    map-append told (reverse (take k p.moments)) p.undone
    ∙ ap₂ (λ xs ys. xs ++ ys)
    (each-back told (take k p.moments) ∙ ap reverse (sym (take-map told k p.moments)) ∙ ap₂ (λ n xs. reverse (take (n - count) xs)) len (moments_told a) ∙ last_ones count (each told_by a.moments) ∙ drop-map told_by count a.moments)
    up
    ∙ sym (map-append told_by (drop count a.moments) a.undone)

pub first_later : (a : Held) (count last : ℕ) (force : List Entry) → TakenByAge last force (cut count (pasts_of a)).undone → first_taken_from force (cut count (pasts_of a)).undone ≡ first_taken_up_to last (drop count a.moments ++ a.undone)
first_later a count last force h =
    let us : List Past = (cut count (pasts_of a)).undone in
    first_from force us
    ∙ by_age last force us h
    ∙ ap (first (λ out. nat_le out last)) (later_told a count)
    ∙ sym (first_by last (drop count a.moments ++ a.undone))

-- positions do not matter to it
told_lowered : (gone : ℕ) (ms : List MomentView) → each told_by (each (lowered gone) ms) ≡ each told_by ms
told_lowered gone [] = refl
told_lowered gone (m ∷ ms) = ap (λ ts. told_by m ∷ ts) (told_lowered gone ms)

-- the first of some moments, as a line that stands on them tells of those in force
pub rows_told : (world : WorldView) (records : List Recorded) (room : ℕ) (ms : List MomentView) (standing gone : ℕ)
    → take standing (each told_by ms) ≡ reverse (each told (pasts_of (held world records room ms standing gone)).moments)
rows_told world records room ms standing gone =
    let a : Held = held world records room ms standing gone in
    take-map told_by standing ms
    ∙ sym (told_lowered gone (take standing ms))
    ∙ sym (reverse-reverse (each told_by a.moments))
    ∙ ap reverse (sym (moments_told a))

pub first_lowered : (gone last : ℕ) (ms : List MomentView) → first_taken_up_to last (each (lowered gone) ms) ≡ first_taken_up_to last ms
first_lowered gone last ms = first_by last (each (lowered gone) ms) ∙ ap (first (λ out. nat_le out last)) (told_lowered gone ms) ∙ sym (first_by last ms)

-- ---- the newest of the first ones
front_last : {X : Type 0} (count : ℕ) (xs : List X) (d : X) → count < length xs → reverse (take (count + 1) xs) ≡ get_or xs count d ∷ reverse (take count xs)
front_last count xs d within = ap reverse (take_more xs count d within) ∙ reverse-append (take count xs) (get_or xs count d ∷ [])

-- those that stand first, read from the end of a list that is read from its end
first_ones : {X : Type 0} (count : ℕ) (xs : List X) → count ≤ length xs → drop (length xs - count) (reverse xs) ≡ reverse (take count xs)
first_ones count xs within =
    let k : ℕ = length xs - count in
    ap (drop k) (ap reverse (sym (take-append-drop count xs)) ∙ reverse-append (take count xs) (drop count xs))
    ∙ drop_at (reverse (drop count xs)) (reverse (take count xs)) k (length-reverse (drop count xs) ∙ length-drop count xs)

earlier_told : (a : Held) (count : ℕ) → count ≤ length a.moments → each told (cut count (pasts_of a)).moments ≡ reverse (take count (each told_by a.moments))
earlier_told a count within =
    let p : Pasts = pasts_of a in
    let ts : List Told = each told_by a.moments in
    let len : length p.moments ≡ length ts = length-moments a ∙ sym (length-map a.moments told_by) in
    sym (drop-map told (length p.moments - count) p.moments)
    ∙ ap₂ (λ n xs. drop (n - count) xs) len (moments_told a)
    ∙ first_ones count ts (omega (arith, within, length-map a.moments told_by))

-- the moments up to so many, of which the newest has a serial
record Newest (a : Held) (count serial : ℕ) : Type 0 where
  m : Past
  rest : List Past
  is : (cut count (pasts_of a)).moments ≡ m ∷ rest
  same : m.serial ≡ serial

newest : (a : Held) (before : ℕ) (m : MomentView) → before < length a.moments → m ≡ get_or a.moments before m → Newest a (before + 1) m.serial
newest a before m within is = by (cut (before + 1) (pasts_of a)).moments refl
  where
    ts : List Told
    ts = each told_by a.moments

    heads : each told (cut (before + 1) (pasts_of a)).moments ≡ get_or ts before (told_by m) ∷ reverse (take before ts)
    heads = earlier_told a (before + 1) (omega (arith, within)) ∙ front_last before ts (told_by m) (omega (arith, within, length-map a.moments told_by))

    at : get_or ts before (told_by m) ≡ told_by m
    at = get_or-map a.moments before m within ∙ ap told_by (sym is)
      where
        get_or-map : (ms : List MomentView) (i : ℕ) (d : MomentView) → i < length ms → get_or (each told_by ms) i (told_by d) ≡ told_by (get_or ms i d)
        get_or-map [] i d l = refl
        get_or-map (x ∷ ms) zero d l = refl
        get_or-map (x ∷ ms) (suc i) d l = get_or-map ms i d (omega (arith, l))

    by : (ps : List Past) → (cut (before + 1) (pasts_of a)).moments ≡ ps → Newest a (before + 1) m.serial
    by [] e = cc (sym (ap (each told) e) ∙ heads)
    by (p ∷ ps) e = record { m = p; rest = ps; is = e; same = serial_of (told p) (get_or ts before (told_by m)) (each told ps) _ (sym (ap (each told) e) ∙ heads) ∙ ap (λ (t : Told). t.0) at }
      where
        serial_of : (s t : Told) (ss us : List Told) → s ∷ ss ≡ t ∷ us → s.0 ≡ t.0
        serial_of s t ss us e = cc

-- before any moment nothing is in force
pub none_before : (p : Pasts) → still_taken_out 0 p ≡ None
none_before p = ap (λ ms. first_taken_from (newest_force ms) (cut 0 p).undone) (drop_all (length p.moments - 0) p.moments (omega arith)) ∙ nothing (cut 0 p).undone
  where
    nothing : (us : List Past) → first_taken_from [] us ≡ None
    nothing [] = refl
    nothing (u ∷ us) = by u.out (nothing us)
      where
        by : (out : Option ℕ) → first_taken_from [] us ≡ None → or_else (taken_from [] u.serial out) (first_taken_from [] us) ≡ None
        by None rest = rest
        by (Some o) rest = rest

-- what stands past so many stands there
read_at : {X : Type 0} (k : ℕ) (xs ys : List X) (x : X) → drop k xs ≡ x ∷ ys → (k < length xs) × (x ≡ get_or xs k x)
read_at zero [] ys x e = cc
read_at zero (z ∷ xs) ys x e = (omega arith, cc)
read_at (suc k) [] ys x e = cc
read_at (suc k) (z ∷ xs) ys x e = let rest = read_at k xs ys x e in (omega (arith, rest.0), rest.1)

pub first_taking : (a : Held) (before : ℕ) (m : MomentView) → drop before a.moments ≡ m ∷ drop (before + 1) a.moments → (let q = cut (before + 1) (pasts_of a) in TakenByAgeSince q.moments q.undone)
    → still_taken_out (before + 1) (pasts_of a) ≡ first_taken_up_to m.serial (drop (before + 1) a.moments ++ a.undone)
first_taking a before m next h =
    let there = read_at before a.moments (drop (before + 1) a.moments) m next in
    let n : Newest a (before + 1) m.serial = newest a before m there.0 there.1 in
    let us : List Past = (cut (before + 1) (pasts_of a)).undone in
    let aged : TakenByAge m.serial n.m.force us = subst (λ s. TakenByAge s n.m.force us) n.same (subst (λ ms. TakenByAgeSince ms us) n.is h) in
    ap (λ ms. first_taken_from (newest_force ms) us) n.is ∙ first_later a (before + 1) m.serial n.m.force aged

-- the later ones, in force and undone, are all past so many
pub all_later : {X Y : Type 0} (f : X → Y) (count n : ℕ) (xs : List X) → count ≤ n → n ≤ length xs → drop count (each f (take n xs)) ++ each f (drop n xs) ≡ each f (drop count xs)
all_later f count n xs few within =
    ap (λ ys. ys ++ each f (drop n xs)) (drop-map f count (take n xs))
    ∙ sym (map-append f (drop count (take n xs)) (drop n xs))
    ∙ ap (each f) (sym (drop-append-le count (take n xs) (drop n xs) (omega (arith, few, length-take-le n xs within))) ∙ ap (drop count) (take-append-drop n xs))
