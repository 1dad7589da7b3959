-- The state after some moments becomes the base: the later ones stay, and their exchanges begin so many records earlier.
use Rattle.std.proofs.Common.{◌≡◌, ℕ, ◌+◌, ◌-◌, ◌≤◌, List, [], ◌∷◌, ◌++◌, length, map as each, take, drop, reverse, refl, sym, ◌∙◌, ap, ap₂, subst, arith}
use Rattle.std.proofs.lemmas.List.{reverse-append, reverse-reverse, map-append, append-nil, append_assoc, take-append-drop, take-map, drop-map, take_all, drop_all, take_at, drop_at, length-map, length-drop, length-reverse, length-append, drop-take, drop-drop}
use Rattle.host_state.specs.State.{State}
use Rattle.host_state.specs.World.{Ready, WorldView}
use Rattle.journal_model.specs.Replay.{Entry}
use Rattle.journal_model.specs.Plain.{Past, Pasts, newest_force, newest_state, cut}
use Rattle.journal_model.specs.Rebase.{forth_by}
use Rattle.journal_model.proofs.Lists.{Each-rest, Each-front, Each-reverse}
use Rattle.journal_record.specs.After.{state_after}
use Rattle.journal_record.specs.Recorded.{Recorded}
use Rattle.journal_moments.specs.Line.{entry_of, entries, Leads, swapped, CanSwap, Down, Up, other_force, past, pasts_down, pasts_up}
use Rattle.journal_moments.specs.Held.{Held, held, base_of, pasts_of, Sound}
use Rattle.journal_moments.specs.Lowered.{lowered, AllLowered}
use Rattle.journal_moments.specs.Rebased.{AllBegin, shortened, on_new_base}
use Rattle.journal_moments.specs.MomentView.{MomentView}
use Rattle.journal_moments.proofs.BaseLemmas.{Leaves, leaves, CanSwap-lowered, swapped-lowered, force_lowered, past_lowered, Up-lowered, pasts-lowered}
use Rattle.journal_moments.proofs.HeldLemmas.{line, pasts_is, line_from, sound_from}
use Rattle.journal_record.proofs.LineLemmas.{foot_past}
use Rattle.journal_moments.proofs.SwapLemmas.{entries-swapped, length-swapped}
use Rattle.journal_moments.proofs.LoweredLemmas.{AllLowered-reverse, AllLowered-length}
use Rattle.journal_moments.proofs.GoneLemmas.{AllLowered-take, AllLowered-drop}
use Rattle.journal_moments.proofs.NewestLemmas.{length-pasts_down, length-moments, force_down}

-- ---- the records in place below some moments, the newest first
abbrev below : State → List Recorded → List MomentView → List Recorded
below base rs [] = rs
below base rs (m ∷ ms) = below base (swapped base rs m) ms

-- moments of which the last leads down to a list
abbrev DownTo : Ready → State → List Recorded → ℕ → List MomentView → List Recorded → Type 0
DownTo ready base rs room [] mark = rs ≡ mark
DownTo ready base rs room (m ∷ ms) mark = CanSwap ready base rs room m × DownTo ready base (swapped base rs m) room ms mark

Down-split : (ready : Ready) (base : State) (rs : List Recorded) (room : ℕ) (ms ns : List MomentView) → Down ready base rs room (ms ++ ns) → DownTo ready base rs room ms (below base rs ms) × Down ready base (below base rs ms) room ns
Down-split ready base rs room [] ns d = (refl, d)
Down-split ready base rs room (m ∷ ms) ns d =
    let rest : DownTo ready base (swapped base rs m) room ms (below base (swapped base rs m) ms) × Down ready base (below base (swapped base rs m) ms) room ns = Down-split ready base (swapped base rs m) room ms ns d.1 in
    ((d.0, rest.0), rest.1)

pasts_down-split : (base : State) (rs : List Recorded) (ms ns : List MomentView) → pasts_down base (entries rs) (ms ++ ns) ≡ pasts_down base (entries rs) ms ++ pasts_down base (entries (below base rs ms)) ns
pasts_down-split base rs [] ns = refl
pasts_down-split base rs (m ∷ ms) ns =
    ap (λ ps. past base (entries rs) m ∷ ps)
    (subst (λ es. pasts_down base es (ms ++ ns) ≡ pasts_down base es ms ++ pasts_down base (entries (below base (swapped base rs m) ms)) ns) (entries-swapped base rs m) (pasts_down-split base (swapped base rs m) ms ns))

-- one more
below_next : (base : State) (rs : List Recorded) (ms : List MomentView) (m : MomentView) → below base rs (ms ++ m ∷ []) ≡ swapped base (below base rs ms) m
below_next base rs [] m = refl
below_next base rs (x ∷ ms) m = below_next base (swapped base rs x) ms m

-- ---- those that stay begin with the changes of the mark
begins_here : (ready : Ready) (base : State) (rs : List Recorded) (room : ℕ) (ms : List MomentView) (mark : List Recorded) → AllBegin (entries mark) (pasts_down base (entries rs) ms) → DownTo ready base rs room ms mark → take (length (entries mark)) (entries rs) ≡ entries mark
begins_here ready base rs room [] mark b d = ap (λ xs. take (length (entries mark)) (entries xs)) d ∙ take_all (length (entries mark)) (entries mark) (omega arith)
begins_here ready base rs room (m ∷ ms) mark b d = b.0

-- the first of them can be exchanged on the new base
module _ (ready : Ready) (base : State) (rs : List Recorded) (room : ℕ) (m : MomentView) (ms : List MomentView) (mark : List Recorded) (b : AllBegin (entries mark) (pasts_down base (entries rs) (m ∷ ms))) (d : DownTo ready base rs room (m ∷ ms) mark) where
  later_begin : AllBegin (entries mark) (pasts_down base (entries (swapped base rs m)) ms)
  later_begin = subst (λ es. AllBegin (entries mark) (pasts_down base es ms)) (sym (entries-swapped base rs m)) b.1

  begins_below : take (length (entries mark)) (other_force (entries rs) m) ≡ entries mark
  begins_below = ap (take (length (entries mark))) (sym (entries-swapped base rs m)) ∙ begins_here ready base (swapped base rs m) room ms mark later_begin d.1

  leads_on : Leaves ready base (entries mark) room rs m
  leads_on = leaves ready base (entries mark) room rs m d.0 b.0 begins_below

Down-lowered : (ready : Ready) (base : State) (rs : List Recorded) (room : ℕ) (ms ls : List MomentView) (mark : List Recorded) → AllLowered (length (entries mark)) ms ls → AllBegin (entries mark) (pasts_down base (entries rs) ms) → DownTo ready base rs room ms mark
    → Down ready (state_after base (entries mark)) (drop (length (entries mark)) rs) room ls
Down-lowered ready base rs room [] [] mark a b d = ap (drop (length (entries mark))) d ∙ drop_all (length (entries mark)) mark (omega (arith, length-map mark entry_of))
Down-lowered ready base rs room [] (l ∷ ls) mark a b d = absurd a
Down-lowered ready base rs room (m ∷ ms) [] mark a b d = absurd a
Down-lowered ready base rs room (m ∷ ms) (l ∷ ls) mark a b d =
    let n : ℕ = length (entries mark) in
    let top : State = state_after base (entries mark) in
    let x : Leaves ready base (entries mark) room rs m = leads_on ready base rs room m ms mark b d in (
      CanSwap-lowered ready base top rs room n m l a.0 x.reach x.is d.0,
      subst (λ xs. Down ready top xs room ls) (sym (swapped-lowered ready base top rs room n m l a.0 x.reach x.is d.0))
          (Down-lowered ready base (swapped base rs m) room ms ls mark a.1 (later_begin ready base rs room m ms mark b d) d.1),
    )

downs-lowered : (ready : Ready) (base : State) (rs : List Recorded) (room : ℕ) (ms ls : List MomentView) (mark : List Recorded) → AllLowered (length (entries mark)) ms ls → AllBegin (entries mark) (pasts_down base (entries rs) ms) → DownTo ready base rs room ms mark
    → pasts_down (state_after base (entries mark)) (drop (length (entries mark)) (entries rs)) ls ≡ each (shortened (entries mark)) (pasts_down base (entries rs) ms)
downs-lowered ready base rs room [] [] mark a b d = refl
downs-lowered ready base rs room [] (l ∷ ls) mark a b d = absurd a
downs-lowered ready base rs room (m ∷ ms) [] mark a b d = absurd a
downs-lowered ready base rs room (m ∷ ms) (l ∷ ls) mark a b d =
    let force : List Entry = entries mark in
    let n : ℕ = length force in
    let top : State = state_after base force in
    let es : List Entry = entries rs in
    let x : Leaves ready base force room rs m = leads_on ready base rs room m ms mark b d in
    let later : pasts_down top (drop n (other_force es m)) ls ≡ each (shortened force) (pasts_down base (other_force es m) ms) =
    subst (λ fs. pasts_down top (drop n fs) ls ≡ each (shortened force) (pasts_down base fs ms)) (entries-swapped base rs m)
    (downs-lowered ready base (swapped base rs m) room ms ls mark a.1 (later_begin ready base rs room m ms mark b d) d.1) in
    ap (λ fs. past top (drop n es) l ∷ pasts_down top fs ls) (force_lowered ready base top rs room n m l a.0 x.reach x.is d.0)
    ∙ ap₂ (λ p ps. p ∷ ps) (past_lowered base force es m l a.0 b.0) later

-- ---- the moments of a, of which the first `count` are given up
newest_is : (ready : Ready) (base : State) (rs : List Recorded) (room : ℕ) (ms : List MomentView) → Down ready base rs room ms → newest_state base (pasts_down base (entries rs) ms) ≡ state_after base (entries rs)
newest_is ready base rs room [] d = ap (λ xs. state_after base (entries xs)) (sym d)
newest_is ready base rs room (m ∷ ms) d = refl

-- each moment that stays begins with the changes that were in force after `count`
abbrev pub Begins : Held → ℕ → Type 0
Begins a count = let q = cut count (pasts_of a) in AllBegin (newest_force q.moments) q.undone

module _ (a : Held) (s : Sound a) (count : ℕ) (within : count ≤ length a.moments) where
  -- those that stay and those that go, the newest first
  abbrev later : List MomentView
  later = reverse (drop count a.moments)

  abbrev earlier : List MomentView
  earlier = reverse (take count a.moments)

  abbrev pub mark : List Recorded
  mark = below (base_of a) a.records later

  both : later ++ earlier ≡ reverse a.moments
  both = sym (reverse-append (take count a.moments) (drop count a.moments)) ∙ ap reverse (take-append-drop count a.moments)

  split : DownTo a.world.ready (base_of a) a.records a.room later mark × Down a.world.ready (base_of a) mark a.room earlier
  split = Down-split a.world.ready (base_of a) a.records a.room later earlier (subst (Down a.world.ready (base_of a) a.records a.room) (sym both) s.down)

  abbrev force : List Entry
  force = entries mark

  abbrev moments_later : List Past
  moments_later = pasts_down (base_of a) (entries a.records) later

  abbrev moments_earlier : List Past
  moments_earlier = pasts_down (base_of a) force earlier

  abbrev undone : List Past
  undone = pasts_up (base_of a) (entries a.records) a.undone

  pasts_are : pasts_of a ≡ record { base = base_of a; moments = moments_later ++ moments_earlier; undone = undone }
  pasts_are =
      pasts_is a
      ∙ ap (λ ms. let p : Pasts = record { base = base_of a; moments = ms; undone = undone } in p)
      (ap (pasts_down (base_of a) (entries a.records)) (sym both) ∙ pasts_down-split (base_of a) a.records later earlier)

  stay : length moments_later ≡ length a.moments - count
  stay = length-pasts_down (base_of a) (entries a.records) later ∙ length-reverse (drop count a.moments) ∙ length-drop count a.moments

  so_many : length (pasts_of a).moments - count ≡ length moments_later
  so_many = ap (λ k. k - count) (length-moments a) ∙ sym stay

  cut_is : cut count (pasts_of a) ≡ record { base = base_of a; moments = moments_earlier; undone = reverse moments_later ++ undone }
  cut_is =
      ap (λ k. let p : Pasts = record { base = (pasts_of a).base; moments = drop k (pasts_of a).moments; undone = reverse (take k (pasts_of a).moments) ++ (pasts_of a).undone } in p) so_many
      ∙ ap (λ (q : Pasts). let p : Pasts = record { base = q.base; moments = drop (length moments_later) q.moments; undone = reverse (take (length moments_later) q.moments) ++ q.undone } in p) pasts_are
      ∙ ap₂ (λ ms us. let p : Pasts = record { base = base_of a; moments = ms; undone = reverse us ++ undone } in p)
      (drop_at moments_later moments_earlier (length moments_later) refl) (take_at moments_later moments_earlier (length moments_later) refl)

  earlier_force : newest_force moments_earlier ≡ force
  earlier_force = force_down a.world.ready (base_of a) mark a.room earlier split.1

  pub force-cut : newest_force (cut count (pasts_of a)).moments ≡ entries mark
  force-cut = ap (λ (q : Pasts). newest_force q.moments) cut_is ∙ earlier_force

  module _ (begin : Begins a count) where
    all_begin : AllBegin force (reverse moments_later ++ undone)
    all_begin = subst (λ es. AllBegin es (reverse moments_later ++ undone)) earlier_force (subst (λ (q : Pasts). AllBegin (newest_force q.moments) q.undone) cut_is begin)

    begin_later : AllBegin force moments_later
    begin_later =
        let P : Past → Type 0 = λ (m : Past). take (length force) m.force ≡ force in
        subst (AllBegin force) (reverse-reverse moments_later) (Each-reverse P (reverse moments_later) (Each-front P (reverse moments_later) undone all_begin))

    begin_undone : AllBegin force undone
    begin_undone = Each-rest (λ (m : Past). take (length force) m.force ≡ force) (reverse moments_later) undone all_begin

-- ---- b is a, once they are given up
pub record Advances (count n : ℕ) (a b : Held) : Type 0 where
  pub world : b.world ≡ a.world
  pub records : b.records ≡ drop n a.records
  pub moments : AllLowered n (drop count a.moments) b.moments
  pub undone : AllLowered n a.undone b.undone
  pub room : b.room ≡ a.room
  pub counts : length b.moments ≡ b.standing

reverse-each : {X Y : Type 0} (f : X → Y) (xs : List X) → reverse (each f (reverse xs)) ≡ each f xs
reverse-each f [] = refl
reverse-each f (x ∷ xs) =
    ap (λ ys. reverse (each f ys)) (reverse-append (x ∷ []) xs)
    ∙ ap reverse (map-append f (reverse xs) (x ∷ []))
    ∙ reverse-append (each f (reverse xs)) (f x ∷ [])
    ∙ ap (λ ys. f x ∷ ys) (reverse-each f xs)

forth_again : (top : State) (f : Past → Past) (ms us : List Past) → forth_by (length ms) (record { base = top; moments = []; undone = each f (reverse ms ++ us) }) ≡ record { base = top; moments = each f ms; undone = each f us }
forth_again top f ms us =
    let xs : List Past = each f (reverse ms) in
    let len : length xs ≡ length ms = length-map (reverse ms) f ∙ length-reverse ms in
    ap (λ vs. forth_by (length ms) (let p : Pasts = record { base = top; moments = []; undone = vs } in p)) (map-append f (reverse ms) us)
    ∙ ap₂ (λ vs ws. let p : Pasts = record { base = top; moments = reverse vs ++ []; undone = ws } in p) (take_at xs (each f us) (length ms) len) (drop_at xs (each f us) (length ms) len)
    ∙ ap (λ vs. let p : Pasts = record { base = top; moments = vs; undone = each f us } in p) (append-nil (reverse xs) ∙ reverse-each f ms)

-- how a and b are held
pub held_advances : (w : WorldView) (rs ss : List Recorded) (room left : ℕ) (ms ls : List MomentView) (standing gone later count n : ℕ) → count ≤ standing → length (each (lowered gone) (take standing ms)) ≡ standing → ss ≡ drop n rs → left ≡ room
    → AllLowered n (each (lowered gone) (drop count ms)) (each (lowered later) ls) → Advances count n (held w rs room ms standing gone) (held w ss left ls (standing - count) later)
held_advances w rs ss room left ms ls standing gone later count n within counts e r h =
    let k : ℕ = standing - count in
    let f : MomentView → MomentView = lowered gone in
    let sum : standing ≡ count + k = omega (arith, within) in
    let stay : take k (each f (drop count ms)) ≡ drop count (each f (take standing ms)) =
    take-map f k (drop count ms) ∙ ap (each f) (sym (drop-take count k ms) ∙ ap (λ i. drop count (take i ms)) (sym sum)) ∙ sym (drop-map f count (take standing ms)) in
    let lie : drop k (each f (drop count ms)) ≡ each f (drop standing ms) =
    drop-map f k (drop count ms) ∙ ap (each f) (drop-drop k count ms ∙ ap (λ i. drop i ms) (sym sum)) in
    let moments : AllLowered n (drop count (each f (take standing ms))) (each (lowered later) (take k ls)) =
    subst (AllLowered n (drop count (each f (take standing ms)))) (take-map (lowered later) k ls) (subst (λ xs. AllLowered n xs (take k (each (lowered later) ls))) stay (AllLowered-take n k (each f (drop count ms)) (each (lowered later) ls) h)) in
    record {
      world = refl;
      records = e;
      moments = moments;
      undone = subst (AllLowered n (each f (drop standing ms))) (drop-map (lowered later) k ls) (subst (λ xs. AllLowered n xs (drop k (each (lowered later) ls))) lie (AllLowered-drop n k (each f (drop count ms)) (each (lowered later) ls) h));
      room = r;
      counts = omega (arith, AllLowered-length n (drop count (each f (take standing ms))) (each (lowered later) (take k ls)) moments, length-drop count (each f (take standing ms)), counts);
    }

-- so many records are in place
pub gone_within : (a : Held) (s : Sound a) (count n : ℕ) → (within : count ≤ length a.moments) → n ≡ length (newest_force (cut count (pasts_of a)).moments) → Begins a count → n ≤ length a.records
gone_within a s count n within is begin =
    let es : List Entry = force a s count within in
    let here : take (length es) (entries a.records) ≡ es = begins_here a.world.ready (base_of a) a.records a.room (later a s count within) (mark a s count within) (begin_later a s count within begin) (split a s count within).0 in
    omega (arith, is, ap (λ (fs : List Entry). length fs) (force-cut a s count within), ap (λ (fs : List Entry). length fs) here, ap (λ (fs : List Entry). length fs) (take-append-drop (length es) (entries a.records)), length-append (take (length es) (entries a.records)) (drop (length es) (entries a.records)), length-map a.records entry_of)

-- those that were then are the first ones
pub first_records : (a : Held) (s : Sound a) (count n : ℕ) → (within : count ≤ length a.moments) → n ≡ length (newest_force (cut count (pasts_of a)).moments) → Begins a count → newest_force (cut count (pasts_of a)).moments ≡ entries (take n a.records)
first_records a s count n within is begin =
    let es : List Entry = force a s count within in
    let here : take (length es) (entries a.records) ≡ es = begins_here a.world.ready (base_of a) a.records a.room (later a s count within) (mark a s count within) (begin_later a s count within begin) (split a s count within).0 in
    let same : length es ≡ n = sym (is ∙ ap (λ (fs : List Entry). length fs) (force-cut a s count within)) in
    force-cut a s count within ∙ sym here ∙ ap (λ i. take i (entries a.records)) same ∙ take-map entry_of n a.records

module _ (a b : Held) (s : Sound a) (count n : ℕ) (within : count ≤ length a.moments) (g : Advances count n a b) (is : n ≡ length (newest_force (cut count (pasts_of a)).moments)) (begin : Begins a count) where
  abbrev ready : Ready
  ready = a.world.ready

  abbrev es : List Entry
  es = force a s count within

  abbrev k : ℕ
  k = length es

  n_is : n ≡ k
  n_is = is ∙ ap (λ (fs : List Entry). length fs) (force-cut a s count within)

  abbrev top : State
  top = state_after (base_of a) es

  abbrev rs : List Recorded
  rs = drop k a.records

  here : take k (entries a.records) ≡ es
  here = begins_here ready (base_of a) a.records a.room (later a s count within) (mark a s count within) (begin_later a s count within begin) (split a s count within).0

  leads : Leads ready top b.world.state b.records
  leads =
      let h : Leads ready (state_after (base_of a) (entries (take k a.records))) a.world.state rs = foot_past ready (base_of a) a.world.state a.records k s.leads in
      let h_top : Leads ready top a.world.state rs = subst (λ fs. Leads ready (state_after (base_of a) fs) a.world.state rs) (sym (take-map entry_of k a.records) ∙ here) h in
      subst (λ (w : WorldView). Leads ready top w.state b.records) (sym g.world) (subst (Leads ready top a.world.state) (ap (λ i. drop i a.records) (sym n_is) ∙ sym g.records) h_top)

  records_are : b.records ≡ rs
  records_are = g.records ∙ ap (λ i. drop i a.records) n_is

  lowered_later : AllLowered k (later a s count within) (reverse b.moments)
  lowered_later = subst (λ i. AllLowered i (later a s count within) (reverse b.moments)) n_is (AllLowered-reverse n (drop count a.moments) b.moments g.moments)

  lowered_undone : AllLowered k a.undone b.undone
  lowered_undone = subst (λ i. AllLowered i a.undone b.undone) n_is g.undone

  pub Sound-advance : Sound b
  Sound-advance =
      sound_from ready b top rs (reverse b.moments) b.undone (ap (λ (w : WorldView). w.ready) g.world) leads records_are refl refl
      (subst (λ i. Down ready top rs i (reverse b.moments)) (sym g.room)
      (Down-lowered ready (base_of a) a.records a.room (later a s count within) (reverse b.moments) (mark a s count within) lowered_later (begin_later a s count within begin) (split a s count within).0))
      (subst (λ i. Up ready top rs i b.undone) (sym g.room)
      (Up-lowered ready (base_of a) es a.room a.records a.undone b.undone lowered_undone here (begin_undone a s count within begin) s.up))
      (omega (arith, ap (λ (xs : List Recorded). length xs) records_are, length-drop k a.records, s.room_records, g.room))
      g.counts

  pub pasts_of-advance : pasts_of b ≡ forth_by (length (pasts_of a).moments - count) (on_new_base (cut count (pasts_of a)))
  pasts_of-advance =
      let f : Past → Past = shortened es in
      let ms : List Past = moments_later a s count within in
      let us : List Past = undone a s count within in
      let q : Pasts = record { base = base_of a; moments = moments_earlier a s count within; undone = reverse ms ++ us } in
      let based : on_new_base q ≡ record { base = top; moments = []; undone = each f (reverse ms ++ us) } =
      ap₂ (λ v fs. let p : Pasts = record { base = v; moments = []; undone = each (shortened fs) (reverse ms ++ us) } in p)
      (newest_is ready (base_of a) (mark a s count within) a.room (earlier a s count within) (split a s count within).1) (earlier_force a s count within) in
      line_from ready b top rs (reverse b.moments) b.undone leads records_are refl refl
      ∙ ap (λ fs. line top fs (reverse b.moments) b.undone) (sym (drop-map entry_of k a.records))
      ∙ ap₂ (λ vs ws. let p : Pasts = record { base = top; moments = vs; undone = ws } in p)
      (downs-lowered ready (base_of a) a.records a.room (later a s count within) (reverse b.moments) (mark a s count within) lowered_later (begin_later a s count within begin) (split a s count within).0)
      (pasts-lowered ready (base_of a) es a.room a.records a.undone b.undone lowered_undone here (begin_undone a s count within begin) s.up)
      ∙ sym (ap₂ (λ d p. forth_by d (on_new_base p)) (so_many a s count within) (cut_is a s count within) ∙ ap (forth_by (length ms)) based ∙ forth_again top f ms us)

-- ---- how many changes were in force then
-- all moments are given up
pub cut_all : (n : ℕ) (p : Pasts) → n ≡ length p.moments → cut n p ≡ p
cut_all n p e =
    let none : length p.moments - n ≡ 0 = omega (arith, e) in
    ap (λ k. let q : Pasts = record { base = p.base; moments = drop k p.moments; undone = reverse (take k p.moments) ++ p.undone } in q) none

-- the moment past the first `count` can be exchanged above the later ones, and leads down to the mark
module _ (a : Held) (s : Sound a) (count : ℕ) (m : MomentView) (rest : List MomentView) (cut_at : drop count a.moments ≡ m ∷ rest) where
  some : count ≤ length a.moments
  some = omega (arith, length-drop count a.moments, ap (λ (xs : List MomentView). length xs) cut_at)

  later_is : later a s count some ≡ reverse rest ++ m ∷ []
  later_is = ap reverse cut_at ∙ reverse-append (m ∷ []) rest

  next_down : DownTo a.world.ready (base_of a) a.records a.room (reverse rest) (below (base_of a) a.records (reverse rest)) × Down a.world.ready (base_of a) (below (base_of a) a.records (reverse rest)) a.room (m ∷ earlier a s count some)
  next_down = Down-split a.world.ready (base_of a) a.records a.room (reverse rest) (m ∷ earlier a s count some) (subst (Down a.world.ready (base_of a) a.records a.room) (sym (both a s count some) ∙ ap (λ xs. xs ++ earlier a s count some) later_is ∙ append_assoc (reverse rest) (m ∷ []) (earlier a s count some)) s.down)

  pub next_can : CanSwap a.world.ready (base_of a) (below (base_of a) a.records (reverse rest)) a.room m
  next_can = next_down.1.0

  pub in_force_after : length (newest_force (cut count (pasts_of a)).moments) ≡ m.at + length m.other + m.stays
  in_force_after =
      ap (λ (es : List Entry). length es) (force-cut a s count some)
      ∙ length-map (mark a s count some) entry_of
      ∙ ap (λ (xs : List Recorded). length xs) (ap (below (base_of a) a.records) later_is ∙ below_next (base_of a) a.records (reverse rest) m)
      ∙ length-swapped (base_of a) (below (base_of a) a.records (reverse rest)) m next_can.within

  pub fits_room : m.at + length m.other + m.stays ≤ a.room
  fits_room = next_can.room_forth
