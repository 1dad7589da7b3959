-- Each call of a take keeps the rule that each frame is taken once.
use Rattle.std.proofs.Common.{◌≡◌, ◌≢◌, ℕ, zero, suc, ◌+◌, ◌-◌, ◌/◌, ◌<◌, ◌≤◌, List, [], ◌∷◌, ◌++◌, length, set, Some, sym, refl, ap, ◌∙◌, subst, ⊎_elim, arith}
use Rattle.std.specs.Prelude.{slice_get, All}
use Rattle.std.specs.List.{sum_by}
use mathlib.Core.Option.{some, some-injective, some-ne-none}
use lib.ListN.{get_elem?}
use Rattle.std.proofs.lemmas.Bool.Decides.{nat_tests}
use Rattle.std.proofs.lemmas.List.Sums.{sum_by-cons, sum_by-append, sum_by_push}
use Rattle.std.proofs.lemmas.List.Elements.{All-head, All-tail, All-push, All-weaker}
use Rattle.crossbeam_queue.specs.Fifo.{Pushes, Pops, Forks, Merges, Learns}
use Rattle.crossbeam_queue.proofs.Lists.{at_set, at_snoc}
use Rattle.thread_frames.specs.declared.deal.Hand.{Hand}
use Rattle.thread_frames.specs.declared.deal.TheConstants.{MOST_PARTS}
use Rattle.thread_frames.specs.declared.frame.FrameIn.{FrameIn}
use Rattle.thread_frames.specs.declared.frame.Numbered.{Numbered}
use Rattle.thread_frames.specs.Deal.{hand, times, once, numbers_of, IsFrameAt, after_put, after_take, Took, IsRest, KnowsAll, IsIdle, OfEach, IsDealt}

-- ---- sums over takes
total_set : (f : Hand → ℕ) (vs : List Hand) (port : ℕ) (v w : Hand) → get_elem? vs port ≡ some v → sum_by f (set vs port w) + f v ≡ sum_by f vs + f w
total_set f [] port v w e = absurd (some-ne-none v (sym e))
total_set f (u ∷ vs) zero v w e = let h : f u ≡ f v = ap f (some-injective u v e) in omega (arith, sum_by-cons f u vs, sum_by-cons f w vs)
total_set f (u ∷ vs) (suc port) v w e = omega (arith, total_set f vs port v w e, sum_by-cons f u vs, sum_by-cons f u (set vs port w))

total_has : (f : Hand → ℕ) (vs : List Hand) (port : ℕ) (v : Hand) → get_elem? vs port ≡ some v → f v ≤ sum_by f vs
total_has f [] port v e = absurd (some-ne-none v (sym e))
total_has f (u ∷ vs) zero v e = let h : f u ≡ f v = ap f (some-injective u v e) in omega (arith, sum_by-cons f u vs)
total_has f (u ∷ vs) (suc port) v e = omega (arith, total_has f vs port v e, sum_by-cons f u vs)

total_has_both : (f : Hand → ℕ) (vs : List Hand) (i j : ℕ) (v w : Hand) → i ≢ j → get_elem? vs i ≡ some v → get_elem? vs j ≡ some w → f v + f w ≤ sum_by f vs
total_has_both f [] i j v w apart e d = absurd (some-ne-none v (sym e))
total_has_both f (u ∷ vs) zero zero v w apart e d = absurd (apart refl)
total_has_both f (u ∷ vs) zero (suc j) v w apart e d = let h : f u ≡ f v = ap f (some-injective u v e) in omega (arith, total_has f vs j w d, sum_by-cons f u vs)
total_has_both f (u ∷ vs) (suc i) zero v w apart e d = let h : f u ≡ f w = ap f (some-injective u w d) in omega (arith, total_has f vs i v e, sum_by-cons f u vs)
total_has_both f (u ∷ vs) (suc i) (suc j) v w apart e d = omega (arith, total_has_both f vs i j v w (λ same. apart (ap suc same)) e d, sum_by-cons f u vs)

abbrev parts : Hand → ℕ
parts v = v.parts

abbrev took : Hand → ℕ
took v = length v.taken

abbrev took_of : ℕ → Hand → ℕ
took_of k v = times k v.taken

-- a count that is 0 of a take without a part
abbrev Still : (Hand → ℕ) → List Hand → Type 0
Still f vs = (port : ℕ) (v : Hand) → get_elem? vs port ≡ some v → v.parts ≡ 0 → f v ≡ 0

none_total : (f : Hand → ℕ) (vs : List Hand) → sum_by parts vs ≡ 0 → Still f vs → sum_by f vs ≡ 0
none_total f [] z s = refl
none_total f (u ∷ vs) z s =
    let p = sum_by-cons parts u vs in
    let a : f u ≡ 0 = s 0 u refl (omega arith) in
    omega (arith, none_total f vs (omega arith) (λ p v e. s (suc p) v e), sum_by-cons f u vs)

only_total : (f : Hand → ℕ) (vs : List Hand) (port : ℕ) (v : Hand) → get_elem? vs port ≡ some v → sum_by parts vs ≡ v.parts → Still f vs → sum_by f vs ≡ f v
only_total f [] port v e all s = absurd (some-ne-none v (sym e))
only_total f (u ∷ vs) zero v e all s =
    let same : u ≡ v = some-injective u v e in
    let p : u.parts ≡ v.parts = ap parts same in
    let q : f u ≡ f v = ap f same in
    let c = sum_by-cons parts u vs in
    omega (arith, none_total f vs (omega arith) (λ p v e. s (suc p) v e), sum_by-cons f u vs)
only_total f (u ∷ vs) (suc port) v e all s =
    let below = total_has parts vs port v e in
    let c = sum_by-cons parts u vs in
    let a : f u ≡ 0 = s 0 u refl (omega arith) in
    omega (arith, only_total f vs port v e (omega arith) (λ p v e. s (suc p) v e), sum_by-cons f u vs)

-- ---- what holds of each take
each_set : (F : ℕ → Hand → Type 0) (vs : List Hand) (port : ℕ) (w : Hand) → F port w → ((j : ℕ) (u : Hand) → j ≢ port → get_elem? vs j ≡ some u → F j u) → OfEach F (set vs port w)
each_set F vs port w mine others j u e =
    ⊎_elim (λ (t : (j ≡ port) × (w ≡ u)). subst (λ (y : ℕ × Hand). F y.0 y.1) (λ i. (sym t.0 i, t.1 i)) mine)
    (λ (t : (j ≢ port) × (get_elem? vs j ≡ some u)). others j u t.0 t.1) (at_set vs port j w u e)

each_kept : (F : ℕ → Hand → Type 0) (vs : List Hand) (port : ℕ) (w : Hand) → F port w → OfEach F vs → OfEach F (set vs port w)
each_kept F vs port w mine old = each_set F vs port w mine (λ j u apart e. old j u e)

each_more : (F : ℕ → Hand → Type 0) (vs : List Hand) (w : Hand) → ((j : ℕ) → F j w) → OfEach F vs → OfEach F (vs ++ w ∷ [])
each_more F vs w mine old j u e =
    ⊎_elim (λ (t : get_elem? vs j ≡ some u). old j u t) (λ (t : w ≡ u). subst (λ (y : Hand). F j y) t (mine j)) (at_snoc vs w u j e)

-- ---- counts of numbers
abbrev is_number : ℕ → ℕ → ℕ
is_number k n = times k (n ∷ [])

times_append : (k : ℕ) (xs ys : List ℕ) → times k (xs ++ ys) ≡ times k xs + times k ys
times_append k xs ys = sum_by-append _ xs ys

times_push : (k : ℕ) (xs : List ℕ) (n : ℕ) → times k (xs ++ n ∷ []) ≡ times k xs + times k (n ∷ [])
times_push k xs n = sum_by-append _ xs (n ∷ [])

times_cons : (k n : ℕ) (xs : List ℕ) → times k (n ∷ xs) ≡ times k (n ∷ []) + times k xs
times_cons k n xs = sum_by-append _ (n ∷ []) xs

numbers_push : (xs : List Numbered) (it : Numbered) → numbers_of (xs ++ it ∷ []) ≡ numbers_of xs ++ it.number ∷ []
numbers_push [] it = refl
numbers_push (x ∷ xs) it = ap (λ ns. x.number ∷ ns) (numbers_push xs it)

length_push : {A : Type 0} (xs : List A) (x : A) → length (xs ++ x ∷ []) ≡ length xs + 1
length_push [] x = refl
length_push (y ∷ xs) x = omega (arith, length_push xs x)

once_more : (k n : ℕ) → once k (n + 1) ≡ once k n + times k ((n + 1) ∷ [])
once_more k n = grind (arith, nat_tests)

-- ---- frames by their numbers
get_left : (xs : List FrameIn) (y x : FrameIn) (i : ℕ) → slice_get xs i ≡ Some x → slice_get (xs ++ y ∷ []) i ≡ Some x
get_left [] y x i e = absurd (let z : slice_get [] i ≡ Some x = e in cc)
get_left (a ∷ xs) y x zero e = e
get_left (a ∷ xs) y x (suc i) e = get_left xs y x i e

get_last : (xs : List FrameIn) (y : FrameIn) → slice_get (xs ++ y ∷ []) (length xs) ≡ Some y
get_last [] y = refl
get_last (a ∷ xs) y = get_last xs y

still_at : (all : List FrameIn) (frame : FrameIn) (it : Numbered) → IsFrameAt all it → IsFrameAt (all ++ frame ∷ []) it
still_at all frame it h = (h.0, get_left all frame it.frame (it.number - 1) h.1)

-- ---- the calls
pub begins : IsDealt [] (hand MOST_PARTS [] [] ∷ [])
begins = record { all = []; whole = refl; know = only_know; idle = only_idle; frames = λ k d h. absurd (omega arith); each_once = λ k. grind (arith, nat_tests); counted = refl }
  where
    first : Hand
    first = hand MOST_PARTS [] []

    only_know : OfEach (KnowsAll []) (hand MOST_PARTS [] [] ∷ [])
    only_know zero v e has = sym (ap (λ (u : Hand). u.all) (some-injective (hand MOST_PARTS [] []) v e))
    only_know (suc j) v e has = absurd (some-ne-none v (sym e))

    only_idle : OfEach IsIdle (hand MOST_PARTS [] [] ∷ [])
    only_idle zero v e none = sym (ap (λ (u : Hand). u.taken) (some-injective (hand MOST_PARTS [] []) v e))
    only_idle (suc j) v e none = absurd (some-ne-none v (sym e))

pub puts : (n port : ℕ) (v : Hand) (it : Numbered) → v.parts ≡ MOST_PARTS → it.number ≡ length v.all + 1 → Pushes IsDealt n port v it (λ w. w ≡ after_put v it)
puts n port v it whole number items views room d at =
    let w = after_put v it in
    let more : List FrameIn = v.all ++ it.frame ∷ [] in
    let known : v.all ≡ d.all = d.know port v at (omega (arith, whole)) in
    let longer : length more ≡ length v.all + 1 = length_push v.all it.frame in
    let same_length : length v.all ≡ length d.all = ap length known in (
      w,
      record {
        all = more;
        whole = omega (arith, d.whole, total_set parts views port v w at);
        know = each_set (KnowsAll more) views port w (λ _. refl)
            (λ j u apart e has. absurd (let both = total_has_both parts views j port u v apart e at in omega (arith, both, d.whole, whole, has)));
        idle = each_kept IsIdle views port w (d.idle port v at) d.idle;
        frames = All-push (IsFrameAt more) items it
            (All-weaker (IsFrameAt d.all) (IsFrameAt more) (λ x h. subst (λ all. IsFrameAt (all ++ it.frame ∷ []) x) (sym known) (still_at d.all it.frame x h)) items d.frames)
            (omega (arith, number), ap (λ n. slice_get more (n - 1)) number ∙ ap (slice_get more) (omega arith) ∙ get_last v.all it.frame);
        each_once = λ k.
            let old = d.each_once k in
            let o = once_more k (length v.all) in
            let p = ap (once k) same_length in
            let q = ap (once k) longer in
            let r = ap (times k) (numbers_push items it) ∙ times_push k (numbers_of items) it.number in
            let s = ap (is_number k) number in
            omega (arith, old, o, p, q, r, s, total_set (took_of k) views port v w at);
        counted = omega (arith, d.counted, longer, same_length, length_push items it, total_set took views port v w at);
      },
      refl,
    )

pub puts_learn : (port : ℕ) (v : Hand) → v.parts ≡ MOST_PARTS → Learns IsDealt port v (λ items. length items ≤ length v.all)
puts_learn port v whole items views d at =
    let known : v.all ≡ d.all = d.know port v at (omega (arith, whole)) in
    omega (arith, d.counted, ap length known)

pub takes : (port : ℕ) (v : Hand) → 0 < v.parts → Pops IsDealt port v (Took v)
takes port v has it items views d at =
    let w = after_take v it in
    let known : v.all ≡ d.all = d.know port v at has in
    let longer : length w.taken ≡ length v.taken + 1 = length_push v.taken it.number in (
      w,
      record {
        all = d.all;
        whole = omega (arith, d.whole, total_set parts views port v w at);
        know = each_kept (KnowsAll d.all) views port w (λ _. known) d.know;
        idle = each_kept IsIdle views port w (λ none. absurd (omega (arith, none, has))) d.idle;
        frames = All-tail (IsFrameAt d.all) it items d.frames;
        each_once = λ k. omega (arith, d.each_once k, times_push k v.taken it.number, times_cons k it.number (numbers_of items), total_set (took_of k) views port v w at);
        counted = omega (arith, d.counted, longer, total_set took views port v w at);
      },
      record {
        after = refl;
        is_frame = subst (λ all. IsFrameAt all it) (sym known) (All-head (IsFrameAt d.all) it items d.frames);
        few = omega (arith, d.counted, longer, ap length known, total_has took views port v at);
      },
    )

pub takes_learn : (port : ℕ) (v : Hand) → Learns IsDealt port v (IsRest v)
takes_learn port v items views d at all k =
    let known : v.all ≡ d.all = d.know port v at (omega (arith, all)) in
    let whole : sum_by parts views ≡ v.parts = d.whole ∙ sym all in
    let mine = only_total (took_of k) views port v at whole (λ j u e none. ap (times k) (d.idle j u e none)) in
    ap (λ fs. once k (length fs)) known ∙ (d.each_once k ∙ ap (λ n. n + times k (numbers_of items)) mine)

pub halves : (port : ℕ) (v : Hand) → 1 < v.parts → Forks IsDealt port v (hand (v.parts - v.parts / 2) v.all v.taken) (hand (v.parts / 2) v.all [])
halves port v more items views d at =
    let l = hand (v.parts - v.parts / 2) v.all v.taken in
    let r = hand (v.parts / 2) v.all [] in
    let vs : List Hand = set views port l in
    let known : v.all ≡ d.all = d.know port v at (omega (arith, more)) in
    let half : (v.parts - v.parts / 2) + v.parts / 2 ≡ v.parts = omega arith in
    let some_left : 0 < v.parts - v.parts / 2 = omega arith in
    record {
      all = d.all;
      whole = omega (arith, d.whole, half, total_set parts views port v l at, sum_by_push parts vs r);
      know = each_more (KnowsAll d.all) vs r (λ _ _. known) (each_kept (KnowsAll d.all) views port l (λ _. known) d.know);
      idle = each_more IsIdle vs r (λ _ _. refl) (each_kept IsIdle views port l (λ none. absurd (omega (arith, none, some_left))) d.idle);
      frames = d.frames;
      each_once = λ k. omega (arith, d.each_once k, total_set (took_of k) views port v l at, sum_by_push (took_of k) vs r);
      counted = omega (arith, d.counted, total_set took views port v l at, sum_by_push took vs r);
    }

pub gathers : (port : ℕ) (v : Hand) (other : ℕ) (w : Hand) → 0 < v.parts → Merges IsDealt port v other w (hand (v.parts + w.parts) v.all (v.taken ++ w.taken)) (hand 0 [] [])
gathers port v other w has items views d at two there =
    let both = hand (v.parts + w.parts) v.all (v.taken ++ w.taken) in
    let none = hand 0 [] [] in
    let vs : List Hand = set views port both in
    let known : v.all ≡ d.all = d.know port v at has in
    record {
      all = d.all;
      whole = omega (arith, d.whole, total_set parts views port v both at, total_set parts vs other w none there);
      know = each_kept (KnowsAll d.all) vs other none (λ z. absurd (omega (arith, z))) (each_kept (KnowsAll d.all) views port both (λ _. known) d.know);
      idle = each_kept IsIdle vs other none (λ _. refl) (each_kept IsIdle views port both (λ z. absurd (omega (arith, z, has))) d.idle);
      frames = d.frames;
      each_once = λ k. omega (arith, d.each_once k, times_append k v.taken w.taken, total_set (took_of k) views port v both at, total_set (took_of k) vs other w none there);
      counted = omega (arith, d.counted, length_both v.taken w.taken, total_set took views port v both at, total_set took vs other w none there);
    }
  where
    length_both : (xs ys : List ℕ) → length (xs ++ ys) ≡ length xs + length ys
    length_both [] ys = omega arith
    length_both (x ∷ xs) ys = omega (arith, length_both xs ys)

pub gathers_learn : (port : ℕ) (v : Hand) → Learns IsDealt port v (λ items. v.parts ≤ MOST_PARTS)
gathers_learn port v items views d at = omega (arith, d.whole, total_has parts views port v at)

-- ---- the frames that are left to put in
pub next_of : (P : FrameIn → Type 0) (xs ys all : List FrameIn) (y : FrameIn) → xs ++ y ∷ ys ≡ all → All P all → P y
next_of P xs ys all y e h = within xs (subst (All P) (sym e) h)
  where
    within : (xs : List FrameIn) → All P (xs ++ y ∷ ys) → P y
    within [] h = All-head P y ys h
    within (x ∷ xs) h = within xs (All-tail P x (xs ++ y ∷ ys) h)
