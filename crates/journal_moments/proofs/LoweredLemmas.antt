-- Moments that are lowered one after the other.
use Rattle.std.proofs.Common.{◌≡◌, ℕ, suc, ◌+◌, ◌<◌, ◌≤◌, List, [], ◌∷◌, ◌++◌, length, get_or, set, take, drop, reverse, drop-set-lt, refl, sym, ◌∙◌, ap, subst, arith}
use Rattle.std.proofs.lemmas.Grind.{drop_more_same}
use Rattle.std.proofs.lemmas.List.{reverse-append, take_all, take_more, drop_more, take_more_set}
use Rattle.journal_moments.specs.Lowered.{IsLowered, AllLowered}
use Rattle.journal_moments.specs.MomentView.{MomentView}

-- ---- the moments the other way round
AllLowered-append : (n : ℕ) (ms ls ms_more ls_more : List MomentView) → AllLowered n ms ls → AllLowered n ms_more ls_more → AllLowered n (ms ++ ms_more) (ls ++ ls_more)
AllLowered-append n [] [] ms_more ls_more h k = k
AllLowered-append n [] (l ∷ ls) ms_more ls_more h k = absurd h
AllLowered-append n (m ∷ ms) [] ms_more ls_more h k = absurd h
AllLowered-append n (m ∷ ms) (l ∷ ls) ms_more ls_more h k = (h.0, AllLowered-append n ms ls ms_more ls_more h.1 k)

pub AllLowered-reverse : (n : ℕ) (ms ls : List MomentView) → AllLowered n ms ls → AllLowered n (reverse ms) (reverse ls)
AllLowered-reverse n [] [] h = tt
AllLowered-reverse n [] (l ∷ ls) h = absurd h
AllLowered-reverse n (m ∷ ms) [] h = absurd h
AllLowered-reverse n (m ∷ ms) (l ∷ ls) h =
    subst (λ xs. AllLowered n xs (reverse (l ∷ ls))) (sym (reverse-append (m ∷ []) ms))
    (subst (AllLowered n (reverse ms ++ m ∷ [])) (sym (reverse-append (l ∷ []) ls))
    (AllLowered-append n (reverse ms) (reverse ls) (m ∷ []) (l ∷ []) (AllLowered-reverse n ms ls h.1) (h.0, tt)))

pub AllLowered-length : (n : ℕ) (ms ls : List MomentView) → AllLowered n ms ls → length ls ≡ length ms
AllLowered-length n [] [] h = refl
AllLowered-length n [] (l ∷ ls) h = absurd h
AllLowered-length n (m ∷ ms) [] h = absurd h
AllLowered-length n (m ∷ ms) (l ∷ ls) h = ap (λ k. suc k) (AllLowered-length n ms ls h.1)

-- ---- a loop over the moments
-- the moment at i is lowered next
pub lowered_more : (n i : ℕ) (olds news : List MomentView) (m l : MomentView) → i < length news → length news ≡ length olds → drop i news ≡ drop i olds → AllLowered n (take i olds) (take i news) → IsLowered n (get_or news i m) l
    → AllLowered n (take (i + 1) olds) (take (i + 1) (set news i l))
lowered_more n i olds news m l within same rest h k =
    let last : drop i news ≡ get_or news i m ∷ drop (i + 1) news = drop_more news i m within in
    let last_old : drop i olds ≡ get_or olds i m ∷ drop (i + 1) olds = drop_more olds i m (omega arith) in
    let is : get_or news i m ≡ get_or olds i m = cc in
    subst (λ xs. AllLowered n xs (take (i + 1) (set news i l))) (sym (take_more olds i m (omega arith)))
    (subst (AllLowered n (take i olds ++ get_or olds i m ∷ [])) (sym (take_more_set news i l within))
    (AllLowered-append n (take i olds) (take i news) (get_or olds i m ∷ []) (l ∷ []) h (subst (λ x. IsLowered n x l) is k, tt)))

pub lowered_rest : (i : ℕ) (olds news : List MomentView) (l : MomentView) → drop i news ≡ drop i olds → drop (i + 1) (set news i l) ≡ drop (i + 1) olds
lowered_rest i olds news l rest = drop-set-lt (i + 1) news i l (omega arith) ∙ drop_more_same news olds i rest

pub lowered_all : (n i : ℕ) (olds news : List MomentView) → length news ≤ i → length news ≡ length olds → AllLowered n (take i olds) (take i news) → AllLowered n olds news
lowered_all n i olds news past same h = subst (λ xs. AllLowered n xs news) (take_all i olds (omega arith)) (subst (AllLowered n (take i olds)) (take_all i news past) h)
