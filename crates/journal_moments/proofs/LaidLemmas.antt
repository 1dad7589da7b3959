-- Records that are turned back one after the other, as one moment.
use Rattle.std.proofs.Common.{◌≡◌, ℕ, ◌+◌, ◌-◌, ◌≤◌, List, [], ◌∷◌, ◌++◌, length, take, drop, reverse, refl, sym, ◌∙◌, ap, subst, arith}
use Rattle.std.proofs.lemmas.List.{reverse-append, reverse-reverse, append_assoc, take_all, take-take, take-append-drop, length-append, length-reverse, length-drop, length-take-le}
use Rattle.host_state.specs.State.{State}
use Rattle.host_state.specs.World.{Ready}
use Rattle.journal_record.specs.After.{after, state_after}
use Rattle.journal_record.specs.Recorded.{Recorded}
use Rattle.journal_moments.specs.Line.{entries, stand, laid, stood, AllLying, Leads, swapped, CanSwap}
use Rattle.journal_moments.specs.MomentView.{MomentView}
use Rattle.journal_record.proofs.LineLemmas.{entries-laid, stood-laid, AllLying-laid, foot_past, length-laid}
use Rattle.journal_moments.proofs.SwapLemmas.{swapped-alone, stands_none}

stood-append : (s : State) (xs ys : List Recorded) → stood s (xs ++ ys) ≡ stood s xs ++ stood (state_after s (entries xs)) ys
stood-append s [] ys = refl
stood-append s (x ∷ xs) ys = ap (λ zs. stand s x ∷ zs) (stood-append (after s x.entry) xs ys)

AllLying-append : (ready : Ready) (s : State) (xs ys : List Recorded) → AllLying ready s xs → AllLying ready (state_after s (entries xs)) ys → AllLying ready s (xs ++ ys)
AllLying-append ready s [] ys h k = k
AllLying-append ready s (x ∷ xs) ys h k = (h.0, AllLying-append ready (after s x.entry) xs ys h.1 k)

pub reverse-laid : (s : State) (xs olds news : List Recorded) → news ≡ olds ++ reverse (laid s xs) → reverse news ≡ laid s xs ++ reverse olds
reverse-laid s xs olds news o = ap reverse o ∙ reverse-append olds (reverse (laid s xs)) ∙ ap (λ zs. zs ++ reverse olds) (reverse-reverse (laid s xs))

-- records are turned back past `at`, onto those of a moment that had none in place
pub swapped-laid : (ready : Ready) (base w : State) (rs : List Recorded) (m n : MomentView) → Leads ready base w rs → m.at ≡ length rs → n.at ≤ length rs → m.stays ≡ 0 → n.stays ≡ 0
    → n.other ≡ m.other ++ reverse (laid (state_after base (entries (take n.at rs))) (drop n.at rs)) → swapped base (take n.at rs) n ≡ swapped base rs m
swapped-laid ready base w rs m n h e l none none_after o =
    let s : State = state_after base (entries (take n.at rs)) in
    let x : List Recorded = drop n.at rs in
    let ys : List Recorded = reverse m.other in
    let f : Leads ready s w x = foot_past ready base w rs n.at h in
    swapped-alone base (take n.at rs) n none_after
    ∙ ap (λ zs. zs ++ stood (state_after base (entries zs)) (reverse n.other)) (take-take n.at n.at rs (omega arith))
    ∙ ap (λ zs. take n.at rs ++ stood s zs) (reverse-laid s x m.other n.other o)
    ∙ ap (λ zs. take n.at rs ++ zs) (stood-append s (laid s x) ys)
    ∙ ap (λ zs. take n.at rs ++ (zs ++ stood (state_after s (entries (laid s x))) ys)) (stood-laid ready s x f.standing)
    ∙ ap (λ es. take n.at rs ++ (x ++ stood (state_after s es) ys)) (entries-laid s x)
    ∙ ap (λ v. take n.at rs ++ (x ++ stood v ys)) (sym f.top ∙ h.top)
    ∙ sym (append_assoc (take n.at rs) x (stood (state_after base (entries rs)) ys))
    ∙ ap (λ zs. zs ++ stood (state_after base (entries rs)) ys) (take-append-drop n.at rs)
    ∙ ap (λ zs. zs ++ stood (state_after base (entries zs)) ys) (sym (take_all m.at rs (omega (arith, e))))
    ∙ sym (swapped-alone base rs m none)

pub CanSwap-laid : (ready : Ready) (base w : State) (rs : List Recorded) (room more : ℕ) (m n : MomentView) → Leads ready base w rs → CanSwap ready base rs room m → m.at ≡ length rs → n.at ≤ length rs → m.stays ≡ 0 → n.stays ≡ 0 → room ≤ more
    → n.other ≡ m.other ++ reverse (laid (state_after base (entries (take n.at rs))) (drop n.at rs)) → CanSwap ready base (take n.at rs) more n
CanSwap-laid ready base w rs room more m n h k e l none none_after c o =
    let s : State = state_after base (entries (take n.at rs)) in
    let x : List Recorded = drop n.at rs in
    let f : Leads ready s w x = foot_past ready base w rs n.at h in
    let taken : take n.at (take n.at rs) ≡ take n.at rs = take-take n.at n.at rs (omega arith) in
    let all : take m.at rs ≡ rs = take_all m.at rs (omega (arith, e)) in
    let olds : AllLying ready (state_after base (entries rs)) (reverse m.other) = subst (λ zs. AllLying ready (state_after base (entries zs)) (reverse m.other)) all k.lying in
    let olds_at : AllLying ready (state_after s (entries (laid s x))) (reverse m.other) =
    subst (λ v. AllLying ready v (reverse m.other)) (sym h.top ∙ f.top ∙ ap (state_after s) (sym (entries-laid s x))) olds in
    let len : length n.other ≡ length m.other + (length rs - n.at) =
    ap length o ∙ length-append m.other (reverse (laid s x)) ∙ ap (λ i. length m.other + i) (length-reverse (laid s x) ∙ length-laid s x ∙ length-drop n.at rs) in
    record {
      within = omega (arith, length-take-le n.at rs l, none_after);
      lying = subst (λ zs. AllLying ready (state_after base (entries zs)) (reverse n.other)) (sym taken)
          (subst (AllLying ready s) (sym (reverse-laid s x m.other n.other o)) (AllLying-append ready s (laid s x) (reverse m.other) (AllLying-laid ready s x f.standing) olds_at));
      standing = stands_none ready (state_after (state_after base (entries (take n.at (take n.at rs)))) (entries (reverse n.other))) n.stays (take n.at rs) none_after;
      one = λ some. absurd (omega (arith, some, none_after));
      room_back = omega (arith, length-take-le n.at rs l, none_after);
      room_forth = omega (arith, len, k.room_forth, e, l, c, none, none_after);
    }
