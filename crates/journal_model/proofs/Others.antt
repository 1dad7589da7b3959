-- The changes in force but one.
use Rattle.std.proofs.Common.{◌≡◌, inl, inr, ℕ, ◌<◌, ◌≤◌, ◌==◌, Bool, true, false, not, cond, List, [], ◌∷◌, ◌++◌, Some, Result, Ok, refl, ◌∙◌, ap, subst, arith, eq-eqb}
use Rattle.std.specs.FinMap as map
use Rattle.std.proofs.lemmas.Bool.Decides.{nat_tests}
use Rattle.bt_objects.specs.declared.make.Make.{Make}
use Rattle.host_state.specs.State.{State}
use Rattle.host_state.specs.World.{makes_in}
use Rattle.host_state.specs.Act.{act}
use Rattle.journal_model.specs.Replay.{Entry, replay, as_before}
use Rattle.journal_model.specs.Well.{Each, EachPair, IsInOrder}
use Rattle.journal_model.specs.Force.{without}
use Rattle.journal_model.proofs.Lists.{Each-map, Each-rest, Each-filter, EachPair-rest, EachPair-filter}
use Rattle.journal_model.proofs.Acts.{IsDone, acted}
use Rattle.journal_model.proofs.Growing.{makes_stay, progs_stay, box_after, prog_after}
use Rattle.journal_model.proofs.Replaying.{answers, went_on}

-- ---- the others
-- none of these has the serial
abbrev pub Absent : ℕ → List Entry → Type 0
Absent serial es = Each (λ (e : Entry). (e.serial == serial) ≡ false) es

without-absent : (s : ℕ) (es : List Entry) → Absent s es → without s es ≡ es
without-absent s [] h = refl
without-absent s (e ∷ es) h = ap (λ b. cond (not b) (e ∷ without s es) (without s es)) h.0 ∙ ap (λ xs. e ∷ xs) (without-absent s es h.1)

pub without-middle : (s : ℕ) (xs : List Entry) (e : Entry) (ys : List Entry) → (e.serial == s) ≡ true → Absent s xs → Absent s ys → without s (xs ++ e ∷ ys) ≡ xs ++ ys
without-middle s [] e ys q h k = ap (λ b. cond (not b) (e ∷ without s ys) (without s ys)) q ∙ without-absent s ys k
without-middle s (x ∷ xs) e ys q h k = ap (λ b. cond (not b) (x ∷ without s (xs ++ e ∷ ys)) (without s (xs ++ e ∷ ys))) h.0 ∙ ap (λ zs. x ∷ zs) (without-middle s xs e ys q h.1 k)

pub absent_before : (s : ℕ) (xs : List Entry) (e : Entry) (ys : List Entry) → (e.serial == s) ≡ true → EachPair (λ (x y : Entry). x.serial < y.serial) (xs ++ e ∷ ys) → Absent s xs
absent_before s [] e ys q h = tt
absent_before s (x ∷ xs) e ys q h = (apart x.serial e.serial (Each-rest (λ (y : Entry). x.serial < y.serial) xs (e ∷ ys) h.0).0 q, absent_before s xs e ys q h.1)
  where
    apart : (a b : ℕ) → a < b → (b == s) ≡ true → (a == s) ≡ false
    apart a b l q = grind (arith, nat_tests, l, q)

absent_after : (s : ℕ) (xs : List Entry) (e : Entry) (ys : List Entry) → (e.serial == s) ≡ true → EachPair (λ (x y : Entry). x.serial < y.serial) (xs ++ e ∷ ys) → Absent s ys
absent_after s xs e ys q h =
    Each-map (λ (y : Entry). e.serial < y.serial) (λ (y : Entry). (y.serial == s) ≡ false) ys (λ y l. apart e.serial y.serial l q) (EachPair-rest (λ (x y : Entry). x.serial < y.serial) xs (e ∷ ys) h).0
  where
    apart : (a b : ℕ) → a < b → (a == s) ≡ true → (b == s) ≡ false
    apart a b l q = grind (arith, nat_tests, l, q)

-- of a list in order they are those before it and those after it
pub others_are : (last s : ℕ) (xs : List Entry) (e : Entry) (ys : List Entry) → e.serial ≡ s → IsInOrder last (xs ++ e ∷ ys) → without s (xs ++ e ∷ ys) ≡ xs ++ ys
others_are last s xs e ys its o =
    let is : (e.serial == s) ≡ true = eq-eqb e.serial s its in
    without-middle s xs e ys is (absent_before s xs e ys is o.0) (absent_after s xs e ys is o.0)

pub others_in_order : (last s : ℕ) (es : List Entry) → IsInOrder last es → IsInOrder last (without s es)
others_in_order last s es o = (
  EachPair-filter (λ (x y : Entry). x.serial < y.serial) (λ (e : Entry). not (e.serial == s)) es o.0,
  Each-filter (λ (e : Entry). e.serial ≤ last) (λ (e : Entry). not (e.serial == s)) es o.1,
)

-- ---- what they make
-- each object of a state is in another too
pub record IsWithin (part whole : State) : Type 0 where
  pub makes : (id : ℕ) (make : Make) → map.get (makes_in part) id ≡ Some make → map.get (makes_in whole) id ≡ Some make
  pub progs : (id : ℕ) → map.contains_key part.progs id ≡ true → map.contains_key whole.progs id ≡ true

within_both : (part whole s t : State) (e : Entry) → act part e.change ≡ Ok (s, e.reply) → act whole e.change ≡ Ok (t, e.reply) → IsWithin part whole → IsWithin s t
within_both part whole s t e acts also w =
    let d : IsDone part e.change (s, e.reply) = acted part e.change (s, e.reply) acts in
    record {
      makes = λ id make f. (elim (d.boxes id make f) [
        | inl was ↦ makes_stay whole t e.change e.reply also id make (w.makes id make was)
        | inr new ↦ box_after whole t e.change e.reply also id make new
      ]);
      progs = λ id f. (elim (d.progs id f) [
        | inl was ↦ progs_stay whole t e.change e.reply also id (w.progs id was)
        | inr new ↦ prog_after whole t e.change e.reply also id new
      ]);
    }

within_more : (part whole t : State) (e : Entry) → act whole e.change ≡ Ok (t, e.reply) → IsWithin part whole → IsWithin part t
within_more part whole t e acts w = record {
  makes = λ id make f. makes_stay whole t e.change e.reply acts id make (w.makes id make f);
  progs = λ id f. progs_stay whole t e.change e.reply acts id (w.progs id f);
}

-- the others make no object that the whole list does not make
pub within_replay : (serial : ℕ) (es : List Entry) (part whole s t : State) → IsWithin part whole → ◌≡◌ (replay part (without serial es)) (Ok s) → replay whole es ≡ Ok t → IsWithin s t
within_replay serial [] part whole s t w p q = subst (λ (x : State × State). IsWithin x.0 x.1) (λ i. (same part s p i, same whole t q i)) w
  where
    same : (a b : State) → ◌≡◌ {A = Result State ℕ} (Ok a) (Ok b) → a ≡ b
    same a b e = cc
within_replay serial (e ∷ es) part whole s t w p q =
    let now = went_on (as_before e (act whole e.change)) (λ u. replay u es) t q in
    here now.0 (answers whole now.0 e now.1) (e.serial == serial) p (λ x h g. within_replay serial es x now.0 s t h g now.2)
  where
    here : (u : State) → act whole e.change ≡ Ok (u, e.reply) → (b : Bool) → replay part (cond (not b) (e ∷ without serial es) (without serial es)) ≡ Ok s
        → ((x : State) → IsWithin x u → replay x (without serial es) ≡ Ok s → IsWithin s t) → IsWithin s t
    here u also true f more = more part (within_more part whole u e also w) f
    here u also false f more =
        let next = went_on (as_before e (act part e.change)) (λ v. replay v (without serial es)) s f in
        more next.0 (within_both part whole next.0 u e (answers part next.0 e next.1) also w) next.2
