-- Doing a list of changes again: each answers as it did, or one is the first that does not.
use Rattle.std.proofs.Common.{◌≡◌, ℕ, Bool, true, false, cond, List, [], ◌∷◌, ◌++◌, refl, sym, ◌∙◌, ap, eq-eqb}
use Rattle.std.specs.Prelude.{Result, Ok, Err}
use Rattle.std.proofs.lemmas.Bool.{eqb-true}
use Rattle.std.specs.Cmp.Lexicographic.{bytes_decides}
use Rattle.host_state.specs.declared.reply.Reply.{Reply}
use Rattle.host_state.specs.declared.reply.Reply.TheVariants.{Done, Id, Loaded, Value, Old}
use Rattle.host_state.specs.State.{State}
use Rattle.host_state.specs.Act.{Outcome, act}
use Rattle.journal_model.specs.Replay.{Entry, is_same_reply, as_before, go_on, replay}

-- a reply is the same as itself
pub is_same_reply-itself : (reply : Reply) → is_same_reply reply reply ≡ true
is_same_reply-itself Done = refl
is_same_reply-itself (Id id) = eq-eqb id id refl
is_same_reply-itself (Loaded id) = eq-eqb id id refl
is_same_reply-itself (Value bytes) = (bytes_decides bytes bytes).1 refl
is_same_reply-itself (Old number) = eq-eqb number number refl

-- replies that are the same
same_reply : (a b : Reply) → is_same_reply a b ≡ true → a ≡ b
same_reply Done Done e = refl
same_reply Done (Id b) e = cc
same_reply Done (Loaded b) e = cc
same_reply Done (Value b) e = cc
same_reply Done (Old b) e = cc
same_reply (Id a) Done e = cc
same_reply (Id a) (Id b) e = ap Id (eqb-true a b e)
same_reply (Id a) (Loaded b) e = cc
same_reply (Id a) (Value b) e = cc
same_reply (Id a) (Old b) e = cc
same_reply (Loaded a) Done e = cc
same_reply (Loaded a) (Id b) e = cc
same_reply (Loaded a) (Loaded b) e = ap Loaded (eqb-true a b e)
same_reply (Loaded a) (Value b) e = cc
same_reply (Loaded a) (Old b) e = cc
same_reply (Value a) Done e = cc
same_reply (Value a) (Id b) e = cc
same_reply (Value a) (Loaded b) e = cc
same_reply (Value a) (Value b) e = ap Value ((bytes_decides a b).0 e)
same_reply (Value a) (Old b) e = cc
same_reply (Old a) Done e = cc
same_reply (Old a) (Id b) e = cc
same_reply (Old a) (Loaded b) e = cc
same_reply (Old a) (Value b) e = cc
same_reply (Old a) (Old b) e = ap Old (eqb-true a b e)

-- ---- one change
pub same_state : (a b : State) → ◌≡◌ {A = Result State ℕ} (Ok a) (Ok b) → a ≡ b
same_state a b e = cc

-- a change that answers as it did
pub answers : (s t : State) (e : Entry) → as_before e (act s e.change) ≡ Ok t → act s e.change ≡ Ok (t, e.reply)
answers s t e h = here (act s e.change) h
  where
    tests : (d : State × Reply) (b : Bool) → is_same_reply d.1 e.reply ≡ b → ◌≡◌ {A = Result State ℕ} (cond b (Ok d.0) (Err e.serial)) (Ok t) → ◌≡◌ {A = Outcome} (Ok d) (Ok (t, e.reply))
    tests d true b g = λ i. Ok (same_state d.0 t g i, same_reply d.1 e.reply b i)
    tests d false b g = cc

    here : (o : Outcome) → as_before e o ≡ Ok t → o ≡ Ok (t, e.reply)
    here (Ok d) g = tests d (is_same_reply d.1 e.reply) refl g
    here (Err errno) g = cc

pub answered_so : (s t : State) (e : Entry) → act s e.change ≡ Ok (t, e.reply) → as_before e (act s e.change) ≡ Ok t
answered_so s t e acts = ap (as_before e) acts ∙ ap (λ b. cond b (Ok t) (Err e.serial)) (is_same_reply-itself e.reply)

-- it is told which change does not
told_serial : (e : Entry) (o : Outcome) (first : ℕ) → as_before e o ≡ Err first → e.serial ≡ first
told_serial e (Ok d) first h = tests (is_same_reply d.1 e.reply) h
  where
    tests : (b : Bool) → ◌≡◌ {A = Result State ℕ} (cond b (Ok d.0) (Err e.serial)) (Err first) → e.serial ≡ first
    tests true g = cc
    tests false g = cc
told_serial e (Err errno) first h = cc

-- ---- a list
pub went_on : (r : Result State ℕ) (next : State → Result State ℕ) (t : State) → go_on r next ≡ Ok t → (u : State) × (r ≡ Ok u) × (next u ≡ Ok t)
went_on (Ok u) next t h = (u, refl, h)
went_on (Err first) next t h = cc

go_on_twice : (x : Result State ℕ) (f g next : State → Result State ℕ) → ((t : State) → g t ≡ go_on (f t) next) → go_on x g ≡ go_on (go_on x f) next
go_on_twice (Ok t) f g next h = h t
go_on_twice (Err serial) f g next h = refl

pub replay-append : (s : State) (xs ys : List Entry) → replay s (xs ++ ys) ≡ go_on (replay s xs) (λ t. replay t ys)
replay-append s [] ys = refl
replay-append s (x ∷ xs) ys = go_on_twice (as_before x (act s x.change)) (λ t. replay t xs) (λ t. replay t (xs ++ ys)) (λ t. replay t ys) (λ t. replay-append t xs ys)

-- a change that was done answers as it did
pub replay_push : (base s t : State) (es : List Entry) (e : Entry) → replay base es ≡ Ok s → act s e.change ≡ Ok (t, e.reply) → replay base (es ++ e ∷ []) ≡ Ok t
replay_push base s t es e replayed acts =
    replay-append base es (e ∷ [])
    ∙ ap (λ r. go_on r (λ u. replay u (e ∷ []))) replayed
    ∙ ap (λ o. go_on (as_before e o) (λ u. replay u [])) acts
    ∙ ap (λ b. go_on (cond b (Ok t) (Err e.serial)) (λ u. replay u [])) (is_same_reply-itself e.reply)

-- if the whole is done, so is its front
pub replay_front : (s t : State) (xs ys : List Entry) → replay s (xs ++ ys) ≡ Ok t → (u : State) × (replay s xs ≡ Ok u) × (replay u ys ≡ Ok t)
replay_front s t xs ys h = went_on (replay s xs) (λ u. replay u ys) t (sym (replay-append s xs ys) ∙ h)

pub replay_after : (s u : State) (xs ys : List Entry) → replay s xs ≡ Ok u → replay s (xs ++ ys) ≡ replay u ys
replay_after s u xs ys h = replay-append s xs ys ∙ ap (λ r. go_on r (λ v. replay v ys)) h

-- ---- the first that does not
pub record Fails (s : State) (es : List Entry) (first : ℕ) : Type 0 where
  pub between : List Entry
  pub dependant : Entry
  pub after : List Entry
  pub whole : es ≡ between ++ dependant ∷ after
  pub told : dependant.serial ≡ first
  pub until : State
  pub so_far : replay s between ≡ Ok until
  pub otherwise : (t : State) → act until dependant.change ≡ Ok (t, dependant.reply) → ⊥

pub fails : (s : State) (es : List Entry) (first : ℕ) → replay s es ≡ Err first → Fails s es first
fails s [] first h = cc
fails s (e ∷ es) first h = here (as_before e (act s e.change)) refl h (λ t g. fails t es first g)
  where
    here : (r : Result State ℕ) → as_before e (act s e.change) ≡ r → go_on r (λ u. replay u es) ≡ Err first → ((t : State) → replay t es ≡ Err first → Fails t es first) → Fails s (e ∷ es) first
    here (Ok t) f g more =
        let rest : Fails t es first = more t g in
        record {
          between = e ∷ rest.between;
          dependant = rest.dependant;
          after = rest.after;
          whole = ap (λ xs. e ∷ xs) rest.whole;
          told = rest.told;
          until = rest.until;
          so_far = ap (λ r. go_on r (λ u. replay u rest.between)) f ∙ rest.so_far;
          otherwise = rest.otherwise;
        }
    here (Err n) f g more = record {
      between = [];
      dependant = e;
      after = es;
      whole = refl;
      told = told_serial e (act s e.change) first (f ∙ g);
      until = s;
      so_far = refl;
      otherwise = λ t acts. never t (sym (answered_so s t e acts) ∙ f);
    }
      where
        never : (t : State) → ◌≡◌ {A = Result State ℕ} (Ok t) (Err n) → ⊥
        never t e = cc
