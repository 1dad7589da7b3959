-- What changes do to a state without the objects that have retired in a base.
use Rattle.std.proofs.Common.{◌≡◌, ℕ, ◌==◌, ◌||◌, ◌&&◌, Bool, true, false, cond, not, List, [], ◌∷◌, ◌++◌, Option, Some, None, is_some, Ok, refl, sym, ◌∙◌, ap, subst}
use Rattle.std.specs.Prelude.{filter, option_map}
use Rattle.std.proofs.lemmas.Bool.{eqb-true}
use Rattle.std.proofs.lemmas.List.Folds.{list_any-append}
use Rattle.std.specs.Cmp.{nat_cmp_total}
use Rattle.std.specs.FinMap as map
use Rattle.std.specs.FinMap.{nat_cmp-IsAntisymmetric}
use Rattle.bt_objects.specs.Ids.{is_among}
use Rattle.bt_objects.specs.declared.make.Make.{Make}
use Rattle.host_state.specs.declared.change.Change.{Change}
use Rattle.host_state.specs.declared.reply.Reply.{Reply}
use Rattle.bt_objects.specs.ById.{ById}
use Rattle.host_state.specs.State.{HostMap, HostProg, State}
use Rattle.host_state.specs.Settled.{IsSettled}
use Rattle.host_state.specs.Act.{act, if_live}
use Rattle.host_state.specs.Ask.{if_live_prog}
use Rattle.host_state.specs.World.{ListsLive, kept_state}
use Rattle.host_state.proofs.ActsKept.{acts_kept}
use Rattle.host_state.proofs.KeptLemmas.{settled_kept}
use Rattle.journal_model.specs.Replay.{Entry, replay, as_before, go_on}
use Rattle.journal_model.specs.Well.{IdsUpTo, Tells}
use Rattle.journal_model.specs.Rebase.{is_retired_map, is_retired_prog, without_retired}
use Rattle.journal_invariant.specs.Live.{HasSameLive}
use Rattle.journal_model.proofs.Made.{make_of, get-makes_in}
use Rattle.journal_model.proofs.Growing.{ids_of, among-ids}
use Rattle.journal_model.proofs.Replaying.{answers, answered_so, went_on}
use Rattle.journal_invariant.proofs.Moving.{acts_settled, map_stays_retired, prog_stays_retired}

-- ---- ids that pass a test
pub get-passed : {X : Type 0} (m : ById X) (p : ℕ → Bool) (q : ℕ) → map.get (map.retain_keys m p) q ≡ cond (p q) (map.get m q) None
get-passed m p q = map.get-retain_keys m p q (λ x same. ap p (sym (nat_cmp-IsAntisymmetric q x same)))

among-append : (xs ys : List ℕ) (q : ℕ) → is_among (xs ++ ys) q ≡ is_among xs q || is_among ys q
among-append xs ys q = list_any-append (λ other. other == q) xs ys

among-passed : (p : ℕ → Bool) (xs : List ℕ) (q : ℕ) → is_among (filter p xs) q ≡ is_among xs q && p q
among-passed p [] q = refl
among-passed p (x ∷ xs) q = by (p x) (x == q) refl refl (among-passed p xs q)
  where
    by : (passes same : Bool) → p x ≡ passes → (x == q) ≡ same → is_among (filter p xs) q ≡ is_among xs q && p q → is_among (cond passes (x ∷ filter p xs) (filter p xs)) q ≡ (same || is_among xs q) && p q
    by true true passes same rest = ap (λ b. b || is_among (filter p xs) q) same ∙ sym (ap p (sym (eqb-true x q same)) ∙ passes)
    by true false passes same rest = ap (λ b. b || is_among (filter p xs) q) same ∙ rest
    by false true passes same rest = rest ∙ none (is_among xs q) (p q) (ap p (sym (eqb-true x q same)) ∙ passes)
      where
        none : (a b : Bool) → b ≡ false → a && b ≡ b
        none true b e = refl
        none false b e = sym e
    by false false passes same rest = rest

-- the ids of two maps that pass a test
abbrev passed : {X : Type 0} → (ℕ → Bool) → ById X → ById X → List ℕ
passed p m n = filter p (ids_of m ++ ids_of n)

among-first : {X : Type 0} (p : ℕ → Bool) (m n : ById X) (q : ℕ) (x : X) → map.get m q ≡ Some x → is_among (passed p m n) q ≡ p q
among-first p m n q x there =
    among-passed p (ids_of m ++ ids_of n) q ∙ ap (λ b. b && p q) (among-append (ids_of m) (ids_of n) q ∙ ap (λ b. b || is_among (ids_of n) q) (among-ids m q ∙ ap is_some there))

among-second : {X : Type 0} (p : ℕ → Bool) (m n : ById X) (q : ℕ) (x : X) → map.get n q ≡ Some x → is_among (passed p m n) q ≡ p q
among-second p m n q x there =
    among-passed p (ids_of m ++ ids_of n) q ∙ ap (λ b. b && p q) (among-append (ids_of m) (ids_of n) q ∙ ap (λ b. is_among (ids_of m) q || b) (among-ids n q ∙ ap is_some there) ∙ or_true (is_among (ids_of m) q))
  where
    or_true : (b : Bool) → b || true ≡ true
    or_true true = refl
    or_true false = refl

-- two tests that agree on the keys that are there keep the same
pub same_kept : {X : Type 0} (m : ById X) (p r : ℕ → Bool) → ((q : ℕ) (x : X) → map.get m q ≡ Some x → p q ≡ r q) → map.retain_keys m p ≡ map.retain_keys m r
same_kept {X} m p r same = map.same_map nat_cmp_total nat_cmp-IsAntisymmetric _ _ (λ q. get-passed m p q ∙ at q (map.get m q) refl ∙ sym (get-passed m r q))
  where
    neither : (a b : Bool) → let none : Option X = None in cond a none none ≡ cond b none none
    neither true true = refl
    neither true false = refl
    neither false true = refl
    neither false false = refl

    at : (q : ℕ) (o : Option X) → map.get m q ≡ o → cond (p q) o None ≡ cond (r q) o None
    at q None e = neither (p q) (r q)
    at q (Some x) e = ap (λ b. cond b (Some x) None) (same q x e)

-- ---- states on a base
-- what has retired in the base is retired
pub record StaysRetired (base s : State) : Type 0 where
  pub maps : (id : ℕ) → is_retired_map (map.get base.maps id) ≡ true → is_retired_map (map.get s.maps id) ≡ true
  pub progs : (id : ℕ) → is_retired_prog (map.get base.progs id) ≡ true → is_retired_prog (map.get s.progs id) ≡ true

pub retired_itself : (s : State) → StaysRetired s s
retired_itself s = record { maps = λ id r. r; progs = λ id r. r }

acts_retired : (base s t : State) (change : Change) (reply : Reply) → IsSettled s → act s change ≡ Ok (t, reply) → StaysRetired base s → StaysRetired base t
acts_retired base s t change reply h e g = record {
  maps = λ id r. map_stays_retired s h t change reply e id (g.maps id r);
  progs = λ id r. prog_stays_retired s h t change reply e id (g.progs id r);
}

module _ (base : State) where
  abbrev map_left : ℕ → Bool
  map_left id = not (is_retired_map (map.get base.maps id))

  abbrev prog_left : ℕ → Bool
  prog_left id = not (is_retired_prog (map.get base.progs id))

  -- what is live has not retired in the base
  live_left : (s : State) → StaysRetired base s → (id : ℕ) (m : HostMap) → map.get s.maps id ≡ Some m → m.live ≡ true → map_left id ≡ true
  live_left s g id m there live = by (is_retired_map (map.get base.maps id)) refl
    where
      by : (b : Bool) → is_retired_map (map.get base.maps id) ≡ b → not b ≡ true
      by true e = let gone : is_retired_map (map.get s.maps id) ≡ true = g.maps id e in let not_gone : is_retired_map (map.get s.maps id) ≡ false = ap is_retired_map there ∙ ap not live in cc
      by false e = refl

  live_prog_left : (s : State) → StaysRetired base s → (id : ℕ) (p : HostProg) → map.get s.progs id ≡ Some p → p.live ≡ true → prog_left id ≡ true
  live_prog_left s g id p there live = by (is_retired_prog (map.get base.progs id)) refl
    where
      by : (b : Bool) → is_retired_prog (map.get base.progs id) ≡ b → not b ≡ true
      by true e = let gone : is_retired_prog (map.get s.progs id) ≡ true = g.progs id e in let not_gone : is_retired_prog (map.get s.progs id) ≡ false = ap is_retired_prog there ∙ ap not live in cc
      by false e = refl

  -- the objects of two states that have not retired in the base
  module _ (s t : State) (g : StaysRetired base s) (k : StaysRetired base t) where
    abbrev maps_left : List ℕ
    maps_left = passed map_left s.maps t.maps

    abbrev progs_left : List ℕ
    progs_left = passed prog_left s.progs t.progs

    first_lists : ListsLive maps_left progs_left s
    first_lists = record {
      maps_listed = λ id m there live. among-first map_left s.maps t.maps id m there ∙ live_left s g id m there live;
      progs_listed = λ id p there live. among-first prog_left s.progs t.progs id p there ∙ live_prog_left s g id p there live;
    }

    second_lists : ListsLive maps_left progs_left t
    second_lists = record {
      maps_listed = λ id m there live. among-second map_left s.maps t.maps id m there ∙ live_left t k id m there live;
      progs_listed = λ id p there live. among-second prog_left s.progs t.progs id p there ∙ live_prog_left t k id p there live;
    }

    first_kept : kept_state maps_left progs_left s ≡ without_retired base s
    first_kept = λ i. record s {
      maps = same_kept s.maps (is_among maps_left) map_left (λ q m there. among-first map_left s.maps t.maps q m there) i;
      progs = same_kept s.progs (is_among progs_left) prog_left (λ q p there. among-first prog_left s.progs t.progs q p there) i;
    }

    second_kept : kept_state maps_left progs_left t ≡ without_retired base t
    second_kept = λ i. record t {
      maps = same_kept t.maps (is_among maps_left) map_left (λ q m there. among-second map_left s.maps t.maps q m there) i;
      progs = same_kept t.progs (is_among progs_left) prog_left (λ q p there. among-second prog_left s.progs t.progs q p there) i;
    }

    -- a change that is done does the same without what has retired
    acts_dropped : (change : Change) (reply : Reply) → IsSettled t → act s change ≡ Ok (t, reply) → act (without_retired base s) change ≡ Ok (without_retired base t, reply)
    acts_dropped change reply h e =
        ap (λ x. act x change) (sym first_kept)
        ∙ acts_kept maps_left progs_left s t first_lists second_lists h change reply e
        ∙ ap (λ x. let done : State × Reply = (x, reply) in Ok done) second_kept

  -- what is left of a settled state is settled
  pub settled_dropped : (s : State) → StaysRetired base s → IsSettled s → IsSettled (without_retired base s)
  settled_dropped s g h =
      let kept : IsSettled (kept_state (maps_left s s g g) (progs_left s s g g) s) = settled_kept (maps_left s s g g) (progs_left s s g g) s h (first_lists s s g g) in
      rw (first_kept s s g g) at kept

  -- ---- a list of changes
  pub record IsReplayed (s : State) (es : List Entry) (t : State) : Type 0 where
    pub settled : IsSettled t
    pub retired : StaysRetired base t
    pub dropped : replay (without_retired base s) es ≡ Ok (without_retired base t)

  pub replay_dropped : (s : State) (es : List Entry) (t : State) → IsSettled s → StaysRetired base s → replay s es ≡ Ok t → IsReplayed s es t
  replay_dropped s [] t h g e =
      let same : s ≡ t = cc in
      let done : IsReplayed s [] s = record { settled = h; retired = g; dropped = refl } in
      subst (IsReplayed s []) same done
  replay_dropped s (x ∷ es) t h g e =
      let w = went_on (as_before x (act s x.change)) (λ u. replay u es) t e in
      let acts : act s x.change ≡ Ok (w.0, x.reply) = answers s w.0 x w.1 in
      let settled : IsSettled w.0 = acts_settled s h w.0 x.change x.reply acts in
      let retired : StaysRetired base w.0 = acts_retired base s w.0 x.change x.reply h acts g in
      let rest : IsReplayed w.0 es t = replay_dropped w.0 es t settled retired w.2 in
      record {
        settled = rest.settled;
        retired = rest.retired;
        dropped = ap (λ r. go_on r (λ u. replay u es)) (answered_so (without_retired base s) (without_retired base w.0) x (acts_dropped s w.0 g retired x.change x.reply settled acts)) ∙ rest.dropped;
      }

  -- ---- what is left of a state
  passed_some : {X : Type 0} (b : Bool) (o : Option X) → is_some (cond b o None) ≡ true → is_some o ≡ true
  passed_some true o e = e
  passed_some false o e = cc

  pub ids_dropped : (last_map last_prog : ℕ) (s : State) → IdsUpTo last_map last_prog s → IdsUpTo last_map last_prog (without_retired base s)
  ids_dropped last_map last_prog s ids = record {
    maps = λ id has. ids.maps id (passed_some (map_left id) (map.get s.maps id) (sym (ap is_some (get-passed s.maps map_left id)) ∙ has));
    progs = λ id has. ids.progs id (passed_some (prog_left id) (map.get s.progs id) (sym (ap is_some (get-passed s.progs prog_left id)) ∙ has));
  }

  pub tells_dropped : (makes : ById Make) (s : State) → Tells makes s → Tells makes (without_retired base s)
  tells_dropped makes s tells id make e =
      tells id make (get-makes_in s id ∙ by (map_left id) (map.get s.maps id) (sym (ap (option_map make_of) (get-passed s.maps map_left id)) ∙ sym (get-makes_in (without_retired base s) id) ∙ e))
    where
      by : (b : Bool) (o : Option HostMap) → option_map make_of (cond b o None) ≡ Some make → option_map make_of o ≡ Some make
      by true o e = e
      by false o e = cc

  -- the same is live
  pub same_dropped : (s : State) → StaysRetired base s → HasSameLive s (without_retired base s)
  same_dropped s g = record {
    maps = λ id. ap if_live (get-passed s.maps map_left id) ∙ of_map id (map.get s.maps id) refl;
    progs = λ id. ap if_live_prog (get-passed s.progs prog_left id) ∙ of_prog id (map.get s.progs id) refl;
    pins = refl;
    devices = refl;
  }
    where
      none_map : (b : Bool) → if_live (cond b None None) ≡ None
      none_map true = refl
      none_map false = refl

      of_map : (id : ℕ) (o : Option HostMap) → map.get s.maps id ≡ o → if_live (cond (map_left id) o None) ≡ if_live o
      of_map id None there = none_map (map_left id)
      of_map id (Some m) there = by m.live refl
        where
          dead : (b : Bool) → m.live ≡ false → if_live (cond b (Some m) None) ≡ None
          dead true e = ap (λ live. cond live (Some m) None) e
          dead false e = refl

          by : (live : Bool) → m.live ≡ live → if_live (cond (map_left id) (Some m) None) ≡ if_live (Some m)
          by true live = ap (λ b. if_live (cond b (Some m) None)) (live_left s g id m there live)
          by false live = dead (map_left id) live ∙ sym (ap (λ b. cond b (Some m) None) live)

      none_prog : (b : Bool) → if_live_prog (cond b None None) ≡ None
      none_prog true = refl
      none_prog false = refl

      of_prog : (id : ℕ) (o : Option HostProg) → map.get s.progs id ≡ o → if_live_prog (cond (prog_left id) o None) ≡ if_live_prog o
      of_prog id None there = none_prog (prog_left id)
      of_prog id (Some p) there = by p.live refl
        where
          dead : (b : Bool) → p.live ≡ false → if_live_prog (cond b (Some p) None) ≡ None
          dead true e = ap (λ live. cond live (Some p) None) e
          dead false e = refl

          by : (live : Bool) → p.live ≡ live → if_live_prog (cond (prog_left id) (Some p) None) ≡ if_live_prog (Some p)
          by true live = ap (λ b. if_live_prog (cond b (Some p) None)) (live_prog_left s g id p there live)
          by false live = dead (prog_left id) live ∙ sym (ap (λ b. cond b (Some p) None) live)
