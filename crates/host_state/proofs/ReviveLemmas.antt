-- The maps and the programs of a world of which some retire or come back, by its entries.
use Rattle.std.proofs.Common.{◌≡◌, ◌<◌, ◌≤◌, ◌+◌, ℕ, zero, suc, length, drop, get_or, arith, Bool, true, false, List, [], ◌∷◌, ◌||◌, Option, Some, None, cond, is_some, refl, sym, ap, ◌∙◌}
use Rattle.std.proofs.lemmas.List.{drop_more}
use Rattle.std.specs.Option.{option_map}
use Rattle.std.specs.Ordering.{nat_cmp, eq_by_cmp}
use Rattle.std.specs.Cmp.{nat_cmp_total, eq_by_cmp_equiv}
use Rattle.std.specs.FinMap as map
use Rattle.bt_mapkind.specs.Seen.{Seen}
use Rattle.bt_objects.specs.Boxes.{ById, make_of}
use Rattle.bt_roots.specs.declared.target.Target.{Target}
use Rattle.bt_roots.specs.declared.target.Target.TheVariants.{Map, Prog}
use Rattle.bt_roots.specs.View.{RootsView}
use Rattle.host_state.specs.declared.entry.MapEntry.{MapEntry}
use Rattle.bt_objects.specs.ById.{mapped}
use Rattle.host_state.specs.State.{HostProg, hosted}
use Rattle.bt_roots.specs.Live.{is_same}
use Rattle.host_state.specs.Settled.{is_listed, revived}
use Rattle.host_state.specs.Hosts.{Entries, Table, found_in, entry_at, prog_at, held, host_of, hosts_of, progs_of, state_of, RevivesEntries, PutsEntry, PutsProg, IsBuilt}
use Rattle.host_state.proofs.HostLemmas.{room_in, lives_as, prog_lives_as, get-hosts_of, get-progs_of}
use Rattle.host_state.proofs.ByIdLemmas.{same_map, same_of, get-mapped}
use Rattle.host_state.proofs.RoomLemmas.{room_same}
use Rattle.host_state.proofs.RetireLemmas.{map_revived, prog_revived}

-- ---- one more that is live, or not
again : (live : Bool) (o : Option (Option MapEntry)) → lives_as live (lives_as live o) ≡ lives_as live o
again live None = refl
again live (Some None) = refl
again live (Some (Some e)) = refl

prog_again : (live : Bool) (o : Option (Option HostProg)) → prog_lives_as live (prog_lives_as live o) ≡ prog_lives_as live o
prog_again live None = refl
prog_again live (Some None) = refl
prog_again live (Some (Some p)) = refl

abbrev pub left_to : List Target → Bool → Entries → ℕ → Option (Option MapEntry)
left_to targets live entries q = cond (is_listed targets (Map q)) (lives_as live (entry_at entries q)) (entry_at entries q)

abbrev pub progs_left_to : List Target → Bool → Entries → ℕ → Option (Option HostProg)
progs_left_to targets live entries q = cond (is_listed targets (Prog q)) (prog_lives_as live (prog_at entries q)) (prog_at entries q)

-- what is done to the first and then to the others is done to all
in_turn : {X : Type 0} (f : X → X) → ((x : X) → f (f x) ≡ f x) → (x : X) (first others : Bool) → cond others (f (cond (first || false) (f x) x)) (cond (first || false) (f x) x) ≡ cond (first || others) (f x) x
in_turn f twice x true true = twice x
in_turn f twice x true false = refl
in_turn f twice x false true = refl
in_turn f twice x false false = refl

pub one_done : (old new : Entries) (target : Target) (rest : List Target) (live : Bool) → RevivesEntries old new (target ∷ []) live → (q : ℕ) → left_to rest live new q ≡ left_to (target ∷ rest) live old q
one_done old new target rest live one q =
    ap (λ o. cond (is_listed rest (Map q)) (lives_as live o) o) (one.maps q) ∙ in_turn (lives_as live) (again live) (entry_at old q) (is_same (Map q) target) (is_listed rest (Map q))

pub one_prog_done : (old new : Entries) (target : Target) (rest : List Target) (live : Bool) → RevivesEntries old new (target ∷ []) live → (q : ℕ) → progs_left_to rest live new q ≡ progs_left_to (target ∷ rest) live old q
one_prog_done old new target rest live one q =
    ap (λ o. cond (is_listed rest (Prog q)) (prog_lives_as live o) o) (one.progs q) ∙ in_turn (prog_lives_as live) (prog_again live) (prog_at old q) (is_same (Prog q) target) (is_listed rest (Prog q))

-- one step of a walk over the list
pub one_more_done : (old new : Entries) (targets : List Target) (i : ℕ) (d : Target) (live : Bool) → i < length targets → RevivesEntries old new (get_or targets i d ∷ []) live
    → (q : ℕ) → left_to (drop (i + 1) targets) live new q ≡ left_to (drop i targets) live old q
one_more_done old new targets i d live within one q =
    one_done old new (get_or targets i d) (drop (i + 1) targets) live one q ∙ ap (λ ts. left_to ts live old q) (sym (drop_more targets i d within))

pub one_more_prog_done : (old new : Entries) (targets : List Target) (i : ℕ) (d : Target) (live : Bool) → i < length targets → RevivesEntries old new (get_or targets i d ∷ []) live
    → (q : ℕ) → progs_left_to (drop (i + 1) targets) live new q ≡ progs_left_to (drop i targets) live old q
one_more_prog_done old new targets i d live within one q =
    one_prog_done old new (get_or targets i d) (drop (i + 1) targets) live one q ∙ ap (λ ts. progs_left_to ts live old q) (sym (drop_more targets i d within))

-- and its end
pub drop_end : {X : Type 0} (targets : List X) (i : ℕ) → length targets ≤ i → drop i targets ≡ []
drop_end [] zero h = refl
drop_end [] (suc i) h = refl
drop_end (t ∷ targets) zero h = absurd (omega (arith, h))
drop_end (t ∷ targets) (suc i) h = drop_end targets i (omega (arith, h))

pub all_done : (old now : Entries) (targets : List Target) (i : ℕ) (live : Bool) → length targets ≤ i
    → ((q : ℕ) → left_to (drop i targets) live now q ≡ left_to targets live old q) → ((q : ℕ) → progs_left_to (drop i targets) live now q ≡ progs_left_to targets live old q)
    → RevivesEntries old now targets live
all_done old now targets i live past maps progs = record {
  maps = λ q. ap (λ ts. left_to ts live now q) (sym (drop_end targets i past)) ∙ maps q;
  progs = λ q. ap (λ ts. progs_left_to ts live now q) (sym (drop_end targets i past)) ∙ progs q;
}

-- one object alone
either_way : {X : Type 0} (f : X → X) (x y : X) (b : Bool) → (b ≡ true → x ≡ y) → cond b (f x) y ≡ cond (b || false) (f y) y
either_way f x y true same = ap f (same refl)
either_way f x y false same = refl

turn_round : (id q : ℕ) → eq_by_cmp nat_cmp id q ≡ eq_by_cmp nat_cmp q id
turn_round = (eq_by_cmp_equiv nat_cmp_total).symm

pub map_alone : (old new : Entries) (id : ℕ) (live : Bool) → PutsEntry old new id (lives_as live (entry_at old id)) → RevivesEntries old new (Map id ∷ []) live
map_alone old new id live lives = record {
  maps = λ q.
      lives.0 q ∙ ap (λ b. cond b (lives_as live (entry_at old id)) (entry_at old q)) (turn_round id q)
      ∙ either_way (lives_as live) (entry_at old id) (entry_at old q) (eq_by_cmp nat_cmp q id) (λ tied. ap (entry_at old) (sym (same_of q id tied)));
  progs = λ q. ap (λ (ps : Table HostProg). found_in ps q) lives.1;
}

pub prog_alone : (old new : Entries) (id : ℕ) (live : Bool) → PutsProg old new id (prog_lives_as live (prog_at old id)) → RevivesEntries old new (Prog id ∷ []) live
prog_alone old new id live lives = record {
  maps = λ q. ap (λ (ms : Table MapEntry). found_in ms q) lives.1;
  progs = λ q.
      lives.0 q ∙ ap (λ b. cond b (prog_lives_as live (prog_at old id)) (prog_at old q)) (turn_round id q)
      ∙ either_way (prog_lives_as live) (prog_at old id) (prog_at old q) (eq_by_cmp nat_cmp q id) (λ tied. ap (prog_at old) (sym (same_of q id tied)));
}

module _ (boxes : ById Seen) (old new : Entries) (targets : List Target) (live : Bool) (revives : RevivesEntries old new targets live) where
  -- the map of an entry that is live, or not
  host_is : (q : ℕ) (box : Option Seen) (o : Option (Option MapEntry)) (b : Bool) → is_listed targets (Map q) ≡ b → host_of box (held (cond b (lives_as live o) o)) ≡ option_map (map_revived targets live q) (host_of box (held o))
  host_is q None o b is = refl
  host_is q (Some s) None true is = refl
  host_is q (Some s) None false is = refl
  host_is q (Some s) (Some None) true is = refl
  host_is q (Some s) (Some None) false is = refl
  host_is q (Some s) (Some (Some e)) true is = ap (λ b. Some (record (hosted (make_of s) s.contents e) { live = cond b live e.live })) (sym is)
  host_is q (Some s) (Some (Some e)) false is = ap (λ b. Some (record (hosted (make_of s) s.contents e) { live = cond b live e.live })) (sym is)

  hosts_revived : hosts_of boxes new ≡ mapped (map_revived targets live) (hosts_of boxes old)
  hosts_revived = same_map _ _ (λ q.
      get-hosts_of boxes new q
      ∙ ap (λ o. host_of (map.get boxes q) (held o)) (revives.maps q)
      ∙ host_is q (map.get boxes q) (entry_at old q) (is_listed targets (Map q)) refl
      ∙ ap (option_map (map_revived targets live q)) (sym (get-hosts_of boxes old q))
      ∙ sym (get-mapped (map_revived targets live) (hosts_of boxes old) q))

  prog_is : (q : ℕ) (o : Option (Option HostProg)) (b : Bool) → is_listed targets (Prog q) ≡ b → held (cond b (prog_lives_as live o) o) ≡ option_map (prog_revived targets live q) (held o)
  prog_is q None true is = refl
  prog_is q None false is = refl
  prog_is q (Some None) true is = refl
  prog_is q (Some None) false is = refl
  prog_is q (Some (Some p)) true is = ap (λ b. Some (record p { live = cond b live p.live })) (sym is)
  prog_is q (Some (Some p)) false is = ap (λ b. Some (record p { live = cond b live p.live })) (sym is)

  progs_revived : progs_of new ≡ mapped (prog_revived targets live) (progs_of old)
  progs_revived = same_map _ _ (λ q.
      get-progs_of new q
      ∙ ap (λ (o : Option (Option HostProg)). held o) (revives.progs q)
      ∙ prog_is q (prog_at old q) (is_listed targets (Prog q)) refl
      ∙ ap (option_map (prog_revived targets live q)) (sym (get-progs_of old q))
      ∙ sym (get-mapped (prog_revived targets live) (progs_of old) q))

  pub revived_state : (roots : RootsView) → state_of boxes new roots ≡ revived (state_of boxes old roots) targets live
  unfolding revived
  revived_state roots = λ i. record (state_of boxes old roots) { maps = hosts_revived i; progs = progs_revived i }

  prog_was_there : (o : Option (Option HostProg)) (b : Bool) → is_some (cond b (prog_lives_as live o) o) ≡ is_some o
  prog_was_there None true = refl
  prog_was_there None false = refl
  prog_was_there (Some p) true = refl
  prog_was_there (Some p) false = refl

  pub revived_room : room_in new ≡ room_in old
  revived_room = room_same old new (λ q. ap is_some (revives.progs q) ∙ prog_was_there (prog_at old q) (is_listed targets (Prog q)))

  -- the boxes stay with their entries
  was_there : (o : Option (Option MapEntry)) (b : Bool) → is_some (cond b (lives_as live o) o) ≡ is_some o
  was_there None true = refl
  was_there None false = refl
  was_there (Some e) true = refl
  was_there (Some e) false = refl

  waited : (o : Option (Option MapEntry)) (b : Bool) → cond b (lives_as live o) o ≡ Some None → o ≡ Some None
  waited None true e = cc
  waited None false e = cc
  waited (Some None) b e = refl
  waited (Some (Some x)) true e = cc
  waited (Some (Some x)) false e = cc

  was_hosted : (o : Option (Option MapEntry)) (b : Bool) (entry : MapEntry) → cond b (lives_as live o) o ≡ Some (Some entry) → (e : MapEntry) × (o ≡ Some (Some e))
  was_hosted None true entry is = cc
  was_hosted None false entry is = cc
  was_hosted (Some None) true entry is = cc
  was_hosted (Some None) false entry is = cc
  was_hosted (Some (Some e)) b entry is = (e, refl)

  pub revived_built : IsBuilt boxes old → IsBuilt boxes new
  revived_built built = record {
    same_ids = λ q. ap is_some (revives.maps q) ∙ was_there (entry_at old q) (is_listed targets (Map q)) ∙ built.same_ids q;
    fresh = λ q s waits. built.fresh q s (waited (entry_at old q) (is_listed targets (Map q)) (sym (revives.maps q) ∙ waits));
    well = built.well;
    bounded = built.bounded;
    good_attr = λ q entry s is. let e = was_hosted (entry_at old q) (is_listed targets (Map q)) entry (sym (revives.maps q) ∙ is) in built.good_attr q e.0 s e.1;
  }
