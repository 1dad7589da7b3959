-- What is found in a state in which the contents of one map are made others, and what commutes with it.
use Rattle.std.proofs.Common.{◌≡◌, ℕ, Bool, true, false, ◌&&◌, IsTrue, List, [], ◌∷◌, ◌++◌, map as each, Option, Some, None, cond, refl, sym, ap, ◌∙◌}
use Rattle.std.specs.Prelude.{if◌then◌else◌}
use Rattle.std.specs.Option.{option_map}
use Rattle.std.specs.List.{flat_map}
use Rattle.std.specs.FinMap as map
use Rattle.std.specs.Ordering.{nat_cmp, eq_by_cmp}
use Rattle.bt_mapkind.specs.Contents.{Contents as Held, Values, Entries, Items, Slots, Links}
use Rattle.bt_mapkind.specs.Exchange.{exchanged}
use Rattle.bt_mapkind.specs.Kept.{Kept, is_keyed}
use Rattle.bt_mapkind.specs.declared.exchange.Back.{Back}
use Rattle.bt_mapkind.specs.declared.exchange.Back.TheVariants.{Key, Ends, Link}
use Rattle.bt_objects.specs.ById.{put_at}
use Rattle.bt_roots.specs.declared.target.Target.{Target}
use Rattle.bt_roots.specs.declared.target.Target.TheVariants.{Map, Prog}
use Rattle.bt_roots.specs.Live.{is_live}
use Rattle.host_state.specs.State.{HostMap, HostProg, State}
use Rattle.host_state.specs.Settled.{ids_in, named_in, links_of_map, links_of_prog, links_of, is_reached, settle, is_live_map, is_live_in, IsSettled, revived}
use Rattle.host_state.specs.World.{makes_in}
use Rattle.host_state.specs.Act.{if_live, live_map}
use Rattle.host_state.proofs.ByIdLemmas.{same_some, same_of, same_map, get-put_at, get-mapped, entries-mapped, mapped_same, mapped_alike, mapped-mapped, mapped-put}
use Rattle.host_state.proofs.RetireLemmas.{map_revived, revived_none}
use Rattle.host_undoing.specs.declared.undoing.Part.TheVariants.{Contents}
use Rattle.host_undoing.specs.declared.undoing.Undoing.{Undoing}
use Rattle.host_undoing.specs.Exchange.{part_turned, turned}
use Rattle.host_undoing.proofs.Parts.{contents_turned}
use Rattle.host_apart.specs.Refilled.{KeepsIds, map_refilled, refilled, exchanged_by}

module _ (id : ℕ) (f : Held → Held) where
  pub get-refilled : (s : State) (q : ℕ) → map.get (refilled s id f).maps q ≡ option_map (map_refilled id f q) (map.get s.maps q)
  get-refilled s q = get-mapped (map_refilled id f) s.maps q

  -- another map stays
  pub elsewhere : (q : ℕ) (m : HostMap) → eq_by_cmp nat_cmp q id ≡ false → map_refilled id f q m ≡ m
  elsewhere q m apart = ap (λ b. record m { contents = cond b (f m.contents) m.contents }) apart

  -- ---- what is live, and what is linked
  pub live_refilled : (s : State) (t : Target) → is_live_in (refilled s id f) t ≡ is_live_in s t
  live_refilled s (Map q) = ap is_live_map (get-refilled s q) ∙ by (map.get s.maps q)
    where
      by : (o : Option HostMap) → is_live_map (option_map (map_refilled id f q) o) ≡ is_live_map o
      by None = refl
      by (Some m) = refl
  live_refilled s (Prog q) = refl

  pub live_map_refilled : (s : State) (q : ℕ) → live_map (refilled s id f) q ≡ option_map (map_refilled id f q) (live_map s q)
  live_map_refilled s q = ap if_live (get-refilled s q) ∙ by (map.get s.maps q)
    where
      by_live : (m : HostMap) (live : Bool) → (if live then Some (map_refilled id f q m) else None) ≡ option_map (map_refilled id f q) (if live then Some m else None)
      by_live m true = refl
      by_live m false = refl

      by : (o : Option HostMap) → if_live (option_map (map_refilled id f q) o) ≡ option_map (map_refilled id f q) (if_live o)
      by None = refl
      by (Some m) = by_live m m.live

  -- ---- a map that is put
  pub put_refilled : (s : State) (q : ℕ) (n : HostMap) → record (refilled s id f) { maps = put_at (refilled s id f).maps q (Some (map_refilled id f q n)) } ≡ refilled (record s { maps = put_at s.maps q (Some n) }) id f
  put_refilled s q n = λ i. record s { maps = sym (mapped-put (map_refilled id f) s.maps q (Some n)) i }

  pub revived_refilled : (s : State) (targets : List Target) (live : Bool) → revived (refilled s id f) targets live ≡ refilled (revived s targets live) id f
  unfolding revived
  revived_refilled s targets live = λ i. record (revived s targets live) {
    maps = (mapped-mapped (map_revived targets live) (map_refilled id f) s.maps ∙ sym (mapped-mapped (map_refilled id f) (map_revived targets live) s.maps)) i;
  }

  module _ (keeps : KeepsIds f) where
    ids_refilled : (b : Bool) (c : Held) → ids_in (cond b (f c) c) ≡ ids_in c
    ids_refilled true c = keeps c
    ids_refilled false c = refl

    each_links : (es : List (ℕ × HostMap)) → flat_map links_of_map (each (λ e. (e.0, map_refilled id f e.0 e.1)) es) ≡ flat_map links_of_map es
    each_links [] = refl
    each_links (e ∷ es) = λ i. each (λ (x : ℕ). (Map e.0, named_in e.1.attr.kind x)) (ids_refilled (eq_by_cmp nat_cmp e.0 id) e.1.contents i) ++ each_links es i

    pub links_refilled : (s : State) → links_of (refilled s id f) ≡ links_of s
    links_refilled s =
        ap (λ ls. flat_map links_of_prog (map.entries s.progs) ++ ls)
        (ap (flat_map links_of_map) (entries-mapped (map_refilled id f) s.maps) ∙ each_links (map.entries s.maps))

    pub reached_refilled : (s : State) (t : Target) → is_reached (refilled s id f) t ≡ is_reached s t
    reached_refilled s t = ap (λ ls. is_live s.pins s.devices ls t) (links_refilled s)

    pub settle_refilled : (s : State) → settle (refilled s id f) ≡ refilled (settle s) id f
    unfolding settle
    settle_refilled s = λ i. record s {
      maps = (
          mapped-mapped (λ q (m : HostMap). record m { live = m.live && is_reached (refilled s id f) (Map q) }) (map_refilled id f) s.maps
          ∙ mapped_alike (λ q (m : HostMap). record m { contents = cond (eq_by_cmp nat_cmp q id) (f m.contents) m.contents; live = m.live && is_reached (refilled s id f) (Map q) })
          (λ q (m : HostMap). record m { contents = cond (eq_by_cmp nat_cmp q id) (f m.contents) m.contents; live = m.live && is_reached s (Map q) }) s.maps
          (λ q m there j. record m { contents = cond (eq_by_cmp nat_cmp q id) (f m.contents) m.contents; live = m.live && reached_refilled s (Map q) j })
          ∙ sym (mapped-mapped (map_refilled id f) (λ q (m : HostMap). record m { live = m.live && is_reached s (Map q) }) s.maps)
          ) i;
      progs = mapped_alike (λ q (p : HostProg). record p { live = p.live && is_reached (refilled s id f) (Prog q) }) (λ q (p : HostProg). record p { live = p.live && is_reached s (Prog q) }) s.progs
          (λ q p there j. record p { live = p.live && reached_refilled s (Prog q) j }) i;
    }

    pub settled_refilled : (s : State) → IsSettled s → IsSettled (refilled s id f)
    settled_refilled s h = record {
      maps = λ q n there live. reached_refilled s (Map q) ∙ of_map q n live (map.get s.maps q) refl (sym (get-refilled s q) ∙ there);
      progs = λ q p there live. reached_refilled s (Prog q) ∙ h.progs q p there live;
      only = λ t r. live_refilled s t ∙ h.only t (sym (reached_refilled s t) ∙ r);
    }
      where
        of_map : (q : ℕ) (n : HostMap) → IsTrue n.live → (o : Option HostMap) → map.get s.maps q ≡ o → option_map (map_refilled id f q) o ≡ Some n → IsTrue (is_reached s (Map q))
        of_map q n live None is e = cc
        of_map q n live (Some m) is e = h.maps q m is (ap (λ (x : HostMap). x.live) (same_some e) ∙ live)

-- it has the same boxes
pub makes_refilled : (s : State) (id : ℕ) (f : Held → Held) → makes_in (refilled s id f) ≡ makes_in s
makes_refilled s id f = mapped-mapped (λ q (m : HostMap). record { attr = m.attr; charge = m.charge }) (map_refilled id f) s.maps

-- ---- an exchange of what a map holds is one
same_option : (o : Option HostMap) → option_map (λ (x : HostMap). record x { contents = x.contents }) o ≡ o
same_option None = refl
same_option (Some m) = refl

pub part_refilled : (s : State) (id : ℕ) (k : Kept) → part_turned s (Contents id k) ≡ refilled s id (exchanged_by k.back)
unfolding part_turned
part_refilled s id k = by (map.get s.maps id) refl
  where
    f : Held → Held
    f c = (exchanged c k.back).0

    absent : map.get s.maps id ≡ None → (q : ℕ) (m : HostMap) → map.get s.maps q ≡ Some m → (b : Bool) → eq_by_cmp nat_cmp q id ≡ b → record m { contents = cond b ((exchanged m.contents k.back).0) m.contents } ≡ m
    absent none q m there true tied = cc (sym (ap (map.get s.maps) (same_of q id tied) ∙ none) ∙ there)
    absent none q m there false apart = refl

    put : (m : HostMap) → map.get s.maps id ≡ Some m → (q : ℕ) (b : Bool) → eq_by_cmp nat_cmp q id ≡ b
        → cond b (Some (record m { contents = (exchanged m.contents k.back).0 })) (map.get s.maps q) ≡ option_map (λ (x : HostMap). record x { contents = cond b ((exchanged x.contents k.back).0) x.contents }) (map.get s.maps q)
    put m there q true tied = sym (ap (option_map (λ (x : HostMap). record x { contents = (exchanged x.contents k.back).0 })) (ap (map.get s.maps) (same_of q id tied) ∙ there))
    put m there q false apart = sym (same_option (map.get s.maps q))

    by : (o : Option HostMap) → map.get s.maps id ≡ o → contents_turned s id k.back o ≡ refilled s id (exchanged_by k.back)
    by None is = λ i. record s { maps = sym (mapped_same (map_refilled id (exchanged_by k.back)) s.maps (λ q m there. absent is q m there (eq_by_cmp nat_cmp q id) refl)) i }
    by (Some m) is = λ i. record s {
      maps = same_map _ _ (λ q.
          get-put_at s.maps id q (Some (record m { contents = (exchanged m.contents k.back).0 }))
          ∙ put m is q (eq_by_cmp nat_cmp q id) refl
          ∙ sym (get-mapped (map_refilled id (exchanged_by k.back)) s.maps q)) i;
    }

pub turned_refilled : (s : State) (u : Undoing) (id : ℕ) (k : Kept) → u.part ≡ Contents id k → u.retired.targets ≡ [] → turned s u ≡ refilled s id (exchanged_by k.back)
unfolding turned
turned_refilled s u id k is none = (λ i. revived (part_turned s (is i)) (none i) u.retired.live) ∙ revived_none (part_turned s (Contents id k)) u.retired.live ∙ part_refilled s id k

-- an exchange of one key of a map of bytes keeps all ids
pub keyed_keeps : (b : Back) → is_keyed b ≡ true → KeepsIds (exchanged_by b)
keyed_keeps (Key key None) is (Values vs) = refl
keyed_keeps (Key key (Some value)) is (Values vs) = refl
keyed_keeps (Key key value) is (Entries m) = refl
keyed_keeps (Key key value) is (Items xs) = refl
keyed_keeps (Key key value) is (Slots ls) = refl
keyed_keeps (Key key value) is (Links m) = refl
keyed_keeps (Ends _ _ _ _) is c = cc
keyed_keeps (Link _ _) is c = cc
