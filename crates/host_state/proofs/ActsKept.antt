-- A change that is accepted is accepted with the same reply without objects that are live neither before nor after it.
use Rattle.std.proofs.Common.{◌≡◌, ℕ, Bool, true, false, ◌&&◌, not, IsTrue, List, [], ◌∷◌, Contains, Option, Some, None, Result, Ok, Err, is_some, cond, inl, inr, refl, sym, ap, subst, ◌∙◌}
use Rattle.std.specs.Prelude.{if◌then◌else◌, ◌⊎◌}
use Rattle.std.specs.List.{list_all}
use Rattle.std.specs.Option.{option_map}
use Rattle.std.specs.FinMap as map
use Rattle.host_words.specs.Spelling.{is_name, is_path}
use Rattle.bt_objects.specs.Ids.{is_among}
use Rattle.bt_mapkind.specs.declared.attr.MapAttr.{MapAttr}
use Rattle.bt_mapkind.specs.declared.attr.MapType.{MapType}
use Rattle.bt_mapkind.specs.declared.errno.Errno.{Errno as Error}
use Rattle.bt_mapkind.specs.declared.errno.Errno.TheVariants.{EINVAL, EPERM}
use Rattle.bt_mapkind.specs.declared.request.MapOp.{MapOp}
use Rattle.bt_mapkind.specs.declared.request.MapOp.TheVariants.{SetLink as SetLinkOp}
use Rattle.bt_mapkind.specs.Attributes.{good}
use Rattle.bt_mapkind.specs.Step.{Step, map_step, is_flag}
use Rattle.bt_roots.specs.declared.target.Target.{Target}
use Rattle.bt_roots.specs.declared.target.Target.TheVariants.{Map, Prog}
use Rattle.bt_roots.specs.View.{position_of}
use Rattle.bt_roots.specs.Exchange.{prog_at}
use Rattle.host_state.specs.declared.change.Change.{Change}
use Rattle.host_state.specs.declared.change.Change.TheVariants.{Create, Operate, Freeze, Link, Load, Pin, Unpin, Attach, Detach}
use Rattle.host_state.specs.declared.change.Origin.{Origin}
use Rattle.host_state.specs.declared.reply.Reply.{Reply}
use Rattle.host_state.specs.declared.reply.Reply.TheVariants.{Done, Id, Loaded}
use Rattle.bt_objects.specs.ById.{ById}
use Rattle.host_state.specs.State.{HostMap, HostProg, State}
use Rattle.host_state.specs.Settled.{links_of, named_in, is_reached, settle, IsSettled, is_live_map, is_live_in}
use Rattle.bt_mapkind.specs.Inner.{holds_ids, form_fault, map_fault}
use Rattle.host_state.proofs.Tests.{prog_fault, operated_at, named_fault, linked_at, frozen_at, detached_from, template_from, template_of, has_maps, unless_frozen, with_pin, without_pin, with_prog, new_map}
use Rattle.host_state.specs.Act.{Outcome, act, if_live, live_map, attr_if_live, is_console, bars, flag_of, reply_of, operated_to, unless, with_contents, with_frozen, with_attached, new_prog}
use Rattle.host_state.specs.World.{ListsLive, kept_state}
use Rattle.host_state.proofs.ByIdLemmas.{get-mapped, mapped_alike}
use Rattle.host_state.proofs.LinkedLemmas.{from_links, to_links_map, to_links_prog, IsMapLink, IsProgLink, root_reached, next_reached, all_reached}
use Rattle.host_state.proofs.Lasting.{created_by, pinned_there, get-kept, pin_by, unpin_by, attach_by, put_prog_by, take_prog_by, load_by, created_path}
use Rattle.host_state.proofs.KeptLemmas.{kept_put, kept_mapped, Stays, live_stays, same_live, ReachedStays, same_reached}

-- ---- what settling leaves is reached as before
settled_link : (s : State) (from to : Target) → Contains (links_of s) (from, to) → Contains (links_of (settle s)) (from, to)
unfolding settle
settled_link s from to there = by (from_links s (from, to) there)
  where
    map_after : ℕ → HostMap → HostMap
    map_after id m = record m { live = m.live && is_reached s (Map id) }

    prog_after : ℕ → HostProg → HostProg
    prog_after id p = record p { live = p.live && is_reached s (Prog id) }

    by : IsProgLink s (from, to) ⊎ IsMapLink s (from, to) → Contains (links_of (settle s)) (from, to)
    by (inl l) =
        subst (Contains (links_of (settle s))) (sym l.is)
        (to_links_prog (settle s) l.id (prog_after l.id l.prog) l.named (get-mapped prog_after s.progs l.id ∙ ap (option_map (prog_after l.id)) l.there) l.has)
    by (inr l) =
        subst (Contains (links_of (settle s))) (sym l.is)
        (to_links_map (settle s) l.id (map_after l.id l.host) l.named (get-mapped map_after s.maps l.id ∙ ap (option_map (map_after l.id)) l.there) l.has)

settled_reached : (s : State) (t : Target) → IsTrue (is_reached s t) → IsTrue (is_reached (settle s) t)
unfolding settle
settled_reached s t = all_reached s (λ t. IsTrue (is_reached (settle s) t)) (root_reached (settle s)) (λ from to reached there. next_reached (settle s) from to reached (settled_link s from to there)) t

abbrev state_or : State → Outcome → State
state_or s (Ok done) = done.0
state_or s (Err errno) = s

abbrev reply_or : Reply → Outcome → Reply
reply_or reply (Ok done) = done.1
reply_or reply (Err errno) = reply

abbrev ok : State → Reply → Outcome
ok t reply = Ok (t, reply)

module _ (maps progs : List ℕ) (s t : State) (first : ListsLive maps progs s) (second : ListsLive maps progs t) (settled : IsSettled t) where
  abbrev kept : State → State
  kept x = kept_state maps progs x

  -- ---- the same is found
  same_live_map : (id : ℕ) → live_map (kept s) id ≡ live_map s id
  same_live_map id = ap if_live (get-kept maps s.maps id) ∙ by (is_among maps id) (map.get s.maps id) refl refl
    where
      by : (b : Bool) (o : Option HostMap) → is_among maps id ≡ b → map.get s.maps id ≡ o → if_live (cond b o None) ≡ if_live o
      by true o listed is = refl
      by false None listed is = refl
      by false (Some m) listed is = by_live m.live refl
        where
          by_live : (live : Bool) → m.live ≡ live → ◌≡◌ {A = Option HostMap} None (if live then Some m else None)
          by_live true live = cc (sym listed ∙ first.maps_listed id m is live)
          by_live false live = refl

  same_live_target : (x : Target) → is_live_in (kept s) x ≡ is_live_in s x
  same_live_target x = same_live maps progs s first x

  live_there : (id : ℕ) (m : HostMap) → live_map s id ≡ Some m → is_among maps id ≡ true
  live_there id m e = live_stays maps progs s first (Map id) (by (map.get s.maps id) e)
    where
      by_live : (n : HostMap) (live : Bool) → n.live ≡ live → (if live then Some n else None) ≡ Some m → n.live ≡ true
      by_live n true is e = is
      by_live n false is e = cc

      by : (o : Option HostMap) → if_live o ≡ Some m → is_live_map o ≡ true
      by None e = cc
      by (Some n) e = by_live n n.live refl e

  -- ---- what settles to the state after is left of it
  reaches : (middle : State) → settle middle ≡ t → ReachedStays maps progs middle
  reaches middle e x reached = live_stays maps progs t second x (settled.only x (subst (λ y. IsTrue (is_reached y x)) e (settled_reached middle x reached)))

  settles_kept : (middle : State) → settle middle ≡ t → settle (kept middle) ≡ kept t
  unfolding settle
  settles_kept middle e =
      (λ i. record (kept middle) {
        maps = (
            mapped_alike (λ id (m : HostMap). record m { live = m.live && is_reached (kept middle) (Map id) }) (λ id (m : HostMap). record m { live = m.live && is_reached middle (Map id) }) (map.retain_keys middle.maps (is_among maps))
            (λ id m there j. record m { live = m.live && same_reached maps progs middle (reaches middle e) (Map id) j })
            ∙ sym (kept_mapped maps (λ id (m : HostMap). record m { live = m.live && is_reached middle (Map id) }) middle.maps)
            ) i;
        progs = (
            mapped_alike (λ id (p : HostProg). record p { live = p.live && is_reached (kept middle) (Prog id) }) (λ id (p : HostProg). record p { live = p.live && is_reached middle (Prog id) }) (map.retain_keys middle.progs (is_among progs))
            (λ id p there j. record p { live = p.live && same_reached maps progs middle (reaches middle e) (Prog id) j })
            ∙ sym (kept_mapped progs (λ id (p : HostProg). record p { live = p.live && is_reached middle (Prog id) }) middle.progs)
            ) i;
      })
      ∙ ap kept e

  -- the outcome if nothing stands against the change, from what it makes of the state and of what is left of it
  done : (middle after : State) (reply other : Reply) → after ≡ kept middle → ok (settle middle) reply ≡ ok t other → ok (settle after) reply ≡ ok (kept t) other
  done middle after reply other is e =
      let settles : settle middle ≡ t = ap (state_or s) e in
      (λ i. ok (settle (is i)) reply) ∙ (λ i. ok (settles_kept middle settles i) (ap (reply_or reply) e i))

  -- ---- an operation and a link
  replaced : (id : ℕ) (n : HostMap) → is_among maps id ≡ true → record (kept s) { maps = map.insert (map.retain_keys s.maps (is_among maps)) id n } ≡ kept (record s { maps = map.insert s.maps id n })
  replaced id n stays = λ i. record (kept s) { maps = sym (kept_put maps s.maps id (Some n) stays) i }

  stepped : (id : ℕ) (m : HostMap) (op : MapOp) (reply : Reply) → is_among maps id ≡ true → (step : Step) → operated_to s id m op step ≡ ok t reply → operated_to (kept s) id m op step ≡ ok (kept t) reply
  stepped id m op reply stays (Err errno) e = cc
  stepped id m op reply stays (Ok step) e = done (with_contents s id m step.contents) (with_contents (kept s) id m step.contents) (reply_of op step.reply) reply (replaced id (record m { contents = step.contents }) stays) e

  operated : (origin : Origin) (id : ℕ) (op : MapOp) (reply : Reply) → operated_at s id (live_map s id) origin op ≡ ok t reply → operated_at (kept s) id (live_map (kept s) id) origin op ≡ ok (kept t) reply
  operated origin id op reply e = ap (λ o. operated_at (kept s) id o origin op) (same_live_map id) ∙ by (live_map s id) refl e
    where
      by_tests : (m : HostMap) → is_among maps id ≡ true → (a b h : Bool) (step : Step) → (if a then Err EINVAL else if b then Err EPERM else if h then Err EINVAL else operated_to s id m op step) ≡ ok t reply
          → (if a then Err EINVAL else if b then Err EPERM else if h then Err EINVAL else operated_to (kept_state maps progs s) id m op step) ≡ ok (kept_state maps progs t) reply
      by_tests m stays true b h step e = cc
      by_tests m stays false true h step e = cc
      by_tests m stays false false true step e = cc
      by_tests m stays false false false step e = stepped id m op reply stays step e

      by : (o : Option HostMap) → live_map s id ≡ o → operated_at s id o origin op ≡ ok t reply → operated_at (kept_state maps progs s) id o origin op ≡ ok (kept_state maps progs t) reply
      by None is e = cc
      by (Some m) is e = by_tests m (live_there id m is) (not (is_flag (flag_of op))) (is_console origin && m.frozen) (bars origin (holds_ids m.attr.kind) op) (map_step m.attr m.contents op) e

  same_named : (template : Option MapAttr) (x : Target) → named_fault (kept s) template x ≡ named_fault s template x
  same_named template (Map id) = ap (λ o. map_fault template (attr_if_live o)) (same_live_map id)
  same_named template (Prog id) = ap prog_fault (same_live_target (Prog id))

  linked : (id : ℕ) (key : List ℕ) (named flag : ℕ) (reply : Reply) → linked_at s id (live_map s id) key named flag ≡ ok t reply → linked_at (kept s) id (live_map (kept s) id) key named flag ≡ ok (kept t) reply
  linked id key named flag reply e = ap (λ o. linked_at (kept s) id o key named flag) (same_live_map id) ∙ by (live_map s id) refl e
    where
      by_faults : (m : HostMap) → is_among maps id ≡ true → (x y : Option Error) (step : Step) → unless x (unless y (operated_to s id m (SetLinkOp key named flag) step)) ≡ ok t reply
          → unless x (unless y (operated_to (kept_state maps progs s) id m (SetLinkOp key named flag) step)) ≡ ok (kept_state maps progs t) reply
      by_faults m stays (Some errno) y step e = cc
      by_faults m stays None (Some errno) step e = cc
      by_faults m stays None None step e = stepped id m (SetLinkOp key named flag) reply stays step e

      by_tests : (m : HostMap) → is_among maps id ≡ true → (a b : Bool) (x y : Option Error) (step : Step)
          → (if a then Err EINVAL else if b then Err EPERM else unless x (unless y (operated_to s id m (SetLinkOp key named flag) step))) ≡ ok t reply
          → (if a then Err EINVAL else if b then Err EPERM else unless x (unless y (operated_to (kept_state maps progs s) id m (SetLinkOp key named flag) step))) ≡ ok (kept_state maps progs t) reply
      by_tests m stays true b x y step e = cc
      by_tests m stays false true x y step e = cc
      by_tests m stays false false x y step e = by_faults m stays x y step e

      by : (o : Option HostMap) → live_map s id ≡ o → linked_at s id o key named flag ≡ ok t reply → linked_at (kept_state maps progs s) id o key named flag ≡ ok (kept_state maps progs t) reply
      by None is e = cc
      by (Some m) is e =
          ap (λ fault. if not (is_flag flag) then Err EINVAL else if m.frozen then Err EPERM else unless (form_fault m.attr key flag) (unless fault (operated_to (kept_state maps progs s) id m (SetLinkOp key named flag) (map_step m.attr m.contents (SetLinkOp key named flag)))))
          (same_named m.template (named_in m.attr.kind named))
          ∙ by_tests m (live_there id m is) (not (is_flag flag)) m.frozen (form_fault m.attr key flag) (named_fault s m.template (named_in m.attr.kind named)) (map_step m.attr m.contents (SetLinkOp key named flag)) e

  -- ---- a freeze
  frozen : (id : ℕ) (reply : Reply) → frozen_at s id (live_map s id) ≡ ok t reply → frozen_at (kept s) id (live_map (kept s) id) ≡ ok (kept t) reply
  frozen id reply e = ap (frozen_at (kept s) id) (same_live_map id) ∙ by (live_map s id) refl e
    where
      by_test : (m : HostMap) → is_among maps id ≡ true → (b : Bool) → unless_frozen b (settle (with_frozen s id m true)) ≡ ok t reply
          → unless_frozen b (settle (with_frozen (kept_state maps progs s) id m true)) ≡ ok (kept_state maps progs t) reply
      by_test m stays true e = cc
      by_test m stays false e = done (with_frozen s id m true) (with_frozen (kept_state maps progs s) id m true) Done reply (replaced id (record m { frozen = true }) stays) e

      by : (o : Option HostMap) → live_map s id ≡ o → frozen_at s id o ≡ ok t reply → frozen_at (kept_state maps progs s) id o ≡ ok (kept_state maps progs t) reply
      by None is e = cc
      by (Some m) is e = by_test m (live_there id m is) m.frozen e

  -- ---- pins
  pinned : (target : Target) (path : List ℕ) (reply : Reply) → pin_by s target path (is_live_in s target) (is_path path) (map.contains_key s.pins path) ≡ ok t reply
      → pin_by (kept s) target path (is_live_in (kept s) target) (is_path path) (map.contains_key s.pins path) ≡ ok (kept t) reply
  pinned target path reply e = ap (λ live. pin_by (kept s) target path live (is_path path) (map.contains_key s.pins path)) (same_live_target target) ∙ by (is_live_in s target) (is_path path) (map.contains_key s.pins path) e
    where
      by : (live fine there : Bool) → pin_by s target path live fine there ≡ ok t reply → pin_by (kept_state maps progs s) target path live fine there ≡ ok (kept_state maps progs t) reply
      by false fine there e = cc
      by true false there e = cc
      by true true true e = cc
      by true true false e = done (with_pin s path target) (with_pin (kept_state maps progs s) path target) Done reply refl e

  unpinned : (path : List ℕ) (reply : Reply) (there : Bool) → unpin_by s path there ≡ ok t reply → unpin_by (kept s) path there ≡ ok (kept t) reply
  unpinned path reply false e = cc
  unpinned path reply true e = done (without_pin s path) (without_pin (kept s) path) Done reply refl e

  -- ---- devices
  attached : (prog : ℕ) (overwrite : Bool) (position : Option ℕ) (reply : Reply) → attach_by s prog overwrite (is_live_in s (Prog prog)) position ≡ ok t reply
      → attach_by (kept s) prog overwrite (is_live_in (kept s) (Prog prog)) position ≡ ok (kept t) reply
  attached prog overwrite position reply e = ap (λ live. attach_by (kept s) prog overwrite live position) (same_live_target (Prog prog)) ∙ by (is_live_in s (Prog prog)) position e
    where
      by_test : (at : ℕ) (busy : Bool) → put_prog_by s at prog busy ≡ ok t reply → put_prog_by (kept_state maps progs s) at prog busy ≡ ok (kept_state maps progs t) reply
      by_test at true e = cc
      by_test at false e = done (with_attached s at (Some prog)) (with_attached (kept_state maps progs s) at (Some prog)) Done reply refl e

      by : (live : Bool) (position : Option ℕ) → attach_by s prog overwrite live position ≡ ok t reply → attach_by (kept_state maps progs s) prog overwrite live position ≡ ok (kept_state maps progs t) reply
      by false position e = cc
      by true None e = cc
      by true (Some at) e = by_test at (is_some (prog_at s.devices at) && not overwrite) e

  detached : (position : Option ℕ) (reply : Reply) → detached_from s position ≡ ok t reply → detached_from (kept s) position ≡ ok (kept t) reply
  detached None reply e = cc
  detached (Some at) reply e = by_test (is_some (prog_at s.devices at)) e
    where
      by_test : (there : Bool) → take_prog_by s at there ≡ ok t reply → take_prog_by (kept_state maps progs s) at there ≡ ok (kept_state maps progs t) reply
      by_test false e = cc
      by_test true e = done (with_attached s at None) (with_attached (kept_state maps progs s) at None) Done reply refl e

  -- ---- what is made
  -- what is pinned after the change stays
  pinned_stays : (middle : State) (path : List ℕ) (x : Target) → settle middle ≡ t → map.get middle.pins path ≡ Some x → Stays maps progs x
  pinned_stays middle path x e at = reaches middle e x (root_reached middle x (inl (path, at)))

  absent_kept : {X : Type 0} (ids : List ℕ) (m : ById X) (id : ℕ) → map.contains_key m id ≡ false → map.contains_key (map.retain_keys m (is_among ids)) id ≡ false
  absent_kept {X} ids m id absent = ap is_some (get-kept ids m id) ∙ by (is_among ids id) (map.get m id) absent
    where
      by : (b : Bool) (o : Option X) → is_some o ≡ false → is_some (cond b o None) ≡ false
      by true o e = e
      by false o e = refl

  same_template : (kind : MapType) (template : Option ℕ) → template_of (kept s) kind template ≡ template_of s kind template
  same_template kind None = refl
  same_template kind (Some id) = ap (λ o. template_from kind (attr_if_live o)) (same_live_map id)

  created : (id : ℕ) (attr : MapAttr) (charge : ℕ) (name path : List ℕ) (template : Option ℕ) (reply : Reply)
      → created_by s id attr charge name path (map.contains_key s.maps id) (good attr && is_name name) (template_of s attr.kind template) ≡ ok t reply
      → created_by (kept s) id attr charge name path (map.contains_key (map.retain_keys s.maps (is_among maps)) id) (good attr && is_name name) (template_of (kept s) attr.kind template) ≡ ok (kept t) reply
  created id attr charge name path template reply e =
      ap (created_by (kept s) id attr charge name path (map.contains_key (map.retain_keys s.maps (is_among maps)) id) (good attr && is_name name)) (same_template attr.kind template)
      ∙ by (map.contains_key s.maps id) (good attr && is_name name) (template_of s attr.kind template) refl e
    where
      next : HostMap → State → State
      next m x = record x { maps = map.insert x.maps id m; pins = map.insert x.pins path (Map id) }

      by_path : (m : HostMap) (bad taken : Bool) → created_path s id m path bad taken ≡ ok t reply → created_path (kept_state maps progs s) id m path bad taken ≡ ok (kept_state maps progs t) reply
      by_path m true taken e = cc
      by_path m false true e = cc
      by_path m false false e =
          let middle : State = record s { maps = map.insert s.maps id m; pins = map.insert s.pins path (Map id) } in
          let stays : is_among maps id ≡ true = pinned_stays middle path (Map id) (ap (state_or s) e) (pinned_there s path (Map id)) in
          done middle (record (kept_state maps progs s) { maps = map.insert (map.retain_keys s.maps (is_among maps)) id m; pins = map.insert s.pins path (Map id) }) (Id id) reply
          (λ i. record (kept_state maps progs s) { maps = sym (kept_put maps s.maps id (Some m) stays) i; pins = map.insert s.pins path (Map id) }) e

      by_found : (fine : Bool) (found : Result (Option MapAttr) Error) → created_by s id attr charge name path false fine found ≡ ok t reply → created_by (kept_state maps progs s) id attr charge name path false fine found ≡ ok (kept_state maps progs t) reply
      by_found false found e = cc
      by_found true (Err errno) e = cc
      by_found true (Ok agreed) e = by_path (new_map attr charge name agreed) (not (is_path path)) (map.contains_key s.pins path) e

      by : (there fine : Bool) (found : Result (Option MapAttr) Error) → map.contains_key s.maps id ≡ there → created_by s id attr charge name path there fine found ≡ ok t reply
          → created_by (kept_state maps progs s) id attr charge name path (map.contains_key (map.retain_keys s.maps (is_among maps)) id) fine found ≡ ok (kept_state maps progs t) reply
      by true fine found is e = cc
      by false fine found is e = ap (λ there. created_by (kept_state maps progs s) id attr charge name path there fine found) (absent_kept maps s.maps id is) ∙ by_found fine found e

  same_maps : (named : List (ℕ × MapAttr)) → list_all (λ m. is_live_in (kept s) (Map m.0)) named ≡ list_all (λ m. is_live_in s (Map m.0)) named
  same_maps [] = refl
  same_maps (m ∷ named) = λ i. same_live_target (Map m.0) i && same_maps named i

  loaded : (id : ℕ) (prog : HostProg) (path : List ℕ) (reply : Reply)
      → load_by s id prog path (map.contains_key s.progs id) (has_maps s prog.code) (is_path path) (map.contains_key s.pins path) ≡ ok t reply
      → load_by (kept s) id prog path (map.contains_key (map.retain_keys s.progs (is_among progs)) id) (has_maps (kept s) prog.code) (is_path path) (map.contains_key s.pins path) ≡ ok (kept t) reply
  loaded id prog path reply e =
      ap (λ live. load_by (kept s) id prog path (map.contains_key (map.retain_keys s.progs (is_among progs)) id) live (is_path path) (map.contains_key s.pins path)) (same_maps prog.code.maps)
      ∙ by (map.contains_key s.progs id) (has_maps s prog.code) (is_path path) (map.contains_key s.pins path) refl e
    where
      by_tests : (live fine taken : Bool) → load_by s id prog path false live fine taken ≡ ok t reply → load_by (kept_state maps progs s) id prog path false live fine taken ≡ ok (kept_state maps progs t) reply
      by_tests false fine taken e = cc
      by_tests true false taken e = cc
      by_tests true true true e = cc
      by_tests true true false e =
          let stays : is_among progs id ≡ true = pinned_stays (with_prog s id prog path) path (Prog id) (ap (state_or s) e) (pinned_there s path (Prog id)) in
          done (with_prog s id prog path) (with_prog (kept_state maps progs s) id prog path) (Loaded id) reply
          (λ i. record (kept_state maps progs s) { progs = sym (kept_put progs s.progs id (Some prog) stays) i; pins = map.insert s.pins path (Prog id) }) e

      by : (there live fine taken : Bool) → map.contains_key s.progs id ≡ there → load_by s id prog path there live fine taken ≡ ok t reply
          → load_by (kept_state maps progs s) id prog path (map.contains_key (map.retain_keys s.progs (is_among progs)) id) live fine taken ≡ ok (kept_state maps progs t) reply
      by true live fine taken is e = cc
      by false live fine taken is e = ap (λ there. load_by (kept_state maps progs s) id prog path there live fine taken) (absent_kept progs s.progs id is) ∙ by_tests live fine taken e

  -- ---- a change
  pub acts_kept : (change : Change) (reply : Reply) → act s change ≡ Ok (t, reply) → act (kept_state maps progs s) change ≡ Ok (kept_state maps progs t, reply)
  unfolding act
  acts_kept (Create id attr charge name path template) reply e = created id attr charge name path template reply e
  acts_kept (Operate origin id op) reply e = operated origin id op reply e
  acts_kept (Freeze id) reply e = frozen id reply e
  acts_kept (Link id key named flag) reply e = linked id key named flag reply e
  acts_kept (Load id code name path) reply e = loaded id (new_prog code name) path reply e
  acts_kept (Pin target path) reply e = pinned target path reply e
  acts_kept (Unpin path) reply e = unpinned path reply (map.contains_key s.pins path) e
  acts_kept (Attach prog device overwrite) reply e = attached prog overwrite (position_of s.devices device) reply e
  acts_kept (Detach device) reply e = detached (position_of s.devices device) reply e
