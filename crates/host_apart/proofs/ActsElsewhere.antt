-- A change that is not one of a map's contents does the same when these are made others.
use Rattle.std.proofs.Common.{◌≡◌, ℕ, Bool, true, false, ◌&&◌, not, List, [], ◌∷◌, Option, Some, None, Result, Ok, Err, is_some, refl, sym, ap, ◌∙◌}
use Rattle.std.specs.Prelude.{if◌then◌else◌}
use Rattle.std.specs.List.{list_all}
use Rattle.std.specs.Option.{option_map}
use Rattle.std.specs.Ordering.{nat_cmp, eq_by_cmp}
use Rattle.std.specs.FinMap as map
use Rattle.host_words.specs.Spelling.{is_name, is_path}
use Rattle.bt_mapkind.specs.Contents.{Contents as Held}
use Rattle.bt_mapkind.specs.declared.attr.MapAttr.{MapAttr}
use Rattle.bt_mapkind.specs.declared.attr.MapType.{MapType}
use Rattle.bt_mapkind.specs.declared.errno.Errno.{Errno as Error}
use Rattle.bt_mapkind.specs.declared.errno.Errno.TheVariants.{EINVAL, EPERM}
use Rattle.bt_mapkind.specs.declared.request.MapOp.{MapOp}
use Rattle.bt_mapkind.specs.declared.request.MapOp.TheVariants.{SetLink as SetLinkOp}
use Rattle.bt_mapkind.specs.Attributes.{good}
use Rattle.bt_mapkind.specs.Step.{Step, map_step, is_flag}
use Rattle.bt_mapkind.specs.Inner.{holds_ids, form_fault, map_fault}
use Rattle.bt_roots.specs.declared.target.Target.{Target}
use Rattle.bt_roots.specs.declared.target.Target.TheVariants.{Map, Prog}
use Rattle.bt_roots.specs.View.{position_of}
use Rattle.bt_roots.specs.Exchange.{prog_at}
use Rattle.host_state.specs.declared.change.Change.{Change}
use Rattle.host_state.specs.declared.change.Change.TheVariants.{Create, Operate, Freeze, Link, Load, Pin, Unpin, Attach, Detach}
use Rattle.host_state.specs.declared.change.Origin.{Origin}
use Rattle.host_state.specs.declared.reply.Reply.{Reply}
use Rattle.host_state.specs.declared.reply.Reply.TheVariants.{Done, Id, Loaded}
use Rattle.host_state.specs.State.{HostMap, HostProg, State}
use Rattle.host_state.specs.Settled.{named_in, settle, is_live_in}
use Rattle.host_state.specs.Act.{Outcome, act, live_map, attr_if_live, is_console, bars, flag_of, reply_of, operated_to, unless, with_contents, with_frozen, with_attached, new_prog}
use Rattle.host_state.proofs.Tests.{operated_at, named_fault, linked_at, frozen_at, detached_from, template_from, template_of, has_maps, unless_frozen, with_pin, without_pin, with_prog, new_map}
use Rattle.host_state.proofs.Lasting.{created_by, pin_by, unpin_by, attach_by, put_prog_by, take_prog_by, load_by, created_path}
use Rattle.host_state.proofs.ByIdLemmas.{same_of}
use Rattle.host_apart.specs.Refilled.{KeepsIds, map_refilled, refilled, carried, IsElsewhere, ActsElsewhere}
use Rattle.host_apart.proofs.RefilledLemmas.{get-refilled, elsewhere, live_refilled, live_map_refilled, put_refilled, settle_refilled}

module _ (id : ℕ) (f : Held → Held) (keeps : KeepsIds f) (s : State) where
  abbrev after : State → State
  after x = refilled x id f

  -- what settles to the state after
  done : (middle other : State) (reply : Reply) → other ≡ refilled middle id f → ◌≡◌ {A = Outcome} (Ok (settle other, reply)) (carried id f (Ok (settle middle, reply)))
  done middle other reply is = λ i. Ok ((ap settle is ∙ settle_refilled id f keeps middle) i, reply)

  -- ---- an operation and a link
  stepped : (q : ℕ) (m : HostMap) (op : MapOp) → eq_by_cmp nat_cmp q id ≡ false → (step : Step) → operated_to (after s) q m op step ≡ carried id f (operated_to s q m op step)
  stepped q m op apart (Err errno) = refl
  stepped q m op apart (Ok step) =
      done (with_contents s q m step.contents) (with_contents (after s) q m step.contents) (reply_of op step.reply)
      ((λ i. record (after s) { maps = map.insert (after s).maps q (sym (elsewhere id f q (record m { contents = step.contents }) apart) i) })
      ∙ put_refilled id f s q (record m { contents = step.contents }))

  found_elsewhere : (q : ℕ) → eq_by_cmp nat_cmp q id ≡ false → live_map (after s) q ≡ live_map s q
  found_elsewhere q apart = live_map_refilled id f s q ∙ by (live_map s q)
    where
      by : (o : Option HostMap) → option_map (map_refilled id f q) o ≡ o
      by None = refl
      by (Some m) = ap Some (elsewhere id f q m apart)

  operated : (origin : Origin) (q : ℕ) (op : MapOp) → eq_by_cmp nat_cmp q id ≡ false → operated_at (after s) q (live_map (after s) q) origin op ≡ carried id f (operated_at s q (live_map s q) origin op)
  operated origin q op apart = ap (λ o. operated_at (after s) q o origin op) (found_elsewhere q apart) ∙ by (live_map s q)
    where
      by_tests : (m : HostMap) (a b h : Bool) (step : Step)
          → (if a then Err EINVAL else if b then Err EPERM else if h then Err EINVAL else operated_to (refilled s id f) q m op step)
          ≡ carried id f (if a then Err EINVAL else if b then Err EPERM else if h then Err EINVAL else operated_to s q m op step)
      by_tests m true b h step = refl
      by_tests m false true h step = refl
      by_tests m false false true step = refl
      by_tests m false false false step = stepped q m op apart step

      by : (o : Option HostMap) → operated_at (refilled s id f) q o origin op ≡ carried id f (operated_at s q o origin op)
      by None = refl
      by (Some m) = by_tests m (not (is_flag (flag_of op))) (is_console origin && m.frozen) (bars origin (holds_ids m.attr.kind) op) (map_step m.attr m.contents op)

  same_attr : (q : ℕ) → attr_if_live (live_map (after s) q) ≡ attr_if_live (live_map s q)
  same_attr q = ap attr_if_live (live_map_refilled id f s q) ∙ by (live_map s q)
    where
      by : (o : Option HostMap) → attr_if_live (option_map (map_refilled id f q) o) ≡ attr_if_live o
      by None = refl
      by (Some m) = refl

  same_named : (template : Option MapAttr) (x : Target) → named_fault (after s) template x ≡ named_fault s template x
  same_named template (Map q) = ap (map_fault template) (same_attr q)
  same_named template (Prog q) = refl

  linked : (q : ℕ) (key : List ℕ) (named flag : ℕ) → eq_by_cmp nat_cmp q id ≡ false → linked_at (after s) q (live_map (after s) q) key named flag ≡ carried id f (linked_at s q (live_map s q) key named flag)
  linked q key named flag apart = ap (λ o. linked_at (after s) q o key named flag) (found_elsewhere q apart) ∙ by (live_map s q)
    where
      by_tests : (m : HostMap) (a b : Bool) (x y : Option Error) (step : Step)
          → (if a then Err EINVAL else if b then Err EPERM else unless x (unless y (operated_to (refilled s id f) q m (SetLinkOp key named flag) step)))
          ≡ carried id f (if a then Err EINVAL else if b then Err EPERM else unless x (unless y (operated_to s q m (SetLinkOp key named flag) step)))
      by_tests m true b x y step = refl
      by_tests m false true x y step = refl
      by_tests m false false (Some errno) y step = refl
      by_tests m false false None (Some errno) step = refl
      by_tests m false false None None step = stepped q m (SetLinkOp key named flag) apart step

      by : (o : Option HostMap) → linked_at (refilled s id f) q o key named flag ≡ carried id f (linked_at s q o key named flag)
      by None = refl
      by (Some m) =
          ap (λ fault. if not (is_flag flag) then Err EINVAL else if m.frozen then Err EPERM else unless (form_fault m.attr key flag) (unless fault (operated_to (refilled s id f) q m (SetLinkOp key named flag) (map_step m.attr m.contents (SetLinkOp key named flag)))))
          (same_named m.template (named_in m.attr.kind named))
          ∙ by_tests m (not (is_flag flag)) m.frozen (form_fault m.attr key flag) (named_fault s m.template (named_in m.attr.kind named)) (map_step m.attr m.contents (SetLinkOp key named flag))

  -- ---- a freeze, of that map too
  frozen : (q : ℕ) → frozen_at (after s) q (live_map (after s) q) ≡ carried id f (frozen_at s q (live_map s q))
  frozen q = ap (frozen_at (after s) q) (live_map_refilled id f s q) ∙ by (live_map s q)
    where
      by_test : (m : HostMap) (b : Bool) → unless_frozen b (settle (with_frozen (refilled s id f) q (map_refilled id f q m) true)) ≡ carried id f (unless_frozen b (settle (with_frozen s q m true)))
      by_test m true = refl
      by_test m false = done (with_frozen s q m true) (with_frozen (refilled s id f) q (map_refilled id f q m) true) Done (put_refilled id f s q (record m { frozen = true }))

      by : (o : Option HostMap) → frozen_at (refilled s id f) q (option_map (map_refilled id f q) o) ≡ carried id f (frozen_at s q o)
      by None = refl
      by (Some m) = by_test m m.frozen

  -- ---- pins
  pinned : (target : Target) (path : List ℕ) → pin_by (after s) target path (is_live_in (after s) target) (is_path path) (map.contains_key s.pins path)
      ≡ carried id f (pin_by s target path (is_live_in s target) (is_path path) (map.contains_key s.pins path))
  pinned target path = ap (λ live. pin_by (after s) target path live (is_path path) (map.contains_key s.pins path)) (live_refilled id f s target) ∙ by (is_live_in s target) (is_path path) (map.contains_key s.pins path)
    where
      by : (live fine there : Bool) → pin_by (refilled s id f) target path live fine there ≡ carried id f (pin_by s target path live fine there)
      by false fine there = refl
      by true false there = refl
      by true true true = refl
      by true true false = done (with_pin s path target) (with_pin (refilled s id f) path target) Done refl

  unpinned : (path : List ℕ) (there : Bool) → unpin_by (after s) path there ≡ carried id f (unpin_by s path there)
  unpinned path false = refl
  unpinned path true = done (without_pin s path) (without_pin (after s) path) Done refl

  -- ---- devices
  attached : (prog : ℕ) (overwrite live : Bool) (position : Option ℕ) → attach_by (after s) prog overwrite live position ≡ carried id f (attach_by s prog overwrite live position)
  attached prog overwrite false position = refl
  attached prog overwrite true None = refl
  attached prog overwrite true (Some at) = by_test (is_some (prog_at s.devices at) && not overwrite)
    where
      by_test : (busy : Bool) → put_prog_by (refilled s id f) at prog busy ≡ carried id f (put_prog_by s at prog busy)
      by_test true = refl
      by_test false = done (with_attached s at (Some prog)) (with_attached (refilled s id f) at (Some prog)) Done refl

  detached : (position : Option ℕ) → detached_from (after s) position ≡ carried id f (detached_from s position)
  detached None = refl
  detached (Some at) = by_test (is_some (prog_at s.devices at))
    where
      by_test : (there : Bool) → take_prog_by (refilled s id f) at there ≡ carried id f (take_prog_by s at there)
      by_test false = refl
      by_test true = done (with_attached s at None) (with_attached (refilled s id f) at None) Done refl

  -- ---- what is made
  same_there : (q : ℕ) → map.contains_key (after s).maps q ≡ map.contains_key s.maps q
  same_there q = ap is_some (get-refilled id f s q) ∙ by (map.get s.maps q)
    where
      by : (o : Option HostMap) → is_some (option_map (map_refilled id f q) o) ≡ is_some o
      by None = refl
      by (Some x) = refl

  same_template : (kind : MapType) (template : Option ℕ) → template_of (after s) kind template ≡ template_of s kind template
  same_template kind None = refl
  same_template kind (Some q) = ap (template_from kind) (same_attr q)

  created : (q : ℕ) (attr : MapAttr) (charge : ℕ) (name path : List ℕ) (template : Option ℕ) → map.contains_key s.maps id ≡ true
      → created_by (after s) q attr charge name path (map.contains_key (after s).maps q) (good attr && is_name name) (template_of (after s) attr.kind template)
      ≡ carried id f (created_by s q attr charge name path (map.contains_key s.maps q) (good attr && is_name name) (template_of s attr.kind template))
  created q attr charge name path template there =
      (λ i. created_by (after s) q attr charge name path (same_there q i) (good attr && is_name name) (same_template attr.kind template i))
      ∙ by (map.contains_key s.maps q) (good attr && is_name name) (template_of s attr.kind template) refl
    where
      differs : map.contains_key s.maps q ≡ false → (b : Bool) → eq_by_cmp nat_cmp q id ≡ b → b ≡ false
      differs absent true tied = cc (sym (ap (map.contains_key s.maps) (same_of q id tied)) ∙ absent, there)
      differs absent false apart = refl

      by_path : (m : HostMap) → eq_by_cmp nat_cmp q id ≡ false → (bad taken : Bool) → created_path (refilled s id f) q m path bad taken ≡ carried id f (created_path s q m path bad taken)
      by_path m apart true taken = refl
      by_path m apart false true = refl
      by_path m apart false false =
          done (record s { maps = map.insert s.maps q m; pins = map.insert s.pins path (Map q) })
          (record (refilled s id f) { maps = map.insert (refilled s id f).maps q m; pins = map.insert s.pins path (Map q) }) (Id q)
          ((λ i. record (refilled s id f) { maps = map.insert (refilled s id f).maps q (sym (elsewhere id f q m apart) i); pins = map.insert s.pins path (Map q) })
          ∙ (λ i. record (put_refilled id f s q m i) { pins = map.insert s.pins path (Map q) }))

      by_found : eq_by_cmp nat_cmp q id ≡ false → (fine : Bool) (found : Result (Option MapAttr) Error) → created_by (refilled s id f) q attr charge name path false fine found ≡ carried id f (created_by s q attr charge name path false fine found)
      by_found apart false found = refl
      by_found apart true (Err errno) = refl
      by_found apart true (Ok agreed) = by_path (new_map attr charge name agreed) apart (not (is_path path)) (map.contains_key s.pins path)

      by : (taken fine : Bool) (found : Result (Option MapAttr) Error) → map.contains_key s.maps q ≡ taken
          → created_by (refilled s id f) q attr charge name path taken fine found ≡ carried id f (created_by s q attr charge name path taken fine found)
      by true fine found is = refl
      by false fine found is = by_found (differs is (eq_by_cmp nat_cmp q id) refl) fine found

  same_maps : (named : List (ℕ × MapAttr)) → list_all (λ m. is_live_in (after s) (Map m.0)) named ≡ list_all (λ m. is_live_in s (Map m.0)) named
  same_maps [] = refl
  same_maps (m ∷ named) = λ i. live_refilled id f s (Map m.0) i && same_maps named i

  loaded : (q : ℕ) (prog : HostProg) (path : List ℕ)
      → load_by (after s) q prog path (map.contains_key s.progs q) (has_maps (after s) prog.code) (is_path path) (map.contains_key s.pins path)
      ≡ carried id f (load_by s q prog path (map.contains_key s.progs q) (has_maps s prog.code) (is_path path) (map.contains_key s.pins path))
  loaded q prog path =
      ap (λ live. load_by (after s) q prog path (map.contains_key s.progs q) live (is_path path) (map.contains_key s.pins path)) (same_maps prog.code.maps)
      ∙ by (map.contains_key s.progs q) (has_maps s prog.code) (is_path path) (map.contains_key s.pins path)
    where
      by : (there live fine taken : Bool) → load_by (refilled s id f) q prog path there live fine taken ≡ carried id f (load_by s q prog path there live fine taken)
      by true live fine taken = refl
      by false false fine taken = refl
      by false true false taken = refl
      by false true true true = refl
      by false true true false = done (with_prog s q prog path) (with_prog (refilled s id f) q prog path) (Loaded q) refl

  -- ---- a change
  acts_after : map.contains_key s.maps id ≡ true → (change : Change) → IsElsewhere id change → act (refilled s id f) change ≡ carried id f (act s change)
  unfolding act
  acts_after there (Create q attr charge name path template) apart = created q attr charge name path template there
  acts_after there (Operate origin q op) apart = operated origin q op apart
  acts_after there (Freeze q) apart = frozen q
  acts_after there (Link q key named flag) apart = linked q key named flag apart
  acts_after there (Load q code name path) apart = loaded q (new_prog code name) path
  acts_after there (Pin target path) apart = pinned target path
  acts_after there (Unpin path) apart = unpinned path (map.contains_key s.pins path)
  acts_after there (Attach prog device overwrite) apart = attached prog overwrite (is_live_in s (Prog prog)) (position_of s.devices device)
  acts_after there (Detach device) apart = detached (position_of s.devices device)

pub acts_elsewhere : (s : State) (id : ℕ) (f : Held → Held) (change : Change) → ActsElsewhere s id f change
acts_elsewhere s id f change keeps there apart = acts_after id f keeps s there change apart
