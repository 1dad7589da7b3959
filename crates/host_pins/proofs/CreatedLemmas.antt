-- A new map of a world is what `act` says, its undoing joins the two states, and the world stays sound.
use Rattle.std.proofs.Common.{◌≡◌, ℕ, Bool, true, false, ◌&&◌, not, List, Option, Some, None, Result, Ok, Err, is_some, refl, sym, ap, ◌∙◌, inl, inr}
use Rattle.std.specs.Prelude.{if◌then◌else◌, ◌⊎◌}
use Rattle.std.specs.FinMap as map
use Rattle.std.specs.FinSet as set
use Rattle.host_words.specs.Spelling.{is_name, is_path}
use Rattle.bt_mapkind.specs.declared.attr.MapAttr.{MapAttr}
use Rattle.bt_mapkind.specs.declared.attr.MapType.{MapType}
use Rattle.bt_mapkind.specs.declared.errno.Errno.{Errno as Error}
use Rattle.bt_mapkind.specs.declared.errno.Errno.TheVariants.{EINVAL, EEXIST}
use Rattle.bt_mapkind.specs.Attributes.{good}
use Rattle.bt_mapkind.specs.Seen.{Seen}
use Rattle.bt_objects.specs.Boxes.{ById}
use Rattle.bt_roots.specs.declared.target.Target.{Target}
use Rattle.bt_roots.specs.declared.target.Target.TheVariants.{Map, Prog}
use Rattle.bt_roots.specs.declared.back.RootBack.{RootBack}
use Rattle.bt_roots.specs.declared.back.RootBack.TheVariants.{Pin}
use Rattle.bt_roots.specs.declared.fault.RootFault.{RootFault}
use Rattle.bt_roots.specs.declared.fault.RootFault.TheVariants.{BadPath, Exists}
use Rattle.bt_roots.specs.View.{RootsView}
use Rattle.bt_roots.specs.Exchange.{exchanged}
use Rattle.bt_roots.specs.Answers.{IsAnswered, pin_answer, with_room}
use Rattle.host_state.specs.declared.change.Change.TheVariants.{Create}
use Rattle.host_state.specs.declared.entry.MapEntry.{MapEntry}
use Rattle.host_state.specs.declared.reply.Reply.TheVariants.{Id}
use Rattle.host_state.specs.declared.reply.Refusal.{Refusal}
use Rattle.host_state.specs.declared.reply.Refusal.TheVariants.{Errno, NoMemory}
use Rattle.host_state.specs.State.{HostMap, HostProg, State}
use Rattle.host_state.specs.Settled.{settle}
use Rattle.host_state.specs.Act.{Outcome, act, if_live, attr_if_live, template_by, created_with}
use Rattle.host_state.proofs.Tests.{new_map, template_of, template_from}
use Rattle.host_state.specs.Hosts.{Entries, entry_at, held, host_of, hosts_of, live_in, state_of, PutsEntry, PutsProg}
use Rattle.host_pins.specs.Made.{may_create, refusal_of, Pins}
use Rattle.host_state.proofs.HostLemmas.{get-hosts_of}
use Rattle.host_state.proofs.Lasting.{created_by}

-- ---- what an accepted pin is
pub record IsNewPin (roots : RootsView) (path : List ℕ) (target : Target) (pin : RootBack) (left : RootsView) : Type 0 where
  pub good : is_path path ≡ true
  pub free : map.get roots.pins path ≡ None
  pub left_is : left ≡ record roots { pins = map.insert roots.pins path target; room = set.insert roots.room path }
  pub pin_is : pin ≡ Pin path None

none_of : {X : Type 0} (o : Option X) → is_some o ≡ false → o ≡ None
none_of None e = refl
none_of (Some x) e = cc

pub new_pin : (roots : RootsView) (path : List ℕ) (target : Target) (pin : RootBack) (left : RootsView) → IsAnswered (pin_answer roots path target) roots (Ok pin) left → IsNewPin roots path target pin left
unfolding pin_answer exchanged
new_pin roots path target pin left answered = by_tests (is_path path) (map.contains_key roots.pins path) refl refl answered
  where
    by_tests : (good there : Bool) → is_path path ≡ good → map.contains_key roots.pins path ≡ there
        → IsAnswered (if not good then Err BadPath else if there then Err Exists else Ok (exchanged (with_room roots path) (Pin path (Some target)))) roots (Ok pin) left → IsNewPin roots path target pin left
    by_tests false there g t a = absurd a
    by_tests true true g t a = absurd a
    by_tests true false g t a =
        let free = none_of (map.get roots.pins path) t in
        record { good = g; free = free; left_is = a.0; pin_is = a.1 ∙ ap (Pin path) free }

-- ---- what a refused one is
pub record IsNoPin (roots : RootsView) (path : List ℕ) (refusal : Refusal) (left : RootsView) : Type 0 where
  pub same : left ≡ roots
  pub told : (refusal ≡ NoMemory) ⊎ ((is_path path ≡ false) × (refusal ≡ Errno EINVAL)) ⊎ ((is_path path ≡ true) × (map.contains_key roots.pins path ≡ true) × (refusal ≡ Errno EEXIST))

pub no_pin : (roots : RootsView) (path : List ℕ) (target : Target) (fault : RootFault) (refusal : Refusal) (left : RootsView) → IsAnswered (pin_answer roots path target) roots (Err fault) left
    → refusal_of fault ≡ refusal → IsNoPin roots path refusal left
unfolding pin_answer
no_pin roots path target fault refusal left answered told = by_tests (is_path path) (map.contains_key roots.pins path) refl refl answered
  where
    by_tests : (good there : Bool) → is_path path ≡ good → map.contains_key roots.pins path ≡ there
        → IsAnswered (if not good then Err BadPath else if there then Err Exists else Ok (exchanged (with_room roots path) (Pin path (Some target)))) roots (Err fault) left → IsNoPin roots path refusal left
    by_tests false there g t a = record { same = a.1; told = inr (inl (g, sym told ∙ ap refusal_of a.0)) }
    by_tests true true g t a = record { same = a.1; told = inr (inr (g, t, sym told ∙ ap refusal_of a.0)) }
    by_tests true false g t a = record { same = a.1; told = inl (sym told ∙ ap refusal_of a.0) }

-- ---- an object that is pinned and has its entry, or nothing changes
abbrev pub PinnedIn : Entries → RootsView → ℕ → MapEntry → List ℕ → Result RootBack Refusal → Entries → RootsView → Type 0
PinnedIn old roots id entry path result new left = Pins (PutsEntry old new id (Some (Some entry))) old roots (Map id) path result new left

abbrev pub ProgPinnedIn : Entries → RootsView → ℕ → HostProg → List ℕ → Result RootBack Refusal → Entries → RootsView → Type 0
ProgPinnedIn old roots id prog path result new left = Pins (PutsProg old new id (Some (Some prog))) old roots (Prog id) path result new left

-- ---- the template
abbrev pub template_in : ById Seen → Entries → MapType → Option ℕ → Result (Option MapAttr) Error
template_in boxes entries kind template = template_by (λ id. attr_if_live (live_in boxes entries id)) kind template

pub template_is : (boxes : ById Seen) (entries : Entries) (roots : RootsView) (kind : MapType) (template : Option ℕ) → template_of (state_of boxes entries roots) kind template ≡ template_in boxes entries kind template
template_is boxes entries roots kind None = refl
template_is boxes entries roots kind (Some id) = ap (λ o. template_from kind (attr_if_live (if_live o))) (get-hosts_of boxes entries id)

-- ---- what `act` says of a create
pub record MayCreate (boxes : ById Seen) (entries : Entries) (id : ℕ) (attr : MapAttr) (name : List ℕ) (template : Option ℕ) (agreed : Option MapAttr) : Type 0 where
  pub absent : held (entry_at entries id) ≡ None
  pub fine : good attr && is_name name ≡ true
  pub template_found : template_in boxes entries attr.kind template ≡ Ok agreed

not_false : (b : Bool) → not b ≡ false → b ≡ true
not_false true e = refl
not_false false e = cc

pub may : (boxes : ById Seen) (entries : Entries) (id : ℕ) (attr : MapAttr) (name : List ℕ) (template : Option ℕ) (agreed : Option MapAttr)
    → may_create boxes entries id attr name template ≡ Ok agreed → MayCreate boxes entries id attr name template agreed
may boxes entries id attr name template agreed e = by_tests (is_some (held (entry_at entries id))) (not (good attr && is_name name)) refl refl e
  where
    by_tests : (there bad : Bool) → is_some (held (entry_at entries id)) ≡ there → not (good attr && is_name name) ≡ bad
        → (if there then Err EEXIST else if bad then Err EINVAL else template_in boxes entries attr.kind template) ≡ Ok agreed → MayCreate boxes entries id attr name template agreed
    by_tests true bad t b e = cc
    by_tests false true t b e = cc
    by_tests false false t b e = record { absent = none_of _ t; fine = not_false _ b; template_found = e }

abbrev pub pinned_by : State → ℕ → HostMap → List ℕ → Bool → Bool → Outcome
pinned_by s id m path fine there =
    if not fine then Err EINVAL else if there then Err EEXIST else
    Ok (settle (record s { maps = map.insert s.maps id m; pins = map.insert s.pins path (Map id) }), Id id)

pub host_absent : (boxes : ById Seen) (entries : Entries) (id : ℕ) → held (entry_at entries id) ≡ None → map.get (hosts_of boxes entries) id ≡ None
host_absent boxes entries id none = get-hosts_of boxes entries id ∙ ap (host_of (map.get boxes id)) none ∙ of (map.get boxes id)
  where
    of : (box : Option Seen) → host_of box None ≡ None
    of None = refl
    of (Some s) = refl

-- a create that may be done comes to its pin
pub act_create : (s : State) (id : ℕ) (attr : MapAttr) (charge : ℕ) (name path : List ℕ) (template : Option ℕ) (agreed : Option MapAttr) → map.get s.maps id ≡ None
    → good attr && is_name name ≡ true → template_of s attr.kind template ≡ Ok agreed
    → act s (Create id attr charge name path template) ≡ pinned_by s id (new_map attr charge name agreed) path (is_path path) (map.contains_key s.pins path)
unfolding act
act_create s id attr charge name path template agreed absent fine found =
    ap (λ b. created_by s id attr charge name path b (good attr && is_name name) (template_of s attr.kind template)) (ap is_some absent)
    ∙ ap (λ b. created_by s id attr charge name path false b (template_of s attr.kind template)) fine
    ∙ ap (created_with s id attr charge name path) found

-- one that may not answers what stands against it
pub act_create_fault : (boxes : ById Seen) (entries : Entries) (roots : RootsView) (id : ℕ) (attr : MapAttr) (charge : ℕ) (name path : List ℕ) (template : Option ℕ) (errno : Error)
    → ((id : ℕ) → is_some (entry_at entries id) ≡ is_some (map.get boxes id)) → is_some (held (entry_at entries id)) ≡ is_some (map.get (hosts_of boxes entries) id)
    → may_create boxes entries id attr name template ≡ Err errno → act (state_of boxes entries roots) (Create id attr charge name path template) ≡ Err errno
unfolding act
act_create_fault boxes entries roots id attr charge name path template errno same there e =
    let s = state_of boxes entries roots in
    ap (λ t. created_by s id attr charge name path (is_some (map.get (hosts_of boxes entries) id)) (good attr && is_name name) t) (template_is boxes entries roots attr.kind template)
    ∙ ap (λ b. created_by s id attr charge name path b (good attr && is_name name) (template_in boxes entries attr.kind template)) (sym there)
    ∙ by_tests s (is_some (held (entry_at entries id))) (good attr && is_name name) (template_in boxes entries attr.kind template) e
  where
    by_template : (s : State) (t : Result (Option MapAttr) Error) → t ≡ Err errno → created_with s id attr charge name path t ≡ Err errno
    by_template s (Ok t) e = cc
    by_template s (Err x) e = ap (created_with s id attr charge name path) e

    by_tests : (s : State) (there fine : Bool) (t : Result (Option MapAttr) Error) → (if there then Err EEXIST else if not fine then Err EINVAL else t) ≡ Err errno
        → created_by s id attr charge name path there fine t ≡ Err errno
    by_tests s true fine t e = ap (created_with s id attr charge name path) e
    by_tests s false false t e = ap (created_with s id attr charge name path) e
    by_tests s false true t e = by_template s t e
