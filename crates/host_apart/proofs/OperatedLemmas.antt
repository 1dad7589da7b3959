-- What an accepted operation on a map of bytes leaves: nothing retires.
use Rattle.std.proofs.Common.{◌≡◌, ℕ, Bool, true, false, ◌&&◌, ◌||◌, not, List, [], ◌∷◌, Some, None, Ok, Err, refl, sym, ap, subst, ◌∙◌}
use Rattle.std.specs.Prelude.{if◌then◌else◌}
use Rattle.std.specs.FinMap as map
use Rattle.std.specs.Ordering.{is_eq}
use Rattle.bt_mapkind.specs.declared.attr.MapAttr.{MapAttr}
use Rattle.bt_mapkind.specs.declared.errno.Errno.TheVariants.{EINVAL, EPERM}
use Rattle.bt_mapkind.specs.declared.exchange.Back.{Back}
use Rattle.bt_mapkind.specs.declared.exchange.Back.TheVariants.{Key, Ends, Link}
use Rattle.bt_mapkind.specs.declared.request.MapOp.{MapOp}
use Rattle.bt_mapkind.specs.Contents.{Contents as Held, Values, Entries, Items, Slots, Links}
use Rattle.bt_mapkind.specs.Exchange.{exchange_fits}
use Rattle.bt_mapkind.specs.Kept.{is_keyed}
use Rattle.bt_mapkind.specs.Step.{Step, Changed, map_step, is_flag}
use Rattle.bt_mapkind.specs.Inner.{holds_ids}
use Rattle.bt_mapkind.specs.Laws.{IsTakenBack}
use Rattle.bt_mapkind.specs.Well.{IsWell, shape_of}
use Rattle.bt_mapkind.proofs.Stays.{no_fit}
use Rattle.bt_mapkind.proofs.Turning.{taken_back}
use Rattle.map_laws.specs.Place.{is_by_key}
use Rattle.bt_roots.specs.declared.target.Target.{Target}
use Rattle.bt_roots.proofs.Targets.{same_target}
use Rattle.host_state.specs.declared.change.Change.TheVariants.{Operate}
use Rattle.host_undoing.specs.declared.undoing.Part.{Part}
use Rattle.host_state.specs.declared.change.Origin.{Origin}
use Rattle.host_state.specs.declared.reply.Reply.{Reply}
use Rattle.host_state.specs.State.{HostMap, State}
use Rattle.host_state.specs.Settled.{ids_in, settle, is_live_in, is_listed, IsSettled}
use Rattle.host_state.specs.Act.{Outcome, act, if_live, is_console, bars, flag_of, operated_to, with_contents}
use Rattle.host_state.proofs.Tests.{operated_at}
use Rattle.host_state.proofs.SettleLemmas.{settled_contents, settle_settled}
use Rattle.host_state.proofs.RetireLemmas.{replaced_live}
use Rattle.host_apart.specs.Spots.{back_of_part, is_keyed_back}
use Rattle.host_apart.specs.Laws.{RetiresNothing}
use Rattle.host_apart.proofs.RefilledLemmas.{keyed_keeps}

-- contents that an exchange of one key fits hold bytes
pub keyed_no_ids : (a : MapAttr) (c : Held) (b : Back) → is_keyed b ≡ true → exchange_fits a c b ≡ true → ids_in c ≡ []
keyed_no_ids a (Values vs) b is fits = refl
keyed_no_ids a (Entries m) b is fits = refl
keyed_no_ids a (Items xs) b is fits = refl
keyed_no_ids a (Slots ls) (Key key value) is fits = no_fit fits
keyed_no_ids a (Slots ls) (Ends _ _ _ _) is fits = no_fit fits
keyed_no_ids a (Slots ls) (Link _ _) is fits = cc
keyed_no_ids a (Links m) (Key key value) is fits = no_fit fits
keyed_no_ids a (Links m) (Ends _ _ _ _) is fits = no_fit fits
keyed_no_ids a (Links m) (Link _ _) is fits = cc

pub keyed_by_key : (a : MapAttr) (c : Held) (b : Back) → is_keyed b ≡ true → exchange_fits a c b ≡ true → is_by_key (shape_of c) ≡ true
keyed_by_key a (Values vs) b is fits = refl
keyed_by_key a (Entries m) b is fits = refl
keyed_by_key a (Items xs) (Key key value) is fits = no_fit fits
keyed_by_key a (Items xs) (Ends _ _ _ _) is fits = cc
keyed_by_key a (Items xs) (Link _ _) is fits = no_fit fits
keyed_by_key a (Slots ls) (Key key value) is fits = no_fit fits
keyed_by_key a (Slots ls) (Ends _ _ _ _) is fits = no_fit fits
keyed_by_key a (Slots ls) (Link _ _) is fits = cc
keyed_by_key a (Links m) (Key key value) is fits = no_fit fits
keyed_by_key a (Links m) (Ends _ _ _ _) is fits = no_fit fits
keyed_by_key a (Links m) (Link _ _) is fits = cc

abbrev state_or : State → Outcome → State
state_or s (Ok done) = done.0
state_or s (Err errno) = s

-- the state after an accepted operation whose step is known
pub operated_state : (s t : State) (origin : Origin) (id : ℕ) (op : MapOp) (reply : Reply) (m : HostMap) (changed : Changed) → map.get s.maps id ≡ Some m → map_step m.attr m.contents op ≡ Ok changed
    → act s (Operate origin id op) ≡ Ok (t, reply) → t ≡ settle (with_contents s id m changed.contents)
unfolding act
operated_state s t origin id op reply m changed there step e = by m.live (sym (ap (λ o. operated_at s id (if_live o) origin op) there) ∙ e)
  where
    by_tests : (a b h : Bool) → (if a then Err EINVAL else if b then Err EPERM else if h then Err EINVAL else operated_to s id m op (Ok changed)) ≡ Ok (t, reply) → t ≡ settle (with_contents s id m changed.contents)
    by_tests true b h e = cc
    by_tests false true h e = cc
    by_tests false false true e = cc
    by_tests false false false e = sym (ap (state_or s) e)

    by : (live : Bool) → operated_at s id (if live then Some m else None) origin op ≡ Ok (t, reply) → t ≡ settle (with_contents s id m changed.contents)
    by false e = cc
    by true e =
        by_tests (not (is_flag (flag_of op))) (is_console origin && m.frozen) (bars origin (holds_ids m.attr.kind) op)
        (sym (ap (λ (x : Step). if not (is_flag (flag_of op)) then Err EINVAL else if is_console origin && m.frozen then Err EPERM else if bars origin (holds_ids m.attr.kind) op then Err EINVAL else operated_to s id m op x) step) ∙ e)

-- the contents of a map before and after an operation that is taken back by an exchange of one key hold no ids
pub record HoldsBytes (old new : Held) : Type 0 where
  pub before : ids_in old ≡ []
  pub after : ids_in new ≡ []

pub holds_bytes : (a : MapAttr) (c : Held) (op : MapOp) (changed : Changed) → IsWell a c → map_step a c op ≡ Ok changed → is_keyed changed.back ≡ true → HoldsBytes c changed.contents
holds_bytes a c op changed w step keyed =
    let back : IsTakenBack a c changed = taken_back a c op changed w step in
    let after : ids_in changed.contents ≡ [] = keyed_no_ids a changed.contents changed.back keyed back.turnable.fits in
    record { before = sym (ap ids_in back.restores) ∙ (keyed_keeps changed.back keyed changed.contents ∙ after); after = after }

-- the state after it, which is settled as it is
pub operated_plain : (s t : State) (origin : Origin) (id : ℕ) (op : MapOp) (reply : Reply) (m : HostMap) (changed : Changed) → map.get s.maps id ≡ Some m → map_step m.attr m.contents op ≡ Ok changed
    → IsWell m.attr m.contents → is_keyed changed.back ≡ true → IsSettled s → act s (Operate origin id op) ≡ Ok (t, reply) → t ≡ with_contents s id m changed.contents
operated_plain s t origin id op reply m changed there step w keyed settled e =
    let bytes = holds_bytes m.attr m.contents op changed w step keyed in
    operated_state s t origin id op reply m changed there step e
    ∙ settle_settled (with_contents s id m changed.contents) (settled_contents s id m changed.contents there bytes.before bytes.after settled)

-- ---- what is listed of nothing
none_listed : (targets : List Target) → ((target : Target) → is_listed targets target ≡ false) → targets ≡ []
none_listed [] none = refl
none_listed (x ∷ targets) none = cc (sym (ap (λ b. b || is_listed targets x) (ap is_eq (same_target x))) ∙ none x)

pub retires_nothing : (s t : State) (origin : Origin) (id : ℕ) (op : MapOp) (reply : Reply) (part : Part) (targets : List Target) → RetiresNothing s t origin id op reply part targets
retires_nothing s t origin id op reply part targets well settled e own keyed just =
    none_listed targets (λ x. just x ∙ by (is_live_in s x) (is_live_in t x) (still x))
  where
    keyed_changed : is_keyed own.changed.back ≡ true
    keyed_changed = sym (ap (λ (p : Part). is_keyed_back (back_of_part p)) own.is) ∙ keyed

    still : (x : Target) → is_live_in s x ≡ true → is_live_in t x ≡ true
    still x live =
        subst (λ (y : State). is_live_in y x ≡ true)
        (sym (operated_plain s t origin id op reply own.host own.changed own.there own.step (well id own.host own.there).0 keyed_changed settled e))
        (replaced_live s id own.host (record own.host { contents = own.changed.contents }) own.there refl x live)

    by : (was is : Bool) → (was ≡ true → is ≡ true) → was && not is ≡ false
    by true is h = ap not (h refl)
    by false is h = refl
