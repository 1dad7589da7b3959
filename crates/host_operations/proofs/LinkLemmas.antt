-- A link of a world is what `act` says.
use Rattle.std.proofs.Common.{◌≡◌, ℕ, Bool, true, false, not, IsTrue, List, Option, Some, None, Result, Ok, Err, is_some, refl, sym, ap, subst, ◌∙◌}
use Rattle.std.specs.Prelude.{if◌then◌else◌}
use Rattle.std.specs.Option.{option_map, option_or, option_and_then}
use Rattle.std.specs.FinMap as map
use Rattle.bt_mapkind.specs.declared.attr.MapAttr.{MapAttr}
use Rattle.bt_mapkind.specs.declared.errno.Errno.{Errno as Error}
use Rattle.bt_mapkind.specs.declared.errno.Errno.TheVariants.{EINVAL, EPERM}
use Rattle.bt_mapkind.specs.declared.request.MapOp.TheVariants.{SetLink as SetLinkOp}
use Rattle.bt_mapkind.specs.Attributes.{good}
use Rattle.bt_mapkind.specs.Seen.{Seen}
use Rattle.bt_mapkind.specs.Step.{map_step, is_flag}
use Rattle.bt_objects.specs.declared.make.Make.{Make}
use Rattle.bt_objects.specs.Boxes.{ById, make_of}
use Rattle.bt_roots.specs.declared.target.Target.{Target}
use Rattle.bt_roots.specs.declared.target.Target.TheVariants.{Map, Prog}
use Rattle.bt_roots.specs.View.{RootsView}
use Rattle.host_state.specs.declared.change.Change.TheVariants.{Link}
use Rattle.host_state.specs.declared.change.Origin.TheVariants.{Console}
use Rattle.host_state.specs.declared.entry.MapEntry.{MapEntry}
use Rattle.host_state.specs.declared.reply.Reply.{Reply}
use Rattle.host_state.specs.declared.reply.Refusal.{Refusal}
use Rattle.host_state.specs.declared.reply.Refusal.TheVariants.{Errno, NoMemory, WrongBlank, JournalFull, BudgetFull, SerialsSpent, IdsSpent}
use Rattle.host_undoing.specs.declared.undoing.Undoing.{Undoing}
use Rattle.host_state.specs.State.{HostMap, State, hosted}
use Rattle.host_state.specs.Settled.{named_in}
use Rattle.bt_mapkind.specs.Inner.{form_fault, map_fault}
use Rattle.host_state.proofs.Tests.{prog_fault, named_fault, linked_at}
use Rattle.host_state.specs.Act.{Outcome, act, object_fault, if_live, live_map, attr_if_live, operated_to, unless}
use Rattle.host_state.specs.Hosts.{Entries, entry_at, held, host_of, state_of, view_of, frozen_of, live_in, live_target_in}
use Rattle.host_operations.specs.Operated.{operation_fault, link_fault, PutsLive, OperatesOn}
use Rattle.host_undoing.specs.Answers.{Answers, IsReason, IsUnchanged}
use Rattle.host_undoing.proofs.Parts.{IsApplied}
use Rattle.host_state.proofs.ByIdLemmas.{same_some}
use Rattle.host_state.proofs.HostLemmas.{get-hosts_of, live_prog_host, held_some}
use Rattle.host_operations.proofs.OperatedLemmas.{MayOperate, host_there, live_there}

-- ---- what stands against it
abbrev template_of_entry : Option MapEntry → Option MapAttr
template_of_entry entry = option_and_then (λ (e : MapEntry). e.template) entry

abbrev pub named_fault_in : ById Seen → Entries → Option MapAttr → Target → Option Error
named_fault_in boxes entries template target = object_fault (live_in boxes entries) (live_target_in entries) template target

abbrev pub link_fault_in : ById Seen → Entries → ℕ → List ℕ → ℕ → ℕ → Option Error
link_fault_in boxes entries id key named flag = link_fault boxes entries (template_of_entry (held (entry_at entries id))) (map.get boxes id) key named flag

acts_link : (s : State) (id : ℕ) (key : List ℕ) (named flag : ℕ) → act s (Link id key named flag) ≡ linked_at s id (live_map s id) key named flag
unfolding act
acts_link s id key named flag = refl

-- whatever the map holds
pub link_barred : (boxes : ById Seen) (entries : Entries) (roots : RootsView) (id : ℕ) (key : List ℕ) (named flag : ℕ) (errno : Error)
    → is_some (entry_at entries id) ≡ is_some (map.get boxes id) → operation_fault (frozen_of (held (entry_at entries id))) Console flag ≡ Some errno
    → act (state_of boxes entries roots) (Link id key named flag) ≡ Err errno
link_barred boxes entries roots id key named flag errno same fault =
    let s = state_of boxes entries roots in
    acts_link s id key named flag
    ∙ ap (λ o. linked_at s id (if_live o) key named flag) (get-hosts_of boxes entries id)
    ∙ by_entry s (entry_at entries id) (map.get boxes id) same fault
  where
    by_test : (closed barred : Bool) (rest : Outcome) → (if closed then Some EINVAL else if barred then Some EPERM else None) ≡ Some errno
        → (if closed then Err EINVAL else if barred then Err EPERM else rest) ≡ Err errno
    by_test true barred rest e = ap Err (same_some e)
    by_test false true rest e = ap Err (same_some e)
    by_test false false rest e = cc

    by_live : (s : State) (m : HostMap) (live frozen : Bool) → m.frozen ≡ frozen → operation_fault (if live then Some frozen else None) Console flag ≡ Some errno
        → linked_at s id (if live then Some m else None) key named flag ≡ Err errno
    by_live s m true frozen f e =
        by_test (not (is_flag flag)) m.frozen (unless (form_fault m.attr key flag) (unless (named_fault s m.template (named_in m.attr.kind named)) (operated_to s id m (SetLinkOp key named flag) (map_step m.attr m.contents (SetLinkOp key named flag)))))
        (ap (λ b. if not (is_flag flag) then Some EINVAL else if b then Some EPERM else None) f ∙ e)
    by_live s m false frozen f e = ap Err (same_some e)

    by_entry : (s : State) (o : Option (Option MapEntry)) (box : Option Seen) → is_some o ≡ is_some box → operation_fault (frozen_of (held o)) Console flag ≡ Some errno
        → linked_at s id (if_live (host_of box (held o))) key named flag ≡ Err errno
    by_entry s None None same e = ap Err (same_some e)
    by_entry s None (Some b) same e = cc
    by_entry s (Some entry) None same e = cc
    by_entry s (Some None) (Some b) same e = ap Err (same_some e)
    by_entry s (Some (Some entry)) (Some b) same e = by_live s (hosted (make_of b) b.contents entry) entry.live entry.frozen refl e

-- a link at a live map that may be written
passes : (s : State) (id : ℕ) (m : HostMap) (key : List ℕ) (named flag : ℕ) → live_map s id ≡ Some m → is_flag flag ≡ true → m.frozen ≡ false
    → linked_at s id (live_map s id) key named flag
    ≡ unless (form_fault m.attr key flag) (unless (named_fault s m.template (named_in m.attr.kind named)) (operated_to s id m (SetLinkOp key named flag) (map_step m.attr m.contents (SetLinkOp key named flag))))
passes s id m key named flag live flagged thawed =
    let rest = unless (form_fault m.attr key flag) (unless (named_fault s m.template (named_in m.attr.kind named)) (operated_to s id m (SetLinkOp key named flag) (map_step m.attr m.contents (SetLinkOp key named flag)))) in
    ap (λ o. linked_at s id o key named flag) live
    ∙ ap (λ b. if not b then Err EINVAL else if m.frozen then Err EPERM else rest) flagged
    ∙ ap (λ b. if b then Err EPERM else rest) thawed

no_fault : (a b : Option Error) (rest : Outcome) → option_or a b ≡ None → unless a (unless b rest) ≡ rest
no_fault None None rest e = refl
no_fault None (Some x) rest e = cc
no_fault (Some x) b rest e = cc

one_fault : (a b : Option Error) (rest : Outcome) (errno : Error) → option_or a b ≡ Some errno → unless a (unless b rest) ≡ Err errno
one_fault None None rest errno e = cc
one_fault None (Some x) rest errno e = ap Err (same_some e)
one_fault (Some x) b rest errno e = ap Err (same_some e)

-- what stands against the object that is named is told of its box and its entry
named_is : (boxes : ById Seen) (entries : Entries) (roots : RootsView) (template : Option MapAttr) (target : Target) → named_fault (state_of boxes entries roots) template target ≡ named_fault_in boxes entries template target
named_is boxes entries roots template (Map id) = ap (λ o. map_fault template (attr_if_live (if_live o))) (get-hosts_of boxes entries id)
named_is boxes entries roots template (Prog id) = ap prog_fault (sym (live_prog_host entries id))

-- if nothing stands against it, it is live
no_other : (a b : Option Error) → option_or a b ≡ None → b ≡ None
no_other None b e = e
no_other (Some x) b e = cc

live_named : (boxes : ById Seen) (entries : Entries) (template : Option MapAttr) (target : Target) → named_fault_in boxes entries template target ≡ None → IsTrue (live_target_in entries target)
live_named boxes entries template (Map id) e = by_box (map.get boxes id) (held (entry_at entries id)) e
  where
    by_live : (s : Seen) (entry : MapEntry) (live : Bool) → map_fault template (attr_if_live (if live then Some (hosted (make_of s) s.contents entry) else None)) ≡ None → is_some (if live then Some entry.frozen else None) ≡ true
    by_live s entry true e = refl
    by_live s entry false e = cc

    by_box : (box : Option Seen) (o : Option MapEntry) → map_fault template (attr_if_live (if_live (host_of box o))) ≡ None → is_some (frozen_of o) ≡ true
    by_box None o e = cc
    by_box (Some s) None e = cc
    by_box (Some s) (Some entry) e = by_live s entry entry.live e
live_named boxes entries template (Prog id) e = of_prog (live_target_in entries (Prog id)) e
  where
    of_prog : (live : Bool) → prog_fault live ≡ None → live ≡ true
    of_prog true e = refl
    of_prog false e = cc

-- the fault that is told of what a link names, if its form has none
pub fault_told : (boxes : ById Seen) (entries : Entries) (template : Option MapAttr) (box : Option Seen) (make : Make) (key : List ℕ) (named flag : ℕ) → Some make ≡ option_map make_of box
    → None ≡ form_fault make.attr key flag → named_fault_in boxes entries template (named_in make.attr.kind named) ≡ link_fault boxes entries template box key named flag
fault_told boxes entries template None make key named flag is form = cc
fault_told boxes entries template (Some s) make key named flag is form =
    let same : make ≡ make_of s = same_some is in
    ap (λ (m : Make). named_fault_in boxes entries template (named_in m.attr.kind named)) same
    ∙ ap (λ o. option_or o (named_fault_in boxes entries template (named_in s.attr.kind named))) (form ∙ ap (λ (m : Make). form_fault m.attr key flag) same)

record IsBoxed (boxes : ById Seen) (entries : Entries) (id : ℕ) (entry : MapEntry) : Type 0 where
  box : Seen
  there : map.get boxes id ≡ Some box

boxed : (boxes : ById Seen) (entries : Entries) (id : ℕ) (entry : MapEntry) → is_some (entry_at entries id) ≡ is_some (map.get boxes id) → held (entry_at entries id) ≡ Some entry → IsBoxed boxes entries id entry
boxed boxes entries id entry same is = at (map.get boxes id) refl (sym same ∙ ap is_some (held_some (entry_at entries id) entry is))
  where
    at : (b : Option Seen) → map.get boxes id ≡ b → is_some (map.get boxes id) ≡ true → IsBoxed boxes entries id entry
    at None e there = cc (ap is_some e, there)
    at (Some b) e there = record { box = b; there = e }

module _ (boxes : ById Seen) (entries : Entries) (roots : RootsView) (id : ℕ) (key : List ℕ) (named flag : ℕ) (same : is_some (entry_at entries id) ≡ is_some (map.get boxes id))
    (may : MayOperate (held (entry_at entries id)) Console flag) where
  s : State
  s = state_of boxes entries roots

  b : IsBoxed boxes entries id may.entry
  b = boxed boxes entries id may.entry same may.is

  host : HostMap
  host = hosted (make_of b.box) b.box.contents may.entry

  here : map.get s.maps id ≡ Some host
  unfolding s host
  here = host_there boxes entries id b.box may.entry b.there may.is

  faults : link_fault_in boxes entries id key named flag ≡ option_or (form_fault host.attr key flag) (named_fault s host.template (named_in host.attr.kind named))
  unfolding s host
  faults =
      (λ i. link_fault boxes entries (template_of_entry (may.is i)) (b.there i) key named flag)
      ∙ ap (option_or (form_fault b.box.attr key flag)) (sym (named_is boxes entries roots may.entry.template (named_in b.box.attr.kind named)))

  acts : act s (Link id key named flag)
      ≡ unless (form_fault host.attr key flag) (unless (named_fault s host.template (named_in host.attr.kind named)) (operated_to s id host (SetLinkOp key named flag) (map_step host.attr host.contents (SetLinkOp key named flag))))
  unfolding host
  acts =
      acts_link s id key named flag
      ∙ passes s id host key named flag (live_there s id host here may.live) may.flagged may.unbarred

  pub link_faulty : (errno : Error) → link_fault_in boxes entries id key named flag ≡ Some errno → act (state_of boxes entries roots) (Link id key named flag) ≡ Err errno
  unfolding s
  link_faulty errno fault =
      acts ∙ one_fault (form_fault host.attr key flag) (named_fault s host.template (named_in host.attr.kind named)) (operated_to s id host (SetLinkOp key named flag) (map_step host.attr host.contents (SetLinkOp key named flag))) errno (sym faults ∙ fault)

  -- nothing stands against it but what the map holds
  module _ (none : link_fault_in boxes entries id key named flag ≡ None) where
    goes_on : (found : HostMap) → map.get s.maps id ≡ Some found → act s (Link id key named flag) ≡ operated_to s id found (SetLinkOp key named flag) (map_step found.attr found.contents (SetLinkOp key named flag))
    goes_on found there =
        acts
        ∙ no_fault (form_fault host.attr key flag) (named_fault s host.template (named_in host.attr.kind named)) (operated_to s id host (SetLinkOp key named flag) (map_step host.attr host.contents (SetLinkOp key named flag))) (sym faults ∙ none)
        ∙ ap (λ (m : HostMap). operated_to s id m (SetLinkOp key named flag) (map_step m.attr m.contents (SetLinkOp key named flag))) (same_some (sym here ∙ there))

    pub link_done : (new : ById Seen) (after : Entries) (work left : ℕ) (reply : Reply) (undoing : Undoing) → OperatesOn (view_of boxes entries roots work) id (SetLinkOp key named flag) (Ok (reply, undoing)) (view_of new after roots left)
        → IsApplied (view_of boxes entries roots work) (Link id key named flag) reply undoing (view_of new after roots left)
    unfolding s
    link_done new after work left reply undoing d = record {
      acts = goes_on d.0 d.1 ∙ d.2.acts;
      joins = d.2.joins;
      own = d.2.own;
      retires = d.2.retires;
      boxes = d.2.boxes;
    }

    pub link_refused : (new : ById Seen) (after : Entries) (work left : ℕ) (refusal : Refusal) → OperatesOn (view_of boxes entries roots work) id (SetLinkOp key named flag) (Err refusal) (view_of new after roots left)
        → IsReason (view_of boxes entries roots work) (Link id key named flag) refusal × IsUnchanged (view_of boxes entries roots work) (view_of new after roots left)
    unfolding s
    link_refused new after work left (Errno errno) r = ((tt, goes_on r.0 r.1 ∙ ap (operated_to (state_of boxes entries roots) id r.0 (SetLinkOp key named flag)) r.2), r.3)
    link_refused new after work left NoMemory same = (tt, same)
    link_refused new after work left WrongBlank h = absurd h
    link_refused new after work left JournalFull h = absurd h
    link_refused new after work left BudgetFull h = absurd h
    link_refused new after work left SerialsSpent h = absurd h
    link_refused new after work left IdsSpent h = absurd h

    pub link_told : (new : ById Seen) (after : Entries) (work left : ℕ) (result : Result (Reply × Undoing) Refusal) → OperatesOn (view_of boxes entries roots work) id (SetLinkOp key named flag) result (view_of new after roots left)
        → Answers (view_of boxes entries roots work) (Link id key named flag) result (view_of new after roots left)
    link_told new after work left (Ok done) d = link_done new after work left done.0 done.1 d
    link_told new after work left (Err refusal) r = link_refused new after work left refusal r

  -- what is named is live
  pub link_puts : link_fault_in boxes entries id key named flag ≡ None → PutsLive boxes entries id (SetLinkOp key named flag)
  link_puts none x other there put =
      let fault = no_other (form_fault b.box.attr key flag) (named_fault_in boxes entries may.entry.template (named_in b.box.attr.kind named))
      ((λ i. link_fault boxes entries (template_of_entry (sym may.is i)) (sym b.there i) key named flag) ∙ none) in
      subst (λ (y : Seen). IsTrue (live_target_in entries (named_in y.attr.kind other))) (same_some (sym b.there ∙ there))
      (subst (λ n. IsTrue (live_target_in entries (named_in b.box.attr.kind n))) (sym put) (live_named boxes entries may.entry.template (named_in b.box.attr.kind named) fault))

  -- the map has good attributes
  pub linked_good : ((e : MapEntry) (x : Seen) → entry_at entries id ≡ Some (Some e) → map.get boxes id ≡ Some x → IsTrue (good x.attr)) → option_map (λ (x : Seen). good x.attr) (map.get boxes id) ≡ Some true
  linked_good fine = ap (option_map (λ (x : Seen). good x.attr)) b.there ∙ ap Some (fine may.entry b.box (held_some (entry_at entries id) may.entry may.is) b.there)
