-- Boxes by id: what is seen under an id, and what a change of one box changes.
use Rattle.std.proofs.Common.{◌≡◌, ℕ, ◌+◌, Bool, true, false, List, [], ◌∷◌, Option, Some, None, cond, is_some, refl, sym, ap, subst, ◌∙◌, arith, add_comm, add_assoc}
use Rattle.std.specs.Map.{lookup}
use Rattle.std.specs.BTreeMap as tree
use Rattle.std.specs.BTreeMap.{is_at, UpdatesBy}
use Rattle.std.specs.Ordering.{nat_cmp, eq_by_cmp, is_eq}
use Rattle.std.specs.declared.cmp.Ordering.{Ordering}
use Rattle.std.specs.declared.cmp.Ordering.TheVariants.{Less, Equal, Greater}
use Rattle.std.specs.List.{sum_by}
use Rattle.std.proofs.lemmas.List.Sums.{sum_by-cons}
use Rattle.std.specs.Cmp.{nat_cmp_total, eq_by_cmp_equiv, tied_itself}
use Rattle.std.specs.FinMap as map
use Rattle.std.specs.FinMap.{nat_cmp-IsAntisymmetric, find, put}
use Rattle.std.specs.FinMap.Entries.{by_order}
use Rattle.bt_mapkind.specs.Seen.{Seen}
use Rattle.std.proofs.Common.{Result, Ok, Err, IsOk, OnOk, is_err, IsSome, IsTrue, ◌↔◌, length}
use Rattle.bt_mapkind.specs.Exchange.{exchange_fits}
use Rattle.std.specs.Option.{MatchOption, IfSome}
use Rattle.bt_mapkind.specs.declared.exchange.Back.{Back}
use Rattle.bt_mapkind.specs.declared.errno.Errno.TheVariants.{ENOENT}
use Rattle.bt_mapkind.specs.declared.request.MapFault.{MapFault}
use Rattle.bt_mapkind.specs.declared.request.MapFault.TheVariants.{Errno}
use Rattle.bt_mapkind.specs.declared.request.MapOp.{MapOp}
use Rattle.bt_mapkind.specs.declared.request.MapReply.{MapReply}
use Rattle.bt_mapkind.specs.declared.request.Query.{Query}
use Rattle.bt_mapkind.specs.Answers.{IsAnswer, IsTurned}
use Rattle.bt_objects.specs.declared.operated.Operated.{Operated}
use Rattle.bt_objects.specs.Boxes.{ById, seen_boxes, charged_of, ReadAt, TurnedAt, LeadsTo}
use Rattle.bt_objects.specs.Operations.{Operates, OperatedAt}

-- what is seen under an id
find-seen : (bs : List (ℕ × Seen)) (id : ℕ) → find nat_cmp id bs ≡ lookup (is_at (nat_cmp id)) bs
find-seen [] id = refl
find-seen (b ∷ bs) id = ap (cond (eq_by_cmp nat_cmp id b.0) (Some b.1)) (find-seen bs id)

pub get-seen_boxes : (bs : List (ℕ × Seen)) (id : ℕ) → map.get (seen_boxes bs) id ≡ lookup (is_at (nat_cmp id)) bs
get-seen_boxes bs id = map.get-from_entries nat_cmp_total _ id ∙ find-seen bs id

-- a box that the tree finds is seen; with none, nothing is
pub seen_there : (m : tree.BTreeMap ℕ Seen) (id : ℕ) (s : Seen) → Some s ≡ tree.get_by (nat_cmp id) m → map.get (seen_boxes m.entries) id ≡ Some s
seen_there m id s e = get-seen_boxes m.entries id ∙ sym e

pub nothing_there : (m : tree.BTreeMap ℕ Seen) (id : ℕ) → None ≡ tree.get_by (nat_cmp id) m → map.get (seen_boxes m.entries) id ≡ None
nothing_there m id e = get-seen_boxes m.entries id ∙ sym e

-- one box put under an id
pub seen_boxes-updated : (m n : tree.BTreeMap ℕ Seen) (id : ℕ) (s : Seen) → UpdatesBy nat_cmp (nat_cmp id) m n (Some s) → seen_boxes n.entries ≡ map.insert (seen_boxes m.entries) id s
seen_boxes-updated m n id s u =
    map.same_map nat_cmp_total nat_cmp-IsAntisymmetric _ _ (λ q.
    get-seen_boxes n.entries q
    ∙ u.0 q
    ∙ ap (λ b. cond b (Some s) (tree.get nat_cmp m q)) ((eq_by_cmp_equiv nat_cmp_total).symm id q)
    ∙ ap (cond (eq_by_cmp nat_cmp q id) (Some s)) (sym (get-seen_boxes m.entries q))
    ∙ sym (map.get-insert nat_cmp_total (seen_boxes m.entries) id s q))

-- ---- charges
-- the charge of a box that is put where none is
sum-put : (id : ℕ) (s : Seen) (es : List (ℕ × Seen)) → find nat_cmp id es ≡ None → sum_by (λ e. e.1.charge) (put nat_cmp id s es) ≡ sum_by (λ e. e.1.charge) es + s.charge
sum-put id s [] none = omega arith
sum-put id s (e ∷ es) none = cases (nat_cmp id e.0) none (sum-put id s es)
  where
    cases : (order : Ordering) → cond (is_eq order) (Some e.1) (find nat_cmp id es) ≡ None
        → (find nat_cmp id es ≡ None → sum_by (λ e. e.1.charge) (put nat_cmp id s es) ≡ sum_by (λ e. e.1.charge) es + s.charge)
        → sum_by (λ e. e.1.charge) (by_order order ((id, s) ∷ e ∷ es) ((e.0, s) ∷ es) (e ∷ put nat_cmp id s es)) ≡ sum_by (λ e. e.1.charge) (e ∷ es) + s.charge
    cases Less none rest = sum_by-cons (λ (e : ℕ × Seen). e.1.charge) (id, s) (e ∷ es) ∙ add_comm s.charge _
    cases Equal none rest = cc
    cases Greater none rest =
        sum_by-cons (λ (e : ℕ × Seen). e.1.charge) e (put nat_cmp id s es) ∙ ap (λ n. e.1.charge + n) (rest none)
        ∙ sym (add_assoc e.1.charge (sum_by (λ e. e.1.charge) es) s.charge) ∙ ap (λ n. n + s.charge) (sym (sum_by-cons (λ (e : ℕ × Seen). e.1.charge) e es))

pub charged_of-insert : (boxes : ById Seen) (id : ℕ) (s : Seen) → map.get boxes id ≡ None → charged_of (map.insert boxes id s) ≡ charged_of boxes + s.charge
charged_of-insert boxes id s none =
    ap (sum_by (λ e. e.1.charge)) (map.entries-insert nat_cmp_total boxes id s)
    ∙ sum-put id s (map.entries boxes) (sym (map.get-entries boxes id) ∙ none)

-- a box that another of the same charge replaces
same_id : (q : ℕ) → eq_by_cmp nat_cmp q q ≡ true
same_id q = ap is_eq (tied_itself nat_cmp_total q)

replaced : (boxes : ById Seen) (id : ℕ) (s : Seen) → map.insert (map.remove boxes id) id s ≡ map.insert boxes id s
replaced boxes id s =
    map.same_map nat_cmp_total nat_cmp-IsAntisymmetric _ _ (λ q.
    map.get-insert nat_cmp_total (map.remove boxes id) id s q
    ∙ ap (cond (eq_by_cmp nat_cmp q id) (Some s)) (map.get-remove nat_cmp_total boxes id q)
    ∙ twice (eq_by_cmp nat_cmp q id) (map.get boxes q)
    ∙ sym (map.get-insert nat_cmp_total boxes id s q))
  where
    twice : (b : Bool) (o : Option Seen) → cond b (Some s) (cond b None o) ≡ cond b (Some s) o
    twice true o = refl
    twice false o = refl

restored : (boxes : ById Seen) (id : ℕ) (s : Seen) → map.get boxes id ≡ Some s → map.insert boxes id s ≡ boxes
restored boxes id s there =
    map.same_map nat_cmp_total nat_cmp-IsAntisymmetric _ _ (λ q.
    map.get-insert nat_cmp_total boxes id s q ∙ cases q (eq_by_cmp nat_cmp q id) refl)
  where
    cases : (q : ℕ) (b : Bool) → eq_by_cmp nat_cmp q id ≡ b → cond b (Some s) (map.get boxes q) ≡ map.get boxes q
    cases q true tied = sym (ap (map.get boxes) (nat_cmp-IsAntisymmetric q id (equal_of (nat_cmp q id) tied)) ∙ there)
      where
        equal_of : (order : Ordering) → is_eq order ≡ true → order ≡ Equal
        equal_of Less e = cc
        equal_of Equal e = refl
        equal_of Greater e = cc
    cases q false apart = refl

pub charged_of-replaced : (boxes : ById Seen) (id : ℕ) (s t : Seen) → map.get boxes id ≡ Some s → t.charge ≡ s.charge → charged_of (map.insert boxes id t) ≡ charged_of boxes
charged_of-replaced boxes id s t there same =
    let gone : map.get (map.remove boxes id) id ≡ None = map.get-remove nat_cmp_total boxes id id ∙ ap (λ b. cond b None (map.get boxes id)) (same_id id) in
    ap charged_of (sym (replaced boxes id t))
    ∙ charged_of-insert (map.remove boxes id) id t gone
    ∙ ap (λ n. charged_of (map.remove boxes id) + n) same
    ∙ sym (charged_of-insert (map.remove boxes id) id s gone)
    ∙ ap charged_of (replaced boxes id s ∙ restored boxes id s there)

-- ---- what a layer above is told
pub read_there : (m : tree.BTreeMap ℕ Seen) (id : ℕ) (s : Seen) (query : Query) (result : Result MapReply MapFault) → Some s ≡ tree.get_by (nat_cmp id) m → IsAnswer s query result → ReadAt (seen_boxes m.entries) id query result
read_there m id s query result e answer =
    subst (λ o. MatchOption o (result ≡ Err (Errno ENOENT)) (λ s. IsAnswer s query result)) (sym (seen_there m id s e)) answer

pub read_nothing : (m : tree.BTreeMap ℕ Seen) (id : ℕ) (query : Query) → None ≡ tree.get_by (nat_cmp id) m → ReadAt (seen_boxes m.entries) id query (Err (Errno ENOENT))
read_nothing m id query e =
    subst (λ o. MatchOption o (let r : Result MapReply MapFault = Err (Errno ENOENT) in r ≡ Err (Errno ENOENT)) (λ s. IsAnswer s query (Err (Errno ENOENT)))) (sym (nothing_there m id e)) refl

-- a box led by a write through what the tree lent
pub leads_to : (m n : tree.BTreeMap ℕ Seen) (id : ℕ) (s : Seen) (P : Seen → Type 0) → UpdatesBy nat_cmp (nat_cmp id) m n (Some s) → P s → LeadsTo (seen_boxes m.entries) (seen_boxes n.entries) id P
leads_to m n id s P u p = record { seen = s; led = p; others = seen_boxes-updated m n id s u }

pub operated_there : (m n : tree.BTreeMap ℕ Seen) (id : ℕ) (s s' : Seen) (op : MapOp) (result : Result Operated MapFault) → Some s ≡ tree.get_by (nat_cmp id) m → UpdatesBy nat_cmp (nat_cmp id) m n (Some s')
    → Operates s op result s' → OperatedAt (seen_boxes m.entries) id op result (seen_boxes n.entries)
operated_there m n id s s' op result e u operates =
    subst (λ o. MatchOption o ((result ≡ Err (Errno ENOENT)) × (seen_boxes n.entries ≡ seen_boxes m.entries)) (λ s. LeadsTo (seen_boxes m.entries) (seen_boxes n.entries) id (λ s'. Operates s op result s')))
    (sym (seen_there m id s e)) (leads_to m n id s' (λ s'. Operates s op result s') u operates)

pub operated_nothing : (m n : tree.BTreeMap ℕ Seen) (id : ℕ) (op : MapOp) → None ≡ tree.get_by (nat_cmp id) m → n ≡ m → OperatedAt (seen_boxes m.entries) id op (Err (Errno ENOENT)) (seen_boxes n.entries)
operated_nothing m n id op e same =
    subst (λ o. MatchOption o ((let r : Result Operated MapFault = Err (Errno ENOENT) in r ≡ Err (Errno ENOENT)) × (seen_boxes n.entries ≡ seen_boxes m.entries)) (λ s. LeadsTo (seen_boxes m.entries) (seen_boxes n.entries) id (λ s'. Operates s op (Err (Errno ENOENT)) s')))
    (sym (nothing_there m id e)) (refl, ap (λ (t : tree.BTreeMap ℕ Seen). seen_boxes t.entries) same)

pub turned_there : (m n : tree.BTreeMap ℕ Seen) (id : ℕ) (s s' : Seen) (back left : Back) → Some s ≡ tree.get_by (nat_cmp id) m → UpdatesBy nat_cmp (nat_cmp id) m n (Some s')
    → IsTurned s back s' left → TurnedAt (seen_boxes m.entries) id back (Ok tt) (seen_boxes n.entries) left
turned_there m n id s s' back left e u turned =
    subst (λ o. MatchOption o ((let r : Result (Unit {0}) MapFault = Ok tt in r ≡ Err (Errno ENOENT)) × (seen_boxes n.entries ≡ seen_boxes m.entries) × (left ≡ back)) (λ s. IsOk (let r : Result (Unit {0}) MapFault = Ok tt in r) × LeadsTo (seen_boxes m.entries) (seen_boxes n.entries) id (λ s'. IsTurned s back s' left)))
    (sym (seen_there m id s e)) (refl, leads_to m n id s' (λ s'. IsTurned s back s' left) u turned)

pub turned_nothing : (m n : tree.BTreeMap ℕ Seen) (id : ℕ) (back : Back) → None ≡ tree.get_by (nat_cmp id) m → n ≡ m → TurnedAt (seen_boxes m.entries) id back (Err (Errno ENOENT)) (seen_boxes n.entries) back
turned_nothing m n id back e same =
    subst (λ o. MatchOption o ((let r : Result (Unit {0}) MapFault = Err (Errno ENOENT) in r ≡ Err (Errno ENOENT)) × (seen_boxes n.entries ≡ seen_boxes m.entries) × (back ≡ back)) (λ s. IsOk (let r : Result (Unit {0}) MapFault = Err (Errno ENOENT) in r) × LeadsTo (seen_boxes m.entries) (seen_boxes n.entries) id (λ s'. IsTurned s back s' back)))
    (sym (nothing_there m id e)) (refl, ap (λ (t : tree.BTreeMap ℕ Seen). seen_boxes t.entries) same, refl)

-- charges stay where a box is led
pub charge_stays : (old new : ById Seen) (id : ℕ) (s t : Seen) → map.get old id ≡ Some s → new ≡ map.insert old id t → t.charge ≡ s.charge → charged_of new ≡ charged_of old
charge_stays old new id s t there is same = ap charged_of is ∙ charged_of-replaced old id s t there same

pub operate_charge : (old new : ById Seen) (id : ℕ) (op : MapOp) (result : Result Operated MapFault) → OperatedAt old id op result new → charged_of new ≡ charged_of old
operate_charge old new id op result h = cases (map.get old id) refl h
  where
    of : (s t : Seen) (result : Result Operated MapFault) → Operates s op result t → t.charge ≡ s.charge
    of s t (Ok left) operated = operated.done.make.charge
    of s t (Err fault) operated = ap (λ s. s.charge) operated.1

    cases : (o : Option Seen) → map.get old id ≡ o → MatchOption o ((result ≡ Err (Errno ENOENT)) × (new ≡ old)) (λ s. LeadsTo old new id (λ s'. Operates s op result s')) → charged_of new ≡ charged_of old
    cases None there h = ap charged_of h.1
    cases (Some s) there h = charge_stays old new id s h.seen there h.others (of s h.seen result h.led)

pub turn_charge : (old new : ById Seen) (id : ℕ) (back left : Back) (result : Result (Unit {0}) MapFault) → TurnedAt old id back result new left → charged_of new ≡ charged_of old
turn_charge old new id back left result h = cases (map.get old id) refl h
  where
    cases : (o : Option Seen) → map.get old id ≡ o → MatchOption o ((result ≡ Err (Errno ENOENT)) × (new ≡ old) × (left ≡ back)) (λ s. IsOk result × LeadsTo old new id (λ s'. IsTurned s back s' left)) → charged_of new ≡ charged_of old
    cases None there h = ap charged_of h.1
    cases (Some s) there h = charge_stays old new id s h.1.seen there h.1.others h.1.led.make.charge

pub is_some-seen : (m : tree.BTreeMap ℕ Seen) (id : ℕ) → is_some (map.get (seen_boxes m.entries) id) ≡ is_some (tree.get_by (nat_cmp id) m)
is_some-seen m id = ap is_some (get-seen_boxes m.entries id)

-- an exchange that fits what is seen under an id fits the box there
pub fits_there : (m : tree.BTreeMap ℕ Seen) (id : ℕ) (s : Seen) (back : Back) → Some s ≡ tree.get_by (nat_cmp id) m
    → IfSome (map.get (seen_boxes m.entries) id) (λ s. IsTrue (exchange_fits s.attr s.contents back)) → IsTrue (exchange_fits s.attr s.contents back)
fits_there m id s back e fits = subst (λ o. IfSome o (λ s. IsTrue (exchange_fits s.attr s.contents back))) (seen_there m id s e) fits

pub fits_seen : (m : tree.BTreeMap ℕ Seen) (id : ℕ) (s : Seen) (back : Back) (b : Bool) → Some s ≡ tree.get_by (nat_cmp id) m → b ≡ exchange_fits s.attr s.contents back
    → IsTrue b ↔ IfSome (map.get (seen_boxes m.entries) id) (λ s. IsTrue (exchange_fits s.attr s.contents back))
fits_seen m id s back b e is =
    subst (λ o. IsTrue b ↔ IfSome o (λ s. IsTrue (exchange_fits s.attr s.contents back))) (sym (seen_there m id s e)) (λ holds. sym is ∙ holds, λ fits. is ∙ fits)

pub fits_nothing : (m : tree.BTreeMap ℕ Seen) (id : ℕ) (back : Back) → None ≡ tree.get_by (nat_cmp id) m
    → IsTrue true ↔ IfSome (map.get (seen_boxes m.entries) id) (λ s. IsTrue (exchange_fits s.attr s.contents back))
fits_nothing m id back e =
    subst (λ o. IsTrue true ↔ IfSome o (λ s. IsTrue (exchange_fits s.attr s.contents back))) (sym (nothing_there m id e)) (λ _. tt, λ _. refl)

pub charged_of-none : (es : List (ℕ × Seen)) → es ≡ [] → charged_of (seen_boxes es) ≡ 0
charged_of-none es none = ap (λ es. charged_of (seen_boxes es)) none ∙ ap (sum_by (λ e. e.1.charge)) (no_entries nat_cmp)
  where
    no_entries : (R : ℕ → ℕ → Ordering) → map.entries (map.empty {X = Seen} {R = R}) ≡ []
    no_entries R = no_length (map.entries map.empty) (sym (map.len-entries map.empty) ∙ map.len-empty R Seen)
      where
        no_length : (es : List (ℕ × Seen)) → length es ≡ 0 → es ≡ []
        no_length [] e = refl
        no_length (x ∷ es) e = absurd (omega arith)

-- a test that says whether something is there, and a call that did not fail
pub none_of : {X : Type 0} (o : Option X) (b : Bool) → (IsSome o → b ≡ true) → b ≡ false → o ≡ None
none_of None b there is = refl
none_of (Some x) b there is = absurd (clash (sym is ∙ there refl))
  where
    clash : false ≡ true → ⊥
    clash e = cc

pub ok_of : {T E : Type 0} (r : Result T E) (P : Type 0) → OnOk r P → is_err r ≡ false → P
ok_of (Ok x) P p is = p
ok_of (Err e) P p is = absurd (clash is)
  where
    clash : true ≡ false → ⊥
    clash e = cc
