-- The links that are read from the boxes are those of the state.
use Rattle.std.proofs.Common.{◌≡◌, ◌+◌, ◌<◌, ◌≤◌, ℕ, Bool, true, false, List, [], ◌∷◌, ◌++◌, length, drop, get_or, map as each, Option, Some, None, cond, refl, sym, ap, ◌∙◌, arith, add-one, append-nil as append_nil}
use Rattle.std.specs.Prelude.{if◌then◌else◌}
use Rattle.std.proofs.lemmas.List.{append_assoc, drop_more}
use Rattle.std.proofs.lemmas.Grind.{flat_map-append}
use Rattle.std.specs.List.Sorted.{IsStrictlySortedBy}
use Rattle.std.specs.Map.{keys_of}
use Rattle.std.specs.Ordering.{nat_cmp, eq_by_cmp}
use Rattle.std.specs.Option.{option_map, option_to_list}
use Rattle.std.specs.List.{flat_map, filter_map, range_with_len}
use Rattle.std.proofs.lemmas.List.Elements.{filter_map-append}
use Rattle.std.specs.FinMap as map
use Rattle.bt_mapkind.specs.Seen.{Seen}
use Rattle.bt_mapkind.specs.Attributes.{good}
use Rattle.bt_mapkind.specs.Well.{IsWell}
use Rattle.bt_objects.specs.Boxes.{ById, make_of}
use Rattle.bt_roots.specs.declared.target.Target.{Target}
use Rattle.bt_roots.specs.declared.target.Target.TheVariants.{Map, Prog}
use Rattle.bt_roots.specs.Reachable.{Links}
use Rattle.host_state.specs.Settled.{named_in, links_of_map, links_of_prog}
use Rattle.bt_mapkind.specs.Inner.{holds_ids}
use Rattle.host_state.specs.State.{HostMap, HostProg, hosted}
use Rattle.host_state.specs.declared.entry.MapEntry.{MapEntry}
use Rattle.bt_mapkind.specs.declared.attr.MapType.{MapType}
use Rattle.bt_mapkind.specs.declared.attr.MapAttr.{MapAttr}
use Rattle.host_retirement.proofs.EntryLemmas.{link_from, range_push, with_id, listed, host_at, prog_itself, none_at, hosts_listed, progs_listed}
use Rattle.host_retirement.specs.Gathered.{id_at, links_read, links_at, links_by, links_by_prog, count_at}
use Rattle.host_state.specs.Hosts.{Entries, Table, found_in, entry_at, host_of, hosts_of, progs_of, IsBuilt}
use Rattle.host_state.proofs.ByIdLemmas.{is_itself, same_of}
use Rattle.host_retirement.proofs.IdLemmas.{no_ids_in, one_kept, links_are_ids}
use Rattle.host_state.proofs.ReviveLemmas.{drop_end}

-- what is kept of one number more
pub kept_push : {X : Type 0} (f : ℕ → Option X) (n : ℕ) → filter_map f (range_with_len 0 (n + 1)) ≡ filter_map f (range_with_len 0 n) ++ option_to_list (f n)
kept_push f n =
    let same : 0 + n ≡ n = omega arith in
    ap (λ k. filter_map f (range_with_len 0 k)) (add-one n)
    ∙ ap (filter_map f) (range_push 0 n)
    ∙ filter_map-append f (range_with_len 0 n) ((0 + n) ∷ [])
    ∙ ap (λ k. filter_map f (range_with_len 0 n) ++ filter_map f (k ∷ [])) same
    ∙ ap (λ xs. filter_map f (range_with_len 0 n) ++ xs) (one_kept f n)

pub kept_more : {X : Type 0} (f : ℕ → Option X) (n : ℕ) (x : X) (before after : List X) → Some x ≡ f n → before ≡ filter_map f (range_with_len 0 n) → after ≡ before ++ x ∷ []
    → after ≡ filter_map f (range_with_len 0 (n + 1))
kept_more f n x before after is was pushed =
    pushed ∙ ap (λ xs. xs ++ x ∷ []) was ∙ ap (λ o. filter_map f (range_with_len 0 n) ++ option_to_list o) is ∙ sym (kept_push f n)

pub kept_same : {X : Type 0} (f : ℕ → Option X) (n : ℕ) (before after : List X) → None ≡ f n → before ≡ filter_map f (range_with_len 0 n) → after ≡ before
    → after ≡ filter_map f (range_with_len 0 (n + 1))
kept_same f n before after is was same =
    same ∙ was ∙ sym (append_nil (filter_map f (range_with_len 0 n))) ∙ ap (λ o. filter_map f (range_with_len 0 n) ++ option_to_list o) is ∙ sym (kept_push f n)

-- the link of one number more
pub links_push : (id : ℕ) (kind : MapType) (box : Option Seen) (n : ℕ) → links_read id kind box (n + 1) ≡ links_read id kind box n ++ option_to_list (option_map (link_from id kind) (id_at box n))
links_push id kind box n = kept_push (λ k. option_map (link_from id kind) (id_at box k)) n

pub some_pushed : (id : ℕ) (kind : MapType) (box : Option Seen) (n named : ℕ) (link : Target × Target) (first before after : Links) → id_at box n ≡ Some named → link ≡ (Map id, named_in kind named)
    → before ≡ first ++ links_read id kind box n → after ≡ before ++ link ∷ [] → after ≡ first ++ links_read id kind box (n + 1)
some_pushed id kind box n named link first before after found is was pushed =
    pushed
    ∙ ap (λ ls. ls ++ link ∷ []) was
    ∙ append_assoc first (links_read id kind box n) (link ∷ [])
    ∙ ap (λ (l : Target × Target). first ++ (links_read id kind box n ++ l ∷ [])) is
    ∙ ap (λ (o : Option ℕ). first ++ (links_read id kind box n ++ option_to_list (option_map (link_from id kind) o))) (sym found)
    ∙ ap (λ ls. first ++ ls) (sym (links_push id kind box n))

pub none_pushed : (id : ℕ) (kind : MapType) (box : Option Seen) (n : ℕ) (first before after : Links) → id_at box n ≡ None
    → before ≡ first ++ links_read id kind box n → after ≡ before → after ≡ first ++ links_read id kind box (n + 1)
none_pushed id kind box n first before after found was same =
    same
    ∙ was
    ∙ ap (λ ls. first ++ ls) (sym (append_nil (links_read id kind box n)))
    ∙ ap (λ (o : Option ℕ). first ++ (links_read id kind box n ++ option_to_list (option_map (link_from id kind) o))) (sym found)
    ∙ ap (λ ls. first ++ ls) (sym (links_push id kind box n))

-- one map or program more
pub one_gathered : {X : Type 0} (f : ℕ × X → Links) (items rest : List (ℕ × X)) (e : ℕ × X) (before after all : Links) → before ++ flat_map f items ≡ all → items ≡ e ∷ rest → after ≡ before ++ f e
    → after ++ flat_map f rest ≡ all
one_gathered {X} f items rest e before after all was steps more =
    ap (λ ls. ls ++ flat_map f rest) more ∙ append_assoc before (f e) (flat_map f rest) ∙ ap (λ (es : List (ℕ × X)). before ++ flat_map f es) (sym steps) ∙ was

-- ---- what a program names
abbrev pub uses_of : ℕ → List (ℕ × MapAttr) → Links
uses_of id maps = each (λ (k : ℕ). (Prog id, Map k)) (each (λ (m : ℕ × MapAttr). m.0) maps)

pub one_used : (id i : ℕ) (maps : List (ℕ × MapAttr)) (d : ℕ × MapAttr) (before after all : Links) → i < length maps → before ++ uses_of id (drop i maps) ≡ all
    → after ≡ before ++ (Prog id, Map (get_or maps i d).0) ∷ [] → after ++ uses_of id (drop (i + 1) maps) ≡ all
one_used id i maps d before after all within was more =
    ap (λ ls. ls ++ uses_of id (drop (i + 1) maps)) more
    ∙ append_assoc before ((Prog id, Map (get_or maps i d).0) ∷ []) (uses_of id (drop (i + 1) maps))
    ∙ ap (λ ms. before ++ uses_of id ms) (sym (drop_more maps i d within))
    ∙ was

pub all_used : (id i : ℕ) (maps : List (ℕ × MapAttr)) (links all : Links) → length maps ≤ i → links ++ uses_of id (drop i maps) ≡ all → links ≡ all
all_used id i maps links all past was = sym (append_nil links) ∙ ap (λ ms. links ++ uses_of id ms) (sym (drop_end maps i past)) ∙ was

-- ---- all of them
abbrev links_of_host : ℕ → Option HostMap → Links
links_of_host id o = flat_map links_of_map (with_id id o)

each_listed : (boxes : ById Seen) (es : Table MapEntry) → IsStrictlySortedBy nat_cmp (keys_of es)
    → ((q : ℕ) (o : Option MapEntry) → found_in es q ≡ Some o → links_of_host q (host_of (map.get boxes q) o) ≡ links_by boxes q o)
    → flat_map links_of_map (listed (host_at boxes) es) ≡ flat_map (λ e. links_by boxes e.0 e.1) es
unfolding IsStrictlySortedBy
each_listed boxes [] sorted alike = refl
each_listed boxes (e ∷ es) sorted alike =
    flat_map-append links_of_map (with_id e.0 (host_of (map.get boxes e.0) e.1)) (listed (host_at boxes) es)
    ∙ (λ i. alike e.0 e.1 (ap (λ b. cond b (Some e.1) (found_in es e.0)) (is_itself e.0)) i ++ each_listed boxes es sorted.1 (λ q o there. alike q o (later q o there (eq_by_cmp nat_cmp q e.0) refl)) i)
  where
    later : (q : ℕ) (o : Option MapEntry) → found_in es q ≡ Some o → (b : Bool) → eq_by_cmp nat_cmp q e.0 ≡ b → found_in (e ∷ es) q ≡ Some o
    later q o there true tied = cc (sym (none_at e.0 es sorted.0) ∙ sym (ap (found_in es) (same_of q e.0 tied)) ∙ there)
    later q o there false apart = ap (λ b. cond b (Some e.1) (found_in es q)) apart ∙ there

-- those of one map
of_host : (id : ℕ) (s : Seen) (entry : MapEntry) → IsWell s.attr s.contents → good s.attr ≡ true → (ids : Bool) → holds_ids s.attr.kind ≡ ids
    → links_of_map (id, hosted (make_of s) s.contents entry) ++ [] ≡ (if ids then links_read id s.attr.kind (Some s) (count_at (Some s)) else [])
of_host id s entry well fine true is =
    append_nil (links_of_map (id, hosted (make_of s) s.contents entry)) ∙ sym (links_are_ids s.attr s.contents well fine is (link_from id s.attr.kind))
of_host id s entry well fine false is =
    append_nil (links_of_map (id, hosted (make_of s) s.contents entry)) ∙ ap (each (link_from id s.attr.kind)) (no_ids_in s.attr s.contents well is)

of_entry : (boxes : ById Seen) (entries : Entries) → IsBuilt boxes entries → (q : ℕ) (o : Option MapEntry) → entry_at entries q ≡ Some o → links_of_host q (host_of (map.get boxes q) o) ≡ links_by boxes q o
of_entry boxes entries built q None there = none (map.get boxes q)
  where
    none : (b : Option Seen) → links_of_host q (host_of b None) ≡ []
    none None = refl
    none (Some s) = refl
of_entry boxes entries built q (Some entry) there = at (map.get boxes q) refl
  where
    at : (b : Option Seen) → map.get boxes q ≡ b → links_of_host q (host_of b (Some entry)) ≡ links_at q b
    at None is = refl
    at (Some s) is = of_host q s entry (built.well q s is) (built.good_attr q entry s there is) (holds_ids s.attr.kind) refl

pub gathered : (boxes : ById Seen) (entries : Entries) → IsBuilt boxes entries → IsStrictlySortedBy nat_cmp (keys_of entries.maps) → (rest : Table MapEntry) (links : Links) → rest ≡ []
    → links ++ flat_map (λ e. links_by boxes e.0 e.1) rest ≡ flat_map (λ e. links_by boxes e.0 e.1) entries.maps → links ≡ flat_map links_of_map (map.entries (hosts_of boxes entries))
gathered boxes entries built sorted rest links none all =
    sym (append_nil links)
    ∙ ap (λ (es : Table MapEntry). links ++ flat_map (λ e. links_by boxes e.0 e.1) es) (sym none)
    ∙ all
    ∙ sym (each_listed boxes entries.maps sorted (of_entry boxes entries built))
    ∙ sym (ap (flat_map links_of_map) (hosts_listed boxes entries sorted))

-- ---- those of programs
each_prog : (es : Table HostProg) → flat_map links_of_prog (listed prog_itself es) ≡ flat_map (λ e. links_by_prog e.0 e.1) es
each_prog [] = refl
each_prog (e ∷ es) = here e.1 (each_prog es)
  where
    here : (o : Option HostProg) → flat_map links_of_prog (listed prog_itself es) ≡ flat_map (λ e. links_by_prog e.0 e.1) es
        → flat_map links_of_prog (with_id e.0 o ++ listed prog_itself es) ≡ links_by_prog e.0 o ++ flat_map (λ e. links_by_prog e.0 e.1) es
    here None rest = rest
    here (Some p) rest = ap (λ ls. links_of_prog (e.0, p) ++ ls) rest

pub progs_gathered : (entries : Entries) → IsStrictlySortedBy nat_cmp (keys_of entries.progs) → (rest : Table HostProg) (links : Links) → rest ≡ []
    → links ++ flat_map (λ e. links_by_prog e.0 e.1) rest ≡ flat_map (λ e. links_by_prog e.0 e.1) entries.progs → links ≡ flat_map links_of_prog (map.entries (progs_of entries))
progs_gathered entries sorted rest links none all =
    sym (append_nil links)
    ∙ ap (λ (es : Table HostProg). links ++ flat_map (λ e. links_by_prog e.0 e.1) es) (sym none)
    ∙ all
    ∙ sym (each_prog entries.progs)
    ∙ sym (ap (flat_map links_of_prog) (progs_listed entries sorted))
