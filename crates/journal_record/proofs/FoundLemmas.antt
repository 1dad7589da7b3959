-- What the records of changes tell of them: whether one can be taken out by one exchange.
use Rattle.std.proofs.Common.{◌≡◌, ℕ, Bool, true, false, ◌&&◌, ◌||◌, ◌+◌, ◌<◌, ◌==◌, not, cond, List, [], ◌∷◌, ◌++◌, length, take, drop, get_or, Some, None, Ok, Err, refl, sym, ◌∙◌, ap, subst, arith}
use Rattle.std.specs.Prelude.{nat_le, if◌then◌else◌}
use Rattle.std.specs.Option.{option_map_or}
use Rattle.std.specs.FinMap as map
use Rattle.std.proofs.lemmas.Bool.Decides.{nat_tests}
use Rattle.std.proofs.lemmas.List.{take-append-drop, take_more, drop_more, drop_at, length-take-le}
use Rattle.std.proofs.lemmas.List.Folds.{list_any-append}
use Rattle.bt_mapkind.specs.declared.attr.MapAttr.{MapAttr}
use Rattle.bt_mapkind.specs.declared.errno.Errno.TheVariants.{EINVAL, E2BIG, EEXIST, ENOENT}
use Rattle.bt_mapkind.specs.declared.exchange.Back.TheVariants.{Link as LinkBack}
use Rattle.bt_mapkind.specs.declared.request.MapOp.TheVariants.{SetLink}
use Rattle.bt_mapkind.specs.Contents.{Contents as Held, Values, Entries, Items, Slots, Links}
use Rattle.bt_mapkind.specs.Kept.{is_keyed}
use Rattle.bt_mapkind.specs.declared.request.MapReply.TheVariants.{Done}
use Rattle.bt_mapkind.specs.Sizes.{key_fits}
use Rattle.bt_mapkind.specs.Step.{Step, map_step, is_flag, is_past, goes, slot_set}
use Rattle.host_state.specs.declared.change.Change.{Change}
use Rattle.host_state.specs.declared.change.Change.TheVariants.{Create, Operate, Freeze, Link, Load, Pin, Unpin, Attach, Detach}
use Rattle.host_state.specs.declared.change.Origin.{Origin}
use Rattle.host_state.specs.declared.reply.Reply.{Reply}
use Rattle.bt_mapkind.specs.declared.request.MapOp.{MapOp}
use Rattle.host_state.specs.State.{HostMap, State}
use Rattle.host_state.specs.Act.{act, if_live}
use Rattle.host_state.specs.World.{Ready}
use Rattle.host_state.proofs.Tests.{operated_at}
use Rattle.host_undoing.specs.declared.undoing.Part.{Part}
use Rattle.host_undoing.specs.Answers.{ExchangesFor, IsOwn}
use Rattle.host_apart.specs.Spots.{written, touched, any_meet, step_back, back_in, back_of_part, is_keyed_back, are_apart}
use Rattle.journal_model.specs.Replay.{Entry}
use Rattle.journal_model.specs.Well.{Each, EachPair}
use Rattle.journal_model.specs.Force.{is_in_force}
use Rattle.journal_record.specs.After.{after}
use Rattle.journal_record.specs.Alone.{all_apart, is_alone, spares, is_alone_of, IsPlaceOf}
use Rattle.journal_record.specs.Records.{entries, AllStanding, IsSpared}
use Rattle.journal_record.specs.Recorded.{Recorded}
use Rattle.journal_record.proofs.LineLemmas.{entries-append}

-- ---- the exchange that the table gives is the record's
keyed_step : Step → Bool
keyed_step (Ok changed) = is_keyed changed.back
keyed_step (Err errno) = false

by_slots : (a b c : Bool) (step : Step) → keyed_step step ≡ false → keyed_step (if a then Err EINVAL else if b then Err EINVAL else if c then Err E2BIG else step) ≡ false
unfolding keyed_step
by_slots true b c step is = refl
by_slots false true c step is = refl
by_slots false false true step is = refl
by_slots false false false step is = is

by_links : (a b c d e f : Bool) (there new : Step) → keyed_step there ≡ false → keyed_step new ≡ false
    → keyed_step (if a then Err EINVAL else if b then Err EINVAL else if c then (if d then Err EEXIST else there) else if e then Err ENOENT else if f then Err E2BIG else new) ≡ false
unfolding keyed_step
by_links true b c d e f there new is other = refl
by_links false true c d e f there new is other = refl
by_links false false true true e f there new is other = refl
by_links false false true false e f there new is other = is
by_links false false false d true f there new is other = refl
by_links false false false d false true there new is other = refl
by_links false false false d false false there new is other = other

-- a link is of no key of a map of bytes
link_step : (a : MapAttr) (c : Held) (key : List ℕ) (id flag : ℕ) → keyed_step (map_step a c (SetLink key id flag)) ≡ false
unfolding keyed_step
link_step a (Values vs) key id flag = refl
link_step a (Entries m) key id flag = refl
link_step a (Items xs) key id flag = refl
link_step a (Slots ls) key id flag = by_slots (not (key_fits a key)) (not (flag == 0)) (is_past ls key) (slot_set ls key (Some id)) refl
link_step a (Links m) key id flag =
    by_links (not (is_flag flag)) (not (key_fits a key)) (map.contains_key m key) (flag == 1) (flag == 2) (nat_le a.max_entries (map.len m))
    (goes (Links (map.insert m key id)) Done (LinkBack key (map.get m key))) (goes (Links (map.insert m key id)) Done (LinkBack key (map.get m key))) refl refl

link_unkeyed : (s : State) (q : ℕ) (key : List ℕ) (id flag : ℕ) (part : Part) → ExchangesFor s q (SetLink key id flag) part → is_keyed_back (back_of_part part) ≡ false
unfolding keyed_step
link_unkeyed s q key id flag part own = ap (λ (p : Part). is_keyed_back (back_of_part p)) own.is ∙ sym (ap keyed_step own.step) ∙ link_step own.host.attr own.host.contents key id flag

operated_back : (s t : State) (origin : Origin) (id : ℕ) (op : MapOp) (reply : Reply) (part : Part) → act s (Operate origin id op) ≡ Ok (t, reply) → ExchangesFor s id op part → back_in s (Operate origin id op) ≡ back_of_part part
unfolding act
operated_back s t origin id op reply part acts own =
    ap (λ o. option_map_or (λ (m : HostMap). step_back (map_step m.attr m.contents op)) (if_live o) None) own.there
    ∙ by own.host.live (sym (ap (λ o. operated_at s id (if_live o) origin op) own.there) ∙ acts)
    ∙ sym (ap back_of_part own.is)
  where
    by : (live : Bool) → operated_at s id (if live then Some own.host else None) origin op ≡ Ok (t, reply)
        → option_map_or (λ (m : HostMap). step_back (map_step m.attr m.contents op)) (if live then Some own.host else None) None ≡ Some own.changed.back
    by true e = ap step_back own.step
    by false e = cc

module _ (s t : State) (reply : Reply) (part : Part) where
  keyed_same : (change : Change) → act s change ≡ Ok (t, reply) → IsOwn s change part → is_keyed_back (back_in s change) ≡ is_keyed_back (back_of_part part)
  keyed_same (Create id attr charge name path template) acts own = sym (ap (λ (p : Part). is_keyed_back (back_of_part p)) own.1)
  keyed_same (Operate origin id op) acts own = ap is_keyed_back (operated_back s t origin id op reply part acts own)
  keyed_same (Freeze id) acts own = sym (ap (λ (p : Part). is_keyed_back (back_of_part p)) own)
  keyed_same (Link id key named flag) acts own = sym (link_unkeyed s id key named flag part own)
  keyed_same (Load id code name path) acts own = sym (ap (λ (p : Part). is_keyed_back (back_of_part p)) own.1)
  keyed_same (Pin target path) acts own = sym (ap (λ (p : Part). is_keyed_back (back_of_part p)) own.1)
  keyed_same (Unpin path) acts own = sym (ap (λ (p : Part). is_keyed_back (back_of_part p)) own.1)
  keyed_same (Attach prog device overwrite) acts own = sym (ap (λ (p : Part). is_keyed_back (back_of_part p)) own.1)
  keyed_same (Detach device) acts own = sym (ap (λ (p : Part). is_keyed_back (back_of_part p)) own.1)

  written_same : (change : Change) → act s change ≡ Ok (t, reply) → IsOwn s change part → written change (back_in s change) ≡ written change (back_of_part part)
  written_same (Create id attr charge name path template) acts own = refl
  written_same (Operate origin id op) acts own = ap (written (Operate origin id op)) (operated_back s t origin id op reply part acts own)
  written_same (Freeze id) acts own = refl
  written_same (Link id key named flag) acts own = refl
  written_same (Load id code name path) acts own = refl
  written_same (Pin target path) acts own = refl
  written_same (Unpin path) acts own = refl
  written_same (Attach prog device overwrite) acts own = refl
  written_same (Detach device) acts own = refl

  touched_same : (change : Change) → act s change ≡ Ok (t, reply) → IsOwn s change part → touched change (back_in s change) ≡ touched change (back_of_part part)
  touched_same (Create id attr charge name path template) acts own = refl
  touched_same (Operate origin id op) acts own = ap (touched (Operate origin id op)) (operated_back s t origin id op reply part acts own)
  touched_same (Freeze id) acts own = refl
  touched_same (Link id key named flag) acts own = refl
  touched_same (Load id code name path) acts own = refl
  touched_same (Pin target path) acts own = refl
  touched_same (Unpin path) acts own = refl
  touched_same (Attach prog device overwrite) acts own = refl
  touched_same (Detach device) acts own = refl

-- ---- the changes in place and their records
spares_same : (ready : Ready) (one : Recorded) (s : State) (rs : List Recorded) → AllStanding ready s rs → all_apart (written one.entry.change (back_of_part one.undoing.part)) s (entries rs) ≡ spares one rs
spares_same ready one s [] h = refl
spares_same ready one s (r ∷ rs) h =
    (λ i. not (any_meet (written one.entry.change (back_of_part one.undoing.part)) (touched_same s (after s r.entry) r.entry.reply r.undoing.part r.entry.change h.0.acts h.0.own i)) && spares_same ready one (after s r.entry) rs h.1 i)

pub alone_same : (ready : Ready) (serial : ℕ) (s : State) (rs : List Recorded) → AllStanding ready s rs → is_alone serial s (entries rs) ≡ is_alone_of serial rs
alone_same ready serial s [] h = refl
alone_same ready serial s (r ∷ rs) h =
    let t : State = after s r.entry in
    let here : is_keyed_back (back_in s r.entry.change) && all_apart (written r.entry.change (back_in s r.entry.change)) t (entries rs) ≡ is_keyed_back (back_of_part r.undoing.part) && spares r rs =
    (λ i. keyed_same s t r.entry.reply r.undoing.part r.entry.change h.0.acts h.0.own i && all_apart (written_same s t r.entry.reply r.undoing.part r.entry.change h.0.acts h.0.own i) t (entries rs))
    ∙ ap (λ b. is_keyed_back (back_of_part r.undoing.part) && b) (spares_same ready r t rs h.1) in
    (λ i. cond (r.entry.serial == serial) (here i) (alone_same ready serial t rs h.1 i))

-- ---- at the place of a record
equal : (m n : ℕ) → m ≡ n → (m == n) ≡ true
equal m n e = grind (arith, nat_tests)

none_first : (b rest : Bool) → b || rest ≡ false → (b ≡ false) × (rest ≡ false)
none_first true rest e = cc
none_first false rest e = (refl, e)

both : (a b : Bool) → a && b ≡ true → (a ≡ true) × (b ≡ true)
both true b e = (refl, e)
both false b e = cc

alone_past : (serial : ℕ) (xs : List Recorded) (one : Recorded) (ys : List Recorded) → is_in_force serial (entries xs) ≡ false → one.entry.serial ≡ serial
    → is_alone_of serial (xs ++ one ∷ ys) ≡ is_keyed_back (back_of_part one.undoing.part) && spares one ys
alone_past serial [] one ys none is = ap (λ b. cond b (is_keyed_back (back_of_part one.undoing.part) && spares one ys) (is_alone_of serial ys)) (equal one.entry.serial serial is)
alone_past serial (x ∷ xs) one ys none is =
    let apart : (x.entry.serial == serial ≡ false) × (is_in_force serial (entries xs) ≡ false) = none_first (x.entry.serial == serial) (is_in_force serial (entries xs)) none in
    ap (λ b. cond b (is_keyed_back (back_of_part x.undoing.part) && spares x (xs ++ one ∷ ys)) (is_alone_of serial (xs ++ one ∷ ys))) apart.0
    ∙ alone_past serial xs one ys apart.1 is

-- no record has the serial
pub never_alone : (serial : ℕ) (rs : List Recorded) → is_in_force serial (entries rs) ≡ false → is_alone_of serial rs ≡ false
never_alone serial [] none = refl
never_alone serial (r ∷ rs) none =
    let apart : (r.entry.serial == serial ≡ false) × (is_in_force serial (entries rs) ≡ false) = none_first (r.entry.serial == serial) (is_in_force serial (entries rs)) none in
    ap (λ b. cond b (is_keyed_back (back_of_part r.undoing.part) && spares r rs) (is_alone_of serial rs)) apart.0 ∙ never_alone serial rs apart.1

pub alone_there : (serial : ℕ) (rs : List Recorded) (at : ℕ) (p : IsPlaceOf serial rs at) → is_alone_of serial rs ≡ is_keyed_back (back_of_part p.one.undoing.part) && spares p.one (drop (at + 1) rs)
alone_there serial rs at p = ap (is_alone_of serial) p.is ∙ alone_past serial (take at rs) p.one (drop (at + 1) rs) p.first p.serial_is

-- what the one spares
each_spared : (one : Recorded) (rs : List Recorded) → Each (λ (e : Entry). one.entry.serial < e.serial) (entries rs) → spares one rs ≡ true → Each (IsSpared one) rs
each_spared one [] rises e = tt
each_spared one (r ∷ rs) rises e =
    let h = both (are_apart one.entry.change one.undoing.part r.entry.change r.undoing.part) (spares one rs) e in
    let less : one.entry.serial < r.entry.serial = rises.0 in
    (record { apart = h.0; serials = λ same. omega (arith, less, same) }, each_spared one rs rises.1 h.1)

later_rise : (xs : List Entry) (e : Entry) (es : List Entry) → EachPair (λ (a b : Entry). a.serial < b.serial) (xs ++ e ∷ es) → Each (λ (b : Entry). e.serial < b.serial) es
later_rise [] e es h = h.0
later_rise (x ∷ xs) e es h = later_rise xs e es h.1

-- the one, and what it spares
pub record IsAlone (one : Recorded) (rs : List Recorded) : Type 0 where
  pub keyed : is_keyed_back (back_of_part one.undoing.part) ≡ true
  pub spared : Each (IsSpared one) rs

pub alone_at : (serial : ℕ) (rs : List Recorded) (at : ℕ) (p : IsPlaceOf serial rs at) → EachPair (λ (a b : Entry). a.serial < b.serial) (entries rs) → is_alone_of serial rs ≡ true → IsAlone p.one (drop (at + 1) rs)
alone_at serial rs at p rises alone =
    let h = both (is_keyed_back (back_of_part p.one.undoing.part)) (spares p.one (drop (at + 1) rs)) (sym (alone_there serial rs at p) ∙ alone) in
    let apart : EachPair (λ (a b : Entry). a.serial < b.serial) (entries (take at rs) ++ p.one.entry ∷ entries (drop (at + 1) rs)) =
    subst (EachPair (λ (a b : Entry). a.serial < b.serial)) (ap entries p.is ∙ entries-append (take at rs) (p.one ∷ drop (at + 1) rs)) rises in
    record { keyed = h.0; spared = each_spared p.one (drop (at + 1) rs) (later_rise (entries (take at rs)) p.one.entry (entries (drop (at + 1) rs)) apart) h.1 }

-- ---- a search along the records
next_is : (rs : List Recorded) (at : ℕ) (r : Recorded) → at < length rs → r ≡ get_or rs at r → drop at rs ≡ r ∷ drop (at + 1) rs
next_is rs at r within is = drop_more rs at r within ∙ ap (λ x. x ∷ drop (at + 1) rs) (sym is)

pub place_here : (serial : ℕ) (rs : List Recorded) (at : ℕ) (r : Recorded) → at < length rs → r ≡ get_or rs at r → r.entry.serial ≡ serial → is_in_force serial (entries (take at rs)) ≡ false → IsPlaceOf serial rs at
place_here serial rs at r within is same first =
    record { one = r; is = sym (take-append-drop at rs) ∙ ap (λ xs. take at rs ++ xs) (next_is rs at r within is); serial_is = same; first = first }

differs : (m n : ℕ) → (m ≡ n → ⊥) → (m == n) ≡ false
differs m n apart = grind (arith, nat_tests, apart)

neither : (a b : Bool) → a ≡ false → b ≡ false → a || (b || false) ≡ false
neither a b e f = λ i. e i || (f i || false)

pub none_yet : (serial : ℕ) (rs : List Recorded) (at : ℕ) (r : Recorded) → at < length rs → r ≡ get_or rs at r → (r.entry.serial ≡ serial → ⊥) → is_in_force serial (entries (take at rs)) ≡ false → is_in_force serial (entries (take (at + 1) rs)) ≡ false
none_yet serial rs at r within is apart first =
    ap (λ xs. is_in_force serial (entries xs)) (take_more rs at r within ∙ ap (λ x. take at rs ++ x ∷ []) (sym is))
    ∙ ap (is_in_force serial) (entries-append (take at rs) (r ∷ []))
    ∙ list_any-append (λ (e : Entry). e.serial == serial) (entries (take at rs)) (r.entry ∷ [])
    ∙ neither (is_in_force serial (entries (take at rs))) (r.entry.serial == serial) first (differs r.entry.serial serial apart)

pub spares_next : (one : Recorded) (rs : List Recorded) (at : ℕ) (r : Recorded) → at < length rs → r ≡ get_or rs at r → are_apart one.entry.change one.undoing.part r.entry.change r.undoing.part ≡ true → spares one (drop (at + 1) rs) ≡ spares one (drop at rs)
spares_next one rs at r within is apart = sym (ap (spares one) (next_is rs at r within is) ∙ ap (λ b. b && spares one (drop (at + 1) rs)) apart)

pub spares_no_more : (one : Recorded) (rs : List Recorded) (at : ℕ) (r : Recorded) → at < length rs → r ≡ get_or rs at r → are_apart one.entry.change one.undoing.part r.entry.change r.undoing.part ≡ false → spares one (drop at rs) ≡ false
spares_no_more one rs at r within is apart = ap (spares one) (next_is rs at r within is) ∙ ap (λ b. b && spares one (drop (at + 1) rs)) apart

-- at the place of a record
same_head : (r x : Recorded) (rs xs : List Recorded) → r ∷ rs ≡ x ∷ xs → r ≡ x
same_head r x rs xs e = cc

pub alone_here : (serial : ℕ) (rs : List Recorded) (at : ℕ) (r : Recorded) → at < length rs → r ≡ get_or rs at r → IsPlaceOf serial rs at → is_alone_of serial rs ≡ is_keyed_back (back_of_part r.undoing.part) && spares r (drop (at + 1) rs)
alone_here serial rs at r within is p =
    let same : r ≡ p.one =
    same_head r p.one (drop (at + 1) rs) (drop (at + 1) rs) (sym (next_is rs at r within is) ∙ ap (drop at) p.is ∙ drop_at (take at rs) (p.one ∷ drop (at + 1) rs) at (length-take-le at rs (omega (arith, within)))) in
    alone_there serial rs at p ∙ ap (λ (x : Recorded). is_keyed_back (back_of_part x.undoing.part) && spares x (drop (at + 1) rs)) (sym same)
