-- What a table keeps of an exchange is told from what stood under the key.
use Rattle.std.proofs.Common.{◌≡◌, ◌≢◌, ℕ, ◌+◌, ◌<◌, Bool, true, false, cond, if◌then◌else◌, ◌==◌, List, Option, Some, None, is_some, not, MatchOption, nat_le, refl, sym, ap, ◌∙◌, arith}
use Rattle.std.specs.FinMap as map
use Rattle.std.specs.Cmp.Lexicographic.{nat_list_cmp_total}
use Rattle.std.proofs.lemmas.Bool.Decides.{nat_tests}
use Rattle.bt_mapkind.specs.declared.errno.Errno.{Errno}
use Rattle.bt_mapkind.specs.declared.errno.Errno.TheVariants.{ENOENT, EEXIST}
use Rattle.bt_mapkind.specs.declared.exchange.Back.TheVariants.{Key}
use Rattle.bt_mapkind.specs.Contents.{ByKey}
use Rattle.bt_mapkind.specs.Kept.{Kept as KeptBack}
use Rattle.bt_mapkind.specs.Prefix.{is_same}
use Rattle.bt_mapkind.proofs.Keyed.{same_of, get-put_under}
use Rattle.map_table.specs.Table.{Kept, put_fault}
use Rattle.map_table.proofs.TableLemmas.{with_entries}

-- ---- a new key
-- what is known of a key if nothing stands against an entry under it
pub record IsNew (capacity : ℕ) (m : ByKey (List ℕ)) (key : List ℕ) : Type 0 where
  pub absent : map.get m key ≡ None
  pub room : map.len m < capacity
  pub fresh : true ≡ not (map.contains_key m key)

not_one : (one : Bool) → (if one then Some EEXIST else None) ≡ None → one ≡ false
not_one true e = cc
not_one false e = refl

not_full : (two full : Bool) (errno : Errno) → (if two then Some ENOENT else if full then Some errno else None) ≡ None → full ≡ false
not_full true full errno e = cc
not_full false true errno e = cc
not_full false false errno e = refl

pub is_new : (capacity : ℕ) (m : ByKey (List ℕ)) (key : List ℕ) (flag : ℕ) (full : Errno) → (flag ≢ 1 → map.get m key ≡ None) → put_fault capacity m key flag full ≡ None → IsNew capacity m key
is_new capacity m key flag full absent free = by_value (map.get m key) refl
  where
    by_value : (found : Option (List ℕ)) → map.get m key ≡ found → IsNew capacity m key
    by_value None is =
        let free_room : nat_le capacity (map.len m) ≡ false = not_full (flag == 2) (nat_le capacity (map.len m)) full (sym (ap (λ (o : Option (List ℕ)). if is_some o then (if flag == 1 then Some EEXIST else None) else if flag == 2 then Some ENOENT else if nat_le capacity (map.len m) then Some full else None) is) ∙ free) in
        record { absent = is; room = grind (arith, nat_tests); fresh = sym (ap (λ (o : Option (List ℕ)). not (is_some o)) is) }
    by_value (Some value) is =
        let unasked : (flag == 1) ≡ false = not_one (flag == 1) (sym (ap (λ (o : Option (List ℕ)). if is_some o then (if flag == 1 then Some EEXIST else None) else if flag == 2 then Some ENOENT else if nat_le capacity (map.len m) then Some full else None) is) ∙ free) in
        let other : flag ≢ 1 = grind (arith, nat_tests) in
        let none : Some value ≡ None = sym is ∙ absent other in
        cc

-- ---- a key that is there
pub none_there : (m : ByKey (List ℕ)) (key : List ℕ) → false ≡ map.contains_key m key → None ≡ map.get m key
none_there m key missing = by_value (map.get m key) refl
  where
    by_value : (found : Option (List ℕ)) → map.get m key ≡ found → None ≡ map.get m key
    by_value None is = sym is
    by_value (Some value) is = let not : false ≡ true = missing ∙ ap is_some is in cc

pub no_fault : (capacity : ℕ) (m : ByKey (List ℕ)) (key : List ℕ) (flag : ℕ) (full : Errno) → flag ≢ 1 → true ≡ map.contains_key m key → put_fault capacity m key flag full ≡ None
no_fault capacity m key flag full other there =
    let unasked : (flag == 1) ≡ false = grind (arith, nat_tests) in
    rw (← there, unasked) refl

pub put_over : (old new : Kept) (key value : List ℕ) → true ≡ map.contains_key old.entries key → MatchOption (map.get old.entries key) (new ≡ old) (λ _. new ≡ with_entries old (map.insert old.entries key value)) → new ≡ with_entries old (map.insert old.entries key value)
put_over old new key value there put = by_value (map.get old.entries key) (there) put
  where
    by_value : (found : Option (List ℕ)) → true ≡ is_some found → MatchOption found (new ≡ old) (λ _. new ≡ with_entries old (map.insert old.entries key value)) → new ≡ with_entries old (map.insert old.entries key value)
    by_value None some is = cc
    by_value (Some before) some is = is

pub kept_over : (m : ByKey (List ℕ)) (key : List ℕ) (before after : KeptBack) → true ≡ map.contains_key m key → MatchOption (map.get m key) (after ≡ before) (λ value. after ≡ record before { back = Key key (Some value) }) → after ≡ record before { back = Key key (map.get m key) }
kept_over m key before after there kept = by_value (map.get m key) there kept
  where
    by_value : (found : Option (List ℕ)) → true ≡ is_some found → MatchOption found (after ≡ before) (λ value. after ≡ record before { back = Key key (Some value) }) → after ≡ record before { back = Key key found }
    by_value None some is = cc
    by_value (Some value) some is = is

-- ---- another value under a key that is there
pub same_keys : (m : ByKey (List ℕ)) (key value other : List ℕ) → map.contains_key m key ≡ true → map.contains_key (map.insert m key value) other ≡ map.contains_key m other
same_keys m key value other there = ap is_some (get-put_under m key other (Some value)) ∙ by_key (is_same other key) refl
  where
    by_key : (b : Bool) → is_same other key ≡ b → is_some (cond b (Some value) (map.get m other)) ≡ map.contains_key m other
    by_key true same = sym (ap (map.contains_key m) (same_of other key same) ∙ there)
    by_key false differ = refl

pub same_len : (m : ByKey (List ℕ)) (key value : List ℕ) → map.contains_key m key ≡ true → map.len (map.insert m key value) ≡ map.len m
same_len m key value there = map.len-insert nat_list_cmp_total m key value ∙ ap (λ b. cond b (map.len m) (map.len m + 1)) there
