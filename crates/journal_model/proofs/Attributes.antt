-- The test of equal attributes decides whether they are equal.
use Rattle.std.proofs.Common.{◌≡◌, ℕ, Bool, true, false, ◌&&◌, refl, sym, ◌∙◌, ap}
use Rattle.std.proofs.lemmas.Bool.{eqb-true, eq-eqb}
use Rattle.std.specs.Prelude.{Decides, ◌==◌}
use Rattle.bt_mapkind.specs.declared.attr.MapAttr.{MapAttr}
use Rattle.bt_mapkind.specs.declared.attr.MapType.{MapType}
use Rattle.bt_mapkind.specs.Codes.{number_of_type, type_of_number, type_again}
use Rattle.journal_model.specs.Blank.{is_same_attr}

first : (a b : Bool) → a && b ≡ true → a ≡ true
first true b e = refl
first false b e = cc

second : (a b : Bool) → a && b ≡ true → b ≡ true
second true b e = e
second false b e = cc

both : (a b : Bool) → a ≡ true → b ≡ true → a && b ≡ true
both true b e f = f
both false b e f = cc

abbrev attr_of : MapType → ℕ → ℕ → ℕ → ℕ → MapAttr
attr_of kind key value entries flags = record { kind = kind; key_size = key; value_size = value; max_entries = entries; flags = flags }

same_attr : (a b : MapAttr) → is_same_attr a b ≡ true → a ≡ b
same_attr a b e =
    let kinds : Bool = number_of_type a.kind == number_of_type b.kind in
    let keys : Bool = a.key_size == b.key_size in
    let values : Bool = a.value_size == b.value_size in
    let entries : Bool = a.max_entries == b.max_entries in
    let flags : Bool = a.flags == b.flags in
    let e4 : (((kinds && keys) && values) && entries) ≡ true = first (((kinds && keys) && values) && entries) flags e in
    let e3 : ((kinds && keys) && values) ≡ true = first ((kinds && keys) && values) entries e4 in
    let e2 : (kinds && keys) ≡ true = first (kinds && keys) values e3 in
    let kind_same : a.kind ≡ b.kind =
    sym (type_again a.kind) ∙ ap type_of_number (eqb-true (number_of_type a.kind) (number_of_type b.kind) (first kinds keys e2)) ∙ type_again b.kind in
    ap (λ k. attr_of k a.key_size a.value_size a.max_entries a.flags) kind_same
    ∙ ap (λ n. attr_of b.kind n a.value_size a.max_entries a.flags) (eqb-true a.key_size b.key_size (second kinds keys e2))
    ∙ ap (λ n. attr_of b.kind b.key_size n a.max_entries a.flags) (eqb-true a.value_size b.value_size (second (kinds && keys) values e3))
    ∙ ap (λ n. attr_of b.kind b.key_size b.value_size n a.flags) (eqb-true a.max_entries b.max_entries (second ((kinds && keys) && values) entries e4))
    ∙ ap (λ n. attr_of b.kind b.key_size b.value_size b.max_entries n) (eqb-true a.flags b.flags (second (((kinds && keys) && values) && entries) flags e))

itself : (a : MapAttr) → is_same_attr a a ≡ true
itself a =
    both _ _ (both _ _ (both _ _ (both _ _ (eq-eqb (number_of_type a.kind) (number_of_type a.kind) refl) (eq-eqb a.key_size a.key_size refl)) (eq-eqb a.value_size a.value_size refl)) (eq-eqb a.max_entries a.max_entries refl)) (eq-eqb a.flags a.flags refl)

pub is_same_attr-Decides : (a b : MapAttr) → Decides (is_same_attr a b) (a ≡ b)
is_same_attr-Decides a b = (same_attr a b, λ e. ap (is_same_attr a) (sym e) ∙ itself a)
