-- What is written to the columns of a row: no column casts it, and it reads as that row again.
use Rattle.std.proofs.Common.{◌≡◌, ℕ, ℤ, List, ◌∷◌, Option, Some, None, Bool, true, false, cond, w64, refl, ap}
use Rattle.std.specs.Int.{cast_signed}
use Rattle.std.proofs.lemmas.Int.{of_z-to_z}
use Rattle.bt_mapkind.specs.declared.attr.MapType.{MapType}
use Rattle.sqlite_value.specs.declared.value.Value.{Value}
use Rattle.sqlite_value.specs.declared.value.Value.TheVariants.{Null, Int}
use Rattle.sqlite_schema.specs.declared.schema.Kind.TheVariants as kind
use Rattle.sqlite_sql.specs.Ops.{unary}
use Rattle.sqlite_rules.specs.Cast.{cast}
use Rattle.kept_event.specs.declared.row.Row.{Row}
use Rattle.kept_event.proofs.WordsRead.{verb_back, type_back}
use Rattle.kept_ledger.specs.Columns.{number, text, blob, kind_text, columns_of, number_in, text_in, blob_in, kind_in, row_in, IsNumber, Fits}

-- ---- no column casts what is written to it
either : (b : Bool) (x : Value) → cond b x x ≡ x
either true x = refl
either false x = refl

pub cast_null : cast kind.Integer Null ≡ Null
unfolding unary
cast_null = either _ Null

pub cast_int : (n : ℤ) → cast kind.Integer (Int n) ≡ Int n
unfolding unary
cast_int n = either _ (Int n)

pub cast_number : (o : Option ℕ) → cast kind.Integer (number o) ≡ number o
cast_number None = cast_null
cast_number (Some n) = cast_int (cast_signed w64 n)

pub cast_text : (o : Option (List ℕ)) → cast kind.Text (text o) ≡ text o
cast_text None = refl
cast_text (Some t) = refl

pub cast_kind : (o : Option MapType) → cast kind.Text (kind_text o) ≡ kind_text o
cast_kind None = refl
cast_kind (Some k) = refl

-- ---- what is read
pub number_back : (o : Option ℕ) → IsNumber o → number_in (number o) ≡ o
number_back None h = refl
number_back (Some n) h = ap (λ m. Some m) (of_z-to_z w64 n h)

text_back : (o : Option (List ℕ)) → text_in (text o) ≡ o
text_back None = refl
text_back (Some t) = refl

blob_back : (o : Option (List ℕ)) → blob_in (blob o) ≡ o
blob_back None = refl
blob_back (Some b) = refl

kind_back : (o : Option MapType) → kind_in (kind_text o) ≡ o
kind_back None = refl
kind_back (Some k) = type_back k

pub row_back : (place : Value) (row : Row) → Fits row → row_in (place ∷ columns_of row) ≡ Some row
row_back place row fits =
    rw (
      verb_back row.verb,
      number_back row.serial fits.serial,
      number_back row.prog fits.prog,
      number_back row.map fits.map,
      blob_back row.key,
      blob_back row.value,
      number_back row.flag fits.flag,
      number_back row.at fits.at,
      number_back row.size fits.size,
      number_back row.op fits.op,
      number_back row.target fits.target,
      text_back row.name,
      text_back row.path,
      kind_back row.kind,
      number_back row.key_size fits.key_size,
      number_back row.value_size fits.value_size,
      number_back row.entries fits.entries,
      number_back row.flags fits.flags,
      blob_back row.code,
    ) refl

pub same_some : {A : Type 0} {a b : A} → ◌≡◌ {A = Option A} (Some a) (Some b) → a ≡ b
same_some e = cc

pub never_none : {A : Type 0} {a : A} → ◌≡◌ {A = Option A} (Some a) None → ⊥
never_none e = cc
