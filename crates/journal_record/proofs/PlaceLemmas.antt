-- A box that is taken in under a free id adds to what stands ready.
use Rattle.std.proofs.Common.{◌≡◌, ◌↔◌, ℕ, Result, Ok, Err, IsSome, OnOk, OnErr, refl, sym, ◌∙◌, ap}
use Rattle.std.specs.FinMap as map
use Rattle.bt_objects.specs.declared.make.Make.{Make}
use Rattle.bt_objects.specs.declared.objects.PlaceFault.{PlaceFault}
use Rattle.bt_objects.specs.declared.objects.PlaceFault.TheVariants.{WrongBlank, IdTaken}
use Rattle.bt_objects.specs.ById.{ById}
use Rattle.std.specs.FinSet as set
use Rattle.bt_roots.specs.View.{Paths}
use Rattle.host_state.specs.World.{Ids, Ready}
use Rattle.host_state.proofs.Growth.{Grows}
use Rattle.journal_model.proofs.Growing.{kept_by_insert}

-- if a box was taken in, its id was free
free_of : {A F T : Type 0} (a : A) (r : Result A PlaceFault) → r ≡ Ok a → ((r ≡ Err WrongBlank) ↔ ¬ F) → ((r ≡ Err IdTaken) ↔ (F × T)) → ¬ T
free_of a r e w t taken = never a (sym e ∙ w.1 (λ f. never a (sym e ∙ t.1 (f, taken))))
  where
    never : {A : Type 0} {fault : PlaceFault} (a : A) → Ok a ≡ Err fault → ⊥
    never a e = cc

pub place_grows : {A F : Type 0} (old new : Ready) (id : ℕ) (make : Make) (r : Result A PlaceFault)
    → ((r ≡ Err WrongBlank) ↔ ¬ F) → ((r ≡ Err IdTaken) ↔ (F × IsSome (map.get old.makes id)))
    → OnOk r (new.makes ≡ map.insert old.makes id make) → OnErr r (new.makes ≡ old.makes) → new.room ≡ old.room → new.progs ≡ old.progs → Grows old new
place_grows old new id make (Ok a) w t placed refused room progs = record {
  makes = λ q there e. ap (λ (m : ById Make). map.get m q) placed ∙ kept_by_insert old.makes id make q there (free_of a (Ok a) refl w t) e;
  progs = λ q e. ap (λ (ids : Ids). set.contains ids q) progs ∙ e;
  room = λ path e. ap (λ (paths : Paths). set.contains paths path) room ∙ e;
}
place_grows old new id make (Err fault) w t placed refused room progs = record {
  makes = λ q there e. ap (λ (m : ById Make). map.get m q) refused ∙ e;
  progs = λ q e. ap (λ (ids : Ids). set.contains ids q) progs ∙ e;
  room = λ path e. ap (λ (paths : Paths). set.contains paths path) room ∙ e;
}
