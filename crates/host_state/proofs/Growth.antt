-- What stood ready stands ready.
use Rattle.std.specs.Prelude.{◌≡◌, ℕ, true, List, Some}
use Rattle.std.specs.FinMap as map
use Rattle.std.specs.FinSet as set
use Rattle.bt_objects.specs.declared.make.Make.{Make}
use Rattle.host_state.specs.World.{Ready}

pub record Grows (old new : Ready) : Type 0 where
  pub makes : (id : ℕ) (make : Make) → map.get old.makes id ≡ Some make → map.get new.makes id ≡ Some make
  pub progs : (id : ℕ) → set.contains old.progs id ≡ true → set.contains new.progs id ≡ true
  pub room : (path : List ℕ) → set.contains old.room path ≡ true → set.contains new.room path ≡ true
