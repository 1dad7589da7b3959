-- The numbers of errors on Linux (errno(3)).
use Rattle.std.specs.Prelude.{ℕ}
use Rattle.bt_mapkind.specs.declared.errno.Errno.{Errno}
use Rattle.bt_mapkind.specs.declared.errno.Errno.TheVariants.{EPERM, ENOENT, E2BIG, ENOMEM, EBUSY, EEXIST, EINVAL, ENOSPC}

abbrev pub number_of : Errno → ℕ
number_of EPERM = 1
number_of ENOENT = 2
number_of E2BIG = 7
number_of ENOMEM = 12
number_of EBUSY = 16
number_of EEXIST = 17
number_of EINVAL = 22
number_of ENOSPC = 28
