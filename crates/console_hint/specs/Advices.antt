-- What is said of a refusal if no fact of the host says more.
use Rattle.std.specs.Prelude.{ℕ, List, codes}
use Rattle.bt_mapkind.specs.declared.errno.Errno.{Errno}
use Rattle.bt_mapkind.specs.declared.errno.Errno.TheVariants.{EPERM, ENOENT, E2BIG, ENOMEM, EBUSY, EEXIST, EINVAL, ENOSPC}
use Rattle.console_answer.specs.declared.fault.Fault.{Fault}
use Rattle.console_answer.specs.declared.fault.Fault.TheVariants as fault

abbrev pub errno_advice : Errno → List ℕ
errno_advice EPERM = codes "the map is frozen: only programs write it"
errno_advice ENOENT = codes "what the line names is not there"
errno_advice E2BIG = codes "the map is full, or the index is past its end"
errno_advice ENOMEM = codes "an allocation failed; the line changed nothing"
errno_advice EBUSY = codes "it is in use: a device's program is replaced by `overwrite` alone, and a map frozen once"
errno_advice EEXIST = codes "something is there already"
errno_advice EINVAL = codes "an argument does not suit: a flag, an inner map, or what the map's type has not"
errno_advice ENOSPC = codes "the LPM trie is full"

abbrev pub advice : Fault → List ℕ
advice (fault.Errno errno) = errno_advice errno
advice fault.NoMemory = codes "an allocation failed; the line changed nothing"
advice fault.TooLong = codes "a line has at most 131072 bytes"
advice fault.JournalFull = codes "the journal is full, and its oldest change has to stay: a later moment took it out, or this line would; undo that moment, or `journal forget` up to a mark after it"
advice fault.SerialsSpent = codes "the last serial was given"
advice fault.IdsSpent = codes "the last id was given"
advice fault.NoMark = codes "`journal list` shows the marks; an undo removes those after it, a forgetting those before"
advice fault.MarkForgotten = codes "moments after this mark were given up to make room, so no undo leads back to it; `journal mark` makes it anew"
advice fault.MarkTaken = codes "give another name: a mark of this name stands"
advice fault.NothingToUndo = codes "no moment is in force"
advice fault.NothingToRedo = codes "no moment was undone"
advice (fault.RedoLost serial) = codes "what was undone was given up under this serial, by a change or a taking out"
advice (fault.StillTakenOut serial) = codes "it took out a change from before the mark; undo it, or forget up to a mark after it"
advice fault.NotInForce = codes "`journal list` shows the changes in force with their serials"
advice (fault.DependsOn serial) = codes "without it, the change of this serial would answer otherwise: take that one out first"
advice fault.Ambiguous = codes "several have this name: refer to one by its id"
advice fault.NoRun = codes "the run has ended, or no run had this number"
advice fault.RunsFull = codes "64 runs are open: step one of them to its end"
advice fault.NestedBatch = codes "a line of a batch runs no batch"
advice _ = codes "the line changed nothing"
