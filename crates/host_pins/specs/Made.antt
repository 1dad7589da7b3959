-- What a new map and a new program do to the parts of a world.
use Rattle.std.specs.Prelude.{◌≡◌, ◌⊎◌, ℕ, List, Option, Some, None, is_some, Result, Ok, Err, IsTrue, ◌&&◌, not, if◌then◌else◌}
use Rattle.std.specs.List.{list_all}
use Rattle.host_state.specs.Prelude.{Errno as Error, ENOENT, EINVAL, EEXIST, EBUSY, MapAttr, good, Seen, is_name, Checked, ById, RootBack, Target, Map}
use Rattle.host_state.specs.Prelude.{RootsView}
use Rattle.host_undoing.specs.Prelude.{Refusal, Errno, NoMemory}
use Rattle.bt_roots.specs.declared.fault.RootFault.{RootFault}
use Rattle.bt_roots.specs.declared.fault.RootFault.TheVariants.{BadPath, Exists, NoEntry, NoDevice, Busy, NoMemory as RootNoMemory}
use Rattle.bt_roots.specs.Exchange.{KeepsRoom, exchanged, exchange_fits}
use Rattle.bt_roots.specs.Answers.{IsAnswered, pin_answer}
use Rattle.host_state.specs.Act.{attr_if_live, template_by}
use Rattle.host_state.specs.Hosts.{Entries, entry_at, prog_at, held, live_in, live_target_in}

-- what is told of a fault of the roots
abbrev pub refusal_of : RootFault → Refusal
refusal_of BadPath = Errno EINVAL
refusal_of Exists = Errno EEXIST
refusal_of NoEntry = Errno ENOENT
refusal_of NoDevice = Errno ENOENT
refusal_of Busy = Errno EBUSY
refusal_of RootNoMemory = NoMemory

-- it is pinned at a path, and its entry is put
pub record IsPinned (IsPut : Type 0) (roots : RootsView) (target : Target) (path : List ℕ) (pin : RootBack) (left : RootsView) : Type 0 where
  pub answered : IsAnswered (pin_answer roots path target) roots (Ok pin) left
  pub restores : (exchanged left pin).0 ≡ record roots { room = left.room }
  pub fits : IsTrue (exchange_fits left pin)
  pub keeps : KeepsRoom roots left
  pub put : IsPut

-- or it is not, and nothing changes
abbrev pub Pins : Type 0 → Entries → RootsView → Target → List ℕ → Result RootBack Refusal → Entries → RootsView → Type 0
Pins IsPut old roots target path (Ok pin) new left = IsPinned IsPut roots target path pin left
Pins IsPut old roots target path (Err refusal) new left =
    ((fault : RootFault) × IsAnswered (pin_answer roots path target) roots (Err fault) left × (refusal_of fault ≡ refusal) × (new ≡ old))
    ⊎ ((refusal ≡ NoMemory) × (new ≡ old) × (left ≡ roots))

-- the attributes that its inner maps are to have, or why it is not made, whatever its path
abbrev pub may_create : ById Seen → Entries → ℕ → MapAttr → List ℕ → Option ℕ → Result (Option MapAttr) Error
may_create boxes entries id attr name template =
    if is_some (held (entry_at entries id)) then Err EEXIST else
    if not (good attr && is_name name) then Err EINVAL else
    template_by (λ id. attr_if_live (live_in boxes entries id)) attr.kind template

-- why a program is not loaded, whatever its path: one stands under the id, or a map that it names is not live
abbrev pub load_fault : Entries → ℕ → Checked → Option Error
load_fault entries id code =
    if is_some (held (prog_at entries id)) then Some EEXIST else
    if not (list_all (λ m. live_target_in entries (Map m.0)) code.maps) then Some ENOENT else
    None
