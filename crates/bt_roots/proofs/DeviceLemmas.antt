-- The devices by position: what is read there, and what attaching there leaves.
use Rattle.std.proofs.Common.{◌≡◌, ℕ, zero, suc, ◌<◌, List, [], ◌∷◌, map, length, get_or, set, Option, refl, sym, ap, subst, ◌∙◌, arith}
use Rattle.bt_roots.specs.declared.device.Device.{Device}
use Rattle.bt_roots.specs.View.{free_device}
use Rattle.bt_roots.specs.Exchange.{prog_at, attach_at}
use Rattle.bt_roots.specs.Slots.{HasGoodDevices}
use Rattle.bt_roots.specs.View.{devices_are_good}
use Rattle.std.specs.Prelude.{IsTrue}

abbrev names : List Device → List (List ℕ)
names devices = map (λ device. device.name) devices

pub prog_at-there : (devices : List Device) (position : ℕ) (d : Device) → position < length devices → prog_at devices position ≡ (get_or devices position d).prog
prog_at-there [] position d lt = absurd (omega arith)
prog_at-there (device ∷ devices) zero d lt = refl
prog_at-there (device ∷ devices) (suc position) d lt = prog_at-there devices position d (omega arith)

pub attach_at-there : (devices : List Device) (position : ℕ) (d : Device) (prog : Option ℕ)
    → attach_at devices position prog ≡ set devices position (record (get_or devices position d) { prog = prog })
attach_at-there [] position d prog = refl
attach_at-there (device ∷ devices) zero d prog = refl
attach_at-there (device ∷ devices) (suc position) d prog = ap (λ ds. device ∷ ds) (attach_at-there devices position d prog)

pub names-attach_at : (devices : List Device) (position : ℕ) (prog : Option ℕ) → names (attach_at devices position prog) ≡ names devices
names-attach_at [] position prog = refl
names-attach_at (device ∷ devices) zero prog = refl
names-attach_at (device ∷ devices) (suc position) prog = ap (λ ds. device.name ∷ ds) (names-attach_at devices position prog)

pub names-free : (words : List (List ℕ)) → names (map free_device words) ≡ words
names-free [] = refl
names-free (word ∷ words) = ap (λ ws. word ∷ ws) (names-free words)

-- devices keep their good names
pub good-attach_at : (devices new : List Device) (position : ℕ) (prog : Option ℕ) → new ≡ attach_at devices position prog → HasGoodDevices devices → HasGoodDevices new
good-attach_at devices new position prog e good =
    subst (λ ws. IsTrue (devices_are_good ws)) (sym (ap names e ∙ names-attach_at devices position prog)) good

pub good-free : (devices : List Device) (words : List (List ℕ)) → devices ≡ map free_device words → IsTrue (devices_are_good words) → HasGoodDevices devices
good-free devices words e good = subst (λ ws. IsTrue (devices_are_good ws)) (sym (ap names e ∙ names-free words)) good

-- attaching twice
pub prog_at-attach_at : (devices : List Device) (position : ℕ) (prog : Option ℕ) → position < length devices → prog_at (attach_at devices position prog) position ≡ prog
prog_at-attach_at [] position prog lt = absurd (omega arith)
prog_at-attach_at (device ∷ devices) zero prog lt = refl
prog_at-attach_at (device ∷ devices) (suc position) prog lt = prog_at-attach_at devices position prog (omega arith)

pub attach_at-attach_at : (devices : List Device) (position : ℕ) (prog : Option ℕ) → attach_at (attach_at devices position prog) position (prog_at devices position) ≡ devices
attach_at-attach_at [] position prog = refl
attach_at-attach_at (device ∷ devices) zero prog = refl
attach_at-attach_at (device ∷ devices) (suc position) prog = ap (λ ds. device ∷ ds) (attach_at-attach_at devices position prog)
