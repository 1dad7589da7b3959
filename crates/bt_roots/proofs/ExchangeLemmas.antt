-- An exchange that is turned twice.
use Rattle.std.proofs.Common.{◌≡◌, ◌<◌, ℕ, Bool, true, false, ◌||◌, ltb, List, Option, None, Some, is_some, length, cond, refl, ap, subst, ◌∙◌}
use Rattle.std.proofs.lemmas.Bool.{ltb-true, lt-ltb}
use Rattle.std.specs.declared.cmp.Ordering.{Ordering}
use Rattle.std.specs.declared.cmp.Ordering.TheVariants.{Less, Equal, Greater}
use Rattle.std.specs.Ordering.{is_eq, eq_by_cmp}
use Rattle.std.specs.Cmp.{tied_itself}
use Rattle.std.specs.Cmp.Lexicographic.{nat_list_cmp_total}
use Rattle.std.specs.FinMap as finite
use Rattle.std.specs.FinSet as set
use Rattle.std.specs.FinMap.{nat_cmp-IsAntisymmetric, slice_cmp-IsAntisymmetric}
use Rattle.bt_roots.specs.declared.target.Target.{Target}
use Rattle.bt_roots.specs.declared.device.Device.{Device}
use Rattle.bt_roots.specs.declared.back.RootBack.{RootBack}
use Rattle.bt_roots.specs.declared.back.RootBack.TheVariants.{Pin, Attachment}
use Rattle.bt_roots.specs.View.{RootsView, Pins, Paths, path_cmp}
use Rattle.bt_roots.specs.Exchange.{put_at, attach_at, prog_at, exchange_fits, exchanged, TurnsBack, KeepsRoom}
use Rattle.bt_roots.specs.Slots.{Slots, pins_of, room_of, roots_view}
use Rattle.bt_roots.proofs.SlotLemmas.{get-put_at}
use Rattle.bt_roots.proofs.DeviceLemmas.{prog_at-attach_at, attach_at-attach_at}

equal : (o : Ordering) → is_eq o ≡ true → o ≡ Equal
equal Less e = cc
equal Equal e = refl
equal Greater e = cc

-- what stood there, put back
put_at-put_at : (pins : Pins) (path : List ℕ) (target : Option Target) → put_at (put_at pins path target) path (finite.get pins path) ≡ pins
put_at-put_at pins path target =
    finite.same_map nat_list_cmp_total (slice_cmp-IsAntisymmetric nat_cmp-IsAntisymmetric) _ _ (λ q.
    get-put_at (put_at pins path target) path q (finite.get pins path)
    ∙ ap (cond (eq_by_cmp path_cmp q path) (finite.get pins path)) (get-put_at pins path q target)
    ∙ either q (eq_by_cmp path_cmp q path) refl)
  where
    either : (q : List ℕ) (b : Bool) → eq_by_cmp path_cmp q path ≡ b → cond b (finite.get pins path) (cond b target (finite.get pins q)) ≡ finite.get pins q
    either q true e = finite.get_tied nat_list_cmp_total pins q path (equal (path_cmp q path) e)
    either q false e = refl

get_put : (pins : Pins) (path : List ℕ) (target : Option Target) → finite.get (put_at pins path target) path ≡ target
get_put pins path target = get-put_at pins path path target ∙ ap (λ o. cond (is_eq o) target (finite.get pins path)) (tied_itself nat_list_cmp_total path)

pub turns_back : (roots : RootsView) (back : RootBack) → TurnsBack roots back
unfolding exchanged exchange_fits
turns_back roots (Pin path target) fits =
    λ i. (record roots { pins = put_at-put_at roots.pins path target i }, Pin path (get_put roots.pins path target i))
turns_back roots (Attachment position prog) fits =
    let there : position < length roots.devices = ltb-true position (length roots.devices) fits in
    λ i. (record roots { devices = attach_at-attach_at roots.devices position prog i }, Attachment position (prog_at-attach_at roots.devices position prog there i))

-- room is for good
pub fits_later : (old new : RootsView) (back : RootBack) → KeepsRoom old new → exchange_fits old back ≡ true → exchange_fits new back ≡ true
unfolding exchange_fits
fits_later old new (Pin path target) keeps fits = keeps.paths path fits
fits_later old new (Attachment position prog) keeps fits = ap (λ n. ltb position n) keeps.places ∙ fits

-- the same of the roots that entries and devices are seen as
pub keeps_devices : (roots : RootsView) (slots : Slots) (old new : List Device) → roots_view slots old ≡ roots → length new ≡ length old → KeepsRoom roots (roots_view slots new)
unfolding roots_view
keeps_devices roots slots old new e long = subst (λ r. KeepsRoom r (roots_view slots new)) e (record { paths = λ path h. h; places = long })

pub keeps_slots : (roots : RootsView) (old new : Slots) (devices : List Device) → roots_view old devices ≡ roots
    → ((path : List ℕ) → set.contains (room_of old) path ≡ true → set.contains (room_of new) path ≡ true) → KeepsRoom roots (roots_view new devices)
unfolding roots_view
keeps_slots roots old new devices e keeps = subst (λ r. KeepsRoom r (roots_view new devices)) e (record { paths = keeps; places = refl })

pub fits_position : (slots : Slots) (devices : List Device) (position : ℕ) (prog : Option ℕ) → position < length devices
    → exchange_fits (roots_view slots devices) (Attachment position prog) ≡ true
unfolding roots_view exchange_fits
fits_position slots devices position prog lt = lt-ltb position (length devices) lt

pub position_fits : (roots : RootsView) (slots : Slots) (devices : List Device) (position : ℕ) (prog : Option ℕ) → roots_view slots devices ≡ roots
    → exchange_fits roots (Attachment position prog) ≡ true → position < length devices
unfolding roots_view exchange_fits
position_fits roots slots devices position prog e fits = ltb-true position (length devices) (ap (λ r. ltb position (length r.devices)) e ∙ fits)

pub fits_path : (slots : Slots) (devices : List Device) (path : List ℕ) (target : Option Target) → set.contains (room_of slots) path ≡ true
    → exchange_fits (roots_view slots devices) (Pin path target) ≡ true
unfolding roots_view exchange_fits
fits_path slots devices path target room = room

-- an exchange that was answered puts back what stood there, and room that was made stays
pub restores_pin : (roots : RootsView) (old new : Slots) (devices : List Device) (path : List ℕ) (target before : Option Target)
    → roots_view old devices ≡ roots → pins_of new ≡ put_at (pins_of old) path target → before ≡ finite.get (pins_of old) path
    → (exchanged (roots_view new devices) (Pin path before)).0 ≡ record roots { room = (roots_view new devices).room }
unfolding roots_view exchanged
restores_pin roots old new devices path target before e put was =
    let back : put_at (pins_of new) path before ≡ pins_of old =
    ap (λ pins. put_at pins path before) put ∙ ap (put_at (put_at (pins_of old) path target) path) was ∙ put_at-put_at (pins_of old) path target in
    subst (λ r. (exchanged (roots_view new devices) (Pin path before)).0 ≡ record r { room = room_of new }) e
    (λ i. record { pins = back i; devices = devices; room = room_of new })

pub restores_prog : (roots : RootsView) (slots : Slots) (old new : List Device) (position : ℕ) (prog before : Option ℕ)
    → roots_view slots old ≡ roots → new ≡ attach_at old position prog → before ≡ prog_at old position
    → (exchanged (roots_view slots new) (Attachment position before)).0 ≡ record roots { room = (roots_view slots new).room }
unfolding roots_view exchanged
restores_prog roots slots old new position prog before e put was =
    let back : attach_at new position before ≡ old =
    ap (λ ds. attach_at ds position before) put ∙ ap (attach_at (attach_at old position prog) position) was ∙ attach_at-attach_at old position prog in
    subst (λ r. (exchanged (roots_view slots new) (Attachment position before)).0 ≡ record r { room = room_of slots }) e
    (λ i. record { pins = pins_of slots; devices = back i; room = room_of slots })

pub none_is : (target : Option Target) → is_some target ≡ false → None ≡ target
none_is None e = refl
none_is (Some target) e = cc

-- more room
added_path : (a b : Bool) → b ≡ true → (a || b) ≡ true
added_path true b h = refl
added_path false b h = h

pub room_kept : (room : Paths) (path q : List ℕ) → set.contains room q ≡ true → set.contains (set.insert room path) q ≡ true
room_kept room path q h = set.contains-insert nat_list_cmp_total room path q ∙ added_path (eq_by_cmp path_cmp q path) (set.contains room q) h

pub room_made : (room : Paths) (path : List ℕ) → set.contains (set.insert room path) path ≡ true
room_made room path = set.contains-insert nat_list_cmp_total room path path ∙ ap (λ o. is_eq o || set.contains room path) (tied_itself nat_list_cmp_total path)
