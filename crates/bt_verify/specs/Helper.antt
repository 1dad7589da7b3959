-- The helper functions that a program may call, by the numbers of Linux (include/uapi/linux/bpf.h), with their arguments.
use Rattle.std.specs.Prelude.{ℕ, ℤ, pos, Option, [], ◌∷◌, find}
use Rattle.std.specs.Ordering.{int_eq}
use Rattle.bt_verify.specs.declared.helper.Helper.{Helper}
use Rattle.bt_verify.specs.declared.helper.Helper.TheVariants.{MapLookupElem, MapUpdateElem, MapDeleteElem, TailCall, MapPushElem, MapPopElem, MapPeekElem}

abbrev pub helper_number : Helper → ℤ
helper_number MapLookupElem = pos 1
helper_number MapUpdateElem = pos 2
helper_number MapDeleteElem = pos 3
helper_number TailCall = pos 12
helper_number MapPushElem = pos 87
helper_number MapPopElem = pos 88
helper_number MapPeekElem = pos 89

-- the helper with a number
unfoldable pub helper_of : ℤ → Option Helper
helper_of n =
    find (λ h. int_eq n (helper_number h))
    (MapLookupElem ∷ MapUpdateElem ∷ MapDeleteElem ∷ TailCall ∷ MapPushElem ∷ MapPopElem ∷ MapPeekElem ∷ [])

-- the registers that hold its arguments: R1 and those after it, bit r for Rr
abbrev pub arguments : Helper → ℕ
arguments MapLookupElem = 0b110
arguments MapUpdateElem = 0b11110
arguments MapDeleteElem = 0b110
arguments TailCall = 0b1110
arguments MapPushElem = 0b1110
arguments MapPopElem = 0b110
arguments MapPeekElem = 0b110
