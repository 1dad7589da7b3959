-- A reader whose bytes were all read.
use Rattle.std.proofs.Common.{◌≡◌, ◌∙◌, ℕ, ◌+◌, ◌<◌, ◌≤◌, List, [], ◌++◌, length, Option, Some, None, ap, arith}
use Rattle.std.specs.Prelude.{take, min, IfSome}
use Rattle.std.specs.Option.{option_map}
use Rattle.std.proofs.lemmas.List.{length-take, take_all}
use Rattle.console_input.specs.declared.fault.Cause.{Cause}
use Rattle.console_input.specs.declared.fault.Cause.TheVariants.{Failed, TooLong}
use Rattle.console_input.specs.declared.fault.ReadFault.TheVariants.{NoMemory, Unread}

-- if fewer bytes came than were asked for, they are all
whole : (most : ℕ) (bytes all : List ℕ) → bytes ≡ take (most + 1) all → length bytes ≤ most → bytes ≡ all
whole most bytes all is few =
    let count : length bytes ≡ min (most + 1) (length all) = ap length is ∙ length-take (most + 1) all in
    is ∙ take_all (most + 1) all (omega (arith, count, few))

-- the same of a reader whose bytes may not be known
pub whole_if_known : (most limit : ℕ) (begun bytes : List ℕ) (remaining : Option (List ℕ)) → limit ≡ most + 1 → begun ≡ [] →
    IfSome (option_map (take limit) remaining) (λ front. bytes ≡ begun ++ front) → length bytes ≤ most → IfSome remaining (λ all. bytes ≡ all)
whole_if_known most limit begun bytes None one_more empty is few = tt
whole_if_known most limit begun bytes (Some all) one_more empty is few =
    whole most bytes all (is ∙ ap (λ xs. xs ++ take limit all) empty ∙ ap (λ n. take n all) one_more) few

-- ---- if more bytes came than so many, there are more
longer : (most : ℕ) (bytes all : List ℕ) → bytes ≡ take (most + 1) all → most < length bytes → most < length all
longer most bytes all is more =
    let count : length bytes ≡ min (most + 1) (length all) = ap length is ∙ length-take (most + 1) all in
    omega (arith, count, more)

pub longer_if_known : (most limit : ℕ) (begun bytes : List ℕ) (remaining : Option (List ℕ)) → limit ≡ most + 1 → begun ≡ [] →
    IfSome (option_map (take limit) remaining) (λ front. bytes ≡ begun ++ front) → most < length bytes → IfSome remaining (λ all. most < length all)
longer_if_known most limit begun bytes None one_more empty is more = tt
longer_if_known most limit begun bytes (Some all) one_more empty is more =
    longer most bytes all (is ∙ ap (λ xs. xs ++ take limit all) empty ∙ ap (λ n. take n all) one_more) more

-- ---- why a read failed is no length
pub never_both : (why : Cause) → NoMemory ≡ Unread why → ⊥
never_both why e = cc

pub not_failed : (error : _) (limit : ℕ) → Unread (Failed error) ≡ Unread (TooLong limit) → ⊥
not_failed error limit e = cc
