-- The options that a live host is asked for are within their bounds.
use Rattle.std.proofs.Common.{◌≡◌, ℕ, true, false, cond, List, [], ◌∷◌, Option, Some, None, refl, subst, arith}
use Rattle.std.specs.Prelude.{nat_le, unwrap_or, IfSome, string_bytes}
use Rattle.std.specs.Option.{option_map}
use Rattle.std.specs.declared.alloc.Global.{Global}
use Rattle.std.specs.declared.string.String.{String}
use Rattle.std.proofs.lemmas.Bool.{and_parts, leb-true}
use Rattle.std.proofs.lemmas.Option.{none-some, same_Some, cond_some, option_and_then_some}
use Rattle.host_words.specs.Spelling.{is_name}
use Rattle.console_operand.specs.Number.{is_between, number_of}
use Rattle.console_input.specs.Live.{if_between, number_between, device_of, none_given, is_given, set_to, with_option, options_of, option_of, with_files, live_behind, asked_live, IsBetween, IsDevice, AreWithin}
use Rattle.console_input.specs.declared.live.Given.{Given}
use Rattle.console_input.specs.declared.live.Live.{Live}
use Rattle.console_input.specs.declared.live.LiveOption.{LiveOption}
use Rattle.console_input.specs.declared.live.LiveOption.TheVariants as o
use Rattle.console_input.proofs.LiveRead.{live_named}

-- ---- what is given is within its bounds
record GivenWithin (given : Given) : Type 0 where
  workers : IfSome given.workers (IsBetween 1 64)
  rate : IfSome given.rate (IsBetween 0 1_000_000_000)
  repeat : IfSome given.repeat (IsBetween 1 4_294_967_295)
  journal : IfSome given.journal (IsBetween 1 1_000_000)
  device : IfSome given.device IsDevice

nothing_within : GivenWithin none_given
nothing_within = record { workers = tt; rate = tt; repeat = tt; journal = tt; device = tt }

number_within : (least most found : ℕ) (word : List ℕ) → number_between least most word ≡ Some found → IsBetween least most found
number_within least most found word e = option_and_then_some (if_between least most) (number_of word) found e (λ number _ is.
    let parts = cond_some (is_between least most number) number found is in
    let ends = and_parts (nat_le least number) (nat_le number most) parts.0 in
    subst (IsBetween least most) parts.1 (leb-true least number ends.0, leb-true number most ends.1))

device_within : (word name : String Global) → device_of word ≡ Some name → IsDevice name
device_within word name e = let parts = cond_some (is_name (string_bytes word)) word name e in subst IsDevice parts.1 parts.0

-- if a value is made of another one
pub made_of : {A B P : Type 0} (f : A → B) (from : Option A) (made : B) → option_map f from ≡ Some made → ((it : A) → from ≡ Some it → f it ≡ made → P) → P
made_of f None made e so = absurd (none-some made e)
made_of f (Some it) made e so = so it refl (same_Some (f it) made e)

set_within : (given more : Given) (option : LiveOption) (word : String Global) → GivenWithin given → set_to given option word ≡ Some more → GivenWithin more
set_within given more o.Workers word was e =
    made_of (λ count. record given { workers = Some count }) (number_between 1 64 (string_bytes word)) more e (λ count is same. subst GivenWithin same
    (record { workers = number_within 1 64 count (string_bytes word) is; rate = was.rate; repeat = was.repeat; journal = was.journal; device = was.device }))
set_within given more o.Rate word was e =
    made_of (λ rate. record given { rate = Some rate }) (number_between 0 1_000_000_000 (string_bytes word)) more e (λ rate is same. subst GivenWithin same
    (record { workers = was.workers; rate = number_within 0 1_000_000_000 rate (string_bytes word) is; repeat = was.repeat; journal = was.journal; device = was.device }))
set_within given more o.Repeat word was e =
    made_of (λ passes. record given { repeat = Some passes }) (number_between 1 4_294_967_295 (string_bytes word)) more e (λ passes is same. subst GivenWithin same
    (record { workers = was.workers; rate = was.rate; repeat = number_within 1 4_294_967_295 passes (string_bytes word) is; journal = was.journal; device = was.device }))
set_within given more o.Journal word was e =
    made_of (λ moments. record given { journal = Some moments }) (number_between 1 1_000_000 (string_bytes word)) more e (λ moments is same. subst GivenWithin same
    (record { workers = was.workers; rate = was.rate; repeat = was.repeat; journal = number_within 1 1_000_000 moments (string_bytes word) is; device = was.device }))
set_within given more o.Device word was e =
    made_of (λ name. record given { device = Some name }) (device_of word) more e (λ name is same. subst GivenWithin same
    (record { workers = was.workers; rate = was.rate; repeat = was.repeat; journal = was.journal; device = device_within word name is }))

option_within : (given more : Given) (option : LiveOption) (word : String Global) → GivenWithin given → with_option given option word ≡ Some more → GivenWithin more
option_within given more option word was e =
    elim (is_given given option) as (λ b. cond b None (set_to given option word) ≡ Some more → GivenWithin more) [
      | true ↦ λ none. absurd (none-some more none)
      | false ↦ λ sets. set_within given more option word was sets
    ] e

-- ---- and so is what is asked
or_within : (P : ℕ → Type 0) (found : Option ℕ) (without : ℕ) → P without → IfSome found P → P (unwrap_or found without)
or_within P None without so is = so
or_within P (Some it) without so is = is

options_within : (given : Given) → GivenWithin given → AreWithin (options_of given)
options_within given is = record {
  workers = or_within (IsBetween 1 64) given.workers 2 (omega arith, omega arith) is.workers;
  rate = (or_within (IsBetween 0 1_000_000_000) given.rate 1000 (omega arith, omega arith) is.rate).1;
  repeat = is.repeat;
  journal = or_within (IsBetween 1 1_000_000) given.journal 1_000_000 (omega arith, omega arith) is.journal;
  device = is.device;
}

files_within : (given : Given) (setup frames : String Global) (words : List (String Global)) (live : Live) → GivenWithin given → with_files given setup frames words ≡ Some live → AreWithin live.options
files_within given setup frames [] live is e = subst (λ (it : Live). AreWithin it.options) (same_Some _ _ e) (options_within given is)
files_within given setup frames (word ∷ words) live is e = absurd (none-some live e)

words_within : (words : List (String Global)) (given : Given) (live : Live) → GivenWithin given → live_behind given words ≡ Some live → AreWithin live.options
words_within [] given live is e = absurd (none-some live e)
words_within (word ∷ []) given live is e = absurd (none-some live e)
words_within (word ∷ next ∷ words) given live is e =
    elim (option_of word) as (λ named. live_named given word next words named ≡ Some live → AreWithin live.options) [
      | None ↦ λ files. files_within given word next words live is files
      | Some option ↦ λ sets. option_and_then_some (λ more. live_behind more words) (with_option given option next) live sets
          (λ more taken behind. words_within words more live (option_within given more option next is taken) behind)
    ] e

pub asked_within : (words : List (String Global)) (live : Live) → asked_live words ≡ Some live → AreWithin live.options
asked_within words live e = words_within words none_given live nothing_within e
