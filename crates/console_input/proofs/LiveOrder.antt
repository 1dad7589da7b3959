-- An order to a live host has options within their bounds.
use Rattle.std.proofs.Common.{◌≡◌, ℕ, true, false, Bool, cond, List, [], ◌∷◌, Option, Some, None, Result, Ok, Err, ◌∙◌, ap}
use Rattle.std.specs.Prelude.{◌||◌, codes, string_bytes}
use Rattle.std.specs.Option.{option_map, ok_or}
use Rattle.std.specs.Str.{bytes_eq}
use Rattle.std.specs.declared.alloc.Global.{Global}
use Rattle.std.specs.declared.string.String.{String}
use Rattle.std.proofs.lemmas.Option.{same_Some}
use Rattle.console_input.specs.Live.{asked_live, AreWithin}
use Rattle.console_input.specs.Orders.{asked_alone, asked_to_run, asked_of_paths, asked, fault_of, behind_name, order_in}
use Rattle.console_input.specs.declared.fault.ArgsFault.{ArgsFault}
use Rattle.console_input.specs.declared.live.Live.{Live}
use Rattle.console_input.specs.declared.order.Order.{Order}
use Rattle.console_input.specs.declared.order.Order.TheVariants as order
use Rattle.console_input.proofs.LiveWithin.{made_of, asked_within}

-- what is one of two things, or the other
one_of : {A P : Type 0} (b : Bool) (x y it : A) → (x ≡ it → P) → (y ≡ it → P) → cond b x y ≡ it → P
one_of true x y it one other e = one e
one_of false x y it one other e = other e

-- ---- no other verb asks for a live host
alone_is_none : (verb : List ℕ) (live : Live) → asked_alone verb ≡ Some (order.Live live) → ⊥
alone_is_none verb live =
    one_of (bytes_eq verb (codes "help") || bytes_eq verb (codes "--help") || bytes_eq verb (codes "-h")) (Some order.Help) _ _ (λ e. cc)
    (one_of (bytes_eq verb (codes "version") || bytes_eq verb (codes "--version") || bytes_eq verb (codes "-V")) (Some order.Version) _ _ (λ e. cc)
    (one_of (bytes_eq verb (codes "shell")) (Some order.Shell) None _ (λ e. cc) (λ e. cc)))

run_is_none : (path : String Global) (live : Live) → asked_to_run path ≡ order.Live live → ⊥
run_is_none path live = one_of (bytes_eq (string_bytes path) (codes "-")) order.RunInput (order.Run path) (order.Live live) (λ e. cc) (λ e. cc)

paths_are_none : (verb : List ℕ) (words : List (String Global)) (live : Live) → asked_of_paths verb words ≡ Some (order.Live live) → ⊥
paths_are_none verb [] live = alone_is_none verb live
paths_are_none verb (path ∷ []) live =
    one_of (bytes_eq verb (codes "run")) (Some (asked_to_run path)) None (Some (order.Live live)) (λ e. run_is_none path live (same_Some (asked_to_run path) (order.Live live) e)) (λ e. cc)
paths_are_none verb (script ∷ frames ∷ []) live = one_of (bytes_eq verb (codes "host")) (Some (order.Host script frames)) None (Some (order.Live live)) (λ e. cc) (λ e. cc)
paths_are_none verb (script ∷ frames ∷ after ∷ []) live = one_of (bytes_eq verb (codes "host")) (Some (order.HostThen script frames after)) None (Some (order.Live live)) (λ e. cc) (λ e. cc)
paths_are_none verb (one ∷ two ∷ three ∷ four ∷ words) live = λ e. cc

-- ---- and `live` does, if its words are good
words_within : (words : List (String Global)) (live : Live) → asked words ≡ Some (order.Live live) → AreWithin live.options
words_within [] live = λ e. cc
words_within (verb ∷ words) live =
    one_of (bytes_eq (string_bytes verb) (codes "live")) (option_map order.Live (asked_live words)) (asked_of_paths (string_bytes verb) words) (Some (order.Live live))
    (λ e. made_of order.Live (asked_live words) (order.Live live) e (λ it is same. let one : it ≡ live = cc in asked_within words live (is ∙ ap Some one)))
    (λ e. absurd (paths_are_none (string_bytes verb) words live e))

some_of : (found : Option Order) (fault : ArgsFault) (it : Order) → ok_or found fault ≡ Ok it → found ≡ Some it
some_of None fault it e = cc
some_of (Some found) fault it e = cc

pub args_within : (args : Result (List (String Global)) ArgsFault) (live : Live) → order_in args ≡ Ok (order.Live live) → AreWithin live.options
args_within (Ok args) live e = words_within (behind_name args) live (some_of (asked (behind_name args)) (fault_of (behind_name args)) (order.Live live) e)
args_within (Err fault) live e = cc
