-- What is asked without a book is what the words ask by themselves.
use Rattle.std.proofs.Common.{◌≡◌, ℕ, true, false, Bool, List, [], ◌∷◌, Option, Some, None, Result, Ok, Err}
use Rattle.std.specs.Prelude.{MatchBool, is_some, unwrap_or, string_bytes}
use Rattle.std.specs.declared.alloc.Global.{Global}
use Rattle.std.specs.declared.string.String.{String}
use Rattle.console_input.specs.Book.{plain, is_of_book, IsOfNamed, IsOfFile, RequestOpted, RequestWithout, RequestBy, RequestIn}
use Rattle.console_input.specs.Options.{Parts, option_of, no_options, options_in}
use Rattle.console_input.specs.Orders.{order_by_words, behind_name, order_in}
use Rattle.console_input.specs.declared.book.Request.{Request}
use Rattle.console_input.specs.declared.book.Request.TheVariants.{Plain}
use Rattle.console_input.specs.declared.fault.ArgsFault.{ArgsFault}
use Rattle.console_input.specs.declared.fault.ArgsFault.TheVariants.{Usage}
use Rattle.console_input.specs.declared.order.Order.{Order}

plain_only : (order : Order) (asked : Result Order ArgsFault) → Ok (Plain order) ≡ plain asked → asked ≡ Ok order
plain_only order (Ok other) e = cc
plain_only order (Err fault) e = cc

module _ (order : Order) where
  abbrev told : Result Request ArgsFault
  told = Ok (Plain order)

  -- it is not asked of a book that the environment names
  not_of_named : {P : Type 0} (named : Result (Option (String Global)) ArgsFault) (wait : ℕ) (words : List (String Global)) (other : Result Request ArgsFault) → (told ≡ other → P) → IsOfNamed named wait words other told → P
  not_of_named (Ok (Some file)) wait words other by it = absurd it
  not_of_named (Ok None) wait words other by it = by it
  not_of_named (Err fault) wait words other by it = cc

  not_of_file : {P : Type 0} (file : Option (String Global)) (named : Result (Option (String Global)) ArgsFault) (wait : ℕ) (words : List (String Global)) → IsOfFile file named wait words told → P
  not_of_file (Some file) named wait words it = absurd it
  not_of_file None named wait words it = not_of_named named wait words (Err Usage) (λ e. cc) it

  not_opted : {P : Type 0} (named : Result (Option (String Global)) ArgsFault) (parts : Option Parts) → RequestOpted named parts told → P
  not_opted named None it = cc
  not_opted named (Some parts) it = not_of_file parts.options.file named (unwrap_or parts.options.wait 0) (parts.verb ∷ parts.words) it

  module _ (named : Result (Option (String Global)) ArgsFault) (verb : String Global) (words : List (String Global)) where
    without_options : (of_book : Bool) → MatchBool of_book (IsOfNamed named 0 (verb ∷ words) (plain (order_by_words (verb ∷ words))) told) (told ≡ plain (order_by_words (verb ∷ words))) → order_by_words (verb ∷ words) ≡ Ok order
    without_options true it = not_of_named named 0 (verb ∷ words) (plain (order_by_words (verb ∷ words))) (plain_only order (order_by_words (verb ∷ words))) it
    without_options false e = plain_only order (order_by_words (verb ∷ words)) e

    either_way : (with_options : Bool) → MatchBool with_options (RequestOpted named (options_in no_options verb words) told) (RequestWithout named verb words told) → order_by_words (verb ∷ words) ≡ Ok order
    either_way true it = not_opted named (options_in no_options verb words) it
    either_way false it = without_options (is_of_book (string_bytes verb)) it

  by_words : (named : Result (Option (String Global)) ArgsFault) (words : List (String Global)) → RequestBy named words told → order_by_words words ≡ Ok order
  by_words named [] e = plain_only order (order_by_words []) e
  by_words named (verb ∷ words) it = either_way named verb words (is_some (option_of verb)) it

pub by_args : (args : Result (List (String Global)) ArgsFault) (named : Result (Option (String Global)) ArgsFault) (order : Order) → RequestIn named args (Ok (Plain order)) → order_in args ≡ Ok order
by_args (Ok args) named order it = by_words order named (behind_name args) it
by_args (Err fault) named order e = cc
