-- The options of a book, read one at a time.
use Rattle.std.proofs.Common.{◌≡◌, ap, ◌∙◌, List, ◌∷◌, Option, Some}
use Rattle.std.specs.Option.{option_and_then, option_map_or}
use Rattle.std.specs.declared.alloc.Global.{Global}
use Rattle.std.specs.declared.string.String.{String}
use Rattle.console_input.specs.Options.{Parts, parts_of, option_of, with_option, options_in}
use Rattle.console_input.specs.declared.options.BookOption.{BookOption}
use Rattle.console_input.specs.declared.options.BookOptions.{BookOptions}

module _ (given : BookOptions) (verb value next : String Global) (words : List (String Global)) where
  -- what the words are if the first names this option, or none
  abbrev pub options_named : Option BookOption → Option Parts
  options_named named = option_map_or (λ option. option_and_then (λ more. options_in more next words) (with_option given option value)) named (Some (parts_of given verb (value ∷ next ∷ words)))

  -- an option with its value is taken, and the word after it
  pub option_taken : (option : BookOption) (more : BookOptions) → option_of verb ≡ Some option → with_option given option value ≡ Some more → options_in given verb (value ∷ next ∷ words) ≡ options_in more next words
  option_taken option more names sets = ap options_named names ∙ ap (option_and_then (λ it. options_in it next words)) sets
