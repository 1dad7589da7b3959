-- What the words after `live` ask, read an option at a time.
use Rattle.std.proofs.Common.{◌≡◌, List, ◌∷◌, Option, Some, ◌∙◌, ap}
use Rattle.std.specs.Option.{option_and_then, option_map_or}
use Rattle.std.specs.declared.alloc.Global.{Global}
use Rattle.std.specs.declared.string.String.{String}
use Rattle.console_input.specs.Live.{option_of, with_option, with_files, live_behind}
use Rattle.console_input.specs.declared.live.Given.{Given}
use Rattle.console_input.specs.declared.live.Live.{Live}
use Rattle.console_input.specs.declared.live.LiveOption.{LiveOption}

module _ (given : Given) (word next : String Global) (words : List (String Global)) where
  -- what is asked if the first word names this option, or none
  abbrev pub live_named : Option LiveOption → Option Live
  live_named named = option_map_or (λ option. option_and_then (λ more. live_behind more words) (with_option given option next)) named (with_files given word next words)

  -- an option with its value is taken, and the words after it are read
  pub option_taken : (option : LiveOption) (more : Given) → option_of word ≡ Some option → with_option given option next ≡ Some more →
      live_behind given (word ∷ next ∷ words) ≡ live_behind more words
  option_taken option more names sets = ap live_named names ∙ ap (option_and_then (λ it. live_behind it words)) sets
