-- Lines worked by hand, against the definitions.
use Rattle.std.proofs.Common.{◌≡◌, refl, Some, None, Ok, Err}
use Rattle.std.specs.Prelude.{codes}
use Rattle.bt_syntax.specs.declared.fault.SyntaxFault.TheVariants.{At}
use Rattle.console_live_words.specs.LiveLines.{live_read}
use Rattle.console_live_words.specs.declared.command.LiveCommand.TheVariants.{Workers, Try, Confirm}
use Rattle.console_live_words.specs.declared.command.WorkersCommand.TheVariants.{Stop}

workers_that_stop : live_read (codes " workers stop # now") ≡ Ok (Some (Workers Stop))
workers_that_stop = refl

workers_alone : live_read (codes "workers") ≡ Err (At 2)
workers_alone = refl

an_unknown_word : live_read (codes "workers foo bar") ≡ Err (At 2)
an_unknown_word = refl

a_word_too_many : live_read (codes "workers stop go") ≡ Err (At 3)
a_word_too_many = refl

a_try : live_read (codes "journal try good 0x1e") ≡ Ok (Some (Try (codes "good") 30))
a_try = refl

a_try_of_a_day : live_read (codes "journal try good 86400") ≡ Ok (Some (Try (codes "good") 86400))
a_try_of_a_day = refl

a_try_of_more : live_read (codes "journal try good 86401") ≡ Err (At 4)
a_try_of_more = refl

a_try_of_no_time : live_read (codes "journal try m 0") ≡ Err (At 4)
a_try_of_no_time = refl

an_early_end : live_read (codes "journal try m") ≡ Err (At 4)
an_early_end = refl

a_confirmed_try : live_read (codes "journal confirm good") ≡ Ok (Some (Confirm (codes "good")))
a_confirmed_try = refl

a_line_of_the_console : live_read (codes "journal mark good") ≡ Ok None
a_line_of_the_console = refl

an_unfinished_line_of_the_console : live_read (codes "journal") ≡ Ok None
an_unfinished_line_of_the_console = refl

no_words : live_read (codes "# workers stop") ≡ Ok None
no_words = refl
