-- What is told of the workers of a live host.
use Rattle.std.specs.Prelude.{ℕ, List, [], ◌∷◌, ◌++◌, Option, Some, None, nat_eq, if◌then◌else◌, codes, decimal}
use Rattle.std.specs.List.{flat_map, concat}
use Rattle.thread_rounds.specs.declared.tally.Tally.{Tally}
use Rattle.thread_live.specs.declared.report.State.{State}
use Rattle.thread_live.specs.declared.report.State.TheVariants.{Running, Resting, Stopped}
use Rattle.thread_live.specs.declared.report.Report.{Report}
use Rattle.thread_live.specs.declared.report.Row.{Row}

-- a number on a line of its own after its name, if it is not 0
abbrev pub count_text : List ℕ → ℕ → List ℕ
count_text name count = if nat_eq count 0 then [] else concat (name ∷ codes " " ∷ decimal count ∷ codes "\n" ∷ [])

abbrev pub row_text : Row → List ℕ
row_text row = count_text row.name.now row.count

abbrev pub rows_text : List Row → List ℕ
rows_text rows = flat_map row_text rows

-- how many frames ended how
abbrev pub counts_text : Tally → List ℕ
counts_text tally = concat (
    count_text (codes "XDP_ABORTED") tally.aborted
    ∷ count_text (codes "XDP_DROP") tally.drop
    ∷ count_text (codes "XDP_PASS") tally.pass
    ∷ count_text (codes "XDP_TX") tally.tx
    ∷ count_text (codes "XDP_REDIRECT") tally.redirect
    ∷ count_text (codes "aborted") tally.faulted
    ∷ count_text (codes "no program") tally.no_program
    ∷ count_text (codes "no device") tally.no_device
    ∷ count_text (codes "no memory") tally.no_memory
    ∷ count_text (codes "seat spent") tally.spent
    ∷ [])

abbrev pub state_text : State → List ℕ
state_text Running = codes " running\n"
state_text Resting = codes " resting\n"
state_text Stopped = codes " stopped\n"

-- how many workers there are, and what they do
abbrev pub standing_text : ℕ → State → List ℕ
standing_text workers state = concat (codes "workers " ∷ decimal workers ∷ state_text state ∷ [])

abbrev pub ended_text : Tally → List ℕ
ended_text tally = concat (codes "frames " ∷ decimal tally.frames ∷ codes "\n" ∷ [])

abbrev pub frames_text : Tally → List ℕ
frames_text tally = ended_text tally ++ counts_text tally

abbrev pub moments_text : ℕ → ℕ → List ℕ
moments_text moments most = concat (codes "moments " ∷ decimal moments ∷ codes " of " ∷ decimal most ∷ codes "\n" ∷ [])

abbrev pub rate_text : Option ℕ → List ℕ
rate_text (Some rate) = concat (codes "rate " ∷ decimal rate ∷ codes "\n" ∷ [])
rate_text None = []

abbrev pub rest_text : Report → List ℕ
rest_text report = moments_text report.moments report.most_moments ++ rate_text report.rate

abbrev pub behind_text : Report → List ℕ
behind_text report = frames_text report.tally ++ rest_text report

-- all of it
abbrev pub report_text : Report → List ℕ
report_text report = standing_text report.workers report.state ++ behind_text report
