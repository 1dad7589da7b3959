-- What is written of frames after a script: a line each, and how many moments the book then has.
use Rattle.std.specs.Prelude.{ℕ, List, [], ◌∷◌, ◌++◌, codes, decimal}
use Rattle.std.specs.List.{flat_map, concat}
use Rattle.journal_model.specs.declared.faults.StartFault.TheVariants.{NoDevice, NoMemory}
use Rattle.console_text.specs.Text.{ended_text}
use Rattle.bt_workers.specs.declared.result.FrameEnd.{FrameEnd}
use Rattle.bt_workers.specs.declared.result.FrameEnd.TheVariants.{Ended, NotStarted, SeatSpent}
use Rattle.bt_workers.specs.declared.result.FrameResult.{FrameResult}

-- how a frame ended, as the console tells it of a frame of a script
abbrev pub end_text : FrameEnd → List ℕ
end_text (Ended end) = ended_text end
end_text (NotStarted NoDevice) = codes "Error: ENOENT (-2)\n"
end_text (NotStarted NoMemory) = codes "Error: no memory\n"
end_text SeatSpent = codes "Error: seat spent\n"

abbrev pub naming_text : ℕ → List ℕ
naming_text number = concat (codes "frame " ∷ decimal number ∷ codes " " ∷ [])

abbrev pub frame_text : FrameResult → List ℕ
frame_text ended = naming_text ended.number ++ end_text ended.end

abbrev pub moments_text : ℕ → List ℕ
moments_text moments = concat (codes "moments " ∷ decimal moments ∷ codes "\n" ∷ [])

abbrev pub ends_text : List FrameResult → ℕ → List ℕ
ends_text ends moments = flat_map frame_text ends ++ moments_text moments
