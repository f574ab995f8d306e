-- The exit status of a run.
use Rattle.std.specs.Prelude.{◌≡◌, ◌⊎◌, ℕ}
use Rattle.script_play.specs.declared.ending.Fault.{Fault}
use Rattle.script_play.specs.declared.ending.Fault.TheVariants.{ReadFault, WriteFault, OutOfMemory}
use Rattle.script_play.specs.declared.ending.Ending.{Ending}
use Rattle.script_play.specs.declared.ending.Ending.TheVariants.{Done, MalformedLine, LaterLine, Limit, TooManyFaulty}

abbrev pub status_of : Ending → ℕ
status_of Done = 0
status_of (MalformedLine number place) = 3
status_of (TooManyFaulty number config count bound) = 5
status_of (LaterLine number) = 17
status_of (Limit limit) = 9

abbrev pub fault_number : Fault → ℕ
fault_number ReadFault = 6
fault_number WriteFault = 7
fault_number OutOfMemory = 8

-- a status that the script decides
abbrev pub IsOwn : ℕ → Type 0
IsOwn status = (status ≡ 0) ⊎ ((status ≡ 3) ⊎ ((status ≡ 5) ⊎ ((status ≡ 9) ⊎ (status ≡ 17))))
