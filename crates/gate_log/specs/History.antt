-- The states of three files in memory.
use Rattle.std.specs.Prelude.{ℕ, List, [], ◌∷◌, take}
use Rattle.gate_log.specs.Disk.{File, State, synced_file}
use Rattle.gate_log.specs.Calls.{file_of, file_after, start, states_from}
use Rattle.gate_log.specs.declared.history.History.{History}

-- the states so far, the last first
abbrev pub states : History → List State
states history = states_from (start history.began ∷ []) history.calls.items

-- a file after the first of its calls
abbrev pub file_at : History → ℕ → ℕ → File
file_at history f n = file_after f (synced_file (file_of history.began f)) (take n history.calls.items)
