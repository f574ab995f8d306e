-- A log that is opened.
use Rattle.std.specs.Prelude.{◌≡◌, ℕ, List, Result, Ok, Err}
use Rattle.ord_types.specs.Causes.{Rose}
use Rattle.gate_log.specs.Disk.{File, MayLeave}
use Rattle.gate_log.specs.Format.{reading, opened_as}
use Rattle.gate_log.specs.declared.reading.Reading.{Reading}
use Rattle.gate_log.specs.declared.reading.Reading.TheVariants.{Foreign, Log}
use Rattle.gate_log.specs.declared.log.GateLog.{GateLog}
use Rattle.gate_log.specs.declared.fault.LogFault.{LogFault}
use Rattle.gate_log.specs.declared.fault.LogFault.TheVariants.{TooLong, Foreign as ForeignFile, NoMemory, Failed}

-- The bytes open to what some crash of the file could have opened to.
pub record OpensAsBefore (file : File) (c : List ℕ) : Type 0 where
  pub image : List ℕ
  pub left : MayLeave file image
  pub same : opened_as (reading c) ≡ opened_as (reading image)

-- The log is what the file stands for; a foreign file is refused at its first wrong byte, and no other file is.
abbrev pub LogOpensTo : Reading → Result GateLog LogFault → Type 0
LogOpensTo read (Ok log) = opened_as read ≡ Log log.generation log.entries
LogOpensTo read (Err (TooLong n)) = ⊥
LogOpensTo read (Err (ForeignFile at)) = read ≡ Foreign at
LogOpensTo read (Err NoMemory) = Unit {0}
LogOpensTo read (Err Failed) = Unit {0}

-- why a log isn't opened
abbrev pub OpenAnswers : ℕ → ℕ → Result GateLog LogFault → Type 0
OpenAnswers before now (Ok _) = Unit {0}
OpenAnswers before now (Err (TooLong n)) = ⊥
OpenAnswers before now (Err (ForeignFile at)) = Unit {0}
OpenAnswers before now (Err NoMemory) = Unit {0}
OpenAnswers before now (Err Failed) = Rose before now
