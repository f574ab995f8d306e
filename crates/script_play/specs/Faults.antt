-- What a reader's fault is to a run.
use Rattle.line_flow.specs.declared.reader.LineFault.{LineFault}
use Rattle.line_flow.specs.declared.reader.LineFault.TheVariants.{ReadFault, NoMemory}
use Rattle.script_play.specs.declared.ending.Fault.{Fault}
use Rattle.script_play.specs.declared.ending.Fault.TheVariants.{ReadFault as Reading, OutOfMemory}

abbrev pub fault_of : LineFault → Fault
fault_of ReadFault = Reading
fault_of NoMemory = OutOfMemory
