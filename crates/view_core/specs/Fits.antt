-- Acts whose values have a spelling.
use Rattle.std.specs.Prelude.{⊤}
use Rattle.ord_types.specs.Lengths.{FitsBlock, FitsCert}
use Rattle.view_model.specs.declared.act.Act.{Act}
use Rattle.view_model.specs.declared.act.Act.TheVariants as act_of

-- the lengths of a block and of a certificate that an act names fit the fields that tell them
abbrev pub FitsAct : Act → Type 0
FitsAct (act_of.Accept b) = FitsBlock b
FitsAct (act_of.Prepare d) = ⊤
FitsAct (act_of.Deliver b cert) = FitsBlock b × FitsCert cert
FitsAct act_of.Kept = ⊤
FitsAct (act_of.Nothing r) = ⊤
