use Rattle.std.proofs.Common.{◌≡◌, ◌++◌, string_bytes, take}
use Rattle.std.specs.List.{flat_map}
use Rattle.world_model.specs.Texts.{fact_text}
use Rattle.world_run.proofs.texts.put_facts.Given as goal

abbrev pub invariant-loop-fact : goal.invariant-loop-fact
invariant-loop-fact l = string_bytes l.text ≡ string_bytes l.fn.text ++ flat_map (fact_text l.number) (take l.fact-index l.facts)
