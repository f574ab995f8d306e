use Rattle.std.proofs.Common.{refl}
use Rattle.std.specs.Prelude.{string_bytes}
use Rattle.world_run.proofs.TellLemmas.{started_keeps, started_turned}
use Rattle.world_run.proofs.world.World.start.Goals as goal

pub returns-clause-keeps : goal.returns-clause-keeps
returns-clause-keeps c = started_keeps c.args.self.now _ c.args.place c.index_mut-member.result.now c.requires.there c.index_mut-member.ensures.value refl refl refl refl

pub returns-clause-says : goal.returns-clause-says
returns-clause-says c = started_turned c.args.self.now c.args.place c.index_mut-member.result.now (string_bytes c.put_start.new.text) c.index_mut-member.ensures.value c.in_ok-put_start.ensures c.requires.first
