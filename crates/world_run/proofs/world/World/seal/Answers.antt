use Rattle.std.proofs.Common.{ap, sym, Ok}
use Rattle.std.specs.Prelude.{string_bytes}
use Rattle.world_run.proofs.world.World.seal.Goals as goal

pub returns-clause-says : goal.returns-clause-says
returns-clause-says c = λ at later.
    record {
      printed = rw (ap string_bytes c.in_ok-sign.ensures.text, c.in_ok-sign.ensures.keeps.number, c.sealed-place.ensures) at c.in_ok-put_seal.ensures;
      next = ap Ok (sym (c.in_ok-sign.ensures.world at later));
    }
