use Rattle.std.proofs.Common.{◌∙◌}
use Rattle.block_ledger.proofs.Ordering.{next_config_is, next_in_order}
use Rattle.block_ledger.proofs.blocks.Blocks.add.Goals as goal

pub invariant_of-self-2 : goal.invariant_of-self-2
invariant_of-self-2 c =
    record {
      in_order = next_in_order c.args.self.now.chain c.push.new.self c.args.self.now.place c.replace.new.dest (c.args.block, c.args.proof)
          c.args.self.now.in_order c.in_ok-push.ensures.ok (c.replace.ensures.after ∙ c.in_ok-place.ensures);
    }

pub returns-clause-config : goal.returns-clause-config
returns-clause-config c =
    next_config_is c.args.self.now.place c.replace.new.dest (c.args.block, c.args.proof) (c.replace.ensures.after ∙ c.in_ok-place.ensures)
