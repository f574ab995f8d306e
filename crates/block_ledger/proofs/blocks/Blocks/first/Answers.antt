use Rattle.std.proofs.Common.{◌∙◌}
use Rattle.block_ledger.proofs.Ordering.{first_chain_is, first_in_order, first_place_is}
use Rattle.block_ledger.proofs.blocks.Blocks.first.Goals as goal

pub invariant_of-result : goal.invariant_of-result
invariant_of-result c =
    record {
      in_order = first_in_order c.args.config c.args.genesis c.requires c.push.new.self _
          (c.in_ok-push.ensures.ok ∙ first_chain_is c.args.config c.args.genesis c.requires _ c.new-chain.ensures)
          (first_place_is c.args.config c.args.genesis c.requires _ _ c.block_hash-last.ensures c.in_ok-last_meta.ensures);
    }
