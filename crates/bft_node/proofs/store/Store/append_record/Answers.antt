use Rattle.std.proofs.Common.{arith}
use Rattle.gate_log.proofs.Going.{others_kept, went_to}
use Rattle.block_ledger.proofs.Keeping.{kept_others}
use Rattle.bft_node.proofs.Running.{log_others, log_within}
use Rattle.bft_node.proofs.store.Store.append_record.Goals as goal

pub returns-in-Ok-clause-kept : goal.returns-in-Ok-clause-kept
returns-in-Ok-clause-kept g c = λ t.
    record {
      ledger = kept_others c.args.self.now.ledger _ _ (c.requires.kept t).ledger (others_kept 0 _ _ _ (c.append.ensures.any_moment t) 2 (λ e. omega (arith, e)));
      log = c.in-Ok.ensures.settled t;
    }

pub returns-in-Ok-clause-any_moment : goal.returns-in-Ok-clause-any_moment
returns-in-Ok-clause-any_moment g c = λ deed accepts stored t chain.
    went_to _ _ (λ s only. log_within accepts c.args.self.now deed c.args.entry.now _ s stored (c.requires.kept t) chain only) _ _ (c.append.ensures.any_moment t)

pub returns-in-Ok-clause-others : goal.returns-in-Ok-clause-others
returns-in-Ok-clause-others g c = λ t. went_to _ _ (λ s only. log_others _ _ s only) _ _ (c.append.ensures.any_moment t)

pub returns-in-Err-clause-any_moment : goal.returns-in-Err-clause-any_moment
returns-in-Err-clause-any_moment g c = λ deed accepts stored t chain.
    went_to _ _ (λ s only. log_within accepts c.args.self.now deed c.args.entry.now _ s stored (c.requires.kept t) chain only) _ _ (c.append.ensures.any_moment t)

pub returns-in-Err-clause-others : goal.returns-in-Err-clause-others
returns-in-Err-clause-others g c = λ t. went_to _ _ (λ s only. log_others _ _ s only) _ _ (c.append.ensures.any_moment t)
