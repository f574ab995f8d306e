use Rattle.std.proofs.Common.{arith}
use Rattle.ord_types.specs.declared.values.Proof.TheVariants.{Bft}
use Rattle.gate_log.proofs.Going.{others_kept, went_to}
use Rattle.bft_node.proofs.Running.{ledger_others, ledger_within, wal_others}
use Rattle.bft_node.proofs.store.Store.deliver.Goals as goal

pub returns-in-Ok-clause-kept : goal.returns-in-Ok-clause-kept
returns-in-Ok-clause-kept g c = λ t.
    record {
      ledger = c.in-Ok.ensures.kept t;
      log = wal_others c.args.self.now.wal _ _ (c.requires.kept t).log (others_kept 2 _ _ _ (c.append.ensures.any_moment t) 0 (λ e. omega (arith, e)));
    }

pub returns-in-Ok-clause-any_moment : goal.returns-in-Ok-clause-any_moment
returns-in-Ok-clause-any_moment g c = λ id accepts t keeps chain.
    went_to _ _ (λ s only. ledger_within _ accepts c.args.self.now id c.args.block (Bft c.args.cert) _ s keeps (c.requires.kept t) chain only) _ _ (c.append.ensures.any_moment t)

pub returns-in-Ok-clause-others : goal.returns-in-Ok-clause-others
returns-in-Ok-clause-others g c = λ t. went_to _ _ (λ s only. ledger_others _ _ s only) _ _ (c.append.ensures.any_moment t)

pub returns-in-Err-clause-any_moment : goal.returns-in-Err-clause-any_moment
returns-in-Err-clause-any_moment g c = λ id accepts t keeps chain.
    went_to _ _ (λ s only. ledger_within _ accepts c.args.self.now id c.args.block (Bft c.args.cert) _ s keeps (c.requires.kept t) chain only) _ _ (c.append.ensures.any_moment t)

pub returns-in-Err-clause-others : goal.returns-in-Err-clause-others
returns-in-Err-clause-others g c = λ t. went_to _ _ (λ s only. ledger_others _ _ s only) _ _ (c.append.ensures.any_moment t)
