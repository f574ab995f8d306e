use Rattle.std.proofs.Common.{sym, ◌∙◌, ap, subst}
use Rattle.ord_types.specs.declared.values.Config.{Config}
use Rattle.gate_log.specs.Disk.{State, now}
use Rattle.block_ledger.specs.Chains.{IsChain}
use Rattle.bft_wal.proofs.Opens.{still}
use Rattle.bft_node.specs.Stores.{IsKept, config_of, held_of}
use Rattle.bft_node.specs.declared.store.Store.{Store}
use Rattle.bft_node.specs.declared.live.Running.{Running}
use Rattle.bft_node.proofs.Recoverings.{found_again}
use Rattle.bft_node.proofs.OpenLemmas.{opened_on, opens_moved, state_moved}
use Rattle.bft_node.proofs.member.Node.open.Goals as goal

pub invariant_of-result : goal.invariant_of-result
invariant_of-result g c = record { sound = λ _. c.in_ok-running.ensures.sound }

pub returns-clause-ready : goal.returns-clause-ready
returns-clause-ready g c =
    record {
      sound = c.in_ok-running.ensures.sound;
      kept = λ t. subst (λ (s : Store). IsKept s (now (g.D.Disk.moments c.open.new.disk))) (sym c.in_ok-running.ensures.store)
          (c.in_ok-store.ensures.kept (still _ _ (sym c.open.ensures.tells) t));
    }

pub returns-clause-config : goal.returns-clause-config
returns-clause-config g c =
    ap config_of c.in_ok-running.ensures.store ∙ opened_on c.in_ok-store.store c.args.setup.now.genesis c.in_ok-genesis.genesis c.requires c.in_ok-genesis.ensures.block c.in_ok-store.ensures.config

pub returns-clause-chain : goal.returns-clause-chain
returns-clause-chain g c =
    let same = opened_on c.in_ok-store.store c.args.setup.now.genesis c.in_ok-genesis.genesis c.requires c.in_ok-genesis.ensures.block c.in_ok-store.ensures.config in
    subst (λ (s : Store). IsChain (g.K.Verifier.accepts c.args.keys.now) c.args.setup.now.genesis (held_of s).blocks) (sym c.in_ok-running.ensures.store)
    (subst (λ (k : Config). IsChain (g.K.Verifier.accepts c.args.keys.now) k (held_of c.in_ok-store.store).blocks) same c.in_ok-store.ensures.chain)

pub returns-clause-state : goal.returns-clause-state
returns-clause-state g c =
    let same = opened_on c.in_ok-store.store c.args.setup.now.genesis c.in_ok-genesis.genesis c.requires c.in_ok-genesis.ensures.block c.in_ok-store.ensures.config in
    state_moved c.in_ok-running.running c.args.setup.now.genesis c.args.setup.now.me c.in_ok-store.store c.in_ok-running.ensures.store same c.in_ok-running.ensures.state

pub returns-clause-value : goal.returns-clause-value
returns-clause-value g c = λ t.
    opens_moved _ c.args.setup.now.genesis (now (g.D.Disk.moments c.args.disk.now)) c.in_ok-store.store c.in_ok-running.running.store c.in_ok-running.ensures.store
    (c.in_ok-store.ensures.value c.args.setup.now.genesis (record { config = c.requires; block = c.in_ok-genesis.ensures.block }) t)

pub returns-clause-finds : goal.returns-clause-finds
returns-clause-finds g c = λ t.
    let genesis : Config = c.args.setup.now.genesis in
    let running : Running = c.in_ok-running.running in
    let after : State = now (g.D.Disk.moments c.open.new.disk) in
    found_again (g.K.Verifier.accepts c.args.keys.now) genesis c.args.setup.now.me
    (now (g.D.Disk.moments c.args.disk.now)) after running c.in_ok-running.ensures.id
    (returns-clause-config g c) (returns-clause-chain g c) (returns-clause-state g c) (returns-clause-value g c t)
    (subst (λ (s : Store). IsKept s after) (sym c.in_ok-running.ensures.store) (c.in_ok-store.ensures.kept t))

pub returns-clause-any_moment : goal.returns-clause-any_moment
returns-clause-any_moment g c = c.open.ensures.any_moment c.args.setup.now.genesis (record { config = c.requires; block = c.in_ok-genesis.ensures.block })
