use Rattle.std.proofs.Common.{◌∙◌, ap, sym, subst, arith, length}
use Rattle.block_ledger.specs.Chains.{IsGenesisBlock}
use Rattle.block_ledger.proofs.Beginning.{config_read, one_request, request_of}
use Rattle.block_ledger.proofs.open.config_in.Goals as goal

pub bounds-as_slice-0 : goal.bounds-as_slice-0
bounds-as_slice-0 c = omega (arith, ap length c.as_slice.ensures, one_request c.requires.0 c.args.genesis.now c.requires.1)

pub returns-in-Ok : goal.returns-in-Ok
returns-in-Ok c =
    let request = request_of c.requires.0 c.args.genesis.now c.requires.1 _ _ c.as_slice.ensures c.index-as_slice-0.is in
    let payload = c.as_slice-payload.ensures ∙ ap (λ r. r.payload) (sym c.index-as_slice-0.is ∙ request) in
    let same = config_read c.requires.0 c.args.genesis.now c.requires.1 _ payload _ _ c.in-Ok.ensures.only in
    subst (λ x. IsGenesisBlock x c.args.genesis.now) same c.requires.1
