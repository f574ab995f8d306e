use Rattle.std.proofs.Common.{◌∙◌, sym, ap, [], ◌∷◌}
use Rattle.block_ledger.specs.Chains.{Entry}
use Rattle.block_ledger.proofs.Beginning.{genesis_spelling}
use Rattle.block_ledger.proofs.Telling.{genesis_where}
use Rattle.block_ledger.proofs.open.first_stored.Goals as goal

pub genesis_fault-requires-clause-genesis : goal.genesis_fault-requires-clause-genesis
genesis_fault-requires-clause-genesis c = genesis_spelling c.args.config c.args.genesis.now c.requires

pub first-requires : goal.first-requires
first-requires c =
    let entry : Entry = (c.in_ok-block.block, c.in_ok-block.proof) in
    let none = sym (c.in_ok-why.ensures c.args.config c.requires) ∙ c.in_default.is in
    let same = genesis_where c.args.config entry c.requires.config c.in_ok-block.ensures.spelled none in
    record { config = c.requires.config; block = ap (λ (e : Entry). e.0) same }

pub returns : goal.returns
returns c = λ accepts.
    let entry : Entry = (c.in_ok-block.block, c.in_ok-block.proof) in
    let none = sym (c.in_ok-why.ensures c.args.config c.requires) ∙ c.in_default.is in
    let same = genesis_where c.args.config entry c.requires.config c.in_ok-block.ensures.spelled none in
    let read = c.in_ok-block.ensures in (
      record { entry = entry; read = read.read; spelled = read.spelled; is = read.is; sound = none; added = c.in_ok-blocks.ensures.chain ∙ ap (λ (e : Entry). e ∷ []) (sym same) },
      c.in_ok-blocks.ensures.config,
    )
