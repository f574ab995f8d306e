use Rattle.std.proofs.Common.{◌≡◌, arith, eqb, false, refl, sym}
use Rattle.std.proofs.lemmas.Bool.Decides.{nat_tests}
use Rattle.world_model.specs.Liars.{as_liar, as_signer, seal_turn}
use Rattle.world_run.specs.Mapped.{Model}
use Rattle.world_run.proofs.CommandLemmas.{barred_says, may_says}
use Rattle.world_run.proofs.SaysLemmas.{says_same}
use Rattle.world_run.proofs.runner.seal.Goals as goal

pub returns-then-id-eq0-clause-says : goal.returns-then-id-eq0-clause-says
returns-then-id-eq0-clause-says c =
    let number = c.args.world.now.outside.number in
    says_same c.seal.result c.args.world.now c.seal.new.self (λ (v : Model). seal_turn number v c.args.id c.args.bytes.now)
    (λ (v : Model). as_signer number v c.args.id (seal_turn number v c.args.id c.args.bytes.now)) (λ v. rw c.if-id-eq0.true refl) c.seal.ensures.says

pub returns-in-Some-clause-says : goal.returns-in-Some-clause-says
returns-in-Some-clause-says c =
    let w = c.args.world.now in
    let other : eqb c.args.id 0 ≡ false = let is = c.if-id-eq0.false in grind (arith, nat_tests) in
    let turn = λ (v : Model). seal_turn w.outside.number v c.args.id c.args.bytes.now in
    says_same c.refuse_barred.result w c.refuse_barred.new.self (λ (v : Model). as_liar w.outside.number v c.args.id c.args.id (turn v)) (λ (v : Model). as_signer w.outside.number v c.args.id (turn v)) (λ v. rw other refl)
    (barred_says c.refuse_barred.result w c.refuse_barred.new.self c.args.id c.args.id c.in-Some.bar turn (λ at later. sym (c.in-Some.ensures at later)) c.refuse_barred.ensures.says)

pub returns-in-None-clause-says : goal.returns-in-None-clause-says
returns-in-None-clause-says c =
    let w = c.args.world.now in
    let other : eqb c.args.id 0 ≡ false = let is = c.if-id-eq0.false in grind (arith, nat_tests) in
    let turn = λ (v : Model). seal_turn w.outside.number v c.args.id c.args.bytes.now in
    says_same c.seal-in-None.result w c.seal-in-None.new.self (λ (v : Model). as_liar w.outside.number v c.args.id c.args.id (turn v)) (λ (v : Model). as_signer w.outside.number v c.args.id (turn v)) (λ v. rw other refl)
    (may_says c.seal-in-None.result w c.seal-in-None.new.self c.args.id c.args.id turn (λ at later. sym (c.in-None.ensures at later)) c.seal-in-None.ensures.says)
