use Rattle.std.proofs.Common.{arith, refl, sym}
use Rattle.bft_node.proofs.CallLemmas.{adds_as}
use Rattle.bft_node.proofs.EventLemmas.{
  no_memory,
  propose_view,
  proposed_as,
  proposed_makes,
  unproposed_makes,
  view_ready,
}
use Rattle.bft_node.proofs.MakingLemmas.{given_up, stopped}
use Rattle.bft_node.proofs.live.Running.propose.Goals as goal

pub returns-in_err-block-clause-makes : goal.returns-in_err-block-clause-makes
returns-in_err-block-clause-makes g c = λ b made h.
    given_up c.from_residual.result _ _ _ c.from_residual.ensures.1
    (λ fault is. stopped b made _ _ c.args.self.now _ fault h c.requires.kept (no_memory fault is))

pub accept_own-requires-clause-ready : goal.accept_own-requires-clause-ready
accept_own-requires-clause-ready g c =
    view_ready c.args.self.now c.propose.new.self
    (propose_view c.propose.result c.args.self.now c.place.result.now c.args.offer c.propose.new.self c.requires.sound
    c.place.ensures c.propose.ensures.after c.propose.ensures.err) _ _ c.requires

pub returns-in-Accept-clause-makes : goal.returns-in-Accept-clause-makes
returns-in-Accept-clause-makes g c = λ b made h.
    let r = c.args.self.now in
    let accepts = g.V.Verifier.accepts c.args.keys.now in
    let answer = c.in_ok-block.ensures.answer in
    let taken = proposed_makes b made r _ h c.requires.sound c.args.offer c.propose.new.self c.in_ok-block.field-0
    c.place.result.now c.place.ensures answer c.in_ok-block.ensures.after c.in-Accept.block c.in-Accept.is in
    let same = proposed_as b made r _ h c.requires.sound c.args.offer c.propose.new.self c.in_ok-block.field-0
    c.place.result.now c.place.ensures answer c.in_ok-block.ensures.after c.in-Accept.block c.in-Accept.is in
    adds_as b c.accept_own.result c.accept_own.new.self _ _ _ _ _ _ _ same (c.accept_own.ensures.makes accepts b made taken)

pub returns : goal.returns
returns g c =
    let r = c.args.self.now in
    record {
      runs = record {
        same = record { id = refl; config = refl };
        ready = view_ready r c.propose.new.self
            (propose_view c.propose.result r c.place.result.now c.args.offer c.propose.new.self c.requires.sound
            c.place.ensures c.propose.ensures.after c.propose.ensures.err) _ _ c.requires;
        tells = refl;
        later = (omega arith, omega arith);
        cause = tt;
      };
      makes = λ b made h. unproposed_makes b made r _ h c.requires.sound c.args.offer c.propose.new.self
          c.in_ok-block.field-0 c.place.result.now c.place.ensures c.in_ok-block.ensures.answer
          c.in_ok-block.ensures.after c.in_default.not-Accept;
    }
