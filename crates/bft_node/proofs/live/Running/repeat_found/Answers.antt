use Rattle.std.proofs.Common.{◌∙◌, List, false, true, ap, refl, subst, sym}
use Rattle.std.proofs.lemmas.List.{append-nil}
use Rattle.view_model.specs.declared.act.Act.TheVariants as act_of
use Rattle.node_model.specs.Cores.{Found}
use Rattle.node_model.specs.Entries.{Entry, statements_of}
use Rattle.bft_node.specs.Making.{around}
use Rattle.bft_node.specs.NodeFaults.{TouchesNoDisk}
use Rattle.bft_node.proofs.MakingLemmas.{given_up, makes_as, stopped, stopped_said}
use Rattle.bft_node.proofs.RepeatLemmas.{found_as, none_as, repeats_goes, votes_as, votes_made, votes_said, votes_then, voted}
use Rattle.bft_node.proofs.SigningLemmas.{signs_nothing, signs_with}
use Rattle.bft_node.proofs.live.Running.repeat_found.Goals as goal

pub returns-then-not-is_current-clause-makes : goal.returns-then-not-is_current-clause-makes
returns-then-not-is_current-clause-makes g c =
    signs_nothing g.K.Signer.sign_gives _ _ _
    (λ tells moments ready b made fit grows h.
    let is = sym c.if-not-is_current.true ∙ c.is_current.ensures _ refl in
    let same = none_as b made c.args.self.now _ tells moments c.args.out.now h _ is in (
      makes_as b made _ act_of.Kept c.args.self.now _ same h,
      ap (λ (l : List Entry). statements_of l) (sym same) ∙ sym (append-nil (statements_of made)),
    ))

pub returns-then-not-is_block-clause-makes : goal.returns-then-not-is_block-clause-makes
returns-then-not-is_block-clause-makes g c =
    signs_nothing g.K.Signer.sign_gives _ _ _
    (λ tells moments ready b made fit grows h.
    stopped_said b _ (statements_of made) _ _ _ _ _ (sym (append-nil (statements_of made)))
    (stopped b made _ act_of.Kept c.args.self.now _ _ h ready.kept tt))

pub returns-in_err-repeat_votes-clause-makes : goal.returns-in_err-repeat_votes-clause-makes
returns-in_err-repeat_votes-clause-makes g c =
    signs_nothing g.K.Signer.sign_gives _ _ _
    (λ tells moments ready b made fit grows h.
    given_up c.from_residual.result _ _ _ c.from_residual.ensures.1
    (λ fault is. stopped_said b _ (statements_of made) _ _ _ fault _ (sym (append-nil (statements_of made)))
    (stopped b made _ act_of.Kept c.args.self.now _ fault h ready.kept (subst TouchesNoDisk (sym is) tt))))

pub returns-then-found-clause-makes : goal.returns-then-found-clause-makes
returns-then-found-clause-makes g c =
    signs_with g.K.Signer.sign_gives c.repeat_commit.result _ _ _ _
    (λ signings makes tells moments ready b made fit grows h.
    let r = c.args.self.now in
    let kept = c.args.found.now in
    let f : Found = record {
      config = kept.config;
      view = kept.view;
      height = kept.height;
      block = kept.block;
      is_prepared = kept.is_prepared;
    } in
    let is = sym c.if-not-is_current.false ∙ c.is_current.ensures f refl in
    let accepts = g.K.Verifier.accepts c.args.keys.now in
    let votes = votes_made b made r accepts tells moments c.args.out.now h f c.repeat_votes.new.out
    c.repeat_votes.ensures.facts c.repeat_votes.ensures.done c.in_ok-repeat_votes.ensures.sent in
    repeats_goes g.K.Verifier.accepts b made (voted b made r accepts tells moments c.args.out.now h f) _ c.args.keys.now
    c.repeat_commit.result c.repeat_commit.new.self _ signings _ tells moments
    (votes_said b made r accepts tells moments c.args.out.now h f)
    (votes_then b made r accepts tells moments c.args.out.now h f c.block_hash.result c.block_hash.ensures
    ∙ found_as b made r accepts tells moments c.args.out.now h f is true c.if-found.true)
    fit (λ fit_then. makes tells moments ready b _ fit_then grows votes))
    c.repeat_commit.ensures.makes

pub returns-clause-makes : goal.returns-clause-makes
returns-clause-makes g c =
    signs_nothing g.K.Signer.sign_gives _ _ _
    (λ tells moments ready b made fit grows h.
    let r = c.args.self.now in
    let kept = c.args.found.now in
    let f : Found = record {
      config = kept.config;
      view = kept.view;
      height = kept.height;
      block = kept.block;
      is_prepared = kept.is_prepared;
    } in
    let is = sym c.if-not-is_current.false ∙ c.is_current.ensures f refl in
    let accepts = g.K.Verifier.accepts c.args.keys.now in
    let votes = votes_made b made r accepts tells moments c.args.out.now h f c.repeat_votes.new.out
    c.repeat_votes.ensures.facts c.repeat_votes.ensures.done c.in_ok-repeat_votes.ensures.sent in
    let same = votes_as b made r accepts tells moments c.args.out.now h f
    ∙ found_as b made r accepts tells moments c.args.out.now h f is false c.if-found.false in (
      makes_as b _ _ act_of.Kept r (around accepts tells moments c.repeat_votes.new.out) same votes,
      ap (λ (l : List Entry). statements_of l) (sym same) ∙ votes_said b made r accepts tells moments c.args.out.now h f
          ∙ sym (append-nil (statements_of made)),
    ))
