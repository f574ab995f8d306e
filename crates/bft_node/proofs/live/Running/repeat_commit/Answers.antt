use Rattle.std.proofs.Common.{inl, refl, subst, sym}
use Rattle.bft_node.specs.NodeFaults.{TouchesNoDisk}
use Rattle.bft_node.proofs.CommitLemmas.{commit_said, commit_stopped}
use Rattle.bft_node.proofs.MakingLemmas.{given_up}
use Rattle.bft_node.proofs.RepeatLemmas.{commit_quiet, commit_whole}
use Rattle.bft_node.proofs.SigningLemmas.{signs_failed}
use Rattle.bft_node.proofs.live.Running.repeat_commit.Goals as goal

pub returns-in_err-commit-clause-makes : goal.returns-in_err-commit-clause-makes
returns-in_err-commit-clause-makes g c =
    signs_failed g.K.Signer.sign_gives c.in_err-commit.field-0.0 _ c.from_residual.result _ _ _ _ refl
    c.from_residual.ensures.0
    (λ signings most tells moments ready b made fit grows h.
    given_up c.from_residual.result _ _ _ c.from_residual.ensures.1
    (λ fault is. commit_stopped g.K.Verifier.accepts b made c.args.digest c.args.self.now c.args.keys.now tells moments
    c.args.out.now h signings grows ready.kept most fault
    (subst TouchesNoDisk (sym is) c.in_err-commit.ensures.no_disk)))
    c.in_err-commit.ensures.signs

pub returns-in-Accept-clause-makes : goal.returns-in-Accept-clause-makes
returns-in-Accept-clause-makes g c =
    let s = c.in_ok-commit.ensures.signs in
    record {
      signings = s.signings;
      given = s.given;
      after = inl s.after;
      what = λ tells moments ready b made fit grows h.
          commit_stopped g.K.Verifier.accepts b made c.args.digest c.args.self.now c.args.keys.now tells moments
          c.args.out.now h s.signings grows ready.kept
          (commit_whole c.args.digest _ c.args.self.now _ _ _ s.signings c.args.out.now _ s.what) _ tt;
    }

pub returns : goal.returns
returns g c =
    let s = c.in_ok-commit.ensures.signs in
    record {
      stays = c.commit.ensures.stays;
      makes = record {
        signings = s.signings;
        given = s.given;
        after = s.after;
        what = λ tells moments ready b made fit grows h. (
          commit_quiet g.K.Verifier.accepts b made c.args.digest c.args.self.now c.args.keys.now tells moments
              c.args.out.now h s.signings grows _ _ _ _ c.requires.at s.what fit c.in_default.not-Accept
              c.in_default.not-Prepare,
          commit_said g.K.Verifier.accepts b made c.args.digest c.args.self.now c.args.keys.now tells moments
              c.args.out.now h s.signings grows _ _ _ _ c.requires.at s.what fit,
        );
      };
      later = c.commit.ensures.later;
      no_disk = tt;
      cause = tt;
    }
