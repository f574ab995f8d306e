use Rattle.std.proofs.Common.{IsTrue, ap, subst, sym}
use Rattle.std.proofs.lemmas.List.{append-nil}
use Rattle.node_model.specs.Entries.{statements_of}
use Rattle.node_model.specs.Steps.{preparation}
use Rattle.bft_node.specs.Held.{Held}
use Rattle.bft_node.specs.NodeFaults.{NeedsLimit}
use Rattle.bft_node.specs.Running.{place_of}
use Rattle.bft_node.specs.Stores.{held_of}
use Rattle.bft_node.proofs.ActLemmas.{prepared_goes, prepared_stopped}
use Rattle.bft_node.proofs.CallLemmas.{goes_tells, ok_only}
use Rattle.bft_node.proofs.KeepingLemmas.{same_place}
use Rattle.bft_node.proofs.MakingLemmas.{given_up, stopped_said}
use Rattle.bft_node.proofs.SigningLemmas.{signs_nothing}
use Rattle.bft_node.proofs.ToldLemmas.{prepares_next}
use Rattle.bft_node.proofs.live.Running.prepare.Goals as goal

pub returns-in_err-keep_preparation-clause-makes : goal.returns-in_err-keep_preparation-clause-makes
returns-in_err-keep_preparation-clause-makes g c =
    let r = c.args.self.now in
    let tells = g.D.Disk.tells c.args.disk.now in
    signs_nothing g.K.Signer.sign_gives c.from_residual.result c.args.keys.now _
    (λ b made fit grows h. given_up c.from_residual.result _ _ _ c.from_residual.ensures.1
    (λ fault is. stopped_said b _ (statements_of made) _ _ _ fault _ (sym (append-nil (statements_of made)))
    (prepared_stopped b made c.args.digest r (g.K.Verifier.accepts c.args.keys.now) tells _ _ c.args.out.now h
    (c.keep_preparation.ensures.any_moment _) c.requires.kept fault
    (subst (NeedsLimit tells (preparation (place_of r) r.view c.args.digest) (held_of r.store)) (sym is)
    c.in_err-keep_preparation.ensures.limit))))

pub returns-clause-makes : goal.returns-clause-makes
returns-clause-makes g c =
    let r = c.args.self.now in
    let mid = c.keep_preparation.new.self in
    let s = c.commit.ensures.signs in
    record {
      signings = s.signings;
      given = s.given;
      after = s.after;
      what = λ b made fit grows h.
          goes_tells b c.commit.result c.commit.new.self (g.K.Verifier.accepts c.commit.new.keys) _ _ _ c.commit.new.out _ _
          _ _ c.keep_preparation.ensures.tells
          (prepared_goes g.K.Verifier.accepts b made c.args.digest r c.args.keys.now (g.D.Disk.tells c.args.disk.now) _ _
          c.args.out.now h (c.keep_preparation.ensures.any_moment _) mid c.keep_preparation.new.out
          c.in_ok-keep_preparation.ensures.keeps s.signings fit grows c.commit.result c.commit.new.keys c.commit.new.self
          c.commit.new.out
          (λ t. c.in_ok-keep_preparation.ensures.ready.kept (subst IsTrue (sym c.keep_preparation.ensures.tells) t))
          c.in_ok-keep_preparation.ensures.ready.sound.at c.commit.ensures.no_disk s.what);
    }

pub returns-clause-next : goal.returns-clause-next
returns-clause-next g c =
    let r = c.args.self.now in
    let mid = c.keep_preparation.new.self in
    let ready = c.in_ok-keep_preparation.ensures.ready in
    let keeps = c.in_ok-keep_preparation.ensures.keeps in
    let s = c.commit.ensures.signs in
    ok_only c.commit.result _ _ _
    (λ told m. prepares_next (g.K.Verifier.accepts c.commit.new.keys) c.args.digest told r mid c.commit.new.self
    c.commit.new.keys s.signings c.keep_preparation.new.out c.commit.new.out
    (same_place r mid keeps.still.config (ap (λ (x : Held). x.blocks) keeps.held)) keeps.still.view (sym ready.sound.me)
    ready.sound.at m) s.what
