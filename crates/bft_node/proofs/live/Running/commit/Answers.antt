use Rattle.std.proofs.Common.{◌≡◌, [], ◌∷◌, ◌++◌, ap, map, refl, subst, ◌∙◌}
use Rattle.ord_types.specs.declared.values.Place.{Place}
use Rattle.bft_wire.specs.declared.message.Message.TheVariants as wire
use Rattle.view_model.specs.Answers.{after_vote, at_place, vote_answer}
use Rattle.view_model.specs.Letters.{Commit}
use Rattle.bft_node.specs.Commits.{own_letter}
use Rattle.bft_node.specs.Making.{sent_of, sent_to_others}
use Rattle.bft_node.specs.Running.{place_of}
use Rattle.bft_node.proofs.EventLemmas.{view_stays, vote_view}
use Rattle.bft_node.proofs.live.Running.commit.Goals as goal

pub returns-in_err-told-clause-stays : goal.returns-in_err-told-clause-stays
returns-in_err-told-clause-stays g c =
    let r = c.args.self.now in
    view_stays r c.on_commit.new.self c.requires
    (vote_view c.on_commit.result r (g.K.Verifier.accepts c.signed_commit.new.keys) c.place.result.now
    (own_letter r.id c.in_ok-commit.commit) c.on_commit.new.self c.requires c.place.ensures c.on_commit.ensures.after
    c.on_commit.ensures.err)

pub returns-clause-stays : goal.returns-clause-stays
returns-clause-stays g c =
    let r = c.args.self.now in
    view_stays r c.on_commit.new.self c.requires
    (vote_view c.on_commit.result r (g.K.Verifier.accepts c.signed_commit.new.keys) c.place.result.now
    (own_letter r.id c.in_ok-commit.commit) c.on_commit.new.self c.requires c.place.ensures c.on_commit.ensures.after
    c.on_commit.ensures.err)

pub returns-clause-signs : goal.returns-clause-signs
returns-clause-signs g c =
    let r = c.args.self.now in
    let accepts = g.K.Verifier.accepts c.signed_commit.new.keys in
    let s = c.in_ok-commit.ensures.signs in
    let commit = c.in_ok-commit.commit in
    let is = s.what.0 in
    record {
      signings = s.signings;
      given = s.given;
      after = s.after;
      what = record {
        sig = commit.sig;
        signed = s.what.1;
        id = refl;
        store = refl;
        found = refl;
        votes = record {
          answer = subst (λ (x : Commit). c.in_ok-told.told ≡ vote_answer accepts (place_of r) (at_place (place_of r) r.view) (own_letter r.id x)) is
              (subst (λ (p : Place). c.in_ok-told.told ≡ vote_answer accepts p (at_place p r.view) (own_letter r.id commit)) c.place.ensures c.in_ok-told.ensures.answer);
          after = subst (λ (x : Commit). c.on_commit.new.self ≡ after_vote accepts (place_of r) r.view (own_letter r.id x)) is
              (subst (λ (p : Place). c.on_commit.new.self ≡ after_vote accepts p r.view (own_letter r.id commit)) c.place.ensures c.in_ok-told.ensures.after);
        };
        sends = c.in_ok-send.ensures.sent ∙ ap (λ (x : Commit). map sent_of c.args.out.now.sends ++ sent_to_others r (wire.Commit x ∷ []))
            (c.in_ok-copy.ensures ∙ is);
        facts = c.send.ensures.facts;
        done = c.send.ensures.done;
      };
    }
