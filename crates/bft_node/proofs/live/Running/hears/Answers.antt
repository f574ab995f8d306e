use Rattle.std.proofs.Common.{Some, ap, refl, sym, ◌∙◌}
use Rattle.std.proofs.lemmas.Result.{IfOk-weaker}
use Rattle.view_model.specs.declared.letter.VoteMessage.TheVariants as vote_of
use Rattle.view_model.specs.Letters.{vote_in}
use Rattle.node_model.specs.declared.event.Event.TheVariants.{FromMember}
use Rattle.bft_node.proofs.EventLemmas.{
  asked_again,
  hears_none,
  hears_own,
  letter_of,
  no_letter,
  not_vote,
  view_stays,
  vote_told,
  vote_view,
}
use Rattle.bft_node.proofs.MakingLemmas.{IfOk-with}
use Rattle.bft_node.proofs.live.Running.hears.Goals as goal

pub returns-then-from-self-clause-told : goal.returns-then-from-self-clause-told
returns-then-from-self-clause-told g c =
    let r = c.args.self.now in
    let accepts = g.V.Verifier.accepts c.args.keys.now in
    IfOk-weaker c.told.result _ _
    (λ told t bytes spelt. asked_again r r c.told.new.self accepts (FromMember c.args.from bytes) told refl refl refl
    (hears_own r accepts c.args.from bytes (c.if-from-self.true ∙ sym c.requires.sound.me)) t) c.told.ensures.told

pub returns-in-PrePrepare-clause-stays : goal.returns-in-PrePrepare-clause-stays
returns-in-PrePrepare-clause-stays g c =
    view_stays c.args.self.now c.on_preprepare.new.self c.requires.sound
    (vote_view c.on_preprepare.result c.args.self.now (g.V.Verifier.accepts c.args.keys.now) c.place.result.now (letter_of c.args.from (vote_of.PrePrepare c.in-PrePrepare.message))
    c.on_preprepare.new.self c.requires.sound c.place.ensures c.on_preprepare.ensures.after c.on_preprepare.ensures.err)

pub returns-in-PrePrepare-clause-told : goal.returns-in-PrePrepare-clause-told
returns-in-PrePrepare-clause-told g c =
    IfOk-with c.on_preprepare.result _ _ _
    (λ told answer after bytes spelt.
    vote_told c.args.self.now c.on_preprepare.new.self c.args.from bytes c.args.message
    (vote_of.PrePrepare c.in-PrePrepare.message) told (g.V.Verifier.accepts c.args.keys.now) c.place.result.now
    c.requires.sound c.if-from-self.false c.place.ensures answer after spelt (ap vote_in c.in-PrePrepare.is))
    c.on_preprepare.ensures.answer c.on_preprepare.ensures.after

pub returns-in-Prepare-clause-told : goal.returns-in-Prepare-clause-told
returns-in-Prepare-clause-told g c =
    IfOk-weaker c.on_prepare.result _ _
    (λ told t bytes spelt. t bytes (spelt ∙ ap (λ m. Some m) c.in-Prepare.is)) c.on_prepare.ensures.told

pub returns-in-Commit-clause-stays : goal.returns-in-Commit-clause-stays
returns-in-Commit-clause-stays g c =
    view_stays c.args.self.now c.on_commit.new.self c.requires.sound
    (vote_view c.on_commit.result c.args.self.now (g.V.Verifier.accepts c.args.keys.now) c.place-in-Commit.result.now (letter_of c.args.from (vote_of.Commit c.in-Commit.message))
    c.on_commit.new.self c.requires.sound c.place-in-Commit.ensures c.on_commit.ensures.after c.on_commit.ensures.err)

pub returns-in-Commit-clause-told : goal.returns-in-Commit-clause-told
returns-in-Commit-clause-told g c =
    IfOk-with c.on_commit.result _ _ _
    (λ told answer after bytes spelt.
    vote_told c.args.self.now c.on_commit.new.self c.args.from bytes c.args.message
    (vote_of.Commit c.in-Commit.message) told (g.V.Verifier.accepts c.args.keys.now) c.place-in-Commit.result.now
    c.requires.sound c.if-from-self.false c.place-in-Commit.ensures answer after spelt (ap vote_in c.in-Commit.is))
    c.on_commit.ensures.answer c.on_commit.ensures.after

pub returns : goal.returns
returns g c =
    let r = c.args.self.now in
    let accepts = g.V.Verifier.accepts c.args.keys.now in
    record {
      stays = c.told-in_default.ensures.stays;
      fits = c.told-in_default.ensures.fits;
      told = IfOk-weaker c.told-in_default.result _ _
          (λ told t bytes spelt. asked_again r r c.told-in_default.new.self accepts (FromMember c.args.from bytes) told
          refl refl refl
          (hears_none r accepts c.args.from bytes
          (no_letter c.args.from bytes c.args.message spelt
          (not_vote c.args.message c.in_default.not-PrePrepare c.in_default.not-Prepare c.in_default.not-Commit))) t)
          c.told-in_default.ensures.told;
    }
