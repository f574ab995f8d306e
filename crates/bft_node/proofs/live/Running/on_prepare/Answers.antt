use Rattle.std.proofs.Common.{refl}
use Rattle.std.proofs.lemmas.Result.{IfOk-weaker}
use Rattle.node_model.specs.declared.event.Event.TheVariants.{FromMember}
use Rattle.bft_node.proofs.EventLemmas.{
  asked_again,
  prepare_kept,
  prepare_told,
  prepare_view,
  view_ready,
  view_sound,
  view_stays,
  with_view,
}
use Rattle.bft_node.proofs.live.Running.on_prepare.Goals as goal

pub returns-in-Prepare-clause-stays : goal.returns-in-Prepare-clause-stays
returns-in-Prepare-clause-stays g c =
    view_stays c.args.self.now c.on_prepare-told.new.self c.requires.sound
    (prepare_view c.args.self.now c.on_prepare-told.new.self c.args.from c.args.message.now c.on_prepare-told.result c.place.result.now
    c.requires.sound c.requires.other c.place.ensures c.on_prepare-told.ensures.answer c.on_prepare-told.ensures.after)

pub returns-in-Prepare-clause-told : goal.returns-in-Prepare-clause-told
returns-in-Prepare-clause-told g c = λ bytes spelt.
    prepare_told c.args.self.now c.on_prepare-told.new.self c.args.from c.args.message.now c.on_prepare-told.result c.place.result.now
    c.requires.sound c.requires.other c.place.ensures c.on_prepare-told.ensures.answer c.on_prepare-told.ensures.after
    (g.V.Verifier.accepts c.args.keys.now) bytes spelt c.in-Prepare.digest c.in-Prepare.is

pub told-requires : goal.told-requires
told-requires g c =
    view_sound c.args.self.now c.on_prepare-told.new.self c.requires.sound
    (prepare_view c.args.self.now c.on_prepare-told.new.self c.args.from c.args.message.now c.on_prepare-told.result c.place.result.now
    c.requires.sound c.requires.other c.place.ensures c.on_prepare-told.ensures.answer c.on_prepare-told.ensures.after)

pub returns : goal.returns
returns g c =
    let left = prepare_view c.args.self.now c.on_prepare-told.new.self c.args.from c.args.message.now c.on_prepare-told.result c.place.result.now
    c.requires.sound c.requires.other c.place.ensures c.on_prepare-told.ensures.answer c.on_prepare-told.ensures.after in
    record {
      stays = record {
        same = record { id = c.told.ensures.stays.same.id; config = c.told.ensures.stays.same.config };
        sound = c.told.ensures.stays.sound;
        ready = λ tells moments ready. c.told.ensures.stays.ready tells moments
            (view_ready c.args.self.now c.on_prepare-told.new.self left tells moments ready);
      };
      fits = c.told.ensures.fits;
      told = IfOk-weaker c.told.result _ _
          (λ told t bytes spelt. asked_again c.args.self.now (with_view c.args.self.now c.on_prepare-told.new.self)
          c.told.new.self (g.V.Verifier.accepts c.args.keys.now) (FromMember c.args.from bytes) told refl refl refl
          (prepare_kept c.args.self.now c.on_prepare-told.new.self c.args.from c.args.message.now
          c.on_prepare-told.result c.place.result.now c.requires.sound c.requires.other c.place.ensures
          c.on_prepare-told.ensures.answer c.on_prepare-told.ensures.after (g.V.Verifier.accepts c.args.keys.now) bytes
          spelt c.in_default.not-Prepare) t) c.told.ensures.told;
    }
