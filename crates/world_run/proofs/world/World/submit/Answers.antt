use Rattle.std.proofs.Common.{◌≡◌, ap, false, refl, List}
use Rattle.safety_model.specs.Blocks.{Request}
use Rattle.world_run.specs.declared.member.Member.{Member}
use Rattle.world_run.proofs.ListLemmas.{ids_set, place_within, read_at, where_running}
use Rattle.world_run.proofs.SubmitLemmas.{all_at, all_set, submitted_turn, with_pool}
use Rattle.world_run.proofs.WaitingLemmas.{waits_set}
use Rattle.world_run.proofs.world.World.submit.Goals as goal

pub invariant_of-self : goal.invariant_of-self
invariant_of-self c =
    let w = c.args.self.now in
    let read = c.index_mut-member.result.now in
    let has = read_at w.members.items c.args.place read (place_within c.args.to w.members.items c.args.place (where_running c.args.to w.members.items c.args.place c.requires).first) c.index_mut-member.ensures.value in
    record { within = w.within; passed = waits_set w.config w.config w.first_waiting w.members.items w.outside.network.items c.args.place read _ has refl (λ runs. runs) w.passed }

pub invariant_of-self-2 : goal.invariant_of-self-2
invariant_of-self-2 c =
    let w = c.args.self.now in
    let read = c.index_mut-member.result.now in
    let has = read_at w.members.items c.args.place read (place_within c.args.to w.members.items c.args.place (where_running c.args.to w.members.items c.args.place c.requires).first) c.index_mut-member.ensures.value in
    record { within = w.within; passed = waits_set w.config w.config w.first_waiting w.members.items w.outside.network.items c.args.place read _ has refl (λ runs. runs) w.passed }

pub returns-clause-turned : goal.returns-clause-turned
returns-clause-turned c = λ at member has later.
    let w = c.args.self.now in
    let read = c.index_mut-member.result.now in
    submitted_turn at w later c.args.to c.args.place c.args.word.now read member _ _ _ _ (where_running c.args.to w.members.items c.args.place c.requires).first has c.index_mut-member.ensures.value refl
    (ap (λ (pool : List Request). with_pool w.config at read pool) c.in_ok-answer.ensures.after) c.in_ok-answer.ensures.answer c.in_ok-put_answer.ensures

pub returns-clause-keeps : goal.returns-clause-keeps
returns-clause-keeps c =
    let w = c.args.self.now in
    let read = c.index_mut-member.result.now in
    let has = read_at w.members.items c.args.place read (place_within c.args.to w.members.items c.args.place (where_running c.args.to w.members.items c.args.place c.requires).first) c.index_mut-member.ensures.value in
    record {
      config = refl;
      ids = ids_set w.members.items c.args.place read _ has refl;
      armed = λ none. all_set (λ (m : Member). m.armed ≡ false) w.members.items c.args.place _ none (all_at (λ (m : Member). m.armed ≡ false) w.members.items c.args.place read none has);
      seals = λ statement sig good. good;
      number = refl;
    }
