use Rattle.std.proofs.Common.{List, ◌++◌, map, refl, ap, ◌∙◌}
use Rattle.std.specs.List.{flat_map}
use Rattle.std.specs.Prelude.{string_bytes}
use Rattle.safety_model.specs.declared.fact.Fact.{Fact}
use Rattle.world_model.specs.Texts.{fact_text}
use Rattle.bft_node.specs.Making.{sent_of}
use Rattle.bft_node.specs.declared.live.Done.{Done}
use Rattle.bft_node.specs.declared.live.Post.{Post}
use Rattle.world_run.specs.Entries.{entry_of, posted}
use Rattle.world_run.specs.declared.member.Member.{Member}
use Rattle.world_run.proofs.CrashLemmas.{read_is}
use Rattle.world_run.proofs.FollowLemmas.{followed, passed_longer, within_longer}
use Rattle.world_run.proofs.world.World.follow.Goals as goal

pub invariant_of-self-2 : goal.invariant_of-self-2
invariant_of-self-2 c =
    let w = c.args.self.now in
    let there = c.requires in
    let same = read_is w.members.items c.args.place there.0 c.index_mut-member.result.now there.1 c.index_mut-member.ensures.value in
    let front = c.add_sends.ensures.front in
    record {
      within = within_longer w c.add_sends.new.network.items _ front.1;
      passed = passed_longer w c.args.place there.0 _ c.add_sends.new.network.items _ there.1 (ap (λ (m : Member). m.id) same) (ap (λ (m : Member). m.runs) same) front.1;
    }

pub returns-clause-follows : goal.returns-clause-follows
returns-clause-follows c =
    let old = c.args.self.now in
    let out = c.args.out in
    let read = c.index_mut-member.result.now in
    followed c.within_limit.result old c.within_limit.new.self c.args.place read _ out _ c.add_sends.new.network.items (string_bytes c.put_facts.new.text)
    c.index_mut-member.ensures.value refl refl refl
    (λ delivered told. c.settle.ensures delivered (ap (λ (blocks : List Done). flat_map (λ (block : Done). block.ids) blocks) c.as_slice-2.ensures ∙ told))
    refl
    (c.in_ok-add_sends.ensures.all ∙ ap (λ (posts : List Post). map entry_of old.outside.network.items ++ posted read.id (map sent_of posts)) c.as_slice-3.ensures)
    (c.in_ok-put_facts.ensures ∙ ap (λ (facts : List Fact). string_bytes old.outside.text ++ flat_map (fact_text old.outside.number) facts) c.as_slice.ensures)
    c.within_limit.ensures.turned c.within_limit.ensures.members c.within_limit.ensures.config c.within_limit.ensures.seat c.within_limit.ensures.number
