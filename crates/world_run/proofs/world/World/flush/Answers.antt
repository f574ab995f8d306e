use Rattle.std.proofs.Common.{◌≡◌, ◌∙◌, ◌-◌, ◌+◌, List, [], Some, None, ap, sym, refl, arith, length, map, take, ◌<◌, ◌≤◌, ◌⊎◌, inl, inr}
use Rattle.std.proofs.lemmas.List.{length-map}
use Rattle.world_model.specs.Cores.{core_setting}
use Rattle.world_model.specs.Texts.{flush_text}
use Rattle.world_model.specs.Turns.{flush_turn}
use Rattle.world_model.specs.Worlds.{Outcome}
use Rattle.bft_node.specs.Lodgings.{Lodging}
use Rattle.world_run.specs.Entries.{entry_of}
use Rattle.world_run.specs.declared.member.Outside.{Outside}
use Rattle.world_run.proofs.FlushLemmas.{flush_brings, flush_done, flush_goes, flush_on, flush_past}
use Rattle.world_run.proofs.GoingLemmas.{goes_by_last, goes_by_then}
use Rattle.world_run.proofs.ListLemmas.{item_at}
use Rattle.world_run.proofs.TellingLemmas.{Tells, told_plays, told_sound, told_start}
use Rattle.world_run.proofs.WaitingLemmas.{none_of_named, waits_before_is}
use Rattle.world_run.proofs.world.World.flush.Goals.{then-is_waiting+in_ok-ending+in_default, else-is_waiting, then-loop-count-test+else-at-len, else-loop-count-test}
use Rattle.world_run.proofs.world.World.flush.Goals as goal

pub loop-count-init : goal.loop-count-init
loop-count-init g c =
    let w = c.args.self.now in
    let self = c.pass_over.new.self in
    let outside = c.pass_over.ensures.outside in
    let tells : Tells w self = record {
      config = c.pass_over.ensures.config;
      byzantine = c.pass_over.ensures.byzantine;
      members = ap (λ members. members.items) c.pass_over.ensures.members;
      network = ap (λ (o : Outside). o.network.items) outside;
      seat = ap (λ (o : Outside). o.seat) outside;
      number = ap (λ (o : Outside). o.number) outside;
    } in
    let at = g.N.Nodes.at c.args.nodes.now in
    record {
      sound = told_sound at w self tells c.requires.sound;
      goes = told_start at w self (flush_turn core_setting w.outside.number c.args.only.now 10000 0) tells (ap (λ (o : Outside). o.text) outside);
      none = none_of_named self.members.items c.args.only.now (take self.first_waiting (map entry_of self.outside.network.items)) (sym (waits_before_is self.config self.first_waiting self.members.items self.outside.network.items) ∙ self.passed);
      number = tells.number;
    }

pub returns-in-Some-clause-plays : goal.returns-in-Some-clause-plays
returns-in-Some-clause-plays g c =
    let so_far = c.loop-count.invariant in
    let number = c.args.self.now.outside.number in
    let only = c.args.only.now in
    let w = c.loop-count.self in
    let l = g.N.Nodes.at c.loop-count.nodes in
    let next = g.N.Nodes.at c.deliver_entry.new.nodes in
    let new = c.deliver_entry.new.self in
    let left = 10000 - c.loop-count.count in
    let within : c.loop-count.at < length (map entry_of w.outside.network.items) = omega (arith, length-map w.outside.network.items entry_of) in
    let e = item_at (map entry_of w.outside.network.items) c.loop-count.at within in
    let played = rw c.in-Some.is at (c.in_ok-ending.ensures.plays e.0 l [] e.1) in
    goes_by_last _ l next c.args.self.now w new (flush_turn core_setting number only 10000 0) (flush_turn core_setting number only left c.loop-count.count) (Some c.in-Some.ending) so_far.goes
    (flush_brings l next w new number left (left - 1) c.loop-count.at c.loop-count.count only e.0 c.in-Some.ending (omega arith) so_far.number so_far.none e.1
    (λ lodged later. sym (c.is_waiting.ensures lodged later e.0 e.1) ∙ c.if-is_waiting.true) played)

pub loop-count-preserved : goal.loop-count-preserved
loop-count-preserved g c =
    let so_far = c.loop-count.invariant in
    let number = c.args.self.now.outside.number in
    let only = c.args.only.now in
    let w = c.loop-count.self in
    let l = g.N.Nodes.at c.loop-count.nodes in
    let left = 10000 - c.loop-count.count in
    let within : c.loop-count.at < length (map entry_of w.outside.network.items) = omega (arith, length-map w.outside.network.items entry_of) in
    let e = item_at (map entry_of w.outside.network.items) c.loop-count.at within in
    elim c.if-is_waiting.branch [
      | then-is_waiting+in_ok-ending+in_default r ↦
          let next = g.N.Nodes.at r.deliver_entry.new.nodes in
          let new = r.deliver_entry.new.self in
          let then = 10000 - (c.loop-count.count + 1) in
          let played = rw r.in_default.is at (r.in_ok-ending.ensures.plays e.0 l [] e.1) in
          let waits = λ (lodged : Lodging) (later : List Outcome). sym (c.is_waiting.ensures lodged later e.0 e.1) ∙ r.if-is_waiting.true in
          rw (r.self-is, r.nodes-is, r.count-is) (record {
            sound = r.in_ok-ending.ensures.sound;
            goes = goes_by_then _ l next c.args.self.now w new (flush_turn core_setting number only 10000 0) (flush_turn core_setting number only left c.loop-count.count) (flush_turn core_setting number only then (c.loop-count.count + 1)) so_far.goes
                (flush_goes l next w new number left then c.loop-count.at c.loop-count.count only e.0 (omega arith) so_far.number so_far.none e.1 waits played);
            none = flush_on l next w new c.loop-count.at only e.0 (omega arith) so_far.none waits played;
            number = r.in_ok-ending.ensures.number ∙ so_far.number;
          })
      | else-is_waiting r ↦
          rw (r.self-is, r.nodes-is, r.count-is) (record {
            sound = so_far.sound;
            goes = so_far.goes;
            none = flush_past w c.loop-count.at only e.0 so_far.none e.1 (λ lodged later. sym (c.is_waiting.ensures lodged later e.0 e.1) ∙ r.if-is_waiting.false);
            number = so_far.number;
          })
    ]

pub returns-clause-plays : goal.returns-clause-plays
returns-clause-plays g c =
    let so_far = c.loop-count.invariant in
    let number = c.args.self.now.outside.number in
    let only = c.args.only.now in
    let w = c.loop-count.self in
    let at = g.N.Nodes.at c.loop-count.nodes in
    let left = 10000 - c.loop-count.count in
    let ended : (left ≡ 0) ⊎ (length w.outside.network.items ≤ c.loop-count.at) =
    elim c.loop-count-test.branch [ then-loop-count-test+else-at-len r ↦ inr (omega arith) | else-loop-count-test r ↦ inl (omega arith) ] in
    let printed = rw so_far.number at c.in_ok-put_flush.ensures in
    goes_by_last _ at at c.args.self.now w _ (flush_turn core_setting number only 10000 0) (flush_turn core_setting number only left c.loop-count.count) None so_far.goes
    (told_plays at w _ (flush_turn core_setting number only left c.loop-count.count) (flush_text number c.loop-count.count) (record { config = refl; byzantine = refl; members = refl; network = refl; seat = refl; number = refl }) printed
    (λ l later. flush_done l w later number left c.loop-count.at c.loop-count.count only so_far.none ended))
