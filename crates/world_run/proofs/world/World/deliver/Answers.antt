use Rattle.std.proofs.Common.{◌∙◌, ◌≤◌, None, drop, length, arith, refl}
use Rattle.std.proofs.lemmas.List.{get_or_default}
use Rattle.world_model.specs.Cores.{core_setting}
use Rattle.world_model.specs.Texts.{deliver_text}
use Rattle.world_model.specs.Turns.{deliver_turn}
use Rattle.world_run.specs.Mapped.{world_of}
use Rattle.world_run.specs.declared.delivering.Delivered.TheVariants.{Ended, Halted}
use Rattle.world_run.proofs.GoingLemmas.{goes_by_last, goes_by_start}
use Rattle.world_run.proofs.RangeLemmas.{deliver_done, deliver_ends, deliver_more}
use Rattle.world_run.proofs.TellingLemmas.{told_plays, told_sound}
use Rattle.world_run.proofs.world.World.deliver.Goals as goal

pub loop-range-init : goal.loop-range-init
loop-range-init g c =
    let w = c.args.self.now in
    record { sound = c.requires.sound; goes = goes_by_start (g.N.Nodes.at c.args.nodes.now) w (deliver_turn core_setting w.outside.number c.args.ranges.now 0); number = refl }

pub deliver_range-requires-clause-sound : goal.deliver_range-requires-clause-sound
deliver_range-requires-clause-sound g c = c.loop-range.invariant.sound

pub returns-in-Halted-clause-plays : goal.returns-in-Halted-clause-plays
returns-in-Halted-clause-plays g c =
    let so_far = c.loop-range.invariant in
    let i = c.loop-range.range-index in
    let w = c.args.self.now in
    let ranges = c.args.ranges.now in
    let delivers = rw c.in-Halted.is at c.in_ok-sum.ensures.delivers in
    deliver_ends (g.N.Nodes.at c.args.nodes.now) (g.N.Nodes.at c.loop-range.nodes) (g.N.Nodes.at c.deliver_range.new.nodes) w c.loop-range.self c.deliver_range.new.self
    (deliver_turn core_setting w.outside.number ranges 0) w.outside.number i c.loop-range.count ranges _ Halted (omega arith) (get_or_default ranges i _ _ (omega arith)) so_far.number (λ sum is. cc) so_far.goes delivers

pub returns-in-Halted-clause-number : goal.returns-in-Halted-clause-number
returns-in-Halted-clause-number g c = c.in_ok-sum.ensures.number ∙ c.loop-range.invariant.number

pub returns-in-Ended-clause-plays : goal.returns-in-Ended-clause-plays
returns-in-Ended-clause-plays g c =
    let so_far = c.loop-range.invariant in
    let i = c.loop-range.range-index in
    let w = c.args.self.now in
    let ranges = c.args.ranges.now in
    let delivers = rw c.in-Ended.is at c.in_ok-sum.ensures.delivers in
    deliver_ends (g.N.Nodes.at c.args.nodes.now) (g.N.Nodes.at c.loop-range.nodes) (g.N.Nodes.at c.deliver_range.new.nodes) w c.loop-range.self c.deliver_range.new.self
    (deliver_turn core_setting w.outside.number ranges 0) w.outside.number i c.loop-range.count ranges _ (Ended c.in-Ended.ending) (omega arith) (get_or_default ranges i _ _ (omega arith)) so_far.number (λ sum is. cc) so_far.goes delivers

pub returns-in-Ended-clause-number : goal.returns-in-Ended-clause-number
returns-in-Ended-clause-number g c = c.in_ok-sum.ensures.number ∙ c.loop-range.invariant.number

pub loop-range-preserved : goal.loop-range-preserved
loop-range-preserved g c =
    let so_far = c.loop-range.invariant in
    let i = c.loop-range.range-index in
    let w = c.args.self.now in
    let ranges = c.args.ranges.now in
    let delivers = rw c.in-All.is at c.in_ok-sum.ensures.delivers in
    record {
      sound = c.in_ok-sum.ensures.sound;
      goes = deliver_more (g.N.Nodes.at c.args.nodes.now) (g.N.Nodes.at c.loop-range.nodes) (g.N.Nodes.at c.deliver_range.new.nodes) w c.loop-range.self c.deliver_range.new.self
          (deliver_turn core_setting w.outside.number ranges 0) w.outside.number i c.loop-range.count c.in-All.sum ranges _ (omega arith) (get_or_default ranges i _ _ (omega arith)) so_far.number so_far.goes delivers;
      number = c.in_ok-sum.ensures.number ∙ so_far.number;
    }

pub returns-clause-sound : goal.returns-clause-sound
returns-clause-sound g c =
    told_sound (g.N.Nodes.at c.loop-range.nodes) c.loop-range.self _ (record { config = refl; byzantine = refl; members = refl; network = refl; seat = refl; number = refl }) c.loop-range.invariant.sound

pub returns-clause-plays : goal.returns-clause-plays
returns-clause-plays g c =
    let so_far = c.loop-range.invariant in
    let i = c.loop-range.range-index in
    let w = c.args.self.now in
    let ranges = c.args.ranges.now in
    let number = w.outside.number in
    let at = g.N.Nodes.at c.loop-range.nodes in
    let past : length ranges ≤ i = omega arith in
    let left = deliver_turn core_setting number (drop i ranges) c.loop-range.count in
    let printed = rw so_far.number at c.in_ok-put_deliver.ensures in
    goes_by_last (g.N.Nodes.at c.args.nodes.now) at at w c.loop-range.self _ (deliver_turn core_setting number ranges 0) left None so_far.goes
    (told_plays at c.loop-range.self _ left (deliver_text number c.loop-range.count) (record { config = refl; byzantine = refl; members = refl; network = refl; seat = refl; number = refl }) printed
    (λ l later. deliver_done number i c.loop-range.count ranges (world_of l c.loop-range.self later) past))

pub returns-clause-number : goal.returns-clause-number
returns-clause-number g c = c.loop-range.invariant.number
