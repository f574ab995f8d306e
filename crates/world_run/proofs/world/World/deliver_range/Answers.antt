use Rattle.std.proofs.Common.{◌∙◌, ◌-◌, ◌+◌, arith, refl}
use Rattle.world_model.specs.Cores.{core_setting}
use Rattle.world_model.specs.Turns.{deliveries}
use Rattle.world_run.proofs.RangeLemmas.{range_done, range_ends, range_more, range_refused, range_start}
use Rattle.world_run.proofs.TellingLemmas.{told_sound}
use Rattle.world_run.proofs.world.World.deliver_range.Goals as goal

pub loop-number-init : goal.loop-number-init
loop-number-init g c =
    let w = c.args.self.now in
    record {
      sound = c.requires.sound;
      goes = range_start (g.N.Nodes.at c.args.nodes.now) w (deliveries core_setting w.outside.number (c.args.range.last + 1 - c.args.range.first) c.args.range.first c.args.so_far);
      number = refl;
    }

pub returns-in_default-clause-sound : goal.returns-in_default-clause-sound
returns-in_default-clause-sound g c =
    told_sound (g.N.Nodes.at c.loop-number.nodes) c.loop-number.self _ (record { config = refl; byzantine = refl; members = refl; network = refl; seat = refl; number = refl }) c.loop-number.invariant.sound

pub returns-in_default-clause-delivers : goal.returns-in_default-clause-delivers
returns-in_default-clause-delivers g c =
    let so_far = c.loop-number.invariant in
    let k = c.loop-number.number in
    let w = c.args.self.now in
    let left = c.args.range.last + 1 - k in
    let printed = rw so_far.number at c.in_ok-put_refused.ensures in
    range_refused (g.N.Nodes.at c.args.nodes.now) (g.N.Nodes.at c.loop-number.nodes) w c.loop-number.self _
    (deliveries core_setting w.outside.number (c.args.range.last + 1 - c.args.range.first) c.args.range.first c.args.so_far)
    w.outside.number left (left - 1) k c.loop-number.count (omega arith) (record { config = refl; byzantine = refl; members = refl; network = refl; seat = refl; number = refl }) printed
    c.in_default.ensures.none so_far.goes

pub returns-in_default-clause-number : goal.returns-in_default-clause-number
returns-in_default-clause-number g c = c.loop-number.invariant.number

pub deliver_next-requires-clause-sound : goal.deliver_next-requires-clause-sound
deliver_next-requires-clause-sound g c = c.loop-number.invariant.sound

pub returns-in_default-2 : goal.returns-in_default-2
returns-in_default-2 g c =
    let so_far = c.loop-number.invariant in
    let k = c.loop-number.number in
    let w = c.args.self.now in
    let end = c.args.range.last + 1 in
    record {
      sound = c.in_ok-other.ensures.sound;
      ends = c.in_ok-other.ensures.ends;
      delivers = range_ends (g.N.Nodes.at c.args.nodes.now) (g.N.Nodes.at c.loop-number.nodes) (g.N.Nodes.at c.deliver_next.new.nodes) w c.loop-number.self c.deliver_next.new.self
          (deliveries core_setting w.outside.number (end - c.args.range.first) c.args.range.first c.args.so_far)
          w.outside.number (end - k) (end - (k + 1)) k c.in-Some.at c.loop-number.count c.in_ok-other.other (omega arith) c.in-Some.ensures.some.1 so_far.number c.in_default-2.not-All so_far.goes c.in_ok-other.ensures.delivers;
      number = c.in_ok-other.ensures.number ∙ so_far.number;
    }

pub loop-number-preserved : goal.loop-number-preserved
loop-number-preserved g c =
    let so_far = c.loop-number.invariant in
    let k = c.loop-number.number in
    let w = c.args.self.now in
    let end = c.args.range.last + 1 in
    let delivers = rw c.in-All.is at c.in_ok-other.ensures.delivers in
    record {
      sound = c.in_ok-other.ensures.sound;
      goes = range_more (g.N.Nodes.at c.args.nodes.now) (g.N.Nodes.at c.loop-number.nodes) (g.N.Nodes.at c.deliver_next.new.nodes) w c.loop-number.self c.deliver_next.new.self
          (deliveries core_setting w.outside.number (end - c.args.range.first) c.args.range.first c.args.so_far)
          w.outside.number (end - k) (end - (k + 1)) k c.in-Some.at c.loop-number.count c.in-All.sum (omega arith) c.in-Some.ensures.some.1 so_far.number so_far.goes delivers;
      number = c.in_ok-other.ensures.number ∙ so_far.number;
    }

pub returns-clause-sound : goal.returns-clause-sound
returns-clause-sound g c = c.loop-number.invariant.sound

pub returns-clause-delivers : goal.returns-clause-delivers
returns-clause-delivers g c =
    let so_far = c.loop-number.invariant in
    let k = c.loop-number.number in
    let w = c.args.self.now in
    let end = c.args.range.last + 1 in
    range_done (g.N.Nodes.at c.args.nodes.now) (g.N.Nodes.at c.loop-number.nodes) w c.loop-number.self
    (deliveries core_setting w.outside.number (end - c.args.range.first) c.args.range.first c.args.so_far) w.outside.number (end - k) k c.loop-number.count (omega arith) so_far.goes

pub returns-clause-number : goal.returns-clause-number
returns-clause-number g c = c.loop-number.invariant.number
