use Rattle.std.proofs.Common.{◌≡◌, ◌∙◌, ◌-◌, ◌+◌, arith, refl, sym, Some, subst, ℕ, None}
use Rattle.world_model.specs.Cores.{core_setting}
use Rattle.world_model.specs.Texts.{tick_text}
use Rattle.world_model.specs.Turns.{ticks}
use Rattle.world_run.specs.Mapped.{world_of}
use Rattle.world_run.proofs.GoingLemmas.{GoesBy, goes_by_last, goes_by_start, goes_by_then, plays_silent}
use Rattle.world_run.proofs.ListLemmas.{none_running, where_running}
use Rattle.world_run.proofs.TellingLemmas.{told_plays, told_sound}
use Rattle.world_run.proofs.TickLemmas.{tick_ends, tick_goes, ticks_none, ticks_told}
use Rattle.world_run.proofs.world.World.ticks.Goals as goal

pub loop-tick-init : goal.loop-tick-init
loop-tick-init g c =
    let at = g.N.Nodes.at c.args.nodes.now in
    let w = c.args.self.now in
    let whole = ticks core_setting w.outside.number c.args.id c.args.count in
    let all : c.args.count ≡ c.args.count - 0 = omega arith in
    record { sound = c.requires.sound; goes = subst (λ (n : ℕ). GoesBy at at w w whole (ticks core_setting w.outside.number c.args.id n)) all (goes_by_start at w whole); number = refl }

pub returns-in_default-clause-sound : goal.returns-in_default-clause-sound
returns-in_default-clause-sound g c = c.loop-tick.invariant.sound

pub returns-in_default-clause-plays : goal.returns-in_default-clause-plays
returns-in_default-clause-plays g c =
    let so_far = c.loop-tick.invariant in
    let w = c.loop-tick.self in
    let at = g.N.Nodes.at c.loop-tick.nodes in
    let number = c.args.self.now.outside.number in
    let left = c.args.count - c.loop-tick._tick in
    goes_by_last _ at at c.args.self.now w w (ticks core_setting number c.args.id c.args.count) (ticks core_setting number c.args.id left) None so_far.goes
    (plays_silent at w (ticks core_setting number c.args.id left) (λ later. ticks_none number c.args.id left (world_of at w later) (c.in_default.ensures.none at later)))

pub returns-in_default-clause-number : goal.returns-in_default-clause-number
returns-in_default-clause-number g c = c.loop-tick.invariant.number

pub tick_at-requires-clause-sound : goal.tick_at-requires-clause-sound
tick_at-requires-clause-sound g c = c.loop-tick.invariant.sound

pub tick_at-requires-clause-runs : goal.tick_at-requires-clause-runs
tick_at-requires-clause-runs g c =
    let stands = where_running c.args.id c.loop-tick.self.members.items c.in-Some.place c.in-Some.ensures.some in
    (stands.member, stands.there, stands.runs)

pub returns-in-Some-2-clause-plays : goal.returns-in-Some-2-clause-plays
returns-in-Some-2-clause-plays g c =
    let so_far = c.loop-tick.invariant in
    let w = c.loop-tick.self in
    let at = g.N.Nodes.at c.loop-tick.nodes in
    let next = g.N.Nodes.at c.tick_at.new.nodes in
    let new = c.tick_at.new.self in
    let number = c.args.self.now.outside.number in
    let left = c.args.count - c.loop-tick._tick in
    let stands = where_running c.args.id w.members.items c.in-Some.place c.in-Some.ensures.some in
    let played = rw c.in-Some-2.is at (c.in_ok-ending.ensures.plays stands.member stands.there) in
    goes_by_last _ at next c.args.self.now w new (ticks core_setting number c.args.id c.args.count) (ticks core_setting number c.args.id left) (Some c.in-Some-2.ending) so_far.goes
    (tick_ends number c.args.id left (left - 1) c.in-Some.place at next w new c.in-Some-2.ending stands (omega arith) so_far.number played)

pub returns-in-Some-2-clause-number : goal.returns-in-Some-2-clause-number
returns-in-Some-2-clause-number g c = c.in_ok-ending.ensures.number ∙ c.loop-tick.invariant.number

pub loop-tick-preserved : goal.loop-tick-preserved
loop-tick-preserved g c =
    let so_far = c.loop-tick.invariant in
    let w = c.loop-tick.self in
    let at = g.N.Nodes.at c.loop-tick.nodes in
    let next = g.N.Nodes.at c.tick_at.new.nodes in
    let new = c.tick_at.new.self in
    let number = c.args.self.now.outside.number in
    let left = c.args.count - c.loop-tick._tick in
    let then = c.args.count - (c.loop-tick._tick + 1) in
    let stands = where_running c.args.id w.members.items c.in-Some.place c.in-Some.ensures.some in
    let played = rw c.in_default-2.is at (c.in_ok-ending.ensures.plays stands.member stands.there) in
    record {
      sound = c.in_ok-ending.ensures.sound;
      goes = goes_by_then _ at next c.args.self.now w new (ticks core_setting number c.args.id c.args.count) (ticks core_setting number c.args.id left) (ticks core_setting number c.args.id then) so_far.goes
          (tick_goes number c.args.id left then c.in-Some.place at next w new stands (omega arith) so_far.number played);
      number = c.in_ok-ending.ensures.number ∙ so_far.number;
    }

pub returns-in_ok-put_tick-clause-sound : goal.returns-in_ok-put_tick-clause-sound
returns-in_ok-put_tick-clause-sound g c =
    told_sound (g.N.Nodes.at c.loop-tick.nodes) c.loop-tick.self _ (record { config = refl; byzantine = refl; members = refl; network = refl; seat = refl; number = refl }) c.loop-tick.invariant.sound

pub returns-in_ok-put_tick-clause-plays : goal.returns-in_ok-put_tick-clause-plays
returns-in_ok-put_tick-clause-plays g c =
    let so_far = c.loop-tick.invariant in
    let w = c.loop-tick.self in
    let at = g.N.Nodes.at c.loop-tick.nodes in
    let number = c.args.self.now.outside.number in
    let left = c.args.count - c.loop-tick._tick in
    let none : left ≡ 0 = omega arith in
    let printed = rw so_far.number at c.in_ok-put_tick.ensures in
    goes_by_last _ at at c.args.self.now w _ (ticks core_setting number c.args.id c.args.count) (ticks core_setting number c.args.id left) None so_far.goes
    (told_plays at w _ (ticks core_setting number c.args.id left) (tick_text number c.args.id) (record { config = refl; byzantine = refl; members = refl; network = refl; seat = refl; number = refl }) printed
    (λ l later. ticks_told number c.args.id left (world_of l w later) none (sym (c.is_running.ensures l later) ∙ c.if-is_running.true)))

pub returns-in_ok-put_tick-clause-number : goal.returns-in_ok-put_tick-clause-number
returns-in_ok-put_tick-clause-number g c = c.loop-tick.invariant.number

pub returns-else-is_running-clause-sound : goal.returns-else-is_running-clause-sound
returns-else-is_running-clause-sound g c = c.loop-tick.invariant.sound

pub returns-else-is_running-clause-plays : goal.returns-else-is_running-clause-plays
returns-else-is_running-clause-plays g c =
    let so_far = c.loop-tick.invariant in
    let w = c.loop-tick.self in
    let at = g.N.Nodes.at c.loop-tick.nodes in
    let number = c.args.self.now.outside.number in
    let left = c.args.count - c.loop-tick._tick in
    goes_by_last _ at at c.args.self.now w w (ticks core_setting number c.args.id c.args.count) (ticks core_setting number c.args.id left) None so_far.goes
    (plays_silent at w (ticks core_setting number c.args.id left) (λ later. ticks_none number c.args.id left (world_of at w later) (none_running _ (sym (c.is_running.ensures at later) ∙ c.if-is_running.false))))

pub returns-else-is_running-clause-number : goal.returns-else-is_running-clause-number
returns-else-is_running-clause-number g c = c.loop-tick.invariant.number
