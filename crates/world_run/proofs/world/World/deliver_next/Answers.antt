use Rattle.std.proofs.Common.{◌≡◌, ◌∙◌, ◌<◌, ◌+◌, [], length, arith, sym, rules}
use Rattle.world_run.specs.Entries.{entry_of}
use Rattle.world_run.proofs.ListLemmas.{entry_has}
use Rattle.world_run.proofs.RangeLemmas.{next_delivered, next_ended, next_lost, next_stopped}
use Rattle.world_run.proofs.world.World.deliver_next.Goals as goal

pub returns-then-not-is_running-clause-delivers : goal.returns-then-not-is_running-clause-delivers
returns-then-not-is_running-clause-delivers g c =
    let w = c.args.self.now in
    let within : c.args.at < length w.outside.network.items = omega arith in
    next_lost (g.N.Nodes.at c.args.nodes.now) w w.outside.number c.args.at c.args.so_far c.index.result.now within c.index.ensures
    (λ lodged later. sym c.if-not-is_running.true ∙ c.is_running.ensures lodged later)

pub returns-in-Some-clause-delivers : goal.returns-in-Some-clause-delivers
returns-in-Some-clause-delivers g c =
    let w = c.args.self.now in
    let within : c.args.at < length w.outside.network.items = omega arith in
    let l = g.N.Nodes.at c.args.nodes.now in
    let played = rw c.in-Some.is at (c.in_ok-ending.ensures.plays (entry_of c.index.result.now) l [] (entry_has w.outside.network.items c.args.at c.index.result.now within c.index.ensures)) in
    next_ended l (g.N.Nodes.at c.deliver_entry.new.nodes) w c.deliver_entry.new.self w.outside.number c.args.at c.args.so_far c.index.result.now c.in-Some.ending within c.index.ensures played

pub returns-then-is_running-clause-delivers : goal.returns-then-is_running-clause-delivers
returns-then-is_running-clause-delivers g c =
    let w = c.args.self.now in
    let within : c.args.at < length w.outside.network.items = omega arith in
    let l = g.N.Nodes.at c.args.nodes.now in
    let played = rw c.in_default.is at (c.in_ok-ending.ensures.plays (entry_of c.index.result.now) l [] (entry_has w.outside.network.items c.args.at c.index.result.now within c.index.ensures)) in
    let one : c.in_ok-count.count ≡ c.args.so_far + 1 = search rules in
    next_delivered l (g.N.Nodes.at c.deliver_entry.new.nodes) w c.deliver_entry.new.self w.outside.number c.args.at c.args.so_far c.in_ok-count.count c.index.result.now within c.index.ensures
    (λ lodged later. sym c.if-not-is_running.false ∙ c.is_running.ensures lodged later) (λ lodged later. sym c.if-is_running.true ∙ c.is_running-2.ensures lodged later) one played

pub returns-else-is_running-clause-delivers : goal.returns-else-is_running-clause-delivers
returns-else-is_running-clause-delivers g c =
    let w = c.args.self.now in
    let within : c.args.at < length w.outside.network.items = omega arith in
    let l = g.N.Nodes.at c.args.nodes.now in
    let played = rw c.in_default.is at (c.in_ok-ending.ensures.plays (entry_of c.index.result.now) l [] (entry_has w.outside.network.items c.args.at c.index.result.now within c.index.ensures)) in
    next_stopped l (g.N.Nodes.at c.deliver_entry.new.nodes) w c.deliver_entry.new.self w.outside.number c.args.at c.args.so_far c.index.result.now within c.index.ensures
    (λ lodged later. sym c.if-not-is_running.false ∙ c.is_running.ensures lodged later) (λ lodged later. sym c.if-is_running.false ∙ c.is_running-2.ensures lodged later) played
