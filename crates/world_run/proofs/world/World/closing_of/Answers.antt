use Rattle.std.proofs.Common.{◌++◌, ap, sym, ◌∙◌, List, ℕ}
use Rattle.std.specs.Prelude.{string_bytes}
use Rattle.std.proofs.lemmas.Result.{on_ok_weaker}
use Rattle.world_run.proofs.ShowLemmas.{closed_absent, closed_running, closed_stopped, running_is_some}
use Rattle.world_run.proofs.world.World.closing_of.Goals as goal

pub node-requires : goal.node-requires
node-requires g c = running_is_some (g.N.Nodes.at c.args.nodes.now) c.args.self.now c.args.id c.in-Running._place c.requires (sym c.in-Running.ensures)

pub returns-in-Absent : goal.returns-in-Absent
returns-in-Absent g c =
    on_ok_weaker c.put_byzantine.result
    (λ printed. λ later. printed ∙ ap (λ (line : List ℕ). string_bytes c.args.text.now ++ line) (closed_absent (g.N.Nodes.at c.args.nodes.now) c.args.self.now later c.args.id (sym c.in-Absent.ensures)))
    c.put_byzantine.ensures

pub returns-in-Stopped : goal.returns-in-Stopped
returns-in-Stopped g c =
    on_ok_weaker c.put_closed.result
    (λ printed. λ later. printed ∙ ap (λ (line : List ℕ). string_bytes c.args.text.now ++ line) (closed_stopped (g.N.Nodes.at c.args.nodes.now) c.args.self.now later c.args.id c.in-Stopped._place (sym c.in-Stopped.ensures)))
    c.put_closed.ensures

pub returns-in-Running : goal.returns-in-Running
returns-in-Running g c =
    on_ok_weaker c.put_running.result
    (λ printed. λ later.
    closed_running (g.N.Nodes.at c.args.nodes.now) c.args.self.now later c.args.id c.in-Running._place c.node.result.now _ _ (sym c.in-Running.ensures) c.node.ensures printed)
    c.put_running.ensures
