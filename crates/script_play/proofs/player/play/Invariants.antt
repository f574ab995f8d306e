use Rattle.std.proofs.Common.{◌≤◌, ◌+◌, ◌-◌, IsSome, None}
use Rattle.ord_types.specs.Told.{told}
use Rattle.line_flow.specs.Lines.{lines}
use Rattle.line_flow.specs.Reader.{ahead}
use Rattle.script_play.specs.Runs.{run, script_run}
use Rattle.script_play.specs.Choices.{PlayedTo, AllDecided}
use Rattle.script_play.proofs.player.play.Given as goal

abbrev pub invariant-lines : goal.invariant-lines
invariant-lines g l =
    let machine = g.M.Machine in
    let left = g.S.Source.left in
    let content = g.K.Sink.content in
    let script = told (left l.fn.source) in
    let rest = lines (ahead l.player.reader (left l.source)) in
    record {
      sound : machine.is_sound l.machine;
      tells : IsSome (left l.fn.source) → IsSome (left l.source);
      so_far : IsSome (left l.fn.source) → PlayedTo
          (λ choices. script_run machine.turn_of machine.closing_of (machine.world l.fn.machine choices) script)
          (λ choices. run machine.turn_of machine.closing_of rest (machine.world l.machine choices) (l.number + 1))
          (content l.fn.out) (content l.out) None
          (AllDecided (machine.is_decided l.fn.machine) machine.decides (lines script))
          (AllDecided (machine.is_decided l.machine) machine.decides rest);
      within : l.number ≤ 1000000;
      later : g.S.Source.faults l.fn.source ≤ g.S.Source.faults l.source;
      later_out : g.K.Sink.faults l.fn.out ≤ g.K.Sink.faults l.out;
    }

abbrev pub decreases-lines : goal.decreases-lines
decreases-lines g l = 1000000 - l.number
