use Rattle.std.proofs.Common.{◌≡◌, ◌+◌, ◌≤◌, drop}
use Rattle.ord_types.specs.Members.{how_many_in}
use Rattle.world_run.proofs.runner.how_many_in.Given as goal

abbrev pub invariant-loop-id : goal.invariant-loop-id
invariant-loop-id l = record {
  few : l.count ≤ l.id-index;
  counted : l.count + how_many_in l.list (drop l.id-index l.ids) ≡ how_many_in l.list l.ids;
}
