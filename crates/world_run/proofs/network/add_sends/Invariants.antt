use Rattle.std.proofs.Common.{◌≡◌, ◌++◌, map, take}
use Rattle.bft_node.specs.Making.{sent_of}
use Rattle.world_run.specs.Entries.{entry_of, posted}
use Rattle.world_run.proofs.network.add_sends.Given as goal

abbrev pub invariant-loop-post : goal.invariant-loop-post
invariant-loop-post l = map entry_of l.network.items ≡ map entry_of l.fn.network.items ++ posted l.from (map sent_of (take l.post-index l.sends))
