use Rattle.std.proofs.Common.{◌≡◌, ◌++◌, map, take}
use Rattle.node_model.specs.Entries.{Sent, others, posts_in}
use Rattle.bft_node.specs.Making.{sent_of, text_of}
use Rattle.bft_node.proofs.sending.send_to_all.Given as goal

abbrev pub invariant-loop-to : goal.invariant-loop-to
invariant-loop-to l =
    map sent_of l.sends
    ≡ map sent_of l.fn.sends ++ map text_of (posts_in (Sent (others (take l.to-index l.members) l.from) l.message))
