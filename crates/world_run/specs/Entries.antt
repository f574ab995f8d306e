-- What an entry of the code's network stands for.
use Rattle.std.specs.Prelude.{ℕ, false, List, map}
use Rattle.bft_node.specs.Making.{Sent}
use Rattle.world_model.specs.Worlds as worlds
use Rattle.world_run.specs.declared.network.Entry.{Entry}

abbrev pub entry_of : Entry → worlds.Entry
entry_of e = record { from = e.from; to = e.to; bytes = e.bytes.value; came = e.came }

-- what a node sends, as entries
abbrev pub posted : ℕ → List Sent → List worlds.Entry
posted i sends = map (λ (sent : Sent). record { from = i; to = sent.to; bytes = sent.bytes; came = false })
    sends
