use Rattle.std.proofs.Common.{◌≡◌, take}
use Rattle.indexmap.specs.IndexSet.{insert_all}
use Rattle.request_pool.specs.Waiting.{id_eq}
use Rattle.request_pool.proofs.seen.SeenIds.add_all.Given as goal

abbrev pub invariant-loop-id : goal.invariant-loop-id
invariant-loop-id l = l.self ≡ insert_all id_eq l.initial.self (take l.id-index l.ids)
