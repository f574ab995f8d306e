use Rattle.std.proofs.Common.{◌≡◌, ◌+◌, take, drop}
use Rattle.chan_config.specs.Blocks.{total_size}
use Rattle.chan_config.specs.Refusals.{first_barred, first_unlawful}
use Rattle.chan_config.proofs.requests.first_unlawful.Given as goal

abbrev pub invariant-loop-request : goal.invariant-loop-request
invariant-loop-request l = record {
  room : l.room + total_size (take l.request-index l.requests) ≡ l.config.batch.absolute;
  place : l.place ≡ l.request-index;
  found : first_unlawful l.config l.requests ≡ first_barred l.config l.place (total_size (take l.request-index l.requests)) (drop l.request-index l.requests);
}
