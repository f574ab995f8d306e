-- Reading signed reports one after the other.
use Rattle.std.proofs.Common.{◌+◌, refl}
use Rattle.ord_types.proofs.Loops.{IsLoop}
use Rattle.bft_wire.specs.Reading.{signed_from_at, signed_reports_at}

pub reports_loop : IsLoop signed_from_at (λ least s. s.sig.signer + 1) signed_reports_at
unfolding signed_reports_at
reports_loop = record { none = λ s bytes. refl; more = λ s n bytes. refl }
