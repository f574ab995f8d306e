use Rattle.std.proofs.Common.{subst}
use Rattle.ord_types.specs.Grammar.{HasProofSpelling}
use Rattle.ord_types.proofs.Fitting.{fits_cert}
use Rattle.block_ledger.proofs.entry.put_proof.Goals as goal

pub put_cert-requires : goal.put_cert-requires
put_cert-requires c = fits_cert c.in-Bft.cert (subst HasProofSpelling c.in-Bft.is c.requires)
