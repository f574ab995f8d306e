-- Which block may come next.
use Rattle.std.proofs.Common.{◌≡◌, true, false, refl}
use Rattle.std.specs.Prelude.{None}
use Rattle.ord_types.specs.Hashes.{block_hash}
use Rattle.ord_types.specs.Members.{is_raft}
use Rattle.ord_types.specs.declared.values.Block.{Block}
use Rattle.ord_types.specs.declared.values.Cert.{Cert}
use Rattle.ord_types.specs.declared.values.Place.{Place}
use Rattle.ord_types.specs.declared.values.Proof.TheVariants.{Bft}
use Rattle.signer_edge.specs.Accepts.{Accepts}
use Rattle.signer_edge.specs.Certificates.{is_good_cert}
use Rattle.chan_config.specs.Blocks.{is_next_at}
use Rattle.block_ledger.specs.Judging.{next_refusal}
use Rattle.block_ledger.proofs.Refusing.{where_next}

-- one that is lawful, with a good certificate
pub next_none : (accepts : Accepts) (place : Place) (b : Block) (cert : Cert) → is_next_at place.last place.height place.config b ≡ true → is_good_cert accepts place.config b.header.number (block_hash b) cert ≡ true
    → is_raft place.config ≡ false → next_refusal accepts place (b, Bft cert) ≡ None
next_none accepts place b cert next good bft = where_next accepts place (b, Bft cert) next (rw (bft, good) refl)
