use Rattle.std.proofs.Common.{[], refl, arith}
use Rattle.bft_wal.proofs.Sizes.{fits_record, record_size}
use Rattle.bft_wal.proofs.codec.size_of.Goals as goal

pub write_record-requires : goal.write_record-requires
write_record-requires c = fits_record c.args.entry.now c.requires

pub returns : goal.returns
returns c = omega (arith, c.write_record.ensures [] refl, record_size c.args.entry.now c.requires)
