use Rattle.ord_types.proofs.Fields.{length_bytes}
use Rattle.ord_types.proofs.reader.Reader.digest.Goals as goal

pub copy_from_slice-requires : goal.copy_from_slice-requires
copy_from_slice-requires c = length_bytes 32 _ _ _ c.in_ok-front.ensures
