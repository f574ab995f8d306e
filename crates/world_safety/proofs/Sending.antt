-- The messages that a node sends have a spelling.
use Rattle.std.proofs.Common.{ℕ, List}
use Rattle.sha2.proofs.Facts256.{length-sha256}
use Rattle.ord_types.specs.Grammar.{HasSigSpelling, IsDigest, IsNumber}
use Rattle.ord_types.specs.Hashes.{header_hash, block_hash}
use Rattle.ord_types.specs.declared.values.Sig.{Sig}
use Rattle.safety_model.specs.Blocks.{Block}
use Rattle.bft_wire.specs.Messages.{HasMessageSpelling}
use Rattle.view_model.specs.declared.letter.VoteMessage.TheVariants as message_of
use Rattle.view_model.specs.Acts.{View}
use Rattle.view_model.specs.Leading.{Place}
use Rattle.node_model.specs.Steps.{commit_message, prepare_message, preprepare_message}
use Rattle.world_safety.specs.Fits.{FitsAt, MessageFits}
use Rattle.world_safety.proofs.Fitting.{PlaceFits, carried_fits, view_fits}

pub hash_fits : (b : Block) → IsDigest (block_hash b)
unfolding header_hash
hash_fits b = length-sha256 _

pub preprepare_fits : (place : Place) (w : View) (b : Block) → PlaceFits place w.view
    → FitsAt place.height b → HasMessageSpelling (preprepare_message place w b)
preprepare_fits place w b fits is =
    let carried = carried_fits place w.view fits in
    record {
      config = fits.config;
      view = view_fits place w.view fits;
      number = is.number;
      block =
          is.spelled;
      cert = carried.spelled;
    }

pub prepare_fits : (place : Place) (w : View) (b : Block) → PlaceFits place w.view → IsNumber place.height
    → HasMessageSpelling (prepare_message place w b)
prepare_fits place w b fits number =
    record { config = fits.config; view = view_fits place w.view fits; number = number; digest = hash_fits b }

pub commit_fits : (place : Place) (w : View) (d : List ℕ) (sig : Sig) → PlaceFits place w.view
    → IsNumber place.height → IsDigest d → HasSigSpelling sig
    → MessageFits (message_of.Commit (commit_message place w d sig))
commit_fits place w d sig fits number digest signed = record {
  config = fits.config;
  view =
      view_fits place w.view fits;
  number = number;
  digest = digest;
  sig = signed;
}
