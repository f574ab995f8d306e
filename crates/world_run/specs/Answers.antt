-- What the code's answers of a pool and a line's image of a disk stand for.
use Rattle.gate_log.specs.declared.image.Image.{Image}
use Rattle.gate_log.specs.declared.image.Image.TheVariants.{Keep, Undo, Fill}
use Rattle.script.specs.declared.command.Image as named
use Rattle.script.specs.declared.command.Image.TheVariants as image_in
use Rattle.world_model.specs.Pools as pools
use Rattle.world_run.specs.declared.pool.Answer.{Answer}
use Rattle.world_run.specs.declared.pool.Answer.TheVariants.{Admitted, Malformed, KnownPending}

abbrev pub answer_of : Answer → pools.Answer
answer_of Admitted = pools.Admitted
answer_of (Malformed at) = pools.Malformed at
answer_of KnownPending = pools.KnownPending

-- the image of a disk that a line names
abbrev pub image_of : named.Image → Image
image_of image_in.Keep = Keep
image_of image_in.Undo = Undo
image_of (image_in.Fill byte) = Fill byte
