use Rattle.std.proofs.Common.{ap, ◌≡◌, ◌++◌, ℕ, List}
use Rattle.std.specs.Prelude.{codes, decimal, string_bytes}
use Rattle.std.proofs.lemmas.List.{append_assoc}
use Rattle.std.proofs.lemmas.Result.{IfOk-equal}
use Rattle.world_model.specs.Texts.{pending_text}
use Rattle.world_run.proofs.texts.put_pending.Goals as goal

pending_is : (number : ℕ) (word : List ℕ) (node : ℕ) → decimal number ++ (codes " " ++ (word ++ (codes " " ++ (decimal node ++ codes " known pending\n")))) ≡ pending_text number word node
unfolding pending_text
pending_is number word node = simp append_assoc

pub returns : goal.returns
returns c = IfOk-equal _ _ _ _ c.write.ensures.bytes (ap (λ (bytes : List ℕ). string_bytes c.args.text.now ++ bytes) (pending_is c.args.number c.args.word.now c.args.node))
