use Rattle.std.proofs.Common.{ap, ◌≡◌, ◌++◌, ℕ, List}
use Rattle.std.specs.Prelude.{codes, decimal, string_bytes}
use Rattle.std.proofs.lemmas.List.{append_assoc}
use Rattle.std.proofs.lemmas.Result.{IfOk-equal}
use Rattle.world_model.specs.Texts.{node_text}
use Rattle.world_run.proofs.texts.put_node.Goals as goal

node_is : (id height config view left : ℕ)
    → codes "node " ++ (decimal id ++ (codes " height " ++ (decimal height ++ (codes " config " ++ (decimal config ++ (codes " view " ++ (decimal view ++ (codes " left " ++ (decimal left ++ codes "\n")))))))))
    ≡ node_text id height config view left
unfolding node_text
node_is id height config view left = simp append_assoc

pub returns : goal.returns
returns c = IfOk-equal _ _ _ _ c.write.ensures.bytes (ap (λ (bytes : List ℕ). string_bytes c.args.text.now ++ bytes) (node_is c.args.id c.args.height c.args.config c.args.view c.args.left))
