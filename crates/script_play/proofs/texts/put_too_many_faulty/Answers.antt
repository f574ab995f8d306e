use Rattle.std.proofs.Common.{ap, ◌≡◌, ◌++◌, ℕ, List}
use Rattle.std.specs.Prelude.{codes, decimal, string_bytes}
use Rattle.std.proofs.lemmas.List.{append_assoc}
use Rattle.std.proofs.lemmas.Result.{IfOk-equal}
use Rattle.script_play.specs.Texts.{too_many_faulty_text}
use Rattle.script_play.proofs.texts.put_too_many_faulty.Goals as goal

text_is : (number config count bound : ℕ)
    → decimal number ++ (codes " too many faulty: configuration " ++ (decimal config ++ (codes " has " ++ (decimal count ++ (codes ", bound " ++ (decimal bound ++ codes "\n"))))))
    ≡ too_many_faulty_text number config count bound
unfolding too_many_faulty_text
text_is number config count bound = simp append_assoc

pub returns : goal.returns
returns c = IfOk-equal _ _ _ _ c.write.ensures.bytes (ap (λ (bytes : List ℕ). string_bytes c.args.text.now ++ bytes) (text_is c.args.number c.args.config c.args.count c.args.bound))
