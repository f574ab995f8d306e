use Rattle.std.proofs.Common.{sym}
use Rattle.script.proofs.FieldLemmas.{range_of_three}
use Rattle.script.proofs.fields.range.Goals as goal

pub returns-in-Some-others : goal.returns-in-Some-others
returns-in-Some-others c =
    sym (range_of_three c.args.text.now c.part.result.0.now c.in-Some.rest.now c.part-2.result.0.now c.in-Some-others.field-0.now
    (rw c.in-Some.is at c.part.ensures.parts)
    (rw c.in-Some-others.is at c.part-2.ensures.parts))
