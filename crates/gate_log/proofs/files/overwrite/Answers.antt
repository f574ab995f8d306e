use Rattle.std.proofs.Common.{◌≡◌, ℕ, ◌+◌, ◌-◌, ◌++◌, length, take, drop, replicate, ◌∙◌, ap, arith, length-append, length-take, length-drop}
use Rattle.gate_log.proofs.Overwriting.{overwritten_grown, grown_enough}
use Rattle.gate_log.proofs.Wholes.{whole_buffer}
use Rattle.gate_log.proofs.files.overwrite.Goals as goal

pub put-requires : goal.put-requires
put-requires c =
    let reach = grown_enough c.in-Some.end c.args.bytes.now.items c.grow.new.bytes.items c.in_ok-grow.ensures.ok in
    omega (arith, reach, c.deref_mut.ensures.len, ap length c.deref_mut.ensures.value)

pub returns-clause-ok : goal.returns-clause-ok
returns-clause-ok c =
    let n = c.args.at + length c.args.new.now in
    let end : c.in-Some.end ≡ n = omega (arith, c.in-Some.ensures) in
    let grown = c.deref_mut.ensures.value ∙ c.in_ok-grow.ensures.ok ∙ ap (λ (k : ℕ). c.args.bytes.now.items ++ replicate (k - length c.args.bytes.now.items) 0) end in
    let reach = grown_enough n c.args.bytes.now.items c.deref_mut.result.now grown in
    let before = c.deref_mut.result.now in
    let size : length c.put.new.bytes ≡ length before =
    ap length c.put.ensures ∙ omega (arith, length-append (take c.args.at before ++ c.args.new.now) (drop n before), length-append (take c.args.at before) c.args.new.now, length-take c.args.at before, length-drop n before) in
    whole_buffer _ c.put.new.bytes c.grow.new.bytes.items (size ∙ ap length c.deref_mut.ensures.value) (omega arith)
    ∙ overwritten_grown c.args.at c.args.bytes.now.items before c.put.new.bytes c.args.new.now grown c.put.ensures
