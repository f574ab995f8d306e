use Rattle.std.proofs.Common.{◌≡◌, ◌≤◌, [], length, refl, arith, rules}
use Rattle.bft_wire.specs.Spelling.{message_text}
use Rattle.bft_wire.proofs.codec.encode_into.Goals as goal

pub returns-clause-some : goal.returns-clause-some
returns-clause-some c =
    let text = message_text c.args.message.now in
    let fits : length text ≤ length c.args.out.now = omega (arith, c.size_of_message-size.ensures) in
    let size : c.size_of_message-size.result ≡ length text = omega (arith, c.size_of_message-size.ensures) in
    let written = c.write_message.ensures.1 c.args.out.now [] (λ _. (refl, refl)) fits in
    let same = c.write_message.ensures.0 in
    (size, omega arith, search rules)
