use Rattle.std.proofs.Common.{◌≡◌, ℕ, List, [], ◌∷◌, length, Ok, Err, sym, ap, ◌∙◌, arith}
use Rattle.ord_types.specs.Reading.{request_at}
use Rattle.chan_config.specs.Blocks.{Request}
use Rattle.chan_config.proofs.ReadingLaws.{read_all, read_flawed, read_spelled, read_trailing}
use Rattle.chan_config.proofs.borrowed.BorrowedRequest.read.Goals as goal

none_left : (bytes rest : List ℕ) (r : Request) → request_at bytes ≡ Ok (r, rest) → length rest ≡ 0 → request_at bytes ≡ Ok (r, [])
none_left bytes [] r e none = e
none_left bytes (b ∷ rest) r e none = absurd (omega (arith, none))

pub returns-then-is_empty-clause-exact : goal.returns-then-is_empty-clause-exact
returns-then-is_empty-clause-exact c = sym (read_all c.args.bytes.now c.in-Ok.rest.now c.in-Ok.request c.in-Ok.ensures.read (grind (arith, c.is_empty.ensures, c.if-is_empty.true)))

pub returns-then-is_empty-clause-spelled : goal.returns-then-is_empty-clause-spelled
returns-then-is_empty-clause-spelled c =
    read_spelled c.args.bytes.now c.in-Ok.request (λ i. omega (arith, c.type_inv.bytes i)) (none_left c.args.bytes.now c.in-Ok.rest.now c.in-Ok.request c.in-Ok.ensures.read (grind (arith, c.is_empty.ensures, c.if-is_empty.true)))

pub returns-else-is_empty-clause-exact : goal.returns-else-is_empty-clause-exact
returns-else-is_empty-clause-exact c =
    ap (λ n. Err n) (omega (arith, c.saturating_sub.ensures))
    ∙ sym (read_trailing c.args.bytes.now c.in-Ok.rest.now c.in-Ok.request c.in-Ok.ensures.read (λ none. grind (arith, none, c.is_empty.ensures, c.if-is_empty.false)))

pub returns-in-Err-clause-exact : goal.returns-in-Err-clause-exact
returns-in-Err-clause-exact c = ap (λ n. Err n) c.place_of.ensures ∙ sym (read_flawed c.args.bytes.now c.in-Err.flaw c.in-Err.ensures.flaw)
