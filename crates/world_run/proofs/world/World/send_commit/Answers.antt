use Rattle.std.proofs.Common.{ap, codes, length, List, ℕ, ◌∙◌}
use Rattle.std.specs.Prelude.{string_bytes}
use Rattle.ord_types.specs.declared.values.Sig.{Sig}
use Rattle.bft_wire.specs.Spelling.{message_text}
use Rattle.world_model.specs.Liars.{sends, sig_at, with_signed}
use Rattle.world_run.specs.Lying.{commit_of, statement_of}
use Rattle.world_run.specs.Mapped.{Model, world_of}
use Rattle.world_run.proofs.LiarLemmas.{sends_equal}
use Rattle.world_run.proofs.SaysLemmas.{says_after}
use Rattle.world_run.proofs.world.World.send_commit.Goals as goal

pub returns-clause-says : goal.returns-clause-says
returns-clause-says c =
    let w = c.args.self.now in
    let signed = c.in_ok-sig.ensures in
    says_after c.send.result w c.sign.new.self c.send.new.self (λ (v : Model). sends c.sign.new.self.outside.number (codes "byz-vote") v c.args.from c.args.to c.in_ok-bytes.bytes)
    (λ (v : Model). sends w.outside.number (codes "byz-vote") (with_signed v c.args.from (statement_of c.args.subject c.args.view)) c.args.from c.args.to
    (message_text (commit_of c.args.subject c.args.view (sig_at c.args.from (length v.seals)))))
    (ap string_bytes signed.text)
    (λ at later.
    sends_equal w.outside.number c.sign.new.self.outside.number (codes "byz-vote") c.in_ok-bytes.bytes
    (message_text (commit_of c.args.subject c.args.view (sig_at c.args.from (length w.outside.seat.seals))))
    (with_signed (world_of at w later) c.args.from (statement_of c.args.subject c.args.view)) (world_of at c.sign.new.self later) c.args.from c.args.to
    signed.keeps.number
    (signed.world at later ∙ ap (λ (statement : List ℕ). with_signed (world_of at w later) c.args.from statement) c.commit_statement-statement.ensures)
    (c.in_ok-bytes.ensures ∙ ap (λ (sig : Sig). message_text (commit_of c.args.subject c.args.view sig)) signed.sig))
    c.send.ensures.says
