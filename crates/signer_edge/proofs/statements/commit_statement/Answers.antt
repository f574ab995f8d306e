use Rattle.std.proofs.Common.{rules}
use Rattle.signer_edge.proofs.StatementFacts.{all-put}
use Rattle.signer_edge.proofs.statements.commit_statement.Goals as goal

pub returns : goal.returns
returns c =
    all-put c.args.config c.args.view c.args.number c.put.new.bytes c.put-2.new.bytes c.put-3.new.bytes c.put-4.new.bytes
    c.to_be_bytes.result c.to_be_bytes-2.result c.to_be_bytes-3.result c.args.hash.now
    c.to_be_bytes.ensures c.to_be_bytes-2.ensures c.to_be_bytes-3.ensures (search rules)
    c.put.ensures c.put-2.ensures c.put-3.ensures c.put-4.ensures
