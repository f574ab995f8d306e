use Rattle.std.proofs.Common.{ℕ, get_or, arith, subst}
use Rattle.gate_log.specs.Renew.{HasHead}
use Rattle.gate_log.proofs.Torn.{short_head, has_head}
use Rattle.gate_log.proofs.head.head_of.Goals as goal

pub returns-then-same_front-lt8 : goal.returns-then-same_front-lt8
returns-then-same_front-lt8 c = short_head c.args.bytes.now c.requires (omega arith)

pub returns-then-bytes-eq0 : goal.returns-then-bytes-eq0
returns-then-bytes-eq0 c = subst (λ (g : ℕ). HasHead g c.args.bytes.now) c.if-bytes-eq0.true (has_head c.args.bytes.now (omega arith) (omega arith))

pub returns-else-bytes-eq9 : goal.returns-else-bytes-eq9
returns-else-bytes-eq9 c = record {
  gate = get_or c.args.bytes.now 8 0;
  is_open = c.if-bytes-eq0.false;
  has = has_head c.args.bytes.now (omega arith) (omega arith);
}
