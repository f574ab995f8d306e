use Rattle.std.proofs.Common.{◌≡◌, ℕ, ◌+◌, ◌≤◌, List, [], ◌∷◌, ◌++◌, length, drop, sym, ◌∙◌, ap, arith, length-drop}
use Rattle.std.proofs.lemmas.List.{take_rest}
use Rattle.gate_log.specs.Format.{entry_length}
use Rattle.gate_log.proofs.Fronts.{onto}
use Rattle.gate_log.proofs.Parsing.{begun, broken, ended, next, from_here}
use Rattle.gate_log.proofs.parse.read_entries.Goals as goal

pub loop-at-init : goal.loop-at-init
loop-at-init c = (omega arith, rw c.new-entries.ensures (begun c.args.bytes.now))

pub returns-in_default : goal.returns-in_default
returns-in_default c =
    let short = rw (take_rest c.args.bytes.now (c.loop-at.at + 1)) at c.in_default.ensures in
    broken _ c.args.bytes.now c.loop-at.at c.loop-at.entries c.loop-at.invariant.0 c.loop-at-test.true short c.loop-at.invariant.1

pub loop-at-preserved : goal.loop-at-preserved
loop-at-preserved c =
    let found = rw (take_rest c.args.bytes.now (c.loop-at.at + 1)) at c.in-Some.ensures in
    let rest = drop (c.loop-at.at + 1) c.args.bytes.now in
    let size : length c.in-Some.entry.now ≡ entry_length rest = found.2 in
    let long : 5 + entry_length rest ≤ length rest = found.1 in
    let entries : c.push.new.self ≡ c.loop-at.entries ++ c.in-Some.entry.now ∷ [] = c.in_ok-push.ensures.ok ∙ ap (λ (e : List ℕ). c.loop-at.entries ++ e ∷ []) c.in_ok-from_slice.ensures in (
      omega (arith, size, long, length-drop (c.loop-at.at + 1) c.args.bytes.now),
      next _ c.args.bytes.now c.loop-at.at c.loop-at.entries c.in-Some.entry.now (c.loop-at.at + (5 + length c.in-Some.entry.now)) c.loop-at.invariant.0 c.loop-at-test.true long found.0
          (ap (λ (n : ℕ). c.loop-at.at + (5 + n)) size) c.loop-at.invariant.1
          ∙ ap (λ (es : List (List ℕ)). onto es (from_here (c.loop-at.at + (5 + length c.in-Some.entry.now)) c.args.bytes.now)) (sym entries),
    )

pub returns : goal.returns
returns c = ended _ c.args.bytes.now c.loop-at.at c.loop-at.entries c.loop-at.invariant.0 c.loop-at-test.false c.loop-at.invariant.1
