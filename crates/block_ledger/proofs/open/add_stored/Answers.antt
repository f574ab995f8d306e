use Rattle.std.proofs.Common.{◌∙◌, sym, ap, Some}
use Rattle.block_ledger.proofs.Refusing.{has_room_for}
use Rattle.block_ledger.proofs.Storing.{fault_stored, grammar_told, height_is, is_added}
use Rattle.block_ledger.proofs.open.add_stored.Goals as goal

pub next_refusal-requires : goal.next_refusal-requires
next_refusal-requires g c = c.args.blocks.now.in_order.bounds

pub add-requires-clause-room : goal.add-requires-clause-room
add-requires-clause-room g c =
    has_room_for (g.V.Verifier.accepts c.args.verifier.now) c.args.blocks.now.place c.in-Ok.entry (sym c.in_ok-refusal.ensures.refusal ∙ c.in_default.is)

pub returns-in-Err-clause-added : goal.returns-in-Err-clause-added
returns-in-Err-clause-added g c =
    let accepts = g.V.Verifier.accepts c.args.verifier.now in
    let blocks = c.args.blocks.now in
    grammar_told accepts blocks.place.config blocks.chain blocks.place.height _ c.in-Err.fault (height_is accepts blocks.chain blocks.place blocks.in_order) c.in-Err.ensures

pub returns-in-Some-clause-added : goal.returns-in-Some-clause-added
returns-in-Some-clause-added g c =
    let accepts = g.V.Verifier.accepts c.args.verifier.now in
    let blocks = c.args.blocks.now in
    let told = fault_stored accepts blocks.chain blocks.place c.args.bytes.now c.in-Ok.entry c.in-Some.refusal blocks.in_order c.in-Ok.ensures.read (sym c.in-Some.is ∙ c.in_ok-refusal.ensures.refusal) in
    (height_is accepts blocks.chain blocks.place blocks.in_order, told ∙ ap Some (sym c.stored_why.ensures))

pub returns-clause-added : goal.returns-clause-added
returns-clause-added g c =
    let accepts = g.V.Verifier.accepts c.args.verifier.now in
    let blocks = c.args.blocks.now in
    is_added accepts blocks.chain blocks.place c.args.bytes.now c.in-Ok.entry c.add.new.self.chain blocks.in_order c.in-Ok.ensures (sym c.in_default.is ∙ c.in_ok-refusal.ensures.refusal) c.in_ok-add.ensures.ok
