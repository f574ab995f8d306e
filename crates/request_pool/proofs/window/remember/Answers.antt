use Rattle.std.proofs.Common.{◌≡◌, ℕ, ◌∙◌, List, [], ◌∷◌, ◌++◌, ap, sym, subst}
use Rattle.circular_buffer.specs.Buffer.{Buffer, keep_last}
use Rattle.indexmap.specs.IndexSet.{insert_key}
use Rattle.request_pool.specs.Slots.{AreAmong}
use Rattle.request_pool.specs.Waiting.{ReqId, id_eq}
use Rattle.request_pool.proofs.SeenLemmas.{among_last}
use Rattle.request_pool.proofs.window.remember.Goals as goal

pub returns-clause-items : goal.returns-clause-items
returns-clause-items c =
    ap (λ (b : Buffer ReqId). b.items) c.push_back.ensures.items
    ∙ ap (λ (n : ℕ). keep_last n (c.args.ids.now.items ++ c.args.id.now ∷ [])) c.requires.capacity

pub returns-clause-capacity : goal.returns-clause-capacity
returns-clause-capacity c = ap (λ (b : Buffer ReqId). b.capacity) c.push_back.ensures.items ∙ c.requires.capacity

pub returns-clause-among : goal.returns-clause-among
returns-clause-among c =
    let items = ap (λ (b : Buffer ReqId). b.items) c.push_back.ensures.items
    ∙ ap (λ (n : ℕ). keep_last n (c.args.ids.now.items ++ c.args.id.now ∷ [])) c.requires.capacity in
    subst (λ (s : List ReqId). AreAmong c.push_back.new.self.items s) (sym c.add.ensures)
    (subst (λ (l : List ReqId). AreAmong l (insert_key id_eq c.make_room.new.seen c.args.id.now)) (sym items)
    (among_last 1000 c.args.ids.now.items c.make_room.new.seen c.args.id.now c.make_room.ensures.among))
