use Rattle.std.proofs.Common.{◌≡◌, ◌≤◌, ◌∙◌, List, [], ap, sym, subst, arith, length, length-append}
use Rattle.indexmap.specs.IndexSet.{insert_all}
use Rattle.request_pool.specs.Slots.{AreAmong}
use Rattle.request_pool.specs.Waiting.{ReqId, id_eq}
use Rattle.request_pool.proofs.SeenLemmas.{among_both, both_short, many_longer}
use Rattle.request_pool.proofs.window.index_anew.Goals as goal

pub add_all-requires-2 : goal.add_all-requires-2
add_all-requires-2 c =
    let first = many_longer c.as_slices.result.0.now c.clear.new.self in
    let none = ap length c.clear.ensures in
    let same = ap length c.add_all.ensures in
    let both = length-append c.as_slices.result.0.now c.as_slices.result.1.now in
    let all = ap length c.as_slices.ensures in
    omega (arith, first, none, same, both, all, c.requires)

pub returns-clause-among : goal.returns-clause-among
returns-clause-among c =
    subst (λ (s : List ReqId). AreAmong c.args.ids.now.items s)
    (sym (c.add_all-2.ensures ∙ ap (λ (s : List ReqId). insert_all id_eq s c.as_slices.result.1.now) (c.add_all.ensures ∙ ap (λ (s : List ReqId). insert_all id_eq s c.as_slices.result.0.now) c.clear.ensures)))
    (among_both c.as_slices.result.0.now c.as_slices.result.1.now c.args.ids.now.items c.as_slices.ensures)

pub returns-clause-few : goal.returns-clause-few
returns-clause-few c =
    let short = both_short c.as_slices.result.0.now c.as_slices.result.1.now c.args.ids.now.items c.as_slices.ensures in
    let same = ap length (c.add_all-2.ensures ∙ ap (λ (s : List ReqId). insert_all id_eq s c.as_slices.result.1.now) (c.add_all.ensures ∙ ap (λ (s : List ReqId). insert_all id_eq s c.as_slices.result.0.now) c.clear.ensures)) in
    omega (arith, short, same, c.requires)
