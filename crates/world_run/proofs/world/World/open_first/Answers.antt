use Rattle.std.proofs.Common.{◌≡◌, ◌≤◌, ◌<◌, ◌∙◌, ap, arith, get_or, length, List, ℕ, sym}
use Rattle.ord_types.specs.Members.{is_in}
use Rattle.safety_model.specs.Blocks.{Config}
use Rattle.world_run.proofs.FirstLemmas.{first_sound, first_unarmed, first_value, has_more, has_skipped}
use Rattle.world_run.proofs.world.World.open_first.Goals.{then-not-contains+in_ok-open_member, else-not-contains}
use Rattle.world_run.proofs.world.World.open_first.Goals as goal

pub loop-place-preserved : goal.loop-place-preserved
loop-place-preserved g c =
    let before = g.N.Nodes.at c.args.nodes.now in
    let at = g.N.Nodes.at c.loop-place.nodes in
    let old = c.args.self.now in
    let w = c.loop-place.self in
    let k = c.loop-place.place in
    let so_far = c.loop-place.invariant in
    let id = get_or c.as_slice.result.now k 0 in
    let within : k < length old.config.members = omega (arith, c.loop-place-test.true, c.len-place-end.ensures) in
    let is : id ≡ get_or old.config.members k 0 = ap (λ (xs : List ℕ). get_or xs k 0) (c.as_slice.ensures ∙ ap (λ (d : Config). d.members) so_far.config) in
    let found = c.contains.ensures.value ∙ ap (is_in id) (c.as_slice-in-loop-place.ensures ∙ so_far.byzantine) in
    elim c.if-not-contains.branch [
      | then-not-contains+in_ok-open_member r ↦
          rw (r.self-is, r.nodes-is)
          (has_more c.nodes_are_found.ensures.empty before at (g.N.Nodes.at r.open_member.new.nodes) old w r.open_member.new.self k id
          c.requires.config c.requires.ids.ascending within is (sym found ∙ r.if-not-contains.true) r.in_ok-open_member.ensures so_far)
      | else-not-contains r ↦ rw (r.self-is, r.nodes-is) (has_skipped before at old w k id within is (sym found ∙ r.if-not-contains.false) so_far)
    ]

pub returns-clause-sound : goal.returns-clause-sound
returns-clause-sound g c =
    let all : length c.args.self.now.config.members ≤ c.loop-place.place = omega (arith, c.loop-place-test.false, c.len-place-end.ensures) in
    first_sound (g.N.Nodes.at c.args.nodes.now) (g.N.Nodes.at c.loop-place.nodes) c.args.self.now c.loop-place.self c.loop-place.place all c.loop-place.invariant
    c.requires.config c.requires.ids.ascending

pub returns-clause-unarmed : goal.returns-clause-unarmed
returns-clause-unarmed g c =
    let all : length c.args.self.now.config.members ≤ c.loop-place.place = omega (arith, c.loop-place-test.false, c.len-place-end.ensures) in
    first_unarmed (g.N.Nodes.at c.args.nodes.now) (g.N.Nodes.at c.loop-place.nodes) c.args.self.now c.loop-place.self c.loop-place.place all c.loop-place.invariant

pub returns-clause-value : goal.returns-clause-value
returns-clause-value g c =
    let all : length c.args.self.now.config.members ≤ c.loop-place.place = omega (arith, c.loop-place-test.false, c.len-place-end.ensures) in
    first_value (g.N.Nodes.at c.args.nodes.now) (g.N.Nodes.at c.loop-place.nodes) c.args.self.now c.loop-place.self c.loop-place.place all c.loop-place.invariant
