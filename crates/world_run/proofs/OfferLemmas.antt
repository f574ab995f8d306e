-- Lemmas on what a pool offers at a tick.
use Rattle.std.proofs.Common.{◌≡◌, ℕ, ◌↔◌, get_or, Bool, true, false, cond, [], Some, IsTrue, refl, sym, ap, ◌∙◌, subst}
use Rattle.std.specs.Option.{option_map}
use Rattle.std.specs.Prelude.{slice_get}
use Rattle.std.proofs.lemmas.Option.{same_Some}
use Rattle.view_model.specs.Acts.{may_propose}
use Rattle.world_model.specs.Cores.{core_keeping}
use Rattle.world_model.specs.Pools.{offer}
use Rattle.world_model.specs.Worlds as worlds
use Rattle.bft_node.specs.Lodgings.{Lodging}
use Rattle.bft_node.specs.Running.{place_of}
use Rattle.bft_node.specs.declared.lodged.Lodged.{Lodged}
use Rattle.bft_node.specs.declared.member.Node.{Node}
use Rattle.world_run.specs.Members.{node_of}
use Rattle.world_run.specs.Sound.{IsSound}
use Rattle.world_run.specs.declared.member.Member.{Member}
use Rattle.world_run.specs.declared.world.World.{World}
use Rattle.world_run.proofs.CrashLemmas.{read_is}
use Rattle.world_run.proofs.NodeLemmas.{member_at, node_there}

-- where one of two conditions holds, the answer is the other
same_test : (told other : Bool) (C : Type 0) → (IsTrue told ↔ (C × IsTrue other)) → C → other ≡ told
same_test true other C tells holds = (tells.0 refl).1
same_test false true C tells holds = absurd (let e = tells.1 (holds, refl) in cc)
same_test false false C tells holds = refl

-- what is offered to a node that may propose or may not
of_read : (at : Lodging) (w : World) (place : ℕ) (read : Member) (node : Node) (told : Bool) → IsSound at w → slice_get w.members.items place ≡ Some read → option_map (λ (l : Lodged). l.node) (at read.id) ≡ Some node
    → (IsTrue told ↔ ((node.closed ≡ false) × IsTrue (may_propose (place_of node.running) node.running.view)))
    → worlds.offer_to core_keeping (node_of w.config at read) ≡ cond told (offer read.pool.items) []
of_read at w place read node told sound has is tells =
    let here = member_at at w place read sound has in
    let same : here.node.node ≡ node = same_Some here.node.node node (sym (ap (option_map (λ (l : Lodged). l.node)) here.there) ∙ is) in
    let runs : node.closed ≡ false = subst (λ (n : Node). n.closed ≡ false) same here.seated.runs in
    ap (worlds.offer_to core_keeping) (node_there w.config at read here.node here.there)
    ∙ ap (λ (n : Node). cond (may_propose (place_of n.running) n.running.view) (offer read.pool.items) []) same
    ∙ ap (λ (b : Bool). cond b (offer read.pool.items) []) (same_test told (may_propose (place_of node.running) node.running.view) (node.closed ≡ false) tells runs)

pub offered : (at : Lodging) (w : World) (place : ℕ) (member read : Member) (node : Node) (told : Bool) → IsSound at w → slice_get w.members.items place ≡ Some member → read ≡ get_or w.members.items place read
    → option_map (λ (l : Lodged). l.node) (at read.id) ≡ Some node → (IsTrue told ↔ ((node.closed ≡ false) × IsTrue (may_propose (place_of node.running) node.running.view)))
    → cond told (offer read.pool.items) [] ≡ worlds.offer_to core_keeping (node_of w.config at member)
offered at w place member read node told sound has read_there is tells =
    let same = read_is w.members.items place member read has read_there in
    sym (of_read at w place read node told sound (has ∙ ap (λ (m : Member). Some m) (sym same)) is tells) ∙ ap (λ (m : Member). worlds.offer_to core_keeping (node_of w.config at m)) same
