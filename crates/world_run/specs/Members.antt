-- What a node of the code stands for, and what it keeps true.
use Rattle.std.specs.Prelude.{◌≡◌, ℕ, false, List, [], Option, Some, None}
use Rattle.ord_types.specs.declared.values.Proof.{Proof}
use Rattle.safety_model.specs.Blocks.{Block, Config}
use Rattle.signer_edge.specs.Accepts.{Accepts}
use Rattle.node_model.specs.Cores.{Core, core_on}
use Rattle.world_model.specs.Worlds as worlds
use Rattle.bft_node.specs.Lodgings.{HoldsIn, Lodging}
use Rattle.bft_node.specs.Running.{chain_of, state_of}
use Rattle.bft_node.specs.Stores.{config_of}
use Rattle.bft_node.specs.declared.lodged.Lodged.{Lodged}
use Rattle.world_run.specs.declared.member.Member.{Member}

-- what stands under an id; where nothing does, a node that has done nothing
abbrev pub state_in : Config → ℕ → Option Lodged → Core
state_in c id None = core_on c id
state_in c id (Some l) = state_of l.node.running

abbrev pub ledger_in : Option Lodged → List (Block × Proof)
ledger_in None = []
ledger_in (Some l) = chain_of l.node.running

abbrev pub node_of : Config → Lodging → Member → worlds.Node Core
node_of c at member =
    record {
      id = member.id;
      state = state_in c member.id (at member.id);
      pool = member.pool.items;
      ledger = ledger_in (at member.id);
      runs = member.runs;
      armed = member.armed;
    }

-- A node of this id and chain runs, and holds on its disk what it did, by what is accepted.
pub record IsSeated (c : Config) (accepts : Accepts) (id : ℕ) (l : Lodged) : Type 0 where
  pub runs : l.node.closed ≡ false
  pub named : l.node.running.id ≡ id
  pub config : config_of l.node.running.store ≡ c
  pub holds : HoldsIn accepts l

-- such a node stands under the id of the member
pub record IsMember (c : Config) (accepts : Accepts) (at : Lodging) (member : Member) : Type 0 where
  pub node : Lodged
  pub there : at member.id ≡ Some node
  pub seated : IsSeated c accepts member.id node
