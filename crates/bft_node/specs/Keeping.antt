-- A deed that was made durable and told.
use Rattle.std.specs.Prelude.{◌≡◌, Bool, List, [], ◌∷◌, ◌++◌, map, IsTrue}
use Rattle.gate_log.specs.Disk.{State}
use Rattle.gate_log.specs.Runs.{Throughout}
use Rattle.signer_edge.specs.Accepts.{Accepts}
use Rattle.signer_edge.specs.Signing.{KeepsAccepted}
use Rattle.block_ledger.specs.Chains.{IsChain}
use Rattle.node_model.specs.Entries.{Deed, fact_of, stored_by}
use Rattle.bft_node.specs.Crashes.{Within}
use Rattle.bft_node.specs.Held.{with_deed}
use Rattle.bft_node.specs.Making.{done_of}
use Rattle.bft_node.specs.Stores.{config_of, held_of}
use Rattle.bft_node.specs.declared.live.Out.{Out}
use Rattle.bft_node.specs.declared.live.Running.{Running}

-- nothing but what is held changed
pub record StandsStill (old new : Running) : Type 0 where
  pub id : new.id ≡ old.id
  pub view : new.view ≡ old.view
  pub found : new.found ≡ old.found
  pub config : config_of new.store ≡ config_of old.store

-- the deed is held, and it was told
pub record Keeps (deed : Deed) (old new : Running) (before told : Out) : Type 0 where
  pub still : StandsStill old new
  pub held : held_of new.store ≡ with_deed deed (held_of old.store)
  pub facts : told.facts ≡ before.facts ++ fact_of deed ∷ []
  pub sends : told.sends ≡ before.sends
  pub done : told.done ≡ before.done ++ map done_of (stored_by deed)

-- Where the blocks held are a chain by what is accepted: at each moment every crash opens to what was held,
-- with this deed or without, for every judge who accepts at least this.
abbrev pub KeepsWithin : Deed → Running → Accepts → Bool → List State → List State → Type 0
KeepsWithin deed r accepts tells before after =
    (judge : Accepts) → KeepsAccepted accepts judge
    → IsChain accepts (config_of r.store) (held_of r.store).blocks
    → IsTrue tells
    → Throughout (Within judge (config_of r.store) (deed ∷ []) (held_of r.store)) before after
