-- The lines that a world prints.
use Rattle.std.specs.Prelude.{ℕ, List, [], ◌∷◌, ◌++◌, length, codes, decimal}
use Rattle.std.specs.List.{flat_map}
use Rattle.hex.specs.Hex.{encode_lower}
use Rattle.ord_types.specs.Hashes.{block_hash}
use Rattle.ord_types.specs.declared.values.Proof.{Proof}
use Rattle.ord_types.specs.declared.values.Proof.TheVariants as proof_of
use Rattle.ord_types.specs.declared.values.ReqId.{ReqId}
use Rattle.safety_model.specs.Blocks.{Block, Request}
use Rattle.safety_model.specs.Facts.{signers_of}
use Rattle.safety_model.specs.declared.fact.Fact.{Fact}
use Rattle.safety_model.specs.declared.fact.Fact.TheVariants.{Delivered}
use Rattle.node_model.specs.Cores.{Core}
use Rattle.world_model.specs.Pools.{Answer, Admitted, Malformed, KnownPending}
use Rattle.world_model.specs.Worlds.{Node}

unfoldable pub genesis_text : ℕ → List ℕ
genesis_text number = decimal number ++ codes " genesis\n"

unfoldable pub tick_text : ℕ → ℕ → List ℕ
tick_text number node = decimal number ++ codes " tick " ++ decimal node ++ codes "\n"

unfoldable pub deliver_text : ℕ → ℕ → List ℕ
deliver_text number count = decimal number ++ codes " deliver " ++ decimal count ++ codes "\n"

unfoldable pub flush_text : ℕ → ℕ → List ℕ
flush_text number count = decimal number ++ codes " flush " ++ decimal count ++ codes "\n"

unfoldable pub refused_text : ℕ → List ℕ → List ℕ
refused_text number reason = decimal number ++ codes " refused " ++ reason ++ codes "\n"

unfoldable pub limit_text : ℕ → ℕ → List ℕ
limit_text number limit = decimal number ++ codes " limit " ++ decimal limit ++ codes "\n"

-- a node is stopped, by a line or by its disk
unfoldable pub stopped_text : ℕ → ℕ → List ℕ
stopped_text number node = decimal number ++ codes " stopped " ++ decimal node ++ codes "\n"

unfoldable pub stop_at_text : ℕ → ℕ → List ℕ
stop_at_text number node = decimal number ++ codes " stop-at " ++ decimal node ++ codes "\n"

unfoldable pub start_text : ℕ → ℕ → List ℕ
start_text number node = decimal number ++ codes " start " ++ decimal node ++ codes "\n"

-- the line of what a Byzantine member sent: its first word, and the number of the entry
unfoldable pub lied_text : ℕ → List ℕ → ℕ → List ℕ
lied_text number word sent = decimal number ++ codes " " ++ word ++ codes " " ++ decimal sent ++ codes "\n"

-- the place of a seal
unfoldable pub seal_text : ℕ → ℕ → List ℕ
seal_text number place = decimal number ++ codes " seal " ++ decimal place ++ codes "\n"

-- the lines of `submit` and `raw` tell the node and its pool's answer

unfoldable pub admitted_text : ℕ → List ℕ → ℕ → List ℕ
admitted_text number word node =
    decimal number ++ codes " " ++ word ++ codes " " ++ decimal node ++ codes " admitted\n"

unfoldable pub malformed_text : ℕ → List ℕ → ℕ → ℕ → List ℕ
malformed_text number word node at =
    decimal number ++ codes " " ++ word ++ codes " " ++ decimal node ++ codes " malformed grammar "
    ++ decimal at ++ codes "\n"

unfoldable pub pending_text : ℕ → List ℕ → ℕ → List ℕ
pending_text number word node =
    decimal number ++ codes " " ++ word ++ codes " " ++ decimal node ++ codes " known pending\n"

-- the pool's answer
abbrev pub answer_text : ℕ → List ℕ → ℕ → Answer → List ℕ
answer_text number word node Admitted = admitted_text number word node
answer_text number word node (Malformed at) = malformed_text number word node at
answer_text number word node KnownPending = pending_text number word node

-- ids joined by commas
abbrev pub ids_joined : List ℕ → List ℕ
ids_joined [] = []
ids_joined (id ∷ ids) = decimal id ++ flat_map (λ other. codes "," ++ decimal other) ids

unfoldable pub id_text : ReqId → List ℕ
id_text id = decimal id.client ++ codes ":" ++ decimal id.serial

-- the id of the first request
abbrev pub first_id_text : List Request → List ℕ
first_id_text [] = []
first_id_text (r ∷ rs) = id_text r.id

-- the front of a block line: node, number, configuration
unfoldable pub block_front_text : ℕ → ℕ → Block → List ℕ
block_front_text number node b =
    decimal number ++ codes " block " ++ decimal node ++ codes " " ++ decimal b.header.number
    ++ codes " config " ++ decimal b.meta.config

-- how the block was ordered
unfoldable pub view_text : ℕ → List ℕ
view_text view = codes " view " ++ decimal view

unfoldable pub raft_text : List ℕ
raft_text = codes " raft"

unfoldable pub requests_count_text : ℕ → List ℕ
requests_count_text count = codes " requests " ++ decimal count ++ codes " first "

abbrev pub order_text : Proof → List ℕ
order_text proof_of.Raft = raft_text
order_text (proof_of.Bft cert) = view_text cert.view

unfoldable pub signers_front : List ℕ
signers_front = codes " signers "

abbrev pub signers_text : Proof → List ℕ
signers_text proof_of.Raft = []
signers_text (proof_of.Bft cert) = signers_front ++ ids_joined (signers_of cert)

unfoldable pub line_end : List ℕ
line_end = codes "\n"

-- what is told of a block
abbrev pub block_told : ℕ → ℕ → Block → Proof → List ℕ
block_told number node b proof =
    block_front_text number node b ++ order_text proof ++ requests_count_text (length b.requests)
    ++ first_id_text b.requests ++ signers_text proof

-- the line of a delivered block
abbrev pub block_text : ℕ → ℕ → Block → Proof → List ℕ
block_text number node b proof = block_told number node b proof ++ line_end

unfoldable pub hash_front : List ℕ
hash_front = codes " hash "

-- the line of a block that is shown: its hash stands at the end, in hex
abbrev pub show_text : ℕ → ℕ → Block → Proof → List ℕ
show_text number node b proof =
    block_told number node b proof ++ hash_front ++ encode_lower (block_hash b) ++ line_end

-- a block line for each delivery
abbrev pub fact_text : ℕ → Fact → List ℕ
fact_text number (Delivered i b proof) = block_text number i b proof
fact_text number _ = []

unfoldable pub node_text : ℕ → ℕ → ℕ → ℕ → ℕ → List ℕ
node_text id height config view left =
    codes "node " ++ decimal id ++ codes " height " ++ decimal height ++ codes " config " ++ decimal config
    ++ codes " view " ++ decimal view ++ codes " left " ++ decimal left ++ codes "\n"

-- the closing line of a stopped node
unfoldable pub closed_text : ℕ → List ℕ
closed_text id = codes "node " ++ decimal id ++ codes " stopped\n"

-- the closing line of a Byzantine member
unfoldable pub byzantine_text : ℕ → List ℕ
byzantine_text id = codes "node " ++ decimal id ++ codes " byzantine\n"

unfoldable pub sent_text : ℕ → List ℕ
sent_text count = codes "sent " ++ decimal count ++ codes "\n"

-- the closing line of a node: E is the configuration in force, V the view entered, L the greatest left for
abbrev pub closing_line : {S : Type 0} → (S → Core) → Node S → List ℕ
closing_line look node =
    let core : Core = look node.state in
    node_text node.id core.place.height core.place.config.number core.view.view core.view.left
