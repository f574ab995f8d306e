-- Blocks, their hashes, and which block may come next in a chain.
use Rattle.std.specs.Prelude.{ℕ, ◌+◌, ◌^◌, Bool, true, false, ◌&&◌, ◌==◌, nat_lt, nat_le, List, [], ◌∷◌, length, sum_by, Option, Some, None}
use Rattle.std.specs.List.{list_all}
use Rattle.std.specs.Str.{bytes_eq}
pub use Rattle.ord_types.specs.declared.values.Block.{Block}
pub use Rattle.ord_types.specs.declared.values.Config.{Config}
pub use Rattle.ord_types.specs.declared.values.Header.{Header}
pub use Rattle.ord_types.specs.declared.values.Meta.{Meta}
pub use Rattle.ord_types.specs.declared.values.Mode.{Mode}
pub use Rattle.ord_types.specs.declared.values.ReqKind.{ReqKind}
pub use Rattle.ord_types.specs.declared.values.Request.{Request}
use Rattle.ord_types.specs.declared.values.Mode.TheVariants.{Normal, Maintenance}
use Rattle.ord_types.specs.declared.values.ReqKind.TheVariants.{Ordinary, Change}
use Rattle.ord_types.specs.Spelling.{request_text}
use Rattle.ord_types.specs.Hashes.{block_hash, content_hash, meta_hash}

-- the format has room for the requests: at most 1,000, each with a payload of at most 65,536 bytes
abbrev pub have_room : List Request → Bool
have_room requests = nat_le (length requests) 1000 && list_all (λ r. nat_le (length r.payload) 65536) requests

-- the format has room for the meta: at most 31 ids in each list
abbrev pub has_room : Meta → Bool
has_room m = nat_le (length m.blacklist) 31 && nat_le (length m.signers) 31

-- the requests have a spelling, and the header names its hash
abbrev pub content_fits : Block → Bool
content_fits b = have_room b.requests && bytes_eq b.header.content (content_hash b.requests)

-- the meta has a spelling, and the header names its hash
abbrev pub meta_fits : Block → Bool
meta_fits b = has_room b.meta && bytes_eq b.header.meta (meta_hash b.meta)

-- the header's hashes are those of what stands in the block
abbrev pub hashes_fit : Block → Bool
hashes_fit b = content_fits b && meta_fits b

-- the block has this number, for which the format has room: no number reaches 2^62
abbrev pub has_number : ℕ → Block → Bool
has_number number b = (b.header.number == number) && nat_lt number (2 ^ 62)

-- the block has this number, and names this hash of the block before
abbrev pub is_linked : List ℕ → ℕ → Block → Bool
is_linked last number b = has_number number b && bytes_eq b.header.previous last && hashes_fit b

-- the second block comes next after the first
abbrev pub follows_block : Block → Block → Bool
follows_block before next = is_linked (block_hash before) (before.header.number + 1) next

abbrev pub is_ordinary_kind : ReqKind → Bool
is_ordinary_kind Ordinary = true
is_ordinary_kind Change = false

-- no change of the configuration
abbrev pub is_ordinary : Request → Bool
is_ordinary r = is_ordinary_kind r.kind

abbrev pub is_normal_mode : Mode → Bool
is_normal_mode Normal = true
is_normal_mode Maintenance = false

-- ordinary requests are ordered
abbrev pub is_normal : Config → Bool
is_normal c = is_normal_mode c.mode

-- how many bytes the spelled requests have together
abbrev pub total_size : List Request → ℕ
total_size requests = sum_by (λ r. length (request_text r)) requests

-- Which requests may stand in a block under a configuration (Fabric's orderer): at least one, none that is an
-- ordinary one in maintenance mode, none too large, and together not above the bound `absolute`. That none is
-- above the bound follows, since their lengths add up to no more. No change request is ordered yet.
abbrev pub are_lawful : Config → List Request → Bool
are_lawful c requests =
    nat_lt 0 (length requests) && (list_all is_ordinary requests && (is_normal c && nat_le (total_size requests) c.batch.absolute))

-- lawful under the configuration in force: the block names it, and its requests are lawful
abbrev pub is_lawful : Config → Block → Bool
is_lawful c b = (b.meta.config == c.number) && are_lawful c b.requests

-- the block may come next in a chain: after a block of this hash, at this number, under this configuration
abbrev pub is_next_at : List ℕ → ℕ → Config → Block → Bool
is_next_at last number c b = is_linked last number b && is_lawful c b

-- the configuration that a block's requests carry: none, since a change request is in no lawful block yet
unfoldable pub change_in : List Request → Option Config
change_in requests = None

-- the configuration after a block
abbrev pub config_or : Config → Option Config → Config
config_or old None = old
config_or old (Some new) = new

-- the configuration in force after these blocks: the one that the last change among them carries, or the first one
abbrev pub config_at : Config → List Block → Config
config_at c [] = c
config_at c (b ∷ bs) = config_at (config_or c (change_in b.requests)) bs
