-- The hashes of a block: SHA-256 (FIPS 180-4) of spelled values.
use Rattle.std.specs.Prelude.{ℕ, List}
use Rattle.sha2.specs.Sha256.{sha256}
use Rattle.ord_types.specs.Spelling.{Block, Header, Meta, Request, header_text, meta_text, requests_text}

-- of the header's 104 bytes
unfoldable pub header_hash : Header → List ℕ
header_hash h = sha256 (header_text h)

-- of the spelled requests
unfoldable pub content_hash : List Request → List ℕ
content_hash requests = sha256 (requests_text requests)

-- of the spelled meta
unfoldable pub meta_hash : Meta → List ℕ
meta_hash m = sha256 (meta_text m)

-- a block is named by the hash of its header
abbrev pub block_hash : Block → List ℕ
block_hash b = header_hash b.header
