-- A block that may come next has lengths that fit the fields that tell them.
use Rattle.std.proofs.Common.{◌≡◌, ℕ, true, ◌&&◌, List, [], ◌∷◌, length, arith}
use Rattle.std.specs.Prelude.{nat_le}
use Rattle.std.specs.List.{All, list_all}
use Rattle.std.specs.Str.{bytes_eq}
use Rattle.std.proofs.lemmas.Bool.{and_parts, leb-true}
use Rattle.std.proofs.lemmas.List.Elements.{All-nil, All-cons}
use Rattle.ord_types.specs.Lengths.{FitsBlock, FitsMeta, FitsRequest, FitsRequests}
use Rattle.ord_types.specs.Hashes.{content_hash, meta_hash}
use Rattle.chan_config.specs.Blocks.{Block, Config, Meta, Request, content_fits, has_number, has_room, hashes_fit, have_room, is_lawful, is_linked, is_next_at, meta_fits}

short_requests : (rs : List Request) → list_all (λ r. nat_le (length r.payload) 65536) rs ≡ true → All FitsRequest rs
short_requests [] h = All-nil FitsRequest
short_requests (r ∷ rs) h =
    let p = and_parts (nat_le (length r.payload) 65536) (list_all (λ r. nat_le (length r.payload) 65536) rs) h in
    let short = leb-true (length r.payload) 65536 p.0 in
    All-cons FitsRequest r rs (omega arith) (short_requests rs p.1)

pub requests_fit : (rs : List Request) → have_room rs ≡ true → FitsRequests rs
requests_fit rs h =
    let p = and_parts (nat_le (length rs) 1000) (list_all (λ r. nat_le (length r.payload) 65536) rs) h in
    let few = leb-true (length rs) 1000 p.0 in
    record { count = omega arith; requests = short_requests rs p.1 }

pub meta_fits_room : (m : Meta) → has_room m ≡ true → FitsMeta m
meta_fits_room m h =
    let p = and_parts (nat_le (length m.blacklist) 31) (nat_le (length m.signers) 31) h in
    let few = leb-true (length m.blacklist) 31 p.0 in
    let fewer = leb-true (length m.signers) 31 p.1 in
    record { blacklist = omega arith; signers = omega arith }

pub next_fits : (last : List ℕ) (number : ℕ) (c : Config) (b : Block) → is_next_at last number c b ≡ true → FitsBlock b
next_fits last number c b h =
    let linked = and_parts (is_linked last number b) (is_lawful c b) h in
    let hashes = and_parts (has_number number b && bytes_eq b.header.previous last) (hashes_fit b) linked.0 in
    let both = and_parts (content_fits b) (meta_fits b) hashes.1 in
    let content = and_parts (have_room b.requests) (bytes_eq b.header.content (content_hash b.requests)) both.0 in
    let meta = and_parts (has_room b.meta) (bytes_eq b.header.meta (meta_hash b.meta)) both.1 in
    record { requests = requests_fit b.requests content.0; meta = meta_fits_room b.meta meta.0 }
