-- How long the texts of records are.
use Rattle.std.proofs.Common.{◌≡◌, ℕ, ◌+◌, ◌*◌, ◌<◌, ◌≤◌, ◌^◌, List, [], ◌∷◌, ◌++◌, length, Option, Some, None, IfSome, arith, length-append, ap}
use Rattle.std.specs.Int.{w8, w32, w64, to_be_bytes}
use Rattle.std.specs.List.{AllByRecursion, flat_map}
use Rattle.std.proofs.lemmas.List.Concat.{flat_map-cons}
use Rattle.ord_types.specs.Grammar.{HasBlockSpelling, HasRequestSpelling, HasVoteSpelling}
use Rattle.ord_types.specs.Spelling.{block_text, option_text, request_text, vote_text}
use Rattle.ord_types.specs.declared.values.Block.{Block}
use Rattle.ord_types.specs.declared.values.Request.{Request}
use Rattle.ord_types.specs.declared.values.Vote.{Vote}
use Rattle.ord_types.proofs.Fitting.{fits_block}
use Rattle.bft_wal.specs.Records.{FitsRecord, HasRecordSpelling, WalRecord, record_text}
use Rattle.bft_wal.specs.declared.record.WalRecord.TheVariants as record_of

-- a record that has a spelling has lengths that fit their fields
pub fits_record : (r : WalRecord) → HasRecordSpelling r → FitsRecord r
fits_record (record_of.Accepted config view number block) h = fits_block block h.3
fits_record (record_of.Prepared config view number digest) h = tt
fits_record (record_of.Left config view) h = tt
fits_record (record_of.Entered config view number carried) h = tt
fits_record (record_of.Voted term candidate) h = tt
fits_record (record_of.Tail term number block) h = fits_block block h.2

request_size : (r : Request) → HasRequestSpelling r → length (request_text r) ≤ 65553
request_size r h = simp length-append (omega (arith, h.size))

requests_size : (rs : List Request) → AllByRecursion HasRequestSpelling rs → length (flat_map request_text rs) ≤ 65553 * length rs
requests_size [] h = omega arith
requests_size (r ∷ rs) h = omega (arith, request_size r h.0, requests_size rs h.1, ap length (flat_map-cons request_text r rs), length-append (request_text r) (flat_map request_text rs))

ids_size : (ids : List ℕ) → length (flat_map (λ id. to_be_bytes w32 id) ids) ≡ 4 * length ids
ids_size [] = omega arith
ids_size (id ∷ ids) = omega (arith, ids_size ids)

block_size : (b : Block) → HasBlockSpelling b → length (block_text b) < 2 ^ 27
block_size b h =
    let blacklist = ids_size b.meta.blacklist in
    let signers = ids_size b.meta.signers in
    let requests = requests_size b.requests h.requests.requests in
    simp length-append (omega (arith, blacklist, signers, requests, h.requests.count, h.meta.blacklist.count, h.meta.signers.count, h.header.previous, h.header.content, h.header.meta))

carried_size : (o : Option Vote) → IfSome o HasVoteSpelling → length (option_text vote_text o) ≤ 41
carried_size None h = omega arith
carried_size (Some v) h = simp length-append (omega (arith, h.digest))

three_size : (k a b d : ℕ) (t : List ℕ) (n : ℕ) → length t ≤ n → length (to_be_bytes w8 k ++ to_be_bytes w64 a ++ to_be_bytes w64 b ++ to_be_bytes w64 d ++ t) ≤ 25 + n
three_size k a b d t n h = simp length-append (omega (arith, h))

two_size : (k a b : ℕ) (t : List ℕ) (n : ℕ) → length t ≤ n → length (to_be_bytes w8 k ++ to_be_bytes w64 a ++ to_be_bytes w64 b ++ t) ≤ 17 + n
two_size k a b t n h = simp length-append (omega (arith, h))

small : (n m : ℕ) → n ≤ m → m ≤ 25 + 2 ^ 27 → n < 2 ^ 28
small n m h k = omega (arith, h, k)

at_most : (n m : ℕ) → n < m → n ≤ m
at_most n m h = omega (arith, h)

-- no record has 2^64 bytes
pub record_size : (r : WalRecord) → HasRecordSpelling r → length (record_text r) < 2 ^ 28
record_size (record_of.Accepted config view number block) h = small _ _ (three_size 1 config view number (block_text block) (2 ^ 27) (at_most _ _ (block_size block h.3))) (omega arith)
record_size (record_of.Prepared config view number digest) h = simp length-append (omega (arith, h.3))
record_size (record_of.Left config view) h = omega arith
record_size (record_of.Entered config view number carried) h = small _ _ (three_size 4 config view number (option_text vote_text carried) 41 (carried_size carried h.3)) (omega arith)
record_size (record_of.Voted term candidate) h = omega arith
record_size (record_of.Tail term number block) h = small _ _ (two_size 6 term number (block_text block) (2 ^ 27) (at_most _ _ (block_size block h.2))) (omega arith)
