-- How long entries are.
use Rattle.std.proofs.Common.{◌≡◌, ℕ, ◌+◌, ◌*◌, ◌≤◌, true, List, [], ◌∷◌, ◌++◌, length, refl, sym, ◌∙◌, ap, arith, length-append}
use Rattle.std.specs.Prelude.{nat_le, nat_lt}
use Rattle.std.specs.Int.{w32, to_be_bytes}
use Rattle.std.specs.List.{flat_map, list_all}
use Rattle.std.proofs.lemmas.Bool.{and_parts, leb-true}
use Rattle.std.proofs.lemmas.List.Sums.{sum_by-cons}
use Rattle.ord_types.specs.Genesis.{genesis_block, genesis_request, genesis_sig}
use Rattle.ord_types.specs.Grammar.{AreSigs, HasBlockSpelling, HasHeaderSpelling, HasMetaSpelling, HasProofSpelling}
use Rattle.ord_types.specs.Spelling.{block_text, cert_text, config_text, header_text, ids_text, meta_text, proof_text, request_text, requests_text, sig_text}
use Rattle.ord_types.specs.declared.values.Block.{Block}
use Rattle.ord_types.specs.declared.values.Cert.{Cert}
use Rattle.ord_types.specs.declared.values.Config.{Config}
use Rattle.ord_types.specs.declared.values.Header.{Header}
use Rattle.ord_types.specs.declared.values.Meta.{Meta}
use Rattle.ord_types.specs.declared.values.Proof.{Proof}
use Rattle.ord_types.specs.declared.values.Proof.TheVariants as proof_of
use Rattle.ord_types.specs.declared.values.Request.{Request}
use Rattle.ord_types.specs.declared.values.Sig.{Sig}
use Rattle.ord_types.proofs.Sizes.{length-config}
use Rattle.chan_config.specs.Blocks.{are_lawful, is_lawful, is_linked, is_next_at, is_normal, is_ordinary, total_size}
use Rattle.block_ledger.specs.Chains.{Entry, IsGenesisBlock}
use Rattle.block_ledger.specs.Entries.{HasEntrySpelling, entry_text}

length-id_list : (ids : List ℕ) → length (flat_map (λ id. to_be_bytes w32 id) ids) ≡ 4 * length ids
length-id_list [] = omega arith
length-id_list (id ∷ ids) = omega (arith, length-id_list ids)

length-ids : (ids : List ℕ) → length (ids_text ids) ≡ 4 * length ids + 1
length-ids ids = omega (arith, length-id_list ids)

length-meta : (m : Meta) → length (meta_text m) ≡ 4 * length m.blacklist + 4 * length m.signers + 26
length-meta m = omega (arith, length-append (ids_text m.blacklist) (ids_text m.signers), length-ids m.blacklist, length-ids m.signers)

length-header : (h : Header) → HasHeaderSpelling h → length (header_text h) ≡ 104
length-header h is = simp length-append (omega (arith, is.previous, is.content, is.meta))

total_more : (r : Request) (rs : List Request) → total_size (r ∷ rs) ≡ length (request_text r) + total_size rs
total_more r rs = sum_by-cons (λ (x : Request). length (request_text x)) r rs

sum_of : (x a b t : ℕ) → x ≡ a + b → b ≡ t → x ≡ a + t
sum_of x a b t h k = omega (arith, h, k)

length-all : (rs : List Request) → length (flat_map request_text rs) ≡ total_size rs
length-all [] = refl
length-all (r ∷ rs) = sum_of _ _ _ _ (length-append (request_text r) (flat_map request_text rs)) (length-all rs) ∙ sym (total_more r rs)

length-requests : (rs : List Request) → length (requests_text rs) ≡ total_size rs + 4
length-requests rs = omega (arith, length-all rs)

length-sig : (s : Sig) → length (sig_text s) ≡ length s.bytes + 6
length-sig s = omega arith

sigs_short : (least : ℕ) (sigs : List Sig) → AreSigs least sigs → length (flat_map sig_text sigs) ≤ 2054 * length sigs
sigs_short least [] h = omega arith
sigs_short least (s ∷ sigs) h = omega (arith, length-append (sig_text s) (flat_map sig_text sigs), length-sig s, h.1.size, sigs_short (s.signer + 1) sigs h.2)

length-cert : (c : Cert) → length (cert_text c) ≡ length (flat_map sig_text c.sigs) + 9
length-cert c = omega arith

proof_short : (p : Proof) → HasProofSpelling p → length (proof_text p) ≤ 63684
proof_short proof_of.Raft h = omega arith
proof_short (proof_of.Bft c) h = omega (arith, length-cert c, sigs_short 0 c.sigs h.sigs, h.count)

block_sum : (x y a b c t : ℕ) → x ≡ y + c → y ≡ a + b → a ≡ 104 → b ≡ t + 4 → c ≤ 274 → x ≤ t + 382
block_sum x y a b c t h i j k l = omega (arith, h, i, j, k, l)

meta_short : (m : Meta) → HasMetaSpelling m → length (meta_text m) ≤ 274
meta_short m h = omega (arith, length-meta m, h.blacklist.count, h.signers.count)

block_short : (b : Block) → HasBlockSpelling b → length (block_text b) ≤ total_size b.requests + 382
block_short b h =
    block_sum _ _ _ _ _ _ (length-append (header_text b.header ++ requests_text b.requests) (meta_text b.meta)) (length-append (header_text b.header) (requests_text b.requests))
    (length-header b.header h.header) (length-requests b.requests) (meta_short b.meta h.meta)

entry_sum : (x a b t : ℕ) → x ≡ a + b → a ≤ t + 382 → b ≤ 63684 → t ≤ 1048576 → x ≤ 4194304
entry_sum x a b t h i j k = omega (arith, h, i, j, k)

-- an entry is short where its requests are
pub entry_short : (e : Entry) → HasEntrySpelling e → total_size e.0.requests ≤ 1048576 → length (entry_text e) ≤ 4194304
entry_short e h few = entry_sum _ _ _ _ (length-append (block_text e.0) (proof_text e.1)) (block_short e.0 h.block) (proof_short e.1 h.proof) few

-- those of a block that may come next are
pub next_short : (last : List ℕ) (number : ℕ) (c : Config) (b : Block) → c.batch.absolute ≤ 1048576 → is_next_at last number c b ≡ true → total_size b.requests ≤ 1048576
next_short last number c b small h =
    let next = and_parts (is_linked last number b) (is_lawful c b) h in
    let named = and_parts _ (are_lawful c b.requests) next.1 in
    let some = and_parts (nat_lt 0 (length b.requests)) _ named.1 in
    let ordinary = and_parts (list_all is_ordinary b.requests) _ some.1 in
    let normal = and_parts (is_normal c) (nat_le (total_size b.requests) c.batch.absolute) ordinary.1 in
    omega (arith, leb-true (total_size b.requests) c.batch.absolute normal.1)

genesis_requests : (c : Config) → (genesis_block c).requests ≡ genesis_request c ∷ []
unfolding genesis_block
genesis_requests c = refl

length-genesis_request : (c : Config) → length (request_text (genesis_request c)) ≡ 4 * length c.members + 55
length-genesis_request c = omega (arith, length-append (config_text c) (sig_text genesis_sig), length-config c)

-- those of block 0 are
pub genesis_short : (c : Config) (b : Block) → IsGenesisBlock c b → total_size b.requests ≤ 1048576
genesis_short c b is =
    let same : total_size b.requests ≡ total_size (genesis_request c ∷ []) = ap (λ (x : Block). total_size x.requests) is.block ∙ ap total_size (genesis_requests c) in
    omega (arith, same, length-genesis_request c, is.config.members.count)
