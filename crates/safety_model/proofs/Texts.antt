-- Each value of a block has one spelling, so texts that do not collide keep blocks apart.
use Rattle.std.proofs.Common.{◌≡◌, ℕ, suc, ◌*◌, ◌≤◌, ◌<◌, ◌^◌, Bool, true, ◌&&◌, List, [], ◌∷◌, ◌++◌, length, refl, sym, ap, ◌∙◌, inl, inr, arith, length-append}
use Rattle.std.specs.Prelude.{nat_le}
use Rattle.std.specs.Int.{w8, w32, w64, to_be_bytes, from_be_bytes}
use Rattle.std.specs.List.{All, flat_map, list_all}
use Rattle.std.specs.Str.{bytes_eq}
use Rattle.std.proofs.lemmas.Bool.{and_parts, leb-true}
use Rattle.std.proofs.lemmas.List.{append_assoc}
use Rattle.std.proofs.lemmas.Nat.{from_be_bytes-to_be_bytes_4, from_be_bytes-to_be_bytes_8}
use Rattle.sha2.specs.Sha256.{sha256}
use Rattle.sha2.proofs.Facts256.{length-sha256}
use Rattle.ord_types.specs.Hashes.{block_hash, content_hash, header_hash, meta_hash}
use Rattle.ord_types.specs.Spelling.{header_text, ids_text, meta_text, request_kind_number, request_text, requests_text}
use Rattle.ord_types.specs.declared.values.ReqKind.TheVariants.{Ordinary, Change}
use Rattle.safety_model.specs.Blocks.{Block, Header, Meta, ReqKind, Request, has_number, has_room, have_room, hashes_fit, is_linked}
use Rattle.safety_model.specs.Facts.{History}
use Rattle.safety_model.specs.State.{Setup}
use Rattle.safety_model.specs.Safety.{Fits, IsBlockOf, NoCollision, RequestFits}
use Rattle.safety_model.proofs.FactTests.{bytes_same}

-- the parts of joined lists, where the first parts are as long
parts_same : (xs ys us vs : List ℕ) → length xs ≡ length ys → xs ++ us ≡ ys ++ vs → (xs ≡ ys) × (us ≡ vs)
parts_same [] [] us vs len same = (refl, same)
parts_same [] (y ∷ ys) us vs len same = absurd (omega arith)
parts_same (x ∷ xs) [] us vs len same = absurd (omega arith)
parts_same (x ∷ xs) (y ∷ ys) us vs len same =
    let first : x ≡ y = cc in
    let tails : xs ++ us ≡ ys ++ vs = cc in
    let rest = parts_same xs ys us vs (omega arith) tails in
    let some = rest.0 in
    ((cc), rest.1)

-- what holds of each of a list
all_head : {X : Type 0} (P : X → Type 0) (x : X) (xs : List X) → All P (x ∷ xs) → P x
all_head P x xs all = all 0 x (omega arith)

all_tail : {X : Type 0} (P : X → Type 0) (x : X) (xs : List X) → All P (x ∷ xs) → All P xs
all_tail P x xs all k d lt = all (suc k) d (omega arith)

-- numbers
eight_same : (a b : ℕ) → a < 2 ^ 64 → b < 2 ^ 64 → to_be_bytes w64 a ≡ to_be_bytes w64 b → a ≡ b
eight_same a b fa fb same = sym (from_be_bytes-to_be_bytes_8 a fa) ∙ ap (from_be_bytes w64) same ∙ from_be_bytes-to_be_bytes_8 b fb

four_same : (a b : ℕ) → a < 2 ^ 32 → b < 2 ^ 32 → to_be_bytes w32 a ≡ to_be_bytes w32 b → a ≡ b
four_same a b fa fb same = sym (from_be_bytes-to_be_bytes_4 a fa) ∙ ap (from_be_bytes w32) same ∙ from_be_bytes-to_be_bytes_4 b fb

one_back : (n : ℕ) → n < 2 ^ 8 → from_be_bytes w8 (to_be_bytes w8 n) ≡ n
one_back n fits = omega arith

one_same : (a b : ℕ) → a < 2 ^ 8 → b < 2 ^ 8 → to_be_bytes w8 a ≡ to_be_bytes w8 b → a ≡ b
one_same a b fa fb same = sym (one_back a fa) ∙ ap (from_be_bytes w8) same ∙ one_back b fb

-- ids
ids_length : (ids : List ℕ) → length (flat_map (λ id. to_be_bytes w32 id) ids) ≡ length ids * 4
ids_length [] = refl
ids_length (x ∷ xs) = omega (arith, ids_length xs, length-append (to_be_bytes w32 x) (flat_map (λ id. to_be_bytes w32 id) xs))

ids_same : (xs ys : List ℕ) → All (λ id. id < 2 ^ 32) xs → All (λ id. id < 2 ^ 32) ys → flat_map (λ id. to_be_bytes w32 id) xs ≡ flat_map (λ id. to_be_bytes w32 id) ys → xs ≡ ys
ids_same [] [] fx fy same = refl
ids_same [] (y ∷ ys) fx fy same = absurd (omega (arith, ap length same, ids_length (y ∷ ys)))
ids_same (x ∷ xs) [] fx fy same = absurd (omega (arith, ap length same, ids_length (x ∷ xs)))
ids_same (x ∷ xs) (y ∷ ys) fx fy same =
    let p = parts_same (to_be_bytes w32 x) (to_be_bytes w32 y) (flat_map (λ id. to_be_bytes w32 id) xs) (flat_map (λ id. to_be_bytes w32 id) ys) refl same in
    let first = four_same x y (all_head (λ id. id < 2 ^ 32) x xs fx) (all_head (λ id. id < 2 ^ 32) y ys fy) p.0 in
    let rest = ids_same xs ys (all_tail (λ id. id < 2 ^ 32) x xs fx) (all_tail (λ id. id < 2 ^ 32) y ys fy) p.1 in
    ap (λ (x : ℕ). x ∷ xs) first ∙ ap (λ (zs : List ℕ). y ∷ zs) rest

-- metas of one configuration
meta_same : (a b : Block) → Fits a → Fits b → has_room a.meta ≡ true → has_room b.meta ≡ true → a.meta.config ≡ b.meta.config → meta_text a.meta ≡ meta_text b.meta → a.meta ≡ b.meta
meta_same a b fa fb ra rb config same =
    let x = a.meta in let y = b.meta in
    let fronts_x = to_be_bytes w64 x.config ++ to_be_bytes w64 x.view ++ to_be_bytes w64 x.decided in
    let fronts_y = to_be_bytes w64 y.config ++ to_be_bytes w64 y.view ++ to_be_bytes w64 y.decided in
    let flat : List ℕ → List ℕ = λ ids. flat_map (λ id. to_be_bytes w32 id) ids in
    let short_x = leb-true (length x.blacklist) 31 (and_parts (nat_le (length x.blacklist) 31) (nat_le (length x.signers) 31) ra).0 in
    let short_y = leb-true (length y.blacklist) 31 (and_parts (nat_le (length y.blacklist) 31) (nat_le (length y.signers) 31) rb).0 in
    let whole : fronts_x ++ (ids_text x.blacklist ++ ids_text x.signers) ≡ fronts_y ++ (ids_text y.blacklist ++ ids_text y.signers) =
    sym (append_assoc fronts_x (ids_text x.blacklist) (ids_text x.signers)) ∙ same ∙ append_assoc fronts_y (ids_text y.blacklist) (ids_text y.signers) in
    let p = parts_same fronts_x fronts_y (ids_text x.blacklist ++ ids_text x.signers) (ids_text y.blacklist ++ ids_text y.signers) refl whole in
    let q = parts_same (to_be_bytes w64 x.config ++ to_be_bytes w64 x.view) (to_be_bytes w64 y.config ++ to_be_bytes w64 y.view) (to_be_bytes w64 x.decided) (to_be_bytes w64 y.decided) refl p.0 in
    let r = parts_same (to_be_bytes w64 x.config) (to_be_bytes w64 y.config) (to_be_bytes w64 x.view) (to_be_bytes w64 y.view) refl q.0 in
    let view = eight_same x.view y.view fa.view fb.view r.1 in
    let decided = eight_same x.decided y.decided fa.decided fb.decided q.1 in
    let lists : to_be_bytes w8 (length x.blacklist) ++ (flat x.blacklist ++ ids_text x.signers) ≡ to_be_bytes w8 (length y.blacklist) ++ (flat y.blacklist ++ ids_text y.signers) =
    sym (append_assoc (to_be_bytes w8 (length x.blacklist)) (flat x.blacklist) (ids_text x.signers)) ∙ p.1 ∙ append_assoc (to_be_bytes w8 (length y.blacklist)) (flat y.blacklist) (ids_text y.signers) in
    let counts = parts_same (to_be_bytes w8 (length x.blacklist)) (to_be_bytes w8 (length y.blacklist)) (flat x.blacklist ++ ids_text x.signers) (flat y.blacklist ++ ids_text y.signers) refl lists in
    let count = one_same (length x.blacklist) (length y.blacklist) (omega arith) (omega arith) counts.0 in
    let both = parts_same (flat x.blacklist) (flat y.blacklist) (ids_text x.signers) (ids_text y.signers) (ids_length x.blacklist ∙ ap (λ (n : ℕ). n * 4) count ∙ sym (ids_length y.blacklist)) counts.1 in
    let blacklist = ids_same x.blacklist y.blacklist fa.blacklist fb.blacklist both.0 in
    let last = parts_same (to_be_bytes w8 (length x.signers)) (to_be_bytes w8 (length y.signers)) (flat x.signers) (flat y.signers) refl both.1 in
    let signers = ids_same x.signers y.signers fa.signers fb.signers last.1 in
    let make : ℕ → ℕ → ℕ → List ℕ → List ℕ → Meta = λ c v d bl sg. record { config = c; view = v; decided = d; blacklist = bl; signers = sg } in
    ap (λ c. make c x.view x.decided x.blacklist x.signers) config ∙ ap (λ v. make y.config v x.decided x.blacklist x.signers) view
    ∙ ap (λ d. make y.config y.view d x.blacklist x.signers) decided ∙ ap (λ bl. make y.config y.view y.decided bl x.signers) blacklist
    ∙ ap (λ sg. make y.config y.view y.decided y.blacklist sg) signers

-- requests
kind_same : (a b : ReqKind) → request_kind_number a ≡ request_kind_number b → a ≡ b
kind_same Ordinary Ordinary same = refl
kind_same Ordinary Change same = absurd (omega arith)
kind_same Change Ordinary same = absurd (omega arith)
kind_same Change Change same = refl

kind_small : (a : ReqKind) → request_kind_number a < 2 ^ 8
kind_small Ordinary = omega arith
kind_small Change = omega arith

-- the part of a request's text that is as long for each request
abbrev front_of : Request → List ℕ
front_of r = to_be_bytes w8 (request_kind_number r.kind) ++ to_be_bytes w32 r.id.client ++ to_be_bytes w64 r.id.serial ++ to_be_bytes w32 (length r.payload)

-- the first of two rows of requests
request_same : (a b : Request) (us vs : List ℕ) → RequestFits a → RequestFits b → length a.payload ≤ 65536 → length b.payload ≤ 65536 → request_text a ++ us ≡ request_text b ++ vs → (a ≡ b) × (us ≡ vs)
request_same a b us vs fa fb sa sb same =
    let whole : front_of a ++ (a.payload ++ us) ≡ front_of b ++ (b.payload ++ vs) =
    sym (append_assoc (front_of a) a.payload us) ∙ same ∙ append_assoc (front_of b) b.payload vs in
    let p = parts_same (front_of a) (front_of b) (a.payload ++ us) (b.payload ++ vs) refl whole in
    let k = λ (r : Request). to_be_bytes w8 (request_kind_number r.kind) in
    let c = λ (r : Request). to_be_bytes w32 r.id.client in
    let s = λ (r : Request). to_be_bytes w64 r.id.serial in
    let n = λ (r : Request). to_be_bytes w32 (length r.payload) in
    let q = parts_same ((k a ++ c a) ++ s a) ((k b ++ c b) ++ s b) (n a) (n b) refl p.0 in
    let r = parts_same (k a ++ c a) (k b ++ c b) (s a) (s b) refl q.0 in
    let t = parts_same (k a) (k b) (c a) (c b) refl r.0 in
    let kind = kind_same a.kind b.kind (one_same (request_kind_number a.kind) (request_kind_number b.kind) (kind_small a.kind) (kind_small b.kind) t.0) in
    let client = four_same a.id.client b.id.client fa.client fb.client t.1 in
    let serial = eight_same a.id.serial b.id.serial fa.serial fb.serial r.1 in
    let size = four_same (length a.payload) (length b.payload) (omega arith) (omega arith) q.1 in
    let ends = parts_same a.payload b.payload us vs size p.1 in
    let make : ReqKind → ℕ → ℕ → List ℕ → Request = λ k c s p. record { kind = k; id = record { client = c; serial = s }; payload = p } in (
      ap (λ k. make k a.id.client a.id.serial a.payload) kind ∙ ap (λ c. make b.kind c a.id.serial a.payload) client
          ∙ ap (λ s. make b.kind b.id.client s a.payload) serial ∙ ap (λ p. make b.kind b.id.client b.id.serial p) ends.0,
      ends.1,
    )

rows_same : (xs ys : List Request) → All RequestFits xs → All RequestFits ys → list_all (λ r. nat_le (length r.payload) 65536) xs ≡ true → list_all (λ r. nat_le (length r.payload) 65536) ys ≡ true
    → flat_map request_text xs ≡ flat_map request_text ys → xs ≡ ys
rows_same [] [] fx fy sx sy same = refl
rows_same [] (y ∷ ys) fx fy sx sy same = absurd (omega (arith, ap length same, length-append (front_of y) y.payload, length-append (request_text y) (flat_map request_text ys)))
rows_same (x ∷ xs) [] fx fy sx sy same = absurd (omega (arith, ap length same, length-append (front_of x) x.payload, length-append (request_text x) (flat_map request_text xs)))
rows_same (x ∷ xs) (y ∷ ys) fx fy sx sy same =
    let small : Request → Bool = λ r. nat_le (length r.payload) 65536 in
    let px = and_parts (small x) (list_all small xs) sx in
    let py = and_parts (small y) (list_all small ys) sy in
    let p = request_same x y (flat_map request_text xs) (flat_map request_text ys) (all_head RequestFits x xs fx) (all_head RequestFits y ys fy) (leb-true (length x.payload) 65536 px.0) (leb-true (length y.payload) 65536 py.0) same in
    let rest = rows_same xs ys (all_tail RequestFits x xs fx) (all_tail RequestFits y ys fy) px.1 py.1 p.1 in
    let first = p.0 in
    ap (λ (x : Request). x ∷ xs) first ∙ ap (λ (zs : List Request). y ∷ zs) rest

requests_same : (a b : Block) → Fits a → Fits b → have_room a.requests ≡ true → have_room b.requests ≡ true → requests_text a.requests ≡ requests_text b.requests → a.requests ≡ b.requests
requests_same a b fa fb ra rb same =
    let small : Request → Bool = λ r. nat_le (length r.payload) 65536 in
    let x = a.requests in let y = b.requests in
    let p = parts_same (to_be_bytes w32 (length x)) (to_be_bytes w32 (length y)) (flat_map request_text x) (flat_map request_text y) refl same in
    rows_same x y fa.requests fb.requests (and_parts (nat_le (length x) 1000) (list_all small x) ra).1 (and_parts (nat_le (length y) 1000) (list_all small y) rb).1 p.1

-- headers of one number, whose first two hashes are SHA-256 values
header_same : (a b : Header) → a.number ≡ b.number → length a.previous ≡ 32 → length b.previous ≡ 32 → length a.content ≡ 32 → length b.content ≡ 32 → header_text a ≡ header_text b → a ≡ b
header_same a b number la lb ka kb same =
    let p = parts_same ((to_be_bytes w64 a.number ++ a.previous) ++ a.content) ((to_be_bytes w64 b.number ++ b.previous) ++ b.content) a.meta b.meta (omega (arith, length-append (to_be_bytes w64 a.number ++ a.previous) a.content, length-append (to_be_bytes w64 b.number ++ b.previous) b.content, length-append (to_be_bytes w64 a.number) a.previous, length-append (to_be_bytes w64 b.number) b.previous)) same in
    let q = parts_same (to_be_bytes w64 a.number ++ a.previous) (to_be_bytes w64 b.number ++ b.previous) a.content b.content (omega (arith, length-append (to_be_bytes w64 a.number) a.previous, length-append (to_be_bytes w64 b.number) b.previous)) p.0 in
    let r = parts_same (to_be_bytes w64 a.number) (to_be_bytes w64 b.number) a.previous b.previous refl q.0 in
    let make : ℕ → List ℕ → List ℕ → List ℕ → Header = λ n p c m. record { number = n; previous = p; content = c; meta = m } in
    ap (λ n. make n a.previous a.content a.meta) number ∙ ap (λ p. make b.number p a.content a.meta) r.1
    ∙ ap (λ c. make b.number b.previous c a.meta) q.1 ∙ ap (λ m. make b.number b.previous b.content m) p.1

-- the hashes of a block that comes next somewhere
record Hashed (b : Block) : Type 0 where
  previous : length b.header.previous ≡ 32
  content : length b.header.content ≡ 32
  room : have_room b.requests ≡ true
  rooms : has_room b.meta ≡ true
  content_is : b.header.content ≡ sha256 (requests_text b.requests)
  meta_is : b.header.meta ≡ sha256 (meta_text b.meta)

hashed : (before b : Block) (n : ℕ) → is_linked (block_hash before) n b ≡ true → Hashed b
unfolding header_hash content_hash meta_hash
hashed before b n h =
    let r = and_parts (has_number n b && bytes_eq b.header.previous (block_hash before)) (hashes_fit b) h in
    let previous = bytes_same b.header.previous (block_hash before) (and_parts (has_number n b) (bytes_eq b.header.previous (block_hash before)) r.0).1 in
    let fits = and_parts (have_room b.requests && bytes_eq b.header.content (content_hash b.requests)) (has_room b.meta && bytes_eq b.header.meta (meta_hash b.meta)) r.1 in
    let c = and_parts (have_room b.requests) (bytes_eq b.header.content (content_hash b.requests)) fits.0 in
    let m = and_parts (has_room b.meta) (bytes_eq b.header.meta (meta_hash b.meta)) fits.1 in
    let content = bytes_same b.header.content (content_hash b.requests) c.1 in
    record {
      previous = ap (λ (bs : List ℕ). length bs) previous ∙ length-sha256 (header_text before.header);
      content = ap (λ (bs : List ℕ). length bs) content ∙ length-sha256 (requests_text b.requests);
      room = c.0;
      rooms = m.0;
      content_is = content;
      meta_is = bytes_same b.header.meta (meta_hash b.meta) m.1;
    }

block_same : (a b : Block) → a.header ≡ b.header → a.requests ≡ b.requests → a.meta ≡ b.meta → a ≡ b
block_same a b h r m =
    let make : Header → List Request → Meta → Block = λ h r m. record { header = h; requests = r; meta = m } in
    ap (λ h. make h a.requests a.meta) h ∙ ap (λ r. make b.header r a.meta) r ∙ ap (λ m. make b.header b.requests m) m

-- blocks of one number and configuration are equal where their hashes are
pub same_block : (su : Setup) (h : History) → NoCollision su h → (a b before before' : Block) (n m : ℕ) → IsBlockOf su h a → IsBlockOf su h b → Fits a → Fits b
    → is_linked (block_hash before) n a ≡ true → is_linked (block_hash before') m b ≡ true → a.header.number ≡ b.header.number → a.meta.config ≡ b.meta.config → block_hash a ≡ block_hash b → a ≡ b
unfolding header_hash
same_block su h apart a b before before' n m ia ib fa fb la lb number config same =
    let x = hashed before a n la in
    let y = hashed before' b m lb in
    let texts = apart (header_text a.header) (header_text b.header) (a, ia, inl refl) (b, ib, inl refl) same in
    let header = header_same a.header b.header number x.previous y.previous x.content y.content texts in
    let contents : sha256 (requests_text a.requests) ≡ sha256 (requests_text b.requests) = sym x.content_is ∙ ap (λ (h : Header). h.content) header ∙ y.content_is in
    let metas : sha256 (meta_text a.meta) ≡ sha256 (meta_text b.meta) = sym x.meta_is ∙ ap (λ (h : Header). h.meta) header ∙ y.meta_is in
    let requests = apart (requests_text a.requests) (requests_text b.requests) (a, ia, inr (inl refl)) (b, ib, inr (inl refl)) contents in
    let meta = apart (meta_text a.meta) (meta_text b.meta) (a, ia, inr (inr refl)) (b, ib, inr (inr refl)) metas in
    block_same a b header (requests_same a b fa fb x.room y.room requests) (meta_same a b fa fb x.rooms y.rooms config meta)
