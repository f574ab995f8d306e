-- How values are read, field by field from the left. A field is first asked for its length, then for its rule; the first that isn't there
-- whole, or breaks its rule, is the flaw.
use Rattle.std.specs.Prelude.{ℕ, zero, suc, ◌+◌, ◌^◌, ◌==◌, ◌&&◌, Bool, not, nat_lt, nat_le, List, [], ◌∷◌, ◌++◌, length, take, drop, Option, Some, None, Result, Ok, Err, if◌then◌else◌}
use Rattle.std.specs.Int.{Width, w8, w16, w32, w64, byte_len, from_be_bytes}
use Rattle.ord_types.specs.Members.{is_in}
use Rattle.ord_types.specs.Spelling.{Batch, Block, Cert, Config, Header, Kind, Last, Meta, Mode, Proof, Report, ReqKind, Request, Sig, Vote}
use Rattle.ord_types.specs.declared.values.Kind.TheVariants.{Raft, Bft}
use Rattle.ord_types.specs.declared.values.Mode.TheVariants.{Normal, Maintenance}
use Rattle.ord_types.specs.declared.values.Proof.TheVariants as proof_of
use Rattle.ord_types.specs.declared.values.ReqKind.TheVariants.{Ordinary, Change}
use Rattle.ord_types.specs.declared.fault.Flaw.{Flaw}
use Rattle.ord_types.specs.declared.fault.Flaw.TheVariants.{Short, Bad}

infixl 10 ◌>>=◌
abbrev pub ◌>>=◌ : {A B : Type 0} → Result A Flaw → (A → Result B Flaw) → Result B Flaw
(Ok x) >>= f = f x
(Err e) >>= f = Err e

-- reads a front of the bytes: gives the value and the bytes behind it, or the flaw
abbrev pub Reading : Type 0 → Type 0
Reading X = List ℕ → Result (X × List ℕ) Flaw

-- FIELDS

-- an unsigned number of this width
abbrev pub number_at : Width → Reading ℕ
number_at w bytes = if nat_lt (length bytes) (byte_len w) then Err Short else Ok (from_be_bytes w (take (byte_len w) bytes), drop (byte_len w) bytes)

-- so many bytes
abbrev pub bytes_at : ℕ → Reading (List ℕ)
bytes_at n bytes = if nat_lt (length bytes) n then Err Short else Ok (take n bytes, drop n bytes)

abbrev pub digest_at : Reading (List ℕ)
digest_at = bytes_at 32

-- a number that passes a test
abbrev pub tested_at : Width → (ℕ → Bool) → Reading ℕ
tested_at w test bytes = number_at w bytes >>= λ n. if test n.0 then Ok n else Err (Bad (length bytes))

-- a number that stands for something
abbrev pub meant : {X : Type 0} → ℕ → Option X → List ℕ → Result (X × List ℕ) Flaw
meant left None rest = Err (Bad left)
meant left (Some x) rest = Ok (x, rest)

abbrev pub meant_at : {X : Type 0} → Width → (ℕ → Option X) → Reading X
meant_at w means bytes = number_at w bytes >>= λ n. meant (length bytes) (means n.0) n.1

-- a number, a view, a term or the number of a configuration: a u64 below 2^62
abbrev pub below_at : Reading ℕ
below_at = tested_at w64 (λ n. nat_lt n (2 ^ 62))

-- a count that is at most so many
abbrev pub count_at : Width → ℕ → Reading ℕ
count_at w most = tested_at w (λ n. nat_le n most)

-- LISTS AND OPTIONS

-- so many values
unfoldable pub list_at : {X : Type 0} → Reading X → ℕ → Reading (List X)
list_at at zero bytes = Ok ([], bytes)
list_at at (suc n) bytes = do
  first ← at bytes
  more ← list_at at n first.1
  Ok (first.0 ∷ more.0, more.1)

-- a flag, and the value behind a 1
unfoldable pub option_at : {X : Type 0} → Reading X → Reading (Option X)
option_at at bytes = do
  flag ← tested_at w8 (λ n. nat_le n 1) bytes
  if flag.0 == 0 then Ok (None, flag.1) else (at flag.1 >>= λ x. Ok (Some x.0, x.1))

-- so many ids, the first at least this, each above the one before
unfoldable pub ascending_at : ℕ → ℕ → Reading (List ℕ)
ascending_at least zero bytes = Ok ([], bytes)
ascending_at least (suc n) bytes = do
  id ← tested_at w32 (λ id. nat_le least id) bytes
  more ← ascending_at (id.0 + 1) n id.1
  Ok (id.0 ∷ more.0, more.1)

-- so many ids, each at least 1 and other than those seen before it
unfoldable pub differing_at : List ℕ → ℕ → Reading (List ℕ)
differing_at seen zero bytes = Ok ([], bytes)
differing_at seen (suc n) bytes = do
  id ← tested_at w32 (λ id. nat_le 1 id && not (is_in id seen)) bytes
  more ← differing_at (seen ++ id.0 ∷ []) n id.1
  Ok (id.0 ∷ more.0, more.1)

-- ids in strictly ascending order, at least so many
unfoldable pub ids_at : ℕ → Reading (List ℕ)
ids_at fewest bytes = do
  count ← tested_at w8 (λ n. nat_le fewest n && nat_le n 31) bytes
  ascending_at 1 count.0 count.1

-- ids in any order
unfoldable pub order_at : Reading (List ℕ)
order_at bytes = do
  count ← count_at w8 31 bytes
  differing_at [] count.0 count.1

-- VALUES

abbrev pub kind_meant : ℕ → Option Kind
kind_meant n = if n == 1 then Some Raft else (if n == 2 then Some Bft else None)

abbrev pub mode_meant : ℕ → Option Mode
mode_meant n = if n == 0 then Some Normal else (if n == 1 then Some Maintenance else None)

abbrev pub request_kind_meant : ℕ → Option ReqKind
request_kind_meant n = if n == 1 then Some Ordinary else (if n == 2 then Some Change else None)

unfoldable pub batch_at : Reading Batch
batch_at bytes = do
  count ← number_at w32 bytes
  preferred ← number_at w32 count.1
  absolute ← number_at w32 preferred.1
  wait ← number_at w32 absolute.1
  Ok (record { count = count.0; preferred = preferred.0; absolute = absolute.0; wait = wait.0 }, wait.1)

unfoldable pub config_at : Reading Config
config_at bytes = do
  form ← tested_at w8 (λ n. n == 1) bytes
  number ← below_at form.1
  kind ← meant_at w8 kind_meant number.1
  mode ← meant_at w8 mode_meant kind.1
  members ← ids_at 1 mode.1
  batch ← batch_at members.1
  rotation ← number_at w32 batch.1
  Ok (record { number = number.0; kind = kind.0; mode = mode.0; members = members.0; batch = batch.0; rotation = rotation.0 }, rotation.1)

-- a sig whose signer is at least this
unfoldable pub sig_from_at : ℕ → Reading Sig
sig_from_at least bytes = do
  signer ← tested_at w32 (λ id. nat_le least id) bytes
  size ← count_at w16 2048 signer.1
  text ← bytes_at size.0 size.1
  Ok (record { signer = signer.0; bytes = text.0 }, text.1)

abbrev pub sig_at : Reading Sig
sig_at = sig_from_at 0

-- so many sigs, the first signer at least this, each above the one before
unfoldable pub sigs_at : ℕ → ℕ → Reading (List Sig)
sigs_at least zero bytes = Ok ([], bytes)
sigs_at least (suc n) bytes = do
  first ← sig_from_at least bytes
  more ← sigs_at (first.0.signer + 1) n first.1
  Ok (first.0 ∷ more.0, more.1)

unfoldable pub cert_at : Reading Cert
cert_at bytes = do
  view ← below_at bytes
  count ← count_at w8 31 view.1
  sigs ← sigs_at 0 count.0 count.1
  Ok (record { view = view.0; sigs = sigs.0 }, sigs.1)

unfoldable pub request_at : Reading Request
request_at bytes = do
  kind ← meant_at w8 request_kind_meant bytes
  client ← number_at w32 kind.1
  serial ← number_at w64 client.1
  size ← count_at w32 65536 serial.1
  payload ← bytes_at size.0 size.1
  Ok (record { kind = kind.0; id = record { client = client.0; serial = serial.0 }; payload = payload.0 }, payload.1)

unfoldable pub requests_at : Reading (List Request)
requests_at bytes = do
  count ← count_at w32 1000 bytes
  list_at request_at count.0 count.1

unfoldable pub meta_at : Reading Meta
meta_at bytes = do
  config ← below_at bytes
  view ← below_at config.1
  decided ← below_at view.1
  blacklist ← order_at decided.1
  signers ← ids_at 0 blacklist.1
  Ok (record { config = config.0; view = view.0; decided = decided.0; blacklist = blacklist.0; signers = signers.0 }, signers.1)

unfoldable pub header_at : Reading Header
header_at bytes = do
  number ← below_at bytes
  previous ← digest_at number.1
  content ← digest_at previous.1
  meta ← digest_at content.1
  Ok (record { number = number.0; previous = previous.0; content = content.0; meta = meta.0 }, meta.1)

unfoldable pub block_at : Reading Block
block_at bytes = do
  header ← header_at bytes
  requests ← requests_at header.1
  meta ← meta_at requests.1
  Ok (record { header = header.0; requests = requests.0; meta = meta.0 }, meta.1)

-- a vote whose view is below the limit
unfoldable pub vote_below_at : ℕ → Reading Vote
vote_below_at limit bytes = do
  view ← tested_at w64 (λ n. nat_lt n limit) bytes
  digest ← digest_at view.1
  Ok (record { view = view.0; digest = digest.0 }, digest.1)

abbrev pub vote_at : Reading Vote
vote_at = vote_below_at (2 ^ 62)

-- so many votes by falling views, the first below the limit
unfoldable pub votes_at : ℕ → ℕ → Reading (List Vote)
votes_at limit zero bytes = Ok ([], bytes)
votes_at limit (suc n) bytes = do
  first ← vote_below_at limit bytes
  more ← votes_at first.0.view n first.1
  Ok (first.0 ∷ more.0, more.1)

unfoldable pub last_at : Reading Last
last_at bytes = do
  hash ← digest_at bytes
  cert ← cert_at hash.1
  Ok (record { hash = hash.0; cert = cert.0 }, cert.1)

unfoldable pub report_at : Reading Report
report_at bytes = do
  height ← below_at bytes
  last ← option_at last_at height.1
  prepared ← option_at vote_at last.1
  count ← count_at w8 32 prepared.1
  accepted ← votes_at (2 ^ 62) count.0 count.1
  Ok (record { height = height.0; last = last.0; prepared = prepared.0; accepted = accepted.0 }, accepted.1)

abbrev pub proof_of_cert : Option Cert → Proof
proof_of_cert None = proof_of.Raft
proof_of_cert (Some cert) = proof_of.Bft cert

unfoldable pub proof_at : Reading Proof
proof_at bytes = do
  cert ← option_at cert_at bytes
  Ok (proof_of_cert cert.0, cert.1)
