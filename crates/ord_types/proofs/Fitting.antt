-- What has a spelling has lengths that fit their fields.
use Rattle.std.proofs.Common.{ℕ, ◌+◌, arith, List, [], ◌∷◌, Option, Some, None, IfSome}
use Rattle.std.specs.List.{AllByRecursion}
use Rattle.std.proofs.lemmas.List.Elements.{All-from_recursion}
use Rattle.ord_types.specs.Spelling.{Block, Cert, Config, Last, Meta, Report, Request, Sig}
use Rattle.ord_types.specs.Lengths.{FitsBlock, FitsCert, FitsConfig, FitsLast, FitsMeta, FitsReport, FitsRequest, FitsRequests, FitsSig}
use Rattle.ord_types.specs.Grammar.{AreSigs, HasBlockSpelling, HasCertSpelling, HasConfigSpelling, HasLastSpelling, HasMetaSpelling, HasReportSpelling, HasRequestSpelling, HasRequestsSpelling, HasSigSpelling}

pub fits_config : (c : Config) → HasConfigSpelling c → FitsConfig c
fits_config c h = omega (arith, h.members.count)

pub fits_sig : (s : Sig) → HasSigSpelling s → FitsSig s
fits_sig s h = omega (arith, h.size)

fits_sigs : (least : ℕ) (sigs : List Sig) → AreSigs least sigs → AllByRecursion FitsSig sigs
fits_sigs least [] h = tt
fits_sigs least (s ∷ sigs) h = (fits_sig s h.1, fits_sigs (s.signer + 1) sigs h.2)

pub fits_cert : (c : Cert) → HasCertSpelling c → FitsCert c
fits_cert c h = record { count = omega (arith, h.count); sigs = All-from_recursion FitsSig c.sigs (fits_sigs 0 c.sigs h.sigs) }

pub fits_request : (r : Request) → HasRequestSpelling r → FitsRequest r
fits_request r h = omega (arith, h.size)

fits_each : (rs : List Request) → AllByRecursion HasRequestSpelling rs → AllByRecursion FitsRequest rs
fits_each [] h = tt
fits_each (r ∷ rs) h = (fits_request r h.0, fits_each rs h.1)

pub fits_requests : (rs : List Request) → HasRequestsSpelling rs → FitsRequests rs
fits_requests rs h = record { count = omega (arith, h.count); requests = All-from_recursion FitsRequest rs (fits_each rs h.requests) }

pub fits_meta : (m : Meta) → HasMetaSpelling m → FitsMeta m
fits_meta m h = record { blacklist = omega (arith, h.blacklist.count); signers = omega (arith, h.signers.count) }

pub fits_block : (b : Block) → HasBlockSpelling b → FitsBlock b
fits_block b h = record { requests = fits_requests _ h.requests; meta = fits_meta _ h.meta }

fits_last : (o : Option Last) → IfSome o HasLastSpelling → IfSome o FitsLast
fits_last None h = tt
fits_last (Some l) h = fits_cert l.cert h.cert

pub fits_report : (r : Report) → HasReportSpelling r → FitsReport r
fits_report r h = record { last = fits_last r.last h.last; count = omega (arith, h.count) }
