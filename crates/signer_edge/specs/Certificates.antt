-- Certificates: a quorum's signatures on one block (SmartBFT).
use Rattle.std.specs.Prelude.{ℕ, ◌≤◌, Bool, ◌&&◌, not, nat_le, nat_lt, List, [], ◌∷◌, map, All, IsTrue, if◌then◌else◌, Option, Some, None}
use Rattle.std.specs.List.{list_all}
use Rattle.std.specs.Option.{option_or}
use Rattle.ord_types.specs.declared.values.Cert.{Cert}
use Rattle.ord_types.specs.declared.values.Config.{Config}
use Rattle.ord_types.specs.Members.{quorum_of, is_in, how_many_in}
use Rattle.ord_types.specs.declared.values.Sig.{Sig}
use Rattle.signer_edge.specs.Accepts.{Accepts}
use Rattle.signer_edge.specs.Statements.{commit_text}
use Rattle.signer_edge.specs.declared.certificates.CertRefusal.{CertRefusal}
use Rattle.signer_edge.specs.declared.certificates.CertRefusal.TheVariants.{Stranger, Bad, Few}

abbrev pub signers_in : List Sig → List ℕ
signers_in sigs = map (λ (sig : Sig). sig.signer) sigs

abbrev pub signers_of : Cert → List ℕ
signers_of cert = signers_in cert.sigs

-- what the signatures of a certificate are on
abbrev pub cert_statement : Config → ℕ → List ℕ → Cert → List ℕ
cert_statement c number hash cert = commit_text c.number cert.view number hash

-- every signer is a member, every signature is accepted on the commit statement of the certificate's one view, and at
-- least a quorum of the members signed
pub record IsCertificate (accepts : Accepts) (c : Config) (number : ℕ) (hash : List ℕ) (cert : Cert) : Type 0 where
  pub members : All (λ signer. IsTrue (is_in signer c.members)) (signers_of cert)
  pub accepted : All (λ sig. IsTrue (accepts (cert_statement c number hash cert) sig)) cert.sigs
  pub enough : quorum_of c ≤ how_many_in (signers_of cert) c.members

-- the test of it
abbrev pub is_good_cert : Accepts → Config → ℕ → List ℕ → Cert → Bool
is_good_cert accepts c number hash cert =
    list_all (λ sig. is_in sig.signer c.members && accepts (cert_statement c number hash cert) sig) cert.sigs
    && nat_le (quorum_of c) (how_many_in (signers_of cert) c.members)

-- what is wrong with a signature
abbrev pub sig_refusal : Accepts → List ℕ → List ℕ → Sig → Option CertRefusal
sig_refusal accepts members statement sig =
    if not (is_in sig.signer members) then Some (Stranger sig.signer)
    else if not (accepts statement sig) then Some (Bad sig.signer) else None

-- what is wrong with the first bad one
abbrev pub sigs_refusal : Accepts → List ℕ → List ℕ → List Sig → Option CertRefusal
sigs_refusal accepts members statement [] = None
sigs_refusal accepts members statement (sig ∷ sigs) =
    option_or (sig_refusal accepts members statement sig) (sigs_refusal accepts members statement sigs)

-- too few members signed
abbrev pub few_refusal : ℕ → ℕ → Option CertRefusal
few_refusal count q = if nat_lt count q then Some (Few count q) else None

-- the first thing that is wrong with a certificate
abbrev pub cert_refusal : Accepts → Config → ℕ → List ℕ → Cert → Option CertRefusal
cert_refusal accepts c number hash cert =
    option_or
    (sigs_refusal accepts c.members (cert_statement c number hash cert) cert.sigs)
    (few_refusal (how_many_in (signers_of cert) c.members) (quorum_of c))
