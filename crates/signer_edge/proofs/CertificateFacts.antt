-- The test of a certificate, its first refusal, and what a certificate is.
use Rattle.std.proofs.lemmas.Bool.{and_parts, and_from, leb-true, le-leb}
use Rattle.std.proofs.lemmas.List.Elements.{All-nil, All-cons, All-head, All-tail, All-weaker}
use Rattle.std.proofs.Common.{◌≡◌, ℕ, ◌+◌, ◌<◌, Bool, true, false, ◌&&◌, ◌||◌, not, suc, if◌then◌else◌, ◌==◌, Ok, Err, List, [], ◌∷◌, length, get_or, drop, refl, sym, ◌∙◌, ap, arith, add-one, drop-cons, None, Some}
use Rattle.std.specs.Prelude.{IsTrue, All, IsOk, is_ok, Result, Option, nat_le, ◌↔◌}
use Rattle.std.specs.Option.{is_none, option_or}
use Rattle.std.specs.Result.{result_err}
use Rattle.std.specs.List.{list_all, list_any}
use Rattle.ord_types.specs.declared.values.Cert.{Cert}
use Rattle.ord_types.specs.declared.values.Config.{Config}
use Rattle.ord_types.specs.declared.values.Sig.{Sig}
use Rattle.ord_types.specs.Members.{is_in, how_many_in, quorum}
use Rattle.signer_edge.specs.Accepts.{Accepts}
use Rattle.signer_edge.specs.Signing.{KeepsAccepted}
use Rattle.signer_edge.specs.Certificates.{IsCertificate, cert_refusal, cert_statement, few_refusal, is_good_cert, sig_refusal, sigs_refusal, signers_in, signers_of}
use Rattle.signer_edge.specs.declared.certificates.CertRefusal.{CertRefusal}
use Rattle.signer_edge.specs.declared.certificates.CertRefusal.TheVariants.{Stranger, Bad}

sigs_refusal-drop : (accepts : Accepts) (members statement : List ℕ) (sigs : List Sig) (i : ℕ) (sig : Sig) → i < length sigs → sig ≡ get_or sigs i sig
    → sigs_refusal accepts members statement (drop i sigs) ≡ option_or (sig_refusal accepts members statement sig) (sigs_refusal accepts members statement (drop (i + 1) sigs))
sigs_refusal-drop accepts members statement sigs i sig within is =
    let here : drop i sigs ≡ sig ∷ drop (i + 1) sigs = rw add-one (drop-cons sigs i sig within ∙ ap (λ s. s ∷ drop (suc i) sigs) (sym is)) in
    ap (sigs_refusal accepts members statement) here

sig_refusal-stranger : (accepts : Accepts) (members statement : List ℕ) (sig : Sig) → is_in sig.signer members ≡ false → sig_refusal accepts members statement sig ≡ Some (Stranger sig.signer)
sig_refusal-stranger accepts members statement sig outside = rw outside refl

sig_refusal-bad : (accepts : Accepts) (members statement : List ℕ) (sig : Sig) → is_in sig.signer members ≡ true → accepts statement sig ≡ false → sig_refusal accepts members statement sig ≡ Some (Bad sig.signer)
sig_refusal-bad accepts members statement sig inside refused = rw (inside, refused) refl

sig_refusal-good : (accepts : Accepts) (members statement : List ℕ) (sig : Sig) → is_in sig.signer members ≡ true → accepts statement sig ≡ true → sig_refusal accepts members statement sig ≡ None
sig_refusal-good accepts members statement sig inside accepted = rw (inside, accepted) refl

-- one signature of a list that was good up to it
pub refuses-stranger : (accepts : Accepts) (members statement : List ℕ) (sigs : List Sig) (i : ℕ) (sig : Sig) (r : Option CertRefusal) → i < length sigs → sig ≡ get_or sigs i sig
    → r ≡ sigs_refusal accepts members statement (drop i sigs) → is_in sig.signer members ≡ false → Some (Stranger sig.signer) ≡ r
refuses-stranger accepts members statement sigs i sig r within is before outside =
    let rest = sigs_refusal accepts members statement (drop (i + 1) sigs) in
    sym (before ∙ sigs_refusal-drop accepts members statement sigs i sig within is ∙ ap (λ one. option_or one rest) (sig_refusal-stranger accepts members statement sig outside))

pub refuses-bad : (accepts : Accepts) (members statement : List ℕ) (sigs : List Sig) (i : ℕ) (sig : Sig) (r : Option CertRefusal) → i < length sigs → sig ≡ get_or sigs i sig
    → r ≡ sigs_refusal accepts members statement (drop i sigs) → is_in sig.signer members ≡ true → accepts statement sig ≡ false → Some (Bad sig.signer) ≡ r
refuses-bad accepts members statement sigs i sig r within is before inside refused =
    let rest = sigs_refusal accepts members statement (drop (i + 1) sigs) in
    sym (before ∙ sigs_refusal-drop accepts members statement sigs i sig within is ∙ ap (λ one. option_or one rest) (sig_refusal-bad accepts members statement sig inside refused))

pub goes-on : (accepts : Accepts) (members statement : List ℕ) (sigs : List Sig) (i : ℕ) (sig : Sig) (r : Option CertRefusal) → i < length sigs → sig ≡ get_or sigs i sig
    → r ≡ sigs_refusal accepts members statement (drop i sigs) → is_in sig.signer members ≡ true → accepts statement sig ≡ true → r ≡ sigs_refusal accepts members statement (drop (i + 1) sigs)
goes-on accepts members statement sigs i sig r within is before inside accepted =
    let rest = sigs_refusal accepts members statement (drop (i + 1) sigs) in
    before ∙ sigs_refusal-drop accepts members statement sigs i sig within is ∙ ap (λ one. option_or one rest) (sig_refusal-good accepts members statement sig inside accepted)

-- a member is among the signers
pub is_in-signers : (signer : ℕ) (sigs : List Sig) → is_in signer (signers_in sigs) ≡ list_any (λ (sig : Sig). sig.signer == signer) sigs
is_in-signers signer [] = refl
is_in-signers signer (sig ∷ sigs) = ap (λ b. (sig.signer == signer) || b) (is_in-signers signer sigs)

pub how_many_in-drop : (ids members : List ℕ) (i m : ℕ) → i < length members → m ≡ get_or members i 0
    → how_many_in ids (drop i members) ≡ (if is_in m ids then 1 else 0) + how_many_in ids (drop (i + 1) members)
how_many_in-drop ids members i m within is =
    let here : drop i members ≡ m ∷ drop (i + 1) members = rw add-one (drop-cons members i 0 within ∙ ap (λ s. s ∷ drop (suc i) members) (sym is)) in
    ap (how_many_in ids) here

is_none-one : (a b : Bool) (s : ℕ) (rest : Option CertRefusal)
    → is_none (option_or (if not a then Some (Stranger s) else if not b then Some (Bad s) else None) rest) ≡ ((a && b) && is_none rest)
is_none-one true true s rest = refl
is_none-one true false s rest = refl
is_none-one false b s rest = refl

is_none-sigs : (accepts : Accepts) (members statement : List ℕ) (sigs : List Sig)
    → is_none (sigs_refusal accepts members statement sigs) ≡ list_all (λ (sig : Sig). is_in sig.signer members && accepts statement sig) sigs
is_none-sigs accepts members statement [] = refl
is_none-sigs accepts members statement (sig ∷ sigs) =
    is_none-one (is_in sig.signer members) (accepts statement sig) sig.signer (sigs_refusal accepts members statement sigs)
    ∙ ap (λ b. (is_in sig.signer members && accepts statement sig) && b) (is_none-sigs accepts members statement sigs)

is_none-few : (count q : ℕ) → is_none (few_refusal count q) ≡ nat_le q count
is_none-few count q = grind arith

is_none-both : (a b : Option CertRefusal) → is_none (option_or a b) ≡ (is_none a && is_none b)
is_none-both None b = refl
is_none-both (Some r) b = refl

is_none-cert : (accepts : Accepts) (c : Config) (number : ℕ) (hash : List ℕ) (cert : Cert) → is_none (cert_refusal accepts c number hash cert) ≡ is_good_cert accepts c number hash cert
is_none-cert accepts c number hash cert =
    let few = few_refusal (how_many_in (signers_of cert) c.members) (quorum (length c.members)) in
    is_none-both (sigs_refusal accepts c.members (cert_statement c number hash cert) cert.sigs) few
    ∙ ap (λ b. b && is_none few) (is_none-sigs accepts c.members (cert_statement c number hash cert) cert.sigs)
    ∙ ap (λ b. list_all (λ (sig : Sig). is_in sig.signer c.members && accepts (cert_statement c number hash cert) sig) cert.sigs && b)
    (is_none-few (how_many_in (signers_of cert) c.members) (quorum (length c.members)))

is_ok-result_err : {T : Type 0} (r : Result T CertRefusal) → is_ok r ≡ is_none (result_err r)
is_ok-result_err (Ok x) = refl
is_ok-result_err (Err e) = refl

-- an answer that is the first refusal is the test's
pub is_ok-good : {T : Type 0} (r : Result T CertRefusal) (accepts : Accepts) (c : Config) (number : ℕ) (hash : List ℕ) (cert : Cert)
    → result_err r ≡ cert_refusal accepts c number hash cert → is_ok r ≡ is_good_cert accepts c number hash cert
is_ok-good r accepts c number hash cert h = is_ok-result_err r ∙ ap is_none h ∙ is_none-cert accepts c number hash cert

all-members : (accepts : Accepts) (members statement : List ℕ) (sigs : List Sig) → list_all (λ (sig : Sig). is_in sig.signer members && accepts statement sig) sigs ≡ true
    → All (λ signer. IsTrue (is_in signer members)) (signers_in sigs)
all-members accepts members statement [] h = All-nil _
all-members accepts members statement (sig ∷ sigs) h =
    let parts = and_parts (is_in sig.signer members && accepts statement sig) (list_all (λ (sig : Sig). is_in sig.signer members && accepts statement sig) sigs) h in
    All-cons (λ signer. IsTrue (is_in signer members)) sig.signer (signers_in sigs) (and_parts (is_in sig.signer members) (accepts statement sig) parts.0).0 (all-members accepts members statement sigs parts.1)

all-accepted : (accepts : Accepts) (members statement : List ℕ) (sigs : List Sig) → list_all (λ (sig : Sig). is_in sig.signer members && accepts statement sig) sigs ≡ true
    → All (λ sig. IsTrue (accepts statement sig)) sigs
all-accepted accepts members statement [] h = All-nil _
all-accepted accepts members statement (sig ∷ sigs) h =
    let parts = and_parts (is_in sig.signer members && accepts statement sig) (list_all (λ (sig : Sig). is_in sig.signer members && accepts statement sig) sigs) h in
    All-cons (λ sig. IsTrue (accepts statement sig)) sig sigs (and_parts (is_in sig.signer members) (accepts statement sig) parts.0).1 (all-accepted accepts members statement sigs parts.1)

list_all-both : (accepts : Accepts) (members statement : List ℕ) (sigs : List Sig) → All (λ signer. IsTrue (is_in signer members)) (signers_in sigs)
    → All (λ sig. IsTrue (accepts statement sig)) sigs → list_all (λ (sig : Sig). is_in sig.signer members && accepts statement sig) sigs ≡ true
list_all-both accepts members statement [] inside accepted = refl
list_all-both accepts members statement (sig ∷ sigs) inside accepted =
    let Inside : ℕ → Type 0 = λ signer. IsTrue (is_in signer members) in
    let Accepted : Sig → Type 0 = λ sig. IsTrue (accepts statement sig) in
    let rest = list_all-both accepts members statement sigs (All-tail Inside sig.signer (signers_in sigs) inside) (All-tail Accepted sig sigs accepted) in
    let here = and_from (is_in sig.signer members) (accepts statement sig) (All-head Inside sig.signer (signers_in sigs) inside) (All-head Accepted sig sigs accepted) in
    and_from (is_in sig.signer members && accepts statement sig) (list_all (λ (sig : Sig). is_in sig.signer members && accepts statement sig) sigs) here rest

-- the test holds exactly at a certificate
pub good-means : (accepts : Accepts) (c : Config) (number : ℕ) (hash : List ℕ) (cert : Cert) → is_good_cert accepts c number hash cert ≡ true → IsCertificate accepts c number hash cert
good-means accepts c number hash cert h =
    let parts =
    and_parts
    (list_all (λ (sig : Sig). is_in sig.signer c.members && accepts (cert_statement c number hash cert) sig) cert.sigs)
    (nat_le (quorum (length c.members)) (how_many_in (signers_of cert) c.members))
    h
    in
    record {
      members = all-members accepts c.members (cert_statement c number hash cert) cert.sigs parts.0;
      accepted = all-accepted accepts c.members (cert_statement c number hash cert) cert.sigs parts.0;
      enough = leb-true (quorum (length c.members)) (how_many_in (signers_of cert) c.members) parts.1;
    }

pub means-good : (accepts : Accepts) (c : Config) (number : ℕ) (hash : List ℕ) (cert : Cert) → IsCertificate accepts c number hash cert → is_good_cert accepts c number hash cert ≡ true
means-good accepts c number hash cert h =
    and_from
    (list_all (λ (sig : Sig). is_in sig.signer c.members && accepts (cert_statement c number hash cert) sig) cert.sigs)
    (nat_le (quorum (length c.members)) (how_many_in (signers_of cert) c.members))
    (list_all-both accepts c.members (cert_statement c number hash cert) cert.sigs h.members h.accepted)
    (le-leb (quorum (length c.members)) (how_many_in (signers_of cert) c.members) h.enough)

-- an answer that is the first refusal is Ok exactly at a certificate
pub IsOk-proves : {T : Type 0} (r : Result T CertRefusal) (accepts : Accepts) (c : Config) (number : ℕ) (hash : List ℕ) (cert : Cert)
    → result_err r ≡ cert_refusal accepts c number hash cert → IsOk r ↔ IsCertificate accepts c number hash cert
IsOk-proves r accepts c number hash cert h =
    let same : is_ok r ≡ is_good_cert accepts c number hash cert = is_ok-good r accepts c number hash cert h in
    ((λ ok. good-means accepts c number hash cert (sym same ∙ ok)), (λ is. same ∙ means-good accepts c number hash cert is))

-- a certificate stays one while what was accepted still is
pub IsCertificate-kept : (old new : Accepts) (c : Config) (number : ℕ) (hash : List ℕ) (cert : Cert) → KeepsAccepted old new → IsCertificate old c number hash cert → IsCertificate new c number hash cert
IsCertificate-kept old new c number hash cert kept h =
    let statement = cert_statement c number hash cert in
    record {
      members = h.members;
      accepted = All-weaker (λ sig. IsTrue (old statement sig)) (λ sig. IsTrue (new statement sig)) (λ sig. kept statement sig) cert.sigs h.accepted;
      enough = h.enough;
    }

pub is_good_cert-kept : (old new : Accepts) (c : Config) (number : ℕ) (hash : List ℕ) (cert : Cert) → KeepsAccepted old new → is_good_cert old c number hash cert ≡ true → is_good_cert new c number hash cert ≡ true
is_good_cert-kept old new c number hash cert kept h =
    means-good new c number hash cert (IsCertificate-kept old new c number hash cert kept (good-means old c number hash cert h))
