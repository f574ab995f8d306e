-- A delivery that is due has a good certificate, where the kept Commits are signed.
use Rattle.std.proofs.Common.{
  ◌≡◌,
  ℕ,
  Bool,
  true,
  false,
  ◌&&◌,
  List,
  [],
  ◌∷◌,
  length,
  cond,
  refl,
  sym,
  subst,
  ap,
  ◌∙◌,
  Option,
  Some,
  None,
  arith,
}
use Rattle.std.specs.Prelude.{◌==◌, nat_le, filter_map}
use Rattle.std.specs.List.{AllByRecursion, list_all, cons_option}
use Rattle.std.specs.Str.{bytes_eq}
use Rattle.std.proofs.lemmas.Bool.{or_left, or_right, and_parts, and_from, eqb-true, eq-eqb, leb-true, le-leb}
use Rattle.ord_types.specs.Hashes.{block_hash}
use Rattle.ord_types.specs.Members.{how_many_in, is_in, is_raft, quorum}
use Rattle.safety_model.specs.Blocks.{Block}
use Rattle.safety_model.specs.Facts.{Cert, Sig}
use Rattle.safety_model.proofs.FactTests.{bytes_same}
use Rattle.signer_edge.specs.Accepts.{Accepts}
use Rattle.signer_edge.specs.Certificates.{is_good_cert, signers_of}
use Rattle.signer_edge.specs.Statements.{commit_text}
use Rattle.view_model.specs.declared.letter.VoteMessage.TheVariants as message_of
use Rattle.view_model.specs.declared.letter.Letter.{Letter}
use Rattle.view_model.specs.Answers.{is_signed}
use Rattle.view_model.specs.declared.letter.VoteMessage.{VoteMessage}
use Rattle.view_model.specs.Letters.{is_commit_for}
use Rattle.view_model.specs.Leading.{Place}
use Rattle.view_model.specs.Acts.{View, certificate, commits, delivery_due, first_of, kept_sig, sig_in}
use Rattle.node_model.specs.Keeping.{is_of_view}
use Rattle.world_safety.proofs.Delivering.{as_many, due_is, is_signer, next_is}

-- a Commit's signature is its sender's, and accepted
abbrev pub IsSignedLetter : Accepts → Letter → Type 0
IsSignedLetter accepts letter = is_signed accepts letter.from letter.message ≡ true

-- and the letter is of this configuration and view, near this height
pub record IsKeptSigned (accepts : Accepts) (e v s : ℕ) (letter : Letter) : Type 0 where
  pub signed : IsSignedLetter accepts letter
  pub of_view : is_of_view e v s letter ≡ true

-- a member's signature that is accepted on the statement
record IsMembers (accepts : Accepts) (j : ℕ) (statement : List ℕ) (sig : Sig) : Type 0 where
  signer : sig.signer ≡ j
  accepted : accepts statement sig ≡ true

members_one : (accepts : Accepts) (j e v s : ℕ) (d : List ℕ) (sig : Sig) (from : ℕ) (m : VoteMessage)
    → ((from == j) && is_commit_for s d m) ≡ true → sig_in m ≡ Some sig
    → IsKeptSigned accepts e v s (record { from = from; message = m })
    → IsMembers accepts j (commit_text e v s d) sig
members_one accepts j e v s d sig from (message_of.PrePrepare m) is at ok =
    absurd (let p = (and_parts (from == j) false is).1 in cc)
members_one accepts j e v s d sig from (message_of.Prepare m) is at ok =
    absurd (let p = (and_parts (from == j) false is).1 in cc)
members_one accepts j e v s d sig from (message_of.Commit m) is at ok =
    let p = and_parts (from == j) ((m.number == s) && bytes_eq m.digest d) is in
    let q = and_parts (m.number == s) (bytes_eq m.digest d) p.1 in
    let o1 = and_parts ((m.config == e) && (m.view == v)) _ ok.of_view in
    let o2 = and_parts (m.config == e) (m.view == v) o1.0 in
    let both = and_parts (m.sig.signer == from) (accepts (commit_text m.config m.view m.number m.digest)
    m.sig) ok.signed in
    let P : ℕ → ℕ → ℕ → List ℕ → Type 0 = λ e v s d. accepts (commit_text e v s d) m.sig ≡ true in
    let a : P e m.view m.number m.digest = subst (λ e. P e m.view m.number m.digest)
    (eqb-true m.config e o2.0) both.1 in
    let b : P e v m.number m.digest = subst (λ v. P e v m.number m.digest) (eqb-true m.view v o2.1) a in
    let c : P e v s m.digest = subst (λ s. P e v s m.digest) (eqb-true m.number s q.0) b in
    let f : P e v s d = subst (λ d. P e v s d) (bytes_same m.digest d q.1) c in
    let same : m.sig ≡ sig = cc in
    record {
      signer = ap (λ (g : Sig). g.signer) (sym same) ∙ eqb-true _ _ both.0 ∙ eqb-true from j p.0;
      accepted = subst (λ sig. accepts (commit_text e v s d) sig ≡ true) same f;
    }

members_sig : (accepts : Accepts) (j e v s : ℕ) (d : List ℕ) (sig : Sig) (letters : List Letter)
    → AllByRecursion (IsKeptSigned accepts e v s) letters
    → kept_sig s d letters j ≡ Some sig → IsMembers accepts j (commit_text e v s d) sig
members_sig accepts j e v s d sig [] ok is = absurd (cc)
members_sig accepts j e v s d sig (l ∷ ls) ok is =
    here ((l.from == j) && is_commit_for s d l.message) refl (members_sig accepts j e v s d sig ls ok.1) is
  where
    other : (o : Option Sig) → sig_in l.message ≡ o → ((l.from == j) && is_commit_for s d l.message) ≡ true
        → (kept_sig s d ls j ≡ Some sig → IsMembers accepts j (commit_text e v s d) sig)
        → first_of o (kept_sig s d ls j) ≡ Some sig → IsMembers accepts j (commit_text e v s d) sig
    other None o is rest at = rest at
    other (Some x) o is rest at = members_one accepts j e v s d sig l.from l.message is (o ∙ at) ok.0

    here : (t : Bool) → ((l.from == j) && is_commit_for s d l.message) ≡ t
        → (kept_sig s d ls j ≡ Some sig → IsMembers accepts j (commit_text e v s d) sig)
        → first_of (cond t (sig_in l.message) None) (kept_sig s d ls j) ≡ Some sig
        → IsMembers accepts j (commit_text e v s d) sig
    here true is rest at = other (sig_in l.message) refl is rest at
    here false is rest at = rest at

-- the members' signatures, one after the other
all_sigs : (P : Sig → Bool) (f : ℕ → Option Sig) (xs : List ℕ) → ((m : ℕ) → is_in m xs ≡ true → (sig : Sig)
    → f m ≡ Some sig → P sig ≡ true) → list_all P (filter_map f xs) ≡ true
all_sigs P f [] each = refl
all_sigs P f (x ∷ xs) each =
    step (all_sigs P f xs (λ m is sig fm. each m (or_right _ _ is) sig fm)) (f x) refl
  where
    step : list_all P (filter_map f xs) ≡ true → (o : Option Sig) → f x ≡ o
        → list_all P (cons_option o (filter_map f xs)) ≡ true
    step rest None e = rest
    step rest (Some sig) e = and_from _ _ (each x (or_left _ _ (eq-eqb x x refl)) sig e) rest

certificate_good : (accepts : Accepts) (place : Place) (w : View) (b : Block)
    → AllByRecursion (IsKeptSigned accepts place.config.number w.view place.height) w.kept
    → nat_le (quorum (length place.config.members)) (length (commits place w (block_hash b))) ≡ true
    → is_good_cert accepts place.config place.height (block_hash b) (certificate place w b) ≡ true
certificate_good accepts place w b kept enough =
    let c = place.config in
    let d = block_hash b in
    let statement = commit_text c.number w.view place.height d in
    let f = kept_sig place.height d w.kept in
    let each : (m : ℕ) (sig : Sig) → f m ≡ Some sig → IsMembers accepts m statement sig =
    λ m sig fm. members_sig accepts m c.number w.view place.height d sig w.kept kept fm in
    let P : Sig → Bool = λ sig. is_in sig.signer c.members && accepts statement sig in
    let one : (m : ℕ) → is_in m c.members ≡ true → (sig : Sig) → f m ≡ Some sig → P sig ≡ true =
    λ m is sig fm. and_from _ _ (subst (λ m. is_in m c.members ≡ true) (sym (each m sig fm).signer) is)
    (each m sig fm).accepted in
    let all = all_sigs P f c.members one in
    let many = as_many (λ id. is_in id (signers_of (certificate place w b))) f c.members
    (λ m is sig fm. is_signer f m sig c.members fm (each m sig fm).signer is) in
    let quorum_le = leb-true (quorum (length c.members)) (length (commits place w d)) enough in
    and_from _ _ all (le-leb (quorum (length c.members)) (how_many_in (signers_of (certificate place w b))
    c.members) (omega (arith, many, quorum_le)))

-- what is delivered has a good certificate
pub delivery_good : (accepts : Accepts) (place : Place) (w : View) (b : Block) (cert : Cert)
    → AllByRecursion (IsKeptSigned accepts place.config.number w.view place.height) w.kept
    → delivery_due place w ≡ Some (b, cert) → is_good_cert accepts place.config b.header.number
    (block_hash b) cert ≡ true
delivery_good accepts place w b cert kept is =
    let due = due_is place w b cert (is_raft place.config) refl is in
    let next = next_is place b due.next in
    let one = certificate_good accepts place w b kept due.quorum in
    let two = subst (λ s. is_good_cert accepts place.config s (block_hash b) (certificate place w b) ≡ true)
    (sym next.number) one in
    subst (λ cert. is_good_cert accepts place.config b.header.number (block_hash b) cert ≡ true) due.cert_is
    two
