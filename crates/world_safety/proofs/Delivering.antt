-- A delivery that is due is allowed.
use Rattle.std.proofs.Common.{
  ◌≡◌,
  ℕ,
  ◌+◌,
  ◌^◌,
  ◌≤◌,
  Bool,
  true,
  false,
  ◌||◌,
  ◌&&◌,
  suc,
  List,
  [],
  ◌∷◌,
  map,
  length,
  cond,
  refl,
  sym,
  subst,
  ap,
  ◌∙◌,
  inl,
  inr,
  Option,
  Some,
  None,
  arith,
}
use Rattle.std.specs.Prelude.{◌==◌, nat_le, nat_lt, filter_map}
use Rattle.std.specs.List.{AllByRecursion, list_all, cons_option}
use Rattle.std.specs.Str.{bytes_eq}
use Rattle.std.proofs.lemmas.Bool.{
  or_left,
  or_right,
  or_cases,
  and_parts,
  and_from,
  eqb-true,
  eq-eqb,
  leb-true,
  ltb-true,
  le-leb,
}
use Rattle.ord_types.specs.Grammar.{HasIdsSpelling, HasSigSpelling, IsNumber}
use Rattle.ord_types.specs.Hashes.{block_hash, content_hash}
use Rattle.ord_types.specs.Members.{how_many, how_many_in, is_in, is_raft}
use Rattle.safety_model.specs.Blocks.{
  Block,
  Config,
  Request,
  content_fits,
  has_number,
  hashes_fit,
  have_room,
  is_lawful,
  is_next_at,
  meta_fits,
}
use Rattle.safety_model.specs.Facts.{Cert, History, Sig, has, is_prepared, signers_of}
use Rattle.safety_model.specs.State.{Setup, height, tip, config_of}
use Rattle.safety_model.specs.Rules.{is_proof, quorum_of}
use Rattle.safety_model.proofs.FactTests.{bytes_same}
use Rattle.view_model.specs.declared.letter.VoteMessage.TheVariants as message_of
use Rattle.view_model.specs.declared.letter.Letter.{Letter}
use Rattle.view_model.specs.declared.letter.VoteMessage.{VoteMessage}
use Rattle.view_model.specs.Letters.{is_commit_for}
use Rattle.view_model.specs.Leading.{Place}
use Rattle.view_model.specs.Checks.{is_next_block}
use Rattle.view_model.specs.Acts.{
  View,
  certificate,
  commits,
  delivery_due,
  delivery_if,
  first_of,
  kept_sig,
  sig_in,
}
use Rattle.world_safety.specs.Fits.{CertFits}
use Rattle.world_safety.proofs.Ids.{IsSigOf, cert_fits}
use Rattle.world_safety.proofs.Standing.{DeliveriesAreAllowed, IsKeptWell, Stands}

-- the members' signatures, one after the other
all_named : (P : ℕ → Bool) (f : ℕ → Option Sig) (xs : List ℕ) → ((m : ℕ) → is_in m xs ≡ true → (sig : Sig)
    → f m ≡ Some sig → P sig.signer ≡ true) → list_all P (map (λ (s : Sig). s.signer) (filter_map f xs))
    ≡ true
all_named P f [] each = refl
all_named P f (x ∷ xs) each =
    step (all_named P f xs (λ m is sig fm. each m (or_right _ _ is) sig fm)) (f x) refl
  where
    step : list_all P (map (λ (s : Sig). s.signer) (filter_map f xs)) ≡ true → (o : Option Sig) → f x ≡ o
        → list_all P (map (λ (s : Sig). s.signer) (cons_option o (filter_map f xs))) ≡ true
    step rest None e = rest
    step rest (Some sig) e = and_from _ _ (each x (or_left _ _ (eq-eqb x x refl)) sig e) rest

-- a member with a signature is among the signers
pub is_signer : (f : ℕ → Option Sig) (m : ℕ) (sig : Sig) (xs : List ℕ) → f m ≡ Some sig → sig.signer ≡ m
    → is_in m xs ≡ true → is_in m (map (λ (s : Sig). s.signer) (filter_map f xs)) ≡ true
is_signer f m sig [] fm named is = absurd (cc)
is_signer f m sig (x ∷ xs) fm named is =
    elim (or_cases (x == m) (is_in m xs) is) [
      | inl here ↦
          let same : x ≡ m = eqb-true x m here in
          let fx : f x ≡ Some sig = ap f same ∙ fm in
          subst (λ o. is_in m (map (λ (s : Sig). s.signer) (cons_option o (filter_map f xs))) ≡ true)
          (sym fx) (or_left _ _ (eq-eqb _ _ named))
      | inr there ↦ more (f x) (is_signer f m sig xs fm named there)
    ]
  where
    more : (o : Option Sig) → is_in m (map (λ (s : Sig). s.signer) (filter_map f xs)) ≡ true
        → is_in m (map (λ (s : Sig). s.signer) (cons_option o (filter_map f xs))) ≡ true
    more None h = h
    more (Some s) h = or_right _ _ h

-- as many members pass a test as have signatures, where each of these passes it
pub as_many : (q : ℕ → Bool) (f : ℕ → Option Sig) (xs : List ℕ) → ((m : ℕ) → is_in m xs ≡ true → (sig : Sig)
    → f m ≡ Some sig → q m ≡ true) → length (filter_map f xs) ≤ how_many q xs
as_many q f [] each = omega arith
as_many q f (x ∷ xs) each = step (as_many q f xs (λ m is sig fm. each m (or_right _ _ is) sig fm)) (f x) refl
  where
    step : length (filter_map f xs) ≤ how_many q xs → (o : Option Sig) → f x ≡ o
        → length (cons_option o (filter_map f xs)) ≤ cond (q x) 1 0 + how_many q xs
    step rest None e = omega (arith, rest)
    step rest (Some sig) e =
        let yes : true ≡ q x = sym (each x (or_left _ _ (eq-eqb x x refl)) sig e) in
        let P : Bool → Type 0 = λ b. suc (length (filter_map f xs)) ≤ cond b 1 0 + how_many q xs in
        let one : P true = omega (arith, rest) in
        subst P yes one

-- what stands behind a member's signature: it names the member, has a spelling, and a correct member
-- prepared the digest
record Behind (su : Setup) (h : History) (j e v s : ℕ) (d : List ℕ) (sig : Sig) : Type 0 where
  signer : sig.signer ≡ j
  spelled : HasSigSpelling sig
  ground : (is_in j su.byzantine || has (is_prepared j e v s d) h) ≡ true

behind_one : (su : Setup) (h : History) (j e v s : ℕ) (d : List ℕ) (sig : Sig) (from : ℕ) (m : VoteMessage)
    → ((from == j) && is_commit_for s d m) ≡ true → sig_in m ≡ Some sig
    → IsKeptWell su h e v s (record { from = from; message = m }) → Behind su h j e v s d sig
behind_one su h j e v s d sig from (message_of.PrePrepare m) is at ok =
    absurd (let p = (and_parts (from == j) false is).1 in cc)
behind_one su h j e v s d sig from (message_of.Prepare m) is at ok =
    absurd (let p = (and_parts (from == j) false is).1 in cc)
behind_one su h j e v s d sig from (message_of.Commit m) is at ok =
    let p = and_parts (from == j) ((m.number == s) && bytes_eq m.digest d) is in
    let q = and_parts (m.number == s) (bytes_eq m.digest d) p.1 in
    let o1 = and_parts ((m.config == e) && (m.view == v)) _ ok.of_view in
    let o2 = and_parts (m.config == e) (m.view == v) o1.0 in
    let P : ℕ → ℕ → ℕ → ℕ → List ℕ → Type 0 =
    λ j e v s d. (is_in j su.byzantine || has (is_prepared j e v s d) h) ≡ true in
    let a : P j m.config m.view m.number m.digest = subst (λ j. P j m.config m.view m.number m.digest)
    (eqb-true from j p.0) ok.rests in
    let b : P j e m.view m.number m.digest = subst (λ e. P j e m.view m.number m.digest)
    (eqb-true m.config e o2.0) a in
    let c : P j e v m.number m.digest = subst (λ v. P j e v m.number m.digest) (eqb-true m.view v o2.1) b in
    let f : P j e v s m.digest = subst (λ s. P j e v s m.digest) (eqb-true m.number s q.0) c in
    let same : m.sig ≡ sig = cc in
    record {
      signer = ap (λ (g : Sig). g.signer) (sym same) ∙ eqb-true _ _ ok.named ∙ eqb-true from j p.0;
      spelled = subst HasSigSpelling same ok.fits.sig;
      ground =
          subst (λ d. P j e v s d) (bytes_same m.digest d q.1) f;
    }

behind : (su : Setup) (h : History) (j e v s : ℕ) (d : List ℕ) (sig : Sig) (letters : List Letter)
    → AllByRecursion (IsKeptWell su h e v s) letters
    → kept_sig s d letters j ≡ Some sig → Behind su h j e v s d sig
behind su h j e v s d sig [] ok is = absurd (cc)
behind su h j e v s d sig (l ∷ ls) ok is =
    here ((l.from == j) && is_commit_for s d l.message) refl (behind su h j e v s d sig ls ok.1) is
  where
    other : (o : Option Sig) → sig_in l.message ≡ o → ((l.from == j) && is_commit_for s d l.message) ≡ true
        → (kept_sig s d ls j ≡ Some sig → Behind su h j e v s d sig)
        → first_of o (kept_sig s d ls j) ≡ Some sig → Behind su h j e v s d sig
    other None o is rest at = rest at
    other (Some x) o is rest at = behind_one su h j e v s d sig l.from l.message is (o ∙ at) ok.0

    here : (t : Bool) → ((l.from == j) && is_commit_for s d l.message) ≡ t
        → (kept_sig s d ls j ≡ Some sig → Behind su h j e v s d sig)
        → first_of (cond t (sig_in l.message) None) (kept_sig s d ls j) ≡ Some sig → Behind su h j e v s d sig
    here true is rest at = other (sig_in l.message) refl is rest at
    here false is rest at = rest at

none_some : {X : Type 0} {x : X} → None ≡ Some x → ⊥
none_some h = cc

value_or : {X : Type 0} → X → Option X → X
value_or d None = d
value_or d (Some x) = x

pub some_same : {X : Type 0} {x y : X} → Some x ≡ Some y → x ≡ y
unfolding value_or
some_same {x = x} h = ap (value_or x) h

-- what a delivery has that is due
pub record Due (place : Place) (w : View) (b : Block) (cert : Cert) : Type 0 where
  pub accepted : w.accepted ≡ Some b
  pub bft : is_raft place.config ≡ false
  pub quorum : nat_le (quorum_of place.config) (length (commits place w (block_hash b))) ≡ true
  pub next : is_next_block place b ≡ true
  pub cert_is : certificate place w b ≡ cert

due_if : (place : Place) (w : View) (b x : Block) (cert : Cert) (t : Bool) → w.accepted ≡ Some x
    → is_raft place.config ≡ false
    → (nat_le (quorum_of place.config) (length (commits place w (block_hash x))) && is_next_block place x) ≡ t
    → cond {A = Option (Block × Cert)} t (Some (x, certificate place w x)) None ≡ Some (b, cert)
    → Due place w b cert
due_if place w b x cert false at bft is h = absurd (cc)
due_if place w b x cert true at bft is h =
    let p = and_parts (nat_le (quorum_of place.config) (length (commits place w (block_hash x))))
    (is_next_block place x) is in
    let pair : (x, certificate place w x) ≡ (b, cert) = some_same h in
    let block : x ≡ b = ap (λ (q : Block × Cert). q.0) pair in
    let certs : certificate place w x ≡ cert = ap (λ (q : Block × Cert). q.1) pair in
    record {
      accepted = at ∙ ap (λ (b : Block). Some b) block;
      bft = bft;
      quorum = subst (λ b. nat_le (quorum_of place.config) (length (commits place w (block_hash b))) ≡ true)
          block p.0;
      next = subst (λ b. is_next_block place b ≡ true) block p.1;
      cert_is = ap (λ b. certificate place w b) (sym block) ∙ certs;
    }

due_some : (place : Place) (w : View) (b : Block) (cert : Cert) (o : Option Block) → w.accepted ≡ o
    → is_raft place.config ≡ false → delivery_if place w o ≡ Some (b, cert) → Due place w b cert
due_some place w b cert None at bft h = absurd (none_some h)
due_some place w b cert (Some x) at bft h =
    due_if place w b x cert (nat_le (quorum_of place.config) (length (commits place w (block_hash x)))
    && is_next_block place x) at bft refl h

pub due_is : (place : Place) (w : View) (b : Block) (cert : Cert) (t : Bool) → is_raft place.config ≡ t
    → cond t None (delivery_if place w w.accepted) ≡ Some (b, cert) → Due place w b cert
due_is place w b cert true is h = absurd (none_some h)
due_is place w b cert false is h = due_some place w b cert w.accepted refl is h

-- what a next block has
pub record Next (place : Place) (b : Block) : Type 0 where
  pub number : b.header.number ≡ place.height
  pub below : IsNumber place.height
  pub few : length b.requests ≤ 1000

pub next_is : (place : Place) (b : Block) → is_next_block place b ≡ true → Next place b
next_is place b h =
    let a = and_parts (has_number place.height b && bytes_eq b.header.previous place.last && hashes_fit b)
    (is_lawful place.config b) h in
    let c = and_parts (has_number place.height b && bytes_eq b.header.previous place.last) (hashes_fit b)
    a.0 in
    let d = and_parts (has_number place.height b) (bytes_eq b.header.previous place.last) c.0 in
    let e = and_parts (b.header.number == place.height) (nat_lt place.height (2 ^ 62)) d.0 in
    let f = and_parts (content_fits b) (meta_fits b) c.1 in
    let g = and_parts (have_room b.requests) (bytes_eq b.header.content (content_hash b.requests)) f.0 in
    let r = and_parts (nat_le (length b.requests) 1000)
    (list_all (λ (r : Request). nat_le (length r.payload) 65536) b.requests) g.0 in
    record { number = eqb-true _ _ e.0; below = ltb-true _ _ e.1; few = leb-true _ _ r.0 }

-- what is delivered was accepted, and is the block of the height
pub delivery_is : (place : Place) (w : View) (b : Block) (cert : Cert) → delivery_due place w
    ≡ Some (b, cert) → (w.accepted ≡ Some b) × (b.header.number ≡ place.height)
delivery_is place w b cert is =
    let due = due_is place w b cert (is_raft place.config) refl is in
    (due.accepted, (next_is place b due.next).number)

-- its certificate has a spelling
pub delivery_spelled : (su : Setup) (h : History) (i : ℕ) (place : Place) (w : View) (b : Block)
    (cert : Cert) → Stands su h i place w → IsNumber w.view → HasIdsSpelling place.config.members
    → delivery_due place w ≡ Some (b, cert) → CertFits cert
delivery_spelled su h i place w b cert st small members is =
    let due = due_is place w b cert (is_raft place.config) refl is in
    let d = block_hash b in
    let each : (m : ℕ) (sig : Sig) → kept_sig place.height d w.kept m ≡ Some sig → IsSigOf m sig =
    λ m sig fm. (let one = behind su h m place.config.number w.view place.height d sig w.kept st.kept fm in
    record { signer = one.signer; spelled = one.spelled }) in
    subst CertFits due.cert_is (cert_fits (kept_sig place.height d w.kept) each w.view place.config.members
    small members)

-- the certificate's signers are enough members that prepared
proved : (su : Setup) (h : History) (i : ℕ) (place : Place) (w : View) (b : Block) → Stands su h i place w
    → nat_le (quorum_of place.config) (length (commits place w (block_hash b))) ≡ true
    → is_proof su h place.config place.config.number place.height (block_hash b) (certificate place w b)
    ≡ true
proved su h i place w b st enough =
    let c = place.config in
    let e = c.number in
    let v = w.view in
    let s = place.height in
    let d = block_hash b in
    let f = kept_sig s d w.kept in
    let each : (m : ℕ) (sig : Sig) → f m ≡ Some sig → Behind su h m e v s d sig =
    λ m sig fm. behind su h m e v s d sig w.kept st.kept fm in
    let P : ℕ → Bool = λ signer. is_in signer c.members
    && (is_in signer su.byzantine || has (is_prepared signer e v s d) h) in
    let one : (m : ℕ) → is_in m c.members ≡ true → (sig : Sig) → f m ≡ Some sig → P sig.signer ≡ true =
    λ m is sig fm. subst (λ m. P m ≡ true) (sym (each m sig fm).signer)
    (and_from _ _ is (each m sig fm).ground) in
    let all = all_named P f c.members one in
    let many = as_many (λ id. is_in id (signers_of (certificate place w b))) f c.members
    (λ m is sig fm. is_signer f m sig c.members fm (each m sig fm).signer is) in
    let quorum = leb-true (quorum_of c) (length (commits place w d)) enough in
    and_from _ _ all (le-leb (quorum_of c) (how_many_in (signers_of (certificate place w b)) c.members)
    (omega (arith, many, quorum)))

pub deliveries_allowed : DeliveriesAreAllowed
deliveries_allowed su h i place w b cert st last bounded is =
    let due = due_is place w b cert (is_raft place.config) refl is in
    let next = next_is place b due.next in
    let c = config_of su i h in
    let tip_is : place.last ≡ block_hash (tip su i h) = last.last in
    let at : b.header.number ≡ height i h = next.number ∙ st.height in
    let number : (b.header.number == height i h) ≡ true = eq-eqb _ _ at in
    let up : place.height ≡ (tip su i h).header.number + 1 = st.height ∙ sym last.number in
    let follows : is_next_at (block_hash (tip su i h)) ((tip su i h).header.number + 1) c b ≡ true =
    subst (λ x. is_next_at x ((tip su i h).header.number + 1) c b ≡ true) tip_is
    (subst (λ n. is_next_at place.last n c b ≡ true) up (subst (λ c. is_next_at place.last place.height c b
    ≡ true) st.config due.next)) in
    let one : is_proof su h place.config place.config.number place.height (block_hash b)
    (certificate place w b) ≡ true = proved su h i place w b st due.quorum in
    let two : is_proof su h place.config place.config.number b.header.number (block_hash b)
    (certificate place w b) ≡ true =
    subst (λ s. is_proof su h place.config place.config.number s (block_hash b) (certificate place w b)
    ≡ true) (sym next.number) one in
    let three : is_proof su h place.config place.config.number b.header.number (block_hash b) cert ≡ true =
    subst (λ cert. is_proof su h place.config place.config.number b.header.number (block_hash b) cert
    ≡ true) due.cert_is two in
    let proof : is_proof su h c c.number b.header.number (block_hash b) cert ≡ true =
    subst (λ (c : Config). is_proof su h c c.number b.header.number (block_hash b) cert ≡ true) st.config
    three in
    (bounded.correct, (bounded.bound, (number, (follows, (or_right _ _ proof, tt)))))
