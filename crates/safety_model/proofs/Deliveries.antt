-- Delivered blocks: their places in a ledger, and their certificates.
use Rattle.std.proofs.Common.{◌≡◌, ℕ, ◌+◌, ◌≤◌, Bool, true, false, ◌||◌, ◌&&◌, List, [], ◌∷◌, refl, sym, ap, subst, ◌∙◌, inl, inr, arith, Option, Some, None}
use Rattle.std.specs.Prelude.{◌==◌, nat_le}
use Rattle.std.specs.List.{list_all}
use Rattle.std.proofs.lemmas.Bool.{and_from, and_parts, eqb-true, leb-true, or_cases, or_left, or_right}
use Rattle.ord_types.specs.Hashes.{block_hash}
use Rattle.ord_types.specs.Members.{how_many_in, is_in, is_raft}
use Rattle.ord_types.specs.declared.values.Proof.TheVariants as proof_of
use Rattle.safety_model.specs.Blocks.{Block, Config}
use Rattle.safety_model.specs.Facts.{Cert, Proof, Fact, History, has, Stands, is_prepared, signers_of}
use Rattle.safety_model.specs.declared.fact.Fact.TheVariants.{Accepted, Prepared, Left, Reported, Entered, Delivered}
use Rattle.safety_model.specs.State.{Setup, block_or, config_of, delivered_by, height, last_delivered, last_or, tip}
use Rattle.safety_model.specs.Rules.{Allowed, HasQuorum, IsRun, bound_of, faulty, is_bft_proof, is_proof, quorum_of}
use Rattle.safety_model.proofs.Quorums.{how_many_more}
use Rattle.safety_model.proofs.Moments.{WasOnce, has_later, moment}
use Rattle.safety_model.proofs.StateFacts.{height_same, height_one}
use Rattle.safety_model.proofs.RuleFacts.{delivered_rules}
use Rattle.safety_model.proofs.OneView.{IsCertified}

-- each member of a list passes a test that all pass
all_at : (test : ℕ → Bool) (ids : List ℕ) (id : ℕ) → list_all test ids ≡ true → is_in id ids ≡ true → test id ≡ true
all_at test [] id all in' = (cc)
all_at test (x ∷ xs) id all in' =
    let p = and_parts (test x) (list_all test xs) all in
    elim (or_cases (x == id) (is_in id xs) in') [
      | inl y ↦ subst (λ id. test id ≡ true) (eqb-true x id y) p.0
      | inr n ↦ all_at test xs id p.1 n
    ]

-- a certificate's signers are a quorum that prepared
pub proof_certifies : (su : Setup) (g : History) (c : Config) (s : ℕ) (hash : List ℕ) (cert : Cert) → is_proof su g c c.number s hash cert ≡ true → IsCertified su g c cert.view s hash
proof_certifies su g c s hash cert h =
    let test : ℕ → Bool = λ signer. is_in signer c.members && (is_in signer su.byzantine || has (is_prepared signer c.number cert.view s hash) g) in
    let p = and_parts (list_all test (signers_of cert)) (nat_le (quorum_of c) (how_many_in (signers_of cert) c.members)) h in
    let enough = leb-true (quorum_of c) (how_many_in (signers_of cert) c.members) p.1 in
    let each : (m : ℕ) → is_in m (signers_of cert) ≡ true → (is_in m su.byzantine || has (is_prepared m c.number cert.view s hash) g) ≡ true =
    λ m y. (and_parts (is_in m c.members) (is_in m su.byzantine || has (is_prepared m c.number cert.view s hash) g) (all_at test (signers_of cert) m p.0 y)).1 in
    let more = how_many_more (λ m. is_in m (signers_of cert)) (λ m. is_in m su.byzantine || has (is_prepared m c.number cert.view s hash) g) c.members each in
    omega arith

or_mono : (b p q : Bool) → (p ≡ true → q ≡ true) → (b || p) ≡ true → (b || q) ≡ true
or_mono b p q f h = elim (or_cases b p h) [ inl y ↦ or_left b q y | inr n ↦ or_right b q (f n) ]

-- counts never fall
pub quorum_later : (byz : List ℕ) (c : Config) (kind : ℕ → Fact → Bool) (g h : History) → WasOnce g h → HasQuorum byz c (λ j. has (kind j) g) → HasQuorum byz c (λ j. has (kind j) h)
quorum_later byz c kind g h once q =
    let more = how_many_more (λ m. is_in m byz || has (kind m) g) (λ m. is_in m byz || has (kind m) h) c.members
    (λ m. or_mono (is_in m byz) (has (kind m) g) (has (kind m) h) (has_later (kind m) g h once)) in
    omega arith

-- in all of a run the nodes whose configuration has this number have this configuration
abbrev pub IsOnlyConfig : Setup → Config → History → Type 0
IsOnlyConfig su c h = (g : History) (i : ℕ) → WasOnce g h → (config_of su i g).number ≡ c.number → config_of su i g ≡ c

-- one of two holds, and not the first
pub or_other : (a b : Bool) → (a || b) ≡ true → a ≡ false → b ≡ true
or_other true b h e = (cc)
or_other false b h e = h

-- the proof is a certificate
bft_proof_certifies : (su : Setup) (g : History) (c : Config) (s : ℕ) (hash : List ℕ) (proof : Proof) → is_bft_proof su g c s hash proof ≡ true → (cert : Cert) × (proof ≡ proof_of.Bft cert) × IsCertified su g c cert.view s hash
bft_proof_certifies su g c s hash proof_of.Raft h = absurd (cc)
bft_proof_certifies su g c s hash (proof_of.Bft cert) h = (cert, refl, proof_certifies su g c s hash cert h)

-- a delivered block of a BFT configuration is certified
pub delivered_certified : (su : Setup) (h : History) (c : Config) → IsRun su h → IsOnlyConfig su c h → is_raft c ≡ false → (i : ℕ) (b : Block) (proof : Proof) → Stands h (Delivered i b proof) → b.meta.config ≡ c.number → (cert : Cert) × (proof ≡ proof_of.Bft cert) × IsCertified su h c cert.view b.header.number (block_hash b)
delivered_certified su h c run only bft i b proof st under =
    let m = moment su h (Delivered i b proof) run st in
    let rules = delivered_rules su m.at i b proof m.allowed in
    let named = eqb-true _ _ (and_parts (b.meta.config == (config_of su i m.at).number) _ rules.lawful).0 in
    let is : config_of su i m.at ≡ c = only m.at i m.once (sym named ∙ under) in
    let good = subst (λ c. (is_raft c || is_bft_proof su m.at c b.header.number (block_hash b) proof) ≡ true) is rules.bft in
    let r = bft_proof_certifies su m.at c b.header.number (block_hash b) proof (or_other (is_raft c) (is_bft_proof su m.at c b.header.number (block_hash b) proof) good bft) in
    let cert = r.0 in
    (cert, r.1, quorum_later su.byzantine c (λ j. is_prepared j c.number cert.view b.header.number (block_hash b)) m.at h m.once r.2)

-- and the configuration keeps its bound
pub delivered_bound : (su : Setup) (h : History) (c : Config) → IsRun su h → IsOnlyConfig su c h → is_raft c ≡ false → (i : ℕ) (b : Block) (proof : Proof) → Stands h (Delivered i b proof) → b.meta.config ≡ c.number → faulty su.byzantine c ≤ bound_of c
delivered_bound su h c run only bft i b proof st under =
    let m = moment su h (Delivered i b proof) run st in
    let rules = delivered_rules su m.at i b proof m.allowed in
    let named = eqb-true _ _ (and_parts (b.meta.config == (config_of su i m.at).number) _ rules.lawful).0 in
    let is : config_of su i m.at ≡ c = only m.at i m.once (sym named ∙ under) in
    let good = subst (λ c. (is_raft c || nat_le (faulty su.byzantine c) (bound_of c)) ≡ true) is rules.bound in
    leb-true (faulty su.byzantine c) (bound_of c) (or_other (is_raft c) (nat_le (faulty su.byzantine c) (bound_of c)) good bft)

-- a certificate stays one
signers_later : (su : Setup) (c : Config) (cert : Cert) (s : ℕ) (hash : List ℕ) (g h : History) → WasOnce g h → (ids : List ℕ)
    → list_all (λ signer. is_in signer c.members && (is_in signer su.byzantine || has (is_prepared signer c.number cert.view s hash) g)) ids ≡ true
    → list_all (λ signer. is_in signer c.members && (is_in signer su.byzantine || has (is_prepared signer c.number cert.view s hash) h)) ids ≡ true
signers_later su c cert s hash g h once [] all = refl
signers_later su c cert s hash g h once (x ∷ xs) all =
    let kind = is_prepared x c.number cert.view s hash in
    let test : ℕ → Bool = λ signer. is_in signer c.members && (is_in signer su.byzantine || has (is_prepared signer c.number cert.view s hash) g) in
    let p = and_parts (test x) (list_all test xs) all in
    let q = and_parts (is_in x c.members) (is_in x su.byzantine || has kind g) p.0 in
    and_from _ _ (and_from _ _ q.0 (or_mono (is_in x su.byzantine) (has kind g) (has kind h) (has_later kind g h once) q.1)) (signers_later su c cert s hash g h once xs p.1)

pub proof_later : (su : Setup) (c : Config) (s : ℕ) (hash : List ℕ) (proof : Proof) (g h : History) → WasOnce g h → is_bft_proof su g c s hash proof ≡ true → is_bft_proof su h c s hash proof ≡ true
proof_later su c s hash proof_of.Raft g h once y = absurd (cc)
proof_later su c s hash (proof_of.Bft cert) g h once y =
    let test : ℕ → Bool = λ signer. is_in signer c.members && (is_in signer su.byzantine || has (is_prepared signer c.number cert.view s hash) g) in
    let p = and_parts (list_all test (signers_of cert)) (nat_le (quorum_of c) (how_many_in (signers_of cert) c.members)) y in
    and_from _ _ (signers_later su c cert s hash g h once (signers_of cert) p.0) p.1

-- what a fact adds to a node's ledger: nothing, or the block of a fact that is the node's
pub data Adds (i : ℕ) (f : Fact) : Type 0 where
  Nothing : (blocks : delivered_by i f ≡ []) → ((last : Option (Block × Proof)) → last_or i f last ≡ last) → Adds i f
  One : (block : Block) (cert : Proof) → f ≡ Delivered i block cert → delivered_by i f ≡ block ∷ [] → ((last : Option (Block × Proof)) → last_or i f last ≡ Some (block, cert)) → Adds i f

adds_cases : (i j : ℕ) (b : Block) (c : Proof) (t : Bool) → (j == i) ≡ t → Adds i (Delivered j b c)
adds_cases i j b c true e =
    let same = eqb-true j i e in
    One b c (cc) (rw e) (λ last. rw e)
adds_cases i j b c false e = Nothing (rw e) (λ last. rw e)

pub adds : (i : ℕ) (f : Fact) → Adds i f
adds i (Delivered j b c) = adds_cases i j b c (j == i) refl
adds i (Accepted j e v s d) = Nothing refl (λ last. refl)
adds i (Prepared j e v s d) = Nothing refl (λ last. refl)
adds i (Left j e v) = Nothing refl (λ last. refl)
adds i (Reported j e v r) = Nothing refl (λ last. refl)
adds i (Entered j e v x choice) = Nothing refl (λ last. refl)

abbrev cert_or : Proof → Option (Block × Proof) → Proof
cert_or cert None = cert
cert_or cert (Some last) = last.1

pub last_stands : (i : ℕ) (h : History) (b : Block) (cert : Proof) → last_delivered i h ≡ Some (b, cert) → Stands h (Delivered i b cert)
last_stands i [] b cert is = (cc)
last_stands i (f ∷ h) b cert is =
    elim (adds i f) [
      | Nothing none same ↦ inr (last_stands i h b cert (sym (same (last_delivered i h)) ∙ is))
      | One b' cert' new one last ↦
          let both : Some (b', cert') ≡ Some (b, cert) = sym (last (last_delivered i h)) ∙ is in
          let block : b' ≡ b = ap (block_or b') both in
          let proof : cert' ≡ cert = ap (cert_or cert') both in
          inl (new ∙ ap (λ (b : Block). Delivered i b cert') block ∙ ap (λ (p : Proof). Delivered i b p) proof)
    ]

-- the last block's number is one below the height
pub tip_number : (su : Setup) (h : History) → IsRun su h → su.genesis.header.number ≡ 0 → (i : ℕ) → (tip su i h).header.number + 1 ≡ height i h
tip_number su [] run zero' i = omega arith
tip_number su (f ∷ h) run zero' i =
    elim (adds i f) [
      | Nothing none same ↦
          let before = tip_number su h run.1 zero' i in
          let len : height i (f ∷ h) ≡ height i h = height_same i f h none in
          let tips : tip su i (f ∷ h) ≡ tip su i h = ap (block_or su.genesis) (same (last_delivered i h)) in
          let numbers : (tip su i (f ∷ h)).header.number ≡ (tip su i h).header.number = ap (λ b. b.header.number) tips in
          omega arith
      | One b cert new one last ↦
          let rules = delivered_rules su h i b cert (subst (Allowed su h) new run.0) in
          let at_height = rules.number in
          let len : height i (f ∷ h) ≡ height i h + 1 = height_one i f h b one in
          let tips : tip su i (f ∷ h) ≡ b = ap (block_or su.genesis) (last (last_delivered i h)) in
          let numbers : (tip su i (f ∷ h)).header.number ≡ b.header.number = ap (λ b. b.header.number) tips in
          omega arith
    ]
