-- When a fact is allowed after others. The numbers are those of the table of rules in docs/MODEL.md.
use Rattle.std.specs.Prelude.{ℕ, ◌+◌, Bool, false, ◌&&◌, ◌||◌, ◌==◌, nat_lt, nat_le, not, ◌≤◌, List, [], ◌∷◌, ◌++◌, length, Option, Some, None, IsTrue, if◌then◌else◌, ⊤}
use Rattle.std.specs.List.{list_all, AllByRecursion}
pub use Rattle.ord_types.specs.Members.{quorum_of}
use Rattle.ord_types.specs.Members.{fault_bound, how_many, how_many_in, is_in, is_raft}
use Rattle.ord_types.specs.Hashes.{block_hash}
use Rattle.ord_types.specs.declared.values.Proof.TheVariants as proof_of
use Rattle.ord_types.specs.declared.values.Choice.TheVariants.{Carry, Free, Neither}
use Rattle.safety_model.specs.Blocks.{Block, Config, is_next_at}
use Rattle.safety_model.specs.Facts.{Cert, Choice, Proof, Report, Fact, History, has, is_accepted, is_accepted_at, is_entered_against, is_prepared, is_reported, signers_of}
use Rattle.safety_model.specs.declared.fact.Fact.TheVariants.{Accepted, Prepared, Left, Reported, Entered, Delivered}
use Rattle.safety_model.specs.Reports.{is_true_report, tells_accepted, tells_at_most, tells_none}
use Rattle.safety_model.specs.State.{Setup, height, tip, config_of, is_inside, last_delivered, left, view}

-- how many members of the configuration may be Byzantine
abbrev pub bound_of : Config → ℕ
bound_of c = fault_bound (length c.members)

-- how many members are Byzantine or have the property
abbrev pub count : List ℕ → Config → (ℕ → Bool) → ℕ
count byzantine c property = how_many (λ member. is_in member byzantine || property member) c.members

-- how many members are Byzantine
abbrev pub faulty : List ℕ → Config → ℕ
faulty byzantine c = how_many (λ member. is_in member byzantine) c.members

-- at least a quorum of the members is Byzantine or has the property
abbrev pub HasQuorum : List ℕ → Config → (ℕ → Bool) → Type 0
HasQuorum byzantine c property = quorum_of c ≤ count byzantine c property

-- a quorum accepted the digest
abbrev pub is_backed : Setup → History → Config → ℕ → ℕ → ℕ → List ℕ → Bool
is_backed su h c e v s d = nat_le (quorum_of c) (count su.byzantine c (λ j. has (is_accepted j e v s d) h))

-- how many members are Byzantine or reported for view v at height x what tells something
abbrev pub reporters : Setup → History → Config → ℕ → ℕ → ℕ → (Report → Bool) → ℕ
reporters su h c e v x tells = count su.byzantine c (λ j. has (is_reported j e v x tells) h)

-- the proof is a certificate of view v
abbrev pub is_cert_of : ℕ → Proof → Bool
is_cert_of v proof_of.Raft = false
is_cert_of v (proof_of.Bft cert) = cert.view == v

-- the last block was ordered under configuration e, with a certificate of view v
abbrev pub is_last_certified_in : ℕ → ℕ → Option (Block × Proof) → Bool
is_last_certified_in e v None = false
is_last_certified_in e v (Some last) = (last.0.meta.config == e) && is_cert_of v last.1

-- What was reported supports node i's entry into view v at number x with this choice (Castro and Liskov 2002).
-- A vote is carried where it is of a lower view, a quorum tells no preparation, a lower one or the vote, and more
-- than the bound tell its acceptance in its view or above. The choice is free where a quorum tells no preparation,
-- or where the node's last block has a certificate of view v.
abbrev pub is_supported : Setup → History → ℕ → Config → ℕ → ℕ → ℕ → Choice → Bool
is_supported su h i c e v x (Carry vote) =
    nat_lt vote.view v
    && nat_le (quorum_of c) (reporters su h c e v x (tells_at_most vote))
    && nat_lt (bound_of c) (reporters su h c e v x (tells_accepted vote))
is_supported su h i c e v x Free =
    nat_le (quorum_of c) (reporters su h c e v x tells_none)
    || ((x == height i h) && is_last_certified_in e v (last_delivered i h))
is_supported su h i c e v x Neither = false

-- the signers are at least a quorum of distinct members, of whom the correct ones prepared the hash
abbrev pub is_proof : Setup → History → Config → ℕ → ℕ → List ℕ → Cert → Bool
is_proof su h c e s hash cert =
    list_all (λ signer. is_in signer c.members && (is_in signer su.byzantine || has (is_prepared signer e cert.view s hash) h)) (signers_of cert)
    && nat_le (quorum_of c) (how_many_in (signers_of cert) c.members)

-- the proof of a block that a BFT configuration ordered
abbrev pub is_bft_proof : Setup → History → Config → ℕ → List ℕ → Proof → Bool
is_bft_proof su h c s hash proof_of.Raft = false
is_bft_proof su h c s hash (proof_of.Bft cert) = is_proof su h c c.number s hash cert

-- nobody lies while Raft orders
abbrev pub is_correct : Setup → Config → ℕ → Bool
is_correct su c i = is_raft c || not (is_in i su.byzantine)

-- under BFT no more members lie than the bound allows
abbrev pub keeps_bound : Setup → Config → Bool
keeps_bound su c = is_raft c || nat_le (faulty su.byzantine c) (bound_of c)

-- the tests that all facts of members under BFT share, each with the number of its rule
abbrev pub member_tests : Setup → Config → ℕ → ℕ → List (ℕ × Bool)
member_tests su c i e =
    (1, is_correct su c i) ∷
    (2, keeps_bound su c) ∷
    (3, is_in i c.members) ∷
    (4, not (is_raft c) && (c.number == e)) ∷ []

-- the tests that acceptances and preparations share
abbrev pub vote_tests : Setup → History → Config → ℕ → ℕ → ℕ → ℕ → List (ℕ × Bool)
vote_tests su h c i e v s =
    member_tests su c i e ++
    (5, s == height i h) ∷
    (6, is_inside i e v h) ∷ []

-- the tests of a fact of a node under configuration c, each with the number of its rule
abbrev pub tests_under : Setup → History → Config → Fact → List (ℕ × Bool)
tests_under su h c (Accepted i e v s d) =
    vote_tests su h c i e v s ++
    (7, not (has (is_accepted_at i e v s) h)) ∷
    (8, not (has (is_entered_against i e v s d) h)) ∷ []
tests_under su h c (Prepared i e v s d) =
    vote_tests su h c i e v s ++ (9, has (is_accepted i e v s d) h && is_backed su h c e v s d) ∷ []
tests_under su h c (Left i e v) =
    member_tests su c i e ++ (10, nat_lt (view i e h) v && nat_lt (left i e h) v) ∷ []
tests_under su h c (Reported i e v r) =
    member_tests su c i e ++
    (11, (v == left i e h) && nat_lt (view i e h) v) ∷
    (12, is_true_report i e h r) ∷ []
tests_under su h c (Entered i e v x choice) =
    (1, is_correct su c i) ∷
    (2, keeps_bound su c) ∷
    (4, not (is_raft c) && (c.number == e)) ∷
    (13, nat_lt (view i e h) v && nat_le (left i e h) v && nat_le x (height i h)) ∷
    (14, is_supported su h i c e v x choice) ∷ []
tests_under su h c (Delivered i b proof) =
    (1, is_correct su c i) ∷
    (2, keeps_bound su c) ∷
    (5, b.header.number == height i h) ∷
    (15, is_next_at (block_hash (tip su i h)) ((tip su i h).header.number + 1) c b) ∷
    (16, is_raft c || is_bft_proof su h c b.header.number (block_hash b) proof) ∷ []

-- whose act it is
abbrev pub actor : Fact → ℕ
actor (Accepted i e v s d) = i
actor (Prepared i e v s d) = i
actor (Left i e v) = i
actor (Reported i e v r) = i
actor (Entered i e v x choice) = i
actor (Delivered i b proof) = i

-- the tests of a fact under the configuration in force for its actor
abbrev pub tests : Setup → History → Fact → List (ℕ × Bool)
tests su h f = tests_under su h (config_of su (actor f) h) f

-- the number of the first test that fails
abbrev pub first_broken : List (ℕ × Bool) → Option ℕ
first_broken [] = None
first_broken (t ∷ ts) = if t.1 then first_broken ts else Some t.0

-- every test of its kind holds
abbrev pub Allowed : Setup → History → Fact → Type 0
Allowed su h f = AllByRecursion (λ test. IsTrue test.1) (tests su h f)

-- each fact is allowed by those before it
abbrev pub IsRun : Setup → History → Type 0
IsRun su [] = ⊤
IsRun su (f ∷ h) = Allowed su h f × IsRun su h
