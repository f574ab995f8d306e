-- What a member's report tells, and when it is true.
use Rattle.std.specs.Prelude.{ℕ, zero, suc, Bool, true, false, ◌&&◌, ◌||◌, ◌==◌, nat_lt, nat_le, is_none, List, [], ◌∷◌, ◌++◌, take, Option, Some, None, if◌then◌else◌}
use Rattle.std.specs.Cmp.Lexicographic.{pointwise}
use Rattle.std.specs.List.{list_any}
use Rattle.std.specs.Str.{bytes_eq}
use Rattle.ord_types.specs.Hashes.{block_hash}
use Rattle.ord_types.specs.declared.values.Proof.TheVariants as proof_of
use Rattle.safety_model.specs.Blocks.{Block}
use Rattle.safety_model.specs.Facts.{Cert, Proof, Sig, Vote, Last, Report, Fact, History}
use Rattle.safety_model.specs.declared.fact.Fact.TheVariants.{Accepted, Prepared}
use Rattle.safety_model.specs.State.{height, last_delivered}

-- equal votes
abbrev pub vote_eq : Vote → Vote → Bool
vote_eq a b = (a.view == b.view) && bytes_eq a.digest b.digest

-- the vote of a preparation of node i under configuration e at number s
abbrev pub prepared_votes : ℕ → ℕ → ℕ → Fact → List Vote
prepared_votes i e s (Prepared j e' v s' d) = if (j == i) && (e' == e) && (s' == s) then record { view = v; digest = d } ∷ [] else []
prepared_votes i e s _ = []

-- the vote of an acceptance of node i under configuration e at number s
abbrev pub accepted_votes : ℕ → ℕ → ℕ → Fact → List Vote
accepted_votes i e s (Accepted j e' v s' d) = if (j == i) && (e' == e) && (s' == s) then record { view = v; digest = d } ∷ [] else []
accepted_votes i e s _ = []

-- of two votes the one of the greater view
abbrev pub greater_vote : List Vote → Option Vote → Option Vote
greater_vote [] old = old
greater_vote (v ∷ vs) None = Some v
greater_vote (v ∷ vs) (Some w) = if nat_le w.view v.view then Some v else Some w

-- its preparation of the greatest view at number s
abbrev pub prepared_at : ℕ → ℕ → ℕ → History → Option Vote
prepared_at i e s [] = None
prepared_at i e s (f ∷ h) = greater_vote (prepared_votes i e s f) (prepared_at i e s h)

-- its acceptances at number s, the newest first: by falling view, since views never fall
abbrev pub accepted_at : ℕ → ℕ → ℕ → History → List Vote
accepted_at i e s [] = []
accepted_at i e s (f ∷ h) = accepted_votes i e s f ++ accepted_at i e s h

-- equal signatures
abbrev pub sig_eq : Sig → Sig → Bool
sig_eq a b = (a.signer == b.signer) && bytes_eq a.bytes b.bytes

-- the certificate is the proof
abbrev pub is_cert : Cert → Proof → Bool
is_cert cert proof_of.Raft = false
is_cert cert (proof_of.Bft other) = (cert.view == other.view) && pointwise sig_eq cert.sigs other.sigs

-- what is told of the last block is its hash and its certificate
abbrev pub is_last : Option Last → Option (Block × Proof) → Bool
is_last None None = true
is_last None (Some last) = false
is_last (Some told) None = false
is_last (Some told) (Some last) = bytes_eq told.hash (block_hash last.0) && is_cert told.cert last.1

-- equal votes, or none on both sides
abbrev pub is_told : Option Vote → Option Vote → Bool
is_told None None = true
is_told None (Some b) = false
is_told (Some a) None = false
is_told (Some a) (Some b) = vote_eq a b

-- the last block, where it was ordered under configuration e: at the start of e there is none
abbrev pub last_under : ℕ → Option (Block × Proof) → Option (Block × Proof)
last_under e None = None
last_under e (Some last) = if last.0.meta.config == e then Some last else None

-- the vote stands at the place in the list
abbrev pub is_vote_at : List Vote → ℕ → Vote → Bool
is_vote_at [] place vote = false
is_vote_at (a ∷ as') zero vote = vote_eq a vote
is_vote_at (a ∷ as') (suc place) vote = is_vote_at as' place vote

-- how many acceptances a report tells at most
abbrev pub told_limit : ℕ
told_limit = 32

-- The report is true of node i under configuration e: it tells the node's height, its last block under e with the
-- certificate, its preparation of the greatest view at this height, and its newest acceptances at this height.
abbrev pub is_true_report : ℕ → ℕ → History → Report → Bool
is_true_report i e h r =
    (r.height == height i h)
    && is_last r.last (last_under e (last_delivered i h))
    && is_told r.prepared (prepared_at i e (height i h) h)
    && pointwise vote_eq r.accepted (take told_limit (accepted_at i e (height i h) h))

-- it tells no preparation
abbrev pub tells_none : Report → Bool
tells_none r = is_none r.prepared

-- no preparation, one of a lower view than the vote's, or the vote itself
abbrev pub is_at_most : Vote → Option Vote → Bool
is_at_most vote None = true
is_at_most vote (Some told) = nat_lt told.view vote.view || vote_eq told vote

-- it tells no preparation, one of a lower view, or this one
abbrev pub tells_at_most : Vote → Report → Bool
tells_at_most vote r = is_at_most vote r.prepared

-- it tells an acceptance of the vote's digest in the vote's view or above
abbrev pub tells_accepted : Vote → Report → Bool
tells_accepted vote r = list_any (λ told. nat_le vote.view told.view && bytes_eq told.digest vote.digest) r.accepted
