-- Where a member's place and view are those by the list of all facts, and what is kept rests on it; and
-- that what is due is then allowed.
use Rattle.std.proofs.Common.{◌≡◌, ℕ, ◌+◌, Bool, true, false, List, Some, None}
use Rattle.std.specs.Prelude.{◌==◌, IsTrue}
use Rattle.std.specs.List.{AllByRecursion}
use Rattle.ord_types.specs.Hashes.{block_hash}
use Rattle.ord_types.specs.declared.values.Proof.TheVariants as proof_of
use Rattle.safety_model.specs.Blocks.{Block, Request}
use Rattle.safety_model.specs.Facts.{Cert, History, has, is_accepted, is_accepted_at, is_entered_against}
use Rattle.safety_model.specs.declared.fact.Fact.TheVariants.{Accepted, Prepared, Delivered}
use Rattle.safety_model.specs.Rules.{Allowed, is_correct, keeps_bound}
use Rattle.safety_model.specs.State.{Setup, height, tip, config_of, view, left}
use Rattle.signer_edge.specs.Accepts.{Accepts}
use Rattle.view_model.specs.declared.letter.VoteMessage.TheVariants as message_of
use Rattle.view_model.specs.declared.letter.Letter.{Letter}
use Rattle.view_model.specs.declared.letter.VoteMessage.{VoteMessage}
use Rattle.view_model.specs.Leading.{Place}
use Rattle.view_model.specs.Acts.{View, acceptance_due, delivery_due, preparation_due, proposed}
use Rattle.node_model.specs.Keeping.{is_of_view}
use Rattle.world_safety.specs.Fits.{MessageFits}
use Rattle.world_safety.specs.AllowedSteps.{rests}

-- a Commit's signature names its sender
abbrev pub names : ℕ → VoteMessage → Bool
names from (message_of.PrePrepare m) = true
names from (message_of.Prepare m) = true
names from (message_of.Commit m) = m.sig.signer == from

-- a kept letter rests on a fact, names its sender, is of this configuration and view, near this height, and
-- has a spelling
pub record IsKeptWell (su : Setup) (h : History) (e v s : ℕ) (letter : Letter) : Type 0 where
  pub rests : IsTrue (rests su h letter)
  pub named : IsTrue (names letter.from letter.message)
  pub of_view : IsTrue (is_of_view e v s letter)
  pub fits : MessageFits letter.message

-- the place and the view are those of node i by the history, and what is kept rests on it
pub record Stands (su : Setup) (h : History) (i : ℕ) (place : Place) (w : View) : Type 0 where
  pub me : w.me ≡ i
  pub config : place.config ≡ config_of su i h
  pub height : place.height ≡ height i h
  pub view : w.view ≡ view i place.config.number h
  pub left : w.left ≡ left i place.config.number h
  pub accepted : (b : Block) → w.accepted ≡ Some b
      → IsTrue (has (is_accepted i place.config.number w.view place.height (block_hash b)) h)
  pub fresh : w.accepted ≡ None → has (is_accepted_at i place.config.number w.view place.height) h ≡ false
  pub not_against : (d : List ℕ) → has (is_entered_against i place.config.number w.view place.height d) h
      ≡ false
  pub kept : AllByRecursion (IsKeptWell su h place.config.number w.view place.height) w.kept

-- the place ends with the node's last block
pub record StandsLast (su : Setup) (h : History) (i : ℕ) (place : Place) : Type 0 where
  pub last : place.last ≡ block_hash (tip su i h)
  pub number : (tip su i h).header.number + 1 ≡ height i h

-- the node is correct now, and its configuration keeps the bound
pub record Bounded (su : Setup) (h : History) (i : ℕ) : Type 0 where
  pub correct : IsTrue (is_correct su (config_of su i h) i)
  pub bound : IsTrue (keeps_bound su (config_of su i h))

-- an acceptance that is due, or proposed, is allowed
abbrev pub AcceptancesAreAllowed : Type 0
AcceptancesAreAllowed =
    (su : Setup) (h : History) (i : ℕ) (place : Place) (w : View) (accepts : Accepts) (b : Block)
    → Stands su h i place w → Bounded su h i
    → acceptance_due accepts place w ≡ Some b
    → Allowed su h (Accepted i place.config.number w.view place.height (block_hash b))

abbrev pub ProposalsAreAllowed : Type 0
ProposalsAreAllowed =
    (su : Setup) (h : History) (i : ℕ) (place : Place) (w : View) (rs : List Request) (b : Block)
    → Stands su h i place w → Bounded su h i
    → proposed place w rs ≡ Some b
    → Allowed su h (Accepted i place.config.number w.view place.height (block_hash b))

-- a preparation that is due is allowed
abbrev pub PreparationsAreAllowed : Type 0
PreparationsAreAllowed =
    (su : Setup) (h : History) (i : ℕ) (place : Place) (w : View) (d : List ℕ) → Stands su h i place w
    → Bounded su h i
    → preparation_due place w ≡ Some d → Allowed su h (Prepared i place.config.number w.view place.height d)

-- a delivery that is due is allowed
abbrev pub DeliveriesAreAllowed : Type 0
DeliveriesAreAllowed =
    (su : Setup) (h : History) (i : ℕ) (place : Place) (w : View) (b : Block) (cert : Cert)
    → Stands su h i place w → StandsLast su h i place → Bounded su h i
    → delivery_due place w ≡ Some (b, cert) → Allowed su h (Delivered i b (proof_of.Bft cert))
