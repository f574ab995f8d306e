-- What a member's messages and signatures rest on, and the facts of one node.
use Rattle.std.specs.Prelude.{◌≡◌, ℕ, ◌==◌, Bool, false, List, [], ◌∷◌, IsTrue, if◌then◌else◌}
use Rattle.ord_types.specs.Grammar.{IsDigest, IsNumber}
use Rattle.ord_types.specs.Hashes.{block_hash}
use Rattle.safety_model.specs.Facts.{History, has, is_accepted, is_prepared}
use Rattle.safety_model.specs.Rules.{actor}
use Rattle.signer_edge.specs.Statements.{commit_text}
use Rattle.bft_wire.specs.declared.message.Message.{Message}
use Rattle.bft_wire.specs.declared.message.Message.TheVariants as message_of

-- the fact on which a member's message rests stands in the history: an acceptance under a PrePrepare and
-- under a Prepare, a preparation under a Commit, of the same configuration, view, number and hash (Castro
-- and Liskov 2002). A message of another kind rests on nothing: no correct node sends one yet.
abbrev pub has_ground : History → ℕ → Message → Bool
has_ground h from (message_of.PrePrepare m) =
    has (is_accepted from m.config m.view m.number (block_hash m.block)) h
has_ground h from (message_of.Prepare m) = has (is_accepted from m.config m.view m.number m.digest) h
has_ground h from (message_of.Commit m) = has (is_prepared from m.config m.view m.number m.digest) h
has_ground h from _ = false

-- the statement is the commit statement of a preparation of this id that stands in the history
pub record IsPreparedStatement (h : History) (i : ℕ) (statement : List ℕ) : Type 0 where
  pub config : ℕ
  pub view : ℕ
  pub number : ℕ
  pub digest : List ℕ
  pub config_fits : IsNumber config
  pub view_fits : IsNumber view
  pub number_fits : IsNumber number
  pub digest_fits : IsDigest digest
  pub text : statement ≡ commit_text config view number digest
  pub prepared : IsTrue (has (is_prepared i config view number digest) h)

-- the facts of one node
abbrev pub own : ℕ → History → History
own i [] = []
own i (f ∷ h) = if actor f == i then f ∷ own i h else own i h
