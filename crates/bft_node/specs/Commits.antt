-- A Commit that a node signed, sent and kept.
use Rattle.std.specs.Prelude.{◌≡◌, ℕ, List, [], ◌∷◌, ◌++◌, map}
use Rattle.ord_types.specs.declared.values.Place.{Place}
use Rattle.ord_types.specs.declared.values.Sig.{Sig}
use Rattle.signer_edge.specs.Accepts.{Accepts}
use Rattle.signer_edge.specs.Statements.{commit_text}
use Rattle.bft_wire.specs.declared.message.Message.TheVariants as wire
use Rattle.view_model.specs.declared.act.Act.{Act}
use Rattle.view_model.specs.declared.letter.VoteMessage.TheVariants as vote_of
use Rattle.view_model.specs.declared.letter.Letter.{Letter}
use Rattle.view_model.specs.Acts.{View}
use Rattle.view_model.specs.Answers.{after_vote, at_place, vote_answer}
use Rattle.view_model.specs.Letters.{Commit}
use Rattle.node_model.specs.Steps.{commit_message}
use Rattle.bft_node.specs.Making.{IsFront, sent_of, sent_to_others}
use Rattle.bft_node.specs.Running.{place_of}
use Rattle.bft_node.specs.Signings.{Signing, signing, statements_in}
use Rattle.bft_node.specs.declared.live.Out.{Out}
use Rattle.bft_node.specs.declared.live.Running.{Running}

-- what the node signs for a digest where it stands
abbrev pub statement_at : Running → List ℕ → List ℕ
statement_at r digest = commit_text (place_of r).config.number r.view.view (place_of r).height digest

abbrev pub commit_at : Running → List ℕ → Sig → Commit
commit_at r digest sig = commit_message (place_of r) r.view digest sig

abbrev pub own_letter : ℕ → Commit → Letter
own_letter id commit = record { from = id; message = vote_of.Commit commit }

-- what a vote is answered by, and what it leaves
pub record Votes (accepts : Accepts) (place : Place) (before : View) (letter : Letter) (told : Act)
    (left : View) : Type 0 where
  pub answer : told ≡ vote_answer accepts place (at_place place before) letter
  pub after : left ≡ after_vote accepts place before letter

-- the one signing, and the Commit of it to all; it counts as any other
pub record Commits {K : Type 0} (digest : List ℕ) (told : Act) (old new : Running) (accepts : Accepts)
    (keys : K) (signings : List (Signing K)) (before after : Out) : Type 0 where
  pub sig : Sig
  pub signed : signings ≡ signing (statement_at old digest) sig keys ∷ []
  pub id : new.id ≡ old.id
  pub store : new.store ≡ old.store
  pub found : new.found ≡ old.found
  pub votes : Votes accepts (place_of old) old.view (own_letter old.id (commit_at old digest sig)) told
      new.view
  pub sends : map sent_of after.sends
      ≡ map sent_of before.sends ++ sent_to_others old (wire.Commit (commit_at old digest sig) ∷ [])
  pub facts : after.facts ≡ before.facts
  pub done : after.done ≡ before.done

-- at most this was signed
abbrev pub SignsAtMost : {K : Type 0} → List ℕ → List (Signing K) → Type 0
SignsAtMost statement signings = IsFront (statements_in signings) (statement ∷ [])
