-- What Byzantine members do keeps a good world.
use Rattle.std.proofs.Common.{
  ◌≡◌,
  ℕ,
  Bool,
  true,
  false,
  List,
  [],
  ◌∷◌,
  ◌++◌,
  length,
  cond,
  refl,
  sym,
  subst,
  ap,
  ap₂,
  ◌∙◌,
  ◌&&◌,
  ◌||◌,
  inl,
  Option,
  Some,
  None,
  arith,
}
use Rattle.std.specs.Prelude.{◌==◌, nat_lt}
use Rattle.std.specs.List.{AllByRecursion}
use Rattle.std.proofs.Math.Bool.{and-false}
use Rattle.std.proofs.lemmas.Bool.{and_from, eqb-true, false_from_ne_true, or_right}
use Rattle.ord_types.specs.Grammar.{HasRequestSpelling, IsNumber, IsWord}
use Rattle.ord_types.specs.Members.{is_in}
use Rattle.ord_types.proofs.Laws.{IsBytes}
use Rattle.safety_model.specs.Blocks.{Config, Request}
use Rattle.safety_model.specs.Facts.{History}
use Rattle.safety_model.specs.State.{Setup, config_of, view}
use Rattle.script.specs.Commands.{IsPropose}
use Rattle.script.specs.declared.command.VoteKind.{VoteKind}
use Rattle.script.specs.declared.command.VoteKind.TheVariants.{Prepare, Commit}
use Rattle.signer_edge.specs.Seals.{is_sealed}
use Rattle.signer_edge.proofs.SealFacts.{is_sealed-grown}
use Rattle.bft_wire.specs.Reading.{message_in}
use Rattle.bft_wire.specs.Spelling.{message_text}
use Rattle.node_model.specs.Keeping.{PastNode, past_place, place_by_facts}
use Rattle.view_model.specs.Letters.{PrePrepare}
use Rattle.node_model.specs.Entries.{facts_of}
use Rattle.world_model.specs.Liars.{
  commit_for,
  is_raft_if_any,
  longer,
  longest,
  prepare_for,
  proposal_of,
  sig_at,
  statement_for,
  with_sent,
  with_signed,
}
use Rattle.world_model.specs.Turns.{ordinary}
use Rattle.world_model.specs.Worlds.{Node, World, seals_of}
use Rattle.world_safety.specs.Safe.{signs_anything}
use Rattle.world_safety.specs.Within.{after_vote}
use Rattle.world_safety.proofs.Delivering.{some_same}
use Rattle.world_safety.proofs.Fitting.{PlaceFits}
use Rattle.world_safety.proofs.Lists.{all_append, all_map}
use Rattle.world_safety.proofs.Placing.{place_fits}
use Rattle.world_safety.proofs.Proposing.{
  IsHarmless,
  IsReadProposal,
  commit_harmless,
  prepare_harmless,
  proposal_harmless,
}
use Rattle.world_safety.proofs.Reading.{EntryIn, IsLiar, bytes_spelled, lied_in}
use Rattle.world_safety.proofs.Sealing.{facts_certified, past_sealed}
use Rattle.world_safety.proofs.GoodWorlds.{GoodWorld, IsSealIn, NodeIn, above, correct_in, correct_is}

-- WHO IS NO CORRECT MEMBER: a Byzantine one, and id 0

outside : (x : ℕ) (xs : List ℕ) → AllByRecursion (λ y. (y == x) ≡ false) xs → is_in x xs ≡ false
outside x [] all = refl
outside x (y ∷ ys) all = rw (all.0) (outside x ys all.1)

pub zero_stranger : (su : Setup) (w : World PastNode History) → GoodWorld su w → is_in 0 (correct_in su)
    ≡ false
zero_stranger su w good =
    let none = outside 0 su.config.members
    (above 0 1 su.config.members (omega arith) good.bounded.members.ascending) in
    false_from_ne_true (is_in 0 (correct_in su)) (λ is. let member = (correct_is su 0 is).member in cc)

-- so nobody who signs anything is one
pub any_stranger : (su : Setup) (w : World PastNode History) (i : ℕ) → GoodWorld su w
    → is_in i (correct_in su) ≡ true → signs_anything su.config.members su.byzantine i ≡ false
any_stranger su w i good correct =
    let zero = zero_stranger su w good in
    let not_zero : (i == 0) ≡ false = false_from_ne_true (i == 0) (λ is. let same = eqb-true i 0 is in
    let here = subst (λ i. is_in i (correct_in su) ≡ true) same correct in cc) in
    let honest = (correct_is su i correct).honest in
    ap₂ (λ a b. a || b) not_zero (ap (λ b. is_in i su.config.members && b) honest
    ∙ and-false (is_in i su.config.members))

pub liar_signs : (su : Setup) (from to : ℕ) → IsLiar su from to
    → signs_anything su.config.members su.byzantine from ≡ true
liar_signs su from to liar = or_right _ _ (and_from _ _ liar.from_member liar.byzantine)

-- ONE MORE SEAL of such an id

pub signed_good : (su : Setup) (w : World PastNode History) (id : ℕ) (statement : List ℕ) → GoodWorld su w
    → signs_anything su.config.members su.byzantine id ≡ true → GoodWorld su (with_signed w id statement)
signed_good su w id statement good any =
    let more = seals_of id (statement ∷ []) in
    let box = w.seals ++ more in
    let grown = is_sealed-grown w.seals more in
    record {
      first = good.first;
      ids = good.ids;
      bounded = good.bounded;
      run = good.run;
      fit = good.fit;
      members = good.members;
      actors = good.actors;
      nodes = all_map (NodeIn su w.told w.seals) (NodeIn su w.told box)
          (λ node is. record {
            config = is.config;
            id = is.id;
            correct = is.correct;
            stands = is.stands;
            pool = is.pool;
            stored = is.stored;
            sealed = past_sealed (is_sealed w.seals) (is_sealed box) grown su.config node.id node.state.past
                is.sealed;
          }) w.nodes good.nodes;
      network = good.network;
      certified = facts_certified (is_sealed w.seals) (is_sealed box) grown su.config w.told good.certified;
      sealed = all_append (IsSealIn su w.told) w.seals more good.sealed (inl any, tt);
    }

-- ONE MORE ENTRY of a Byzantine member

pub lie_good : (su : Setup) (w : World PastNode History) (from to : ℕ) (bytes : List ℕ) → GoodWorld su w
    → IsLiar su from to → IsHarmless bytes → GoodWorld su (with_sent w from to bytes)
lie_good su w from to bytes good liar harmless =
    record {
      first = good.first;
      ids = good.ids;
      bounded = good.bounded;
      run = good.run;
      fit = good.fit;
      members = good.members;
      actors = good.actors;
      nodes = good.nodes;
      network = all_append (EntryIn su w.told) w.network (record {
        from = from;
        to = to;
        bytes = bytes;
        came = false;
      } ∷ []) good.network
          (lied_in su w.told from to bytes liar harmless.no_raft harmless.spelled, tt);
      certified = good.certified;
      sealed = good.sealed;
    }

-- any bytes that spell no message of Raft
pub bytes_harmless : (bytes : List ℕ) → IsBytes bytes → is_raft_if_any (message_in bytes) ≡ false
    → IsHarmless bytes
bytes_harmless bytes fits no_raft = record { no_raft = no_raft; spelled = bytes_spelled bytes fits }

-- PROPOSE

either_has : (P : Node PastNode → Type 0) (t : Bool) (a b : Node PastNode) → P a → P b → P (cond t a b)
either_has P true a b is other = is
either_has P false a b is other = other

longest_has : (P : Node PastNode → Type 0) (nodes : List (Node PastNode)) (node : Node PastNode)
    → AllByRecursion P nodes → longest nodes ≡ Some node → P node
longest_has P [] node all is = absurd (cc)
longest_has P (x ∷ xs) node all is =
    subst P (some_same is) (go (longest xs) refl (λ other. longest_has P xs other all.1))
  where
    go : (o : Option (Node PastNode)) → longest xs ≡ o → ((other : Node PastNode) → longest xs ≡ Some other
        → P other) → P (longer x o)
    go None at rest = all.0
    go (Some other) at rest =
        either_has P (nat_lt (length x.ledger) (length other.ledger)) other x (rest other at) all.0

-- the place of a node fits
node_place : (su : Setup) (w : World PastNode History) (node : Node PastNode) → GoodWorld su w
    → NodeIn su w.told w.seals node → (v : ℕ) × PlaceFits (past_place node.state) v
node_place su w node good is =
    let i = node.id in
    let g = facts_of node.state.past in
    let v = view i (config_of su i g).number g in
    let fits : PlaceFits (place_by_facts su.config i g) v = place_fits su w.told i node.state.past good.bounded
    is.stands good.run good.fit in
    let a : PlaceFits (place_by_facts node.state.config i g) v =
    subst (λ (c : Config). PlaceFits (place_by_facts c i g) v) (sym is.config) fits in
    (v, subst (λ j. PlaceFits (place_by_facts node.state.config j g) v) (sym is.id) a)

pub propose_good : (su : Setup) (w : World PastNode History) (from to v : ℕ) (r : Request)
    (node : Node PastNode) → GoodWorld su w → IsLiar su from to
    → IsNumber v → HasRequestSpelling r → longest w.nodes ≡ Some node
    → GoodWorld su (with_sent w from to (message_text (proposal_of (past_place node.state) v r)))
propose_good su w from to v r node good liar viewed small is =
    let place = node_place su w node good (longest_has (NodeIn su w.told w.seals) w.nodes node good.nodes
    is) in
    lie_good su w from to (message_text (proposal_of (past_place node.state) v r)) good liar
    (proposal_harmless (past_place node.state) place.0 v r place.1 viewed small)

-- what a line proposes has a spelling
pub ordinary_spelled : (from to v client serial : ℕ) (payload : List ℕ)
    → IsPropose from to v client serial payload → HasRequestSpelling (ordinary client serial payload)
ordinary_spelled from to v client serial payload formed =
    let low = formed.client_below in
    let below = formed.serial_below in
    record { client = omega arith; serial = omega arith; size = formed.few }

-- VOTE

pub vote_good : (su : Setup) (w : World PastNode History) (from to : ℕ) (kind : VoteKind) (v : ℕ)
    (m : PrePrepare) → GoodWorld su w → IsLiar su from to
    → IsWord from → IsNumber v → IsReadProposal m → GoodWorld su (after_vote w from to kind v m)
vote_good su w from to Prepare v m good liar word viewed is =
    lie_good su w from to (message_text (prepare_for m v)) good liar (prepare_harmless m v is viewed)
vote_good su w from to Commit v m good liar word viewed is =
    let sig = sig_at from (length w.seals) in
    let signed = signed_good su w from (statement_for m v) good (liar_signs su from to liar) in
    lie_good su (with_signed w from (statement_for m v)) from to (message_text (commit_for m v sig)) signed
    liar
    (commit_harmless m v sig is viewed (record { signer = word; size = omega arith }))
