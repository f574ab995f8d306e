-- The worlds of the lines of Byzantine members are good.
use Rattle.std.proofs.Common.{
  ◌≡◌,
  ℕ,
  Bool,
  true,
  false,
  ◌&&◌,
  List,
  [],
  ◌∷◌,
  cond,
  refl,
  sym,
  subst,
  Option,
  Some,
  None,
  arith,
}
use Rattle.std.specs.Prelude.{◌==◌}
use Rattle.std.specs.List.{AllByRecursion}
use Rattle.std.proofs.lemmas.Bool.{and_parts, or_left}
use Rattle.ord_types.specs.Members.{is_in}
use Rattle.safety_model.specs.State.{Setup}
use Rattle.script.specs.Commands.{IsLie, IsPropose, IsVote}
use Rattle.script.specs.declared.command.VoteKind.{VoteKind}
use Rattle.bft_wire.specs.Reading.{message_in}
use Rattle.node_model.specs.Keeping.{PastNode}
use Rattle.view_model.specs.Letters.{PrePrepare}
use Rattle.world_model.specs.Liars.{is_raft_if_any, longest, proposed_in, with_sent, with_signed}
use Rattle.world_model.specs.Says.{ordinary}
use Rattle.world_model.specs.Worlds.{Entry, Node, entry}
use Rattle.world_safety.specs.Within.{
  PastWorld,
  after_lie,
  after_propose,
  after_vote_if,
  after_vote_on,
  where_liar,
  where_signer,
}
use Rattle.world_safety.proofs.Lying.{
  bytes_harmless,
  lie_good,
  liar_signs,
  ordinary_spelled,
  propose_good,
  signed_good,
  vote_good,
}
use Rattle.world_safety.proofs.Proposing.{proposed_read}
use Rattle.world_safety.proofs.Reading.{IsLiar, each_byte}
use Rattle.world_safety.proofs.GoodWorlds.{GoodWorld, entry_in}

module _ (su : Setup) (w : PastWorld) where
  -- there is a world only where a Byzantine member sends to a member
  where_good : (from to : ℕ) (worlds : List PastWorld) → GoodWorld su w
      → (IsLiar su from to → AllByRecursion (GoodWorld su) worlds)
      → AllByRecursion (GoodWorld su) (where_liar w from to worlds)
  where_good from to worlds good more =
      go (is_in from w.config.members && is_in to w.config.members && is_in from w.byzantine) refl
    where
      go : (t : Bool) → (is_in from w.config.members && is_in to w.config.members && is_in from w.byzantine)
          ≡ t → AllByRecursion (GoodWorld su) (cond t worlds [])
      go true is =
          let p = and_parts (is_in from w.config.members && is_in to w.config.members)
          (is_in from w.byzantine) is in
          let q = and_parts (is_in from w.config.members) (is_in to w.config.members) p.0 in
          more (subst (λ (su : Setup). IsLiar su from to) (sym good.first)
          (record { from_member = q.0; to_member = q.1; byzantine = p.1 }))
      go false is = tt

  pub proposed_good : (from to v client serial : ℕ) (payload : List ℕ)
      → IsPropose from to v client serial payload → GoodWorld su w
      → AllByRecursion (GoodWorld su)
      (where_liar w from to (after_propose w from to v (ordinary client serial payload) (longest w.nodes)))
  proposed_good from to v client serial payload formed good =
      where_good from to (after_propose w from to v (ordinary client serial payload) (longest w.nodes)) good
      (λ liar. go liar (longest w.nodes) refl)
    where
      go : IsLiar su from to → (o : Option (Node PastNode)) → longest w.nodes ≡ o
          → AllByRecursion (GoodWorld su) (after_propose w from to v (ordinary client serial payload) o)
      go liar None is = tt
      go liar (Some node) is =
          let below = formed.view_below in (
            propose_good su w from to v (ordinary client serial payload) node good liar (omega arith)
                (ordinary_spelled from to v client serial payload formed) is,
            tt,
          )

  pub voted_good : (from to : ℕ) (kind : VoteKind) (v k : ℕ) → IsVote from to v k → GoodWorld su w
      → AllByRecursion (GoodWorld su) (where_liar w from to (after_vote_on w from to kind v (entry k w)))
  voted_good from to kind v k formed good = where_good from to (after_vote_on w from to kind v (entry k w))
      good (λ liar. on_entry liar (entry k w) refl)
    where
      on_read : IsLiar su from to → (e : Entry) → entry k w ≡ Some e → (o : Option PrePrepare)
          → proposed_in e.bytes ≡ o → AllByRecursion (GoodWorld su) (after_vote_if w from to kind v o)
      on_read liar e at None is = tt
      on_read liar e at (Some m) is =
          let low = formed.from_id.below in
          let below = formed.view_below in (
            vote_good su w from to kind v m good liar (omega arith) (omega arith)
                (proposed_read e.bytes m (entry_in su k e w good at).spelled is),
            tt,
          )

      on_entry : IsLiar su from to → (o : Option Entry) → entry k w ≡ o
          → AllByRecursion (GoodWorld su) (after_vote_on w from to kind v o)
      on_entry liar None at = tt
      on_entry liar (Some e) at = on_read liar e at (proposed_in e.bytes) refl

  pub lied_good : (from to : ℕ) (bytes : List ℕ) → IsLie from to bytes → GoodWorld su w
      → AllByRecursion (GoodWorld su) (where_liar w from to (after_lie w from to bytes))
  lied_good from to bytes formed good = where_good from to (after_lie w from to bytes) good
      (λ liar. go liar (is_raft_if_any (message_in bytes)) refl)
    where
      go : IsLiar su from to → (t : Bool) → is_raft_if_any (message_in bytes) ≡ t
          → AllByRecursion (GoodWorld su) (cond t [] (with_sent w from to bytes ∷ []))
      go liar true is = tt
      go liar false is = (
        lie_good su w from to bytes good liar
            (bytes_harmless bytes (each_byte bytes formed.are_bytes) is),
        tt,
      )

  pub sealed_good : (id : ℕ) (bytes : List ℕ) → GoodWorld su w
      → AllByRecursion (GoodWorld su) (where_signer w id (with_signed w id bytes ∷ []))
  sealed_good id bytes good = go (id == 0) refl
    where
      go : (t : Bool) → (id == 0) ≡ t
          → AllByRecursion (GoodWorld su) (cond t (with_signed w id bytes ∷ [])
          (where_liar w id id (with_signed w id bytes ∷ [])))
      go true is = (signed_good su w id bytes good (or_left _ _ is), tt)
      go false is = where_good id id (with_signed w id bytes ∷ []) good
          (λ liar. (signed_good su w id bytes good (liar_signs su id id liar), tt))
