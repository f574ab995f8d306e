-- A good world is safe.
use Rattle.std.proofs.Common.{◌≡◌, ◌≤◌, true, length, map, subst, sym, ap, ◌∙◌, Option, Some, None, arith}
use Rattle.std.specs.List.{AllByRecursion}
use Rattle.std.proofs.lemmas.List.Elements.{All-from_recursion}
use Rattle.ord_types.specs.Grammar.{HasBlockSpelling, HasRequestSpelling, IsWord}
use Rattle.ord_types.specs.Members.{fault_bound, how_many_in, is_in}
use Rattle.safety_model.specs.Blocks.{Block, Request}
use Rattle.safety_model.specs.Facts.{History, Proof}
use Rattle.safety_model.specs.Rules.{IsRun, actor}
use Rattle.safety_model.specs.Safety.{Agreement, AllFit, Fits, NoCollision, RequestFits}
use Rattle.safety_model.specs.State.{Setup}
use Rattle.safety_model.specs.declared.fact.Fact.TheVariants.{Delivered}
use Rattle.safety_model.proofs.Agreeing.{runs_agree}
use Rattle.script.specs.Commands.{AreIds}
use Rattle.node_model.specs.Keeping.{PastNode}
use Rattle.world_model.specs.Worlds.{World}
use Rattle.world_safety.specs.Safe.{
  AreBacked,
  IsAllowedSeal,
  IsAmong,
  IsNoRaftMessage,
  IsNodeOf,
  IsReadable,
  IsSafe,
  IsSafeWorld,
  RestsIn,
  ids_of,
  setup_of,
}
use Rattle.world_safety.proofs.Backing.{IsBackedSeal, seal_backed, seals_backed}
use Rattle.world_safety.specs.Fits.{FactFits}
use Rattle.world_safety.proofs.Fitting.{all_stands}
use Rattle.world_safety.proofs.Lists.{all_map}
use Rattle.world_safety.proofs.Own.{stored_blocks}
use Rattle.world_safety.proofs.Reading.{EntryIn}
use Rattle.world_safety.proofs.Beginning.{IsGood, IsGoodIn}
use Rattle.world_safety.proofs.Lying.{any_stranger}
use Rattle.world_safety.proofs.GoodWorlds.{IsSealIn, NodeIn, correct_in}

-- a block that has a spelling fits
request_fits : (r : Request) → HasRequestSpelling r → RequestFits r
request_fits r is = record { client = is.client; serial = is.serial }

block_fits : (b : Block) → HasBlockSpelling b → Fits b
block_fits b is =
    let view = is.meta.view in
    let decided = is.meta.decided in
    record {
      view = omega arith;
      decided = omega arith;
      blacklist = All-from_recursion IsWord b.meta.blacklist is.meta.blacklist.words;
      signers = All-from_recursion IsWord b.meta.signers is.meta.signers.words;
      requests = All-from_recursion RequestFits b.requests
          (all_map HasRequestSpelling RequestFits request_fits b.requests is.requests.requests);
    }

-- so all delivered blocks do
all_fit : (h : History) → AllByRecursion FactFits h → AllFit h
all_fit h fit i b proof st = block_fits b (all_stands FactFits h (Delivered i b proof) fit st).block.spelled

world_safe : (w : World PastNode History) → IsGood w → IsSafeWorld w
world_safe w is =
    let su = is.setup in
    let good = is.good in
    let here : su ≡ setup_of w = good.first in
    let among = sym good.members in
    let nodes = all_map (NodeIn su w.told w.seals) (IsNodeOf su w.told)
    (λ node p. record {
      config = p.config;
      id = p.id;
      facts = p.stands.own;
      stored = p.stored;
      blocks =
          ap (map (λ (entry : Block × Proof). entry.0)) p.stored ∙ stored_blocks su node.id w.told;
    }) w.nodes
    good.nodes in
    let agreement : NoCollision su w.told → Agreement su w.told =
    λ apart. runs_agree su w.told good.bounded.genesis good.run (all_fit w.told good.fit) apart in
    let backed = all_map (IsSealIn su w.told) (IsBackedSeal (correct_in su) w.told)
    (λ seal is. seal_backed su.config.members su.byzantine (correct_in su) w.told seal
    (any_stranger su w seal.signer good) is) w.seals good.sealed in
    let network : AllByRecursion (EntryIn (setup_of w) w.told) w.network =
    subst (λ (su : Setup). AllByRecursion (EntryIn su w.told) w.network) here good.network in
    record {
      members = subst (λ (su : Setup). AreIds su.config.members) here good.ids;
      bounded = subst (λ (su : Setup). how_many_in su.byzantine su.config.members
          ≤ fault_bound (length su.config.members)) here good.bounded.few;
      correct = subst (λ (su : Setup). ids_of w.nodes ≡ correct_in su) here good.members;
      nodes = subst (λ (su : Setup). AllByRecursion (IsNodeOf su w.told) w.nodes) here nodes;
      actors = subst (λ ids. AllByRecursion (λ f. is_in (actor f) ids ≡ true) w.told) among good.actors;
      run = subst (λ (su : Setup). IsRun su w.told) here good.run;
      readable = all_map (EntryIn (setup_of w) w.told) (IsReadable w.byzantine) (λ e is. is.readable)
          w.network network;
      resting = all_map (EntryIn (setup_of w) w.told) (RestsIn w.byzantine w.told) (λ e is. is.rests)
          w.network network;
      among = all_map (EntryIn (setup_of w) w.told) (IsAmong w.config.members) (λ e is. is.among) w.network
          network;
      no_raft = all_map (EntryIn (setup_of w) w.told) IsNoRaftMessage (λ e is. is.no_raft) w.network network;
      sealed = subst (λ (su : Setup). AllByRecursion (IsAllowedSeal su.config.members su.byzantine
          (ids_of w.nodes) w.told) w.seals) here
          (subst (λ ids. AllByRecursion (IsAllowedSeal su.config.members su.byzantine ids w.told) w.seals)
          among good.sealed);
      backed = subst (λ ids. AreBacked ids w.told w.seals) among
          (seals_backed (correct_in su) w.told w.seals backed);
      agreement = subst (λ (su : Setup). NoCollision su w.told → Agreement su w.told) here agreement;
    }

pub good_safe : (o : Option (World PastNode History)) → IsGoodIn o → IsSafe o
good_safe None good = tt
good_safe (Some w) good = world_safe w good
