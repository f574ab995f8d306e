-- The world with which a script begins is good.
use Rattle.std.proofs.Common.{
  ◌≡◌,
  ℕ,
  ◌≤◌,
  Bool,
  true,
  false,
  List,
  [],
  ◌∷◌,
  length,
  map,
  cond,
  refl,
  ap,
  Option,
  Some,
  None,
  arith,
}
use Rattle.std.specs.Prelude.{nat_lt}
use Rattle.std.specs.List.{AllByRecursion}
use Rattle.std.proofs.lemmas.Bool.{ltb-false}
use Rattle.std.proofs.lemmas.List.Elements.{All-nil}
use Rattle.ord_types.specs.Grammar.{HasRequestSpelling}
use Rattle.ord_types.specs.Members.{fault_bound, how_many_in, is_in}
use Rattle.safety_model.specs.Blocks.{Config}
use Rattle.safety_model.specs.Facts.{History}
use Rattle.safety_model.specs.State.{Setup}
use Rattle.script.specs.Commands.{AreIds}
use Rattle.script.specs.declared.command.Command.TheVariants.{Genesis}
use Rattle.node_model.specs.Keeping.{PastNode}
use Rattle.world_model.specs.Histories.{past_keeping, past_setting}
use Rattle.world_model.specs.Turns.{first_config, first_node, first_world}
use Rattle.world_model.specs.Worlds.{Node, Outcome, World}
use Rattle.world_safety.specs.Safe.{ids_of, setup_on}
use Rattle.world_safety.proofs.Ids.{all_members}
use Rattle.world_safety.proofs.Lists.{all_map, all_mapped}
use Rattle.script.proofs.IdLemmas.{ids_spelled}
use Rattle.world_safety.proofs.Nodes.{opened}
use Rattle.world_safety.proofs.GoodWorlds.{GoodWorld, NodeIn, correct_in}
use Rattle.world_safety.specs.Within.{worlds_in_turn}

same_ids : (c : Config) (ids : List ℕ) → ids_of (map (first_node past_keeping c) ids) ≡ ids
same_ids c [] = refl
same_ids c (id ∷ ids) = ap (λ more. id ∷ more) (same_ids c ids)

pub first_good : (outcomes : List Outcome) (members byzantine : List ℕ) → AreIds members
    → how_many_in byzantine members ≤ fault_bound (length members)
    → GoodWorld (setup_on (first_config members) byzantine)
    (first_world past_setting outcomes (first_config members) byzantine)
first_good outcomes members byzantine are few =
    let c = first_config members in
    let su = setup_on c byzantine in
    let node : ℕ → Node PastNode = first_node past_keeping c in
    let ids = correct_in su in
    record {
      first = refl;
      ids = are;
      bounded = record {
        genesis = record { block = refl; bft = refl };
        few = few;
        number = omega arith;
        members = ids_spelled members are;
      };
      run = tt;
      fit = tt;
      members = same_ids c ids;
      actors = tt;
      nodes = all_mapped (NodeIn su [] []) node ids
          (all_map (λ id. is_in id ids ≡ true) (λ id. NodeIn su [] [] (node id))
          (λ id is. record {
            config = refl;
            id = refl;
            correct = is;
            stands = opened su id;
            pool =
                All-nil HasRequestSpelling;
            stored = refl;
            sealed = tt;
          }) ids (all_members ids));
      network = tt;
      certified = tt;
      sealed = tt;
    }

-- a good world of some setup, where there is a world
pub record IsGood (w : World PastNode History) : Type 0 where
  pub setup : Setup
  pub good : GoodWorld setup w

abbrev pub IsGoodIn : Option (World PastNode History) → Type 0
IsGoodIn None = Unit {0}
IsGoodIn (Some w) = IsGood w

-- where no more members are Byzantine than the bound allows
pub begun_good : (outcomes : List Outcome) (number : ℕ) (members byzantine : List ℕ) → AreIds members
    → AllByRecursion IsGoodIn (worlds_in_turn outcomes None number (Genesis members byzantine))
begun_good outcomes number members byzantine are =
    go (nat_lt (fault_bound (length members)) (how_many_in byzantine members)) refl
  where
    go : (t : Bool) → nat_lt (fault_bound (length members)) (how_many_in byzantine members) ≡ t
        → AllByRecursion IsGoodIn (cond t []
        (Some (first_world past_setting outcomes (first_config members) byzantine) ∷ []))
    go true is = tt
    go false is = (
      record {
        setup = setup_on (first_config members) byzantine;
        good =
            first_good outcomes members byzantine are (ltb-false (fault_bound (length members))
            (how_many_in byzantine members) is);
      },
      tt,
    )
