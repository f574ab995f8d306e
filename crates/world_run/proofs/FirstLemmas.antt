-- Lemmas on the first world: the nodes of a genesis are opened one after another, each on an empty disk.
use Rattle.std.proofs.Common.{◌≡◌, ◌≢◌, ℕ, Bool, ◌+◌, ◌<◌, ◌≤◌, ◌⊎◌, true, false, not, List, [], ◌∷◌, ◌++◌, Some, None, Global, Vec}
use Rattle.std.proofs.Common.{filter, get_or, length, map, take, inl, inr, refl, sym, ap, ◌∙◌, subst, arith}
use Rattle.std.specs.List.{AllByRecursion}
use Rattle.std.specs.List.Sorted.{IsStrictlyIncreasing}
use Rattle.std.proofs.Math.Path.{fun_ext}
use Rattle.std.proofs.Math.Seq.{take-nil}
use Rattle.std.proofs.lemmas.Bool.{cases_eq}
use Rattle.std.proofs.lemmas.List.{append-nil, map-append, take_all}
use Rattle.std.proofs.lemmas.List.Elements.{filter_more}
use Rattle.std.proofs.lemmas.List.Kept.{AllPairs-from_increasing, IsStrictlyIncreasing-filter}
use Rattle.ord_types.specs.Genesis.{IsGenesisConfig}
use Rattle.ord_types.specs.Members.{is_in}
use Rattle.safety_model.specs.Blocks.{Config, Request}
use Rattle.gate_log.specs.Disk.{File}
use Rattle.gate_log.specs.Memory.{IsEmptyDisk}
use Rattle.gate_log.specs.declared.memory.MemDisk.{MemDisk}
use Rattle.signer_edge.specs.Accepts.{Accepts}
use Rattle.signer_edge.specs.Seals.{is_sealed}
use Rattle.signer_edge.specs.declared.seals.Seal.{Seal}
use Rattle.block_ledger.specs.Chains.{Entry, genesis_entry}
use Rattle.node_model.specs.Cores.{Core, core_on}
use Rattle.world_model.specs.Cores.{core_keeping, core_setting}
use Rattle.world_model.specs.Turns.{first_node, first_world}
use Rattle.world_model.specs.Worlds as worlds
use Rattle.world_model.specs.Worlds.{Outcome}
use Rattle.bft_node.specs.Lodgings.{Becomes, HoldsIn, IsOpenedOn, Lodging, accepts_of, files_of}
use Rattle.bft_node.specs.Crashes.{Image as Files}
use Rattle.bft_node.specs.Running.{chain_of, state_of}
use Rattle.bft_node.specs.Recovering.{EmptyFilesKeep, Keeps}
use Rattle.bft_node.specs.declared.lodged.Lodged.{Lodged}
use Rattle.world_run.specs.Beginning.{Begins}
use Rattle.world_run.specs.Entries.{entry_of}
use Rattle.world_run.specs.Mapped.{Model, world_of}
use Rattle.world_run.specs.Members.{IsMember, IsSeated, node_of}
use Rattle.world_run.specs.Moves.{AreMoves, Move, Opens, outcomes_of, setup_of}
use Rattle.world_run.specs.Sound.{IsEmpty, IsSound, NoneArmed}
use Rattle.world_run.specs.Waiting.{waits_before}
use Rattle.world_run.specs.declared.member.Member.{Member}
use Rattle.world_run.specs.declared.network.Entry.{Entry as Posted}
use Rattle.world_run.specs.declared.world.World.{World}
use Rattle.world_run.proofs.ListLemmas.{ids_of}
use Rattle.world_run.proofs.MoveLemmas.{alike_self, moves_then, outcomes_then}
use Rattle.world_run.proofs.NodeLemmas.{node_there}

-- ON AN EMPTY DISK a node has the genesis block, and is that of the model

-- nothing was accepted of a box without seals
abbrev pub nothing_sealed : Accepts
nothing_sealed = is_sealed []

-- the node has done nothing
pub record IsFresh (c : Config) (id : ℕ) (l : Lodged) : Type 0 where
  pub seated : IsSeated c nothing_sealed id l
  pub chain : chain_of l.node.running ≡ genesis_entry c ∷ []
  pub state : state_of l.node.running ≡ core_on c id

files_empty : (disk : MemDisk) → IsEmptyDisk [] disk → files_of disk ≡ (λ file. [])
files_empty disk empty = fun_ext (λ file. ap (λ (f : File). f.reads) (empty.files file))

pub opens_fresh : EmptyFilesKeep → (c : Config) (id : ℕ) (accepts : Accepts) (disk : MemDisk) (l : Lodged)
    → IsGenesisConfig c → accepts ≡ nothing_sealed → IsEmptyDisk [] disk
    → IsOpenedOn (setup_of c id) accepts disk l → IsFresh c id l
opens_fresh keep c id accepts disk l genesis unsealed empty is =
    let chain : List Entry = genesis_entry c ∷ [] in
    let keeps : Keeps accepts c id (files_of disk) chain (core_on c id) =
    subst (λ (files : Files). Keeps accepts c id files chain (core_on c id)) (sym (files_empty disk empty))
    (keep accepts c id genesis) in
    let found = is.finds chain (core_on c id) keeps in
    record {
      seated = record {
        runs = is.runs;
        named = is.id;
        config = is.config;
        holds = subst (λ (a : Accepts). HoldsIn a l) unsealed found.holds;
      };
      chain = found.chain;
      state = found.state;
    }

-- THE FIRST MEMBERS

-- a fresh node stands under the id of the member, which runs; nothing waits in its pool, and its disk isn't armed
pub record IsFirst (c : Config) (at : Lodging) (member : Member) : Type 0 where
  pub node : Lodged
  pub there : at member.id ≡ Some node
  pub fresh : IsFresh c member.id node
  pub pool : member.pool.items ≡ []
  pub runs : member.runs ≡ true
  pub armed : member.armed ≡ false

all_weaker : {X : Type 0} (P Q : X → Type 0) → ((x : X) → P x → Q x) → (xs : List X) → AllByRecursion P xs → AllByRecursion Q xs
all_weaker P Q weaker [] all = tt
all_weaker P Q weaker (x ∷ xs) all = (weaker x all.0, all_weaker P Q weaker xs all.1)

all_more : {X : Type 0} (P : X → Type 0) (xs : List X) (x : X) → AllByRecursion P xs → P x → AllByRecursion P (xs ++ x ∷ [])
all_more P [] x all is = (is, tt)
all_more P (y ∷ ys) x all is = (all.0, all_more P ys x all.1 is)

-- where a fresh node comes to stand under an id, the members are still first ones
first_becomes : (c : Config) (before after : Lodging) (id : ℕ) (l : Lodged) (member : Member) → Becomes before after id (Some l) → IsFresh c id l → IsFirst c before member
    → ((member.id ≡ id) ⊎ (member.id ≢ id)) → IsFirst c after member
first_becomes c before after id l member becomes fresh is (inl here) =
    record {
      node = l;
      there = ap after here ∙ becomes.there;
      fresh = subst (λ (i : ℕ). IsFresh c i l) (sym here) fresh;
      pool = is.pool;
      runs = is.runs;
      armed = is.armed;
    }
first_becomes c before after id l member becomes fresh is (inr other) =
    record { node = is.node; there = becomes.others member.id other ∙ is.there; fresh = is.fresh; pool = is.pool; runs = is.runs; armed = is.armed }

node_made : (c : Config) (id : ℕ) (state : Core) (pool : List Request) (ledger : List Entry) (runs armed : Bool) → state ≡ core_on c id → pool ≡ []
    → ledger ≡ genesis_entry c ∷ [] → runs ≡ true → armed ≡ false
    → ◌≡◌ {A = worlds.Node Core} (record { id = id; state = state; pool = pool; ledger = ledger; runs = runs; armed = armed }) (first_node core_keeping c id)
node_made c id state pool ledger runs armed same empty begun run unarmed = rw (same, empty, begun, run, unarmed) refl

-- each is the first node of the model
node_first : (c : Config) (at : Lodging) (member : Member) → IsFirst c at member
    → node_of c at member ≡ first_node core_keeping c member.id
node_first c at member is =
    let r = is.node.node.running in
    node_there c at member is.node is.there
    ∙ node_made c member.id (state_of r) member.pool.items (chain_of r) member.runs member.armed is.fresh.state
    is.pool is.fresh.chain is.runs is.armed

nodes_first : (c : Config) (at : Lodging) (members : List Member) → AllByRecursion (IsFirst c at) members
    → map (node_of c at) members ≡ map (first_node core_keeping c) (ids_of members)
nodes_first c at [] all = refl
nodes_first c at (x ∷ xs) all = rw (node_first c at x all.0, nodes_first c at xs all.1) refl

-- THE FIRST IDS have their nodes

-- those that aren't Byzantine
abbrev pub correct : List ℕ → List ℕ → List ℕ
correct byzantine ids = filter (λ id. not (is_in id byzantine)) ids

-- The nodes of the first k ids are opened, but for the Byzantine ones. Nothing else has happened, and no other id has a node.
pub record HasFirst (before at : Lodging) (old w : World) (k : ℕ) : Type 0 where
  pub config : w.config ≡ old.config
  pub byzantine : w.byzantine ≡ old.byzantine
  pub network : w.outside.network.items ≡ []
  pub seals : w.outside.seat.seals ≡ []
  pub ids : ids_of w.members.items ≡ correct old.byzantine (take k old.config.members)
  pub first : AllByRecursion (IsFirst old.config at) w.members.items
  pub moves : List Move
  pub made : AreMoves old.config before at moves
  pub decided : outcomes_of moves ≡ []
  pub free : (j : ℕ) → k ≤ j → j < length old.config.members → at (get_or old.config.members j 0) ≡ None

pub has_none : (at : Lodging) (w : World) → IsEmpty at → w.members.items ≡ [] → w.outside.network.items ≡ [] → w.outside.seat.seals ≡ [] → HasFirst at at w w 0
has_none at w empty none network seals =
    record {
      config = refl;
      byzantine = refl;
      network = network;
      seals = seals;
      ids = ap ids_of none;
      first = subst (AllByRecursion (IsFirst w.config at)) (sym none) tt;
      moves = [];
      made = alike_self at;
      decided = refl;
      free = λ j above within. empty (get_or w.config.members j 0);
    }

-- a Byzantine one has no node
pub has_skipped : (before at : Lodging) (old w : World) (k id : ℕ) → k < length old.config.members → id ≡ get_or old.config.members k 0 → is_in id old.byzantine ≡ true
    → HasFirst before at old w k → HasFirst before at old w (k + 1)
has_skipped before at old w k id within is liar has =
    let p = λ (id : ℕ). not (is_in id old.byzantine) in
    let liar' : p (get_or old.config.members k 0) ≡ false = ap p (sym is) ∙ ap not liar in
    record {
      config = has.config;
      byzantine = has.byzantine;
      network = has.network;
      seals = has.seals;
      ids = rw (filter_more p old.config.members k 0 within, liar', append-nil (filter p (take k old.config.members))) has.ids;
      first = has.first;
      moves = has.moves;
      made = has.made;
      decided = has.decided;
      free = λ j above below. has.free j (omega (arith, above)) below;
    }

-- another one is opened
pub has_more : EmptyFilesKeep → (before at next : Lodging) (old w new : World) (k id : ℕ)
    → IsGenesisConfig old.config → IsStrictlyIncreasing old.config.members → k < length old.config.members
    → id ≡ get_or old.config.members k 0 → is_in id old.byzantine ≡ false → Begins at next w new id → HasFirst before at old w k → HasFirst before next old new (k + 1)
has_more keep before at next old w new k id genesis rise within is correct_one begun has =
    let ids = old.config.members in
    let p = λ (id : ℕ). not (is_in id old.byzantine) in
    let correct' : p (get_or ids k 0) ≡ true = ap p (sym is) ∙ ap not correct_one in
    let one : Move = Opens id begun.disk w.outside.seat in
    let opened' = subst (λ (c : Config).
    IsOpenedOn (setup_of c id) (accepts_of w.outside.seat) begun.disk begun.node) has.config begun.opened in
    let fresh' : IsFresh old.config id begun.node =
    opens_fresh keep old.config id (accepts_of w.outside.seat) begun.disk begun.node genesis
    (ap is_sealed has.seals) begun.empty opened' in
    record {
      config = begun.config ∙ has.config;
      byzantine = begun.byzantine ∙ has.byzantine;
      network = ap (λ (v : Vec Posted Global). v.items) begun.network ∙ has.network;
      seals = begun.seals ∙ has.seals;
      ids = ap ids_of begun.members ∙ map-append (λ (m : Member). m.id) w.members.items (begun.member ∷ []) ∙ rw (has.ids, begun.named, is, filter_more p ids k 0 within, correct') refl;
      first = subst (AllByRecursion (IsFirst old.config next)) (sym begun.members)
          (all_more (IsFirst old.config next) w.members.items begun.member
          (all_weaker (IsFirst old.config at) (IsFirst old.config next) (λ m h. first_becomes old.config at next id begun.node m begun.becomes fresh' h (cases_eq m.id id)) w.members.items has.first)
          (record {
            node = begun.node;
            there = ap next begun.named ∙ begun.becomes.there;
            fresh = subst (λ (i : ℕ). IsFresh old.config i begun.node) (sym begun.named) fresh';
            pool = begun.pool;
            runs = begun.runs;
            armed = begun.armed;
          }));
      moves = has.moves ++ one ∷ [];
      made = moves_then old.config before at next has.moves (one ∷ []) has.made (next, (begun.node, opened', begun.becomes), alike_self next);
      decided = outcomes_then has.moves (one ∷ []) ∙ ap (λ (o : List Outcome). o ++ []) has.decided;
      free = λ j above below.
          let less = AllPairs-from_increasing ids rise k j 0 (omega (arith, above)) below in
          let apart : get_or ids j 0 ≢ id = λ same. omega (arith, less, same, is) in
          begun.becomes.others (get_or ids j 0) apart ∙ has.free j (omega (arith, above)) below;
    }

-- ALL HAVE

module _ (before at : Lodging) (old w : World) (k : ℕ) (all : length old.config.members ≤ k) (has : HasFirst before at old w k) where
  ids_all : ids_of w.members.items ≡ correct old.byzantine old.config.members
  ids_all = has.ids ∙ ap (correct old.byzantine) (take_all k old.config.members all)

  pub first_sound : IsGenesisConfig old.config → IsStrictlyIncreasing old.config.members → IsSound at w
  first_sound genesis rise =
      record {
        config = subst IsGenesisConfig (sym has.config) genesis;
        ids = subst IsStrictlyIncreasing (sym ids_all) (IsStrictlyIncreasing-filter (λ id. not (is_in id old.byzantine)) old.config.members rise);
        nodes = subst (λ (c : Config). AllByRecursion (IsMember c (accepts_of w.outside.seat) at) w.members.items) (sym has.config)
            (subst (λ (seals : List Seal). AllByRecursion (IsMember old.config (is_sealed seals) at) w.members.items) (sym has.seals)
            (all_weaker (IsFirst old.config at) (IsMember old.config nothing_sealed at) (λ m h. record { node = h.node; there = h.there; seated = h.fresh.seated }) w.members.items has.first));
      }

  pub first_unarmed : NoneArmed w
  first_unarmed = all_weaker (IsFirst old.config at) (λ (m : Member). m.armed ≡ false) (λ m h. h.armed) w.members.items has.first

  pub first_value : (later : List Outcome) → world_of at w later ≡ first_world core_setting later old.config old.byzantine
  first_value later =
      let f = first_node core_keeping old.config in
      let nodes : map (node_of w.config at) w.members.items ≡ map f (correct old.byzantine old.config.members) =
      ap (λ (c : Config). map (node_of c at) w.members.items) has.config
      ∙ nodes_first old.config at w.members.items has.first
      ∙ ap (map f) ids_all in
      world_made w.config old.config w.byzantine old.byzantine (map (node_of w.config at) w.members.items) (map entry_of w.outside.network.items) w.outside.seat.seals later
      has.config has.byzantine nodes (ap (map entry_of) has.network) has.seals
    where
      world_made : (c d : Config) (xs ys : List ℕ) (nodes : List (worlds.Node Core)) (network : List worlds.Entry) (seals : List Seal) (later : List Outcome) → c ≡ d → xs ≡ ys
          → nodes ≡ map (first_node core_keeping d) (correct ys d.members) → network ≡ [] → seals ≡ []
          → ◌≡◌ {A = Model} (record { config = c; byzantine = xs; nodes = nodes; network = network; seals = seals; told = tt; outcomes = later }) (first_world core_setting later d ys)
      world_made c d xs ys nodes network seals later config liars first none unsealed = rw (config, liars, first, none, unsealed) refl

-- WHO WAITS: where nothing was sent, nobody
pub nothing_waits : (c : Config) (count : ℕ) (members : List Member) (network : List Posted) → network ≡ [] → waits_before c count members network ≡ false
nothing_waits c count members network none = rw (none, take-nil {A = worlds.Entry} count) refl
