-- What a crash keeps of a node, and what an opening finds.
use Rattle.std.proofs.Common.{
  ◌≡◌,
  ℕ,
  zero,
  suc,
  ◌≤◌,
  List,
  [],
  ◌∷◌,
  ◌++◌,
  length,
  take,
  Ok,
  Result,
  refl,
  sym,
  ◌∙◌,
  ap,
  subst,
  append_assoc,
  arith,
}
use Rattle.std.proofs.lemmas.List.{append-nil}
use Rattle.ord_types.specs.declared.values.Config.{Config}
use Rattle.gate_log.specs.Disk.{State, now}
use Rattle.gate_log.specs.Runs.{Throughout}
use Rattle.gate_log.proofs.Going.{went_to}
use Rattle.signer_edge.specs.Accepts.{Accepts as Acceptance}
use Rattle.signer_edge.specs.Signing.{KeepsAccepted}
use Rattle.bft_wal.specs.Opening.{opens_as}
use Rattle.bft_wal.specs.declared.record.WalRecord.{WalRecord}
use Rattle.block_ledger.specs.Chains.{Entry as Stored, IsChain, genesis_entry}
use Rattle.block_ledger.specs.Reading.{Stored as Read, Chain, stands_for}
use Rattle.block_ledger.proofs.Linking.{chain_stays}
use Rattle.gate_log.specs.Format.{reading}
use Rattle.node_model.specs.Cores.{Core, after_entries, after_opening}
use Rattle.node_model.specs.Entries.{
  Accepts,
  Prepares,
  Delivers,
  Leaves,
  Enters,
  Deed,
  Entry,
  Opened,
  Came,
  Did,
  Signed,
  Sent,
  deeds_of,
  statements_of,
  stored_of,
}
use Rattle.node_model.specs.declared.event.Event.{Event}
use Rattle.node_model.specs.Steps.{Keys, step}
use Rattle.bft_node.specs.Crashes.{Image, IsCrash, Opens, Within}
use Rattle.bft_node.specs.Held.{Held, with_block, with_deed, with_deeds}
use Rattle.bft_node.specs.Recovering.{
  CrashesKeep,
  EmptyFilesKeep,
  Holds,
  HoldsOn,
  Keeps,
  KeepsFront,
  KeepsSigned,
  OpeningsKeep,
}
use Rattle.bft_node.specs.NodeOpenings.{IsFoundAgain, files_at}
use Rattle.bft_node.specs.Returning.{opened}
use Rattle.bft_node.specs.Running.{chain_of, state_of}
use Rattle.bft_node.specs.Standing.{Stands}
use Rattle.bft_node.specs.Stores.{IsKept, StoreOpensTo, config_of, held_of}
use Rattle.bft_node.specs.declared.live.Running.{Running}
use Rattle.bft_node.proofs.GoingOn.{begins_standing, stands_same, steps_keep_standing}
use Rattle.bft_node.proofs.Running.{store_opens, store_stays}

-- LAWS

pub empty_files_keep : EmptyFilesKeep
unfolding stands_for reading
empty_files_keep accepts c me first =
    record { ledger = refl; records = []; log = refl; stands = begins_standing c me }

-- files that open to what a node holds keep it
pub opens_keep : (accepts : Acceptance) (c : Config) (me : ℕ) (image : Image) (held : Held) (core : Core)
    → Opens accepts c image held → Stands c me held core → Keeps accepts c me image held.blocks core
opens_keep accepts c me image held core opens stands =
    record { ledger = opens.ledger; records = held.records; log = opens.log; stands = stands }

pub crashes_keep : CrashesKeep
crashes_keep accepts r state holds image crash =
    opens_keep accepts (config_of r.store) r.id image (held_of r.store) (state_of r)
    (store_opens accepts r.store state holds.kept holds.chain image crash) holds.stands

pub holds_on : HoldsOn
holds_on accepts judge r one two holds keeps log ledger =
    record {
      chain = chain_stays accepts judge (config_of r.store) (chain_of r) keeps holds.chain;
      stands = holds.stands;
      kept = store_stays r.store one two holds.kept log ledger;
    }

pub openings_keep : OpeningsKeep
openings_keep accepts c me chain core before state all stays image crash =
    let found = stays.crash image crash in
    let keeps = all found.was found.left in
    record {
      ledger = found.ledger ∙ keeps.ledger;
      records = keeps.records;
      log = found.log ∙ keeps.log;
      stands = keeps.stands;
    }

-- A FRONT OF A STEP'S ENTRIES

-- for so many done deeds of a list of entries there is a front of it whose deeds they are
pub record Cut (made : List Entry) (done : ℕ) : Type 0 where
  pub cut : ℕ
  pub some : cut ≤ length made
  pub deeds : deeds_of (take cut made) ≡ take done (deeds_of made)

no_cut : (made : List Entry) → Cut made zero
no_cut made = record { cut = zero; some = omega arith; deeds = refl }

pub cut_of : (made : List Entry) (done : ℕ) → done ≤ length (deeds_of made) → Cut made done
cut_of made zero le = no_cut made
cut_of [] (suc n) le = absurd (omega (arith, le))
cut_of (Did deed ∷ made) (suc n) le =
    let c = cut_of made n (omega (arith, le)) in
    record {
      cut = suc c.cut;
      some = omega (arith, c.some);
      deeds = ap (λ (l : List Deed). deed ∷ l) c.deeds;
    }
cut_of (Opened ∷ made) (suc n) le =
    let c = cut_of made (suc n) le in record { cut = suc c.cut; some = omega (arith, c.some); deeds = c.deeds }
cut_of (Came event accepts ∷ made) (suc n) le =
    let c = cut_of made (suc n) le in record { cut = suc c.cut; some = omega (arith, c.some); deeds = c.deeds }
cut_of (Signed pledge accepts ∷ made) (suc n) le =
    let c = cut_of made (suc n) le in record { cut = suc c.cut; some = omega (arith, c.some); deeds = c.deeds }
cut_of (Sent receivers message ∷ made) (suc n) le =
    let c = cut_of made (suc n) le in record { cut = suc c.cut; some = omega (arith, c.some); deeds = c.deeds }

-- what entries deliver stands behind what stood in the ledger
pub blocks_with : (made : List Entry) (held : Held)
    → (with_deeds (deeds_of made) held).blocks ≡ held.blocks ++ stored_of made
blocks_with [] held = sym (append-nil held.blocks)
blocks_with (Opened ∷ made) held = blocks_with made held
blocks_with (Came event accepts ∷ made) held = blocks_with made held
blocks_with (Did (Accepts i e v s b) ∷ made) held = blocks_with made (with_deed (Accepts i e v s b) held)
blocks_with (Did (Prepares i e v s d) ∷ made) held = blocks_with made (with_deed (Prepares i e v s d) held)
blocks_with (Did (Delivers i b proof) ∷ made) held =
    blocks_with made (with_deed (Delivers i b proof) held)
    ∙ append_assoc held.blocks ((b, proof) ∷ []) (stored_of made)
blocks_with (Did (Leaves i e v) ∷ made) held = blocks_with made (with_deed (Leaves i e v) held)
blocks_with (Did (Enters i e v x choice) ∷ made) held = blocks_with made (with_deed (Enters i e v x choice) held)
blocks_with (Signed pledge accepts ∷ made) held = blocks_with made held
blocks_with (Sent receivers message ∷ made) held = blocks_with made held

module _ (accepts : Acceptance) (old : Running) (keys : Keys) (event : Event)
    (stands : Stands (config_of old.store) old.id (held_of old.store) (state_of old)) where
  abbrev c : Config
  c = config_of old.store

  abbrev made : List Entry
  made = step keys (state_of old) event

  -- files that open to what a front of the step's entries leaves keep that front
  pub front_keeps : (cut : ℕ) (image : Image)
      → Opens accepts c image (with_deeds (deeds_of (take cut made)) (held_of old.store))
      → Keeps accepts c old.id image (chain_of old ++ stored_of (take cut made)) (after_entries (take cut made) (state_of old))
  front_keeps cut image opens =
      let held : Held = with_deeds (deeds_of (take cut made)) (held_of old.store) in
      subst (λ (chain : List Stored). Keeps accepts c old.id image chain (after_entries (take cut made) (state_of old)))
      (blocks_with (take cut made) (held_of old.store))
      (opens_keep accepts c old.id image held (after_entries (take cut made) (state_of old)) opens
      (steps_keep_standing c old.id (held_of old.store) keys (state_of old) event cut stands))

  within_keeps : (state : State) → Within accepts c (deeds_of made) (held_of old.store) state
      → (image : Image) → IsCrash state image → KeepsFront accepts old made image
  within_keeps state within image crash =
      let found = within image crash in
      let front = cut_of made found.done found.some in
      record {
        cut = front.cut;
        some = front.some;
        keeps = front_keeps front.cut image
            (subst (λ (ds : List Deed). Opens accepts c image (with_deeds ds (held_of old.store)))
            (sym front.deeds) found.opens);
      }

  pub went_keeps : (before after : List State)
      → Throughout (Within accepts c (deeds_of made) (held_of old.store)) before after
      → Throughout (λ state. (image : Image) → IsCrash state image → KeepsFront accepts old made image) before after
  went_keeps before after went =
      went_to (Within accepts c (deeds_of made) (held_of old.store))
      (λ state. (image : Image) → IsCrash state image → KeepsFront accepts old made image)
      within_keeps before after went

-- WHAT AN OPENING FINDS

same_chain : (x y : List Stored) → ◌≡◌ {A = Read} (Chain x) (Chain y) → x ≡ y
same_chain x y is = cc

same_ok : (x y : List WalRecord) → ◌≡◌ {A = Result (List WalRecord) ℕ} (Ok x) (Ok y) → x ≡ y
same_ok x y is = cc

abbrev held_with : List Stored → List WalRecord → Held
held_with bs rs = record { blocks = bs; records = rs }

-- a node that was opened on files that keep a chain and what a node did
pub found_again : (accepts : Acceptance) (c : Config) (me : ℕ) (before after : State) (r : Running)
    → r.id ≡ me → config_of r.store ≡ c → IsChain accepts c (chain_of r)
    → state_of r ≡ opened c me (held_of r.store) → StoreOpensTo accepts c before (Ok r.store) → IsKept r.store after
    → (chain : List Stored) (core : Core) → Keeps accepts c me (files_at before) chain core
    → IsFoundAgain accepts r after chain core
found_again accepts c me before after r id config is_chain state opens kept chain core keeps =
    let blocks : chain_of r ≡ chain = same_chain (chain_of r) chain (sym opens.0 ∙ keeps.ledger) in
    let records : (held_of r.store).records ≡ keeps.records =
    same_ok (held_of r.store).records keeps.records (sym opens.1 ∙ keeps.log) in
    let held : held_of r.store ≡ record { blocks = chain; records = keeps.records } =
    ap (λ (bs : List Stored). held_with bs (held_of r.store).records) blocks
    ∙ ap (λ (rs : List WalRecord). held_with chain rs) records in
    let finds : state_of r ≡ after_opening core =
    state ∙ ap (opened c me) held ∙ sym keeps.stands.finds in
    let stands : Stands c me (held_of r.store) core = subst (λ (h : Held). Stands c me h core) (sym held) keeps.stands in
    record {
      chain = blocks;
      state = finds;
      holds = record {
        chain = subst (λ (k : Config). IsChain accepts k (chain_of r)) (sym config) is_chain;
        stands =
            subst (λ (k : Config). Stands k r.id (held_of r.store) (state_of r)) (sym config)
            (subst (λ i. Stands c i (held_of r.store) (state_of r)) (sym id)
            (stands_same c me (held_of r.store) core (state_of r) (sym (ap after_opening finds)) stands));
        kept = kept;
      };
    }
