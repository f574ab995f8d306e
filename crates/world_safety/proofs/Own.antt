-- What the history says of a node, its own facts say.
use Rattle.std.proofs.Common.{
  ◌≡◌,
  ℕ,
  ◌+◌,
  Bool,
  true,
  false,
  List,
  [],
  ◌∷◌,
  ◌++◌,
  length,
  map,
  max,
  reverse,
  cond,
  refl,
  sym,
  ap,
  ap₂,
  ◌∙◌,
  append-nil,
  Option,
}
use Rattle.std.specs.Prelude.{◌==◌}
use Rattle.std.specs.List.{AllByRecursion, flat_map}
use Rattle.std.proofs.lemmas.Grind.{flat_map-append}
use Rattle.std.proofs.lemmas.List.{map-append, reverse-append, reverse-reverse}
use Rattle.ord_types.specs.declared.values.Proof.TheVariants as proof_of
use Rattle.safety_model.specs.Blocks.{Block, config_at}
use Rattle.safety_model.specs.Facts.{History, Proof}
use Rattle.safety_model.specs.declared.fact.Fact.{Fact}
use Rattle.safety_model.specs.declared.fact.Fact.TheVariants.{
  Accepted,
  Prepared,
  Left,
  Reported,
  Entered,
  Delivered,
}
use Rattle.safety_model.specs.State.{
  Setup,
  block_or,
  config_of,
  delivered,
  delivered_by,
  entered_view,
  height,
  last_delivered,
  last_or,
  ledger,
  left,
  left_view,
  tip,
  view,
}
use Rattle.safety_model.specs.Rules.{actor}
use Rattle.safety_model.proofs.StateFacts.{moves_actor, views_stay}
use Rattle.node_model.specs.Entries.{
  Accepts,
  Came,
  Commits,
  Delivers,
  Did,
  Enters,
  Entry,
  Leaves,
  Opened,
  Prepares,
  Sent,
  Signed,
  facts_in,
  facts_of,
  stored_in,
  stored_of,
}
use Rattle.world_safety.specs.Resting.{own}
use Rattle.world_safety.specs.Safe.{stored, stored_with}

delivered_other : (i : ℕ) (f : Fact) → (actor f == i) ≡ false → delivered_by i f ≡ []
delivered_other i (Delivered j b proof) h = rw h refl
delivered_other i f h = refl

last_other : (i : ℕ) (f : Fact) (o : Option (Block × Proof)) → (actor f == i) ≡ false → last_or i f o ≡ o
last_other i (Delivered j b proof) o h = rw h refl
last_other i f o h = refl

pub delivered_own : (i : ℕ) (h : History) → delivered i h ≡ delivered i (own i h)
delivered_own i [] = refl
delivered_own i (f ∷ h) = go (actor f == i) refl (delivered_own i h)
  where
    go : (b : Bool) → (actor f == i) ≡ b → delivered i h ≡ delivered i (own i h) → delivered i h
        ++ delivered_by i f ≡ delivered i (cond b (f ∷ own i h) (own i h))
    go true is rest = ap (λ bs. bs ++ delivered_by i f) rest
    go false is rest =
        ap (λ bs. delivered i h ++ bs) (delivered_other i f is) ∙ append-nil (delivered i h) ∙ rest

pub last_own : (i : ℕ) (h : History) → last_delivered i h ≡ last_delivered i (own i h)
last_own i [] = refl
last_own i (f ∷ h) = go (actor f == i) refl (last_own i h)
  where
    go : (b : Bool) → (actor f == i) ≡ b → last_delivered i h ≡ last_delivered i (own i h)
        → last_or i f (last_delivered i h) ≡ last_delivered i (cond b (f ∷ own i h) (own i h))
    go true is rest = ap (last_or i f) rest
    go false is rest = last_other i f (last_delivered i h) is ∙ rest

pub height_own : (i : ℕ) (h : History) → height i h ≡ height i (own i h)
height_own i h = ap (λ (bs : List Block). length bs + 1) (delivered_own i h)

pub config_own : (su : Setup) (i : ℕ) (h : History) → config_of su i h ≡ config_of su i (own i h)
config_own su i h = ap (config_at su.config) (delivered_own i h)

pub tip_own : (su : Setup) (i : ℕ) (h : History) → tip su i h ≡ tip su i (own i h)
tip_own su i h = ap (block_or su.genesis) (last_own i h)

-- the view that it is in, and the one that it left for
pub view_own : (i e : ℕ) (h : History) → view i e h ≡ view i e (own i h)
view_own i e [] = refl
view_own i e (f ∷ h) = go (actor f == i) refl (view_own i e h)
  where
    go : (b : Bool) → (actor f == i) ≡ b → view i e h ≡ view i e (own i h) → view i e (f ∷ h)
        ≡ view i e (cond b (f ∷ own i h) (own i h))
    go true is rest = ap (max (entered_view i e f)) rest
    go false is rest = (views_stay i e f h (moves_actor i f is)).0 ∙ rest

pub left_own : (i e : ℕ) (h : History) → left i e h ≡ left i e (own i h)
left_own i e [] = refl
left_own i e (f ∷ h) = go (actor f == i) refl (left_own i e h)
  where
    go : (b : Bool) → (actor f == i) ≡ b → left i e h ≡ left i e (own i h) → left i e (f ∷ h)
        ≡ left i e (cond b (f ∷ own i h) (own i h))
    go true is rest = ap (max (left_view i e f)) rest
    go false is rest = (views_stay i e f h (moves_actor i f is)).1 ∙ rest

-- a fact of the node, and one of another
pub own_more : (i : ℕ) (f : Fact) (h : History) → (actor f == i) ≡ true → own i (f ∷ h) ≡ f ∷ own i h
own_more i f h is = rw is refl

pub own_other : (i : ℕ) (f : Fact) (h : History) → (actor f == i) ≡ false → own i (f ∷ h) ≡ own i h
own_other i f h is = rw is refl

-- WHAT A NODE HAS STORED

-- facts of the node, one after the other, and facts of another
pub own_mine : (i : ℕ) (fs : List Fact) (h : History) → AllByRecursion (λ f. (actor f == i) ≡ true) fs
    → own i (fs ++ h) ≡ fs ++ own i h
own_mine i [] h all = refl
own_mine i (f ∷ fs) h all = own_more i f (fs ++ h) all.0 ∙ ap (λ (g : History). f ∷ g) (own_mine i fs h all.1)

pub own_others : (i : ℕ) (fs : List Fact) (h : History) → AllByRecursion (λ f. (actor f == i) ≡ false) fs
    → own i (fs ++ h) ≡ own i h
own_others i [] h all = refl
own_others i (f ∷ fs) h all = own_other i f (fs ++ h) all.0 ∙ own_others i fs h all.1

-- facts that a node makes stand behind those that it had
pub stored_more : (su : Setup) (i : ℕ) (fs : List Fact) (h : History)
    → AllByRecursion (λ f. (actor f == i) ≡ true) (reverse fs) → stored su i (reverse fs ++ h)
    ≡ stored su i h ++ flat_map stored_with fs
stored_more su i fs h mine =
    let order : reverse (own i (reverse fs ++ h)) ≡ reverse (own i h) ++ fs =
    ap reverse (own_mine i (reverse fs) h mine) ∙ reverse-append (reverse fs) (own i h)
    ∙ ap (λ (gs : List Fact). reverse (own i h) ++ gs) (reverse-reverse fs) in
    ap (λ (more : List (Block × Proof)). (su.genesis, proof_of.Raft) ∷ more)
    (ap (flat_map stored_with) order ∙ flat_map-append stored_with (reverse (own i h)) fs)

-- the blocks of one fact of the node
blocks_one : (i : ℕ) (f : Fact) → (actor f == i) ≡ true → map (λ (entry : Block × Proof). entry.0)
    (flat_map stored_with (f ∷ [])) ≡ delivered_by i f
blocks_one i (Accepted j e v s d) is = refl
blocks_one i (Prepared j e v s d) is = refl
blocks_one i (Left j e v) is = refl
blocks_one i (Reported j e v r) is = refl
blocks_one i (Entered j e v x choice) is = refl
blocks_one i (Delivered j b proof) is = rw is refl

blocks_of : List Fact → List Block
blocks_of fs = map (λ (entry : Block × Proof). entry.0) (flat_map stored_with fs)

blocks_append : (fs gs : List Fact) → blocks_of (fs ++ gs) ≡ blocks_of fs ++ blocks_of gs
unfolding blocks_of
blocks_append fs gs = ap (map (λ (entry : Block × Proof). entry.0)) (flat_map-append stored_with fs gs)
    ∙ map-append (λ (entry : Block × Proof). entry.0) (flat_map stored_with fs) (flat_map stored_with gs)

blocks_own : (i : ℕ) (h : History) → blocks_of (reverse (own i h)) ≡ delivered i h
unfolding blocks_of
blocks_own i [] = refl
blocks_own i (f ∷ h) = go (actor f == i) refl (blocks_own i h)
  where
    go : (t : Bool) → (actor f == i) ≡ t → blocks_of (reverse (own i h)) ≡ delivered i h
        → blocks_of (reverse (cond t (f ∷ own i h) (own i h))) ≡ delivered i h ++ delivered_by i f
    go true is rest =
        ap blocks_of (reverse-append (f ∷ []) (own i h)) ∙ blocks_append (reverse (own i h)) (f ∷ [])
        ∙ ap₂ (λ (a b : List Block). a ++ b) rest (blocks_one i f is)
    go false is rest = rest ∙ sym (append-nil (delivered i h)) ∙ ap (λ (bs : List Block). delivered i h
        ++ bs) (sym (delivered_other i f is))

-- the blocks are those of the ledger
pub stored_blocks : (su : Setup) (i : ℕ) (h : History) → map (λ (entry : Block × Proof). entry.0)
    (stored su i h) ≡ ledger su i h
unfolding blocks_of
stored_blocks su i h = ap (λ (bs : List Block). su.genesis ∷ bs) (blocks_own i h)

-- what the facts of entries add is what the entries store
entry_stored : (entry : Entry) → flat_map stored_with (facts_in entry) ≡ stored_in entry
entry_stored Opened = refl
entry_stored (Came event accepts) = refl
entry_stored (Did (Accepts i e v s b)) = refl
entry_stored (Did (Prepares i e v s d)) = refl
entry_stored (Did (Delivers i b proof)) = refl
entry_stored (Did (Leaves i e v)) = refl
entry_stored (Did (Enters i e v x choice)) = refl
entry_stored (Signed (Commits m) accepts) = refl
entry_stored (Sent receivers message) = refl

pub made_stored : (made : List Entry) → flat_map stored_with (facts_of made) ≡ stored_of made
made_stored [] = refl
made_stored (entry ∷ made) =
    flat_map-append stored_with (facts_in entry) (facts_of made)
    ∙ ap₂ (λ (a b : List (Block × Proof)). a ++ b) (entry_stored entry) (made_stored made)
