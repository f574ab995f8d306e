-- An accepted block fits.
use Rattle.std.proofs.Common.{
  ◌≡◌,
  ℕ,
  ◌+◌,
  ◌≤◌,
  ◌^◌,
  Bool,
  true,
  false,
  ◌||◌,
  ◌&&◌,
  List,
  [],
  ◌∷◌,
  length,
  cond,
  refl,
  sym,
  subst,
  ap,
  ◌∙◌,
  inl,
  inr,
  Option,
  Some,
  None,
  arith,
}
use Rattle.std.specs.Prelude.{◌==◌, not, nat_le, is_none, IfSome}
use Rattle.std.specs.List.{All, AllByRecursion}
use Rattle.std.specs.Str.{bytes_eq}
use Rattle.std.proofs.lemmas.Bool.{and_parts, eqb-true}
use Rattle.std.proofs.lemmas.List.Elements.{recursion_from_All}
use Rattle.sha2.proofs.Facts256.{length-sha256}
use Rattle.ord_types.specs.Grammar.{HasCertSpelling, HasIdsSpelling, HasRequestSpelling, IsDigest, IsNumber}
use Rattle.ord_types.specs.Hashes.{content_hash, meta_hash}
use Rattle.ord_types.specs.declared.values.Cert.{Cert}
use Rattle.safety_model.specs.Blocks.{Block, Request}
use Rattle.safety_model.specs.Facts.{History, Stands}
use Rattle.safety_model.specs.State.{Setup}
use Rattle.safety_model.specs.declared.fact.Fact.{Fact}
use Rattle.signer_edge.specs.Accepts.{Accepts}
use Rattle.view_model.specs.declared.letter.VoteMessage.TheVariants as message_of
use Rattle.view_model.specs.declared.letter.Letter.{Letter}
use Rattle.view_model.specs.declared.letter.VoteMessage.{VoteMessage}
use Rattle.view_model.specs.Letters.{PrePrepare, proposal_in}
use Rattle.view_model.specs.Leading.{Place, is_at_start, leader, meta_eq, next_meta, turn}
use Rattle.view_model.specs.Checks.{is_block_of_view, is_carried_good, is_next_block, signers_carried}
use Rattle.view_model.specs.Acts.{
  View,
  acceptance_due,
  block_if,
  carried_cert,
  first_of,
  is_acceptable,
  is_inside_view,
  is_voting,
  kept_proposal,
  may_propose,
  proposal,
  proposed,
}
use Rattle.world_safety.proofs.Delivering.{next_is}
use Rattle.world_safety.specs.Fits.{CertFits, FitsAt}
use Rattle.world_safety.proofs.Standing.{IsKeptWell, Stands as StandsBy}

pub all_stands : (P : Fact → Type 0) (h : History) (f : Fact) → AllByRecursion P h → Stands h f → P f
all_stands P [] f all st = elim st [ ]
all_stands P (g ∷ h) f all (inl is) = subst P is all.0
all_stands P (g ∷ h) f all (inr st) = all_stands P h f all.1 st

-- a place in view 0 whose configuration has a spelling, and whose last block and its certificate fit
pub record PlaceFits (place : Place) (v : ℕ) : Type 0 where
  pub view : v ≡ 0
  pub config : IsNumber place.config.number
  pub members : HasIdsSpelling place.config.members
  pub last : IsDigest place.last
  pub decided : place.last_meta.decided + 1 ≤ place.height
  pub small : place.height ≤ 2 ^ 62
  pub last_cert : (cert : Cert) → place.last_cert ≡ Some cert → CertFits cert

turn_small : (place : Place) (v : ℕ) → place.last_meta.decided + 1 ≤ place.height → turn place v
    ≤ place.height
turn_small place v le = go (is_at_start place || not (place.last_meta.view == v))
  where
    go : (t : Bool) → cond t 0 (place.last_meta.decided + 1) ≤ place.height
    go true = omega arith
    go false = le

-- PROPOSE

-- what a proposal carries has a spelling, and its signers may stand in a meta
pub record CarriedFits (o : Option Cert) : Type 0 where
  pub spelled : IfSome o HasCertSpelling
  pub signers : HasIdsSpelling (signers_carried o)

no_ids : HasIdsSpelling []
no_ids = record { count = omega arith; ascending = tt; words = tt }

pub carried_fits : (place : Place) (v : ℕ) → PlaceFits place v → CarriedFits (carried_cert place)
carried_fits place v fits = go (is_at_start place) place.last_cert fits.last_cert
  where
    go : (t : Bool) (o : Option Cert) → ((cert : Cert) → o ≡ Some cert → CertFits cert)
        → CarriedFits (cond t None o)
    go true o last = record { spelled = tt; signers = no_ids }
    go false None last = record { spelled = tt; signers = no_ids }
    go false (Some cert) last =
        let fits = last cert refl in record { spelled = fits.spelled; signers = fits.signers }

-- a block that is made at a place, for a view, where the format has room for it
pub block_fits_at : (place : Place) (v view : ℕ) (rs : List Request) → PlaceFits place v → IsNumber view
    → IsNumber place.height → length rs ≤ 1000 → All HasRequestSpelling rs
    → FitsAt place.height (proposal place view rs)
unfolding content_hash meta_hash
block_fits_at place v view rs fits viewed below few small =
    let le = turn_small place view fits.decided in
    let carried = carried_fits place v fits in
    record {
      number = below;
      decided = le;
      spelled = record {
        header = record {
          number = below;
          previous = fits.last;
          content = length-sha256 _;
          meta =
              length-sha256 _;
        };
        requests = record { count = few; requests = recursion_from_All HasRequestSpelling rs small };
        meta = record {
          config = fits.config;
          view = viewed;
          decided = omega arith;
          blacklist = record { count = omega arith; different = tt; words = tt };
          signers = carried.signers;
        };
      };
    }

pub view_fits : (place : Place) (v : ℕ) → PlaceFits place v → IsNumber v
view_fits place v fits = subst IsNumber (sym fits.view) (omega arith)

-- the block that a member makes at its place
made_fits : (place : Place) (v : ℕ) (rs : List Request) → PlaceFits place v → All HasRequestSpelling rs
    → is_next_block place (proposal place v rs) ≡ true → FitsAt place.height (proposal place v rs)
made_fits place v rs fits small is =
    let next = next_is place (proposal place v rs) is in
    block_fits_at place v v rs fits (view_fits place v fits) next.below next.few small

proposed_is : (x b : Block) (may enough next t : Bool) → (may && enough && next) ≡ t → cond t (Some x) None
    ≡ Some b → (x ≡ b) × (next ≡ true)
proposed_is x b may enough next true is h = (cc, (and_parts (may && enough) next is).1)
proposed_is x b may enough next false is h = absurd (cc)

pub proposal_fits : (place : Place) (w : View) (rs : List Request) (b : Block) → PlaceFits place w.view
    → All HasRequestSpelling rs → proposed place w rs ≡ Some b → FitsAt place.height b
proposal_fits place w rs b fits small is =
    let x = proposal place w.view rs in
    let both = proposed_is x b (may_propose place w) (nat_le 1 (length rs)) (is_next_block place x)
    (may_propose place w && nat_le 1 (length rs) && is_next_block place x) refl is in
    subst (FitsAt place.height) both.0 (made_fits place w.view rs fits small both.1)

-- ACCEPT

-- the letter that a kept proposal is from
proposal_from : (P : Letter → Type 0) (s : ℕ) (from : ℕ) (message : VoteMessage) (m : PrePrepare)
    → P (record { from = from; message = message }) → proposal_in s message ≡ Some m
    → P (record { from = from; message = message_of.PrePrepare m }) × (m.number ≡ s)
proposal_from P s from (message_of.PrePrepare x) m good is = go (x.number == s) refl is
  where
    go : (t : Bool) → (x.number == s) ≡ t → cond t (Some x) None ≡ Some m
        → P (record { from = from; message = message_of.PrePrepare m }) × (m.number ≡ s)
    go true eq at = let same : x ≡ m = cc in (
      subst (λ m. P (record { from = from; message = message_of.PrePrepare m })) same good,
      subst (λ (m : PrePrepare). m.number ≡ s) same (eqb-true x.number s eq),
    )
    go false eq at = absurd (cc)
proposal_from P s from (message_of.Prepare x) m good is = absurd (cc)
proposal_from P s from (message_of.Commit x) m good is = absurd (cc)

kept_from : (P : Letter → Type 0) (from s : ℕ) (letters : List Letter) (m : PrePrepare)
    → AllByRecursion P letters → kept_proposal from s letters ≡ Some m
    → P (record { from = from; message = message_of.PrePrepare m }) × (m.number ≡ s)
kept_from P from s [] m all is = absurd (cc)
kept_from P from s (l ∷ ls) m all is = go (l.from == from) refl (kept_from P from s ls m all.1) is
  where
    here : (o : Option PrePrepare) → proposal_in s l.message ≡ o → l.from ≡ from
        → (kept_proposal from s ls ≡ Some m → P (record { from = from; message = message_of.PrePrepare m })
        × (m.number ≡ s))
        → first_of o (kept_proposal from s ls) ≡ Some m
        → P (record { from = from; message = message_of.PrePrepare m }) × (m.number ≡ s)
    here None o same rest at = rest at
    here (Some x) o same rest at =
        let is_m : x ≡ m = cc in
        proposal_from P s from l.message m (subst (λ from. P (record { from = from; message = l.message }))
        same all.0) (o ∙ ap (λ (x : PrePrepare). Some x) is_m)

    go : (t : Bool) → (l.from == from) ≡ t
        → (kept_proposal from s ls ≡ Some m → P (record { from = from; message = message_of.PrePrepare m })
        × (m.number ≡ s))
        → first_of (cond t (proposal_in s l.message) None) (kept_proposal from s ls) ≡ Some m
        → P (record { from = from; message = message_of.PrePrepare m }) × (m.number ≡ s)
    go true eq rest at = here (proposal_in s l.message) refl (eqb-true l.from from eq) rest at
    go false eq rest at = rest at

-- an acceptable block has the meta that its place makes
decided_is : (accepts : Accepts) (place : Place) (v : ℕ) (m : PrePrepare) → is_acceptable accepts place v m
    ≡ true → m.block.meta.decided ≡ turn place v
decided_is accepts place v m is =
    let a = m.block.meta in
    let b = next_meta place v (signers_carried m.cert) in
    let p = and_parts (is_block_of_view place v m) (is_carried_good accepts place m.cert) is in
    let q = and_parts (is_next_block place m.block) (meta_eq a b) p.0 in
    let r = and_parts ((a.config == b.config) && (a.view == b.view) && (a.decided == b.decided)
    && bytes_eq a.blacklist b.blacklist) (bytes_eq a.signers b.signers) q.1 in
    let t = and_parts ((a.config == b.config) && (a.view == b.view) && (a.decided == b.decided))
    (bytes_eq a.blacklist b.blacklist) r.0 in
    eqb-true a.decided b.decided (and_parts ((a.config == b.config) && (a.view == b.view))
    (a.decided == b.decided) t.0).1

-- it came in a message that has a spelling
accepted_where : (accepts : Accepts) (su : Setup) (h : History) (e : ℕ) (place : Place) (w : View)
    (b : Block) → PlaceFits place w.view
    → AllByRecursion (IsKeptWell su h e w.view place.height) w.kept → (o : Option PrePrepare)
    → kept_proposal (leader place w.view) place.height w.kept ≡ o → block_if accepts place w.view o ≡ Some b
    → FitsAt place.height b
accepted_where accepts su h e place w b fits kept None at is = absurd (cc)
accepted_where accepts su h e place w b fits kept (Some m) at is =
    go (is_acceptable accepts place w.view m) refl is
  where
    go : (t : Bool) → is_acceptable accepts place w.view m ≡ t → cond t (Some m.block) None ≡ Some b
        → FitsAt place.height b
    go false ok has_it = absurd (cc)
    go true ok has_it =
        let s = place.height in
        let good = kept_from (IsKeptWell su h e w.view s) (leader place w.view) s w.kept m kept at in
        let same : m.block ≡ b = cc in
        let spelled = good.0.fits in
        let le = turn_small place w.view fits.decided in
        let turned = decided_is accepts place w.view m ok in
        subst (FitsAt s) same (record {
          number = subst IsNumber good.1 spelled.number;
          decided =
              omega arith;
          spelled = spelled.block;
        })

pub acceptance_fits : (accepts : Accepts) (su : Setup) (h : History) (i : ℕ) (place : Place) (w : View)
    (b : Block) → StandsBy su h i place w → PlaceFits place w.view
    → acceptance_due accepts place w ≡ Some b → FitsAt place.height b
acceptance_fits accepts su h i place w b st fits is =
    go (is_voting place w && is_inside_view w && is_none w.accepted) is
  where
    go : (t : Bool) → cond t (block_if accepts place w.view
        (kept_proposal (leader place w.view) place.height w.kept)) None ≡ Some b → FitsAt place.height b
    go true is = accepted_where accepts su h place.config.number place w b fits st.kept
        (kept_proposal (leader place w.view) place.height w.kept) refl is
    go false is = absurd (cc)
