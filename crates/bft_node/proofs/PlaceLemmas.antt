-- Where a delivery leaves a node.
use Rattle.std.proofs.Common.{◌≡◌, ℕ, ◌+◌, ◌<◌, ◌^◌, List, [], ◌∷◌, ◌++◌, map, None, refl, ap, subst, ◌∙◌, arith}
use Rattle.ord_types.specs.Grammar.{HasBlockSpelling, HasCertSpelling}
use Rattle.ord_types.specs.declared.values.Block.{Block}
use Rattle.ord_types.specs.declared.values.Cert.{Cert}
use Rattle.ord_types.specs.declared.values.Config.{Config}
use Rattle.ord_types.specs.declared.values.Place.{Place}
use Rattle.ord_types.specs.declared.values.Proof.{Proof}
use Rattle.ord_types.specs.declared.values.Proof.TheVariants.{Bft}
use Rattle.ord_types.specs.declared.values.ReqId.{ReqId}
use Rattle.ord_types.specs.declared.values.Request.{Request}
use Rattle.ord_types.proofs.Fitting.{fits_cert}
use Rattle.ord_types.specs.Lengths.{FitsCert}
use Rattle.std.proofs.lemmas.Option.{same_Some}
use Rattle.safety_model.specs.declared.fact.Fact.TheVariants.{Delivered}
use Rattle.chan_config.specs.Blocks.{change_in}
use Rattle.block_ledger.specs.Chains.{Entry}
use Rattle.block_ledger.specs.Places.{next_place, place_after}
use Rattle.block_ledger.proofs.Placing.{moves_by_one}
use Rattle.view_core.specs.Places.{IsPlace}
use Rattle.bft_node.specs.Making.{done_of}
use Rattle.bft_node.specs.Running.{place_of}
use Rattle.bft_node.specs.Stores.{config_of, held_of}
use Rattle.bft_node.specs.declared.live.Done.{Done}
use Rattle.bft_node.specs.declared.live.Running.{Running}

pub delivered_place : (r new : Running) (b : Block) (proof : Proof) → config_of new.store ≡ config_of r.store
    → (held_of new.store).blocks ≡ (held_of r.store).blocks ++ (b, proof) ∷ []
    → place_of new ≡ next_place (place_of r) (b, proof)
delivered_place r new b proof config blocks =
    ap (λ (c : Config). place_after c (held_of new.store).blocks) config
    ∙ ap (λ (l : List Entry). place_after (config_of r.store) l) blocks
    ∙ moves_by_one (config_of r.store) (held_of r.store).blocks (b, proof)

pub next_stands : (p : Place) (b : Block) (cert : Cert) → IsPlace p → p.height + 1 < 2 ^ 62 → HasBlockSpelling b
    → HasCertSpelling cert → IsPlace (next_place p (b, Bft cert))
unfolding next_place change_in
next_stands p b cert stands below block spelled =
    record { some = stands.some; few = stands.few; behind = omega arith; height = below; decided = block.meta.decided; cert = λ x e. subst FitsCert (same_Some cert x e) (fits_cert cert spelled) }

pub delivered_fact : (i me : ℕ) (x b : Block) (y cert : Cert) → i ≡ me → x ≡ b → y ≡ cert → Delivered i x (Bft y) ≡ Delivered me b (Bft cert)
delivered_fact i me x b y cert e f g = ap (λ j. Delivered j x (Bft y)) e ∙ ap (λ (z : Block). Delivered me z (Bft y)) f ∙ ap (λ (z : Cert). Delivered me b (Bft z)) g

pub done_is : (ids : List ReqId) (b : Block) (proof : Proof) → ids ≡ map (λ (r : Request). r.id) b.requests
    → ◌≡◌ {A = List Done} (record { ids = ids; next = None } ∷ []) (done_of (b, proof) ∷ [])
unfolding change_in
done_is ids b proof e = ap (λ (l : List ReqId). let d : Done = record { ids = l; next = None } in d ∷ []) e
