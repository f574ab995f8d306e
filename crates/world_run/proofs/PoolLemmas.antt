-- Lemmas on which requests of a pool were delivered.
use Rattle.std.proofs.Common.{◌≡◌, Bool, not, ◌||◌, List, [], ◌∷◌, map, filter, refl, sym, ap, ◌∙◌}
use Rattle.std.specs.List.{flat_map, list_any}
use Rattle.std.proofs.Math.Path.{fun_ext}
use Rattle.std.proofs.lemmas.List.Folds.{list_any-append}
use Rattle.ord_types.specs.declared.values.ReqId.{ReqId}
use Rattle.safety_model.specs.Blocks.{Request}
use Rattle.world_model.specs.Pools.{has_id, id_eq, settled}
use Rattle.bft_node.specs.declared.live.Done.{Done}

any_flat : {D X : Type 0} (p : X → Bool) (f : D → List X) (ds : List D) → list_any (λ d. list_any p (f d)) ds ≡ list_any p (flat_map f ds)
any_flat p f [] = refl
any_flat p f (d ∷ ds) = ap (λ (b : Bool). list_any p (f d) || b) (any_flat p f ds) ∙ sym (list_any-append p (f d) (flat_map f ds))

any_map : {X Y : Type 0} (p : Y → Bool) (f : X → Y) (xs : List X) → list_any p (map f xs) ≡ list_any (λ x. p (f x)) xs
any_map p f [] = refl
any_map p f (x ∷ xs) = ap (λ (b : Bool). p (f x) || b) (any_map p f xs)

-- a block of this list has a request of the id
abbrev pub is_told : List Done → ReqId → Bool
is_told done id = list_any (λ (block : Done). list_any (λ (other : ReqId). id_eq other id) block.ids) done

told_has : (done : List Done) (delivered : List Request) (id : ReqId) → flat_map (λ (block : Done). block.ids) done ≡ map (λ (r : Request). r.id) delivered → is_told done id ≡ has_id id delivered
told_has done delivered id is =
    any_flat (λ (other : ReqId). id_eq other id) (λ (block : Done). block.ids) done
    ∙ ap (list_any (λ (other : ReqId). id_eq other id)) is
    ∙ any_map (λ (other : ReqId). id_eq other id) (λ (r : Request). r.id) delivered

pub told_settled : (done : List Done) (delivered pool : List Request) → flat_map (λ (block : Done). block.ids) done ≡ map (λ (r : Request). r.id) delivered
    → filter (λ (r : Request). not (is_told done r.id)) pool ≡ settled delivered pool
told_settled done delivered pool is =
    let one : (r : Request) → not (is_told done r.id) ≡ not (has_id r.id delivered) = λ r. ap not (told_has done delivered r.id is) in
    ap (λ (p : Request → Bool). filter p pool) (fun_ext one)
