-- Places of what nodes delivered, and that nodes that agree so far are under one configuration.
use Rattle.std.proofs.Common.{◌≡◌, ℕ, zero, suc, ◌≤◌, ◌<◌, List, [], ◌∷◌, ◌++◌, length, get_or, take, refl, sym, ap, subst, ◌∙◌, inl, inr, arith, append-nil}
use Rattle.std.proofs.lemmas.Bool.{cases_lt}
use Rattle.std.proofs.lemmas.List.{get_or_append_left, get_or_push, take-append-le, length-append}
use Rattle.std.proofs.Math.Seq.{take-append_seam}
pub use Rattle.chan_config.proofs.PlaceLaws.{config_stays}
use Rattle.safety_model.specs.Blocks.{Block, Config, config_at}
use Rattle.safety_model.specs.Facts.{Fact, Proof, History, Stands}
use Rattle.safety_model.specs.declared.fact.Fact.TheVariants.{Delivered}
use Rattle.safety_model.specs.State.{Setup, delivered, delivered_by}
use Rattle.safety_model.specs.Rules.{Allowed, IsRun, actor, tests, tests_under}
use Rattle.safety_model.proofs.Moments.{WasOnce, now}
use Rattle.safety_model.proofs.Deliveries.{adds, IsOnlyConfig}
use Rattle.safety_model.proofs.Deliveries.Adds.{Nothing, One}

pub tests_are : (su : Setup) (h : History) (f : Fact) → tests su h f ≡ tests_under su h su.config f
tests_are su h f = ap (λ (c : Config). tests_under su h c f) (config_stays su.config (delivered (actor f) h))

-- lists that agree below p begin alike
pub take_alike : (d : Block) (p : ℕ) (xs ys : List Block) → p ≤ length xs → p ≤ length ys → ((r : ℕ) → r < p → get_or xs r d ≡ get_or ys r d) → take p xs ≡ take p ys
take_alike d zero xs ys lx ly same = refl
take_alike d (suc p) [] ys lx ly same = absurd (omega arith)
take_alike d (suc p) (x ∷ xs) [] lx ly same = absurd (omega arith)
take_alike d (suc p) (x ∷ xs) (y ∷ ys) lx ly same =
    let rest = take_alike d p xs ys (omega arith) (omega arith) (λ r lt. same (suc r) (omega arith)) in
    let first : x ≡ y = same 0 (omega arith) in
    ap (λ (x : Block). x ∷ take p xs) first ∙ ap (λ (zs : List Block). y ∷ zs) rest

-- the ledgers agree below place k
abbrev pub AgreeBelow : Setup → History → ℕ → Type 0
AgreeBelow su h k = (i j r : ℕ) → r < k → r < length (delivered i h) → r < length (delivered j h) → get_or (delivered i h) r su.genesis ≡ get_or (delivered j h) r su.genesis

-- so the configuration there is the only one of its number
pub only_config : (su : Setup) (h : History) → IsRun su h → (k i : ℕ) → AgreeBelow su h k → k ≤ length (delivered i h) → IsOnlyConfig su (config_at su.config (take k (delivered i h))) h
only_config su h run k i agree le g j once same = config_stays su.config (delivered j g) ∙ sym (config_stays su.config (take k (delivered i h)))

-- a place of what a node delivered: the block there, and the moment at which it was delivered
pub record Place (su : Setup) (h : History) (i k : ℕ) : Type 0 where
  pub block : Block
  pub cert : Proof
  pub is : get_or (delivered i h) k su.genesis ≡ block
  pub stands : Stands h (Delivered i block cert)
  pub at : History
  pub once : WasOnce at h
  pub allowed : Allowed su at (Delivered i block cert)
  pub before : delivered i at ≡ take k (delivered i h)
  pub length_is : length (delivered i at) ≡ k

pub place : (su : Setup) (h : History) → IsRun su h → (i k : ℕ) → k < length (delivered i h) → Place su h i k
place su [] run i k lt = absurd (omega arith)
place su (f ∷ h) run i k lt =
    elim (adds i f) [
      | Nothing none same ↦
          let whole : delivered i (f ∷ h) ≡ delivered i h = ap (λ (bs : List Block). delivered i h ++ bs) none ∙ append-nil (delivered i h) in
          let len = ap (λ (bs : List Block). length bs) whole in
          let p = place su h run.1 i k (omega arith) in
          record {
            block = p.block;
            cert = p.cert;
            is = ap (λ (bs : List Block). get_or bs k su.genesis) whole ∙ p.is;
            stands = inr p.stands;
            at = p.at;
            once = inr p.once;
            allowed = p.allowed;
            before = p.before ∙ sym (ap (λ (bs : List Block). take k bs) whole);
            length_is = p.length_is;
          }
      | One b cert new one last ↦
          let whole : delivered i (f ∷ h) ≡ delivered i h ++ b ∷ [] = ap (λ (bs : List Block). delivered i h ++ bs) one in
          let len = ap (λ (bs : List Block). length bs) whole in
          elim (cases_lt k (length (delivered i h))) [
            | inl old ↦
                let p = place su h run.1 i k old in
                record {
                  block = p.block;
                  cert = p.cert;
                  is = get_or_append_left (delivered i h) (delivered_by i f) su.genesis k old ∙ p.is;
                  stands = inr p.stands;
                  at = p.at;
                  once = inr p.once;
                  allowed = p.allowed;
                  before = p.before ∙ sym (take-append-le k (delivered i h) (delivered_by i f) (omega arith));
                  length_is = p.length_is;
                }
            | inr here ↦
                let at_k : length (delivered i h) ≡ k = omega (arith, length-append (delivered i h) (b ∷ [])) in
                record {
                  block = b;
                  cert = cert;
                  is = ap (λ (bs : List Block). get_or bs k su.genesis) whole ∙ get_or_push (delivered i h) b su.genesis k at_k;
                  stands = inl new;
                  at = h;
                  once = inr (now h);
                  allowed = subst (Allowed su h) new run.0;
                  before = sym (ap (λ (n : ℕ). take n (delivered i h ++ delivered_by i f)) (sym at_k) ∙ take-append_seam (delivered i h) (delivered_by i f));
                  length_is = at_k;
                }
          ]
    ]
