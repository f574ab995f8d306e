-- The ledgers of a run agree.
use Rattle.std.proofs.Common.{◌≡◌, ℕ, zero, suc, ◌+◌, ◌≤◌, ◌<◌, Bool, true, false, List, [], ◌∷◌, ◌++◌, length, get_or, take, refl, sym, ap, subst, ◌∙◌, inl, inr, arith, append-nil, sub-one, cond, Some, None}
use Rattle.std.specs.Prelude.{◌==◌}
use Rattle.std.specs.List.{AllByRecursion}
use Rattle.std.proofs.lemmas.Bool.{and_parts, cases_lt, cases_order, eqb-true}
use Rattle.std.proofs.lemmas.Option.{slice_get-get_or}
use Rattle.ord_types.specs.Genesis.{genesis_block}
use Rattle.ord_types.specs.Hashes.{block_hash}
use Rattle.ord_types.specs.Members.{is_raft}
use Rattle.safety_model.specs.Blocks.{Block, Config, are_lawful, change_in, config_at, config_or, follows_block, is_lawful}
use Rattle.safety_model.specs.Facts.{Proof, Fact, History, has, is_prepared}
use Rattle.safety_model.specs.State.{Setup, block_or, config_of, delivered, height, last_delivered, tip}
use Rattle.safety_model.specs.Rules.{Allowed, IsRun, bound_of, faulty, first_broken, is_bft_proof, tests}
use Rattle.safety_model.specs.Safety.{AllFit, AreLawful, AreLinked, BeginsWithGenesis, IsPrefixOf, IsProvedAt, NoCollision, RunsAgree}
use Rattle.safety_model.proofs.RuleFacts.{delivered_rules}
use Rattle.safety_model.proofs.OneView.{IsCertified, one_digest, prepared_accepted, prepared_stands}
use Rattle.safety_model.proofs.Quorums.{two_quorums}
use Rattle.safety_model.proofs.Views.{carried_on}
use Rattle.safety_model.proofs.Deliveries.{IsOnlyConfig, adds, delivered_bound, delivered_certified, or_other, proof_later}
use Rattle.safety_model.proofs.Deliveries.Adds.{Nothing, One}
use Rattle.safety_model.proofs.Chains.{AgreeBelow, Place, config_stays, only_config, place, take_alike}
use Rattle.safety_model.proofs.Texts.{same_block}

-- two certificates of one number have one digest, whatever their views
pub one_certificate : (su : Setup) (h : History) (c : Config) → IsRun su h → su.genesis.header.number ≡ 0 → IsOnlyConfig su c h → is_raft c ≡ false → faulty su.byzantine c ≤ bound_of c → (v v' s : ℕ) (d d' : List ℕ) → IsCertified su h c v s d → IsCertified su h c v' s d' → d ≡ d'
one_certificate su h c run zero' only bft bound v v' s d d' a b =
    elim (cases_order v v') [
      | inl same ↦ one_digest su h c run bound v s d d' a (subst (λ v. IsCertified su h c v s d') (sym same) b)
      | inr (inl lt) ↦ sym (above v v' d d' lt a b)
      | inr (inr gt) ↦ above v' v d' d gt b a
    ]
  where
    above : (v v' : ℕ) (d d' : List ℕ) → v < v' → IsCertified su h c v s d → IsCertified su h c v' s d' → d' ≡ d
    above v v' d d' lt a b =
        let k = two_quorums su.byzantine c (λ j. has (is_prepared j c.number v' s d') h) (λ j. has (is_prepared j c.number v' s d') h) bound b b in
        let prepared = prepared_stands k.0 c.number v' s d' h k.2 in
        carried_on su h c run zero' only bft bound v v' s k.0 d d' lt a (prepared_accepted su h run k.0 c.number v' s d' prepared)

-- what holds at a place: the block's number, and the configuration and the proof there
pub record AtPlace (su : Setup) (h : History) (i k : ℕ) (c : Config) (b : Block) (proof : Proof) : Type 0 where
  pub number : b.header.number ≡ suc k
  pub under : b.meta.config ≡ c.number
  pub proved : is_raft c ≡ false → is_bft_proof su h c (suc k) (block_hash b) proof ≡ true

pub at_place : (su : Setup) (h : History) (i k : ℕ) → (p : Place su h i k) → AtPlace su h i k (config_at su.config (take k (delivered i h))) p.block p.cert
at_place su h i k p =
    let rules = delivered_rules su p.at i p.block p.cert p.allowed in
    let b = p.block in
    let c = config_of su i p.at in
    let is : c ≡ config_at su.config (take k (delivered i h)) = ap (config_at su.config) p.before in
    let named = eqb-true b.meta.config c.number (and_parts (b.meta.config == c.number) (are_lawful c b.requests) rules.lawful).0 in
    let n = rules.number in let len = p.length_is in
    let number : b.header.number ≡ suc k = omega arith in
    let proved : is_raft c ≡ false → is_bft_proof su h c (suc k) (block_hash b) p.cert ≡ true = λ bft.
    subst (λ (n : ℕ). is_bft_proof su h c n (block_hash b) p.cert ≡ true) number
    (proof_later su c b.header.number (block_hash b) p.cert p.at h p.once (or_other (is_raft c) (is_bft_proof su p.at c b.header.number (block_hash b) p.cert) rules.bft bft)) in
    record {
      number = number;
      under = named ∙ ap (λ (c : Config). c.number) is;
      proved = subst (λ c. is_raft c ≡ false → is_bft_proof su h c (suc k) (block_hash b) p.cert ≡ true) is proved;
    }

-- two nodes have one block at a place, by induction on places
pub same_place : (n : ℕ) (su : Setup) (h : History) → IsRun su h → su.genesis.header.number ≡ 0 → is_raft su.config ≡ false → AllFit h → NoCollision su h → AgreeBelow su h n
same_place zero su h run number bft fit apart i j r lt li lj = absurd (omega arith)
same_place (suc n) su h run number bft fit apart i j k lt li lj =
    let below = same_place n su h run number bft fit apart in
    elim (cases_lt k n) [
      | inl less ↦ below i j k less li lj
      | inr more ↦
          let is_n : n ≡ k = omega arith in
          let agree : AgreeBelow su h k = subst (AgreeBelow su h) is_n below in
          let p = place su h run i k li in
          let q = place su h run j k lj in
          let c = config_at su.config (take k (delivered i h)) in
          let alike : take k (delivered j h) ≡ take k (delivered i h) = take_alike su.genesis k (delivered j h) (delivered i h) (omega arith) (omega arith) (λ r lt. agree j i r lt (omega arith) (omega arith)) in
          let one_config : config_at su.config (take k (delivered j h)) ≡ c = ap (config_at su.config) alike in
          let only = only_config su h run k i agree (omega arith) in
          let kind : is_raft c ≡ false = ap (λ (c : Config). is_raft c) (config_stays su.config (take k (delivered i h))) ∙ bft in
          let pp = at_place su h i k p in
          let qq = at_place su h j k q in
          let under : q.block.meta.config ≡ c.number = qq.under ∙ ap (λ (c : Config). c.number) one_config in
          let a = delivered_certified su h c run only kind i p.block p.cert p.stands pp.under in
          let b = delivered_certified su h c run only kind j q.block q.cert q.stands under in
          let va = a.0.view in let vb = b.0.view in
          let a' : IsCertified su h c va (suc k) (block_hash p.block) = subst (λ n. IsCertified su h c va n (block_hash p.block)) pp.number a.2 in
          let b' : IsCertified su h c vb (suc k) (block_hash q.block) = subst (λ n. IsCertified su h c vb n (block_hash q.block)) qq.number b.2 in
          let bound = delivered_bound su h c run only kind i p.block p.cert p.stands pp.under in
          let one : block_hash p.block ≡ block_hash q.block = one_certificate su h c run number only kind bound va vb (suc k) (block_hash p.block) (block_hash q.block) a' b' in
          let rp = delivered_rules su p.at i p.block p.cert p.allowed in
          let rq = delivered_rules su q.at j q.block q.cert q.allowed in
          let tp = tip su i p.at in let tq = tip su j q.at in
          let same = same_block su h apart p.block q.block tp tq (tp.header.number + 1) (tq.header.number + 1) (inr (i, p.cert, p.stands)) (inr (j, q.cert, q.stands)) (fit i p.block p.cert p.stands) (fit j q.block q.cert q.stands)
          rp.follows rq.follows (pp.number ∙ sym qq.number) (pp.under ∙ sym under) one in
          p.is ∙ same ∙ sym q.is
    ]

-- lists that agree as far as the first goes
pub prefix_from_places : (d : Block) (xs ys : List Block) → length xs ≤ length ys → ((k : ℕ) → k < length xs → get_or xs k d ≡ get_or ys k d) → IsPrefixOf xs ys
prefix_from_places d [] ys le same = (ys, refl)
prefix_from_places d (x ∷ xs) [] le same = absurd (omega arith)
prefix_from_places d (x ∷ xs) (y ∷ ys) le same =
    let rest = prefix_from_places d xs ys (omega arith) (λ k lt. same (suc k) (omega arith)) in
    let first : x ≡ y = same 0 (omega arith) in
    (rest.0, ap (λ x. x ∷ (xs ++ rest.0)) first ∙ ap (λ zs. y ∷ zs) rest.1)

-- the last of a list that is not empty
abbrev last_from : Block → List Block → Block
last_from a [] = a
last_from a (b ∷ bs) = last_from b bs

linked_push : (a b : Block) (bs : List Block) → AreLinked a bs → follows_block (last_from a bs) b ≡ true → AreLinked a (bs ++ b ∷ [])
linked_push a b [] links next = (next, tt)
linked_push a b (x ∷ xs) links next = (links.0, linked_push x b xs links.1 next)

last_from_push : (a b : Block) (bs : List Block) → last_from a (bs ++ b ∷ []) ≡ b
last_from_push a b [] = refl
last_from_push a b (x ∷ xs) = last_from_push x b xs

last_is_tip : (su : Setup) (i : ℕ) (h : History) → last_from su.genesis (delivered i h) ≡ tip su i h
last_is_tip su i [] = refl
last_is_tip su i (f ∷ h) =
    elim (adds i f) [
      | Nothing none same ↦
          let old = last_is_tip su i h in
          rw (none, append-nil (delivered i h)) (old ∙ sym (ap (block_or su.genesis) (same (last_delivered i h))))
      | One b cert new one last ↦
          rw one (last_from_push su.genesis b (delivered i h) ∙ sym (ap (block_or su.genesis) (last (last_delivered i h))))
    ]

pub chained : (su : Setup) (h : History) → IsRun su h → (i : ℕ) → AreLinked su.genesis (delivered i h)
chained su [] run i = tt
chained su (f ∷ h) run i =
    let old = chained su h run.1 i in
    elim (adds i f) [
      | Nothing none same ↦ rw (none, append-nil (delivered i h)) old
      | One b cert new one last ↦
          let rules = delivered_rules su h i b cert (subst (Allowed su h) new run.0) in
          let next : follows_block (last_from su.genesis (delivered i h)) b ≡ true = subst (λ a. follows_block a b ≡ true) (sym (last_is_tip su i h)) rules.follows in
          rw one (linked_push su.genesis b (delivered i h) old next)
    ]

lawful_push : (c : Config) (bs : List Block) (b : Block) → AreLawful c bs → is_lawful (config_at c bs) b ≡ true → AreLawful c (bs ++ b ∷ [])
lawful_push c [] b all next = (next, tt)
lawful_push c (x ∷ xs) b all next = (all.0, lawful_push (config_or c (change_in x.requests)) xs b all.1 next)

pub all_lawful : (su : Setup) (h : History) → IsRun su h → (i : ℕ) → AreLawful su.config (delivered i h)
all_lawful su [] run i = tt
all_lawful su (f ∷ h) run i =
    let old = all_lawful su h run.1 i in
    elim (adds i f) [
      | Nothing none same ↦ rw (none, append-nil (delivered i h)) old
      | One b cert new one last ↦
          let rules = delivered_rules su h i b cert (subst (Allowed su h) new run.0) in
          rw one (lawful_push su.config (delivered i h) b old rules.lawful)
    ]

-- each place of a ledger above 0 is proved
pub proved_at : (su : Setup) (h : History) → IsRun su h → (i s : ℕ) → 0 < s → s < height i h → IsProvedAt su h i s
proved_at su h run i zero pos lt = absurd (omega arith)
proved_at su h run i (suc k) pos lt =
    let p = place su h run i k (omega arith) in
    let pp = at_place su h i k p in
    record {
      block = p.block;
      proof = p.cert;
      is = slice_get-get_or (delivered i h) k su.genesis (omega arith) ∙ ap (λ (b : Block). Some b) p.is;
      stands = p.stands;
      proved = rw sub-one pp.proved;
    }

-- block 0 has number 0
pub number_of_genesis : (su : Setup) → BeginsWithGenesis su → su.genesis.header.number ≡ 0
unfolding genesis_block
number_of_genesis su genesis = ap (λ (b : Block). b.header.number) genesis.block

-- whatever was allowed, the ledgers agree
pub runs_agree : RunsAgree
runs_agree su h genesis run fit apart =
    record {
      prefixes = λ i j le.
          (let p = prefix_from_places su.genesis (delivered i h) (delivered j h) (omega arith)
          (λ k lt. same_place (suc k) su h run (number_of_genesis su genesis) genesis.bft fit apart i j k (omega arith) lt (omega arith)) in
          (p.0, ap (λ (bs : List Block). su.genesis ∷ bs) p.1));
      chain = λ i. (genesis.block, chained su h run i);
      lawful = λ i. all_lawful su h run i;
      proved = proved_at su h run;
    }

-- where no test fails, all hold
pub none_broken : (ts : List (ℕ × Bool)) → first_broken ts ≡ None → AllByRecursion (λ t. t.1 ≡ true) ts
none_broken [] none = tt
none_broken (t ∷ ts) none = none_cases t.0 t.1 refl ts (none_broken ts) none
  where
    none_cases : (k : ℕ) (b : Bool) → t.1 ≡ b → (ts : List (ℕ × Bool)) → (first_broken ts ≡ None → AllByRecursion (λ t. t.1 ≡ true) ts) → cond b (first_broken ts) (Some k) ≡ None → (t.1 ≡ true) × AllByRecursion (λ t. t.1 ≡ true) ts
    none_cases k true e ts rest none = (e, rest none)
    none_cases k false e ts rest none = absurd (cc)

pub allowed_where_none_is_broken : (su : Setup) (h : History) (f : Fact) → first_broken (tests su h f) ≡ None → Allowed su h f
allowed_where_none_is_broken su h f none = none_broken (tests su h f) none
