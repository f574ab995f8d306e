-- The first configuration, from the block that carries it.
use Rattle.std.proofs.Common.{◌≡◌, ◌∙◌, ℕ, ◌+◌, ap, sym, subst, refl, arith, List, [], ◌∷◌, length, get_or, Ok, Err}
use Rattle.std.specs.Prelude.{Result}
use Rattle.ord_types.specs.Faults.{Answers, ReadsSpelling}
use Rattle.ord_types.specs.Genesis.{IsGenesisConfig, genesis_block, genesis_request, genesis_sig}
use Rattle.ord_types.specs.Grammar.{HasBlockSpelling, HasConfigSpelling}
use Rattle.ord_types.specs.Spelling.{config_text, sig_text}
use Rattle.ord_types.specs.declared.fault.ReadFault.{ReadFault}
use Rattle.ord_types.specs.declared.values.Block.{Block}
use Rattle.ord_types.specs.declared.values.Config.{Config}
use Rattle.ord_types.specs.declared.values.Request.{Request}
use Rattle.ord_types.proofs.Sizes.{genesis_block_spelling}
use Rattle.block_ledger.specs.Chains.{IsGenesisBlock}

pub requests_are : (c : Config) → (genesis_block c).requests ≡ genesis_request c ∷ []
unfolding genesis_block
requests_are c = refl

pub one_request : (c : Config) (b : Block) → IsGenesisBlock c b → length b.requests ≡ 1
one_request c b is = ap (λ (x : Block). length x.requests) is.block ∙ ap length (requests_are c)

pub request_of : (c : Config) (b : Block) → IsGenesisBlock c b → (requests : List Request) (r : Request) → requests ≡ b.requests → r ≡ get_or requests 0 r → r ≡ genesis_request c
request_of c b is requests r same here =
    let all : requests ≡ genesis_request c ∷ [] = same ∙ ap (λ (x : Block). x.requests) is.block ∙ requests_are c in
    here ∙ ap (λ (l : List Request). get_or l 0 r) all

pub config_spelling : (c : Config) → IsGenesisConfig c → HasConfigSpelling c
config_spelling c is = record {
  number = omega (arith, is.first);
  members = is.members;
  some_member = is.some_member;
  batch = record { count = omega (arith, is.bounds.small_count); preferred = omega (arith, is.bounds.larger_absolute, is.bounds.small_absolute); absolute = omega (arith, is.bounds.small_absolute); wait = omega (arith, is.bounds.small_wait) };
  rotation = omega (arith, is.bounds.small_rotation);
}

same_value : {X : Type 0} (x y : X) (n m : ℕ) → Answers {Y = X × ℕ} (Ok (x, n)) (Ok (y, m)) → y ≡ x
same_value {X} x y n m h = ap (λ (r : Result (X × ℕ) ReadFault). value r) h
  where
    value : Result (X × ℕ) ReadFault → X
    value (Ok r) = r.0
    value (Err f) = x

pub config_read : (c : Config) (b : Block) → IsGenesisBlock c b → (payload : List ℕ) → payload ≡ (genesis_request c).payload → (found : Config) (n : ℕ)
    → ReadsSpelling HasConfigSpelling config_text (Ok (found, n)) payload 0 → c ≡ found
config_read c b is payload same found n only =
    same_value found c n (0 + length (config_text c)) (only c (sig_text genesis_sig) (config_spelling c is.config) (omega arith) same)

pub genesis_spelling : (c : Config) (b : Block) → IsGenesisBlock c b → HasBlockSpelling b
genesis_spelling c b is = subst HasBlockSpelling (sym is.block) (genesis_block_spelling c is.config)
