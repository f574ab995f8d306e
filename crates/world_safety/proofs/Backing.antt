-- Signatures on commit statements rest on preparations.
use Rattle.std.proofs.Common.{
  ◌≡◌,
  ℕ,
  zero,
  suc,
  true,
  false,
  List,
  [],
  ◌∷◌,
  ◌++◌,
  length,
  refl,
  sym,
  subst,
  ◌∙◌,
  append_assoc,
  inl,
  inr,
  arith,
}
use Rattle.std.specs.Prelude.{◌==◌, slice_get}
use Rattle.std.specs.Int.{w8, w64, to_be_bytes, from_be_bytes}
use Rattle.std.specs.List.{AllByRecursion}
use Rattle.std.specs.Str.{bytes_eq}
use Rattle.std.proofs.lemmas.Bool.{and_parts, eqb-true, or_right}
use Rattle.ord_types.specs.Grammar.{IsNumber}
use Rattle.ord_types.specs.Members.{is_in}
use Rattle.ord_types.proofs.Laws.{number_law, one_spelling, wide64, wide8}
use Rattle.safety_model.specs.Facts.{History, has, is_prepared}
use Rattle.safety_model.specs.declared.fact.Fact.{Fact}
use Rattle.safety_model.proofs.FactTests.{bytes_same}
use Rattle.signer_edge.specs.Seals.{is_seal, is_sealed}
use Rattle.signer_edge.specs.Statements.{commit_text}
use Rattle.signer_edge.specs.declared.seals.Seal.{Seal}
use Rattle.world_safety.specs.Resting.{IsPreparedStatement}
use Rattle.world_safety.specs.Safe.{AreBacked, IsAllowedSeal, signs_anything}

-- STATEMENTS

-- what a commit statement names
record IsSameCommit (e v s : ℕ) (d : List ℕ) (e' v' s' : ℕ) (d' : List ℕ) : Type 0 where
  config : e ≡ e'
  view : v ≡ v'
  number : s ≡ s'
  digest : d ≡ d'

right5 : (a b c d e : List ℕ) → a ++ b ++ c ++ d ++ e ≡ a ++ (b ++ (c ++ (d ++ e)))
right5 a b c d e = simp append_assoc

-- a number in eight bytes is told by them, whatever follows
told_first : (x y : ℕ) (r t : List ℕ) → IsNumber x → IsNumber y → to_be_bytes w64 x ++ r ≡ to_be_bytes w64 y
    ++ t → (x ≡ y) × (r ≡ t)
told_first x y r t small below e = one_spelling (number_law wide64) x y r t (omega arith) (omega arith) e

-- no statement is on two commits
commit_same : (e v s : ℕ) (d : List ℕ) (e' v' s' : ℕ) (d' : List ℕ) → IsNumber e → IsNumber v → IsNumber s
    → IsNumber e' → IsNumber v' → IsNumber s'
    → commit_text e v s d ≡ commit_text e' v' s' d' → IsSameCommit e v s d e' v' s' d'
unfolding commit_text
commit_same e v s d e' v' s' d' le lv ls le' lv' ls' same =
    let one = to_be_bytes w8 1 in
    let a = to_be_bytes w64 e in
    let b = to_be_bytes w64 v in
    let c = to_be_bytes w64 s in
    let a' = to_be_bytes w64 e' in
    let b' = to_be_bytes w64 v' in
    let c' = to_be_bytes w64 s' in
    let whole = sym (right5 one a b c d) ∙ same ∙ right5 one a' b' c' d' in
    let p = one_spelling (number_law wide8) 1 1 (a ++ (b ++ (c ++ d))) (a' ++ (b' ++ (c' ++ d')))
    (omega arith) (omega arith) whole in
    let q = told_first e e' (b ++ (c ++ d)) (b' ++ (c' ++ d')) le le' p.1 in
    let r = told_first v v' (c ++ d) (c' ++ d') lv lv' q.1 in
    let t = told_first s s' d d' ls ls' r.1 in
    record { config = q.0; view = r.0; number = t.0; digest = t.1 }

-- where member i's statement is on a commit, it prepared the digest
abbrev pub IsBackedStatement : History → ℕ → List ℕ → Type 0
IsBackedStatement h i statement = (e v s : ℕ) (d : List ℕ) → IsNumber e → IsNumber v → IsNumber s
    → statement ≡ commit_text e v s d → has (is_prepared i e v s d) h ≡ true

pub prepared_backed : (h : History) (i : ℕ) (statement : List ℕ) → IsPreparedStatement h i statement
    → IsBackedStatement h i statement
prepared_backed h i statement is e v s d le lv ls at =
    let same = commit_same is.config is.view is.number is.digest e v s d is.config_fits is.view_fits
    is.number_fits le lv ls (sym is.text ∙ at) in
    let a = subst (λ e. has (is_prepared i e is.view is.number is.digest) h ≡ true) same.config is.prepared in
    let b = subst (λ v. has (is_prepared i e v is.number is.digest) h ≡ true) same.view a in
    let c = subst (λ s. has (is_prepared i e v s is.digest) h ≡ true) same.number b in
    subst (λ d. has (is_prepared i e v s d) h ≡ true) same.digest c

-- facts are only added
pub statement_more : (h : History) (f : Fact) (i : ℕ) (statement : List ℕ)
    → IsPreparedStatement h i statement → IsPreparedStatement (f ∷ h) i statement
statement_more h f i statement is =
    record {
      config = is.config;
      view = is.view;
      number = is.number;
      digest = is.digest;
      config_fits = is.config_fits;
      view_fits = is.view_fits;
      number_fits = is.number_fits;
      digest_fits = is.digest_fits;
      text = is.text;
      prepared = or_right _ _ is.prepared;
    }

statement_over : (h : History) (fs : List Fact) (i : ℕ) (statement : List ℕ)
    → IsPreparedStatement h i statement → IsPreparedStatement (fs ++ h) i statement
statement_over h [] i statement is = is
statement_over h (f ∷ fs) i statement is =
    statement_more (fs ++ h) f i statement (statement_over h fs i statement is)

-- SEALS

-- the seal of one of these members is backed
abbrev pub IsBackedSeal : List ℕ → History → Seal → Type 0
IsBackedSeal correct h seal =
    is_in seal.signer correct ≡ true → IsBackedStatement h seal.signer seal.statement

-- so it is where nobody who signs anything is one of them
pub seal_backed : (members byzantine correct : List ℕ) (h : History) (seal : Seal)
    → (is_in seal.signer correct ≡ true → signs_anything members byzantine seal.signer ≡ false)
    → IsAllowedSeal members byzantine correct h seal → IsBackedSeal correct h seal
seal_backed members byzantine correct h seal apart (inl any) among = let not_any = apart among in absurd (cc)
seal_backed members byzantine correct h seal apart (inr signed) among =
    prepared_backed h seal.signer seal.statement signed.1

pub seal_over : (members byzantine correct : List ℕ) (h : History) (fs : List Fact) (seal : Seal)
    → IsAllowedSeal members byzantine correct h seal → IsAllowedSeal members byzantine correct (fs ++ h) seal
seal_over members byzantine correct h fs seal (inl any) = inl any
seal_over members byzantine correct h fs seal (inr signed) =
    inr (signed.0, statement_over h fs seal.signer seal.statement signed.1)

-- what is accepted is backed
accepted_backed : (correct : List ℕ) (h : History) (seals : List Seal) (k i : ℕ) (statement : List ℕ)
    → AllByRecursion (IsBackedSeal correct h) seals → is_in i correct ≡ true
    → is_seal i statement (slice_get seals k) ≡ true → IsBackedStatement h i statement
accepted_backed correct h [] k i statement all among is = absurd (cc)
accepted_backed correct h (seal ∷ seals) zero i statement all among is =
    let p = and_parts (seal.signer == i) (bytes_eq seal.statement statement) is in
    let signer : seal.signer ≡ i = eqb-true seal.signer i p.0 in
    let mine : IsBackedStatement h seal.signer seal.statement =
    all.0 (subst (λ i. is_in i correct ≡ true) (sym signer) among) in
    subst (λ i. IsBackedStatement h i statement) signer (subst (IsBackedStatement h seal.signer)
    (bytes_same seal.statement statement p.1) mine)
accepted_backed correct h (seal ∷ seals) (suc k) i statement all among is =
    accepted_backed correct h seals k i statement all.1 among is

pub seals_backed : (correct : List ℕ) (h : History) (seals : List Seal)
    → AllByRecursion (IsBackedSeal correct h) seals → AreBacked correct h seals
unfolding is_sealed
seals_backed correct h seals all i e v s d sig among le lv ls signer is =
    let statement = commit_text e v s d in
    let k = from_be_bytes w64 sig.bytes in
    let p = and_parts (length sig.bytes == 8) (is_seal sig.signer statement (slice_get seals k)) is in
    accepted_backed correct h seals k i statement all among
    (subst (λ i. is_seal i statement (slice_get seals k) ≡ true) signer p.1) e v s d le lv ls refl
