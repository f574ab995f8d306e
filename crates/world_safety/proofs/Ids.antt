-- Ids in ascending order, and signatures by them.
use Rattle.std.proofs.Common.{
  ◌≡◌,
  ℕ,
  suc,
  ◌+◌,
  ◌<◌,
  ◌≤◌,
  ◌^◌,
  true,
  List,
  [],
  ◌∷◌,
  map,
  length,
  refl,
  sym,
  subst,
  inl,
  inr,
  Option,
  Some,
  None,
  arith,
}
use Rattle.std.specs.Prelude.{◌==◌, filter_map}
use Rattle.std.specs.List.{AllByRecursion, cons_option}
use Rattle.std.proofs.lemmas.Bool.{eq-eqb, eqb-true, or_cases, or_left, or_right}
use Rattle.std.proofs.lemmas.List.{length-map}
use Rattle.ord_types.specs.Grammar.{AreSigs, Ascend, HasIdsSpelling, HasSigSpelling, IsWord}
use Rattle.ord_types.specs.Members.{is_in}
use Rattle.ord_types.specs.declared.values.Sig.{Sig}
use Rattle.world_safety.specs.Fits.{CertFits}

-- what holds of all members holds of each
pub member_has : (P : ℕ → Type 0) (id : ℕ) (members : List ℕ) → AllByRecursion P members → is_in id members
    ≡ true → P id
member_has P id [] all is = absurd (cc)
member_has P id (x ∷ xs) all is =
    elim (or_cases (x == id) (is_in id xs) is) [
      | inl y ↦ subst P (eqb-true x id y) all.0
      | inr n ↦ member_has P id xs all.1 n
    ]

-- SIGNATURES OF MEMBERS

-- a member's signature that has a spelling
pub record IsSigOf (member : ℕ) (sig : Sig) : Type 0 where
  pub signer : sig.signer ≡ member
  pub spelled : HasSigSpelling sig

sigs_lower : (a b : ℕ) (sigs : List Sig) → a ≤ b → AreSigs b sigs → AreSigs a sigs
sigs_lower a b [] le up = tt
sigs_lower a b (s ∷ sigs) le up = let from : b ≤ s.signer = up.0 in (omega arith, up.1, up.2)

signers_ascend : (least : ℕ) (sigs : List Sig) → AreSigs least sigs
    → Ascend least (map (λ (s : Sig). s.signer) sigs)
signers_ascend least [] up = tt
signers_ascend least (s ∷ sigs) up = (up.0, signers_ascend (s.signer + 1) sigs up.2)

signers_words : (least : ℕ) (sigs : List Sig) → AreSigs least sigs
    → AllByRecursion IsWord (map (λ (s : Sig). s.signer) sigs)
signers_words least [] up = tt
signers_words least (s ∷ sigs) up = (up.1.signer, signers_words (s.signer + 1) sigs up.2)

module _ (f : ℕ → Option Sig) (each : (member : ℕ) (sig : Sig) → f member ≡ Some sig → IsSigOf member sig)
  where
    sigs_ascend : (least : ℕ) (ids : List ℕ) → Ascend least ids → AreSigs least (filter_map f ids)
    sigs_ascend least [] up = tt
    sigs_ascend least (x ∷ xs) up = step (f x) refl (sigs_ascend (x + 1) xs up.1)
      where
        step : (o : Option Sig) → f x ≡ o → AreSigs (x + 1) (filter_map f xs)
            → AreSigs least (cons_option o (filter_map f xs))
        step None is rest =
            let from : least ≤ x = up.0 in sigs_lower least (x + 1) (filter_map f xs) (omega arith) rest
        step (Some sig) is rest =
            let one = each x sig is in (
              subst (λ id. least ≤ id) (sym one.signer) up.0,
              one.spelled,
              subst (λ id. AreSigs (id + 1) (filter_map f xs)) (sym one.signer) rest,
            )

    no_more : (ids : List ℕ) → length (filter_map f ids) ≤ length ids
    no_more [] = omega arith
    no_more (x ∷ xs) = step (f x) (no_more xs)
      where
        step : (o : Option Sig) → length (filter_map f xs) ≤ length xs
            → length (cons_option o (filter_map f xs)) ≤ suc (length xs)
        step None le = omega arith
        step (Some sig) le = omega arith

    -- the signatures of members, in the members' order, make a certificate
    pub cert_fits : (view : ℕ) (ids : List ℕ) → view < 2 ^ 62 → HasIdsSpelling ids
        → CertFits (record { view = view; sigs = filter_map f ids })
    cert_fits view ids small are =
        let sigs = filter_map f ids in
        let up : AreSigs 1 sigs = sigs_ascend 1 ids are.ascending in
        let few : length sigs ≤ 31 = (let le = no_more ids in let count = are.count in omega arith) in
        record {
          spelled = record { view = small; count = few; sigs = sigs_lower 0 1 sigs (omega arith) up };
          signers = record {
            count = subst (λ n. n ≤ 31) (sym (length-map sigs (λ (s : Sig). s.signer))) few;
            ascending = signers_ascend 1 sigs up;
            words = signers_words 1 sigs up;
          };
        }

-- each id of a list is in it
members_in : (ids members : List ℕ) → ((id : ℕ) → is_in id ids ≡ true → is_in id members ≡ true)
    → AllByRecursion (λ id. is_in id members ≡ true) ids
members_in [] members within = tt
members_in (id ∷ ids) members within = (
  within id (or_left _ _ (eq-eqb id id refl)),
  members_in ids members
      (λ other is. within other (or_right _ _ is)),
)

pub all_members : (ids : List ℕ) → AllByRecursion (λ id. is_in id ids ≡ true) ids
all_members ids = members_in ids ids (λ id is. is)
