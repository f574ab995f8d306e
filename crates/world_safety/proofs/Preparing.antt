-- A preparation that is due is allowed where what is kept rests on facts.
use Rattle.std.proofs.Common.{
  ◌≡◌,
  ℕ,
  Bool,
  true,
  false,
  ◌||◌,
  ◌&&◌,
  List,
  [],
  ◌∷◌,
  cond,
  refl,
  sym,
  subst,
  ap,
  ◌∙◌,
  inl,
  inr,
  Option,
  Some,
  None,
  arith,
}
use Rattle.std.specs.Prelude.{◌==◌, not, nat_le}
use Rattle.std.specs.List.{list_any, AllByRecursion}
use Rattle.std.specs.Str.{bytes_eq}
use Rattle.std.proofs.lemmas.Bool.{
  or_cases,
  or_right,
  and_parts,
  and_from,
  eqb-true,
  eq-eqb,
  leb-true,
  le-leb,
}
use Rattle.ord_types.specs.Members.{is_in, is_raft}
use Rattle.ord_types.specs.Hashes.{block_hash}
use Rattle.safety_model.specs.Blocks.{Block, Config}
use Rattle.safety_model.specs.Facts.{History, has, is_accepted}
use Rattle.safety_model.specs.State.{Setup, height, config_of, view, left}
use Rattle.safety_model.specs.Rules.{quorum_of, is_backed}
use Rattle.safety_model.proofs.Quorums.{how_many_more}
use Rattle.safety_model.proofs.FactTests.{bytes_same}
use Rattle.view_model.specs.declared.letter.VoteMessage.TheVariants as message_of
use Rattle.view_model.specs.declared.letter.VoteMessage.{VoteMessage}
use Rattle.view_model.specs.Letters.{is_prepare_for}
use Rattle.view_model.specs.Leading.{Place}
use Rattle.view_model.specs.Acts.{
  View,
  digest_if,
  has_prepare,
  is_inside_view,
  is_members_prepare,
  is_voting,
  preparation_due,
  prepares,
}
use Rattle.world_safety.proofs.Standing.{IsKeptWell, Stands, PreparationsAreAllowed}

-- of a list whose elements all have a property, one that passes a test
found : {X : Type 0} (test : X → Bool) (P : X → Type 0) (xs : List X) → list_any test xs ≡ true
    → AllByRecursion P xs → (x : X) × (test x ≡ true) × P x
found test P [] any every = absurd (cc)
found test P (x ∷ xs) any every =
    elim (or_cases (test x) (list_any test xs) any) [
      | inl y ↦ (x, y, every.0)
      | inr n ↦ found test P xs n every.1
    ]

-- a kept Prepare rests on its sender's acceptance
ground_of : (su : Setup) (h : History) (j e v s : ℕ) (d : List ℕ) (from : ℕ) (m : VoteMessage)
    → ((from == j) && is_prepare_for s d m) ≡ true
    → IsKeptWell su h e v s (record { from = from; message = m })
    → (is_in j su.byzantine || has (is_accepted j e v s d) h) ≡ true
ground_of su h j e v s d from (message_of.PrePrepare m) is ok =
    absurd (let p = (and_parts (from == j) false is).1 in cc)
ground_of su h j e v s d from (message_of.Commit m) is ok =
    absurd (let p = (and_parts (from == j) false is).1 in cc)
ground_of su h j e v s d from (message_of.Prepare m) is ok =
    let p = and_parts (from == j) ((m.number == s) && bytes_eq m.digest d) is in
    let q = and_parts (m.number == s) (bytes_eq m.digest d) p.1 in
    let o1 = and_parts ((m.config == e) && (m.view == v)) _ ok.of_view in
    let o2 = and_parts (m.config == e) (m.view == v) o1.0 in
    let P : ℕ → ℕ → ℕ → ℕ → List ℕ → Type 0 =
    λ j e v s d. (is_in j su.byzantine || has (is_accepted j e v s d) h) ≡ true in
    let a : P j m.config m.view m.number m.digest = subst (λ j. P j m.config m.view m.number m.digest)
    (eqb-true from j p.0) ok.rests in
    let b : P j e m.view m.number m.digest = subst (λ e. P j e m.view m.number m.digest)
    (eqb-true m.config e o2.0) a in
    let c : P j e v m.number m.digest = subst (λ v. P j e v m.number m.digest) (eqb-true m.view v o2.1) b in
    let f : P j e v s m.digest = subst (λ s. P j e v s m.digest) (eqb-true m.number s q.0) c in
    subst (λ d. P j e v s d) (bytes_same m.digest d q.1) f

-- what a preparation has that is due
pub record Due (place : Place) (w : View) (d : List ℕ) : Type 0 where
  pub voting : is_voting place w ≡ true
  pub inside : is_inside_view w ≡ true
  pub block : Block
  pub accepted : w.accepted ≡ Some block
  pub digest : block_hash block ≡ d
  pub quorum : nat_le (quorum_of place.config) (prepares place w d) ≡ true

digest_is : (test : List ℕ → Bool) (b : Block) (d : List ℕ) (t : Bool) → test (block_hash b) ≡ t
    → cond t (Some (block_hash b)) None ≡ Some d → (block_hash b ≡ d) × (test d ≡ true)
digest_is test b d true is h = let same : block_hash b ≡ d = cc in (same, ap test (sym same) ∙ is)
digest_is test b d false is h = absurd (cc)

digest_cases : (place : Place) (w : View) (d : List ℕ) (o : Option Block) → w.accepted ≡ o
    → digest_if place w o ≡ Some d
    → (b : Block) × (w.accepted ≡ Some b) × (block_hash b ≡ d)
    × (nat_le (quorum_of place.config) (prepares place w d) ≡ true)
digest_cases place w d None is h = absurd (cc)
digest_cases place w d (Some b) is h =
    let both = digest_is (λ d. nat_le (quorum_of place.config) (prepares place w d)) b d
    (nat_le (quorum_of place.config) (prepares place w (block_hash b))) refl h in
    (b, is, both.0, both.1)

due_cases : (place : Place) (w : View) (d : List ℕ) (t : Bool)
    → (is_voting place w && is_inside_view w && not w.is_prepared) ≡ t
    → cond t (digest_if place w w.accepted) None ≡ Some d → Due place w d
due_cases place w d false is h = absurd (cc)
due_cases place w d true is h =
    let p = and_parts (is_voting place w && is_inside_view w) (not w.is_prepared) is in
    let q = and_parts (is_voting place w) (is_inside_view w) p.0 in
    let b = digest_cases place w d w.accepted refl h in
    record { voting = q.0; inside = q.1; block = b.0; accepted = b.1; digest = b.2; quorum = b.3 }

pub due_is : (place : Place) (w : View) (d : List ℕ) → preparation_due place w ≡ Some d → Due place w d
due_is place w d h = due_cases place w d (is_voting place w && is_inside_view w && not w.is_prepared) refl h

-- each counted member is Byzantine or accepted
counted : (su : Setup) (h : History) (i : ℕ) (place : Place) (w : View) (d : List ℕ) → Stands su h i place w
    → Due place w d
    → (j : ℕ) → has_prepare w.me place.height w.kept d j ≡ true
    → (is_in j su.byzantine || has (is_accepted j place.config.number w.view place.height d) h) ≡ true
counted su h i place w d st due j is =
    elim (or_cases (j == w.me) (list_any (is_members_prepare j place.height d) w.kept) is) [
      | inl own ↦
          let me : i ≡ j = sym (eqb-true j w.me own ∙ st.me) in
          let e = place.config.number in
          let v = w.view in
          let s = place.height in
          let mine : has (is_accepted i e v s (block_hash due.block)) h ≡ true =
          st.accepted due.block due.accepted in
          let named : has (is_accepted i e v s d) h ≡ true =
          subst (λ d. has (is_accepted i e v s d) h ≡ true) due.digest mine in
          or_right _ _ (subst (λ i. has (is_accepted i e v s d) h ≡ true) me named)
      | inr told ↦
          let one = found (is_members_prepare j place.height d)
          (IsKeptWell su h place.config.number w.view place.height) w.kept told st.kept in
          ground_of su h j place.config.number w.view place.height d one.0.from one.0.message one.1 one.2
    ]

pub preparations_allowed : PreparationsAreAllowed
preparations_allowed su h i place w d st bounded is =
    let due = due_is place w d is in
    let e = place.config.number in
    let v = w.view in
    let s = place.height in
    let c = config_of su i h in
    let p = and_parts (not (is_raft place.config)) (is_in w.me place.config.members) due.voting in
    let member : is_in i c.members ≡ true = subst (λ (c : Config). is_in i c.members ≡ true) st.config
    (subst (λ me. is_in me place.config.members ≡ true) st.me p.1) in
    let bft : not (is_raft c) ≡ true = subst (λ (c : Config). not (is_raft c) ≡ true) st.config p.0 in
    let number : (c.number == e) ≡ true = eq-eqb _ _ (ap (λ (c : Config). c.number) (sym st.config)) in
    let at : (s == height i h) ≡ true = eq-eqb _ _ st.height in
    let in_view : (view i e h == v) ≡ true = eq-eqb _ _ (sym st.view) in
    let not_left : nat_le (left i e h) v ≡ true = subst (λ l. nat_le l v ≡ true) st.left due.inside in
    let mine : has (is_accepted i e v s (block_hash due.block)) h ≡ true =
    st.accepted due.block due.accepted in
    let named : has (is_accepted i e v s d) h ≡ true = subst (λ d. has (is_accepted i e v s d) h ≡ true)
    due.digest mine in
    let more = how_many_more (has_prepare w.me s w.kept d) (λ j. is_in j su.byzantine
    || has (is_accepted j e v s d) h) place.config.members (counted su h i place w d st due) in
    let enough = leb-true (quorum_of place.config) (prepares place w d) due.quorum in
    let backed : is_backed su h place.config e v s d ≡ true = le-leb _ _ (omega arith) in
    let backed_in : is_backed su h c e v s d ≡ true = subst (λ c. is_backed su h c e v s d ≡ true) st.config
    backed in (
      bounded.correct,
      (
        bounded.bound,
        (
          member,
          (
            and_from _ _ bft number,
            (at, (and_from _ _ in_view not_left, (and_from _ _ named backed_in, tt))),
          ),
        ),
      ),
    )
