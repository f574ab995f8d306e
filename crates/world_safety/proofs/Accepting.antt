-- An acceptance that is due, or a proposal, is allowed.
use Rattle.std.proofs.Common.{
  ◌≡◌,
  ℕ,
  Bool,
  true,
  false,
  ◌&&◌,
  List,
  length,
  cond,
  refl,
  sym,
  subst,
  ap,
  Option,
  Some,
  None,
}
use Rattle.std.specs.Prelude.{◌==◌, not, nat_le, is_none}
use Rattle.std.proofs.lemmas.Bool.{and_parts, and_from, eq-eqb}
use Rattle.ord_types.specs.Hashes.{block_hash}
use Rattle.ord_types.specs.Members.{is_in, is_raft}
use Rattle.safety_model.specs.Blocks.{Config}
use Rattle.safety_model.specs.Facts.{History, has, is_accepted_at, is_entered_against}
use Rattle.safety_model.specs.declared.fact.Fact.TheVariants.{Accepted}
use Rattle.safety_model.specs.State.{Setup, height, config_of, view, left}
use Rattle.safety_model.specs.Rules.{Allowed}
use Rattle.view_model.specs.Leading.{Place, leader}
use Rattle.view_model.specs.Acts.{
  View,
  block_if,
  is_inside_view,
  is_voting,
  kept_proposal,
  may_propose,
  proposal,
}
use Rattle.view_model.specs.Checks.{is_next_block}
use Rattle.world_safety.proofs.Standing.{Stands, Bounded, AcceptancesAreAllowed, ProposalsAreAllowed}

none_is : {X : Type 0} (o : Option X) → is_none o ≡ true → o ≡ None
none_is None h = refl
none_is (Some x) h = absurd (cc)

-- what both have
record Ready (place : Place) (w : View) : Type 0 where
  voting : is_voting place w ≡ true
  inside : is_inside_view w ≡ true
  none : w.accepted ≡ None

allowed : (su : Setup) (h : History) (i : ℕ) (place : Place) (w : View) (d : List ℕ) → Stands su h i place w
    → Bounded su h i → Ready place w
    → Allowed su h (Accepted i place.config.number w.view place.height d)
allowed su h i place w d st bounded ready =
    let e = place.config.number in
    let v = w.view in
    let s = place.height in
    let c = config_of su i h in
    let p = and_parts (not (is_raft place.config)) (is_in w.me place.config.members) ready.voting in
    let member : is_in i c.members ≡ true = subst (λ (c : Config). is_in i c.members ≡ true) st.config
    (subst (λ me. is_in me place.config.members ≡ true) st.me p.1) in
    let bft : not (is_raft c) ≡ true = subst (λ (c : Config). not (is_raft c) ≡ true) st.config p.0 in
    let number : (c.number == e) ≡ true = eq-eqb _ _ (ap (λ (c : Config). c.number) (sym st.config)) in
    let at : (s == height i h) ≡ true = eq-eqb _ _ st.height in
    let in_view : (view i e h == v) ≡ true = eq-eqb _ _ (sym st.view) in
    let not_left : nat_le (left i e h) v ≡ true = subst (λ l. nat_le l v ≡ true) st.left ready.inside in
    let new : not (has (is_accepted_at i e v s) h) ≡ true = ap not (st.fresh ready.none) in
    let not_against : not (has (is_entered_against i e v s d) h) ≡ true = ap not (st.not_against d) in (
      bounded.correct,
      (
        bounded.bound,
        (member, (and_from _ _ bft number, (at, (and_from _ _ in_view not_left, (new, (not_against, tt)))))),
      ),
    )

-- ACCEPT
ready_if : (place : Place) (w : View) (X : Type 0) (o : Option X) (x : X) (t : Bool)
    → (is_voting place w && is_inside_view w && is_none w.accepted) ≡ t
    → cond t o None ≡ Some x → Ready place w
ready_if place w X o x false is h = absurd (cc)
ready_if place w X o x true is h =
    let p = and_parts (is_voting place w && is_inside_view w) (is_none w.accepted) is in
    let q = and_parts (is_voting place w) (is_inside_view w) p.0 in
    record { voting = q.0; inside = q.1; none = none_is w.accepted p.1 }

pub acceptances_allowed : AcceptancesAreAllowed
acceptances_allowed su h i place w accepts b st bounded is =
    allowed su h i place w (block_hash b) st bounded
    (ready_if place w _ (block_if accepts place w.view (kept_proposal (leader place w.view) place.height
    w.kept)) b (is_voting place w && is_inside_view w && is_none w.accepted) refl is)

-- PROPOSE
ready_where : (place : Place) (w : View) (X : Type 0) (o : Option X) (x : X) (more : Bool) (t : Bool)
    → (may_propose place w && more) ≡ t → cond t o None ≡ Some x → Ready place w
ready_where place w X o x more false is h = absurd (cc)
ready_where place w X o x more true is h =
    let may = (and_parts (may_propose place w) more is).0 in
    let c = and_parts (is_voting place w && is_inside_view w && (leader place w.view == w.me))
    (is_none w.accepted) may in
    let e = and_parts (is_voting place w && is_inside_view w) (leader place w.view == w.me) c.0 in
    let f = and_parts (is_voting place w) (is_inside_view w) e.0 in
    record { voting = f.0; inside = f.1; none = none_is w.accepted c.1 }

and_right : (a b c t : Bool) → (a && b && c) ≡ t → (a && (b && c)) ≡ t
and_right true b c t h = h
and_right false b c t h = h

pub proposals_allowed : ProposalsAreAllowed
proposals_allowed su h i place w rs b st bounded is =
    let t = may_propose place w && nat_le 1 (length rs) && is_next_block place (proposal place w.view rs) in
    allowed su h i place w (block_hash b) st bounded
    (ready_where place w _ (Some (proposal place w.view rs)) b (nat_le 1 (length rs)
    && is_next_block place (proposal place w.view rs)) t
    (and_right (may_propose place w) (nat_le 1 (length rs)) _ t refl) is)
