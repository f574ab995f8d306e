-- What an opening finds rests on what the node did.
use Rattle.std.proofs.Common.{
  ◌≡◌,
  ℕ,
  Bool,
  true,
  false,
  ◌&&◌,
  List,
  [],
  ◌∷◌,
  cond,
  refl,
  subst,
  Option,
  Some,
  None,
}
use Rattle.std.specs.Prelude.{◌==◌, option_map}
use Rattle.std.specs.List.{AllByRecursion}
use Rattle.std.proofs.lemmas.Bool.{and_parts, eqb-true, or_right}
use Rattle.ord_types.specs.Hashes.{block_hash}
use Rattle.safety_model.specs.Blocks.{Block}
use Rattle.safety_model.specs.Facts.{History, Stands, has, is_accepted, is_prepared}
use Rattle.safety_model.specs.Rules.{IsRun}
use Rattle.safety_model.specs.State.{Setup, config_of, height, view}
use Rattle.safety_model.specs.declared.fact.Fact.{Fact}
use Rattle.safety_model.specs.declared.fact.Fact.TheVariants.{
  Accepted,
  Prepared,
  Left,
  Reported,
  Entered,
  Delivered,
}
use Rattle.safety_model.proofs.FactTests.{prepared_itself}
use Rattle.safety_model.proofs.Moments.{found, has_found}
use Rattle.safety_model.proofs.OneView.{accepted_once, accepted_stands, prepared_accepted}
use Rattle.node_model.specs.Cores.{Found}
use Rattle.node_model.specs.Entries.{Came, Did, Opened, Past, Sent, Signed, facts_in, facts_of, is_tick}
use Rattle.node_model.specs.Keeping.{accepted_block, found_of, is_prepared_at, place_by_facts, view_of}
use Rattle.world_safety.specs.AllowedSteps.{IsGoodEntry, NodeStands}
use Rattle.world_safety.proofs.Delivering.{some_same}
use Rattle.world_safety.specs.Fits.{FitsAt}
use Rattle.world_safety.proofs.Nodes.{IsAccepted, accepted_in, has_over, in_history}

-- WHAT A NODE PREPARED is what it accepted there

pub prepared_at_is : (i e v s : ℕ) (f : Fact) → is_prepared_at i e v s f ≡ true → (d : List ℕ)
    × (f ≡ Prepared i e v s d)
prepared_at_is i e v s (Prepared j e' v' s' d) is =
    let p = and_parts ((j == i) && (e' == e) && (v' == v)) (s' == s) is in
    let q = and_parts ((j == i) && (e' == e)) (v' == v) p.0 in
    let r = and_parts (j == i) (e' == e) q.0 in
    let ei = eqb-true j i r.0 in
    let ee = eqb-true e' e r.1 in
    let ev = eqb-true v' v q.1 in
    let es = eqb-true s' s p.1 in
    (d, cc)
prepared_at_is i e v s (Accepted j e' v' s' d) is = absurd (cc)
prepared_at_is i e v s (Left j e' v') is = absurd (cc)
prepared_at_is i e v s (Reported j e' v' r) is = absurd (cc)
prepared_at_is i e v s (Entered j e' v' x choice) is = absurd (cc)
prepared_at_is i e v s (Delivered j b proof) is = absurd (cc)

prepared_block : (su : Setup) (h : History) (i e v s : ℕ) (b : Block) → IsRun su h
    → has (is_accepted i e v s (block_hash b)) h ≡ true → has (is_prepared_at i e v s) h ≡ true
    → has (is_prepared i e v s (block_hash b)) h ≡ true
prepared_block su h i e v s b run accepted prepared =
    let one = found (is_prepared_at i e v s) h prepared in
    let named = prepared_at_is i e v s one.0 one.2 in
    let stands = subst (Stands h) named.1 one.1 in
    let same = accepted_once su h run i e v s named.0 (block_hash b)
    (prepared_accepted su h run i e v s named.0 stands) (accepted_stands i e v s (block_hash b) h accepted) in
    has_found (is_prepared i e v s (block_hash b)) h (Prepared i e v s named.0) stands
    (subst (λ d. is_prepared i e v s d (Prepared i e v s named.0) ≡ true) same
    (prepared_itself i e v s named.0))

-- WHAT AN OPENING FOUND

-- it rests on facts of the node, and its block fits
pub record IsFound (h : History) (i : ℕ) (f : Found) : Type 0 where
  pub accepted : has (is_accepted i f.config f.view f.height (block_hash f.block)) h ≡ true
  pub prepared : f.is_prepared ≡ true → has (is_prepared i f.config f.view f.height (block_hash f.block)) h
      ≡ true
  pub fits : FitsAt f.height f.block

found_from : (h : History) (i e v s : ℕ) (p : Bool) (o : Option Block)
    → ((b : Block) → o ≡ Some b → IsFound h i (record {
      config = e;
      view = v;
      height = s;
      block = b;
      is_prepared = p;
    }))
    → (f : Found) → option_map (λ (b : Block). record {
      config = e;
      view = v;
      height = s;
      block = b;
      is_prepared = p;
    }) o ≡ Some f → IsFound h i f
found_from h i e v s p None each f is = absurd (cc)
found_from h i e v s p (Some b) each f is = subst (IsFound h i) (some_same is) (each b refl)

-- where the facts that stood then, and more, are among all
found_opened : (su : Setup) (h : History) (i : ℕ) (past : Past) → IsRun su h
    → AllByRecursion (IsGoodEntry su h i) past → ((kind : Fact → Bool) → has kind (facts_of past) ≡ true
    → has kind h ≡ true)
    → (f : Found) → found_of su.config i (Opened ∷ past) ≡ Some f → IsFound h i f
unfolding view_of place_by_facts
found_opened su h i past run all within f is =
    let e = (config_of su i (facts_of past)).number in
    let v = view i e (facts_of past) in
    let s = height i (facts_of past) in
    let p = has (is_prepared_at i e v s) (facts_of past) in
    found_from h i e v s p (accepted_block i e v s past)
    (λ b at.
    let block : IsAccepted (facts_of past) i e v s b = accepted_in su h i e v s b past all at in
    let accepted : has (is_accepted i e v s (block_hash b)) h ≡ true =
    within (is_accepted i e v s (block_hash b)) block.accepted in
    record {
      accepted = accepted;
      prepared = λ yes. prepared_block su h i e v s b run accepted
          (within (is_prepared_at i e v s) yes);
      fits = block.fits;
    }) f is

-- no tick came since
unless_tick : (P : Found → Type 0) (t : Bool) (o : Option Found) → ((f : Found) → o ≡ Some f → P f)
    → (f : Found)
    → cond t None o ≡ Some f → P f
unless_tick P true o each f is = absurd (cc)
unless_tick P false o each f is = each f is

found_in_past : (su : Setup) (h : History) (i : ℕ) (past : Past) → IsRun su h
    → AllByRecursion (IsGoodEntry su h i) past
    → ((kind : Fact → Bool) → has kind (facts_of past) ≡ true → has kind h ≡ true)
    → (f : Found) → found_of su.config i past ≡ Some f → IsFound h i f
found_in_past su h i [] run all within f is = absurd (cc)
found_in_past su h i (Opened ∷ past) run all within f is = found_opened su h i past run all.1 within f is
found_in_past su h i (Came event accepts ∷ past) run all within f is =
    unless_tick (IsFound h i) (is_tick event) (found_of su.config i past)
    (found_in_past su h i past run all.1 within) f is
found_in_past su h i (Did deed ∷ past) run all within f is =
    found_in_past su h i past run all.1 (λ kind had. within kind (or_right _ _ had)) f is
found_in_past su h i (Signed pledge accepts ∷ past) run all within f is =
    found_in_past su h i past run all.1
    (λ kind had. within kind (has_over kind (facts_in (Signed pledge accepts)) (facts_of past) had)) f is
found_in_past su h i (Sent receivers message ∷ past) run all within f is =
    found_in_past su h i past run all.1 within f is

pub found_is : (su : Setup) (h : History) (i : ℕ) (past : Past) → IsRun su h → NodeStands su h i past
    → (f : Found) → found_of su.config i past ≡ Some f → IsFound h i f
found_is su h i past run st f is = found_in_past su h i past run st.entries (in_history su h i past st) f is
