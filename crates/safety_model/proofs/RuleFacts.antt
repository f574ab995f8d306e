-- What the rules say of an allowed fact.
use Rattle.std.proofs.Common.{◌≡◌, ℕ, ◌≤◌, ◌<◌, true, false, ◌&&◌, ◌||◌, List}
use Rattle.std.specs.Prelude.{◌==◌, not, nat_le, nat_lt}
use Rattle.std.proofs.lemmas.Bool.{and_parts, eqb-true, leb-true, ltb-true, not-true}
use Rattle.ord_types.specs.Hashes.{block_hash}
use Rattle.ord_types.specs.Members.{is_raft}
use Rattle.safety_model.specs.Blocks.{Block, follows_block, is_lawful}
use Rattle.safety_model.specs.Facts.{Proof, Report, Choice, History, has, is_accepted, is_accepted_at, is_entered_against}
use Rattle.safety_model.specs.declared.fact.Fact.TheVariants.{Accepted, Prepared, Left, Reported, Entered, Delivered}
use Rattle.safety_model.specs.Reports.{is_true_report}
use Rattle.safety_model.specs.State.{Setup, config_of, height, left, tip, view}
use Rattle.safety_model.specs.Rules.{Allowed, is_backed, is_bft_proof, is_supported, keeps_bound}

pub record AcceptedRules (su : Setup) (g : History) (i e v s : ℕ) (d : List ℕ) : Type 0 where
  pub config : (config_of su i g).number ≡ e
  pub number : s ≡ height i g
  pub inside : view i e g ≡ v
  pub not_left : left i e g ≤ v
  pub fresh : has (is_accepted_at i e v s) g ≡ false
  pub not_against : has (is_entered_against i e v s d) g ≡ false

pub accepted_rules : (su : Setup) (g : History) (i e v s : ℕ) (d : List ℕ) → Allowed su g (Accepted i e v s d) → AcceptedRules su g i e v s d
accepted_rules su g i e v s d a =
    let r4 = a.1.1.1.0 in
    let r5 = a.1.1.1.1.0 in
    let r6 = and_parts (view i e g == v) (nat_le (left i e g) v) a.1.1.1.1.1.0 in
    let r7 = a.1.1.1.1.1.1.0 in
    let r8 = a.1.1.1.1.1.1.1.0 in
    record {
      config = eqb-true _ _ (and_parts (not (is_raft (config_of su i g))) ((config_of su i g).number == e) r4).1;
      number = eqb-true _ _ r5;
      inside = eqb-true _ _ r6.0;
      not_left = leb-true _ _ r6.1;
      fresh = not-true _ r7;
      not_against = not-true _ r8;
    }

pub record PreparedRules (su : Setup) (g : History) (i e v s : ℕ) (d : List ℕ) : Type 0 where
  pub config : (config_of su i g).number ≡ e
  pub number : s ≡ height i g
  pub inside : view i e g ≡ v
  pub not_left : left i e g ≤ v
  pub accepted : has (is_accepted i e v s d) g ≡ true

pub prepared_rules : (su : Setup) (g : History) (i e v s : ℕ) (d : List ℕ) → Allowed su g (Prepared i e v s d) → PreparedRules su g i e v s d
prepared_rules su g i e v s d a =
    let r4 = a.1.1.1.0 in
    let r5 = a.1.1.1.1.0 in
    let r6 = and_parts (view i e g == v) (nat_le (left i e g) v) a.1.1.1.1.1.0 in
    let r9 = and_parts (has (is_accepted i e v s d) g) (is_backed su g (config_of su i g) e v s d) a.1.1.1.1.1.1.0 in
    record {
      config = eqb-true _ _ (and_parts (not (is_raft (config_of su i g))) ((config_of su i g).number == e) r4).1;
      number = eqb-true _ _ r5;
      inside = eqb-true _ _ r6.0;
      not_left = leb-true _ _ r6.1;
      accepted = r9.0;
    }

pub record LeftRules (su : Setup) (g : History) (i e v : ℕ) : Type 0 where
  pub config : (config_of su i g).number ≡ e
  pub above : view i e g < v
  pub further : left i e g < v

pub left_rules : (su : Setup) (g : History) (i e v : ℕ) → Allowed su g (Left i e v) → LeftRules su g i e v
left_rules su g i e v a =
    let r10 = and_parts (nat_lt (view i e g) v) (nat_lt (left i e g) v) a.1.1.1.1.0 in
    record {
      config = eqb-true _ _ (and_parts (not (is_raft (config_of su i g))) ((config_of su i g).number == e) a.1.1.1.0).1;
      above = ltb-true _ _ r10.0;
      further = ltb-true _ _ r10.1;
    }

pub record ReportedRules (su : Setup) (g : History) (i e v : ℕ) (r : Report) : Type 0 where
  pub config : (config_of su i g).number ≡ e
  pub left : v ≡ left i e g
  pub above : view i e g < v
  pub is_true : is_true_report i e g r ≡ true

pub reported_rules : (su : Setup) (g : History) (i e v : ℕ) (r : Report) → Allowed su g (Reported i e v r) → ReportedRules su g i e v r
reported_rules su g i e v r a =
    let r11 = and_parts (v == left i e g) (nat_lt (view i e g) v) a.1.1.1.1.0 in
    record {
      config = eqb-true _ _ (and_parts (not (is_raft (config_of su i g))) ((config_of su i g).number == e) a.1.1.1.0).1;
      left = eqb-true _ _ r11.0;
      above = ltb-true _ _ r11.1;
      is_true = a.1.1.1.1.1.0;
    }

pub record EnteredRules (su : Setup) (g : History) (i e v x : ℕ) (choice : Choice) : Type 0 where
  pub config : (config_of su i g).number ≡ e
  pub above : view i e g < v
  pub not_left : left i e g ≤ v
  pub reached : x ≤ height i g
  pub kind : is_raft (config_of su i g) ≡ false
  pub supported : is_supported su g i (config_of su i g) e v x choice ≡ true

pub entered_rules : (su : Setup) (g : History) (i e v x : ℕ) (choice : Choice) → Allowed su g (Entered i e v x choice) → EnteredRules su g i e v x choice
entered_rules su g i e v x choice a =
    let r13 = and_parts (nat_lt (view i e g) v && nat_le (left i e g) v) (nat_le x (height i g)) a.1.1.1.0 in
    let views = and_parts (nat_lt (view i e g) v) (nat_le (left i e g) v) r13.0 in
    record {
      config = eqb-true _ _ (and_parts (not (is_raft (config_of su i g))) ((config_of su i g).number == e) a.1.1.0).1;
      kind = not-true _ (and_parts (not (is_raft (config_of su i g))) ((config_of su i g).number == e) a.1.1.0).0;
      above = ltb-true _ _ views.0;
      not_left = leb-true _ _ views.1;
      reached = leb-true _ _ r13.1;
      supported = a.1.1.1.1.0;
    }

pub record DeliveredRules (su : Setup) (g : History) (i : ℕ) (b : Block) (proof : Proof) : Type 0 where
  pub bound : keeps_bound su (config_of su i g) ≡ true
  pub number : b.header.number ≡ height i g
  pub follows : follows_block (tip su i g) b ≡ true
  pub lawful : is_lawful (config_of su i g) b ≡ true
  pub bft : (is_raft (config_of su i g) || is_bft_proof su g (config_of su i g) b.header.number (block_hash b) proof) ≡ true

pub delivered_rules : (su : Setup) (g : History) (i : ℕ) (b : Block) (proof : Proof) → Allowed su g (Delivered i b proof) → DeliveredRules su g i b proof
delivered_rules su g i b proof a =
    let r15 = and_parts (follows_block (tip su i g) b) (is_lawful (config_of su i g) b) a.1.1.1.0 in
    record {
      bound = a.1.0;
      number = eqb-true _ _ a.1.1.0;
      follows = r15.0;
      lawful = r15.1;
      bft = a.1.1.1.1.0;
    }
