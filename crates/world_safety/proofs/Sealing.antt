-- What a node keeps is signed in the box of seals, and so what it delivers is certified.
use Rattle.std.proofs.Common.{
  ◌≡◌,
  ℕ,
  true,
  ◌&&◌,
  List,
  [],
  ◌∷◌,
  ◌++◌,
  reverse,
  refl,
  sym,
  subst,
  ap,
  ◌∙◌,
  Some,
}
use Rattle.std.specs.Prelude.{◌==◌, filter, not}
use Rattle.std.specs.List.{AllByRecursion}
use Rattle.std.proofs.lemmas.Bool.{and_from, and_parts}
use Rattle.std.proofs.lemmas.List.{append-nil, append_assoc, map-append}
use Rattle.ord_types.specs.Hashes.{block_hash}
use Rattle.ord_types.specs.Members.{is_in, is_raft}
use Rattle.ord_types.specs.declared.values.Cert.{Cert}
use Rattle.ord_types.specs.declared.values.Config.{Config}
use Rattle.ord_types.specs.declared.values.Proof.TheVariants as proof_of
use Rattle.safety_model.specs.Blocks.{Block, config_at}
use Rattle.safety_model.specs.Facts.{History, Proof}
use Rattle.safety_model.specs.State.{Setup, delivered, height, is_inside, view}
use Rattle.safety_model.specs.declared.fact.Fact.{Fact}
use Rattle.safety_model.specs.declared.fact.Fact.TheVariants.{
  Accepted,
  Prepared,
  Left,
  Reported,
  Entered,
  Delivered,
}
use Rattle.safety_model.proofs.Chains.{config_stays}
use Rattle.signer_edge.specs.Accepts.{Accepts}
use Rattle.signer_edge.specs.Certificates.{is_good_cert}
use Rattle.signer_edge.specs.Seals.{is_sealed}
use Rattle.signer_edge.specs.Signing.{KeepsAccepted}
use Rattle.signer_edge.specs.Statements.{commit_text}
use Rattle.signer_edge.specs.declared.seals.Seal.{Seal}
use Rattle.signer_edge.proofs.CertificateFacts.{is_good_cert-kept}
use Rattle.signer_edge.proofs.SealFacts.{is_sealed-grown}
use Rattle.view_model.specs.declared.letter.VoteMessage.TheVariants as message_of
use Rattle.view_model.specs.declared.letter.Letter.{Letter}
use Rattle.view_model.specs.declared.letter.VoteMessage.{VoteMessage}
use Rattle.view_model.specs.Acts.{delivery_due}
use Rattle.view_model.specs.Answers.{is_near, is_signed}
use Rattle.view_model.specs.Letters.{config_in, view_in}
use Rattle.node_model.specs.Entries.{
  Accepts as Accepting,
  Came,
  Commits,
  Deed,
  Delivers,
  Did,
  Enters,
  Entry,
  Leaves,
  Opened,
  Past,
  Prepares,
  Sent,
  Signed,
  facts_in,
  facts_of,
  statement_of,
  statements_of,
}
use Rattle.node_model.specs.Keeping.{
  is_of_view,
  is_timely,
  kept,
  letter_of,
  own_letters,
  place_by_facts,
  timely,
  view_of,
}
use Rattle.node_model.specs.Steps.{Keys}
use Rattle.world_model.specs.Worlds.{keys_of, seals_of}
use Rattle.world_safety.specs.Certified.{IsCertifiedFact}
use Rattle.world_safety.proofs.Certifying.{IsKeptSigned, IsSignedLetter, delivery_good}
use Rattle.world_safety.proofs.Lists.{all_append, all_filter, all_map, all_of, all_reverse}
use Rattle.world_safety.proofs.StepMoments.{
  AreMade,
  IsDueDeed,
  IsMade,
  Now,
  after_all,
  after_one,
  see,
  signed_after,
  signed_with,
}
use Rattle.world_safety.proofs.Nodes.{all_firsts}

-- WHAT IS ACCEPTED STAYS ACCEPTED

message_more : (old new : Accepts) → KeepsAccepted old new → (from : ℕ) (m : VoteMessage)
    → is_signed old from m ≡ true → is_signed new from m ≡ true
message_more old new more from (message_of.PrePrepare m) is = refl
message_more old new more from (message_of.Prepare m) is = refl
message_more old new more from (message_of.Commit m) is =
    let p = and_parts (m.sig.signer == from) (old (commit_text m.config m.view m.number m.digest) m.sig) is in
    and_from _ _ p.0 (more (commit_text m.config m.view m.number m.digest) m.sig p.1)

letters_signed : (old new : Accepts) → KeepsAccepted old new → (letters : List Letter)
    → AllByRecursion (IsSignedLetter old) letters → AllByRecursion (IsSignedLetter new) letters
letters_signed old new more letters all = all_map (IsSignedLetter old) (IsSignedLetter new)
    (λ letter is. message_more old new more letter.from letter.message is) letters all

fact_certified : (old new : Accepts) → KeepsAccepted old new → (c : Config) (f : Fact)
    → IsCertifiedFact old c f → IsCertifiedFact new c f
fact_certified old new more c (Accepted i e v s d) is = tt
fact_certified old new more c (Prepared i e v s d) is = tt
fact_certified old new more c (Left i e v) is = tt
fact_certified old new more c (Reported i e v r) is = tt
fact_certified old new more c (Entered i e v x choice) is = tt
fact_certified old new more c (Delivered i b proof_of.Raft) is = is
fact_certified old new more c (Delivered i b (proof_of.Bft cert)) is =
    is_good_cert-kept old new c b.header.number (block_hash b) cert more is

pub facts_certified : (old new : Accepts) → KeepsAccepted old new → (c : Config) (h : List Fact)
    → AllByRecursion (IsCertifiedFact old c) h → AllByRecursion (IsCertifiedFact new c) h
facts_certified old new more c h all =
    all_map (IsCertifiedFact old c) (IsCertifiedFact new c) (fact_certified old new more c) h all

-- WHAT A NODE KEEPS

timely_signed : (c : Config) (i : ℕ) (g : History) (accepts : Accepts) (letters : List Letter)
    → AllByRecursion (IsSignedLetter accepts) (filter (is_timely c i g accepts) letters)
timely_signed c i g accepts letters =
    let now = config_at c (delivered i g) in
    all_map (λ letter. Unit {0} × (is_timely c i g accepts letter ≡ true)) (IsSignedLetter accepts)
    (λ letter both. (and_parts (is_in letter.from now.members && not (is_raft now)
    && (config_in letter.message == now.number) && is_inside i now.number (view_in letter.message) g
    && is_near (height i g) letter) (is_signed accepts letter.from letter.message) both.1).1)
    (filter (is_timely c i g accepts) letters)
    (all_filter (λ letter. Unit {0}) (is_timely c i g accepts) letters
    (all_of (λ letter. Unit {0}) (λ letter. tt) letters))

-- the kept Commits of node i, in a chain that begins with a configuration, are accepted
abbrev pub IsSealedPast : Config → ℕ → Accepts → Past → Type 0
IsSealedPast c i accepts past = AllByRecursion (IsSignedLetter accepts) (timely c i past)

pub past_sealed : (old new : Accepts) → KeepsAccepted old new → (c : Config) (i : ℕ) (past : Past)
    → IsSealedPast c i old past → IsSealedPast c i new past
past_sealed old new more c i past is = letters_signed old new more (timely c i past) is

kept_signed : (accepts : Accepts) (c : Config) (i : ℕ) (past : Past) (e v k : ℕ)
    → IsSealedPast c i accepts past
    → AllByRecursion (IsKeptSigned accepts e v k) (reverse (filter (is_of_view e v k) (kept c i past)))
kept_signed accepts c i past e v k all =
    let good = all_filter (IsSignedLetter accepts) (is_of_view e v k) (kept c i past)
    (all_firsts (IsSignedLetter accepts) (timely c i past) all) in
    all_reverse (IsKeptSigned accepts e v k) (filter (is_of_view e v k) (kept c i past))
    (all_map (λ letter. IsSignedLetter accepts letter × (is_of_view e v k letter ≡ true))
    (IsKeptSigned accepts e v k) (λ letter both. record { signed = both.0; of_view = both.1 })
    (filter (is_of_view e v k) (kept c i past)) good)

-- A STEP, entry by entry, where these keys accept more with each statement that is signed

module _ (su : Setup) (i : ℕ) (keys : Keys)
    (grows : (signed more : List (List ℕ)) → KeepsAccepted (keys.accepts signed)
    (keys.accepts (signed ++ more))) where
  -- what it delivers is certified
  delivers_certified : (accepts : Accepts) (s : Now) → IsSealedPast su.config i accepts s.past
      → (b : Block) (cert : Cert) → delivery_due (see su i s).place (see su i s).view ≡ Some (b, cert)
      → is_good_cert accepts su.config b.header.number (block_hash b) cert ≡ true
  unfolding place_by_facts view_of
  delivers_certified accepts s is b cert due =
      let h = facts_of s.past in
      let now = config_at su.config (delivered i h) in
      let stays : now ≡ su.config = config_stays su.config (delivered i h) in
      subst (λ c. is_good_cert accepts c b.header.number (block_hash b) cert ≡ true) stays
      (delivery_good accepts (see su i s).place (see su i s).view b cert
      (kept_signed accepts su.config i s.past now.number (view i now.number h) (height i h) is) due)

  deed_certified : (accepts : Accepts) (s : Now) → IsSealedPast su.config i accepts s.past → (deed : Deed)
      → IsDueDeed su i (see su i s) deed
      → AllByRecursion (IsCertifiedFact accepts su.config) (facts_in (Did deed))
  deed_certified accepts s is (Accepting j e v k b) due = (tt, tt)
  deed_certified accepts s is (Prepares j e v k d) due = (tt, tt)
  deed_certified accepts s is (Delivers j b proof) due = (
    subst (λ (proof : Proof). IsCertifiedFact accepts su.config (Delivered j b proof)) (sym due.bft)
        (delivers_certified accepts s is b due.cert due.due),
    tt,
  )
  deed_certified accepts s is (Leaves j e v) due = (tt, tt)
  deed_certified accepts s is (Enters j e v x choice) due = (tt, tt)

  -- the signatures of these facts' certificates are accepted, and so are the kept Commits
  record AreSealed (accepts : Accepts) (s : Now) (fs : List Fact) : Type 0 where
    facts : AllByRecursion (IsCertifiedFact accepts su.config) fs
    past : IsSealedPast su.config i accepts s.past

  entry_sealed : (signed : List (List ℕ)) (s : Now) (entry : Entry) → IsMade su i keys signed s entry
      → IsSealedPast su.config i (keys.accepts signed) s.past
      → AreSealed (keys.accepts (signed_with entry signed)) (after_one entry s) (facts_in entry)
  entry_sealed signed s Opened made is = record { facts = tt; past = tt }
  entry_sealed signed s (Came event accepts) made is =
      let g = facts_of s.past in
      let new = timely_signed su.config i g accepts (letter_of i event) in
      record {
        facts = tt;
        past = all_append (IsSignedLetter (keys.accepts signed))
            (filter (is_timely su.config i g accepts) (letter_of i event)) (timely su.config i s.past)
            (subst (λ accepting. AllByRecursion (IsSignedLetter accepting)
            (filter (is_timely su.config i g accepts) (letter_of i event))) made.by_keys new) is;
      }
  entry_sealed signed s (Did deed) made is =
      record { facts = deed_certified (keys.accepts signed) s is deed made.due; past = is }
  entry_sealed signed s (Signed (Commits m) accepts) made is =
      let g = facts_of s.past in
      let statement = statement_of (Commits m) in
      let later = keys.accepts (signed ++ statement ∷ []) in
      let own = own_letters i (Commits m) in
      let new = timely_signed su.config i g accepts own in
      record {
        facts = tt;
        past = all_append (IsSignedLetter later) (filter (is_timely su.config i g accepts) own)
            (timely su.config i s.past)
            (subst (λ accepting. AllByRecursion (IsSignedLetter accepting)
            (filter (is_timely su.config i g accepts) own)) made.by_keys new)
            (letters_signed (keys.accepts signed) later (grows signed (statement ∷ []))
            (timely su.config i s.past) is);
      }
  entry_sealed signed s (Sent receivers message) made is = record { facts = tt; past = is }

  -- by the end of them
  pub record AllSealed (signed : List (List ℕ)) (s : Now) (made : List Entry) : Type 0 where
    pub facts : AllByRecursion (IsCertifiedFact (keys.accepts (signed ++ statements_of made)) su.config)
        (facts_of made)
    pub past : IsSealedPast su.config i (keys.accepts (signed ++ statements_of made)) (after_all made s).past

  pub made_sealed : (signed : List (List ℕ)) (s : Now) (made : List Entry) → AreMade su i keys signed s made
      → IsSealedPast su.config i (keys.accepts signed) s.past → AllSealed signed s made
  made_sealed signed s [] all is =
      record {
        facts = tt;
        past = subst (λ signed. IsSealedPast su.config i (keys.accepts signed) s.past)
            (sym (append-nil signed)) is;
      }
  made_sealed signed s (entry ∷ made) all is =
      let one = entry_sealed signed s entry all.0 is in
      let next = signed_with entry signed in
      let rest = made_sealed next (after_one entry s) made all.1 one.past in
      let c = su.config in
      let end = signed_after entry signed (statements_of made) in
      let first = facts_certified (keys.accepts next) (keys.accepts (next ++ statements_of made))
      (grows next (statements_of made)) c (facts_in entry) one.facts in
      record {
        facts = subst (λ signed. AllByRecursion (IsCertifiedFact (keys.accepts signed) c)
            (facts_in entry ++ facts_of made)) end
            (all_append (IsCertifiedFact (keys.accepts (next ++ statements_of made)) c) (facts_in entry)
            (facts_of made) first rest.facts);
        past = subst (λ signed. IsSealedPast c i (keys.accepts signed)
            (after_all made (after_one entry s)).past) end
            rest.past;
      }

-- THE BOX only grows

pub box_grows : (box : List Seal) (i : ℕ) (signed more : List (List ℕ))
    → KeepsAccepted ((keys_of box i).accepts signed) ((keys_of box i).accepts (signed ++ more))
box_grows box i signed more t sig is =
    let longer : (box ++ seals_of i signed) ++ seals_of i more ≡ box ++ seals_of i (signed ++ more) =
    append_assoc box (seals_of i signed) (seals_of i more)
    ∙ ap (λ more. box ++ more)
    (sym (map-append (λ (s : List ℕ). record { signer = i; statement = s }) signed more)) in
    subst (λ box. is_sealed box t sig ≡ true) longer
    (is_sealed-grown (box ++ seals_of i signed) (seals_of i more) t sig is)

-- a step of a node of a world with this box
pub step_sealed : (su : Setup) (box : List Seal) (i : ℕ) (s : Now) (made : List Entry)
    → AreMade su i (keys_of box i) [] s made → IsSealedPast su.config i (is_sealed box) s.past
    → AllSealed su i (keys_of box i) (box_grows box i) [] s made
step_sealed su box i s made all is =
    made_sealed su i (keys_of box i) (box_grows box i) [] s made all
    (past_sealed (is_sealed box) (is_sealed (box ++ [])) (is_sealed-grown box []) su.config i s.past is)
