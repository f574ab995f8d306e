-- Each deed of a step is one of a node that stands where it is done.
use Rattle.std.proofs.Common.{
  ◌≡◌,
  ℕ,
  zero,
  suc,
  ◌<◌,
  ◌≤◌,
  Bool,
  true,
  false,
  cond,
  ap,
  subst,
  ◌∙◌,
  sym,
  refl,
  List,
  [],
  ◌∷◌,
  ◌++◌,
  take,
  map,
  Option,
  Some,
  None,
  option_map,
}
use Rattle.std.specs.Prelude.{if◌then◌else◌, nat_le, ⊤}
use Rattle.std.specs.List.{AllByRecursion}
use Rattle.std.proofs.lemmas.Option.{none-some}
use Rattle.ord_types.specs.Hashes.{block_hash}
use Rattle.ord_types.specs.declared.values.Block.{Block}
use Rattle.ord_types.specs.declared.values.Cert.{Cert}
use Rattle.ord_types.specs.declared.values.Place.{Place}
use Rattle.ord_types.specs.declared.values.Request.{Request}
use Rattle.signer_edge.specs.Accepts.{Accepts as Acceptance}
use Rattle.bft_wire.specs.declared.message.Message.{Message}
use Rattle.view_model.specs.Acts.{
  View,
  acceptance_due,
  delivery_due,
  digest_if,
  preparation_due,
  prepares,
  proposed,
  quorum_of,
}
use Rattle.node_model.specs.Cores.{Core, Found, after_deed, after_entries, after_entry, after_opening}
use Rattle.node_model.specs.Entries.{
  Deed,
  Accepts,
  Prepares,
  Delivers,
  Leaves,
  Enters,
  Entry,
  Opened,
  Came,
  Did,
  Signed,
  Sent,
  deeds_of,
  is_tick,
  offer_in,
  statements_of,
}
use Rattle.node_model.specs.declared.event.Event.{Event}
use Rattle.node_model.specs.Steps.{
  Keys,
  Rule,
  Duty,
  Accept,
  Prepare,
  Deliver,
  ◌then_do◌,
  accept_duty,
  acceptance,
  all_due,
  at_most,
  comes,
  commits_if,
  current,
  deliver_duty,
  does,
  duties,
  duty,
  first_some,
  for_duty,
  most_duties,
  own_rule,
  preparation,
  prepare_duty,
  proposes,
  proposes_of,
  repeats,
  repeats_found,
  repeated_votes,
  step,
  then_on,
  to_all,
}
use Rattle.node_model.proofs.OpeningLemmas.{done_alike, opening_finds}
use Rattle.node_model.proofs.RuleLemmas.{after_append}
use Rattle.bft_node.specs.Standing.{AreDeedsOf, IsDeedOf, StepsHaveDeeds}

-- a deed, if the entry is one, is of a node that stands so
abbrev pub HasDeed : Entry → Core → Type 0
HasDeed Opened c = ⊤
HasDeed (Came event accepts) c = ⊤
HasDeed (Did deed) c = IsDeedOf c deed
HasDeed (Signed pledge accepts) c = ⊤
HasDeed (Sent receivers message) c = ⊤

abbrev pub AllHaveDeeds : List Entry → Core → Type 0
AllHaveDeeds [] c = ⊤
AllHaveDeeds (entry ∷ entries) c = HasDeed entry c × AllHaveDeeds entries (after_entry entry c)

pub have_front : (cut : ℕ) (entries : List Entry) (c : Core) → AllHaveDeeds entries c
    → AllHaveDeeds (take cut entries) c
have_front zero entries c have = tt
have_front (suc cut) [] c have = tt
have_front (suc cut) (entry ∷ entries) c have =
    (have.0, have_front cut entries (after_entry entry c) have.1)

have_append : (one more : List Entry) (c : Core) → AllHaveDeeds one c → AllHaveDeeds more (after_entries one c)
    → AllHaveDeeds (one ++ more) c
have_append [] more c have rest = rest
have_append (entry ∷ one) more c have rest =
    (have.0, have_append one more (after_entry entry c) have.1 rest)

-- RULES

abbrev RuleHas : Rule → Type 0
RuleHas rule = (signed : List (List ℕ)) (c : Core) → AllHaveDeeds (rule signed c) c

on_has : (rule : Rule) → RuleHas rule → (signed : List (List ℕ)) (c : Core) (made : List Entry)
    → AllHaveDeeds made c → AllHaveDeeds (then_on rule signed c made) c
on_has rule has signed c made have =
    have_append made (rule (signed ++ statements_of made) (after_entries made c)) c have
    (has (signed ++ statements_of made) (after_entries made c))

then_has : (first second : Rule) → RuleHas first → RuleHas second → RuleHas (first then_do second)
then_has first second one other signed c = on_has second other signed c (first signed c) (one signed c)

-- WHAT IS PREPARED was accepted

hash_if : (t : Bool) (b : Block) (d : List ℕ) → (if t then Some (block_hash b) else None) ≡ Some d
    → Some (block_hash b) ≡ Some d
hash_if true b d h = h
hash_if false b d h = absurd (none-some d h)

due_if : (t : Bool) (place : Place) (w : View) (o : Option Block) (d : List ℕ)
    → (if t then digest_if place w o else None) ≡ Some d → option_map block_hash o ≡ Some d
due_if true place w None d h = absurd (none-some d h)
due_if true place w (Some b) d h =
    hash_if (nat_le (quorum_of place.config) (prepares place w (block_hash b))) b d h
due_if false place w o d h = absurd (none-some d h)

due_accepted : (place : Place) (w : View) (d : List ℕ) → preparation_due place w ≡ Some d
    → option_map block_hash w.accepted ≡ Some d
due_accepted place w d h = due_if _ place w w.accepted d h

-- EACH DUTY

-- what is done for a duty of a rank, where it is due
abbrev Does : Keys → List (List ℕ) → Core → Option Duty → Type 0
Does keys signed c o = (d : Duty) → o ≡ Some d → AllHaveDeeds (does keys d signed c) c

first_does : (keys : Keys) (signed : List (List ℕ)) (c : Core) (os : List (Option Duty))
    → AllByRecursion (Does keys signed c) os → Does keys signed c (first_some os)
first_does keys signed c [] all d is = absurd (cc)
first_does keys signed c (None ∷ os) all d is = first_does keys signed c os all.1 d is
first_does keys signed c (Some first ∷ os) all d is = all.0 d is

accept_does : (keys : Keys) (signed : List (List ℕ)) (c : Core) (o : Option Block)
    → Does keys signed c (accept_duty o)
accept_does keys signed c None d is = absurd (cc)
accept_does keys signed c (Some b) d is =
    let same : Accept b ≡ d = cc in
    subst (λ (x : Duty). AllHaveDeeds (does keys x signed c) c) same (refl, (tt, tt))

prepare_does : (keys : Keys) (signed : List (List ℕ)) (c : Core) (o : Option (List ℕ))
    → preparation_due c.place c.view ≡ o → Does keys signed c (prepare_duty o)
prepare_does keys signed c None at d is = absurd (cc)
prepare_does keys signed c (Some h) at d is =
    let same : Prepare h ≡ d = cc in
    subst (λ (x : Duty). AllHaveDeeds (does keys x signed c) c) same
    ((refl, due_accepted c.place c.view h at), (tt, (tt, tt)))

deliver_does : (keys : Keys) (signed : List (List ℕ)) (c : Core) (o : Option (Block × Cert))
    → Does keys signed c (deliver_duty o)
deliver_does keys signed c None d is = absurd (cc)
deliver_does keys signed c (Some b) d is =
    let same : Deliver b.0 b.1 ≡ d = cc in
    subst (λ (x : Duty). AllHaveDeeds (does keys x signed c) c) same (refl, tt)

told_does : (accepts : Acceptance) (keys : Keys) (signed : List (List ℕ)) (c : Core)
    → Does keys signed c (duty accepts c)
told_does accepts keys signed c =
    first_does keys signed c (duties accepts c) (
      accept_does keys signed c (acceptance_due accepts c.place c.view),
      (
        prepare_does keys signed c (preparation_due c.place c.view) refl,
        (deliver_does keys signed c (delivery_due c.place c.view), tt),
      ),
    )

-- THE PARTS OF A STEP

duty_has : (keys : Keys) (rest : Rule) → RuleHas rest
    → (signed : List (List ℕ)) (c : Core) (o : Option Duty) → Does keys signed c o
    → AllHaveDeeds (for_duty keys rest o signed c) c
duty_has keys rest has signed c None all = tt
duty_has keys rest has signed c (Some d) all =
    on_has rest has signed c (does keys d signed c) (all d refl)

at_most_has : (keys : Keys) (n : ℕ) → RuleHas (at_most keys n)
at_most_has keys zero signed c = tt
at_most_has keys (suc n) signed c =
    duty_has keys (at_most keys n) (at_most_has keys n) signed c (duty (keys.accepts signed) c)
    (told_does (keys.accepts signed) keys signed c)

sends_have : (c now : Core) (messages : List Message) → AllHaveDeeds (map (to_all c) messages) now
sends_have c now [] = tt
sends_have c now (message ∷ messages) = (tt, sends_have c now messages)

commits_have : (keys : Keys) (b : Bool) (d : List ℕ) (signed : List (List ℕ)) (c now : Core)
    → AllHaveDeeds (commits_if b keys signed c d) now
commits_have keys true d signed c now = (tt, (tt, tt))
commits_have keys false d signed c now = tt

found_has : (keys : Keys) (found : Option Found) → RuleHas (repeats_found keys found)
found_has keys None signed c = tt
found_has keys (Some f) signed c =
    have_append (map (to_all c) (repeated_votes c.place c.view f.block))
    (commits_if f.is_prepared keys signed c _) c (sends_have c c (repeated_votes c.place c.view f.block))
    (commits_have keys f.is_prepared _ signed c _)

repeats_have : (keys : Keys) (found : Option Found) (event : Event) → RuleHas (repeats keys found event)
repeats_have keys found event signed c =
    found_has keys (cond (is_tick event) (current c.place c.view found) None) signed c

proposes_has : (o : Option Block) (c : Core) → AllHaveDeeds (proposes o c) c
proposes_has None c = tt
proposes_has (Some b) c = (refl, (tt, (tt, tt)))

offered_has : (o : Option (List Request)) (c : Core) → AllHaveDeeds (proposes_of o c) c
offered_has None c = tt
offered_has (Some offer) c = proposes_has (proposed c.place c.view offer) c

own_has : (event : Event) → RuleHas (own_rule event)
own_has event signed c = offered_has (offer_in event) c

comes_has : (keys : Keys) (event : Event) → RuleHas (comes keys event)
comes_has keys event signed c = (tt, tt)

pub step_has : (keys : Keys) (c : Core) (event : Event) → AllHaveDeeds (step keys c event) c
unfolding step
step_has keys c event =
    then_has (comes keys event then_do repeats keys c.found event then_do own_rule event) (all_due keys)
    (then_has (comes keys event then_do repeats keys c.found event) (own_rule event)
    (then_has (comes keys event) (repeats keys c.found event) (comes_has keys event)
    (repeats_have keys c.found event)) (own_has event))
    (λ signed now. at_most_has keys (most_duties now) signed now) [] c

-- THE DEEDS ALONE, one after another

deed_alike : (deed : Deed) (c d : Core) → after_opening c ≡ after_opening d → IsDeedOf c deed → IsDeedOf d deed
deed_alike (Accepts i e v s b) c d is h = h ∙ ap (λ (k : Core). acceptance k.place k.view b) is
deed_alike (Prepares i e v s digest) c d is h = (
  h.0 ∙ ap (λ (k : Core). preparation k.place k.view digest) is,
  ap (λ (k : Core). option_map block_hash k.view.accepted) (sym is) ∙ h.1,
)
deed_alike (Delivers i b proof) c d is h = h ∙ ap (λ (k : Core). k.view.me) is
deed_alike (Leaves i e v) c d is h = (
  h.0 ∙ ap (λ (k : Core). Leaves k.view.me k.place.config.number v) is,
  subst (λ n. n ≤ v) (ap (λ (k : Core). k.view.left) is) h.1,
)
deed_alike (Enters i e v x choice) c d is h = (
  h.0 ∙ ap (λ (k : Core). Enters k.view.me k.place.config.number v x choice) is,
  subst (λ n. n < v) (ap (λ (k : Core). k.view.view) is) h.1,
)

-- an entry that is no deed changes nothing that an opening finds
pub other_alike : (entry : Entry) (c d : Core) → map Did (deeds_of (entry ∷ [])) ≡ []
    → after_opening c ≡ after_opening d → after_opening (after_entry entry c) ≡ after_opening d
other_alike entry c d none is =
    opening_finds (entry ∷ []) c ∙ ap (λ (l : List Entry). after_opening (after_entries l c)) none ∙ is

deeds_alone : (entries : List Entry) (c d : Core) → after_opening c ≡ after_opening d → AllHaveDeeds entries c
    → AreDeedsOf d (deeds_of entries)
deeds_alone [] c d is have = tt
deeds_alone (Opened ∷ entries) c d is have =
    deeds_alone entries (after_entry Opened c) d (other_alike Opened c d refl is) have.1
deeds_alone (Came event accepts ∷ entries) c d is have =
    deeds_alone entries (after_entry (Came event accepts) c) d (other_alike (Came event accepts) c d refl is) have.1
deeds_alone (Did deed ∷ entries) c d is have = (
  deed_alike deed c d is have.0,
  deeds_alone entries (after_deed deed c) (after_deed deed d) (done_alike deed c d is) have.1,
)
deeds_alone (Signed pledge accepts ∷ entries) c d is have =
    deeds_alone entries (after_entry (Signed pledge accepts) c) d
    (other_alike (Signed pledge accepts) c d refl is) have.1
deeds_alone (Sent receivers message ∷ entries) c d is have = deeds_alone entries c d is have.1

pub steps_have_deeds : StepsHaveDeeds
steps_have_deeds keys core event = deeds_alone (step keys core event) core core refl (step_has keys core event)
