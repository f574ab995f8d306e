-- What a node sends again, in a step so far.
use Rattle.std.proofs.Common.{
  ◌≡◌,
  ℕ,
  Bool,
  true,
  false,
  List,
  [],
  ◌∷◌,
  ◌++◌,
  map,
  Option,
  Some,
  None,
  Result,
  Ok,
  Err,
  IsTrue,
  refl,
  sym,
  ap,
  subst,
  ◌∙◌,
  append_assoc,
}
use Rattle.std.specs.Prelude.{if◌then◌else◌}
use Rattle.std.proofs.lemmas.List.{append-nil}
use Rattle.ord_types.specs.Hashes.{block_hash}
use Rattle.ord_types.specs.declared.values.Block.{Block}
use Rattle.ord_types.specs.declared.values.Place.{Place}
use Rattle.gate_log.specs.Disk.{State}
use Rattle.signer_edge.specs.Accepts.{Accepts}
use Rattle.bft_wire.specs.declared.message.Message.{Message}
use Rattle.view_model.specs.declared.act.Act.{Act}
use Rattle.view_model.specs.declared.act.Act.TheVariants as act_of
use Rattle.view_model.specs.Acts.{View}
use Rattle.view_model.specs.Answers.{after_act}
use Rattle.node_model.specs.Cores.{Core, Found, after_entries}
use Rattle.node_model.specs.Entries.{Entry, statements_of}
use Rattle.node_model.specs.Steps.{Keys, commits, commits_if, is_current, repeated_votes, repeats_found, to_all}
use Rattle.view_core.specs.Places.{StandsAt}
use Rattle.bft_node.specs.Calls.{after_rule, repeats_current}
use Rattle.bft_node.specs.Commits.{Commits, SignsAtMost, statement_at}
use Rattle.bft_node.specs.Making.{
  Around,
  Before,
  GoesOn,
  IsStopped,
  Makes,
  around,
  core_in,
  place_in,
  sent_of,
  sent_to_others,
  view_in,
}
use Rattle.bft_node.specs.Outcomes.{StaysSound}
use Rattle.bft_node.specs.Running.{IsReady, IsSound, as_found, place_of}
use Rattle.bft_node.specs.Signings.{Grows, KeysFit, Signing, statements_in}
use Rattle.bft_node.specs.declared.live.Found.{Found as Kept}
use Rattle.bft_node.specs.declared.live.Out.{Out}
use Rattle.bft_node.specs.declared.live.Running.{Running}
use Rattle.bft_node.specs.declared.node_fault.NodeFault.{NodeFault}
use Rattle.bft_node.proofs.CommitLemmas.{commit_made, made_sent, sent_core, sent_statements, with_commit}
use Rattle.bft_node.proofs.MakingLemmas.{core-append, makes_as, makes_view, statements-append}

-- THE COMMIT

-- an act that is no vote leaves the view as it is
after_other : (told : Act) (w : View) → ((x : Block) → told ≡ act_of.Accept x → ⊥)
    → ((x : List ℕ) → told ≡ act_of.Prepare x → ⊥) → after_act told w ≡ w
after_other (act_of.Accept x) w a p = absurd (a x refl)
after_other (act_of.Prepare d) w a p = absurd (p d refl)
after_other (act_of.Deliver x cert) w a p = refl
after_other act_of.Kept w a p = refl
after_other (act_of.Nothing reason) w a p = refl

-- all of it is signed
pub commit_whole : {K : Type 0} (digest : List ℕ) (told : Act) (old new : Running) (accepts : Accepts) (last : K)
    (signings : List (Signing K)) (before after : Out) → Commits digest told old new accepts last signings before after
    → SignsAtMost (statement_at old digest) signings
commit_whole digest told old new accepts last signings before after c =
    ([], append-nil (statements_in signings) ∙ ap (λ (l : List (Signing _)). statements_in l) c.signed)

-- it is signed, sent and kept, and no vote is due with it
pub commit_quiet : {K : Type 0} (acc : K → Accepts) (b : Before) (made : List Entry) (digest : List ℕ) (r : Running)
    (old : K) (tells : Bool) (moments : List State) (before : Out)
    → (h : Makes b made act_of.Kept r (around (acc old) tells moments before)) (signings : List (Signing K))
    → (grows : Grows acc old signings) (told : Act) (new : Running) (last : K) (after : Out)
    → (at : StandsAt (place_of r) r.view)
    → (m : Commits digest told r new (acc last) last signings before after)
    → (fit : KeysFit acc b.keys (statements_of made) old signings) → ((x : Block) → told ≡ act_of.Accept x → ⊥)
    → ((x : List ℕ) → told ≡ act_of.Prepare x → ⊥)
    → Makes b (with_commit b digest made) act_of.Kept new (around (acc last) tells moments after)
commit_quiet acc b made digest r old tells moments before h signings grows told new last after at m fit no_accept no_prepare =
    let all = with_commit b digest made in
    let made_told = commit_made acc b made digest r old tells moments before h signings grows told new last after at m fit in
    makes_view b all told act_of.Kept new new (around (acc last) tells moments after) made_told refl refl refl
    (made_told.view ∙ after_other told (view_in b all) no_accept no_prepare)

-- WHAT WAS FOUND

-- the votes, and the Commit of what is prepared
abbrev pub found_entries : Bool → Keys → List (List ℕ) → Core → Block → List Entry
found_entries flag keys signed c block =
    map (to_all c) (repeated_votes c.place c.view block) ++ commits_if flag keys signed c (block_hash block)

module _ (b : Before) (made : List Entry) (old : Running) (accepts : Accepts) (tells : Bool) (moments : List State)
    (before : Out) (h : Makes b made act_of.Kept old (around accepts tells moments before)) (f : Found) where
  abbrev core : Core
  core = core_in b made

  -- it is current in the code where it is so by the definition
  current_in : (x : Bool) → x ≡ is_current (place_of old) old.view f → is_current core.place core.view f ≡ x
  current_in x e =
      sym (e ∙ ap (λ (p : Place). is_current p old.view f) h.place ∙ ap (λ (w : View). is_current core.place w f) h.view)

  by_current : (x : Bool) → x ≡ is_current (place_of old) old.view f
      → made ++ repeats_found b.keys (if x then Some f else None) (statements_of made) core
      ≡ after_rule (repeats_current (Some f) b.keys) b made
  by_current x e =
      sym (ap (λ (y : Bool). made ++ repeats_found b.keys (if y then Some f else None) (statements_of made) core)
      (current_in x e))

  pub none_as : false ≡ is_current (place_of old) old.view f → made ≡ after_rule (repeats_current (Some f) b.keys) b made
  none_as e = sym (append-nil made) ∙ by_current false e

  -- what is sent where it is current
  pub found_as : true ≡ is_current (place_of old) old.view f → (flag : Bool) → f.is_prepared ≡ flag
      → made ++ found_entries flag b.keys (statements_of made) core f.block
      ≡ after_rule (repeats_current (Some f) b.keys) b made
  found_as e flag is =
      ap (λ (x : Bool). made ++ found_entries x b.keys (statements_of made) core f.block) (sym is) ∙ by_current true e

  abbrev pub voted : List Entry
  voted = made ++ map (to_all core) (repeated_votes core.place core.view f.block)

  -- the votes
  pub votes_made : (after : Out) → after.facts ≡ before.facts → after.done ≡ before.done
      → map sent_of after.sends
      ≡ map sent_of before.sends ++ sent_to_others old (repeated_votes (place_of old) old.view f.block)
      → Makes b voted act_of.Kept old (around accepts tells moments after)
  votes_made after facts done sends =
      let same = ap (λ (p : Place). repeated_votes p old.view f.block) h.place
      ∙ ap (λ (w : View). repeated_votes core.place w f.block) h.view in
      makes_as b _ voted act_of.Kept old (around accepts tells moments after)
      (ap (λ (ms : List Message). made ++ map (to_all core) ms) same)
      (made_sent b made act_of.Kept old accepts tells moments before after
      (repeated_votes (place_of old) old.view f.block) h facts done sends)

  pub votes_said : statements_of voted ≡ statements_of made
  votes_said =
      statements-append made (map (to_all core) (repeated_votes core.place core.view f.block))
      ∙ ap (λ (l : List (List ℕ)). statements_of made ++ l)
      (sent_statements core (repeated_votes core.place core.view f.block))
      ∙ append-nil (statements_of made)

  -- alone
  pub votes_as : voted ≡ made ++ found_entries false b.keys (statements_of made) core f.block
  votes_as =
      ap (λ (l : List Entry). made ++ l) (sym (append-nil (map (to_all core) (repeated_votes core.place core.view f.block))))

  -- and with the Commit
  pub votes_then : (digest : List ℕ) → digest ≡ block_hash f.block
      → with_commit b digest voted ≡ made ++ found_entries true b.keys (statements_of made) core f.block
  votes_then digest hash =
      let votes = map (to_all core) (repeated_votes core.place core.view f.block) in
      ap (λ (d : List ℕ). with_commit b d voted) hash
      ∙ ap (λ (l : List (List ℕ)). voted ++ commits b.keys l (core_in b voted) (block_hash f.block)) votes_said
      ∙ ap (λ (x : Core). voted ++ commits b.keys (statements_of made) x (block_hash f.block))
      (core-append b made votes ∙ sent_core core core (repeated_votes core.place core.view f.block))
      ∙ append_assoc made votes (commits b.keys (statements_of made) core (block_hash f.block))

-- whatever was found
sound_taken : (r : Running) (found : Option Kept) → IsSound r → IsSound (record r { found = found })
sound_taken r found s = record { me = s.me; place = s.place; at = s.at; config = s.config; view = s.view }

pub ready_taken : (tells : Bool) (moments : List State) (r : Running) (found : Option Kept) → IsReady tells moments r
    → IsReady tells moments (record r { found = found })
ready_taken tells moments r found ready = record { sound = sound_taken r found ready.sound; kept = ready.kept }

pub taken_stays : (r : Running) (found : Option Kept) → IsSound r → StaysSound r (record r { found = found })
taken_stays r found s =
    record {
      same = record { id = refl; config = refl };
      sound = sound_taken r found s;
      ready = λ tells moments ready. ready_taken tells moments r found ready;
    }

abbrev pub without_found : Running → Running
without_found r = record r { found = None }

-- the same entries by another name
pub repeats_as : {T : Type 0} (b : Before) (r : Result T NodeFault) (new : Running) (a : Around)
    (signed : List (List ℕ)) (accepts : Accepts) (tells : Bool) (moments : List State) (one two : List Entry) → one ≡ two
    → GoesOn r (λ _. Makes b one act_of.Kept new a × (statements_of one ≡ signed))
    (λ fault. IsStopped b one signed accepts tells moments fault)
    → GoesOn r (λ _. Makes b two act_of.Kept new a × (statements_of two ≡ signed))
    (λ fault. IsStopped b two signed accepts tells moments fault)
repeats_as b r new a signed accepts tells moments one two same goes =
    subst (λ (l : List Entry). GoesOn r (λ _. Makes b l act_of.Kept new a × (statements_of l ≡ signed))
    (λ fault. IsStopped b l signed accepts tells moments fault)) same goes

-- what was found by another name
pub makes_found : (b : Before) (made : List Entry) (told : Act) (r : Running) (one two : Option Kept) (a : Around)
    → two ≡ one → Makes b made told (record r { found = one }) a → Makes b made told (record r { found = two }) a
makes_found b made told r one two a same h =
    subst (λ (x : Option Kept). Makes b made told (record r { found = x }) a) (sym same) h

-- what goes on from entries that sign nothing
pub repeats_goes : {K T : Type 0} (acc : K → Accepts) (b : Before) (made mid all : List Entry) (old : K)
    (r : Result T NodeFault) (new : Running) (a : Around) (signings : List (Signing K)) (last : Accepts) (tells : Bool)
    (moments : List State) {rest : List Entry} → statements_of mid ≡ statements_of made → rest ≡ all
    → KeysFit acc b.keys (statements_of made) old signings
    → (KeysFit acc b.keys (statements_of mid) old signings
    → GoesOn r (λ _. Makes b rest act_of.Kept new a × (statements_of rest ≡ statements_of mid ++ statements_in signings))
    (λ fault. IsStopped b rest (statements_of mid ++ statements_in signings) last tells moments fault))
    → GoesOn r (λ _. Makes b all act_of.Kept new a × (statements_of all ≡ statements_of made ++ statements_in signings))
    (λ fault. IsStopped b all (statements_of made ++ statements_in signings) last tells moments fault)
repeats_goes acc b made mid all old r new a signings last tells moments {rest} said same fit goes =
    let there = goes (subst (λ (l : List (List ℕ)). KeysFit acc b.keys l old signings) (sym said) fit) in
    repeats_as b r new a (statements_of made ++ statements_in signings) last tells moments rest all same
    (subst (λ (l : List (List ℕ)). GoesOn r
    (λ _. Makes b rest act_of.Kept new a × (statements_of rest ≡ l ++ statements_in signings))
    (λ fault. IsStopped b rest (l ++ statements_in signings) last tells moments fault)) said there)
