-- What may come next is refused by nothing.
use Rattle.std.proofs.Common.{◌≡◌, ℕ, Bool, true, false, not, ◌&&◌, if◌then◌else◌, List, Some, None, Ok, Err, refl, sym, ◌∙◌, ap}
use Rattle.std.specs.Prelude.{Result, Option, is_ok, is_none, ◌↔◌, ◌<◌, ◌^◌, ◌==◌, nat_lt}
use Rattle.std.specs.Option.{option_map, option_or}
use Rattle.std.specs.Result.{result_err}
use Rattle.std.proofs.lemmas.Option.{none-some}
use Rattle.ord_types.specs.Hashes.{block_hash}
use Rattle.ord_types.specs.Members.{is_raft}
use Rattle.ord_types.specs.declared.values.Cert.{Cert}
use Rattle.ord_types.specs.declared.values.Config.{Config}
use Rattle.ord_types.specs.declared.values.Place.{Place}
use Rattle.ord_types.specs.declared.values.Proof.TheVariants as proof_of
use Rattle.signer_edge.specs.Accepts.{Accepts}
use Rattle.signer_edge.specs.Certificates.{cert_refusal, is_good_cert}
use Rattle.signer_edge.specs.Signing.{KeepsAccepted}
use Rattle.signer_edge.specs.declared.certificates.CertRefusal.{CertRefusal}
use Rattle.signer_edge.proofs.CertificateFacts.{is_good_cert-kept, is_ok-good}
use Rattle.chan_config.specs.Blocks.{has_number, hashes_fit, is_lawful, is_linked, is_next_at}
use Rattle.std.specs.Str.{bytes_eq}
use Rattle.std.proofs.lemmas.Bool.{and_parts, ltb-true}
use Rattle.chan_config.specs.Refusals.{checked, refusal_at}
use Rattle.chan_config.specs.declared.checks.BlockRefusal.{BlockRefusal}
use Rattle.chan_config.proofs.BlockLaws.{refuses_rightly}
use Rattle.block_ledger.specs.declared.fault.NextRefusal.TheVariants as next_of
use Rattle.block_ledger.specs.Chains.{Entry, is_proved}
use Rattle.block_ledger.specs.Judging.{next_refusal, proof_refusal}

answer_of : {X : Type 0} → Option X → Result (Unit {0}) X
answer_of None = Ok tt
answer_of (Some x) = Err x

err_of : {X : Type 0} (o : Option X) → result_err (answer_of o) ≡ o
unfolding answer_of
err_of None = refl
err_of (Some x) = refl

ok_of : {X : Type 0} (o : Option X) → is_ok (answer_of o) ≡ is_none o
unfolding answer_of
ok_of None = refl
ok_of (Some x) = refl

none_where : {X : Type 0} (o : Option X) → is_none o ≡ true → o ≡ None
none_where None h = refl
none_where (Some x) h = absurd cc

where_none : {X : Type 0} (o : Option X) → o ≡ None → is_none o ≡ true
where_none None h = refl
where_none (Some x) h = absurd (none-some x (sym h))

cert_none : (accepts : Accepts) (c : Config) (number : ℕ) (hash : List ℕ) (cert : Cert) → is_none (cert_refusal accepts c number hash cert) ≡ is_good_cert accepts c number hash cert
cert_none accepts c number hash cert =
    let o : Option CertRefusal = cert_refusal accepts c number hash cert in
    sym (ok_of o) ∙ is_ok-good (answer_of o) accepts c number hash cert (err_of o)

pub map_none : {X Y : Type 0} (f : X → Y) (o : Option X) → option_map f o ≡ None → o ≡ None
map_none f None h = refl
map_none f (Some x) h = absurd (none-some (f x) (sym h))

pub none_map : {X Y : Type 0} (f : X → Y) (o : Option X) → o ≡ None → option_map f o ≡ None
none_map f o h = ap (option_map f) h

by_kind : {X : Type 0} (raft : Bool) (good : Bool) (x : X) (o : Option X) → is_none o ≡ good → ((if raft then Some x else o) ≡ None) ↔ ((not raft && good) ≡ true)
by_kind true good x o h = ((λ e. absurd (none-some x (sym e))), (λ e. absurd cc))
by_kind false good x o h = ((λ e. sym h ∙ where_none o e), (λ e. none_where o (h ∙ e)))

raft_kind : {X : Type 0} (raft : Bool) (x : X) → ((if raft then None else Some x) ≡ None) ↔ (raft ≡ true)
raft_kind true x = ((λ e. refl), (λ e. refl))
raft_kind false x = ((λ e. absurd (none-some x (sym e))), (λ e. absurd cc))

is_none_map : {X Y : Type 0} (f : X → Y) (o : Option X) → is_none (option_map f o) ≡ is_none o
is_none_map f None = refl
is_none_map f (Some x) = refl

-- nothing is wrong with a proof exactly where it proves the block
pub proved_where : (accepts : Accepts) (c : Config) (e : Entry) → (proof_refusal accepts c e ≡ None) ↔ (is_proved accepts c e ≡ true)
proved_where accepts c (b, proof_of.Raft) = raft_kind (is_raft c) next_of.Proof
proved_where accepts c (b, proof_of.Bft cert) =
    by_kind (is_raft c) (is_good_cert accepts c b.header.number (block_hash b) cert) next_of.Proof (option_map next_of.Cert (cert_refusal accepts c b.header.number (block_hash b) cert))
    (is_none_map next_of.Cert (cert_refusal accepts c b.header.number (block_hash b) cert) ∙ cert_none accepts c b.header.number (block_hash b) cert)

or_none : {X : Type 0} (o p : Option X) → option_or o p ≡ None → (o ≡ None) × (p ≡ None)
or_none None p h = (refl, h)
or_none (Some x) p h = absurd (none-some x (sym h))

none_or : {X : Type 0} (o p : Option X) → o ≡ None → p ≡ None → option_or o p ≡ None
none_or o p h k = rw (h, k) refl

-- the block is next and proved
pub next_where : (accepts : Accepts) (place : Place) (e : Entry) → next_refusal accepts place e ≡ None
    → (is_next_at place.last place.height place.config e.0 ≡ true) × (is_proved accepts place.config e ≡ true)
next_where accepts place e h =
    let p = or_none (option_map next_of.Block (refusal_at place.last place.height place.config e.0)) (proof_refusal accepts place.config e) h in
    ((refuses_rightly place.last place.height place.config e.0).none.0 (map_none next_of.Block _ p.0), (proved_where accepts place.config e).0 p.1)

pub where_next : (accepts : Accepts) (place : Place) (e : Entry) → is_next_at place.last place.height place.config e.0 ≡ true → is_proved accepts place.config e ≡ true
    → next_refusal accepts place e ≡ None
where_next accepts place e h k =
    none_or (option_map next_of.Block (refusal_at place.last place.height place.config e.0)) (proof_refusal accepts place.config e)
    (none_map next_of.Block _ ((refuses_rightly place.last place.height place.config e.0).none.1 h)) ((proved_where accepts place.config e).1 k)

-- what is proved stays so where more signatures are accepted
pub proved_kept : (old new : Accepts) (c : Config) (e : Entry) → KeepsAccepted old new → is_proved old c e ≡ true → is_proved new c e ≡ true
proved_kept old new c (b, proof_of.Raft) keeps h = h
proved_kept old new c (b, proof_of.Bft cert) keeps h = both (not (is_raft c)) _ _ (is_good_cert-kept old new c b.header.number (block_hash b) cert keeps) h
  where
    both : (x y z : Bool) → (y ≡ true → z ≡ true) → (x && y) ≡ true → (x && z) ≡ true
    both true y z to h = to h
    both false y z to h = absurd cc

-- what a check answers
pub checked_some : (o : Option BlockRefusal) (r : BlockRefusal) → checked o ≡ Err r → o ≡ Some r
checked_some None r h = absurd cc
checked_some (Some x) r h = cc

pub checked_none : (o : Option BlockRefusal) (next : Option Config) → checked o ≡ Ok next → o ≡ None
checked_none None next h = refl
checked_none (Some x) next h = absurd cc

-- what comes next has a number below 2^62
pub has_room_for : (accepts : Accepts) (place : Place) (e : Entry) → next_refusal accepts place e ≡ None → place.height < 2 ^ 62
has_room_for accepts place e h =
    let next = and_parts (is_linked place.last place.height e.0) (is_lawful place.config e.0) (next_where accepts place e h).0 in
    let linked = and_parts (has_number place.height e.0 && bytes_eq e.0.header.previous place.last) (hashes_fit e.0) next.0 in
    let number = and_parts (has_number place.height e.0) (bytes_eq e.0.header.previous place.last) linked.0 in
    let room = and_parts (e.0.header.number == place.height) (nat_lt place.height (2 ^ 62)) number.0 in
    ltb-true place.height (2 ^ 62) room.1
