-- Lemmas on what a seat of the box signs in a step of a node.
use Rattle.std.proofs.Common.{◌≡◌, ℕ, true, false, List, [], ◌∷◌, ◌++◌, Result, Ok, Err, inl, inr, sym, ap, ◌∙◌, subst}
use Rattle.std.proofs.lemmas.List.{append-nil, append_assoc, map-append}
use Rattle.gate_log.specs.History.{states}
use Rattle.signer_edge.specs.Seals.{Seat, SealsOne, is_sealed, next_sig, with_seal}
use Rattle.signer_edge.specs.Signing.{KeepsAccepted}
use Rattle.signer_edge.specs.declared.seals.Seal.{Seal}
use Rattle.signer_edge.proofs.SealFacts.{is_sealed-grown}
use Rattle.world_model.specs.Worlds.{keys_of, seals_of}
use Rattle.bft_node.specs.Lodgings.{IsStepOf, accepts_of}
use Rattle.bft_node.specs.NodeSteps.{TakesStep}
use Rattle.bft_node.specs.Signings.{AreGiven, EndsAt, Grows, KeysFit, Signing, keys_after, statements_in}
use Rattle.node_model.specs.declared.event.Event.{Event}
use Rattle.bft_node.specs.declared.live.Out.{Out}
use Rattle.bft_node.specs.declared.lodged.Lodged.{Lodged}
use Rattle.bft_node.specs.declared.node_fault.NodeFault.{NodeFault}

pub seals_of-append : (i : ℕ) (xs ys : List (List ℕ)) → seals_of i (xs ++ ys) ≡ seals_of i xs ++ seals_of i ys
seals_of-append i xs ys = map-append (λ (statement : List ℕ). record { signer = i; statement = statement }) xs ys

-- the seat after these statements were signed
abbrev pub seat_after : Seat → List (List ℕ) → Seat
seat_after seat statements = record { id = seat.id; seals = seat.seals ++ seals_of seat.id statements }

-- with these seals
abbrev with_seals : ℕ → List Seal → Seat
with_seals id seals = record { id = id; seals = seals }

-- THE BOX HAS WHAT WAS SIGNED

keys_after_given : (seat : Seat) (signings : List (Signing Seat)) → AreGiven SealsOne seat signings → keys_after seat signings ≡ seat_after seat (statements_in signings)
keys_after_given seat [] given = ap (with_seals seat.id) (sym (append-nil seat.seals))
keys_after_given seat (s ∷ more) given =
    let one : List Seal = record { signer = seat.id; statement = s.statement } ∷ [] in
    keys_after_given s.keys more given.1
    ∙ ap (λ (k : Seat). seat_after k (statements_in more)) given.0.1
    ∙ ap (with_seals seat.id) (append_assoc seat.seals one (seals_of seat.id (statements_in more)))

-- where a call fails, nothing more is signed
ended : {T E : Type 0} (result : Result T E) (k new : Seat) → EndsAt SealsOne result k new → new ≡ k
ended (Ok x) k new at = at
ended (Err e) k new (inl at) = at
ended (Err e) k new (inr tries) = tries.given.1

-- THE KEYS OF THE MODEL say what the seat did

fits_from : (box : List Seal) (id : ℕ) (before : List (List ℕ)) (seat : Seat) (signings : List (Signing Seat)) → seat ≡ with_seals id (box ++ seals_of id before) → AreGiven SealsOne seat signings
    → KeysFit accepts_of (keys_of box id) before seat signings
fits_from box id before seat [] is given = ap (λ (k : Seat). is_sealed k.seals) (sym is)
fits_from box id before seat (s ∷ more) is given =
    let one : List Seal = record { signer = id; statement = s.statement } ∷ [] in
    let next : s.keys ≡ with_seals id (box ++ seals_of id (before ++ s.statement ∷ [])) =
    given.0.1 ∙ ap (λ (k : Seat). with_seal k s.statement) is
    ∙ ap (with_seals id) (append_assoc box (seals_of id before) one ∙ ap (λ (l : List Seal). box ++ l) (sym (seals_of-append id before (s.statement ∷ [])))) in
    (ap (λ (k : Seat). is_sealed k.seals) (sym is), sym (given.0.0 ∙ ap next_sig is), fits_from box id (before ++ s.statement ∷ []) s.keys more next given.1)

keys_fit : (seat : Seat) (signings : List (Signing Seat)) → AreGiven SealsOne seat signings → KeysFit accepts_of (keys_of seat.seals seat.id) [] seat signings
keys_fit seat signings given = fits_from seat.seals seat.id [] seat signings (ap (with_seals seat.id) (sym (append-nil seat.seals))) given

grows : (seat : Seat) (signings : List (Signing Seat)) → AreGiven SealsOne seat signings → Grows accepts_of seat signings
grows seat [] given = tt
grows seat (s ∷ more) given =
    let one : List Seal = record { signer = seat.id; statement = s.statement } ∷ [] in
    (λ t sig h. subst (λ (k : Seat). is_sealed k.seals t sig ≡ true) (sym given.0.1) (is_sealed-grown seat.seals one t sig h), grows s.keys more given.1)

-- what was accepted still is
pub seat_keeps : (seat : Seat) (statements : List (List ℕ)) → KeepsAccepted (accepts_of seat) (accepts_of (seat_after seat statements))
seat_keeps seat statements t sig h = is_sealed-grown seat.seals (seals_of seat.id statements) t sig h

-- A STEP, by the keys of the model

pub record Signed (old new : Lodged) (event : Event) (before after : Seat) (result : Result Out NodeFault) : Type 0 where
  pub statements : List (List ℕ)
  pub seat : after ≡ seat_after before statements
  pub takes : TakesStep (keys_of before.seals before.id) old.node.running new.node.running event statements (accepts_of before) (accepts_of after) result true (states old.disk.history) (states new.disk.history)

pub signed_in : (old new : Lodged) (event : Event) (before after : Seat) (result : Result Out NodeFault) → old.node.closed ≡ false → IsStepOf old new event before after result → Signed old new event before after result
signed_in old new event before after result runs is =
    let signs = is.step runs in
    let same = ended result (keys_after before signs.signings) after signs.after in
    record {
      statements = statements_in signs.signings;
      seat = same ∙ keys_after_given before signs.signings signs.given;
      takes =
          subst (λ (k : Seat). TakesStep (keys_of before.seals before.id) old.node.running new.node.running event (statements_in signs.signings) (accepts_of before) (accepts_of k) result true (states old.disk.history) (states new.disk.history)) (sym same)
          (signs.what (keys_of before.seals before.id) (keys_fit before signs.signings signs.given) (grows before signs.signings signs.given));
    }
