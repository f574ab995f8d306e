-- The laws of logs, of their format and of armed disks.
use Rattle.std.proofs.Common.{◌≡◌, ◌≢◌, ℕ, zero, suc, ◌-◌, ◌^◌, ◌<◌, ◌≤◌, List, [], ◌∷◌, ◌++◌, refl, sym, ◌∙◌, ap, subst, arith, append_assoc, Bool}
use Rattle.std.specs.Prelude.{if◌then◌else◌}
use Rattle.std.proofs.lemmas.Bool.{ne_eqb}
use Rattle.gate_log.specs.Arms.{after_counted, after_calls}
use Rattle.gate_log.specs.Disk.{File, State, MayLeave}
use Rattle.gate_log.specs.Format.{header, body, reading}
use Rattle.gate_log.specs.Renew.{AreShort}
use Rattle.gate_log.specs.Settled.{IsSettled}
use Rattle.gate_log.specs.declared.arm.Arm.TheVariants.{Waiting, Reached}
use Rattle.gate_log.specs.declared.image.Image.{Image}
use Rattle.gate_log.specs.declared.log.GateLog.{GateLog}
use Rattle.gate_log.specs.declared.reading.Reading.TheVariants.{Log}
use Rattle.gate_log.proofs.Left.{left_kept}
use Rattle.gate_log.proofs.Gates.{front_ends}
use Rattle.gate_log.proofs.Bodies.{body_is}

pub settled_crash : (log : GateLog) (state : State) → IsSettled log state → (c : List ℕ) → MayLeave (state log.file) c → reading c ≡ Log log.generation log.entries
settled_crash log state s c may =
    ap reading (left_kept s.bytes c (subst (λ (f : File). MayLeave f c) s.file may)) ∙ s.stands

pub settled_others : (log : GateLog) (one two : State) → IsSettled log one → two log.file ≡ one log.file → IsSettled log two
settled_others log one two s same = record { bytes = s.bytes; file = same ∙ s.file; stands = s.stands; gate = s.gate }

pub begun_reads : (generation : ℕ) (entries : List (List ℕ)) (gate : ℕ) (rest : List ℕ) → 1 ≤ generation → generation < 2 ^ 62 → AreShort entries → gate ≢ 0
    → reading (header ++ gate ∷ (body generation entries ++ rest)) ≡ Log generation entries
begun_reads generation entries gate rest low high short is_open =
    let b = body_is generation entries low high short in
    ap (λ (l : List ℕ). reading (header ++ gate ∷ (l ++ rest))) b.is
    ∙ ap (λ (l : List ℕ). reading (header ++ gate ∷ l)) (append_assoc b.inner (0 ∷ []) rest)
    ∙ ap reading (sym (append_assoc header (gate ∷ b.inner) (0 ∷ rest)))
    ∙ front_ends generation entries (header ++ gate ∷ b.inner) rest (b.front gate is_open)

one_fewer : (calls : ℕ) (image : Image) → calls ≢ 1 → after_counted (Waiting calls image) ≡ Waiting (calls - 1) image
one_fewer calls image more = ap (λ (b : Bool). if b then Reached image else Waiting (calls - 1) image) (ne_eqb calls 1 more)

pub waits : (calls n : ℕ) (image : Image) → n < calls → after_calls n (Waiting calls image) ≡ Waiting (calls - n) image
waits calls zero image below = ap (λ (k : ℕ). Waiting k image) (omega arith)
waits calls (suc n) image below =
    ap (after_calls n) (one_fewer calls image (omega arith))
    ∙ waits (calls - 1) n image (omega arith)
    ∙ ap (λ (k : ℕ). Waiting k image) (omega arith)

pub stops : (n : ℕ) (image : Image) → after_calls (suc n) (Waiting (suc n) image) ≡ Reached image
stops zero image = refl
stops (suc n) image = ap (after_calls (suc n)) (one_fewer (suc (suc n)) image (omega arith) ∙ ap (λ (k : ℕ). Waiting k image) (omega arith)) ∙ stops n image

pub stops_at : (calls : ℕ) (image : Image) → 1 ≤ calls → after_calls calls (Waiting calls image) ≡ Reached image
stops_at zero image some = absurd (omega arith)
stops_at (suc n) image some = stops n image

pub stopped_stays : (n : ℕ) (image : Image) → after_calls n (Reached image) ≡ Reached image
stopped_stays zero image = refl
stopped_stays (suc n) image = stopped_stays n image
