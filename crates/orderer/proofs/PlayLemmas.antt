-- From what a player says of a script to what the program does with it.
use Rattle.std.proofs.Common.{◌≡◌, ℕ, List, Option, IsSome, arith, Result, Ok, Err, ◌∙◌, ap, subst}
use Rattle.std.specs.List.{AllByRecursion}
use Rattle.line_flow.specs.Lines.{lines}
use Rattle.ord_types.specs.Told.{Took, TookFront}
use Rattle.script_play.specs.Choices.{MeansOnly, Played}
use Rattle.script_play.specs.Runs.{Run}
use Rattle.script_play.specs.Statuses.{IsOwn, fault_number, status_of}
use Rattle.script_play.specs.declared.ending.Ending.{Ending}
use Rattle.script_play.specs.declared.ending.Fault.{Fault}
use Rattle.script_play.specs.declared.ending.Fault.TheVariants.{ReadFault, WriteFault, OutOfMemory}
use Rattle.world_model.specs.Histories.{run_of}
use Rattle.world_model.specs.Worlds.{Outcome}
use Rattle.world_run.specs.Lines.{decides}
use Rattle.orderer.specs.Playing.{PlaysScript}

-- the status of an ending, or that of a fault, which is no script's own
abbrev pub Tells : ℕ → Result Ending Fault → Type 0
Tells n (Ok ending) = n ≡ status_of ending
Tells n (Err fault) = IsOwn n → ⊥

own_of_no_fault : (fault : Fault) → IsOwn (fault_number fault) → ⊥
own_of_no_fault ReadFault h = omega (arith, h)
own_of_no_fault WriteFault h = omega (arith, h)
own_of_no_fault OutOfMemory h = omega (arith, h)

pub tells_fault : (n : ℕ) (fault : Fault) → n ≡ fault_number fault → Tells n (Err fault)
tells_fault n fault is own = own_of_no_fault fault (subst IsOwn is own)

pub plays_script : (D : Type 0) (script : List ℕ) (run_by : List Outcome → Run) (old new : Option (List ℕ)) (result : Result Ending Fault) (n : ℕ)
    → ((outcomes : List Outcome) → run_by outcomes ≡ run_of outcomes script) → (AllByRecursion (MeansOnly decides) (lines script) → D) → Tells n result
    → Played run_by old new result D → PlaysScript script old new n
plays_script D script run_by old new (Ok ending) n same all told p =
    record {
      outcomes = p.taken;
      alone = λ none. p.none_taken (all none);
      status = λ own. told ∙ ap status_of (p.end ∙ ap (λ (run : Run). run.ending) (same p.taken));
      whole = λ own tells. subst (λ (run : Run). Took old new run.text) (same p.taken) (p.text tells);
      front = λ tells. subst (λ (run : Run). TookFront old new run.text) (same p.taken) (p.front tells);
    }
plays_script D script run_by old new (Err fault) n same all told p =
    record {
      outcomes = p.taken;
      alone = λ none. p.none_taken (all none);
      status = λ own. absurd (told own);
      whole = λ own tells. absurd (told own);
      front = λ tells. subst (λ (run : Run). TookFront old new run.text) (same p.taken) (p.front tells);
    }
