use Rattle.std.proofs.Common.{◌≡◌, ℕ, List, [], ◌∷◌, ◌∙◌, sym, ap}
use Rattle.gate_log.specs.Disk.{now}
use Rattle.gate_log.specs.Calls.{start, states_from}
use Rattle.gate_log.specs.declared.call.Call.{Call}
use Rattle.gate_log.proofs.history.History.new.Goals as goal

pub invariant_of-result : goal.invariant_of-result
invariant_of-result c =
    let reads : (f : ℕ) → (start c.in_ok-began.began f).reads ≡ (now (states_from (start c.in_ok-began.began ∷ []) c.new.result.items) f).reads =
    λ f. sym (ap (λ (calls : List Call). (now (states_from (start c.in_ok-began.began ∷ []) calls) f).reads) c.new.ensures.items) in
    record {
      first_reads = sym (c.in_ok-began.ensures 0) ∙ reads 0;
      second_reads = sym (c.in_ok-began.ensures 1) ∙ reads 1;
      third_reads = sym (c.in_ok-began.ensures 2) ∙ reads 2;
    }
