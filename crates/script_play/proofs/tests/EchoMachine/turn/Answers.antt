use Rattle.std.proofs.Common.{rules, true, false, ◌∷◌, []}
use Rattle.script_play.proofs.ChoiceLemmas.{TurnedBy-untouched}
use Rattle.script_play.proofs.tests.EchoMachine.turn.Goals as goal

pub returns-then-number-eq5-clause-turned : goal.returns-then-number-eq5-clause-turned
returns-then-number-eq5-clause-turned c = TurnedBy-untouched _ _ _ _ _ _ _ (λ later. search rules) (λ decided. decided.0)

pub returns-then-number-eq6-clause-turned : goal.returns-then-number-eq6-clause-turned
returns-then-number-eq6-clause-turned c = TurnedBy-untouched _ _ _ _ _ _ _ (λ later. search rules) (λ decided. decided.0)

pub returns-clause-turned : goal.returns-clause-turned
returns-clause-turned c = TurnedBy-untouched _ _ _ _ _ _ _ (λ later. search rules) (λ decided. decided.0)

pub returns-then-self-2-clause-turned : goal.returns-then-self-2-clause-turned
returns-then-self-2-clause-turned c = record {
  taken = true ∷ [];
  turned = λ later. rw c.if-self.true (record { printed = search rules; next = search rules });
  none_taken = λ decided. absurd (cc (decided.0));
  stays_decided = λ decided _. decided.0;
}

pub returns-then-self-clause-turned : goal.returns-then-self-clause-turned
returns-then-self-clause-turned c = record {
  taken = false ∷ [];
  turned = λ later. rw c.if-self.true (record { printed = search rules; next = search rules });
  none_taken = λ decided. absurd (cc (decided.0));
  stays_decided = λ decided _. decided.0;
}
