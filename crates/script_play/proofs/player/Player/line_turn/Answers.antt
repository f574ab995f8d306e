use Rattle.std.proofs.Common.{rules, arith, refl, List, ℕ, Option, []}
use Rattle.std.specs.Prelude.{string_bytes}
use Rattle.std.proofs.lemmas.Result.{IfOk-weaker}
use Rattle.script_play.specs.Turns.{TurnedBy}
use Rattle.script_play.specs.Runs.{LineIs, line_turn, said}
use Rattle.script_play.specs.Choices.{MeansOnly}
use Rattle.script.specs.Grammar.{meaning}
use Rattle.script_play.specs.declared.ending.Ending.{Ending}
use Rattle.script_play.proofs.TurnLemmas.{turn_over_lines, turn_too_long, turn_said, line_is}
use Rattle.script_play.proofs.ChoiceLemmas.{TurnedBy-untouched, TurnedBy-same}
use Rattle.script_play.proofs.player.Player.line_turn.Goals as goal

pub returns-then-number-gt-MAX_LINES-clause-turned : goal.returns-then-number-gt-MAX_LINES-clause-turned
returns-then-number-gt-MAX_LINES-clause-turned g c = λ line is.
    let is_limit = λ (later : List g.M.Machine.Choice). turn_over_lines g.M.Machine.turn_of (g.M.Machine.world c.args.machine.now later) c.args.number line (omega arith) in
    TurnedBy-untouched _ _ _ _ _ _ _ (λ later. rw (is_limit later) (record { printed = search rules; next = refl })) (λ decided. decided.0)

pub returns-then-long-clause-turned : goal.returns-then-long-clause-turned
returns-then-long-clause-turned g c = λ line is.
    let long = rw c.if-long.true at is in
    let is_limit = λ (later : List g.M.Machine.Choice). turn_too_long g.M.Machine.turn_of (g.M.Machine.world c.args.machine.now later) c.args.number line (omega arith) long in
    TurnedBy-untouched _ _ _ _ _ _ _ (λ later. rw (is_limit later) (record { printed = search rules; next = refl })) (λ decided. decided.0)

pub returns-clause-turned : goal.returns-clause-turned
returns-clause-turned g c =
    let turn = g.M.Machine.turn_of in
    let number = c.args.number in
    let old = g.M.Machine.world c.args.machine.now in
    let new = g.M.Machine.world c.say.new.machine in
    let decided = g.M.Machine.is_decided c.args.machine.now in
    let decides = g.M.Machine.decides in
    let stays = g.M.Machine.is_decided c.say.new.machine in
    let text = string_bytes c.say.new.text in
    let read = c.args.self.now.reader.line.items in
    let by : Option Ending → List ℕ → Type 0 = λ e line. TurnedBy (λ w. line_turn turn w number line) old new [] text e (decided × MeansOnly decides line) stays in
    IfOk-weaker c.say.result
    (λ (ending : Option Ending). TurnedBy (λ w. said turn w number (meaning read)) old new [] text ending (decided × MeansOnly decides read) stays)
    (λ (ending : Option Ending). (line : List ℕ) → LineIs c.args.long line read → by ending line)
    (λ ending by line is. rw (line_is _ _ _ c.if-long.false is)
    (TurnedBy-same (λ w. said turn w number (meaning read)) (λ w. line_turn turn w number read) _ _ _ _ _ _ _ _
    (λ w. turn_said turn w number read (omega arith) (c.requires.short c.if-long.false)) (λ all. all) by))
    (rw (c.line.ensures, c.clear.ensures.bytes) at c.say.ensures.said)
