use Rattle.std.proofs.Common.{◌∙◌, refl, ap, Ok, ℕ, List, true, false, [], Option}
use Rattle.std.specs.Prelude.{string_bytes}
use Rattle.std.proofs.lemmas.Result.{IfOk-at_ok}
use Rattle.line_flow.specs.declared.reader.NextLine.{NextLine}
use Rattle.script_play.specs.Turns.{TurnedBy}
use Rattle.script_play.specs.Runs.{line_turn, LineIs}
use Rattle.script_play.specs.Choices.{MeansOnly}
use Rattle.script_play.specs.declared.ending.Ending.{Ending}
use Rattle.script_play.proofs.TurnLemmas.{IfOk-from_is, lines_none}
use Rattle.script_play.proofs.ChoiceLemmas.{LeavesBy-end, LeavesBy-line, LeavesBy-long}
use Rattle.script_play.proofs.player.Player.turn.Goals as goal

pub returns-in_ok-closing-in-End-clause-leaves : goal.returns-in_ok-closing-in-End-clause-leaves
returns-in_ok-closing-in-End-clause-leaves g c = λ tells.
    let is_end = c.in_ok-next_line.was ∙ ap (λ (next : NextLine). Ok next) c.in-End.is in
    LeavesBy-end g.M.Machine.turn_of g.M.Machine.closing_of (g.M.Machine.world c.args.machine.now) _ _ _ _ _ _
    (lines_none _ (c.next_line.ensures.end is_end tells)) (λ later. rw c.clear.ensures.bytes at (c.in_ok-closing-in-End.ensures later))

pub returns-in-Line-clause-leaves : goal.returns-in-Line-clause-leaves
returns-in-Line-clause-leaves g c =
    let turn = g.M.Machine.turn_of in
    let closing = g.M.Machine.closing_of in
    let old = g.M.Machine.world c.args.machine.now in
    let new = g.M.Machine.world c.line_turn.new.machine in
    let decided = g.M.Machine.is_decided c.args.machine.now in
    let decides = g.M.Machine.decides in
    let stays = g.M.Machine.is_decided c.line_turn.new.machine in
    let read = c.next_line.new.self.line.items in
    let text = string_bytes c.line_turn.new.self.text in
    let is_line = c.in_ok-next_line.was ∙ ap (λ (next : NextLine). Ok next) c.in-Line.is in
    let by : Option Ending → List ℕ → Type 0 = λ e line. TurnedBy (λ w. line_turn turn w c.args.number line) old new [] text e (decided × MeansOnly decides line) stays in
    IfOk-from_is c.line_turn.result _ (λ ending is tells.
    rw c.line_turn.ensures.reader (LeavesBy-line turn closing decides old new c.args.number _ read _ text ending decided stays
    (c.next_line.ensures.line is_line tells)
    (IfOk-at_ok (λ (e : Option Ending). (line : List ℕ) → LineIs false line read → by e line) is c.line_turn.ensures.turned read (refl {A = List ℕ} {a = read}))))

pub returns-in-TooLong-clause-leaves : goal.returns-in-TooLong-clause-leaves
returns-in-TooLong-clause-leaves g c =
    let turn = g.M.Machine.turn_of in
    let closing = g.M.Machine.closing_of in
    let old = g.M.Machine.world c.args.machine.now in
    let new = g.M.Machine.world c.line_turn-in-TooLong.new.machine in
    let decided = g.M.Machine.is_decided c.args.machine.now in
    let decides = g.M.Machine.decides in
    let stays = g.M.Machine.is_decided c.line_turn-in-TooLong.new.machine in
    let read = c.next_line.new.self.line.items in
    let text = string_bytes c.line_turn-in-TooLong.new.self.text in
    let is_long = c.in_ok-next_line.was ∙ ap (λ (next : NextLine). Ok next) c.in-TooLong.is in
    let by : Option Ending → List ℕ → Type 0 = λ e line. TurnedBy (λ w. line_turn turn w c.args.number line) old new [] text e (decided × MeansOnly decides line) stays in
    IfOk-from_is c.line_turn-in-TooLong.result _ (λ ending is tells.
    LeavesBy-long turn closing decides old new c.args.number _ read text _ ending decided stays _
    (c.next_line.ensures.long is_long tells)
    (λ none. c.line_turn-in-TooLong.ensures.long_ends refl (is ∙ ap (λ (e : Option Ending). Ok e) none))
    (IfOk-at_ok (λ (e : Option Ending). (line : List ℕ) → LineIs true line read → by e line) is c.line_turn-in-TooLong.ensures.turned))
