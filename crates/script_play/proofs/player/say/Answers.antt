use Rattle.std.proofs.Common.{sym, ◌∙◌}
use Rattle.script.proofs.CommandLemmas.{meaning_fits}
use Rattle.script_play.proofs.player.say.Goals as goal

pub turn-requires-clause-formed : goal.turn-requires-clause-formed
turn-requires-clause-formed g c = meaning_fits c.args.line.now c.in-Means.command (sym c.in_ok-meaning.ensures ∙ c.in-Means.is)
