-- What a command prints, and where it leads.
use Rattle.std.specs.Prelude.{◌≡◌, ℕ, List, [], ◌++◌, Result, Ok, Err, Option, None, MatchOption}
use Rattle.script_play.specs.declared.ending.Ending.{Ending}
use Rattle.script_play.specs.declared.ending.Ending.TheVariants.{Done, MalformedLine, LaterLine, Limit, TooManyFaulty}

-- a turn: its text, and the world after it or how the run ends
pub record Turn (W : Type 0) : Type 0 where
  pub printed : List ℕ
  pub next : Result W Ending

-- the text grew by the turn's, and the world is the next one, or the run has ended
pub record Turned {W : Type 0} (turn : Turn W) (before after : List ℕ) (world : W) (ending : Option Ending) : Type 0 where
  pub printed : after ≡ before ++ turn.printed
  pub next : MatchOption ending (turn.next ≡ Ok world) (λ e. turn.next ≡ Err e)

-- Some choices were taken, and with any that come later the turn leads from world to world. Where all was decided none was taken, and all
-- stays decided unless the run has ended.
pub record TurnedBy {W C : Type 0} (turn : W → Turn W) (old new : List C → W) (before after : List ℕ) (ending : Option Ending)
    (Decided Stays : Type 0) : Type 0 where
  pub taken : List C
  pub turned : (later : List C) → Turned (turn (old (taken ++ later))) before after (new later) ending
  pub none_taken : Decided → taken ≡ []
  pub stays_decided : Decided → ending ≡ None → Stays

-- an ending that a command may bring: a limit, or too many faulty members
abbrev pub EndsTurn : Ending → Type 0
EndsTurn Done = ⊥
EndsTurn (MalformedLine number place) = ⊥
EndsTurn (LaterLine number) = ⊥
EndsTurn (Limit limit) = Unit {0}
EndsTurn (TooManyFaulty number config count bound) = Unit {0}
