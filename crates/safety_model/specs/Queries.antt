-- The kinds of facts that are looked for.
use Rattle.std.specs.Prelude.{ℕ, Bool}
use Rattle.safety_model.specs.Facts.{Fact, Report, is_accepted, is_accepted_at, is_entered_against, is_prepared, is_reported}
use Rattle.safety_model.specs.Reports.{tells_accepted, tells_at_most, tells_none}
use Rattle.safety_model.specs.declared.fact.Query.{Query}
use Rattle.safety_model.specs.declared.fact.Query.TheVariants as asks
use Rattle.safety_model.specs.declared.fact.Telling.{Telling}
use Rattle.safety_model.specs.declared.fact.Telling.TheVariants as told

-- the report tells it
abbrev pub tells : Telling → Report → Bool
tells told.None = tells_none
tells (told.AtMost vote) = tells_at_most vote
tells (told.Accepted vote) = tells_accepted vote

-- a fact of the member for which the query asks
abbrev pub is_asked : Query → ℕ → Fact → Bool
is_asked (asks.Accepted e v s d) i = is_accepted i e v s d
is_asked (asks.AcceptedAt e v s) i = is_accepted_at i e v s
is_asked (asks.Prepared e v s d) i = is_prepared i e v s d
is_asked (asks.Against e v s d) i = is_entered_against i e v s d
is_asked (asks.Told e v x telling) i = is_reported i e v x (tells telling)
