-- Where the run of a script ends with too many Byzantine members.
use Rattle.std.proofs.Common.{
  ◌≡◌,
  ℕ,
  ◌+◌,
  ◌<◌,
  ◌≤◌,
  Bool,
  true,
  false,
  List,
  [],
  ◌∷◌,
  ◌++◌,
  length,
  cond,
  refl,
  sym,
  subst,
  ap,
  ◌∙◌,
  Option,
  Some,
  None,
  Result,
  Ok,
  Err,
  arith,
}
use Rattle.std.specs.Prelude.{nat_lt}
use Rattle.std.specs.List.{AllByRecursion}
use Rattle.std.proofs.lemmas.Bool.{le-ltb, lt-ltb, ltb-false, ltb-true}
use Rattle.ord_types.specs.Members.{fault_bound, how_many_in}
use Rattle.line_flow.specs.Lines.{lines}
use Rattle.script.specs.Grammar.{meaning}
use Rattle.script.specs.declared.command.Command.TheVariants.{
  Genesis,
  Submit,
  Raw,
  Show,
  Tick,
  Deliver,
  Flush,
  Propose,
  Vote,
  Lie,
  Seal,
  Stop,
  StopAt,
  Start,
}
use Rattle.script.specs.declared.command.Meaning.{Meaning}
use Rattle.script.specs.declared.command.Meaning.TheVariants.{Nothing, Means, Wrong}
use Rattle.script.specs.declared.command.Stop.TheVariants as stop_of
use Rattle.script_play.specs.declared.ending.Ending.{Ending}
use Rattle.script_play.specs.declared.ending.Ending.TheVariants.{TooManyFaulty}
use Rattle.script_play.specs.Runs.{Run, limit_turn, line_turn, max_line, max_lines, run, said, went}
use Rattle.script_play.specs.Texts.{too_many_faulty_text}
use Rattle.script_play.specs.Turns.{Turn}
use Rattle.world_model.specs.Histories.{past_setting}
use Rattle.world_model.specs.Texts.{genesis_text}
use Rattle.world_model.specs.Turns.{
  closing_of,
  first_config,
  first_world,
  genesis_turn,
  says,
  some_world,
  then_on,
  turn_in,
  turn_of,
}
use Rattle.world_model.specs.Worlds.{Outcome}
use Rattle.world_safety.specs.TooMany.{
  BeginsNone,
  EndsOnlyWhereTooMany,
  EndsWhereTooMany,
  HaveTooMany,
  IsBeforeGenesis,
}
use Rattle.world_safety.specs.Within.{PastWorld, worlds_in}
use Rattle.world_safety.specs.Telling.{last_of}
use Rattle.world_safety.proofs.Telling.{command_tells}
use Rattle.world_safety.proofs.Tells.{GoesTo, IsNetworkLimit}

-- a run from this world, and one behind a turn
abbrev played : List Outcome → List (List ℕ) → Option PastWorld → ℕ → Run
played outcomes ls o first = run (turn_of past_setting outcomes) (closing_of past_setting) ls o first

abbrev behind : Turn (Option PastWorld) → (Option PastWorld → Run) → Run
behind turn rest = went turn.printed turn.next rest

-- the turn of a line, by whether it is past a limit
abbrev turn_by : List Outcome → Bool → Bool → Option PastWorld → ℕ → Meaning → Turn (Option PastWorld)
turn_by outcomes t u o first m = cond t (limit_turn first max_lines)
    (cond u (limit_turn first max_line) (said (turn_of past_setting outcomes) o first m))

module _ (outcomes : List Outcome) (number config count bound : ℕ) where
  abbrev EndsSo : Run → Type 0
  EndsSo r = r.ending ≡ TooManyFaulty number config count bound

  -- IN A WORLD no run ends so
  turn_not : (printed : List ℕ) (r : Result PastWorld Ending) (last : PastWorld) (rest : Option PastWorld
      → Run) → GoesTo IsNetworkLimit r last
      → ((next : PastWorld) → EndsSo (rest (Some next)) → ⊥)
      → EndsSo (behind (then_on printed r some_world) rest) → ⊥
  turn_not printed (Ok next) last rest to not is = not next is
  turn_not printed (Err ending) last rest to not is = absurd (cc)

  said_not : (w : PastWorld) (first : ℕ) (m : Meaning) (rest : Option PastWorld → Run)
      → ((next : PastWorld) → EndsSo (rest (Some next)) → ⊥)
      → EndsSo (behind (said (turn_of past_setting outcomes) (Some w) first m) rest) → ⊥
  unfolding turn_of
  said_not w first Nothing rest not is = not w is
  said_not w first (Means command) rest not is =
      let turn = turn_in past_setting first w command in
      turn_not turn.printed turn.next (last_of w (worlds_in first w command)) rest
      (command_tells outcomes first w command).next not is
  said_not w first (Wrong (stop_of.Malformed place)) rest not is = absurd (cc)
  said_not w first (Wrong stop_of.NotBuilt) rest not is = absurd (cc)

  line_not : (w : PastWorld) (first : ℕ) (m : Meaning) (t u : Bool) (rest : Option PastWorld → Run)
      → ((next : PastWorld) → EndsSo (rest (Some next)) → ⊥)
      → EndsSo (behind (turn_by outcomes t u (Some w) first m) rest) → ⊥
  line_not w first m true u rest not is = absurd (cc)
  line_not w first m false true rest not is = absurd (cc)
  line_not w first m false false rest not is = said_not w first m rest not is

  never : (ls : List (List ℕ)) (w : PastWorld) (first : ℕ) → EndsSo (played outcomes ls (Some w) first) → ⊥
  unfolding run line_turn
  never [] w first is = absurd (cc)
  never (line ∷ more) w first is =
      line_not w first (meaning line) (nat_lt max_lines first) (nat_lt max_line (length line))
      (λ next. played outcomes more next (first + 1)) (λ next. never more next (first + 1)) is

  -- BEFORE THERE IS A WORLD
  abbrev Have : List (List ℕ) → ℕ → Type 0
  Have ls first = HaveTooMany ls first number config count bound

  later : (line : List ℕ) (more : List (List ℕ)) (first : ℕ) → IsBeforeGenesis line → Have more (first + 1)
      → Have (line ∷ more) first
  later line more first here it =
      let at = it.at in
      record {
        before = line ∷ it.before;
        line = it.line;
        after = it.after;
        members = it.members;
        byzantine = it.byzantine;
        split = ap (λ (ls : List (List ℕ)). line ∷ ls) it.split;
        earlier = (here, it.earlier);
        at = omega arith;
        within = it.within;
        short = it.short;
        means = it.means;
        faulty = it.faulty;
      }

  -- a line within its limits, and the run behind it
  record IsLine (first : ℕ) (line : List ℕ) (more : List (List ℕ)) (rest : Option PastWorld → Run) : Type 0
    where
      within : first ≤ max_lines
      short : length line ≤ max_line
      not : (w : PastWorld) → EndsSo (rest (Some w)) → ⊥
      later : EndsSo (rest None) → Have more (first + 1)

  genesis_has : (first : ℕ) (line : List ℕ) (more : List (List ℕ)) (rest : Option PastWorld → Run)
      (members byzantine : List ℕ) → meaning line ≡ Means (Genesis members byzantine)
      → IsLine first line more rest
      → EndsSo (behind (genesis_turn past_setting outcomes first members byzantine) rest)
      → Have (line ∷ more) first
  genesis_has first line more rest members byzantine means it is = go (nat_lt most many) refl is
    where
      many : ℕ
      many = how_many_in byzantine members

      most : ℕ
      most = fault_bound (length members)

      go : (t : Bool) → nat_lt most many ≡ t
          → EndsSo (behind (cond t (record {
            printed = too_many_faulty_text first 0 many most;
            next =
                Err (TooManyFaulty first 0 many most);
          })
          (says (genesis_text first) (Some (first_world past_setting outcomes (first_config members)
          byzantine)))) rest)
          → Have (line ∷ more) first
      go true above is =
          let over : most < many = ltb-true most many above in
          let at : first ≡ number = cc in
          let same : many ≡ count = cc in
          let bounded : most ≡ bound = cc in
          let low = it.within in
          record {
            before = [];
            line = line;
            after = more;
            members = members;
            byzantine = byzantine;
            split = refl;
            earlier = tt;
            at = omega arith;
            within = omega arith;
            short = it.short;
            means = means;
            faulty =
                record { first_config = cc; counted = sym same; most = sym bounded; above = omega arith };
          }
      go false few is =
          absurd (it.not (first_world past_setting outcomes (first_config members) byzantine) is)

  said_has : (first : ℕ) (line : List ℕ) (more : List (List ℕ)) (rest : Option PastWorld → Run)
      (m : Meaning) → meaning line ≡ m → IsLine first line more rest
      → EndsSo (behind (said (turn_of past_setting outcomes) None first m) rest) → Have (line ∷ more) first
  unfolding turn_of
  said_has first line more rest m means it is = go m means is
    where
      then_later : (m : Meaning) → meaning line ≡ m → BeginsNone m → EndsSo (rest None)
          → Have (line ∷ more) first
      then_later m means none is = later line more first
          (record { short = it.short; none = subst BeginsNone (sym means) none }) (it.later is)

      go : (m : Meaning) → meaning line ≡ m
          → EndsSo (behind (said (turn_of past_setting outcomes) None first m) rest)
          → Have (line ∷ more) first
      go Nothing means is = then_later Nothing means tt is
      go (Means (Genesis members byzantine)) means is =
          genesis_has first line more rest members byzantine means it is
      go (Means (Submit id client serial payload)) means is =
          then_later (Means (Submit id client serial payload)) means tt is
      go (Means (Raw id bytes)) means is = then_later (Means (Raw id bytes)) means tt is
      go (Means (Show id block)) means is = then_later (Means (Show id block)) means tt is
      go (Means (Tick id count)) means is = then_later (Means (Tick id count)) means tt is
      go (Means (Deliver ranges)) means is = then_later (Means (Deliver ranges)) means tt is
      go (Means (Flush only)) means is = then_later (Means (Flush only)) means tt is
      go (Means (Stop id image)) means is = then_later (Means (Stop id image)) means tt is
      go (Means (StopAt id call image)) means is = then_later (Means (StopAt id call image)) means tt is
      go (Means (Start id)) means is = then_later (Means (Start id)) means tt is
      go (Means (Propose from to view client serial payload)) means is =
          then_later (Means (Propose from to view client serial payload)) means tt is
      go (Means (Vote from to kind view k)) means is =
          then_later (Means (Vote from to kind view k)) means tt is
      go (Means (Lie from to bytes)) means is = then_later (Means (Lie from to bytes)) means tt is
      go (Means (Seal id bytes)) means is = then_later (Means (Seal id bytes)) means tt is
      go (Wrong (stop_of.Malformed place)) means is = absurd (cc)
      go (Wrong stop_of.NotBuilt) means is = absurd (cc)

  line_has : (first : ℕ) (line : List ℕ) (more : List (List ℕ)) (rest : Option PastWorld → Run) (t u : Bool)
      → nat_lt max_lines first ≡ t → nat_lt max_line (length line) ≡ u
      → ((w : PastWorld) → EndsSo (rest (Some w)) → ⊥) → (EndsSo (rest None) → Have more (first + 1))
      → EndsSo (behind (turn_by outcomes t u None first (meaning line)) rest) → Have (line ∷ more) first
  line_has first line more rest true u at size not later is = absurd (cc)
  line_has first line more rest false true at size not later is = absurd (cc)
  line_has first line more rest false false at size not later is =
      said_has first line more rest (meaning line) refl (record {
        within = ltb-false max_lines first at;
        short = ltb-false max_line (length line) size;
        not = not;
        later = later;
      }) is

  lines_have : (ls : List (List ℕ)) (first : ℕ) → EndsSo (played outcomes ls None first) → Have ls first
  unfolding run line_turn
  lines_have [] first is = absurd (cc)
  lines_have (line ∷ more) first is =
      line_has first line more (λ next. played outcomes more next (first + 1)) (nat_lt max_lines first)
      (nat_lt max_line (length line)) refl refl (λ w. never more w (first + 1))
      (lines_have more (first + 1)) is

-- THE OTHER WAY ROUND

went_on : (printed : List ℕ) (r : Result (Option PastWorld) Ending) (o : Option PastWorld)
    (rest : Option PastWorld → Run) → r ≡ Ok o → (went printed r rest).ending ≡ (rest o).ending
went_on printed r o rest is = ap (λ (r : Result (Option PastWorld) Ending). (went printed r rest).ending) is

went_end : (printed : List ℕ) (r : Result (Option PastWorld) Ending) (ending : Ending)
    (rest : Option PastWorld → Run) → r ≡ Err ending → (went printed r rest).ending ≡ ending
went_end printed r ending rest is =
    ap (λ (r : Result (Option PastWorld) Ending). (went printed r rest).ending) is

module _ (outcomes : List Outcome) where
  -- a line within its limits
  within_limits : (first : ℕ) (line : List ℕ) → first ≤ max_lines → length line ≤ max_line
      → line_turn (turn_of past_setting outcomes) None first line ≡ said (turn_of past_setting outcomes)
      None first (meaning line)
  unfolding line_turn
  within_limits first line low short = go (nat_lt max_lines first) (nat_lt max_line (length line))
      (le-ltb max_lines first low) (le-ltb max_line (length line) short)
    where
      go : (t u : Bool) → t ≡ false → u ≡ false → turn_by outcomes t u None first (meaning line)
          ≡ said (turn_of past_setting outcomes) None first (meaning line)
      go true u at size = absurd (cc)
      go false true at size = absurd (cc)
      go false false at size = refl

  said_quiet : (first : ℕ) (m : Meaning) → BeginsNone m
      → (said (turn_of past_setting outcomes) None first m).next ≡ Ok None
  unfolding turn_of
  said_quiet first Nothing none = refl
  said_quiet first (Means (Genesis members byzantine)) none = absurd none
  said_quiet first (Means (Submit id client serial payload)) none = refl
  said_quiet first (Means (Raw id bytes)) none = refl
  said_quiet first (Means (Show id block)) none = refl
  said_quiet first (Means (Tick id count)) none = refl
  said_quiet first (Means (Deliver ranges)) none = refl
  said_quiet first (Means (Flush only)) none = refl
  said_quiet first (Means (Stop id image)) none = refl
  said_quiet first (Means (StopAt id call image)) none = refl
  said_quiet first (Means (Start id)) none = refl
  said_quiet first (Means (Propose from to view client serial payload)) none = refl
  said_quiet first (Means (Vote from to kind view k)) none = refl
  said_quiet first (Means (Lie from to bytes)) none = refl
  said_quiet first (Means (Seal id bytes)) none = refl
  said_quiet first (Wrong stop) none = absurd none

  genesis_ends : (first : ℕ) (members byzantine : List ℕ) → fault_bound (length members)
      < how_many_in byzantine members
      → (said (turn_of past_setting outcomes) None first (Means (Genesis members byzantine))).next
      ≡ Err (TooManyFaulty first 0 (how_many_in byzantine members) (fault_bound (length members)))
  unfolding turn_of
  genesis_ends first members byzantine above = go (nat_lt most many) (lt-ltb most many above)
    where
      many : ℕ
      many = how_many_in byzantine members

      most : ℕ
      most = fault_bound (length members)

      go : (t : Bool) → t ≡ true
          → (cond t (record {
            printed = too_many_faulty_text first 0 many most;
            next =
                Err (TooManyFaulty first 0 many most);
          })
          (says (genesis_text first) (Some (first_world past_setting outcomes (first_config members)
          byzantine)))).next
          ≡ Err (TooManyFaulty first 0 many most)
      go true is = refl
      go false is = absurd (cc)

  abbrev next_of : ℕ → List ℕ → Result (Option PastWorld) Ending
  next_of first line = (line_turn (turn_of past_setting outcomes) None first line).next

  lines_end : (before : List (List ℕ)) (line : List ℕ) (after : List (List ℕ)) (first : ℕ)
      (members byzantine : List ℕ) → AllByRecursion IsBeforeGenesis before → first + length before
      ≤ max_lines → length line ≤ max_line
      → meaning line ≡ Means (Genesis members byzantine) → fault_bound (length members)
      < how_many_in byzantine members
      → (played outcomes (before ++ line ∷ after) None first).ending ≡ TooManyFaulty (first + length before)
      0 (how_many_in byzantine members) (fault_bound (length members))
  unfolding run
  lines_end [] line after first members byzantine earlier low short means above =
      let many = how_many_in byzantine members in
      let most = fault_bound (length members) in
      let said_is : next_of first line
      ≡ (said (turn_of past_setting outcomes) None first (meaning line)).next =
      ap (λ (t : Turn (Option PastWorld)). t.next) (within_limits first line (omega arith) short) in
      let turn : next_of first line ≡ Err (TooManyFaulty first 0 many most) =
      said_is ∙ ap (λ m. (said (turn_of past_setting outcomes) None first m).next) means
      ∙ genesis_ends first members byzantine above in
      let same : first ≡ first + 0 = omega arith in
      went_end (line_turn (turn_of past_setting outcomes) None first line).printed (next_of first line)
      (TooManyFaulty first 0 many most) (λ next. played outcomes after next (first + 1)) turn
      ∙ ap (λ n. TooManyFaulty n 0 many most) same
  lines_end (b ∷ before) line after first members byzantine earlier low short means above =
      let many = how_many_in byzantine members in
      let most = fault_bound (length members) in
      let turn : next_of first b ≡ Ok None = ap (λ (t : Turn (Option PastWorld)). t.next)
      (within_limits first b (omega arith) earlier.0.short) ∙ said_quiet first (meaning b) earlier.0.none in
      let same : first + 1 + length before ≡ first + length (b ∷ before) = omega arith in
      went_on (line_turn (turn_of past_setting outcomes) None first b).printed (next_of first b) None
      (λ next. played outcomes (before ++ line ∷ after) next (first + 1)) turn
      ∙ lines_end before line after (first + 1) members byzantine earlier.1 (omega arith) short means above
      ∙ ap (λ n. TooManyFaulty n 0 many most) same

  too_many_end : (ls : List (List ℕ)) (first number config count bound : ℕ)
      → HaveTooMany ls first number config count bound → (played outcomes ls None first).ending
      ≡ TooManyFaulty number config count bound
  too_many_end ls first number config count bound it =
      let at = it.at in
      let low = it.within in
      let counted = it.faulty.counted in
      let most = it.faulty.most in
      let above = it.faulty.above in
      let end = lines_end it.before it.line it.after first it.members it.byzantine it.earlier (omega arith)
      it.short it.means (omega arith) in
      let here : (played outcomes ls None first).ending ≡ TooManyFaulty (first + length it.before) 0
      (how_many_in it.byzantine it.members) (fault_bound (length it.members)) =
      ap (λ (ls : List (List ℕ)). (played outcomes ls None first).ending) it.split ∙ end in
      here ∙ ap (λ n. TooManyFaulty n 0 (how_many_in it.byzantine it.members)
      (fault_bound (length it.members))) (sym at)
      ∙ ap (λ n. TooManyFaulty number n (how_many_in it.byzantine it.members)
      (fault_bound (length it.members))) (sym it.faulty.first_config)
      ∙ ap (λ n. TooManyFaulty number config n (fault_bound (length it.members))) (sym counted)
      ∙ ap (λ n. TooManyFaulty number config count n) (sym most)

pub ends_only_where_too_many : EndsOnlyWhereTooMany
ends_only_where_too_many outcomes script number config count bound is =
    lines_have outcomes number config count bound (lines script) 1 is

pub ends_where_too_many : EndsWhereTooMany
ends_where_too_many outcomes script number config count bound it =
    too_many_end outcomes (lines script) 1 number config count bound it
