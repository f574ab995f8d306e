-- Lemmas on the choices that a machine takes.
use Rattle.std.proofs.Common.{◌≡◌, ◌≢◌, ℕ, ◌+◌, ◌<◌, List, [], ◌∷◌, ◌++◌, sym, ◌∙◌, refl, arith, true, Option, Some, None, Ok, Err, IsSome}
use Rattle.std.specs.List.{AllByRecursion}
use Rattle.std.proofs.lemmas.List.{append_assoc, append-nil}
use Rattle.ord_types.specs.Told.{Took, TookAllBut, TookFront}
use Rattle.line_flow.specs.Lines.{first_length}
use Rattle.script.specs.declared.command.Command.{Command}
use Rattle.script_play.specs.declared.ending.Ending.{Ending}
use Rattle.script_play.specs.declared.ending.Ending.TheVariants.{Done}
use Rattle.script_play.specs.declared.ending.Fault.{Fault}
use Rattle.script_play.specs.Turns.{Turn, Turned, TurnedBy}
use Rattle.script_play.specs.Runs.{Run, line_turn, run, max_line, LineIs, EndsAs}
use Rattle.script_play.specs.Choices.{MeansOnly, AllDecided, LeavesBy, PlayedTo, StoppedIn, Played}
use Rattle.script_play.proofs.TurnLemmas.{leaves_end, leaves_line, leaves_last}
use Rattle.script_play.proofs.TookLemmas.{Took-from_all, TookAllBut-trans, TookAllBut-from_whole, TookFront-trans, TookFront-from_front, TookFront-none, TookAllBut-start}

-- A TURN

-- a turn that takes no choice
pub TurnedBy-untouched : {W C : Type 0} (turn : W → Turn W) (world : List C → W)
    (before after : List ℕ) (ending : Option Ending) (Decided Stays : Type 0)
    → ((later : List C) → Turned (turn (world later)) before after (world later) ending) → (Decided → Stays)
    → TurnedBy turn world world before after ending Decided Stays
TurnedBy-untouched turn world before after ending Decided Stays turned stays =
    record { taken = []; turned = turned; none_taken = λ _. refl; stays_decided = λ decided _. stays decided }

-- a turn that does the same, where no more is decided
pub TurnedBy-same : {W C : Type 0} (turn other : W → Turn W) (old new : List C → W)
    (before after : List ℕ) (ending : Option Ending) (Decided Less Stays : Type 0)
    → ((w : W) → other w ≡ turn w) → (Less → Decided)
    → TurnedBy turn old new before after ending Decided Stays → TurnedBy other old new before after ending Less Stays
TurnedBy-same turn other old new before after ending Decided Less Stays same less by = record {
  taken = by.taken;
  turned = λ later. rw (same (old (by.taken ++ later))) (by.turned later);
  none_taken = λ decided. by.none_taken (less decided);
  stays_decided = λ decided goes_on. by.stays_decided (less decided) goes_on;
}

-- A LINE

pub LeavesBy-end : {W C : Type 0} (turn : W → ℕ → Command → Turn W) (closing : W → List ℕ) (world : List C → W) (number : ℕ) (ls : List (List ℕ))
    (printed : List ℕ) (rest : List C → Run) (Decided Stays : Type 0)
    → ls ≡ [] → ((later : List C) → printed ≡ closing (world later))
    → LeavesBy (λ choices. run turn closing ls (world choices) number) rest printed (Some Done) Decided Stays
LeavesBy-end turn closing world number ls printed rest Decided Stays none is = record {
  taken = [];
  leaves = λ later. leaves_end turn closing (world later) number ls printed (rest later) none (is later);
  none_taken = λ _. refl;
  stays_decided = λ _ goes_on. absurd (cc);
}

-- what is decided of the lines is decided of the first
decided_first : (Decided : Type 0) (decides : Command → Type 0) (ls : List (List ℕ)) (line : List ℕ) (more : List (List ℕ))
    → ls ≡ line ∷ more → AllDecided Decided decides ls → Decided × MeansOnly decides line × AllByRecursion (MeansOnly decides) more
decided_first Decided decides ls line more is all = let each = rw is at all.each in (all.decided, each.0, each.1)

pub LeavesBy-line : {W C : Type 0} (turn : W → ℕ → Command → Turn W) (closing : W → List ℕ) (decides : Command → Type 0) (old new : List C → W) (number : ℕ)
    (ls : List (List ℕ)) (line : List ℕ) (more : List (List ℕ)) (printed : List ℕ) (ending : Option Ending) (Decided Stays : Type 0)
    → ls ≡ line ∷ more → TurnedBy (λ w. line_turn turn w number line) old new [] printed ending (Decided × MeansOnly decides line) Stays
    → LeavesBy (λ choices. run turn closing ls (old choices) number) (λ choices. run turn closing more (new choices) (number + 1)) printed ending
    (AllDecided Decided decides ls) (AllDecided Stays decides more)
LeavesBy-line turn closing decides old new number ls line more printed ending Decided Stays is by = record {
  taken = by.taken;
  leaves = λ later. leaves_line turn closing (old (by.taken ++ later)) (new later) number ls line more printed ending is (by.turned later);
  none_taken = λ all. let first = decided_first Decided decides ls line more is all in by.none_taken (first.0, first.1);
  stays_decided = λ all goes_on.
      let first = decided_first Decided decides ls line more is all in
      record { decided = by.stays_decided (first.0, first.1) goes_on; each = first.2 };
}

-- a line that is too long ends the run
pub LeavesBy-long : {W C : Type 0} (turn : W → ℕ → Command → Turn W) (closing : W → List ℕ) (decides : Command → Type 0) (old new : List C → W) (number : ℕ)
    (ls : List (List ℕ)) (read printed : List ℕ) (rest : List C → Run) (ending : Option Ending) (Decided Stays Rest : Type 0)
    → max_line < first_length ls → (ending ≢ None)
    → ((line : List ℕ) → LineIs true line read
    → TurnedBy (λ w. line_turn turn w number line) old new [] printed ending (Decided × MeansOnly decides line) Stays)
    → LeavesBy (λ choices. run turn closing ls (old choices) number) rest printed ending (AllDecided Decided decides ls) Rest
LeavesBy-long turn closing decides old new number [] read printed rest ending Decided Stays Rest long ends by = absurd (omega arith)
LeavesBy-long turn closing decides old new number (line ∷ more) read printed rest ending Decided Stays Rest long ends by =
    let made = by line long in
    record {
      taken = made.taken;
      leaves = λ later.
          leaves_last turn closing (old (made.taken ++ later)) (new later) number line more printed (rest later) ending ends (made.turned later);
      none_taken = λ all. made.none_taken (all.decided, all.each.0);
      stays_decided = λ _ goes_on. absurd (ends goes_on);
    }

-- WHAT A SINK TOOK

-- the text of a line was written
pub PlayedTo-from_line : {C : Type 0} (whole rest : List C → Run) (printed : List ℕ) (old new : Option (List ℕ))
    (ending : Option Ending) (Decided Stays : Type 0)
    → LeavesBy whole rest printed ending Decided Stays → (IsSome old → Took old new printed)
    → PlayedTo whole rest old new ending Decided Stays
PlayedTo-from_line whole rest printed old new ending Decided Stays line took = record {
  taken = line.taken;
  took = λ later tells. TookAllBut-from_whole old new _ printed _ (took tells) (line.leaves later).text;
  end = λ later. (line.leaves later).end;
  none_taken = line.none_taken;
  stays_decided = line.stays_decided;
}

-- a front of it was written
pub StoppedIn-from_line : {C : Type 0} (whole rest : List C → Run) (printed : List ℕ) (old new : Option (List ℕ))
    (ending : Option Ending) (Decided Stays : Type 0)
    → LeavesBy whole rest printed ending Decided Stays → (IsSome old → TookFront old new printed)
    → StoppedIn whole old new Decided
StoppedIn-from_line whole rest printed old new ending Decided Stays line took = record {
  taken = line.taken;
  front = λ later tells. TookFront-from_front old new _ printed _ (took tells) (line.leaves later).text;
  none_taken = line.none_taken;
}

-- nothing was written
pub StoppedIn-before : {C : Type 0} (whole : List C → Run) (out : Option (List ℕ)) (Decided : Type 0) → StoppedIn whole out out Decided
StoppedIn-before whole out Decided = record { taken = []; front = λ later tells. TookFront-none out _ tells; none_taken = λ _. refl }

-- no line was played
pub PlayedTo-start : {W C : Type 0} (turn : W → ℕ → Command → Turn W) (closing : W → List ℕ) (decides : Command → Type 0) (world : List C → W) (number : ℕ)
    (ls rest : List (List ℕ)) (out : Option (List ℕ)) (Decided : Type 0)
    → rest ≡ ls
    → PlayedTo (λ choices. run turn closing ls (world choices) number) (λ choices. run turn closing rest (world choices) number) out out None
    (AllDecided Decided decides ls) (AllDecided Decided decides rest)
PlayedTo-start turn closing decides world number ls rest out Decided same = rw same (record {
  taken = [];
  took = λ later tells. TookAllBut-start out _ tells;
  end = λ later. refl;
  none_taken = λ _. refl;
  stays_decided = λ decided _. decided;
})

-- as one that ends alike
ends_on : (a b c : Run) (ending : Option Ending) → a.ending ≡ b.ending → EndsAs b c ending → EndsAs a c ending
ends_on a b c None same end = same ∙ end
ends_on a b c (Some ending) same end = same ∙ end

-- no choice here and none there
none_of_both : {C : Type 0} (xs ys : List C) → xs ≡ [] → ys ≡ [] → xs ++ ys ≡ []
none_of_both xs ys e f = rw (e, f) refl

-- a line after those that were played
pub PlayedTo-trans : {C : Type 0} (whole middle rest : List C → Run) (old out new : Option (List ℕ))
    (ending : Option Ending) (Decided Between Stays : Type 0)
    → PlayedTo whole middle old out None Decided Between → PlayedTo middle rest out new ending Between Stays
    → PlayedTo whole rest old new ending Decided Stays
PlayedTo-trans whole middle rest old out new ending Decided Between Stays before line = record {
  taken = before.taken ++ line.taken;
  took = λ later tells.
      let so_far = before.took (line.taken ++ later) tells in
      rw (append_assoc before.taken line.taken later) (TookAllBut-trans old out new _ _ _ so_far (line.took later so_far.tells));
  end = λ later.
      let after = line.taken ++ later in
      rw (append_assoc before.taken line.taken later) (ends_on (whole (before.taken ++ after)) (middle after) (rest later) ending (before.end after) (line.end later));
  none_taken = λ decided. none_of_both before.taken line.taken (before.none_taken decided) (line.none_taken (before.stays_decided decided refl));
  stays_decided = λ decided goes_on. line.stays_decided (before.stays_decided decided refl) goes_on;
}

pub StoppedIn-trans : {C : Type 0} (whole middle : List C → Run) (old out new : Option (List ℕ)) (Decided Between : Type 0)
    → PlayedTo whole middle old out None Decided Between → StoppedIn middle out new Between
    → StoppedIn whole old new Decided
StoppedIn-trans whole middle old out new Decided Between before line = record {
  taken = before.taken ++ line.taken;
  front = λ later tells.
      let so_far = before.took (line.taken ++ later) tells in
      rw (append_assoc before.taken line.taken later) (TookFront-trans old out new _ _ so_far (line.front later so_far.tells));
  none_taken = λ decided. none_of_both before.taken line.taken (before.none_taken decided) (line.none_taken (before.stays_decided decided refl));
}

-- THE END

pub Played-from_end : {C : Type 0} (whole rest : List C → Run) (old new : Option (List ℕ)) (ending : Ending) (Decided Stays : Type 0)
    → PlayedTo whole rest old new (Some ending) Decided Stays → Played whole old new (Ok ending) Decided
Played-from_end whole rest old new ending Decided Stays by =
    let all : by.taken ++ [] ≡ by.taken = append-nil by.taken in
    let took : IsSome old → TookAllBut old new (whole by.taken).text [] = rw all at (by.took []) in
    record {
      taken = by.taken;
      text = λ tells. Took-from_all old new (whole by.taken).text (took tells);
      end = sym (rw all at (by.end []));
      front = λ tells. ([], took tells);
      none_taken = by.none_taken;
    }

pub Played-from_stop : {C : Type 0} (whole : List C → Run) (old new : Option (List ℕ)) (fault : Fault) (Decided : Type 0)
    → StoppedIn whole old new Decided → Played whole old new (Err fault) Decided
Played-from_stop whole old new fault Decided by = record {
  taken = by.taken;
  text = tt;
  end = tt;
  front = rw (append-nil by.taken) at (by.front []);
  none_taken = by.none_taken;
}
