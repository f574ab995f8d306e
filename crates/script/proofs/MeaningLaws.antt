-- What each line means, by the forms of the grammar.
use Rattle.std.proofs.Common.{codes, ◌≡◌, ◌↔◌, ℕ, ◌+◌, ◌⊎◌, inl, inr, List, [], ◌∷◌, length, cond, Bool, true, false, refl, sym, ap, ◌∙◌, subst, Result, Ok, Err, ◌==◌}
use Rattle.std.proofs.lemmas.Bool.{false≢true, ne_eqb}
use Rattle.std.proofs.lemmas.Bool.Decides.{Decides-eqb}
use Rattle.script.specs.declared.command.Command.{Command}
use Rattle.script.specs.declared.command.Stop.{Stop}
use Rattle.script.specs.declared.command.Stop.TheVariants.{Malformed, NotBuilt}
use Rattle.script.specs.declared.command.Meaning.{Meaning}
use Rattle.script.specs.declared.command.Meaning.TheVariants.{Nothing, Means, Wrong}
use Rattle.script.specs.Words.{Word, words}
use Rattle.script.specs.Later.{is_later_line}
use Rattle.script.specs.Grammar.{command_of, judged, meaning}
use Rattle.script.specs.Forms.{Form, forms, IsOfOne, IsLine, texts, IsFirstWrong, HasWords, IsBuilt, IsGrammatical, IsWrong}
use Rattle.script.proofs.FirstWrong.{Tells, first_wrong, wrong_is_none, first_is}
use Rattle.script.proofs.LineTells.{line_told}

-- a line that is empty or a comment means nothing
has_words : (line : List ℕ) → HasWords line ⊎ (meaning line ≡ Nothing)
unfolding meaning
has_words [] = inr refl
has_words (b ∷ line) = go (b == 35) (Decides-eqb b 35).1
  where
    go : (comment : Bool) → (b ≡ 35 → comment ≡ true) → (b ≡ 35 → ⊥) ⊎ (cond comment Nothing (judged (command_of (length (b ∷ line) + 1) (words 1 (b ∷ line)))) ≡ Nothing)
    go true is = inr refl
    go false is = inl (λ e. false≢true (is e))

is_judged : (line : List ℕ) → HasWords line → meaning line ≡ judged (command_of (length line + 1) (words 1 line))
unfolding meaning
is_judged [] h = absurd h
is_judged (b ∷ line) h = let other : (b == 35) ≡ false = ne_eqb b 35 h in rw other refl

no_empty_line : (forms : List Form) → IsOfOne forms [] → ⊥
no_empty_line [] h = h
no_empty_line (form ∷ more) (inl h) = h
no_empty_line (form ∷ more) (inr h) = no_empty_line more h

command_told : (past : ℕ) (ws : List Word) → is_later_line ws ≡ false → Tells IsLine past ws (command_of past ws)
unfolding IsLine
command_told past [] e = record { here = refl; goes_on = (codes "flush" ∷ [], inr (inr (inr (inr (inr (inl (refl, tt))))))); lacks = no_empty_line forms }
command_told past (word ∷ more) e = rw e (line_told past word more)

later_stops : (past : ℕ) (ws : List Word) → is_later_line ws ≡ true → command_of past ws ≡ Err NotBuilt
later_stops past [] e = absurd (false≢true e)
later_stops past (word ∷ more) e = rw e refl

-- what a line with words of no later part means
told : (line : List ℕ) → IsBuilt line → Tells IsLine (length line + 1) (words 1 line) (command_of (length line + 1) (words 1 line))
told line built = command_told (length line + 1) (words 1 line) built.not_later

-- a line that means something else than a later part is built
not_later : (line : List ℕ) (found : Meaning) → meaning line ≡ found → (found ≡ Nothing → ⊥) → (found ≡ Wrong NotBuilt → ⊥) → IsBuilt line
not_later line found e some built = go (has_words line)
  where
    go : HasWords line ⊎ (meaning line ≡ Nothing) → IsBuilt line
    go (inr none) = absurd (some (sym e ∙ none))
    go (inl h) = record { has_words = h; not_later = later (is_later_line (words 1 line)) refl }
      where
        later : (b : Bool) → is_later_line (words 1 line) ≡ b → b ≡ false
        later false is = refl
        later true is = absurd (built (sym e ∙ is_judged line h ∙ ap judged (later_stops (length line + 1) (words 1 line) is)))

means_line : (line : List ℕ) (command : Command) → meaning line ≡ Means command → IsGrammatical line
means_line line command e = record { built = built; is_line = go (command_of (length line + 1) (words 1 line)) (sym (is_judged line built.has_words) ∙ e) (told line built) }
  where
    built : IsBuilt line
    built = not_later line (Means command) e (λ is. absurd (cc)) (λ is. absurd (cc))

    go : (r : Result Command Stop) → judged r ≡ Means command → Tells IsLine (length line + 1) (words 1 line) r → IsLine (texts (words 1 line))
    go (Ok x) is h = h
    go (Err stop) is h = absurd (cc)

line_means : (line : List ℕ) → IsGrammatical line → (command : Command) × (meaning line ≡ Means command)
line_means line is = go (command_of (length line + 1) (words 1 line)) (is_judged line is.built.has_words) (told line is.built)
  where
    go : (r : Result Command Stop) → meaning line ≡ judged r → Tells IsLine (length line + 1) (words 1 line) r → (command : Command) × (meaning line ≡ Means command)
    go (Ok command) e h = (command, e)
    go (Err (Malformed place)) e h = absurd (wrong_is_none IsLine (length line + 1) (words 1 line) place (first_wrong IsLine (length line + 1) (words 1 line) place h) is.is_line)
    go (Err NotBuilt) e h = absurd h

malformed_wrong : (line : List ℕ) (place : ℕ) → meaning line ≡ Wrong (Malformed place) → IsWrong line place
malformed_wrong line place e = record { built = built; first = go (command_of (length line + 1) (words 1 line)) (sym (is_judged line built.has_words) ∙ e) (told line built) }
  where
    built : IsBuilt line
    built = not_later line (Wrong (Malformed place)) e (λ is. absurd (cc)) (λ is. absurd (cc))

    go : (r : Result Command Stop) → judged r ≡ Wrong (Malformed place) → Tells IsLine (length line + 1) (words 1 line) r → IsFirstWrong IsLine (length line + 1) (words 1 line) place
    go (Ok x) is h = absurd (cc)
    go (Err NotBuilt) is h = absurd h
    go (Err (Malformed at)) is h =
        let same : at ≡ place = cc in
        subst (λ (p : ℕ). IsFirstWrong IsLine (length line + 1) (words 1 line) p) same (first_wrong IsLine (length line + 1) (words 1 line) at h)

wrong_malformed : (line : List ℕ) (place : ℕ) → IsWrong line place → meaning line ≡ Wrong (Malformed place)
wrong_malformed line place is = go (command_of (length line + 1) (words 1 line)) (is_judged line is.built.has_words) (told line is.built)
  where
    go : (r : Result Command Stop) → meaning line ≡ judged r → Tells IsLine (length line + 1) (words 1 line) r → meaning line ≡ Wrong (Malformed place)
    go (Ok command) e h = absurd (wrong_is_none IsLine (length line + 1) (words 1 line) place is.first h)
    go (Err NotBuilt) e h = absurd h
    go (Err (Malformed at)) e h = e ∙ ap (λ (p : ℕ). Wrong (Malformed p)) (sym (first_is IsLine (length line + 1) (words 1 line) place at is.first h))

pub means_where_grammatical : (line : List ℕ) → ((command : Command) × (meaning line ≡ Means command)) ↔ IsGrammatical line
means_where_grammatical line = (λ found. means_line line found.0 found.1, line_means line)

pub malformed_where_wrong : (line : List ℕ) (place : ℕ) → (meaning line ≡ Wrong (Malformed place)) ↔ IsWrong line place
malformed_where_wrong line place = (malformed_wrong line place, wrong_malformed line place)
