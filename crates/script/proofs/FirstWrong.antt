-- Where the words of a line stop being those of a line of the grammar.
use Rattle.std.proofs.Common.{◌≡◌, ℕ, ◌⊎◌, inl, inr, List, [], ◌∷◌, ◌++◌, refl, sym, ap, ◌∙◌, subst, Option, Some, None, Result, Ok, Err}
use Rattle.script.specs.declared.command.Stop.{Stop}
use Rattle.script.specs.declared.command.Stop.TheVariants.{Malformed, NotBuilt}
use Rattle.script.specs.Words.{Word}
use Rattle.script.specs.Reading.{◌>>=◌, field, field_or, fitted, taken, optional, no_more}
use Rattle.script.specs.Forms.{Kind, Stands, Field, AreInFields, texts, GoesOn, IsWrongAt, IsFirstWrong}
use Rattle.script.specs.Forms.Field.{Needed, Optional}
use Rattle.script.proofs.KindTexts.{Agrees}

pub record StopsHere (Line : List (List ℕ) → Type 0) (word : Word) (place : ℕ) : Type 0 where
  pub here : place ≡ word.place
  pub goes_on : GoesOn Line []
  pub ends : GoesOn Line (word.text ∷ []) → ⊥

pub record LacksHere (Line : List (List ℕ) → Type 0) (past place : ℕ) : Type 0 where
  pub here : place ≡ past
  pub goes_on : GoesOn Line []
  pub lacks : Line [] → ⊥

-- the first wrong word, looked for from the front
abbrev pub Stopped : (List (List ℕ) → Type 0) → ℕ → List Word → ℕ → Type 0
Stopped Line past [] place = LacksHere Line past place
Stopped Line past (word ∷ more) place = StopsHere Line word place ⊎ Stopped (λ left. Line (word.text ∷ left)) past more place

cons_wrong : (Line : List (List ℕ) → Type 0) (past : ℕ) (word : Word) (more : List Word) (place : ℕ) → IsFirstWrong (λ left. Line (word.text ∷ left)) past more place → IsFirstWrong Line past (word ∷ more) place
cons_wrong Line past word more place (inl w) =
    inl (record { before = word ∷ w.before; word = w.word; after = w.after; all = ap (λ (ws : List Word). word ∷ ws) w.all; here = w.here; goes_on = w.goes_on; ends = w.ends })
cons_wrong Line past word more place (inr l) = inr (record { here = l.here; goes_on = l.goes_on; lacks = l.lacks })

pub first_wrong : (Line : List (List ℕ) → Type 0) (past : ℕ) (ws : List Word) (place : ℕ) → Stopped Line past ws place → IsFirstWrong Line past ws place
first_wrong Line past [] place s = inr (record { here = s.here; goes_on = s.goes_on; lacks = s.lacks })
first_wrong Line past (word ∷ more) place (inl s) =
    inl (record { before = []; word = word; after = more; all = refl; here = s.here; goes_on = s.goes_on; ends = s.ends })
first_wrong Line past (word ∷ more) place (inr s) = cons_wrong Line past word more place (first_wrong (λ left. Line (word.text ∷ left)) past more place s)

-- two sets of lines with the same ones
pub record AreSame (Line Other : List (List ℕ) → Type 0) : Type 0 where
  pub to : (texts : List (List ℕ)) → Line texts → Other texts
  pub from : (texts : List (List ℕ)) → Other texts → Line texts

goes_on_too : (Line Other : List (List ℕ) → Type 0) → ((texts : List (List ℕ)) → Line texts → Other texts) → (front : List (List ℕ)) → GoesOn Line front → GoesOn Other front
goes_on_too Line Other to front g = (g.0, to (front ++ g.0) g.1)

stopped_same : (Line Other : List (List ℕ) → Type 0) → AreSame Line Other → (past : ℕ) (ws : List Word) (place : ℕ) → Stopped Line past ws place → Stopped Other past ws place
stopped_same Line Other same past [] place s =
    record { here = s.here; goes_on = goes_on_too Line Other same.to [] s.goes_on; lacks = λ h. s.lacks (same.from [] h) }
stopped_same Line Other same past (word ∷ more) place (inl s) =
    inl (record { here = s.here; goes_on = goes_on_too Line Other same.to [] s.goes_on; ends = λ g. s.ends (goes_on_too Other Line same.from (word.text ∷ []) g) })
stopped_same Line Other same past (word ∷ more) place (inr s) =
    inr (stopped_same (λ left. Line (word.text ∷ left)) (λ left. Other (word.text ∷ left))
    (record { to = λ left. same.to (word.text ∷ left); from = λ left. same.from (word.text ∷ left) }) past more place s)

-- what was read is a line, and what stopped is its first wrong word
abbrev pub Tells : {A : Type 0} → (List (List ℕ) → Type 0) → ℕ → List Word → Result A Stop → Type 0
Tells Line past ws (Ok x) = Line (texts ws)
Tells Line past ws (Err (Malformed place)) = Stopped Line past ws place
Tells Line past ws (Err NotBuilt) = ⊥

pub tells_same : {A : Type 0} (Line Other : List (List ℕ) → Type 0) → AreSame Line Other → (past : ℕ) (ws : List Word) (r : Result A Stop) → Tells Line past ws r → Tells Other past ws r
tells_same Line Other same past ws (Ok x) h = same.to (texts ws) h
tells_same Line Other same past ws (Err (Malformed place)) h = stopped_same Line Other same past ws place h
tells_same Line Other same past ws (Err NotBuilt) h = h

pub tells_cons : {A : Type 0} (Line : List (List ℕ) → Type 0) (past : ℕ) (word : Word) (more : List Word) (r : Result A Stop) → Tells (λ left. Line (word.text ∷ left)) past more r → Tells Line past (word ∷ more) r
tells_cons Line past word more (Ok x) h = h
tells_cons Line past word more (Err (Malformed place)) h = inr h
tells_cons Line past word more (Err NotBuilt) h = h

-- more lines, but none that begins with this word
pub tells_at : {A : Type 0} (Line Other : List (List ℕ) → Type 0) → ((texts : List (List ℕ)) → Line texts → Other texts) → (past : ℕ) (word : Word) (more : List Word)
    → ((left : List (List ℕ)) → Other (word.text ∷ left) → Line (word.text ∷ left)) → (r : Result A Stop) → Tells Line past (word ∷ more) r → Tells Other past (word ∷ more) r
tells_at Line Other to past word more from (Ok x) h = to (texts (word ∷ more)) h
tells_at Line Other to past word more from (Err (Malformed place)) (inl s) =
    inl (record { here = s.here; goes_on = goes_on_too Line Other to [] s.goes_on; ends = λ g. s.ends (g.0, from g.0 g.1) })
tells_at Line Other to past word more from (Err (Malformed place)) (inr s) =
    inr (stopped_same (λ left. Line (word.text ∷ left)) (λ left. Other (word.text ∷ left)) (record { to = λ left. to (word.text ∷ left); from = from }) past more place s)
tells_at Line Other to past word more from (Err NotBuilt) h = h

-- there is a line, and the reading of these words tells of it
pub record Explains {A : Type 0} (fields : List Field) (past : ℕ) (ws : List Word) (r : Result A Stop) : Type 0 where
  pub goes_on : GoesOn (AreInFields fields) []
  pub tells : Tells (AreInFields fields) past ws r

pub explain_end : {B : Type 0} (y : B) (past : ℕ) (ws : List Word) → Explains [] past ws (no_more ws >>= (λ none. Ok y))
explain_end y past [] = record { goes_on = ([], tt); tells = tt }
explain_end y past (word ∷ more) = record { goes_on = ([], tt); tells = inl (record { here = refl; goes_on = ([], tt); ends = λ g. g.1 }) }

misfits : {A : Type 0} (Fits : List ℕ → Type 0) (fits : List ℕ → Option A) → Agrees Fits fits → (text : List ℕ) → fits text ≡ None → Fits text → ⊥
misfits Fits fits agrees text e h = let found = agrees.reads text h in absurd (let some : fits text ≡ Some found.0 = found.1 in cc (e, some))

needed_word : {A B : Type 0} (kind : Kind) (fits : List ℕ → Option A) → Agrees (Stands kind) fits → (fields : List Field) → GoesOn (AreInFields (Needed kind ∷ fields)) [] → (f : A × List Word → Result B Stop) (past : ℕ) (word : Word) (more : List Word)
    → ((x : A) → Tells (AreInFields fields) past more (f (x, more))) → (found : Option A) → fits word.text ≡ found → Tells (AreInFields (Needed kind ∷ fields)) past (word ∷ more) (fitted found word.place more >>= f)
needed_word kind fits agrees fields alive f past word more each None e =
    inl (record { here = refl; goes_on = alive; ends = λ g. misfits (Stands kind) fits agrees word.text e g.1.0 })
needed_word kind fits agrees fields alive f past word more each (Some x) e =
    let stands = agrees.was word.text x e in
    tells_cons (AreInFields (Needed kind ∷ fields)) past word more (f (x, more))
    (tells_same (AreInFields fields) (λ left. AreInFields (Needed kind ∷ fields) (word.text ∷ left)) (record { to = λ left h. (stands, h); from = λ left h. h.1 }) past more (f (x, more)) (each x))

pub explain_needed : {A B : Type 0} (kind : Kind) (fits : List ℕ → Option A) → Agrees (Stands kind) fits → (fields : List Field) (f : A × List Word → Result B Stop) (past : ℕ) (ws : List Word)
    → ((x : A) (more : List Word) → Explains fields past more (f (x, more))) → Explains (Needed kind ∷ fields) past ws (field fits past ws >>= f)
explain_needed kind fits agrees fields f past ws each = record { goes_on = alive; tells = tells ws }
  where
    rest : GoesOn (AreInFields fields) []
    rest = (each (agrees.reads agrees.sample agrees.sample_fits).0 []).goes_on

    alive : GoesOn (AreInFields (Needed kind ∷ fields)) []
    alive = (agrees.sample ∷ rest.0, (agrees.sample_fits, rest.1))

    tells : (ws : List Word) → Tells (AreInFields (Needed kind ∷ fields)) past ws (field fits past ws >>= f)
    tells [] = record { here = refl; goes_on = alive; lacks = λ h. h }
    tells (word ∷ more) = needed_word kind fits agrees fields alive f past word more (λ x. (each x more).tells) (fits word.text) refl

without : (kind : Kind) (fields : List Field) (texts : List (List ℕ)) → AreInFields fields texts → AreInFields (Optional kind ∷ fields) texts
without kind fields [] h = h
without kind fields (text ∷ more) h = inl h

optional_none : {A : Type 0} (kind : Kind) (fields : List Field) (past : ℕ) (r : Result A Stop) → Tells (AreInFields fields) past [] r → Tells (AreInFields (Optional kind ∷ fields)) past [] r
optional_none kind fields past (Ok x) h = h
optional_none kind fields past (Err (Malformed place)) h =
    record { here = h.here; goes_on = goes_on_too (AreInFields fields) (AreInFields (Optional kind ∷ fields)) (without kind fields) [] h.goes_on; lacks = h.lacks }
optional_none kind fields past (Err NotBuilt) h = h

-- no line that goes on without the optional word begins with one that fits
unfoldable pub IsApart : Kind → List Field → Type 0
IsApart kind fields = (text : List ℕ) → Stands kind text → GoesOn (AreInFields fields) (text ∷ []) → ⊥

optional_taken : {A : Type 0} (kind : Kind) (fields : List Field) → IsApart kind fields → (past : ℕ) (word : Word) (more : List Word) → Stands kind word.text → (r : Result A Stop)
    → Tells (AreInFields fields) past more r → Tells (AreInFields (Optional kind ∷ fields)) past (word ∷ more) r
unfolding IsApart
optional_taken kind fields apart past word more stands r h =
    tells_cons (AreInFields (Optional kind ∷ fields)) past word more r
    (tells_same (AreInFields fields) (λ left. AreInFields (Optional kind ∷ fields) (word.text ∷ left)) (record { to = λ left g. inr (stands, g); from = from }) past more r h)
  where
    from : (left : List (List ℕ)) → AreInFields (Optional kind ∷ fields) (word.text ∷ left) → AreInFields fields left
    from left (inl other) = absurd (apart word.text stands (left, other))
    from left (inr both) = both.1

optional_left : {A : Type 0} (kind : Kind) (fields : List Field) (past : ℕ) (word : Word) (more : List Word) → (Stands kind word.text → ⊥) → (r : Result A Stop)
    → Tells (AreInFields fields) past (word ∷ more) r → Tells (AreInFields (Optional kind ∷ fields)) past (word ∷ more) r
optional_left kind fields past word more unfit r h =
    tells_at (AreInFields fields) (AreInFields (Optional kind ∷ fields)) (without kind fields) past word more from r h
  where
    from : (left : List (List ℕ)) → AreInFields (Optional kind ∷ fields) (word.text ∷ left) → AreInFields fields (word.text ∷ left)
    from left (inl other) = other
    from left (inr both) = absurd (unfit both.0)

optional_word : {A B : Type 0} (kind : Kind) (fits : List ℕ → Option A) → Agrees (Stands kind) fits → (other : A) (fields : List Field) → IsApart kind fields → (f : A × List Word → Result B Stop) (past : ℕ) (word : Word) (more : List Word)
    → ((x : A) (left : List Word) → Tells (AreInFields fields) past left (f (x, left))) → (found : Option A) → fits word.text ≡ found
    → Tells (AreInFields (Optional kind ∷ fields)) past (word ∷ more) (f (taken other found word more))
optional_word kind fits agrees other fields apart f past word more each None e =
    optional_left kind fields past word more (misfits (Stands kind) fits agrees word.text e) (f (other, word ∷ more)) (each other (word ∷ more))
optional_word kind fits agrees other fields apart f past word more each (Some x) e =
    optional_taken kind fields apart past word more (agrees.was word.text x e) (f (x, more)) (each x more)

pub explain_optional : {A B : Type 0} (kind : Kind) (fits : List ℕ → Option A) → Agrees (Stands kind) fits → (other : A) (fields : List Field) → IsApart kind fields → (f : A × List Word → Result B Stop) (past : ℕ) (ws : List Word)
    → ((x : A) (left : List Word) → Explains fields past left (f (x, left))) → Explains (Optional kind ∷ fields) past ws (f (optional other fits ws))
explain_optional kind fits agrees other fields apart f past ws each = record {
  goes_on = goes_on_too (AreInFields fields) (AreInFields (Optional kind ∷ fields)) (without kind fields) [] (each other []).goes_on;
  tells = tells ws;
}
  where
    tells : (ws : List Word) → Tells (AreInFields (Optional kind ∷ fields)) past ws (f (optional other fits ws))
    tells [] = optional_none kind fields past (f (other, [])) (each other []).tells
    tells (word ∷ more) = optional_word kind fits agrees other fields apart f past word more (λ x left. (each x left).tells) (fits word.text) refl

pub apart_from_end : (kind : Kind) → IsApart kind []
unfolding IsApart
apart_from_end kind text stands g = g.1

last_word : {A B : Type 0} (kind : Kind) (fits : List ℕ → Option A) → Agrees (Stands kind) fits → (f : A × List Word → Result B Stop) (past : ℕ) (word : Word) (more : List Word)
    → ((x : A) → Tells (AreInFields []) past more (f (x, more))) → (found : Option A) → fits word.text ≡ found → Tells (AreInFields (Optional kind ∷ [])) past (word ∷ more) (fitted found word.place more >>= f)
last_word kind fits agrees f past word more each None e = inl (record { here = refl; goes_on = ([], tt); ends = λ g. no g.0 g.1 })
  where
    no : (left : List (List ℕ)) → AreInFields (Optional kind ∷ []) (word.text ∷ left) → ⊥
    no left (inl other) = other
    no left (inr both) = misfits (Stands kind) fits agrees word.text e both.0
last_word kind fits agrees f past word more each (Some x) e =
    optional_taken kind [] (apart_from_end kind) past word more (agrees.was word.text x e) (f (x, more)) (each x)

-- an optional word at the end
pub explain_last : {A B : Type 0} (kind : Kind) (fits : List ℕ → Option A) → Agrees (Stands kind) fits → (other : A) (f : A × List Word → Result B Stop) (past : ℕ) (ws : List Word)
    → ((x : A) (left : List Word) → Explains [] past left (f (x, left))) → Explains (Optional kind ∷ []) past ws (field_or other fits ws >>= f)
explain_last kind fits agrees other f past ws each = record { goes_on = ([], tt); tells = tells ws }
  where
    tells : (ws : List Word) → Tells (AreInFields (Optional kind ∷ [])) past ws (field_or other fits ws >>= f)
    tells [] = optional_none kind [] past (f (other, [])) (each other []).tells
    tells (word ∷ more) = last_word kind fits agrees f past word more (λ x. (each x more).tells) (fits word.text) refl

texts_append : (before after : List Word) (word : Word) → texts (before ++ word ∷ after) ≡ (texts before ++ word.text ∷ []) ++ texts after
texts_append [] after word = refl
texts_append (first ∷ before) after word = ap (λ (more : List (List ℕ)). first.text ∷ more) (texts_append before after word)

-- words with a first wrong one are no line
pub wrong_is_none : (Line : List (List ℕ) → Type 0) (past : ℕ) (ws : List Word) (place : ℕ) → IsFirstWrong Line past ws place → Line (texts ws) → ⊥
wrong_is_none Line past ws place (inl w) h =
    let same : texts ws ≡ (texts w.before ++ w.word.text ∷ []) ++ texts w.after = ap texts w.all ∙ texts_append w.before w.after w.word in
    w.ends (texts w.after, subst Line same h)
wrong_is_none Line past ws place (inr l) h = l.lacks h

stopped_goes_on : (Line : List (List ℕ) → Type 0) (past : ℕ) (ws : List Word) (place : ℕ) → Stopped Line past ws place → GoesOn Line []
stopped_goes_on Line past [] place s = s.goes_on
stopped_goes_on Line past (word ∷ more) place (inl s) = s.goes_on
stopped_goes_on Line past (word ∷ more) place (inr s) =
    let rest = stopped_goes_on (λ left. Line (word.text ∷ left)) past more place s in
    (word.text ∷ rest.0, rest.1)

-- a first wrong word behind the first one
wrong_behind : (Line : List (List ℕ) → Type 0) (word : Word) (more : List Word) (place : ℕ) (before after : List Word) (at : Word) → word ∷ more ≡ before ++ at ∷ after → place ≡ at.place
    → GoesOn Line (texts before) → (GoesOn Line (texts before ++ at.text ∷ []) → ⊥) → (GoesOn Line (word.text ∷ [])) → IsWrongAt (λ left. Line (word.text ∷ left)) more place
wrong_behind Line word more place [] after at all here goes ends first =
    let same : word ≡ at = cc in
    absurd (ends (subst (λ (w : Word). GoesOn Line (w.text ∷ [])) same first))
wrong_behind Line word more place (x ∷ before) after at all here goes ends first =
    let same : x ≡ word = cc in
    let rest : more ≡ before ++ at ∷ after = cc in
    record {
      before = before;
      word = at;
      after = after;
      all = rest;
      here = here;
      goes_on = subst (λ (w : Word). GoesOn Line (w.text ∷ texts before)) same goes;
      ends = subst (λ (w : Word). GoesOn Line (w.text ∷ (texts before ++ at.text ∷ [])) → ⊥) same ends;
    }

wrong_first : (Line : List (List ℕ) → Type 0) (word : Word) (more : List Word) (place : ℕ) (before after : List Word) (at : Word) → word ∷ more ≡ before ++ at ∷ after → place ≡ at.place
    → GoesOn Line (texts before) → (GoesOn Line (word.text ∷ []) → ⊥) → place ≡ word.place
wrong_first Line word more place [] after at all here goes ends = let same : at ≡ word = cc in here ∙ ap (λ (w : Word). w.place) same
wrong_first Line word more place (x ∷ before) after at all here goes ends =
    let same : x ≡ word = cc in
    let on : GoesOn Line (word.text ∷ texts before) = subst (λ (w : Word). GoesOn Line (w.text ∷ texts before)) same goes in
    absurd (ends (texts before ++ on.0, on.1))

nothing_before : (before after : List Word) (at : Word) → [] ≡ before ++ at ∷ after → ⊥
nothing_before [] after at e = absurd (cc)
nothing_before (x ∷ before) after at e = absurd (cc)

-- there is one first wrong word
pub first_is : (Line : List (List ℕ) → Type 0) (past : ℕ) (ws : List Word) (place other : ℕ) → IsFirstWrong Line past ws place → Stopped Line past ws other → place ≡ other
first_is Line past [] place other (inl w) s = absurd (nothing_before w.before w.after w.word w.all)
first_is Line past [] place other (inr l) s = l.here ∙ sym s.here
first_is Line past (word ∷ more) place other (inl w) (inl s) =
    wrong_first Line word more place w.before w.after w.word w.all w.here w.goes_on s.ends ∙ sym s.here
first_is Line past (word ∷ more) place other (inr l) (inl s) = absurd (s.ends (texts more ++ l.goes_on.0, l.goes_on.1))
first_is Line past (word ∷ more) place other (inl w) (inr s) =
    first_is (λ left. Line (word.text ∷ left)) past more place other
    (inl (wrong_behind Line word more place w.before w.after w.word w.all w.here w.goes_on w.ends (stopped_goes_on (λ left. Line (word.text ∷ left)) past more other s))) s
first_is Line past (word ∷ more) place other (inr l) (inr s) =
    first_is (λ left. Line (word.text ∷ left)) past more place other (inr (record { here = l.here; goes_on = l.goes_on; lacks = l.lacks })) s
