-- Earlier moments of a run: where a fact was allowed, and which of two facts came first.
use Rattle.std.proofs.Common.{◌≡◌, Bool, true, [], ◌∷◌, refl, sym, subst, ◌⊎◌, inl, inr}
use Rattle.std.proofs.lemmas.Bool.{or_cases, or_left, or_right}
use Rattle.safety_model.specs.Facts.{Fact, History, has, Stands}
use Rattle.safety_model.specs.State.{Setup}
use Rattle.safety_model.specs.Rules.{Allowed, IsRun}

-- the history once was that
abbrev pub WasOnce : History → History → Type 0
WasOnce g [] = g ≡ []
WasOnce g (f ∷ h) = (g ≡ f ∷ h) ⊎ WasOnce g h

-- what each new fact keeps holds later too
pub later : (P : History → Type 0) → ((f : Fact) (h : History) → P h → P (f ∷ h)) → (g h : History) → WasOnce g h → P g → P h
later P step g [] e p = subst P e p
later P step g (f ∷ h) (inl e) p = subst P e p
later P step g (f ∷ h) (inr e) p = step f h (later P step g h e p)

pub run_once : (su : Setup) (g h : History) → WasOnce g h → IsRun su h → IsRun su g
run_once su g [] e r = subst (IsRun su) (sym e) r
run_once su g (f ∷ h) (inl e) r = subst (IsRun su) (sym e) r
run_once su g (f ∷ h) (inr e) r = run_once su g h e r.1

pub now : (h : History) → WasOnce h h
now [] = refl
now (f ∷ h) = inl refl

-- what was once so of a history that once was
pub once_once : (f g h : History) → WasOnce f g → WasOnce g h → WasOnce f h
once_once f g h a b = later (WasOnce f) (λ _ _ p. inr p) g h b a

pub stands_later : (f : Fact) (g h : History) → WasOnce g h → Stands g f → Stands h f
stands_later f g h e p = later (λ h. Stands h f) (λ f' h p. inr p) g h e p

pub has_later : (kind : Fact → Bool) (g h : History) → WasOnce g h → has kind g ≡ true → has kind h ≡ true
has_later kind g h e p = later (λ h. has kind h ≡ true) (λ f h p. or_right (kind f) (has kind h) p) g h e p

-- a fact of the run, and the moment at which it was allowed
pub record Moment (su : Setup) (h : History) (f : Fact) : Type 0 where
  pub at : History
  pub once : WasOnce at h
  pub run : IsRun su at
  pub allowed : Allowed su at f

pub moment : (su : Setup) (h : History) (f : Fact) → IsRun su h → Stands h f → Moment su h f
moment su [] f r s = elim s [ ]
moment su (g ∷ h) f r (inl e) = record { at = h; once = inr (now h); run = r.1; allowed = subst (Allowed su h) e r.0 }
moment su (g ∷ h) f r (inr s) =
    let m = moment su h f r.1 s in
    record { at = m.at; once = inr m.once; run = m.run; allowed = m.allowed }

-- the first fact stood already when the second was allowed
pub record Before (su : Setup) (h : History) (a b : Fact) : Type 0 where
  pub at : History
  pub once : WasOnce at h
  pub run : IsRun su at
  pub stands : Stands at a
  pub allowed : Allowed su at b

before_more : (su : Setup) (f : Fact) (h : History) (a b : Fact) → Before su h a b → Before su (f ∷ h) a b
before_more su f h a b m = record { at = m.at; once = inr m.once; run = m.run; stands = m.stands; allowed = m.allowed }

-- two facts of a run are one, or one came first
pub order : (su : Setup) (h : History) (a b : Fact) → IsRun su h → Stands h a → Stands h b → (a ≡ b) ⊎ (Before su h a b ⊎ Before su h b a)
order su [] a b r sa sb = elim sa [ ]
order su (g ∷ h) a b r (inl ea) (inl eb) = inl (cc)
order su (g ∷ h) a b r (inl ea) (inr sb) = inr (inr record { at = h; once = inr (now h); run = r.1; stands = sb; allowed = subst (Allowed su h) ea r.0 })
order su (g ∷ h) a b r (inr sa) (inl eb) = inr (inl record { at = h; once = inr (now h); run = r.1; stands = sa; allowed = subst (Allowed su h) eb r.0 })
order su (g ∷ h) a b r (inr sa) (inr sb) =
    elim (order su h a b r.1 sa sb) [
      | inl e ↦ inl e
      | inr (inl m) ↦ inr (inl (before_more su g h a b m))
      | inr (inr m) ↦ inr (inr (before_more su g h b a m))
    ]

-- a fact of a kind that the history has
pub found : (kind : Fact → Bool) (h : History) → has kind h ≡ true → (f : Fact) × Stands h f × (kind f ≡ true)
found kind [] e = cc
found kind (f ∷ h) e =
    elim (or_cases (kind f) (has kind h) e) [
      | inl y ↦ (f, inl refl, y)
      | inr n ↦ let r = found kind h n in (r.0, inr r.1, r.2)
    ]

pub has_found : (kind : Fact → Bool) (h : History) (f : Fact) → Stands h f → kind f ≡ true → has kind h ≡ true
has_found kind [] f s k = elim s [ ]
has_found kind (g ∷ h) f (inl e) k = or_left (kind g) (has kind h) (cc)
has_found kind (g ∷ h) f (inr s) k = or_right (kind g) (has kind h) (has_found kind h f s k)
