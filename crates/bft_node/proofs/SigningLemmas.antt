-- What keys sign in calls one after another.
use Rattle.std.proofs.Common.{◌≡◌, ℕ, List, [], ◌∷◌, ◌++◌, Result, Ok, Err, IsErr, inl, refl, sym, ap, subst, ◌∙◌, append_assoc}
use Rattle.std.proofs.lemmas.List.{append-nil, map-append}
use Rattle.ord_types.specs.declared.values.Sig.{Sig}
use Rattle.signer_edge.specs.Accepts.{Accepts}
use Rattle.signer_edge.specs.declared.signing.SignFault.{SignFault}
use Rattle.node_model.specs.Steps.{Keys}
use Rattle.bft_node.specs.Signings.{AreGiven, EndsAt, Grows, KeysFit, Signing, Signs, keys_after, statements_in}

module _ {K : Type 0} where
  pub statements-append : (xs ys : List (Signing K)) → statements_in (xs ++ ys) ≡ statements_in xs ++ statements_in ys
  statements-append xs ys = map-append (λ (s : Signing K). s.statement) xs ys

  pub keys_after-append : (k : K) (xs ys : List (Signing K)) → keys_after k (xs ++ ys) ≡ keys_after (keys_after k xs) ys
  keys_after-append k [] ys = refl
  keys_after-append k (x ∷ xs) ys = keys_after-append x.keys xs ys

  pub given-append : (gives : K → List ℕ → Result Sig SignFault → K → Type 0) (k : K) (xs ys : List (Signing K)) → AreGiven gives k xs → AreGiven gives (keys_after k xs) ys → AreGiven gives k (xs ++ ys)
  given-append gives k [] ys first rest = rest
  given-append gives k (x ∷ xs) ys first rest = (first.0, given-append gives x.keys xs ys first.1 rest)

  -- what fits one call and then another
  pub fits_now : (accepts : K → Accepts) (keys : Keys) (before : List (List ℕ)) (k : K) (xs : List (Signing K)) → KeysFit accepts keys before k xs → keys.accepts before ≡ accepts k
  fits_now accepts keys before k [] fit = fit
  fits_now accepts keys before k (x ∷ xs) fit = fit.0

  pub fits_first : (accepts : K → Accepts) (keys : Keys) (before : List (List ℕ)) (k : K) (xs ys : List (Signing K)) → KeysFit accepts keys before k (xs ++ ys) → KeysFit accepts keys before k xs
  fits_first accepts keys before k [] ys fit = fits_now accepts keys before k ys fit
  fits_first accepts keys before k (x ∷ xs) ys fit = (fit.0, fit.1, fits_first accepts keys (before ++ x.statement ∷ []) x.keys xs ys fit.2)

  pub fits_rest : (accepts : K → Accepts) (keys : Keys) (before : List (List ℕ)) (k : K) (xs ys : List (Signing K)) → KeysFit accepts keys before k (xs ++ ys) → KeysFit accepts keys (before ++ statements_in xs) (keys_after k xs) ys
  fits_rest accepts keys before k [] ys fit = subst (λ (l : List (List ℕ)). KeysFit accepts keys l k ys) (sym (append-nil before)) fit
  fits_rest accepts keys before k (x ∷ xs) ys fit =
      subst (λ (l : List (List ℕ)). KeysFit accepts keys l (keys_after x.keys xs) ys) (append_assoc before (x.statement ∷ []) (statements_in xs))
      (fits_rest accepts keys (before ++ x.statement ∷ []) x.keys xs ys fit.2)

  pub grows_first : (accepts : K → Accepts) (k : K) (xs ys : List (Signing K)) → Grows accepts k (xs ++ ys) → Grows accepts k xs
  grows_first accepts k [] ys grows = tt
  grows_first accepts k (x ∷ xs) ys grows = (grows.0, grows_first accepts x.keys xs ys grows.1)

  pub grows_rest : (accepts : K → Accepts) (k : K) (xs ys : List (Signing K)) → Grows accepts k (xs ++ ys) → Grows accepts (keys_after k xs) ys
  grows_rest accepts k [] ys grows = grows
  grows_rest accepts k (x ∷ xs) ys grows = grows_rest accepts x.keys xs ys grows.1

-- where a call that was done ends
ends_ok : {K T E : Type 0} (gives : K → List ℕ → Result Sig SignFault → K → Type 0) (x : T) (r : Result T E) (k new : K) → r ≡ Ok x → EndsAt gives r k new → new ≡ k
ends_ok gives x (Ok y) k new is e = e
ends_ok gives x (Err y) k new is e = cc

ended : {K T E : Type 0} {gives : K → List ℕ → Result Sig SignFault → K → Type 0} (x : T) (r : Result T E) (old new : K) (P : List (Signing K) → Type 0) → r ≡ Ok x → (s : Signs gives r old new P) → new ≡ keys_after old s.signings
ended {gives = gives} x r old new P is s = ends_ok gives x r (keys_after old s.signings) new is s.after

module _ {K T E : Type 0} (gives : K → List ℕ → Result Sig SignFault → K → Type 0) where
  ends : (r : Result T E) (k new : K) → new ≡ k → EndsAt gives r k new
  ends (Ok x) k new e = e
  ends (Err fault) k new e = inl e

  failed : {S F : Type 0} (q : Result S F) (fault : F) (r : Result T E) (k new : K) → q ≡ Err fault → IsErr r → EndsAt gives q k new → EndsAt gives r k new
  failed (Ok x) fault r k new is h e = cc
  failed (Err y) fault (Ok x) k new is h e = cc
  failed (Err y) fault (Err z) k new is h e = e

  -- a call that signed nothing
  pub signs_nothing : (r : Result T E) (k : K) (P : List (Signing K) → Type 0) → P [] → Signs gives r k k P
  signs_nothing r k P p = record { signings = []; given = tt; after = ends r k k refl; what = p }

  -- after which nothing more was signed
  pub signs_no_more : {S F : Type 0} (x : S) (q : Result S F) (r : Result T E) (old new : K) (P R : List (Signing K) → Type 0) → q ≡ Ok x → ((xs : List (Signing K)) → new ≡ keys_after old xs → P xs → R xs) → Signs gives q old new P → Signs gives r old new R
  signs_no_more x q r old new P R is f s =
      let at = ended x q old new P is s in
      record { signings = s.signings; given = s.given; after = ends r (keys_after old s.signings) new at; what = f s.signings at s.what }

  -- that was given up
  pub signs_failed : {S F : Type 0} (fault : F) (q : Result S F) (r : Result T E) (old new : K) (P R : List (Signing K) → Type 0) → q ≡ Err fault → IsErr r → ((xs : List (Signing K)) → P xs → R xs) → Signs gives q old new P → Signs gives r old new R
  signs_failed fault q r old new P R is h f s =
      record { signings = s.signings; given = s.given; after = failed q fault r (keys_after old s.signings) new is h s.after; what = f s.signings s.what }

  -- and another one
  pub signs_then : {S F : Type 0} (x : S) (q : Result S F) (r : Result T E) (old mid new : K) (P Q R : List (Signing K) → Type 0) → q ≡ Ok x
      → ((xs ys : List (Signing K)) → mid ≡ keys_after old xs → P xs → Q ys → R (xs ++ ys)) → Signs gives q old mid P → Signs gives r mid new Q → Signs gives r old new R
  signs_then x q r old mid new P Q R is f one two =
      let at = ended x q old mid P is one in
      record {
        signings = one.signings ++ two.signings;
        given = given-append gives old one.signings two.signings one.given (subst (λ (k : K). AreGiven gives k two.signings) at two.given);
        after = subst (λ (k : K). EndsAt gives r k new)
            (ap (λ (k : K). keys_after k two.signings) at ∙ sym (keys_after-append old one.signings two.signings)) two.after;
        what = f one.signings two.signings at one.what two.what;
      }

pub signs_with : {K T E : Type 0} (gives : K → List ℕ → Result Sig SignFault → K → Type 0) (r : Result T E) (old new : K) (P R : List (Signing K) → Type 0) → ((xs : List (Signing K)) → P xs → R xs) → Signs gives r old new P → Signs gives r old new R
signs_with gives r old new P R f s = record { signings = s.signings; given = s.given; after = s.after; what = f s.signings s.what }

-- WHAT A SECOND CALL SIGNED, where the first one signed these

module _ {K : Type 0} (accepts : K → Accepts) (keys : Keys) (before signed : List (List ℕ)) (old mid : K) (xs ys : List (Signing K)) (at : mid ≡ keys_after old xs) (first : signed ≡ before ++ statements_in xs) where
  pub second_fits : KeysFit accepts keys before old (xs ++ ys) → KeysFit accepts keys signed mid ys
  second_fits fit =
      subst (λ (k : K). KeysFit accepts keys signed k ys) (sym at)
      (subst (λ (l : List (List ℕ)). KeysFit accepts keys l (keys_after old xs) ys) (sym first) (fits_rest accepts keys before old xs ys fit))

  pub second_grows : Grows accepts old (xs ++ ys) → Grows accepts mid ys
  second_grows grows = subst (λ (k : K). Grows accepts k ys) (sym at) (grows_rest accepts old xs ys grows)

  pub second_statements : before ++ statements_in (xs ++ ys) ≡ signed ++ statements_in ys
  second_statements =
      ap (λ (l : List (List ℕ)). before ++ l) (statements-append xs ys) ∙ sym (append_assoc before (statements_in xs) (statements_in ys))
      ∙ ap (λ (l : List (List ℕ)). l ++ statements_in ys) (sym first)

  pub second_accepts : accepts (keys_after old (xs ++ ys)) ≡ accepts (keys_after mid ys)
  second_accepts = ap accepts (keys_after-append old xs ys ∙ ap (λ (k : K). keys_after k ys) (sym at))
