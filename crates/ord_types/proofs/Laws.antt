-- Laws of readings: what is read is what the text spells, what is spelled is read, and more bytes behind change nothing but the end.
use Rattle.std.proofs.Common.{◌≡◌, ℕ, zero, suc, ◌+◌, ◌^◌, ◌<◌, ◌≤◌, Bool, true, false, cond, ltb, List, [], ◌∷◌, ◌++◌, length, take, drop, Option, Some, None, Result, Ok, Err, refl, sym, ap, subst, ◌∙◌, append_assoc, arith, inl, inr}
use Rattle.std.specs.Int.{Width, w8, w16, w32, w64, byte_len, from_be_bytes, to_be_bytes}
use Rattle.std.specs.List.{AllByRecursion, flat_map}
use Rattle.std.proofs.lemmas.Bool.{cases_lt, ltb-false, le-ltb, lt-ltb, leb-true, le-leb}
use Rattle.std.proofs.lemmas.List.{append-nil, take_at, drop_at, take-append-drop, take-append-le, drop-append-le, length-append, length-take, get_or-drop, get_or-take, get_or_past, nil_from_length}
use Rattle.std.proofs.lemmas.List.Concat.{flat_map-cons}
use Rattle.std.proofs.Math.Nat.{mod-eq_of_lt}
use Rattle.std.proofs.lemmas.Nat.{be_bytes_2, be_bytes_4, be_bytes_8, from_be_bytes-to_be_bytes_2, from_be_bytes-to_be_bytes_4, from_be_bytes-to_be_bytes_8}
use Rattle.std.specs.Prelude.{nat_le, ◌==◌, IfSome}
use Rattle.ord_types.specs.Reading.{◌>>=◌, Reading, bytes_at, meant, meant_at, number_at, option_at, tested_at}
use Rattle.ord_types.specs.Spelling.{option_text}
pub use Rattle.ord_types.specs.Laws.{IsBytes}
use Rattle.ord_types.specs.Laws.{HasOneSpelling}
use Rattle.ord_types.specs.declared.fault.Flaw.{Flaw}
use Rattle.ord_types.specs.declared.fault.Flaw.TheVariants.{Short, Bad}
use Rattle.ord_types.proofs.Loops.{IsLoop}

-- BYTES

pub IsBytes-drop : (n : ℕ) (bytes : List ℕ) → IsBytes bytes → IsBytes (drop n bytes)
IsBytes-drop n bytes h i = rw get_or-drop (h (n + i))

pub IsBytes-take : (n : ℕ) (bytes : List ℕ) → IsBytes bytes → IsBytes (take n bytes)
IsBytes-take n bytes h i =
    elim (cases_lt i n) [
      | inl lt ↦ rw (get_or-take n bytes i 0 lt) (h i)
      | inr le ↦ rw (get_or_past (take n bytes) i 0 (omega (arith, length-take n bytes))) (omega arith)
    ]

pub IsBytes-front : (front rest : List ℕ) → IsBytes (front ++ rest) → IsBytes front
IsBytes-front front rest h = subst IsBytes (take_at front rest (length front) refl) (IsBytes-take (length front) (front ++ rest) h)

pub IsBytes-rest : (front rest : List ℕ) → IsBytes (front ++ rest) → IsBytes rest
IsBytes-rest front rest h = subst IsBytes (drop_at front rest (length front) refl) (IsBytes-drop (length front) (front ++ rest) h)

each_byte : (bytes : List ℕ) → AllByRecursion (λ b. b < 256) bytes → IsBytes bytes
each_byte [] h i = omega arith
each_byte (b ∷ bytes) h zero = h.0
each_byte (b ∷ bytes) h (suc i) = each_byte bytes h.1 i

IsBytes-recursion : (bytes : List ℕ) → IsBytes bytes → AllByRecursion (λ b. b < 256) bytes
IsBytes-recursion [] h = tt
IsBytes-recursion (b ∷ bytes) h = (h 0, IsBytes-recursion bytes (λ i. h (suc i)))

both_bytes : (front rest : List ℕ) → AllByRecursion (λ b. b < 256) front → AllByRecursion (λ b. b < 256) rest → AllByRecursion (λ b. b < 256) (front ++ rest)
both_bytes [] rest h k = k
both_bytes (b ∷ front) rest h k = (h.0, both_bytes front rest h.1 k)

pub IsBytes-append : (front rest : List ℕ) → IsBytes front → IsBytes rest → IsBytes (front ++ rest)
IsBytes-append front rest h k = each_byte (front ++ rest) (both_bytes front rest (IsBytes-recursion front h) (IsBytes-recursion rest k))

-- READINGS AND WHAT IS SPELLED

-- a value that may be spelled, and its text
pub record Spelled {X : Type 0} (May : X → Type 0) (text : X → List ℕ) (x : X) (t : List ℕ) : Type 0 where
  pub may : May x
  pub is : t ≡ text x

-- a first value, and what may stand behind it
pub record Begins {A Y : Type 0} (May : A → Type 0) (text : A → List ℕ) (More : A → Y → List ℕ → Type 0) (y : Y) (t : List ℕ) : Type 0 where
  pub first : A
  pub behind : List ℕ
  pub may : May first
  pub more : More first y behind
  pub is : t ≡ text first ++ behind

-- a last value, of which the whole is made
pub record Ends {A Y : Type 0} (May : A → Type 0) (text : A → List ℕ) (made : A → Y) (y : Y) (t : List ℕ) : Type 0 where
  pub last : A
  pub may : May last
  pub is : t ≡ text last
  pub whole : y ≡ made last

-- a front of these bytes that is spelled, and the value
pub record Found {X : Type 0} (Means : X → List ℕ → Type 0) (bytes : List ℕ) (x : X) (rest : List ℕ) : Type 0 where
  pub text : List ℕ
  pub parts : bytes ≡ text ++ rest
  pub means : Means x text

-- a reading reads exactly what is meant, whatever follows
pub record Law {X : Type 0} (at : Reading X) (Means : X → List ℕ → Type 0) : Type 0 where
  pub sound : (bytes : List ℕ) (x : X) (rest : List ℕ) → IsBytes bytes → at bytes ≡ Ok (x, rest) → Found Means bytes x rest
  pub complete : (x : X) (text rest : List ℕ) → Means x text → at (text ++ rest) ≡ Ok (x, rest)
  pub steady_ok : (bytes : List ℕ) (x : X) (rest more : List ℕ) → at bytes ≡ Ok (x, rest) → at (bytes ++ more) ≡ Ok (x, rest ++ more)
  pub steady_bad : (bytes : List ℕ) (left : ℕ) (more : List ℕ) → at bytes ≡ Err (Bad left) → at (bytes ++ more) ≡ Err (Bad (left + length more))
  pub inside : (bytes : List ℕ) (left : ℕ) → IsBytes bytes → at bytes ≡ Err (Bad left) → left ≤ length bytes
  pub before : (front back : List ℕ) → IsBytes (front ++ back) → at (front ++ back) ≡ Err (Bad (length back)) → at front ≡ Err Short

-- the same reading, meant otherwise
pub said_as : {X : Type 0} {at : Reading X} {Means Other : X → List ℕ → Type 0} → ((x : X) (t : List ℕ) → Means x t → Other x t) → ((x : X) (t : List ℕ) → Other x t → Means x t) → Law at Means → Law at Other
said_as to from law =
    record {
      sound = λ bytes x rest fits e. let f = law.sound bytes x rest fits e in record { text = f.text; parts = f.parts; means = to _ _ f.means };
      complete = λ x text rest h. law.complete x text rest (from _ _ h);
      steady_ok = law.steady_ok;
      steady_bad = law.steady_bad;
      inside = law.inside;
      before = law.before;
    }

-- another reading that gives the same
pub same_reading : {X : Type 0} {at other : Reading X} {Means : X → List ℕ → Type 0} → ((bytes : List ℕ) → at bytes ≡ other bytes) → Law at Means → Law other Means
same_reading same law =
    record {
      sound = λ bytes x rest fits e. law.sound bytes x rest fits (same bytes ∙ e);
      complete = λ x text rest h. sym (same (text ++ rest)) ∙ law.complete x text rest h;
      steady_ok = λ bytes x rest more e. sym (same (bytes ++ more)) ∙ law.steady_ok bytes x rest more (same bytes ∙ e);
      steady_bad = λ bytes left more e. sym (same (bytes ++ more)) ∙ law.steady_bad bytes left more (same bytes ∙ e);
      inside = λ bytes left fits e. law.inside bytes left fits (same bytes ∙ e);
      before = λ front back fits e. sym (same front) ∙ law.before front back fits (same (front ++ back) ∙ e);
    }

-- ONE AFTER THE OTHER

-- where the second rest begins no later than the first, it holds that
begins_earlier : (front back text rest : List ℕ) → front ++ back ≡ text ++ rest → length back ≤ length rest → (middle : List ℕ) × (front ≡ text ++ middle) × (rest ≡ middle ++ back)
begins_earlier front back [] rest e le = (front, refl, sym e)
begins_earlier [] back (b ∷ text) rest e le = absurd (omega (arith, ap length e, length-append text rest))
begins_earlier (a ∷ front) back (b ∷ text) rest e le =
    let heads : a ≡ b = cc in
    let tails : front ++ back ≡ text ++ rest = cc in
    let c = begins_earlier front back text rest tails le in
    (c.0, ap (λ n. n ∷ front) heads ∙ ap (λ t. b ∷ t) c.1, c.2)

bind_ok : {A B : Type 0} (r : Result A Flaw) (f : A → Result B Flaw) (y : B) → (r >>= f) ≡ Ok y → (x : A) × (r ≡ Ok x) × (f x ≡ Ok y)
bind_ok (Ok x) f y e = (x, refl, e)
bind_ok (Err d) f y e = absurd cc

abbrev pair : {Y : Type 0} → Y → List ℕ → Y × List ℕ
pair y r = (y, r)

abbrev done : {A : Type 0} → A → Result A Flaw
done x = Ok x

ok_parts : {Y : Type 0} (y z : Y) (r s : List ℕ) → done (pair y r) ≡ done (pair z s) → (y ≡ z) × (r ≡ s)
ok_parts {Y} y z r s e = let p : pair y r ≡ pair z s = cc in (ap (λ (q : Y × List ℕ). q.0) p, ap (λ (q : Y × List ℕ). q.1) p)

-- the first step ended the reading, or the second one
pub data Ended {A B : Type 0} (r : Result A Flaw) (f : A → Result B Flaw) (left : ℕ) : Type 0 where
  at_first : r ≡ Err (Bad left) → Ended r f left
  at_second : (x : A) → r ≡ Ok x → f x ≡ Err (Bad left) → Ended r f left

bind_bad : {A B : Type 0} (r : Result A Flaw) (f : A → Result B Flaw) (left : ℕ) → (r >>= f) ≡ Err (Bad left) → Ended r f left
bind_bad (Ok x) f left e = Ended.at_second x refl e
bind_bad (Err d) f left e = Ended.at_first cc

pub step : {A Y : Type 0} {at : Reading A} {May : A → Type 0} {text : A → List ℕ} {after : A → Reading Y} {More : A → Y → List ℕ → Type 0}
    → Law at (Spelled May text) → ((a : A) → Law (after a) (More a)) → Law (λ bytes. at bytes >>= λ r. after r.0 r.1) (Begins May text More)
step {A} {Y} {at} {May} {text} {after} {More} law laws =
    record {
      sound = λ bytes y rest fits e.
          let b = bind_ok (at bytes) (λ r. after r.0 r.1) (y, rest) e in
          let f = law.sound bytes b.0.0 b.0.1 fits b.1 in
          let g = (laws b.0.0).sound b.0.1 y rest (IsBytes-rest f.text b.0.1 (subst IsBytes f.parts fits)) b.2 in
          record {
            text = f.text ++ g.text;
            parts = f.parts ∙ ap (λ t. f.text ++ t) g.parts ∙ sym (append_assoc f.text g.text rest);
            means = record { first = b.0.0; behind = g.text; may = f.means.may; more = g.means; is = ap (λ t. t ++ g.text) f.means.is };
          };
      complete = λ y t rest h.
          let regrouped : t ++ rest ≡ text h.first ++ (h.behind ++ rest) = ap (λ u. u ++ rest) h.is ∙ append_assoc (text h.first) h.behind rest in
          let first : at (t ++ rest) ≡ Ok (h.first, h.behind ++ rest) = ap at regrouped ∙ law.complete h.first (text h.first) (h.behind ++ rest) (record { may = h.may; is = refl }) in
          rw first ((laws h.first).complete y h.behind rest h.more);
      steady_ok = λ bytes y rest more e.
          let b = bind_ok (at bytes) (λ r. after r.0 r.1) (y, rest) e in
          rw (law.steady_ok bytes b.0.0 b.0.1 more b.1) ((laws b.0.0).steady_ok b.0.1 y rest more b.2);
      steady_bad = λ bytes left more e.
          elim (bind_bad (at bytes) (λ r. after r.0 r.1) left e) [
            | Ended.at_first h ↦ rw (law.steady_bad bytes left more h) refl
            | Ended.at_second x h k ↦ rw (law.steady_ok bytes x.0 x.1 more h) ((laws x.0).steady_bad x.1 left more k)
          ];
      inside = λ bytes left fits e.
          elim (bind_bad (at bytes) (λ r. after r.0 r.1) left e) [
            | Ended.at_first h ↦ law.inside bytes left fits h
            | Ended.at_second x h k ↦
                let f = law.sound bytes x.0 x.1 fits h in
                let le = (laws x.0).inside x.1 left (IsBytes-rest f.text x.1 (subst IsBytes f.parts fits)) k in
                omega (arith, ap length f.parts, length-append f.text x.1)
          ];
      before = λ front back fits e.
          elim (bind_bad (at (front ++ back)) (λ r. after r.0 r.1) (length back) e) [
            | Ended.at_first h ↦ rw (law.before front back fits h) refl
            | Ended.at_second x h k ↦
                let f = law.sound (front ++ back) x.0 x.1 fits h in
                let rest-fits = IsBytes-rest f.text x.1 (subst IsBytes f.parts fits) in
                let c = begins_earlier front back f.text x.1 f.parts ((laws x.0).inside x.1 (length back) rest-fits k) in
                let first : at front ≡ Ok (x.0, c.0) = ap at c.1 ∙ law.complete x.0 f.text c.0 f.means in
                let second = (laws x.0).before c.0 back (subst IsBytes c.2 rest-fits) (ap (after x.0) (sym c.2) ∙ k) in
                rw first second
          ];
    }

pub last : {A Y : Type 0} {at : Reading A} {May : A → Type 0} {text : A → List ℕ} (made : A → Y) → Law at (Spelled May text) → Law (λ bytes. at bytes >>= λ r. Ok (made r.0, r.1)) (Ends May text made)
last {A} {Y} {at} {May} {text} made law =
    record {
      sound = λ bytes y rest fits e.
          let b = bind_ok (at bytes) (λ r. Ok (made r.0, r.1)) (y, rest) e in
          let f = law.sound bytes b.0.0 b.0.1 fits b.1 in
          let same : (made b.0.0 ≡ y) × (b.0.1 ≡ rest) = ok_parts (made b.0.0) y b.0.1 rest b.2 in
          record {
            text = f.text;
            parts = f.parts ∙ ap (λ t. f.text ++ t) same.1;
            means = record { last = b.0.0; may = f.means.may; is = f.means.is; whole = sym same.0 };
          };
      complete = λ y t rest h.
          let first : at (t ++ rest) ≡ Ok (h.last, rest) = law.complete h.last t rest (record { may = h.may; is = h.is }) in
          rw (first, h.whole) refl;
      steady_ok = λ bytes y rest more e.
          let b = bind_ok (at bytes) (λ r. Ok (made r.0, r.1)) (y, rest) e in
          let same : (made b.0.0 ≡ y) × (b.0.1 ≡ rest) = ok_parts (made b.0.0) y b.0.1 rest b.2 in
          rw (law.steady_ok bytes b.0.0 b.0.1 more b.1, same.0, same.1) refl;
      steady_bad = λ bytes left more e.
          elim (bind_bad (at bytes) (λ r. Ok (made r.0, r.1)) left e) [
            | Ended.at_first h ↦ rw (law.steady_bad bytes left more h) refl
            | Ended.at_second x h k ↦ absurd cc
          ];
      inside = λ bytes left fits e.
          elim (bind_bad (at bytes) (λ r. Ok (made r.0, r.1)) left e) [
            | Ended.at_first h ↦ law.inside bytes left fits h
            | Ended.at_second x h k ↦ absurd cc
          ];
      before = λ front back fits e.
          elim (bind_bad (at (front ++ back)) (λ r. Ok (made r.0, r.1)) (length back) e) [
            | Ended.at_first h ↦ rw (law.before front back fits h) refl
            | Ended.at_second x h k ↦ absurd cc
          ];
    }

-- NUMBERS AND BYTES

-- numbers below the limit and the bytes of this width tell each other
pub record IsWide (w : Width) (limit : ℕ) : Type 0 where
  pub wide : 1 ≤ byte_len w
  pub len : (n : ℕ) → length (to_be_bytes w n) ≡ byte_len w
  pub back : (bytes : List ℕ) → length bytes ≡ byte_len w → IsBytes bytes → to_be_bytes w (from_be_bytes w bytes) ≡ bytes
  pub again : (n : ℕ) → n < limit → from_be_bytes w (to_be_bytes w n) ≡ n
  pub below : (bytes : List ℕ) → IsBytes bytes → from_be_bytes w bytes < limit
  pub bytes : (n : ℕ) → IsBytes (to_be_bytes w n)

of_one : (bytes : List ℕ) → length bytes ≡ 1 → IsBytes bytes → to_be_bytes w8 (from_be_bytes w8 bytes) ≡ bytes
of_one [] len fits = absurd (omega arith)
of_one (b ∷ []) len fits = let small : b < 256 = fits 0 in ap (λ (c : ℕ). c ∷ []) (mod-eq_of_lt small)
of_one (b ∷ c ∷ bytes) len fits = absurd (omega arith)

pub wide8 : IsWide w8 (2 ^ 8)
wide8 = record {
  wide = omega arith;
  len = λ n. refl;
  back = of_one;
  again = λ n lt. omega arith;
  below = λ bytes fits. omega (arith, fits 0);
  bytes = λ n. each_byte (to_be_bytes w8 n) (omega arith, tt);
}

pub wide16 : IsWide w16 (2 ^ 16)
wide16 = record {
  wide = omega arith;
  len = λ n. refl;
  back = λ bytes len fits. be_bytes_2 bytes _ len fits refl;
  again = from_be_bytes-to_be_bytes_2;
  below = λ bytes fits. omega (arith, fits 0, fits 1);
  bytes = λ n. each_byte (to_be_bytes w16 n) (omega arith, (omega arith, tt));
}

pub wide32 : IsWide w32 (2 ^ 32)
wide32 = record {
  wide = omega arith;
  len = λ n. refl;
  back = λ bytes len fits. be_bytes_4 bytes _ len fits refl;
  again = from_be_bytes-to_be_bytes_4;
  below = λ bytes fits. omega (arith, fits 0, fits 1, fits 2, fits 3);
  bytes = λ n. each_byte (to_be_bytes w32 n) (omega arith, (omega arith, (omega arith, (omega arith, tt))));
}

pub wide64 : IsWide w64 (2 ^ 64)
wide64 = record {
  wide = omega arith;
  len = λ n. refl;
  back = λ bytes len fits. be_bytes_8 bytes _ len fits refl;
  again = from_be_bytes-to_be_bytes_8;
  below = λ bytes fits. omega (arith, fits 0, fits 1, fits 2, fits 3, fits 4, fits 5, fits 6, fits 7);
  bytes = λ n. each_byte (to_be_bytes w64 n) (omega arith, (omega arith, (omega arith, (omega arith, (omega arith, (omega arith, (omega arith, (omega arith, tt))))))));
}

-- a value made of so many bytes
abbrev made_of : {X : Type 0} → ℕ → (List ℕ → X) → Reading X
made_of n made bytes = cond (ltb (length bytes) n) (Err Short) (Ok (made (take n bytes), drop n bytes))

guard_ok : {A : Type 0} (b : Bool) (d : Flaw) (x y : A) → cond b (Err d) (Ok x) ≡ Ok y → (b ≡ false) × (x ≡ y)
guard_ok true d x y e = absurd cc
guard_ok false d x y e = (refl, cc)

never_bad : {A : Type 0} (b : Bool) (x : A) (left : ℕ) {G : Type 0} → cond b (Err Short) (Ok x) ≡ Err (Bad left) → G
never_bad true x left e = absurd cc
never_bad false x left e = absurd cc

long_enough : {X : Type 0} (n : ℕ) (made : List ℕ → X) (bytes : List ℕ) (x : X) (rest : List ℕ) → made_of n made bytes ≡ Ok (x, rest) → (n ≤ length bytes) × (made (take n bytes) ≡ x) × (drop n bytes ≡ rest)
long_enough {X} n made bytes x rest e =
    let g = guard_ok (ltb (length bytes) n) Short (pair (made (take n bytes)) (drop n bytes)) (pair x rest) e in
    (ltb-false _ _ g.0, ap (λ (q : X × List ℕ). q.0) g.1, ap (λ (q : X × List ℕ). q.1) g.1)

pub made_law : {X : Type 0} (n : ℕ) (made : List ℕ → X) (May : X → Type 0) (text : X → List ℕ)
    → ((bytes : List ℕ) → IsBytes bytes → length bytes ≡ n → May (made bytes) × (text (made bytes) ≡ bytes))
    → ((x : X) → May x → (length (text x) ≡ n) × (made (text x) ≡ x)) → Law (made_of n made) (Spelled May text)
made_law n made May text told taken =
    record {
      sound = λ bytes x rest fits e.
          let h = long_enough n made bytes x rest e in
          let t = told (take n bytes) (IsBytes-take n bytes fits) (omega (arith, length-take n bytes)) in
          record {
            text = take n bytes;
            parts = sym (take-append-drop n bytes) ∙ ap (λ r. take n bytes ++ r) h.2;
            means = record { may = subst May h.1 t.0; is = sym (ap text (sym h.1) ∙ t.1) };
          };
      complete = λ x t rest h.
          let k = taken x h.may in
          let len : length t ≡ n = ap length h.is ∙ k.0 in
          let long : ltb (length (t ++ rest)) n ≡ false = le-ltb _ _ (omega (arith, length-append t rest)) in
          rw (long, take_at t rest n len, drop_at t rest n len, h.is, k.1) refl;
      steady_ok = λ bytes x rest more e.
          let h = long_enough n made bytes x rest e in
          let long : ltb (length (bytes ++ more)) n ≡ false = le-ltb _ _ (omega (arith, length-append bytes more)) in
          rw (long, take-append-le n bytes more h.0, drop-append-le n bytes more h.0, h.1, h.2) refl;
      steady_bad = λ bytes left more e. never_bad (ltb (length bytes) n) (pair (made (take n bytes)) (drop n bytes)) left e;
      inside = λ bytes left fits e. never_bad (ltb (length bytes) n) (pair (made (take n bytes)) (drop n bytes)) left e;
      before = λ front back fits e. never_bad (ltb (length (front ++ back)) n) (pair (made (take n (front ++ back))) (drop n (front ++ back))) (length back) e;
    }

pub number_law : {w : Width} {limit : ℕ} → IsWide w limit → Law (number_at w) (Spelled (λ n. n < limit) (to_be_bytes w))
number_law {w} {limit} wide =
    made_law (byte_len w) (from_be_bytes w) (λ n. n < limit) (to_be_bytes w)
    (λ bytes fits len. (wide.below bytes fits, wide.back bytes len fits)) (λ n lt. (wide.len n, wide.again n lt))

pub bytes_law : (n : ℕ) → Law (bytes_at n) (Spelled (λ bytes. length bytes ≡ n) (λ bytes. bytes))
bytes_law n = made_law n (λ bytes. bytes) (λ bytes. length bytes ≡ n) (λ bytes. bytes) (λ bytes fits len. (len, refl)) (λ bytes len. (len, refl))

-- NUMBERS THAT MEAN SOMETHING

nothing_short : {w : Width} {limit : ℕ} → IsWide w limit → number_at w [] ≡ Err Short
nothing_short {w} wide = rw (lt-ltb 0 (byte_len w) wide.wide) refl

meant_ok : {X : Type 0} (left : ℕ) (o : Option X) (rest : List ℕ) (x : X) (r : List ℕ) → meant left o rest ≡ Ok (x, r) → (o ≡ Some x) × (rest ≡ r)
meant_ok left None rest x r e = absurd cc
meant_ok left (Some y) rest x r e = let p = ok_parts y x rest r e in (ap Some p.0, p.1)

meant_bad : {X : Type 0} (left : ℕ) (o : Option X) (rest : List ℕ) (found : ℕ) → meant left o rest ≡ Err (Bad found) → (o ≡ None) × (left ≡ found)
meant_bad left None rest found e = (refl, cc)
meant_bad left (Some y) rest found e = absurd cc

pub meant_law : {X : Type 0} {w : Width} {limit : ℕ} (wide : IsWide w limit) (means : ℕ → Option X) (May : X → Type 0) (number : X → ℕ)
    → ((n : ℕ) (x : X) → n < limit → means n ≡ Some x → May x × (number x ≡ n))
    → ((x : X) → May x → (number x < limit) × (means (number x) ≡ Some x)) → Law (meant_at w means) (Spelled May (λ x. to_be_bytes w (number x)))
meant_law {X} {w} {limit} wide means May number told taken =
    let law = number_law wide in
    record {
      sound = λ bytes x rest fits e.
          let b = bind_ok (number_at w bytes) (λ n. meant (length bytes) (means n.0) n.1) (x, rest) e in
          let f = law.sound bytes b.0.0 b.0.1 fits b.1 in
          let m = meant_ok (length bytes) (means b.0.0) b.0.1 x rest b.2 in
          let t = told b.0.0 x f.means.may m.0 in
          record {
            text = f.text;
            parts = f.parts ∙ ap (λ r. f.text ++ r) m.1;
            means = record { may = t.0; is = f.means.is ∙ ap (to_be_bytes w) (sym t.1) };
          };
      complete = λ x t rest h.
          let k = taken x h.may in
          let read : number_at w (t ++ rest) ≡ Ok (number x, rest) = law.complete (number x) t rest (record { may = k.0; is = h.is }) in
          rw (read, k.1) refl;
      steady_ok = λ bytes x rest more e.
          let b = bind_ok (number_at w bytes) (λ n. meant (length bytes) (means n.0) n.1) (x, rest) e in
          let m = meant_ok (length bytes) (means b.0.0) b.0.1 x rest b.2 in
          rw (law.steady_ok bytes b.0.0 b.0.1 more b.1, m.0, m.1) refl;
      steady_bad = λ bytes left more e.
          elim (bind_bad (number_at w bytes) (λ n. meant (length bytes) (means n.0) n.1) left e) [
            | Ended.at_first h ↦ rw (law.steady_bad bytes left more h) refl
            | Ended.at_second n h k ↦
                let m = meant_bad (length bytes) (means n.0) n.1 left k in
                rw (law.steady_ok bytes n.0 n.1 more h, m.0, length-append bytes more, m.1) refl
          ];
      inside = λ bytes left fits e.
          elim (bind_bad (number_at w bytes) (λ n. meant (length bytes) (means n.0) n.1) left e) [
            | Ended.at_first h ↦ law.inside bytes left fits h
            | Ended.at_second n h k ↦ let m = meant_bad (length bytes) (means n.0) n.1 left k in omega (arith, m.1)
          ];
      before = λ front back fits e.
          elim (bind_bad (number_at w (front ++ back)) (λ n. meant (length (front ++ back)) (means n.0) n.1) (length back) e) [
            | Ended.at_first h ↦ rw (law.before front back fits h) refl
            | Ended.at_second n h k ↦
                let m = meant_bad (length (front ++ back)) (means n.0) n.1 (length back) k in
                let none : front ≡ [] = nil_from_length front (omega (arith, m.1, length-append front back)) in
                rw (none, nothing_short wide) refl
          ];
    }

-- a number, where it passes
abbrev passed : Bool → ℕ → Option ℕ
passed b n = cond b (Some n) None

same_test : (b : Bool) (n : ℕ × List ℕ) (left : ℕ) → meant left (passed b n.0) n.1 ≡ cond b (Ok n) (Err (Bad left))
same_test true n left = refl
same_test false n left = refl

same_after : {A B : Type 0} (r : Result A Flaw) (f g : A → Result B Flaw) → ((x : A) → f x ≡ g x) → (r >>= f) ≡ (r >>= g)
same_after (Ok x) f g h = h x
same_after (Err e) f g h = refl

passed_is : (b : Bool) (n m : ℕ) → passed b n ≡ Some m → (b ≡ true) × (m ≡ n)
passed_is true n m e = (refl, cc)
passed_is false n m e = absurd cc

pub tested_law : {w : Width} {limit : ℕ} (wide : IsWide w limit) (test : ℕ → Bool) (May : ℕ → Type 0) → ((n : ℕ) → n < limit → test n ≡ true → May n)
    → ((n : ℕ) → May n → (n < limit) × (test n ≡ true)) → Law (tested_at w test) (Spelled May (to_be_bytes w))
tested_law {w} {limit} wide test May passes may =
    same_reading (λ bytes. same_after (number_at w bytes) (λ n. meant (length bytes) (passed (test n.0) n.0) n.1) (λ n. cond (test n.0) (Ok n) (Err (Bad (length bytes)))) (λ n. same_test (test n.0) n (length bytes)))
    (meant_law wide (λ n. passed (test n) n) May (λ n. n)
    (λ n m lt e. let p = passed_is (test n) n m e in (subst May (sym p.1) (passes n lt p.0), p.1))
    (λ n m. let k = may n m in (k.0, ap (λ b. passed b n) k.1)))

-- LISTS

-- each may stand, in a state that those before it moved
abbrev pub AllFrom : {S X : Type 0} → (S → X → Type 0) → (S → X → S) → S → List X → Type 0
AllFrom May moved s [] = Unit {0}
AllFrom May moved s (x ∷ xs) = May s x × AllFrom May moved (moved s x) xs

-- nothing was read
pub record Nothing {Y : Type 0} (made y : Y) (t : List ℕ) : Type 0 where
  pub is : t ≡ []
  pub whole : y ≡ made

pub nothing : {Y : Type 0} (made : Y) → Law (λ bytes. Ok (made, bytes)) (Nothing made)
nothing made =
    record {
      sound = λ bytes y rest fits e. let p = ok_parts made y bytes rest e in record { text = []; parts = p.1; means = record { is = refl; whole = sym p.0 } };
      complete = λ y t rest h. rw (h.is, h.whole) refl;
      steady_ok = λ bytes y rest more e. let p = ok_parts made y bytes rest e in rw (p.0, p.1) refl;
      steady_bad = λ bytes left more e. absurd cc;
      inside = λ bytes left fits e. absurd cc;
      before = λ front back fits e. absurd cc;
    }

abbrev pub SoMany : {S X : Type 0} → (S → X → Type 0) → (S → X → S) → S → ℕ → List X → Type 0
SoMany May moved s n xs = (length xs ≡ n) × AllFrom May moved s xs

module _ {S X : Type 0} (May : S → X → Type 0) (moved : S → X → S) (text : X → List ℕ) where
  none_left : (s : S) (xs : List X) (t : List ℕ) → Nothing [] xs t → Spelled (SoMany May moved s 0) (flat_map text) xs t
  none_left s xs t h = record { may = subst (SoMany May moved s 0) (sym h.whole) (refl, tt); is = h.is ∙ ap (flat_map text) (sym h.whole) }

  left_none : (s : S) (xs : List X) (t : List ℕ) → Spelled (SoMany May moved s 0) (flat_map text) xs t → Nothing [] xs t
  left_none s [] t h = record { is = h.is; whole = refl }
  left_none s (x ∷ xs) t h = absurd (omega (arith, h.may.0))

  OneMore : S → ℕ → List X → List ℕ → Type 0
  OneMore s n = Begins (May s) text (λ x. Ends (SoMany May moved (moved s x) n) (flat_map text) (λ xs. x ∷ xs))

  one_more : (s : S) (n : ℕ) (ys : List X) (t : List ℕ) → OneMore s n ys t → Spelled (SoMany May moved s (suc n)) (flat_map text) ys t
  unfolding OneMore
  one_more s n ys t h =
      let e = h.more.whole in
      record {
        may = subst (SoMany May moved s (suc n)) (sym e) (ap suc h.more.may.0, (h.may, h.more.may.1));
        is = h.is ∙ ap (λ u. text h.first ++ u) h.more.is ∙ sym (flat_map-cons text h.first h.more.last) ∙ ap (flat_map text) (sym e);
      }

  more_one : (s : S) (n : ℕ) (ys : List X) (t : List ℕ) → Spelled (SoMany May moved s (suc n)) (flat_map text) ys t → OneMore s n ys t
  unfolding OneMore
  more_one s n [] t h = absurd (omega (arith, h.may.0))
  more_one s n (x ∷ xs) t h =
      record {
        first = x;
        behind = flat_map text xs;
        may = h.may.1.0;
        more = record { last = xs; may = (omega (arith, h.may.0), h.may.1.1); is = refl; whole = refl };
        is = h.is ∙ flat_map-cons text x xs;
      }

  pub many_law : {one : S → Reading X} {many : S → ℕ → Reading (List X)} → IsLoop one moved many → ((s : S) → Law (one s) (Spelled (May s) text))
      → (n : ℕ) (s : S) → Law (many s n) (Spelled (SoMany May moved s n) (flat_map text))
  unfolding OneMore
  many_law loop laws zero s = same_reading (λ bytes. sym (loop.none s bytes)) (said_as (none_left s) (left_none s) (nothing []))
  many_law loop laws (suc n) s =
      same_reading (λ bytes. sym (loop.more s n bytes)) (said_as (one_more s n) (more_one s n) (step (laws s) (λ x. last (λ xs. x ∷ xs) (many_law loop laws n (moved s x)))))

-- A VALUE BEHIND A FLAG

abbrev Chosen : {X : Type 0} → Bool → (X → List ℕ → Type 0) → (X → List ℕ → Type 0) → X → List ℕ → Type 0
Chosen true Means Other = Means
Chosen false Means Other = Other

chosen_law : {X : Type 0} {at other : Reading X} {Means Other : X → List ℕ → Type 0} (b : Bool) → Law at Means → Law other Other → Law (λ bytes. cond b (at bytes) (other bytes)) (Chosen b Means Other)
chosen_law true law other = law
chosen_law false law other = other

flag_law : Law (tested_at w8 (λ n. nat_le n 1)) (Spelled (λ n. n ≤ 1) (to_be_bytes w8))
flag_law = tested_law wide8 (λ n. nat_le n 1) (λ n. n ≤ 1) (λ n lt e. leb-true n 1 e) (λ n le. (omega arith, le-leb n 1 le))

module _ {X : Type 0} (May : X → Type 0) (text : X → List ℕ) where
  Flagged : Option X → List ℕ → Type 0
  Flagged = Begins (λ n. n ≤ 1) (to_be_bytes w8) (λ n. Chosen (n == 0) (Nothing None) (Ends May text Some))

  after_flag : (n : ℕ) (o : Option X) (u t : List ℕ) → n ≤ 1 → Chosen (n == 0) (Nothing None) (Ends May text Some) o u → t ≡ to_be_bytes w8 n ++ u → Spelled (λ x. IfSome x May) (option_text text) o t
  after_flag zero o u t le h e = record { may = subst (λ x. IfSome x May) (sym h.whole) tt; is = e ∙ ap (λ r. to_be_bytes w8 0 ++ r) h.is ∙ ap (option_text text) (sym h.whole) }
  after_flag (suc zero) o u t le h e = record { may = subst (λ x. IfSome x May) (sym h.whole) h.may; is = e ∙ ap (λ r. to_be_bytes w8 1 ++ r) h.is ∙ ap (option_text text) (sym h.whole) }
  after_flag (suc (suc n)) o u t le h e = absurd (omega arith)

  before_flag : (o : Option X) (t : List ℕ) → Spelled (λ x. IfSome x May) (option_text text) o t → Flagged o t
  unfolding Flagged
  before_flag None t h = record { first = 0; behind = []; may = omega arith; more = record { is = refl; whole = refl }; is = h.is }
  before_flag (Some x) t h = record { first = 1; behind = text x; may = omega arith; more = record { last = x; may = h.may; is = refl; whole = refl }; is = h.is }

  pub option_law : {at : Reading X} → Law at (Spelled May text) → Law (option_at at) (Spelled (λ x. IfSome x May) (option_text text))
  unfolding option_at Flagged
  option_law law = said_as (λ o t h. after_flag h.first o h.behind t h.may h.more h.is) before_flag (step flag_law (λ n. chosen_law (n == 0) (nothing None) (last Some law)))

-- WHAT FOLLOWS FROM A LAW

module _ {X : Type 0} {at : Reading X} {May : X → Type 0} {text : X → List ℕ} (law : Law at (Spelled May text)) where
  -- what was put is read again, whatever follows
  pub read_again : (x : X) (rest : List ℕ) → May x → at (text x ++ rest) ≡ Ok (x, rest)
  read_again x rest may = law.complete x (text x) rest (record { may = may; is = refl })

  pub read_whole : (x : X) → May x → at (text x) ≡ Ok (x, [])
  read_whole x may = ap at (sym (append-nil (text x))) ∙ read_again x [] may

  -- what is read has a spelling, and that stands there
  pub spelled : (bytes : List ℕ) (x : X) (rest : List ℕ) → IsBytes bytes → at bytes ≡ Ok (x, rest) → May x × (bytes ≡ text x ++ rest)
  spelled bytes x rest fits e = let f = law.sound bytes x rest fits e in (f.means.may, f.parts ∙ ap (λ t. t ++ rest) f.means.is)

  -- no spelling begins another
  pub one_spelling : (x y : X) (r s : List ℕ) → May x → May y → text x ++ r ≡ text y ++ s → (x ≡ y) × (r ≡ s)
  one_spelling x y r s may may' e = ok_parts x y r s (sym (read_again x r may) ∙ ap at e ∙ read_again y s may')

  ended_short : (x : X) (front behind : List ℕ) (b : ℕ) (read : Result (X × List ℕ) Flaw) → May x → text x ≡ front ++ b ∷ behind → at front ≡ read → read ≡ Err Short
  ended_short x front behind b (Ok found) may e is =
      let longer = law.steady_ok front found.0 found.1 (b ∷ behind) is in
      let whole = read_whole x may in
      let same = ok_parts found.0 x (found.1 ++ b ∷ behind) [] (sym longer ∙ ap at (sym e) ∙ whole) in
      absurd (omega (arith, ap length same.1, length-append found.1 (b ∷ behind)))
  ended_short x front behind b (Err Short) may e is = refl
  ended_short x front behind b (Err (Bad left)) may e is =
      let longer = law.steady_bad front left (b ∷ behind) is in
      let whole = read_whole x may in
      absurd (cc (longer, whole, ap at e))

  -- a spelling that is cut ends inside the value
  pub cut : (x : X) (front behind : List ℕ) (b : ℕ) → May x → text x ≡ front ++ b ∷ behind → at front ≡ Err Short
  cut x front behind b may e = ended_short x front behind b (at front) may e refl

  pub has_one_spelling : HasOneSpelling at May text
  has_one_spelling =
      record {
        again = read_again;
        spelled = spelled;
        alone = λ x y rest may may' e. one_spelling x y rest [] may may' (e ∙ sym (append-nil (text y)));
        cut = cut;
        broken = law.steady_bad;
        before = law.before;
      }
