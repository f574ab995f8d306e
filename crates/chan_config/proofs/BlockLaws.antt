-- The first refusal of a block.
use Rattle.std.proofs.Common.{◌≡◌, ℕ, ◌≤◌, ◌^◌, Bool, true, false, not, ◌&&◌, if◌then◌else◌, List, refl, sym, ap, subst, ◌∙◌, Some, None}
use Rattle.std.specs.Prelude.{◌↔◌, ◌==◌, Option, nat_lt}
use Rattle.std.specs.Option.{is_none, option_map}
use Rattle.std.specs.Str.{bytes_eq}
use Rattle.std.proofs.lemmas.Bool.{and_parts, and_right, both_ways, le-ltb}
use Rattle.std.proofs.lemmas.Option.{none-some, same_Some}
use Rattle.chan_config.specs.Blocks.{Block, Config, are_lawful, content_fits, has_number, is_lawful, is_next_at, meta_fits}
use Rattle.chan_config.specs.Refusals.{first_unlawful, refusal_at}
use Rattle.chan_config.specs.Laws.{IsRefusal, RefusesRightly}
use Rattle.chan_config.specs.declared.checks.BlockRefusal.{BlockRefusal}
use Rattle.chan_config.specs.declared.checks.BlockRefusal.TheVariants.{WrongNumber, WrongPrevious, WrongContent, WrongMeta, WrongConfig, Unlawful, NoMemory}
use Rattle.chan_config.proofs.RequestLaws.{finds_rightly}

-- the chain of causes, by its tests
abbrev first_of : Bool → Bool → Bool → Bool → Bool → BlockRefusal → BlockRefusal → BlockRefusal → Option BlockRefusal → Option BlockRefusal
first_of n p k m c number previous config rest =
    if not n then Some number else if not p then Some previous else if not k then Some WrongContent else if not m then Some WrongMeta
    else if not c then Some config else rest

-- which test stopped it
first_is : (n p k m c : Bool) (number previous config r : BlockRefusal) (rest : Option BlockRefusal) (P : BlockRefusal → Type 0)
    → (n ≡ false → P number) → (n ≡ true → p ≡ false → P previous) → ((n && p) ≡ true → k ≡ false → P WrongContent)
    → ((n && p && k) ≡ true → m ≡ false → P WrongMeta) → ((n && p && (k && m)) ≡ true → c ≡ false → P config)
    → ((n && p && (k && m)) ≡ true → c ≡ true → rest ≡ Some r → P r)
    → first_of n p k m c number previous config rest ≡ Some r → P r
first_is false p k m c number previous config r rest P a b d e f g h = subst P (same_Some number r h) (a refl)
first_is true false k m c number previous config r rest P a b d e f g h = subst P (same_Some previous r h) (b refl refl)
first_is true true false m c number previous config r rest P a b d e f g h = subst P (same_Some WrongContent r h) (d refl refl)
first_is true true true false c number previous config r rest P a b d e f g h = subst P (same_Some WrongMeta r h) (e refl refl)
first_is true true true true false number previous config r rest P a b d e f g h = subst P (same_Some config r h) (f refl refl)
first_is true true true true true number previous config r rest P a b d e f g h = g refl refl h

-- none stopped it
none_is : (n p k m c l : Bool) (number previous config : BlockRefusal) (rest : Option BlockRefusal) → ((rest ≡ None) ↔ (l ≡ true))
    → (first_of n p k m c number previous config rest ≡ None) ↔ ((n && p && (k && m) && (c && l)) ≡ true)
none_is false p k m c l number previous config rest h = ((λ is. absurd (none-some number (sym is))), (λ is. absurd (both_ways false refl is)))
none_is true false k m c l number previous config rest h = ((λ is. absurd (none-some previous (sym is))), (λ is. absurd (both_ways false refl is)))
none_is true true false m c l number previous config rest h = ((λ is. absurd (none-some WrongContent (sym is))), (λ is. absurd (both_ways false refl is)))
none_is true true true false c l number previous config rest h = ((λ is. absurd (none-some WrongMeta (sym is))), (λ is. absurd (both_ways false refl is)))
none_is true true true true false l number previous config rest h = ((λ is. absurd (none-some config (sym is))), (λ is. absurd (both_ways false refl is)))
none_is true true true true true l number previous config rest h = h

map_none : {A B : Type 0} (f : A → B) (o : Option A) → (option_map f o ≡ None) ↔ (o ≡ None)
map_none f None = ((λ h. refl), (λ h. refl))
map_none f (Some x) = ((λ h. absurd (none-some (f x) (sym h))), (λ h. absurd (none-some x (sym h))))

no_refusal : (last : List ℕ) (number : ℕ) (c : Config) (b : Block) → (refusal_at last number c b ≡ None) ↔ (is_next_at last number c b ≡ true)
no_refusal last number c b =
    let map = map_none Unlawful (first_unlawful c b.requests) in
    let law = (finds_rightly c b.requests).none in
    none_is (has_number number b) (bytes_eq b.header.previous last) (content_fits b) (meta_fits b) (b.meta.config == c.number) (are_lawful c b.requests)
    (WrongNumber b.header.number) (WrongPrevious b.header.previous last) (WrongConfig b.meta.config) (option_map Unlawful (first_unlawful c b.requests))
    ((λ h. law.0 (map.0 h)), (λ h. map.1 (law.1 h)))

is_none-next : (o : Option BlockRefusal) (t : Bool) → ((o ≡ None) ↔ (t ≡ true)) → is_none o ≡ t
is_none-next None t h = sym (h.0 refl)
is_none-next (Some r) true h = absurd (none-some r (sym (h.1 refl)))
is_none-next (Some r) false h = refl

-- a block is not refused exactly where it may come next
pub none_refused : (last : List ℕ) (number : ℕ) (c : Config) (b : Block) → is_none (refusal_at last number c b) ≡ is_next_at last number c b
none_refused last number c b = is_none-next (refusal_at last number c b) (is_next_at last number c b) (no_refusal last number c b)

pub next_where : (last : List ℕ) (number : ℕ) (c : Config) (b : Block) (t : Bool) (o : Option BlockRefusal) → o ≡ refusal_at last number c b → is_none o ≡ t → t ≡ is_next_at last number c b
next_where last number c b t o is none = sym none ∙ ap is_none is ∙ none_refused last number c b

-- no block has a number that the format has no room for
pub none_past : (last : List ℕ) (number : ℕ) (c : Config) (b : Block) → 2 ^ 62 ≤ number → is_next_at last number c b ≡ false
none_past last number c b past =
    let none : has_number number b ≡ false = and_right (b.header.number == number) (nat_lt number (2 ^ 62)) (le-ltb number (2 ^ 62) past) in
    ap (λ (t : Bool). t && bytes_eq b.header.previous last && (content_fits b && meta_fits b) && is_lawful c b) none

unlawful_is : (last : List ℕ) (number : ℕ) (c : Config) (b : Block) (r : BlockRefusal) (o : Option ℕ) → first_unlawful c b.requests ≡ o
    → (has_number number b && bytes_eq b.header.previous last && (content_fits b && meta_fits b)) ≡ true → (b.meta.config == c.number) ≡ true
    → option_map Unlawful o ≡ Some r → IsRefusal last number c b r
unlawful_is last number c b r None is linked config h = absurd (none-some r h)
unlawful_is last number c b r (Some i) is linked config h =
    subst (IsRefusal last number c b) (same_Some (Unlawful i) r h) (linked, config, ((finds_rightly c b.requests).each i).0 is)

refusal_is : (last : List ℕ) (number : ℕ) (c : Config) (b : Block) (r : BlockRefusal) → refusal_at last number c b ≡ Some r → IsRefusal last number c b r
refusal_is last number c b r h =
    first_is (has_number number b) (bytes_eq b.header.previous last) (content_fits b) (meta_fits b) (b.meta.config == c.number)
    (WrongNumber b.header.number) (WrongPrevious b.header.previous last) (WrongConfig b.meta.config) r (option_map Unlawful (first_unlawful c b.requests))
    (IsRefusal last number c b) (λ n. (n, refl)) (λ n p. (n, p, refl, refl)) (λ n k. (n, k)) (λ n m. (n, m)) (λ n o. (n, o, refl))
    (λ n o rest. unlawful_is last number c b r (first_unlawful c b.requests) refl n o rest) h

-- the tests decide
at_number : (n p k m c : Bool) (number previous config : BlockRefusal) (rest : Option BlockRefusal) → n ≡ false → first_of n p k m c number previous config rest ≡ Some number
at_number false p k m c number previous config rest a = refl
at_number true p k m c number previous config rest a = absurd (both_ways true a refl)

at_previous : (n p k m c : Bool) (number previous config : BlockRefusal) (rest : Option BlockRefusal) → n ≡ true → p ≡ false → first_of n p k m c number previous config rest ≡ Some previous
at_previous n p k m c number previous config rest a b = rw (a, b) refl

at_content : (n p k m c : Bool) (number previous config : BlockRefusal) (rest : Option BlockRefusal) → (n && p) ≡ true → k ≡ false → first_of n p k m c number previous config rest ≡ Some WrongContent
at_content n p k m c number previous config rest a b = let d = and_parts n p a in rw (d.0, d.1, b) refl

at_meta : (n p k m c : Bool) (number previous config : BlockRefusal) (rest : Option BlockRefusal) → (n && p && k) ≡ true → m ≡ false → first_of n p k m c number previous config rest ≡ Some WrongMeta
at_meta n p k m c number previous config rest a b = let d = and_parts (n && p) k a in let e = and_parts n p d.0 in rw (e.0, e.1, d.1, b) refl

after_meta : (n p k m c : Bool) (number previous config : BlockRefusal) (rest : Option BlockRefusal) → (n && p && (k && m)) ≡ true → first_of n p k m c number previous config rest ≡ (if not c then Some config else rest)
after_meta n p k m c number previous config rest a =
    let d = and_parts (n && p) (k && m) a in let e = and_parts n p d.0 in let f = and_parts k m d.1 in rw (e.0, e.1, f.0, f.1) refl

is_refusal : (last : List ℕ) (number : ℕ) (c : Config) (b : Block) (r : BlockRefusal) → IsRefusal last number c b r → refusal_at last number c b ≡ Some r
is_refusal last number c b (WrongNumber n) h =
    at_number (has_number number b) (bytes_eq b.header.previous last) (content_fits b) (meta_fits b) (b.meta.config == c.number)
    (WrongNumber b.header.number) (WrongPrevious b.header.previous last) (WrongConfig b.meta.config) (option_map Unlawful (first_unlawful c b.requests)) h.0
    ∙ ap (λ n. Some (WrongNumber n)) (sym h.1)
is_refusal last number c b (WrongPrevious named real) h =
    at_previous (has_number number b) (bytes_eq b.header.previous last) (content_fits b) (meta_fits b) (b.meta.config == c.number)
    (WrongNumber b.header.number) (WrongPrevious b.header.previous last) (WrongConfig b.meta.config) (option_map Unlawful (first_unlawful c b.requests)) h.0 h.1
    ∙ ap (λ n. Some (WrongPrevious n last)) (sym h.2) ∙ ap (λ l. Some (WrongPrevious named l)) (sym h.3)
is_refusal last number c b WrongContent h =
    at_content (has_number number b) (bytes_eq b.header.previous last) (content_fits b) (meta_fits b) (b.meta.config == c.number)
    (WrongNumber b.header.number) (WrongPrevious b.header.previous last) (WrongConfig b.meta.config) (option_map Unlawful (first_unlawful c b.requests)) h.0 h.1
is_refusal last number c b WrongMeta h =
    at_meta (has_number number b) (bytes_eq b.header.previous last) (content_fits b) (meta_fits b) (b.meta.config == c.number)
    (WrongNumber b.header.number) (WrongPrevious b.header.previous last) (WrongConfig b.meta.config) (option_map Unlawful (first_unlawful c b.requests)) h.0 h.1
is_refusal last number c b (WrongConfig n) h =
    after_meta (has_number number b) (bytes_eq b.header.previous last) (content_fits b) (meta_fits b) (b.meta.config == c.number)
    (WrongNumber b.header.number) (WrongPrevious b.header.previous last) (WrongConfig b.meta.config) (option_map Unlawful (first_unlawful c b.requests)) h.0
    ∙ ap (λ (t : Bool). if not t then Some (WrongConfig b.meta.config) else option_map Unlawful (first_unlawful c b.requests)) h.1
    ∙ ap (λ n. Some (WrongConfig n)) (sym h.2)
is_refusal last number c b (Unlawful i) h =
    after_meta (has_number number b) (bytes_eq b.header.previous last) (content_fits b) (meta_fits b) (b.meta.config == c.number)
    (WrongNumber b.header.number) (WrongPrevious b.header.previous last) (WrongConfig b.meta.config) (option_map Unlawful (first_unlawful c b.requests)) h.0
    ∙ ap (λ (t : Bool). if not t then Some (WrongConfig b.meta.config) else option_map Unlawful (first_unlawful c b.requests)) h.1
    ∙ ap (option_map Unlawful) (((finds_rightly c b.requests).each i).1 h.2)
is_refusal last number c b NoMemory h = absurd h

pub refuses_rightly : (last : List ℕ) (number : ℕ) (c : Config) (b : Block) → RefusesRightly last number c b
refuses_rightly last number c b = record {
  none = no_refusal last number c b;
  each = λ r. ((λ h. refusal_is last number c b r h), (λ h. is_refusal last number c b r h));
}
