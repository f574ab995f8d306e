-- The words of each kind are those that its field fits.
use Rattle.std.proofs.Common.{codes, ◌≡◌, ℕ, ◌-◌, ◌^◌, ◌<◌, ◌≤◌, List, [], ◌∷◌, ◌++◌, length, cond, Bool, true, false, refl, sym, ap, ◌∙◌, arith, Option, Some, None, option_map, nat_eq, nat_le, ◌==◌, inr, drop}
use Rattle.std.proofs.lemmas.Bool.Decides.{Decides-eqb}
use Rattle.std.proofs.lemmas.Slice.Eq.{bytes_eq-Decides, starts_is}
use Rattle.std.proofs.lemmas.Option.{option_and_then_some}
use Rattle.std.proofs.lemmas.List.{drop_at}
use Rattle.std.proofs.lemmas.List.Elements.{All-cons}
use Rattle.std.proofs.lemmas.List.Splits.{join_with_byte-slice_split}
use Rattle.std.specs.List.{slice_split, starts_with}
use Rattle.std.specs.Str.{bytes_eq}
use Rattle.std.specs.Fmt.{decimal}
use Rattle.script.specs.declared.command.Image.{Image}
use Rattle.script.specs.declared.command.Image.TheVariants.{Keep, Undo, Fill}
use Rattle.script.specs.declared.command.VoteKind.{VoteKind}
use Rattle.script.specs.declared.command.VoteKind.TheVariants.{Prepare, Commit}
use Rattle.script.specs.Fields.{number_of, not_zero, id_of, ticks_of, device_call_of, hex_of, payload_of, ids_of, given_ids_of, batch_of, given_batch_of, byzantine_of, byte_of, vote_kind_of, image_of, entry_of, ranges_of}
use Rattle.script.specs.Grammar.{same_as}
use Rattle.script.specs.Commands.{IsId, AreIds, IsImage, IsRange, AreRanges}
use Rattle.script.specs.Printed.{hex_pairs, hex_text, ids_text, vote_text, image_text}
use Rattle.script.specs.Forms.{IsNumber, IsIdsText, IsBehind, Stands}
use Rattle.script.specs.Forms.Kind.{This, Node, Client, Serial, Number, Ticks, Call, Hex, Payload, Ids, Ranges, Vote, Mode, Batch, Byzantine}
use Rattle.script.proofs.FieldFits.{picked, mapped, number_below, not_zero_fits, hex_fits, payload_fits, ids_fit, ranges_fit, image_fits}
use Rattle.script.proofs.NumberTexts.{number_prints, number_was, not_zero_prints}
use Rattle.script.proofs.HexTexts.{hex_prints, hex_was, payload_prints, pair_prints, pair_was}
use Rattle.script.proofs.PartTexts.{ids_print, ids_was, ranges_print, ranges_was}

-- a field fits these words alone, and there is one
pub record Agrees {A : Type 0} (Fits : List ℕ → Type 0) (fits : List ℕ → Option A) : Type 0 where
  pub was : (text : List ℕ) (x : A) → fits text ≡ Some x → Fits text
  pub reads : (text : List ℕ) → Fits text → (x : A) × (fits text ≡ Some x)
  pub sample : List ℕ
  pub sample_fits : Fits sample

mapped_reads : {A B : Type 0} (f : A → B) (o : Option A) → (x : A) × (o ≡ Some x) → (y : B) × (option_map f o ≡ Some y)
mapped_reads f o found = (f found.0, ap (λ (p : Option _). option_map f p) found.1)

pub map_agrees : {A B : Type 0} (f : A → B) (Fits : List ℕ → Type 0) (fits : List ℕ → Option A) → Agrees Fits fits → Agrees Fits (λ text. option_map f (fits text))
map_agrees f Fits fits agrees = record {
  was = λ text y e. (let found = mapped f (fits text) y e in agrees.was text found.0 found.1);
  reads = λ text h. mapped_reads f (fits text) (agrees.reads text h);
  sample = agrees.sample;
  sample_fits = agrees.sample_fits;
}

number_agrees : (most : ℕ) → most < 2 ^ 64 → Agrees (IsNumber 0 most) (number_of most)
number_agrees most h = record {
  was = λ text n e. record { value = n; not_below = omega arith; not_above = number_below most text n e; spelled = number_was most text n h e };
  reads = λ text is. (is.value, ap (λ (t : List ℕ). number_of most t) is.spelled ∙ number_prints most is.value is.not_above (let below = is.not_above in omega arith));
  sample = decimal 0;
  sample_fits = record { value = 0; not_below = omega arith; not_above = omega arith; spelled = refl };
}

positive_agrees : (most : ℕ) → 1 ≤ most → most < 2 ^ 64 → Agrees (IsNumber 1 most) (λ text. not_zero (number_of most text))
positive_agrees most some h = record {
  was = λ text n e. (
      let found = not_zero_fits (number_of most text) n e in
      record { value = n; not_below = found.1; not_above = number_below most text n found.0; spelled = number_was most text n h found.0 });
  reads = λ text is. (
    is.value,
    not_zero_prints (number_of most text) is.value
        (ap (λ (t : List ℕ). number_of most t) is.spelled ∙ number_prints most is.value is.not_above (let below = is.not_above in omega arith)) is.not_below,
  );
  sample = decimal 1;
  sample_fits = record { value = 1; not_below = omega arith; not_above = some; spelled = refl };
}

pub this_agrees : (wanted : List ℕ) → Agrees (Stands (This wanted)) (same_as wanted)
this_agrees wanted = record {
  was = λ text x e. (bytes_eq-Decides text wanted).0 (picked (bytes_eq text wanted) (Some tt) x e).0;
  reads = λ text is. (tt, (let same : bytes_eq text wanted ≡ true = (bytes_eq-Decides text wanted).1 is in rw same refl));
  sample = wanted;
  sample_fits = refl;
}

pub node_agrees : Agrees (Stands Node) id_of
node_agrees = positive_agrees (2 ^ 32 - 1) (omega arith) (omega arith)

pub client_agrees : Agrees (Stands Client) (number_of (2 ^ 32 - 1))
client_agrees = number_agrees (2 ^ 32 - 1) (omega arith)

pub serial_agrees : Agrees (Stands Serial) (number_of (2 ^ 64 - 1))
serial_agrees = number_agrees (2 ^ 64 - 1) (omega arith)

pub entry_agrees : Agrees (Stands Number) entry_of
entry_agrees = number_agrees (2 ^ 62 - 1) (omega arith)

pub ticks_agree : Agrees (Stands Ticks) ticks_of
ticks_agree = positive_agrees 10000 (omega arith) (omega arith)

pub call_agrees : Agrees (Stands Call) device_call_of
call_agrees = positive_agrees 1000000 (omega arith) (omega arith)

pub hex_agrees : Agrees (Stands Hex) hex_of
hex_agrees = record {
  was = λ text bytes e. record { bytes = bytes; are_bytes = hex_fits text bytes e; spelled = hex_was text bytes e };
  reads = λ text is. (is.bytes, ap hex_of is.spelled ∙ hex_prints is.bytes is.are_bytes);
  sample = codes "-";
  sample_fits = record { bytes = []; are_bytes = tt; spelled = refl };
}

payload_was : (text bytes : List ℕ) → payload_of text ≡ Some bytes → text ≡ hex_text bytes
unfolding payload_of
payload_was text bytes e =
    option_and_then_some (λ found. cond (nat_le (length found) 65536) (Some found) None) (hex_of text) bytes e
    (λ found read is.
    let test = picked (nat_le (length found) 65536) (Some found) bytes is in
    let same : found ≡ bytes = cc (test.1) in
    hex_was text found read ∙ ap hex_text same)

pub payload_agrees : Agrees (Stands Payload) payload_of
payload_agrees = record {
  was = λ text bytes e. (let fits = payload_fits text bytes e in record { bytes = bytes; are_bytes = fits.are_bytes; few = fits.few; spelled = payload_was text bytes e });
  reads = λ text is. (is.bytes, ap payload_of is.spelled ∙ payload_prints is.bytes is.are_bytes is.few);
  sample = codes "-";
  sample_fits = record { bytes = []; are_bytes = tt; few = omega arith; spelled = refl };
}

one_id : AreIds (1 ∷ [])
one_id = record { some = omega arith; few = omega arith; ascending = λ k h. absurd (omega arith); each = All-cons IsId 1 [] (record { positive = omega arith; below = omega arith }) (λ k d h. absurd (omega arith)) }

pub ids_agree : Agrees (Stands Ids) ids_of
ids_agree = record {
  was = λ text ids e. record { ids = ids; are_ids = ids_fit text ids e; spelled = ids_was text ids e };
  reads = λ text is. (is.ids, ap ids_of is.spelled ∙ ids_print is.ids is.are_ids);
  sample = ids_text (1 ∷ []);
  sample_fits = record { ids = 1 ∷ []; are_ids = one_id; spelled = refl };
}

one_range : AreRanges (record { first = 1; last = 1 } ∷ [])
one_range = record { some = omega arith; each = All-cons IsRange (record { first = 1; last = 1 }) [] (record { in_order = omega arith; below = omega arith }) (λ k d h. absurd (omega arith)) }

pub ranges_agree : Agrees (Stands Ranges) ranges_of
ranges_agree = record {
  was = λ text ranges e. record {
    ranges = ranges;
    are_ranges = ranges_fit text ranges e;
    parts = slice_split (λ b. b == 44) text;
    each = ranges_was text ranges e;
    spelled = sym (join_with_byte-slice_split 44 text);
  };
  reads = λ text is. (is.ranges, ap ranges_of is.spelled ∙ ranges_print is.ranges is.parts is.are_ranges is.each);
  sample = decimal 1;
  sample_fits = record { ranges = record { first = 1; last = 1 } ∷ []; are_ranges = one_range; parts = decimal 1 ∷ []; each = (inr (refl, refl), tt); spelled = refl };
}

vote_was : (text : List ℕ) (kind : VoteKind) → vote_kind_of text ≡ Some kind → text ≡ vote_text kind
unfolding vote_kind_of
vote_was text kind e = go (bytes_eq text (codes "prepare")) (bytes_eq text (codes "commit")) (bytes_eq-Decides text (codes "prepare")).0 (bytes_eq-Decides text (codes "commit")).0 e
  where
    go : (prepare commit : Bool) → (prepare ≡ true → text ≡ codes "prepare") → (commit ≡ true → text ≡ codes "commit") → cond prepare (Some Prepare) (cond commit (Some Commit) None) ≡ Some kind → text ≡ vote_text kind
    go true commit p c e = let same : Prepare ≡ kind = cc in rw (← same) (p refl)
    go false true p c e = let same : Commit ≡ kind = cc in rw (← same) (c refl)
    go false false p c e = absurd (cc)

pub vote_prints : (kind : VoteKind) → vote_kind_of (vote_text kind) ≡ Some kind
unfolding vote_kind_of
vote_prints Prepare = refl
vote_prints Commit = refl

pub vote_agrees : Agrees (Stands Vote) vote_kind_of
vote_agrees = record {
  was = λ text kind e. (kind, vote_was text kind e);
  reads = λ text is. (is.0, ap vote_kind_of is.1 ∙ vote_prints is.0);
  sample = codes "commit";
  sample_fits = (Commit, refl);
}

pub image_prints : (image : Image) → IsImage image → image_of (image_text image) ≡ Some image
unfolding image_of
image_prints Keep h = refl
image_prints Undo h = refl
image_prints (Fill byte) h = rw (pair_prints byte h) refl

byte_was : (text : List ℕ) (byte : ℕ) → byte_of text ≡ Some byte → text ≡ hex_pairs (byte ∷ [])
byte_was [] byte e = absurd (cc)
byte_was (high ∷ []) byte e = absurd (cc)
byte_was (high ∷ low ∷ []) byte e = let pair = pair_was high low byte e in rw (← pair.high, ← pair.low) refl
byte_was (high ∷ low ∷ other ∷ more) byte e = absurd (cc)

starts_with_is : (text front : List ℕ) → starts_with nat_eq text front ≡ true → text ≡ front ++ drop (length front) text
starts_with_is text front e = (starts_is Decides-eqb text front (starts_with nat_eq text front) refl).0 e

image_was : (text : List ℕ) (image : Image) → image_of text ≡ Some image → text ≡ image_text image
unfolding image_of
image_was text image e =
    go (bytes_eq text (codes "keep")) (bytes_eq text (codes "drop")) (starts_with nat_eq text (codes "fill="))
    (bytes_eq-Decides text (codes "keep")).0 (bytes_eq-Decides text (codes "drop")).0 (starts_with_is text (codes "fill=")) e
  where
    go : (keep undo fill : Bool) → (keep ≡ true → text ≡ codes "keep") → (undo ≡ true → text ≡ codes "drop") → (fill ≡ true → text ≡ codes "fill=" ++ drop 5 text)
        → cond keep (Some Keep) (cond undo (Some Undo) (cond fill (option_map (λ b. Fill b) (byte_of (drop 5 text))) None)) ≡ Some image → text ≡ image_text image
    go true undo fill k u f e = let same : Keep ≡ image = cc in rw (← same) (k refl)
    go false true fill k u f e = let same : Undo ≡ image = cc in rw (← same) (u refl)
    go false false true k u f e =
        let found = mapped (λ b. Fill b) (byte_of (drop 5 text)) image e in
        f refl ∙ ap (λ (rest : List ℕ). codes "fill=" ++ rest) (byte_was (drop 5 text) found.0 found.1) ∙ ap image_text found.2
    go false false false k u f e = absurd (cc)

pub mode_agrees : Agrees (Stands Mode) image_of
mode_agrees = record {
  was = λ text image e. (image, image_fits text image e, image_was text image e);
  reads = λ text is. (is.0, ap image_of is.2 ∙ image_prints is.0 is.1);
  sample = codes "keep";
  sample_fits = (Keep, tt, refl);
}

-- a beginning and what stands behind it
behind_agrees : {A : Type 0} (front : List ℕ) (Fits : List ℕ → Type 0) (fits : List ℕ → Option A) → Agrees Fits fits
    → Agrees (IsBehind front Fits) (λ text. cond (starts_with nat_eq text front) (fits (drop (length front) text)) None)
behind_agrees front Fits fits agrees = record {
  was = λ text x e. (
      let test = picked (starts_with nat_eq text front) (fits (drop (length front) text)) x e in
      record { rest = drop (length front) text; fits = agrees.was (drop (length front) text) x test.1; spelled = starts_with_is text front test.0 });
  reads = λ text is. (
      let found = agrees.reads is.rest is.fits in
      let begins : starts_with nat_eq text front ≡ true = (starts_is Decides-eqb text front (starts_with nat_eq text front) refl).1 is.rest is.spelled in
      let rest : drop (length front) text ≡ is.rest = ap (λ (t : List ℕ). drop (length front) t) is.spelled ∙ drop_at front is.rest (length front) refl in
      (found.0, rw (begins, rest) found.1));
  sample = front ++ agrees.sample;
  sample_fits = record { rest = agrees.sample; fits = agrees.sample_fits; spelled = refl };
}

batch_agrees : Agrees (Stands Batch) batch_of
unfolding batch_of
batch_agrees = behind_agrees (codes "batch=") (IsNumber 1 1000) (λ text. not_zero (number_of 1000 text)) (positive_agrees 1000 (omega arith) (omega arith))

pub given_batch_agrees : Agrees (Stands Batch) given_batch_of
given_batch_agrees = map_agrees (λ n. Some n) (Stands Batch) batch_of batch_agrees

pub byzantine_agrees : Agrees (Stands Byzantine) byzantine_of
unfolding byzantine_of
byzantine_agrees = behind_agrees (codes "byz=") IsIdsText ids_of ids_agree

pub given_ids_agree : Agrees (Stands Ids) given_ids_of
given_ids_agree = map_agrees (λ ids. Some ids) (Stands Ids) ids_of ids_agree
