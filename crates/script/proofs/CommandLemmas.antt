-- What the grammar lets into a command.
use Rattle.std.proofs.Common.{codes, ◌≡◌, ℕ, ◌+◌, ◌-◌, ◌^◌, ◌≤◌, List, [], ◌∷◌, length, cond, Bool, true, false, refl, arith, Option, Some, None, Result, Ok, Err, ◌==◌, IfOk, IfSome}
use Rattle.std.proofs.lemmas.Result.{IfOk-at_ok}
use Rattle.std.specs.Str.{bytes_eq}
use Rattle.script.specs.declared.command.Command.{Command}
use Rattle.script.specs.declared.command.Stop.{Stop}
use Rattle.script.specs.declared.command.Stop.TheVariants.{Malformed, NotBuilt}
use Rattle.script.specs.declared.command.Meaning.{Meaning}
use Rattle.script.specs.declared.command.Meaning.TheVariants.{Nothing, Means}
use Rattle.script.specs.Words.{Word, words}
use Rattle.script.specs.Fields.{number_of, id_of, ticks_of, device_call_of, hex_of, payload_of, ids_of, given_ids_of, given_batch_of, byzantine_of, vote_kind_of, image_of, entry_of, ranges_of}
use Rattle.script.specs.Reading.{◌>>=◌, field, field_or, fitted, taken, optional, no_more}
use Rattle.script.specs.Commands.{IsId, AreIds, AreByzantine, AreBytes, AreRanges, IsImage, IsWellFormed}
use Rattle.script.specs.Grammar.{options_of, genesis_line, submit_line, raw_line, tick_line, deliver_line, flush_line, show_line, propose_line, vote_line, lie_line, seal_line, byzantine_line_of, stop_line, stop_at_line, start_line, stopping_line_of, line_of, command_of, judged, meaning, same_as}
use Rattle.script.specs.Later.{is_later}
use Rattle.script.proofs.FieldFits.{number_below, id_fits, hex_fits, IsPayload, payload_fits, ids_fit, byzantine_fit, given_ids_fit, ranges_fit, ticks_fit, device_call_fits, image_fits}

fitted_keeps : {A : Type 0} (P : A → Type 0) (o : Option A) (place : ℕ) (more : List Word) (y : A × List Word) → ((x : A) → o ≡ Some x → P x) → fitted o place more ≡ Ok y → P y.0
fitted_keeps P None place more y h e = absurd (cc)
fitted_keeps P (Some x) place more y h e = let same : (x, more) ≡ y = cc in rw (← same) (h x refl)

-- what holds of each value that fits holds of a field that was read
field_keeps : {A : Type 0} (fits : List ℕ → Option A) (P : A → Type 0) → ((text : List ℕ) (x : A) → fits text ≡ Some x → P x) → (past : ℕ) (ws : List Word) (y : A × List Word) → field fits past ws ≡ Ok y → P y.0
field_keeps fits P h past [] y e = absurd (cc)
field_keeps fits P h past (word ∷ more) y e = fitted_keeps P (fits word.text) word.place more y (h word.text) e

field_or_keeps : {A : Type 0} (other : A) (fits : List ℕ → Option A) (P : A → Type 0) → P other → ((text : List ℕ) (x : A) → fits text ≡ Some x → P x) → (ws : List Word) (y : A × List Word) → field_or other fits ws ≡ Ok y → P y.0
field_or_keeps other fits P given h [] y e = let same : (other, []) ≡ y = cc in rw (← same) given
field_or_keeps other fits P given h (word ∷ more) y e = fitted_keeps P (fits word.text) word.place more y (h word.text) e

taken_keeps : {A : Type 0} (P : A → Type 0) (other : A) (o : Option A) (word : Word) (more : List Word) → P other → ((x : A) → o ≡ Some x → P x) → P (taken other o word more).0
taken_keeps P other None word more given h = given
taken_keeps P other (Some x) word more given h = h x refl

optional_keeps : {A : Type 0} (other : A) (fits : List ℕ → Option A) (P : A → Type 0) → P other → ((text : List ℕ) (x : A) → fits text ≡ Some x → P x) → (ws : List Word) → P (optional other fits ws).0
optional_keeps other fits P given h [] = given
optional_keeps other fits P given h (word ∷ more) = taken_keeps P other (fits word.text) word more given (h word.text)

bind_keeps : {A B : Type 0} (r : Result A Stop) (f : A → Result B Stop) (Q : B → Type 0) → ((x : A) → r ≡ Ok x → IfOk (f x) Q) → IfOk (r >>= f) Q
bind_keeps (Ok x) f Q h = h x refl
bind_keeps (Err e) f Q h = tt

no_byzantine : AreByzantine []
no_byzantine = record { few = omega arith; ascending = λ k h. absurd (omega arith); each = λ k d h. absurd (omega arith) }

genesis_fits : (past : ℕ) (ws : List Word) → IfOk (genesis_line past ws) IsWellFormed
unfolding genesis_line
genesis_fits past ws =
    bind_keeps (field (same_as (codes "bft")) past ws) _ IsWellFormed (λ kind k.
    bind_keeps (field ids_of past kind.1) _ IsWellFormed (λ members m.
    bind_keeps (no_more (options_of members.1).1) _ IsWellFormed (λ none n.
    record {
      member_ids = field_keeps ids_of AreIds ids_fit past kind.1 members m;
      byzantine_ids = optional_keeps [] byzantine_of AreByzantine no_byzantine byzantine_fit (optional None given_batch_of members.1).1;
    })))

submit_fits : (past : ℕ) (ws : List Word) → IfOk (submit_line past ws) IsWellFormed
unfolding submit_line
submit_fits past ws =
    bind_keeps (field id_of past ws) _ IsWellFormed (λ node i.
    bind_keeps (field (number_of (2 ^ 32 - 1)) past node.1) _ IsWellFormed (λ client c.
    bind_keeps (field (number_of (2 ^ 64 - 1)) past client.1) _ IsWellFormed (λ serial s.
    bind_keeps (field hex_of past serial.1) _ IsWellFormed (λ payload p.
    bind_keeps (no_more payload.1) _ IsWellFormed (λ none n.
    record {
      node_id = field_keeps id_of IsId id_fits past ws node i;
      client_below = field_keeps (number_of (2 ^ 32 - 1)) (λ n. n ≤ 2 ^ 32 - 1) (number_below (2 ^ 32 - 1)) past node.1 client c;
      serial_below = field_keeps (number_of (2 ^ 64 - 1)) (λ n. n ≤ 2 ^ 64 - 1) (number_below (2 ^ 64 - 1)) past client.1 serial s;
      are_bytes = field_keeps hex_of AreBytes hex_fits past serial.1 payload p;
    })))))

raw_fits : (past : ℕ) (ws : List Word) → IfOk (raw_line past ws) IsWellFormed
unfolding raw_line
raw_fits past ws =
    bind_keeps (field id_of past ws) _ IsWellFormed (λ node i.
    bind_keeps (field hex_of past node.1) _ IsWellFormed (λ bytes b.
    bind_keeps (no_more bytes.1) _ IsWellFormed (λ none n.
    record { node_id = field_keeps id_of IsId id_fits past ws node i; are_bytes = field_keeps hex_of AreBytes hex_fits past node.1 bytes b })))

tick_fits : (past : ℕ) (ws : List Word) → IfOk (tick_line past ws) IsWellFormed
unfolding tick_line
tick_fits past ws =
    bind_keeps (field id_of past ws) _ IsWellFormed (λ node i.
    bind_keeps (field_or 1 ticks_of node.1) _ IsWellFormed (λ count c.
    bind_keeps (no_more count.1) _ IsWellFormed (λ none n.
    let fits = field_or_keeps 1 ticks_of (λ n. (1 ≤ n) × (n ≤ 10000)) (omega arith, omega arith) ticks_fit node.1 count c in
    record { node_id = field_keeps id_of IsId id_fits past ws node i; some = fits.0; few = fits.1 })))

deliver_fits : (past : ℕ) (ws : List Word) → IfOk (deliver_line past ws) IsWellFormed
unfolding deliver_line
deliver_fits past ws =
    bind_keeps (field ranges_of past ws) _ IsWellFormed (λ ranges r.
    bind_keeps (no_more ranges.1) _ IsWellFormed (λ none n.
    field_keeps ranges_of AreRanges ranges_fit past ws ranges r))

flush_fits : (ws : List Word) → IfOk (flush_line ws) IsWellFormed
unfolding flush_line
flush_fits ws =
    bind_keeps (field_or None given_ids_of ws) _ IsWellFormed (λ only o.
    bind_keeps (no_more only.1) _ IsWellFormed (λ none n.
    field_or_keeps None given_ids_of (λ only. IfSome only AreIds) tt given_ids_fit ws only o))

show_fits : (past : ℕ) (ws : List Word) → IfOk (show_line past ws) IsWellFormed
unfolding show_line
show_fits past ws =
    bind_keeps (field id_of past ws) _ IsWellFormed (λ node i.
    bind_keeps (field entry_of past node.1) _ IsWellFormed (λ number m.
    bind_keeps (no_more number.1) _ IsWellFormed (λ none n.
    record {
      node_id = field_keeps id_of IsId id_fits past ws node i;
      number_below = field_keeps entry_of (λ n. n ≤ 2 ^ 62 - 1) (number_below (2 ^ 62 - 1)) past node.1 number m;
    })))

propose_fits : (past : ℕ) (ws : List Word) → IfOk (propose_line past ws) IsWellFormed
unfolding propose_line
propose_fits past ws =
    bind_keeps (field id_of past ws) _ IsWellFormed (λ from f.
    bind_keeps (field id_of past from.1) _ IsWellFormed (λ to t.
    bind_keeps (field entry_of past to.1) _ IsWellFormed (λ view v.
    bind_keeps (field (number_of (2 ^ 32 - 1)) past view.1) _ IsWellFormed (λ client c.
    bind_keeps (field (number_of (2 ^ 64 - 1)) past client.1) _ IsWellFormed (λ serial s.
    bind_keeps (field payload_of past serial.1) _ IsWellFormed (λ payload p.
    bind_keeps (no_more payload.1) _ IsWellFormed (λ none n.
    let fits = field_keeps payload_of IsPayload payload_fits past serial.1 payload p in
    record {
      from_id = field_keeps id_of IsId id_fits past ws from f;
      to_id = field_keeps id_of IsId id_fits past from.1 to t;
      view_below = field_keeps entry_of (λ n. n ≤ 2 ^ 62 - 1) (number_below (2 ^ 62 - 1)) past to.1 view v;
      client_below = field_keeps (number_of (2 ^ 32 - 1)) (λ n. n ≤ 2 ^ 32 - 1) (number_below (2 ^ 32 - 1)) past view.1 client c;
      serial_below = field_keeps (number_of (2 ^ 64 - 1)) (λ n. n ≤ 2 ^ 64 - 1) (number_below (2 ^ 64 - 1)) past client.1 serial s;
      few = fits.few;
      are_bytes = fits.are_bytes;
    })))))))

vote_fits : (past : ℕ) (ws : List Word) → IfOk (vote_line past ws) IsWellFormed
unfolding vote_line
vote_fits past ws =
    bind_keeps (field id_of past ws) _ IsWellFormed (λ from f.
    bind_keeps (field id_of past from.1) _ IsWellFormed (λ to t.
    bind_keeps (field vote_kind_of past to.1) _ IsWellFormed (λ kind k.
    bind_keeps (field entry_of past kind.1) _ IsWellFormed (λ view v.
    bind_keeps (field entry_of past view.1) _ IsWellFormed (λ entry e.
    bind_keeps (no_more entry.1) _ IsWellFormed (λ none n.
    record {
      from_id = field_keeps id_of IsId id_fits past ws from f;
      to_id = field_keeps id_of IsId id_fits past from.1 to t;
      view_below = field_keeps entry_of (λ n. n ≤ 2 ^ 62 - 1) (number_below (2 ^ 62 - 1)) past kind.1 view v;
      entry_below = field_keeps entry_of (λ n. n ≤ 2 ^ 62 - 1) (number_below (2 ^ 62 - 1)) past view.1 entry e;
    }))))))

lie_fits : (past : ℕ) (ws : List Word) → IfOk (lie_line past ws) IsWellFormed
unfolding lie_line
lie_fits past ws =
    bind_keeps (field id_of past ws) _ IsWellFormed (λ from f.
    bind_keeps (field id_of past from.1) _ IsWellFormed (λ to t.
    bind_keeps (field hex_of past to.1) _ IsWellFormed (λ bytes b.
    bind_keeps (no_more bytes.1) _ IsWellFormed (λ none n.
    record {
      from_id = field_keeps id_of IsId id_fits past ws from f;
      to_id = field_keeps id_of IsId id_fits past from.1 to t;
      are_bytes = field_keeps hex_of AreBytes hex_fits past to.1 bytes b;
    }))))

seal_fits : (past : ℕ) (ws : List Word) → IfOk (seal_line past ws) IsWellFormed
unfolding seal_line
seal_fits past ws =
    bind_keeps (field (number_of (2 ^ 32 - 1)) past ws) _ IsWellFormed (λ id i.
    bind_keeps (field hex_of past id.1) _ IsWellFormed (λ bytes b.
    bind_keeps (no_more bytes.1) _ IsWellFormed (λ none n.
    record {
      id_below = field_keeps (number_of (2 ^ 32 - 1)) (λ n. n ≤ 2 ^ 32 - 1) (number_below (2 ^ 32 - 1)) past ws id i;
      are_bytes = field_keeps hex_of AreBytes hex_fits past id.1 bytes b;
    })))

stop_fits : (past : ℕ) (ws : List Word) → IfOk (stop_line past ws) IsWellFormed
unfolding stop_line
stop_fits past ws =
    bind_keeps (field id_of past ws) _ IsWellFormed (λ node i.
    bind_keeps (field image_of past node.1) _ IsWellFormed (λ image m.
    bind_keeps (no_more image.1) _ IsWellFormed (λ none n.
    record { node_id = field_keeps id_of IsId id_fits past ws node i; is_image = field_keeps image_of IsImage image_fits past node.1 image m })))

stop_at_fits : (past : ℕ) (ws : List Word) → IfOk (stop_at_line past ws) IsWellFormed
unfolding stop_at_line
stop_at_fits past ws =
    bind_keeps (field id_of past ws) _ IsWellFormed (λ node i.
    bind_keeps (field device_call_of past node.1) _ IsWellFormed (λ call c.
    bind_keeps (field image_of past call.1) _ IsWellFormed (λ image m.
    bind_keeps (no_more image.1) _ IsWellFormed (λ none n.
    let fits = field_keeps device_call_of (λ n. (1 ≤ n) × (n ≤ 1000000)) device_call_fits past node.1 call c in
    record {
      node_id = field_keeps id_of IsId id_fits past ws node i;
      some = fits.0;
      few = fits.1;
      is_image = field_keeps image_of IsImage image_fits past call.1 image m;
    }))))

start_fits : (past : ℕ) (ws : List Word) → IfOk (start_line past ws) IsWellFormed
unfolding start_line
start_fits past ws =
    bind_keeps (field id_of past ws) _ IsWellFormed (λ node i.
    bind_keeps (no_more node.1) _ IsWellFormed (λ none n.
    record { node_id = field_keeps id_of IsId id_fits past ws node i }))

either : (b : Bool) (x y : Result Command Stop) → IfOk x IsWellFormed → IfOk y IsWellFormed → IfOk (cond b x y) IsWellFormed
either true x y f g = f
either false x y f g = g

byzantine_line_fits : (past : ℕ) (word : Word) (more : List Word) → IfOk (byzantine_line_of past word more) IsWellFormed
unfolding byzantine_line_of
byzantine_line_fits past word more =
    let other : Result Command Stop = Err (Malformed word.place) in
    let seal = cond (bytes_eq word.text (codes "seal")) (seal_line past more) other in
    let lie = cond (bytes_eq word.text (codes "lie")) (lie_line past more) seal in
    let vote = cond (bytes_eq word.text (codes "byz-vote")) (vote_line past more) lie in
    either (bytes_eq word.text (codes "byz-propose")) (propose_line past more) vote (propose_fits past more)
    (either (bytes_eq word.text (codes "byz-vote")) (vote_line past more) lie (vote_fits past more)
    (either (bytes_eq word.text (codes "lie")) (lie_line past more) seal (lie_fits past more)
    (either (bytes_eq word.text (codes "seal")) (seal_line past more) other (seal_fits past more) tt)))

stopping_line_fits : (past : ℕ) (word : Word) (more : List Word) → IfOk (stopping_line_of past word more) IsWellFormed
unfolding stopping_line_of
stopping_line_fits past word more =
    let other = byzantine_line_of past word more in
    let start = cond (bytes_eq word.text (codes "start")) (start_line past more) other in
    let stop_at = cond (bytes_eq word.text (codes "stop-at")) (stop_at_line past more) start in
    either (bytes_eq word.text (codes "stop")) (stop_line past more) stop_at (stop_fits past more)
    (either (bytes_eq word.text (codes "stop-at")) (stop_at_line past more) start (stop_at_fits past more)
    (either (bytes_eq word.text (codes "start")) (start_line past more) other (start_fits past more) (byzantine_line_fits past word more)))

line_fits : (past : ℕ) (word : Word) (more : List Word) → IfOk (line_of past word more) IsWellFormed
unfolding line_of
line_fits past word more =
    let other = stopping_line_of past word more in
    let show = cond (bytes_eq word.text (codes "show")) (show_line past more) other in
    let flush = cond (bytes_eq word.text (codes "flush")) (flush_line more) show in
    let deliver = cond (bytes_eq word.text (codes "deliver")) (deliver_line past more) flush in
    let tick = cond (bytes_eq word.text (codes "tick")) (tick_line past more) deliver in
    let raw = cond (bytes_eq word.text (codes "raw")) (raw_line past more) tick in
    let submit = cond (bytes_eq word.text (codes "submit")) (submit_line past more) raw in
    either (bytes_eq word.text (codes "genesis")) (genesis_line past more) submit (genesis_fits past more)
    (either (bytes_eq word.text (codes "submit")) (submit_line past more) raw (submit_fits past more)
    (either (bytes_eq word.text (codes "raw")) (raw_line past more) tick (raw_fits past more)
    (either (bytes_eq word.text (codes "tick")) (tick_line past more) deliver (tick_fits past more)
    (either (bytes_eq word.text (codes "deliver")) (deliver_line past more) flush (deliver_fits past more)
    (either (bytes_eq word.text (codes "flush")) (flush_line more) show (flush_fits more)
    (either (bytes_eq word.text (codes "show")) (show_line past more) other (show_fits past more) (stopping_line_fits past word more)))))))

command_fits : (past : ℕ) (ws : List Word) → IfOk (command_of past ws) IsWellFormed
command_fits past [] = tt
command_fits past (word ∷ more) = either (is_later word.text more) (Err NotBuilt) (line_of past word more) tt (line_fits past word more)

judged_means : (r : Result Command Stop) (command : Command) → judged r ≡ Means command → r ≡ Ok command
judged_means (Ok other) command e = cc
judged_means (Err stop) command e = absurd (cc)

commented : (b : Bool) (m : Meaning) (command : Command) → cond b Nothing m ≡ Means command → m ≡ Means command
commented true m command e = absurd (cc)
commented false m command e = e

-- what a line means is a command that is well formed
pub meaning_fits : (line : List ℕ) (command : Command) → meaning line ≡ Means command → IsWellFormed command
unfolding meaning
meaning_fits [] command e = absurd (cc)
meaning_fits (b ∷ line) command e =
    IfOk-at_ok IsWellFormed (judged_means _ command (commented (b == 35) _ command e)) (command_fits (length (b ∷ line) + 1) (words 1 (b ∷ line)))
