-- Each line's reading tells of its form.
use Rattle.std.proofs.Common.{codes, ◌≡◌, subst, get_or, ◌==◌, ℕ, ◌^◌, ◌-◌, inl, inr, List, [], ◌∷◌, ◌++◌, cond, Bool, true, false, ◌&&◌, not, refl, sym, ap, ◌∙◌, None, Result, Ok, Err}
use Rattle.std.proofs.lemmas.Bool.{false≢true}
use Rattle.std.proofs.lemmas.Slice.Eq.{bytes_eq-Decides}
use Rattle.std.specs.Str.{bytes_eq}
use Rattle.script.specs.declared.command.Command.{Command}
use Rattle.script.specs.declared.command.Command.TheVariants.{Genesis, Submit, Raw, Tick, Deliver, Flush, Show, Propose, Vote as GiveVote, Lie, Seal, Stop as StopNode, StopAt, Start}
use Rattle.script.specs.declared.command.Stop.{Stop}
use Rattle.script.specs.declared.command.Stop.TheVariants.{Malformed}
use Rattle.script.specs.Words.{Word}
use Rattle.script.specs.Fields.{number_of, id_of, ticks_of, device_call_of, hex_of, payload_of, ids_of, given_ids_of, given_batch_of, byzantine_of, vote_kind_of, image_of, entry_of, ranges_of}
use Rattle.script.specs.Reading.{◌>>=◌, optional, no_more}
use Rattle.script.specs.Grammar.{same_as, options_behind, genesis_line, submit_line, raw_line, tick_line, deliver_line, flush_line, show_line, propose_line, vote_line, lie_line, seal_line, byzantine_line_of, stop_line, stop_at_line, start_line, stopping_line_of, line_of}
use Rattle.script.specs.Forms.{AreInFields, Form, forms, stopping_forms, byzantine_forms, genesis_form, submit_form, raw_form, tick_form, deliver_form, flush_form, show_form, stop_form, stop_at_form, start_form, propose_form, vote_form, lie_form, seal_form, IsOfOne}
use Rattle.script.specs.Forms.Kind.{This, Node, Client, Serial, Number, Ticks, Call, Hex, Payload, Ids, Ranges, Vote, Mode, Batch, Byzantine}
use Rattle.script.specs.Forms.Field.{Needed, Optional}
use Rattle.script.proofs.KindTexts.{this_agrees, node_agrees, client_agrees, serial_agrees, entry_agrees, ticks_agree, call_agrees, hex_agrees, payload_agrees, ids_agree, given_ids_agree, ranges_agree, vote_agrees, mode_agrees, given_batch_agrees, byzantine_agrees}
use Rattle.script.proofs.FirstWrong.{Explains, Tells, IsApart, apart_from_end, explain_end, explain_needed, explain_optional, explain_last, tells_same, tells_cons, tells_at}

-- options that begin otherwise
begin_apart : (rest more : List ℕ) → codes "batch=" ++ rest ≡ codes "byz=" ++ more → ⊥
begin_apart rest more e = false≢true (ap (λ (text : List ℕ). get_or text 1 0 == 121) e)

batch_is_apart : IsApart Batch (Optional Byzantine ∷ [])
unfolding IsApart
batch_is_apart text stands (left, inl other) = other
batch_is_apart text stands (left, inr both) = begin_apart stands.rest both.0.rest (sym stands.spelled ∙ both.0.spelled)

genesis_tells : (past : ℕ) (ws : List Word) → Explains (Needed (This (codes "bft")) ∷ Needed Ids ∷ Optional Batch ∷ Optional Byzantine ∷ []) past ws (genesis_line past ws)
unfolding genesis_line
genesis_tells past ws =
    explain_needed (This (codes "bft")) (same_as (codes "bft")) (this_agrees (codes "bft")) _ _ past ws (λ kind w.
    explain_needed Ids ids_of ids_agree _ _ past w (λ members v.
    explain_optional Batch given_batch_of given_batch_agrees None (Optional Byzantine ∷ []) batch_is_apart
    (λ batch. no_more (options_behind batch.0 (optional [] byzantine_of batch.1)).1 >>= (λ none. Ok (Genesis members (options_behind batch.0 (optional [] byzantine_of batch.1)).0.byzantine))) past v (λ batch u.
    explain_optional Byzantine byzantine_of byzantine_agrees [] [] (apart_from_end Byzantine)
    (λ byzantine. no_more byzantine.1 >>= (λ none. Ok (Genesis members byzantine.0))) past u (λ byzantine t.
    explain_end (Genesis members byzantine) past t))))

submit_tells : (past : ℕ) (ws : List Word) → Explains (Needed Node ∷ Needed Client ∷ Needed Serial ∷ Needed Hex ∷ []) past ws (submit_line past ws)
unfolding submit_line
submit_tells past ws =
    explain_needed Node id_of node_agrees _ _ past ws (λ node w.
    explain_needed Client (number_of (2 ^ 32 - 1)) client_agrees _ _ past w (λ client v.
    explain_needed Serial (number_of (2 ^ 64 - 1)) serial_agrees _ _ past v (λ serial u.
    explain_needed Hex hex_of hex_agrees _ _ past u (λ payload t.
    explain_end (Submit node client serial payload) past t))))

raw_tells : (past : ℕ) (ws : List Word) → Explains (Needed Node ∷ Needed Hex ∷ []) past ws (raw_line past ws)
unfolding raw_line
raw_tells past ws =
    explain_needed Node id_of node_agrees _ _ past ws (λ node w.
    explain_needed Hex hex_of hex_agrees _ _ past w (λ bytes v.
    explain_end (Raw node bytes) past v))

tick_tells : (past : ℕ) (ws : List Word) → Explains (Needed Node ∷ Optional Ticks ∷ []) past ws (tick_line past ws)
unfolding tick_line
tick_tells past ws =
    explain_needed Node id_of node_agrees _ _ past ws (λ node w.
    explain_last Ticks ticks_of ticks_agree 1 _ past w (λ count v.
    explain_end (Tick node count) past v))

deliver_tells : (past : ℕ) (ws : List Word) → Explains (Needed Ranges ∷ []) past ws (deliver_line past ws)
unfolding deliver_line
deliver_tells past ws =
    explain_needed Ranges ranges_of ranges_agree _ _ past ws (λ ranges w.
    explain_end (Deliver ranges) past w)

flush_tells : (past : ℕ) (ws : List Word) → Explains (Optional Ids ∷ []) past ws (flush_line ws)
unfolding flush_line
flush_tells past ws =
    explain_last Ids given_ids_of given_ids_agree None _ past ws (λ only w.
    explain_end (Flush only) past w)

show_tells : (past : ℕ) (ws : List Word) → Explains (Needed Node ∷ Needed Number ∷ []) past ws (show_line past ws)
unfolding show_line
show_tells past ws =
    explain_needed Node id_of node_agrees _ _ past ws (λ node w.
    explain_needed Number entry_of entry_agrees _ _ past w (λ number v.
    explain_end (Show node number) past v))

stop_tells : (past : ℕ) (ws : List Word) → Explains (Needed Node ∷ Needed Mode ∷ []) past ws (stop_line past ws)
unfolding stop_line
stop_tells past ws =
    explain_needed Node id_of node_agrees _ _ past ws (λ node w.
    explain_needed Mode image_of mode_agrees _ _ past w (λ image v.
    explain_end (StopNode node image) past v))

stop_at_tells : (past : ℕ) (ws : List Word) → Explains (Needed Node ∷ Needed Call ∷ Needed Mode ∷ []) past ws (stop_at_line past ws)
unfolding stop_at_line
stop_at_tells past ws =
    explain_needed Node id_of node_agrees _ _ past ws (λ node w.
    explain_needed Call device_call_of call_agrees _ _ past w (λ call v.
    explain_needed Mode image_of mode_agrees _ _ past v (λ image u.
    explain_end (StopAt node call image) past u)))

start_tells : (past : ℕ) (ws : List Word) → Explains (Needed Node ∷ []) past ws (start_line past ws)
unfolding start_line
start_tells past ws =
    explain_needed Node id_of node_agrees _ _ past ws (λ node w.
    explain_end (Start node) past w)

propose_tells : (past : ℕ) (ws : List Word) → Explains (Needed Node ∷ Needed Node ∷ Needed Number ∷ Needed Client ∷ Needed Serial ∷ Needed Payload ∷ []) past ws (propose_line past ws)
unfolding propose_line
propose_tells past ws =
    explain_needed Node id_of node_agrees _ _ past ws (λ from w.
    explain_needed Node id_of node_agrees _ _ past w (λ to v.
    explain_needed Number entry_of entry_agrees _ _ past v (λ view u.
    explain_needed Client (number_of (2 ^ 32 - 1)) client_agrees _ _ past u (λ client t.
    explain_needed Serial (number_of (2 ^ 64 - 1)) serial_agrees _ _ past t (λ serial s.
    explain_needed Payload payload_of payload_agrees _ _ past s (λ payload r.
    explain_end (Propose from to view client serial payload) past r))))))

vote_tells : (past : ℕ) (ws : List Word) → Explains (Needed Node ∷ Needed Node ∷ Needed Vote ∷ Needed Number ∷ Needed Number ∷ []) past ws (vote_line past ws)
unfolding vote_line
vote_tells past ws =
    explain_needed Node id_of node_agrees _ _ past ws (λ from w.
    explain_needed Node id_of node_agrees _ _ past w (λ to v.
    explain_needed Vote vote_kind_of vote_agrees _ _ past v (λ kind u.
    explain_needed Number entry_of entry_agrees _ _ past u (λ view t.
    explain_needed Number entry_of entry_agrees _ _ past t (λ entry s.
    explain_end (GiveVote from to kind view entry) past s)))))

lie_tells : (past : ℕ) (ws : List Word) → Explains (Needed Node ∷ Needed Node ∷ Needed Hex ∷ []) past ws (lie_line past ws)
unfolding lie_line
lie_tells past ws =
    explain_needed Node id_of node_agrees _ _ past ws (λ from w.
    explain_needed Node id_of node_agrees _ _ past w (λ to v.
    explain_needed Hex hex_of hex_agrees _ _ past v (λ bytes u.
    explain_end (Lie from to bytes) past u)))

seal_tells : (past : ℕ) (ws : List Word) → Explains (Needed Client ∷ Needed Hex ∷ []) past ws (seal_line past ws)
unfolding seal_line
seal_tells past ws =
    explain_needed Client (number_of (2 ^ 32 - 1)) client_agrees _ _ past ws (λ id w.
    explain_needed Hex hex_of hex_agrees _ _ past w (λ bytes v.
    explain_end (Seal id bytes) past v))

-- no form of the list has this name
abbrev is_none_named : List ℕ → List Form → Bool
is_none_named name [] = true
is_none_named name (form ∷ more) = not (bytes_eq name form.name) && is_none_named name more

none_named : (name : List ℕ) (others : List Form) → is_none_named name others ≡ true → (left : List (List ℕ)) → IsOfOne others (name ∷ left) → ⊥
none_named name [] e left h = h
none_named name (form ∷ more) e left h = go (bytes_eq name form.name) (bytes_eq-Decides name form.name).1 (none_named name more) e h
  where
    go : (same : Bool) → (name ≡ form.name → same ≡ true) → (is_none_named name more ≡ true → (left : List (List ℕ)) → IsOfOne more (name ∷ left) → ⊥)
        → (not same && is_none_named name more) ≡ true → IsOfOne (form ∷ more) (name ∷ left) → ⊥
    go true is rest e h = absurd (false≢true e)
    go false is rest e (inl first) = absurd (false≢true (is first.0))
    go false is rest e (inr other) = rest e left other

-- a line of the first form, or of the others
abbrev pub Told : List Form → ℕ → Word → List Word → Result Command Stop → Type 0
Told forms past word more r = Tells (IsOfOne forms) past (word ∷ more) r

first_told : (first : Form) (others : List Form) → is_none_named first.name others ≡ true → (past : ℕ) (word : Word) (more : List Word) → word.text ≡ first.name → (r : Result Command Stop)
    → Explains first.fields past more r → Told (first ∷ others) past word more r
first_told first others apart past word more is r explains =
    tells_cons (IsOfOne (first ∷ others)) past word more r
    (tells_same (AreInFields first.fields) (λ left. IsOfOne (first ∷ others) (word.text ∷ left)) (record { to = λ left h. inl (is, h); from = from }) past more r explains.tells)
  where
    from : (left : List (List ℕ)) → IsOfOne (first ∷ others) (word.text ∷ left) → AreInFields first.fields left
    from left (inl h) = h.1
    from left (inr other) = absurd (none_named first.name others apart left (subst (λ (name : List ℕ). IsOfOne others (name ∷ left)) is other))

other_told : (first : Form) (others : List Form) (past : ℕ) (word : Word) (more : List Word) → (word.text ≡ first.name → ⊥) → (r : Result Command Stop) → Told others past word more r → Told (first ∷ others) past word more r
other_told first others past word more differs r told =
    tells_at (IsOfOne others) (IsOfOne (first ∷ others)) (λ texts h. inr h) past word more from r told
  where
    from : (left : List (List ℕ)) → IsOfOne (first ∷ others) (word.text ∷ left) → IsOfOne others (word.text ∷ left)
    from left (inl h) = absurd (differs h.0)
    from left (inr other) = other

either_told : (first : Form) (others : List Form) → is_none_named first.name others ≡ true → (past : ℕ) (word : Word) (more : List Word) (x y : Result Command Stop)
    → Explains first.fields past more x → Told others past word more y → Told (first ∷ others) past word more (cond (bytes_eq word.text first.name) x y)
either_told first others apart past word more x y explains told = go (bytes_eq word.text first.name) (bytes_eq-Decides word.text first.name)
  where
    go : (same : Bool) → (same ≡ true → word.text ≡ first.name) × (word.text ≡ first.name → same ≡ true) → Told (first ∷ others) past word more (cond same x y)
    go true is = first_told first others apart past word more (is.0 refl) x explains
    go false is = other_told first others past word more (λ e. false≢true (is.1 e)) y told

-- the last form, or a first word that none has
last_told : (last : Form) (past : ℕ) (word : Word) (more : List Word) (x : Result Command Stop) → Explains last.fields past more x
    → Told (last ∷ []) past word more (cond (bytes_eq word.text last.name) x (Err (Malformed word.place)))
last_told last past word more x explains = go (bytes_eq word.text last.name) (bytes_eq-Decides word.text last.name)
  where
    go : (same : Bool) → (same ≡ true → word.text ≡ last.name) × (word.text ≡ last.name → same ≡ true) → Told (last ∷ []) past word more (cond same x (Err (Malformed word.place)))
    go true is = first_told last [] refl past word more (is.0 refl) x explains
    go false is = inl (record { here = refl; goes_on = (last.name ∷ explains.goes_on.0, inl (refl, explains.goes_on.1)); ends = λ g. ends g.0 g.1 })
      where
        ends : (left : List (List ℕ)) → IsOfOne (last ∷ []) (word.text ∷ left) → ⊥
        ends left (inl h) = false≢true (is.1 h.0)
        ends left (inr other) = other

byzantine_told : (past : ℕ) (word : Word) (more : List Word) → Told byzantine_forms past word more (byzantine_line_of past word more)
unfolding byzantine_line_of
byzantine_told past word more =
    either_told propose_form (vote_form ∷ lie_form ∷ seal_form ∷ []) refl past word more _ _ (propose_tells past more)
    (either_told vote_form (lie_form ∷ seal_form ∷ []) refl past word more _ _ (vote_tells past more)
    (either_told lie_form (seal_form ∷ []) refl past word more _ _ (lie_tells past more)
    (last_told seal_form past word more _ (seal_tells past more))))

stopping_told : (past : ℕ) (word : Word) (more : List Word) → Told stopping_forms past word more (stopping_line_of past word more)
unfolding stopping_line_of
stopping_told past word more =
    either_told stop_form (stop_at_form ∷ start_form ∷ byzantine_forms) refl past word more _ _ (stop_tells past more)
    (either_told stop_at_form (start_form ∷ byzantine_forms) refl past word more _ _ (stop_at_tells past more)
    (either_told start_form byzantine_forms refl past word more _ _ (start_tells past more) (byzantine_told past word more)))

pub line_told : (past : ℕ) (word : Word) (more : List Word) → Told forms past word more (line_of past word more)
unfolding line_of
line_told past word more =
    either_told genesis_form (submit_form ∷ raw_form ∷ tick_form ∷ deliver_form ∷ flush_form ∷ show_form ∷ stopping_forms) refl past word more _ _ (genesis_tells past more)
    (either_told submit_form (raw_form ∷ tick_form ∷ deliver_form ∷ flush_form ∷ show_form ∷ stopping_forms) refl past word more _ _ (submit_tells past more)
    (either_told raw_form (tick_form ∷ deliver_form ∷ flush_form ∷ show_form ∷ stopping_forms) refl past word more _ _ (raw_tells past more)
    (either_told tick_form (deliver_form ∷ flush_form ∷ show_form ∷ stopping_forms) refl past word more _ _ (tick_tells past more)
    (either_told deliver_form (flush_form ∷ show_form ∷ stopping_forms) refl past word more _ _ (deliver_tells past more)
    (either_told flush_form (show_form ∷ stopping_forms) refl past word more _ _ (flush_tells past more)
    (either_told show_form stopping_forms refl past word more _ _ (show_tells past more) (stopping_told past word more)))))))
