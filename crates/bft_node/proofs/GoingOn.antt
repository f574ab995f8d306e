-- A node goes on by its deeds, and what is held with them.
use Rattle.std.proofs.Common.{
  ◌≡◌,
  inl,
  inr,
  ℕ,
  ◌+◌,
  ◌<◌,
  Bool,
  true,
  false,
  ◌&&◌,
  List,
  [],
  ◌∷◌,
  ◌++◌,
  map,
  take,
  Some,
  None,
  option_map,
  refl,
  sym,
  ◌∙◌,
  ap,
  subst,
  arith,
}
use Rattle.std.specs.Prelude.{◌==◌, ◌≤◌, if◌then◌else◌}
use Rattle.std.specs.Str.{bytes_eq}
use Rattle.std.proofs.lemmas.Bool.{eq-eqb}
use Rattle.std.proofs.lemmas.Bool.Decides.{eqb_tells}
use Rattle.std.proofs.lemmas.Slice.Eq.{bytes_eq-Decides}
use Rattle.ord_types.specs.Hashes.{block_hash}
use Rattle.ord_types.specs.declared.values.Block.{Block}
use Rattle.ord_types.specs.declared.values.Choice.{Choice}
use Rattle.ord_types.specs.declared.values.Config.{Config}
use Rattle.ord_types.specs.declared.values.Place.{Place}
use Rattle.ord_types.specs.declared.values.Proof.{Proof}
use Rattle.chan_config.specs.Places.{next_place}
use Rattle.chan_config.proofs.PlaceLaws.{next_config, next_height}
use Rattle.bft_wal.specs.Fold.{durable_of}
use Rattle.bft_wal.specs.declared.record.WalRecord.{WalRecord}
use Rattle.bft_wal.specs.declared.record.WalRecord.TheVariants.{Accepted, Prepared, Left, Entered}
use Rattle.block_ledger.specs.Places.{place_after}
use Rattle.block_ledger.proofs.Placing.{begins_at_first, moves_by_one}
use Rattle.view_model.specs.Acts.{View}
use Rattle.view_model.specs.Answers.{at_place, fresh, raised}
use Rattle.node_model.specs.Cores.{Core, after_deed, after_entries, after_entry, after_opening, found_in}
use Rattle.node_model.specs.Entries.{
  Deed,
  Accepts,
  Prepares,
  Delivers,
  Leaves,
  Enters,
  Entry,
  Opened,
  Came,
  Did,
  Signed,
  Sent,
  deeds_of,
}
use Rattle.node_model.specs.Steps.{step}
use Rattle.bft_node.specs.Held.{Held, carried_in, with_deed, with_deeds}
use Rattle.bft_node.specs.Returning.{core_at, view_at}
use Rattle.bft_node.specs.Standing.{
  BeginsStanding,
  DeedsKeepStanding,
  IsBacked,
  IsDeedOf,
  NothingAhead,
  Stands,
  StepsKeepStanding,
  first_held,
}
use Rattle.bft_node.proofs.Standings.{
  accepted_ahead,
  accepted_backed,
  accepted_found,
  entered_ahead,
  entered_backed,
  entered_found,
  enters_in,
  found_accepted,
  left_ahead,
  left_backed,
  left_found,
  leaves_for,
  lefts,
  nothing_backed,
  nothing_found,
  parts,
  prepared_ahead,
  prepared_backed,
  prepared_found,
  viewed,
}
use Rattle.bft_node.proofs.StepDeeds.{AllHaveDeeds, have_front, other_alike, step_has}

-- a state as an opening leaves it
abbrev reopened : Place → View → Core
reopened place w = record { place = place; view = w; found = found_in place w }

module _ (c : Config) (me : ℕ) (held : Held) (core : Core) (stands : Stands c me held core) where
  stood : Place
  stood = place_after c held.blocks

  abbrev rs : List WalRecord
  rs = held.records

  abbrev e : ℕ
  e = core.place.config.number

  abbrev s : ℕ
  s = core.place.height

  place_is : core.place ≡ stood
  unfolding stood
  place_is = ap (λ (k : Core). k.place) stands.finds

  config_is : e ≡ stood.config.number
  config_is = ap (λ (p : Place). p.config.number) place_is

  height_is : s ≡ stood.height
  height_is = ap (λ (p : Place). p.height) place_is

  viewed_is : core.view.view ≡ viewed e rs
  unfolding stood
  viewed_is = ap (λ (k : Core). k.view.view) stands.finds ∙ ap (λ n. viewed n rs) (sym config_is)

  left_is : core.view.left ≡ lefts e rs
  unfolding stood
  left_is = ap (λ (k : Core). k.view.left) stands.finds ∙ ap (λ n. lefts n rs) (sym config_is)

  -- a record more
  stands_with : (records : List WalRecord) (to : View → View)
      → ((w : View) → record (to w) { kept = [] } ≡ to (record w { kept = [] }))
      → NothingAhead e s records → IsBacked e s (to core.view).view records
      → ((p : Place) → view_at me p (durable_of e s records) ≡ to (view_at me p (durable_of e s rs)))
      → Stands c me (record held { records = records }) (record core { view = to core.view })
  unfolding stood
  stands_with records to kept ahead backed found =
      let there : view_at me stood (durable_of stood.config.number stood.height records)
      ≡ to (view_at me stood (durable_of stood.config.number stood.height rs)) =
      subst (λ n. view_at me stood (durable_of n stood.height records)
      ≡ to (view_at me stood (durable_of n stood.height rs))) config_is
      (subst (λ n. view_at me stood (durable_of e n records) ≡ to (view_at me stood (durable_of e n rs)))
      height_is (found stood)) in
      record {
        finds =
            ap (reopened core.place) (kept core.view)
            ∙ ap (λ (k : Core). reopened k.place (to k.view)) stands.finds
            ∙ ap (reopened stood) (sym there);
        ahead = ahead;
        backed = backed;
      }

  stands_accepted : (i : ℕ) (b : Block)
      → Stands c me (with_deed (Accepts i e core.view.view s b) held) (after_deed (Accepts i e core.view.view s b) core)
  stands_accepted i b =
      stands_with (rs ++ Accepted e core.view.view s b ∷ []) (λ (w : View). record w { accepted = Some b }) (λ w. refl)
      (accepted_ahead rs e core.view.view s b stands.ahead) (accepted_backed rs e core.view.view s b stands.backed)
      (λ p. accepted_found rs e core.view.view s b me p viewed_is stands.backed)

  shown_here : (d : List ℕ) → option_map block_hash core.view.accepted ≡ Some d
      → option_map block_hash (view_at me stood (durable_of e s rs)).accepted ≡ Some d
  unfolding stood
  shown_here d h =
      subst (λ n. option_map block_hash (view_at me stood (durable_of e n rs)).accepted ≡ Some d) (sym height_is)
      (subst (λ n. option_map block_hash (view_at me stood (durable_of n stood.height rs)).accepted ≡ Some d)
      (sym config_is) (ap (λ (k : Core). option_map block_hash k.view.accepted) (sym stands.finds) ∙ h))

  stands_prepared : (i : ℕ) (d : List ℕ) → option_map block_hash core.view.accepted ≡ Some d
      → Stands c me (with_deed (Prepares i e core.view.view s d) held)
      (after_deed (Prepares i e core.view.view s d) core)
  stands_prepared i d h =
      let v = core.view.view in
      let has = found_accepted me stood e s v rs d stands.backed (shown_here d h) in
      stands_with (rs ++ Prepared e v s d ∷ []) (λ (w : View). record w { is_prepared = true }) (λ w. refl)
      (prepared_ahead rs e v s d stands.ahead) (prepared_backed rs e v s d has stands.backed)
      (λ p. prepared_found rs e v s d me p viewed_is has stands.backed)

  stands_left : (i v : ℕ) → core.view.left ≤ v
      → Stands c me (with_deed (Leaves i e v) held) (after_deed (Leaves i e v) core)
  stands_left i v le =
      stands_with (rs ++ Left e v ∷ []) (leaves_for v) (λ w. refl)
      (left_ahead rs e v s stands.ahead) (left_backed rs e v s core.view.view stands.backed)
      (λ p. left_found rs e v s me p (omega (arith, le, left_is)))

  stands_entered : (i v x : ℕ) (choice : Choice) → core.view.view < v
      → Stands c me (with_deed (Enters i e v x choice) held) (after_deed (Enters i e v x choice) core)
  stands_entered i v x choice lt =
      let carried = carried_in choice in
      stands_with (rs ++ Entered e v x carried ∷ []) (enters_in v) (λ w. refl)
      (entered_ahead rs e v s x carried stands.ahead)
      (entered_backed rs e v s x carried core.view.view (omega (arith, lt)) stands.backed)
      (λ p. entered_found rs e v s x carried me p core.view.view viewed_is lt stands.backed)

-- A DELIVERY

-- a view of another number stays under its configuration
raised_is : (p : Place) (w : View) → w.config ≡ p.config.number → w.members ≡ p.config.members → w.height < p.height
    → at_place p w ≡ raised p w
raised_is p w config members height =
    let one : (w.config == p.config.number) ≡ true = eq-eqb w.config p.config.number config in
    let two : bytes_eq w.members p.config.members ≡ true = (bytes_eq-Decides w.members p.config.members).1 members in
    let three : (w.height == p.height) ≡ false =
    elim (eqb_tells w.height p.height) [ inl a ↦ absurd (omega (arith, height, a.1)) | inr b ↦ b.0 ] in
    by (w.config == p.config.number) (bytes_eq w.members p.config.members) (w.height == p.height) one two three
  where
    by : (a b x : Bool) → a ≡ true → b ≡ true → x ≡ false
        → (if a && b then (if x then w else raised p w) else fresh w.me p) ≡ raised p w
    by a b x h k l = rw (h, k, l) refl

-- a view at this place that keeps no vote message, and holds nothing of its number
abbrev cleared : Place → ℕ → ℕ → List ℕ → ℕ → ℕ → View
cleared place me config members view left =
    record {
      me = me;
      config = config;
      members = members;
      height = place.height;
      view = view;
      left = left;
      accepted = None;
      is_prepared = false;
      kept = [];
    }

module _ (c : Config) (me : ℕ) (held : Held) (core : Core) (stands : Stands c me held core) (i : ℕ) (b : Block)
    (proof : Proof) where
  next : Place
  next = next_place core.place (b, proof)

  config_next : next.config ≡ core.place.config
  unfolding next
  config_next = next_config core.place (b, proof)

  height_next : next.height ≡ core.place.height + 1
  unfolding next
  height_next = next_height core.place (b, proof)

  config_same : core.view.config ≡ next.config.number
  config_same =
      ap (λ (k : Core). k.view.config) stands.finds ∙ sym (ap (λ (k : Core). k.place.config.number) stands.finds)
      ∙ ap (λ (x : Config). x.number) (sym config_next)

  members_same : core.view.members ≡ next.config.members
  members_same =
      ap (λ (k : Core). k.view.members) stands.finds ∙ sym (ap (λ (k : Core). k.place.config.members) stands.finds)
      ∙ ap (λ (x : Config). x.members) (sym config_next)

  height_less : core.view.height < next.height
  height_less =
      let same : core.view.height ≡ core.place.height =
      ap (λ (k : Core). k.view.height) stands.finds ∙ sym (ap (λ (k : Core). k.place.height) stands.finds) in
      omega (arith, same, height_next)

  settled : at_place next core.view ≡ raised next core.view
  settled = raised_is next core.view config_same members_same height_less

  ahead_next : NothingAhead next.config.number next.height held.records
  ahead_next =
      let ahead = stands.ahead in
      subst (λ (x : Config). NothingAhead x.number next.height held.records) (sym config_next)
      (record {
        accepted = λ n lt. ahead.accepted n (omega (arith, lt, height_next));
        prepared = λ n lt. ahead.prepared n (omega (arith, lt, height_next));
      })

  -- nothing counts at the next number
  counts_none : NothingAhead core.place.config.number core.place.height held.records
      → (x : Config) → x ≡ core.place.config → NothingAhead x.number core.place.height held.records
  counts_none ahead x is = subst (λ (y : Config). NothingAhead y.number core.place.height held.records) (sym is) ahead

  found_next : (q : Place) → q ≡ next
      → view_at me q (durable_of q.config.number q.height held.records)
      ≡ parts me q (viewed q.config.number held.records) (lefts q.config.number held.records) None false
  found_next q is =
      let ahead = counts_none stands.ahead q.config (ap (λ (p : Place). p.config) is ∙ config_next) in
      let above : core.place.height < q.height = omega (arith, ap (λ (p : Place). p.height) is, height_next) in
      nothing_found me q q.config.number q.height held.records
      (ahead.accepted q.height above) (ahead.prepared q.height above)

  pub stands_delivered : Stands c me (with_deed (Delivers i b proof) held) (after_deed (Delivers i b proof) core)
  unfolding next
  stands_delivered =
      let stood : Place = place_after c held.blocks in
      let place : core.place ≡ stood = ap (λ (k : Core). k.place) stands.finds in
      let q : Place = next_place stood (b, proof) in
      let same : q ≡ next = ap (λ (p : Place). next_place p (b, proof)) (sym place) in
      let moved : place_after c (held.blocks ++ (b, proof) ∷ []) ≡ q = moves_by_one c held.blocks (b, proof) in
      record {
        finds =
            ap (λ (w : View). reopened next (record w { kept = [] })) settled
            ∙ ap (λ (k : Core). let p : Place = next_place k.place (b, proof) in
            reopened p (cleared p k.view.me k.view.config k.view.members k.view.view k.view.left)) stands.finds
            ∙ ap (λ (x : Config). reopened q (cleared q me x.number x.members (viewed x.number held.records)
            (lefts x.number held.records))) (sym (next_config stood (b, proof)))
            ∙ ap (reopened q) (sym (found_next q same))
            ∙ ap (λ (p : Place). core_at me p (durable_of p.config.number p.height held.records)) (sym moved);
        ahead = ahead_next;
        backed =
            let ahead = counts_none stands.ahead next.config config_next in
            let above : core.place.height < next.height = omega (arith, height_next) in
            nothing_backed next.config.number next.height _ held.records
            (ahead.accepted next.height above) (ahead.prepared next.height above);
      }

-- DEEDS ONE AFTER ANOTHER

pub deed_stands : (c : Config) (me : ℕ) (held : Held) (core : Core) (deed : Deed) → Stands c me held core
    → IsDeedOf core deed → Stands c me (with_deed deed held) (after_deed deed core)
deed_stands c me held core (Accepts i e v s b) stands is =
    subst (λ (d : Deed). Stands c me (with_deed d held) (after_deed d core)) (sym is)
    (stands_accepted c me held core stands core.view.me b)
deed_stands c me held core (Prepares i e v s d) stands is =
    subst (λ (x : Deed). Stands c me (with_deed x held) (after_deed x core)) (sym is.0)
    (stands_prepared c me held core stands core.view.me d is.1)
deed_stands c me held core (Delivers i b proof) stands is = stands_delivered c me held core stands i b proof
deed_stands c me held core (Leaves i e v) stands is =
    subst (λ (d : Deed). Stands c me (with_deed d held) (after_deed d core)) (sym is.0)
    (stands_left c me held core stands core.view.me v is.1)
deed_stands c me held core (Enters i e v x choice) stands is =
    subst (λ (d : Deed). Stands c me (with_deed d held) (after_deed d core)) (sym is.0)
    (stands_entered c me held core stands core.view.me v x choice is.1)

pub deeds_stand : DeedsKeepStanding
deeds_stand c me held core [] stands are = stands
deeds_stand c me held core (deed ∷ deeds) stands are =
    deeds_stand c me (with_deed deed held) (after_deed deed core) deeds
    (deed_stands c me held core deed stands are.0) are.1

pub begins_standing : BeginsStanding
begins_standing c me =
    record {
      finds = ap (λ (p : Place). core_at me p (durable_of p.config.number p.height [])) (sym (begins_at_first c));
      ahead = record { accepted = λ n lt. refl; prepared = λ n lt. refl };
      backed = record { accepted = tt; prepared = tt };
    }

-- WHAT AN OPENING FINDS ALIKE stands alike

pub stands_same : (c : Config) (me : ℕ) (held : Held) (one two : Core) → after_opening one ≡ after_opening two
    → Stands c me held one → Stands c me held two
stands_same c me held one two is stands =
    let config : one.place.config.number ≡ two.place.config.number = ap (λ (k : Core). k.place.config.number) is in
    let height : one.place.height ≡ two.place.height = ap (λ (k : Core). k.place.height) is in
    let view : one.view.view ≡ two.view.view = ap (λ (k : Core). k.view.view) is in
    record {
      finds = sym is ∙ stands.finds;
      ahead =
          subst (λ n. NothingAhead n two.place.height held.records) config
          (subst (λ n. NothingAhead one.place.config.number n held.records) height stands.ahead);
      backed =
          subst (λ n. IsBacked n two.place.height two.view.view held.records) config
          (subst (λ n. IsBacked one.place.config.number n two.view.view held.records) height
          (subst (λ n. IsBacked one.place.config.number one.place.height n held.records) view stands.backed));
    }

-- ENTRIES ONE AFTER ANOTHER

-- one that is no deed
nothing_stands : (c : Config) (me : ℕ) (held : Held) (core : Core) (entry : Entry)
    → map Did (deeds_of (entry ∷ [])) ≡ [] → Stands c me held core → Stands c me held (after_entry entry core)
nothing_stands c me held core entry none stands =
    stands_same c me held core (after_entry entry core) (sym (other_alike entry core core none refl)) stands

pub entries_stand : (c : Config) (me : ℕ) (held : Held) (core : Core) (entries : List Entry)
    → AllHaveDeeds entries core → Stands c me held core
    → Stands c me (with_deeds (deeds_of entries) held) (after_entries entries core)
entries_stand c me held core [] have stands = stands
entries_stand c me held core (Opened ∷ entries) have stands =
    entries_stand c me held (after_entry Opened core) entries have.1
    (nothing_stands c me held core Opened refl stands)
entries_stand c me held core (Came event accepts ∷ entries) have stands =
    entries_stand c me held (after_entry (Came event accepts) core) entries have.1
    (nothing_stands c me held core (Came event accepts) refl stands)
entries_stand c me held core (Did deed ∷ entries) have stands =
    entries_stand c me (with_deed deed held) (after_deed deed core) entries have.1
    (deed_stands c me held core deed stands have.0)
entries_stand c me held core (Signed pledge accepts ∷ entries) have stands =
    entries_stand c me held (after_entry (Signed pledge accepts) core) entries have.1
    (nothing_stands c me held core (Signed pledge accepts) refl stands)
entries_stand c me held core (Sent receivers message ∷ entries) have stands =
    entries_stand c me held core entries have.1 stands

pub steps_keep_standing : StepsKeepStanding
steps_keep_standing c me held keys core event cut stands =
    entries_stand c me held core (take cut (step keys core event))
    (have_front cut (step keys core event) core (step_has keys core event)) stands
