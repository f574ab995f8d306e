-- Lemmas on a block that is shown, and on closing lines.
use Rattle.std.proofs.Common.{◌≡◌, ℕ, ◌+◌, ◌<◌, ◌≤◌, true, false, List, ◌++◌, get_or, length, slice_get, take, Option, Some, None, refl, sym, subst, ap, ◌∙◌, codes}
use Rattle.std.specs.Prelude.{is_some, string_bytes}
use Rattle.std.specs.List.{flat_map}
use Rattle.std.proofs.lemmas.List.{append_assoc, flat_map_more, length-map, take_all, take_more}
use Rattle.std.specs.Option.{option_map}
use Rattle.ord_types.specs.declared.values.Proof.{Proof}
use Rattle.world_model.specs.Cores.{core_keeping}
use Rattle.safety_model.specs.Blocks.{Block, Config}
use Rattle.script_play.specs.Turns.{Turned}
use Rattle.world_model.specs.Cores.{core_setting}
use Rattle.world_model.specs.Texts.{byzantine_text, closed_text, closing_line, refused_text, sent_text, show_text}
use Rattle.world_model.specs.Turns.{closing_of, closing_of_member, show_turn, shows}
use Rattle.world_model.specs.Worlds as worlds
use Rattle.world_model.specs.Worlds.{Outcome}
use Rattle.bft_node.specs.Lodgings.{Lodging, accepts_of}
use Rattle.bft_node.specs.Running.{chain_of}
use Rattle.bft_node.specs.declared.lodged.Lodged.{Lodged}
use Rattle.bft_node.specs.declared.member.Node.{Node}
use Rattle.world_run.specs.Entries.{entry_of}
use Rattle.world_run.specs.Mapped.{world_of}
use Rattle.world_run.specs.Members.{IsMember, node_of}
use Rattle.world_run.specs.Sound.{IsSound}
use Rattle.world_run.specs.Whereabouts.{whereabouts_of}
use Rattle.world_run.specs.declared.member.Member.{Member}
use Rattle.world_run.specs.declared.world.Whereabouts.TheVariants.{Absent, Running, Stopped}
use Rattle.world_run.specs.declared.world.World.{World}
use Rattle.world_run.proofs.LiarLemmas.{node_there}
use Rattle.world_run.proofs.ListLemmas.{id_at_place, node_at_none, node_standing, where_absent, where_running, where_stopped}
use Rattle.world_run.proofs.SubmitLemmas.{all_at, read_is}

-- SHOWING

-- the block that was found is that of the node at the place
pub found_is : (at : Lodging) (w : World) (place number : ℕ) (read member : Member) (found : Option (Block × Proof)) → IsSound at w → slice_get w.members.items place ≡ Some member
    → read ≡ get_or w.members.items place read → ((l : Lodged) → at read.id ≡ Some l → found ≡ slice_get (chain_of l.node.running) number)
    → slice_get (node_of w.config at member).ledger number ≡ found
found_is at w place number read member found sound has is gives =
    let seated = all_at (IsMember w.config (accepts_of w.outside.seat) at) w.members.items place member sound.nodes has in
    let same = ap (λ (m : Member). at m.id) (read_is w.members.items place read member is has) in
    rw seated.there (sym (gives seated.node (same ∙ seated.there)))

pub shown_none : (at : Lodging) (w : World) (later : List Outcome) (number : ℕ) (member : Member) (after : List ℕ) → slice_get (node_of w.config at member).ledger number ≡ None
    → after ≡ string_bytes w.outside.text ++ refused_text w.outside.number (codes "no block")
    → Turned (show_turn w.outside.number (world_of at w later) (node_of w.config at member) number) (string_bytes w.outside.text) after (world_of at w later) None
shown_none at w later number member after none printed =
    subst (λ (o : Option (Block × Proof)). Turned (shows w.outside.number (world_of at w later) (node_of w.config at member) o) (string_bytes w.outside.text) after (world_of at w later) None) (sym none)
    (record { printed = printed; next = refl })

pub shown_some : (at : Lodging) (w : World) (later : List Outcome) (id number : ℕ) (member : Member) (stored : Block × Proof) (after : List ℕ) → id ≡ member.id
    → slice_get (node_of w.config at member).ledger number ≡ Some stored → after ≡ string_bytes w.outside.text ++ show_text w.outside.number id stored.0 stored.1
    → Turned (show_turn w.outside.number (world_of at w later) (node_of w.config at member) number) (string_bytes w.outside.text) after (world_of at w later) None
shown_some at w later id number member stored after known some printed =
    subst (λ (o : Option (Block × Proof)). Turned (shows w.outside.number (world_of at w later) (node_of w.config at member) o) (string_bytes w.outside.text) after (world_of at w later) None) (sym some)
    (record { printed = printed ∙ ap (λ (i : ℕ). string_bytes w.outside.text ++ show_text w.outside.number i stored.0 stored.1) known; next = refl })

-- CLOSING

-- a node stands under the id of a member that is somewhere
pub running_is_some : (at : Lodging) (w : World) (id place : ℕ) → IsSound at w → whereabouts_of id w.members.items ≡ Running place → is_some (at id) ≡ true
running_is_some at w id place sound is =
    let stands = where_running id w.members.items place is in
    let seated = all_at (IsMember w.config (accepts_of w.outside.seat) at) w.members.items place stands.member sound.nodes stands.there in
    let known = id_at_place id w.members.items place stands.member stands.first stands.there in
    rw (ap at (sym known) ∙ seated.there) refl

pub closed_absent : (at : Lodging) (w : World) (later : List Outcome) (id : ℕ) → whereabouts_of id w.members.items ≡ Absent
    → byzantine_text id ≡ closing_of_member core_setting id (worlds.node_at id (world_of at w later).nodes)
closed_absent at w later id is = rw (node_at_none w.config at id w.members.items (where_absent id w.members.items is)) refl

pub closed_stopped : (at : Lodging) (w : World) (later : List Outcome) (id place : ℕ) → whereabouts_of id w.members.items ≡ Stopped place
    → closed_text id ≡ closing_of_member core_setting id (worlds.node_at id (world_of at w later).nodes)
closed_stopped at w later id place is =
    let stands = where_stopped id w.members.items place is in
    rw (node_standing w.config at id w.members.items place false stands, stands.runs) refl

pub closed_running : (at : Lodging) (w : World) (later : List Outcome) (id place : ℕ) (node : Node) (before after : List ℕ) → whereabouts_of id w.members.items ≡ Running place
    → option_map (λ (l : Lodged). l.node) (at id) ≡ Some node
    → ((c : Config) (lodging : Lodging) (l : Lodged) (member : Member) → member.id ≡ id → lodging id ≡ Some l → l.node ≡ node → after ≡ before ++ closing_line core_keeping.look (node_of c lodging member))
    → after ≡ before ++ closing_of_member core_setting id (worlds.node_at id (world_of at w later).nodes)
closed_running at w later id place node before after is there printed =
    let stands = where_running id w.members.items place is in
    let found = node_there (at id) node there in
    let known = id_at_place id w.members.items place stands.member stands.first stands.there in
    let line = printed w.config at found.0 stands.member known found.1 found.2 in
    rw (node_standing w.config at id w.members.items place true stands, stands.runs) line

-- what a member's line adds
pub closing_more : (f : ℕ → List ℕ) (ids : List ℕ) (i : ℕ) (begin so_far after : List ℕ) → i < length ids → so_far ≡ begin ++ flat_map f (take i ids) → after ≡ so_far ++ f (get_or ids i 0)
    → after ≡ begin ++ flat_map f (take (i + 1) ids)
closing_more f ids i begin so_far after within before printed =
    printed ∙ ap (λ (text : List ℕ). text ++ f (get_or ids i 0)) before ∙ flat_map_more f begin (take i ids) (get_or ids i 0)
    ∙ ap (λ (front : List ℕ). begin ++ flat_map f front) (sym (take_more ids i 0 within))

-- the lines of all members, and the last one
pub closing_done : (at : Lodging) (w : World) (later : List Outcome) (ids : List ℕ) (i count : ℕ) (begin so_far after : List ℕ) → ids ≡ w.config.members → length ids ≤ i → count ≡ length w.outside.network.items
    → so_far ≡ begin ++ flat_map (λ (id : ℕ). closing_of_member core_setting id (worlds.node_at id (world_of at w later).nodes)) (take i ids) → after ≡ so_far ++ sent_text count
    → after ≡ begin ++ closing_of core_setting (Some (world_of at w later))
unfolding closing_of
closing_done at w later ids i count begin so_far after members all counted before printed =
    let f = λ (id : ℕ). closing_of_member core_setting id (worlds.node_at id (world_of at w later).nodes) in
    let lines : so_far ≡ begin ++ flat_map f w.config.members = before ∙ ap (λ (front : List ℕ). begin ++ flat_map f front) (take_all i ids all ∙ members) in
    printed ∙ ap (λ (text : List ℕ). text ++ sent_text count) lines ∙ append_assoc begin (flat_map f w.config.members) (sent_text count)
    ∙ ap (λ (n : ℕ). begin ++ (flat_map f w.config.members ++ sent_text n)) (counted ∙ sym (length-map w.outside.network.items entry_of))
