-- Lemmas on the lines of Byzantine members.
use Rattle.std.proofs.Common.{◌≡◌, ℕ, ◌+◌, ◌-◌, ◌<◌, ◌≤◌, true, false, List, [], ◌∷◌, ◌++◌, drop, get_or, length, map, take, Option, Some, None, add-one, refl, sym, ap, subst, ◌∙◌, arith}
use Rattle.std.specs.Prelude.{Bool, ◌&&◌, not, codes, if◌then◌else◌, option_and_then, is_some, nat_lt, slice_get}
use Rattle.std.specs.List.{AllByRecursion}
use Rattle.std.specs.Option.{option_map}
use Rattle.std.proofs.lemmas.Bool.Decides.{nat_tests}
use Rattle.std.proofs.lemmas.List.{take_all}
use Rattle.std.proofs.lemmas.Option.{same_Some}
use Rattle.bft_wire.specs.Reading.{message_in}
use Rattle.bft_wire.specs.Spelling.{message_text}
use Rattle.bft_wire.specs.declared.message.Message.{Message}
use Rattle.view_model.specs.Letters.{PrePrepare}
use Rattle.node_model.specs.Cores.{Core}
use Rattle.ord_types.specs.Members.{is_in}
use Rattle.ord_types.specs.declared.values.Place.{Place}
use Rattle.safety_model.specs.Blocks.{Config, Request}
use Rattle.signer_edge.specs.Accepts.{Accepts}
use Rattle.script.specs.declared.command.VoteKind.{VoteKind}
use Rattle.script.specs.declared.command.VoteKind.TheVariants.{Prepare, Commit}
use Rattle.script_play.specs.declared.ending.Ending.{Ending}
use Rattle.script_play.specs.Turns.{Turn, Turned}
use Rattle.view_core.specs.Places.{IsPlace}
use Rattle.world_model.specs.Liars.{as_liar, longer, longest, proposal_in, proposal_of, proposed_in, propose_on, sends, sig_at, vote_if, with_sent, with_signed}
use Rattle.world_model.specs.Says.{refuses, says, within_limit}
use Rattle.world_model.specs.Texts.{lied_text}
use Rattle.world_model.specs.Cores.{core_setting}
use Rattle.world_model.specs.Worlds as worlds
use Rattle.bft_node.specs.Lodgings.{Lodging}
use Rattle.bft_node.specs.Running.{chain_of, place_of}
use Rattle.bft_node.specs.declared.lodged.Lodged.{Lodged}
use Rattle.bft_node.specs.declared.member.Node.{Node}
use Rattle.world_run.specs.Entries.{entry_of}
use Rattle.world_run.specs.Longest.{IsLongest, IsMemberAt}
use Rattle.world_run.specs.Lying.{bar_between, bar_text, commit_of, prepare_of, statement_of, subject_of, subject_on}
use Rattle.world_run.specs.Mapped.{Model}
use Rattle.world_run.specs.Members.{IsMember, IsSeated, ledger_in, node_of, state_in}
use Rattle.world_run.specs.declared.liars.Bar.{Bar}
use Rattle.world_run.specs.declared.liars.Bar.TheVariants.{UnknownNode, NotByzantine}
use Rattle.world_run.specs.declared.liars.Subject.{Subject}
use Rattle.world_run.specs.declared.member.Member.{Member}
use Rattle.world_run.specs.declared.network.Entry.{Entry}
use Rattle.world_run.proofs.GoingLemmas.{Goes-part, Turned-last, Turned-part}
use Rattle.world_run.proofs.ListLemmas.{entry_read}

-- WHO MAY, by whether both are members, and whether the sender is Byzantine

abbrev bar_if : Bool → Bool → Option Bar
bar_if members liar = if not members then Some UnknownNode else if not liar then Some NotByzantine else None

abbrev turn_if : Bool → Bool → ℕ → Model → Turn Model → Turn Model
turn_if members liar number w turn = if not members then refuses number (codes "unknown node") w else if not liar then refuses number (codes "not byzantine") w else turn

barred : (members liar : Bool) (number : ℕ) (w : Model) (bar : Bar) (turn : Turn Model) → bar_if members liar ≡ Some bar → turn_if members liar number w turn ≡ refuses number (bar_text bar) w
barred false liar number w bar turn is = ap (λ (b : Bar). refuses number (bar_text b) w) (same_Some UnknownNode bar is)
barred true false number w bar turn is = ap (λ (b : Bar). refuses number (bar_text b) w) (same_Some NotByzantine bar is)
barred true true number w bar turn is = absurd (cc)

allowed : (members liar : Bool) (number : ℕ) (w : Model) (turn : Turn Model) → bar_if members liar ≡ None → turn_if members liar number w turn ≡ turn
allowed false liar number w turn is = absurd (cc)
allowed true false number w turn is = absurd (cc)
allowed true true number w turn is = refl

-- a line by an id that may not is refused
pub as_liar_barred : (number : ℕ) (w : Model) (from to : ℕ) (bar : Bar) (turn : Turn Model) → bar_between w from to ≡ Some bar → as_liar number w from to turn ≡ refuses number (bar_text bar) w
as_liar_barred number w from to bar turn is = barred (is_in from w.config.members && is_in to w.config.members) (is_in from w.byzantine) number w bar turn is

-- and one by an id that may is done
pub as_liar_may : (number : ℕ) (w : Model) (from to : ℕ) (turn : Turn Model) → bar_between w from to ≡ None → as_liar number w from to turn ≡ turn
as_liar_may number w from to turn is = allowed (is_in from w.config.members && is_in to w.config.members) (is_in from w.byzantine) number w turn is

-- SENDING

pub sends_ended : (number n : ℕ) (word bytes : List ℕ) (w sent next : Model) (from to : ℕ) (before middle after : List ℕ) (ending : Ending)
    → sent ≡ with_sent w from to bytes → n ≡ number → middle ≡ before → Turned (within_limit n [] sent) middle after next (Some ending)
    → Turned (sends number word w from to bytes) before after next (Some ending)
sends_ended number n word bytes w sent next from to before middle after ending is same begin turned =
    let limited : Turned (within_limit number [] (with_sent w from to bytes)) before after next (Some ending) = rw (is, same, begin) at turned in
    Turned-part (within_limit number [] (with_sent w from to bytes)) (λ (v : Model). says (lied_text number word (length v.network)) v) before after next next ending limited

pub sends_done : (number n count : ℕ) (word bytes : List ℕ) (w sent next : Model) (from to : ℕ) (before middle on after : List ℕ)
    → sent ≡ with_sent w from to bytes → n ≡ number → middle ≡ before → Turned (within_limit n [] sent) middle on next None
    → count ≡ length next.network → after ≡ on ++ lied_text number word count
    → Turned (sends number word w from to bytes) before after next None
sends_done number n count word bytes w sent next from to before middle on after is same begin turned counted printed =
    let limited : Turned (within_limit number [] (with_sent w from to bytes)) before on next None = rw (is, same, begin) at turned in
    let rest = λ (v : Model). says (lied_text number word (length v.network)) v in
    Turned-last _ _ before on after next None (Goes-part (within_limit number [] (with_sent w from to bytes)) rest before on next limited) (record { printed = printed ∙ ap (λ (k : ℕ). on ++ lied_text number word k) counted; next = refl })

-- THE LONGEST LEDGER

pub members_there : (c : Config) (accepts : Accepts) (at : Lodging) (members : List Member) → AllByRecursion (IsMember c accepts at) members → AllByRecursion (IsMemberAt at) members
members_there c accepts at [] all = tt
members_there c accepts at (member ∷ members) all = ((all.0.node, all.0.there), members_there c accepts at members all.1)

-- the node that a read of an id found
pub node_there : (o : Option Lodged) (node : Node) → option_map (λ (l : Lodged). l.node) o ≡ Some node → (l : Lodged) × (o ≡ Some l) × (l.node ≡ node)
node_there None node is = absurd (cc)
node_there (Some l) node is = (l, refl, same_Some l.node node is)

ledger_there : (o : Option Lodged) (node : Node) → option_map (λ (l : Lodged). l.node) o ≡ Some node → ledger_in o ≡ chain_of node.running
ledger_there o node is =
    let found = node_there o node is in
    rw (found.1, found.2) refl

pub state_there : (c : Config) (id : ℕ) (o : Option Lodged) (node : Node) → option_map (λ (l : Lodged). l.node) o ≡ Some node → (state_in c id o).place ≡ place_of node.running
state_there c id o node is =
    let found = node_there o node is in
    rw (found.1, found.2) refl

-- the members behind the first
abbrev pub behind : List Member → List Member
behind members = take (length members - 1) (drop 1 members)

behind_is : (member : Member) (members : List Member) → behind (member ∷ members) ≡ members
behind_is member members = take_all (length (member ∷ members) - 1) members (omega arith)

-- of the members behind the first there is none
pub longest_alone : (c : Config) (at : Lodging) (members : List Member) (member : Member) → 1 ≤ length members → member ≡ get_or members 0 member → AllByRecursion (IsMemberAt at) members
    → IsLongest c at (behind members) None → IsLongest c at members (Some member.id)
longest_alone c at [] member some is all none = absurd (omega arith)
longest_alone c at (m ∷ members) member some is all behind_none =
    let none : IsLongest c at members None = subst (λ (rest : List Member). IsLongest c at rest None) (behind_is m members) behind_none in
    (m, ap (λ (x : Member). x.id) (sym is), all.0, rw none refl)

chosen_first : (a b : ℕ) (first other : worlds.Node Core) → a ≡ length first.ledger → b ≡ length other.ledger → b ≤ a → longer first (Some other) ≡ first
chosen_first a b first other one two less =
    let test : nat_lt (length first.ledger) (length other.ledger) ≡ false = grind (arith, nat_tests) in
    rw test refl

chosen_other : (a b : ℕ) (first other : worlds.Node Core) → a ≡ length first.ledger → b ≡ length other.ledger → a < b → longer first (Some other) ≡ other
chosen_other a b first other one two less =
    let test : nat_lt (length first.ledger) (length other.ledger) ≡ true = grind (arith, nat_tests) in
    rw test refl

-- the first one has at least as long a ledger as the longest of those behind it
pub longest_first : (c : Config) (at : Lodging) (members : List Member) (member : Member) (other a b : ℕ) (one two : Node) → 1 ≤ length members → member ≡ get_or members 0 member → AllByRecursion (IsMemberAt at) members
    → IsLongest c at (behind members) (Some other) → option_map (λ (l : Lodged). l.node) (at member.id) ≡ Some one → option_map (λ (l : Lodged). l.node) (at other) ≡ Some two
    → a ≡ length (chain_of one.running) → b ≡ length (chain_of two.running) → b ≤ a → IsLongest c at members (Some member.id)
longest_first c at [] member other a b one two some is all behind here there first second less = absurd (omega arith)
longest_first c at (m ∷ members) member other a b one two some is all so here there first second less =
    let behind : IsLongest c at members (Some other) = subst (λ (rest : List Member). IsLongest c at rest (Some other)) (behind_is m members) so in
    let known : m ≡ member = sym is in
    let mine = first ∙ sym (ap length (rw known (ledger_there (at member.id) one here))) in
    let its = second ∙ sym (ap length (rw behind.1 (ledger_there (at other) two there))) in
    (m, ap (λ (x : Member). x.id) known, all.0, rw behind.3 (ap Some (chosen_first a b (node_of c at m) (node_of c at behind.0) mine its less)))

-- or it has not
pub longest_other : (c : Config) (at : Lodging) (members : List Member) (member : Member) (other a b : ℕ) (one two : Node) → 1 ≤ length members → member ≡ get_or members 0 member
    → IsLongest c at (behind members) (Some other) → option_map (λ (l : Lodged). l.node) (at member.id) ≡ Some one → option_map (λ (l : Lodged). l.node) (at other) ≡ Some two
    → a ≡ length (chain_of one.running) → b ≡ length (chain_of two.running) → a < b → IsLongest c at members (Some other)
longest_other c at [] member other a b one two some is behind here there first second less = absurd (omega arith)
longest_other c at (m ∷ members) member other a b one two some is so here there first second less =
    let behind : IsLongest c at members (Some other) = subst (λ (rest : List Member). IsLongest c at rest (Some other)) (behind_is m members) so in
    let known : m ≡ member = sym is in
    let mine = first ∙ sym (ap length (rw known (ledger_there (at member.id) one here))) in
    let its = second ∙ sym (ap length (rw behind.1 (ledger_there (at other) two there))) in
    (behind.0, behind.1, behind.2, rw behind.3 (ap Some (chosen_other a b (node_of c at m) (node_of c at behind.0) mine its less)))

-- a node stands under the id of the longest one
pub longest_is_some : (c : Config) (at : Lodging) (members : List Member) (id : ℕ) → IsLongest c at members (Some id) → is_some (at id) ≡ true
longest_is_some c at members id is = rw (← is.1, is.2.1) refl

-- and it is one of the members' nodes
longer_is : (first : worlds.Node Core) (o : Option (worlds.Node Core)) (P : worlds.Node Core → Type 0) → P first → ((other : worlds.Node Core) → o ≡ Some other → P other) → P (longer first o)
longer_is first None P one more = one
longer_is first (Some other) P one more =
    elim (nat_lt (length first.ledger) (length other.ledger)) as (λ b. P (if b then other else first)) [ true ↦ more other refl | false ↦ one ]

abbrev pub IsSeatedAt : Config → Accepts → Lodging → worlds.Node Core → Type 0
IsSeatedAt c accepts at node = (l : Lodged) × (at node.id ≡ Some l) × IsSeated c accepts node.id l

pub longest_seated : (c : Config) (accepts : Accepts) (at : Lodging) (members : List Member) (node : worlds.Node Core) → AllByRecursion (IsMember c accepts at) members
    → longest (map (node_of c at) members) ≡ Some node → IsSeatedAt c accepts at node
longest_seated c accepts at [] node all is = absurd (cc)
longest_seated c accepts at (m ∷ members) node all is =
    let rest = longest (map (node_of c at) members) in
    subst (IsSeatedAt c accepts at) (same_Some (longer (node_of c at m) rest) node is)
    (longer_is (node_of c at m) rest (IsSeatedAt c accepts at) (all.0.node, all.0.there, all.0.seated) (λ other found. longest_seated c accepts at members other all.1 found))

-- its place is a place, and it is where a node stands that was read by the id
pub place_seated : (c : Config) (accepts : Accepts) (at : Lodging) (members : List Member) (id : ℕ) (node : Node) → AllByRecursion (IsMember c accepts at) members → IsLongest c at members (Some id)
    → option_map (λ (l : Lodged). l.node) (at id) ≡ Some node → IsPlace (place_of node.running)
place_seated c accepts at members id node all is there =
    let found = node_there (at id) node there in
    let seated = longest_seated c accepts at members (node_of c at is.0) all is.3 in
    let same : seated.0 ≡ found.0 = same_Some seated.0 found.0 (sym seated.1 ∙ ap at is.1 ∙ found.1) in
    let kept = found.0.node.sound (subst (λ (l : Lodged). l.node.closed ≡ false) same seated.2.runs) in
    subst (λ (n : Node). IsPlace (place_of n.running)) found.2 kept.place

pub longest_place : (c : Config) (at : Lodging) (members : List Member) (id v : ℕ) (r : Request) (node : Node) → IsLongest c at members (Some id) → option_map (λ (l : Lodged). l.node) (at id) ≡ Some node
    → option_map (λ (n : worlds.Node Core). message_text (proposal_of n.state.place v r)) (longest (map (node_of c at) members)) ≡ Some (message_text (proposal_of (place_of node.running) v r))
longest_place c at members id v r node is there =
    let here = ap (λ (i : ℕ). option_map (λ (l : Lodged). l.node) (at i)) is.1 ∙ there in
    rw is.3 (ap (λ (place : Place). Some (message_text (proposal_of place v r))) (state_there c is.0.id (at is.0.id) node here))

-- PROPOSING

pub proposed_on : (number : ℕ) (w : Model) (from to v : ℕ) (r : Request) (bytes : List ℕ) (o : Option (worlds.Node Core))
    → Some bytes ≡ option_map (λ (node : worlds.Node Core). message_text (proposal_of node.state.place v r)) o
    → propose_on core_setting number w from to v r o ≡ sends number (codes "byz-propose") w from to bytes
proposed_on number w from to v r bytes None is = absurd (cc)
proposed_on number w from to v r bytes (Some node) is =
    ap (sends number (codes "byz-propose") w from to) (sym (same_Some bytes (message_text (proposal_of node.state.place v r)) is))

pub proposed_nowhere : (number : ℕ) (w : Model) (from to v : ℕ) (r : Request) (o : Option (worlds.Node Core))
    → None ≡ option_map (λ (node : worlds.Node Core). message_text (proposal_of node.state.place v r)) o
    → propose_on core_setting number w from to v r o ≡ refuses number (codes "no core") w
proposed_nowhere number w from to v r None is = refl
proposed_nowhere number w from to v r (Some node) is = absurd (cc)

-- VOTING

nothing_mapped : (o : Option PrePrepare) → option_map subject_on o ≡ None → o ≡ None
nothing_mapped None is = refl
nothing_mapped (Some m) is = absurd (cc)

pub subject_none : (m : Option Message) → option_and_then subject_of m ≡ None → option_and_then proposal_in m ≡ None
subject_none None is = refl
subject_none (Some message) is = nothing_mapped (proposal_in message) is

something_mapped : (o : Option PrePrepare) (subject : Subject) → option_map subject_on o ≡ Some subject → (m : PrePrepare) × (o ≡ Some m) × (subject_on m ≡ subject)
something_mapped None subject is = absurd (cc)
something_mapped (Some m) subject is = (m, refl, same_Some (subject_on m) subject is)

pub subject_some : (m : Option Message) (subject : Subject) → option_and_then subject_of m ≡ Some subject → (p : PrePrepare) × (option_and_then proposal_in m ≡ Some p) × (subject_on p ≡ subject)
subject_some None subject is = absurd (cc)
subject_some (Some message) subject is = something_mapped (proposal_in message) subject is

pub voted_nothing : (number : ℕ) (w : Model) (from to : ℕ) (kind : VoteKind) (v : ℕ) (bytes : List ℕ) → option_and_then subject_of (message_in bytes) ≡ None
    → refuses number (codes "no block") w ≡ vote_if number w from to kind v (proposed_in bytes)
voted_nothing number w from to kind v bytes none = rw (subject_none (message_in bytes) none) refl

pub voted_prepare : (number : ℕ) (w : Model) (from to : ℕ) (kind : VoteKind) (v : ℕ) (bytes : List ℕ) (subject : Subject) → kind ≡ Prepare → option_and_then subject_of (message_in bytes) ≡ Some subject
    → sends number (codes "byz-vote") w from to (message_text (prepare_of subject v)) ≡ vote_if number w from to kind v (proposed_in bytes)
voted_prepare number w from to kind v bytes subject is some =
    let found = subject_some (message_in bytes) subject some in
    ap (λ (s : Subject). sends number (codes "byz-vote") w from to (message_text (prepare_of s v))) (sym found.2) ∙ rw (is, found.1) refl

pub voted_commit : (number : ℕ) (w : Model) (from to : ℕ) (kind : VoteKind) (v : ℕ) (bytes : List ℕ) (subject : Subject) → kind ≡ Commit → option_and_then subject_of (message_in bytes) ≡ Some subject
    → sends number (codes "byz-vote") (with_signed w from (statement_of subject v)) from to (message_text (commit_of subject v (sig_at from (length w.seals)))) ≡ vote_if number w from to kind v (proposed_in bytes)
voted_commit number w from to kind v bytes subject is some =
    let found = subject_some (message_in bytes) subject some in
    ap (λ (s : Subject). sends number (codes "byz-vote") (with_signed w from (statement_of s v)) from to (message_text (commit_of s v (sig_at from (length w.seals))))) (sym found.2) ∙ rw (is, found.1) refl

pub sends_equal : (number n : ℕ) (word bytes text : List ℕ) (w v : Model) (from to : ℕ) → n ≡ number → v ≡ w → bytes ≡ text → sends n word v from to bytes ≡ sends number word w from to text
sends_equal number n word bytes text w v from to same is spelled = rw (same, is, spelled) refl

-- an entry by its number
pub entry_numbered : (w : Model) (number at : ℕ) → number ≡ at + 1 → worlds.entry number w ≡ slice_get w.network at
entry_numbered w number at is = rw (is, add-one at) refl

-- what was read of an entry is what the world has there
pub subject_read : (network : List Entry) (at : ℕ) (read : Entry) (e : worlds.Entry) (bytes : List ℕ) (o : Option Subject) → at < length network → read ≡ get_or network at read
    → slice_get (map entry_of network) at ≡ Some e → bytes ≡ read.bytes.value → o ≡ option_and_then subject_of (message_in bytes) → option_and_then subject_of (message_in e.bytes) ≡ o
subject_read network at read e bytes o within is has spelled found =
    let same : bytes ≡ e.bytes = spelled ∙ ap (λ (x : worlds.Entry). x.bytes) (entry_read network at read e within is has) in
    ap (λ (b : List ℕ). option_and_then subject_of (message_in b)) (sym same) ∙ sym found
