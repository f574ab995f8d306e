-- Lemmas on a line of ticks.
use Rattle.std.proofs.Common.{◌≡◌, ℕ, zero, suc, true, List, [], Some, None, refl, subst}
use Rattle.std.specs.Prelude.{is_some, string_bytes}
use Rattle.script_play.specs.declared.ending.Ending.{Ending}
use Rattle.script_play.specs.Turns.{Turned}
use Rattle.world_model.specs.Cores.{core_setting}
use Rattle.world_model.specs.Texts.{tick_text}
use Rattle.world_model.specs.Turns.{says, tick_at, ticks}
use Rattle.world_model.specs.Worlds as worlds
use Rattle.bft_node.specs.Lodgings.{Lodging}
use Rattle.world_run.specs.Going.{Goes, Plays}
use Rattle.world_run.specs.Mapped.{Model, world_of}
use Rattle.world_run.specs.Members.{node_of}
use Rattle.world_run.specs.declared.world.World.{World}
use Rattle.world_run.proofs.GoingLemmas.{Goes-part, GoesBy, Turned-part}
use Rattle.world_run.proofs.ListLemmas.{StandsAt, running_standing}
use Rattle.world_run.proofs.MoveLemmas.{by_weaker}

ticks_more : (number id n m : ℕ) (w next : Model) (before after : List ℕ) → n ≡ suc m → Turned (tick_at core_setting number w (worlds.running_at id w.nodes)) before after next None
    → Goes (ticks core_setting number id n w) before after (ticks core_setting number id m next)
unfolding ticks
ticks_more number id n m w next before after e turned =
    rw e (Goes-part (tick_at core_setting number w (worlds.running_at id w.nodes)) (λ (v : Model). ticks core_setting number id m v) before after next turned)

ticks_ended : (number id n m : ℕ) (w next : Model) (before after : List ℕ) (ending : Ending) → n ≡ suc m
    → Turned (tick_at core_setting number w (worlds.running_at id w.nodes)) before after next (Some ending)
    → Turned (ticks core_setting number id n w) before after next (Some ending)
unfolding ticks
ticks_ended number id n m w next before after ending e turned =
    rw e (Turned-part (tick_at core_setting number w (worlds.running_at id w.nodes)) (λ (v : Model). ticks core_setting number id m v) before after next next ending turned)

-- a tick of a node that runs, and the others are left
pub tick_goes : (number id n m place : ℕ) (at next : Lodging) (old new : World) (stands : StandsAt id old.members.items place true) → n ≡ suc m → old.outside.number ≡ number
    → Plays at next old new (λ w. tick_at core_setting old.outside.number w (Some (node_of old.config at stands.member))) None
    → GoesBy at next old new (ticks core_setting number id n) (ticks core_setting number id m)
tick_goes number id n m place at next old new stands e known plays =
    by_weaker (Unit {0}) at next old new
    (λ w to. Turned (tick_at core_setting old.outside.number w (Some (node_of old.config at stands.member))) (string_bytes old.outside.text) (string_bytes new.outside.text) to None)
    (λ w to. Goes (ticks core_setting number id n w) (string_bytes old.outside.text) (string_bytes new.outside.text) (ticks core_setting number id m to))
    (λ first later turned. ticks_more number id n m (world_of at old first) (world_of next new later) _ _ e
    (rw (running_standing old.config at id old.members.items place stands)
    (subst (λ (k : ℕ). Turned (tick_at core_setting k (world_of at old first) (Some (node_of old.config at stands.member))) (string_bytes old.outside.text) (string_bytes new.outside.text) (world_of next new later) None) known turned)))
    plays

-- a tick ended the run
pub tick_ends : (number id n m place : ℕ) (at next : Lodging) (old new : World) (ending : Ending) (stands : StandsAt id old.members.items place true) → n ≡ suc m → old.outside.number ≡ number
    → Plays at next old new (λ w. tick_at core_setting old.outside.number w (Some (node_of old.config at stands.member))) (Some ending)
    → Plays at next old new (ticks core_setting number id n) (Some ending)
tick_ends number id n m place at next old new ending stands e known plays =
    by_weaker (Unit {0}) at next old new
    (λ w to. Turned (tick_at core_setting old.outside.number w (Some (node_of old.config at stands.member))) (string_bytes old.outside.text) (string_bytes new.outside.text) to (Some ending))
    (λ w to. Turned (ticks core_setting number id n w) (string_bytes old.outside.text) (string_bytes new.outside.text) to (Some ending))
    (λ first later turned. ticks_ended number id n m (world_of at old first) (world_of next new later) _ _ ending e
    (rw (running_standing old.config at id old.members.items place stands)
    (subst (λ (k : ℕ). Turned (tick_at core_setting k (world_of at old first) (Some (node_of old.config at stands.member))) (string_bytes old.outside.text) (string_bytes new.outside.text) (world_of next new later) (Some ending)) known turned)))
    plays

-- a node that doesn't run takes no tick
pub ticks_none : (number id n : ℕ) (w : Model) → worlds.running_at id w.nodes ≡ None → ticks core_setting number id n w ≡ says [] w
unfolding ticks
ticks_none number id zero w none = rw none refl
ticks_none number id (suc n) w none = rw (none, ticks_none number id n w none) refl

-- one that took them all is told
pub ticks_told : (number id n : ℕ) (w : Model) → n ≡ 0 → is_some (worlds.running_at id w.nodes) ≡ true → ticks core_setting number id n w ≡ says (tick_text number id) w
unfolding ticks
ticks_told number id n w e runs = rw (e, runs) refl
