use Rattle.std.proofs.Common.{ℕ, List, option_map, min, ◌-◌, ◌^◌, refl, sym, ◌∙◌, ap, arith}
use Rattle.gate_log.proofs.Going.{leaves_none_more}
use Rattle.bft_wal.specs.Opening.{first_wrong, records_or}
use Rattle.bft_wal.proofs.Opens.{leaves_as_before, opens_opened, other_cause, other_value, still, told_wrong}
use Rattle.bft_wal.proofs.wal.Wal.open.Goals as goal

pub returns-in-None-clause-any_moment : goal.returns-in-None-clause-any_moment
returns-in-None-clause-any_moment g c = λ t. leaves_as_before _ _ (g.met.D.Disk.reads_is_left c.args.disk.now 0 t) (c.open.ensures.as_read t)

pub returns-in-Some-clause-any_moment : goal.returns-in-Some-clause-any_moment
returns-in-Some-clause-any_moment g c = λ t. leaves_as_before _ _ (g.met.D.Disk.reads_is_left c.args.disk.now 0 t) (c.open.ensures.as_read t)

pub returns-in-Some-clause-value : goal.returns-in-Some-clause-value
returns-in-Some-clause-value g c = λ t.
    let log = c.in-Ok.log in
    let value = sym c.in-Some.is ∙ c.in_ok-first_wrong-in-Ok.ensures.value ∙ ap (λ (es : List (List ℕ)). option_map (λ w. min w (2 ^ 64 - 1)) (first_wrong 17 es)) c.entries.ensures in
    let settled = c.in-Ok.ensures.settled t in
    let told = told_wrong c.in-Some.at log.entries (first_wrong 17 log.entries) (omega (arith, settled.gate, log.gate_fits)) refl value in
    opens_opened _ log.generation log.entries (c.in-Ok.ensures.value t) ∙ ap (records_or log.entries) told

pub returns-in_err-place-in-Foreign-clause-any_moment : goal.returns-in_err-place-in-Foreign-clause-any_moment
returns-in_err-place-in-Foreign-clause-any_moment g c = λ t.
    leaves_none_more 0 _ _ _ _ (leaves_as_before _ _ (g.met.D.Disk.reads_is_left c.args.disk.now 0 t) (c.open.ensures.as_read t)) (c.earliest_wrong.ensures.same (still _ _ c.open.ensures.tells t))

pub returns-in_ok-place-in-Foreign-clause-any_moment : goal.returns-in_ok-place-in-Foreign-clause-any_moment
returns-in_ok-place-in-Foreign-clause-any_moment g c = λ t.
    leaves_none_more 0 _ _ _ _ (leaves_as_before _ _ (g.met.D.Disk.reads_is_left c.args.disk.now 0 t) (c.open.ensures.as_read t)) (c.earliest_wrong.ensures.same (still _ _ c.open.ensures.tells t))

pub returns-in_default : goal.returns-in_default
returns-in_default g c =
    record {
      settled = λ t. tt;
      value = λ t. other_value c.in-Err.fault _ _ c.in_default.not-Foreign (c.in-Err.ensures.value t);
      any_moment = λ t. leaves_as_before _ _ (g.met.D.Disk.reads_is_left c.args.disk.now 0 t) (c.open.ensures.as_read t);
      refused = λ t. c.in-Err.ensures.refused t;
      tells = c.open.ensures.tells;
      later = c.open.ensures.later;
      cause = other_cause c.in-Err.fault _ _ c.in-Err.ensures.cause;
    }
