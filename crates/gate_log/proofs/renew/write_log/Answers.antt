use Rattle.std.proofs.Common.{ℕ, List, [], ◌∷◌, length, sym, ◌∙◌, ap, subst}
use Rattle.gate_log.specs.Disk.{File, IsLeft, synced_file, overwritten}
use Rattle.gate_log.specs.Renew.{IsNewOrAbsent}
use Rattle.gate_log.proofs.Going.{leaves_to, leaves_then}
use Rattle.gate_log.proofs.Bodies.{IsBody, body_is, begun, fill_crash, fill_write, head_crash, head_write, stands}
use Rattle.gate_log.proofs.AppendRun.{still}
use Rattle.gate_log.proofs.renew.write_log.Goals as goal

pub returns-in_err-write_through-clause-any_moment : goal.returns-in_err-write_through-clause-any_moment
returns-in_err-write_through-clause-any_moment g c = λ t.
    let h = c.requires.head t in
    let b = subst (IsBody c.args.generation c.args.entries) (sym c.requires.body) (body_is c.args.generation c.args.entries c.requires.generation.0 c.requires.generation.1 c.requires.entries.0) in
    let from = ap (λ (f : File). f.reads) h.is in
    let P = IsNewOrAbsent c.args.generation c.args.entries in
    let fill = leaves_to c.args.file _ P (λ k left. fill_crash c.args.generation c.args.entries h.rest _ b k (subst (λ (l : List ℕ). IsLeft l ((9, length c.args.body.now) ∷ []) k) from left)) _ _ (c.write_through.ensures.any_moment t) in
    fill

pub returns-in_err-write_through-2-clause-any_moment : goal.returns-in_err-write_through-2-clause-any_moment
returns-in_err-write_through-2-clause-any_moment g c = λ t.
    let h = c.requires.head t in
    let b = subst (IsBody c.args.generation c.args.entries) (sym c.requires.body) (body_is c.args.generation c.args.entries c.requires.generation.0 c.requires.generation.1 c.requires.entries.0) in
    let from = ap (λ (f : File). f.reads) h.is in
    let P = IsNewOrAbsent c.args.generation c.args.entries in
    let fill = leaves_to c.args.file _ P (λ k left. fill_crash c.args.generation c.args.entries h.rest _ b k (subst (λ (l : List ℕ). IsLeft l ((9, length c.args.body.now) ∷ []) k) from left)) _ _ (c.write_through.ensures.any_moment t) in
    let t1 = still _ _ c.write_through.ensures.tells t in
    let mid = c.in_ok-write_through.ensures.written t ∙ ap synced_file (ap (overwritten 9 c.args.body.now) from ∙ fill_write c.args.generation c.args.entries h.rest _ b) in
    let mid_reads = ap (λ (f : File). f.reads) mid in
    let head = leaves_to c.args.file _ P (λ k left. head_crash c.args.generation c.args.entries h.rest _ b k (subst (λ (l : List ℕ). IsLeft l ((8, 1) ∷ []) k) mid_reads left)) _ _ (c.write_through-2.ensures.any_moment t1) in
    leaves_then c.args.file P _ _ _ fill head

pub returns-clause-any_moment : goal.returns-clause-any_moment
returns-clause-any_moment g c = λ t.
    let h = c.requires.head t in
    let b = subst (IsBody c.args.generation c.args.entries) (sym c.requires.body) (body_is c.args.generation c.args.entries c.requires.generation.0 c.requires.generation.1 c.requires.entries.0) in
    let from = ap (λ (f : File). f.reads) h.is in
    let P = IsNewOrAbsent c.args.generation c.args.entries in
    let fill = leaves_to c.args.file _ P (λ k left. fill_crash c.args.generation c.args.entries h.rest _ b k (subst (λ (l : List ℕ). IsLeft l ((9, length c.args.body.now) ∷ []) k) from left)) _ _ (c.write_through.ensures.any_moment t) in
    let t1 = still _ _ c.write_through.ensures.tells t in
    let mid = c.in_ok-write_through.ensures.written t ∙ ap synced_file (ap (overwritten 9 c.args.body.now) from ∙ fill_write c.args.generation c.args.entries h.rest _ b) in
    let mid_reads = ap (λ (f : File). f.reads) mid in
    let head = leaves_to c.args.file _ P (λ k left. head_crash c.args.generation c.args.entries h.rest _ b k (subst (λ (l : List ℕ). IsLeft l ((8, 1) ∷ []) k) mid_reads left)) _ _ (c.write_through-2.ensures.any_moment t1) in
    leaves_then c.args.file P _ _ _ fill head

pub returns-clause-settled : goal.returns-clause-settled
returns-clause-settled g c = λ t.
    let h = c.requires.head t in
    let b = subst (IsBody c.args.generation c.args.entries) (sym c.requires.body) (body_is c.args.generation c.args.entries c.requires.generation.0 c.requires.generation.1 c.requires.entries.0) in
    let from = ap (λ (f : File). f.reads) h.is in
    let t1 = still _ _ c.write_through.ensures.tells t in
    let mid = c.in_ok-write_through.ensures.written t ∙ ap synced_file (ap (overwritten 9 c.args.body.now) from ∙ fill_write c.args.generation c.args.entries h.rest _ b) in
    let mid_reads = ap (λ (f : File). f.reads) mid in
    record {
      bytes = begun c.args.generation c.args.entries h.rest _ b;
      file = c.in_ok-write_through-2.ensures.written t1 ∙ ap synced_file (ap (overwritten 8 (1 ∷ [])) mid_reads ∙ head_write c.args.generation c.args.entries h.rest _ b);
      stands = stands c.args.generation c.args.entries h.rest _ b;
      gate = c.gate_behind-gate.ensures;
    }
