use Rattle.std.proofs.Common.{◌≡◌, ◌++◌, string_bytes, take}
use Rattle.std.specs.Prelude.{codes, decimal}
use Rattle.std.specs.List.{flat_map}
use Rattle.signer_edge.specs.Certificates.{signers_in}
use Rattle.world_run.proofs.texts.put_other_signers.Given as goal

abbrev pub invariant-loop-sig : goal.invariant-loop-sig
invariant-loop-sig l = string_bytes l.text ≡ string_bytes l.fn.text ++ flat_map (λ other. codes "," ++ decimal other) (signers_in (take l.sig-index l.sigs))
