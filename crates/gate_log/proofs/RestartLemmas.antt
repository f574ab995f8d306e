-- What a restart leaves.
use Rattle.std.proofs.Common.{◌≡◌, inl, inr, ℕ, List, [], refl, sym, ◌∙◌, ap, subst, Option, Some, None}
use Rattle.gate_log.specs.Disk.{File, MayLeave, IsLeft}
use Rattle.gate_log.specs.Renew.{IsSynced, IsOldOrAbsent, IsNewOrAbsent, IsOldOrNew}
use Rattle.gate_log.proofs.Left.{left_kept}

-- with no write pending a file is all on the disk
pub is_synced : (file : File) → file.pending ≡ [] → MayLeave file file.reads → IsSynced file
is_synced file none left =
    let kept : file.reads ≡ file.kept = left_kept file.kept file.reads (subst (λ (p : List (ℕ × ℕ)). IsLeft file.kept p file.reads) none left) in
    ap (λ (p : List (ℕ × ℕ)). record { kept = file.kept; pending = p; reads = file.reads }) none
    ∙ ap (λ (k : List ℕ). record { kept = k; pending = []; reads = file.reads }) (sym kept)

pub by_old : (old : List ℕ) (generation : ℕ) (entries : List (List ℕ)) (c : List ℕ) → IsOldOrAbsent old c → IsOldOrNew old generation entries c
by_old old generation entries c (inl none) = inl none
by_old old generation entries c (inr same) = inr (inl same)

pub by_new : (old : List ℕ) (generation : ℕ) (entries : List (List ℕ)) (c : List ℕ) → IsNewOrAbsent generation entries c → IsOldOrNew old generation entries c
by_new old generation entries c (inl none) = inl none
by_new old generation entries c (inr new) = inr (inr new)

pub no_refusal : (result refusal : Option ℕ) → result ≡ refusal → ((n : ℕ) → result ≡ Some n → ⊥) → refusal ≡ None
no_refusal (Some n) refusal is not_some = absurd (not_some n refl)
no_refusal None refusal is not_some = sym is
