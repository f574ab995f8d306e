-- Whether the accepted block is to be delivered.
use Rattle.std.proofs.Common.{◌≡◌, ℕ, Bool, true, false, ◌&&◌, length, Some, None, refl, List, ap, sym, ◌∙◌}
use Rattle.std.specs.Prelude.{nat_le}
use Rattle.ord_types.specs.Members.{is_raft}
use Rattle.ord_types.specs.Hashes.{block_hash}
use Rattle.ord_types.specs.declared.values.Cert.{Cert}
use Rattle.ord_types.specs.declared.values.Place.{Place}
use Rattle.ord_types.specs.declared.values.Sig.{Sig}
use Rattle.safety_model.specs.Blocks.{Block}
use Rattle.view_model.specs.Acts.{View, quorum_of, commits, certificate, delivery_due}
use Rattle.view_model.specs.Checks.{is_next_block}

-- the Commits are enough, and the block is the next one
abbrev pub may_deliver : Place → View → Block → List ℕ → Bool
may_deliver place w b d = nat_le (quorum_of place.config) (length (commits place w d)) && is_next_block place b

pub delivery_none : (place : Place) (w : View) (b : Block) (d : List ℕ) → is_raft place.config ≡ false → w.accepted ≡ Some b → d ≡ block_hash b → may_deliver place w b d ≡ false → None ≡ delivery_due place w
delivery_none place w b d raft accepted hash test = rw (raft, accepted, ap (may_deliver place w b) (sym hash) ∙ test) refl

delivered : (place : Place) (w : View) (b : Block) → is_raft place.config ≡ false → w.accepted ≡ Some b → may_deliver place w b (block_hash b) ≡ true → Some (b, certificate place w b) ≡ delivery_due place w
delivered place w b raft accepted test = rw (raft, accepted, test) refl

pub delivery_some : (place : Place) (w : View) (b : Block) (d : List ℕ) (copied : Block) (view : ℕ) (sigs : List Sig) → is_raft place.config ≡ false → w.accepted ≡ Some b → d ≡ block_hash b → may_deliver place w b d ≡ true → copied ≡ b → view ≡ w.view → sigs ≡ commits place w d → Some (copied, record { view = view; sigs = sigs }) ≡ delivery_due place w
delivery_some place w b d copied view sigs raft accepted hash test copy same all =
    let cert : record { view = view; sigs = sigs } ≡ certificate place w b = ap (λ (v : ℕ). record { view = v; sigs = sigs }) same ∙ ap (λ (s : List Sig). record { view = w.view; sigs = s }) (all ∙ ap (commits place w) hash) in
    ap (λ (x : Block). Some (x, record { view = view; sigs = sigs })) copy ∙ ap (λ (x : Cert). Some (b, x)) cert ∙ delivered place w b raft accepted (ap (may_deliver place w b) (sym hash) ∙ test)
