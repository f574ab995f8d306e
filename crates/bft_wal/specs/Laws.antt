-- What one more record changes.
use Rattle.std.specs.Prelude.{◌≡◌, ℕ, ◌<◌, ◌≤◌, Bool, true, false, ◌==◌, ◌&&◌, max, List, [], ◌∷◌, ◌++◌, take, Option, Some, IfSome}
use Rattle.std.specs.Str.{bytes_eq}
use Rattle.ord_types.specs.Hashes.{block_hash}
use Rattle.ord_types.specs.declared.values.Block.{Block}
use Rattle.ord_types.specs.declared.values.Vote.{Vote}
use Rattle.bft_wal.specs.Fold.{choice_of, durable_of, last_block, tally_of}
use Rattle.bft_wal.specs.Records.{WalRecord}
use Rattle.bft_wal.specs.declared.record.WalRecord.TheVariants as record_of

-- each vote is of a view below this one
abbrev pub AreBelow : ℕ → List Vote → Type 0
AreBelow view [] = Unit {0}
AreBelow view (vote ∷ votes) = (vote.view < view) × AreBelow view votes

-- none of these votes is for this hash
abbrev pub IsNew : List ℕ → List Vote → Type 0
IsNew digest [] = Unit {0}
IsNew digest (vote ∷ votes) = (bytes_eq digest vote.digest ≡ false) × IsNew digest votes

-- An acceptance of a view above the accepted ones, of a block that wasn't prepared before, is the newest.
abbrev pub AcceptingAdds : Type 0
AcceptingAdds =
    (c h : ℕ) (rs : List WalRecord) (view : ℕ) (block : Block)
    → AreBelow view (durable_of c h rs).accepted → IsNew (block_hash block) (tally_of c h rs).prepared
    → durable_of c h (rs ++ record_of.Accepted c view h block ∷ [])
    ≡ record (durable_of c h rs) { accepted = take 32 (record { view = view; digest = block_hash block } ∷ (durable_of c h rs).accepted); block = Some block }

-- A preparation of an accepted block, of a view not below the prepared one, is the one that stands.
abbrev pub PreparingAdds : Type 0
PreparingAdds =
    (c h : ℕ) (rs : List WalRecord) (view : ℕ) (digest : List ℕ) (block : Block)
    → last_block digest (tally_of c h rs).accepted ≡ Some block → IfSome (durable_of c h rs).prepared (λ p. p.0.view ≤ view)
    → durable_of c h (rs ++ record_of.Prepared c view h digest ∷ [])
    ≡ record (durable_of c h rs) { prepared = Some (record { view = view; digest = digest }, block) }

abbrev pub LeavingAdds : Type 0
LeavingAdds =
    (c h : ℕ) (rs : List WalRecord) (view : ℕ)
    → durable_of c h (rs ++ record_of.Left c view ∷ []) ≡ record (durable_of c h rs) { left = max (durable_of c h rs).left view }

abbrev pub EnteringAdds : Type 0
EnteringAdds =
    (c h : ℕ) (rs : List WalRecord) (view number : ℕ) (carried : Option Vote)
    → durable_of c h (rs ++ record_of.Entered c view number carried ∷ [])
    ≡ record (durable_of c h rs) { view = max (durable_of c h rs).view view; bound = Some (number, choice_of carried) }

abbrev pub VotingAdds : Type 0
VotingAdds =
    (c h : ℕ) (rs : List WalRecord) (term candidate : ℕ)
    → durable_of c h (rs ++ record_of.Voted term candidate ∷ []) ≡ record (durable_of c h rs) { term = term; voted = candidate }

abbrev pub TailingAdds : Type 0
TailingAdds =
    (c h : ℕ) (rs : List WalRecord) (term : ℕ) (block : Block)
    → durable_of c h (rs ++ record_of.Tail term h block ∷ []) ≡ record (durable_of c h rs) { tail = Some (term, block) }

-- whether a record is of the configuration, and of the height where it names one that counts
abbrev pub is_of : ℕ → ℕ → WalRecord → Bool
is_of c h (record_of.Accepted config view number block) = (config == c) && (number == h)
is_of c h (record_of.Prepared config view number digest) = (config == c) && (number == h)
is_of c h (record_of.Left config view) = config == c
is_of c h (record_of.Entered config view number carried) = config == c
is_of c h (record_of.Voted term candidate) = true
is_of c h (record_of.Tail term number block) = number == h

-- a record of another configuration or number changes nothing
abbrev pub NothingElseAdds : Type 0
NothingElseAdds = (c h : ℕ) (rs : List WalRecord) (r : WalRecord) → is_of c h r ≡ false → durable_of c h (rs ++ r ∷ []) ≡ durable_of c h rs
