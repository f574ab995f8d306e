-- What a submission holds of its bytes, and where one may want memory.
use Rattle.std.specs.Prelude.{◌≡◌, ℕ, Bool, true, false, List, Result, Ok, Err, Option, None, ⊤}
use Rattle.sha2.specs.Sha256.{sha256}
use Rattle.ord_types.specs.Grammar.{HasRequestSpelling}
use Rattle.chan_config.specs.Submissions.{read_in, spell_change}
use Rattle.request_pool.specs.declared.answers.Refusal.{Refusal}
use Rattle.request_pool.specs.declared.answers.Refusal.TheVariants.{NoMemory}
use Rattle.request_pool.specs.declared.submission.Read.{Read}
use Rattle.request_pool.specs.Pools.{IsBar}

-- this was read of the bytes: the request, which has a spelling, and their SHA-256 value; or the place of the first byte that doesn't fit
abbrev pub IsReadOf : List ℕ → Result Read ℕ → Type 0
IsReadOf bytes (Ok read) = (read_in bytes ≡ Ok read.request) × (read.digest ≡ sha256 bytes) × HasRequestSpelling read.request
IsReadOf bytes (Err at) = read_in bytes ≡ Err at

-- what bars a request was found, or nothing does
abbrev pub Bars : {T : Type 0} → Result T Refusal → Option Refusal → Type 0
Bars (Ok x) why = why ≡ None
Bars (Err refusal) why = IsBar why refusal

-- want of memory is answered only where nothing bars the request, or it is a change, which takes memory to be judged
abbrev pub WantsMemoryLast : {T : Type 0} → Bool → Result T Refusal → Option Refusal → Type 0
WantsMemoryLast change (Err NoMemory) why = change ≡ false → why ≡ None
WantsMemoryLast change result why = ⊤
