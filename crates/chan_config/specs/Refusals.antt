-- Why a block may not come next in a chain: the first cause that holds.
use Rattle.std.specs.Prelude.{ℕ, ◌+◌, Bool, not, ◌&&◌, ◌||◌, ◌==◌, nat_lt, List, [], ◌∷◌, length, if◌then◌else◌, Option, Some, None, Result, Ok, Err}
use Rattle.std.specs.Option.{option_map}
use Rattle.std.specs.Str.{bytes_eq}
use Rattle.ord_types.specs.Spelling.{request_text}
use Rattle.chan_config.specs.Blocks.{Block, Config, Request, content_fits, has_number, is_normal, is_ordinary, meta_fits}
use Rattle.chan_config.specs.declared.checks.BlockRefusal.{BlockRefusal}
use Rattle.chan_config.specs.declared.checks.BlockRefusal.TheVariants.{WrongNumber, WrongPrevious, WrongContent, WrongMeta, WrongConfig, Unlawful}

-- how many bytes the spelled request has
abbrev pub size_of : Request → ℕ
size_of r = length (request_text r)

-- the request is too large, or a change, since none is ordered yet, or an ordinary one in maintenance
abbrev pub is_bad_alone : Config → Request → Bool
is_bad_alone c r = nat_lt c.batch.absolute (size_of r) || not (is_ordinary r) || (is_ordinary r && not (is_normal c))

-- the request may not stand in a block after others, which have so many bytes: it is bad alone, or they are too large together
abbrev pub is_barred : Config → ℕ → Request → Bool
is_barred c before r = is_bad_alone c r || nat_lt c.batch.absolute (before + size_of r)

-- the place of the first request that may not stand, where these begin at a place, after so many bytes
abbrev pub first_barred : Config → ℕ → ℕ → List Request → Option ℕ
first_barred c at before [] = None
first_barred c at before (r ∷ rs) = if is_barred c before r then Some at else first_barred c (at + 1) (before + size_of r) rs

-- the place, counted from 0, at which the requests of a block are first unlawful: 0 where there are none
abbrev pub first_unlawful : Config → List Request → Option ℕ
first_unlawful c [] = Some 0
first_unlawful c (r ∷ rs) = first_barred c 0 0 (r ∷ rs)

-- why a block may not come next after a block of this hash, at this number, under this configuration
abbrev pub refusal_at : List ℕ → ℕ → Config → Block → Option BlockRefusal
refusal_at last number c b =
    if not (has_number number b) then Some (WrongNumber b.header.number)
    else if not (bytes_eq b.header.previous last) then Some (WrongPrevious b.header.previous last)
    else if not (content_fits b) then Some WrongContent
    else if not (meta_fits b) then Some WrongMeta
    else if not (b.meta.config == c.number) then Some (WrongConfig b.meta.config)
    else option_map Unlawful (first_unlawful c b.requests)

-- the answer of a check: the refusal, or the next configuration, of which there is none yet
abbrev pub checked : Option BlockRefusal → Result (Option Config) BlockRefusal
checked None = Ok None
checked (Some refusal) = Err refusal
