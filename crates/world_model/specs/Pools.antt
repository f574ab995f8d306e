-- The pool of a node: its waiting requests, in the order in which they came.
use Rattle.std.specs.Prelude.{
  ℕ,
  Bool,
  ◌&&◌,
  ◌==◌,
  not,
  List,
  [],
  ◌∷◌,
  ◌++◌,
  length,
  take,
  filter,
  Result,
  Ok,
  Err,
  if◌then◌else◌,
}
use Rattle.std.specs.List.{list_any}
use Rattle.ord_types.specs.declared.values.ReqId.{ReqId}
use Rattle.ord_types.specs.Faults.{whole}
use Rattle.ord_types.specs.Reading.{request_at}
use Rattle.ord_types.specs.declared.fault.ReadFault.{ReadFault}
use Rattle.ord_types.specs.declared.fault.ReadFault.TheVariants.{Short, BadField, Trailing, NoMemory}
use Rattle.safety_model.specs.Blocks.{Request, is_ordinary}

pub data Answer : Type 0 where
  Admitted : Answer
  -- the place of the byte that isn't in the grammar
  Malformed : ℕ → Answer
  KnownPending : Answer

abbrev pub id_eq : ReqId → ReqId → Bool
id_eq a b = (a.client == b.client) && (a.serial == b.serial)

abbrev pub has_id : ReqId → List Request → Bool
has_id id rs = list_any (λ r. id_eq r.id id) rs

-- what bytes spell: a request, or a fault
unfoldable pub request_in : List ℕ → Result Request ReadFault
request_in bytes = whole (length bytes) (request_at bytes)

-- where a fault is
abbrev pub place_of_fault : ReadFault → ℕ
place_of_fault (Short at) = at
place_of_fault (BadField at) = at
place_of_fault (Trailing at) = at
place_of_fault NoMemory = 0

-- the answer to what bytes spell: the first that holds. No change is taken yet.
abbrev pub judged : List Request → Result Request ReadFault → Answer
judged pool (Err fault) = Malformed (place_of_fault fault)
judged pool (Ok r) =
    if is_ordinary r then (if has_id r.id pool then KnownPending else Admitted) else Malformed 0

-- an admitted request stands at the end
abbrev pub entered : List Request → Result Request ReadFault → List Request
entered pool (Err fault) = pool
entered pool (Ok r) = if is_ordinary r && not (has_id r.id pool) then pool ++ r ∷ [] else pool

-- the answer to bytes, and the pool after them
abbrev pub answer : List Request → List ℕ → Answer
answer pool bytes = judged pool (request_in bytes)

abbrev pub pool_after : List Request → List ℕ → List Request
pool_after pool bytes = entered pool (request_in bytes)

-- what is offered for the next block: the first request
abbrev pub offer : List Request → List Request
offer pool = take 1 pool

-- without the requests that were delivered
abbrev pub settled : List Request → List Request → List Request
settled delivered pool = filter (λ r. not (has_id r.id delivered)) pool
