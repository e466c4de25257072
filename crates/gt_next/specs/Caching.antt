-- Caches: what `put` and `find` may answer, and what they leave.
use Rattle.std.specs.Prelude.{◌≡◌, ◌==◌, ◌≤◌, ◌<◌, ℕ, if◌then◌else◌, List, [], ◌∷◌, ◌++◌, Option, Some, None, option_map, find, map, slice_get, slice_set}
use Rattle.std.specs.List.{list_any, position_from}
use Rattle.std.specs.Str.{bytes_eq}
use Rattle.gt_types.specs.declared.types.TypeId.{TypeId}
use Rattle.gt_types.specs.declared.program.Cache.{Cache}
use Rattle.gt_types.specs.declared.program.Program.{Program}
use Rattle.gt_graph.specs.Objects.{pairs_in}
use Rattle.gt_graph.specs.Places.{address_in}
use Rattle.gt_graph.specs.Good.{MAX_PAIRS, IsSingle}
use Rattle.gt_next.specs.declared.answer.Answer.{Answer}
use Rattle.gt_next.specs.declared.answer.Answer.TheVariants.{Done, Null, Ref, Refused}
use Rattle.gt_next.specs.declared.answer.Why.{Why}
use Rattle.gt_next.specs.declared.answer.Why.TheVariants.{Unbound, WrongType, TooLarge, NoCache}
use Rattle.gt_next.specs.States.{State, meaning}

-- ---- caches and their pairs

-- the place of the cache of a name
abbrev pub cache_of : Program → List ℕ → Option ℕ
cache_of program name = position_from (λ c. bytes_eq c.name name) 0 program.caches

-- the value that a key has among pairs
abbrev pub value_of_key : ℕ → List (ℕ × ℕ) → Option ℕ
value_of_key key pairs = option_map (λ pair. pair.1) (find (λ pair. pair.0 == key) pairs)

-- a pair, with another value where it has this key
abbrev pub paired : ℕ → ℕ → ℕ × ℕ → ℕ × ℕ
paired key value pair = if pair.0 == key then (key, value) else pair

-- the pairs with a key and its value: an old key keeps its place and gets the new value, and a new one stands last
abbrev pub with_pair : ℕ → ℕ → List (ℕ × ℕ) → List (ℕ × ℕ)
with_pair key value pairs = if list_any (λ pair. pair.0 == key) pairs then map (paired key value) pairs else pairs ++ (key, value) ∷ []

-- the state with other pairs in the cache at a place
abbrev pub with_pairs : State → ℕ → List (ℕ × ℕ) → State
with_pairs s place pairs = record s { heap = record s.heap { graph = record s.heap.graph { pairs = slice_set s.heap.graph.pairs place pairs } } }

-- ---- variables for keys and values

-- why a variable is refused as a key or a value of a type: it is not bound, or its object is no single structure of this type
pub data RefusesMember (s : State) (name : List ℕ) (type : TypeId) : Why → Type 0 where
  unbound : meaning s.variables name ≡ None → RefusesMember s name type Unbound
  other : {id : ℕ} → meaning s.variables name ≡ Some id → ¬ IsSingle s.heap.graph.objects id type → RefusesMember s name type WrongType

-- a variable means a single structure of a type
pub record IsMember (s : State) (name : List ℕ) (type : TypeId) (id : ℕ) : Type 0 where
  pub bound : meaning s.variables name ≡ Some id
  pub single : IsSingle s.heap.graph.objects id type

-- a cache by its name: its place, what it is, and its pairs
pub record IsCacheAt (program : Program) (s : State) (name : List ℕ) (place : ℕ) (cache : Cache) (pairs : List (ℕ × ℕ)) : Type 0 where
  pub at : cache_of program name ≡ Some place
  pub declared : slice_get program.caches place ≡ Some cache
  pub held : slice_get s.heap.graph.pairs place ≡ Some pairs

-- ---- put and find

-- put: no such cache; else the key is refused; else the value is; else one pair too many; else the key has this value
pub data NextPut (program : Program) (s : State) (name key value : List ℕ) : Answer → State → Type 0 where
  no_cache : cache_of program name ≡ None → NextPut program s name key value (Refused NoCache) s
  key_refused : {place : ℕ} {cache : Cache} {pairs : List (ℕ × ℕ)} {why : Why} → IsCacheAt program s name place cache pairs → RefusesMember s key cache.key why
      → NextPut program s name key value (Refused why) s
  value_refused : {place k : ℕ} {cache : Cache} {pairs : List (ℕ × ℕ)} {why : Why} → IsCacheAt program s name place cache pairs → IsMember s key cache.key k
      → RefusesMember s value cache.value why → NextPut program s name key value (Refused why) s
  too_large : {place k v : ℕ} {cache : Cache} {pairs : List (ℕ × ℕ)} → IsCacheAt program s name place cache pairs → IsMember s key cache.key k → IsMember s value cache.value v
      → value_of_key k pairs ≡ None → MAX_PAIRS ≤ pairs_in s.heap.graph.pairs → NextPut program s name key value (Refused TooLarge) s
  replaces : {place k v old : ℕ} {cache : Cache} {pairs : List (ℕ × ℕ)} → IsCacheAt program s name place cache pairs → IsMember s key cache.key k → IsMember s value cache.value v
      → value_of_key k pairs ≡ Some old → NextPut program s name key value Done (with_pairs s place (with_pair k v pairs))
  adds : {place k v : ℕ} {cache : Cache} {pairs : List (ℕ × ℕ)} → IsCacheAt program s name place cache pairs → IsMember s key cache.key k → IsMember s value cache.value v
      → value_of_key k pairs ≡ None → pairs_in s.heap.graph.pairs < MAX_PAIRS → NextPut program s name key value Done (with_pairs s place (with_pair k v pairs))

-- find: no such cache; else the key is refused; else the address of its value, or null where it has none
pub data NextFind (program : Program) (s : State) (name key : List ℕ) : Answer → State → Type 0 where
  no_cache : cache_of program name ≡ None → NextFind program s name key (Refused NoCache) s
  key_refused : {place : ℕ} {cache : Cache} {pairs : List (ℕ × ℕ)} {why : Why} → IsCacheAt program s name place cache pairs → RefusesMember s key cache.key why
      → NextFind program s name key (Refused why) s
  finds : {place k v : ℕ} {cache : Cache} {pairs : List (ℕ × ℕ)} → IsCacheAt program s name place cache pairs → IsMember s key cache.key k → value_of_key k pairs ≡ Some v
      → NextFind program s name key (Ref (address_in s.heap.places.placed v)) s
  finds_none : {place k : ℕ} {cache : Cache} {pairs : List (ℕ × ℕ)} → IsCacheAt program s name place cache pairs → IsMember s key cache.key k → value_of_key k pairs ≡ None
      → NextFind program s name key Null s
