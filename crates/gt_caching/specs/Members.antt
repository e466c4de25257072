-- No promise: what the names of a command mean, its cache, its key and its value. Only the functions inside the crate cite this.
use Rattle.std.specs.Prelude.{◌≡◌, ◌<◌, ◌⊎◌, ℕ, List, Some, None}
use Rattle.gt_types.specs.declared.program.Cache.{Cache}
use Rattle.gt_types.specs.declared.program.Program.{Program}
use Rattle.gt_graph.specs.Objects.{pairs_in}
use Rattle.gt_graph.specs.Good.{MAX_PAIRS}
use Rattle.gt_next.specs.States.{State}
use Rattle.gt_next.specs.Caching.{value_of_key, IsMember, IsCacheAt}
use Rattle.gt_caching.specs.declared.members.NamedCache.{NamedCache}
use Rattle.gt_caching.specs.declared.putting.NewPair.{NewPair}

-- the cache of a name is at this place, and these are the types of its keys and values
pub record IsNamed (program : Program) (s : State) (name : List ℕ) (named : NamedCache) : Type 0 where
  pub cache : Cache
  pub pairs : List (ℕ × ℕ)
  pub at : IsCacheAt program s name named.place cache pairs
  pub key : cache.key ≡ named.key
  pub value : cache.value ≡ named.value

-- a key has a value among pairs, or there is room for one more beside so many
abbrev pub HasRoom : ℕ → List (ℕ × ℕ) → ℕ → Type 0
HasRoom key pairs count = ((old : ℕ) × (value_of_key key pairs ≡ Some old)) ⊎ ((value_of_key key pairs ≡ None) × (count < MAX_PAIRS))

-- the pair may be put: the key and the value are single structures of the types of the cache, and the key has a value or there is room
pub record MayPut (program : Program) (s : State) (name key value : List ℕ) (pair : NewPair) : Type 0 where
  pub cache : Cache
  pub pairs : List (ℕ × ℕ)
  pub at : IsCacheAt program s name pair.place cache pairs
  pub key_is : IsMember s key cache.key pair.key
  pub value_is : IsMember s value cache.value pair.value
  pub room : HasRoom pair.key pairs (pairs_in s.heap.graph.pairs)
