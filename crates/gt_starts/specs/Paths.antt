-- Paths of names, each with the structures at which it begins.
use Rattle.std.specs.Prelude.{◌≡◌, ℕ, List, Some}
use Rattle.gt_starts.specs.Begins.{IsInSome, sets_at}
use Rattle.gt_starts.specs.Tries.{Trie, node_of}
use Rattle.gt_starts.specs.Ways.{EndsIn}

-- paths of names as nodes, and for each node the sets of the structures at which its path begins
pub record Starts : Type 0 where
  pub trie : Trie
  pub begins : List (List (List ℕ))

-- these names lead to a node, and one of its sets has the structure of this number
pub record BeginsIn (starts : Starts) (names : List (List ℕ)) (begin : ℕ) : Type 0 where
  pub node : ℕ
  pub leads : node_of starts.trie names ≡ Some node
  pub here : IsInSome (sets_at starts.begins node) begin

-- some path that ends in this name begins there
abbrev pub EndsFrom : Starts → List ℕ → ℕ → Type 0
EndsFrom starts last begin = (names : List (List ℕ)) × EndsIn last names × BeginsIn starts names begin
