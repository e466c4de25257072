-- No promise: what holds of the numbers of nodes and names while names are added.
use Rattle.std.specs.Prelude.{◌≡◌, ◌<◌, ◌^◌, ℕ, List, Some, length}
use Rattle.gt_starts.specs.declared.tries.Step.{Step}
use Rattle.gt_starts.specs.Tries.{Trie, node_at, node_of}

-- no two paths lead to one node
abbrev pub AreApart : Trie → Type 0
AreApart trie = (path other : List (List ℕ)) (node : ℕ) → node_of trie path ≡ Some node → node_of trie other ≡ Some node → path ≡ other

-- the node of this number is new, and so is the name of the next number
pub record IsTrie (trie : Trie) (count : ℕ) : Type 0 where
  pub reached : (path : List (List ℕ)) (node : ℕ) → node_of trie path ≡ Some node → node < count
  pub left : (step : Step) (next : ℕ) → node_at trie.steps step ≡ Some next → step.from < count
  pub named : (step : Step) (next : ℕ) → node_at trie.steps step ≡ Some next → step.name < length trie.names
  pub narrow : (step : Step) (next : ℕ) → node_at trie.steps step ≡ Some next → step.name < 2 ^ 32
  pub apart : AreApart trie

-- paths lead where they led
pub record Grows (old new : Trie) : Type 0 where
  pub nodes : (path : List (List ℕ)) (node : ℕ) → node_of old path ≡ Some node → node_of new path ≡ Some node
