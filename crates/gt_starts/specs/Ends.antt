-- No promise: how paths go on, and what the table of this says.
use Rattle.std.specs.Prelude.{◌≡◌, ◌⊎◌, ◌↔◌, ℕ, List, [], ◌∷◌, ◌++◌, Option, Some, None}
use Rattle.gt_sets.specs.Sets.{IsIn}
use Rattle.gt_starts.specs.Begins.{IsInSome, sets_at}
use Rattle.gt_starts.specs.Tries.{Trie, node_of, node_from}
use Rattle.gt_starts.specs.Ways.{Way, known, hidden, EndsIn}
use Rattle.gt_starts.specs.Paths.{Starts, BeginsIn}
use Rattle.gt_starts.specs.declared.ways.Led.{Led}
use Rattle.gt_starts.specs.declared.ways.Led.TheVariants.{Known, Hidden, Nowhere}

-- some path that begins there has these names first, and goes on to end in this one
abbrev pub EndsAfter : Starts → List (List ℕ) → List ℕ → ℕ → Type 0
EndsAfter starts front last begin = (rest : List (List ℕ)) × EndsIn last rest × BeginsIn starts (front ++ rest) begin

-- Some path leads to each node that has structures. In the table of ends a path of some names and a last one begins where paths do that have these names first, and
-- go on to end in the last one.
pub record AreEndsOf (starts : Starts) (ends : List (List (List ℕ))) : Type 0 where
  pub nodes : (node begin : ℕ) → IsInSome (sets_at starts.begins node) begin → (path : List (List ℕ)) × (node_of starts.trie path ≡ Some node)
  pub end_nodes : (node begin : ℕ) → IsInSome (sets_at ends node) begin → (path : List (List ℕ)) × (node_of starts.trie path ≡ Some node)
  pub same : (front : List (List ℕ)) (last : List ℕ) (begin : ℕ) → BeginsIn (record { trie = starts.trie; begins = ends }) (front ++ last ∷ []) begin ↔ EndsAfter starts front last begin

-- a node is that of these names, of some of the next ones, and of the last one of those that are left
pub record IsEnd (trie : Trie) (before names : List (List ℕ)) (node : ℕ) : Type 0 where
  pub front : List (List ℕ)
  pub rest : List (List ℕ)
  pub last : List ℕ
  pub splits : names ≡ front ++ rest
  pub ends : EndsIn last rest
  pub leads : node_of trie ((before ++ front) ++ last ∷ []) ≡ Some node

-- these structures are added to the rows of the nodes that are such, and there are all of these
pub record AddsEnds (trie : Trie) (before names : List (List ℕ)) (rows more : List (List (List ℕ))) (begins : List ℕ) : Type 0 where
  pub adds : (node begin : ℕ) → IsInSome (sets_at more node) begin ↔ (IsInSome (sets_at rows node) begin ⊎ (IsEnd trie before names node × IsIn begins begin))
  pub there : (front rest : List (List ℕ)) (last : List ℕ) → names ≡ front ++ rest → EndsIn last rest → (node : ℕ) × (node_of trie ((before ++ front) ++ last ∷ []) ≡ Some node)

abbrev pub led_to : (ℕ → Led) → Option ℕ → Led
led_to kind (Some node) = kind node
led_to kind None = Nowhere

-- where a way leads from a node: to the node of its names, or to that of the names up to a union
abbrev pub led : Trie → ℕ → Way → Led
led trie node (known names) = led_to Known (node_from trie node names)
led trie node (hidden front) = led_to Hidden (node_from trie node front)
