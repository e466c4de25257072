-- Paths of names, as nodes to which names lead.
use Rattle.std.specs.Prelude.{ℕ, List, [], ◌∷◌, Option, Some, position}
use Rattle.std.specs.Ordering.{nat_cmp, ordering_then}
use Rattle.std.specs.Str.{bytes_eq}
use Rattle.std.specs.Map.{lookup}
use Rattle.std.specs.BTreeMap.{is_at}
use Rattle.std.specs.declared.cmp.Ordering.{Ordering}
use Rattle.gt_tree.specs.Scopes.{◌then◌}
use Rattle.gt_starts.specs.declared.tries.Step.{Step}

-- steps in order, by the nodes from which they lead, and then by the numbers of their names
abbrev pub step_cmp : Step → Step → Ordering
step_cmp a b = ordering_then (nat_cmp a.from b.from) (nat_cmp a.name b.name)

-- distinct names, and the node to which each step leads from a node by the number of a name
pub record Trie : Type 0 where
  pub names : List (List ℕ)
  pub steps : List (Step × ℕ)

-- the number of a name
abbrev pub number_of : Trie → List ℕ → Option ℕ
number_of trie name = position (λ other. bytes_eq other name) trie.names

-- the node to which a step leads
abbrev pub node_at : List (Step × ℕ) → Step → Option ℕ
node_at steps step = lookup (is_at (step_cmp step)) steps

-- the node to which a name leads from a node
abbrev pub child : Trie → ℕ → List ℕ → Option ℕ
child trie node name = number_of trie name then λ number. node_at trie.steps (record { from = node; name = number })

-- the node to which names lead from a node, one after another, where each leads to a child
abbrev pub lead : (ℕ → List ℕ → Option ℕ) → ℕ → List (List ℕ) → Option ℕ
lead child node [] = Some node
lead child node (name ∷ names) = child node name then λ next. lead child next names

-- the node to which names lead in a trie from a node
abbrev pub node_from : Trie → ℕ → List (List ℕ) → Option ℕ
node_from trie = lead (child trie)

-- the node to which names lead from the root, which is node 0
abbrev pub node_of : Trie → List (List ℕ) → Option ℕ
node_of trie = node_from trie 0
