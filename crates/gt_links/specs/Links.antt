-- No promise: how the lists stand in the links.
use Rattle.std.specs.Prelude.{◌≡◌, ℕ, zero, suc, ◌+◌, ◌-◌, ◌^◌, ◌<◌, ◌↔◌, List, [], ◌∷◌, length, map, Some, None}
use Rattle.std.specs.List.{range_with_len}
use Rattle.gt_links.specs.declared.rings.Neighbour.{Neighbour}
use Rattle.gt_links.specs.declared.rings.Neighbour.TheVariants.{Head, Node}
use Rattle.gt_links.specs.declared.rings.Rings.{Rings}
use Rattle.gt_links.specs.Lists.{Lists, nodes_of, Holds}
use Rattle.gt_links.specs.Rings.{next_of, list_of, LinksAgree}

-- a node with those after it; none at a head, where a list ends
abbrev pub node_then : (ℕ → List ℕ) → Neighbour → List ℕ
node_then rest (Head i) = []
node_then rest (Node x) = x ∷ rest x

-- the nodes after p, along `next` up to a head, at most so many
abbrev pub nodes_after : Rings → ℕ → Neighbour → List ℕ
nodes_after r zero p = []
nodes_after r (suc most) p = node_then (λ x. nodes_after r most (Node x)) (next_of r p)

-- the lists that the links make: the nodes after each head
abbrev pub lists_of : Rings → Lists
lists_of r = record {
  lists = map (λ i. nodes_after r (length r.entries.items) (Head i)) (range_with_len 0 r.lists);
  nodes = length r.entries.items - r.lists;
}

-- along `next` the nodes xs follow p, and then comes the end
abbrev pub IsChain : Rings → Neighbour → List ℕ → Neighbour → Type 0
IsChain r p [] end = next_of r p ≡ end
IsChain r p (x ∷ xs) end = (next_of r p ≡ Node x) × IsChain r (Node x) xs end

-- the rings are these lists: the ring of head i has the nodes of list i, each knows its list, and every other node is alone; of lists and of nodes there are fewer than 2 ^ 32 each
pub record IsMadeOf (r : Rings) (s : Lists) : Type 0 where
  pub lists : r.lists ≡ length s.lists
  pub entries : length r.entries.items ≡ length s.lists + s.nodes
  pub agree : LinksAgree r
  pub chains : (i : ℕ) → i < length s.lists → IsChain r (Head i) (nodes_of s i) (Head i)
  pub owners : (i x : ℕ) → x < s.nodes → Holds s i x ↔ (list_of r (Node x) ≡ Some i)
  pub alone : (x : ℕ) → x < s.nodes → list_of r (Node x) ≡ None → next_of r (Node x) ≡ Node x
  pub few_lists : length s.lists < 2 ^ 32
  pub few_nodes : s.nodes < 2 ^ 32
