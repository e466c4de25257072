-- Graphs, each place with its edges, and what is reached in them.
use Rattle.std.specs.Prelude.{◌≡◌, ℕ, zero, suc, ◌<◌, ◌↔◌, Bool, true, false, not, if◌then◌else◌, List, [], ◌∷◌, ◌++◌, length, map, Some, Contains, slice_get, slice_set}
use Rattle.std.specs.Option.{option_map_or}
use Rattle.std.specs.List.{list_any}
use Rattle.gt_drafts.specs.Shapes.{is_nil, has_flag}

-- the places to which the edges of a place lead; none after the last place
abbrev pub edges_at : List (List ℕ) → ℕ → List ℕ
edges_at graph place = option_map_or (λ edges. edges) (slice_get graph place) []

-- a place is reached from the first ones along edges
pub data Reached (graph : List (List ℕ)) (first : List ℕ) : ℕ → Type 0 where
  at_first : {i : ℕ} → Contains first i → Reached graph first i
  along : {i j : ℕ} → Reached graph first i → Contains (edges_at graph i) j → Reached graph first j

-- for each place whether it is reached
pub record AreReached (graph : List (List ℕ)) (first : List ℕ) (flags : List Bool) : Type 0 where
  pub count : length flags ≡ length graph
  pub reached : (i : ℕ) → i < length graph → (slice_get flags i ≡ Some true) ↔ Reached graph first i

-- ---- a search

-- which places were seen, and which of them wait to be followed
pub record Seen : Type 0 where
  pub seen : List Bool
  pub waiting : List ℕ

-- a place that was not seen yet
abbrev pub is_unseen : List Bool → ℕ → Bool
is_unseen seen place = option_map_or not (slice_get seen place) false

-- one more place is seen, and waits if it was not seen before
abbrev pub with_place : ℕ → Seen → Seen
with_place place s = if is_unseen s.seen place then record { seen = slice_set s.seen place true; waiting = s.waiting ++ place ∷ [] } else s

unfoldable pub with_places : List ℕ → Seen → Seen
with_places [] s = s
with_places (place ∷ places) s = with_places places (with_place place s)

-- ---- depth

-- the places from which some edge leads to a place with a flag
abbrev pub one_deeper : List (List ℕ) → List Bool → List Bool
one_deeper graph flags = map (λ edges. list_any (has_flag flags) edges) graph

-- the places from which one edge and then so many edges more can be followed
unfoldable pub nested_flags : List (List ℕ) → ℕ → List Bool
nested_flags graph zero = map (λ edges. not (is_nil edges)) graph
nested_flags graph (suc more) = one_deeper graph (nested_flags graph more)

-- ---- edges turned round

abbrev pub with_edge : List (List ℕ) → (from to : ℕ) → List (List ℕ)
with_edge graph from to = slice_set graph from (edges_at graph from ++ to ∷ [])

-- edges from so many places to one
unfoldable pub with_edges : List ℕ → ℕ → List (List ℕ) → List (List ℕ)
with_edges [] to graph = graph
with_edges (from ∷ froms) to graph = with_edges froms to (with_edge graph from to)

-- the edges of places, of which the first has this place, turned round
unfoldable pub with_turned : ℕ → List (List ℕ) → List (List ℕ) → List (List ℕ)
with_turned place [] graph = graph
with_turned place (edges ∷ others) graph = with_turned (suc place) others (with_edges edges place graph)
