-- Tail types are what is reached from structs that end in an array with `length`.
use Rattle.std.proofs.Common.{◌≡◌, ◌≢◌, ◌∙◌, ℕ, zero, suc, ◌+◌, ◌<◌, ◌≤◌, Bool, true, false, not, List, [], ◌∷◌, ◌++◌, length, map, drop, get_or, replicate, append_assoc, Option, Some, refl, sym, ap, subst, arith, inl, inr}
use Rattle.std.specs.Prelude.{Contains, if◌then◌else◌, ◌⊎◌, ◌&&◌, ◌↔◌, IsTrue, slice_get, slice_set, filter_map}
use Rattle.std.specs.Option.{option_map_or}
use Rattle.std.proofs.lemmas.Bool.{cases_eq, and_parts, not-true}
use Rattle.std.proofs.lemmas.List.{append-nil, drop_all, drop_more, set_past, length-map, length-replicate}
use Rattle.std.proofs.lemmas.List.Elements.{Contains-append_left, Contains-append_right, Contains-append_cases, Contains-push, Contains-push_cases}
use Rattle.std.proofs.lemmas.Option.{slice_get_within, same_Some, none-some}
use Rattle.gt_drafts.specs.declared.draft.DraftField.{DraftField}
use Rattle.gt_drafts.specs.declared.draft.DraftStructure.{DraftStructure}
use Rattle.gt_shapes.specs.Graphs.{Reached, at_first, along, AreReached, edges_at, with_edge, with_edges, with_turned}
use Rattle.gt_drafts.specs.Shapes.{IsTail, struct_tail, union_tail, is_tail_array, ends_in_tail, member_structure}
use Rattle.gt_shapes.specs.TailGraphs.{is_tail_struct, tail_structs, members_of}
use Rattle.gt_shapes.proofs.SearchLemmas.{Contains_head, Contains_tail, Contains_cases, Contains_none, edges_within, get_same, get_other, length_set}

-- ---- the last field

pub ends_in_tail_last : (fields : List DraftField) (i : ℕ) (f : DraftField) → length fields ≡ suc i → f ≡ get_or fields i f → is_tail_array f ≡ ends_in_tail fields
ends_in_tail_last [] i f e is = absurd (omega arith)
ends_in_tail_last (g ∷ []) zero f e is = ap is_tail_array is
ends_in_tail_last (g ∷ []) (suc i) f e is = absurd (omega arith)
ends_in_tail_last (g ∷ h ∷ fs) zero f e is = absurd (omega arith)
ends_in_tail_last (g ∷ h ∷ fs) (suc i) f e is = ends_in_tail_last (h ∷ fs) i f (omega arith) is

-- ---- edges turned round

pub with_edge_past : (graph : List (List ℕ)) (from to : ℕ) → length graph ≤ from → graph ≡ with_edge graph from to
with_edge_past graph from to l = sym (set_past graph from (edges_at graph from ++ to ∷ []) l)

pub edges_at_read : (graph : List (List ℕ)) (i : ℕ) (d : List ℕ) → i < length graph → get_or graph i d ≡ edges_at graph i
edges_at_read [] i d l = absurd (omega arith)
edges_at_read (edges ∷ graph) zero d l = refl
edges_at_read (edges ∷ graph) (suc i) d l = edges_at_read graph i d (omega arith)

edges_of_get : (graph : List (List ℕ)) (i : ℕ) (edges : List ℕ) → slice_get graph i ≡ Some edges → edges_at graph i ≡ edges
edges_of_get graph i edges e = ap (λ (o : Option (List ℕ)). option_map_or (λ es. es) o []) e

edges_set_same : (graph : List (List ℕ)) (i : ℕ) (edges : List ℕ) → i < length graph → edges_at (slice_set graph i edges) i ≡ edges
edges_set_same graph i edges l = edges_of_get (slice_set graph i edges) i edges (get_same graph i edges l)

edges_set_other : (graph : List (List ℕ)) (i j : ℕ) (edges : List ℕ) → i ≢ j → edges_at (slice_set graph i edges) j ≡ edges_at graph j
edges_set_other graph i j edges ne = ap (λ (o : Option (List ℕ)). option_map_or (λ es. es) o []) (get_other graph i j edges ne)

-- there is an edge
abbrev HasEdge : List (List ℕ) → ℕ → ℕ → Type 0
HasEdge graph from to = Contains (edges_at graph from) to

length_with_edge : (graph : List (List ℕ)) (from to : ℕ) → length (with_edge graph from to) ≡ length graph
length_with_edge graph from to = length_set graph from (edges_at graph from ++ to ∷ [])

edge_still : (graph : List (List ℕ)) (from to i j : ℕ) → HasEdge graph i j → HasEdge (with_edge graph from to) i j
edge_still graph from to i j has =
    elim (cases_eq from i) [
      | inl same ↦
          subst (λ (n : ℕ). HasEdge (with_edge graph from to) n j) same
          (subst (λ (es : List ℕ). Contains es j) (sym (edges_set_same graph from (edges_at graph from ++ to ∷ []) (subst (λ (n : ℕ). n < length graph) (sym same) (edges_within graph i j has))))
          (Contains-append_left (edges_at graph from) (to ∷ []) j (subst (λ (n : ℕ). HasEdge graph n j) (sym same) has)))
      | inr other ↦ subst (λ (es : List ℕ). Contains es j) (sym (edges_set_other graph from i (edges_at graph from ++ to ∷ []) other)) has
    ]

edge_now : (graph : List (List ℕ)) (from to : ℕ) → from < length graph → HasEdge (with_edge graph from to) from to
edge_now graph from to l =
    subst (λ (es : List ℕ). Contains es to) (sym (edges_set_same graph from (edges_at graph from ++ to ∷ []) l)) (Contains-push (edges_at graph from) to)

edge_cases : (graph : List (List ℕ)) (from to i j : ℕ) → HasEdge (with_edge graph from to) i j → HasEdge graph i j ⊎ ((from ≡ i) × (to ≡ j))
edge_cases graph from to i j has =
    elim (cases_eq from i) [
      | inl same ↦
          let l : from < length graph = subst (λ (n : ℕ). n < length graph) (sym same)
          (subst (λ (n : ℕ). i < n) (length_with_edge graph from to) (edges_within (with_edge graph from to) i j has)) in
          let there : Contains (edges_at graph from ++ to ∷ []) j = subst (λ (es : List ℕ). Contains es j) (edges_set_same graph from (edges_at graph from ++ to ∷ []) l)
          (subst (λ (n : ℕ). HasEdge (with_edge graph from to) n j) (sym same) has) in
          elim (Contains-push_cases (edges_at graph from) to j there) [
            | inl before ↦ inl (subst (λ (n : ℕ). HasEdge graph n j) same before)
            | inr is ↦ inr (same, is)
          ]
      | inr other ↦ inl (subst (λ (es : List ℕ). Contains es j) (edges_set_other graph from i (edges_at graph from ++ to ∷ []) other) has)
    ]

pub length_with_edges : (froms : List ℕ) (to : ℕ) (graph : List (List ℕ)) → length (with_edges froms to graph) ≡ length graph
unfolding with_edges
length_with_edges [] to graph = refl
length_with_edges (from ∷ froms) to graph = length_with_edges froms to (with_edge graph from to) ∙ length_with_edge graph from to

edges_still : (froms : List ℕ) (to : ℕ) (graph : List (List ℕ)) (i j : ℕ) → HasEdge graph i j → HasEdge (with_edges froms to graph) i j
unfolding with_edges
edges_still [] to graph i j has = has
edges_still (from ∷ froms) to graph i j has = edges_still froms to (with_edge graph from to) i j (edge_still graph from to i j has)

edges_now : (froms : List ℕ) (to : ℕ) (graph : List (List ℕ)) (i : ℕ) → Contains froms i → i < length graph → HasEdge (with_edges froms to graph) i to
unfolding with_edges
edges_now [] to graph i has l = absurd (Contains_none i has)
edges_now (from ∷ froms) to graph i has l =
    elim (Contains_cases from i froms has) [
      | inl same ↦
          edges_still froms to (with_edge graph from to) i to
          (subst (λ (n : ℕ). HasEdge (with_edge graph from to) n to) same (edge_now graph from to (subst (λ (n : ℕ). n < length graph) (sym same) l)))
      | inr others ↦ edges_now froms to (with_edge graph from to) i others (subst (λ (n : ℕ). i < n) (sym (length_with_edge graph from to)) l)
    ]

edges_cases : (froms : List ℕ) (to : ℕ) (graph : List (List ℕ)) (i j : ℕ) → HasEdge (with_edges froms to graph) i j → HasEdge graph i j ⊎ (Contains froms i × (to ≡ j))
unfolding with_edges
edges_cases [] to graph i j has = inl has
edges_cases (from ∷ froms) to graph i j has =
    elim (edges_cases froms to (with_edge graph from to) i j has) [
      | inl before ↦ elim (edge_cases graph from to i j before) [
        | inl first ↦ inl first
        | inr (same, is) ↦ inr (subst (λ (n : ℕ). Contains (from ∷ froms) n) same (Contains_head from froms), is)
      ]
      | inr (others, is) ↦ inr (Contains_tail from i froms others, is)
    ]

pub length_turned : (place : ℕ) (edges graph : List (List ℕ)) → length (with_turned place edges graph) ≡ length graph
unfolding with_turned
length_turned place [] graph = refl
length_turned place (es ∷ edges) graph = length_turned (suc place) edges (with_edges es place graph) ∙ length_with_edges es place graph

turned_still : (place : ℕ) (edges graph : List (List ℕ)) (i j : ℕ) → HasEdge graph i j → HasEdge (with_turned place edges graph) i j
unfolding with_turned
turned_still place [] graph i j has = has
turned_still place (es ∷ edges) graph i j has = turned_still (suc place) edges (with_edges es place graph) i j (edges_still es place graph i j has)

-- an edge of the k-th of some places is turned round
turned_now : (place : ℕ) (edges graph : List (List ℕ)) (k i : ℕ) → HasEdge edges k i → i < length graph → HasEdge (with_turned place edges graph) i (place + k)
unfolding with_turned
turned_now place [] graph k i has l = absurd (Contains_none i has)
turned_now place (es ∷ edges) graph zero i has l =
    let same : place ≡ place + 0 = omega arith in
    turned_still (suc place) edges (with_edges es place graph) i (place + 0) (subst (λ (n : ℕ). HasEdge (with_edges es place graph) i n) same (edges_now es place graph i has l))
turned_now place (es ∷ edges) graph (suc k) i has l =
    let same : suc place + k ≡ place + suc k = omega arith in
    subst (λ (n : ℕ). HasEdge (with_turned (suc place) edges (with_edges es place graph)) i n) same
    (turned_now (suc place) edges (with_edges es place graph) k i has (subst (λ (n : ℕ). i < n) (sym (length_with_edges es place graph)) l))

turned_cases : (place : ℕ) (edges graph : List (List ℕ)) (i j : ℕ) → HasEdge (with_turned place edges graph) i j
    → HasEdge graph i j ⊎ ((k : ℕ) × HasEdge edges k i × (place + k ≡ j))
unfolding with_turned
turned_cases place [] graph i j has = inl has
turned_cases place (es ∷ edges) graph i j has =
    elim (turned_cases (suc place) edges (with_edges es place graph) i j has) [
      | inl before ↦ elim (edges_cases es place graph i j before) [
        | inl first ↦ inl first
        | inr (from, is) ↦ inr (0, from, (let e : place + 0 ≡ j = omega (arith, is) in e))
      ]
      | inr (k, from, is) ↦ inr (suc k, from, (let e : place + suc k ≡ j = omega (arith, is) in e))
    ]

no_edge : (n i j : ℕ) → HasEdge (replicate n []) i j → ⊥
no_edge zero i j has = Contains_none j has
no_edge (suc n) zero j has = Contains_none j has
no_edge (suc n) (suc i) j has = no_edge n i j has

-- ---- structs

pick : (b : Bool) (place i : ℕ) → Contains (if b then place ∷ [] else []) i → IsTrue b × (place ≡ i)
pick true place i has = elim (Contains_cases place i [] has) [ inl same ↦ (refl, same) | inr none ↦ absurd (Contains_none i none) ]
pick false place i has = absurd (Contains_none i has)

struct_from : (place : ℕ) (ss : List DraftStructure) (i : ℕ) → Contains (tail_structs place ss) i
    → (k : ℕ) × (s : DraftStructure) × (slice_get ss k ≡ Some s) × IsTrue (is_tail_struct s) × (place + k ≡ i)
unfolding tail_structs
struct_from place [] i has = absurd (Contains_none i has)
struct_from place (s ∷ ss) i has =
    elim (Contains-append_cases (if is_tail_struct s then place ∷ [] else []) (tail_structs (suc place) ss) i has) [
      | inl this ↦ let p = pick (is_tail_struct s) place i this in (0, s, refl, p.0, (let e : place + 0 ≡ i = omega (arith, p.1) in e))
      | inr others ↦ let r = struct_from (suc place) ss i others in (suc r.0, r.1, r.2, r.3, (let e : place + suc r.0 ≡ i = omega (arith, r.4) in e))
    ]

struct_to : (place : ℕ) (ss : List DraftStructure) (k : ℕ) (s : DraftStructure) → slice_get ss k ≡ Some s → IsTrue (is_tail_struct s) → Contains (tail_structs place ss) (place + k)
unfolding tail_structs
struct_to place [] k s e is = absurd (none-some s e)
struct_to place (t ∷ ss) zero s e is =
    let at : place ≡ place + 0 = omega arith in
    let tail : IsTrue (is_tail_struct t) = subst (λ (x : DraftStructure). IsTrue (is_tail_struct x)) (sym (same_Some t s e)) is in
    Contains-append_left (if is_tail_struct t then place ∷ [] else []) (tail_structs (suc place) ss) (place + 0)
    (subst (λ (b : Bool). Contains (if b then place ∷ [] else []) (place + 0)) (sym tail) (subst (λ (n : ℕ). Contains (place ∷ []) n) at (Contains_head place [])))
struct_to place (t ∷ ss) (suc k) s e is =
    let at : suc place + k ≡ place + suc k = omega arith in
    Contains-append_right (if is_tail_struct t then place ∷ [] else []) (tail_structs (suc place) ss) (place + suc k)
    (subst (λ (n : ℕ). Contains (tail_structs (suc place) ss) n) at (struct_to (suc place) ss k s e is))

-- ---- members

members_at : (ss : List DraftStructure) (i : ℕ) (s : DraftStructure) → slice_get ss i ≡ Some s → edges_at (map members_of ss) i ≡ members_of s
members_at [] i s e = absurd (none-some s e)
members_at (t ∷ ss) zero s e = ap members_of (same_Some t s e)
members_at (t ∷ ss) (suc i) s e = members_at ss i s e

structure_there : (ss : List DraftStructure) (i : ℕ) → i < length ss → (s : DraftStructure) × (slice_get ss i ≡ Some s)
structure_there [] i l = absurd (omega arith)
structure_there (s ∷ ss) zero l = (s, refl)
structure_there (s ∷ ss) (suc i) l = structure_there ss i (omega arith)

union_member : (s : DraftStructure) (b : Bool) (j : ℕ) → s.is_union ≡ b → Contains (if b then filter_map member_structure s.fields else []) j
    → (s.is_union ≡ true) × Contains (filter_map member_structure s.fields) j
union_member s true j e has = (e, has)
union_member s false j e has = absurd (Contains_none j has)

struct_parts : (s : DraftStructure) → IsTrue (is_tail_struct s) → (s.is_union ≡ false) × IsTrue (ends_in_tail s.fields)
struct_parts s h = let p = and_parts (not s.is_union) (ends_in_tail s.fields) h in (not-true s.is_union p.0, p.1)

struct_whole : (s : DraftStructure) → s.is_union ≡ false → IsTrue (ends_in_tail s.fields) → IsTrue (is_tail_struct s)
struct_whole s e h = subst (λ (b : Bool). IsTrue (not b && ends_in_tail s.fields)) (sym e) h

module _ (ss : List DraftStructure) where
  abbrev pub unions : List (List ℕ)
  unions = with_turned 0 (map members_of ss) (replicate (length ss) [])

  tail_from : (i : ℕ) → Reached unions (tail_structs 0 ss) i → IsTail ss i
  tail_from i (at_first has) =
      let r = struct_from 0 ss i has in
      let p = struct_parts r.1 r.3 in
      let e : r.0 ≡ i = omega (arith, r.4) in
      subst (λ (n : ℕ). IsTail ss n) e (struct_tail r.1 r.2 p.0 p.1)
  tail_from i (along {i = k} reached has) =
      elim (turned_cases 0 (map members_of ss) (replicate (length ss) []) k i has) [
        | inl none ↦ absurd (no_edge (length ss) k i none)
        | inr (n, edge, is) ↦
            let e : n ≡ i = omega (arith, is) in
            let member : HasEdge (map members_of ss) i k = subst (λ (m : ℕ). HasEdge (map members_of ss) m k) e edge in
            let l : i < length ss = subst (λ (m : ℕ). i < m) (length-map ss members_of) (edges_within (map members_of ss) i k member) in
            let s = structure_there ss i l in
            let u = union_member s.0 s.0.is_union k refl (subst (λ (es : List ℕ). Contains es k) (members_at ss i s.0 s.1) member) in
            union_tail s.0 s.1 u.0 u.1 (tail_from k reached)
      ]

  tail_within : (i : ℕ) → IsTail ss i → i < length ss
  tail_within i (struct_tail s e u t) = slice_get_within ss i s e
  tail_within i (union_tail s e u has tail) = slice_get_within ss i s e

  tail_to : (i : ℕ) → IsTail ss i → Reached unions (tail_structs 0 ss) i
  tail_to i (struct_tail s e u t) = at_first (subst (λ (n : ℕ). Contains (tail_structs 0 ss) n) (let z : 0 + i ≡ i = omega arith in z) (struct_to 0 ss i s e (struct_whole s u t)))
  tail_to i (union_tail {j = k} s e u has tail) =
      let member : HasEdge (map members_of ss) i k =
      subst (λ (es : List ℕ). Contains es k) (sym (members_at ss i s e)) (subst (λ (b : Bool). Contains (if b then filter_map member_structure s.fields else []) k) (sym u) has) in
      let l : k < length (replicate (length ss) []) = subst (λ (m : ℕ). k < m) (sym (length-replicate (length ss) [])) (tail_within k tail) in
      along (tail_to k tail)
      (subst (λ (n : ℕ). HasEdge unions k n) (let z : 0 + i ≡ i = omega arith in z) (turned_now 0 (map members_of ss) (replicate (length ss) []) i k member l))

  -- the tail types are those that are reached
  pub tail_flags : (flags : List Bool) → AreReached unions (tail_structs 0 ss) flags
      → (length flags ≡ length ss) × ((i : ℕ) → i < length ss → (slice_get flags i ≡ Some true) ↔ IsTail ss i)
  tail_flags flags are =
      let size : length unions ≡ length ss = length_turned 0 (map members_of ss) (replicate (length ss) []) ∙ length-replicate (length ss) [] in (
        are.count ∙ size,
        λ i l.
            let r = are.reached i (subst (λ (n : ℕ). i < n) (sym size) l) in
            (λ h. tail_from i (r.0 h), λ t. r.1 (tail_to i t)),
      )

-- ---- loops

-- the edges of one more place are turned round
pub turned_more : (graph t more : List (List ℕ)) (i : ℕ) (edges : List ℕ) → i < length graph → edges ≡ get_or graph i edges → more ≡ with_edges edges i t
    → with_turned (i + 1) (drop (i + 1) graph) more ≡ with_turned i (drop i graph) t
unfolding with_turned
turned_more graph t more i edges l is h =
    let item : drop i graph ≡ edges ∷ drop (i + 1) graph = drop_more graph i edges l ∙ ap (λ (es : List ℕ). es ∷ drop (i + 1) graph) (sym is) in
    let next : i + 1 ≡ suc i = omega arith in
    ap (λ (n : ℕ). with_turned n (drop (i + 1) graph) more) next ∙ ap (with_turned (suc i) (drop (i + 1) graph)) h
    ∙ ap (λ (gs : List (List ℕ)). with_turned i gs t) (sym item)

pub turned_end : (graph t : List (List ℕ)) (i : ℕ) → length graph ≤ i → t ≡ with_turned i (drop i graph) t
unfolding with_turned
turned_end graph t i l = ap (λ (gs : List (List ℕ)). with_turned i gs t) (sym (drop_all i graph l))

pub structs_more : (ss : List DraftStructure) (i : ℕ) (s : DraftStructure) (places more : List ℕ) → i < length ss → s ≡ get_or ss i s
    → more ≡ places ++ (if is_tail_struct s then i ∷ [] else []) → more ++ tail_structs (i + 1) (drop (i + 1) ss) ≡ places ++ tail_structs i (drop i ss)
unfolding tail_structs
structs_more ss i s places more l is h =
    let item : drop i ss ≡ s ∷ drop (i + 1) ss = drop_more ss i s l ∙ ap (λ (x : DraftStructure). x ∷ drop (i + 1) ss) (sym is) in
    let next : i + 1 ≡ suc i = omega arith in
    ap (λ (n : ℕ). more ++ tail_structs n (drop (i + 1) ss)) next ∙ ap (λ (ps : List ℕ). ps ++ tail_structs (suc i) (drop (i + 1) ss)) h
    ∙ append_assoc places (if is_tail_struct s then i ∷ [] else []) (tail_structs (suc i) (drop (i + 1) ss))
    ∙ ap (λ (xs : List DraftStructure). places ++ tail_structs i xs) (sym item)

pub structs_end : (ss : List DraftStructure) (i : ℕ) (places : List ℕ) → length ss ≤ i → places ≡ places ++ tail_structs i (drop i ss)
unfolding tail_structs
structs_end ss i places l = sym (append-nil places) ∙ ap (λ (xs : List DraftStructure). places ++ tail_structs i xs) (sym (drop_all i ss l))
