-- What holds of the lists that the rings make, and the lists that they make after a change.
use Rattle.std.proofs.Common.{◌≡◌, ℕ, eqb, ◌-◌, ◌<◌, ◌≤◌, List, [], length, map, Option, Some, None, ◌⊎◌, inl, inr, ⊎_elim, refl, sym, ap, subst, ◌∙◌, arith}
use Rattle.std.specs.List.{IsDistinct, range_with_len}
use Rattle.std.proofs.lemmas.Bool.{cases_lt, eqb-true}
use Rattle.std.proofs.lemmas.Option.{same_Some}
use Rattle.std.proofs.lemmas.List.{get_or_past}
use Rattle.std.proofs.lemmas.List.FromFn.{fill_by_all}
use Rattle.std.proofs.lemmas.Map.Steps.{length-le_from_distinct_below}
use Rattle.std.proofs.lemmas.Map.Views.{Contains-from_any}
use Rattle.gt_links.specs.declared.rings.Neighbour.TheVariants.{Head, Node}
use Rattle.gt_links.specs.declared.rings.Rings.{Rings}
use Rattle.gt_links.specs.Lists.{Lists, nodes_of}
use Rattle.gt_links.specs.Links.{IsMadeOf, lists_of, nodes_after}
use Rattle.gt_links.specs.Rings.{IsPlace, next_of, list_of}
use Rattle.gt_links.proofs.Among.{IsAmong, IsAmong-from_Contains, Contains-from_among, within_from_among}
use Rattle.gt_links.proofs.Chains.{Head≢Node, IsPlace-from_chain, IsDistinct-chain, nodes_after-chain}

pub cases_Option : (o : Option ℕ) → (o ≡ None) ⊎ ((v : ℕ) × (o ≡ Some v))
cases_Option None = inl refl
cases_Option (Some v) = inr (v, refl)

module _ (r : Rings) (s : Lists) (m : IsMadeOf r s) where
  pub head_is_place : (i : ℕ) → i < length s.lists → IsPlace r (Head i)
  head_is_place i within = let l = m.lists in let n = m.entries in (omega arith, omega arith)

  pub node_is_place : (x : ℕ) → x < s.nodes → IsPlace r (Node x)
  node_is_place x within = let l = m.lists in let n = m.entries in omega arith

  pub owner_from_among : (i x : ℕ) → x < s.nodes → IsAmong x (nodes_of s i) → list_of r (Node x) ≡ Some i
  owner_from_among i x within h = (m.owners i x within).0 (Contains-from_among x (nodes_of s i) h)

  -- each node of a list is below the number of nodes
  pub bounded : (i x : ℕ) → IsAmong x (nodes_of s i) → x < s.nodes
  bounded i x h =
      let within = within_from_among s i x h in
      let place : IsPlace r (Node x) =
      IsPlace-from_chain r (Head i) (Head i) (nodes_of s i) m.agree (head_is_place i within) (m.chains i within) x h in
      let l = m.lists in let n = m.entries in omega (arith, place)

  -- no node is in two lists
  pub disjoint : (i j x : ℕ) → IsAmong x (nodes_of s i) → IsAmong x (nodes_of s j) → i ≡ j
  disjoint i j x h k =
      let within = bounded i x h in
      same_Some i j (sym (owner_from_among i x within h) ∙ owner_from_among j x within k)

  -- no node stands twice in a list
  pub distinct : (i : ℕ) → IsDistinct eqb (nodes_of s i)
  unfolding IsDistinct
  distinct i =
      ⊎_elim
      (λ within. IsDistinct-chain r (Head i) (Head i) (nodes_of s i) m.agree (head_is_place i within) (λ y h. Head≢Node i y) (m.chains i within))
      (λ past. let P : List ℕ → Type 0 = λ xs. IsDistinct eqb xs in subst P (sym (get_or_past s.lists i [] past)) tt)
      (cases_lt i (length s.lists))

  -- a node in no list is alone
  pub free_is_alone : (x : ℕ) → x < s.nodes → ((i : ℕ) → ¬ (IsAmong x (nodes_of s i))) → (list_of r (Node x) ≡ None) × (next_of r (Node x) ≡ Node x)
  free_is_alone x within free =
      elim (cases_Option (list_of r (Node x))) [
        | inl none ↦ (none, m.alone x within none)
        | inr some ↦ absurd (free some.0 (IsAmong-from_Contains x (nodes_of s some.0) ((m.owners some.0 x within).1 some.1)))
      ]

  -- no list has more nodes than there are
  pub short : (i : ℕ) → length (nodes_of s i) ≤ s.nodes
  short i =
      length-le_from_distinct_below (nodes_of s i) s.nodes (distinct i) (λ q h. bounded i q (IsAmong-from_Contains q (nodes_of s i) (Contains-from_any eqb-true q (nodes_of s i) h)))

  -- the lists are what a walk from each head gives
  pub lists_of-made : lists_of r ≡ s
  lists_of-made =
      let entries = length r.entries.items in
      let l = m.lists in let n = m.entries in
      let walks : s.lists ≡ map (λ i. nodes_after r entries (Head i)) (range_with_len 0 r.lists) =
      fill_by_all (λ i. nodes_after r entries (Head i)) s.lists r.lists [] (sym l) (λ i within. sym (nodes_after-chain r entries (Head i) i (nodes_of s i) (omega (arith, short i)) (m.chains i (omega arith)))) in
      let made : List (List ℕ) → ℕ → Lists = λ lists nodes. record { lists = lists; nodes = nodes } in
      let count : entries - r.lists ≡ s.nodes = omega arith in
      ap (λ lists. made lists (entries - r.lists)) (sym walks) ∙ ap (made s.lists) count
