-- What the calls of `Links` need and leave, in the words of their clauses.
use Rattle.std.proofs.Common.{◌≡◌, ℕ, eqb, suc, ◌+◌, ◌^◌, ◌<◌, ◌≤◌, [], ◌∷◌, ◌++◌, length, slice_get, Option, Some, None, IfSome, IfNone, sym, ap, subst, ◌∙◌, arith}
use Rattle.std.specs.List.{IsDistinct}
use Rattle.std.proofs.lemmas.Option.{none-some, IfSome_then, slice_get-get_or}
use Rattle.gt_links.specs.declared.rings.Neighbour.{Neighbour}
use Rattle.gt_links.specs.declared.rings.Neighbour.TheVariants.{Head, Node}
use Rattle.gt_links.specs.declared.rings.Rings.{Rings}
use Rattle.gt_links.specs.Lists.{Lists, nodes_of, with_nodes, without, Holds, IsFree, StandsAt, AreDisjoint}
use Rattle.gt_links.specs.Rings.{IsPlace, node_of, next_of, previous_of, list_of, Inserts, Removes}
use Rattle.gt_links.specs.Links.{lists_of, IsMadeOf}
use Rattle.gt_links.proofs.Among.{IsAmong, IsAmong-from_Contains, Contains-from_among, Contains-from_place, IsAmong-from_stands, within_from_among}
use Rattle.gt_links.proofs.Chains.{node_of-first, node_of-next}
use Rattle.gt_links.proofs.Made.{head_is_place, node_is_place, owner_from_among, bounded, disjoint, distinct, short, free_is_alone, lists_of-made}
use Rattle.gt_links.proofs.Changed.{IsMadeOf-pushed_front, IsMadeOf-pushed_back, IsMadeOf-removed}

-- a list that holds a node is one of the lists
pub within_from_holds : (s : Lists) (i x : ℕ) → Holds s i x → i < length s.lists
within_from_holds s i x holds = within_from_among s i x (IsAmong-from_Contains x (nodes_of s i) holds)

-- a node of a list stands at a place of it
stands_from_holds : (s : Lists) (i x : ℕ) → Holds s i x → (k : ℕ) × StandsAt s i k x
stands_from_holds s i x holds =
    (holds.0, slice_get-get_or (nodes_of s i) holds.0 x holds.1 ∙ ap Some holds.2)

-- a node in no list is among the nodes of none
not_among : (s : Lists) (x : ℕ) → IsFree s x → (i : ℕ) → ¬ (IsAmong x (nodes_of s i))
not_among s x free i h = free i (Contains-from_among x (nodes_of s i) h)

-- the rings are sound, and callers see these lists
abbrev pub Shows : Rings → Lists → Type 0
Shows r s = IsMadeOf r (lists_of r) × (lists_of r ≡ s)

pub Shows-from_made : (r : Rings) (s : Lists) → IsMadeOf r s → Shows r s
Shows-from_made r s m =
    let is = lists_of-made r s m in (subst (IsMadeOf r) (sym is) m, is)

module _ (r : Rings) (s : Lists) (is : lists_of r ≡ s) (sound : IsMadeOf r (lists_of r)) where
  made : IsMadeOf r s
  made = subst (IsMadeOf r) is sound

  -- a place that is a node is below the number of nodes
  is_bounded : (p : Neighbour) → IsPlace r p → IfSome (node_of p) (λ x. x < s.nodes)
  is_bounded (Head i) at = tt
  is_bounded (Node x) at = let l = made.lists in let n = made.entries in omega (arith, at)

  pub last_is_place : (i : ℕ) → i < length s.lists → IsPlace r (previous_of r (Head i))
  last_is_place i within = made.agree.previous_leads (Head i) (head_is_place r s made i within)

  pub first_is_bounded : (i : ℕ) (o : Option ℕ) → i < length s.lists → o ≡ node_of (next_of r (Head i)) → IfSome o (λ x. x < s.nodes)
  first_is_bounded i o within e =
      subst (λ v. IfSome v (λ x. x < s.nodes)) (sym e) (is_bounded (next_of r (Head i)) (made.agree.next_leads (Head i) (head_is_place r s made i within)))

  pub free_links : (x : ℕ) → x < s.nodes → IsFree s x → (list_of r (Node x) ≡ None) × (next_of r (Node x) ≡ Node x)
  free_links x node free = free_is_alone r s made x node (not_among s x free)

  pub owner : (i x : ℕ) → x < s.nodes → Holds s i x → list_of r (Node x) ≡ Some i
  owner i x node holds = (made.owners i x node).0 holds

  pub owner_holds : (x : ℕ) (o : Option ℕ) → x < s.nodes → o ≡ list_of r (Node x) → IfSome o (λ i. Holds s i x)
  owner_holds x None node is = tt
  owner_holds x (Some i) node is = (made.owners i x node).1 (sym is)

  pub owner_is_within : (x : ℕ) (o : Option ℕ) → x < s.nodes → o ≡ list_of r (Node x) → IfSome o (λ i. i < length s.lists)
  owner_is_within x o node is =
      IfSome_then o (owner_holds x o node is) (λ i holds. within_from_holds s i x holds)

  pub no_owner : (x : ℕ) (o : Option ℕ) → x < s.nodes → o ≡ list_of r (Node x) → IfNone o (IsFree s x)
  no_owner x None node is = λ i holds. none-some i (is ∙ owner i x node holds)
  no_owner x (Some i) node is = tt

  pub first_node : (i : ℕ) → i < length s.lists → node_of (next_of r (Head i)) ≡ slice_get (nodes_of s i) 0
  first_node i within = node_of-first r (Head i) i (nodes_of s i) (made.chains i within)

  pub first_is_held : (i : ℕ) (o : Option ℕ) → i < length s.lists → o ≡ node_of (next_of r (Head i)) → IfSome o (λ x. Holds s i x)
  first_is_held i o within e = Contains-from_place (nodes_of s i) 0 o (e ∙ first_node i within)

  pub owner_from_stands : (i k x : ℕ) → x < s.nodes → StandsAt s i k x → list_of r (Node x) ≡ Some i
  owner_from_stands i k x node stands = owner_from_among r s made i x node (IsAmong-from_stands s i k x stands)

  pub next_node : (i k x : ℕ) → StandsAt s i k x → node_of (next_of r (Node x)) ≡ slice_get (nodes_of s i) (k + 1)
  next_node i k x stands =
      let chain = made.chains i (within_from_among s i x (IsAmong-from_stands s i k x stands)) in
      let next : suc k ≡ k + 1 = omega arith in
      node_of-next r (Head i) i k x (nodes_of s i) chain stands ∙ ap (slice_get (nodes_of s i)) next

  pub next_is_held : (i x : ℕ) (o : Option ℕ) → Holds s i x → o ≡ node_of (next_of r (Node x)) → IfSome o (λ y. Holds s i y)
  next_is_held i x o holds e =
      let stands = stands_from_holds s i x holds in
      Contains-from_place (nodes_of s i) (stands.0 + 1) o (e ∙ next_node i stands.0 x stands.1)

  pub next_is_bounded : (x : ℕ) (o : Option ℕ) → x < s.nodes → o ≡ node_of (next_of r (Node x)) → IfSome o (λ y. y < s.nodes)
  next_is_bounded x o node e =
      subst (λ v. IfSome v (λ y. y < s.nodes)) (sym e) (is_bounded (next_of r (Node x)) (made.agree.next_leads (Node x) (node_is_place r s made x node)))

  pub are_distinct : (i : ℕ) → IsDistinct eqb (nodes_of s i)
  are_distinct i = distinct r s made i

  pub are_disjoint : AreDisjoint s
  are_disjoint i j x at_i at_j =
      disjoint r s made i j x (IsAmong-from_Contains x (nodes_of s i) at_i) (IsAmong-from_Contains x (nodes_of s j) at_j)

  pub are_bounded : (i x : ℕ) → Holds s i x → x < s.nodes
  are_bounded i x holds = bounded r s made i x (IsAmong-from_Contains x (nodes_of s i) holds)

  pub are_short : (i : ℕ) → length (nodes_of s i) ≤ s.nodes
  are_short i = short r s made i

  pub nodes_are_few : s.nodes < 2 ^ 32
  nodes_are_few = made.few_nodes

  pub lists_are_few : length s.lists < 2 ^ 32
  lists_are_few = made.few_lists

  module _ (new : Rings) (x : ℕ) (node : x < s.nodes) where
    pub pushed_front : (i : ℕ) → i < length s.lists → IsFree s x → Inserts r new (Head i) x i → Shows new (with_nodes s i (x ∷ nodes_of s i))
    pushed_front i within free h =
        Shows-from_made new _ (IsMadeOf-pushed_front r new s made x node i within (not_among s x free) h)

    pub pushed_back : (i : ℕ) → i < length s.lists → IsFree s x → Inserts r new (previous_of r (Head i)) x i → Shows new (with_nodes s i (nodes_of s i ++ x ∷ []))
    pushed_back i within free h =
        Shows-from_made new _ (IsMadeOf-pushed_back r new s made x node i within (not_among s x free) h)

    pub removed : (i : ℕ) → Holds s i x → Removes r new x → Shows new (with_nodes s i (without x (nodes_of s i)))
    removed i holds h =
        let among = IsAmong-from_Contains x (nodes_of s i) holds in
        Shows-from_made new _ (IsMadeOf-removed r new s made x node i (within_from_among s i x among) among h)

    pub removed_is_free : (i : ℕ) → Holds s i x → Removes r new x → IsFree (lists_of new) x
    removed_is_free i holds h j still =
        let shows = removed i holds h in
        let below : x < (lists_of new).nodes = subst (λ (t : Lists). x < t.nodes) (sym shows.1) node in
        none-some j (sym h.list ∙ (shows.0.owners j x below).0 still)
