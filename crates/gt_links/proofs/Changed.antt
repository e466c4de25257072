-- The lists that the rings make after a node is inserted or removed.
use Rattle.std.proofs.Common.{◌≡◌, ◌≢◌, ℕ, ◌+◌, ◌^◌, ◌<◌, ◌↔◌, List, [], ◌∷◌, ◌++◌, length, Some, None, ◌⊎◌, inl, inr, ⊎_elim, sym, ap, subst, ◌∙◌, arith, length-set}
use Rattle.std.proofs.lemmas.Bool.{cases_eq}
use Rattle.std.proofs.lemmas.Option.{none-some, same_Some}
use Rattle.gt_links.specs.declared.rings.Neighbour.{Neighbour}
use Rattle.gt_links.specs.declared.rings.Neighbour.TheVariants.{Head, Node}
use Rattle.gt_links.specs.declared.rings.Rings.{Rings}
use Rattle.gt_links.specs.Lists.{Lists, nodes_of, with_nodes, without, Holds}
use Rattle.gt_links.specs.Links.{IsChain, IsMadeOf}
use Rattle.gt_links.specs.Rings.{next_of, previous_of, list_of, Inserts, Removes}
use Rattle.gt_links.proofs.Among.{IsAmong, IsAmong-from_Contains, Contains-from_among, IsAmong-without, IsAmong-from_without, IsAmong-push, IsAmong-from_push, nodes_of-with_same, nodes_of-with_other}
use Rattle.gt_links.proofs.Chains.{Head≢Node, Head-same, Node-same, Node-other, IsChain-same, IsChain-elsewhere, IsChain-push, IsChain-remove, leads_along}
use Rattle.gt_links.proofs.Made.{head_is_place, node_is_place, owner_from_among, bounded, disjoint}

-- p leads to a place on the ring of list i
abbrev pub LeadsOnRing : Rings → Lists → ℕ → Neighbour → Type 0
LeadsOnRing r s i p =
    (next_of r p ≡ Head i) ⊎ ((w : ℕ) × IsAmong w (nodes_of s i) × (next_of r p ≡ Node w))

-- what each list has after list i has changed
at_each_list : (s : Lists) (i : ℕ) (xs : List ℕ) (P : ℕ → List ℕ → Type 0) → i < length s.lists → P i xs → ((j : ℕ) → j ≢ i → P j (nodes_of s j)) → (j : ℕ) → P j (nodes_of (with_nodes s i xs) j)
at_each_list s i xs P within here others j =
    ⊎_elim
    (λ is. subst (λ k. P k (nodes_of (with_nodes s i xs) k)) (sym is) (subst (P i) (sym (nodes_of-with_same s i xs within)) here))
    (λ ne. subst (P j) (sym (nodes_of-with_other s i j xs ne)) (others j ne))
    (cases_eq j i)

module _ (new : Rings) where
  -- an owner by the places in a list, from one by its nodes
  owners_by_among : (s : Lists) (j y : ℕ) → IsAmong y (nodes_of s j) ↔ (list_of new (Node y) ≡ Some j) → Holds s j y ↔ (list_of new (Node y) ≡ Some j)
  owners_by_among s j y among =
      (λ h. among.0 (IsAmong-from_Contains y (nodes_of s j) h), λ e. Contains-from_among y (nodes_of s j) (among.1 e))

module _ (old new : Rings) (s : Lists) (m : IsMadeOf old s) (x : ℕ) (node : x < s.nodes) where
  -- which list a node is in, where only x has changed its list
  owners_kept : (j y : ℕ) → y < s.nodes → list_of new (Node y) ≡ list_of old (Node y) → IsAmong y (nodes_of s j) ↔ (list_of new (Node y) ≡ Some j)
  owners_kept j y within kept =
      let was = m.owners j y within in
      (λ h. kept ∙ was.0 (Contains-from_among y (nodes_of s j) h), λ e. IsAmong-from_Contains y (nodes_of s j) (was.1 (sym kept ∙ e)))

  module _ (i : ℕ) (within : i < length s.lists) where
    pub IsMadeOf-inserted : (p : Neighbour) (xs : List ℕ) → ((j : ℕ) → ¬ (IsAmong x (nodes_of s j))) → Inserts old new p x i → LeadsOnRing old s i p → IsChain new (Head i) xs (Head i) → ((y : ℕ) → IsAmong y xs ↔ ((x ≡ y) ⊎ IsAmong y (nodes_of s i))) → IsMadeOf new (with_nodes s i xs)
    IsMadeOf-inserted p xs free h ring chain among =
        let size = length-set s.lists i xs in
        let leads_to_head : (j : ℕ) → j ≢ i → next_of old p ≢ Head j =
        λ j ne is.
        elim ring [
          | inl e ↦ ne (sym (Head-same (sym e ∙ is)))
          | inr w ↦ Head≢Node j w.0 (sym is ∙ w.2)
        ] in
        let leads_to_node : (y : ℕ) → next_of old p ≡ Node y → IsAmong y (nodes_of s i) =
        λ y is.
        elim ring [
          | inl e ↦ absurd (Head≢Node i y (sym e ∙ is))
          | inr w ↦ subst (λ v. IsAmong v (nodes_of s i)) (Node-same (sym w.2 ∙ is)) w.1
        ] in
        record {
          lists = h.size.lists ∙ (m.lists ∙ sym size);
          entries = h.size.length ∙ (m.entries ∙ ap (λ n. n + s.nodes) (sym size));
          few_lists = subst (λ n. n < 2 ^ 32) (sym size) m.few_lists;
          few_nodes = m.few_nodes;
          agree = h.agree;
          chains = λ j below.
              at_each_list s i xs (λ j ys. j < length s.lists → IsChain new (Head j) ys (Head j)) within (λ _. chain) (λ j ne below. IsChain-elsewhere old new p (Node x) (Head j) (Head j) (nodes_of s j) m.agree h.others (leads_to_head j ne) (λ y k. ((λ is. ne (disjoint old s m j i y k (leads_to_node y is))), Node-other y x (λ is. free j (subst (λ v. IsAmong v (nodes_of s j)) is k)))) (head_is_place old s m j below) (Head≢Node j x) (m.chains j below)) j (omega arith);
          owners = λ j y below.
              owners_by_among new (with_nodes s i xs) j y
              (⊎_elim
              (λ is.
              let owner : list_of new (Node y) ≡ Some i = ap (λ v. list_of new (Node v)) (sym is) ∙ h.list in
              at_each_list s i xs (λ j ys. IsAmong y ys ↔ (list_of new (Node y) ≡ Some j)) within (λ _. owner, λ _. (among y).1 (inl is)) (λ j ne. (λ k. absurd (free j (subst (λ v. IsAmong v (nodes_of s j)) (sym is) k)), λ e. absurd (ne (same_Some j i (sym e ∙ owner))))) j)
              (λ other.
              let kept = h.lists (Node y) (node_is_place old s m y below) (Node-other y x (λ e. other (sym e))) in
              let was = owners_kept i y below kept in
              at_each_list s i xs (λ j ys. IsAmong y ys ↔ (list_of new (Node y) ≡ Some j)) within (λ k. was.0 (⊎_elim (λ e. absurd (other e)) (λ n. n) ((among y).0 k)), λ e. (among y).1 (inr (was.1 e))) (λ j ne. owners_kept j y below kept) j)
              (cases_eq x y));
          alone = λ y below none.
              ⊎_elim
              (λ is. absurd (none-some i (sym none ∙ (ap (λ v. list_of new (Node v)) (sym is) ∙ h.list))))
              (λ other.
              let place = node_is_place old s m y below in
              let apart = Node-other y x (λ e. other (sym e)) in
              let was : list_of old (Node y) ≡ None = sym (h.lists (Node y) place apart) ∙ none in
              let itself = m.alone y below was in
              let not_p : Node y ≢ p =
              λ is. none-some i (sym was ∙ owner_from_among old s m i y below (leads_to_node y (sym (ap (next_of old) is) ∙ itself))) in
              h.others (Node y) place not_p apart ∙ itself)
              (cases_eq x y);
        }

    -- at the front
    pub IsMadeOf-pushed_front : ((j : ℕ) → ¬ (IsAmong x (nodes_of s j))) → Inserts old new (Head i) x i → IsMadeOf new (with_nodes s i (x ∷ nodes_of s i))
    IsMadeOf-pushed_front free h =
        let chain = m.chains i within in
        let same : (y : ℕ) → IsAmong y (nodes_of s i) → next_of new (Node y) ≡ next_of old (Node y) =
        λ y k. h.others (Node y) (node_is_place old s m y (bounded old s m i y k)) (λ is. Head≢Node i y (sym is)) (Node-other y x (λ is. free i (subst (λ v. IsAmong v (nodes_of s i)) is k))) in
        IsMadeOf-inserted (Head i) (x ∷ nodes_of s i) free h (leads_along old (Head i) (Head i) (nodes_of s i) chain) (h.before, IsChain-same old new (Head i) (Node x) (Head i) (nodes_of s i) h.node same chain) (λ y. ((λ k. k), λ k. k))

    -- at the back
    pub IsMadeOf-pushed_back : ((j : ℕ) → ¬ (IsAmong x (nodes_of s j))) → Inserts old new (previous_of old (Head i)) x i → IsMadeOf new (with_nodes s i (nodes_of s i ++ x ∷ []))
    IsMadeOf-pushed_back free h =
        let head = head_is_place old s m i within in
        IsMadeOf-inserted (previous_of old (Head i)) (nodes_of s i ++ x ∷ []) free h (inl (m.agree.forth (Head i) head)) (IsChain-push old new (Head i) x i (nodes_of s i) m.agree head h (free i) head (Head≢Node i x) (m.chains i within)) (λ y. (IsAmong-push x y (nodes_of s i), IsAmong-from_push x y (nodes_of s i)))

    pub IsMadeOf-removed : IsAmong x (nodes_of s i) → Removes old new x → IsMadeOf new (with_nodes s i (without x (nodes_of s i)))
    IsMadeOf-removed here h =
        let xs = without x (nodes_of s i) in
        let size = length-set s.lists i xs in
        let place = node_is_place old s m x node in
        let back = m.agree.forth (Node x) place in
        let elsewhere : (j y : ℕ) → j ≢ i → IsAmong y (nodes_of s j) → x ≢ y =
        λ j y ne k is. ne (disjoint old s m j i y k (subst (λ v. IsAmong v (nodes_of s i)) is here)) in
        record {
          lists = h.size.lists ∙ (m.lists ∙ sym size);
          entries = h.size.length ∙ (m.entries ∙ ap (λ n. n + s.nodes) (sym size));
          few_lists = subst (λ n. n < 2 ^ 32) (sym size) m.few_lists;
          few_nodes = m.few_nodes;
          agree = h.agree;
          chains = λ j below.
              at_each_list s i xs (λ j ys. j < length s.lists → IsChain new (Head j) ys (Head j)) within (λ below. IsChain-remove old new (Head i) x i (nodes_of s i) m.agree place h (head_is_place old s m i below) (Head≢Node i x) (m.chains i below)) (λ j ne below. IsChain-elsewhere old new (previous_of old (Node x)) (Node x) (Head j) (Head j) (nodes_of s j) m.agree h.others (λ is. Head≢Node j x (sym is ∙ back)) (λ y k. ((λ is. elsewhere j y ne k (Node-same (sym back ∙ is))), Node-other y x (λ e. elsewhere j y ne k (sym e)))) (head_is_place old s m j below) (Head≢Node j x) (m.chains j below)) j (omega arith);
          owners = λ j y below.
              owners_by_among new (with_nodes s i xs) j y
              (⊎_elim
              (λ is.
              let none : list_of new (Node y) ≡ None = ap (λ v. list_of new (Node v)) (sym is) ∙ h.list in
              at_each_list s i xs (λ j ys. IsAmong y ys ↔ (list_of new (Node y) ≡ Some j)) within ((λ k. absurd ((IsAmong-without x y (nodes_of s i) k).0 (sym is))), λ e. absurd (none-some i (sym none ∙ e))) (λ j ne. ((λ k. absurd (elsewhere j y ne k is)), λ e. absurd (none-some j (sym none ∙ e)))) j)
              (λ other.
              let kept = h.lists (Node y) (node_is_place old s m y below) (Node-other y x (λ e. other (sym e))) in
              let was = owners_kept i y below kept in
              at_each_list s i xs (λ j ys. IsAmong y ys ↔ (list_of new (Node y) ≡ Some j)) within ((λ k. was.0 ((IsAmong-without x y (nodes_of s i) k).1)), λ e. IsAmong-from_without x y (nodes_of s i) (λ is. other (sym is)) (was.1 e)) (λ j ne. owners_kept j y below kept) j)
              (cases_eq x y));
          alone = λ y below none.
              ⊎_elim
              (λ is. subst (λ v. next_of new (Node v) ≡ Node v) is h.node)
              (λ other.
              let at = node_is_place old s m y below in
              let apart = Node-other y x (λ e. other (sym e)) in
              let itself = m.alone y below (sym (h.lists (Node y) at apart) ∙ none) in
              h.others (Node y) at (λ is. other (Node-same (sym back ∙ (sym (ap (next_of old) is) ∙ itself)))) apart ∙ itself)
              (cases_eq x y);
        }
