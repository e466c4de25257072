-- The nodes that follow a place, before and after a node is inserted or removed.
use Rattle.std.proofs.Common.{◌≡◌, ◌≢◌, ℕ, false, eqb, zero, suc, ◌≤◌, List, [], ◌∷◌, ◌++◌, length, slice_get, Some, ◌⊎◌, inl, inr, ⊎_elim, refl, sym, ap, subst, ◌∙◌, arith}
use Rattle.std.specs.List.{AllByRecursion, IsDistinct}
use Rattle.std.proofs.lemmas.Bool.{cases_eq, ne_eqb}
use Rattle.std.proofs.lemmas.Option.{none-some, same_Some}
use Rattle.std.proofs.lemmas.Map.Keys.{IsDistinct-cons}
use Rattle.gt_links.specs.declared.rings.Neighbour.{Neighbour}
use Rattle.gt_links.specs.declared.rings.Neighbour.TheVariants.{Head, Node}
use Rattle.gt_links.specs.declared.rings.Rings.{Rings}
use Rattle.gt_links.specs.Lists.{without}
use Rattle.gt_links.specs.Links.{IsChain, nodes_after, node_then}
use Rattle.gt_links.specs.Rings.{node_of, IsPlace, next_of, previous_of, LinksAgree, Inserts, Removes}
use Rattle.gt_links.proofs.Among.{IsAmong, without-same, without-other}

pub Head≢Node : (i x : ℕ) → Head i ≢ Node x
Head≢Node i x e = cc

pub Node-other : (x y : ℕ) → x ≢ y → Node x ≢ Node y
Node-other x y ne e = ne cc

pub Head-same : {i j : ℕ} → Head i ≡ Head j → i ≡ j
Head-same e = cc

pub Node-same : {x y : ℕ} → Node x ≡ Node y → x ≡ y
Node-same e = cc

-- what p leads to is a place
pub leads : (r : Rings) (p q : Neighbour) → LinksAgree r → IsPlace r p → next_of r p ≡ q → IsPlace r q
leads r p q a at e = subst (IsPlace r) e (a.next_leads p at)

-- each node on a chain is a place
pub IsPlace-from_chain : (r : Rings) (s end : Neighbour) (xs : List ℕ) → LinksAgree r → IsPlace r s → IsChain r s xs end → (y : ℕ) → IsAmong y xs → IsPlace r (Node y)
IsPlace-from_chain r s end [] a at c y m = absurd m
IsPlace-from_chain r s end (x ∷ xs) a at c y m =
    let here = leads r s (Node x) a at c.0 in
    elim m [
      | inl is ↦ subst (λ v. IsPlace r (Node v)) is here
      | inr n ↦ IsPlace-from_chain r (Node x) end xs a here c.1 y n
    ]

module _ (old new : Rings) where
  -- a chain stays where the links of its nodes do, also from another place that leads to its first node
  pub IsChain-same : (s t end : Neighbour) (xs : List ℕ) → next_of new t ≡ next_of old s → ((y : ℕ) → IsAmong y xs → next_of new (Node y) ≡ next_of old (Node y)) → IsChain old s xs end → IsChain new t xs end
  IsChain-same s t end [] start same c = start ∙ c
  IsChain-same s t end (x ∷ xs) start same c =
      (start ∙ c.0, IsChain-same (Node x) (Node x) end xs (same x (inl refl)) (λ y m. same y (inr m)) c.1)

  -- only p and q change, and a chain that does not pass where p led stays
  pub IsChain-elsewhere : (p q s end : Neighbour) (xs : List ℕ) → LinksAgree old → ((r : Neighbour) → IsPlace old r → r ≢ p → r ≢ q → next_of new r ≡ next_of old r) → next_of old p ≢ end → ((y : ℕ) → IsAmong y xs → (next_of old p ≢ Node y) × (Node y ≢ q)) → IsPlace old s → s ≢ q → IsChain old s xs end → IsChain new s xs end
  IsChain-elsewhere p q s end [] a others ends apart at not_q c =
      others s at (λ is. ends (sym (ap (next_of old) is) ∙ c)) not_q ∙ c
  IsChain-elsewhere p q s end (x ∷ xs) a others ends apart at not_q c =
      let first = apart x (inl refl) in (
        others s at (λ is. first.0 (sym (ap (next_of old) is) ∙ c.0)) not_q ∙ c.0,
        IsChain-elsewhere p q (Node x) end xs a others ends (λ y m. apart y (inr m)) (leads old s (Node x) a at c.0) first.1 c.1,
      )

  -- the place before the end has x after it now
  pub IsChain-push : (s : Neighbour) (x i : ℕ) (xs : List ℕ) → LinksAgree old → IsPlace old (Head i) → Inserts old new (previous_of old (Head i)) x i → ¬ (IsAmong x xs) → IsPlace old s → s ≢ Node x → IsChain old s xs (Head i) → IsChain new s (xs ++ x ∷ []) (Head i)
  IsChain-push s x i [] a head h free at not_x c =
      let last : s ≡ previous_of old (Head i) = sym (a.back s at) ∙ ap (previous_of old) c in
      (ap (next_of new) last ∙ h.before, h.node ∙ a.forth (Head i) head)
  IsChain-push s x i (y ∷ ys) a head h free at not_x c =
      let inner : s ≢ previous_of old (Head i) =
      λ is. Head≢Node i y (sym (a.forth (Head i) head) ∙ (sym (ap (next_of old) is) ∙ c.0)) in (
        h.others s at inner not_x ∙ c.0,
        IsChain-push (Node y) x i ys a head h (λ m. free (inr m)) (leads old s (Node y) a at c.0) (Node-other y x (λ is. free (inl is))) c.1,
      )

  -- what led to x leads past it now
  leads_past : (s : Neighbour) (x : ℕ) → LinksAgree old → Removes old new x → IsPlace old s → next_of old s ≡ Node x → next_of new s ≡ next_of old (Node x)
  leads_past s x a h at c =
      ap (next_of new) (sym (a.back s at) ∙ ap (previous_of old) c) ∙ h.before

  -- and what did not leads on as before
  leads_on : (s : Neighbour) (x : ℕ) → LinksAgree old → IsPlace old (Node x) → Removes old new x → IsPlace old s → s ≢ Node x → next_of old s ≢ Node x → next_of new s ≡ next_of old s
  leads_on s x a node h at not_x apart =
      h.others s at (λ is. apart (ap (next_of old) is ∙ a.forth (Node x) node)) not_x

  -- a place that something else leads to does not lead to itself
  not_alone : (s : Neighbour) (x : ℕ) → LinksAgree old → IsPlace old (Node x) → IsPlace old s → s ≢ Node x → next_of old s ≡ Node x → next_of old (Node x) ≢ Node x
  not_alone s x a node at not_x c alone =
      not_x (sym (a.back s at) ∙ (ap (previous_of old) (c ∙ sym alone) ∙ a.back (Node x) node))

  pub IsChain-remove : (s : Neighbour) (x i : ℕ) (xs : List ℕ) → LinksAgree old → IsPlace old (Node x) → Removes old new x → IsPlace old s → s ≢ Node x → IsChain old s xs (Head i) → IsChain new s (without x xs) (Head i)
  IsChain-remove s x i [] a node h at not_x c =
      leads_on s x a node h at not_x (λ is. Head≢Node i x (sym c ∙ is)) ∙ c
  IsChain-remove s x i (y ∷ []) a node h at not_x c =
      ⊎_elim
      (λ is.
      subst (λ ys. IsChain new s ys (Head i)) (sym (ap (λ v. without x (v ∷ [])) is ∙ without-same x [])) (leads_past s x a h at (c.0 ∙ ap Node is) ∙ (ap (λ v. next_of old (Node v)) (sym is) ∙ c.1)))
      (λ ne.
      subst (λ ys. IsChain new s ys (Head i)) (sym (without-other x y [] ne)) (leads_on s x a node h at not_x (λ is. ne (Node-same (sym c.0 ∙ is))) ∙ c.0, IsChain-remove (Node y) x i [] a node h (leads old s (Node y) a at c.0) (Node-other y x ne) c.1))
      (cases_eq y x)
  IsChain-remove s x i (y ∷ (z ∷ zs)) a node h at not_x c =
      ⊎_elim
      (λ is.
      let to : next_of old s ≡ Node x = c.0 ∙ ap Node is in
      let from : next_of old (Node x) ≡ Node z = ap (λ v. next_of old (Node v)) (sym is) ∙ c.1.0 in
      let ne : z ≢ x = λ e. not_alone s x a node at not_x to (from ∙ ap Node e) in
      subst (λ ys. IsChain new s ys (Head i)) (sym (ap (λ v. without x (v ∷ (z ∷ zs))) is ∙ (without-same x (z ∷ zs) ∙ without-other x z zs ne))) (leads_past s x a h at to ∙ from, IsChain-remove (Node z) x i zs a node h (leads old (Node x) (Node z) a node from) (Node-other z x ne) c.1.1))
      (λ ne.
      subst (λ ys. IsChain new s ys (Head i)) (sym (without-other x y (z ∷ zs) ne)) (leads_on s x a node h at not_x (λ is. ne (Node-same (sym c.0 ∙ is))) ∙ c.0, IsChain-remove (Node y) x i (z ∷ zs) a node h (leads old s (Node y) a at c.0) (Node-other y x ne) c.1))
      (cases_eq y x)

-- different from each of the nodes
apart_from : (x : ℕ) (xs : List ℕ) → ¬ (IsAmong x xs) → AllByRecursion (λ y. eqb x y ≡ false) xs
apart_from x [] free = tt
apart_from x (y ∷ ys) free =
    (ne_eqb x y (λ e. free (inl (sym e))), apart_from x ys (λ m. free (inr m)))

module _ (r : Rings) where
  -- the link back from a node on a chain leads to the start or to a node on it
  pub led_to : (s end : Neighbour) (xs : List ℕ) → LinksAgree r → IsPlace r s → IsChain r s xs end → (y : ℕ) → IsAmong y xs → (previous_of r (Node y) ≡ s) ⊎ ((w : ℕ) × IsAmong w xs × (previous_of r (Node y) ≡ Node w))
  led_to s end [] a at c y m = absurd m
  led_to s end (x ∷ xs) a at c y m =
      elim m [
        | inl is ↦ inl (ap (λ v. previous_of r (Node v)) (sym is) ∙ (ap (previous_of r) (sym c.0) ∙ a.back s at))
        | inr n ↦
            elim (led_to (Node x) end xs a (leads r s (Node x) a at c.0) c.1 y n) [
              | inl e ↦ inr (x, inl refl, e)
              | inr w ↦ inr (w.0, inr w.1, w.2)
            ]
      ]

  -- no node stands twice on a chain that does not come back to its start
  pub IsDistinct-chain : (s end : Neighbour) (xs : List ℕ) → LinksAgree r → IsPlace r s → ((y : ℕ) → IsAmong y xs → s ≢ Node y) → IsChain r s xs end → IsDistinct eqb xs
  unfolding IsDistinct
  IsDistinct-chain s end [] a at apart c = tt
  IsDistinct-chain s end (x ∷ xs) a at apart c =
      let here = leads r s (Node x) a at c.0 in
      let back : s ≡ previous_of r (Node x) = sym (a.back s at) ∙ ap (previous_of r) c.0 in
      let once : ¬ (IsAmong x xs) =
      λ m.
      elim (led_to (Node x) end xs a here c.1 x m) [
        | inl e ↦ apart x (inl refl) (back ∙ e)
        | inr w ↦ apart w.0 (inr w.1) (back ∙ w.2)
      ] in
      IsDistinct-cons eqb x xs (apart_from x xs once) (IsDistinct-chain (Node x) end xs a here (λ y m e. once (subst (λ v. IsAmong v xs) (sym (Node-same e)) m)) c.1)

  -- a walk along a chain gives its nodes
  pub nodes_after-chain : (most : ℕ) (p : Neighbour) (i : ℕ) (xs : List ℕ) → length xs ≤ most → IsChain r p xs (Head i) → nodes_after r most p ≡ xs
  nodes_after-chain zero p i [] long c = refl
  nodes_after-chain zero p i (x ∷ xs) long c = absurd (omega arith)
  nodes_after-chain (suc most) p i [] long c = ap (node_then (λ x. nodes_after r most (Node x))) c
  nodes_after-chain (suc most) p i (x ∷ xs) long c =
      ap (node_then (λ v. nodes_after r most (Node v))) c.0
      ∙ ap (λ ys. x ∷ ys) (nodes_after-chain most (Node x) i xs (omega arith) c.1)

  pub node_of-first : (p : Neighbour) (i : ℕ) (xs : List ℕ) → IsChain r p xs (Head i) → node_of (next_of r p) ≡ slice_get xs 0
  node_of-first p i [] c = ap node_of c
  node_of-first p i (x ∷ xs) c = ap node_of c.0

  pub node_of-next : (p : Neighbour) (i k x : ℕ) (xs : List ℕ) → IsChain r p xs (Head i) → slice_get xs k ≡ Some x → node_of (next_of r (Node x)) ≡ slice_get xs (suc k)
  node_of-next p i k x [] c at = absurd (none-some x at)
  node_of-next p i zero x (y ∷ ys) c at =
      ap (λ v. node_of (next_of r (Node v))) (sym (same_Some y x at)) ∙ node_of-first (Node y) i ys c.1
  node_of-next p i (suc k) x (y ∷ ys) c at = node_of-next (Node y) i k x ys c.1 at

  -- a place on a chain leads to its end or to a node on it
  pub leads_along : (p end : Neighbour) (xs : List ℕ) → IsChain r p xs end → (next_of r p ≡ end) ⊎ ((w : ℕ) × IsAmong w xs × (next_of r p ≡ Node w))
  leads_along p end [] c = inl c
  leads_along p end (x ∷ xs) c = inr (x, inl refl, c.0)
