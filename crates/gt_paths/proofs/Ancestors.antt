-- The structures above one, step by step.
use Rattle.std.proofs.Common.{◌≡◌, ◌⊎◌, inl, inr, ℕ, suc, ◌+◌, ◌<◌, ◌≤◌, ◌↔◌, List, [], ◌∷◌, ◌++◌, length, get_or, take, Option, Some, None, slice_get, refl, sym, ap, subst, ◌∙◌, arith, IfSome}
use Rattle.std.specs.Prelude.{Contains}
use Rattle.std.specs.declared.alloc.Global.{Global}
use Rattle.std.specs.declared.rc.Rc.{Rc}
use Rattle.std.proofs.lemmas.List.{take_all, take_more}
use Rattle.std.proofs.lemmas.List.Elements.{Contains-append_left, Contains-append_right, Contains-append_cases}
use Rattle.gt_types.specs.declared.types.TypeId.{TypeId}
use Rattle.gt_types.specs.declared.program.Program.{Program}
use Rattle.gt_types.specs.Contains.{ContainsStructure, Nests, once, deeper}
use Rattle.gt_sets.specs.Sets.{IsIn}
use Rattle.gt_paths.specs.declared.containers.Containers.{Containers}
use Rattle.gt_paths.specs.Containers.{AreContainersOf, containers_of}
use Rattle.gt_paths.specs.Numbers.{numbered}
use Rattle.gt_paths.specs.Ancestors.{IsAncestor, AreAbove, AreAncestors, AreSets}
use Rattle.gt_paths.specs.Outers.{AreOutersOf, IsOuter}
use Rattle.gt_paths.proofs.Ascents.{is_one}

-- ---- what stands above one, and what is outermost around it

-- one more at the top
higher : (containers : Containers) {node outer : ℕ} (top : ℕ) → IsAncestor containers node outer → Contains (containers_of containers outer) top → IsAncestor containers node top
higher containers top IsAncestor.itself listed = IsAncestor.above listed IsAncestor.itself
higher containers top (IsAncestor.above first rest) listed = IsAncestor.above first (higher containers top rest listed)

nests_above : (program : Program) (containers : Containers) → AreContainersOf program containers → {n : ℕ} {outer inner : TypeId} → Nests program n outer inner → IsAncestor containers inner.0 outer.0
nests_above program containers are (once {outer = outer} {inner = inner} contains) = IsAncestor.above (are.listed outer inner contains) IsAncestor.itself
nests_above program containers are (deeper {outer = outer} {next = next} contains nests) = higher containers outer.0 (nests_above program containers are nests) (are.listed outer next contains)

-- one more at the bottom
lower : (program : Program) {n : ℕ} {outer next : TypeId} (inner : TypeId) → Nests program n outer next → ContainsStructure program next inner → Nests program (suc n) outer inner
lower program inner (once contains) last = deeper contains (once last)
lower program inner (deeper contains nests) last = deeper contains (lower program inner nests last)

outer_lower : (program : Program) (node next outer : ℕ) → ContainsStructure program (numbered next) (numbered node) → IsOuter program next outer → IsOuter program node outer
outer_lower program node next outer contains (inl same) = inr (1, once (subst (λ (t : TypeId). ContainsStructure program t (numbered node)) (sym same) contains))
outer_lower program node next outer contains (inr (n, nests)) = inr (suc n, lower program (numbered node) nests contains)

above_outer : (program : Program) (containers : Containers) → AreContainersOf program containers → {node outer : ℕ} → IsAncestor containers node outer → IsOuter program node outer
above_outer program containers are IsAncestor.itself = inl refl
above_outer program containers are (IsAncestor.above {node} {next} {outer} listed rest) =
    outer_lower program node next outer (are.only next node listed) (above_outer program containers are rest)

outer_above : (program : Program) (containers : Containers) → AreContainersOf program containers → (node outer : ℕ) → IsOuter program node outer → IsAncestor containers node outer
outer_above program containers are node outer (inl same) = subst (λ (i : ℕ). IsAncestor containers node i) (sym (ap (λ (t : TypeId). t.0) same)) IsAncestor.itself
outer_above program containers are node outer (inr (n, nests)) = nests_above program containers are nests

-- ---- the containers of one, one by one

-- one more container
pub one_above : (containers : Containers) (node : ℕ) (list : List ℕ) (k : ℕ) (d : ℕ) (old new set : List ℕ) → k < length list → AreAncestors containers (get_or list k d) set
    → ((i : ℕ) → IsIn new i ↔ (IsIn old i ⊎ IsIn set i)) → AreAbove containers node (take k list) old → AreAbove containers node (take (k + 1) list) new
one_above containers node list k d old new set within are added before i = (
  λ there. elim ((added i).0 there) [
    | inl was ↦ elim ((before i).0 was) [
      | inl same ↦ inl same
      | inr (next, listed, stands) ↦ inr (next, subst (λ (xs : List ℕ). Contains xs next) (sym more) (Contains-append_left (take k list) (get_or list k d ∷ []) next listed), stands)
    ]
    | inr new ↦ inr (get_or list k d, subst (λ (xs : List ℕ). Contains xs (get_or list k d)) (sym more) (Contains-append_right (take k list) (get_or list k d ∷ []) (get_or list k d) (0, omega arith, refl)), (are i).0 new)
  ],
  λ one. elim one [
    | inl same ↦ (added i).1 (inl ((before i).1 (inl same)))
    | inr (next, listed, stands) ↦ elim (Contains-append_cases (take k list) (get_or list k d ∷ []) next (subst (λ (xs : List ℕ). Contains xs next) more listed)) [
      | inl was ↦ (added i).1 (inl ((before i).1 (inr (next, was, stands))))
      | inr last ↦ (added i).1 (inr ((are i).1 (subst (λ (x : ℕ). IsAncestor containers x i) (is_one (get_or list k d) next last) stands)))
    ]
  ],
)
  where
    more : take (k + 1) list ≡ take k list ++ get_or list k d ∷ []
    more = take_more list k d within

ancestor_cases : (containers : Containers) {node outer : ℕ} → IsAncestor containers node outer → (outer ≡ node) ⊎ ((next : ℕ) × Contains (containers_of containers node) next × IsAncestor containers next outer)
ancestor_cases containers IsAncestor.itself = inl refl
ancestor_cases containers (IsAncestor.above {node} {next} {outer} listed rest) = inr (next, listed, rest)

-- all containers were taken
pub all_above : (containers : Containers) (node : ℕ) (list : List ℕ) (k : ℕ) (set : List ℕ) → length list ≤ k → list ≡ containers_of containers node → AreAbove containers node (take k list) set
    → AreAncestors containers node set
all_above containers node list k set past same before i = (
  λ there. elim ((whole i).0 there) [
    | inl own ↦ subst (λ (x : ℕ). IsAncestor containers node x) (sym own) IsAncestor.itself
    | inr (next, listed, stands) ↦ IsAncestor.above listed stands
  ],
  λ ancestor. (whole i).1 (ancestor_cases containers ancestor),
)
  where
    whole : AreAbove containers node (containers_of containers node) set
    whole = subst (λ (xs : List ℕ). AreAbove containers node xs set) (take_all k list past ∙ same) before

-- ---- all structures

-- the sets of all structures
pub outers_are : (program : Program) (containers : Containers) (sets : List (Rc (List ℕ) Global)) → AreContainersOf program containers → length sets ≡ length program.structures → AreSets containers sets
    → AreOutersOf program (record { sets = sets })
outers_are program containers sets are many tell = record {
  each = many;
  are = λ node. by node (slice_get sets node) refl;
}
  where
    by : (node : ℕ) (o : Option (Rc (List ℕ) Global)) → slice_get sets node ≡ o → IfSome o (λ set. (i : ℕ) → IsIn set.value i ↔ IsOuter program node i)
    by node None is = tt
    by node (Some own) is = λ i. (
      λ there. above_outer program containers are ((tell node own is i).0 there),
      λ outer. (tell node own is i).1 (outer_above program containers are node i outer),
    )
