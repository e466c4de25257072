-- What becomes of elements, decided one after another.
use Rattle.std.proofs.Common.{◌≡◌, ℕ, suc, ◌+◌, ◌-◌, ◌<◌, ◌≤◌, List, map, ap, sym, ◌∙◌, arith, add-one, Option, Some, None}
use Rattle.std.specs.Prelude.{option_map}
use Rattle.gt_types.specs.declared.types.Ty.{Ty}
use Rattle.gt_tree.specs.Trees.{Trees, Row, And, tree_at}
use Rattle.gt_tree.specs.Scopes.{◌then◌}
use Rattle.gt_value.specs.declared.values.Value.{Value}
use Rattle.gt_value.specs.Values.{trees, tree_of}
use Rattle.gt_assign.specs.declared.changes.Change.{Change}
use Rattle.gt_assign.specs.declared.changes.Parts.{Parts}
use Rattle.gt_assign.specs.Changes.{changed, or_null, IsNext}
use Rattle.gt_assign.specs.Pasts.{Was, Whole, Past}
use Rattle.gt_assign.specs.Turning.{Maker, elements_made, maybe_whole, row_made}
use Rattle.gt_assign.proofs.Decided.{more, SoFar, so_far, parts-next, parts-none, parts-end}

module _ (make : Maker) (past : Past) (type : Ty) (parts : List Value) (n : ℕ) where
  abbrev olds : Trees
  olds = trees (map tree_of parts)

  abbrev was : Was
  was = Whole (Row olds)

  -- the elements from a place on
  abbrev pub elements_from : ℕ → Option Trees
  elements_from i = elements_made make past type was i (n - i)

  first : row_made make past type was n ≡ option_map Row (elements_from 0)
  first = let all : n ≡ n - 0 = omega arith in ap (λ k. option_map Row (elements_made make past type was 0 k)) all

  module _ (i : ℕ) (all : Parts) (inside : i < n) (so : SoFar elements_from olds i all) where
    here : elements_from i ≡ elements_made make past type was i (suc (n - (i + 1)))
    here = let next : n - i ≡ suc (n - (i + 1)) = omega (arith, inside) in ap (λ k. elements_made make past type was i k) next

    pub element-next : (change : Change) (next : Parts) → make past type (maybe_whole (tree_at olds i)) ≡ Some (changed change (or_null (tree_at olds i))) → IsNext all change next → SoFar elements_from olds (i + 1) next
    element-next change next e is =
        parts-next elements_from olds i all change next so is
        (here
        ∙ ap (λ o. o then λ t. elements_made make past type was (suc i) (n - (i + 1)) then λ rest. Some (And t rest)) e
        ∙ ap (λ k. more (changed change (or_null (tree_at olds i))) (elements_made make past type was k (n - (i + 1)))) (sym (add-one i)))

    pub element-none : make past type (maybe_whole (tree_at olds i)) ≡ None → row_made make past type was n ≡ None
    element-none e =
        first
        ∙ ap (option_map Row)
        (parts-none elements_from olds i all so (here ∙ ap (λ o. o then λ t. elements_made make past type was (suc i) (n - (i + 1)) then λ rest. Some (And t rest)) e))

  pub elements-all : (i : ℕ) (all : Parts) → n ≤ i → SoFar elements_from olds i all → row_made make past type was n ≡ Some (Row (so_far all olds))
  elements-all i all h so =
      let none : n - i ≡ 0 = omega (arith, h) in
      first ∙ ap (option_map Row) (parts-end elements_from olds i all so (ap (λ k. elements_made make past type was i k) none))
