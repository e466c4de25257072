-- Fields and elements, made one after another.
use Rattle.std.proofs.Common.{◌≡◌, ℕ, suc, ◌+◌, ◌-◌, ◌<◌, ◌≤◌, List, [], ◌∷◌, ◌++◌, length, map, drop, get_or, refl, ap, sym, ◌∙◌, arith, add-one, Option, Some, None}
use Rattle.gt_types.specs.declared.types.Ty.{Ty}
use Rattle.gt_tree.specs.Trees.{Tree, Trees, End, And}
use Rattle.gt_tree.specs.Scopes.{◌then◌}
use Rattle.gt_value.specs.declared.values.Value.{Value}
use Rattle.gt_value.specs.Values.{trees, tree_of}
use Rattle.gt_assign.specs.Pasts.{Was, Past}
use Rattle.gt_assign.specs.Turning.{Maker, field_was, fields_made, element_was, elements_made}
use Rattle.gt_fit.proofs.Listing.{drop-item, drop-none}

-- values before others
abbrev pub before : List Value → Trees → Trees
before [] rest = rest
before (value ∷ values) rest = And (tree_of value) (before values rest)

before-one : (values : List Value) (value : Value) (rest : Trees) → before (values ++ value ∷ []) rest ≡ before values (And (tree_of value) rest)
before-one [] value rest = refl
before-one (first ∷ values) value rest = ap (And (tree_of first)) (before-one values value rest)

pub before-end : (values : List Value) → before values End ≡ trees (map tree_of values)
before-end [] = refl
before-end (first ∷ values) = ap (And (tree_of first)) (before-end values)

-- some were made, and the others are left
abbrev pub following : List Value → Option Trees → Option Trees
following values (Some rest) = Some (before values rest)
following values None = None

abbrev pub more : Tree → Option Trees → Option Trees
more tree o = o then λ rest. Some (And tree rest)

after-more : (values : List Value) (value : Value) (o : Option Trees) → following values (more (tree_of value) o) ≡ following (values ++ value ∷ []) o
after-more values value (Some rest) = ap Some (sym (before-one values value rest))
after-more values value None = refl

module _ (make : Maker) (past : Past) (was : Was) where
  pub one-made : (i : ℕ) (type : Ty) (types : List Ty) (part : Was) (tree : Tree) → field_was was i ≡ Some part → make past type part ≡ Some tree
      → fields_made make past was i (type ∷ types) ≡ more tree (fields_made make past was (suc i) types)
  one-made i type types part tree e f =
      ap (λ o. o then λ p. make past type p then λ t. fields_made make past was (suc i) types then λ rest. Some (And t rest)) e
      ∙ ap (λ o. o then λ t. fields_made make past was (suc i) types then λ rest. Some (And t rest)) f

  pub no-tree : (i : ℕ) (type : Ty) (types : List Ty) (part : Was) → field_was was i ≡ Some part → make past type part ≡ None → fields_made make past was i (type ∷ types) ≡ None
  no-tree i type types part e f =
      ap (λ o. o then λ p. make past type p then λ t. fields_made make past was (suc i) types then λ rest. Some (And t rest)) e
      ∙ ap (λ o. o then λ t. fields_made make past was (suc i) types then λ rest. Some (And t rest)) f

  -- ---- fields or roots, by the type of each

  module _ {X : Type 0} (type_of : X → Ty) where
    -- the fields before a place were made
    abbrev pub FieldsSoFar : List X → ℕ → List Value → Type 0
    FieldsSoFar fields i values = fields_made make past was 0 (map type_of fields) ≡ following values (fields_made make past was i (map type_of (drop i fields)))

    module _ (fields : List X) (i : ℕ) (f : X) (values : List Value) (inside : i < length fields) (is : f ≡ get_or fields i f) (so : FieldsSoFar fields i values) where
      here : fields_made make past was 0 (map type_of fields) ≡ following values (fields_made make past was i (type_of f ∷ map type_of (drop (i + 1) fields)))
      here = so ∙ ap (λ fs. following values (fields_made make past was i (map type_of fs))) (drop-item fields i f inside is)

      pub fields-more : (part : Was) (value : Value) → field_was was i ≡ Some part → make past (type_of f) part ≡ Some (tree_of value) → FieldsSoFar fields (i + 1) (values ++ value ∷ [])
      fields-more part value e g =
          here
          ∙ ap (following values) (one-made i (type_of f) (map type_of (drop (i + 1) fields)) part (tree_of value) e g)
          ∙ after-more values value (fields_made make past was (suc i) (map type_of (drop (i + 1) fields)))
          ∙ ap (λ n. following (values ++ value ∷ []) (fields_made make past was n (map type_of (drop (i + 1) fields)))) (sym (add-one i))

    pub fields-end : (fields : List X) (i : ℕ) (values : List Value) → length fields ≤ i → FieldsSoFar fields i values → fields_made make past was 0 (map type_of fields) ≡ Some (trees (map tree_of values))
    fields-end fields i values h so =
        so ∙ ap (λ fs. following values (fields_made make past was i (map type_of fs))) (drop-none fields i h) ∙ ap Some (before-end values)

  -- ---- elements

  abbrev pub ElementsSoFar : Ty → ℕ → ℕ → List Value → Type 0
  ElementsSoFar type n i values = elements_made make past type was 0 n ≡ following values (elements_made make past type was i (n - i))

  module _ (type : Ty) (n i : ℕ) (values : List Value) (inside : i < n) (so : ElementsSoFar type n i values) where
    next : n - i ≡ suc (n - (i + 1))
    next = omega (arith, inside)

    there : elements_made make past type was 0 n ≡ following values (elements_made make past type was i (suc (n - (i + 1))))
    there = so ∙ ap (λ k. following values (elements_made make past type was i k)) next

    pub elements-more : (part : Was) (value : Value) → element_was was i ≡ Some part → make past type part ≡ Some (tree_of value) → ElementsSoFar type n (i + 1) (values ++ value ∷ [])
    elements-more part value e g =
        there
        ∙ ap (λ o. following values (o then λ p. make past type p then λ t. elements_made make past type was (suc i) (n - (i + 1)) then λ rest. Some (And t rest))) e
        ∙ ap (λ o. following values (o then λ t. elements_made make past type was (suc i) (n - (i + 1)) then λ rest. Some (And t rest))) g
        ∙ after-more values value (elements_made make past type was (suc i) (n - (i + 1)))
        ∙ ap (λ k. following (values ++ value ∷ []) (elements_made make past type was k (n - (i + 1)))) (sym (add-one i))

  pub elements-end : (type : Ty) (n i : ℕ) (values : List Value) → n ≤ i → ElementsSoFar type n i values → elements_made make past type was 0 n ≡ Some (trees (map tree_of values))
  elements-end type n i values h so =
      let none : n - i ≡ 0 = omega (arith, h) in
      so ∙ ap (λ k. following values (elements_made make past type was i k)) none ∙ ap Some (before-end values)
