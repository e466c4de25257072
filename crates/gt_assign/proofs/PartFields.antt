-- What becomes of fields or roots, decided one after another.
use Rattle.std.proofs.Common.{◌≡◌, ◌≢◌, ℕ, ◌+◌, ◌<◌, ◌≤◌, List, ◌∷◌, length, map, drop, get_or, cond, refl, ap, sym, ◌∙◌, arith, add-one, Option, Some, None}
use Rattle.std.specs.Prelude.{option_map, ◌==◌}
use Rattle.std.proofs.lemmas.Option.{slice_get_read}
use Rattle.std.proofs.lemmas.Bool.{ne_eqb}
use Rattle.gt_types.specs.declared.types.Ty.{Ty}
use Rattle.gt_tree.specs.Trees.{Tree, Trees, Rec, count, tree_at}
use Rattle.gt_value.specs.declared.values.Value.{Value}
use Rattle.gt_value.specs.Values.{trees, tree_of}
use Rattle.gt_assign.specs.declared.changes.Change.{Change}
use Rattle.gt_assign.specs.declared.changes.Parts.{Parts}
use Rattle.gt_assign.specs.Changes.{changed, or_null, IsNext}
use Rattle.gt_assign.specs.Pasts.{Was, Whole, Past}
use Rattle.gt_assign.specs.Turning.{Maker, fields_made}
use Rattle.gt_fit.proofs.Endings.{equals}
use Rattle.gt_fit.proofs.Listing.{drop-item, drop-none}
use Rattle.gt_fit.specs.Values.{maybe_tree}
use Rattle.gt_fit.proofs.Values.{count-trees, tree_at-trees}
use Rattle.gt_assign.proofs.Rows.{one-made, no-tree}
use Rattle.gt_assign.proofs.Decided.{more, SoFar, so_far, parts-next, parts-none, parts-end}

at-place : (parts : List Value) (i : ℕ) (v : Value) → i < length parts → v ≡ get_or parts i v → tree_at (trees (map tree_of parts)) i ≡ Some (tree_of v)
at-place parts i v inside is = tree_at-trees parts i ∙ ap maybe_tree (slice_get_read parts (length parts) i v refl inside is)

module _ (make : Maker) (past : Past) {X : Type 0} (type_of : X → Ty) (fields : List X) (parts : List Value) where
  abbrev olds : Trees
  olds = trees (map tree_of parts)

  abbrev was : Was
  was = Whole (Rec olds)

  -- the fields from a place on
  abbrev pub fields_from : ℕ → Option Trees
  fields_from i = fields_made make past was i (map type_of (drop i fields))

  abbrev pub all_fields : Option Tree
  all_fields = cond (count olds == length fields) (option_map Rec (fields_made make past was 0 (map type_of fields))) None

  pub fields-uneven : length parts ≢ length fields → all_fields ≡ None
  fields-uneven h =
      ap (λ n. cond (n == length fields) (option_map Rec (fields_made make past was 0 (map type_of fields))) None) (count-trees parts)
      ∙ ap (λ b. cond b (option_map Rec (fields_made make past was 0 (map type_of fields))) None) (ne_eqb (length parts) (length fields) h)

  even : length parts ≡ length fields → all_fields ≡ option_map Rec (fields_from 0)
  even h =
      ap (λ n. cond (n == length fields) (option_map Rec (fields_made make past was 0 (map type_of fields))) None) (count-trees parts ∙ h)
      ∙ ap (λ b. cond b (option_map Rec (fields_made make past was 0 (map type_of fields))) None) ((equals (length fields) (length fields)).1 refl)

  module _ (i : ℕ) (f : X) (v : Value) (all : Parts) (same : length parts ≡ length fields) (inside : i < length parts) (is_f : f ≡ get_or fields i f) (is_v : v ≡ get_or parts i v) (so : SoFar fields_from olds i all) where
    here : fields_from i ≡ fields_made make past was i (type_of f ∷ map type_of (drop (i + 1) fields))
    here = ap (λ fs. fields_made make past was i (map type_of fs)) (drop-item fields i f (omega (arith, same, inside)) is_f)

    there : tree_at olds i ≡ Some (tree_of v)
    there = at-place parts i v inside is_v

    pub field-next : (change : Change) (next : Parts) → make past (type_of f) (Whole (tree_of v)) ≡ Some (changed change (tree_of v)) → IsNext all change next → SoFar fields_from olds (i + 1) next
    field-next change next e is =
        parts-next fields_from olds i all change next so is
        (here
        ∙ one-made make past was i (type_of f) (map type_of (drop (i + 1) fields)) (Whole (tree_of v)) (changed change (tree_of v)) (ap (option_map Whole) there) e
        ∙ ap (λ n. more (changed change (tree_of v)) (fields_made make past was n (map type_of (drop (i + 1) fields)))) (sym (add-one i))
        ∙ ap (λ (o : Option Tree). more (changed change (or_null o)) (fields_from (i + 1))) (sym there))

    pub field-none : make past (type_of f) (Whole (tree_of v)) ≡ None → all_fields ≡ None
    field-none e =
        even same
        ∙ ap (option_map Rec)
        (parts-none fields_from olds i all so (here ∙ no-tree make past was i (type_of f) (map type_of (drop (i + 1) fields)) (Whole (tree_of v)) (ap (option_map Whole) there) e))

  pub fields-all : (i : ℕ) (all : Parts) → length parts ≡ length fields → length parts ≤ i → SoFar fields_from olds i all → all_fields ≡ Some (Rec (so_far all olds))
  fields-all i all same h so =
      even same
      ∙ ap (option_map Rec) (parts-end fields_from olds i all so (ap (λ fs. fields_made make past was i (map type_of fs)) (drop-none fields i (omega (arith, same, h)))))
