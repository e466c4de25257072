-- A part that begins with a value of a structure and is zero elsewhere.
use Rattle.std.proofs.Common.{◌≡◌, ℕ, suc, ◌-◌, ◌<◌, ◌≤◌, false, cond, Vec, Global, List, [], ◌∷◌, length, map, take, drop, get_or, arith, refl, ap, sym, ◌∙◌, Option, Some, None, Err}
use Rattle.std.specs.Prelude.{◌==◌, option_map}
use Rattle.std.proofs.lemmas.List.{take_all}
use Rattle.gt_types.specs.declared.types.TypeId.{TypeId}
use Rattle.gt_types.specs.declared.types.Ty.{Ty}
use Rattle.gt_types.specs.declared.program.Field.{Field}
use Rattle.gt_tree.specs.Trees.{Tree, Rec, Trees, And}
use Rattle.gt_tree.specs.Scopes.{◌then◌}
use Rattle.gt_tree.specs.Fits.{types_of}
use Rattle.gt_value.specs.declared.values.Value.{Value, Rec as RecOf}
use Rattle.gt_value.specs.declared.values.ValueFail.{ValueFail}
use Rattle.gt_value.specs.declared.values.ValueFail.TheVariants.{Shape, Memory}
use Rattle.gt_value.specs.Values.{trees, tree_of}
use Rattle.gt_fit.proofs.Values.{rec-tree}
use Rattle.gt_assign.specs.declared.changes.Change.{Change}
use Rattle.gt_assign.specs.declared.changes.Change.TheVariants.{New, Begins}
use Rattle.gt_assign.specs.Changes.{changed, Decides, GivesAll}
use Rattle.gt_assign.specs.Pasts.{Nothing, Begun, Past}
use Rattle.gt_assign.specs.Turning.{Maker, struct_made, fields_made, field_was, stays}
use Rattle.gt_assign.proofs.Comes.{not-nought}
use Rattle.gt_assign.proofs.Decided.{new-changed, begins-changed}

-- without the other fields there is no whole
pub all-stop : (fail : ValueFail) (old : Tree) (rest : Option Trees) (whole : Option Tree) → GivesAll (Err fail) rest → (rest ≡ None → whole ≡ None) → Decides (Err fail) old whole
all-stop Shape old rest whole none so = so none
all-stop Memory old rest whole none so = tt

-- a part of another structure does not stay
pub other-stays : (node common : TypeId) (tree : Tree) → (common.0 == node.0) ≡ false → stays node (Begun common tree) ≡ None
other-stays node common tree e = ap (λ b. cond b (Some tree) None) e

-- ---- a struct

first-others : (fields : List Field) (f : Field) → 1 ≤ length fields → f ≡ get_or fields 0 f → f ∷ take (length fields - 1) (drop 1 fields) ≡ fields
first-others [] f inside is = absurd (omega arith)
first-others (x ∷ xs) f inside is =
    let whole : length xs ≤ length (x ∷ xs) - 1 = omega arith in
    ap (λ ys. f ∷ ys) (take_all (length (x ∷ xs) - 1) xs whole) ∙ ap (λ y. y ∷ xs) is

module _ (make : Maker) (past : Past) (common : TypeId) (tree : Tree) where
  field-zero : (i : ℕ) → field_was (Begun common tree) (suc i) ≡ Some Nothing
  field-zero i = ap (λ b. Some (cond b (Begun common tree) Nothing)) (not-nought i (suc i == 0) refl)

  -- what comes after the first field is zero
  fields-zero : (types : List Ty) (i j : ℕ) → fields_made make past (Begun common tree) (suc i) types ≡ fields_made make past Nothing j types
  fields-zero [] i j = refl
  fields-zero (type ∷ types) i j =
      ap (λ o. o then λ w. make past type w then λ t. fields_made make past (Begun common tree) (suc (suc i)) types then λ ts. Some (And t ts)) (field-zero i)
      ∙ ap (λ o. make past type Nothing then λ t. o then λ ts. Some (And t ts)) (fields-zero types (suc i) (suc j))

  abbrev with_rest : Option Tree → Option Trees → Option Tree
  with_rest first rest = option_map Rec (first then λ t. rest then λ ts. Some (And t ts))

  struct-is : (f : Field) (others : List Field) → struct_made make past (f ∷ others) (Begun common tree) ≡ with_rest (make past f.ty (Begun common tree)) (fields_made make past Nothing 0 (types_of others))
  struct-is f others = ap (λ o. with_rest (make past f.ty (Begun common tree)) o) (fields-zero (types_of others) 0 0)

  rest-none : (first : Option Tree) → with_rest first None ≡ None
  rest-none (Some t) = refl
  rest-none None = refl

  module _ (fields : List Field) (f : Field) (inside : 1 ≤ length fields) (is : f ≡ get_or fields 0 f) where
    abbrev others : List Field
    others = take (length fields - 1) (drop 1 fields)

    all : f ∷ others ≡ fields
    all = first-others fields f inside is

    pub struct-begins : (first : Change) (rest : Vec Value Global) → make past f.ty (Begun common tree) ≡ Some (changed first tree) → fields_made make past Nothing 0 (types_of others) ≡ Some (trees (map tree_of rest.items))
        → struct_made make past fields (Begun common tree) ≡ Some (changed (Begins first rest) tree)
    struct-begins first rest e g =
        ap (λ fs. struct_made make past fs (Begun common tree)) (sym all)
        ∙ struct-is f others ∙ ap (λ o. with_rest o (fields_made make past Nothing 0 (types_of others))) e ∙ ap (with_rest (Some (changed first tree))) g ∙ ap Some (sym (begins-changed first rest tree))

    pub struct-rest : fields_made make past Nothing 0 (types_of others) ≡ None → struct_made make past fields (Begun common tree) ≡ None
    struct-rest e =
        ap (λ fs. struct_made make past fs (Begun common tree)) (sym all)
        ∙ struct-is f others ∙ ap (with_rest (make past f.ty (Begun common tree))) e ∙ rest-none (make past f.ty (Begun common tree))

  -- a struct without fields
  pub struct-empty : (fields : List Field) (none : Vec Value Global) → length fields < 1 → none.items ≡ [] → struct_made make past fields (Begun common tree) ≡ Some (changed (New (RecOf none)) tree)
  struct-empty [] none h e = ap (λ (vs : List Value). Some (Rec (trees (map tree_of vs)))) (sym e) ∙ ap Some (sym (new-changed (RecOf none) tree ∙ rec-tree none))
  struct-empty (f ∷ fields) none h e = absurd (omega arith)
