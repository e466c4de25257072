-- What is stable of expressions, and of where structures may stand.
use Rattle.std.proofs.Common.{◌≡◌, ◌∙◌, ℕ, true, false, List, [], Option, Some, None, IsTrue, refl, sym, subst}
use Rattle.std.specs.Prelude.{IsSome, slice_get}
use Rattle.std.proofs.lemmas.Option.{none-some, same_Some}
use Rattle.gt_types.specs.declared.expressions.Base.{Base}
use Rattle.gt_types.specs.declared.expressions.Base.TheVariants.{Here, Outer, Outermost}
use Rattle.gt_types.specs.declared.expressions.Expr.{Expr}
use Rattle.gt_types.specs.declared.types.TypeId.{TypeId}
use Rattle.gt_types.specs.declared.types.Target.TheVariants as target
use Rattle.gt_types.specs.declared.types.PtrKind.TheVariants as kind
use Rattle.gt_types.specs.declared.types.Ty.{Ty}
use Rattle.gt_types.specs.declared.types.Ty.TheVariants as ty
use Rattle.gt_types.specs.declared.program.Structure.{Structure}
use Rattle.gt_types.specs.declared.program.Root.{Root}
use Rattle.gt_types.specs.declared.program.Program.{Program}
use Rattle.gt_types.specs.Names.{IsName}
use Rattle.gt_types.specs.Shapes.{is_number, is_plain_pointer}
use Rattle.gt_types.specs.Contains.{HasStructure}
use Rattle.gt_types.specs.Tails.{tail_of}
use Rattle.gt_types.specs.Paths.{Way, paths_of, roots_of, Inner, MayStandBeside, LeadsToNumber, PathFitsBeside, DescPathFitsBeside, AreSteps, IsScalarRoot, IsOptionBeside, IsFieldDescBeside, IsRootCount, IsRootDesc}
use Rattle.gt_types.specs.Settled.{EndsInPointers, NamesSortable}
use Rattle.gt_settled.proofs.Stable.{Stable, same_bool, is_true, not_stable, there, some_stable, all, no_items}

-- ---- paths

steps_stable : (steps : List (List ℕ)) → Stable (AreSteps steps)
steps_stable steps nn = (
  not_stable (steps ≡ []) (λ no. nn (λ are. no are.0)),
  all IsName steps (λ name. is_true _) (λ no. nn (λ are. no are.1)),
)

base_stable : (base : Base) → Stable (base ≡ Here)
base_stable Here nn = refl
base_stable Outer nn = absurd (nn (λ e. cc))
base_stable Outermost nn = absurd (nn (λ e. cc))

-- where paths are stable
module _ (program : Program) (number : (node : TypeId) (steps : List (List ℕ)) → Stable (LeadsToNumber program node steps)) where
  path_stable : (inner : Inner) (node : TypeId) (base : Base) (steps : List (List ℕ)) → Stable (PathFitsBeside inner program node base steps)
  path_stable inner node Here steps nn = number node steps nn
  path_stable inner node Outer steps nn = λ outer contains. number outer steps (λ no. nn (λ fits. no (fits outer contains)))
  path_stable inner node Outermost steps nn = λ outer is. number outer steps (λ no. nn (λ fits. no (fits outer is)))

  desc_path_stable : (inner : Inner) (node union : TypeId) (base : Base) (steps : List (List ℕ)) → Stable (DescPathFitsBeside inner program node union base steps)
  desc_path_stable inner node union Here steps nn = number union steps nn
  desc_path_stable inner node union Outer steps nn = number node steps nn
  desc_path_stable inner node union Outermost steps nn = path_stable inner node Outermost steps nn

  pub option_stable : (inner : Inner) (node : TypeId) (e : Expr) → Stable (IsOptionBeside inner program node e)
  option_stable inner node e nn = record {
    operators = is_true _ (λ no. nn (λ is. no is.operators));
    no_roots = no_items (roots_of e) (λ no. nn (λ is. no is.no_roots));
    steps = all (λ (path : Way). AreSteps path.1) (paths_of e) (λ path. steps_stable path.1) (λ no. nn (λ is. no is.steps));
    paths = all (λ (path : Way). PathFitsBeside inner program node path.0 path.1) (paths_of e) (λ path. path_stable inner node path.0 path.1) (λ no. nn (λ is. no is.paths));
  }

  pub field_desc_stable : (inner : Inner) (node union : TypeId) (e : Expr) → Stable (IsFieldDescBeside inner program node union e)
  field_desc_stable inner node union e nn = record {
    operators = is_true _ (λ no. nn (λ is. no is.operators));
    no_roots = no_items (roots_of e) (λ no. nn (λ is. no is.no_roots));
    steps = all (λ (path : Way). AreSteps path.1) (paths_of e) (λ path. steps_stable path.1) (λ no. nn (λ is. no is.steps));
    paths = all (λ (path : Way). DescPathFitsBeside inner program node union path.0 path.1) (paths_of e) (λ path. desc_path_stable inner node union path.0 path.1) (λ no. nn (λ is. no is.paths));
  }

  scalar_stable : (i : ℕ) → Stable (IsScalarRoot program i)
  scalar_stable i = there (slice_get program.roots i) (λ (r : Root). IsTrue (is_number r.ty)) (λ r is. is_true (is_number r.ty))

  pub root_count_stable : (e : Expr) → Stable (IsRootCount program e)
  root_count_stable e nn = record {
    operators = is_true _ (λ no. nn (λ is. no is.operators));
    roots = all (IsScalarRoot program) (roots_of e) scalar_stable (λ no. nn (λ is. no is.roots));
    no_paths = no_items (paths_of e) (λ no. nn (λ is. no is.no_paths));
  }

  pub root_desc_stable : (union : TypeId) (e : Expr) → Stable (IsRootDesc program union e)
  root_desc_stable union e nn = record {
    operators = is_true _ (λ no. nn (λ is. no is.operators));
    roots = all (IsScalarRoot program) (roots_of e) scalar_stable (λ no. nn (λ is. no is.roots));
    paths = all (λ (path : Way). (path.0 ≡ Here) × LeadsToNumber program union path.1) (paths_of e)
        (λ path one. (base_stable path.0 (λ no. one (λ is. no is.0)), number union path.1 (λ no. one (λ is. no is.1)))) (λ no. nn (λ is. no is.paths));
  }

-- ---- structures

stand_by : (inner : Inner) (program : Program) (node : TypeId) (o : Option Structure) → slice_get program.structures node.0 ≡ o → Stable (MayStandBeside inner program node)
stand_by inner program node None e nn = absurd (nn (λ (s, there, outer, desc). none-some s (sym e ∙ there)))
stand_by inner program node (Some t) e nn = (
  t,
  e,
  not_stable (inner node) (λ no. nn (λ (s, there, outer, desc). no outer)),
  λ union. some_stable t.desc (λ no. nn (λ (s, there, outer, desc). no (subst (λ (u : Structure). u.is_union ≡ true → IsSome u.desc) (same_Some s t (sym there ∙ e)) desc union))),
)

pub stand_stable : (inner : Inner) (program : Program) (node : TypeId) → Stable (MayStandBeside inner program node)
stand_stable inner program node = stand_by inner program node (slice_get program.structures node.0) refl

-- ---- what is sorted in an image

elements_by : (o : Option Ty) → Stable ((elem : Ty) × (o ≡ Some elem) × IsTrue (is_plain_pointer elem))
elements_by o = there o (λ (elem : Ty). IsTrue (is_plain_pointer elem)) (λ elem is. is_true (is_plain_pointer elem))

ends_in : (program : Program) (node : TypeId) (s : Structure) → HasStructure program node s → s.is_union ≡ false
    → ((elem : Ty) × (tail_of s.fields ≡ Some elem) × IsTrue (is_plain_pointer elem)) → EndsInPointers program node
ends_in program node s there kind (elem, tail, plain) = (s, elem, there, kind, tail, plain)

ends_by : (program : Program) (node : TypeId) (o : Option Structure) → slice_get program.structures node.0 ≡ o → Stable (EndsInPointers program node)
ends_by program node None e nn = absurd (nn (λ (s, elem, there, kind, tail, plain). none-some s (sym e ∙ there)))
ends_by program node (Some t) e nn =
    ends_in program node t e
    (same_bool t.is_union false (λ no. nn (λ (s, elem, there, kind, tail, plain). no (subst (λ (u : Structure). u.is_union ≡ false) (same_Some s t (sym there ∙ e)) kind))))
    (elements_by (tail_of t.fields) (λ no. nn (λ (s, elem, there, kind, tail, plain).
    no (elem, subst (λ (u : Structure). tail_of u.fields ≡ Some elem) (same_Some s t (sym there ∙ e)) tail, plain))))

pub ends_stable : (program : Program) (node : TypeId) → Stable (EndsInPointers program node)
ends_stable program node = ends_by program node (slice_get program.structures node.0) refl

pub sortable_stable : (program : Program) (type : Ty) → Stable (NamesSortable program type)
sortable_stable program (ty.Ptr (Some (target.Node node)) kind.Plain true) nn = ends_stable program node nn
sortable_stable program type nn = tt
