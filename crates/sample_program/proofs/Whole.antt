-- The sample as a whole keeps the rules.
use Rattle.std.proofs.Common.{◌≡◌, ℕ, true, false, not, List, [], ◌∷◌, ap, sym, subst, ◌∙◌, arith, refl}
use Rattle.std.specs.Prelude.{◌≢◌, Some, None, All, Any, codes}
use Rattle.std.specs.Str.{bytes_eq}
use Rattle.std.proofs.lemmas.List.Elements.{All-from_recursion}
use Rattle.std.proofs.lemmas.Slice.Eq.{bytes_eq-Decides}
use Rattle.gt_types.specs.declared.expressions.Expr.TheFolds.{fold-Expr, fold-roll-Expr}
use Rattle.gt_types.specs.declared.expressions.Expr.TheOpen as part
use Rattle.gt_types.specs.declared.expressions.Expr.TheVariants as expr
use Rattle.gt_types.specs.declared.types.TypeId.{TypeId}
use Rattle.gt_types.specs.declared.types.Width.TheVariants.{W4}
use Rattle.gt_types.specs.declared.types.Scalar.TheVariants as scalar
use Rattle.gt_types.specs.declared.types.Target.TheVariants as target
use Rattle.gt_types.specs.declared.types.PtrKind.TheVariants as kind
use Rattle.gt_types.specs.declared.types.Ty.{Ty}
use Rattle.gt_types.specs.declared.types.Ty.TheVariants as ty
use Rattle.gt_types.specs.Operators.{operators_step}
use Rattle.gt_types.specs.Shapes.{root_type_at}
use Rattle.gt_types.specs.Contains.{HasStructure, held_by, itself}
use Rattle.gt_types.specs.Tails.{IsTailType}
use Rattle.gt_types.specs.Paths.{paths_step, roots_step, IsInner, NamesOuter, own_expressions, IsScalarRoot, IsRootCount}
use Rattle.gt_types.specs.Settled.{IsDescOfRoot, IsStructure, IsRoot, IsCache, IsTypedef, global_names, Settled}
use Rattle.sample_program.specs.Sample.{sample, structures, roots, root, cell, int, node, held}
use Rattle.sample_program.proofs.Lists.{differ, fact_of, none_in}
use Rattle.sample_program.proofs.Types.{flat-num, flat-ptr, flat-node}
use Rattle.sample_program.proofs.Orders.{no_cycle, not_deep}
use Rattle.sample_program.proofs.TailTypes.{is_tail, known}
use Rattle.sample_program.proofs.Structures.{item_stands}
use Rattle.sample_program.proofs.Fields.{names}
use Rattle.sample_program.proofs.Keeps.{all_keep}

at-root : {A : Type 0} (step : part.Expr-F A → A) (i : ℕ) → fold-Expr A step (expr.Root i) ≡ step (part.Root i)
at-root {A} step i = ap (fold-Expr A step) (sym (expr.rolls-Root i)) ∙ fold-roll-Expr A step (part.Root i)

n_counts : IsRootCount sample (expr.Root 0)
n_counts = record {
  operators = at-root operators_step 0;
  roots = subst (All (IsScalarRoot sample)) (sym (at-root roots_step 0)) (All-from_recursion (IsScalarRoot sample) (0 ∷ []) ((root (codes "n") int, refl, refl), tt));
  no_paths = at-root paths_step 0;
}

holds_none : (type : Ty) → held_by type ≡ None → (n : TypeId) → held_by type ≡ Some n → ¬ IsInner sample n × ¬ IsTailType sample n
holds_none type none n some = absurd (cc)

root_n : IsRoot sample (root (codes "n") int)
root_n = record {
  name = refl;
  shape = ap root_type_at (ty.outs-Num (scalar.Int W4 true));
  names = names (IsDescOfRoot sample) int int (flat-num (scalar.Int W4 true)).inner tt tt tt;
  count = tt;
  whole = holds_none int (ap itself (flat-num (scalar.Int W4 true)).inner);
  deletable = λ e. absurd (cc);
}

root_all : IsRoot sample (root (codes "all") (ty.Ptr (Some (target.Pointers (node 0))) (kind.Length (expr.Root 0)) false))
root_all = record {
  name = refl;
  shape = ap root_type_at (ty.outs-Ptr (Some (target.Pointers (node 0))) (kind.Length (expr.Root 0)) false);
  names =
      names (IsDescOfRoot sample) (ty.Ptr (Some (target.Pointers (node 0))) (kind.Length (expr.Root 0)) false) (ty.Ptr (Some (target.Pointers (node 0))) (kind.Length (expr.Root 0)) false)
      (flat-ptr (Some (target.Pointers (node 0))) (kind.Length (expr.Root 0)) false).inner item_stands tt tt;
  count = n_counts;
  whole =
      holds_none (ty.Ptr (Some (target.Pointers (node 0))) (kind.Length (expr.Root 0)) false)
      (ap itself (flat-ptr (Some (target.Pointers (node 0))) (kind.Length (expr.Root 0)) false).inner);
  deletable = λ e. absurd (cc);
}

cell_is_whole : (n : TypeId) → held_by (held 5) ≡ Some n → ¬ IsInner sample n × ¬ IsTailType sample n
cell_is_whole n h =
    let here : held_by (held 5) ≡ Some (node 5) = ap itself (flat-node (node 5) None).inner in
    let same : node 5 ≡ n = cc in
    (not_inner n same, λ tail. let wrong : is_tail (node 5).0 ≡ true = subst (λ m. is_tail m.0 ≡ true) (sym same) (known n tail) in absurd (cc))
  where
    not_inner : (n : TypeId) → node 5 ≡ n → ¬ IsInner sample n
    not_inner n same (s, has, some) =
        let there : HasStructure sample (node 5) s = subst (λ m. HasStructure sample m s) (sym same) has in
        let is : cell ≡ s = cc in
        none_in NamesOuter (subst (λ t. Any NamesOuter (own_expressions t)) (sym is) some)

root_one : IsRoot sample (root (codes "one") (held 5))
root_one = record {
  name = refl;
  shape = ap root_type_at (ty.outs-Node (node 5) None);
  names = names (IsDescOfRoot sample) (held 5) (held 5) (flat-node (node 5) None).inner tt tt (cell, refl, refl);
  count = tt;
  whole = cell_is_whole;
  deletable = λ e. absurd (cc);
}

texts_differ : (a b : List ℕ) → not (bytes_eq a b) ≡ true → a ≢ b
texts_differ a b differ same =
    let wrong : not (bytes_eq a a) ≡ true = subst (λ n. not (bytes_eq a n) ≡ true) (sym same) differ in
    let right : bytes_eq a a ≡ true = (bytes_eq-Decides a a).1 refl in
    absurd (cc)

pub settled : Settled sample
settled = record {
  few_structures = omega arith;
  few_roots = omega arith;
  few_caches = omega arith;
  distinct_structures = differ (λ s t. bytes_eq s.name t.name) (λ s t. s.name ≢ t.name) (λ s t. texts_differ s.name t.name) structures refl;
  distinct_globals = differ bytes_eq ◌≢◌ texts_differ (global_names sample) refl;
  no_cycle = no_cycle;
  depth = not_deep;
  structures = λ n s has. fact_of (λ i t. IsStructure sample (node i) t) structures all_keep n.0 s has;
  roots = All-from_recursion (IsRoot sample) roots (root_n, (root_all, (root_one, tt)));
  caches = All-from_recursion (IsCache sample) [] tt;
  words = All-from_recursion (IsTypedef sample) [] tt;
}
