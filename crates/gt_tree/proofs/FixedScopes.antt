-- What the expressions of options read in two scopes of twins.
use Rattle.std.proofs.Common.{◌≡◌, ℕ, suc, List, [], refl, ap, sym, subst, ◌∙◌, Option, Some, None, inl, inr}
use Rattle.std.specs.Prelude.{All}
use Rattle.std.proofs.lemmas.List.Elements.{All-nil, All-same, All-weaker}
use Rattle.gt_types.specs.declared.expressions.Base.{Base}
use Rattle.gt_types.specs.declared.expressions.Base.TheVariants.{Here, Outer, Outermost}
use Rattle.gt_types.specs.declared.expressions.Expr.{Expr}
use Rattle.gt_types.specs.declared.types.TypeId.{TypeId}
use Rattle.gt_types.specs.declared.types.Ty.{Ty, out-Ty}
use Rattle.gt_types.specs.declared.types.Ty.TheFolds.{fold_out-Ty, map-Ty}
use Rattle.gt_types.specs.declared.types.Ty.TheOpen as part
use Rattle.gt_types.specs.declared.types.Ty.TheOpen.{Ty-F}
use Rattle.gt_types.specs.declared.types.Ty.TheVariants as ty
use Rattle.gt_types.specs.declared.types.Ty.TheVariants.{outs-Num, outs-Bits, outs-Opaque, outs-Str, outs-Ptr, outs-Node, outs-Arr', outs-Tail'}
use Rattle.gt_types.specs.declared.program.Program.{Program}
use Rattle.gt_types.specs.Shapes.{innermost, innermost_step, count_of}
use Rattle.gt_types.specs.Contains.{ContainsStructure, ContainsAtDepth, Nests, once, deeper}
use Rattle.gt_types.specs.Paths.{paths_of, roots_of, IsScalarRoot, IsRootDesc, IsInner, IsOutermost, LeadsToNumber, PathFits, DescPathFits, IsOption, IsFieldDesc}
use Rattle.gt_tree.specs.Trees.{Tree}
use Rattle.gt_tree.specs.Scopes.{Held, Scope, inside, first_of}
use Rattle.gt_tree.specs.PathLaws.{LeadsInScope}

-- ---- one structure inside another

inside-last : (program : Program) (n : ℕ) (outer middle last : TypeId) → Nests program n outer middle → ContainsStructure program middle last → ContainsAtDepth program outer last
inside-last program n outer middle last (once c) d = (2, deeper c (once d))
inside-last program n outer middle last (deeper {next} c rest) d = let found = inside-last program _ next middle last rest d in (suc found.0, deeper c found.1)

-- the structures around a type that holds one by value
pub record IsAround (program : Program) (here outermost : Option Held) (held : TypeId) : Type 0 where
  pub within : (h : Held) → here ≡ Some h → ContainsStructure program h.node held
  pub around : (h : Held) → outermost ≡ Some h → (¬ IsInner program h.node) × ContainsAtDepth program h.node held
  pub alone : outermost ≡ None → ¬ IsInner program held

some-node : (n : TypeId) (v : Tree) (h : Held) → Some (record { node = n; value = v }) ≡ Some h → n ≡ h.node
some-node n v h e = let same : record { node = n; value = v } ≡ h = cc in ap (λ x. x.node) same

-- a structure by value in it, as a field or as the common structure of a union
pub around-inside : (program : Program) (here outermost : Option Held) (node next : TypeId) (value : Tree) → IsAround program here outermost node → ContainsStructure program node next
    → IsAround program (Some (record { node = node; value = value })) (first_of outermost (Some (record { node = node; value = value }))) next
around-inside program here None node next value a c = record {
  within = λ h e. subst (λ n. ContainsStructure program n next) (some-node node value h e) c;
  around = λ h e. (subst (λ n. ¬ IsInner program n) (some-node node value h e) (a.alone refl), subst (λ n. ContainsAtDepth program n next) (some-node node value h e) (1, once c));
  alone = λ e. absurd (cc);
}
around-inside program here (Some top) node next value a c = record {
  within = λ h e. subst (λ n. ContainsStructure program n next) (some-node node value h e) c;
  around = λ h e.
      let same : top ≡ h = cc in
      let was = a.around top refl in
      subst (λ x. (¬ IsInner program x.node) × ContainsAtDepth program x.node next) same (was.0, inside-last program was.1.0 top.node node next was.1.1 c);
  alone = λ e. absurd (cc);
}

-- ---- where paths begin

outermost-leads : (program : Program) (here outermost : Option Held) (node : TypeId) (value : Tree) (steps : List (List ℕ)) → IsAround program here outermost node
    → ((outer : TypeId) → IsOutermost program node outer → LeadsToNumber program outer steps) → (h : Held) → first_of outermost (Some (record { node = node; value = value })) ≡ Some h → LeadsToNumber program h.node steps
outermost-leads program here None node value steps a fits h e =
    subst (λ n. LeadsToNumber program n steps) (some-node node value h e) (fits node (a.alone refl, inl refl))
outermost-leads program here (Some top) node value steps a fits h e =
    let same : top ≡ h = cc in
    let was = a.around top refl in
    subst (λ x. LeadsToNumber program x.node steps) same (fits top.node (was.0, inr was.1))

option-path : (program : Program) (scope : Scope) (node : TypeId) (value : Tree) (base : Base) (steps : List (List ℕ)) → IsAround program scope.here scope.outermost node → PathFits program node base steps
    → LeadsInScope program (inside scope node value) (base, steps)
option-path program scope node value Here steps a fits = λ h e. subst (λ n. LeadsToNumber program n steps) (some-node node value h e) fits
option-path program scope node value Outer steps a fits = λ h e. fits h.node (a.within h e)
option-path program scope node value Outermost steps a fits = λ h e. outermost-leads program scope.here scope.outermost node value steps a fits h e

-- the paths of an expression lead to numbers in a scope, and its roots are numbers
pub record IsReadable (program : Program) (scope : Scope) (e : Expr) : Type 0 where
  pub leads : All (LeadsInScope program scope) (paths_of e)
  pub roots : All (IsScalarRoot program) (roots_of e)

no-roots : (program : Program) (e : Expr) → roots_of e ≡ [] → All (IsScalarRoot program) (roots_of e)
no-roots program e none = All-same (IsScalarRoot program) (roots_of e) [] none (All-nil (IsScalarRoot program))

-- an option of a structure is so inside its value
pub option-leads : (program : Program) (scope : Scope) (node : TypeId) (value : Tree) (e : Expr) → IsAround program scope.here scope.outermost node → IsOption program node e → IsReadable program (inside scope node value) e
option-leads program scope node value e a option = record {
  leads = All-weaker (λ path. PathFits program node path.0 path.1) (LeadsInScope program (inside scope node value)) (λ path fits. option-path program scope node value path.0 path.1 a fits) (paths_of e) option.paths;
  roots = no-roots program e option.no_roots;
}

first-first : (a : Option Held) (b c : Held) → first_of (first_of a (Some b)) (Some c) ≡ first_of a (Some b)
first-first None b c = refl
first-first (Some x) b c = refl

desc-path : (program : Program) (scope : Scope) (node union : TypeId) (value inner : Tree) (base : Base) (steps : List (List ℕ)) → IsAround program scope.here scope.outermost node
    → DescPathFits program node union base steps → LeadsInScope program (inside (inside scope node value) union inner) (base, steps)
desc-path program scope node union value inner Here steps a fits = λ h e. subst (λ n. LeadsToNumber program n steps) (some-node union inner h e) fits
desc-path program scope node union value inner Outer steps a fits = λ h e. subst (λ n. LeadsToNumber program n steps) (some-node node value h e) fits
desc-path program scope node union value inner Outermost steps a fits = λ h e.
    outermost-leads program scope.here scope.outermost node value steps a fits h
    (sym (first-first scope.outermost (record { node = node; value = value }) (record { node = union; value = inner })) ∙ e)

-- so is the `desc` of a field
pub desc-leads : (program : Program) (scope : Scope) (node union : TypeId) (value inner : Tree) (e : Expr) → IsAround program scope.here scope.outermost node → IsFieldDesc program node union e
    → IsReadable program (inside (inside scope node value) union inner) e
desc-leads program scope node union value inner e a desc = record {
  leads =
      All-weaker (λ path. DescPathFits program node union path.0 path.1) (LeadsInScope program (inside (inside scope node value) union inner))
      (λ path fits. desc-path program scope node union value inner path.0 path.1 a fits) (paths_of e) desc.paths;
  roots = no-roots program e desc.no_roots;
}

-- and the `desc` of a root
root_desc-path : (program : Program) (scope : Scope) (union : TypeId) (inner : Tree) (base : Base) (steps : List (List ℕ)) → base ≡ Here → LeadsToNumber program union steps
    → LeadsInScope program (inside scope union inner) (base, steps)
root_desc-path program scope union inner Here steps is fits = λ h e. subst (λ n. LeadsToNumber program n steps) (some-node union inner h e) fits
root_desc-path program scope union inner Outer steps is fits = absurd (cc)
root_desc-path program scope union inner Outermost steps is fits = absurd (cc)

pub root_desc-leads : (program : Program) (scope : Scope) (union : TypeId) (inner : Tree) (e : Expr) → IsRootDesc program union e → IsReadable program (inside scope union inner) e
root_desc-leads program scope union inner e desc = record {
  leads =
      All-weaker (λ path. (path.0 ≡ Here) × LeadsToNumber program union path.1) (LeadsInScope program (inside scope union inner))
      (λ path fits. root_desc-path program scope union inner path.0 path.1 fits.0 fits.1) (paths_of e) desc.paths;
  roots = desc.roots;
}

-- ---- types

pub innermost-layer : (type : Ty) (x : Ty-F Ty) → out-Ty type ≡ x → innermost type ≡ innermost_step (map-Ty Ty Ty innermost x)
innermost-layer type x e = fold_out-Ty Ty innermost_step type ∙ ap (λ y. innermost_step (map-Ty Ty Ty innermost y)) e

pub innermost-array : (type elem : Ty) (n : ℕ) → out-Ty type ≡ part.Arr n elem → innermost type ≡ innermost elem
innermost-array type elem n e = innermost-layer type (part.Arr n elem) e

pub innermost-tail : (type elem : Ty) (length : Expr) → out-Ty type ≡ part.Tail length elem → innermost type ≡ innermost elem
innermost-tail type elem length e = innermost-layer type (part.Tail length elem) e

pub count-tail : (type elem : Ty) (length : Expr) → out-Ty type ≡ part.Tail length elem → count_of type ≡ Some length
count-tail (ty.Num scalar) elem length e = let o = outs-Num scalar in absurd (cc)
count-tail (ty.Bits unit width) elem length e = let o = outs-Bits unit width in absurd (cc)
count-tail (ty.Opaque size align) elem length e = let o = outs-Opaque size align in absurd (cc)
count-tail (ty.Str count) elem length e = let o = outs-Str count in absurd (cc)
count-tail (ty.Ptr target kind reorder) elem length e = let o = outs-Ptr target kind reorder in absurd (cc)
count-tail (ty.Node node desc) elem length e = let o = outs-Node node desc in absurd (cc)
count-tail (ty.Arr' n shape elem') elem length e = let o = outs-Arr' n shape elem' in absurd (cc)
count-tail (ty.Tail' count shape elem') elem length e = let o = outs-Tail' count shape elem' in let same : count ≡ length = cc in ap Some same
