-- The roots that expressions name, in the order of the code. It is no promise of this crate.
use Rattle.std.specs.Prelude.{ℕ, List, [], ◌∷◌, ◌++◌, Option, Some, None, if◌then◌else◌, nat_eq, fold}
use Rattle.std.specs.List.{list_any}
use Rattle.gt_types.specs.declared.expressions.Expr.{Expr}
use Rattle.gt_types.specs.declared.expressions.Expr.TheOpen.{Expr-F, Int, Path, Root, One, Two, Cond}
use Rattle.gt_types.specs.declared.expressions.Expr.TheFolds.{fold-Expr}
use Rattle.gt_types.specs.declared.types.PtrKind.{PtrKind}
use Rattle.gt_types.specs.declared.types.PtrKind.TheVariants as kind
use Rattle.gt_types.specs.declared.types.Ty.{Ty}
use Rattle.gt_types.specs.declared.types.Ty.TheOpen as part
use Rattle.gt_types.specs.declared.types.Ty.TheOpen.{Ty-F}
use Rattle.gt_types.specs.declared.types.Ty.TheFolds.{fold-Ty}
use Rattle.gt_types.specs.declared.program.Field.{Field}
use Rattle.gt_types.specs.declared.program.Structure.{Structure}
use Rattle.gt_types.specs.declared.program.Root.{Root as RootOf}
use Rattle.gt_types.specs.declared.program.Program.{Program}

-- distinct places with one more, where it is new
abbrev pub with_place : List ℕ → ℕ → List ℕ
with_place places i = if list_any (nat_eq i) places then places else places ++ i ∷ []

-- with the roots of one part of an expression, from its operands on
abbrev pub expr_step : Expr-F (List ℕ → List ℕ) → List ℕ → List ℕ
expr_step (Int n) old = old
expr_step (Path base steps) old = old
expr_step (Root i) old = with_place old i
expr_step (One op a) old = a old
expr_step (Two op a b) old = b (a old)
expr_step (Cond test a b) old = b (a (test old))

-- with the roots of an expression
abbrev pub with_expr : Expr → List ℕ → List ℕ
with_expr = fold-Expr (List ℕ → List ℕ) expr_step

-- with those of an expression, where there is one
abbrev pub with_option : Option Expr → List ℕ → List ℕ
with_option (Some e) old = with_expr e old
with_option None old = old

-- with those of a pointer's length
abbrev pub with_kind : PtrKind → List ℕ → List ℕ
with_kind (kind.Length length) old = with_expr length old
with_kind kind old = old

-- with those of one part of a type
abbrev pub type_step : Ty-F (List ℕ → List ℕ) → List ℕ → List ℕ
type_step (part.Str length) old = with_option length old
type_step (part.Ptr target kind reorder) old = with_kind kind old
type_step (part.Node node desc) old = with_option desc old
type_step (part.Arr n elem) old = elem old
type_step (part.Tail length elem) old = elem (with_expr length old)
type_step type old = old

-- with those of the expressions in a type
abbrev pub with_type : Ty → List ℕ → List ℕ
with_type = fold-Ty (List ℕ → List ℕ) type_step

-- with those of fields
abbrev pub with_fields : List ℕ → List Field → List ℕ
with_fields old fields = fold (λ roots f. with_type f.ty roots) old fields

-- with those of a structure: of its fields, and of its `desc`
abbrev pub with_structure : List ℕ → Structure → List ℕ
with_structure old s = with_option s.desc (with_fields old s.fields)

-- with those of structures
abbrev pub with_structures : List ℕ → List Structure → List ℕ
with_structures old structures = fold with_structure old structures

-- with those of roots
abbrev pub with_roots : List ℕ → List RootOf → List ℕ
with_roots old roots = fold (λ roots r. with_type r.ty roots) old roots

-- with those of all expressions of a program
abbrev pub roots_of_all : Program → List ℕ → List ℕ
roots_of_all program old = with_roots (with_structures old program.structures) program.roots
