-- Steps that do not suit the type of a value.
use Rattle.std.proofs.Common.{◌≡◌, ℕ, false, List, refl, ap, sym, subst, ◌∙◌, Option, Some, None}
use Rattle.gt_types.specs.declared.expressions.Expr.{Expr}
use Rattle.gt_types.specs.declared.types.TypeId.{TypeId}
use Rattle.gt_types.specs.declared.types.Ty.{Ty}
use Rattle.gt_types.specs.declared.types.Ty.TheVariants as ty
use Rattle.gt_types.specs.declared.program.Program.{Program}
use Rattle.gt_types.specs.Contains.{itself}
use Rattle.gt_script.specs.declared.command.Hop.{Hop}
use Rattle.gt_script.specs.declared.command.Hop.TheVariants.{Name, Index}
use Rattle.gt_value.specs.declared.cursors.Cursor.{Cursor}
use Rattle.gt_next.specs.declared.answer.Why.{Why}
use Rattle.gt_next.specs.declared.answer.Why.TheVariants.{WrongType}
use Rattle.gt_next.specs.Spots.{element_of}
use Rattle.gt_next.specs.Paths.{RefusesIn, is_some_type, is_suited}
use Rattle.gt_routes.specs.Steps.{RefusedFrom}
use Rattle.gt_routes.proofs.Rows.{failed}

index-suited : (type : Ty) (place : ℕ) → is_suited type (Index place) ≡ is_some_type (element_of type)
index-suited (ty.Node node desc) place = refl
index-suited type place = refl

name-suited : (type : Ty) (name : List ℕ) → itself type ≡ None → is_suited type (Name name) ≡ false
name-suited (ty.Node node desc) name e = absurd (cc)
name-suited type name e = refl

-- a number in what is no array
pub index-from : (program : Program) (c : Cursor) (place : ℕ) → is_some_type (element_of c.ty.now) ≡ false → RefusedFrom program c (Index place) WrongType
index-from program c place e at value path here p =
    RefusesIn.not_suited (index-suited here.here.p.type place ∙ ap (λ t. is_some_type (element_of t)) (sym here.here.is.type_is) ∙ e)

-- a name in what is no structure
pub name-from : (program : Program) (c : Cursor) (name : List ℕ) → itself c.ty.now ≡ None → RefusedFrom program c (Name name) WrongType
name-from program c name e at value path here p = RefusesIn.not_suited (name-suited here.here.p.type name (ap itself (sym here.here.is.type_is) ∙ e))

-- a type that is a structure
pub is-structure : (type : Ty) (node : TypeId) → itself type ≡ Some node → (desc : Option Expr) × (type ≡ ty.Node node desc)
is-structure (ty.Node other desc) node e = let same : other ≡ node = cc in (desc, ap (λ n. ty.Node n desc) same)
is-structure type node e = absurd (cc)

-- the same refusal by another name
pub refused-by : (program : Program) (c : Cursor) (hop : Hop) (here why : Why) → failed here ≡ failed why → RefusedFrom program c hop here → RefusedFrom program c hop why
refused-by program c hop here why e h = let same : here ≡ why = cc in subst (λ w. RefusedFrom program c hop w) same h
