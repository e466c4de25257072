-- Which names count in which options.
use Rattle.std.specs.Prelude.{Bool, is_some}
use Rattle.std.specs.List.{list_all}
use Rattle.gt_expr.specs.declared.raw.RawExpr.{RawExpr}
use Rattle.gt_drafts.specs.declared.draft.Draft.{Draft}
use Rattle.gt_markers.specs.declared.expressions.Scope.{Scope}
use Rattle.gt_markers.specs.declared.expressions.Scope.TheVariants.{Fields, Roots}
use Rattle.gt_markers.specs.Expressions.{Names, constants, constants_and_roots, names_in}

-- what names stand for in options of fields and structures, and in options of roots
abbrev pub names_of : Scope → Draft → Names
names_of Fields draft = constants draft
names_of Roots draft = constants_and_roots draft

-- all names alone in an expression stand for something
abbrev pub are_named : Names → RawExpr → Bool
are_named names e = list_all (λ word. is_some (names word)) (names_in e)
