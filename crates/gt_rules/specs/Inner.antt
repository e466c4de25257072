-- Which structures headers declare as inner. It is told by what their markers say, also where an option stands at a wrong place.
use Rattle.std.specs.Prelude.{◌≡◌, ◌&&◌, ◌||◌, not, Bool, true, false, codes, IsTrue, List, Option, Some, slice_get}
use Rattle.std.specs.List.{list_any}
use Rattle.std.specs.Option.{option_map_or}
use Rattle.gt_types.specs.declared.expressions.Base.{Base}
use Rattle.gt_types.specs.declared.expressions.Base.TheVariants.{Outer}
use Rattle.gt_types.specs.Paths.{Inner}
use Rattle.gt_expr.specs.declared.raw.RawExpr.{RawExpr}
use Rattle.gt_expr.specs.declared.raw.RawExpr.TheOpen.{RawExpr-F, Int, Path, Named, One, Two, Cond}
use Rattle.gt_expr.specs.declared.raw.RawExpr.TheFolds.{fold-RawExpr}
use Rattle.gt_items.specs.declared.items.Parameter.{Parameter}
use Rattle.gt_items.specs.declared.items.Parameter.TheVariants.{Expression}
use Rattle.gt_items.specs.declared.items.RawOption.{RawOption}
use Rattle.gt_drafts.specs.declared.draft.Draft.{Draft}
use Rattle.gt_drafts.specs.declared.draft.DraftField.{DraftField}
use Rattle.gt_drafts.specs.declared.draft.DraftStructure.{DraftStructure}
use Rattle.gt_drafts.specs.Options.{has_skip}
use Rattle.gt_markers.specs.declared.kinds.OptionKind.{OptionKind}
use Rattle.gt_markers.specs.declared.kinds.OptionKind.TheVariants.{Desc, Reorder}
use Rattle.gt_markers.specs.Options.{kind_of, option_named}

abbrev pub is_outer : Base → Bool
is_outer Outer = true
is_outer base = false

abbrev pub outer_step : RawExpr-F Bool → Bool
outer_step (Int n) = false
outer_step (Path base steps) = is_outer base
outer_step (Named word) = false
outer_step (One op a) = a
outer_step (Two op a b) = a || b
outer_step (Cond test a b) = test || a || b

-- whether an expression has a path that begins at the structure that contains its own
abbrev pub names_container : RawExpr → Bool
names_container = fold-RawExpr Bool outer_step

-- whether the parameter of an option is such an expression
abbrev pub parameter_names_container : Parameter → Bool
parameter_names_container (Expression e) = names_container e
parameter_names_container parameter = false

abbrev pub is_outer_kind : Option OptionKind → Bool
is_outer_kind (Some Desc) = false
is_outer_kind (Some Reorder) = false
is_outer_kind kind = true

-- Whether an option of a field names the structure that contains the field's own. In a `desc` that name is one of the field's own
-- structure, and the text of `reorder` is no expression.
abbrev pub is_outer_option : RawOption → Bool
is_outer_option o = is_outer_kind (kind_of o.name.word) && parameter_names_container o.parameter

-- whether a field without `skip` has such an option
abbrev pub has_outer_option : DraftField → Bool
has_outer_option df = not (has_skip df.options) && list_any is_outer_option df.options

-- whether the own `desc` of a structure, of two the first, names the structure that contains it
abbrev pub has_outer_desc : List RawOption → Bool
has_outer_desc options = option_map_or (λ o. parameter_names_container o.parameter) (option_named (codes "desc") options) false

-- whether the own `desc` of a structure, or such a field, names the structure that contains it
abbrev pub is_declared_inner : DraftStructure → Bool
is_declared_inner ds = has_outer_desc ds.options || list_any has_outer_option ds.fields

-- a structure is declared inner
abbrev pub IsDeclaredInner : Draft → Inner
IsDeclaredInner draft id = (ds : DraftStructure) × (slice_get draft.structures id.0 ≡ Some ds) × IsTrue (is_declared_inner ds)
