-- No promise: what the proofs of cursors need.
use Rattle.std.specs.Prelude.{◌≡◌, ℕ, ℤ, List, Option, map}
use Rattle.gt_types.specs.declared.types.Ty.{Ty}
use Rattle.gt_types.specs.declared.program.Root.{Root as RootOf}
use Rattle.gt_types.specs.Shapes.{count_of}
use Rattle.gt_types.specs.Values.{value_of}
use Rattle.gt_layout.specs.declared.planes.FieldSpot.{FieldSpot}
use Rattle.gt_tree.specs.Trees.{Tree, Trees}
use Rattle.gt_tree.specs.Scopes.{Scope, outside, ◌then◌}
use Rattle.gt_value.specs.declared.sources.Around.{Around}
use Rattle.gt_value.specs.declared.sources.Source.{Source}
use Rattle.gt_value.specs.Reading.{Stands, FieldsStand, EachStands, outside_all, path_worth, root_worth}

-- ---- values that stand in a scope

abbrev pub StandsIn : Source → Around → Scope → Ty → ℕ → Tree → Type 0
StandsIn source around scope type at value = (s : Stands source around type at value) × (s.context.scope ≡ scope)

abbrev pub FieldsStandIn : Source → Around → Scope → List Ty → List FieldSpot → ℕ → Trees → Type 0
FieldsStandIn source around scope types spots at values = (s : FieldsStand source around types spots at values) × (s.context.scope ≡ scope)

abbrev pub EachStandIn : Source → Around → Scope → Ty → ℕ → ℕ → Trees → Type 0
EachStandIn source around scope type at n values = (s : EachStands source around type at n values) × (s.context.scope ≡ scope)

-- the values of the roots stand in the static record
abbrev pub RootsStand : Source → Trees → Type 0
RootsStand source values =
    FieldsStandIn source outside_all (outside values) (map (λ (r : RootOf). r.ty) source.program.now.roots) source.layouts.now.statics.fields 0 values

-- ---- lengths

-- the value of the length in a type, as it is read
abbrev pub length_read : Source → Around → Ty → Option ℤ
length_read source around type = count_of type then value_of (path_worth source around) (root_worth source)
