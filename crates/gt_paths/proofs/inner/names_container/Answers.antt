use Rattle.std.proofs.Common.{◌≡◌, Bool, List, refl, subst, option_to_list}
use Rattle.std.specs.Prelude.{Any, filter_map}
use Rattle.std.specs.Bool.{Decides}
use Rattle.gt_types.specs.declared.program.Field.{Field}
use Rattle.gt_types.specs.Shapes.{count_of}
use Rattle.gt_types.specs.Paths.{NamesOuter, own_expressions}
use Rattle.gt_paths.specs.Results.{HasResult}
use Rattle.gt_paths.proofs.Walks.{any_joins, found, seeks, result_of, result_in}
use Rattle.gt_paths.proofs.inner.names_container.Goals as goal

lengths :
    (fields others : List Field) (b : Bool) → fields ≡ others → Decides b (Any (HasResult (λ (g : Field). count_of g.ty) NamesOuter) fields)
    → Decides b (Any NamesOuter (filter_map (λ (g : Field). count_of g.ty) others))
lengths fields others b same decides =
    let d = subst (λ (xs : List Field). Decides b (Any (HasResult (λ (g : Field). count_of g.ty) NamesOuter) xs)) same decides in
    (λ e. result_in (λ (g : Field). count_of g.ty) NamesOuter others (d.0 e), λ any. d.1 (result_of (λ (g : Field). count_of g.ty) NamesOuter others any))

pub returns-then-has_outer_length : goal.returns-then-has_outer_length
returns-then-has_outer_length c =
    found (Any NamesOuter) (any_joins NamesOuter) (own_expressions c.args.s.now) (filter_map (λ (g : Field). count_of g.ty) c.args.s.now.fields)
    (option_to_list c.args.s.now.desc) c.has_outer_length.result refl
    (lengths c.as_slice.result.now c.args.s.now.fields c.has_outer_length.result c.as_slice.ensures.items c.has_outer_length.ensures)
    c.if-has_outer_length.true

pub returns : goal.returns
returns c =
    seeks (Any NamesOuter) (any_joins NamesOuter) (own_expressions c.args.s.now) (filter_map (λ (g : Field). count_of g.ty) c.args.s.now.fields)
    (option_to_list c.args.s.now.desc) c.has_outer_length.result c.has_outer_desc.result refl
    (lengths c.as_slice.result.now c.args.s.now.fields c.has_outer_length.result c.as_slice.ensures.items c.has_outer_length.ensures)
    c.if-has_outer_length.false c.has_outer_desc.ensures
