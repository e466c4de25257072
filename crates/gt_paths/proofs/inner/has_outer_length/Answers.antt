use Rattle.gt_types.specs.declared.program.Field.{Field}
use Rattle.gt_types.specs.Shapes.{count_of}
use Rattle.gt_types.specs.Paths.{NamesOuter}
use Rattle.gt_paths.specs.Results.{HasResult}
use Rattle.gt_paths.proofs.Lists.{none_more, none_seen, one_holds}
use Rattle.gt_paths.proofs.inner.has_outer_length.Goals as goal

pub loop-f-preserved : goal.loop-f-preserved
loop-f-preserved c =
    none_more (HasResult (λ (g : Field). count_of g.ty) NamesOuter) c.args.fields.now c.loop-f.f-index c.f-item.result c.is_outer_length.result c.loop-f-test.true c.f-item.is c.loop-f.invariant c.is_outer_length.ensures
    c.if-is_outer_length.false

pub returns-then-is_outer_length : goal.returns-then-is_outer_length
returns-then-is_outer_length c =
    one_holds (HasResult (λ (g : Field). count_of g.ty) NamesOuter) c.args.fields.now c.loop-f.f-index c.f-item.result c.is_outer_length.result c.loop-f-test.true c.f-item.is c.is_outer_length.ensures c.if-is_outer_length.true

pub returns : goal.returns
returns c = none_seen (HasResult (λ (g : Field). count_of g.ty) NamesOuter) c.args.fields.now c.loop-f.f-index c.loop-f-test.false c.loop-f.invariant
