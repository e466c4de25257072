use Rattle.std.proofs.Common.{arith, subst}
use Rattle.gt_types.specs.declared.program.Field.{Field}
use Rattle.gt_types.specs.Shapes.{count_of}
use Rattle.gt_leaf.specs.Seeking.{Gains, PathsOfSome}
use Rattle.gt_sets.specs.Sets.{IsIn}
use Rattle.gt_starts.specs.Paths.{BeginsIn}
use Rattle.gt_leaf.proofs.Gaining.{item-at, before-none, before-next, before-each}
use Rattle.gt_leaf.proofs.seeking.add_counts.Goals as goal

pub loop-f-init : goal.loop-f-init
loop-f-init c = before-none (λ i (f : Field). PathsOfSome c.args.base (IsIn c.args.begins.now.value) (count_of f.ty)) c.args.fields.now (BeginsIn c.args.paths.now)

pub loop-f-preserved : goal.loop-f-preserved
loop-f-preserved c =
    before-next (λ i (f : Field). PathsOfSome c.args.base (IsIn c.args.begins.now.value) (count_of f.ty)) c.args.fields.now (BeginsIn c.args.paths.now) (BeginsIn c.loop-f.paths) (BeginsIn c.add_option.new.paths) c.loop-f.f-index c.f-item.result
    (item-at c.args.fields.now c.loop-f.f-index c.f-item.result c.loop-f-test.true c.f-item.is) c.loop-f.invariant
    (subst (λ o. Gains (BeginsIn c.loop-f.paths) (BeginsIn c.add_option.new.paths) (PathsOfSome c.args.base (IsIn c.args.begins.now.value) o)) c.count_of.ensures c.in_ok-add_option.ensures.added)

pub returns : goal.returns
returns c = record {
  added = before-each (λ (f : Field). PathsOfSome c.args.base (IsIn c.args.begins.now.value) (count_of f.ty)) c.args.fields.now (BeginsIn c.args.paths.now) (BeginsIn c.loop-f.paths) c.loop-f.f-index (omega (arith, c.loop-f-test.false)) c.loop-f.invariant;
}
