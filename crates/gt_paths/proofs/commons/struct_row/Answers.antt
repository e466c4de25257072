use Rattle.std.proofs.Common.{List, sym, subst}
use Rattle.std.specs.Prelude.{Contains}
use Rattle.std.specs.Bool.{Decides}
use Rattle.gt_types.specs.declared.program.Field.{Field}
use Rattle.gt_types.specs.Paths.{MayStep}
use Rattle.gt_paths.proofs.Marking.{zip_pushed, zip_same}
use Rattle.gt_paths.proofs.commons.struct_row.Goals as goal

pub is_free-requires-clause-there : goal.is_free-requires-clause-there
is_free-requires-clause-there c = subst (λ (xs : List Field). Contains xs c.f-item.result) c.as_slice-f-items.ensures.items (c.loop-f.f-index, c.loop-f-test.true, sym c.f-item.is)

pub loop-f-preserved : goal.loop-f-preserved
loop-f-preserved c =
    zip_pushed (λ (f : Field) b. Decides b (MayStep c.args.program.now c.args.s.now f)) c.as_slice-f-items.result.now c.loop-f.f-index c.f-item.result c.loop-f.row.items c.push.new.self.items
    c.is_free.result c.loop-f-test.true c.f-item.is c.in_ok-push.ensures.items c.loop-f.invariant c.is_free.ensures.decides

pub returns : goal.returns
returns c = record {
  row = zip_same (λ (f : Field) b. Decides b (MayStep c.args.program.now c.args.s.now f)) c.as_slice-f-items.result.now c.args.s.now.fields c.loop-f.f-index c.loop-f.row.items c.of.result c.loop-f-test.false
      c.as_slice-f-items.ensures.items c.of.ensures.items c.loop-f.invariant;
}
