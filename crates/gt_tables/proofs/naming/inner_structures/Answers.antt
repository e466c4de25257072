use Rattle.std.proofs.Common.{arith, ap}
use Rattle.std.proofs.Common.{length}
use Rattle.gt_types.specs.Paths.{IsInner}
use Rattle.gt_tables.proofs.Flags.{tells-more, tells-all, item-is, told-inner}
use Rattle.gt_tables.proofs.naming.inner_structures.Goals as goal

-- one more structure is told of
pub loop-structure-preserved : goal.loop-structure-preserved
loop-structure-preserved c =
    let program = c.args.program.now in
    let items = c.as_slice-structure-items.result.now in
    tells-more program (IsInner program) c.loop-structure.inner.items c.push.new.self.items c.loop-structure.structure-index c.own_names.result c.loop-structure.invariant c.in_ok-push.ensures.items (λ node s at has.
    told-inner program c.structure-item.result s node c.own_names.result c.own_names.ensures
    (item-is program items c.loop-structure.structure-index c.structure-item.result s node c.as_slice-structure-items.ensures.items c.loop-structure-test.true c.structure-item.is at has) has)

-- and in the end of all
pub returns : goal.returns
returns c = record { inner = tells-all c.args.program.now (IsInner c.args.program.now) c.loop-structure.inner.items c.loop-structure.structure-index (omega (arith, ap length c.as_slice-structure-items.ensures.items)) c.loop-structure.invariant }
