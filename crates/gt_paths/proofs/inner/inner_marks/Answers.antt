use Rattle.std.specs.Prelude.{Any}
use Rattle.std.specs.Bool.{Decides}
use Rattle.gt_types.specs.declared.program.Structure.{Structure}
use Rattle.gt_types.specs.Paths.{NamesOuter, own_expressions}
use Rattle.gt_paths.proofs.Marking.{marks_are, zip_pushed, zip_same}
use Rattle.gt_paths.proofs.inner.inner_marks.Goals as goal

pub loop-s-preserved : goal.loop-s-preserved
loop-s-preserved c =
    zip_pushed (λ (s : Structure) b. Decides b (Any NamesOuter (own_expressions s))) c.as_slice-s-items.result.now c.loop-s.s-index c.s-item.result c.loop-s.marks.items c.push.new.self.items
    c.names_container.result c.loop-s-test.true c.s-item.is c.in_ok-push.ensures.items c.loop-s.invariant c.names_container.ensures

pub returns : goal.returns
returns c = record {
  inner = λ node.
      marks_are (λ (s : Structure). Any NamesOuter (own_expressions s)) c.args.program.now.structures c.of.result
      (zip_same (λ (s : Structure) b. Decides b (Any NamesOuter (own_expressions s))) c.as_slice-s-items.result.now c.args.program.now.structures c.loop-s.s-index c.loop-s.marks.items c.of.result
      c.loop-s-test.false c.as_slice-s-items.ensures.items c.of.ensures.items c.loop-s.invariant) node.0;
}
