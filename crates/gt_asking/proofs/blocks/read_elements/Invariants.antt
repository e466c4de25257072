use Rattle.gt_asking.specs.Finding.{AreElements}
use Rattle.gt_asking.proofs.blocks.read_elements.Given as goal

abbrev pub invariant-loop-place : goal.invariant-loop-place
invariant-loop-place l = AreElements l.schema.program l.schema.layouts l.objects l.addr l.place l.values.items
