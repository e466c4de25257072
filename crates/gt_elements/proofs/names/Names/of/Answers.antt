use Rattle.gt_elements.proofs.SameBlocks.{are_named, same_blocks}
use Rattle.gt_elements.proofs.names.Names.of.Goals as goal

pub invariant_of-result : goal.invariant_of-result
invariant_of-result c = let ready = c.requires.ready in record { named = are_named ready.0 ready.1 ready.3 ready.4 c.args.objects.now ready.2 ready.5 c.sound.ensures.space }

pub returns-clause-blocks : goal.returns-clause-blocks
returns-clause-blocks c = λ program layouts heap settled laid is. same_blocks program layouts settled laid c.args.objects.now heap is c.sound.ensures.space
