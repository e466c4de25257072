use Rattle.sample_heap.proofs.Found.{rounded_in_list}
use Rattle.sample_heap.proofs.heap.size_for.Goals as goal

pub returns : goal.returns
returns c = rounded_in_list c.args.bytes c.rounded_size.result c.rounded_size.ensures.least
