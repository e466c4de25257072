use Rattle.gt_elements.proofs.InPlace.{in_heap}
use Rattle.gt_elements.proofs.laws.leaves_in_place_are_in_the_heap.Goals as goal

pub returns : goal.returns
returns c program layouts settled laid within objects heap address place o e rest leaf new space is found plain here written =
    in_heap program layouts settled laid within objects heap is space address o found plain place e here rest leaf new written
