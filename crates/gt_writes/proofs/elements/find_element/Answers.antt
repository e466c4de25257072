use Rattle.std.proofs.Common.{◌≡◌, Some, ap}
use Rattle.gt_writes.proofs.elements.find_element.Goals as goal

pub returns-in-Some : goal.returns-in-Some
returns-in-Some c = record {
  element = λ heap is. c.requires.found c.in-Some.there c.in-Some.is heap is;
  same = λ f e. let is = c.in-Some.is in let one : c.in-Some.there ≡ f = cc in ap (λ x. Some x.element) one;
}
