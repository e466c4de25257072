use Rattle.std.proofs.Common.{◌∙◌, arith}
use Rattle.gt_layout.proofs.Growing.{found-below, growths-of}
use Rattle.gt_layout.proofs.growths.growths_of.Goals as goal

pub loop-place-preserved : goal.loop-place-preserved
loop-place-preserved c = record {
  all = c.in_ok-find_growth.ensures.keeps.all ∙ c.loop-place.invariant.all;
  right = c.in_ok-find_growth.ensures.right;
  found = λ other less. found-below c.loop-place.known.items c.find_growth.new.known.items c.loop-place.place other c.in_ok-find_growth.ensures.keeps c.loop-place.invariant.found c.in_ok-find_growth.ensures.found less;
}

pub returns : goal.returns
returns c = record {
  made =
      growths-of c.args.program.now c.args.planes.now c.loop-place.known.items c.loop-place.place c.all_found.result c.loop-place.invariant.all c.loop-place.invariant.right c.loop-place.invariant.found
      (omega (arith, c.loop-place-test.false, c.len-place-end.ensures.items)) c.all_found.ensures;
}
