use Rattle.std.proofs.Math.Facts.{Fits-lt-pow}
use Rattle.gt_links.proofs.Empty.{IsMadeOf-empty}
use Rattle.gt_links.proofs.Calls.{Shows-from_made}
use Rattle.gt_links.proofs.links.Links.new.Goals as goal

pub invariant_of-result : goal.invariant_of-result
invariant_of-result c =
    let made = c.in_ok-new.ensures in
    (Shows-from_made _ _ (IsMadeOf-empty _ c.args.lists c.args.nodes made.lists made.alone (Fits-lt-pow c.ranges.lists) (Fits-lt-pow c.ranges.nodes))).0

pub returns : goal.returns
returns c =
    let made = c.in_ok-new.ensures in
    record { empty = (Shows-from_made _ _ (IsMadeOf-empty c.in_ok-new.field-0 c.args.lists c.args.nodes made.lists made.alone (Fits-lt-pow c.ranges.lists) (Fits-lt-pow c.ranges.nodes))).1 }
