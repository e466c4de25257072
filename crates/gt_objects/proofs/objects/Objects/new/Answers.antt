use Rattle.gt_objects.proofs.Opening.{opening_is}
use Rattle.gt_objects.proofs.objects.Objects.new.Goals as goal

pub returns : goal.returns
returns c = record {
  opening = λ program statics settled laid zero.
      opening_is program c.args.layouts.now c.args.pages statics (record { space = c.resize_fresh.new.self; pages = c.in_ok-new.field-0; directory = c.in_ok-new-2.field-0 }) settled laid zero
      c.in_ok-resize_fresh.ensures.ok c.in_ok-resize_fresh.ensures.sized c.in_ok-new.ensures.empty c.in_ok-new-2.ensures.empty;
}
