use Rattle.gt_making.proofs.Binds.{ends-full, ends-made, ends-memory}
use Rattle.gt_making.proofs.binding.conclude.Goals as goal

pub returns-in-Ok : goal.returns-in-Ok
returns-in-Ok c = record { ends = ends-made c.args.s.now c.args.var.now c.args.before c.args.made c.rebind.new.self c.in-Ok.made c.in-Ok.is c.rebind.ensures.bound }

pub returns-in-Err-Full : goal.returns-in-Err-Full
returns-in-Err-Full c = record {
  ends = ends-full c.args.s.now c.args.var.now c.args.before c.args.made c.take_back.new.self c.in-Err-Full.field-0 c.in-Err-Full.need c.in-Err-Full.is
      (rw c.in-Err-Full.is at c.in-Err-Full.field-0-is) c.take_back.ensures.as_before;
}

pub returns-in-Err-Memory : goal.returns-in-Err-Memory
returns-in-Err-Memory c = record {
  ends = ends-memory c.args.s.now c.args.var.now c.args.before c.args.made c.take_back-in-Err-Memory.new.self c.in-Err-Memory.field-0 _ c.in-Err-Memory.is
      (rw c.in-Err-Memory.is at c.in-Err-Memory.field-0-is) c.take_back-in-Err-Memory.ensures.as_before;
}
