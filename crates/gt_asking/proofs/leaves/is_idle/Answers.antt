use Rattle.std.proofs.Common.{subst}
use Rattle.gt_asking.specs.Judging.{IsLeafTold}
use Rattle.gt_asking.proofs.Judged.{idle-of, idle-none}
use Rattle.gt_asking.proofs.leaves.is_idle.Goals as goal

pub returns-in-Some : goal.returns-in-Some
returns-in-Some c = record {
  idle = λ program layouts objects heap there v.
      let at = c.args.at.now in
      let leaf = subst (IsLeafTold at) c.in-Some.is c.requires.told in
      idle-of program layouts objects heap there at v c.in-Some.place (leaf v.frame v.value v.path v.here.here) c.is_idle_if.result c.is_pointer.result c.ty.result.now c.is_idle_if.ensures c.is_pointer.ensures c.ty.ensures;
}

pub returns-in-None : goal.returns-in-None
returns-in-None c = record {
  idle = λ program layouts objects heap there v.
      let at = c.args.at.now in
      let none = subst (IsLeafTold at) c.in-None.is c.requires.told in
      idle-none program layouts objects heap there at v (none v.frame v.value v.path v.here.here);
}
