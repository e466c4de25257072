use Rattle.gt_resolve.proofs.Agreements.{typedefs_agree}
use Rattle.gt_resolve.proofs.redefined.agree.Goals as goal

pub returns-in-Typedef-b : goal.returns-in-Typedef-b
returns-in-Typedef-b c =
    let scope = c.args.scope.now in
    record {
      agree =
          typedefs_agree scope.declarations.items scope.types.items c.args.place c.args.first c.args.a.now c.args.b.now c.in-Typedef.ty c.in-Typedef-b.ty c.in-Typedef.stars c.in-Typedef-b.others
          c.mean_same.result c.in-Typedef.is c.in-Typedef-b.is c.mean_same.ensures.same;
    }
