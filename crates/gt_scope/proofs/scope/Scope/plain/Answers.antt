use Rattle.gt_scope.proofs.ScopeLemmas.{plain_scope}
use Rattle.gt_scope.proofs.scope.Scope.plain.Goals as goal

pub returns : goal.returns
returns c =
    record {
      plain =
          plain_scope c.args.self.now.declarations.items c.args.self.now.tags c.args.ty.now c.in_ok-plain.field-0 c.args.stars c.args.self.now.tagged
          c.in_ok-plain.ensures.plain;
    }
