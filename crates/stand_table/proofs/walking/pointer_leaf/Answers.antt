use Rattle.std.proofs.Common.{refl, rules}
use Rattle.std.proofs.lemmas.Result.{IfOk-weaker}
use Rattle.stand_table.proofs.LeafRules.{pointer-rule}
use Rattle.stand_table.proofs.walking.pointer_leaf.Goals as goal

pub returns : goal.returns
returns c =
    IfOk-weaker c.one_leaf.result _ _ (λ leaves is. pointer-rule c.args.on.now c.args.at c.args.ty.now leaves.items c.args.address _ (search rules) refl is) c.one_leaf.ensures
