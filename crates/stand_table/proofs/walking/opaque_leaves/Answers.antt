use Rattle.std.proofs.lemmas.Result.{IfOk-weaker}
use Rattle.stand_table.proofs.LeafRules.{opaque-rule}
use Rattle.stand_table.proofs.walking.opaque_leaves.Goals as goal

pub returns-in-Opaque : goal.returns-in-Opaque
returns-in-Opaque c =
    IfOk-weaker c.byte_leaves.result _ _
    (λ leaves is. opaque-rule c.args.on.now c.args.at c.args.ty.now leaves.items c.in-Opaque.size c.in-Opaque.align c.args.bytes.now c.in-Opaque.is is) c.byte_leaves.ensures
