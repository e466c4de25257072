use Rattle.std.proofs.Common.{ap, ◌∙◌, rules}
use Rattle.std.proofs.lemmas.Int.{to_z-of_z}
use Rattle.std.proofs.lemmas.Result.{IfOk-weaker}
use mir.Syntax.{w128}
use Rattle.gt_tree.specs.Leaves.{Number, leaf}
use Rattle.stand_table.proofs.LeafRules.{number-rule, bits-rule}
use Rattle.stand_table.proofs.walking.number_leaf.Goals as goal

pub returns-in-Num : goal.returns-in-Num
returns-in-Num c =
    IfOk-weaker c.one_leaf.result _ _
    (λ leaves is. number-rule c.args.on.now c.args.at c.args.ty.now leaves.items c.in-Num.scalar c.args.n c.number.result c.in-Num.is
    (c.number.ensures ∙ ap (λ n. leaf c.args.at c.bit_count-width.result (Number n)) (to_z-of_z w128 c.args.n (search rules)) ∙ ap (λ width. leaf c.args.at width (Number c.args.n)) c.bit_count-width.ensures) is)
    c.one_leaf.ensures

pub returns-in-Bits : goal.returns-in-Bits
returns-in-Bits c =
    IfOk-weaker c.one_leaf-in-Bits.result _ _
    (λ leaves is. bits-rule c.args.on.now c.args.at c.args.ty.now leaves.items c.in-Bits.unit c.in-Bits.count c.args.n c.number-in-Bits.result c.in-Bits.is
    (c.number-in-Bits.ensures ∙ ap (λ n. leaf c.args.at c.in-Bits.count (Number n)) (to_z-of_z w128 c.args.n (search rules))) is)
    c.one_leaf-in-Bits.ensures
