use Rattle.std.proofs.lemmas.Bool.Decides.{not_from_Decides}
use Rattle.gt_kinds.proofs.TypeKinds.{structures-meant, pointers-meant, node-may-not-stand}
use Rattle.gt_kinds.proofs.index.ProgramNames.kind_of_node.Goals as goal

pub returns-then-not-may_stand : goal.returns-then-not-may_stand
returns-then-not-may_stand c = record {
  kind = node-may-not-stand c.requires.other c.args.node c.requires.means (λ may. let yes = c.may_stand.ensures.decides.1 may in absurd (cc));
}

pub returns-then-ty : goal.returns-then-ty
returns-then-ty c = record { kind = pointers-meant c.requires.other c.args.node c.requires.means c.if-ty.true (c.may_stand.ensures.decides.0 (let plain = c.if-not-may_stand.false in cc)) }

pub returns-else-ty : goal.returns-else-ty
returns-else-ty c = record { kind = structures-meant c.requires.other c.args.node c.requires.means c.if-ty.false (c.may_stand.ensures.decides.0 (let plain = c.if-not-may_stand.false in cc)) }
