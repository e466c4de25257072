use Rattle.std.proofs.Common.{refl}
use Rattle.gt_kinds.proofs.TypeKinds.{pointed-twice, pointers-by-word, no-pointers-by-word}
use Rattle.gt_kinds.proofs.index.ProgramNames.kind_of_pointer.Goals as goal

pub returns-then-ty : goal.returns-then-ty
returns-then-ty c = record { kind = pointed-twice c.requires.other c.args.node c.requires.means c.if-ty.true }

pub returns-then-may_stand : goal.returns-then-may_stand
returns-then-may_stand c = record { kind = pointers-by-word c.requires.other c.args.node c.requires.means c.if-ty.false (c.if-may_stand.ensures.decides.0 refl) }

pub returns-else-may_stand : goal.returns-else-may_stand
returns-else-may_stand c = record {
  kind = no-pointers-by-word c.requires.other c.args.node c.requires.means c.if-ty.false (λ may. let yes = c.if-may_stand.ensures.decides.1 may in let no = c.if-may_stand.false in absurd (cc));
}
