use Rattle.std.proofs.Common.{◌≡◌, Some, None, sym, subst}
use Rattle.std.proofs.lemmas.Bool.Decides.{not_from_Decides}
use Rattle.gt_types.specs.declared.types.TypeId.{TypeId}
use Rattle.gt_types.specs.Unions.{IsCommon}
use Rattle.gt_unions.proofs.Structures.{some_is}
use Rattle.gt_unions.proofs.commons.common_of.Goals as goal

pub returns-else-is_common : goal.returns-else-is_common
returns-else-is_common c = record {
  known = c.is_common.ensures.known;
  common = λ common is.
      not_from_Decides c.is_common.result c.is_common.ensures.common c.if-is_common.false
      (subst (λ (n : TypeId). IsCommon c.args.program.now c.args.structure.now n) (sym (some_is c.in-Some.common common (c.in-Some.ensures.only common is))) is);
}

pub returns-in_default : goal.returns-in_default
returns-in_default c = record { known = c.requires.known; common = λ common is. let never : None ≡ Some common = c.in_default.ensures.only common is in cc }
