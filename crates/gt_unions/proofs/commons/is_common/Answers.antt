use Rattle.std.proofs.Common.{List, subst}
use Rattle.std.specs.Prelude.{All, IsTrue}
use Rattle.gt_types.specs.Unions.{may_be_active, BeginsWith}
use Rattle.gt_types.specs.declared.program.Field.{Field}
use Rattle.gt_unions.proofs.Candidates.{is_common}
use Rattle.gt_unions.proofs.commons.is_common.Goals as goal

pub returns : goal.returns
returns c = record {
  known = c.is_plain.ensures.known;
  common =
      is_common c.args.program.now c.args.structure.now c.args.common c.is_plain.result c.requires.union c.requires.member
      (subst (λ (xs : List Field). All (λ (f : Field). IsTrue (may_be_active f.active) → BeginsWith c.args.program.now f.ty c.args.common) xs) c.as_slice.ensures.items (c.are_begun.ensures.0 c.if-not-are_begun.false))
      c.is_plain.ensures.plain;
}
