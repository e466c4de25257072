use Rattle.std.proofs.Common.{List, subst, ◌∙◌}
use Rattle.std.proofs.lemmas.List.{take_all}
use Rattle.gt_types.specs.declared.program.Field.{Field}
use Rattle.gt_unions.proofs.Candidates.{SoFar, so_far_more, only_one}
use Rattle.gt_unions.proofs.commons.candidate.Goals as goal

pub loop-f-preserved : goal.loop-f-preserved
loop-f-preserved c = (
  so_far_more c.args.program.now c.args.structure.now c.as_slice-f-items.result.now c.loop-f.f-index c.f-item.result c.loop-f.found c.earlier-found.result c.loop-f.invariant.1 c.loop-f-test.true c.f-item.is
      c.earlier-found.ensures.member c.earlier-found.ensures.found c.loop-f.invariant.0,
  c.loop-f.invariant.1,
)

pub returns-clause-only : goal.returns-clause-only
returns-clause-only c =
    only_one c.args.program.now c.args.structure.now c.loop-f.found c.requires.settled c.requires.there
    (subst (λ (xs : List Field). SoFar c.args.program.now c.args.structure.now xs c.loop-f.found) (take_all c.loop-f.f-index c.as_slice-f-items.result.now c.loop-f-test.false ∙ c.loop-f.invariant.1) c.loop-f.invariant.0)
