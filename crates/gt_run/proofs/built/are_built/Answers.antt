use Rattle.std.proofs.Common.{subst}
use Rattle.std.specs.Prelude.{All}
use Rattle.std.proofs.lemmas.List.{take_all}
use Rattle.std.proofs.lemmas.List.Elements.{All-more}
use Rattle.gt_script.specs.declared.command.Line.{Line}
use Rattle.gt_next.specs.Laws.{IsBuilt}
use Rattle.gt_run.proofs.built.are_built.Goals as goal

pub loop-line-preserved : goal.loop-line-preserved
loop-line-preserved c =
    All-more (λ (line : Line). IsBuilt line.command) c.args.lines.now c.loop-line.line-index c.line-item.result c.loop-line-test.true c.loop-line.invariant
    (subst (λ (line : Line). IsBuilt line.command) c.line-item.is (c.is_built.ensures.built.0 c.if-not-is_built.false))

pub returns : goal.returns
returns c = subst (λ lines. All (λ (line : Line). IsBuilt line.command) lines) (take_all c.loop-line.line-index c.args.lines.now c.loop-line-test.false) c.loop-line.invariant
