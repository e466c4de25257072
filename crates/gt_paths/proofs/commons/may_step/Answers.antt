use Rattle.std.proofs.Common.{Bool, sym, subst}
use Rattle.std.specs.Bool.{Decides}
use Rattle.gt_unions.specs.Beginnings.{IsPlain}
use Rattle.gt_paths.proofs.Meetings.{no_step, plain_fails, plain_holds}
use Rattle.gt_paths.proofs.commons.may_step.Goals as goal

pub returns-in-None : goal.returns-in-None
returns-in-None c = record { decides = no_step c.args.program.now c.args.s.now c.args.f.now c.requires.kind (sym c.in-None.ensures.itself) }

pub returns-then-not-is_marked : goal.returns-then-not-is_marked
returns-then-not-is_marked c = record {
  decides = plain_fails c.args.program.now c.args.s.now c.args.f.now c.in-Some.node c.is_marked.result c.requires.kind (sym c.in-Some.ensures.itself)
      (subst (λ (b : Bool). Decides b (IsPlain c.args.program.now c.in-Some.node)) (sym c.is_marked.ensures) (c.requires.plain c.in-Some.node)) c.if-not-is_marked.true;
}

pub returns-else-not-is_marked : goal.returns-else-not-is_marked
returns-else-not-is_marked c = record {
  decides = plain_holds c.args.program.now c.args.s.now c.args.f.now c.in-Some.node c.args.start c.is_marked.result c.starts_with.result c.requires.kind c.requires.there (sym c.in-Some.ensures.itself)
      c.requires.start (subst (λ (b : Bool). Decides b (IsPlain c.args.program.now c.in-Some.node)) (sym c.is_marked.ensures) (c.requires.plain c.in-Some.node)) c.if-not-is_marked.false
      c.starts_with.ensures;
}
