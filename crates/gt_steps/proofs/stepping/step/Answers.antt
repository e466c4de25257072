use Rattle.gt_next.specs.Next.{Next}
use Rattle.gt_steps.proofs.Stepped.{of_files, stays}
use Rattle.gt_steps.proofs.stepping.step.Goals as goal

pub returns-clause-next : goal.returns-clause-next
returns-clause-next g c =
    of_files (λ state answer t. Next c.args.s.now.schema.program c.args.s.now.schema.layouts state c.args.line.now.command answer t) c.args.s.now c.answer.new.s
    (g.F.Files.told c.args.files.now) c.answer.result c.answer.ensures.next

pub returns-clause-session : goal.returns-clause-session
returns-clause-session g c =
    stays (λ state answer t. Next c.args.s.now.schema.program c.args.s.now.schema.layouts state c.args.line.now.command answer t) c.args.s.now c.answer.new.s
    c.answer.result c.answer.ensures.next c.answer.ensures.unchanged c.requires.session
