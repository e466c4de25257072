use Rattle.gt_front.proofs.stages.halt_script.Goals as goal

pub returns-clause-halted : goal.returns-clause-halted
returns-clause-halted c = λ words told texts comes called. c.halt.ensures.halted words told texts comes (c.script_line.ensures.line words called)
