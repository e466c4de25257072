use Rattle.heap_table.proofs.grounds.declared.Goals as goal

pub returns-in-Ok : goal.returns-in-Ok
returns-in-Ok c = record { settled = c.declared_programs_are_settled.ensures.settled _ _ c.in-Ok.ensures.declared; laid = c.in-Ok.ensures.laid_out; within = c.in-Ok.ensures.within }
