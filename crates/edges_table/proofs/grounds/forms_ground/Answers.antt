use Rattle.edges_table.proofs.grounds.forms_ground.Goals as goal

pub build-requires-clause-settled : goal.build-requires-clause-settled
build-requires-clause-settled c = c.declared_programs_are_settled.ensures.settled _ _ c.in-Ok.ensures.declared

pub returns : goal.returns
returns c = record {
  ground = record { settled = c.declared_programs_are_settled.ensures.settled _ _ c.in-Ok.ensures.declared; laid = c.in-Ok.ensures.laid_out; within = c.in-Ok.ensures.within };
}
