use Rattle.full_cache.proofs.schema_of.Goals as goal

pub of-requires-in-Ok-declare-clause-settled : goal.of-requires-in-Ok-declare-clause-settled
of-requires-in-Ok-declare-clause-settled c = c.declared_programs_are_settled.ensures.settled _ _ c.in-Ok-declare.ensures.declared
