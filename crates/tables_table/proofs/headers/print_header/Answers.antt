use Rattle.tables_table.proofs.headers.print_header.Goals as goal

-- a program that headers declare is settled
pub build-requires-clause-settled : goal.build-requires-clause-settled
build-requires-clause-settled g c = c.declared_programs_are_settled.ensures.settled _ _ c.in-Ok.ensures.declared
