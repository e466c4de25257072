use Rattle.gt_schema.proofs.schema.Named.of.Goals as goal

pub returns : goal.returns
returns c = record { types = c.in_ok-types.ensures.types; tails = c.in_ok-tails.ensures.types; names = c.in_ok-names.ensures.names }
