use Rattle.std.proofs.Common.{refl}
use Rattle.gt_schema.proofs.schema.Schema.of.Goals as goal

pub returns : goal.returns
returns c = record {
  schema = record {
    settled = c.requires.settled;
    laid = c.requires.laid;
    within = c.requires.within;
    types = c.in_ok-types.ensures.types;
    tails = c.in_ok-types.ensures.tails;
    names = c.in_ok-types.ensures.names;
    fields = c.in_ok-fields.ensures.fields;
    reads = c.in_ok-fields.ensures.reads;
    tables = c.in_ok-fields.ensures.tables;
  };
  program = refl;
  layouts = refl;
}
