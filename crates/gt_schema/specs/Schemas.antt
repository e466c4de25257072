-- What a schema holds.
use Rattle.gt_types.specs.Settled.{Settled}
use Rattle.gt_layout.specs.Planes.{IsLaidOut}
use Rattle.gt_layout.specs.Excess.{IsWithin}
use Rattle.gt_held.specs.Types.{AreElementTypesOf}
use Rattle.gt_held.specs.Tails.{AreTailTypesOf}
use Rattle.gt_kinds.specs.Names.{AreNamesOf}
use Rattle.gt_fields.specs.FieldNames as fields
use Rattle.gt_leaf.specs.Tables.{IsTableOf}
use Rattle.gt_edges.specs.Tables.{AreTables}
use Rattle.gt_schema.specs.declared.schema.Schema.{Schema}

-- The program is one that headers can declare, the layouts are its own, and the rest was made of it.
pub record IsSchema (schema : Schema) : Type 0 where
  pub settled : Settled schema.program
  pub laid : IsLaidOut schema.program schema.layouts
  pub within : IsWithin schema.program schema.layouts
  pub types : AreElementTypesOf schema.program schema.types
  pub tails : AreTailTypesOf schema.program schema.tails
  pub names : AreNamesOf schema.program schema.names
  pub fields : fields.AreNamesOf schema.program.structures schema.fields
  pub reads : IsTableOf schema.program schema.reads
  pub tables : AreTables schema.program schema.layouts schema.tables
