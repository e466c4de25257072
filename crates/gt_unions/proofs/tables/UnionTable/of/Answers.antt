use Rattle.std.proofs.Common.{◌≤◌, List, length, sym, subst}
use Rattle.gt_types.specs.declared.limits.TheConstants.{MAX_FIELDS}
use Rattle.gt_types.specs.declared.program.Field.{Field}
use Rattle.gt_unions.proofs.TableLemmas.{same-table}
use Rattle.gt_unions.proofs.tables.UnionTable.of.Goals as goal

pub of-requires : goal.of-requires
of-requires c = record {
  few = subst (λ (fs : List Field). length fs ≤ MAX_FIELDS) (sym c.as_slice-fields.ensures.items) (c.requires.settled.structures c.requires.there.0 c.args.structure.now c.requires.there.1).few_fields;
}

pub default_of-requires : goal.default_of-requires
default_of-requires c = record {
  few = subst (λ (fs : List Field). length fs ≤ MAX_FIELDS) (sym c.as_slice-fields.ensures.items) (c.requires.settled.structures c.requires.there.0 c.args.structure.now c.requires.there.1).few_fields;
}

pub place_of-requires : goal.place_of-requires
place_of-requires c = record {
  few = subst (λ (fs : List Field). length fs ≤ MAX_FIELDS) (sym c.as_slice-fields.ensures.items) (c.requires.settled.structures c.requires.there.0 c.args.structure.now c.requires.there.1).few_fields;
}

pub returns : goal.returns
returns c = record {
  known = c.common_of-common.ensures.known;
  made = same-table c.args.program.now c.requires.there.0 c.args.structure.now c.as_slice-fields.result.now c.in_ok-tags.tags c.default_of.result c.common_of-common.result c.place_of.result c.requires.settled
      c.requires.there.1 c.as_slice-fields.ensures.items c.in_ok-tags.ensures.made c.default_of.ensures c.common_of-common.ensures.common c.place_of.ensures;
}
