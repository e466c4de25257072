use Rattle.std.proofs.Common.{◌∙◌, List, sym, subst}
use Rattle.gt_types.specs.declared.program.Structure.{Structure}
use Rattle.gt_fields.specs.declared.field_names.FieldNames.{FieldNames}
use Rattle.gt_fields.specs.FieldNames.{AreNamesOf}
use Rattle.gt_rules.proofs.PartLemmas.{no_path, one_path}
use Rattle.gt_rules.proofs.chains.leads_back.Goals as goal

pub returns-in-None : goal.returns-in-None
returns-in-None c = record {
  decides =
      no_path c.args.known.program.now c.args.structure c.args.parameter.now c.as_slice-structures.result.now c.as_slice-structures.ensures.items
      (sym c.in_ok-path_places.ensures.places ∙ c.in-None.is);
}

pub returns-in-Some : goal.returns-in-Some
returns-in-Some c = record {
  decides =
      one_path c.args.known.program.now c.args.structure c.args.parameter.now c.as_slice-structures.result.now c.in-Some.path c.as_slice-places.result.now c.leads_to_own_pointer.result
      c.as_slice-structures.ensures.items (sym c.in_ok-path_places.ensures.places ∙ c.in-Some.is) (cc) c.leads_to_own_pointer.ensures.decides;
}

pub path_places-requires : goal.path_places-requires
path_places-requires c = record {
  names =
      subst (λ (ss : List Structure). AreNamesOf ss c.names.result.now) (sym c.as_slice-structures.ensures.items)
      (subst (λ (names : FieldNames). AreNamesOf c.args.known.program.now.structures names) (sym c.names.ensures.names) c.requires.index.on.names);
}
