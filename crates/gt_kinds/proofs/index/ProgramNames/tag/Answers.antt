use Rattle.std.proofs.Common.{sym, ◌∙◌, ◌<◌, length, arith}
use Rattle.std.proofs.lemmas.Option.{slice_get_within}
use Rattle.gt_types.specs.declared.program.Structure.{Structure}
use Rattle.gt_kinds.proofs.Naming.{found-name, none-named}
use Rattle.gt_kinds.proofs.index.ProgramNames.tag.Goals as goal

pub overflow_cast-result : goal.overflow_cast-result
overflow_cast-result c =
    let e = sym (c.requires.names.tags c.args.name.now) ∙ sym c.in-Some.ensures.value in
    let found = found-name (λ (s : Structure). s.name) c.args.program.now.structures c.args.name.now c.in-Some.place.now e in
    let within = slice_get_within c.args.program.now.structures c.in-Some.place.now found.0 found.1 in omega (arith, within, c.requires.settled.few_structures)

pub returns-in-None : goal.returns-in-None
returns-in-None c = record {
  tag = λ node s has is.
      none-named (λ (t : Structure). t.name) c.args.program.now.structures c.args.name.now (sym (c.requires.names.tags c.args.name.now) ∙ sym c.in-None.ensures.value) node.0 s has is;
}

pub returns-in-Some : goal.returns-in-Some
returns-in-Some c = record {
  tag =
      found-name (λ (s : Structure). s.name) c.args.program.now.structures c.args.name.now c.in-Some.place.now (sym (c.requires.names.tags c.args.name.now) ∙ sym c.in-Some.ensures.value);
}
