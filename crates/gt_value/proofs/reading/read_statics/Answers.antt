use Rattle.std.proofs.Common.{◌∙◌, ◌-◌, ap, sym, subst, map}
use Rattle.gt_types.specs.declared.program.Root.{Root}
use Rattle.gt_tree.specs.Trees.{Rec}
use Rattle.gt_value.specs.Reading.{FieldsStand}
use Rattle.gt_value.proofs.TreesOf.{tree-rec}
use Rattle.gt_value.proofs.StandingStarts.{statics-start, roots-shallow, roots-flat}
use Rattle.gt_value.proofs.reading.read_statics.Goals as goal

pub read_roots-requires-clause-stand : goal.read_roots-requires-clause-stand
read_roots-requires-clause-stand c =
    let values = c.requires.stand.0 in
    let from = c.new-source.ensures.place ∙ ap (λ n. n - c.args.space.now.start) c.start.ensures.start in
    let stand = statics-start c.new-source.result c.args.program.now c.args.layouts.now c.args.space.now c.new-source.ensures.program c.new-source.ensures.layouts c.new-source.ensures.space c.requires.settled c.requires.laid c.new-source.ensures.small values c.as_slice.result.now c.as_slice-2.result.now c.as_slice.ensures.items c.as_slice-2.ensures.items from c.requires.inside c.requires.stand.1 in
    (values, subst (λ x. FieldsStand c.new-source.result x (map (λ (r : Root). r.ty) c.as_slice.result.now) c.as_slice-2.result.now 0 values) (sym c.outside.ensures) stand)

pub read_roots-requires-clause-shallow : goal.read_roots-requires-clause-shallow
read_roots-requires-clause-shallow c = roots-shallow c.new-source.result c.args.program.now c.args.layouts.now c.args.space.now c.new-source.ensures.program c.new-source.ensures.layouts c.new-source.ensures.space c.requires.settled c.requires.laid c.new-source.ensures.small c.as_slice.result.now c.as_slice.ensures.items

pub read_roots-requires-clause-flat : goal.read_roots-requires-clause-flat
read_roots-requires-clause-flat c = roots-flat c.new-source.result c.args.program.now c.args.layouts.now c.args.space.now c.new-source.ensures.program c.new-source.ensures.layouts c.new-source.ensures.space c.requires.settled c.requires.laid c.new-source.ensures.small c.as_slice.result.now c.as_slice.ensures.items

pub returns : goal.returns
returns c = record {
  value = λ values s.
      let from = c.new-source.ensures.place ∙ ap (λ n. n - c.args.space.now.start) c.start.ensures.start in
      let stand = statics-start c.new-source.result c.args.program.now c.args.layouts.now c.args.space.now c.new-source.ensures.program c.new-source.ensures.layouts c.new-source.ensures.space c.requires.settled c.requires.laid c.new-source.ensures.small values c.as_slice.result.now c.as_slice-2.result.now c.as_slice.ensures.items c.as_slice-2.ensures.items from c.requires.inside s in
      tree-rec c.in_ok-parts.parts
      ∙ ap Rec (c.in_ok-parts.ensures values (subst (λ x. FieldsStand c.new-source.result x (map (λ (r : Root). r.ty) c.as_slice.result.now) c.as_slice-2.result.now 0 values) (sym c.outside.ensures) stand));
}
