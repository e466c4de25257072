use Rattle.std.proofs.Common.{◌∙◌, ◌||◌, Bool, List, ap}
use Rattle.std.specs.Prelude.{nat_le}
use Rattle.gt_drafts.specs.Shapes.{has_flag}
use Rattle.gt_types.specs.declared.limits.TheConstants.{MAX_STRUCTURES}
use Rattle.gt_resolve.proofs.Firsts.{first_from_if, first_from_structure}
use Rattle.gt_resolve.proofs.first_fault.of_structure.Goals as goal

pub returns : goal.returns
returns c =
    let shapes = c.args.shapes.now in
    let place = c.args.place in
    let cyclic = c.flag_at-cyclic.ensures.same ∙ ap (λ (flags : List Bool). has_flag flags place) c.deref.ensures.value in
    let deep = c.is_one_too_many-many.ensures.same ∙ ap (λ (flags : List Bool). has_flag flags place || nat_le MAX_STRUCTURES place) c.deref-2.ensures.value in
    record {
      earliest =
          first_from_structure shapes.cyclic.items shapes.deep.items shapes.tails.items c.deref-3.result.now place c.args.s.now c.as_slice-fields.result.now
          c.args.earliest c.with_fault-earliest.result c.with_fault-earliest-2.result c.of_fields.result
          (first_from_if _ _ _ _ _ _ _ c.with_fault-earliest.ensures.same cyclic) (first_from_if _ _ _ _ _ _ _ c.with_fault-earliest-2.ensures.same deep)
          c.deref-3.ensures.value c.as_slice-fields.ensures.items c.of_fields.ensures.earliest;
    }
