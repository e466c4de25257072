use Rattle.std.proofs.Common.{◌≡◌, ◌∙◌, ℤ, Option, ap}
use Rattle.std.specs.Prelude.{◌&&◌, codes}
use Rattle.std.specs.List.{list_any}
use Rattle.gt_markers.specs.MarkerFaults.{has_tag, is_default, tag_value}
use Rattle.gt_markers.specs.Options.{option_named}
use Rattle.gt_markers.proofs.Firsts.{first_from_both}
use Rattle.gt_markers.proofs.MemberLemmas.{first_from_repeated, not_repeated, repeated_in}
use Rattle.gt_markers.proofs.structure_faults.of_repeats.Goals as goal
use Rattle.gt_markers.proofs.structure_faults.of_repeats.Goals.{then-structure, else-structure, then-structure-2, else-structure-2}

pub returns-clause-earliest : goal.returns-clause-earliest
returns-clause-earliest c =
    λ draft fields lookup are.
    let in_union = c.args.structure.now.is_union in
    let file = c.args.structure.now.file in
    let options = c.args.options.now in
    let tagged : c.in_ok-tag.tag ≡ tag_value draft options = c.in_ok-tag.ensures.value draft lookup in
    let same = list_any (has_tag draft (tag_value draft options)) fields in
    let twice = list_any is_default fields in
    let of_tag : c.if-structure.same_tag ≡ (in_union && same) =
    elim c.if-structure.branch [
      | then-structure w ↦
          repeated_in in_union w.hold_tag-same_tag.result same c.if-structure.same_tag w.if-structure.true
          (w.hold_tag-same_tag.ensures.held ∙ are.tags c.in_ok-tag.tag ∙ ap (λ (t : Option ℤ). list_any (has_tag draft t) fields) tagged) w.same_tag-is
      | else-structure w ↦ not_repeated in_union same c.if-structure.same_tag w.if-structure.false (w.same_tag-is ∙ w.if-structure.false)
    ] in
    let of_default : c.if-structure-2.default_twice ≡ (in_union && twice) =
    elim c.if-structure-2.branch [
      | then-structure-2 w ↦
          repeated_in in_union w.hold_default-default_twice.result twice c.if-structure-2.default_twice w.if-structure-2.true
          (w.hold_default-default_twice.ensures.held ∙ are.default) w.default_twice-is
      | else-structure-2 w ↦ not_repeated in_union twice c.if-structure-2.default_twice w.if-structure-2.false (w.default_twice-is ∙ w.if-structure-2.false)
    ] in
    first_from_both _ _ _ _ _
    (first_from_repeated _ _ _ _ file (option_named (codes "tag") options) c.with_repeated_fault-earliest.ensures.earliest of_tag)
    (first_from_repeated _ _ _ _ file (option_named (codes "default") options) c.with_repeated_fault-earliest-2.ensures.earliest of_default)
