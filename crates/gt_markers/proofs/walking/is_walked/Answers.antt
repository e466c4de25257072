use Rattle.std.proofs.Common.{◌∙◌, sym}
use Rattle.gt_markers.specs.Typing.{says, of_elements}
use Rattle.gt_markers.proofs.WalkingLemmas.{walked_array}
use Rattle.gt_markers.proofs.walking.is_walked.Goals as goal

pub returns-then-is_array : goal.returns-then-is_array
returns-then-is_array c =
    record {
      walked = λ names draft.
          let o = says names c.args.options.now in
          c.is_single_walked.ensures.walked draft (of_elements o) (c.options_of_elements.ensures.options o)
          ∙ sym
          (walked_array draft o c.args.ty.now c.args.ty.now.bits c.args.ty.now.bounds (sym c.is_some.ensures ∙ c.if-is_some.false)
          (sym c.is_array.ensures.array ∙ c.if-is_array.true));
    }
