use Rattle.std.proofs.Common.{◌∙◌}
use Rattle.std.specs.Prelude.{codes}
use Rattle.gt_markers.proofs.WalkingLemmas.{named_there}
use Rattle.gt_markers.proofs.walking.pointer_options.Goals as goal

pub returns : goal.returns
returns c =
    record {
      options = λ names.
          record {
            counted = c.has_option.ensures.there ∙ named_there names (codes "length") c.args.options.now;
            atomic = c.has_option-2.ensures.there;
            maybe_undef = c.has_option-3.ensures.there;
          };
    }
