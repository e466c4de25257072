use Rattle.std.proofs.Common.{◌∙◌, ap, []}
use Rattle.gt_markers.specs.Lookups.{constants_from, roots_from}
use Rattle.gt_markers.proofs.LookupLemmas.{constants_are, roots_are}
use Rattle.gt_markers.proofs.lookups.Lookup.of.Goals as goal

pub returns : goal.returns
returns c =
    record {
      lookup =
          record {
            constants = λ word. constants_are c.in_ok-constants.field-0 c.args.draft.now.constants word (c.in_ok-constants.ensures.made ∙ ap (constants_from []) c.as_slice.ensures.items);
            roots = λ word. roots_are c.in_ok-roots.field-0 c.args.draft.now.roots word (c.in_ok-roots.ensures.made ∙ ap (roots_from [] 0) c.as_slice-2.ensures.items);
          };
    }
