use Rattle.std.proofs.Common.{◌∙◌, ap}
use Rattle.gt_layout.specs.Storages.{extent_of, held_extent}
use Rattle.gt_tables.proofs.TypeSizes.{type-small, held-small}
use Rattle.gt_tables.proofs.sizes.size_of.Goals as goal

pub returns : goal.returns
returns c = record {
  size = λ program settled laid within is.
      let layouts = c.args.layouts.now in
      let type = c.args.ty.now in
      ap (λ e. e.size) (c.extent.ensures ∙ ap (λ planes. held_extent (extent_of planes type)) c.as_slice.ensures.items)
      ∙ held-small (extent_of layouts.structures type) (type-small program layouts settled laid within is);
}
