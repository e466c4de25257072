use Rattle.std.proofs.Common.{◌*◌}
use Rattle.gt_layout.specs.Storages.{extent_of}
use Rattle.gt_tree.specs.Fits.{types_of}
use Rattle.gt_store.proofs.Loops.{FieldsLoop, EachLoop}
use Rattle.gt_store.proofs.stores.+stores.Given as goal

abbrev pub invariant-store_fields-loop-i : goal.invariant-store_fields-loop-i
invariant-store_fields-loop-i l = FieldsLoop l.program l.layouts.structures l.at (types_of l.fields) l.spots l.values l.i l.initial.space l.space

abbrev pub invariant-store_elements-loop-value : goal.invariant-store_elements-loop-value
invariant-store_elements-loop-value l =
    EachLoop l.program l.layouts.structures (8 * (extent_of l.layouts.structures l.elem).size) l.at l.elem l.values l.value-index l.begin l.initial.space l.space
