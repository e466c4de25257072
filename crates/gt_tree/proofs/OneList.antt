-- Values that fit have one list of leaves.
use Rattle.std.proofs.Common.{◌≡◌, length, map, sym, ◌∙◌}
use Rattle.gt_types.specs.declared.program.Program.{Program}
use Rattle.gt_types.specs.Settled.{Settled}
use Rattle.gt_layout.specs.declared.planes.Layouts.{Layouts}
use Rattle.gt_layout.specs.Storages.{storage_of}
use Rattle.gt_layout.specs.Planes.{IsLaidOut, root_storages}
use Rattle.gt_tree.specs.LeafLaws.{ValueHasOneList, ElementsHaveOneList, RecordHasOneList}
use Rattle.gt_tree.proofs.Exists.{exists, exists_fields, exists_each, follow-long, map-long}
use Rattle.gt_tree.proofs.Unique.{unique, unique_fields, unique_each}

pub value-one_list : (program : Program) (layouts : Layouts) → Settled program → IsLaidOut program layouts → ValueHasOneList program layouts
value-one_list program layouts settled laid blocks capacity scope type tree at fits =
    let found = exists program layouts.structures laid.structures blocks capacity fits at in
    (found.0, found.1, unique program layouts.structures settled found.1)

pub elements-one_list : (program : Program) (layouts : Layouts) → Settled program → IsLaidOut program layouts → ElementsHaveOneList program layouts
elements-one_list program layouts settled laid blocks capacity scope type trees stride at fits =
    let found = exists_each program layouts.structures laid.structures blocks capacity fits stride at in
    (found.0, found.1, unique_each program layouts.structures settled found.1)

pub record-one_list : (program : Program) (layouts : Layouts) → Settled program → IsLaidOut program layouts → RecordHasOneList program layouts
record-one_list program layouts settled laid blocks statics fits =
    let long : length (map (λ r. r.ty) program.roots) ≡ length layouts.statics.fields =
    map-long (λ r. r.ty) program.roots ∙ sym (map-long (λ r. storage_of layouts.structures r.ty) program.roots)
    ∙ follow-long 0 (root_storages layouts.structures program.roots) layouts.statics.fields laid.statics.places in
    let found = exists_fields program layouts.structures laid.structures blocks 0 fits 0 layouts.statics.fields long in
    (found.0, found.1, unique_fields program layouts.structures settled found.1)
