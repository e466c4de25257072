-- There are as many places as fields in a struct.
use Rattle.std.proofs.Common.{◌≡◌, ◌∙◌, List, length, sym, subst}
use Rattle.std.specs.Prelude.{slice_get, Some, false}
use Rattle.gt_types.specs.declared.types.TypeId.{TypeId}
use Rattle.gt_types.specs.declared.program.Structure.{Structure}
use Rattle.gt_types.specs.declared.program.Program.{Program}
use Rattle.gt_types.specs.Contains.{HasStructure}
use Rattle.gt_layout.specs.declared.planes.Plane.{Plane}
use Rattle.gt_layout.specs.Storages.{storage_of, storages_of}
use Rattle.gt_layout.specs.Places.{Lie}
use Rattle.gt_layout.specs.Planes.{AreLaidOut}
use Rattle.gt_tree.proofs.Exists.{follow-long, map-long}

pub spots-long : (program : Program) (planes : List Plane) → AreLaidOut program planes → (node : TypeId) (s : Structure) (plane : Plane) → HasStructure program node s
    → slice_get planes node.0 ≡ Some plane → s.is_union ≡ false → length s.fields ≡ length plane.fields
spots-long program planes laid node s plane has got struct =
    let follow = subst (λ u. Lie u (storages_of planes s.fields) plane.fields) struct (laid.each node.0 s plane has got).places in
    sym (map-long (λ f. storage_of planes f.ty) s.fields) ∙ follow-long 0 (storages_of planes s.fields) plane.fields follow
