-- The leaves of elements of blocks and of the static record.
use Rattle.std.proofs.Common.{◌≡◌, ℕ, ◌+◌, ◌*◌, List, subst, arith}
use Rattle.std.specs.Prelude.{All}
use Rattle.std.proofs.lemmas.List.Elements.{All-weaker}
use Rattle.gt_types.specs.declared.program.Root.{Root}
use Rattle.gt_types.specs.declared.program.Program.{Program}
use Rattle.gt_types.specs.Settled.{Settled, IsRoot}
use Rattle.gt_layout.specs.declared.planes.Layouts.{Layouts}
use Rattle.gt_layout.specs.Storages.{storage_of}
use Rattle.gt_layout.specs.Planes.{IsLaidOut}
use Rattle.gt_tree.specs.Scopes.{outside}
use Rattle.gt_tree.specs.Leaves.{Leaf}
use Rattle.gt_tree.specs.LeafLaws.{LieInOrder, RecordIsPlaced}
use Rattle.gt_tree.proofs.Types.{Plain-root, bits_in}
use Rattle.gt_tree.proofs.Chains.{Chain, between-Chain, before-Chain, apart-Chain}
use Rattle.gt_tree.proofs.Rooms.{Room, Laid-follow, room-plain}
use Rattle.gt_tree.proofs.Ordered.{chain_fields}

pub placed : (from end : ℕ) (leaves : List Leaf) → Chain from leaves end → LieInOrder from end leaves
placed from end leaves c = record { rising = before-Chain from leaves end c; apart = apart-Chain from leaves end c; inside = between-Chain from leaves end c }

pub record-placed : (program : Program) (layouts : Layouts) → Settled program → IsLaidOut program layouts → RecordIsPlaced program layouts
record-placed program layouts settled laid blocks statics leaves fits has =
    let planes = layouts.structures in
    let each : All (λ (r : Root). Room program planes 0 r.ty (bits_in (storage_of planes r.ty))) program.roots =
    All-weaker (IsRoot program) (λ (r : Root). Room program planes 0 r.ty (bits_in (storage_of planes r.ty)))
    (λ r h. room-plain program planes 0 r.ty (Plain-root program r.ty h.shape (λ n held t. (h.whole n held).1 t))) program.roots settled.roots in
    let lies = Laid-follow (λ (r : Root). r.ty) program.roots layouts.statics.fields 0 (8 * layouts.statics.size) laid.statics.places laid.statics.size.room.inside (omega arith) each in
    let whole : 0 + 8 * layouts.statics.size ≡ 8 * layouts.statics.size = omega arith in
    placed 0 (8 * layouts.statics.size) leaves
    (subst (λ n. Chain 0 leaves n) whole (chain_fields program planes blocks 0 settled laid.structures has (outside statics) 0 (8 * layouts.statics.size) fits lies))
