-- The leaves of a value that fits lie one after another, inside the room of its type.
use Rattle.std.proofs.Common.{◌≡◌, ℕ, zero, suc, ◌+◌, ◌*◌, ◌<◌, ◌≤◌, Bool, true, false, List, [], ◌∷◌, ◌++◌, length, refl, ap, sym, subst, ◌∙◌, arith, Option, Some, None}
use Rattle.gt_types.specs.declared.types.Ty.{Ty}
use Rattle.gt_types.specs.declared.program.Program.{Program}
use Rattle.gt_types.specs.Settled.{Settled}
use Rattle.gt_layout.specs.declared.planes.Plane.{Plane}
use Rattle.gt_layout.specs.declared.planes.FieldSpot.{FieldSpot}
use Rattle.gt_layout.specs.Storages.{extent_of}
use Rattle.gt_layout.specs.Places.{begin_at}
use Rattle.gt_layout.specs.Planes.{AreLaidOut}
use Rattle.gt_tree.specs.Trees.{Tree, Rec, Alt, Trees, count}
use Rattle.gt_tree.specs.Blocks.{Blocks}
use Rattle.gt_tree.specs.Scopes.{Scope, inside}
use Rattle.gt_tree.specs.Fits.{Fits, AllFit, EachFits}
use Rattle.gt_tree.specs.Leaves.{Leaf, is_number, HasLeaves, FieldsHaveLeaves, EachHasLeaves}
use Rattle.gt_tree.proofs.Chains.{Chain, Chain-from, Chain-end, Chain-append, Chain-filter, Chain-bytes}
use Rattle.gt_tree.proofs.Rooms.{Room, Laid, room-number, room-bits, room-opaque, room-pointer, room-array, room-tail}
use Rattle.gt_tree.proofs.Structures.{Laid-struct, has_room-member, has_room-common}
use Rattle.gt_tree.proofs.Fitting.{fits-opaque, fits-struct, fits-member, fits-common, fits-array, fits-tail, fits-more, fits-one}

laid-more : {program : Program} {planes : List Plane} {capacity : ℕ} (from end : ℕ) (type : Ty) (types : List Ty) (s : FieldSpot) (spots : List FieldSpot)
    → Laid program planes capacity from (type ∷ types) (s ∷ spots) end → (w : ℕ) × (from ≤ begin_at s) × Room program planes capacity type w × Laid program planes capacity (begin_at s + w) types spots end
laid-more from end type types s spots (Laid.more {width = w} le room rest) = (w, le, room, rest)

laid-none : {program : Program} {planes : List Plane} {capacity : ℕ} (from end : ℕ) → Laid program planes capacity from [] [] end → from ≤ end
laid-none from end (Laid.none le) = le

times-le : (n m k : ℕ) → n ≤ m → n * k ≤ m * k
times-le n m k h = Rattle.std.proofs.Common.mul-le-mul_right k h

module _ (program : Program) (planes : List Plane) (blocks : Blocks) (capacity : ℕ) (settled : Settled program) (laid : AreLaidOut program planes) where
  mutual
    pub chain : {at : ℕ} {type : Ty} {tree : Tree} {leaves : List Leaf} → HasLeaves program planes at type tree leaves
        → (scope : Scope) (b : ℕ) → Fits program blocks capacity scope type tree → Room program planes capacity type b → Chain at leaves (at + b)
    chain (HasLeaves.number {at} {scalar} {n}) scope b fits room = let le = room-number scalar b room in (omega arith, omega (arith, le))
    chain (HasLeaves.bits {at} {unit} {width} {n}) scope b fits room = let le = room-bits unit width b room in (omega arith, omega (arith, le))
    chain (HasLeaves.opaque {at} {size} {align} {bytes}) scope b fits room =
        let le = room-opaque size align b room in
        let long = fits-opaque size align bytes fits in
        Chain-end at (Rattle.gt_tree.specs.Leaves.byte_leaves at bytes) (at + 8 * length bytes) (at + b) (omega (arith, le, long)) (Chain-bytes at bytes)
    chain (HasLeaves.null {at} {type} p) scope b fits room = let le = room-pointer type b p room in (omega arith, omega (arith, le))
    chain (HasLeaves.to {at} {type} {id} p) scope b fits room = let le = room-pointer type b p room in (omega arith, omega (arith, le))
    chain (HasLeaves.struct {at} {node} {desc} {s} {plane} {trees} {leaves} has struct got fields) scope b fits room =
        Chain-from at (at + 0) leaves (at + b) (omega arith)
        (chain_fields fields (inside scope node (Rec trees)) 0 b (fits-struct node desc s trees has fits) (Laid-struct program planes capacity settled laid node desc s plane b has struct got room))
    chain (HasLeaves.member {at} {node} {desc} {s} {place} {f} {tree} {leaves} has union get part) scope b fits room =
        let found = has_room-member program planes capacity settled laid node desc s place f b has union get room in
        Chain-end at leaves (at + found.0) (at + b) (omega (arith, found.2))
        (chain part (inside scope node (Alt (Some place) tree)) found.0 (fits-member node desc s place f tree has get fits) found.1)
    chain (HasLeaves.common {at} {node} {common} {desc} {s} {tree} {leaves} has union c part) scope b fits room =
        let found = has_room-common program planes capacity settled laid node desc s common b has c room in
        Chain-filter is_number at leaves (at + b) (Chain-end at leaves (at + found.0) (at + b) (omega (arith, found.2))
        (chain part (inside scope node (Alt None tree)) found.0 (fits-common node common desc s tree settled has c fits) found.1))
    chain (HasLeaves.nothing {at} has union none) scope b fits room = omega arith
    chain (HasLeaves.array {at} {type} {elem} {n} {trees} {leaves} e each) scope b fits room =
        let found = room-array type elem n b e room in
        let fit = fits-array type elem n trees e fits in
        let stride = 8 * (extent_of planes elem).size in
        let le : count trees * stride ≤ n * stride = times-le (count trees) n stride (omega (arith, fit.0)) in
        Chain-end at leaves (at + count trees * stride) (at + b) (omega (arith, le, found.1))
        (chain_each each scope stride fit.1 (Room.plain found.0) (omega arith))
    chain (HasLeaves.tail {at} {type} {elem} {length} {trees} {leaves} e each) scope b fits room =
        let found = room-tail type elem length b e room in
        let fit = fits-tail type elem length trees e fits in
        let stride = 8 * (extent_of planes elem).size in
        let le : count trees * stride ≤ capacity * stride = times-le (count trees) capacity stride fit.0 in
        Chain-end at leaves (at + count trees * stride) (at + b) (omega (arith, le, found.1))
        (chain_each each scope stride fit.1 (Room.plain found.0) (omega arith))

    pub chain_fields : {at : ℕ} {types : List Ty} {spots : List FieldSpot} {trees : Trees} {leaves : List Leaf} → FieldsHaveLeaves program planes at types spots trees leaves
        → (scope : Scope) (from end : ℕ) → AllFit program blocks capacity scope types trees → Laid program planes capacity from types spots end → Chain (at + from) leaves (at + end)
    chain_fields (FieldsHaveLeaves.none {at}) scope from end fits lies = let le = laid-none from end lies in omega (arith, le)
    chain_fields (FieldsHaveLeaves.more {at} {type} {types} {s} {spots} {tree} {trees} {first} {rest} part parts) scope from end fits lies =
        let here = laid-more from end type types s spots lies in
        let fit = fits-more type types tree trees fits in
        let same : (at + begin_at s) + here.0 ≡ at + (begin_at s + here.0) = omega arith in
        Chain-from (at + from) (at + begin_at s) (first ++ rest) (at + end) (omega (arith, here.1))
        (Chain-append (at + begin_at s) first (at + (begin_at s + here.0)) rest (at + end)
        (subst (λ n. Chain (at + begin_at s) first n) same (chain part scope here.0 fit.0 here.2))
        (chain_fields parts scope (begin_at s + here.0) end fit.1 here.3))

    pub chain_each : {stride at : ℕ} {type : Ty} {trees : Trees} {leaves : List Leaf} → EachHasLeaves program planes stride at type trees leaves
        → (scope : Scope) (b : ℕ) → EachFits program blocks capacity scope type trees → Room program planes capacity type b → b ≤ stride → Chain at leaves (at + count trees * stride)
    chain_each (EachHasLeaves.no_more {stride} {at} {type}) scope b fits room le = omega arith
    chain_each (EachHasLeaves.one_more {stride} {at} {type} {tree} {trees} {first} {rest} part parts) scope b fits room le =
        let fit = fits-one type tree trees fits in
        let same : (at + stride) + count trees * stride ≡ at + suc (count trees) * stride = omega arith in
        Chain-append at first (at + stride) rest (at + suc (count trees) * stride)
        (Chain-end at first (at + b) (at + stride) (omega arith) (chain part scope b fit.0 room))
        (subst (λ n. Chain (at + stride) rest n) same (chain_each parts scope b fit.1 room le))
