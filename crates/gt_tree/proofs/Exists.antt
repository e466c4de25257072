-- A value that fits has a list of leaves at each bit.
use Rattle.std.proofs.Common.{◌≡◌, ℕ, suc, ◌+◌, ◌*◌, false, IsTrue, List, [], ◌∷◌, ◌++◌, length, map, refl, ap, sym, subst, ◌∙◌, arith, Option, Some}
use Rattle.std.specs.Prelude.{slice_get, ℤ}
use Rattle.gt_types.specs.declared.expressions.Expr.{Expr}
use Rattle.gt_types.specs.declared.types.TypeId.{TypeId}
use Rattle.gt_types.specs.declared.types.Ty.{Ty}
use Rattle.gt_types.specs.declared.types.Ty.TheVariants as ty
use Rattle.gt_types.specs.declared.program.Structure.{Structure}
use Rattle.gt_types.specs.declared.program.Program.{Program}
use Rattle.gt_types.specs.Shapes.{is_pointer}
use Rattle.gt_types.specs.Contains.{HasStructure}
use Rattle.gt_layout.specs.declared.planes.Plane.{Plane}
use Rattle.gt_layout.specs.declared.planes.FieldSpot.{FieldSpot}
use Rattle.gt_layout.specs.declared.storages.Storage.{Storage}
use Rattle.gt_layout.specs.Storages.{extent_of, storage_of, storages_of}
use Rattle.gt_layout.specs.Places.{begin_at, Follow, Lie, end_at}
use Rattle.gt_layout.specs.Planes.{AreLaidOut}
use Rattle.gt_tree.specs.Trees.{Tree, Trees}
use Rattle.gt_tree.specs.Blocks.{Blocks, MayName}
use Rattle.gt_tree.specs.Scopes.{Scope}
use Rattle.gt_tree.specs.Fits.{Fits, AllFit, EachFits, types_of}
use Rattle.gt_tree.specs.Leaves.{Leaf, HasLeaves, FieldsHaveLeaves, EachHasLeaves}
use Rattle.gt_tree.proofs.Structures.{get-as_long}

-- what may name a block is a pointer
may-pointer : (blocks : Blocks) (value : Expr → Option ℤ) (type : Ty) (id : ℕ) → MayName blocks value type id → IsTrue (is_pointer type)
may-pointer blocks value (ty.Str count) id h = refl
may-pointer blocks value (ty.Ptr target kind reorder) id h = refl
may-pointer blocks value type id h = absurd h

-- there are as many places as fields
pub follow-long : (from : ℕ) (fields : List Storage) (spots : List FieldSpot) → Follow from fields spots → length fields ≡ length spots
follow-long from [] [] h = refl
follow-long from [] (s ∷ ss) h = absurd h
follow-long from (f ∷ fs) [] h = absurd h
follow-long from (f ∷ fs) (s ∷ ss) h = ap suc (follow-long (end_at f s) fs ss h.2)

pub map-long : {X Y : Type 0} (f : X → Y) (xs : List X) → length (map f xs) ≡ length xs
map-long f [] = refl
map-long f (x ∷ xs) = ap suc (map-long f xs)

module _ (program : Program) (planes : List Plane) (laid : AreLaidOut program planes) (blocks : Blocks) (capacity : ℕ) where
  spots-long : (node : TypeId) (s : Structure) (plane : Plane) → HasStructure program node s → s.is_union ≡ false → slice_get planes node.0 ≡ Some plane → length (types_of s.fields) ≡ length plane.fields
  spots-long node s plane has struct got =
      let follow = subst (λ u. Lie u (storages_of planes s.fields) plane.fields) struct (laid.each node.0 s plane has got).places in
      map-long (λ f. f.ty) s.fields ∙ sym (map-long (λ f. storage_of planes f.ty) s.fields) ∙ follow-long 0 (storages_of planes s.fields) plane.fields follow

  mutual
    pub exists : {scope : Scope} {type : Ty} {tree : Tree} → Fits program blocks capacity scope type tree → (at : ℕ) → (leaves : List Leaf) × HasLeaves program planes at type tree leaves
    exists (Fits.number h) at = (_, HasLeaves.number)
    exists (Fits.bits h) at = (_, HasLeaves.bits)
    exists (Fits.opaque h k) at = (_, HasLeaves.opaque)
    exists (Fits.null h) at = (_, HasLeaves.null h)
    exists (Fits.to {scope} {type} {id} h) at = (_, HasLeaves.to (may-pointer blocks _ type id h))
    exists (Fits.struct {node = node} {s = s} has struct all) at =
        let plane = get-as_long planes program.structures node.0 s laid.all has in
        let found = exists_fields all at plane.0.fields (spots-long node s plane.0 has struct plane.1) in
        (found.0, HasLeaves.struct has struct plane.1 found.1)
    exists (Fits.member has union active get fits) at = let found = exists fits at in (found.0, HasLeaves.member has union get found.1)
    exists (Fits.common has union active c without fits) at = let found = exists fits at in (_, HasLeaves.common has union c found.1)
    exists (Fits.nothing has union active none) at = ([], HasLeaves.nothing has union none)
    exists (Fits.array {elem = elem} e count each) at = let found = exists_each each (8 * (extent_of planes elem).size) at in (found.0, HasLeaves.array e found.1)
    exists (Fits.tail {elem = elem} e value le count each) at = let found = exists_each each (8 * (extent_of planes elem).size) at in (found.0, HasLeaves.tail e found.1)

    pub exists_fields : {scope : Scope} {types : List Ty} {trees : Trees} → AllFit program blocks capacity scope types trees → (at : ℕ) (spots : List FieldSpot) → length types ≡ length spots
        → (leaves : List Leaf) × FieldsHaveLeaves program planes at types spots trees leaves
    exists_fields AllFit.none at [] long = ([], FieldsHaveLeaves.none)
    exists_fields AllFit.none at (s ∷ ss) long = absurd (omega arith)
    exists_fields (AllFit.more fits all) at [] long = absurd (omega arith)
    exists_fields (AllFit.more fits all) at (s ∷ ss) long =
        let here = exists fits (at + begin_at s) in
        let rest = exists_fields all at ss (omega arith) in
        (here.0 ++ rest.0, FieldsHaveLeaves.more here.1 rest.1)

    pub exists_each : {scope : Scope} {type : Ty} {trees : Trees} → EachFits program blocks capacity scope type trees → (stride at : ℕ)
        → (leaves : List Leaf) × EachHasLeaves program planes stride at type trees leaves
    exists_each EachFits.no_more stride at = ([], EachHasLeaves.no_more)
    exists_each (EachFits.one_more fits each) stride at =
        let here = exists fits at in
        let rest = exists_each each stride (at + stride) in
        (here.0 ++ rest.0, EachHasLeaves.one_more here.1 rest.1)
