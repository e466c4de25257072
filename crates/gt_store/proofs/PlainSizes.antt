-- The size of a structure without room at its end is that of its plane.
use Rattle.std.proofs.Common.{◌≡◌, ◌≤◌, ◌<◌, ℕ, ◌+◌, ◌*◌, List, [], ◌∷◌, refl, ap, sym, subst, ◌∙◌, arith, Some, inl, inr, length}
use Rattle.std.specs.Prelude.{All, slice_get}
use Rattle.std.proofs.lemmas.Option.{slice_get_cases}
use Rattle.std.proofs.lemmas.List.Elements.{All-nil, All-cons, All-head, All-tail}
use Rattle.gt_types.specs.declared.types.TypeId.{TypeId}
use Rattle.gt_types.specs.declared.types.Ty.{Ty}
use Rattle.gt_types.specs.declared.program.Field.{Field}
use Rattle.gt_types.specs.declared.program.Structure.{Structure}
use Rattle.gt_types.specs.declared.program.Program.{Program}
use Rattle.gt_types.specs.Contains.{HasStructure}
use Rattle.gt_types.specs.Settled.{Settled}
use Rattle.gt_types.specs.Tails.{tail_of}
use Rattle.gt_layout.specs.declared.planes.Layouts.{Layouts}
use Rattle.gt_layout.specs.declared.planes.Plane.{Plane}
use Rattle.gt_layout.specs.declared.planes.FieldSpot.{FieldSpot}
use Rattle.gt_layout.specs.declared.storages.Storage.TheVariants.{Bytes}
use Rattle.gt_layout.specs.Storages.{extent_at, extent_of, extent_of_plane, storage_of, storages_of}
use Rattle.gt_layout.specs.Places.{Follow, Lie, Overlap, end_at, end_of, ends, last_offset}
use Rattle.gt_layout.specs.Planes.{AreLaidOut, IsLaidOut, IsSize}
use Rattle.gt_layout.specs.Capacity.{SizeAt, MemberEnds}
use Rattle.gt_layout.proofs.LastFields.{last-ends}
use Rattle.gt_tree.proofs.Sizes.{sizes-one}
use Rattle.gt_tree.proofs.Types.{extent-node}

-- ---- sizes

same-size : (align : ℕ) (mine its : List ℕ) (a b : ℕ) → ((n : ℕ) → All (λ end. end ≤ n) mine → All (λ end. end ≤ n) its) → ((n : ℕ) → All (λ end. end ≤ n) its → All (λ end. end ≤ n) mine) → IsSize align mine a → IsSize align its b → a ≡ b
same-size align mine its a b to from x y =
    let p : a ≤ b = x.least b (record { whole = y.room.whole; inside = from (8 * b) y.room.inside }) in
    let q : b ≤ a = y.least a (record { whole = x.room.whole; inside = to (8 * a) x.room.inside }) in
    omega (arith, p, q)

all-below : (xs : List ℕ) (m n : ℕ) → m ≤ n → All (λ end. end ≤ m) xs → All (λ end. end ≤ n) xs
all-below [] m n le h = All-nil (λ end. end ≤ n)
all-below (x ∷ xs) m n le h =
    let first : x ≤ m = All-head (λ end. end ≤ m) x xs h in
    All-cons (λ end. end ≤ n) x xs (omega (arith, first, le)) (all-below xs m n le (All-tail (λ end. end ≤ m) x xs h))

-- a struct that ends in an array without elements
tail-sized : (planes : List Plane) (fs : List Field) (plane : Plane) (elem : Ty) (n size : ℕ) → tail_of fs ≡ Some elem → Follow 0 (storages_of planes fs) plane.fields → IsSize plane.align (ends (storages_of planes fs) plane.fields) plane.size
    → IsSize plane.align (8 * (last_offset plane.fields + 0 * n) ∷ []) size → size ≡ plane.size
tail-sized planes fs plane elem n size t follow whole sized =
    let last = last-ends planes fs plane.fields 0 elem t follow in
    let top = last_offset plane.fields in
    let one = 8 * (top + 0 * n) in
    let all = ends (storages_of planes fs) plane.fields in
    same-size plane.align (one ∷ []) all size plane.size
    (λ bound h. let le : one ≤ bound = All-head (λ end. end ≤ bound) one [] h in all-below all (8 * top) bound (omega (arith, le)) last.inside)
    (λ bound h. let le = last.least bound h in All-cons (λ end. end ≤ bound) one [] (omega (arith, le)) (All-nil (λ end. end ≤ bound)))
    sized whole

other-begin : (planes : List Plane) (type : Ty) (s : FieldSpot) → s ≡ record { offset = 0; bit = 0 } → end_at (storage_of planes type) s ≡ end_of (storage_of planes type) 0
other-begin planes type s e = ap (λ x. end_at (storage_of planes type) x) e

module _ (program : Program) (planes : List Plane) (laid : AreLaidOut program planes) where
  mutual
    pub plain-size : (node : TypeId) (size : ℕ) → SizeAt program planes 0 node size → size ≡ (extent_at planes node.0).size
    plain-size node size (SizeAt.of_struct {s} {plane} has got struct none) = ap (λ o. (extent_of_plane o).size) (sym got)
    plain-size node size (SizeAt.of_tail {s} {plane} {elem} has got struct tail sized) =
        let its = laid.each node.0 s plane has got in
        let follow = subst (λ b. Lie b (storages_of planes s.fields) plane.fields) struct its.places in
        tail-sized planes s.fields plane elem (extent_of planes elem).size size tail follow its.size sized ∙ ap (λ o. (extent_of_plane o).size) (sym got)
    plain-size node size (SizeAt.of_union {s} {plane} {ends = own} has got union members sized) =
        let its = laid.each node.0 s plane has got in
        let overlap = subst (λ b. Lie b (storages_of planes s.fields) plane.fields) union its.places in
        let same = member-ends s.fields own plane.fields members overlap in
        same-size plane.align own own size plane.size (λ n h. h) (λ n h. h) sized (subst (λ es. IsSize plane.align es plane.size) (sym same) its.size) ∙ ap (λ o. (extent_of_plane o).size) (sym got)

    member-ends : (fs : List Field) (own : List ℕ) (spots : List FieldSpot) → MemberEnds program planes 0 fs own → Overlap (storages_of planes fs) spots → own ≡ ends (storages_of planes fs) spots
    member-ends [] own [] MemberEnds.none h = refl
    member-ends [] own (s ∷ ss) MemberEnds.none h = absurd h
    member-ends (f ∷ fs) own [] m h = absurd h
    member-ends (f ∷ fs) [] (s ∷ ss) m h = elim m [ ]
    member-ends (f ∷ fs) (own ∷ owns) (s ∷ ss) (MemberEnds.of_structure {node} {desc} {size} type sized rest) h =
        let inner = plain-size node size sized in
        let storage : storage_of planes f.ty ≡ Bytes (extent_at planes node.0) = ap (storage_of planes) type ∙ ap Bytes (extent-node planes node desc) in
        let here : end_at (storage_of planes f.ty) s ≡ 8 * (extent_at planes node.0).size = other-begin planes f.ty s h.0 ∙ ap (λ x. end_of x 0) storage ∙ omega arith in
        let end : own ≡ end_at (storage_of planes f.ty) s = ap (λ n. 8 * n) inner ∙ sym here in
        let others = member-ends fs owns ss rest h.1 in
        ap (λ x. x ∷ owns) end ∙ ap (λ xs. end_at (storage_of planes f.ty) s ∷ xs) others
    member-ends (f ∷ fs) (own ∷ owns) (s ∷ ss) (MemberEnds.of_field plain rest) h =
        let end : own ≡ end_at (storage_of planes f.ty) s = sym (other-begin planes f.ty s h.0) in
        let others = member-ends fs owns ss rest h.1 in
        ap (λ x. x ∷ owns) end ∙ ap (λ xs. end_at (storage_of planes f.ty) s ∷ xs) others

-- without room at its end a structure takes the size of its plane
pub plain-sized : (program : Program) (layouts : Layouts) → Settled program → IsLaidOut program layouts → (node : TypeId) (s : Structure) → HasStructure program node s → (capacity : ℕ) → capacity ≡ 0 → (plane : Plane)
    → slice_get layouts.structures node.0 ≡ Some plane → SizeAt program layouts.structures capacity node plane.size
plain-sized program layouts settled laid node s has capacity none plane got =
    let one = sizes-one program layouts settled laid 0 node s has in
    let same : one.0 ≡ plane.size = plain-size program layouts.structures laid.structures node one.0 one.1 ∙ ap (λ o. (extent_of_plane o).size) got in
    subst (λ n. SizeAt program layouts.structures n node plane.size) (sym none) (subst (λ z. SizeAt program layouts.structures 0 node z) same one.1)

-- the same of a structure that is there
pub plain-sized-there : (program : Program) (layouts : Layouts) → Settled program → IsLaidOut program layouts → (node : TypeId) → node.0 < length program.structures → (capacity : ℕ) → capacity ≡ 0 → (plane : Plane)
    → slice_get layouts.structures node.0 ≡ Some plane → SizeAt program layouts.structures capacity node plane.size
plain-sized-there program layouts settled laid node there capacity none plane got =
    elim (slice_get_cases program.structures node.0).1 as (λ _. SizeAt program layouts.structures capacity node plane.size) [
      | inl found ↦ plain-sized program layouts settled laid node found.0 found.2 capacity none plane got
      | inr past ↦ absurd (omega (arith, there, past.0))
    ]
