-- Each structure has a size at each capacity.
use Rattle.std.proofs.Common.{◌≡◌, ℕ, ◌+◌, ◌*◌, ◌/◌, ◌≤◌, ◌<◌, max, Bool, true, false, Option, Some, None, List, [], ◌∷◌, get_or, refl, arith, ◌⊎◌, inl, inr}
use Rattle.std.specs.List.{All}
use Rattle.std.specs.Prelude.{slice_get}
use Rattle.std.proofs.lemmas.Option.{slice_get_within, slice_get-get_or}
use Rattle.std.proofs.lemmas.List.Elements.{All-nil, All-cons, All-head, All-tail, Contains-get_or}
use Rattle.gt_types.specs.declared.expressions.Expr.{Expr}
use Rattle.gt_types.specs.declared.types.TypeId.{TypeId}
use Rattle.gt_types.specs.declared.types.Ty.{Ty}
use Rattle.gt_types.specs.declared.types.Ty.TheVariants as ty
use Rattle.gt_types.specs.declared.program.Field.{Field}
use Rattle.gt_types.specs.declared.program.Structure.{Structure}
use Rattle.gt_types.specs.declared.program.Program.{Program}
use Rattle.gt_types.specs.Contains.{HasStructure}
use Rattle.gt_types.specs.Shapes.{is_structure}
use Rattle.gt_types.specs.Tails.{tail_of}
use Rattle.gt_types.specs.Settled.{Settled}
use Rattle.gt_layout.specs.declared.planes.Plane.{Plane}
use Rattle.gt_layout.specs.Storages.{extent_of, storage_of}
use Rattle.gt_layout.specs.Places.{end_of, last_offset}
use Rattle.gt_layout.specs.Planes.{AreLaidOut, IsSize}
use Rattle.gt_layout.specs.Capacity.{SizeAt, MemberEnds, of_tail, of_union, of_struct, none, of_structure, of_field}
use Rattle.gt_layout.proofs.Placing.{up}
use Rattle.gt_layout.proofs.PlaneOf.{size_of_ends}
use Rattle.gt_layout.proofs.Depths.{OfInner, by_depth, held-node, inner_there, node_cases}

-- ---- the least size with room

highest : List ℕ → ℕ
highest [] = 0
highest (n ∷ ns) = max n (highest ns)

All-highest : (ns : List ℕ) (m : ℕ) → highest ns ≤ m → All (λ n. n ≤ m) ns
unfolding highest
All-highest [] m h = All-nil (λ n. n ≤ m)
All-highest (n ∷ ns) m h = All-cons (λ n. n ≤ m) n ns (omega arith) (All-highest ns m (omega arith))

highest-All : (ns : List ℕ) (m : ℕ) → All (λ n. n ≤ m) ns → highest ns ≤ m
unfolding highest
highest-All [] m h = omega arith
highest-All (n ∷ ns) m h =
    let first : n ≤ m = All-head (λ n. n ≤ m) n ns h in
    let rest : highest ns ≤ m = highest-All ns m (All-tail (λ n. n ≤ m) n ns h) in
    omega arith

-- ends have a least size with room for them
pub size_exists : (align : ℕ) (ends : List ℕ) → 0 < align → (size : ℕ) × IsSize align ends size
size_exists align ends some = (up ((highest ends + 7) / 8) align, size_of_ends ends (highest ends) align some (All-highest ends (highest ends) (omega arith)) (λ bound all. highest-All ends bound all))

-- ---- each structure has a size

module _ (program : Program) (planes : List Plane) (capacity : ℕ) (settled : Settled program) (laid : AreLaidOut program planes) (some : (place : ℕ) (plane : Plane) → slice_get planes place ≡ Some plane → 0 < plane.align) where
  abbrev HasSize : TypeId → Type 0
  HasSize node = (size : ℕ) × SizeAt program planes capacity node size

  plane_there : (node : TypeId) (s : Structure) → HasStructure program node s → (plane : Plane) × (slice_get planes node.0 ≡ Some plane)
  plane_there node s has =
      let d : Plane = record { size = 0; align = 0; fields = [] } in
      (get_or planes node.0 d, slice_get-get_or planes node.0 d (omega (arith, slice_get_within program.structures node.0 s has, laid.all)))

  abbrev IsSized : Field → Type 0
  IsSized f = (is_structure f.ty ≡ false) ⊎ ((node : TypeId) × (desc : Option Expr) × (f.ty ≡ ty.Node node desc) × HasSize node)

  members-end : (fields : List Field) → All IsSized fields → (ends : List ℕ) × MemberEnds program planes capacity fields ends
  members-end [] h = ([], none)
  members-end (f ∷ fs) h = go (All-head IsSized f fs h) (members-end fs (All-tail IsSized f fs h))
    where
      go : IsSized f → (ends : List ℕ) × MemberEnds program planes capacity fs ends → (ends : List ℕ) × MemberEnds program planes capacity (f ∷ fs) ends
      go (inl flat) rest = (end_of (storage_of planes f.ty) 0 ∷ rest.0, of_field flat rest.1)
      go (inr (node, desc, e, size)) rest = (8 * size.0 ∷ rest.0, of_structure e size.1 rest.1)

  size-struct : (node : TypeId) (s : Structure) → HasStructure program node s → s.is_union ≡ false → (o : Option Ty) → tail_of s.fields ≡ o → HasSize node
  size-struct node s has struct None t = let plane = plane_there node s has in (plane.0.size, of_struct has plane.1 struct t)
  size-struct node s has struct (Some elem) t =
      let plane = plane_there node s has in
      let found = size_exists plane.0.align (8 * (last_offset plane.0.fields + capacity * (extent_of planes elem).size) ∷ []) (some node.0 plane.0 plane.1) in
      (found.0, of_tail has plane.1 struct t found.1)

  size-union : (node : TypeId) (s : Structure) → HasStructure program node s → s.is_union ≡ true → OfInner program HasSize node → HasSize node
  size-union node s has union inner =
      let plane = plane_there node s has in
      let each : All IsSized s.fields = λ k d within. one (get_or s.fields k d) (Contains-get_or s.fields k d within) (node_cases (get_or s.fields k d).ty) in
      let members = members-end s.fields each in
      let found = size_exists plane.0.align members.0 (some node.0 plane.0 plane.1) in
      (found.0, of_union has plane.1 union members.1 found.1)
    where
      one : (f : Field) → Rattle.std.specs.List.Contains s.fields f
          → ((other : TypeId) × (desc : Option Expr) × (f.ty ≡ ty.Node other desc)) ⊎ ((is_structure f.ty ≡ false) × ((other : TypeId) (desc : Option Expr) → f.ty ≡ ty.Node other desc → ⊥)) → IsSized f
      one f contains (inl (other, desc, e)) =
          let there = inner_there program node s f other settled has contains (held-node f.ty other desc e) in
          inr (other, desc, e, inner other there.0 there.1 there.2)
      one f contains (inr flat) = inl flat.0

  size-by : (node : TypeId) (s : Structure) (union : Bool) → s.is_union ≡ union → HasStructure program node s → OfInner program HasSize node → HasSize node
  size-by node s true e has inner = size-union node s has e inner
  size-by node s false e has inner = size-struct node s has e (tail_of s.fields) refl

  pub sized : (node : TypeId) (s : Structure) → HasStructure program node s → (size : ℕ) × SizeAt program planes capacity node size
  sized node s has = by_depth program HasSize (λ other t there inner. size-by other t t.is_union refl there inner) settled node s has
