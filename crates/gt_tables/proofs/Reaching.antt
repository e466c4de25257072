-- Where the numbers lie to which paths of names lead, and that they lie inside.
use Rattle.std.proofs.Common.{◌≡◌, ℕ, zero, suc, ◌+◌, ◌*◌, ◌<◌, ◌≤◌, List, [], ◌∷◌, drop, length, refl, ap, sym, subst, ◌∙◌, arith, Option, Some, None, ⊎_elim, inl}
use Rattle.std.specs.Prelude.{slice_get, MatchOption}
use Rattle.std.specs.Str.{bytes_eq}
use Rattle.std.specs.List.{position_from}
use Rattle.std.specs.Option.{option_map}
use Rattle.std.proofs.lemmas.Bool.{cases_lt}
use Rattle.std.proofs.lemmas.Option.{none-some, same_Some, slice_get-map}
use Rattle.gt_types.specs.declared.types.TypeId.{TypeId}
use Rattle.gt_types.specs.declared.types.Ty.{Ty}
use Rattle.gt_types.specs.declared.types.Ty.TheVariants as ty
use Rattle.gt_types.specs.declared.types.Ty.TheVariants.{outs-Node}
use Rattle.gt_types.specs.declared.program.Field.{Field}
use Rattle.gt_types.specs.declared.program.Root.{Root}
use Rattle.gt_types.specs.declared.program.Structure.{Structure}
use Rattle.gt_types.specs.declared.program.Program.{Program}
use Rattle.gt_types.specs.Contains.{HasStructure, itself}
use Rattle.gt_types.specs.Settled.{Settled}
use Rattle.gt_layout.specs.declared.planes.TheConstants.{MAX_SIZE}
use Rattle.gt_layout.specs.declared.planes.FieldSpot.{FieldSpot}
use Rattle.gt_layout.specs.declared.planes.Plane.{Plane}
use Rattle.gt_layout.specs.declared.planes.Layouts.{Layouts}
use Rattle.gt_layout.specs.Storages.{extent_at, extent_of_plane, storage_of, storages_of}
use Rattle.gt_layout.specs.Places.{begin_at, end_at}
use Rattle.gt_layout.specs.Planes.{IsLaidOut, root_storages}
use Rattle.gt_layout.specs.Excess.{IsWithin}
use Rattle.gt_layout.specs.Laws.{PlacesHold}
use Rattle.gt_layout.proofs.Placed.{places_hold}
use Rattle.gt_tree.specs.Scopes.{◌then◌}
use Rattle.gt_tree.proofs.Types.{extent-node}
use Rattle.gt_value.specs.Reading.{Place, place}
use Rattle.gt_edges.specs.Walks.{field_named, place_after}
use Rattle.gt_tables.specs.declared.paths.Cell.{Cell}

-- a cell is the place, or there is none
abbrev pub IsCell : Option Cell → Option Place → Type 0
IsCell result p = MatchOption result (p ≡ None) (λ c. p ≡ Some (place c.ty.now c.at))

pub no-cell : (result : Option Cell) (p : Option Place) → result ≡ None → p ≡ None → IsCell result p
no-cell result p e h = subst (λ r. IsCell r p) (sym e) h

-- ---- the field of a name

pub named-is : (program : Program) (planes : List Plane) (node : TypeId) (name : List ℕ) (s : Structure) (plane : Plane) (found : Option ℕ) → HasStructure program node s → slice_get planes node.0 ≡ Some plane
    → position_from (λ f. bytes_eq f.name name) 0 s.fields ≡ found
    → field_named program planes node name ≡ (found then λ i. slice_get s.fields i then λ f. slice_get plane.fields i then λ spot. Some (place f.ty (begin_at spot)))
named-is program planes node name s plane found has laid is =
    ap (λ o. o then λ x. slice_get planes node.0 then λ p. position_from (λ f. bytes_eq f.name name) 0 x.fields then λ k. slice_get x.fields k then λ f. slice_get p.fields k then λ spot. Some (place f.ty (begin_at spot))) has
    ∙ ap (λ o. o then λ p. position_from (λ f. bytes_eq f.name name) 0 s.fields then λ k. slice_get s.fields k then λ f. slice_get p.fields k then λ spot. Some (place f.ty (begin_at spot))) laid
    ∙ ap (λ o. o then λ k. slice_get s.fields k then λ f. slice_get plane.fields k then λ spot. Some (place f.ty (begin_at spot))) is

pub spot-none : (fields : List Field) (spots : List FieldSpot) (i : ℕ) (f : Field) → slice_get fields i ≡ Some f → slice_get spots i ≡ None → (slice_get fields i then λ f. slice_get spots i then λ spot. Some (place f.ty (begin_at spot))) ≡ None
spot-none fields spots i f has none =
    ap (λ o. o then λ f. slice_get spots i then λ spot. Some (place f.ty (begin_at spot))) has ∙ ap (λ o. o then λ spot. Some (place f.ty (begin_at spot))) none

pub spot-some : (fields : List Field) (spots : List FieldSpot) (i : ℕ) (f : Field) (spot : FieldSpot) → slice_get fields i ≡ Some f → slice_get spots i ≡ Some spot
    → (slice_get fields i then λ f. slice_get spots i then λ spot. Some (place f.ty (begin_at spot))) ≡ Some (place f.ty (begin_at spot))
spot-some fields spots i f spot has got =
    ap (λ o. o then λ f. slice_get spots i then λ spot. Some (place f.ty (begin_at spot))) has ∙ ap (λ o. o then λ spot. Some (place f.ty (begin_at spot))) got

-- from what is no structure no name leads on
pub after-ends : (program : Program) (planes : List Plane) (p : Place) (names : List (List ℕ)) (i : ℕ) → i < length names → itself p.type ≡ None → place_after program planes p (drop i names) ≡ None
after-ends program planes p [] i lt e = absurd (omega arith)
after-ends program planes p (name ∷ names) zero lt e =
    ap (λ o. o then λ node. field_named program planes node name then λ next. place_after program planes (place next.type (p.at + next.at)) names) e
after-ends program planes p (name ∷ names) (suc i) lt e = after-ends program planes p names i (omega arith) e

-- ---- places lie inside

-- the bits of a structure by value; what is none needs none
abbrev pub bits_of : List Plane → Option TypeId → ℕ
bits_of planes (Some node) = 8 * (extent_at planes node.0).size
bits_of planes None = 0

-- a place, with the structure that it has, ends at most at this bit
abbrev pub EndsBy : List Plane → ℕ → Place → Type 0
EndsBy planes limit p = p.at + bits_of planes (itself p.type) ≤ limit

ends-storage : (planes : List Plane) (type : Ty) (spot : FieldSpot) → begin_at spot + bits_of planes (itself type) ≤ end_at (storage_of planes type) spot
ends-storage planes (ty.Node node desc) spot = let e = extent-node planes node desc in omega (arith, ap (λ x. x.size) e)
ends-storage planes (ty.Bits unit width) spot = omega arith
ends-storage planes type spot = omega arith

then-some : {X Y : Type 0} (o : Option X) (f : X → Option Y) (y : Y) → (o then f) ≡ Some y → (x : X) × (o ≡ Some x) × (f x ≡ Some y)
then-some None f y e = absurd (none-some y e)
then-some (Some x) f y e = (x, refl, e)

-- what there is of a field that has a name
record IsNamed (program : Program) (planes : List Plane) (node : TypeId) (p : Place) : Type 0 where
  s : Structure
  plane : Plane
  i : ℕ
  f : Field
  spot : FieldSpot
  has : HasStructure program node s
  laid : slice_get planes node.0 ≡ Some plane
  there : slice_get s.fields i ≡ Some f
  at : slice_get plane.fields i ≡ Some spot
  is : p ≡ place f.ty (begin_at spot)

named : (program : Program) (planes : List Plane) (node : TypeId) (name : List ℕ) (p : Place) → field_named program planes node name ≡ Some p → IsNamed program planes node p
named program planes node name p e =
    let a = then-some (slice_get program.structures node.0) _ p e in
    let b = then-some (slice_get planes node.0) _ p a.2 in
    let c = then-some (position_from (λ f. bytes_eq f.name name) 0 a.0.fields) _ p b.2 in
    let d = then-some (slice_get a.0.fields c.0) _ p c.2 in
    let g = then-some (slice_get b.0.fields c.0) _ p d.2 in
    record { s = a.0; plane = b.0; i = c.0; f = d.0; spot = g.0; has = a.1; laid = b.1; there = d.1; at = g.1; is = sym (same_Some (place d.0.ty (begin_at g.0)) p g.2) }

ends-named : (program : Program) (layouts : Layouts) → PlacesHold program layouts → (node : TypeId) (p : Place) (n : IsNamed program layouts.structures node p) → EndsBy layouts.structures (8 * n.plane.size) p
ends-named program layouts hold node p n =
    let planes = layouts.structures in
    let field : slice_get (storages_of planes n.s.fields) n.i ≡ Some (storage_of planes n.f.ty) =
    slice_get-map (λ (f : Field). storage_of planes f.ty) n.s.fields n.i ∙ ap (option_map (λ (f : Field). storage_of planes f.ty)) n.there in
    let inside = (hold.structures node.0 n.s n.plane n.has n.laid).inside n.i (storage_of planes n.f.ty) n.spot field n.at in
    subst (EndsBy planes (8 * n.plane.size)) (sym n.is) (omega (arith, inside, ends-storage planes n.f.ty n.spot))

-- a field ends inside its structure
pub ends-inside : (program : Program) (layouts : Layouts) → Settled program → IsLaidOut program layouts → (node : TypeId) (name : List ℕ) (p : Place) → field_named program layouts.structures node name ≡ Some p
    → EndsBy layouts.structures (bits_of layouts.structures (Some node)) p
ends-inside program layouts settled laid node name p e =
    let n = named program layouts.structures node name p e in
    let ends = ends-named program layouts (places_hold program layouts settled laid) node p n in
    subst (λ o. EndsBy layouts.structures (8 * (extent_of_plane o).size) p) (sym n.laid) ends

pub at-most : (n limit : ℕ) → ¬ (limit < n) → n ≤ limit
at-most n limit never = ⊎_elim (λ lt. absurd (never lt)) (λ le. le) (cases_lt limit n)

-- and a structure is no larger than the limit
pub ends-within : (program : Program) (layouts : Layouts) → Settled program → IsLaidOut program layouts → IsWithin program layouts → (node : TypeId) (name : List ℕ) (p : Place)
    → field_named program layouts.structures node name ≡ Some p → EndsBy layouts.structures (8 * MAX_SIZE) p
ends-within program layouts settled laid within node name p e =
    let n = named program layouts.structures node name p e in
    let ends : EndsBy layouts.structures (8 * n.plane.size) p = ends-named program layouts (places_hold program layouts settled laid) node p n in
    let small : n.plane.size ≤ MAX_SIZE = at-most n.plane.size MAX_SIZE (λ lt. within.structures node.0 (n.s, n.plane, n.has, n.laid, inl lt)) in
    omega (arith, ends, small)

-- a field of a structure that lies at a place
pub ends-on : (planes : List Plane) (limit : ℕ) (p next : Place) (node : TypeId) → EndsBy planes limit p → itself p.type ≡ Some node → EndsBy planes (bits_of planes (Some node)) next
    → EndsBy planes limit (place next.type (p.at + next.at))
ends-on planes limit p next node ends is inside =
    let room : p.at + bits_of planes (Some node) ≤ limit = subst (λ o. p.at + bits_of planes o ≤ limit) is ends in
    omega (arith, room, inside)

-- a root begins inside the static record
pub root-inside : (program : Program) (layouts : Layouts) → Settled program → IsLaidOut program layouts → IsWithin program layouts → (i : ℕ) (r : Root) (spot : FieldSpot) → slice_get program.roots i ≡ Some r
    → slice_get layouts.statics.fields i ≡ Some spot → begin_at spot ≤ 8 * MAX_SIZE
root-inside program layouts settled laid within i r spot there at =
    let planes = layouts.structures in
    let field : slice_get (root_storages planes program.roots) i ≡ Some (storage_of planes r.ty) =
    slice_get-map (λ (r : Root). storage_of planes r.ty) program.roots i ∙ ap (option_map (λ (r : Root). storage_of planes r.ty)) there in
    let inside = (places_hold program layouts settled laid).statics.inside i (storage_of planes r.ty) spot field at in
    omega (arith, inside, ends-storage planes r.ty spot, within.statics)
