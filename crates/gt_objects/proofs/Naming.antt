-- Objects, their names and their blocks.
use Rattle.std.proofs.Common.{◌≡◌, ℕ, ◌==◌, List, Option, Some, None, option_map, refl, sym, ap, subst, ◌∙◌}
use Rattle.std.specs.Prelude.{Contains}
use Rattle.std.specs.Option.{option_map_or}
use Rattle.std.proofs.lemmas.Bool.{eq-eqb, eqb-true, ne_eqb}
use Rattle.std.proofs.lemmas.Option.{none-some}
use Rattle.std.proofs.lemmas.List.Elements.{All-contains}
use Rattle.gt_types.specs.declared.program.Program.{Program}
use Rattle.gt_layout.specs.declared.planes.Layouts.{Layouts}
use Rattle.gt_tree.specs.Blocks.{Block}
use Rattle.gt_graph.specs.Objects.{Object, object_of, block_of, blocks_of}
use Rattle.gt_graph.specs.Places.{Placed, Places, ArePlacesOf, address_in}
use Rattle.gt_objects.proofs.Items.{find_is, find_some, map_there, none_found, there_mapped}

pub mapped_some : {X Y : Type 0} (f : X → Y) (o : Option X) (y : Y) → option_map f o ≡ Some y → (x : X) × (o ≡ Some x) × (f x ≡ y)
mapped_some f None y e = absurd (none-some y e)
mapped_some f (Some x) y e = let is : f x ≡ y = cc in (x, refl, is)

-- ---- objects by their names

-- where an object has a name, one is found
pub object_found : (objects : List Object) (id : ℕ) (o : Object) → Contains objects o → o.id ≡ id → (q : Object) × (object_of objects id ≡ Some q) × Contains objects q × (q.id ≡ id)
object_found objects id o there is =
    let found = find_some (λ o. o.id == id) objects o there (eq-eqb o.id id is) in
    (found.0, found.1, found.2, eqb-true found.0.id id found.3)

-- what is found has the name
pub object_is : (objects : List Object) (id : ℕ) (o : Object) → object_of objects id ≡ Some o → Contains objects o × (o.id ≡ id)
object_is objects id o e = let found = find_is (λ o. o.id == id) objects o e in (found.0, eqb-true o.id id found.1)

pub no_object : (objects : List Object) (id : ℕ) → ((o : Object) → Contains objects o → o.id ≡ id → ⊥) → object_of objects id ≡ None
no_object objects id none = none_found (λ o. o.id == id) objects (λ o there. ne_eqb o.id id (none o there))

-- the object that a name means as a block
pub object_of_block : (objects : List Object) (id : ℕ) (b : Block) → blocks_of objects id ≡ Some b → (o : Object) × (object_of objects id ≡ Some o) × Contains objects o × (o.id ≡ id) × (block_of o ≡ b)
object_of_block objects id b e =
    let found = mapped_some block_of (object_of objects id) b e in
    let is = object_is objects id found.0 found.1 in
    (found.0, found.1, is.0, is.1, found.2)

-- ---- objects and their places

module _ {program : Program} {layouts : Layouts} {objects : List Object} {places : Places} (are : ArePlacesOf program layouts objects places) where
  pub placed_of : (o : Object) → Contains objects o → (p : Placed) × Contains places.placed p × (p.id ≡ o.id)
  placed_of o there =
      there_mapped (λ p. p.id) places.placed o.id (subst (λ ns. Contains ns o.id) (sym are.names) (map_there (λ o. o.id) objects o there))

  pub object_in : (p : Placed) → Contains places.placed p → (o : Object) × Contains objects o × (o.id ≡ p.id)
  object_in p there =
      there_mapped (λ o. o.id) objects p.id (subst (λ ns. Contains ns p.id) are.names (map_there (λ p. p.id) places.placed p there))

  pub name_is : (p : Placed) → Contains places.placed p → p.id ≡ p.block.address
  name_is p there = All-contains (λ p. p.id ≡ p.block.address) places.placed p are.by_address there

  -- the name of an object is its address
  pub address_named : (id : ℕ) (b : Block) → blocks_of objects id ≡ Some b → address_in places.placed id ≡ id
  address_named id b e =
      let o = object_of_block objects id b e in
      let p = placed_of o.0 o.2 in
      let found = find_some (λ p. p.id == id) places.placed p.0 p.1 (eq-eqb p.0.id id (p.2 ∙ o.3)) in
      ap (λ x. option_map_or (λ p. p.block.address) x 0) found.1 ∙ sym (name_is found.0 found.2) ∙ eqb-true found.0.id id found.3
