-- The rows of fields give the edges of the values of a struct.
use Rattle.std.proofs.Common.{◌≡◌, ℕ, ◌+◌, false, List, [], ◌∷◌, ◌++◌, map, refl, ap, sym, subst, ◌∙◌, arith, Option, Some, None}
use Rattle.std.specs.Prelude.{All, Contains, slice_get, option_to_list}
use Rattle.std.proofs.lemmas.List.Elements.{All-head, All-tail, All-map, All-weaker, All-contains_itself, filter_map-append}
use Rattle.gt_types.specs.declared.expressions.Expr.{Expr}
use Rattle.gt_types.specs.declared.types.TypeId.{TypeId}
use Rattle.gt_types.specs.declared.types.Ty.{Ty}
use Rattle.gt_types.specs.declared.types.Ty.TheVariants as ty
use Rattle.gt_types.specs.declared.program.Field.{Field}
use Rattle.gt_types.specs.declared.program.Structure.{Structure}
use Rattle.gt_types.specs.declared.program.Program.{Program}
use Rattle.gt_types.specs.Contains.{HasStructure}
use Rattle.gt_types.specs.Settled.{Settled}
use Rattle.gt_layout.specs.declared.planes.Plane.{Plane}
use Rattle.gt_layout.specs.declared.planes.FieldSpot.{FieldSpot}
use Rattle.gt_layout.specs.Storages.{storage_of, storages_of}
use Rattle.gt_layout.specs.Places.{Follow, begin_at, spot_of, end_at, Lie}
use Rattle.gt_layout.specs.Planes.{IsPlane}
use Rattle.gt_layout.specs.Progress.{HoldsWithinDepth}
use Rattle.gt_layout.proofs.Capacities.{shallow_fields}
use Rattle.gt_tree.specs.Trees.{Tree, Rec, Trees, And}
use Rattle.gt_tree.specs.Blocks.{Blocks}
use Rattle.gt_tree.specs.Scopes.{inside}
use Rattle.gt_tree.specs.Fits.{Fits, types_of}
use Rattle.gt_tree.specs.Leaves.{Leaf, HasLeaves, FieldsHaveLeaves}
use Rattle.gt_tree.proofs.Types.{is_bits}
use Rattle.gt_tree.proofs.Fitting.{fits-struct, fits-more}
use Rattle.gt_value.specs.declared.sources.Around.{Around}
use Rattle.gt_value.specs.declared.sources.Source.{Source}
use Rattle.gt_value.specs.Reading.{entered}
use Rattle.gt_value.specs.Finding.{StandsIn, FieldsStandIn}
use Rattle.gt_value.proofs.StandingParts.{struct-in}
use Rattle.gt_value.proofs.StandingSteps.{fields-step, fields-first, fields-others}
use Rattle.gt_walk.specs.declared.rows.WalkRow.{WalkRow}
use Rattle.gt_walk.specs.declared.tables.Tables.{Tables}
use Rattle.gt_walk.specs.Rows.{Frame}
use Rattle.gt_walk.specs.Visiting.{rows_at, arm_row}
use Rattle.gt_edges.specs.Edges.{edge_of}
use Rattle.gt_edges.specs.Walks.{Around as Nodes}
use Rattle.gt_edges.proofs.TypeFacts.{Known, known-field}
use Rattle.gt_edges.proofs.RowLaws.{base, edges_in, Valued, FieldsValued, AreEven, RowLaw, RowsLaw, FieldsLaw}

-- ---- what is no bit-field begins at a byte

storage-even : (planes : List Plane) (type : Ty) (s : FieldSpot) → s ≡ spot_of (storage_of planes type) (begin_at s) → is_bits type ≡ false → s.bit ≡ 0
storage-even planes (ty.Bits unit width) s e plain = absurd (cc)
storage-even planes type s e plain = ap (λ x. x.bit) e

pub fields-even : {X : Type 0} (planes : List Plane) (type_of : X → Ty) (xs : List X) (spots : List FieldSpot) (from : ℕ) → Follow from (map (λ x. storage_of planes (type_of x)) xs) spots → AreEven (map type_of xs) spots
fields-even planes type_of [] spots from follow = tt
fields-even planes type_of (x ∷ xs) [] from follow = tt
fields-even planes type_of (x ∷ xs) (s ∷ ss) from follow = (storage-even planes (type_of x) s follow.1, fields-even planes type_of xs ss (end_at (storage_of planes (type_of x)) s) follow.2)

struct-even : (planes : List Plane) (s : Structure) (plane : Plane) → IsPlane planes s plane → s.is_union ≡ false → AreEven (types_of s.fields) plane.fields
struct-even planes s plane is struct = fields-even planes (λ (f : Field). f.ty) s.fields plane.fields 0 (subst (λ u. Lie u (storages_of planes s.fields) plane.fields) struct is.places)

-- ---- leaves

struct-leaves : {program : Program} {planes : List Plane} {at : ℕ} (node : TypeId) (desc : Option Expr) (s : Structure) (plane : Plane) (trees : Trees) (ls : List Leaf) → HasStructure program node s
    → slice_get planes node.0 ≡ Some plane → HasLeaves program planes at (ty.Node node desc) (Rec trees) ls → FieldsHaveLeaves program planes at (types_of s.fields) plane.fields trees ls
struct-leaves {program} {planes} {at} node desc s plane trees ls has laid (HasLeaves.struct {s = other} {plane = flat} h u g fields) =
    let same : other ≡ s = cc in
    let even : flat ≡ plane = cc in
    subst (λ p. FieldsHaveLeaves program planes at (types_of s.fields) p.fields trees ls) even (subst (λ x. FieldsHaveLeaves program planes at (types_of x.fields) flat.fields trees ls) same fields)

-- ---- fields

module _ (source : Source) (tables : Tables) (blocks : Blocks) (capacity : ℕ) where
  pub fields-none : (nodes : Nodes) → FieldsLaw source tables blocks capacity nodes [] [] []
  fields-none nodes depth around f at values leaves frame v shallow even is = go values leaves v.have
    where
      go : (trees : Trees) (ls : List Leaf) → FieldsHaveLeaves source.program.now source.layouts.now.structures at [] [] trees ls → [] ≡ edges_in source blocks ls
      go trees ls FieldsHaveLeaves.none = refl

  row-first : (depth : ℕ) (r : Option WalkRow) (rows : List WalkRow) (f : Frame) → rows_at tables source.space.now depth (option_to_list r ++ rows) f ≡ arm_row tables source.space.now depth r f ++ rows_at tables source.space.now depth rows f
  row-first depth None rows f = refl
  row-first depth (Some r) rows f = refl

  module _ (nodes : Nodes) (type : Ty) (types : List Ty) (spot : FieldSpot) (spots : List FieldSpot) (r : Option WalkRow) (rows : List WalkRow) where
    field-valued : (around : Around) (at : ℕ) (tree : Tree) (trees : Trees) (leaves first : List Leaf) → FieldsValued source blocks capacity around (type ∷ types) (spot ∷ spots) at (And tree trees) leaves
        → HasLeaves source.program.now source.layouts.now.structures (at + begin_at spot) type tree first → Valued source blocks capacity around type (at + begin_at spot) tree first
    field-valued around at tree trees leaves first v part =
        let s = v.stand in
        let step = fields-step source around type types spot spots at (And tree trees) s.0 in
        let same : step.tree ≡ tree = let e = step.is in cc in
        record {
          scope = v.scope;
          stands = subst (λ x. StandsIn source around v.scope type (at + begin_at spot) x) same (step.first, fields-first source around type types spot spots at (And tree trees) s.0 ∙ s.1);
          fits = (fits-more type types tree trees v.fit).0;
          has = part;
          whole = v.whole;
          known = All-head (Known source) type types v.known;
        }

    rest-valued : (around : Around) (at : ℕ) (tree : Tree) (trees : Trees) (leaves rest : List Leaf) → FieldsValued source blocks capacity around (type ∷ types) (spot ∷ spots) at (And tree trees) leaves
        → FieldsHaveLeaves source.program.now source.layouts.now.structures at types spots trees rest → FieldsValued source blocks capacity around types spots at trees rest
    rest-valued around at tree trees leaves rest v parts =
        let s = v.stand in
        let step = fields-step source around type types spot spots at (And tree trees) s.0 in
        let same : step.rest ≡ trees = let e = step.is in cc in
        record {
          scope = v.scope;
          stand = subst (λ x. FieldsStandIn source around v.scope types spots at x) same (step.others, fields-others source around type types spot spots at (And tree trees) s.0 ∙ s.1);
          fit = (fits-more type types tree trees v.fit).1;
          have = parts;
          whole = v.whole;
          known = All-tail (Known source) type types v.known;
        }

    pub fields-more : RowLaw source tables blocks capacity nodes type spot.offset r → FieldsLaw source tables blocks capacity nodes types spots rows
        → FieldsLaw source tables blocks capacity nodes (type ∷ types) (spot ∷ spots) (option_to_list r ++ rows)
    fields-more law laws depth around f at values leaves frame v shallow even is = go values leaves v v.have
      where
        go : (trees : Trees) (ls : List Leaf) → FieldsValued source blocks capacity around (type ∷ types) (spot ∷ spots) at trees ls
            → FieldsHaveLeaves source.program.now source.layouts.now.structures at (type ∷ types) (spot ∷ spots) trees ls
            → rows_at tables source.space.now depth (option_to_list r ++ rows) f ≡ edges_in source blocks ls
        go trees ls w (FieldsHaveLeaves.more {tree} {trees = others} {first} {rest} part parts) =
            let P = λ (t : Ty). HoldsWithinDepth source.program.now t depth in
            row-first depth r rows f
            ∙ ap (λ xs. xs ++ rows_at tables source.space.now depth rows f)
            (law depth around f (at + begin_at spot) tree first frame (field-valued around at tree others (first ++ rest) first w part) (All-head P type types shallow) (λ plain. let zero_bit = even.0 plain in omega (arith, is, zero_bit)))
            ∙ ap (λ xs. edges_in source blocks first ++ xs)
            (laws depth around f at others rest frame (rest-valued around at tree others (first ++ rest) rest w parts) (All-tail P type types shallow) even.1 is)
            ∙ sym (filter_map-append (edge_of source.program.now blocks (base source)) first rest)

  -- ---- structs

  known-fields : (node : TypeId) (s : Structure) → Settled source.program.now → HasStructure source.program.now node s → All (Known source) (types_of s.fields)
  known-fields node s settled has =
      All-map (Known source) (λ (f : Field). f.ty) s.fields
      (All-weaker (Contains s.fields) (λ (f : Field). Known source f.ty) (λ f c. known-field source settled node s f has c) s.fields (All-contains_itself s.fields))

  pub struct-rows : (nodes : Nodes) (node : TypeId) (desc : Option Expr) (s : Structure) (plane : Plane) (rows : List WalkRow) → HasStructure source.program.now node s → s.is_union ≡ false
      → slice_get source.layouts.now.structures node.0 ≡ Some plane → FieldsLaw source tables blocks capacity nodes (types_of s.fields) plane.fields rows → RowsLaw source tables blocks capacity nodes node desc rows
  struct-rows nodes node desc s plane rows has struct laid law depth around f at value leaves frame v shallow is =
      let x = v.stands.0.context in
      let p = struct-in source around node desc at s has v.scope plane value struct laid v.stands in
      let fits = subst (Fits source.program.now blocks capacity v.scope (ty.Node node desc)) p.is v.fits in
      let leaved = subst (λ t. HasLeaves source.program.now source.layouts.now.structures at (ty.Node node desc) t leaves) p.is v.has in
      law depth (entered around node at) f at p.trees leaves frame
      (record {
        scope = inside v.scope node (Rec p.trees);
        stand = p.stand;
        fit = fits-struct node desc s p.trees has fits;
        have = struct-leaves node desc s plane p.trees leaves has laid leaved;
        whole = v.whole;
        known = known-fields node s x.settled has;
      })
      (All-map (λ type. HoldsWithinDepth source.program.now type depth) (λ (g : Field). g.ty) s.fields (shallow_fields source.program.now node.0 depth s s.fields x.settled has shallow refl))
      (struct-even source.layouts.now.structures s plane (x.laid.structures.each node.0 s plane has laid) struct)
      is
