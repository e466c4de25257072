-- Steps to fields of structures that are no unions.
use Rattle.std.proofs.Common.{◌≡◌, ◌<◌, ◌+◌, ℕ, zero, suc, List, [], ◌∷◌, ◌++◌, false, length, refl, ap, subst, sym, ◌∙◌, arith, Option, Some, None}
use Rattle.std.specs.Prelude.{slice_get}
use Rattle.std.specs.Str.{bytes_eq}
use Rattle.std.proofs.lemmas.Iterator.Adapters.{position_from-zero}
use Rattle.std.proofs.lemmas.Option.{slice_get_within}
use Rattle.gt_types.specs.declared.expressions.Expr.{Expr}
use Rattle.gt_types.specs.declared.types.TypeId.{TypeId}
use Rattle.gt_types.specs.declared.types.Ty.TheVariants as ty
use Rattle.gt_types.specs.declared.program.Field.{Field}
use Rattle.gt_types.specs.declared.program.Structure.{Structure}
use Rattle.gt_types.specs.declared.program.Program.{Program}
use Rattle.gt_types.specs.Contains.{HasStructure}
use Rattle.gt_types.specs.Settled.{Settled}
use Rattle.gt_fields.specs.Places.{bind, place_in}
use Rattle.gt_layout.specs.declared.planes.Plane.{Plane}
use Rattle.gt_layout.specs.Places.{begin_at}
use Rattle.gt_script.specs.declared.command.Hop.TheVariants.{Name}
use Rattle.gt_tree.specs.Trees.{Rec, Trees}
use Rattle.gt_tree.specs.Scopes.{inside, typed}
use Rattle.gt_tree.specs.Fits.{types_of}
use Rattle.gt_tree.proofs.PathBits.{position-get}
use Rattle.gt_tree.proofs.PathParts.{get-map}
use Rattle.gt_value.specs.declared.cursors.Cursor.{Cursor}
use Rattle.gt_value.specs.declared.places.Holder.TheVariants as lies_in
use Rattle.gt_value.specs.Places.{Part, PartLies}
use Rattle.gt_value.specs.Reading.{entered}
use Rattle.gt_value.specs.Finding.{StandsIn, FieldsStandIn}
use Rattle.gt_value.specs.Cursors.{Frame, IsAt, IsNoPart}
use Rattle.gt_value.proofs.StandingParts.{struct-in}
use Rattle.gt_value.proofs.FindingSteps.{field-at, node-has}
use Rattle.gt_value.proofs.CursorPaths.{lies-on, lies-after}
use Rattle.gt_next.specs.Paths.{StepsIn, RefusesIn, place_of}
use Rattle.gt_next.specs.declared.answer.Why.TheVariants.{NoField}
use Rattle.gt_routes.specs.Steps.{StandsAt, StepsTo}
use Rattle.gt_routes.proofs.TypedParts.{IsNamedIn, typed-after, one-typed}

got-within : {X : Type 0} (xs : List X) (i : ℕ) → i < length xs → (x : X) × (slice_get xs i ≡ Some x)
got-within [] i lt = absurd (omega (arith, lt))
got-within (x ∷ xs) zero lt = (x, refl)
got-within (x ∷ xs) (suc i) lt = got-within xs i (omega (arith, lt))

-- the place that the names of fields give is that of the field of the name
pub place-is : (program : Program) (node : TypeId) (s : Structure) (name : List ℕ) (place : Option ℕ) → HasStructure program node s → place ≡ bind (slice_get program.structures node.0) (place_in name) → place_of s name ≡ place
place-is program node s name place has e = sym (e ∙ ap (λ o. bind o (place_in name)) has ∙ position_from-zero (λ f. bytes_eq f.name name) s.fields)

-- the fields of the structure at which a cursor stands
pub record FieldsThere (at : Frame) (c : Cursor) (p : Part) (node : TypeId) (s : Structure) : Type 0 where
  pub plane : Plane
  pub trees : Trees
  pub laid : slice_get at.layouts.structures node.0 ≡ Some plane
  pub is : p.tree ≡ Rec trees
  pub stand : FieldsStandIn c.source (entered c.site.around node c.at) (inside p.scope node (Rec trees)) (types_of s.fields) plane.fields c.at trees

module _ (at : Frame) (value : Part) (path : List ℕ) (c : Cursor) (here : StandsAt at value path c) (settled : Settled at.program) (node : TypeId) (desc : Option Expr) (type : c.ty.now ≡ ty.Node node desc) where
  pub node-there : StandsIn c.source c.site.around here.here.p.scope (ty.Node node desc) c.at here.here.p.tree
  node-there = subst (λ t. StandsIn c.source c.site.around here.here.p.scope t c.at here.here.p.tree) type here.here.stands

  pub part-type : ty.Node node desc ≡ here.here.p.type
  part-type = sym type ∙ here.here.is.type_is

  -- the program has the structure
  pub structure-there : (s : Structure) × HasStructure at.program node s
  structure-there =
      let known = node-has node desc here.here.p.tree node-there.0.fits in
      (known.0, subst (λ program. HasStructure program node known.0) here.here.read.program known.1)

  -- where no field has the name the step is refused
  pub field-refused : (s : Structure) (name : List ℕ) → HasStructure at.program node s → place_of s name ≡ None → RefusesIn at.program (typed here.here.p.type here.here.p.tree) (Name name) NoField
  field-refused s name has none = subst (λ t. RefusesIn at.program (typed t here.here.p.tree) (Name name) NoField) part-type (RefusesIn.no_field has none)

  module _ (s : Structure) (has : HasStructure at.program node s) (struct : s.is_union ≡ false) where
    pub fields-there : FieldsThere at c here.here.p node s
    fields-there =
        let has_read = subst (λ program. HasStructure program node s) (sym here.here.read.program) has in
        let within = slice_get_within c.source.program.now.structures node.0 s has_read in
        let plane = got-within c.source.layouts.now.structures node.0 (omega (arith, within, node-there.0.context.laid.structures.all)) in
        let parts = struct-in c.source c.site.around node desc c.at s has_read here.here.p.scope plane.0 here.here.p.tree struct plane.1 node-there in
        record { plane = plane.0; trees = parts.trees; laid = subst (λ l. slice_get l.structures node.0 ≡ Some plane.0) here.here.read.layouts plane.1; is = parts.is; stand = parts.stand }

    -- the field at a place
    pub field-there : (next : Cursor) (place : ℕ) → IsAt at next value (path ++ place ∷ []) → StandsAt at value (path ++ place ∷ []) next
    field-there next place there =
        let p = here.here.p in
        let lies = lies-after settled here.here.lies (place ∷ []) there.p there.lies in
        let of_type : IsNamedIn at.program (ty.Node node desc) (Rec fields-there.trees) place there.p.type = tt in
        let of_tree = subst (λ v. IsNamedIn at.program (ty.Node node desc) v place there.p.type) (sym fields-there.is) of_type in
        let named = subst (λ t. IsNamedIn at.program t p.tree place there.p.type) part-type of_tree in
        record { here = there; known = typed-after at.program value.type value.tree path (place ∷ []) (typed p.type p.tree) here.known ∙ one-typed lies named }

    -- a step to the field of the name
    pub field-leads : (next : Cursor) (name : List ℕ) (place : ℕ) → place_of s name ≡ Some place → IsAt at next value (path ++ place ∷ []) → StepsTo at value path c (Name name) next (place ∷ []) here
    field-leads next name place found there =
        let p = here.here.p in
        record {
          there = field-there next place there;
          steps = subst (λ t. StepsIn at.program (typed t p.tree) (Name name) (place ∷ [])) part-type (StepsIn.to_field has struct found);
        }

    -- a field is never without a part
    pub field-part : (place : ℕ) (f : Field) → slice_get s.fields place ≡ Some f → IsNoPart at value path place → ⊥
    field-part place f got none =
        let p = here.here.p in
        let fields = fields-there in
        let field = field-at c.source (entered c.site.around node c.at) (inside p.scope node (Rec fields.trees)) (types_of s.fields) fields.plane.fields c.at fields.trees place f.ty (get-map (λ (g : Field). g.ty) s.fields place f got) fields.stand in
        let q : Part = record { bit = p.bit + begin_at field.spot; type = f.ty; holder = lies_in.Field node place; scope = inside p.scope node (Rec fields.trees); active = p.active; tree = field.tree } in
        let of_type = subst (λ t. PartLies at.program at.layouts.structures p.scope p.holder p.active p.bit t (Rec fields.trees) (place ∷ []) q) part-type
        (PartLies.field has struct fields.laid got field.spot_of field.there PartLies.whole) in
        let of_tree = subst (λ v. PartLies at.program at.layouts.structures p.scope p.holder p.active p.bit p.type v (place ∷ []) q) (sym fields.is) of_type in
        (none []).lies q (lies-on here.here.lies (place ∷ []) q of_tree)

    pub field-kept : (name : List ℕ) (place : ℕ) → place_of s name ≡ Some place → IsNoPart at value path place → ⊥
    field-kept name place found none =
        let first = position-get (λ f. bytes_eq f.name name) s.fields 0 place found in
        let same : first.0 ≡ place = omega (arith, first.2) in
        field-part place first.1 (subst (λ i. slice_get s.fields i ≡ Some first.1) same first.3) none
