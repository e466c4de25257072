-- Steps to active members of unions.
use Rattle.std.proofs.Common.{◌≡◌, ℕ, List, [], ◌∷◌, ◌++◌, true, ap, subst, sym, ◌∙◌, arith, Option, Some}
use Rattle.std.specs.Prelude.{slice_get}
use Rattle.std.specs.Str.{bytes_eq}
use Rattle.gt_types.specs.declared.expressions.Expr.{Expr}
use Rattle.gt_types.specs.declared.types.TypeId.{TypeId}
use Rattle.gt_types.specs.declared.types.Ty.TheVariants as ty
use Rattle.gt_types.specs.declared.program.Structure.{Structure}
use Rattle.gt_types.specs.Contains.{HasStructure}
use Rattle.gt_types.specs.Settled.{Settled}
use Rattle.gt_script.specs.declared.command.Hop.TheVariants.{Name}
use Rattle.gt_tree.specs.Trees.{Tree, Num, Null, To, Raw, Rec, Alt, Row}
use Rattle.gt_tree.specs.Scopes.{inside, typed}
use Rattle.gt_tree.proofs.PathBits.{position-get}
use Rattle.gt_value.specs.declared.cursors.Cursor.{Cursor}
use Rattle.gt_value.specs.declared.places.Holder.TheVariants as lies_in
use Rattle.gt_value.specs.Places.{Part, PartLies}
use Rattle.gt_value.specs.Cursors.{Frame, IsAt, IsNoPart, member_of}
use Rattle.gt_value.proofs.CursorPaths.{lies-on, lies-after}
use Rattle.gt_next.specs.Paths.{StepsIn, place_of}
use Rattle.gt_routes.specs.Steps.{StandsAt, StepsTo}
use Rattle.gt_routes.proofs.TypedParts.{IsNamedIn, typed-after, one-typed}
use Rattle.gt_routes.proofs.Fields.{part-type}

-- a value with an active member is that of a union
pub alt-of : (tree : Tree) (place : ℕ) → member_of tree ≡ Some place → (inner : Tree) × (tree ≡ Alt (Some place) inner)
alt-of (Alt member inner) place e = (inner, ap (λ m. Alt m inner) e)
alt-of (Num n) place e = absurd (cc)
alt-of Null place e = absurd (cc)
alt-of (To id) place e = absurd (cc)
alt-of (Raw bytes) place e = absurd (cc)
alt-of (Rec trees) place e = absurd (cc)
alt-of (Row trees) place e = absurd (cc)

module _ (at : Frame) (value : Part) (path : List ℕ) (c : Cursor) (here : StandsAt at value path c) (settled : Settled at.program) (node : TypeId) (desc : Option Expr) (type : c.ty.now ≡ ty.Node node desc) where
  -- the active member
  pub member-there : (next : Cursor) (place : ℕ) → member_of here.here.p.tree ≡ Some place → IsAt at next value (path ++ place ∷ []) → StandsAt at value (path ++ place ∷ []) next
  member-there next place active there =
      let p = here.here.p in
      let alt = alt-of p.tree place active in
      let same = part-type at value path c here settled node desc type in
      let lies = lies-after settled here.here.lies (place ∷ []) there.p there.lies in
      let of_type : IsNamedIn at.program (ty.Node node desc) (Alt (Some place) alt.0) place there.p.type = tt in
      let of_tree = subst (λ v. IsNamedIn at.program (ty.Node node desc) v place there.p.type) (sym alt.1) of_type in
      let named = subst (λ t. IsNamedIn at.program t p.tree place there.p.type) same of_tree in
      record { here = there; known = typed-after at.program value.type value.tree path (place ∷ []) (typed p.type p.tree) here.known ∙ one-typed lies named }

module _ (at : Frame) (value : Part) (path : List ℕ) (c : Cursor) (here : StandsAt at value path c) (settled : Settled at.program) (node : TypeId) (desc : Option Expr) (type : c.ty.now ≡ ty.Node node desc)
    (s : Structure) (has : HasStructure at.program node s) (union : s.is_union ≡ true) (name : List ℕ) (place : ℕ) (found : place_of s name ≡ Some place) (active : member_of here.here.p.tree ≡ Some place) where
  -- a step to the active member
  pub member-leads : (next : Cursor) → IsAt at next value (path ++ place ∷ []) → StepsTo at value path c (Name name) next (place ∷ []) here
  member-leads next there =
      let p = here.here.p in
      let alt = alt-of p.tree place active in
      let same = part-type at value path c here settled node desc type in
      let steps = subst (λ v. StepsIn at.program (typed (ty.Node node desc) v) (Name name) (place ∷ [])) (sym alt.1) (StepsIn.to_active has union found) in
      record {
        there = member-there at value path c here settled node desc type next place active there;
        steps = subst (λ t. StepsIn at.program (typed t p.tree) (Name name) (place ∷ [])) same steps;
      }

  -- the active member is never without a part
  pub member-kept : IsNoPart at value path place → ⊥
  member-kept none =
      let p = here.here.p in
      let alt = alt-of p.tree place active in
      let same = part-type at value path c here settled node desc type in
      let first = position-get (λ f. bytes_eq f.name name) s.fields 0 place found in
      let is : first.0 ≡ place = omega (arith, first.2) in
      let got = subst (λ i. slice_get s.fields i ≡ Some first.1) is first.3 in
      let q : Part = record { bit = p.bit; type = first.1.ty; holder = lies_in.Field node place; scope = inside p.scope node (Alt (Some place) alt.0); active = p.active; tree = alt.0 } in
      let of_type = subst (λ t. PartLies at.program at.layouts.structures p.scope p.holder p.active p.bit t (Alt (Some place) alt.0) (place ∷ []) q) same (PartLies.member has union got PartLies.whole) in
      let of_tree = subst (λ v. PartLies at.program at.layouts.structures p.scope p.holder p.active p.bit p.type v (place ∷ []) q) (sym alt.1) of_type in
      (none []).lies q (lies-on here.here.lies (place ∷ []) q of_tree)
