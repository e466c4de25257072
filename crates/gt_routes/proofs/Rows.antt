-- Steps to elements of arrays.
use Rattle.std.proofs.Common.{◌≡◌, ◌<◌, ◌≤◌, ◌+◌, ◌*◌, ℕ, zero, suc, List, [], ◌∷◌, ◌++◌, true, refl, ap, subst, sym, ◌∙◌, arith, Option, Some, None}
use Rattle.gt_types.specs.declared.types.Ty.{Ty, out-Ty}
use Rattle.gt_types.specs.declared.types.Ty.TheOpen as part
use Rattle.gt_types.specs.declared.types.Ty.TheOpen.{Ty-F}
use Rattle.gt_types.specs.declared.types.Ty.TheVariants as ty
use Rattle.gt_types.specs.declared.program.Program.{Program}
use Rattle.gt_types.specs.Settled.{Settled}
use Rattle.gt_layout.specs.Storages.{extent_of}
use Rattle.gt_script.specs.declared.command.Hop.TheVariants.{Index}
use Rattle.gt_tree.specs.Trees.{Tree, Row, Trees, End, And, count, tree_at}
use Rattle.gt_tree.specs.Scopes.{typed}
use Rattle.gt_value.specs.declared.cursors.Cursor.{Cursor}
use Rattle.gt_value.specs.Places.{Part, PartLies}
use Rattle.gt_value.specs.Cursors.{Frame, IsAt, IsNoPart, count_of}
use Rattle.gt_value.proofs.StandingParts.{array-stands, tail-stands}
use Rattle.gt_value.proofs.CursorPaths.{lies-on, lies-after}
use Rattle.gt_next.specs.Spots.{element_at, element_of}
use Rattle.gt_next.specs.Paths.{StepsIn, RefusesIn, is_some_type}
use Rattle.std.specs.Prelude.{Result, Err}
use Rattle.gt_script.specs.declared.command.Hop.{Hop}
use Rattle.gt_next.specs.declared.answer.Why.{Why}
use Rattle.gt_next.specs.declared.answer.Why.TheVariants.{BadIndex}
use Rattle.gt_routes.specs.declared.steps.Step.{Step}
use Rattle.gt_routes.specs.Steps.{StandsAt, StepsTo}
use Rattle.gt_routes.proofs.TypedParts.{IsNamedIn, typed-after, one-typed}

some-elem : (o : Option Ty) → is_some_type o ≡ true → (elem : Ty) × (o ≡ Some elem)
some-elem None e = absurd (cc)
some-elem (Some elem) e = (elem, refl)

elem-there : (trees : Trees) (i : ℕ) → i < count trees → (tree : Tree) × (tree_at trees i ≡ Some tree)
elem-there End i lt = absurd (omega (arith, lt))
elem-there (And tree trees) zero lt = (tree, refl)
elem-there (And tree trees) (suc i) lt = elem-there trees i (omega (arith, lt))

-- the element of a row at a place
abbrev elem-part : Frame → Part → ℕ → Ty → Tree → Part
elem-part at p place elem tree = record {
  bit = p.bit + place * (8 * (extent_of at.layouts.structures elem).size);
  type = elem;
  holder = p.holder;
  scope = p.scope;
  active = p.active;
  tree = tree;
}

module _ (at : Frame) (value : Part) (path : List ℕ) (c : Cursor) (here : StandsAt at value path c) (settled : Settled at.program) (row : is_some_type (element_of c.ty.now) ≡ true) where
  -- what stands there is a row
  is-row : (trees : Trees) × (here.here.p.tree ≡ Row trees)
  is-row = go (out-Ty c.ty.now) refl
    where
      go : (x : Ty-F Ty) → out-Ty c.ty.now ≡ x → (trees : Trees) × (here.here.p.tree ≡ Row trees)
      go (part.Arr n elem) e = let r = array-stands c.source c.site.around c.ty.now elem c.at n here.here.p.tree e here.here.stands.0 in (r.trees, r.is)
      go (part.Tail len elem) e = let t = tail-stands c.source c.site.around c.ty.now elem c.at len here.here.p.tree e here.here.stands.0 in (t.row.trees, t.row.is)
      go (part.Num scalar) e = let a = ap (λ x. is_some_type (element_at x)) e in absurd (cc)
      go (part.Bits unit width) e = let a = ap (λ x. is_some_type (element_at x)) e in absurd (cc)
      go (part.Opaque size align) e = let a = ap (λ x. is_some_type (element_at x)) e in absurd (cc)
      go (part.Str len) e = let a = ap (λ x. is_some_type (element_at x)) e in absurd (cc)
      go (part.Ptr target kind reorder) e = let a = ap (λ x. is_some_type (element_at x)) e in absurd (cc)
      go (part.Node node desc) e = let a = ap (λ x. is_some_type (element_at x)) e in absurd (cc)

  elem-of : (elem : Ty) × (element_of here.here.p.type ≡ Some elem)
  elem-of = let e = some-elem (element_of c.ty.now) row in (e.0, ap element_of (sym here.here.is.type_is) ∙ e.1)

  -- an element below the count is there
  pub element-leads : (next : Cursor) (place : ℕ) → place < count_of here.here.p.tree → IsAt at next value (path ++ place ∷ []) → StepsTo at value path c (Index place) next (place ∷ []) here
  element-leads next place lt there =
      let p = here.here.p in
      let r = is-row in
      let elem = elem-of in
      let below : place < count r.0 = omega (arith, lt, ap count_of r.1) in
      let lies = lies-after settled here.here.lies (place ∷ []) there.p there.lies in
      let named : IsNamedIn at.program p.type p.tree place there.p.type = subst (λ v. IsNamedIn at.program p.type v place there.p.type) (sym r.1) (row-named at.program p.type r.0 place there.p.type) in
      record {
        there = record { here = there; known = typed-after at.program value.type value.tree path (place ∷ []) (typed p.type p.tree) here.known ∙ one-typed lies named };
        steps = subst (λ v. StepsIn at.program (typed p.type v) (Index place) (place ∷ [])) (sym r.1) (StepsIn.to_element elem.1 below);
      }
    where
      row-named : (program : Program) (type : Ty) (trees : Trees) (i : ℕ) (kind : Ty) → IsNamedIn program type (Row trees) i kind
      row-named program (ty.Node node desc) trees i kind = tt
      row-named program type trees i kind = tt

  -- one at or after the count is refused
  pub element-refused : (place : ℕ) → count_of here.here.p.tree ≤ place → RefusesIn at.program (typed here.here.p.type here.here.p.tree) (Index place) BadIndex
  element-refused place le =
      let r = is-row in
      let elem = elem-of in
      subst (λ v. RefusesIn at.program (typed here.here.p.type v) (Index place) BadIndex) (sym r.1) (RefusesIn.no_element elem.1 (λ lt. absurd (omega (arith, lt, le, ap count_of r.1))))

  -- a place below the count is never without a part
  pub element-kept : (place : ℕ) → place < count_of here.here.p.tree → IsNoPart at value path place → ⊥
  element-kept place lt none =
      let r = is-row in
      let tree = elem-there r.0 place (omega (arith, lt, ap count_of r.1)) in
      go (out-Ty here.here.p.type) refl r.0 r.1 tree.0 tree.1 elem-of
    where
      go : (x : Ty-F Ty) → out-Ty here.here.p.type ≡ x → (trees : Trees) → here.here.p.tree ≡ Row trees → (tree : Tree) → tree_at trees place ≡ Some tree → (elem : Ty) × (element_of here.here.p.type ≡ Some elem) → ⊥
      go (part.Arr n elem) e trees is tree there some =
          let q = elem-part at here.here.p place elem tree in
          (none []).lies q (lies-on here.here.lies (place ∷ []) q
          (subst (λ v. PartLies at.program at.layouts.structures here.here.p.scope here.here.p.holder here.here.p.active here.here.p.bit here.here.p.type v (place ∷ []) q) (sym is) (PartLies.array e there PartLies.whole)))
      go (part.Tail len elem) e trees is tree there some =
          let q = elem-part at here.here.p place elem tree in
          (none []).lies q (lies-on here.here.lies (place ∷ []) q
          (subst (λ v. PartLies at.program at.layouts.structures here.here.p.scope here.here.p.holder here.here.p.active here.here.p.bit here.here.p.type v (place ∷ []) q) (sym is) (PartLies.tail e there PartLies.whole)))
      go x e trees is tree there some = let a = ap element_at e in let b = some.1 in absurd (cc)

abbrev pub failed : Why → Result Step Why
failed e = Err e

pub refused-as : (at : Frame) (p : Part) (hop : Hop) (here why : Why) → failed here ≡ failed why → RefusesIn at.program (typed p.type p.tree) hop here → RefusesIn at.program (typed p.type p.tree) hop why
refused-as at p hop here why e h = let same : here ≡ why = cc in subst (λ w. RefusesIn at.program (typed p.type p.tree) hop w) same h
