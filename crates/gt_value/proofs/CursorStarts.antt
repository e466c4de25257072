-- Where cursors begin.
use Rattle.std.proofs.Common.{◌≡◌, ℕ, zero, suc, List, ◌∷◌, ◌+◌, ◌-◌, ◌^◌, ◌<◌, [], map, refl, ap, sym, subst, ◌∙◌, arith, Some, None}
use Rattle.std.specs.Prelude.{slice_get}
use Rattle.gt_types.specs.declared.program.Root.{Root}
use Rattle.gt_types.specs.declared.program.Program.{Program}
use Rattle.gt_types.specs.declared.types.Ty.{Ty}
use Rattle.gt_types.specs.Settled.{Settled}
use Rattle.gt_layout.specs.declared.planes.Layouts.{Layouts}
use Rattle.gt_space.specs.Range.{Range, IsInside}
use Rattle.gt_layout.specs.declared.planes.FieldSpot.{FieldSpot}
use Rattle.gt_layout.specs.Places.{begin_at}
use Rattle.gt_layout.specs.Planes.{IsLaidOut}
use Rattle.gt_tree.specs.Trees.{Tree, Rec, Trees, tree_at}
use Rattle.gt_tree.specs.Blocks.{Blocks}
use Rattle.gt_tree.specs.Scopes.{Scope, outside}
use Rattle.gt_tree.specs.Fits.{AllFit, StaticsFit}
use Rattle.gt_tree.specs.Reshapes.{LeadsToLeaf}
use Rattle.gt_tree.proofs.PathParts.{get-map}
use Rattle.gt_value.specs.declared.cursors.Cursor.{Cursor}
use Rattle.gt_value.specs.declared.sources.Source.{Source}
use Rattle.gt_value.specs.Bytes.{StandForStatics}
use Rattle.gt_value.specs.Reading.{outside_all, end_from}
use Rattle.gt_value.specs.Finding.{StandsIn}
use Rattle.gt_value.specs.Places.{Part, PartLies}
use Rattle.gt_value.specs.Cursors.{Frame, IsRead, IsAtPart, IsAt}
use Rattle.gt_value.proofs.FindingSteps.{FieldAt, field-at, part-none}
use Rattle.gt_value.proofs.StandingStarts.{roots-start}

fit-none : {program : Program} {blocks : Blocks} {capacity : ℕ} {scope : Scope} {types : List Ty} {values : Trees} → AllFit program blocks capacity scope types values → (i : ℕ) → slice_get types i ≡ None → tree_at values i ≡ None
fit-none AllFit.none i e = refl
fit-none (AllFit.more fits all) zero e = absurd (cc)
fit-none (AllFit.more fits all) (suc i) e = fit-none all i e

types-none : (roots : List Root) (i : ℕ) → slice_get roots i ≡ None → slice_get (map (λ (r : Root). r.ty) roots) i ≡ None
types-none [] i e = refl
types-none (r ∷ rs) zero e = absurd (cc)
types-none (r ∷ rs) (suc i) e = types-none rs i e

-- where there is no root, no path leads to a leaf
pub no-root : (program : Program) (blocks : Blocks) (values : Trees) (i : ℕ) (rest : List ℕ) → StaticsFit program blocks values → slice_get program.roots i ≡ None → ¬ LeadsToLeaf (Rec values) (i ∷ rest)
no-root program blocks values i rest fit none (leaf, there, word) = let gone = part-none values i rest (fit-none fit i (types-none program.roots i none)) in absurd (cc)

-- a source by the parts of which it was made
module _ (source : Source) (program : Program) (layouts : Layouts) (range : Range) (p : source.program.now ≡ program) (l : source.layouts.now ≡ layouts) (s : source.space.now ≡ range)
    (settled : Settled program) (laid : IsLaidOut program layouts) (small : end_from source.space.now source.from < 2 ^ 32) (from : source.from ≡ range.start - range.start) (inside : IsInside range range.start layouts.statics.size)
    (i : ℕ) (r : Root) (values : Trees) (stand : StandForStatics program layouts range values) (got : slice_get program.roots i ≡ Some r) where
  field : FieldAt source outside_all (outside values) r.ty source.layouts.now.statics.fields 0 values i
  field =
      let here = subst (λ x. slice_get x.roots i ≡ Some r) (sym p) got in
      field-at source outside_all (outside values) (map (λ (x : Root). x.ty) source.program.now.roots) source.layouts.now.statics.fields 0 values i r.ty
      (get-map (λ (x : Root). x.ty) source.program.now.roots i r here) (roots-start source program layouts range p l s settled laid small values from inside stand)

  -- a root has a place
  pub no-spot : slice_get layouts.statics.fields i ≡ None → ⊥
  no-spot none =
      let here = subst (λ x. slice_get x.statics.fields i ≡ None) (sym l) none in
      let a = field.spot_of in
      absurd (cc)

  -- the value of a root stands at its place
  pub root-at : (spot : FieldSpot) → slice_get layouts.statics.fields i ≡ Some spot → (tree : Tree) × (tree_at values i ≡ Some tree) × StandsIn source outside_all (outside values) r.ty (begin_at spot) tree
  root-at spot spot_of =
      let here = subst (λ x. slice_get x.statics.fields i ≡ Some spot) (sym l) spot_of in
      let f = field in
      let spots : f.spot ≡ spot = let a = f.spot_of in cc in
      let begin : 0 + begin_at f.spot ≡ begin_at spot = let e : 0 + begin_at f.spot ≡ begin_at f.spot = omega arith in e ∙ ap begin_at spots in
      (f.tree, f.there, subst (λ k. StandsIn source outside_all (outside values) r.ty k f.tree) begin f.stands)

-- a cursor at the whole of a value
pub at-start : (at : Frame) (c : Cursor) (value : Part) → IsRead at c.source → IsAtPart c value → StandsIn c.source c.site.around value.scope c.ty.now c.at value.tree → IsAt at c value []
at-start at c value read is stands = record { p = value; lies = PartLies.whole; there = refl; is = is; read = read; stands = stands }
