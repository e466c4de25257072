-- The walk of a root gives the edges of the root.
use Rattle.std.proofs.Common.{◌≡◌, ℕ, zero, suc, ◌+◌, ◌-◌, false, List, [], ◌∷◌, refl, ap, sym, subst, ◌∙◌, arith, append-nil, Option, Some, None}
use Rattle.std.specs.Prelude.{slice_get, option_to_list}
use Rattle.std.proofs.lemmas.List.Elements.{All-contains}
use Rattle.gt_types.specs.declared.types.Ty.{Ty}
use Rattle.gt_types.specs.declared.program.Root.{Root}
use Rattle.gt_types.specs.declared.program.Program.{Program}
use Rattle.gt_types.specs.Settled.{Settled, IsRoot}
use Rattle.gt_layout.specs.declared.planes.Layouts.{Layouts}
use Rattle.gt_layout.specs.declared.planes.FieldSpot.{FieldSpot}
use Rattle.gt_layout.specs.Places.{begin_at}
use Rattle.gt_layout.specs.Planes.{IsLaidOut}
use Rattle.gt_space.specs.Range.{Range, IsSpace, statics_start}
use Rattle.gt_tree.specs.Trees.{Tree, Trees, tree_at}
use Rattle.gt_tree.specs.Blocks.{Blocks}
use Rattle.gt_tree.specs.Scopes.{Scope, outside}
use Rattle.gt_tree.specs.Fits.{Fits, AllFit, root_types}
use Rattle.gt_tree.specs.Leaves.{Leaf}
use Rattle.gt_tree.proofs.Types.{is_bits}
use Rattle.gt_tree.proofs.PathParts.{get-map}
use Rattle.gt_value.specs.declared.sources.Source.{Source}
use Rattle.gt_value.specs.Reading.{outside_all}
use Rattle.gt_value.specs.Finding.{StandsIn}
use Rattle.gt_value.proofs.CursorStarts.{root-at}
use Rattle.gt_value.proofs.PathWorths.{Contains-get}
use Rattle.gt_value.proofs.ZeroValues.{root-held}
use Rattle.gt_walk.specs.declared.rows.WalkRow.{WalkRow}
use Rattle.gt_walk.specs.declared.tables.Tables.{Tables}
use Rattle.gt_walk.specs.Rows.{frame_at, walk_edges}
use Rattle.gt_walk.specs.Visiting.{row_at, rows_at, arm_row}
use Rattle.gt_edges.specs.Edges.{HaveFew, edges_at, GivesRoots}
use Rattle.gt_edges.specs.Walks.{HasRowOfRoot, AreWalksOf}
use Rattle.gt_edges.proofs.TypeFacts.{known-root}
use Rattle.gt_edges.proofs.RowLaws.{edges_in, Valued, AreEven}
use Rattle.gt_edges.proofs.FieldRows.{fields-even}
use Rattle.gt_edges.proofs.RowsGive.{noted, row-gives}
use Rattle.gt_edges.proofs.Sources.{source_of, few-bits}

-- ---- one of the roots

fits-at : {program : Program} {blocks : Blocks} {capacity : ℕ} {scope : Scope} {types : List Ty} {values : Trees} → AllFit program blocks capacity scope types values → (i : ℕ) (type : Ty) (tree : Tree)
    → slice_get types i ≡ Some type → tree_at values i ≡ Some tree → Fits program blocks capacity scope type tree
fits-at AllFit.none i type tree e f = absurd (cc)
fits-at {program} {blocks} {capacity} {scope} (AllFit.more {type = t} {tree = v} fits all) zero type tree e f =
    let same : t ≡ type = cc in
    let equal : v ≡ tree = cc in
    subst (λ x. Fits program blocks capacity scope x tree) same (subst (Fits program blocks capacity scope t) equal fits)
fits-at (AllFit.more fits all) (suc i) type tree e f = fits-at all i type tree e f

even-at : (types : List Ty) (spots : List FieldSpot) (i : ℕ) (type : Ty) (spot : FieldSpot) → AreEven types spots → slice_get types i ≡ Some type → slice_get spots i ≡ Some spot → is_bits type ≡ false → spot.bit ≡ 0
even-at [] spots i type spot even e f plain = absurd (cc)
even-at (t ∷ types) [] i type spot even e f plain = absurd (cc)
even-at (t ∷ types) (s ∷ spots) zero type spot even e f plain =
    let same : type ≡ t = cc in
    let equal : s ≡ spot = cc in
    let zero_bit = even.0 (ap is_bits (sym same) ∙ plain) in
    ap (λ x. x.bit) (sym equal) ∙ zero_bit
even-at (t ∷ types) (s ∷ spots) (suc i) type spot even e f plain = even-at types spots i type spot even.1 e f plain

rows-line : (tables : Tables) (range : Range) (depth : ℕ) (line : Option WalkRow) → rows_at tables range depth (option_to_list line) (frame_at 0) ≡ arm_row tables range depth line (frame_at 0)
rows-line tables range depth None = refl
rows-line tables range depth (Some r) = append-nil (row_at tables range depth r (frame_at 0))

-- ---- its edges

module _ (program : Program) (layouts : Layouts) (tables : Tables) (settled : Settled program) (laid : IsLaidOut program layouts) (walks : AreWalksOf program layouts tables) (blocks : Blocks) (few : HaveFew blocks) (range : Range)
    (space : IsSpace range) (start : range.start ≡ statics_start layouts.statics.size) (place : ℕ) (r : Root) (spot : FieldSpot) (got : slice_get program.roots place ≡ Some r)
    (spot_of : slice_get layouts.statics.fields place ≡ Some spot) (tree : Tree) (leaves : List Leaf) where
  abbrev source : Source
  source = source_of program layouts range 0

  -- a root that is no bit-field begins at a byte
  root-even : is_bits r.ty ≡ false → spot.bit ≡ 0
  root-even = even-at (root_types program) layouts.statics.fields place r.ty spot (fields-even layouts.structures (λ (x : Root). x.ty) program.roots layouts.statics.fields 0 laid.statics.places)
      (get-map (λ (x : Root). x.ty) program.roots place r got) spot_of

  -- the walk of a root gives its edges
  root-walk : (walk : ℕ) → HasRowOfRoot program layouts tables r (statics_start layouts.statics.size + spot.offset) walk → Valued source blocks 0 outside_all r.ty (begin_at spot) tree leaves
      → walk_edges tables range (suc 33) walk (frame_at 0) ≡ edges_in source blocks leaves
  root-walk walk h v =
      noted source tables blocks 0 33 walk layouts.statics.size None (option_to_list h.line) (frame_at 0) h.is
      ∙ rows-line tables range 33 h.line
      ∙ row-gives source tables blocks 0 space few h.of_root 33 outside_all (frame_at 0) (begin_at spot) tree leaves (record { here = tt; outer = tt; outermost = tt }) v
      (root-held program settled r (All-contains (IsRoot program) program.roots r settled.roots (Contains-get program.roots place r got))) (λ plain. let zero_bit = root-even plain in omega (arith, start, zero_bit))

-- roots have the edges that the walks give
pub gives-roots : (program : Program) (layouts : Layouts) (tables : Tables) → Settled program → IsLaidOut program layouts → AreWalksOf program layouts tables → GivesRoots program layouts tables
gives-roots program layouts tables settled laid walks blocks range values place walk r spot tree leaves space addresses few start inside are got kept its_walk spot_of there has =
    let source = source_of program layouts range 0 in
    let from : 0 ≡ range.start - range.start = omega arith in
    let found = root-at source program layouts range refl refl refl settled laid (few-bits range 0 space) from inside place r values (record { blocks = blocks; addresses = addresses; are = are }) got spot spot_of in
    let same : found.0 ≡ tree = let other = found.1 in cc in
    let begin : range.start + 0 ≡ range.start = omega arith in
    root-walk program layouts tables settled laid walks blocks few range space start place r spot got spot_of tree leaves walk (walks.roots place walk r spot got kept its_walk spot_of)
    (record {
      scope = outside values;
      stands = subst (λ t. StandsIn source outside_all (outside values) r.ty (begin_at spot) t) same found.2;
      fits = fits-at are.fit place r.ty tree (get-map (λ (x : Root). x.ty) program.roots place r got) there;
      has = has;
      whole = refl;
      known = known-root source settled r (Contains-get program.roots place r got) start;
    })
    ∙ ap (λ k. edges_at program blocks k leaves) begin
