-- The expressions of rows are worth what those of the program are, in frames that stand where values do.
use Rattle.std.proofs.Common.{◌≡◌, ℕ, ◌+◌, ◌*◌, ◌<◌, false, cond, nat_le, List, [], All, refl, ap, sym, ◌∙◌, arith, Option, Some, None, ◌⊎◌, inl, inr}
use Rattle.std.specs.Prelude.{ℤ, slice_get}
use Rattle.std.proofs.lemmas.List.Elements.{All-nil, All-same}
use Rattle.gt_types.specs.declared.expressions.Base.{Base}
use Rattle.gt_types.specs.declared.expressions.Base.TheVariants.{Here, Outer, Outermost}
use Rattle.gt_types.specs.declared.expressions.Expr.{Expr}
use Rattle.gt_types.specs.declared.types.TypeId.{TypeId}
use Rattle.gt_types.specs.Values.{value_of, within_i64}
use Rattle.gt_types.specs.Paths.{roots_of}
use Rattle.gt_layout.specs.Places.{begin_at}
use Rattle.gt_space.specs.Range.{Range, statics_start}
use Rattle.gt_tree.specs.Scopes.{◌then◌}
use Rattle.gt_value.specs.declared.sources.Anchor.{Anchor}
use Rattle.gt_value.specs.declared.sources.Shape.{Shape}
use Rattle.gt_value.specs.declared.sources.Around.{Around}
use Rattle.gt_value.specs.declared.sources.Source.{Source}
use Rattle.gt_value.specs.Reading.{Place, place, shape_of, number_in, end_from, walk_to, path_worth, root_worth, number_from, bits_number, bits_from}
use Rattle.gt_walk.specs.declared.rows.Origin.{Origin}
use Rattle.gt_walk.specs.declared.rows.Origin.TheVariants.{Inside, Zero}
use Rattle.gt_walk.specs.declared.rows.RowExpr.{RowExpr}
use Rattle.gt_walk.specs.Rows.{Frame, origin_of, number_at, leaf_value, row_value}
use Rattle.gt_edges.specs.Walks.{Around as Nodes, place_named, leaf_at, leaf_of, path_leaf, root_leaf, IsRowExpr}
use Rattle.gt_edges.proofs.Chained.{then-same, then-then, then-none}
use Rattle.gt_edges.proofs.LeafNumbers.{leaf-number}
use Rattle.gt_edges.proofs.PathLeaves.{path-read}
use Rattle.gt_edges.proofs.Translated.{translated}

-- ---- frames

-- a structure of this node stands at a bit, and the frame has its address
abbrev pub IsAnchor : Source → Option Anchor → Option TypeId → Option ℕ → Type 0
IsAnchor source None None None = Unit {0}
IsAnchor source (Some a) (Some node) (Some address) = (a.node ≡ node) × (8 * address ≡ 8 * (source.space.now.start + source.from) + a.at)
IsAnchor source _ _ _ = ⊥

-- the structures around a place stand where the frame says
pub record IsFrame (source : Source) (around : Around) (nodes : Nodes) (f : Frame) : Type 0 where
  pub here : IsAnchor source around.here nodes.here f.here
  pub outer : IsAnchor source around.outer nodes.outer f.outer
  pub outermost : IsAnchor source around.outermost nodes.outermost f.outermost

-- ---- numbers past the end

shape-past : (range : Range) (from : ℕ) (p : Place) (s : Shape) → end_from range from < p.at
    → cond (nat_le (p.at + s.width) (end_from range from)) (Some (number_from s.signed s.width (bits_number (bits_from range from) p.at s.width))) None ≡ None
shape-past range from p s lt =
    let none : nat_le (p.at + s.width) (end_from range from) ≡ false = let low : end_from range from < p.at + s.width = omega (arith, lt) in grind (arith, low) in
    ap (λ b. cond b (Some (number_from s.signed s.width (bits_number (bits_from range from) p.at s.width))) None) none

number-past : (range : Range) (from : ℕ) (p : Place) → end_from range from < p.at → (number_in range from p then within_i64) ≡ None
number-past range from p lt = ap (λ o. o then within_i64) (then-none (shape_of p.type) _ (λ s. shape-past range from p s lt))

-- ---- leaves

-- a leaf of this origin, where the origin is an address
origin-read : (range : Range) (f : Frame) (origin : Origin) (begin : ℕ) (p : Place) → origin_of f origin ≡ Some begin
    → (leaf_at origin p then leaf_value range f) ≡ ((leaf_at origin p then λ l. number_at range (begin + l.offset) l) then within_i64)
origin-read range f origin begin p is =
    then-then (shape_of p.type) (λ s. Some (leaf_of origin p s)) (leaf_value range f)
    ∙ then-same (shape_of p.type) _ _ (λ s. ap (λ o. o then λ from. number_at range (from + (leaf_of origin p s).offset) (leaf_of origin p s) then within_i64) is)
    ∙ sym (then-then (shape_of p.type) (λ s. number_at range (begin + (leaf_of origin p s).offset) (leaf_of origin p s)) within_i64)
    ∙ ap (λ o. o then within_i64) (sym (then-then (shape_of p.type) (λ s. Some (leaf_of origin p s)) (λ l. number_at range (begin + l.offset) l)))

module _ (source : Source) where
  -- what a path of names reads at a bit
  abbrev read_to : Option Anchor → List (List ℕ) → Option ℤ
  read_to anchor steps =
      anchor then λ a. walk_to source.program.now source.layouts.now.structures (end_from source.space.now source.from) a steps then λ p. number_in source.space.now source.from p then within_i64

  base-read : (f : Frame) (base : Base) (anchor : Option Anchor) (node : Option TypeId) (address : Option ℕ) (steps : List (List ℕ)) → IsAnchor source anchor node address → origin_of f (Inside base) ≡ address
      → ((node then λ n. place_named source.program.now source.layouts.now.structures n steps then leaf_at (Inside base)) then leaf_value source.space.now f) ≡ read_to anchor steps
  base-read f base None None None steps at is = refl
  base-read f base (Some a) (Some node) (Some address) steps at is =
      let program = source.program.now in
      let planes = source.layouts.now.structures in
      let range = source.space.now in
      let from = source.from in
      let number = λ (p : Place). number_in range from p then within_i64 in
      then-then (place_named program planes node steps) (leaf_at (Inside base)) (leaf_value range f)
      ∙ then-same (place_named program planes node steps) _ _ (λ p.
      origin-read range f (Inside base) address p is
      ∙ ap (λ o. o then within_i64) (leaf-number range from address p.at (a.at + p.at) (let e = at.1 in omega (arith, e)) (Inside base) p.type))
      ∙ sym (path-read program planes (end_from range from) number (number-past range from) node a.at steps)
      ∙ ap (λ n. walk_to program planes (end_from range from) (record { node = n; at = a.at }) steps then number) (sym at.0)
  base-read f base None None (Some x) steps at is = absurd at
  base-read f base None (Some x) address steps at is = absurd at
  base-read f base (Some a) None address steps at is = absurd at
  base-read f base (Some a) (Some node) None steps at is = absurd at

  path-leaf : (around : Around) (nodes : Nodes) (f : Frame) → IsFrame source around nodes f → (base : Base) (steps : List (List ℕ))
      → (path_leaf source.program.now source.layouts.now nodes base steps then leaf_value source.space.now f) ≡ path_worth source around base steps
  path-leaf around nodes f frame Here steps = base-read f Here around.here nodes.here f.here steps frame.here refl
  path-leaf around nodes f frame Outer steps = base-read f Outer around.outer nodes.outer f.outer steps frame.outer refl
  path-leaf around nodes f frame Outermost steps = base-read f Outermost around.outermost nodes.outermost f.outermost steps frame.outermost refl

  -- the static record lies at the lowest address
  abbrev pub HasStatics : Type 0
  HasStatics = source.space.now.start ≡ statics_start source.layouts.now.statics.size

  root-leaf : HasStatics → (f : Frame) (i : ℕ) → (root_leaf source.program.now source.layouts.now i then leaf_value source.space.now f) ≡ root_worth source i
  root-leaf start f i =
      let range = source.space.now in
      let lowest = 8 * statics_start source.layouts.now.statics.size in
      then-then (slice_get source.program.now.roots i) _ (leaf_value range f)
      ∙ then-same (slice_get source.program.now.roots i) _ _ (λ r.
      then-then (slice_get source.layouts.now.statics.fields i) _ (leaf_value range f)
      ∙ then-same (slice_get source.layouts.now.statics.fields i) _ _ (λ spot.
      origin-read range f Zero 0 (place r.ty (lowest + begin_at spot)) refl
      ∙ ap (λ o. o then within_i64) (leaf-number range 0 0 (lowest + begin_at spot) (begin_at spot) (omega (arith, start)) Zero r.ty)))

  -- the roots that an expression reads have their numbers in the static record, or it reads none
  abbrev pub RootsAreRead : Expr → Type 0
  RootsAreRead e = (roots_of e ≡ []) ⊎ HasStatics

  module _ (around : Around) (nodes : Nodes) (f : Frame) (frame : IsFrame source around nodes f) where
    abbrev IsRootRead : ℕ → Type 0
    IsRootRead i = (root_leaf source.program.now source.layouts.now i then leaf_value source.space.now f) ≡ root_worth source i

    roots-read : (e : Expr) → RootsAreRead e → All IsRootRead (roots_of e)
    roots-read e (inl none) = All-same IsRootRead (roots_of e) [] none (All-nil IsRootRead)
    roots-read e (inr start) = λ k d within. root-leaf start f _

    -- an expression of a row is worth what that of the program is
    pub row-worth : (e : Expr) (r : RowExpr) → IsRowExpr source.program.now source.layouts.now nodes e r → RootsAreRead e → row_value source.space.now f r ≡ value_of (path_worth source around) (root_worth source) e
    row-worth e r is roots =
        translated (path_leaf source.program.now source.layouts.now nodes) (root_leaf source.program.now source.layouts.now) r.leaves (leaf_value source.space.now f) (path_worth source around) (root_worth source)
        (path-leaf around nodes f frame) is (roots-read e roots)
