-- What an expression reads rests on the structures at which its paths begin.
use Rattle.std.proofs.Common.{◌≡◌, ℕ, Option, List, [], ◌∷◌, ◌++◌, refl, ap, sym, subst, ◌∙◌}
use Rattle.std.specs.Prelude.{Contains}
use Rattle.std.proofs.lemmas.List.Elements.{Contains-append_left, Contains-append_right}
use Rattle.gt_types.specs.declared.expressions.Base.{Base}
use Rattle.gt_types.specs.declared.expressions.Base.TheVariants.{Here, Outer, Outermost}
use Rattle.gt_types.specs.declared.expressions.Op.{Op}
use Rattle.gt_types.specs.declared.expressions.Expr.{Expr}
use Rattle.gt_types.specs.declared.expressions.Expr.TheFolds.{fold-roll-Expr}
use Rattle.gt_types.specs.declared.expressions.Expr.TheOpen as part
use Rattle.gt_types.specs.declared.expressions.Expr.TheVariants.{Path, One, Two, Cond, rolls-Path, rolls-One, rolls-Two, rolls-Cond}
use Rattle.gt_types.specs.declared.program.Program.{Program}
use Rattle.gt_types.specs.Paths.{Way, paths_of, paths_step, NamesOuter}
use Rattle.gt_layout.specs.declared.planes.Layouts.{Layouts}
use Rattle.gt_tree.specs.Scopes.{◌then◌}
use Rattle.gt_walk.specs.declared.rows.Origin.TheVariants.{Inside}
use Rattle.gt_walk.specs.declared.rows.RowLeaf.{RowLeaf}
use Rattle.gt_walk.specs.declared.rows.RowExpr.{RowExpr}
use Rattle.gt_edges.specs.Walks.{Around, node_at, place_named, leaf_at, path_leaf, Translates, IsRowExpr, int, of_path, of_root, one, two, cond}
use Rattle.gt_tables.specs.Sharing.{NamesOutermost}
use Rattle.gt_tables.proofs.Elements.{first}

-- ---- the paths of an expression by those of its parts

pub paths-path : (base : Base) (steps : List (List ℕ)) → paths_of (Path base steps) ≡ (base, steps) ∷ []
paths-path base steps = ap paths_of (sym (rolls-Path base steps)) ∙ fold-roll-Expr (List Way) paths_step (part.Path base steps)

pub paths-one : (op : Op) (a : Expr) → paths_of (One op a) ≡ paths_of a
paths-one op a = ap paths_of (sym (rolls-One op a)) ∙ fold-roll-Expr (List Way) paths_step (part.One op a)

pub paths-two : (op : Op) (a b : Expr) → paths_of (Two op a b) ≡ paths_of a ++ paths_of b
paths-two op a b = ap paths_of (sym (rolls-Two op a b)) ∙ fold-roll-Expr (List Way) paths_step (part.Two op a b)

pub paths-cond : (test a b : Expr) → paths_of (Cond test a b) ≡ paths_of test ++ paths_of a ++ paths_of b
paths-cond test a b = ap paths_of (sym (rolls-Cond test a b)) ∙ fold-roll-Expr (List Way) paths_step (part.Cond test a b)

-- ---- expressions over leaves

-- the paths of an expression lead to the same leaves
abbrev pub LeadsSame : (path other : Base → List (List ℕ) → Option RowLeaf) → Expr → Type 0
LeadsSame path other e = (way : Way) → Contains (paths_of e) way → path way.0 way.1 ≡ other way.0 way.1

module _ (path other : Base → List (List ℕ) → Option RowLeaf) where
  leads-part : (e : Expr) (ways : List Way) → paths_of e ≡ ways → LeadsSame path other e → (way : Way) → Contains ways way → path way.0 way.1 ≡ other way.0 way.1
  leads-part e ways is same way c = same way (subst (λ l. Contains l way) (sym is) c)

  pub same-translates : (root : ℕ → Option RowLeaf) (leaves : List RowLeaf) {e f : Expr} → Translates path root leaves e f → LeadsSame path other e → Translates other root leaves e f
  same-translates root leaves int same = int
  same-translates root leaves (of_path {base} {steps} {i} is) same = of_path (is ∙ leads-part (Path base steps) _ (paths-path base steps) same (base, steps) (first (base, steps) []))
  same-translates root leaves (of_root is) same = of_root is
  same-translates root leaves (one {op} {a} {b} t) same = one (same-translates root leaves t (leads-part (One op a) _ (paths-one op a) same))
  same-translates root leaves (two {op} {a} {b} {c} {d} t u) same =
      let on = leads-part (Two op a b) _ (paths-two op a b) same in
      two
      (same-translates root leaves t (λ way w. on way (Contains-append_left (paths_of a) (paths_of b) way w)))
      (same-translates root leaves u (λ way w. on way (Contains-append_right (paths_of a) (paths_of b) way w)))
  same-translates root leaves (cond {t} {a} {b} {u} {c} {d} x y z) same =
      let on = leads-part (Cond t a b) _ (paths-cond t a b) same in
      let front = λ (way : Way) (w : Contains (paths_of t ++ paths_of a) way). on way (Contains-append_left (paths_of t ++ paths_of a) (paths_of b) way w) in
      cond
      (same-translates root leaves x (λ way w. front way (Contains-append_left (paths_of t) (paths_of a) way w)))
      (same-translates root leaves y (λ way w. front way (Contains-append_right (paths_of t) (paths_of a) way w)))
      (same-translates root leaves z (λ way w. on way (Contains-append_right (paths_of t ++ paths_of a) (paths_of b) way w)))

-- ---- two places that agree on what an expression names

-- at each base that an expression names there is the same structure
abbrev pub SameBases : Around → Around → Expr → Type 0
SameBases a b e = (way : Way) → Contains (paths_of e) way → node_at a way.0 ≡ node_at b way.0

agrees-at : (a b : Around) (e : Expr) → a.here ≡ b.here → (NamesOuter e → a.outer ≡ b.outer) → (NamesOutermost e → a.outermost ≡ b.outermost)
    → (way : Way) → Contains (paths_of e) way → (base : Base) → way.0 ≡ base → node_at a base ≡ node_at b base
agrees-at a b e here outer outermost way c Here is = here
agrees-at a b e here outer outermost way c Outer is = outer (c.0, way, c.1, c.2, is)
agrees-at a b e here outer outermost way c Outermost is = outermost (c.0, way, c.1, c.2, is)

pub agrees : (a b : Around) (e : Expr) → a.here ≡ b.here → (NamesOuter e → a.outer ≡ b.outer) → (NamesOutermost e → a.outermost ≡ b.outermost) → SameBases a b e
agrees a b e here outer outermost way c = agrees-at a b e here outer outermost way c way.0 refl

pub same-expr : (program : Program) (layouts : Layouts) (a b : Around) (e : Expr) (r : RowExpr) → SameBases a b e → IsRowExpr program layouts a e r → IsRowExpr program layouts b e r
same-expr program layouts a b e r same is =
    same-translates (path_leaf program layouts a) (path_leaf program layouts b) _ r.leaves is
    (λ way c. ap (λ o. o then λ node. place_named program layouts.structures node way.1 then leaf_at (Inside way.0)) (same way c))
