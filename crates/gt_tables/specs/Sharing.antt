-- How many walks of parts there are: each part has at most one, and parts with equal rows have the same one.
use Rattle.std.specs.Prelude.{◌≡◌, ◌≢◌, ◌≤◌, ◌<◌, ◌⊎◌, ℕ, ◌+◌, ◌*◌, true, List, ◌++◌, length, Option, Some, None, IfSome, IsSome, MatchOption, All, AllPairs, Any, Contains, slice_get, filter_map}
use Rattle.std.specs.List.{flat_map}
use Rattle.gt_types.specs.declared.expressions.Base.TheVariants.{Outermost}
use Rattle.gt_types.specs.declared.expressions.Expr.{Expr}
use Rattle.gt_types.specs.declared.types.TypeId.{TypeId}
use Rattle.gt_types.specs.declared.types.Ty.{Ty}
use Rattle.gt_types.specs.declared.types.Ty.TheVariants as ty
use Rattle.gt_types.specs.declared.program.Field.{Field}
use Rattle.gt_types.specs.declared.program.Structure.{Structure}
use Rattle.gt_types.specs.declared.program.Program.{Program}
use Rattle.gt_types.specs.Shapes.{innermost}
use Rattle.gt_types.specs.Contains.{HasStructure, ContainsStructure, ContainsAtDepth, held_by}
use Rattle.gt_types.specs.Paths.{paths_of, IsInner, own_expressions}
use Rattle.gt_layout.specs.declared.planes.Layouts.{Layouts}
use Rattle.gt_walk.specs.declared.tables.Tables.{Tables}
use Rattle.gt_walk.specs.Rows.{rows_of}
use Rattle.gt_walk.specs.Nested.{parts_in}
use Rattle.gt_edges.specs.Numbers.{first_part}
use Rattle.gt_edges.specs.Walks.{Around, inside, IsPartOf}
use Rattle.gt_alike.specs.Alike.{AreEqual}
use Rattle.gt_tables.specs.Ordered.{IsOrdered, exprs_in}

-- where a structure lies by value: in which structure, and in which field of it
pub record Site : Type 0 where
  pub container : TypeId
  pub field : ℕ

-- A part: a structure by value. Where it lies is told exactly where its rows depend on that, and the outermost structure exactly where its reader reads it.
pub record Part : Type 0 where
  pub node : TypeId
  pub site : Option Site
  pub outermost : Option ℕ

-- ---- what rows depend on

abbrev pub NamesOutermost : Expr → Type 0
NamesOutermost e = Any (λ path. path.0 ≡ Outermost) (paths_of e)

abbrev pub desc_in : Ty → Option Expr
desc_in (ty.Node node desc) = desc
desc_in type = None

-- the expressions in a structure: its own, and the `desc` of each union that it holds
abbrev pub expressions_in : Structure → List Expr
expressions_in s = own_expressions s ++ filter_map (λ f. desc_in (innermost f.ty)) s.fields

-- an expression in a structure, or in what it contains, names the outermost structure
pub data ReadsOutermost (program : Program) : TypeId → Type 0 where
  in_own : {node : TypeId} {s : Structure} → HasStructure program node s → Any NamesOutermost (expressions_in s) → ReadsOutermost program node
  in_part : {outer inner : TypeId} → ContainsStructure program outer inner → ReadsOutermost program inner → ReadsOutermost program outer

-- the structure by whose expressions a part depends on the outermost one: the container where the site is told, else its own
abbrev pub reader_of : TypeId → Option Site → TypeId
reader_of node (Some site) = site.container
reader_of node None = node

-- ---- parts

-- a structure lies there
abbrev pub LiesAt : Program → TypeId → Site → Type 0
LiesAt program node site = (s : Structure) × (f : Field) × HasStructure program site.container s × (slice_get s.fields site.field ≡ Some f) × (held_by f.ty ≡ Some node)

-- the rows of a union depend on where it lies, since it has its `desc` from there, and so do those of a structure that names the one that contains it
abbrev pub DependsOnSite : Program → TypeId → Type 0
DependsOnSite program node = (s : Structure) × HasStructure program node s × ((s.is_union ≡ true) ⊎ IsInner program node)

-- a structure is another one, or contains it at any depth
abbrev pub IsAtOrAround : Program → TypeId → TypeId → Type 0
IsAtOrAround program outer inner = (outer ≡ inner) ⊎ ContainsAtDepth program outer inner

-- a structure of the program is another one, or contains it
abbrev pub Encloses : Program → TypeId → TypeId → Type 0
Encloses program outer inner = ((s : Structure) × HasStructure program outer s) × IsAtOrAround program outer inner

-- the reader reads the outermost structure, and this one is the reader or contains it
abbrev pub IsOutermostRead : Program → TypeId → ℕ → Type 0
IsOutermostRead program reader outermost = ReadsOutermost program reader × Encloses program (record { 0 = outermost }) reader

-- where it lies is told exactly where its rows depend on that, and the outermost structure exactly where the reader reads it
pub record IsPart (program : Program) (p : Part) : Type 0 where
  pub there : (s : Structure) × HasStructure program p.node s
  pub site : MatchOption p.site (¬ DependsOnSite program p.node) (λ site. LiesAt program p.node site × DependsOnSite program p.node)
  pub outermost : MatchOption p.outermost (¬ ReadsOutermost program (reader_of p.node p.site)) (IsOutermostRead program (reader_of p.node p.site))

-- the walk of a part
pub record PartWalk : Type 0 where
  pub part : Part
  pub walk : ℕ

-- a structure of this `desc` lies there
abbrev pub HoldsAt : Program → Site → TypeId → Option Expr → Type 0
HoldsAt program site node desc = (s : Structure) × (f : Field) × HasStructure program site.container s × (slice_get s.fields site.field ≡ Some f) × (innermost f.ty ≡ ty.Node node desc)

-- some structures are those around a part, as far as the part tells them, and where its site is told, its `desc` is that of the field there
pub record LiesIn (program : Program) (p : Part) (around : Around) (desc : Option Expr) : Type 0 where
  pub site : IfSome p.site (λ site. (around.here ≡ Some site.container) × HoldsAt program site p.node desc)
  pub outermost : IfSome p.outermost (λ outermost. (inside around p.node).outermost ≡ Some (record { 0 = outermost }))

-- a walk is that of a part where it lies
abbrev pub IsPartWalk : Program → Layouts → Tables → PartWalk → Type 0
IsPartWalk program layouts tables p =
    (around : Around) × (desc : Option Expr) × LiesIn program p.part around desc × IsPartOf program layouts tables around p.part.node desc (Some p.walk)

-- a row of a walk names this walk as that of a part
abbrev pub IsNamed : Tables → ℕ → Type 0
IsNamed tables walk = (from : ℕ) × Contains (flat_map parts_in (rows_of tables from)) walk

-- Each walk after those of blocks is a root's own, or a row names it as that of a part; and no two walks that rows name as those of parts have equal rows. So what
-- serves the same has one walk: expressions in rows have their leaves in one order, and the parts inside have one walk each.
pub record AreDistinct (program : Program) (tables : Tables) : Type 0 where
  pub used : (walk : ℕ) → first_part program ≤ walk → walk < length tables.walks → Contains tables.roots walk ⊎ IsNamed tables walk
  pub ordered : All (λ rows. All IsOrdered (flat_map exprs_in rows)) tables.walks
  pub apart : (v w : ℕ) → v ≢ w → IsNamed tables v → IsNamed tables w → ¬ AreEqual (rows_of tables v) (rows_of tables w)

-- Besides the walks of blocks, and at most two for each root that is not deletable (its own, and that of what it holds where this depends on the root), there is
-- at most one walk for each part, and no part is counted twice. Parts with equal rows share their walk, whatever their structures.
pub record ArePartsShared (program : Program) (layouts : Layouts) (tables : Tables) : Type 0 where
  pub parts : List PartWalk
  pub each : All (λ p. IsPart program p.part) parts
  pub walks : All (IsPartWalk program layouts tables) parts
  pub distinct : AllPairs (λ p q. p.part ≢ q.part) parts
  pub few : length tables.walks ≤ first_part program + 2 * length tables.roots + length parts
  pub shared : AreDistinct program tables

-- ---- how many there can be

-- the structures that fields of structures hold by value, each as often as one holds it
abbrev pub held_structures : Program → List TypeId
held_structures program = flat_map (λ s. filter_map (λ f. held_by f.ty) s.fields) program.structures

-- how many parts there can be where no outermost structure is told: each structure, and each field that holds one
abbrev pub places : Program → ℕ
places program = length program.structures + length (held_structures program)

-- each part of which the outermost structure is told is among these; where no structure reads the outermost one, none need be
abbrev pub AreTold : Program → List Part → Type 0
AreTold program told = (p : Part) → IsPart program p → IsSome p.outermost → Contains told p
