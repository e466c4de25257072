-- No promise: what the proofs of building speak of.
use Rattle.std.specs.Prelude.{◌≡◌, ◌≤◌, ◌<◌, ◌⊎◌, ℕ, zero, suc, ◌+◌, Bool, true, false, List, [], ◌∷◌, ◌++◌, ◌||◌, cond, Option, Some, None, IfSome, length, flat_map, take, option_map, option_to_list, slice_get, slice_index_or, All}
use Rattle.std.specs.Ordering.{nat_cmp, ordering_then}
use Rattle.std.specs.Option.{option_cmp}
use Rattle.std.specs.List.{filter}
use Rattle.std.specs.BTreeMap.{BTreeMap, get}
use Rattle.std.specs.declared.cmp.Ordering.{Ordering}
use Rattle.gt_types.specs.declared.program.Program.{Program}
use Rattle.gt_types.specs.Settled.{Settled}
use Rattle.gt_layout.specs.Planes.{IsLaidOut}
use Rattle.gt_layout.specs.Excess.{IsWithin}
use Rattle.gt_layout.specs.Progress.{IsWithinDepth}
use Rattle.gt_walk.specs.declared.rows.WalkRow.{WalkRow}
use Rattle.gt_walk.specs.declared.tables.Tables.{Tables}
use Rattle.gt_walk.specs.Rows.{rows_of}
use Rattle.gt_walk.specs.Nested.{has_note, HaveOneNote, parts_in, names_in, IsWalk, NestsWithin}
use Rattle.std.specs.Bool.{Decides}
use Rattle.gt_space.specs.Range.{statics_start}
use Rattle.gt_types.specs.declared.expressions.Expr.{Expr}
use Rattle.gt_types.specs.declared.types.TypeId.{TypeId}
use Rattle.gt_types.specs.declared.types.Ty.{Ty}
use Rattle.gt_types.specs.declared.types.Ty.TheVariants as ty
use Rattle.gt_types.specs.declared.program.Field.{Field}
use Rattle.gt_types.specs.declared.program.Structure.{Structure}
use Rattle.gt_types.specs.declared.program.Root.{Root}
use Rattle.gt_types.specs.Shapes.{innermost}
use Rattle.gt_types.specs.Contains.{HasStructure}
use Rattle.gt_types.specs.Paths.{IsInner, MayStand}
use Rattle.gt_layout.specs.declared.planes.Plane.{Plane}
use Rattle.gt_layout.specs.declared.planes.FieldSpot.{FieldSpot}
use Rattle.gt_tree.specs.Fits.{types_of}
use Rattle.gt_edges.specs.Edges.{has_walk}
use Rattle.gt_edges.specs.Walks.{Around, outside, first_of as first_node, IsRowOf, IsPartOf, AreRowsOf, AreFieldRows, AreArmsOf}
use Rattle.gt_edges.specs.Notes.{chain_offset}
use Rattle.gt_tables.specs.Ordered.{IsOrdered, exprs_in}
use Rattle.gt_tables.specs.Sharing.{ReadsOutermost, Encloses}
use Rattle.gt_tables.specs.declared.sources.Around.{Around as CodeAround}
use Rattle.gt_tables.specs.declared.sources.Lies.{Lies}
use Rattle.gt_tables.specs.declared.sources.Site.{Site}
use Rattle.gt_tables.specs.declared.sources.Part.{Part}
use Rattle.gt_tables.specs.declared.sources.Source.{Source}
use Rattle.gt_tables.specs.declared.parts.Case.{Case}
use Rattle.gt_tables.specs.declared.parts.Found.{Found}
use Rattle.gt_tables.specs.declared.parts.Found.TheVariants.{There, Missing}
use Rattle.gt_tables.specs.declared.parts.Parts.{Parts}
use Rattle.gt_walk.specs.declared.rows.Arm.{Arm}
use Rattle.gt_walk.specs.declared.rows.Count.TheVariants.{Fixed}
use Rattle.gt_walk.specs.declared.rows.WalkRow.TheVariants.{Note, Ptr}
use Rattle.gt_tree.specs.Blocks.{Strings, Chars}
use Rattle.gt_edges.specs.Numbers.{first_part, walk_of}
use Rattle.gt_alike.specs.Alike.{AreEqual, AreAlike}
use Rattle.gt_alike.specs.Prints.{rows_print}

-- what is known of the structure of a number
abbrev pub flag_at : List Bool → ℕ → Bool
flag_at flags number = slice_index_or flags number false

-- flags tell of each structure whether something holds of it
abbrev pub Tell : Program → List Bool → (TypeId → Type 0) → Type 0
Tell program flags holds = (node : TypeId) (s : Structure) → HasStructure program node s → Decides (flag_at flags node.0) (holds node)

-- what walks are made of
pub record IsSource (source : Source) : Type 0 where
  pub settled : Settled source.program.now
  pub laid : IsLaidOut source.program.now source.layouts.now
  pub within : IsWithin source.program.now source.layouts.now
  pub count : source.structures ≡ length source.program.now.structures
  pub inner : Tell source.program.now source.inner.now (IsInner source.program.now)
  pub readers : Tell source.program.now source.readers.now (ReadsOutermost source.program.now)
  pub start : source.start ≡ statics_start source.layouts.now.statics.size

-- the first walk of a part
abbrev pub first_of : Source → ℕ
first_of source = first_part source.program.now

-- ---- parts in order

abbrev pub site_cmp : Site → Site → Ordering
site_cmp a b = ordering_then (nat_cmp a.container b.container) (nat_cmp a.field b.field)

abbrev pub part_cmp : Part → Part → Ordering
part_cmp a b = ordering_then (nat_cmp a.node b.node) (ordering_then (option_cmp site_cmp a.site b.site) (option_cmp nat_cmp a.outermost b.outermost))

-- ---- tables with the walks of parts

-- walks, from this number on, are among those of tables
pub record HaveWalks (first : ℕ) (walks : List (List WalkRow)) (tables : Tables) : Type 0 where
  pub front : List (List WalkRow)
  pub rest : List (List WalkRow)
  pub is : tables.walks ≡ front ++ (walks ++ rest)
  pub long : length front ≡ first

-- parts of a walk that lie so deep inside
abbrev pub PartsWithin : Tables → ℕ → List ℕ → Type 0
PartsWithin tables zero parts = parts ≡ []
PartsWithin tables (suc most) parts = All (NestsWithin tables most) parts

-- the walks of parts that a row names, where there is one
abbrev pub parts_of : Option WalkRow → List ℕ
parts_of (Some r) = parts_in r
parts_of None = []

-- a walk of a structure is there, and as deep as structures stand in it
pub record IsWalkAt (program : Program) (node : ℕ) (walk : ℕ) (tables : Tables) : Type 0 where
  pub there : IsWalk tables walk
  pub nests : (depth : ℕ) → IsWithinDepth program node depth → NestsWithin tables depth walk

abbrev pub IsWalkOf : Program → ℕ → List (List WalkRow) → ℕ → ℕ → Type 0
IsWalkOf program first walks node walk = (tables : Tables) → HaveWalks first walks tables → IsWalkAt program node walk tables

-- a row is no note, names walks of tables, its parts lie as deep as is given, and its expressions are ordered
pub record IsRow (first : ℕ) (walks : List (List WalkRow)) (deep : ℕ → Type 0) (row : WalkRow) : Type 0 where
  pub no_note : has_note row ≡ false
  pub names : (tables : Tables) → HaveWalks first walks tables → All (IsWalk tables) (names_in row)
  pub nests : (tables : Tables) → HaveWalks first walks tables → (depth : ℕ) → deep depth → PartsWithin tables depth (parts_in row)
  pub ordered : All IsOrdered (exprs_in row)

-- rows after a note
pub record AreRows (first : ℕ) (walks : List (List WalkRow)) (deep : ℕ → Type 0) (rows : List WalkRow) : Type 0 where
  pub note : HaveOneNote rows
  pub names : (tables : Tables) → HaveWalks first walks tables → All (IsWalk tables) (flat_map names_in rows)
  pub nests : (tables : Tables) → HaveWalks first walks tables → (depth : ℕ) → deep depth → PartsWithin tables depth (flat_map parts_in rows)
  pub ordered : All IsOrdered (flat_map exprs_in rows)

-- the row of a pointer
pub record IsPointerRow (first : ℕ) (row : WalkRow) : Type 0 where
  pub no_note : has_note row ≡ false
  pub names : All (λ walk. walk < first) (names_in row)
  pub parts : parts_in row ≡ []
  pub ordered : All IsOrdered (exprs_in row)

-- ---- walks that are found by their rows

abbrev pub case_cmp : Case → Case → Ordering
case_cmp a b = ordering_then (nat_cmp a.print b.print) (nat_cmp a.turn b.turn)

abbrev pub case_of : List WalkRow → ℕ → Case
case_of rows turn = record { print = rows_print rows; turn = turn }

-- the walk at a place is found by its rows
pub record IsFiled (walks : List (List WalkRow)) (cases : BTreeMap Case ℕ) (place : ℕ) : Type 0 where
  pub rows : List WalkRow
  pub turn : ℕ
  pub there : slice_get walks place ≡ Some rows
  pub is : get case_cmp cases (case_of rows turn) ≡ Some place

-- no turn is left out
abbrev pub HaveTurns : BTreeMap Case ℕ → Type 0
HaveTurns cases = (c : Case) (place turn : ℕ) → get case_cmp cases c ≡ Some place → turn ≤ c.turn → (other : ℕ) × (get case_cmp cases (record { print = c.print; turn = turn }) ≡ Some other)

-- the walk at a place has these rows
abbrev pub StandsAt : List (List WalkRow) → ℕ → List WalkRow → Type 0
StandsAt walks place rows = (had : List WalkRow) × (slice_get walks place ≡ Some had) × AreAlike had rows

-- no walk that is found by its rows has these
abbrev pub AreNew : List (List WalkRow) → BTreeMap Case ℕ → List WalkRow → Type 0
AreNew walks cases rows = (place : ℕ) → IsFiled walks cases place → ¬ StandsAt walks place rows

-- the walks in the turns before this one have other rows
abbrev pub WereTried : List (List WalkRow) → BTreeMap Case ℕ → List WalkRow → ℕ → Type 0
WereTried walks cases rows turn = (n : ℕ) → n < turn → (place : ℕ) × (get case_cmp cases (case_of rows n) ≡ Some place) × (¬ StandsAt walks place rows)

-- no walk of a part has these rows, and one with them is to have this case
pub record IsFree (walks : List (List WalkRow)) (cases : BTreeMap Case ℕ) (rows : List WalkRow) (case : Case) : Type 0 where
  pub turn : ℕ
  pub is : case ≡ case_of rows turn
  pub none : get case_cmp cases case ≡ None
  pub tried : WereTried walks cases rows turn
  pub new : AreNew walks cases rows

-- where the walk of a part with these rows is
abbrev pub IsFound : List (List WalkRow) → BTreeMap Case ℕ → List WalkRow → Found → Type 0
IsFound walks cases rows (There place) = StandsAt walks place rows × IsFiled walks cases place
IsFound walks cases rows (Missing case) = IsFree walks cases rows case

-- there are more walks, and those that were found are found
pub record Files (walks : List (List WalkRow)) (cases : BTreeMap Case ℕ) (now : List (List WalkRow)) (filed : BTreeMap Case ℕ) : Type 0 where
  pub more : List (List WalkRow)
  pub grown : now ≡ walks ++ more
  pub stay : (place : ℕ) → IsFiled walks cases place → IsFiled now filed place

-- a walk has these rows, and is found by them
pub record HasRows (first : ℕ) (rows : List WalkRow) (walks : List (List WalkRow)) (cases : BTreeMap Case ℕ) (walk : ℕ) : Type 0 where
  pub place : ℕ
  pub number : walk ≡ first + place
  pub here : slice_get walks place ≡ Some rows
  pub filed : IsFiled walks cases place

-- a walk has rows that are equal to these, and is found by them
abbrev pub HasEqual : ℕ → List WalkRow → List (List WalkRow) → BTreeMap Case ℕ → ℕ → Type 0
HasEqual first rows walks cases walk = (had : List WalkRow) × HasRows first had walks cases walk × AreEqual had rows

-- no walk is added
abbrev pub IsNotAdded : BTreeMap Case ℕ → List (List WalkRow) → BTreeMap Case ℕ → Type 0
IsNotAdded cases more filed = (more ≡ []) × (filed ≡ cases)

-- what walks are found as is the same but for the last one
abbrev pub IsLast : List (List WalkRow) → BTreeMap Case ℕ → BTreeMap Case ℕ → Type 0
IsLast walks cases filed = (case : Case) (place : ℕ) → get case_cmp filed case ≡ Some place → (get case_cmp cases case ≡ Some place) ⊎ (place ≡ length walks)

-- a walk with these very rows is added, where no walk of a part had them
abbrev pub IsAdded : ℕ → List WalkRow → List (List WalkRow) → BTreeMap Case ℕ → List (List WalkRow) → List (List WalkRow) → BTreeMap Case ℕ → Option ℕ → Type 0
IsAdded first rows walks cases more now filed walk =
    (more ≡ rows ∷ []) × AreNew walks cases rows × IfSome walk (λ w. HasRows first rows now filed w × (w ≡ first + length walks)) × IsLast walks cases filed

-- the walk of a part with these rows: the one that was there, or a new one
pub record Shares (first : ℕ) (rows : List WalkRow) (walks : List (List WalkRow)) (cases : BTreeMap Case ℕ) (now : List (List WalkRow)) (filed : BTreeMap Case ℕ) (walk : ℕ) : Type 0 where
  pub files : Files walks cases now filed
  pub turns : HaveTurns filed
  pub has : HasEqual first rows now filed walk
  pub shared : IsNotAdded cases files.more filed ⊎ IsAdded first rows walks cases files.more now filed (Some walk)

-- ---- walks of parts

-- at most this deep
abbrev pub Shallow : ℕ → Type 0
Shallow depth = 33 ≤ depth

-- what holds of the walks of parts
pub record AreParts (program : Program) (parts : Parts) : Type 0 where
  pub known : (part : Part) (walk : ℕ) → get part_cmp parts.known part ≡ Some (Some walk) → IsWalkOf program (first_part program) parts.walks.items part.node walk
  pub rows : All (AreRows (first_part program) parts.walks.items Shallow) parts.walks.items
  pub turns : HaveTurns parts.cases

-- there are more
pub record Grows (program : Program) (old new : Parts) : Type 0 where
  pub more : List (List WalkRow)
  pub walks : new.walks.items ≡ old.walks.items ++ more
  pub are : AreParts program new

-- the walk of a part is kept, if it has one: then it has a row at least after its note
pub record Keeps (first : ℕ) (part : Option Part) (rows : List WalkRow) (old new : Parts) (walk : Option ℕ) : Type 0 where
  pub files : Files old.walks.items old.cases new.walks.items new.cases
  pub turns : HaveTurns new.cases
  pub has : IfSome walk (HasEqual first rows new.walks.items new.cases)
  pub many : IfSome walk (λ w. 1 < length rows)
  pub shared : IsNotAdded old.cases files.more new.cases ⊎ IsAdded first rows old.walks.items old.cases files.more new.walks.items new.cases walk
  pub none : walk ≡ None → IsNotAdded old.cases files.more new.cases
  pub known : (q : Part) (n : ℕ) → get part_cmp new.known q ≡ Some (Some n)
      → (get part_cmp old.known q ≡ Some (Some n)) ⊎ ((p : Part) × (part ≡ Some p) × (q.node ≡ p.node) × (walk ≡ Some n))
  pub kept : (q : Part) (w : Option ℕ) → get part_cmp new.known q ≡ Some w → (get part_cmp old.known q ≡ Some w) ⊎ ((part ≡ Some q) × (walk ≡ w))

-- the last walks of blocks
pub record EndAsBlocks (program : Program) (walks : List (List WalkRow)) : Type 0 where
  pub front : List (List WalkRow)
  pub long : length front ≡ walk_of program Strings
  pub is : walks ≡ (front ++ (Note 8 None ∷ Ptr 0 (walk_of program Chars) (Fixed 0) false ∷ []) ∷ []) ++ (Note 1 None ∷ []) ∷ []

-- how many walks a root has
abbrev pub number_of_walks : Bool → ℕ
number_of_walks true = 0
number_of_walks false = 1

-- a walk is one of the tables'
abbrev pub IsThere : ℕ → List (List WalkRow) → ℕ → Type 0
IsThere first walks walk = (tables : Tables) → HaveWalks first walks tables → IsWalk tables walk

-- ---- what rows serve

-- the structures around a place, as the code holds them
abbrev pub around_of : CodeAround → Around
around_of a = record { here = a.here; outer = a.outer; outermost = a.outermost }

-- where there is an innermost structure there is an outermost one, which is or contains it, and outside every structure there is none
pub record IsAround (program : Program) (a : CodeAround) : Type 0 where
  pub inside : (here : TypeId) → a.here ≡ Some here → (outermost : TypeId) × (a.outermost ≡ Some outermost) × Encloses program outermost here
  pub outside : a.here ≡ None → (a.outer ≡ None) × (a.outermost ≡ None)

-- a site is a field of the innermost structure, in whose type this one is held; a root lies outside every structure
abbrev pub IsSiteOf : Program → CodeAround → Option Site → Ty → Type 0
IsSiteOf program a (Some site) type =
    (s : Structure) × (f : Field) × (a.here ≡ Some (record { 0 = site.container })) × HasStructure program (record { 0 = site.container }) s × (slice_get s.fields site.field ≡ Some f) × (innermost f.ty ≡ innermost type)
IsSiteOf program a None type = a.here ≡ None

-- where a type of the program lies
pub record IsPlaced (program : Program) (lies : Lies) (type : Ty) : Type 0 where
  pub around : IsAround program lies.around
  pub site : IsSiteOf program lies.around lies.site type

-- by the tables of these walks, this is the row of a type
abbrev pub ServesType : Source → List (List WalkRow) → CodeAround → Ty → ℕ → Option WalkRow → Type 0
ServesType source walks a type offset row =
    (tables : Tables) → HaveWalks (first_part source.program.now) walks tables → IsRowOf source.program.now source.layouts.now tables (around_of a) type offset row

-- and this the walk of a structure by value
abbrev pub ServesPart : Source → List (List WalkRow) → CodeAround → TypeId → Option Expr → Option ℕ → Type 0
ServesPart source walks a node desc walk =
    (tables : Tables) → HaveWalks (first_part source.program.now) walks tables → IsPartOf source.program.now source.layouts.now tables (around_of a) node desc walk

-- rows are a note and those of a structure, inside which they stand
pub record ServesStructure (source : Source) (walks : List (List WalkRow)) (inner : CodeAround) (node : TypeId) (desc : Option Expr) (chain : Option ℕ) (rows : List WalkRow) : Type 0 where
  pub plane : Plane
  pub rest : List WalkRow
  pub plane_is : slice_get source.layouts.now.structures node.0 ≡ Some plane
  pub is : rows ≡ Note plane.size chain ∷ rest
  pub are : (tables : Tables) → HaveWalks (first_part source.program.now) walks tables → AreRowsOf source.program.now source.layouts.now tables (around_of inner) node desc rest

-- rows of fields were added
pub record AddsFields (source : Source) (walks : List (List WalkRow)) (inner : CodeAround) (fields : List Field) (spots : List FieldSpot) (old new : List WalkRow) : Type 0 where
  pub more : List WalkRow
  pub is : new ≡ old ++ more
  pub are : (tables : Tables) → HaveWalks (first_part source.program.now) walks tables → AreFieldRows source.program.now source.layouts.now tables (around_of inner) (types_of fields) spots more

-- by the tables of these walks, these are the arms of members
abbrev pub ServesMembers : Source → List (List WalkRow) → CodeAround → List Field → List Arm → Type 0
ServesMembers source walks inner fields arms =
    (tables : Tables) → HaveWalks (first_part source.program.now) walks tables → AreArmsOf source.program.now source.layouts.now tables (around_of inner) fields arms

-- rows are a note and that of a root, which lies at an address
pub record ServesRoot (source : Source) (walks : List (List WalkRow)) (r : Root) (address : ℕ) (rows : List WalkRow) : Type 0 where
  pub line : Option WalkRow
  pub is : rows ≡ Note source.layouts.now.statics.size None ∷ option_to_list line
  pub of_root : (tables : Tables) → HaveWalks (first_part source.program.now) walks tables → IsRowOf source.program.now source.layouts.now tables outside r.ty address line

-- a walk among these, after those of blocks, serves a root, which lies at an address
abbrev pub IsWalkOfRoot : Source → List (List WalkRow) → Root → ℕ → ℕ → Type 0
IsWalkOfRoot source walks r address walk =
    (tables : Tables) → HaveWalks (first_part source.program.now) walks tables → (rows : List WalkRow) × (rows_of tables walk ≡ rows) × ServesRoot source walks r address rows × (first_of source ≤ walk)

-- ---- parts that are shared

abbrev pub reader_of : TypeId → Option Site → ℕ
reader_of node (Some site) = site.container
reader_of node None = node.0

abbrev pub outermost_if : Bool → Option TypeId → Option ℕ
outermost_if true outermost = option_map (λ node. node.0) outermost
outermost_if false outermost = None

abbrev pub part_at : Source → Lies → TypeId → Option Site → Part
part_at source lies node site =
    record { node = node.0; site = site; outermost = outermost_if (flag_at source.readers.now (reader_of node site)) (Some (first_node (around_of lies.around).outermost node)) }

-- whether the rows of a structure depend on where it lies
abbrev pub depends : Source → TypeId → Option Structure → Bool
depends source node (Some s) = s.is_union || flag_at source.inner.now node.0
depends source node None = false

abbrev pub part_on_site : Source → Lies → TypeId → Option Site → Option Part
part_on_site source lies node (Some site) = Some (part_at source lies node (Some site))
part_on_site source lies node None = None

-- the part that a structure by value is; none of one that depends on where it lies and lies in a root
abbrev pub part_of : Source → Lies → TypeId → Option Part
part_of source lies node = cond (depends source node (slice_get source.program.now.structures node.0)) (part_on_site source lies node lies.site) (Some (part_at source lies node None))

-- what is kept of a part serves it wherever it lies
pub record AreServed (source : Source) (parts : Parts) : Type 0 where
  pub known : (part : Part) (walk : Option ℕ) (lies : Lies) (node : TypeId) (desc : Option Expr) → get part_cmp parts.known part ≡ Some walk → part_of source lies node ≡ Some part
      → IsPlaced source.program.now lies (ty.Node node desc) → ServesPart source parts.walks.items lies.around node desc walk

-- ---- walks of blocks

-- inside a structure that stands alone
abbrev pub alone : TypeId → CodeAround
alone node = record { here = Some node; outer = None; outermost = Some node }

-- The walk of a structure: its rows where it may stand alone, else its note alone.
pub record ServesWalk (source : Source) (walks : List (List WalkRow)) (node : TypeId) (rows : List WalkRow) : Type 0 where
  pub stands : (s : Structure) → HasStructure source.program.now node s → MayStand source.program.now node
      → ServesStructure source walks (alone node) node s.desc (chain_offset source.program.now source.layouts.now.structures node s) rows
  pub inner : (s : Structure) (plane : Plane) → HasStructure source.program.now node s → slice_get source.layouts.now.structures node.0 ≡ Some plane → ¬ MayStand source.program.now node
      → rows ≡ Note plane.size (chain_offset source.program.now source.layouts.now.structures node s) ∷ []

-- the first walks are those of the structures, in order
abbrev pub ServesWalks : Source → List (List WalkRow) → List (List WalkRow) → Type 0
ServesWalks source parts walks = (node : TypeId) (rows : List WalkRow) → node.0 < length source.program.now.structures → slice_get walks node.0 ≡ Some rows → ServesWalk source parts node rows

-- the walk of pointers to a structure, or a note alone where it may not stand alone
pub record IsPointerWalk (program : Program) (node : TypeId) (rows : List WalkRow) : Type 0 where
  pub stands : MayStand program node → rows ≡ Note 8 None ∷ Ptr 0 node.0 (Fixed 1) false ∷ []
  pub inner : ¬ MayStand program node → rows ≡ Note 8 None ∷ []

-- the walks from this number on are those of pointers to the structures, in order
abbrev pub ServesPointers : Program → ℕ → List (List WalkRow) → Type 0
ServesPointers program first walks = (node : TypeId) (rows : List WalkRow) → node.0 < length program.structures → slice_get walks (first + node.0) ≡ Some rows → IsPointerWalk program node rows

-- ---- walks of roots

-- The walks of the roots before a place that are not deletable stand in order, and serve them.
pub record ServesRoots (source : Source) (walks : List (List WalkRow)) (before : ℕ) (roots : List ℕ) : Type 0 where
  pub serves : (place walk : ℕ) (r : Root) (spot : FieldSpot) → place < before → slice_get source.program.now.roots place ≡ Some r → r.deletable ≡ false
      → slice_get roots (length (filter has_walk (take place source.program.now.roots))) ≡ Some walk → slice_get source.layouts.now.statics.fields place ≡ Some spot
      → IsWalkOfRoot source walks r (source.start + spot.offset) walk
