-- The laws of tracing: what the marker reaches is what the declarations reach.
use Rattle.std.specs.Prelude.{◌≡◌, ◌↔◌, ◌⊎◌, ℕ, List, None, is_some, IsTrue, All, Contains}
use Rattle.std.specs.List.{filter}
use Rattle.gt_types.specs.declared.program.Program.{Program}
use Rattle.gt_types.specs.Settled.{Settled}
use Rattle.gt_layout.specs.declared.planes.Layouts.{Layouts}
use Rattle.gt_layout.specs.Planes.{IsLaidOut}
use Rattle.gt_layout.specs.Excess.{IsWithin}
use Rattle.gt_space.specs.Range.{Range, IsSpace}
use Rattle.gt_pages.specs.Slots.{Slot, mark_at}
use Rattle.gt_pages.specs.Contents.{Contents}
use Rattle.gt_tree.specs.Fits.{static_edges}
use Rattle.gt_graph.specs.Objects.{Object, Graph}
use Rattle.gt_graph.specs.Good.{Heap}
use Rattle.gt_graph.specs.Kept.{ReachedWith}
use Rattle.gt_graph.specs.Rounds.{AreRounds}
use Rattle.gt_objects.specs.declared.objects.Objects.{Objects}
use Rattle.gt_objects.specs.Holding.{IsHeapOf}
use Rattle.gt_walk.specs.declared.tables.Tables.{Tables}
use Rattle.gt_mark.specs.Reached.{CanMark}
use Rattle.gt_mark.specs.Marks.{Marks}
use Rattle.gt_mark.specs.Rounds.{AreRounds as AreMarkingRounds}
use Rattle.gt_tracing.specs.Walked.{walks_in}
use Rattle.gt_edges.specs.Tables.{AreTables}
use Rattle.gt_tracing.specs.Traces.{Traces}

-- on the bytes of a heap the walks of its program give its edges
abbrev pub HeapsAreTraced : Type 0
HeapsAreTraced =
    (program : Program) (layouts : Layouts) (tables : Tables) (objects : Objects) (heap : Heap) → Settled program → IsLaidOut program layouts → IsWithin program layouts → AreTables program layouts tables
    → IsSpace objects.space → IsHeapOf program layouts objects heap → Traces program tables objects.space objects.pages.slots heap.graph

-- no block is marked
abbrev pub NoneIsMarked : List Slot → Type 0
NoneIsMarked slots = All (λ s. s.mark ≡ None) slots

-- each of these is an object
abbrev pub AreObjects : List Object → List ℕ → Type 0
AreObjects objects ids = (id : ℕ) → Contains ids id → (o : Object) × Contains objects o × (o.id ≡ id)

-- where no block is marked, marking can begin at any objects
abbrev pub CanBeMarked : Type 0
CanBeMarked =
    (program : Program) (tables : Tables) (space : Range) (slots : List Slot) (g : Graph) (starts : List ℕ) → Traces program tables space slots g → NoneIsMarked slots → AreObjects g.objects starts
    → CanMark tables space (walks_in program g.objects) slots starts

-- marking began at what the roots name that are not deletable, and at these values of pairs
abbrev pub StartAt : Program → Graph → (values starts : List ℕ) → Type 0
StartAt program g values starts = (id : ℕ) → Contains starts id ↔ (Contains (static_edges program.roots g.statics) id ⊎ Contains values id)

-- exactly the objects are marked that are reached from there
abbrev pub MarksAreReached : Type 0
MarksAreReached =
    (program : Program) (tables : Tables) (space : Range) (g : Graph) (values starts : List ℕ) (old new : Contents) (o : Object) → Traces program tables space old.slots g → NoneIsMarked old.slots
    → StartAt program g values starts → Marks tables space (walks_in program g.objects) starts old new → Contains g.objects o
    → IsTrue (is_some (mark_at new.slots o.id)) ↔ ReachedWith program g values o.id

-- the graph with the objects that are marked
abbrev pub kept_graph : Contents → Graph → Graph
kept_graph pages g = record g { objects = filter (λ o. is_some (mark_at pages.slots o.id)) g.objects }

-- rounds of the marking are rounds of a collection that keeps the marked objects
abbrev pub RoundsAgree : Type 0
RoundsAgree =
    (program : Program) (tables : Tables) (space : Range) (g : Graph) (values starts : List ℕ) (old new : Contents) (rounds : ℕ) → Traces program tables space old.slots g → NoneIsMarked old.slots
    → StartAt program g values starts → Marks tables space (walks_in program g.objects) starts old new
    → AreMarkingRounds tables space (walks_in program g.objects) starts old.slots new.slots rounds
    → AreRounds program g (kept_graph new g) values rounds
