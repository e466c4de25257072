-- The states of the typed-object machine.
use Rattle.std.specs.Prelude.{◌≡◌, ◌≤◌, ℕ, List, [], Option, Some, None, map}
use Rattle.std.specs.Ordering.{nat_cmp}
use Rattle.std.specs.Cmp.Lexicographic.{slice_cmp}
use Rattle.std.specs.FinMap as fin
use Rattle.gt_types.specs.declared.program.Program.{Program}
use Rattle.gt_layout.specs.declared.planes.Layouts.{Layouts}
use Rattle.gt_space.specs.declared.TheConstants.{MIN_PAGES, MAX_PAGES}
use Rattle.gt_tree.specs.Fits.{IsZeroRecord}
use Rattle.gt_io.specs.Held.{Held}
use Rattle.gt_graph.specs.Objects.{Object, blocks_of, object_of}
use Rattle.gt_graph.specs.Good.{Heap, IsGood}
use Rattle.gt_types.specs.declared.limits.TheConstants.{MAX_MIN_EXPAND, MAX_MIN_HEAPSIZE}
use Rattle.gt_next.specs.declared.TheConstants.{MAX_VARIABLES, MAX_ALLOCATED}

-- variables: names of objects under names
abbrev pub Variables : Type 0
Variables = fin.FinMap (slice_cmp nat_cmp) ℕ

-- no variable
abbrev pub no_variables : Variables
no_variables = fin.empty {R = slice_cmp nat_cmp}

-- the object that a variable means, or none where it is not bound
abbrev pub meaning : Variables → List ℕ → Option ℕ
meaning variables name = fin.get {R = slice_cmp nat_cmp} variables name

-- the variables with this one bound to an object
abbrev pub with_variable : Variables → List ℕ → ℕ → Variables
with_variable variables name id = fin.insert {R = slice_cmp nat_cmp} variables name id

-- the variables without this one
abbrev pub without_variable : Variables → List ℕ → Variables
without_variable variables name = fin.remove {R = slice_cmp nat_cmp} variables name

-- how many variables are bound
abbrev pub count_of_variables : Variables → ℕ
count_of_variables variables = fin.len {R = slice_cmp nat_cmp} variables

-- as many variables are bound as may be, and this is none of them
abbrev pub IsFullOfVariables : Variables → List ℕ → Type 0
IsFullOfVariables variables name = (MAX_VARIABLES ≤ count_of_variables variables) × (meaning variables name ≡ None)

-- the heap; the variables; the settings and numbers of the collector; and the files, where they are told
pub record State : Type 0 where
  pub heap : Heap
  pub variables : Variables
  pub min_expand : ℕ
  pub min_heapsize : ℕ
  pub last : ℕ
  pub rounds : ℕ
  pub files : Option Held

-- the state from which a run begins: no object, zero roots, no pair, no image, no variable, and these settings and files
pub record IsOpening (program : Program) (pages min_expand min_heapsize : ℕ) (told : Option Held) (s : State) : Type 0 where
  pub objects : s.heap.graph.objects ≡ []
  pub statics : IsZeroRecord program (blocks_of []) s.heap.graph.statics
  pub pairs : s.heap.graph.pairs ≡ map (λ cache. []) program.caches
  pub places : s.heap.places ≡ record { placed = []; image = record { first = 0; count = 0 }; pages = pages }
  pub variables : s.variables ≡ no_variables
  pub min_expand_is : s.min_expand ≡ min_expand
  pub min_heapsize_is : s.min_heapsize ≡ min_heapsize
  pub last : s.last ≡ 0
  pub rounds : s.rounds ≡ 0
  pub files : s.files ≡ told

-- what holds of each state that a run can reach: the heap is good, each variable means an object, and the numbers are in their ranges
pub record IsGoodState (program : Program) (layouts : Layouts) (s : State) : Type 0 where
  pub heap : IsGood program layouts s.heap
  pub variables : (name : List ℕ) (id : ℕ) → meaning s.variables name ≡ Some id → (o : Object) × (object_of s.heap.graph.objects id ≡ Some o)
  pub few_variables : count_of_variables s.variables ≤ MAX_VARIABLES
  pub pages : (MIN_PAGES ≤ s.heap.places.pages) × (s.heap.places.pages ≤ MAX_PAGES)
  pub min_expand : s.min_expand ≤ MAX_MIN_EXPAND
  pub min_heapsize : s.min_heapsize ≤ MAX_MIN_HEAPSIZE
  pub last : s.last ≤ MAX_ALLOCATED
