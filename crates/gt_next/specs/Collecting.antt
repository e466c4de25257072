-- Collections, and the numbers of the collector.
use Rattle.std.specs.Prelude.{◌≡◌, ◌↔◌, ◌<◌, ◌≤◌, ℕ, ◌+◌, ◌*◌, ◌/◌, max, List, Some, length}
use Rattle.gt_types.specs.declared.program.Program.{Program}
use Rattle.gt_graph.specs.Objects.{Object, object_of, pairs_in}
use Rattle.gt_graph.specs.Places.{ledger_of}
use Rattle.gt_graph.specs.Kept.{After}
use Rattle.gt_graph.specs.Rounds.{AreRounds}
use Rattle.gt_next.specs.declared.answer.Answer.{Answer}
use Rattle.gt_next.specs.declared.answer.Answer.TheVariants.{Skipped, Collected, Stats}
use Rattle.gt_next.specs.States.{State, Variables, meaning}
use Rattle.gt_next.specs.Texts.{allocated_of}

-- ---- when a collection is skipped

-- the bytes of all blocks together
abbrev pub allocated : State → ℕ
allocated s = allocated_of (ledger_of s.heap.places)

-- the bytes from which a heap counts: those after the last collection or load, and at least so many units of 1,024 bytes as the setting says
abbrev pub floor_of : (last min_heapsize : ℕ) → ℕ
floor_of last min_heapsize = max last (min_heapsize * 1024)

-- the bytes from which `collect` collects: the heap has grown by so many percent
abbrev pub threshold_of : (last min_expand min_heapsize : ℕ) → ℕ
threshold_of last min_expand min_heapsize = floor_of last min_heapsize + floor_of last min_heapsize * min_expand / 100

-- the threshold by the numbers of a state
abbrev pub threshold : State → ℕ
threshold s = threshold_of s.last s.min_expand s.min_heapsize

-- ---- collections

-- the variables of objects that are there stay bound to them, and the others are bound no more
abbrev pub KeepsBound : List Object → (old new : Variables) → Type 0
KeepsBound objects old new = (name : List ℕ) (id : ℕ) → (meaning new name ≡ Some id) ↔ ((meaning old name ≡ Some id) × ((o : Object) × (object_of objects id ≡ Some o)))

-- What a collection leaves: the objects and the pairs that it keeps, which are counted, and those that go; the variables of kept objects;
-- as the last number the bytes of all blocks; and the rounds of its marking, between their bounds. All else is as before.
pub record Collects (program : Program) (s : State) (kept freed dropped : ℕ) (t : State) : Type 0 where
  pub heap : After program s.heap t.heap
  pub kept_count : kept ≡ length t.heap.graph.objects
  pub freed_count : kept + freed ≡ length s.heap.graph.objects
  pub dropped_count : pairs_in t.heap.graph.pairs + dropped ≡ pairs_in s.heap.graph.pairs
  pub variables : KeepsBound t.heap.graph.objects s.variables t.variables
  pub rounds : AreRounds program s.heap.graph t.heap.graph heap.values t.rounds
  pub rest : t ≡ record s { heap = t.heap; variables = t.variables; last = allocated t; rounds = t.rounds }

-- collect force: what it keeps, in numbers
pub data NextForce (program : Program) (s : State) : Answer → State → Type 0 where
  collects : {kept freed dropped : ℕ} {t : State} → Collects program s kept freed dropped t → NextForce program s (Collected kept freed dropped) t

-- collect: nothing where too little is allocated; else as collect force
pub data NextCollect (program : Program) (s : State) : Answer → State → Type 0 where
  skips : allocated s < threshold s → NextCollect program s Skipped s
  collects : {answer : Answer} {t : State} → threshold s ≤ allocated s → NextForce program s answer t → NextCollect program s answer t

-- stats: the numbers of the collector
pub data NextStats (s : State) : Answer → State → Type 0 where
  reports : NextStats s (Stats (allocated s) s.last (threshold s) s.heap.places.image.count s.rounds) s
