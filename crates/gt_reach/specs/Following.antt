-- No promise: how far the marking of objects has come. Only the functions inside the crate cite this.
use Rattle.std.specs.Prelude.{◌≡◌, ℕ, Bool, true, false, List, [], ◌∷◌, map}
use Rattle.std.specs.List.{filter}
use Rattle.gt_types.specs.declared.program.Program.{Program}
use Rattle.gt_pages.specs.Contents.{Contents}
use Rattle.gt_graph.specs.Good.{Heap}
use Rattle.gt_graph.specs.Kept.{ReachedWith, PairsStay, CachesStay}
use Rattle.gt_objects.specs.declared.objects.Objects.{Objects}
use Rattle.gt_walk.specs.declared.tables.Tables.{Tables}
use Rattle.gt_mark.specs.Marks.{Marks}
use Rattle.gt_mark.specs.Rounds.{AreRounds}
use Rattle.gt_tracing.specs.Walked.{walks_in}
use Rattle.gt_tracing.specs.Traces.{Traces}
use Rattle.gt_tracing.specs.Laws.{NoneIsMarked, AreObjects, StartAt}
use Rattle.gt_caches.specs.Pairs.{Entry, Entries, pair_of, pairs_of, staying}

-- The marker marked what the roots and these values of pairs reach, in these rounds, beginning where no block was marked.
pub record IsTraced (program : Program) (tables : Tables) (heap : Heap) (values : List ℕ) (objects : Objects) (times : ℕ) : Type 0 where
  pub before : Contents
  pub starts : List ℕ
  pub unmarked : NoneIsMarked before.slots
  pub traces : Traces program tables objects.space before.slots heap.graph
  pub start : StartAt program heap.graph values starts
  pub named : AreObjects heap.graph.objects starts
  pub marks : Marks tables objects.space (walks_in program heap.graph.objects) starts before objects.pages
  pub rounds : AreRounds tables objects.space (walks_in program heap.graph.objects) starts before.slots objects.pages.slots times

-- The turn of a pair: if its key is reached, it stays, and what its value reaches is marked too; else nothing is.
abbrev pub TakesTurn : Program → Tables → Heap → List ℕ → (key value : ℕ) → Objects → (times : ℕ) → (stays : Bool) → Type 0
TakesTurn program tables heap values key value objects times true = ReachedWith program heap.graph values key × IsTraced program tables heap (value ∷ values) objects times
TakesTurn program tables heap values key value objects times false = (¬ ReachedWith program heap.graph values key) × IsTraced program tables heap values objects times

-- The pairs of a cache had their turns, one after another.
pub record HadTurns (program : Program) (tables : Tables) (heap : Heap) (values : List ℕ) (entries : List Entry) (objects : Objects) (times : ℕ) : Type 0 where
  pub after : List ℕ
  pub stay : PairsStay program heap.graph values (map pair_of entries) (map pair_of (filter (λ e. e.stays) entries)) after
  pub traced : IsTraced program tables heap after objects times

-- The caches had their turns, one after another.
pub record CachesHadTurns (program : Program) (tables : Tables) (heap : Heap) (values : List ℕ) (caches : Entries) (objects : Objects) (times : ℕ) : Type 0 where
  pub after : List ℕ
  pub stay : CachesStay program heap.graph values (pairs_of caches) (staying caches) after
  pub traced : IsTraced program tables heap after objects times
