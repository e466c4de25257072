-- The state for which a session stands.
use Rattle.std.specs.Prelude.{◌≡◌, Option}
use Rattle.gt_io.specs.Held.{Held}
use Rattle.gt_objects.specs.Holding.{IsHeapOf}
use Rattle.gt_next.specs.declared.answer.Answer.{Answer}
use Rattle.gt_next.specs.declared.answer.Answer.TheVariants.{Refused}
use Rattle.gt_next.specs.States.{State, IsGoodState}
use Rattle.gt_schema.specs.Schemas.{IsSchema}
use Rattle.gt_caches.specs.Pairs.{pairs_of}
use Rattle.gt_session.specs.declared.session.Session.{Session}

-- A session holds a state: its bytes, pages and directory are those of the heap, and its caches have the pairs of it; and the variables,
-- the numbers and the files are these.
pub record Holds (session : Session) (told : Option Held) (s : State) : Type 0 where
  pub schema : IsSchema session.schema
  pub heap : IsHeapOf session.schema.program session.schema.layouts session.objects s.heap
  pub pairs : s.heap.graph.pairs ≡ pairs_of session.caches
  pub variables : s.variables ≡ session.vars
  pub min_expand : s.min_expand ≡ session.min_expand
  pub min_heapsize : s.min_heapsize ≡ session.min_heapsize
  pub last : s.last ≡ session.last
  pub rounds : s.rounds ≡ session.rounds
  pub files : s.files ≡ told

-- it stands for a state that it holds and that is good
pub record StandsFor (session : Session) (told : Option Held) (s : State) : Type 0 where
  pub holds : Holds session told s
  pub good : IsGoodState session.schema.program session.schema.layouts s

-- ---- what a command leaves

-- From whatever state the old session stands for, a command may answer this, and go on to a state for which the new session stands, by
-- this relation of states and answers.
abbrev pub Goes : (State → Answer → State → Type 0) → (old new : Session) → Answer → Type 0
Goes Next old new answer = (told : Option Held) (s : State) → StandsFor old told s → (t : State) × Next s answer t × StandsFor new told t

-- the new session stands for whatever state the old one stands for
abbrev pub IsAsBefore : (old new : Session) → Type 0
IsAsBefore old new = (told : Option Held) (s : State) → StandsFor old told s → StandsFor new told s

-- a session stands for some state
abbrev pub IsSession : Session → Type 0
IsSession session = (told : Option Held) × (s : State) × StandsFor session told s

-- where a command is refused, no byte of the space has changed
abbrev pub KeepsBytes : Answer → (old new : Session) → Type 0
KeepsBytes (Refused why) old new = new.objects.space ≡ old.objects.space
KeepsBytes answer old new = Unit {0}
