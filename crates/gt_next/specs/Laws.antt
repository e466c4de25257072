-- What is to follow from the definitions, for each program that headers can declare and its layouts.
use Rattle.std.specs.Prelude.{◌≡◌, ◌≤◌, ◌<◌, ◌⊎◌, ℕ, List, Option, Some, All}
use Rattle.gt_types.specs.declared.program.Program.{Program}
use Rattle.gt_types.specs.Settled.{Settled}
use Rattle.gt_layout.specs.declared.planes.Layouts.{Layouts}
use Rattle.gt_layout.specs.Planes.{IsLaidOut}
use Rattle.gt_space.specs.declared.TheConstants.{MIN_PAGES, MAX_PAGES}
use Rattle.gt_script.specs.declared.command.Command.{Command}
use Rattle.gt_script.specs.declared.command.Command.TheVariants as command
use Rattle.gt_script.specs.declared.command.Line.{Line}
use Rattle.gt_script.specs.declared.command.Route.{Route}
use Rattle.gt_io.specs.Held.{Held}
use Rattle.gt_types.specs.declared.limits.TheConstants.{MAX_MIN_EXPAND, MAX_MIN_HEAPSIZE}
use Rattle.gt_next.specs.declared.answer.Answer.{Answer}
use Rattle.gt_next.specs.declared.answer.Answer.TheVariants.{Made, Refused}
use Rattle.gt_next.specs.declared.answer.Why.{Why}
use Rattle.gt_next.specs.States.{State, IsOpening, IsGoodState}
use Rattle.gt_next.specs.Spots.{Spot, Standing, standing_at}
use Rattle.gt_next.specs.Paths.{Leads, RefusesPath}
use Rattle.gt_next.specs.Next.{Next, Run}

-- what each law rests on: the program is one that headers can declare, and these are its layouts
pub record IsRead (program : Program) (layouts : Layouts) : Type 0 where
  pub settled : Settled program
  pub laid : IsLaidOut program layouts

-- ---- paths

-- a path of a good state leads to one spot, at which something stands, or has one refusal, and never both
pub record PathsEndOnce (program : Program) (layouts : Layouts) : Type 0 where
  pub ends : (s : State) (path : Route) → IsGoodState program layouts s
      → ((at : Spot) × (what : Standing) × Leads program s path at × (standing_at program s.heap.graph at ≡ Some what)) ⊎ ((why : Why) × RefusesPath program s path why)
  pub spots : (s : State) (path : Route) (at other : Spot) → IsGoodState program layouts s → Leads program s path at → Leads program s path other → at ≡ other
  pub refusals : (s : State) (path : Route) (why other : Why) → IsGoodState program layouts s → RefusesPath program s path why → RefusesPath program s path other → why ≡ other
  pub never_both : (s : State) (path : Route) (at : Spot) (why : Why) → IsGoodState program layouts s → Leads program s path at → ¬ RefusesPath program s path why

-- ---- commands

-- the commands that are built: all but those of images
abbrev pub IsBuilt : Command → Type 0
IsBuilt (command.Save file page) = ⊥
IsBuilt (command.Load file) = ⊥
IsBuilt c = Unit {0}

-- the text of a command is of bytes; what a script says is so
abbrev pub IsOfBytes : Command → Type 0
IsOfBytes (command.Text var bytes) = All (λ byte. byte < 256) bytes
IsOfBytes c = Unit {0}

-- two answers are one, but for the address of a new block
pub data AreOneAnswer : Answer → Answer → Type 0 where
  same : {a : Answer} → AreOneAnswer a a
  made : {address other size : ℕ} → AreOneAnswer (Made address size) (Made other size)

-- from a good state a command has no two answers
abbrev pub AnswerIsOne : Program → Layouts → Type 0
AnswerIsOne program layouts = (s t u : State) (c : Command) (a b : Answer) → IsGoodState program layouts s → Next program layouts s c a t → Next program layouts s c b u → AreOneAnswer a b

-- two states are one, but for the rounds of the last collection, which are left free between bounds
abbrev pub AreOneState : State → State → Type 0
AreOneState t u = t ≡ record u { rounds = t.rounds }

-- the commands that may collect
pub data IsCollection : Command → Type 0 where
  collect : IsCollection command.Collect
  force : IsCollection command.CollectForce

-- with an answer goes one next state, but for the rounds of a collection
abbrev pub StateIsOne : Program → Layouts → Type 0
StateIsOne program layouts = (s t u : State) (c : Command) (a : Answer) → IsGoodState program layouts s → Next program layouts s c a t → Next program layouts s c a u
    → (t ≡ u) ⊎ (IsCollection c × AreOneState t u)

-- a refusal changes nothing
abbrev pub RefusalsChangeNothing : Program → Layouts → Type 0
RefusalsChangeNothing program layouts = (s t : State) (c : Command) (why : Why) → Next program layouts s c (Refused why) t → t ≡ s

-- a good state stays good
abbrev pub StaysGood : Program → Layouts → Type 0
StaysGood program layouts = (s t : State) (c : Command) (a : Answer) → IsGoodState program layouts s → IsOfBytes c → Next program layouts s c a t → IsGoodState program layouts t

-- ---- runs

-- an opening state of settings in their ranges is good
abbrev pub OpeningIsGood : Program → Layouts → Type 0
OpeningIsGood program layouts = (pages min_expand min_heapsize : ℕ) (told : Option Held) (s : State) → MIN_PAGES ≤ pages → pages ≤ MAX_PAGES → min_expand ≤ MAX_MIN_EXPAND
    → min_heapsize ≤ MAX_MIN_HEAPSIZE → IsOpening program pages min_expand min_heapsize told s → IsGoodState program layouts s

-- the answers of a run fix the state to which it leads
abbrev pub RunIsOne : Program → Layouts → Type 0
RunIsOne program layouts = (s t u : State) (lines : List Line) (answers : List Answer) → IsGoodState program layouts s → All (λ line. IsOfBytes line.command) lines
    → Run program layouts s lines answers t → Run program layouts s lines answers u → AreOneState t u
