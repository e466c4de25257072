-- No promise: what the last steps of the commands that make blocks do.
use Rattle.std.specs.Prelude.{◌≡◌, ℕ, ℤ, Bool, true, not, List, Option, Some, None, Result, Ok, Err}
use Rattle.std.specs.declared.alloc.AllocError.{AllocError}
use Rattle.gt_types.specs.declared.program.Program.{Program}
use Rattle.gt_types.specs.declared.types.TypeId.{TypeId}
use Rattle.gt_layout.specs.declared.planes.Layouts.{Layouts}
use Rattle.gt_tree.specs.Blocks.{Kind, Nodes}
use Rattle.gt_value.specs.Names.{kind_of}
use Rattle.gt_held.specs.Zeros.{HasZero}
use Rattle.gt_objects.specs.declared.objects.Known.{Known}
use Rattle.gt_objects.specs.declared.making.Made.{Made as MadeBlock}
use Rattle.gt_objects.specs.declared.making.MakeFail.{MakeFail}
use Rattle.gt_objects.specs.declared.making.MakeFail.TheVariants as fail
use Rattle.gt_io.specs.Held.{Held}
use Rattle.gt_next.specs.declared.answer.Answer.{Answer}
use Rattle.gt_next.specs.declared.answer.Answer.TheVariants.{Made, Refused}
use Rattle.gt_next.specs.declared.answer.Why.TheVariants.{Full, Shape, TooLarge}
use Rattle.gt_next.specs.States.{State, Variables, meaning, with_variable}
use Rattle.gt_next.specs.Making.{Wanted, wanted, Contents, Binds, HasCapacity, IsMisshapen, IsTooLarge, zeros}
use Rattle.gt_session.specs.declared.session.Session.{Session}
use Rattle.gt_session.specs.Sessions.{Holds, StandsFor}

-- what is wanted, by what is to be known of it
abbrev pub wanted_of : Known → Wanted
wanted_of known = wanted (kind_of known.kind) known.count known.capacity

-- from whatever state the old session stands for, a command may answer this, and go on to a state that the new session holds; that this
-- state is good is not said
abbrev pub LeavesBy : (State → Answer → State → Type 0) → (old new : Session) → Answer → Type 0
LeavesBy Next old new answer = (told : Option Held) (s : State) → StandsFor old told s → (t : State) × Next s answer t × Holds new told t

-- a block with such contents is made and bound, or refused for the last reasons
abbrev pub BindsIn : (old new : Session) → List ℕ → Wanted → (State → Contents) → Answer → Type 0
BindsIn old new var w contents answer = LeavesBy (λ s answer t. Binds old.schema.program old.schema.layouts s var w (contents s) answer t) old new answer

-- where a variable was bound that had this meaning before, or none, it means that again
abbrev pub TakesBack : (old : Variables) (var : List ℕ) (before : Option ℕ) (new : Variables) → Type 0
TakesBack old var before new = (v : Variables) (address : ℕ) → old ≡ with_variable v var address → before ≡ meaning v var → new ≡ v

-- A command ends for which a variable was bound: it is bound to what was made, or, where there was no room or no memory, means again what it
-- did before.
pub data Ends (old : Session) (var : List ℕ) (before : Option ℕ) : Result MadeBlock MakeFail → Session → Result Answer AllocError → Type 0 where
  made : {m : MadeBlock} → Ends old var before (Ok m) (record old { vars = with_variable old.vars var m.addr }) (Ok (Made m.addr m.size))
  full : {need : ℕ} {vars : Variables} → TakesBack old.vars var before vars → Ends old var before (Err (fail.Full need)) (record old { vars = vars }) (Ok (Refused (Full need)))
  memory : {vars : Variables} {e : AllocError} → TakesBack old.vars var before vars → Ends old var before (Err fail.Memory) (record old { vars = vars }) (Err e)

-- there is a zero block of what is to be known, whatever state a session stands for
abbrev pub CanBeZero : Session → Known → Type 0
CanBeZero session known =
    (told : Option Held) (s : State) → StandsFor session told s → HasZero session.schema.program s.heap.graph (kind_of known.kind) known.count known.capacity

-- so many zero elements without room at their end are made and bound, or too large, or refused for the last reasons
pub data MakesMany (program : Program) (layouts : Layouts) (s : State) (var : List ℕ) (kind : Kind) (count : ℕ) : Answer → State → Type 0 where
  too_large : IsTooLarge program layouts (wanted kind count 0) → MakesMany program layouts s var kind count (Refused TooLarge) s
  binds : {answer : Answer} {t : State} → ¬ IsTooLarge program layouts (wanted kind count 0)
      → Binds program layouts s var (wanted kind count 0) (zeros program s (wanted kind count 0)) answer t → MakesMany program layouts s var kind count answer t

-- for how many elements there is room at the end of a structure, of a tail type or not: as many as are given, where it is of one
abbrev pub room_of : Bool → Option ℕ → ℕ
room_of true (Some n) = n
room_of tail number = 0

-- a number is given exactly where there is a tail
abbrev pub is_shaped : Bool → Option ℕ → Bool
is_shaped tail (Some n) = tail
is_shaped tail None = not tail

-- a single zero structure is made and bound, or too large, or of the wrong shape, or refused for the last reasons
pub data MakesSingle (program : Program) (layouts : Layouts) (s : State) (var : List ℕ) (node : TypeId) (n : Option ℤ) : Answer → State → Type 0 where
  too_large : {capacity : ℕ} → HasCapacity program node n capacity → IsTooLarge program layouts (wanted (Nodes node) 1 capacity) → MakesSingle program layouts s var node n (Refused TooLarge) s
  shape : {capacity : ℕ} → HasCapacity program node n capacity → ¬ IsTooLarge program layouts (wanted (Nodes node) 1 capacity) → IsMisshapen program s node (wanted (Nodes node) 1 capacity) n
      → MakesSingle program layouts s var node n (Refused Shape) s
  binds : {capacity : ℕ} {answer : Answer} {t : State} → HasCapacity program node n capacity → ¬ IsTooLarge program layouts (wanted (Nodes node) 1 capacity)
      → ¬ IsMisshapen program s node (wanted (Nodes node) 1 capacity) n
      → Binds program layouts s var (wanted (Nodes node) 1 capacity) (zeros program s (wanted (Nodes node) 1 capacity)) answer t → MakesSingle program layouts s var node n answer t
