-- What a command may answer, and what it leaves. A refusal changes nothing.
use Rattle.std.specs.Prelude.{◌≡◌, ℕ, ℤ, List, [], ◌∷◌, Some, None}
use Rattle.gt_types.specs.declared.program.Program.{Program}
use Rattle.gt_layout.specs.declared.planes.Layouts.{Layouts}
use Rattle.gt_script.specs.declared.command.Command.{Command}
use Rattle.gt_script.specs.declared.command.Command.TheVariants as command
use Rattle.gt_script.specs.declared.command.Line.{Line}
use Rattle.gt_script.specs.declared.command.Route.{Route}
use Rattle.gt_script.specs.declared.command.Given.{Given}
use Rattle.gt_tree.specs.Trees.{Tree}
use Rattle.gt_tree.specs.Scopes.{Typed}
use Rattle.gt_show.specs.Shown.{Shows}
use Rattle.gt_show.specs.BlockTexts.{ShowsBlock}
use Rattle.gt_listing.specs.Listing.{IsListing}
use Rattle.gt_graph.specs.Objects.{Object, Graph, blocks_of, elements_in}
use Rattle.gt_graph.specs.Places.{address_in, ledger_of}
use Rattle.gt_graph.specs.Changes.{Writes}
use Rattle.gt_next.specs.declared.answer.Answer.{Answer}
use Rattle.gt_next.specs.declared.answer.Answer.TheVariants.{Done, Number, Null, Ref, Shown, Heap, Tables, Refused}
use Rattle.gt_next.specs.declared.answer.Why.{Why}
use Rattle.gt_next.specs.declared.answer.Why.TheVariants.{Unbound, WrongType, Shape, TooManyVars}
use Rattle.gt_next.specs.States.{State, meaning, with_variable, without_variable, IsFullOfVariables}
use Rattle.gt_next.specs.Spots.{Spot, Standing, Whole, Value, standing_at}
use Rattle.gt_next.specs.Paths.{Leads, RefusesPath}
use Rattle.gt_next.specs.Leaves.{Got, IsNumber, IsNull, IsObject, Reads, IsLeaf, IsUnboundValue, RefusesValue}
use Rattle.gt_next.specs.Making.{NextNew, NextArray, NextText, NextBlock}
use Rattle.gt_next.specs.Caching.{NextPut, NextFind}
use Rattle.gt_next.specs.Collecting.{NextCollect, NextForce, NextStats}
use Rattle.gt_next.specs.Texts.{heap_text}

-- ---- set

-- a leaf at a spot is written, and all else is as before
abbrev pub WritesAt : Program → State → Spot → Tree → State → Type 0
WritesAt program s at leaf t = (g : Graph) × Writes program s.heap.graph at.owner at.path leaf g × (t ≡ record s { heap = record s.heap { graph = g } })

-- set: an unbound value; else the path is refused; else the value is refused at its place; else no value fits with it; else it is written
pub data NextSet (program : Program) (s : State) (path : Route) (value : Given) : Answer → State → Type 0 where
  unbound : IsUnboundValue s value → NextSet program s path value (Refused Unbound) s
  refused : {why : Why} → ¬ IsUnboundValue s value → RefusesPath program s path why → NextSet program s path value (Refused why) s
  value_refused : {at : Spot} {why : Why} → ¬ IsUnboundValue s value → Leads program s path at → RefusesValue program s at value why → NextSet program s path value (Refused why) s
  shape : {at : Spot} {t : Typed} {leaf : Tree} → ¬ IsUnboundValue s value → Leads program s path at → ((why : Why) → ¬ RefusesValue program s at value why)
      → standing_at program s.heap.graph at ≡ Some (Value t) → IsLeaf s.variables t.type value leaf → ((u : State) → ¬ WritesAt program s at leaf u)
      → NextSet program s path value (Refused Shape) s
  writes : {at : Spot} {t : Typed} {leaf : Tree} {u : State} → ¬ IsUnboundValue s value → Leads program s path at → ((why : Why) → ¬ RefusesValue program s at value why)
      → standing_at program s.heap.graph at ≡ Some (Value t) → IsLeaf s.variables t.type value leaf → WritesAt program s at leaf u → NextSet program s path value Done u

-- ---- get

-- what is read is answered; an object is bound to the variable, where this is not one too many
pub data Answers (s : State) (var : List ℕ) : Got → Answer → State → Type 0 where
  a_number : {n : ℤ} → Answers s var (IsNumber n) (Number n) s
  a_null : Answers s var IsNull Null s
  too_many : {id : ℕ} → IsFullOfVariables s.variables var → Answers s var (IsObject id) (Refused TooManyVars) s
  an_object : {id : ℕ} → ¬ IsFullOfVariables s.variables var
      → Answers s var (IsObject id) (Ref (address_in s.heap.places.placed id)) (record s { variables = with_variable s.variables var id })

-- get: the path is refused; else the place is no leaf; else what is read there
pub data NextGet (program : Program) (s : State) (var : List ℕ) (path : Route) : Answer → State → Type 0 where
  refused : {why : Why} → RefusesPath program s path why → NextGet program s var path (Refused why) s
  no_leaf : {at : Spot} {what : Standing} → Leads program s path at → standing_at program s.heap.graph at ≡ Some what → ((got : Got) → ¬ Reads what got)
      → NextGet program s var path (Refused WrongType) s
  reads : {at : Spot} {what : Standing} {got : Got} {answer : Answer} {t : State} → Leads program s path at → standing_at program s.heap.graph at ≡ Some what → Reads what got
      → Answers s var got answer t → NextGet program s var path answer t

-- ---- drop, print, heap, tables

-- drop: an unbound variable; else it is bound no more
pub data NextDrop (s : State) (var : List ℕ) : Answer → State → Type 0 where
  unbound : meaning s.variables var ≡ None → NextDrop s var (Refused Unbound) s
  drops : {id : ℕ} → meaning s.variables var ≡ Some id → NextDrop s var Done (record s { variables = without_variable s.variables var })

-- the text of what stands at a spot
pub data ShowsStanding (program : Program) (objects : List Object) : Standing → List ℕ → Type 0 where
  a_value : {t : Typed} {text : List ℕ} → Shows program (blocks_of objects) t.type t.value text → ShowsStanding program objects (Value t) text
  a_block : {o : Object} {text : List ℕ} → ShowsBlock program (blocks_of objects) o.kind (elements_in o.value) text → ShowsStanding program objects (Whole o) text

-- print: the path is refused; else the text of what stands there
pub data NextPrint (program : Program) (s : State) (path : Route) : Answer → State → Type 0 where
  refused : {why : Why} → RefusesPath program s path why → NextPrint program s path (Refused why) s
  shows : {at : Spot} {what : Standing} {text : List ℕ} → Leads program s path at → standing_at program s.heap.graph at ≡ Some what
      → ShowsStanding program s.heap.graph.objects what text → NextPrint program s path (Shown text) s

-- heap: the numbers of objects by their sizes
pub data NextHeap (s : State) : Answer → State → Type 0 where
  reports : NextHeap s (Heap (heap_text (ledger_of s.heap.places))) s

-- tables: what the headers declare, with sizes and places
pub data NextTables (program : Program) (layouts : Layouts) (s : State) : Answer → State → Type 0 where
  lists : {text : List ℕ} → IsListing program layouts text → NextTables program layouts s (Tables text) s

-- ---- all commands

-- from s, the machine may give this answer to the command and go on to t; `save` and `load` come later
abbrev pub Next : Program → Layouts → State → Command → Answer → State → Type 0
Next program layouts s (command.New var type n) answer t = NextNew program layouts s var type n answer t
Next program layouts s (command.Array var type n) answer t = NextArray program layouts s var type n answer t
Next program layouts s (command.Text var bytes) answer t = NextText program layouts s var bytes answer t
Next program layouts s (command.Block var n) answer t = NextBlock program layouts s var n answer t
Next program layouts s (command.Set path value) answer t = NextSet program s path value answer t
Next program layouts s (command.Get var path) answer t = NextGet program s var path answer t
Next program layouts s (command.Drop var) answer t = NextDrop s var answer t
Next program layouts s (command.Print path) answer t = NextPrint program s path answer t
Next program layouts s (command.Put cache key value) answer t = NextPut program s cache key value answer t
Next program layouts s (command.Find cache key) answer t = NextFind program s cache key answer t
Next program layouts s command.Collect answer t = NextCollect program s answer t
Next program layouts s command.CollectForce answer t = NextForce program s answer t
Next program layouts s command.Heap answer t = NextHeap s answer t
Next program layouts s command.Stats answer t = NextStats s answer t
Next program layouts s command.Tables answer t = NextTables program layouts s answer t
Next program layouts s command answer t = ⊥

-- the machine may give these answers to these lines, one step after another, and go from s to t
pub data Run (program : Program) (layouts : Layouts) : State → List Line → List Answer → State → Type 0 where
  ended : {s : State} → Run program layouts s [] [] s
  onward : {s mid t : State} {line : Line} {lines : List Line} {answer : Answer} {answers : List Answer} → Next program layouts s line.command answer mid
      → Run program layouts mid lines answers t → Run program layouts s (line ∷ lines) (answer ∷ answers) t
