-- The refusals of each command, in the order in which they are looked for.
use Rattle.std.specs.Prelude.{◌≡◌, ◌≤◌, ◌⊎◌, ℕ, suc, ℤ, pos, List, [], ◌∷◌, Option, Some, None, length}
use Rattle.gt_types.specs.declared.types.TypeId.{TypeId}
use Rattle.gt_types.specs.declared.program.Cache.{Cache}
use Rattle.gt_types.specs.declared.program.Program.{Program}
use Rattle.gt_layout.specs.declared.planes.Layouts.{Layouts}
use Rattle.gt_script.specs.declared.command.Command.{Command}
use Rattle.gt_script.specs.declared.command.Command.TheVariants as command
use Rattle.gt_script.specs.declared.command.Route.{Route}
use Rattle.gt_tree.specs.Trees.{Tree}
use Rattle.gt_tree.specs.Blocks.{Kind, Nodes, Chars, Raw}
use Rattle.gt_tree.specs.Scopes.{Typed}
use Rattle.gt_pages.specs.Ledger.{Room, rounded}
use Rattle.gt_graph.specs.Objects.{pairs_in}
use Rattle.gt_graph.specs.Places.{Needs, ledger_of}
use Rattle.gt_graph.specs.Good.{MAX_PAIRS, IsOfTails}
use Rattle.gt_next.specs.declared.answer.Why.{Why}
use Rattle.gt_next.specs.declared.answer.Why.TheVariants.{Unbound, NoType, WrongType, OutOfRange, Inactive, Shape, TooLarge, Full, NoCache, TooManyVars}
use Rattle.gt_next.specs.States.{State, meaning, IsFullOfVariables}
use Rattle.gt_next.specs.Kinds.{IsKindOf, NamesNodes}
use Rattle.gt_next.specs.Spots.{Spot, Standing, Value, standing_at}
use Rattle.gt_next.specs.Paths.{Leads, RefusesPath}
use Rattle.gt_next.specs.Leaves.{Got, IsObject, Reads, IsLeaf, IsUnboundValue, IsIdlePointer, IsSuited, IsBeyond}
use Rattle.gt_next.specs.Making.{Wanted, wanted, IsTooLarge, IsNegative, HasCapacity, IsMisshapen}
use Rattle.gt_next.specs.Caching.{cache_of, value_of_key, RefusesMember, IsMember, IsCacheAt}
use Rattle.gt_next.specs.Next.{WritesAt}
use Rattle.gt_refusals.specs.declared.causes.Cause.{Cause}
use Rattle.gt_refusals.specs.declared.causes.Cause.TheVariants.{UnboundVariable, UnknownType, NegativeNumber, TooManyBytes, WrongShape, VariableTooMany, NoRoom, RefusedPath, IdlePointer, WrongPlace, NumberBeyond, UnknownCache, RefusedKey, RefusedValue, PairTooMany}

-- ---- the rows

-- the causes for which a command is refused, from the one that is looked for first; the other commands have none
abbrev pub refusals_of : Command → List Cause
refusals_of (command.New var type n) = UnknownType ∷ NegativeNumber ∷ TooManyBytes ∷ WrongShape ∷ VariableTooMany ∷ NoRoom ∷ []
refusals_of (command.Array var type n) = UnknownType ∷ NegativeNumber ∷ WrongShape ∷ TooManyBytes ∷ VariableTooMany ∷ NoRoom ∷ []
refusals_of (command.Text var bytes) = TooManyBytes ∷ VariableTooMany ∷ NoRoom ∷ []
refusals_of (command.Block var n) = NegativeNumber ∷ TooManyBytes ∷ VariableTooMany ∷ NoRoom ∷ []
refusals_of (command.Set path value) = UnboundVariable ∷ RefusedPath ∷ IdlePointer ∷ WrongPlace ∷ NumberBeyond ∷ WrongShape ∷ []
refusals_of (command.Get var path) = RefusedPath ∷ WrongPlace ∷ VariableTooMany ∷ []
refusals_of (command.Drop var) = UnboundVariable ∷ []
refusals_of (command.Print path) = RefusedPath ∷ []
refusals_of (command.Put cache key value) = UnknownCache ∷ RefusedKey ∷ RefusedValue ∷ PairTooMany ∷ []
refusals_of (command.Find cache key) = UnknownCache ∷ RefusedKey ∷ []
refusals_of command = []

-- ---- parts of commands

-- the command is to make a block, and of this block something holds
abbrev pub Wants : Program → Command → (Wanted → Type 0) → Type 0
Wants program (command.New var type n) Holds = (node : TypeId) × (capacity : ℕ) × NamesNodes program type node × HasCapacity program node n capacity × Holds (wanted (Nodes node) 1 capacity)
Wants program (command.Array var type n) Holds = (kind : Kind) × (count : ℕ) × IsKindOf program type kind × (n ≡ pos count) × Holds (wanted kind count 0)
Wants program (command.Text var bytes) Holds = Holds (wanted Chars (suc (length bytes)) 0)
Wants program (command.Block var n) Holds = (count : ℕ) × (n ≡ pos count) × Holds (wanted Raw count 0)
Wants program command Holds = ⊥

-- the variable that a command is to bind is one too many
abbrev pub BindsTooMany : State → Command → Type 0
BindsTooMany s (command.New var type n) = IsFullOfVariables s.variables var
BindsTooMany s (command.Array var type n) = IsFullOfVariables s.variables var
BindsTooMany s (command.Text var bytes) = IsFullOfVariables s.variables var
BindsTooMany s (command.Block var n) = IsFullOfVariables s.variables var
BindsTooMany s (command.Get var path) = IsFullOfVariables s.variables var
BindsTooMany s command = ⊥

-- there is no room for the rounded size of a block
abbrev pub HasNoRoom : Program → Layouts → State → ℕ → Wanted → Type 0
HasNoRoom program layouts s need w = (bytes : ℕ) × Needs program layouts w.kind w.count w.capacity bytes × (rounded bytes ≡ Some need) × (¬ Room (ledger_of s.heap.places) need)

-- a number is given, and it is negative
abbrev pub IsGivenNegative : Option ℤ → Type 0
IsGivenNegative n = (number : ℤ) × (n ≡ Some number) × IsNegative number

-- the path leads to a spot, and of this spot something holds
abbrev pub LeadsWhere : Program → State → Route → (Spot → Type 0) → Type 0
LeadsWhere program s path Holds = (at : Spot) × Leads program s path at × Holds at

-- a cache has the name, and of it and its pairs something holds
abbrev pub HasCache : Program → State → List ℕ → (Cache → List (ℕ × ℕ) → Type 0) → Type 0
HasCache program s name Holds = (place : ℕ) × (cache : Cache) × (pairs : List (ℕ × ℕ)) × IsCacheAt program s name place cache pairs × Holds cache pairs

-- ---- causes

-- the cause is there, and the command is refused so
abbrev pub Refuses : Program → Layouts → State → Command → Cause → Why → Type 0
Refuses program layouts s (command.New var type n) UnknownType why = (why ≡ NoType) × ((node : TypeId) → ¬ NamesNodes program type node)
Refuses program layouts s (command.New var type n) NegativeNumber why = (why ≡ OutOfRange) × IsGivenNegative n
Refuses program layouts s (command.New var type n) WrongShape why = (why ≡ Shape)
    × (node : TypeId) × (capacity : ℕ) × NamesNodes program type node × HasCapacity program node n capacity × IsMisshapen program s node (wanted (Nodes node) 1 capacity) n
Refuses program layouts s (command.Array var type n) UnknownType why = (why ≡ NoType) × ((kind : Kind) → ¬ IsKindOf program type kind)
Refuses program layouts s (command.Array var type n) NegativeNumber why = (why ≡ OutOfRange) × IsNegative n
Refuses program layouts s (command.Array var type n) WrongShape why = (why ≡ Shape) × (kind : Kind) × IsKindOf program type kind × IsOfTails program kind
Refuses program layouts s (command.Block var n) NegativeNumber why = (why ≡ OutOfRange) × IsNegative n
Refuses program layouts s (command.Set path value) UnboundVariable why = (why ≡ Unbound) × IsUnboundValue s value
Refuses program layouts s (command.Set path value) RefusedPath why = RefusesPath program s path why
Refuses program layouts s (command.Set path value) IdlePointer why = (why ≡ Inactive) × LeadsWhere program s path (λ at. IsIdlePointer program s at)
Refuses program layouts s (command.Set path value) WrongPlace why = (why ≡ WrongType) × LeadsWhere program s path (λ at. ¬ IsSuited program s at value)
Refuses program layouts s (command.Set path value) NumberBeyond why = (why ≡ OutOfRange)
    × LeadsWhere program s path (λ at. (t : Typed) × (standing_at program s.heap.graph at ≡ Some (Value t)) × IsBeyond t.type value)
Refuses program layouts s (command.Set path value) WrongShape why = (why ≡ Shape)
    × LeadsWhere program s path (λ at. (t : Typed) × (leaf : Tree) × (standing_at program s.heap.graph at ≡ Some (Value t)) × IsLeaf s.variables t.type value leaf × ((u : State) → ¬ WritesAt program s at leaf u))
Refuses program layouts s (command.Get var path) RefusedPath why = RefusesPath program s path why
Refuses program layouts s (command.Get var path) WrongPlace why = (why ≡ WrongType)
    × LeadsWhere program s path (λ at. (what : Standing) × (standing_at program s.heap.graph at ≡ Some what) × ((got : Got) → ¬ Reads what got))
Refuses program layouts s (command.Get var path) VariableTooMany why = (why ≡ TooManyVars) × BindsTooMany s (command.Get var path)
    × LeadsWhere program s path (λ at. (what : Standing) × (id : ℕ) × (standing_at program s.heap.graph at ≡ Some what) × Reads what (IsObject id))
Refuses program layouts s (command.Drop var) UnboundVariable why = (why ≡ Unbound) × (meaning s.variables var ≡ None)
Refuses program layouts s (command.Print path) RefusedPath why = RefusesPath program s path why
Refuses program layouts s (command.Put name key value) UnknownCache why = (why ≡ NoCache) × (cache_of program name ≡ None)
Refuses program layouts s (command.Put name key value) RefusedKey why = HasCache program s name (λ cache pairs. RefusesMember s key cache.key why)
Refuses program layouts s (command.Put name key value) RefusedValue why = HasCache program s name (λ cache pairs. RefusesMember s value cache.value why)
Refuses program layouts s (command.Put name key value) PairTooMany why = (why ≡ TooLarge)
    × HasCache program s name (λ cache pairs. (k : ℕ) × IsMember s key cache.key k × (value_of_key k pairs ≡ None) × (MAX_PAIRS ≤ pairs_in s.heap.graph.pairs))
Refuses program layouts s (command.Find name key) UnknownCache why = (why ≡ NoCache) × (cache_of program name ≡ None)
Refuses program layouts s (command.Find name key) RefusedKey why = HasCache program s name (λ cache pairs. RefusesMember s key cache.key why)
Refuses program layouts s command TooManyBytes why = (why ≡ TooLarge) × Wants program command (IsTooLarge program layouts)
Refuses program layouts s command VariableTooMany why = (why ≡ TooManyVars) × BindsTooMany s command
Refuses program layouts s command NoRoom why = (need : ℕ) × (why ≡ Full need) × Wants program command (HasNoRoom program layouts s need)
Refuses program layouts s command cause why = ⊥

-- the cause is not there, so that the next one of the row is looked for; no other causes have one after them
abbrev pub Passes : Program → Layouts → State → Command → Cause → Type 0
Passes program layouts s (command.New var type n) UnknownType = (node : TypeId) × NamesNodes program type node
Passes program layouts s (command.New var type n) NegativeNumber = ¬ IsGivenNegative n
Passes program layouts s (command.New var type n) WrongShape =
    (node : TypeId) × (capacity : ℕ) × NamesNodes program type node × HasCapacity program node n capacity × (¬ IsMisshapen program s node (wanted (Nodes node) 1 capacity) n)
Passes program layouts s (command.Array var type n) UnknownType = (kind : Kind) × IsKindOf program type kind
Passes program layouts s (command.Array var type n) NegativeNumber = ¬ IsNegative n
Passes program layouts s (command.Array var type n) WrongShape = (kind : Kind) × IsKindOf program type kind × (¬ IsOfTails program kind)
Passes program layouts s (command.Block var n) NegativeNumber = ¬ IsNegative n
Passes program layouts s (command.Set path value) UnboundVariable = ¬ IsUnboundValue s value
Passes program layouts s (command.Set path value) RefusedPath = (at : Spot) × Leads program s path at
Passes program layouts s (command.Set path value) IdlePointer = LeadsWhere program s path (λ at. ¬ IsIdlePointer program s at)
Passes program layouts s (command.Set path value) WrongPlace = LeadsWhere program s path (λ at. IsSuited program s at value)
Passes program layouts s (command.Set path value) NumberBeyond =
    LeadsWhere program s path (λ at. (t : Typed) × (standing_at program s.heap.graph at ≡ Some (Value t)) × (¬ IsBeyond t.type value))
Passes program layouts s (command.Get var path) RefusedPath = (at : Spot) × Leads program s path at
Passes program layouts s (command.Get var path) WrongPlace =
    LeadsWhere program s path (λ at. (what : Standing) × (got : Got) × (standing_at program s.heap.graph at ≡ Some what) × Reads what got)
Passes program layouts s (command.Put name key value) UnknownCache = HasCache program s name (λ cache pairs. Unit {0})
Passes program layouts s (command.Put name key value) RefusedKey = HasCache program s name (λ cache pairs. (k : ℕ) × IsMember s key cache.key k)
Passes program layouts s (command.Put name key value) RefusedValue = HasCache program s name (λ cache pairs. (v : ℕ) × IsMember s value cache.value v)
Passes program layouts s (command.Find name key) UnknownCache = HasCache program s name (λ cache pairs. Unit {0})
Passes program layouts s command TooManyBytes = Wants program command (λ w. ¬ IsTooLarge program layouts w)
Passes program layouts s command VariableTooMany = ¬ BindsTooMany s command
Passes program layouts s command cause = ⊥

-- a command is refused for the first cause of a row that is there
abbrev pub IsFirstOf : Program → Layouts → State → Command → List Cause → Why → Type 0
IsFirstOf program layouts s command [] why = ⊥
IsFirstOf program layouts s command (cause ∷ causes) why =
    Refuses program layouts s command cause why ⊎ (Passes program layouts s command cause × IsFirstOf program layouts s command causes why)
