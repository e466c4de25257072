-- Blocks that commands make, and why they make none.
use Rattle.std.specs.Prelude.{◌≡◌, ◌<◌, ℕ, suc, ℤ, pos, negsuc, List, Option, Some, None, length}
use Rattle.gt_types.specs.declared.types.TypeId.{TypeId}
use Rattle.gt_types.specs.declared.program.Program.{Program}
use Rattle.gt_types.specs.Tails.{IsTailType}
use Rattle.gt_layout.specs.declared.planes.Layouts.{Layouts}
use Rattle.gt_script.specs.declared.command.TypeName.{TypeName}
use Rattle.gt_tree.specs.Trees.{Tree, Row}
use Rattle.gt_tree.specs.Blocks.{Kind, Nodes, Chars, Raw}
use Rattle.gt_pages.specs.Ledger.{Room, rounded}
use Rattle.gt_graph.specs.Objects.{Object}
use Rattle.gt_graph.specs.Places.{Placed, Needs, ledger_of}
use Rattle.gt_graph.specs.Good.{IsOfTails}
use Rattle.gt_graph.specs.Changes.{Makes, IsZeroBlock, characters}
use Rattle.gt_next.specs.declared.TheConstants.{MAX_BLOCK}
use Rattle.gt_next.specs.declared.answer.Answer.{Answer}
use Rattle.gt_next.specs.declared.answer.Answer.TheVariants.{Made, Refused}
use Rattle.gt_next.specs.declared.answer.Why.TheVariants.{NoType, OutOfRange, Shape, TooLarge, Full, TooManyVars}
use Rattle.gt_next.specs.States.{State, with_variable, IsFullOfVariables}
use Rattle.gt_next.specs.Kinds.{IsKindOf, NamesNodes}

-- ---- what is to be made

-- a block that is to be made: what it holds, how many elements, and for how many there is room at its end
pub record Wanted : Type 0 where
  pub kind : Kind
  pub count : ℕ
  pub capacity : ℕ

abbrev pub wanted : Kind → (count capacity : ℕ) → Wanted
wanted kind count capacity = record { kind = kind; count = count; capacity = capacity }

-- it needs more bytes than a block may have
abbrev pub IsTooLarge : Program → Layouts → Wanted → Type 0
IsTooLarge program layouts w = (bytes : ℕ) × Needs program layouts w.kind w.count w.capacity bytes × (MAX_BLOCK < bytes)

-- the value with which a block is made
abbrev pub Contents : Type 1
Contents = Tree → Type 0

-- zero
abbrev pub zeros : Program → State → Wanted → Contents
zeros program s w value = IsZeroBlock program s.heap.graph w.kind w.count w.capacity value

-- the bytes of a text and a zero
abbrev pub text : List ℕ → Contents
text bytes value = value ≡ Row (characters bytes)

-- ---- the last refusals, and the block

-- A block that is not too large is made and bound to a variable: a variable too many; else no room for its size; else one more object.
pub data Binds (program : Program) (layouts : Layouts) (s : State) (var : List ℕ) (w : Wanted) (contents : Contents) : Answer → State → Type 0 where
  too_many : IsFullOfVariables s.variables var → Binds program layouts s var w contents (Refused TooManyVars) s
  full : {bytes need : ℕ} → ¬ IsFullOfVariables s.variables var → Needs program layouts w.kind w.count w.capacity bytes → rounded bytes ≡ Some need
      → ¬ Room (ledger_of s.heap.places) need → Binds program layouts s var w contents (Refused (Full need)) s
  made : {o : Object} {placed : Placed} {t : State} → ¬ IsFullOfVariables s.variables var → o.kind ≡ w.kind → o.count ≡ w.count → o.capacity ≡ w.capacity → contents o.value
      → Makes program layouts s.heap o placed t.heap → t ≡ record s { heap = t.heap; variables = with_variable s.variables var o.id }
      → Binds program layouts s var w contents (Made placed.block.address placed.block.size) t

-- ---- numbers of elements

pub data IsNegative : ℤ → Type 0 where
  negative : {n : ℕ} → IsNegative (negsuc n)

-- ---- new

-- so many elements have room at the end of a single structure: as many as are given where it is of a tail type, and none elsewhere
pub data HasCapacity (program : Program) (node : TypeId) : Option ℤ → ℕ → Type 0 where
  given : {n : ℕ} → IsTailType program node → HasCapacity program node (Some (pos n)) n
  none_given : HasCapacity program node None 0
  no_tail : {n : ℤ} → ¬ IsTailType program node → HasCapacity program node (Some n) 0

-- the shape is wrong: a number is given without a tail, or none with one; or zero does not fit
pub data IsMisshapen (program : Program) (s : State) (node : TypeId) (w : Wanted) : Option ℤ → Type 0 where
  no_tail : {n : ℤ} → ¬ IsTailType program node → IsMisshapen program s node w (Some n)
  no_number : IsTailType program node → IsMisshapen program s node w None
  no_zero : {n : Option ℤ} → ((value : Tree) → ¬ zeros program s w value) → IsMisshapen program s node w n

-- new: no such type; else a negative number; else too large; else the wrong shape; else a single zero structure is made
pub data NextNew (program : Program) (layouts : Layouts) (s : State) (var : List ℕ) (type : TypeName) (n : Option ℤ) : Answer → State → Type 0 where
  no_type : ((node : TypeId) → ¬ NamesNodes program type node) → NextNew program layouts s var type n (Refused NoType) s
  negative : {node : TypeId} {number : ℤ} → NamesNodes program type node → n ≡ Some number → IsNegative number → NextNew program layouts s var type n (Refused OutOfRange) s
  too_large : {node : TypeId} {capacity : ℕ} → NamesNodes program type node → ((number : ℤ) → n ≡ Some number → ¬ IsNegative number) → HasCapacity program node n capacity
      → IsTooLarge program layouts (wanted (Nodes node) 1 capacity) → NextNew program layouts s var type n (Refused TooLarge) s
  shape : {node : TypeId} {capacity : ℕ} → NamesNodes program type node → ((number : ℤ) → n ≡ Some number → ¬ IsNegative number) → HasCapacity program node n capacity
      → ¬ IsTooLarge program layouts (wanted (Nodes node) 1 capacity) → IsMisshapen program s node (wanted (Nodes node) 1 capacity) n → NextNew program layouts s var type n (Refused Shape) s
  binds : {node : TypeId} {capacity : ℕ} {answer : Answer} {t : State} → NamesNodes program type node → ((number : ℤ) → n ≡ Some number → ¬ IsNegative number)
      → HasCapacity program node n capacity → ¬ IsTooLarge program layouts (wanted (Nodes node) 1 capacity) → ¬ IsMisshapen program s node (wanted (Nodes node) 1 capacity) n
      → Binds program layouts s var (wanted (Nodes node) 1 capacity) (zeros program s (wanted (Nodes node) 1 capacity)) answer t → NextNew program layouts s var type n answer t

-- ---- array, string and block

-- array: no such type; else a negative number; else a tail type; else too large; else so many zero elements are made
pub data NextArray (program : Program) (layouts : Layouts) (s : State) (var : List ℕ) (type : TypeName) (n : ℤ) : Answer → State → Type 0 where
  no_type : ((kind : Kind) → ¬ IsKindOf program type kind) → NextArray program layouts s var type n (Refused NoType) s
  negative : {kind : Kind} → IsKindOf program type kind → IsNegative n → NextArray program layouts s var type n (Refused OutOfRange) s
  tails : {kind : Kind} → IsKindOf program type kind → ¬ IsNegative n → IsOfTails program kind → NextArray program layouts s var type n (Refused Shape) s
  too_large : {kind : Kind} {count : ℕ} → IsKindOf program type kind → n ≡ pos count → ¬ IsOfTails program kind → IsTooLarge program layouts (wanted kind count 0)
      → NextArray program layouts s var type n (Refused TooLarge) s
  binds : {kind : Kind} {count : ℕ} {answer : Answer} {t : State} → IsKindOf program type kind → n ≡ pos count → ¬ IsOfTails program kind
      → ¬ IsTooLarge program layouts (wanted kind count 0) → Binds program layouts s var (wanted kind count 0) (zeros program s (wanted kind count 0)) answer t
      → NextArray program layouts s var type n answer t

-- string: too large; else its characters and a zero are made
pub data NextText (program : Program) (layouts : Layouts) (s : State) (var bytes : List ℕ) : Answer → State → Type 0 where
  too_large : IsTooLarge program layouts (wanted Chars (suc (length bytes)) 0) → NextText program layouts s var bytes (Refused TooLarge) s
  binds : {answer : Answer} {t : State} → ¬ IsTooLarge program layouts (wanted Chars (suc (length bytes)) 0)
      → Binds program layouts s var (wanted Chars (suc (length bytes)) 0) (text bytes) answer t → NextText program layouts s var bytes answer t

-- block: a negative number; else too large; else so many zero bytes that are never scanned are made
pub data NextBlock (program : Program) (layouts : Layouts) (s : State) (var : List ℕ) (n : ℤ) : Answer → State → Type 0 where
  negative : IsNegative n → NextBlock program layouts s var n (Refused OutOfRange) s
  too_large : {count : ℕ} → n ≡ pos count → IsTooLarge program layouts (wanted Raw count 0) → NextBlock program layouts s var n (Refused TooLarge) s
  binds : {count : ℕ} {answer : Answer} {t : State} → n ≡ pos count → ¬ IsTooLarge program layouts (wanted Raw count 0)
      → Binds program layouts s var (wanted Raw count 0) (zeros program s (wanted Raw count 0)) answer t → NextBlock program layouts s var n answer t
