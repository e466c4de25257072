-- A command that makes a block is refused for the first cause of its row that is there, and nothing changes.
use Rattle.std.proofs.Common.{◌≡◌, ℕ, ℤ, List, [], ◌∷◌, Option, Some, refl, ◌⊎◌, inl, inr}
use Rattle.std.specs.Prelude.{suc, pos, length}
use Rattle.gt_types.specs.declared.types.TypeId.{TypeId}
use Rattle.gt_types.specs.declared.program.Program.{Program}
use Rattle.gt_layout.specs.declared.planes.Layouts.{Layouts}
use Rattle.gt_script.specs.declared.command.Command.{Command}
use Rattle.gt_script.specs.declared.command.Command.TheVariants as command
use Rattle.gt_script.specs.declared.command.TypeName.{TypeName}
use Rattle.gt_tree.specs.Blocks.{Kind, Nodes, Chars, Raw}
use Rattle.gt_next.specs.declared.answer.Answer.TheVariants.{Refused}
use Rattle.gt_next.specs.declared.answer.Why.{Why}
use Rattle.gt_next.specs.declared.answer.Why.TheVariants.{Full, TooManyVars}
use Rattle.gt_next.specs.States.{State, IsFullOfVariables}
use Rattle.gt_next.specs.Kinds.{IsKindOf, NamesNodes}
use Rattle.gt_next.specs.Making.{Wanted, wanted, Contents, Binds, IsNegative, HasCapacity, NextNew, NextArray, NextText, NextBlock}
use Rattle.gt_refusals.specs.declared.causes.Cause.TheVariants.{VariableTooMany, NoRoom}
use Rattle.gt_refusals.specs.Refusals.{refusals_of, HasNoRoom, IsGivenNegative, IsFirstOf}

not-negative : {n : Option ℤ} → ((number : ℤ) → n ≡ Some number → ¬ IsNegative number) → ¬ IsGivenNegative n
not-negative more (number, is, less) = more number is less

counts : {n : ℤ} {count : ℕ} → n ≡ pos count → ¬ IsNegative n
counts is IsNegative.negative = cc

module _ (program : Program) (layouts : Layouts) (s : State) where
  -- a command is refused so, and the state stays as it is
  abbrev Comes : Command → Why → State → Type 0
  Comes c why t = IsFirstOf program layouts s c (refusals_of c) why × (t ≡ s)

  -- ---- the last two causes

  abbrev Ends : Command → Why → Type 0
  Ends c why = IsFirstOf program layouts s c (VariableTooMany ∷ NoRoom ∷ []) why

  -- a block that may be bound is refused for a variable too many; else for want of room
  abbrev Last : List ℕ → Wanted → Why → Type 0
  Last var w why = ((why ≡ TooManyVars) × IsFullOfVariables s.variables var)
      ⊎ ((¬ IsFullOfVariables s.variables var) × (need : ℕ) × (why ≡ Full need) × HasNoRoom program layouts s need w)

  last : {t : State} {why : Why} {var : List ℕ} {w : Wanted} {contents : Contents} → Binds program layouts s var w contents (Refused why) t → Last var w why × (t ≡ s)
  last (Binds.too_many full) = (inl (refl, full), refl)
  last (Binds.full {bytes} {need} vacant needs size none) = (inr (vacant, need, refl, (bytes, needs, size, none)), refl)

  ends-new : (var : List ℕ) (type : TypeName) (n : Option ℤ) (why : Why) (node : TypeId) (capacity : ℕ) → NamesNodes program type node → HasCapacity program node n capacity
      → Last var (wanted (Nodes node) 1 capacity) why → Ends (command.New var type n) why
  ends-new var type n why node capacity names has (inl full) = inl full
  ends-new var type n why node capacity names has (inr (vacant, need, is, none)) = inr (vacant, inl (need, is, (node, capacity, names, has, none)))

  ends-array : (var : List ℕ) (type : TypeName) (n : ℤ) (why : Why) (kind : Kind) (count : ℕ) → IsKindOf program type kind → n ≡ pos count → Last var (wanted kind count 0) why
      → Ends (command.Array var type n) why
  ends-array var type n why kind count means is (inl full) = inl full
  ends-array var type n why kind count means is (inr (vacant, need, e, none)) = inr (vacant, inl (need, e, (kind, count, means, is, none)))

  ends-text : (var bytes : List ℕ) (why : Why) → Last var (wanted Chars (suc (length bytes)) 0) why → Ends (command.Text var bytes) why
  ends-text var bytes why (inl full) = inl full
  ends-text var bytes why (inr (vacant, need, e, none)) = inr (vacant, inl (need, e, none))

  ends-block : (var : List ℕ) (n : ℤ) (why : Why) (count : ℕ) → n ≡ pos count → Last var (wanted Raw count 0) why → Ends (command.Block var n) why
  ends-block var n why count is (inl full) = inl full
  ends-block var n why count is (inr (vacant, need, e, none)) = inr (vacant, inl (need, e, (count, is, none)))

  -- ---- the commands

  pub first-new : (var : List ℕ) (type : TypeName) (n : Option ℤ) (why : Why) (t : State) → NextNew program layouts s var type n (Refused why) t → Comes (command.New var type n) why t
  first-new var type n why t (NextNew.no_type none) = (inl (refl, none), refl)
  first-new var type n why t (NextNew.negative {node} {number} names is less) = (inr ((node, names), inl (refl, (number, is, less))), refl)
  first-new var type n why t (NextNew.too_large {node} {capacity} names more has large) =
      (inr ((node, names), inr (not-negative more, inl (refl, (node, capacity, names, has, large)))), refl)
  first-new var type n why t (NextNew.shape {node} {capacity} names more has small shape) =
      (inr ((node, names), inr (not-negative more, inr ((node, capacity, names, has, small), inl (refl, node, capacity, names, has, shape)))), refl)
  first-new var type n why t (NextNew.binds {node} {capacity} names more has small good makes) =
      let end = last makes in
      (inr ((node, names), inr (not-negative more, inr ((node, capacity, names, has, small), inr ((node, capacity, names, has, good), ends-new var type n why node capacity names has end.0)))), end.1)

  pub first-array : (var : List ℕ) (type : TypeName) (n : ℤ) (why : Why) (t : State) → NextArray program layouts s var type n (Refused why) t → Comes (command.Array var type n) why t
  first-array var type n why t (NextArray.no_type none) = (inl (refl, none), refl)
  first-array var type n why t (NextArray.negative {kind} means less) = (inr ((kind, means), inl (refl, less)), refl)
  first-array var type n why t (NextArray.tails {kind} means more tails) = (inr ((kind, means), inr (more, inl (refl, kind, means, tails))), refl)
  first-array var type n why t (NextArray.too_large {kind} {count} means is good large) =
      (inr ((kind, means), inr (counts is, inr ((kind, means, good), inl (refl, (kind, count, means, is, large))))), refl)
  first-array var type n why t (NextArray.binds {kind} {count} means is good small makes) =
      let end = last makes in
      (inr ((kind, means), inr (counts is, inr ((kind, means, good), inr ((kind, count, means, is, small), ends-array var type n why kind count means is end.0)))), end.1)

  pub first-text : (var bytes : List ℕ) (why : Why) (t : State) → NextText program layouts s var bytes (Refused why) t → Comes (command.Text var bytes) why t
  first-text var bytes why t (NextText.too_large large) = (inl (refl, large), refl)
  first-text var bytes why t (NextText.binds small makes) = let end = last makes in (inr (small, ends-text var bytes why end.0), end.1)

  pub first-block : (var : List ℕ) (n : ℤ) (why : Why) (t : State) → NextBlock program layouts s var n (Refused why) t → Comes (command.Block var n) why t
  first-block var n why t (NextBlock.negative less) = (inl (refl, less), refl)
  first-block var n why t (NextBlock.too_large {count} is large) = (inr (counts is, inl (refl, (count, is, large))), refl)
  first-block var n why t (NextBlock.binds {count} is small makes) =
      let end = last makes in
      (inr (counts is, inr ((count, is, small), ends-block var n why count is end.0)), end.1)
