-- For the first cause that is there, the machine may refuse a command that makes a block.
use Rattle.std.proofs.Common.{◌≡◌, ℕ, ℤ, List, Option, Some, refl, sym, subst, inl, inr}
use Rattle.std.specs.Prelude.{pos}
use Rattle.gt_types.specs.declared.types.TypeId.{TypeId}
use Rattle.gt_types.specs.declared.program.Program.{Program}
use Rattle.gt_types.specs.Settled.{Settled}
use Rattle.gt_layout.specs.declared.planes.Layouts.{Layouts}
use Rattle.gt_script.specs.declared.command.Command.{Command}
use Rattle.gt_script.specs.declared.command.Command.TheVariants as command
use Rattle.gt_script.specs.declared.command.TypeName.{TypeName}
use Rattle.gt_tree.specs.Blocks.{Kind, Nodes, Raw}
use Rattle.gt_kinds.proofs.TypeKinds.{kinds-one}
use Rattle.gt_graph.specs.Good.{IsOfTails}
use Rattle.gt_next.specs.declared.answer.Answer.TheVariants.{Refused}
use Rattle.gt_next.specs.declared.answer.Why.{Why}
use Rattle.gt_next.specs.States.{State}
use Rattle.gt_next.specs.Kinds.{IsKindOf, NamesNodes}
use Rattle.gt_next.specs.Making.{wanted, IsTooLarge, Binds, IsNegative, HasCapacity, IsMisshapen, NextNew, NextArray, NextText, NextBlock}
use Rattle.gt_next.specs.Next.{Next}
use Rattle.gt_refusals.specs.Refusals.{refusals_of, IsGivenNegative, IsFirstOf}

capacity-one : (program : Program) (node : TypeId) (n : Option ℤ) (c d : ℕ) → HasCapacity program node n c → HasCapacity program node n d → c ≡ d
capacity-one program node n c d (HasCapacity.given tail) (HasCapacity.given also) = refl
capacity-one program node n c d (HasCapacity.given tail) (HasCapacity.no_tail none) = absurd (none tail)
capacity-one program node n c d HasCapacity.none_given HasCapacity.none_given = refl
capacity-one program node n c d (HasCapacity.no_tail none) (HasCapacity.given tail) = absurd (none tail)
capacity-one program node n c d (HasCapacity.no_tail none) (HasCapacity.no_tail also) = refl

not-given : {n : Option ℤ} → ¬ IsGivenNegative n → (number : ℤ) → n ≡ Some number → ¬ IsNegative number
not-given more number is less = more (number, is, less)

pos-one : (c d : ℕ) (n : ℤ) → n ≡ pos c → n ≡ pos d → c ≡ d
pos-one c d n e f = cc

module _ (program : Program) (layouts : Layouts) (settled : Settled program) (s : State) where
  abbrev ComesFirst : Command → Why → Type 0
  ComesFirst c why = IsFirstOf program layouts s c (refusals_of c) why

  abbrev Answers : Command → Why → Type 0
  Answers c why = Next program layouts s c (Refused why) s

  -- ---- one block is meant

  module _ (var : List ℕ) (type : TypeName) (n : Option ℤ) where
    abbrev IsSmall : TypeId → ℕ → Type 0
    IsSmall node capacity = ¬ IsTooLarge program layouts (wanted (Nodes node) 1 capacity)

    abbrev IsShaped : TypeId → ℕ → Type 0
    IsShaped node capacity = ¬ IsMisshapen program s node (wanted (Nodes node) 1 capacity) n

    node-one : (a b : TypeId) → NamesNodes program type a → NamesNodes program type b → a ≡ b
    node-one a b one other = let kinds = kinds-one settled (Nodes a) (Nodes b) one other in cc

    -- what holds of a structure and its capacity holds of those that are named again
    moves : (P : TypeId → ℕ → Type 0) (a b : TypeId) (c d : ℕ) → NamesNodes program type a → HasCapacity program a n c → NamesNodes program type b → HasCapacity program b n d → P a c → P b d
    moves P a b c d one has other room p =
        let same = node-one a b one other in
        subst (λ x. P b x) (capacity-one program b n c d (subst (λ x. HasCapacity program x n c) same has) room) (subst (λ x. P x c) same p)

    pub answer-new : (why : Why) → ComesFirst (command.New var type n) why → Answers (command.New var type n) why
    answer-new why (inl (is, none)) = subst (Answers (command.New var type n)) (sym is) (NextNew.no_type none)
    answer-new why (inr (named, inl (is, (number, e, less)))) = subst (Answers (command.New var type n)) (sym is) (NextNew.negative named.1 e less)
    answer-new why (inr (named, inr (more, inl (is, (b, d, names, has, large))))) =
        subst (Answers (command.New var type n)) (sym is) (NextNew.too_large names (not-given more) has large)
    answer-new why (inr (named, inr (more, inr ((a, c, means, room, small), inl (is, b, d, names, has, shape))))) =
        subst (Answers (command.New var type n)) (sym is) (NextNew.shape names (not-given more) has (moves IsSmall a b c d means room names has small) shape)
    answer-new why (inr (named, inr (more, inr ((a, c, means, room, small), inr ((b, d, names, has, good), inl (is, full)))))) =
        subst (Answers (command.New var type n)) (sym is) (NextNew.binds names (not-given more) has (moves IsSmall a b c d means room names has small) good (Binds.too_many full))
    answer-new why (inr (named, inr (more, inr ((a, c, means, room, small), inr ((b, d, names, has, good), inr (vacant, inl (need, is, (e, f, calls, holds, (bytes, needs, size, none))))))))) =
        subst (Answers (command.New var type n)) (sym is)
        (NextNew.binds calls (not-given more) holds (moves IsSmall a e c f means room calls holds small) (moves IsShaped b e d f names has calls holds good) (Binds.full vacant needs size none))
    answer-new why (inr (named, inr (more, inr (small, inr (good, inr (vacant, inr (never, last))))))) = absurd never

  module _ (var : List ℕ) (type : TypeName) (n : ℤ) where
    kept : (P : Kind → ℕ → Type 0) (a b : Kind) (c d : ℕ) → IsKindOf program type a → n ≡ pos c → IsKindOf program type b → n ≡ pos d → P a c → P b d
    kept P a b c d one count other also p = subst (λ x. P b x) (pos-one c d n count also) (subst (λ x. P x c) (kinds-one settled a b one other) p)

    of-kind : (P : Kind → Type 0) (a b : Kind) → IsKindOf program type a → IsKindOf program type b → P a → P b
    of-kind P a b one other p = subst P (kinds-one settled a b one other) p

    abbrev IsSmallArray : Kind → ℕ → Type 0
    IsSmallArray kind count = ¬ IsTooLarge program layouts (wanted kind count 0)

    abbrev HasNoTails : Kind → Type 0
    HasNoTails kind = ¬ IsOfTails program kind

    pub answer-array : (why : Why) → ComesFirst (command.Array var type n) why → Answers (command.Array var type n) why
    answer-array why (inl (is, none)) = subst (Answers (command.Array var type n)) (sym is) (NextArray.no_type none)
    answer-array why (inr (named, inl (is, less))) = subst (Answers (command.Array var type n)) (sym is) (NextArray.negative named.1 less)
    answer-array why (inr (named, inr (more, inl (is, kind, means, tails)))) = subst (Answers (command.Array var type n)) (sym is) (NextArray.tails means more tails)
    answer-array why (inr (named, inr (more, inr ((a, one, flat), inl (is, (b, d, means, count, large)))))) =
        subst (Answers (command.Array var type n)) (sym is) (NextArray.too_large means count (of-kind HasNoTails a b one means flat) large)
    answer-array why (inr (named, inr (more, inr ((a, one, flat), inr ((b, d, means, count, small), inl (is, full)))))) =
        subst (Answers (command.Array var type n)) (sym is) (NextArray.binds means count (of-kind HasNoTails a b one means flat) small (Binds.too_many full))
    answer-array why (inr (named, inr (more, inr ((a, one, flat), inr ((b, d, means, count, small), inr (vacant, inl (need, is, (e, f, calls, number, (bytes, needs, size, none))))))))) =
        subst (Answers (command.Array var type n)) (sym is)
        (NextArray.binds calls number (of-kind HasNoTails a e one calls flat) (kept IsSmallArray b e d f means count calls number small) (Binds.full vacant needs size none))
    answer-array why (inr (named, inr (more, inr (flat, inr (small, inr (vacant, inr (never, last))))))) = absurd never

  module _ (var : List ℕ) where
    pub answer-text : (bytes : List ℕ) (why : Why) → ComesFirst (command.Text var bytes) why → Answers (command.Text var bytes) why
    answer-text bytes why (inl (is, large)) = subst (Answers (command.Text var bytes)) (sym is) (NextText.too_large large)
    answer-text bytes why (inr (small, inl (is, full))) = subst (Answers (command.Text var bytes)) (sym is) (NextText.binds small (Binds.too_many full))
    answer-text bytes why (inr (small, inr (vacant, inl (need, is, (size, needs, rounds, none))))) =
        subst (Answers (command.Text var bytes)) (sym is) (NextText.binds small (Binds.full vacant needs rounds none))
    answer-text bytes why (inr (small, inr (vacant, inr (never, last)))) = absurd never

    pub answer-block : (n : ℤ) (why : Why) → ComesFirst (command.Block var n) why → Answers (command.Block var n) why
    answer-block n why (inl (is, less)) = subst (Answers (command.Block var n)) (sym is) (NextBlock.negative less)
    answer-block n why (inr (more, inl (is, (count, e, large)))) = subst (Answers (command.Block var n)) (sym is) (NextBlock.too_large e large)
    answer-block n why (inr (more, inr ((count, e, small), inl (is, full)))) = subst (Answers (command.Block var n)) (sym is) (NextBlock.binds e small (Binds.too_many full))
    answer-block n why (inr (more, inr ((c, e, small), inr (vacant, inl (need, is, (d, f, (bytes, needs, size, none))))))) =
        subst (Answers (command.Block var n)) (sym is)
        (NextBlock.binds f (subst (λ x. ¬ IsTooLarge program layouts (wanted Raw x 0)) (pos-one c d n e f) small) (Binds.full vacant needs size none))
    answer-block n why (inr (more, inr (small, inr (vacant, inr (never, last))))) = absurd never
