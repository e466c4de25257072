-- New has one answer, but for the address of the block, and with each answer one next state.
use Rattle.std.proofs.Common.{◌≡◌, ℕ, ℤ, List, refl, sym, subst, Option, Some}
use Rattle.gt_types.specs.declared.types.TypeId.{TypeId}
use Rattle.gt_types.specs.declared.program.Program.{Program}
use Rattle.gt_types.specs.Settled.{Settled}
use Rattle.gt_layout.specs.declared.planes.Layouts.{Layouts}
use Rattle.gt_layout.specs.Planes.{IsLaidOut}
use Rattle.gt_script.specs.declared.command.TypeName.{TypeName}
use Rattle.gt_tree.specs.Blocks.{Nodes}
use Rattle.gt_next.specs.declared.answer.Answer.{Answer}
use Rattle.gt_next.specs.declared.answer.Answer.TheVariants.{Refused}
use Rattle.gt_next.specs.declared.answer.Why.TheVariants.{NoType, OutOfRange, Shape, TooLarge}
use Rattle.gt_next.specs.States.{State}
use Rattle.gt_next.specs.Kinds.{NamesNodes}
use Rattle.gt_next.specs.Making.{wanted, IsTooLarge, zeros, Binds, IsNegative, HasCapacity, IsMisshapen, NextNew}
use Rattle.gt_determined.proofs.Distincts.{kind-one}
use Rattle.gt_determined.proofs.Bindings.{Alike, alike-same}
use Rattle.gt_determined.proofs.Arrays.{kind-may, zeros-alike}

capacity-one : (program : Program) (node : TypeId) (n : Option ℤ) (c d : ℕ) → HasCapacity program node n c → HasCapacity program node n d → d ≡ c
capacity-one program node n c d (HasCapacity.given tail) (HasCapacity.given also) = refl
capacity-one program node n c d (HasCapacity.given tail) (HasCapacity.no_tail none) = absurd (none tail)
capacity-one program node n c d HasCapacity.none_given HasCapacity.none_given = refl
capacity-one program node n c d (HasCapacity.no_tail none) (HasCapacity.given tail) = absurd (none tail)
capacity-one program node n c d (HasCapacity.no_tail none) (HasCapacity.no_tail also) = refl

module _ (program : Program) (layouts : Layouts) (settled : Settled program) (laid : IsLaidOut program layouts) (s : State) (var : List ℕ) (type : TypeName) (n : Option ℤ) where
  no-type-new : (b : Answer) (u : State) → ((node : TypeId) → ¬ NamesNodes program type node) → NextNew program layouts s var type n b u → Alike (Refused NoType) s b u
  no-type-new b u none (NextNew.no_type other) = alike-same (Refused NoType) (Refused NoType) s s refl refl
  no-type-new b u none (NextNew.negative {node} names is less) = absurd (none node names)
  no-type-new b u none (NextNew.too_large {node} names more room large) = absurd (none node names)
  no-type-new b u none (NextNew.shape {node} names more room small shape) = absurd (none node names)
  no-type-new b u none (NextNew.binds {node} names more room small good makes) = absurd (none node names)

  module _ (node : TypeId) (means : NamesNodes program type node) where
    -- another structure is this one
    same-node : (other : TypeId) → NamesNodes program type other → other ≡ node
    same-node other names = let kinds = kind-one program settled type (Nodes other) (Nodes node) names means in cc

    negative-new : (number : ℤ) (b : Answer) (u : State) → n ≡ Some number → IsNegative number → NextNew program layouts s var type n b u → Alike (Refused OutOfRange) s b u
    negative-new number b u is less (NextNew.no_type none) = absurd (none node means)
    negative-new number b u is less (NextNew.negative names also below) = alike-same (Refused OutOfRange) (Refused OutOfRange) s s refl refl
    negative-new number b u is less (NextNew.too_large names more room large) = absurd (more number is less)
    negative-new number b u is less (NextNew.shape names more room small shape) = absurd (more number is less)
    negative-new number b u is less (NextNew.binds names more room small good makes) = absurd (more number is less)

    module _ (capacity : ℕ) (some : (number : ℤ) → n ≡ Some number → ¬ IsNegative number) (has : HasCapacity program node n capacity) where
      -- a capacity that another derivation has is this one
      same-capacity : (other : TypeId) (c : ℕ) → NamesNodes program type other → HasCapacity program other n c → c ≡ capacity
      same-capacity other c names room = capacity-one program node n capacity c has (subst (λ x. HasCapacity program x n c) (same-node other names) room)

      -- what holds of the block that another derivation wants holds of this one
      at-this : (P : TypeId → ℕ → Type 0) (other : TypeId) (c : ℕ) → NamesNodes program type other → HasCapacity program other n c → P other c → P node capacity
      at-this P other c names room p = subst (λ d. P node d) (same-capacity other c names room) (subst (λ x. P x c) (same-node other names) p)

      at-that : (P : TypeId → ℕ → Type 0) (other : TypeId) (c : ℕ) → NamesNodes program type other → HasCapacity program other n c → P node capacity → P other c
      at-that P other c names room p = subst (λ x. P x c) (sym (same-node other names)) (subst (λ d. P node d) (sym (same-capacity other c names room)) p)

      abbrev IsLarge : TypeId → ℕ → Type 0
      IsLarge x c = IsTooLarge program layouts (wanted (Nodes x) 1 c)

      abbrev IsMissed : TypeId → ℕ → Type 0
      IsMissed x c = IsMisshapen program s x (wanted (Nodes x) 1 c) n

      large-new : (b : Answer) (u : State) → IsTooLarge program layouts (wanted (Nodes node) 1 capacity) → NextNew program layouts s var type n b u → Alike (Refused TooLarge) s b u
      large-new b u large (NextNew.no_type none) = absurd (none node means)
      large-new b u large (NextNew.negative {number} names is less) = absurd (some number is less)
      large-new b u large (NextNew.too_large names more room also) = alike-same (Refused TooLarge) (Refused TooLarge) s s refl refl
      large-new b u large (NextNew.shape {node = x} {capacity = c} names more room small shape) = absurd (small (at-that IsLarge x c names room large))
      large-new b u large (NextNew.binds {node = x} {capacity = c} names more room small good makes) = absurd (small (at-that IsLarge x c names room large))

      module _ (fits : ¬ IsTooLarge program layouts (wanted (Nodes node) 1 capacity)) where
        shape-new : (b : Answer) (u : State) → IsMisshapen program s node (wanted (Nodes node) 1 capacity) n → NextNew program layouts s var type n b u → Alike (Refused Shape) s b u
        shape-new b u bad (NextNew.no_type none) = absurd (none node means)
        shape-new b u bad (NextNew.negative {number} names is less) = absurd (some number is less)
        shape-new b u bad (NextNew.too_large {node = x} {capacity = c} names more room large) = absurd (fits (at-this IsLarge x c names room large))
        shape-new b u bad (NextNew.shape names more room small shape) = alike-same (Refused Shape) (Refused Shape) s s refl refl
        shape-new b u bad (NextNew.binds {node = x} {capacity = c} names more room small good makes) = absurd (good (at-that IsMissed x c names room bad))

        binds-new : (a b : Answer) (t u : State) → ¬ IsMisshapen program s node (wanted (Nodes node) 1 capacity) n
            → Binds program layouts s var (wanted (Nodes node) 1 capacity) (zeros program s (wanted (Nodes node) 1 capacity)) a t → NextNew program layouts s var type n b u → Alike a t b u
        binds-new a b t u well makes (NextNew.no_type none) = absurd (none node means)
        binds-new a b t u well makes (NextNew.negative {number} names is less) = absurd (some number is less)
        binds-new a b t u well makes (NextNew.too_large {node = x} {capacity = c} names more room large) = absurd (fits (at-this IsLarge x c names room large))
        binds-new a b t u well makes (NextNew.shape {node = x} {capacity = c} names more room small shape) = absurd (well (at-this IsMissed x c names room shape))
        binds-new a b t u well makes (NextNew.binds {node = x} {capacity = c} {answer} {t = v} names more room small good also) =
            zeros-alike program layouts settled laid s var (wanted (Nodes node) 1 capacity) (kind-may means) a answer t v makes
            (at-this (λ y d. Binds program layouts s var (wanted (Nodes y) 1 d) (zeros program s (wanted (Nodes y) 1 d)) answer v) x c names room also)

  pub new-alike : (a b : Answer) (t u : State) → NextNew program layouts s var type n a t → NextNew program layouts s var type n b u → Alike a t b u
  new-alike a b t u (NextNew.no_type none) next = no-type-new b u none next
  new-alike a b t u (NextNew.negative {node} {number} names is less) next = negative-new node names number b u is less next
  new-alike a b t u (NextNew.too_large {node} {capacity} names more room large) next = large-new node names capacity more room b u large next
  new-alike a b t u (NextNew.shape {node} {capacity} names more room small shape) next = shape-new node names capacity more room small b u shape next
  new-alike a b t u (NextNew.binds {node} {capacity} {answer} {t = v} names more room small good makes) next = binds-new node names capacity more room small answer b v u good makes next
