-- `new`, `array`, `string` and `block` have an answer.
use Rattle.std.proofs.Common.{◌≡◌, ℕ, suc, ◌≤◌, List, length, refl, Option, Some, None}
use Rattle.std.specs.Prelude.{ℤ, pos, negsuc}
use Rattle.gt_types.specs.declared.types.TypeId.{TypeId}
use Rattle.gt_types.specs.declared.program.Program.{Program}
use Rattle.gt_types.specs.Settled.{Settled}
use Rattle.gt_types.specs.Tails.{IsTailType}
use Rattle.gt_layout.specs.declared.planes.Layouts.{Layouts}
use Rattle.gt_layout.specs.Planes.{IsLaidOut}
use Rattle.gt_script.specs.declared.command.TypeName.{TypeName}
use Rattle.gt_tree.specs.Trees.{Tree, Row}
use Rattle.gt_tree.specs.Blocks.{Kind, Nodes, Chars, Raw}
use Rattle.gt_tree.specs.FixedLaws.{MayHold}
use Rattle.gt_graph.specs.Objects.{Graph}
use Rattle.gt_graph.specs.Good.{IsOfTails}
use Rattle.gt_graph.specs.Changes.{characters}
use Rattle.gt_held.specs.Zeros.{HasZero}
use Rattle.gt_next.specs.States.{State, IsGoodState}
use Rattle.gt_next.specs.Kinds.{IsKindOf, NamesNodes}
use Rattle.gt_next.specs.Making.{wanted, IsTooLarge, zeros, text, IsNegative, HasCapacity, IsMisshapen, NextNew, NextArray, NextText, NextBlock}
use Rattle.gt_total.proofs.Blocks.{some_binds}
use Rattle.gt_total.proofs.Splits.{Never, split}

not_negative : (n : ℕ) → ¬ IsNegative (pos n)
not_negative n never = by (pos n) never refl
  where
    by : (m : ℤ) → IsNegative m → m ≡ pos n → ⊥
    by _ (IsNegative.negative {n = k}) is = cc

-- what elements of a type are may stand alone, and they are no characters
may_hold : {program : Program} {type : TypeName} {kind : Kind} → IsKindOf program type kind → MayHold program kind
may_hold (IsKindOf.structures star means may) = may
may_hold (IsKindOf.pointers star no_char means may) = may
may_hold (IsKindOf.pointers_by_word star word pointer may) = may
may_hold (IsKindOf.strings star char) = tt

no_characters : {program : Program} {type : TypeName} {kind : Kind} → IsKindOf program type kind → kind ≡ Chars → ⊥
no_characters (IsKindOf.structures star means may) is = cc
no_characters (IsKindOf.pointers star no_char means may) is = cc
no_characters (IsKindOf.pointers_by_word star word pointer may) is = cc
no_characters (IsKindOf.strings star char) is = cc

-- bytes that are never scanned are no structures, and no characters
raw_tails : (program : Program) → ¬ IsOfTails program Raw
raw_tails program (node, is, tails) = cc

raw_characters : (count : ℕ) → Raw ≡ Chars → 1 ≤ count
raw_characters count is = absurd (cc)

-- that blocks of kinds without tails can be zero
abbrev pub ZerosAreThere : Program → Type 0
ZerosAreThere program = (g : Graph) (kind : Kind) (count : ℕ) → MayHold program kind → ¬ IsOfTails program kind → (kind ≡ Chars → 1 ≤ count) → HasZero program g kind count 0

module _ (program : Program) (layouts : Layouts) (settled : Settled program) (laid : IsLaidOut program layouts) (s : State) (good : IsGoodState program layouts s) (var : List ℕ) where
  -- ---- new

  module _ (type : TypeName) (n : Option ℤ) (node : TypeId) (names : NamesNodes program type node) (plain : (number : ℤ) → n ≡ Some number → ¬ IsNegative number) where
    shaped : (capacity : ℕ) → HasCapacity program node n capacity → (¬ IsTooLarge program layouts (wanted (Nodes node) 1 capacity)) → (¬ IsMisshapen program s node (wanted (Nodes node) 1 capacity) n)
        → ¬ Never (NextNew program layouts s var type n)
    shaped capacity has small shape = split {P = (value : Tree) × zeros program s (wanted (Nodes node) 1 capacity) value}
        (λ zero never.
        some_binds program layouts settled laid s good var (wanted (Nodes node) 1 capacity) (zeros program s (wanted (Nodes node) 1 capacity)) (may_hold names) zero.0 zero.1 small
        (λ a t next. never a t (NextNew.binds names plain has small shape next)))
        (λ none never. shape (IsMisshapen.no_zero (λ value zero. none (value, zero))))

    sized : (capacity : ℕ) → HasCapacity program node n capacity → ¬ Never (NextNew program layouts s var type n)
    sized capacity has = split {P = IsTooLarge program layouts (wanted (Nodes node) 1 capacity)}
        (λ large never. never _ _ (NextNew.too_large names plain has large))
        (λ small. split {P = IsMisshapen program s node (wanted (Nodes node) 1 capacity) n}
        (λ shape never. never _ _ (NextNew.shape names plain has small shape))
        (λ shape. shaped capacity has small shape))

  with_number : (type : TypeName) (n : Option ℤ) (node : TypeId) → NamesNodes program type node → ((number : ℤ) → n ≡ Some number → ¬ IsNegative number) → ¬ Never (NextNew program layouts s var type n)
  with_number type None node names plain never = sized type None node names plain 0 HasCapacity.none_given never
  with_number type (Some (pos k)) node names plain never = split {P = IsTailType program node}
      (λ tail. sized type (Some (pos k)) node names plain k (HasCapacity.given tail))
      (λ none. sized type (Some (pos k)) node names plain 0 (HasCapacity.no_tail none)) never
  with_number type (Some (negsuc k)) node names plain never = plain (negsuc k) refl IsNegative.negative

  pub some_new : (type : TypeName) (n : Option ℤ) → ¬ Never (NextNew program layouts s var type n)
  some_new type n = split {P = (node : TypeId) × NamesNodes program type node}
      (λ named. split {P = (number : ℤ) × (n ≡ Some number) × IsNegative number}
      (λ negative never. never _ _ (NextNew.negative named.1 negative.1 negative.2))
      (λ plain. with_number type n named.0 named.1 (λ number is negative. plain (number, is, negative))))
      (λ none never. never _ _ (NextNew.no_type (λ node names. none (node, names))))

  -- ---- array

  module _ (zeros_there : ZerosAreThere program) where
    of_kind : (type : TypeName) (n : ℤ) (kind : Kind) → IsKindOf program type kind → ¬ Never (NextArray program layouts s var type n)
    of_kind type (negsuc k) kind is never = never _ _ (NextArray.negative is IsNegative.negative)
    of_kind type (pos count) kind is never = split {P = IsOfTails program kind}
        (λ tails never. never _ _ (NextArray.tails is (not_negative count) tails))
        (λ plain. split {P = IsTooLarge program layouts (wanted kind count 0)}
        (λ large never. never _ _ (NextArray.too_large is refl plain large))
        (λ small never.
        let zero = zeros_there s.heap.graph kind count (may_hold is) plain (λ chars. absurd (no_characters is chars)) in
        some_binds program layouts settled laid s good var (wanted kind count 0) (zeros program s (wanted kind count 0)) (may_hold is) zero.0 zero.1 small
        (λ a t next. never a t (NextArray.binds is refl plain small next)))) never

    pub some_array : (type : TypeName) (n : ℤ) → ¬ Never (NextArray program layouts s var type n)
    some_array type n = split {P = (kind : Kind) × IsKindOf program type kind}
        (λ kind. of_kind type n kind.0 kind.1)
        (λ none never. never _ _ (NextArray.no_type (λ kind is. none (kind, is))))

    -- ---- block

    pub some_block : (n : ℤ) → ¬ Never (NextBlock program layouts s var n)
    some_block (negsuc k) never = never _ _ (NextBlock.negative IsNegative.negative)
    some_block (pos count) never = split {P = IsTooLarge program layouts (wanted Raw count 0)}
        (λ large never. never _ _ (NextBlock.too_large refl large))
        (λ small never.
        let zero = zeros_there s.heap.graph Raw count tt (raw_tails program) (raw_characters count) in
        some_binds program layouts settled laid s good var (wanted Raw count 0) (zeros program s (wanted Raw count 0)) tt zero.0 zero.1 small (λ a t next. never a t (NextBlock.binds refl small next))) never

  -- ---- string

  pub some_text : (bytes : List ℕ) → ¬ Never (NextText program layouts s var bytes)
  some_text bytes = split {P = IsTooLarge program layouts (wanted Chars (suc (length bytes)) 0)}
      (λ large never. never _ _ (NextText.too_large large))
      (λ small never. some_binds program layouts settled laid s good var (wanted Chars (suc (length bytes)) 0) (text bytes) tt (Row (characters bytes)) refl small (λ a t next. never a t (NextText.binds small next)))
