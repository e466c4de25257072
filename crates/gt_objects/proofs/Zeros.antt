-- Zero bytes stand for zero values.
use Rattle.std.proofs.Common.{◌≡◌, ℕ, ◌+◌, ◌-◌, ◌/◌, ◌%◌, Bool, true, false, ◌&&◌, ◌||◌, nat_le, nat_lt, List, [], ◌∷◌, length, get_or, replicate, drop, refl, ap, sym, ◌∙◌, inl, inr}
use Rattle.std.specs.Prelude.{◌==◌, All}
use Rattle.std.specs.List.{list_any}
use Rattle.std.proofs.lemmas.Bool.{cases_lt}
use Rattle.std.proofs.lemmas.List.{get_or_past}
use Rattle.std.proofs.lemmas.List.Elements.{All-append, All-drop, All-get_or, All-head, All-nil, All-replicate, All-tail, All-take}
use Rattle.std.proofs.lemmas.Nat.Bits.{bit_at-zero}
use Rattle.gt_types.specs.declared.types.Ty.{Ty}
use Rattle.gt_types.specs.declared.program.Program.{Program}
use Rattle.gt_layout.specs.declared.planes.Plane.{Plane}
use Rattle.gt_space.specs.Range.{Range, bytes_at}
use Rattle.gt_tree.specs.Trees.{Trees, AreZero}
use Rattle.gt_tree.specs.Leaves.{Leaf, Content, leaf, Number, Pointer, bit_of, content_bits, is_set_in, EachHasLeaves, Stand}
use Rattle.gt_tree.specs.FixedLaws.{bit_in}
use Rattle.gt_tree.proofs.WriteLeaves.{HoldsNought, noughts}

-- ---- zero bytes

abbrev pub is_zero : ℕ → Type 0
is_zero byte = byte ≡ 0

pub zero_at : (bytes : List ℕ) (k : ℕ) → All is_zero bytes → get_or bytes k 0 ≡ 0
zero_at bytes k zeros = elim (cases_lt k (length bytes)) [
  | inl low ↦ All-get_or is_zero bytes k 0 low zeros
  | inr past ↦ get_or_past bytes k 0 past
]

unset_bit : (k : ℕ) → bit_of 0 k ≡ false
unset_bit k = ap (λ n. n == 1) (bit_at-zero k)

-- no bit of zero bytes is set
pub unset_in : (bytes : List ℕ) (i : ℕ) → All is_zero bytes → bit_in bytes i ≡ false
unset_in bytes i zeros = ap (λ n. bit_of n (i % 8)) (zero_at bytes (i / 8) zeros) ∙ unset_bit (i % 8)

pub zeros_are : (n : ℕ) → All is_zero (replicate n 0)
zeros_are n = All-replicate is_zero n 0 refl

-- of a range of zero bytes each part is zero bytes
pub zeros_at : (r : Range) (address len : ℕ) → All is_zero r.bytes → All is_zero (bytes_at r address len)
zeros_at r address len zeros = All-take is_zero len (drop (address - r.start) r.bytes) (All-drop is_zero (address - r.start) r.bytes zeros)

-- ---- leaves that hold 0 or null

nought_bits : (address : ℕ → ℕ) (at width : ℕ) (c : Content) → HoldsNought (leaf at width c) → content_bits address width c ≡ 0
nought_bits address at width (Number n) z = ap (λ m. content_bits address width (Number m)) z
nought_bits address at width (Pointer name) z = ap (λ m. content_bits address width (Pointer m)) z

both_false : (a b : Bool) → (a && b && false) ≡ false
both_false true true = refl
both_false true false = refl
both_false false b = refl

nought_unset : (address : ℕ → ℕ) (l : Leaf) (i : ℕ) → HoldsNought l → is_set_in address i l ≡ false
nought_unset address l i z =
    ap (λ n. nat_le l.at i && nat_lt i (l.at + l.width) && bit_of n (i - l.at)) (nought_bits address l.at l.width l.content z)
    ∙ ap (λ b. nat_le l.at i && nat_lt i (l.at + l.width) && b) (unset_bit (i - l.at))
    ∙ both_false (nat_le l.at i) (nat_lt i (l.at + l.width))

noughts_unset : (address : ℕ → ℕ) (ls : List Leaf) (i : ℕ) → All HoldsNought ls → list_any (is_set_in address i) ls ≡ false
noughts_unset address [] i z = refl
noughts_unset address (l ∷ ls) i z =
    ap (λ b. b || list_any (is_set_in address i) ls) (nought_unset address l i (All-head HoldsNought l ls z))
    ∙ noughts_unset address ls i (All-tail HoldsNought l ls z)

-- the leaves of zero elements hold 0 or null
module _ {program : Program} {planes : List Plane} where
  pub noughts_each : {stride at : ℕ} {type : Ty} {trees : Trees} {ls : List Leaf} → EachHasLeaves program planes stride at type trees ls → AreZero trees → All HoldsNought ls
  noughts_each EachHasLeaves.no_more z = All-nil HoldsNought
  noughts_each (EachHasLeaves.one_more {first} {rest} part parts) z = All-append HoldsNought first rest (noughts part z.0) (noughts_each parts z.1)

-- zero bytes stand for such leaves, wherever blocks lie
pub noughts_stand : (address : ℕ → ℕ) (ls : List Leaf) (bytes : List ℕ) → All HoldsNought ls → All is_zero bytes → Stand address ls bytes
noughts_stand address ls bytes z zeros i low = unset_in bytes i zeros ∙ sym (noughts_unset address ls i z)
