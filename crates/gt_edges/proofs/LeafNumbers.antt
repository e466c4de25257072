-- The number of a leaf is the number at its place.
use Rattle.std.proofs.Common.{◌≡◌, ℕ, zero, suc, ◌+◌, ◌-◌, ◌*◌, ◌/◌, ◌%◌, ◌<◌, ◌≤◌, Bool, true, false, cond, ◌&&◌, nat_le, drop, get_or, refl, ap, sym, ◌∙◌, arith, Option, Some, None, length-drop}
use Rattle.std.proofs.lemmas.Bool.{le-leb, leb-true}
use Rattle.std.proofs.lemmas.List.{get_or-drop}
use Rattle.gt_types.specs.declared.types.Scalar.{Scalar}
use Rattle.gt_types.specs.declared.types.Ty.{Ty}
use Rattle.gt_types.specs.declared.types.Ty.TheVariants as ty
use Rattle.gt_space.specs.Range.{Range}
use Rattle.gt_layout.specs.Storages.{bytes_of}
use Rattle.gt_tree.specs.Leaves.{bit_of}
use Rattle.gt_tree.specs.Scopes.{◌then◌}
use Rattle.gt_value.specs.declared.sources.Shape.{Shape}
use Rattle.gt_tree.specs.Numbers.{is_signed}
use Rattle.gt_value.specs.Reading.{place, shape, shape_of, number_in, number_from, bits_number, digit, bits_from, end_from}
use Rattle.gt_value.proofs.BitNumbers.{bits_number-zero, bits_number-suc}
use Rattle.gt_value.proofs.LeafReads.{some-bytes}
use Rattle.gt_walk.specs.declared.rows.Origin.{Origin}
use Rattle.gt_walk.specs.Rows.{has_bits, number_at}
use Rattle.gt_edges.specs.Walks.{leaf_of, leaf_at}

-- ---- the same bits, counted from two places

numbers-same : (f g : ℕ → Bool) (a b width : ℕ) → ((i : ℕ) → f (a + i) ≡ g (b + i)) → bits_number f a width ≡ bits_number g b width
numbers-same f g a b zero same = bits_number-zero f a ∙ sym (bits_number-zero g b)
numbers-same f g a b (suc n) same =
    let left : a ≡ a + 0 = omega arith in
    let right : b + 0 ≡ b = omega arith in
    let here : f a ≡ g b = ap f left ∙ same 0 ∙ ap g right in
    let next = λ (i : ℕ). let one : a + 1 + i ≡ a + (1 + i) = omega arith in let other : b + (1 + i) ≡ b + 1 + i = omega arith in ap f one ∙ same (1 + i) ∙ ap g other in
    bits_number-suc f a n
    ∙ ap (λ x. digit x + 2 * bits_number f (a + 1) n) here
    ∙ ap (λ x. digit (g b) + 2 * x) (numbers-same f g (a + 1) (b + 1) n next)
    ∙ sym (bits_number-suc g b n)

bit-same : (range : Range) (from skip at i : ℕ) → skip ≡ from + at / 8 → bits_from range skip (at % 8 + i) ≡ bits_from range from (at + i)
bit-same range from skip at i e =
    let place : skip + (at % 8 + i) / 8 ≡ from + (at + i) / 8 = omega (arith, e) in
    let bit : (at % 8 + i) % 8 ≡ (at + i) % 8 = omega arith in
    ap (λ x. bit_of x ((at % 8 + i) % 8)) (get_or-drop skip range.bytes ((at % 8 + i) / 8) 0 ∙ ap (λ j. get_or range.bytes j 0) place ∙ sym (get_or-drop from range.bytes ((at + i) / 8) 0))
    ∙ ap (bit_of (get_or (drop from range.bytes) ((at + i) / 8) 0)) bit

-- ---- the same end

le-false : (a b : ℕ) → b < a → nat_le a b ≡ false
le-false a b lt = grind (arith, lt)

same-le : (a b c d : ℕ) → (a ≤ b → c ≤ d) → (c ≤ d → a ≤ b) → nat_le a b ≡ nat_le c d
same-le a b c d to back = go (nat_le a b) (nat_le c d) refl refl
  where
    go : (x y : Bool) → nat_le a b ≡ x → nat_le c d ≡ y → nat_le a b ≡ nat_le c d
    go true true e f = e ∙ sym f
    go false false e f = e ∙ sym f
    go true false e f = let le = to (leb-true a b e) in let other = le-leb c d le in absurd (cc)
    go false true e f = let le = back (leb-true c d f) in let other = le-leb a b le in absurd (cc)

and-true : (a b c d : Bool) → a ≡ true → c ≡ true → d ≡ true → (a && b && c && d) ≡ b
and-true a true c d e f g = grind (arith, e, f, g)
and-true a false c d e f g = grind (arith, e, f, g)

-- ---- how wide a number is

bits-fit : (b c : Bool) (unit : Scalar) (width : ℕ) (s : Shape) → nat_le 1 width ≡ b → nat_le width 64 ≡ c → cond (b && c) (Some (shape (is_signed unit) width)) None ≡ Some s → (1 ≤ s.width) × (s.width ≤ 64)
bits-fit true true unit width s e f h =
    let same : shape (is_signed unit) width ≡ s = cc in
    let wide : width ≡ s.width = ap (λ x. x.width) same in
    (omega (arith, wide, leb-true 1 width e), omega (arith, wide, leb-true width 64 f))
bits-fit true false unit width s e f h = absurd (cc)
bits-fit false c unit width s e f h = absurd (cc)

shape-fits : (type : Ty) (s : Shape) → shape_of type ≡ Some s → (1 ≤ s.width) × (s.width ≤ 64)
shape-fits (ty.Num scalar) s h =
    let same : shape (is_signed scalar) (8 * bytes_of scalar) ≡ s = cc in
    let wide : 8 * bytes_of scalar ≡ s.width = ap (λ x. x.width) same in
    let fits = some-bytes scalar in
    (omega (arith, wide, fits.0), omega (arith, wide, fits.1))
shape-fits (ty.Bits unit width) s h = bits-fit (nat_le 1 width) (nat_le width 64) unit width s refl refl h
shape-fits type s h = absurd (cc)

-- ---- numbers

-- the place of a leaf, counted from the begin of a structure or from address 0, is a bit of a value
module _ (range : Range) (from begin offset at : ℕ) (same : 8 * begin + offset ≡ 8 * (range.start + from) + at) where
  abbrev skip : ℕ
  skip = begin + offset / 8 - range.start

  within : (width : ℕ) → 1 ≤ width → width ≤ 64 → has_bits range (begin + offset / 8) (offset % 8) width ≡ nat_le (at + width) (end_from range from)
  within width some few =
      let l = length-drop skip range.bytes in
      let r = length-drop from range.bytes in
      let start : range.start ≤ begin + offset / 8 = omega (arith, same) in
      and-true (nat_le range.start (begin + offset / 8)) (nat_le (offset % 8 + width) (end_from range skip)) (nat_le 1 width) (nat_le width 64) (le-leb range.start (begin + offset / 8) start) (le-leb 1 width some) (le-leb width 64 few)
      ∙ same-le (offset % 8 + width) (end_from range skip) (at + width) (end_from range from) (λ le. omega (arith, same, l, r, le, some)) (λ le. omega (arith, same, l, r, le, some))

  shaped : (origin : Origin) (type : Ty) (s : Shape) → 1 ≤ s.width → s.width ≤ 64
      → number_at range (begin + offset / 8) (leaf_of origin (place type offset) s) ≡ cond (nat_le (at + s.width) (end_from range from)) (Some (number_from s.signed s.width (bits_number (bits_from range from) at s.width))) None
  shaped origin type s some few =
      let bit : offset % 8 ≡ at % 8 = omega (arith, same) in
      let skipped : skip ≡ from + at / 8 = omega (arith, same) in
      let number = ap (λ b. bits_number (bits_from range skip) b s.width) bit ∙ numbers-same (bits_from range skip) (bits_from range from) (at % 8) at s.width (λ i. bit-same range from skip at i skipped) in
      ap (λ b. cond b (Some (number_from s.signed s.width (bits_number (bits_from range skip) (offset % 8) s.width))) None) (within s.width some few)
      ∙ ap (λ n. cond (nat_le (at + s.width) (end_from range from)) (Some (number_from s.signed s.width n)) None) number

  opened : (origin : Origin) (type : Ty) (o : Option Shape) → ((s : Shape) → o ≡ Some s → (1 ≤ s.width) × (s.width ≤ 64))
      → ((o then λ s. Some (leaf_of origin (place type offset) s)) then λ l. number_at range (begin + l.offset) l)
      ≡ (o then λ s. cond (nat_le (at + s.width) (end_from range from)) (Some (number_from s.signed s.width (bits_number (bits_from range from) at s.width))) None)
  opened origin type None fits = refl
  opened origin type (Some s) fits = let both = fits s refl in shaped origin type s both.0 both.1

  -- the number of the leaf is the number there
  pub leaf-number : (origin : Origin) (type : Ty) → (leaf_at origin (place type offset) then λ l. number_at range (begin + l.offset) l) ≡ number_in range from (place type at)
  leaf-number origin type = opened origin type (shape_of type) (λ s e. shape-fits type s e)
