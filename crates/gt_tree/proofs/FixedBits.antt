-- What the bytes that stand for leaves say of each leaf.
use Rattle.std.proofs.Common.{◌≡◌, ℕ, zero, suc, ◌+◌, ◌-◌, ◌*◌, ◌^◌, ◌<◌, ◌≤◌, Bool, true, false, IsTrue, ◌&&◌, ◌||◌, nat_le, nat_lt, List, [], ◌∷◌, length, get_or, refl, ap, sym, ◌∙◌, arith, inl, inr}
use Rattle.std.specs.Prelude.{◌==◌, All, AllPairs, pos, negsuc}
use Rattle.std.specs.List.{list_any}
use Rattle.std.specs.Int.{bit_at}
use Rattle.std.proofs.Math.Bool.{or-false}
use Rattle.std.proofs.Math.Nat.{pow-succ'}
use Rattle.std.proofs.lemmas.Bool.{le-leb, lt-leb, lt-ltb, le-ltb, ltb-true}
use Rattle.std.proofs.lemmas.List.Elements.{All-head, All-tail}
use Rattle.std.proofs.lemmas.Nat.Bits.{bit_at-lt, same_from_bits_below}
use Rattle.gt_tree.specs.Leaves.{Leaf, bit_of, content_bits, is_set_in, AreApart}
use Rattle.gt_tree.specs.FixedLaws.{LeavesAreRead, NumbersAreFixed}

-- ---- one leaf

-- a bit of a leaf is set where it is in what the leaf holds
inside-leaf : (address : ℕ → ℕ) (l : Leaf) (i : ℕ) → i < l.width → is_set_in address (l.at + i) l ≡ bit_of (content_bits address l.width l.content) i
inside-leaf address l i h =
    let low = le-leb l.at (l.at + i) (omega arith) in
    let high = lt-ltb (l.at + i) (l.at + l.width) (omega arith) in
    let same : (l.at + i) - l.at ≡ i = omega arith in
    ap (λ b. b && nat_lt (l.at + i) (l.at + l.width) && bit_of (content_bits address l.width l.content) ((l.at + i) - l.at)) low
    ∙ ap (λ b. b && bit_of (content_bits address l.width l.content) ((l.at + i) - l.at)) high
    ∙ ap (λ n. bit_of (content_bits address l.width l.content) n) same

middle-false : (a c : Bool) → (a && false && c) ≡ false
middle-false true true = refl
middle-false true false = refl
middle-false false true = refl
middle-false false false = refl

-- no bit of a leaf is set in one that lies apart
outside-leaf : (address : ℕ → ℕ) (l m : Leaf) (i : ℕ) → i < l.width → AreApart m l → is_set_in address (l.at + i) m ≡ false
outside-leaf address l m i h (inr before) = ap (λ b. b && nat_lt (l.at + i) (m.at + m.width) && bit_of (content_bits address m.width m.content) ((l.at + i) - m.at)) (lt-leb m.at (l.at + i) (omega arith))
outside-leaf address l m i h (inl after) =
    ap (λ b. nat_le m.at (l.at + i) && b && bit_of (content_bits address m.width m.content) ((l.at + i) - m.at)) (le-ltb (l.at + i) (m.at + m.width) (omega arith))
    ∙ middle-false (nat_le m.at (l.at + i)) (bit_of (content_bits address m.width m.content) ((l.at + i) - m.at))

swapped : (l m : Leaf) → AreApart l m → AreApart m l
swapped l m (inl h) = inr h
swapped l m (inr h) = inl h

-- ---- one leaf among others

none-set : (address : ℕ → ℕ) (l : Leaf) (ls : List Leaf) (i : ℕ) → i < l.width → All (AreApart l) ls → list_any (is_set_in address (l.at + i)) ls ≡ false
none-set address l [] i h apart = refl
none-set address l (m ∷ ms) i h apart =
    let here = outside-leaf address l m i h (swapped l m (All-head (AreApart l) m ms apart)) in
    let rest = none-set address l ms i h (All-tail (AreApart l) m ms apart) in
    ap (λ b. b || list_any (is_set_in address (l.at + i)) ms) here ∙ rest

one-set : (address : ℕ → ℕ) (ls : List Leaf) → AllPairs AreApart ls → (k : ℕ) (d : Leaf) → k < length ls → (i : ℕ) → i < (get_or ls k d).width
    → list_any (is_set_in address ((get_or ls k d).at + i)) ls ≡ bit_of (content_bits address (get_or ls k d).width (get_or ls k d).content) i
one-set address [] apart k d within i h = absurd (omega arith)
one-set address (l ∷ ls) apart zero d within i h =
    let rest = none-set address l ls i h (λ k e lt. apart 0 (suc k) e (omega arith) (omega arith)) in
    ap (λ b. is_set_in address (l.at + i) l || b) rest ∙ or-false (is_set_in address (l.at + i) l) ∙ inside-leaf address l i h
one-set address (l ∷ ls) apart (suc k) d within i h =
    let m = get_or ls k d in
    let here : is_set_in address (m.at + i) l ≡ false = outside-leaf address m l i h (apart 0 (suc k) d (omega arith) within) in
    ap (λ b. b || list_any (is_set_in address (m.at + i)) ls) here ∙ one-set address ls (λ p q e lt w. apart (suc p) (suc q) e (omega arith) (omega arith)) k d (omega arith) i h

pub leaves-read : LeavesAreRead
leaves-read address from end leaves bytes placed le stand k d within i h =
    let inside = (placed.inside k d within).1 in
    stand ((get_or leaves k d).at + i) (omega (arith, inside, le, h)) ∙ one-set address leaves placed.apart k d within i h

-- ---- numbers

same_bit : (a b : ℕ) → a < 2 → b < 2 → (a == 1) ≡ (b == 1) → a ≡ b
same_bit zero zero h k e = refl
same_bit zero (suc zero) h k e = cc
same_bit zero (suc (suc b)) h k e = absurd (omega arith)
same_bit (suc zero) zero h k e = cc
same_bit (suc zero) (suc zero) h k e = refl
same_bit (suc zero) (suc (suc b)) h k e = absurd (omega arith)
same_bit (suc (suc a)) b h k e = absurd (omega arith)

-- numbers of so many bits are the same where their bits are
pub same_bits : (width a b : ℕ) → a < 2 ^ width → b < 2 ^ width → ((i : ℕ) → i < width → bit_of a i ≡ bit_of b i) → a ≡ b
same_bits width a b small other h = same_from_bits_below width a b small other (λ i lt. same_bit (bit_at a i) (bit_at b i) (bit_at-lt a i) (bit_at-lt b i) (h i lt))

half : (width : ℕ) → 1 ≤ width → 2 ^ width ≡ 2 * 2 ^ (width - 1)
half zero h = absurd (omega arith)
half (suc k) h =
    let e : suc k - 1 ≡ k = omega arith in
    pow-succ' 2 k ∙ ap (λ n. 2 * 2 ^ n) (sym e)

room-less : (n width : ℕ) → IsTrue (nat_lt n (2 ^ (width - 1))) → n < 2 ^ (width - 1)
room-less n width h = ltb-true n (2 ^ (width - 1)) h

pub numbers-fixed : NumbersAreFixed
numbers-fixed false width (pos a) (pos b) some x y bits = ap pos (same_bits width a b (ltb-true a (2 ^ width) x) (ltb-true b (2 ^ width) y) bits)
numbers-fixed false width (pos a) (negsuc b) some x y bits = absurd (cc)
numbers-fixed false width (negsuc a) b some x y bits = absurd (cc)
numbers-fixed true width (pos a) (pos b) some x y bits =
    let p = half width some in
    let u = room-less a width x in
    let v = room-less b width y in
    ap pos (same_bits width a b (omega (arith, p, u)) (omega (arith, p, v)) bits)
numbers-fixed true width (pos a) (negsuc b) some x y bits =
    let p = half width some in
    let u = room-less a width x in
    let v = room-less b width y in
    let e = same_bits width a (2 ^ width - (b + 1)) (omega (arith, p, u)) (omega (arith, p, v)) bits in
    absurd (omega (arith, p, u, v, e))
numbers-fixed true width (negsuc a) (pos b) some x y bits =
    let p = half width some in
    let u = room-less a width x in
    let v = room-less b width y in
    let e = same_bits width (2 ^ width - (a + 1)) b (omega (arith, p, u)) (omega (arith, p, v)) bits in
    absurd (omega (arith, p, u, v, e))
numbers-fixed true width (negsuc a) (negsuc b) some x y bits =
    let p = half width some in
    let u = room-less a width x in
    let v = room-less b width y in
    let e = same_bits width (2 ^ width - (a + 1)) (2 ^ width - (b + 1)) (omega (arith, p, u)) (omega (arith, p, v)) bits in
    ap negsuc (omega (arith, p, u, v, e))
