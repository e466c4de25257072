-- What a leaf holds is one number, and eight unscanned bytes are fixed by theirs.
use Rattle.std.proofs.Common.{◌≡◌, ℕ, ◌+◌, ◌*◌, ◌/◌, ◌%◌, ◌<◌, true, ℤ, List, length, get_or, sym, subst, ◌∙◌, arith, ext_get_or}
use Rattle.std.specs.Prelude.{All}
use Rattle.gt_tree.specs.Trees.{Tree, Num, Null, To, Raw, Rec, Alt, Row}
use Rattle.gt_tree.specs.Leaves.{bit_of}
use Rattle.gt_tree.specs.FixedLaws.{bit_in}
use Rattle.gt_tree.proofs.FixedBits.{same_bits, numbers-fixed}
use Rattle.gt_value.specs.declared.places.LeafContent.TheVariants as content
use Rattle.gt_value.specs.Places.{IsContentOf}

pub number-same : (tree : Tree) (n m : ℤ) → IsContentOf (content.Num n) tree → IsContentOf (content.Num m) tree → n ≡ m
number-same (Num k) n m a b = a ∙ sym b
number-same (Raw bytes) n m a b = numbers-fixed true 64 n m (omega arith) a.1 b.1 (λ i lt. a.2 i lt ∙ sym (b.2 i lt))
number-same Null n m a b = absurd a
number-same (To id) n m a b = absurd a
number-same (Rec trees) n m a b = absurd a
number-same (Alt member tree) n m a b = absurd a
number-same (Row trees) n m a b = absurd a

-- lists of eight bytes with the same bits are one list
pub bytes-same : (xs ys : List ℕ) → length xs ≡ 8 → length ys ≡ 8 → All (λ byte. byte < 256) xs → All (λ byte. byte < 256) ys → ((i : ℕ) → i < 64 → bit_in xs i ≡ bit_in ys i) → xs ≡ ys
bytes-same xs ys long other small less bits = ext_get_or 0 xs ys (long ∙ sym other) (λ k lt. same_bits 8 (get_or xs k 0) (get_or ys k 0) (small k 0 lt) (less k 0 (omega (arith, long, other, lt))) (λ j under. at k j (omega (arith, long, lt)) under))
  where
    at : (k j : ℕ) → k < 8 → j < 8 → bit_of (get_or xs k 0) j ≡ bit_of (get_or ys k 0) j
    at k j lt under =
        let i : ℕ = 8 * k + j in
        let byte : i / 8 ≡ k = omega arith in
        let bit : i % 8 ≡ j = omega arith in
        let here = bits i (omega arith) in
        subst (λ q. bit_of (get_or xs q 0) j ≡ bit_of (get_or ys q 0) j) byte (subst (λ r. bit_of (get_or xs (i / 8) 0) r ≡ bit_of (get_or ys (i / 8) 0) r) bit here)
