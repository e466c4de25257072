-- The lines of a node, piece by piece.
use Rattle.std.proofs.Common.{◌≡◌, ℕ, zero, suc, ◌+◌, ◌<◌, ◌≤◌, ◌^◌, false, List, ◌++◌, length, map, sym, ap, ◌∙◌, arith, append_assoc, append-nil}
use Rattle.std.specs.Prelude.{◌==◌, codes}
use Rattle.std.specs.Char.{digit_char}
use Rattle.std.specs.List.{flat_map, range_with_len}
use Rattle.std.specs.Int.Digits.{digits_of}
use Rattle.std.proofs.lemmas.Bool.{cond-false}
use Rattle.std.proofs.lemmas.List.{length-append, length-map}
use Rattle.std.proofs.lemmas.Int.Digits.{length-digits_of-le}
use Rattle.gt_digits.specs.Digits.{decimal}

not_zero : (n : ℕ) → (suc n == 0) ≡ false
not_zero n = grind arith

-- a number below 2 ^ 32 has at most ten digits
pub length-decimal : (n : ℕ) → n < 2 ^ 32 → length (decimal n) ≤ 10
length-decimal zero small = omega arith
length-decimal (suc n) small =
    let digits : length (digits_of 10 (suc n)) ≤ 10 = length-digits_of-le 10 10 (suc n) (omega arith) (omega arith) in
    let same : decimal (suc n) ≡ map digit_char (digits_of 10 (suc n)) = cond-false (suc n == 0) (codes "0") (map digit_char (digits_of 10 (suc n))) (not_zero n) in
    let size : length (decimal (suc n)) ≡ length (digits_of 10 (suc n)) = ap length same ∙ length-map (digits_of 10 (suc n)) digit_char in
    omega (arith, digits, size)

-- a text, one piece after another
more : (before a b s now : List ℕ) → s ≡ before ++ a → now ≡ s ++ b → now ≡ before ++ (a ++ b)
more before a b s now e f = f ∙ ap (λ x. x ++ b) e ∙ append_assoc before a b

-- six pieces that were added one after another
pub pieces : (before a b c d e f s t u v w now : List ℕ) → s ≡ before ++ a → t ≡ s ++ b → u ≡ t ++ c → v ≡ u ++ d → w ≡ v ++ e → now ≡ w ++ f
    → now ≡ before ++ (a ++ b ++ c ++ d ++ e ++ f)
pieces before a b c d e f s t u v w now ea eb ec ed ee ef =
    more before (a ++ b ++ c ++ d ++ e) f w now
    (more before (a ++ b ++ c ++ d) e v w (more before (a ++ b ++ c) d u v (more before (a ++ b) c t u (more before a b s t ea eb) ec) ed) ee) ef

-- how much longer they made it
pub pieces_length : (before a b c d e f s t u v w now : List ℕ) → s ≡ before ++ a → t ≡ s ++ b → u ≡ t ++ c → v ≡ u ++ d → w ≡ v ++ e → now ≡ w ++ f
    → length now ≡ length before + length a + length b + length c + length d + length e + length f
pieces_length before a b c d e f s t u v w now ea eb ec ed ee ef =
    let la : length s ≡ length before + length a = ap length ea ∙ length-append before a in
    let lb : length t ≡ length s + length b = ap length eb ∙ length-append s b in
    let lc : length u ≡ length t + length c = ap length ec ∙ length-append t c in
    let ld : length v ≡ length u + length d = ap length ed ∙ length-append u d in
    let le : length w ≡ length v + length e = ap length ee ∙ length-append v e in
    let lf : length now ≡ length w + length f = ap length ef ∙ length-append w f in
    omega (arith, la, lb, lc, ld, le, lf)

-- what one number more adds
nodes_from : (f : ℕ → List ℕ) (a n j : ℕ) → a + n ≡ j → flat_map f (range_with_len a (suc n)) ≡ flat_map f (range_with_len a n) ++ f j
nodes_from f a zero j e = let same : a ≡ j = omega arith in append-nil (f a) ∙ ap f same
nodes_from f a (suc n) j e =
    let next : a + 1 + n ≡ j = omega arith in
    ap (λ x. f a ++ x) (nodes_from f (a + 1) n j next) ∙ sym (append_assoc (f a) (flat_map f (range_with_len (a + 1) n)) (f j))

-- the lines of one node more
pub nodes_more : (f : ℕ → List ℕ) (i : ℕ) → flat_map f (range_with_len 0 (i + 1)) ≡ flat_map f (range_with_len 0 i) ++ f i
nodes_more f i = let next : i + 1 ≡ suc i = omega arith in ap (λ n. flat_map f (range_with_len 0 n)) next ∙ nodes_from f 0 i i (omega arith)
